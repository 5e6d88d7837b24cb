-- The report on a hardened design: what it has, what its partitions cost, and how long upsets last there.
use Rattle.std.specs.Prelude.{◌≡◌, ℕ, ◌+◌, ◌*◌, ◌==◌, List, [], ◌∷◌, ◌++◌, map, length, count_by, codes, if◌then◌else◌}
use Rattle.std.specs.List.{flat_map}
use Rattle.std.specs.Fmt.{decimal}
use Rattle.flat_net.specs.Net.{Net, register_count, name_of}
use Rattle.flat_net.specs.Nodes.{number_of}
use Rattle.certificate.specs.Cert.{PlainCert, depth_of}
use Rattle.certificate.specs.Text.{line_text}
use Rattle.feedback_cut.specs.Components.{PlainGroups, AreComponents}
use Rattle.recovery_depth.specs.declared.depth_and_chain.Deep.{Deep}
use Rattle.recovery_depth.specs.Depths.{is_register_at}
use Rattle.recovery_depth.specs.Least.{AreDeep, AreLeast, AreAdmitted}
use Rattle.partitioner.specs.Cost.{cost}
use Rattle.reports.specs.Counts.{partitions, is_border_voter, is_feedback_voter, is_input_voter, count_in, any_node, loops_in}

-- in version 2 inputs have voters too
abbrev pub input_words : PlainCert → List (List ℕ)
input_words k = if k.version == 1 then [] else codes "inputs" ∷ decimal (count_by (is_input_voter k) k.roles) ∷ []

-- `voters border B feedback F`, and in version 2 ` inputs I`
abbrev pub voters_line : PlainCert → List (List ℕ)
voters_line k =
    codes "voters" ∷
    codes "border" ∷ decimal (count_by (is_border_voter k) k.roles) ∷
    codes "feedback" ∷ decimal (count_by (is_feedback_voter k) k.roles) ∷
    input_words k

-- the names of a chain's registers
abbrev pub chain_words : Net → Deep → List (List ℕ)
chain_words n d = map (name_of n) (map number_of d.chain.items)

-- `P nodes A registers B loops G depth D least L chain`
abbrev pub part_words : Net → PlainCert → PlainGroups → ℕ → Deep → List (List ℕ)
part_words n k g p d =
    decimal p ∷
    codes "nodes" ∷ decimal (count_in k any_node p) ∷
    codes "registers" ∷ decimal (count_in k (is_register_at n) p) ∷
    codes "loops" ∷ decimal (loops_in k g p) ∷
    codes "depth" ∷ decimal (depth_of k p) ∷
    codes "least" ∷ decimal d.depth ∷
    codes "chain" ∷ []

-- `part P nodes A registers B loops G depth D least L chain NAME ..`
abbrev pub part_line : Net → PlainCert → PlainGroups → ℕ → Deep → List (List ℕ)
part_line n k g p d = codes "part" ∷ (part_words n k g p d ++ chain_words n d)

-- one line for each partition, from p on
abbrev pub part_lines : Net → PlainCert → PlainGroups → ℕ → List Deep → List (List (List ℕ))
part_lines n k g p [] = []
part_lines n k g p (d ∷ ds) = part_line n k g p d ∷ part_lines n k g (p + 1) ds

-- the first five lines
abbrev pub head_lines : Net → PlainCert → List (List (List ℕ))
head_lines n k =
    (codes "nodes" ∷ decimal (length n.nodes) ∷ []) ∷
    (codes "registers" ∷ decimal (register_count n) ∷ []) ∷
    (codes "copies" ∷ decimal (3 * length n.nodes) ∷ []) ∷
    voters_line k ∷
    (codes "partitions" ∷ decimal (length k.depth) ∷ codes "cost" ∷ decimal (cost n (partitions k)) ∷ []) ∷ []

-- the report's text, with the least depth and a chain of each partition
abbrev pub report_text : Net → PlainCert → PlainGroups → List Deep → List ℕ
report_text n k g deeps = flat_map line_text (head_lines n k ++ part_lines n k g 0 deeps)

-- the text of a report on a hardened design: the least depths and chains are those of one list that the rules give, and the
-- loops are counted by components
pub record IsReport (n h : Net) (k : PlainCert) (text : List ℕ) : Type 0 where
  pub deeps : List Deep
  pub groups : PlainGroups
  pub long : length deeps ≡ length k.depth
  pub deep : AreDeep h k deeps
  pub lowest : AreLeast h k deeps
  pub admitted : AreAdmitted h k deeps
  pub components : AreComponents n (partitions k) groups
  pub text_is : text ≡ report_text n k groups deeps
