-- What is told of a hardened design.
use Rattle.std.specs.Prelude.{ℕ, Bool, true, false, List, [], ◌∷◌, length, codes, count_by}
use Rattle.flat_net.specs.Net.{Net}
use Rattle.certificate.specs.Cert.{PlainCert}
use Rattle.partitioner.specs.Cost.{cost}
use Rattle.partitioner.specs.Sizes.{plain_parts}
use Rattle.triplicate.specs.Form.{parts_of}
use Rattle.triplicate.specs.Result.{is_voter_role}
use Rattle.tmr_texts.specs.declared.form_text.FormNumbers.{FormNumbers}
use Rattle.tmr_texts.specs.Texts.{joined, greatest, counted_text, open_word}

-- the numbers that are told of: nodes before and after, partitions, their cost and that of the plain cut, whether no single move lowers
-- the cost, voters, and the greatest certified depth
abbrev pub form_numbers : Net → ℕ → Net → PlainCert → Bool → FormNumbers
form_numbers n size h k minimal = record {
  nodes = length n.nodes;
  hardened_nodes = length h.nodes;
  partitions = length k.depth;
  cost = cost n (parts_of k);
  plain = cost n (plain_parts n size);
  minimal = minimal;
  voters = count_by is_voter_role k.roles;
  depth = greatest k.depth;
}

abbrev pub yes_or_no : Bool → List ℕ
yes_or_no true = codes "yes"
yes_or_no false = codes "no"

unfoldable pub nodes_line : FormNumbers → List ℕ
nodes_line f = joined (counted_text (codes "nodes ") f.nodes ∷ counted_text (codes " to ") f.hardened_nodes ∷ codes "\n" ∷ [])

unfoldable pub partitions_line : FormNumbers → List ℕ
partitions_line f =
    joined (counted_text (codes "partitions ") f.partitions ∷ counted_text (codes " cost ") f.cost ∷ counted_text (codes " plain ") f.plain
    ∷ codes " minimal " ∷ yes_or_no f.minimal ∷ codes "\n" ∷ [])

-- four lines: nodes, partitions, voters, depth
unfoldable pub form_lines : FormNumbers → List ℕ
form_lines f =
    joined (nodes_line f ∷ partitions_line f ∷ counted_text (codes "voters ") f.voters ∷ counted_text (codes "\ndepth ") f.depth ∷ codes "\n" ∷ [])

-- these, and a line on the initial values that the original leaves open
unfoldable pub hardened_lines : FormNumbers → ℕ → ℕ → List ℕ
hardened_lines f version count = joined (form_lines f ∷ counted_text (open_word version) count ∷ codes "\n" ∷ [])
