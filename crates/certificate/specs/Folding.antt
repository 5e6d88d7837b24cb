-- The code's own way of reading, which no public clause cites: specs/Reading says what a text gives, and proofs/Same that this gives
-- the same. It takes the lines one by one, up to the first that is not the expected one. Within a line a wrong form comes first,
-- then an unknown net, then the order, then the partition, then a doubled copy: the steps of each definition stand in this order.
use Rattle.std.specs.Prelude.{ℕ, zero, suc, ◌+◌, ◌-◌, ◌==◌, nat_lt, nat_eq, List, [], ◌∷◌, ◌++◌, length, replicate, codes, Option, Some, None, is_none, Result, Ok, if◌then◌else◌, slice_index_or, set}
use Rattle.std.specs.Str.{bytes_eq}
use Rattle.tmr_base.specs.declared.copies.CopyNo.{CopyNo}
use Rattle.tmr_base.specs.declared.copies.CopyNo.TheVariants.{First, Second, Third}
use Rattle.tmr_base.specs.Copies.{Three}
use Rattle.flat_net.specs.Net.{Net, net_named}
use Rattle.certificate.specs.declared.fault.CertFault.{CertFault}
use Rattle.certificate.specs.declared.fault.CertFault.TheVariants.{Line, UnknownNet, Order, Range, Doubled}
use Rattle.certificate.specs.declared.role.Role.{Role}
use Rattle.certificate.specs.declared.role.Role.TheVariants.{Copy, Voter}
use Rattle.certificate.specs.Cert.{PlainCert}
pub use Rattle.certificate.specs.Words.{version_named, node_or_none, copy_named}
use Rattle.certificate.specs.Lines.{◌>>=◌, want, hold, Rest, next_line, word, form_words, number_at}

-- as many steps, up to the first fault
unfoldable pub repeat : {S : Type 0} → ℕ → (S → Result S CertFault) → S → Result S CertFault
repeat zero step s = Ok s
repeat (suc n) step s = step s >>= repeat n step

-- the version, from the first line
unfoldable pub first_line : Rest → Result (ℕ × Rest) CertFault
first_line r = do
  line ← next_line r
  version ← want (version_named line.0) (Line r.line)
  Ok (version, line.1)

-- `end`, and nothing after it
unfoldable pub last_line : Rest → Result Rest CertFault
last_line r = do
  line ← next_line r
  _ ← hold (bytes_eq line.0 (codes "end")) (Line r.line)
  _ ← hold (length line.1.bytes == 0) (Line line.1.line)
  Ok line.1

-- `parts K`: how many partitions there are
unfoldable pub read_parts : List ℕ → ℕ → Result ℕ CertFault
read_parts text line = do
  words ← form_words text 2 (codes "parts") line
  number_at (word words 1) line

-- `part P depth D`: the depth of partition p
unfoldable pub read_part : ℕ → List ℕ → ℕ → Result ℕ CertFault
read_part p text line = do
  words ← form_words text 4 (codes "part") line
  _ ← hold (bytes_eq (word words 2) (codes "depth")) (Line line)
  q ← number_at (word words 1) line
  depth ← number_at (word words 3) line
  _ ← hold (q == p) (Line line)
  Ok depth

-- the number of the node with this name
unfoldable pub known : Net → List ℕ → ℕ → Result ℕ CertFault
known n name line = want (node_or_none (length n.inputs) (net_named n name)) (UnknownNet line)

-- the number of the net with this name, of which in version 1 a voter may be only if it is a node
unfoldable pub voted : ℕ → Net → List ℕ → ℕ → Result ℕ CertFault
voted version n name line = if nat_eq version 1 then known n name line else want (net_named n name) (UnknownNet line)

unfoldable pub known_three : Net → List ℕ → List ℕ → List ℕ → ℕ → Result Three CertFault
known_three h a b c line = do
  first ← known h a line
  second ← known h b line
  third ← known h c line
  Ok (record { first = first; second = second; third = third })

unfoldable pub three_numbers : List ℕ → List ℕ → List ℕ → ℕ → Result Three CertFault
three_numbers a b c line = do
  first ← number_at a line
  second ← number_at b line
  third ← number_at c line
  Ok (record { first = first; second = second; third = third })

-- the partition and the labels of a node's line
unfoldable pub node_numbers : List (List ℕ) → ℕ → Result (ℕ × Three) CertFault
node_numbers words line = do
  p ← number_at (word words 2) line
  labels ← three_numbers (word words 6) (word words 7) (word words 8) line
  Ok (p, labels)

-- what a node's line says
pub record NodeLine : Type 0 where
  pub part : ℕ
  pub copies : Three
  pub labels : Three

-- `node X P H0 H1 H2 E0 E1 E2`, where original node x is due and there are so many partitions
unfoldable pub read_node : Net → Net → ℕ → ℕ → List ℕ → ℕ → Result NodeLine CertFault
read_node n h x parts text line = do
  words ← form_words text 9 (codes "node") line
  numbers ← node_numbers words line
  named ← known n (word words 1) line
  copies ← known_three h (word words 3) (word words 4) (word words 5) line
  _ ← hold (named == x) (Order line)
  _ ← hold (nat_lt numbers.0 parts) (Range line)
  Ok (record { part = numbers.0; copies = copies; labels = numbers.1 })

-- hardened net g gets this role, if it has none yet
unfoldable pub give : ℕ → ℕ → Role → ℕ → List (Option Role) → Result (List (Option Role)) CertFault
give inputs g role line roles = do
  _ ← hold (is_none (slice_index_or roles (g - inputs) None)) (Doubled line)
  Ok (set roles (g - inputs) (Some role))

-- the three copies of x get their roles
unfoldable pub give_copies : ℕ → ℕ → Three → ℕ → List (Option Role) → Result (List (Option Role)) CertFault
give_copies inputs x copies line roles = do
  one ← give inputs copies.first (Copy (record { 0 = x }) First) line roles
  two ← give inputs copies.second (Copy (record { 0 = x }) Second) line one
  give inputs copies.third (Copy (record { 0 = x }) Third) line two

-- what was read of the parts' lines, and what is left
pub record Depths : Type 0 where
  pub depth : List ℕ
  pub rest : Rest

-- one partition's line more
unfoldable pub part_step : Depths → Result Depths CertFault
part_step s = do
  line ← next_line s.rest
  depth ← read_part (length s.depth) line.0 s.rest.line
  Ok (record { depth = s.depth ++ depth ∷ []; rest = line.1 })

-- what was read of the nodes' lines, the roles that they give, and what is left
pub record Nodes : Type 0 where
  pub part : List ℕ
  pub copies : List Three
  pub labels : List Three
  pub roles : List (Option Role)
  pub rest : Rest

-- one original node's line more
unfoldable pub node_step : Net → Net → ℕ → Nodes → Result Nodes CertFault
node_step n h parts s = do
  line ← next_line s.rest
  node ← read_node n h (length n.inputs + length s.part) parts line.0 s.rest.line
  roles ← give_copies (length h.inputs) (length n.inputs + length s.part) node.copies s.rest.line s.roles
  Ok (record {
    part = s.part ++ node.part ∷ [];
    copies = s.copies ++ node.copies ∷ [];
    labels = s.labels ++ node.labels ∷ [];
    roles = roles;
    rest = line.1;
  })

-- the partition and the copy of a voter's line
unfoldable pub voter_numbers : List (List ℕ) → ℕ → Result (ℕ × CopyNo) CertFault
voter_numbers words line = do
  p ← number_at (word words 3) line
  c ← want (copy_named (word words 4)) (Line line)
  Ok (p, c)

-- `voter H X P C`, where hardened net g is due
unfoldable pub read_voter : ℕ → Net → Net → ℕ → ℕ → List ℕ → ℕ → Result Role CertFault
read_voter version n h g parts text line = do
  words ← form_words text 5 (codes "voter") line
  numbers ← voter_numbers words line
  named ← known h (word words 1) line
  x ← voted version n (word words 2) line
  _ ← hold (named == g) (Order line)
  _ ← hold (nat_lt numbers.0 parts) (Range line)
  Ok (Voter (record { 0 = x }) (record { 0 = numbers.0 }) numbers.1)

-- the roles of the hardened nodes so far, and what is left
pub record Roles : Type 0 where
  pub roles : List Role
  pub rest : Rest

-- a copy has its role from its node's line, and any other hardened node has a voter's line
abbrev pub role_step : ℕ → Net → Net → ℕ → Option Role → Roles → Result Roles CertFault
role_step version n h parts (Some role) s = Ok (record { roles = s.roles ++ role ∷ []; rest = s.rest })
role_step version n h parts None s = do
  line ← next_line s.rest
  role ← read_voter version n h (length h.inputs + length s.roles) parts line.0 s.rest.line
  Ok (record { roles = s.roles ++ role ∷ []; rest = line.1 })

-- one hardened node more
unfoldable pub voter_step : ℕ → Net → Net → ℕ → List (Option Role) → Roles → Result Roles CertFault
voter_step version n h parts given s = role_step version n h parts (slice_index_or given (length s.roles) None) s

-- the line that says how many partitions there are
unfoldable pub parts_line : Rest → Result (ℕ × Rest) CertFault
parts_line r = do
  line ← next_line r
  count ← read_parts line.0 r.line
  Ok (count, line.1)

-- the certificate that the text gives for the designs n and h
unfoldable pub fold_of_text : Net → Net → List ℕ → Result PlainCert CertFault
fold_of_text n h bytes = do
  start ← first_line (record { line = 1; bytes = bytes })
  parts ← parts_line start.1
  depths ← repeat parts.0 part_step (record { depth = []; rest = parts.1 })
  nodes ← repeat (length n.nodes) (node_step n h parts.0)
      (record { part = []; copies = []; labels = []; roles = replicate (length h.nodes) None; rest = depths.rest })
  voters ← repeat (length h.nodes) (voter_step start.0 n h parts.0 nodes.roles) (record { roles = []; rest = nodes.rest })
  end ← last_line voters.rest
  Ok (record {
    version = start.0;
    original_inputs = length n.inputs;
    hardened_inputs = length h.inputs;
    depth = depths.depth;
    part = nodes.part;
    copies = nodes.copies;
    labels = nodes.labels;
    roles = voters.roles;
  })
