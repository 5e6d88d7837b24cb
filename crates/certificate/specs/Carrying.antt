-- The code's own way of reading a text line by line, from any line on: specs/Reader says by it what a reader goes on to, and no
-- clause of a public function has to be believed by it.
use Rattle.std.specs.Prelude.{◌≡◌, ℕ, ◌+◌, ◌-◌, ◌==◌, List, [], ◌∷◌, ◌++◌, length, Result, Ok}
use Rattle.flat_net.specs.Net.{Net}
use Rattle.certificate.specs.declared.fault.CertFault.{CertFault}
use Rattle.certificate.specs.declared.fault.CertFault.TheVariants.{Line}
use Rattle.certificate.specs.declared.pieces.LineInHand.{LineInHand}
use Rattle.certificate.specs.declared.progress.Stage.{Stage}
use Rattle.certificate.specs.declared.progress.Stage.TheVariants.{Begun, Versioned, Counted, Ended}
use Rattle.certificate.specs.declared.progress.Progress.{Progress}
use Rattle.certificate.specs.declared.reading.NodeTable.{NodeTable}
use Rattle.certificate.specs.declared.role.Role.{Role}
use Rattle.certificate.specs.Cert.{PlainCert}
use Rattle.certificate.specs.Gives.{Fails}
use Rattle.certificate.specs.Lines.{◌>>=◌, hold, Rest, next_line}
use Rattle.certificate.specs.Tables.{depths_read, nodes_read, roles_read}
use Rattle.certificate.specs.Folding.{Nodes, repeat, first_line, parts_line, last_line, part_step, node_step, voter_step, read_part, read_node, read_voter, give_copies}

-- ---- one line

-- the depths, with that of one more partition
unfoldable pub part_taken : List ℕ → List ℕ → ℕ → Result (List ℕ) CertFault
part_taken depth text line = do
  d ← read_part (length depth) text line
  Ok (depth ++ d ∷ [])

-- the nodes, with one more
unfoldable pub node_taken : Net → Net → ℕ → Nodes → List ℕ → ℕ → Result Nodes CertFault
node_taken n h parts s text line = do
  node ← read_node n h (length n.inputs + length s.part) parts text line
  roles ← give_copies (length h.inputs) (length n.inputs + length s.part) node.copies line s.roles
  Ok (record {
    part = s.part ++ node.part ∷ [];
    copies = s.copies ++ node.copies ∷ [];
    labels = s.labels ++ node.labels ∷ [];
    roles = roles;
    rest = s.rest;
  })

-- the roles, with one more voter's
unfoldable pub voter_taken : ℕ → Net → Net → ℕ → List Role → List ℕ → ℕ → Result (List Role) CertFault
voter_taken version n h parts roles text line = do
  role ← read_voter version n h (length h.inputs + length roles) parts text line
  Ok (roles ++ role ∷ [])

-- ---- all lines that are left

abbrev pub made : ℕ → Net → Net → List ℕ → Nodes → List Role → PlainCert
made version n h depth nodes roles = record {
  version = version;
  original_inputs = length n.inputs;
  hardened_inputs = length h.inputs;
  depth = depth;
  part = nodes.part;
  copies = nodes.copies;
  labels = nodes.labels;
  roles = roles;
}

-- once all nodes are read, and the roles of the first hardened nodes
unfoldable pub carry_roles : ℕ → Net → Net → ℕ → List ℕ → List Role → Nodes → Result PlainCert CertFault
carry_roles version n h parts depth roles nodes = do
  voters ← repeat (length h.nodes - length roles) (voter_step version n h parts nodes.roles) (roles_read roles nodes.rest)
  end ← last_line voters.rest
  Ok (made version n h depth nodes voters.roles)

-- once all depths are read, and the first nodes
unfoldable pub carry_nodes : ℕ → Net → Net → ℕ → List ℕ → List Role → Nodes → Result PlainCert CertFault
carry_nodes version n h parts depth roles nodes = do
  all ← repeat (length n.nodes - length nodes.part) (node_step n h parts) nodes
  carry_roles version n h parts depth roles all

-- once the number of partitions is read, and the first depths
unfoldable pub carry_parts : ℕ → Net → Net → ℕ → List ℕ → NodeTable → List Role → Rest → Result PlainCert CertFault
carry_parts version n h parts depth nodes roles r = do
  depths ← repeat (parts - length depth) part_step (depths_read depth r)
  carry_nodes version n h parts depths.depth roles (nodes_read nodes depths.rest)

-- once the version is read
unfoldable pub carry_count : ℕ → Net → Net → List ℕ → NodeTable → List Role → Rest → Result PlainCert CertFault
carry_count version n h depth nodes roles r = do
  parts ← parts_line r
  carry_parts version n h parts.0 depth nodes roles parts.1

-- from the first line on
unfoldable pub carry_all : Net → Net → List ℕ → NodeTable → List Role → Rest → Result PlainCert CertFault
carry_all n h depth nodes roles r = do
  start ← first_line r
  carry_count start.0 n h depth nodes roles start.1

-- once `end` is read: nothing stands after it
unfoldable pub carry_end : ℕ → Net → Net → List ℕ → NodeTable → List Role → Rest → Result PlainCert CertFault
carry_end version n h depth nodes roles r = do
  _ ← hold (length r.bytes == 0) (Line r.line)
  Ok (made version n h depth (nodes_read nodes r) roles)

-- what the lines that are left give, after those of which this is kept
abbrev pub carry_from : Net → Net → Stage → List ℕ → NodeTable → List Role → Rest → Result PlainCert CertFault
carry_from n h Begun depth nodes roles r = carry_all n h depth nodes roles r
carry_from n h (Versioned version) depth nodes roles r = carry_count version n h depth nodes roles r
carry_from n h (Counted version parts) depth nodes roles r = carry_parts version n h parts depth nodes roles r
carry_from n h (Ended version) depth nodes roles r = carry_end version n h depth nodes roles r

abbrev pub carry : Net → Net → Progress → Rest → Result PlainCert CertFault
carry n h p r = carry_from n h p.stage p.depth.items p.nodes p.roles.items r

-- ---- what a line does

-- behind this line reading goes on so, as it went on so at it
abbrev pub Passes : (Rest → Result PlainCert CertFault) → (Rest → Result PlainCert CertFault) → List ℕ → ℕ → Type 0
Passes old new text line = (r after : Rest) → next_line r ≡ Ok (text, after) → r.line ≡ line → old r ≡ new after

-- unless memory ran out, the fault is that of every text that begins with this line
abbrev pub Refuses : (Rest → Result PlainCert CertFault) → CertFault → List ℕ → ℕ → Type 0
Refuses old fault text line = (r after : Rest) → next_line r ≡ Ok (text, after) → r.line ≡ line → Fails fault (old r)

-- ---- what a reader goes on to

-- with these bytes behind the part of a line that it has in hand
abbrev pub to_come : Net → Net → LineInHand → Progress → List ℕ → Result PlainCert CertFault
to_come n h l p more = carry n h p (record { line = l.number; bytes = l.part.items ++ more })
