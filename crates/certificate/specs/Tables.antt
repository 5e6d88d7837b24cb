-- What the tables that reading fills say, with what is left of the text. Private functions alone cite it.
use Rattle.std.specs.Prelude.{ℕ, List, map}
use Rattle.certificate.specs.declared.role.Role.{Role}
use Rattle.certificate.specs.declared.reading.NodeTable.{NodeTable}
use Rattle.certificate.specs.Threes.{three_of, three_ids}
use Rattle.certificate.specs.Lines.{Rest}
use Rattle.certificate.specs.Folding.{Depths, Nodes, Roles}

-- the depths of the first partitions
abbrev pub depths_read : List ℕ → Rest → Depths
depths_read depth rest = record { depth = depth; rest = rest }

-- the first original nodes, and the roles that their lines give
abbrev pub nodes_read : NodeTable → Rest → Nodes
nodes_read t rest = record {
  part = t.part.items;
  copies = map three_ids t.copies.items;
  labels = map three_of t.labels.items;
  roles = t.roles.items;
  rest = rest;
}

-- the roles of the first hardened nodes
abbrev pub roles_read : List Role → Rest → Roles
roles_read roles rest = record { roles = roles; rest = rest }
