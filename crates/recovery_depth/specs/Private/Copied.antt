-- The copies of a hardened design as vertices of a graph.
use Rattle.std.specs.Prelude.{ℕ, ◌-◌, Bool, ◌&&◌, List, [], length, map, if◌then◌else◌}
use Rattle.std.specs.List.{range_with_len}
use Rattle.flat_net.specs.Net.{Net, pins_at}
use Rattle.certificate.specs.Cert.{PlainCert, role_of}
use Rattle.recovery_depth.specs.Depths.{is_some_register}
use Rattle.recovery_depth.specs.Hardened.{role_at, node_at, is_copy}

-- hardened node g is a register, and a copy
abbrev pub is_register_copy : Net → PlainCert → ℕ → Bool
is_register_copy h k g = is_copy (role_at h k g) && is_some_register (node_at h g)

-- the number of hardened net f among the nodes, where it is a copy; else the number past all nodes
abbrev pub copied : Net → PlainCert → ℕ → ℕ
copied h k f = if is_copy (role_of k f) then f - length h.inputs else length h.nodes

-- the copies that hardened node g reads, where it is a copy
abbrev pub copied_row : Net → PlainCert → ℕ → List ℕ
copied_row h k g = if is_copy (role_at h k g) then map (copied h k) (pins_at (node_at h g)) else []

abbrev pub copied_rows : Net → PlainCert → List (List ℕ)
copied_rows h k = map (copied_row h k) (range_with_len 0 (length h.nodes))
