-- Start values and marks of the original design, as the hardened one has them.
use Rattle.std.specs.Prelude.{Bool, false, nat_eq, List, [], map, if◌then◌else◌}
use Rattle.flat_net.specs.Free.{node_bit}
use Rattle.certificate.specs.declared.role.Role.{Role}
use Rattle.certificate.specs.declared.role.Role.TheVariants.{Copy, Voter}
use Rattle.certificate.specs.Cert.{PlainCert}

-- a copy starts with the value of its original, and a voter with false
abbrev pub role_start : PlainCert → List Bool → Role → Bool
role_start k w (Copy x c) = node_bit k.original_inputs w x.0
role_start k w (Voter x p c) = false

-- the start values of the hardened nodes
abbrev pub spread_start : PlainCert → List Bool → List Bool
spread_start k w = map (role_start k w) k.roles

-- the marks that count: in version 1 all are taken as false
abbrev pub counted : PlainCert → List Bool → List Bool
counted k free = if nat_eq k.version 1 then [] else free
