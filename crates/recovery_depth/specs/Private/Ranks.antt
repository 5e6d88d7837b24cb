-- Which of two copies is taken first.
use Rattle.std.specs.Prelude.{ℕ, nat_lt, ◌==◌, Bool, List, map, length, Option, Some, None, slice_index_or, if◌then◌else◌}
use Rattle.std.specs.List.{range_with_len}
use Rattle.tmr_base.specs.Copies.{copy_number}
use Rattle.flat_net.specs.Net.{Net}
use Rattle.certificate.specs.declared.role.Role.{Role}
use Rattle.certificate.specs.declared.role.Role.TheVariants.{Copy, Voter}
use Rattle.certificate.specs.Cert.{PlainCert}
use Rattle.recovery_depth.specs.Hardened.{role_at}

-- a lower copy is taken first, and of one copy the lower original
abbrev pub ranks_before : ℕ × ℕ → ℕ × ℕ → Bool
ranks_before a b = if a.0 == b.0 then nat_lt a.1 b.1 else nat_lt a.0 b.0

-- the rank of node x; what is no node is taken after each copy
abbrev pub rank_in : List (ℕ × ℕ) → ℕ → ℕ × ℕ
rank_in ranks x = slice_index_or ranks x (3, 0)

-- node x is taken before node y
abbrev pub is_before : List (ℕ × ℕ) → ℕ → ℕ → Bool
is_before ranks x y = ranks_before (rank_in ranks x) (rank_in ranks y)

-- which copy a node is, and of which original; a voter is taken after each copy too
abbrev pub rank_of : Option Role → ℕ × ℕ
rank_of None = (3, 0)
rank_of (Some (Copy x c)) = (copy_number c, x.0)
rank_of (Some (Voter x p c)) = (3, 0)

abbrev pub rank_at : Net → PlainCert → ℕ → ℕ × ℕ
rank_at h k g = rank_of (role_at h k g)

abbrev pub ranks_of : Net → PlainCert → List (ℕ × ℕ)
ranks_of h k = map (rank_at h k) (range_with_len 0 (length h.nodes))
