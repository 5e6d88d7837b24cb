-- Which bytes are a name, and the names that hardening gives.
use Rattle.std.specs.Prelude.{ℕ, ◌+◌, ◌-◌, ◌==◌, Bool, false, ◌&&◌, not, nat_lt, List, [], ◌∷◌, ◌++◌, length, slice_get}
use Rattle.std.specs.List.{list_all}
use Rattle.std.specs.Option.{option_map_or}
use Rattle.std.specs.Fmt.{decimal}
use Rattle.tmr_base.specs.declared.copies.CopyNo.{CopyNo}
use Rattle.tmr_base.specs.Copies.{copy_number}

-- a byte above the blank that is neither the delete character nor `#`
abbrev pub is_name_byte : ℕ → Bool
is_name_byte b = nat_lt 32 b && not (b == 127) && not (b == 35)

-- one or more such bytes, of which the last is no backslash
abbrev pub is_name : List ℕ → Bool
is_name bytes = option_map_or (λ b. not (b == 92)) (slice_get bytes (length bytes - 1)) false && list_all is_name_byte bytes

-- copy c of net x is `x~0`, `x~1` or `x~2`
abbrev pub copy_text : List ℕ → CopyNo → List ℕ
copy_text x c = x ++ 126 ∷ (48 + copy_number c) ∷ []

-- the names of the voters of net x for partition p begin with `x~p`, p in decimal
abbrev pub stem_text : List ℕ → ℕ → List ℕ
stem_text x p = x ++ 126 ∷ decimal p

-- the voter of net x for partition p is `x~p~a`, `x~p~b` or `x~p~c`, p in decimal
abbrev pub voter_text : List ℕ → ℕ → CopyNo → List ℕ
voter_text x p c = x ++ 126 ∷ (decimal p ++ 126 ∷ (97 + copy_number c) ∷ [])

-- the clock x becomes `x~k`
abbrev pub clock_text : List ℕ → List ℕ
clock_text x = x ++ 126 ∷ 107 ∷ []
