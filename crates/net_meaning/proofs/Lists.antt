-- Rows, spread rows and pins.
use Rattle.std.proofs.Common.{◌≡◌, ℕ, zero, suc, ◌+◌, ◌*◌, ◌<◌, Bool, List, [], ◌∷◌, length, map, refl, arith, slice_index}
use Rattle.tmr_base.specs.declared.copies.CopyNo.{CopyNo}
use Rattle.tmr_base.specs.declared.copies.CopyNo.TheVariants.{First, Second, Third}
use Rattle.tmr_base.specs.Copies.{copy_number}
use Rattle.net_meaning.specs.Meaning.{bit, row_at, spread, spread_row}

-- two lists of pins whose values agree
pub map_agree : (f g : ℕ → Bool) (hs xs : List ℕ) → length hs ≡ length xs → ((j : ℕ) → j < length xs → f (slice_index hs j) ≡ g (slice_index xs j)) → map f hs ≡ map g xs
map_agree f g [] [] l e = refl
map_agree f g [] (x ∷ xs) l e = absurd (omega arith)
map_agree f g (h ∷ hs) [] l e = absurd (omega arith)
map_agree f g (h ∷ hs) (x ∷ xs) l e =
    let here : f h ≡ g x = e 0 (omega arith) in
    let rest : map f hs ≡ map g xs = map_agree f g hs xs (omega arith) (λ j m. e (suc j) (omega arith)) in
    cc

-- input 3 * i + c of a spread row is input i
pub bit-spread_row : (row : List Bool) (i : ℕ) (c : CopyNo) → bit (spread_row row) (3 * i + copy_number c) ≡ bit row i
bit-spread_row [] i c = refl
bit-spread_row (b ∷ row) zero First = refl
bit-spread_row (b ∷ row) zero Second = refl
bit-spread_row (b ∷ row) zero Third = refl
bit-spread_row (b ∷ row) (suc i) c =
    let e : 3 * suc i + copy_number c ≡ suc (suc (suc (3 * i + copy_number c))) = omega arith in
    rw e (bit-spread_row row i c)

pub row_at-spread : (ins : List (List Bool)) (t : ℕ) → row_at (spread ins) t ≡ spread_row (row_at ins t)
row_at-spread [] t = refl
row_at-spread (row ∷ ins) zero = refl
row_at-spread (row ∷ ins) (suc t) = row_at-spread ins t
