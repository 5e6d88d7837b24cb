-- A text that is made step by step.
use Rattle.std.proofs.Common.{◌≡◌, ℕ, suc, ◌+◌, ◌≤◌, List, [], ◌∷◌, ◌++◌, length, slice_get, Some, refl, sym, ap, ◌∙◌, append_assoc, arith}
use Rattle.std.specs.List.{flat_map}
use Rattle.text_pieces.specs.Steps.{from_step}
use Rattle.text_pieces.proofs.Stepping.{step_first}

-- a step for each entry of a list
pub steps_over : {A : Type 0} (f : ℕ → List ℕ) (h : A → List ℕ) (xs : List A) (count start behind : ℕ) → start + length xs ≡ behind → behind ≤ count
    → ((i : ℕ) (x : A) → slice_get xs i ≡ Some x → f (start + i) ≡ h x) → from_step f count start ≡ flat_map h xs ++ from_step f count behind
steps_over f h [] count start behind e fits each = ap (from_step f count) (omega (arith, e))
steps_over f h (x ∷ xs) count start behind e fits each =
    let here : start + 0 ≡ start = omega arith in
    step_first f count start (omega (arith, e, fits))
    ∙ (both (sym (ap f here) ∙ each 0 x refl) (steps_over f h xs count (start + 1) behind (omega (arith, e)) fits (λ i y at. ap f (later i) ∙ each (suc i) y at))
    ∙ sym (append_assoc (h x) (flat_map h xs) (from_step f count behind)))
  where
    both : {a b c d : List ℕ} → a ≡ b → c ≡ d → a ++ c ≡ b ++ d
    both e f = cc

    later : (i : ℕ) → start + 1 + i ≡ start + suc i
    later i = omega arith
