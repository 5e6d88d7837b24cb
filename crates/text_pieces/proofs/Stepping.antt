-- A text that is made step by step.
use Rattle.std.proofs.Common.{◌≡◌, ℕ, suc, ◌+◌, ◌-◌, ◌<◌, ◌≤◌, List, [], ◌++◌, sym, ap, ◌∙◌, append_assoc, arith}
use Rattle.std.specs.List.{flat_map, range_with_len}
use Rattle.text_pieces.specs.Steps.{from_step}

-- the text from step k on begins with what comes at step k
pub step_first : (f : ℕ → List ℕ) (count k : ℕ) → k < count → from_step f count k ≡ f k ++ from_step f count (k + 1)
step_first f count k low =
    let e : count - k ≡ suc (count - (k + 1)) = omega (arith, low) in
    ap (λ (m : ℕ). flat_map f (range_with_len k m)) e

-- what comes at step k is put
pub step_put : (f : ℕ → List ℕ) (count k : ℕ) (out new : List ℕ) → k < count → new ≡ out ++ f k
    → new ++ from_step f count (k + 1) ≡ out ++ from_step f count k
step_put f count k out new low put =
    ap (λ (o : List ℕ). o ++ from_step f count (k + 1)) put
    ∙ (append_assoc out (f k) (from_step f count (k + 1)) ∙ ap (λ (t : List ℕ). out ++ t) (sym (step_first f count k low)))

-- behind the last step nothing comes
pub steps_done : (f : ℕ → List ℕ) (count k : ℕ) → count ≤ k → from_step f count k ≡ []
steps_done f count k le =
    let e : count - k ≡ 0 = omega (arith, le) in
    ap (λ (m : ℕ). flat_map f (range_with_len k m)) e
