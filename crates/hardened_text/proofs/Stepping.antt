-- A text that is made step by step.
use Rattle.std.proofs.Common.{◌≡◌, ℕ, zero, suc, ◌+◌, ◌-◌, ◌<◌, ◌≤◌, List, ◌++◌, refl, ap, ◌∙◌, append_assoc, arith}
use Rattle.std.specs.List.{flat_map, range_with_len}
use Rattle.std.proofs.lemmas.List.{append-nil}
use Rattle.std.proofs.lemmas.List.Concat.{flat_map-append}
use Rattle.triplicate.proofs.Lists.{range_cut}
use Rattle.text_pieces.specs.Steps.{from_step}

-- the steps from a on, cut behind the first m
pub steps_cut : (f : ℕ → List ℕ) (a m k b : ℕ) → a + m ≡ b → flat_map f (range_with_len a (m + k)) ≡ flat_map f (range_with_len a m) ++ flat_map f (range_with_len b k)
steps_cut f a m k b e =
    ap (flat_map f) (range_cut a m k ∙ ap (λ (j : ℕ). range_with_len a m ++ range_with_len j k) e) ∙ flat_map-append f (range_with_len a m) (range_with_len b k)

pub one_step : (f : ℕ → List ℕ) (a : ℕ) → flat_map f (range_with_len a 1) ≡ f a
one_step f a = append-nil (f a)

-- the same steps, counted from elsewhere
pub steps_moved : (f g : ℕ → List ℕ) (d a b : ℕ) → ((x y : ℕ) → x + b ≡ y + a → a ≤ x → x < a + d → f x ≡ g y) → flat_map f (range_with_len a d) ≡ flat_map g (range_with_len b d)
steps_moved f g zero a b same = refl
steps_moved f g (suc d) a b same =
    both (same a b (omega arith) (omega arith) (omega arith))
    (steps_moved f g d (a + 1) (b + 1) (λ x y e low high. same x y (omega (arith, e)) (omega (arith, low)) (omega (arith, high))))
  where
    both : {p q r s : List ℕ} → p ≡ q → r ≡ s → p ++ r ≡ q ++ s
    both e f = cc

-- a front, steps, and an end
pub steps_between : (f : ℕ → List ℕ) (c : ℕ) → from_step f (c + 2) 0 ≡ f 0 ++ (flat_map f (range_with_len 1 c) ++ f (c + 1))
steps_between f c =
    let e : c + 2 - 0 ≡ 1 + (c + 1) = omega arith in
    ap (λ (m : ℕ). flat_map f (range_with_len 0 m)) e
    ∙ (steps_cut f 0 1 (c + 1) 1 (omega arith)
    ∙ both (one_step f 0) (steps_cut f 1 c 1 (c + 1) (omega arith) ∙ ap (λ (t : List ℕ). flat_map f (range_with_len 1 c) ++ t) (one_step f (c + 1))))
  where
    both : {p q r s : List ℕ} → p ≡ q → r ≡ s → p ++ r ≡ q ++ s
    both e f = cc

-- a front, steps of three kinds, and an end
pub steps_of_three : (f : ℕ → List ℕ) (a b c : ℕ) → from_step f (a + b + c + 2) 0 ≡
    f 0 ++ (flat_map f (range_with_len 1 a) ++ (flat_map f (range_with_len (1 + a) b) ++ (flat_map f (range_with_len (1 + a + b) c) ++ f (a + b + c + 1))))
steps_of_three f a b c =
    let whole : a + b + c ≡ a + (b + c) = omega arith in
    steps_between f (a + b + c)
    ∙ ap (λ (t : List ℕ). f 0 ++ t)
    (ap (λ (t : List ℕ). t ++ f (a + b + c + 1))
    (ap (λ (m : ℕ). flat_map f (range_with_len 1 m)) whole
    ∙ (steps_cut f 1 a (b + c) (1 + a) refl ∙ ap (λ (t : List ℕ). flat_map f (range_with_len 1 a) ++ t) (steps_cut f (1 + a) b c (1 + a + b) refl)))
    ∙ regroup (flat_map f (range_with_len 1 a)) (flat_map f (range_with_len (1 + a) b)) (flat_map f (range_with_len (1 + a + b) c)) (f (a + b + c + 1)))
  where
    regroup : (p q r s : List ℕ) → (p ++ (q ++ r)) ++ s ≡ p ++ (q ++ (r ++ s))
    regroup p q r s = simp append_assoc
