-- A list of one schedule.
use Rattle.std.proofs.Common.{◌≡◌, ℕ, zero, suc, ◌<◌, List, [], ◌∷◌, length, slice_get, Some, sym, ◌∙◌, ap, subst, arith}
use Rattle.std.specs.Prelude.{All}
use Rattle.schedules.specs.Schedule.{PlainSchedule, IsPlainSchedule}
use Rattle.schedule_replay.specs.Many.{HaveOneLength}

one : {A : Type 0} (P : A → Type 0) (x : A) → P x → All P (x ∷ [])
one P x p zero d h = p
one P x p (suc i) d h = absurd (omega arith)

-- what is true of the one is true of all
all_of_one : {A : Type 0} (P : A → Type 0) (xs : List A) (x : A) → xs ≡ x ∷ [] → P x → All P xs
all_of_one P xs x e p = subst (λ (ys : List _). All P ys) (sym e) (one P x p)

that_one : {A : Type 0} (x y : A) (i : ℕ) → slice_get (x ∷ []) i ≡ Some y → y ≡ x
that_one x y zero e = cc
that_one x y (suc i) e = absurd (cc)

-- the one stands at place 0
pub first_of_one : {A : Type 0} (xs : List A) (x : A) → xs ≡ x ∷ [] → slice_get xs 0 ≡ Some x
first_of_one xs x e = ap (λ (ys : List _). slice_get ys 0) e

module _ (list : List PlainSchedule) (s : PlainSchedule) (is : list ≡ s ∷ []) where
  pub one_length : HaveOneLength list
  one_length i j a b at_a at_b =
      let same_a : a ≡ s = that_one s a i (subst (λ (ys : List PlainSchedule). slice_get ys i ≡ Some a) is at_a) in
      let same_b : b ≡ s = that_one s b j (subst (λ (ys : List PlainSchedule). slice_get ys j ≡ Some b) is at_b) in
      ap (λ (r : PlainSchedule). length r.rows) (same_a ∙ sym same_b)

  pub inputs_of_one : (m : ℕ) → s.inputs ≡ m → All (λ s. s.inputs ≡ m) list
  inputs_of_one m p = all_of_one (λ s. s.inputs ≡ m) list s is p

  pub nets_of_one : (high : ℕ) → All (λ u. u.net.0 < high) s.upsets → All (λ s. All (λ u. u.net.0 < high) s.upsets) list
  nets_of_one high p = all_of_one (λ s. All (λ u. u.net.0 < high) s.upsets) list s is p

  pub plain_of_one : IsPlainSchedule s → All (λ s. IsPlainSchedule s) list
  plain_of_one p = all_of_one (λ s. IsPlainSchedule s) list s is p

  pub cycles_of_one : (t : ℕ) → t < length s.rows → All (λ s. t < length s.rows) list
  cycles_of_one t p = all_of_one (λ s. t < length s.rows) list s is p

pub ruleset one_schedule = (one_length, inputs_of_one, nets_of_one, plain_of_one, cycles_of_one)
