-- In a window of a partition's depth, an allowed schedule strikes one copy at most.
use Rattle.std.proofs.Common.{◌≡◌, ◌≢◌, ℕ, zero, suc, ◌+◌, ◌-◌, ◌*◌, ◌/◌, ◌<◌, ◌≤◌, ◌⊎◌, List, [], ◌∷◌, refl, sym, ap, subst, arith, Option, Some, None, inl, inr}
use Rattle.std.specs.List.{Contains}
use Rattle.tmr_base.specs.declared.copies.CopyNo.{CopyNo}
use Rattle.tmr_base.specs.declared.copies.CopyNo.TheVariants.{First, Second, Third}
use Rattle.tmr_base.specs.declared.ids.Upset.{Upset}
use Rattle.certificate.specs.declared.role.Role.{Role}
use Rattle.certificate.specs.declared.role.Role.TheVariants.{Copy, Voter}
use Rattle.tmr_base.specs.Copies.{copy_number}
use Rattle.certificate.specs.Cert.{PlainCert, IsInputCopy, part_depth, role_of, part_of}
use Rattle.certificate.specs.Schedules.{IsIn, RoleIsIn, IsClear, Allowed}
use Rattle.validator.specs.Masking.{TwoOf}

abbrev Decided : Type 0 → Type 0
Decided P = P ⊎ (P → ⊥)

both : {P Q : Type 0} → Decided P → Decided Q → Decided (P × Q)
both (inl p) (inl q) = inl (p, q)
both (inl p) (inr q) = inr (λ h. q h.1)
both (inr p) q = inr (λ h. p h.0)

all_three : {P Q R : Type 0} → Decided P → Decided Q → Decided R → Decided (P × Q × R)
all_three (inl p) (inl q) (inl r) = inl (p, q, r)
all_three (inl p) (inl q) (inr r) = inr (λ h. r h.2)
all_three (inl p) (inr q) r = inr (λ h. q h.1)
all_three (inr p) q r = inr (λ h. p h.0)

same_number : (x y : ℕ) → Decided (x ≡ y)
same_number x y = grind arith

same_copy : (c d : CopyNo) → Decided (c ≡ d)
same_copy First First = inl refl
same_copy First Second = inr (λ e. cc)
same_copy First Third = inr (λ e. cc)
same_copy Second First = inr (λ e. cc)
same_copy Second Second = inl refl
same_copy Second Third = inr (λ e. cc)
same_copy Third First = inr (λ e. cc)
same_copy Third Second = inr (λ e. cc)
same_copy Third Third = inl refl

same_option : (x y : Option ℕ) → Decided (x ≡ y)
same_option None None = inl refl
same_option None (Some p) = inr (λ e. cc)
same_option (Some q) None = inr (λ e. cc)
same_option (Some q) (Some p) = go (same_number q p)
  where
    go : Decided (q ≡ p) → Decided (Some q ≡ Some p)
    go (inl e) = inl (ap Some e)
    go (inr ne) = inr (λ e. ne (cc))

copy_number_lt : (c : CopyNo) → copy_number c < 3
copy_number_lt First = omega arith
copy_number_lt Second = omega arith
copy_number_lt Third = omega arith

below : (x y : ℕ) → Decided (x < y)
below x y = grind arith

-- an input can be a copy of one input alone
input_copy : (k : PlainCert) (h : ℕ) (p : Option ℕ) (c : CopyNo) → Decided (RoleIsIn k None h p c)
input_copy k h p c = go (both (all_three (below (h / 3) k.original_inputs) (below h k.hardened_inputs) (same_number h (3 * (h / 3) + copy_number c))) (same_option p None))
  where
    go : Decided (IsInputCopy k h (h / 3) c × (p ≡ None)) → Decided (RoleIsIn k None h p c)
    go (inl (copy, none)) = inl (h / 3, copy, none)
    go (inr not) = inr only
      where
        only : RoleIsIn k None h p c → ⊥
        only (i, copy, none) =
            let third : i ≡ h / 3 = omega (arith, copy.2, copy_number_lt c) in
            not (subst (λ (j : ℕ). IsInputCopy k h j c) third copy, none)

role_is_in : (k : PlainCert) (r : Option Role) (h : ℕ) (p : Option ℕ) (c : CopyNo) → Decided (RoleIsIn k r h p c)
role_is_in k None h p c = input_copy k h p c
role_is_in k (Some (Copy x d)) h p c = both (same_option (part_of k x.0) p) (same_copy d c)
role_is_in k (Some (Voter x q d)) h p c = both (same_option (Some q.0) p) (same_copy d c)

-- the upset is of partition p and copy c and lies in the window
pub record Strikes (k : PlainCert) (p : Option ℕ) (c : CopyNo) (e t : ℕ) (u : Upset) : Type 0 where
  pub is_in : IsIn k u.net.0 p c
  pub from : t - e ≤ u.cycle
  pub upto : u.cycle ≤ t

strikes : (k : PlainCert) (p : Option ℕ) (c : CopyNo) (e t : ℕ) (u : Upset) → Decided (Strikes k p c e t u)
strikes k p c e t u = go (role_is_in k (role_of k u.net.0) u.net.0 p c) (in_window)
  where
    in_window : Decided ((t - e ≤ u.cycle) × (u.cycle ≤ t))
    in_window = grind arith

    go : Decided (IsIn k u.net.0 p c) → Decided ((t - e ≤ u.cycle) × (u.cycle ≤ t)) → Decided (Strikes k p c e t u)
    go (inl i) (inl w) = inl (record { is_in = i; from = w.0; upto = w.1 })
    go (inl i) (inr w) = inr (λ s. w (s.from, s.upto))
    go (inr i) w = inr (λ s. i s.is_in)

none_or_some : (P : Upset → Type 0) → ((u : Upset) → Decided (P u)) → (s : List Upset) → ((u : Upset) → Contains s u → P u → ⊥) ⊎ ((u : Upset) × Contains s u × P u)
none_or_some P decide [] = inl (λ u has p. absurd (omega arith))
none_or_some P decide (v ∷ s) = go (decide v) (none_or_some P decide s)
  where
    go : Decided (P v) → ((u : Upset) → Contains s u → P u → ⊥) ⊎ ((u : Upset) × Contains s u × P u) → ((u : Upset) → Contains (v ∷ s) u → P u → ⊥) ⊎ ((u : Upset) × Contains (v ∷ s) u × P u)
    go (inl p) rest = inr (v, (0, (omega arith), refl), p)
    go (inr np) (inr (u, (k, lt, is), p)) = inr (u, (suc k, (omega arith), is), p)
    go (inr np) (inl none) = inl only
      where
        only : (u : Upset) → Contains (v ∷ s) u → P u → ⊥
        only u (zero, lt, is) p = np (subst P (sym is) p)
        only u (suc k, lt, is) p = none u (k, (omega arith), is) p

clear_or_struck : (s : List Upset) (k : PlainCert) (p : Option ℕ) (c : CopyNo) (e t : ℕ) → IsClear s k p c e t ⊎ ((u : Upset) × Contains s u × Strikes k p c e t u)
clear_or_struck s k p c e t = go (none_or_some (Strikes k p c e t) (strikes k p c e t) s)
  where
    go : ((u : Upset) → Contains s u → Strikes k p c e t u → ⊥) ⊎ ((u : Upset) × Contains s u × Strikes k p c e t u) → IsClear s k p c e t ⊎ ((u : Upset) × Contains s u × Strikes k p c e t u)
    go (inl none) = inl (λ u has i from upto. none u has (record { is_in = i; from = from; upto = upto }))
    go (inr some) = inr some

not_two : (s : List Upset) (k : PlainCert) (p : Option ℕ) (t : ℕ) (c d : CopyNo) → Allowed s k → c ≢ d → ((u : Upset) × Contains s u × Strikes k p c (part_depth k p) t u) → ((u : Upset) × Contains s u × Strikes k p d (part_depth k p) t u) → ⊥
not_two s k p t c d allowed ne (u, has_u, a) (v, has_v, b) =
    let apart : (u.cycle + part_depth k p < v.cycle) ⊎ (v.cycle + part_depth k p < u.cycle) = allowed u v p c d has_u has_v a.is_in b.is_in ne in
    grind (arith, apart)

pub two_clear : (s : List Upset) (k : PlainCert) (p : Option ℕ) (t : ℕ) → Allowed s k → TwoOf (λ c. IsClear s k p c (part_depth k p) t)
two_clear s k p t allowed = go (clear_or_struck s k p First _ t) (clear_or_struck s k p Second _ t) (clear_or_struck s k p Third _ t)
  where
    S : CopyNo → Type 0
    S c = (u : Upset) × Contains s u × Strikes k p c (part_depth k p) t u

    C : CopyNo → Type 0
    C c = IsClear s k p c (part_depth k p) t

    go : C First ⊎ S First → C Second ⊎ S Second → C Third ⊎ S Third → TwoOf (λ c. IsClear s k p c (part_depth k p) t)
    go (inl a) (inl b) h = inl (a, b)
    go (inl a) (inr b) (inl c) = inr (inl (a, c))
    go (inl a) (inr b) (inr c) = absurd (not_two s k p t Second Third allowed (λ e. cc) b c)
    go (inr a) (inl b) (inl c) = inr (inr (b, c))
    go (inr a) (inl b) (inr c) = absurd (not_two s k p t First Third allowed (λ e. cc) a c)
    go (inr a) (inr b) h = absurd (not_two s k p t First Second allowed (λ e. cc) a b)
