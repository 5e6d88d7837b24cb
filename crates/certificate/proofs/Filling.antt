-- The roles that nodes' lines give: each copy's, and no others.
use Rattle.std.proofs.Common.{◌≡◌, ℕ, zero, suc, ◌+◌, ◌-◌, ◌<◌, ◌≤◌, true, List, [], ◌∷◌, ◌++◌, length, get_or, Option, Some, None, Ok, refl, sym, ap, subst, ◌∙◌, arith}
use Rattle.std.proofs.Common.{◌⊎◌, inl, inr, ◌≢◌, replicate, set}
use Rattle.std.specs.Prelude.{is_none}
use Rattle.std.proofs.lemmas.List.{get_or-set_same, get_or-set_other, length-set, length-append}
use Rattle.std.proofs.Math.Seq.{get_or-append_seam}
use Rattle.std.proofs.Math.ListN.{get_or-append}
use Rattle.tmr_base.specs.declared.copies.CopyNo.{CopyNo}
use Rattle.tmr_base.specs.declared.copies.CopyNo.TheVariants.{First, Second, Third}
use Rattle.tmr_base.specs.Copies.{Three, of_copy}
use Rattle.certificate.specs.declared.role.Role.{Role}
use Rattle.certificate.specs.declared.role.Role.TheVariants.{Copy}
use Rattle.certificate.specs.declared.fault.CertFault.TheVariants.{Doubled}
use Rattle.certificate.specs.Folding.{give, give_copies}
use Rattle.certificate.proofs.Cases.{bind_ok, hold_ok, ok_is}

-- the roles are those of which P says so, each at its place
pub record Filled (P : ℕ → Role → Type 0) (start : ℕ) (roles : List (Option Role)) : Type 0 where
  pub sound : (j : ℕ) (r : Role) → get_or roles j None ≡ Some r → P (start + j) r
  pub complete : (g : ℕ) (r : Role) → P g r → (start ≤ g) × (get_or roles (g - start) None ≡ Some r)

abbrev pub Also : (ℕ → Role → Type 0) → ℕ → Role → ℕ → Role → Type 0
Also P g role g' r' = P g' r' ⊎ ((g' ≡ g) × (r' ≡ role))

set_read : (roles : List (Option Role)) (i j : ℕ) (role r : Role) → get_or (set roles i (Some role)) j None ≡ Some r → (get_or roles j None ≡ Some r) ⊎ ((j ≡ i) × (r ≡ role))
set_read [] i j role r e = inl e
set_read (x ∷ xs) zero zero role r e = inr (refl, cc)
set_read (x ∷ xs) zero (suc j) role r e = inl e
set_read (x ∷ xs) (suc i) zero role r e = inl e
set_read (x ∷ xs) (suc i) (suc j) role r e = go (set_read xs i j role r e)
  where
    go : (get_or xs j None ≡ Some r) ⊎ ((j ≡ i) × (r ≡ role)) → (get_or xs j None ≡ Some r) ⊎ ((suc j ≡ suc i) × (r ≡ role))
    go (inl f) = inl f
    go (inr f) = inr (ap suc f.0, f.1)

none_is : (o : Option Role) → is_none o ≡ true → o ≡ None
none_is None e = refl
none_is (Some r) e = absurd cc

pub give_fills : (P : ℕ → Role → Type 0) (start g : ℕ) (role : Role) (line : ℕ) (roles after : List (Option Role)) → Filled P start roles → start ≤ g → g < start + length roles → give start g role line roles ≡ Ok after → Filled (Also P g role) start after × (length after ≡ length roles)
unfolding give
give_fills P start g role line roles after filled low high e =
    let free = hold_ok (is_none (get_or roles (g - start) None)) (Doubled line) _ after e in
    let made = set roles (g - start) (Some role) in
    subst (λ (v : List (Option Role)). Filled (Also P g role) start v × (length v ≡ length roles)) (ok_is made after free.1) (record { sound = sound; complete = complete (none_is _ free.0) }, length-set roles (g - start) (Some role))
  where
    sound : (j : ℕ) (r : Role) → get_or (set roles (g - start) (Some role)) j None ≡ Some r → Also P g role (start + j) r
    sound j r h = go (set_read roles (g - start) j role r h)
      where
        go : (get_or roles j None ≡ Some r) ⊎ ((j ≡ g - start) × (r ≡ role)) → Also P g role (start + j) r
        go (inl f) = inl (filled.sound j r f)
        go (inr f) = inr (omega (arith, f.0), f.1)

    complete : get_or roles (g - start) None ≡ None → (g' : ℕ) (r : Role) → Also P g role g' r → (start ≤ g') × (get_or (set roles (g - start) (Some role)) (g' - start) None ≡ Some r)
    complete free g' r (inl p) =
        let there = filled.complete g' r p in
        let apart : g' - start ≢ g - start = λ same. absurd (cc (ap (λ (i : ℕ). get_or roles i None) same, there.1, free)) in
        (there.0, get_or-set_other roles (g - start) (g' - start) (Some role) None apart ∙ there.1)
    complete free g' r (inr p) = (omega (arith, p.0), rw (p.0, p.1) (get_or-set_same roles (g - start) (Some role) None (omega arith)))

pub refill : (P Q : ℕ → Role → Type 0) (start : ℕ) (roles : List (Option Role)) → ((g : ℕ) (r : Role) → P g r → Q g r) → ((g : ℕ) (r : Role) → Q g r → P g r) → Filled P start roles → Filled Q start roles
refill P Q start roles to from filled = record { sound = λ j r e. to (start + j) r (filled.sound j r e); complete = λ g r q. filled.complete g r (from g r q) }

abbrev pub no_three : Three
no_three = record { first = 0; second = 0; third = 0 }

abbrev pub copy_role : ℕ → CopyNo → Role
copy_role x c = Copy (record { 0 = x }) c

-- hardened net g is the copy that the role names
pub record IsCopyOf (inputs : ℕ) (copies : List Three) (g : ℕ) (r : Role) : Type 0 where
  pub i : ℕ
  pub c : CopyNo
  pub within : i < length copies
  pub role : r ≡ copy_role (inputs + i) c
  pub net : of_copy (get_or copies i no_three) c ≡ g

abbrev pub WithCopies : ℕ → List Three → Three → ℕ → Role → Type 0
WithCopies inputs copies t = Also (Also (Also (IsCopyOf inputs copies) t.first (copy_role (inputs + length copies) First)) t.second (copy_role (inputs + length copies) Second)) t.third (copy_role (inputs + length copies) Third)

pub newest : (inputs : ℕ) (copies : List Three) (t : Three) (c : CopyNo) (g : ℕ) (r : Role) → g ≡ of_copy t c → r ≡ copy_role (inputs + length copies) c → IsCopyOf inputs (copies ++ t ∷ []) g r
newest inputs copies t c g r e f = record {
  i = length copies;
  c = c;
  within = omega (arith, length-append copies (t ∷ []));
  role = f;
  net = ap (λ (u : Three). of_copy u c) (get_or-append_seam copies t [] no_three) ∙ sym e;
}

one_more : (inputs : ℕ) (copies : List Three) (t : Three) (g : ℕ) (r : Role) → WithCopies inputs copies t g r → IsCopyOf inputs (copies ++ t ∷ []) g r
one_more inputs copies t g r (inl (inl (inl p))) = record {
  i = p.i;
  c = p.c;
  within = omega (arith, length-append copies (t ∷ []), p.within);
  role = p.role;
  net = ap (λ (u : Three). of_copy u p.c) (get_or-append copies (t ∷ []) no_three p.i p.within) ∙ p.net;
}
one_more inputs copies t g r (inl (inl (inr p))) = newest inputs copies t First g r p.0 p.1
one_more inputs copies t g r (inl (inr p)) = newest inputs copies t Second g r p.0 p.1
one_more inputs copies t g r (inr p) = newest inputs copies t Third g r p.0 p.1

by_copy : (inputs : ℕ) (copies : List Three) (t : Three) (c : CopyNo) (g : ℕ) (r : Role) → g ≡ of_copy t c → r ≡ copy_role (inputs + length copies) c → WithCopies inputs copies t g r
by_copy inputs copies t First g r e f = inl (inl (inr (e, f)))
by_copy inputs copies t Second g r e f = inl (inr (e, f))
by_copy inputs copies t Third g r e f = inr (e, f)

before_or_last : (i n : ℕ) → i < n + 1 → (i < n) ⊎ (i ≡ n)
before_or_last i n h = grind arith

one_less : (inputs : ℕ) (copies : List Three) (t : Three) (g : ℕ) (r : Role) → IsCopyOf inputs (copies ++ t ∷ []) g r → WithCopies inputs copies t g r
one_less inputs copies t g r p = go (before_or_last p.i (length copies) (omega (arith, p.within, length-append copies (t ∷ []))))
  where
    go : (p.i < length copies) ⊎ (p.i ≡ length copies) → WithCopies inputs copies t g r
    go (inl lt) = inl (inl (inl (record { i = p.i; c = p.c; within = lt; role = p.role; net = sym (ap (λ (u : Three). of_copy u p.c) (get_or-append copies (t ∷ []) no_three p.i lt)) ∙ p.net })))
    go (inr is) =
        let last : get_or (copies ++ t ∷ []) p.i no_three ≡ t = ap (λ (i : ℕ). get_or (copies ++ t ∷ []) i no_three) is ∙ get_or-append_seam copies t [] no_three in
        by_copy inputs copies t p.c g r (sym p.net ∙ ap (λ (u : Three). of_copy u p.c) last) (p.role ∙ ap (λ (i : ℕ). copy_role (inputs + i) p.c) is)

pub copies_fill : (start inputs : ℕ) (copies : List Three) (t : Three) (line : ℕ) (roles after : List (Option Role)) → Filled (IsCopyOf inputs copies) start roles
    → ((c : CopyNo) → (start ≤ of_copy t c) × (of_copy t c < start + length roles)) → give_copies start (inputs + length copies) t line roles ≡ Ok after → Filled (IsCopyOf inputs (copies ++ t ∷ [])) start after × (length after ≡ length roles)
unfolding give_copies
copies_fill start inputs copies t line roles after filled nodes e =
    let x = inputs + length copies in
    let one = bind_ok (give start t.first (copy_role x First) line roles) _ after e in
    let two = bind_ok (give start t.second (copy_role x Second) line one.0) _ after one.2 in
    let f = give_fills _ start t.first (copy_role x First) line roles one.0 filled (nodes First).0 (nodes First).1 one.1 in
    let s = give_fills _ start t.second (copy_role x Second) line one.0 two.0 f.0 (nodes Second).0 (omega (arith, (nodes Second).1, f.1)) two.1 in
    let u = give_fills _ start t.third (copy_role x Third) line two.0 after s.0 (nodes Third).0 (omega (arith, (nodes Third).1, f.1, s.1)) two.2 in
    (refill (WithCopies inputs copies t) (IsCopyOf inputs (copies ++ t ∷ [])) start after (one_more inputs copies t) (one_less inputs copies t) u.0, u.1 ∙ s.1 ∙ f.1)

no_role : (n j : ℕ) (r : Role) → get_or (replicate n None) j None ≡ Some r → ⊥
no_role zero j r e = absurd cc
no_role (suc n) zero r e = absurd cc
no_role (suc n) (suc j) r e = no_role n j r e

pub nothing_filled : (inputs start n : ℕ) → Filled (IsCopyOf inputs []) start (replicate n None)
nothing_filled inputs start n = record { sound = λ j r e. absurd (no_role n j r e); complete = λ g r p. absurd (omega (arith, p.within)) }
