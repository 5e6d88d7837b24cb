-- The table of roles that the code fills holds the roles that lines give.
use Rattle.std.proofs.Common.{◌≡◌, ◌≢◌, ℕ, zero, suc, ◌+◌, ◌-◌, ◌<◌, ◌≤◌, ◌⊎◌, inl, inr, Bool, true, false, List, [], ◌∷◌, ◌++◌, length, get_or, Option, Some, None, Result, Ok, Err, refl, sym, ap, subst, ◌∙◌, append_assoc, set, arith}
use Rattle.std.specs.Prelude.{if◌then◌else◌, ◌&&◌, ◌==◌, is_none, replicate}
use Rattle.std.proofs.lemmas.Bool.Decides.{nat_tests}
use Rattle.std.proofs.lemmas.List.{get_or-set_same, get_or-set_other, length-set, length-replicate}
use Rattle.tmr_base.specs.declared.copies.CopyNo.TheVariants.{First, Second, Third}
use Rattle.tmr_base.specs.Copies.{Three}
use Rattle.certificate.specs.declared.fault.CertFault.{CertFault}
use Rattle.certificate.specs.declared.fault.CertFault.TheVariants.{Doubled}
use Rattle.certificate.specs.declared.role.Role.{Role}
use Rattle.certificate.specs.declared.role.Role.TheVariants.{Copy}
use Rattle.certificate.specs.Lines.{◌>>=◌}
use Rattle.certificate.specs.Reading.{role_in, all_new}
use Rattle.certificate.specs.Folding.{give, give_copies}

-- ---- roles in a list of gifts

abbrev pub or_role : Option Role → Option Role → Option Role
or_role None o = o
or_role (Some r) o = Some r

pub role_append : (a b : List (ℕ × Role)) (g : ℕ) → role_in (a ++ b) g ≡ or_role (role_in a g) (role_in b g)
role_append [] b g = refl
role_append ((x, role) ∷ a) b g = go (x == g) (role_append a b g)
  where
    go : (c : Bool) → role_in (a ++ b) g ≡ or_role (role_in a g) (role_in b g) → (if c then Some role else role_in (a ++ b) g) ≡ or_role (if c then Some role else role_in a g) (role_in b g)
    go true e = refl
    go false e = e

same_number : (g : ℕ) → (g == g) ≡ true
same_number g = grind (arith, nat_tests)

other_number : (x g : ℕ) → x ≢ g → (x == g) ≡ false
other_number x g e = grind (arith, nat_tests)

abbrev pub gift : ℕ → Role → ℕ × Role
gift g role = (g, role)

pub role_new : (before : List (ℕ × Role)) (g : ℕ) (role : Role) → role_in before g ≡ None → role_in (before ++ gift g role ∷ []) g ≡ Some role
role_new before g role e =
    let all = role_append before (gift g role ∷ []) g in
    let here = same_number g in
    all ∙ rw (e, here) refl

pub role_other : (before : List (ℕ × Role)) (g x : ℕ) (role : Role) → g ≢ x → role_in (before ++ gift g role ∷ []) x ≡ role_in before x
role_other before g x role apart = role_append before (gift g role ∷ []) x ∙ go (role_in before x)
  where
    none : role_in (gift g role ∷ []) x ≡ None
    none = let other = other_number g x apart in rw other refl

    go : (o : Option Role) → or_role o (role_in (gift g role ∷ []) x) ≡ o
    go None = none
    go (Some r) = refl

-- ---- the table

-- entry j is the role of net start + j
pub record Held (start count : ℕ) (roles : List (Option Role)) (given : List (ℕ × Role)) : Type 0 where
  pub long : length roles ≡ count
  pub same : (j : ℕ) → j < count → get_or roles j None ≡ role_in given (start + j)

abbrev no_role : Option Role
no_role = None

none_there : (n j : ℕ) → get_or (replicate n no_role) j no_role ≡ no_role
none_there zero j = refl
none_there (suc n) zero = refl
none_there (suc n) (suc j) = none_there n j

pub nothing_held : (start count : ℕ) → Held start count (replicate count None) []
nothing_held start count = record { long = length-replicate count None; same = λ j lt. none_there count j }

-- what giving these roles comes to
pub data Gave (start count : ℕ) (before gifts : List (ℕ × Role)) (line : ℕ) (result : Result (List (Option Role)) CertFault) : Type 0 where
  gave : (roles : List (Option Role)) → result ≡ Ok roles → all_new before gifts ≡ true → Held start count roles (before ++ gifts) → Gave start count before gifts line result
  twice : result ≡ Err (Doubled line) → all_new before gifts ≡ false → Gave start count before gifts line result

module _ (start count line : ℕ) where
  held_more : (before : List (ℕ × Role)) (g : ℕ) (role : Role) (roles : List (Option Role)) → Held start count roles before → start ≤ g → g < start + count → role_in before g ≡ None → Held start count (set roles (g - start) (Some role)) (before ++ gift g role ∷ [])
  held_more before g role roles held low high free = record { long = length-set roles (g - start) (Some role) ∙ held.long; same = same }
    where
      same_place : (j : ℕ) → (j ≡ g - start) ⊎ (j ≢ g - start)
      same_place j = grind arith

      same : (j : ℕ) → j < count → get_or (set roles (g - start) (Some role)) j None ≡ role_in (before ++ gift g role ∷ []) (start + j)
      same j lt = go (same_place j)
        where
          go : (j ≡ g - start) ⊎ (j ≢ g - start) → get_or (set roles (g - start) (Some role)) j None ≡ role_in (before ++ gift g role ∷ []) (start + j)
          go (inl e) =
              let back : start + j ≡ g = omega arith in
              rw (back, e) (get_or-set_same roles (g - start) (Some role) None (omega (arith, held.long)) ∙ sym (role_new before g role free))
          go (inr apart) =
              let other : g ≢ start + j = λ e. apart (omega arith) in
              get_or-set_other roles (g - start) j (Some role) None apart ∙ (held.same j lt ∙ sym (role_other before g (start + j) role other))

  one_gift : (before : List (ℕ × Role)) (g : ℕ) (role : Role) (roles : List (Option Role)) → Held start count roles before → start ≤ g → g < start + count → Gave start count before (gift g role ∷ []) line (give start g role line roles)
  unfolding give
  one_gift before g role roles held low high = go (role_in before g) refl
    where
      there : get_or roles (g - start) None ≡ role_in before g
      there = let back : start + (g - start) ≡ g = omega arith in held.same (g - start) (omega arith) ∙ ap (role_in before) back

      go : (o : Option Role) → role_in before g ≡ o → Gave start count before (gift g role ∷ []) line (give start g role line roles)
      go None e = gave (set roles (g - start) (Some role)) (rw (there, e) refl) (rw e refl) (held_more before g role roles held low high e)
      go (Some r) e = twice (rw (there, e) refl) (rw e refl)

  more_gifts : (before : List (ℕ × Role)) (g : ℕ) (role : Role) (gifts : List (ℕ × Role)) (roles : List (Option Role)) (f : List (Option Role) → Result (List (Option Role)) CertFault) → Gave start count before (gift g role ∷ []) line (give start g role line roles)
      → ((after : List (Option Role)) → Held start count after (before ++ gift g role ∷ []) → Gave start count (before ++ gift g role ∷ []) gifts line (f after)) → Gave start count before (gift g role ∷ gifts) line (give start g role line roles >>= f)
  more_gifts before g role gifts roles f (twice e old) rest = twice (rw e refl) (no_more (is_none (role_in before g)) old)
    where
      no_more : (b : Bool) → b && true ≡ false → b && all_new (before ++ gift g role ∷ []) gifts ≡ false
      no_more true d = absurd cc
      no_more false d = refl
  more_gifts before g role gifts roles f (gave after e new held) rest = go (rest after held)
    where
      first : (b : Bool) → b && true ≡ true → b ≡ true
      first true d = refl
      first false d = d

      is_new : is_none (role_in before g) ≡ true
      is_new = first (is_none (role_in before g)) new

      go : Gave start count (before ++ gift g role ∷ []) gifts line (f after) → Gave start count before (gift g role ∷ gifts) line (give start g role line roles >>= f)
      go (twice d old) = twice (rw (e, d) refl) (rw (is_new, old) refl)
      go (gave last d more held) = gave last (rw (e, d) refl) (rw (is_new, more) refl) (subst (Held start count last) (append_assoc before (gift g role ∷ []) gifts) held)

  abbrev pub AreHere : Three → Type 0
  AreHere t = ((start ≤ t.first) × (t.first < start + count)) × ((start ≤ t.second) × (t.second < start + count)) × ((start ≤ t.third) × (t.third < start + count))

  abbrev pub three_gifts : ℕ → Three → List (ℕ × Role)
  three_gifts x t = gift t.first (Copy (record { 0 = x }) First) ∷ gift t.second (Copy (record { 0 = x }) Second) ∷ gift t.third (Copy (record { 0 = x }) Third) ∷ []

  pub copies_gave : (before : List (ℕ × Role)) (x : ℕ) (t : Three) (roles : List (Option Role)) → Held start count roles before → AreHere t → Gave start count before (three_gifts x t) line (give_copies start x t line roles)
  unfolding give_copies
  copies_gave before x t roles held here =
      more_gifts before t.first (Copy (record { 0 = x }) First) _ roles _ (one_gift before t.first _ roles held here.0.0 here.0.1) (λ one held_one.
      more_gifts _ t.second (Copy (record { 0 = x }) Second) _ one _ (one_gift _ t.second _ one held_one here.1.0 here.1.1) (λ two held_two.
      one_gift _ t.third _ two held_two here.2.0 here.2.1))
