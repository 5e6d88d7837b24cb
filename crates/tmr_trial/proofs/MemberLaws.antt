-- The nodes by partition and copy, one node more at a time.
use Rattle.std.proofs.Common.{◌≡◌, ◌≢◌, ℕ, ◌+◌, ◌<◌, ◌≤◌, ◌⊎◌, inl, inr, Bool, true, false, cond, ◌&&◌, List, [], ◌∷◌, ◌++◌, length, get_or, Option, Some, None, refl, sym, ◌∙◌, ap, subst, arith, append-nil}
use Rattle.std.specs.Prelude.{◌==◌, slice_get, slice_set}
use Rattle.std.specs.List.{range_with_len, filter}
use Rattle.std.proofs.lemmas.Bool.{cases_eq, eq-eqb, ne_eqb}
use Rattle.std.proofs.lemmas.List.{get_or-set_same, get_or-set_other, length-set, map-id}
use Rattle.std.proofs.lemmas.List.Elements.{filter-append, filter_passes}
use Rattle.std.proofs.lemmas.List.FromFn.{map-range_with_len_more, length-range_with_len}
use Rattle.std.proofs.lemmas.List.Sums.{length-filter, count_by-le-length}
use Rattle.std.proofs.lemmas.Option.{get_or_from_slice_get, slice_get_within}
use Rattle.tmr_base.specs.declared.copies.CopyNo.{CopyNo}
use Rattle.tmr_base.specs.Copies.{copy_number}
use Rattle.certificate.specs.declared.role.Role.{Role}
use Rattle.certificate.specs.declared.role.Role.TheVariants.{Copy, Voter}
use Rattle.certificate.specs.Cert.{PlainCert, role_of, part_of}
use Rattle.certificate.specs.Schedules.{RoleIsIn, IsIn}
use Rattle.certificate.proofs.Domains.{same_copy}
use Rattle.graph.specs.Rows.{row}
use Rattle.tmr_trial.specs.declared.members.Members.{Members}
use Rattle.tmr_trial.specs.Members.{rows_of, AreMembers}
use Rattle.tmr_trial.specs.NearSchedules.{role_part, role_copy, is_part, is_of, nodes_among}

copy_cases : (c d : CopyNo) → (c ≡ d) ⊎ (c ≢ d)
copy_cases c d = go (cases_eq (copy_number c) (copy_number d))
  where
    go : (copy_number c ≡ copy_number d) ⊎ (copy_number c ≢ copy_number d) → (c ≡ d) ⊎ (c ≢ d)
    go (inl e) = inl (same_copy c d e)
    go (inr apart) = inr (λ e. apart (ap copy_number e))

-- ---- a node's role

-- the role of a node of partition p and copy c
pub record HasRole (k : PlainCert) (x p : ℕ) (c : CopyNo) : Type 0 where
  pub role : Role
  pub there : role_of k x ≡ Some role
  pub part : role_part k role ≡ Some p
  pub copy : role_copy role ≡ c

pub role_in : (k : PlainCert) (x p : ℕ) (c : CopyNo) → IsIn k x (Some p) c → HasRole k x p c
role_in k x p c is = go (role_of k x) refl is
  where
    go : (o : Option Role) → role_of k x ≡ o → RoleIsIn k o x (Some p) c → HasRole k x p c
    go None there (i, copy, none) = absurd (cc)
    go (Some (Copy y d)) there (part, same) = record { role = Copy y d; there = there; part = part; copy = same }
    go (Some (Voter y q d)) there (part, same) = record { role = Voter y q d; there = there; part = part; copy = same }

of_role : (k : PlainCert) (x p : ℕ) (r : Role) → role_part k r ≡ Some p → RoleIsIn k (Some r) x (Some p) (role_copy r)
of_role k x p (Copy y d) part = (part, refl)
of_role k x p (Voter y q d) part = (part, refl)

pub in_role : (k : PlainCert) (x p : ℕ) (r : Role) → role_of k x ≡ Some r → role_part k r ≡ Some p → IsIn k x (Some p) (role_copy r)
in_role k x p r there part = subst (λ (o : Option Role). RoleIsIn k o x (Some p) (role_copy r)) (sym there) (of_role k x p r part)

and_false : (b : Bool) → (b && false) ≡ false
and_false true = refl
and_false false = refl

first_of : (x y : Bool) → (x && y) ≡ true → x ≡ true
first_of true y e = refl
first_of false y e = absurd (cc)

last_of : (x y : Bool) → (x && y) ≡ true → y ≡ true
last_of true y e = e
last_of false y e = absurd (cc)

-- ---- the test

is_own : (k : PlainCert) (x p : ℕ) (c : CopyNo) → HasRole k x p c → is_of k p c (role_of k x) ≡ true
is_own k x p c r =
    ap (is_of k p c) r.there
    ∙ (ap (λ (o : Option ℕ). is_part o p && (copy_number (role_copy r.role) == copy_number c)) r.part
    ∙ (ap (λ (b : Bool). b && (copy_number (role_copy r.role) == copy_number c)) (eq-eqb p p refl)
    ∙ eq-eqb (copy_number (role_copy r.role)) (copy_number c) (ap copy_number r.copy)))

is_other : (k : PlainCert) (x p : ℕ) (c : CopyNo) → HasRole k x p c → (q : ℕ) (d : CopyNo) → (q ≢ p) ⊎ (d ≢ c) → is_of k q d (role_of k x) ≡ false
is_other k x p c r q d (inl apart) =
    ap (is_of k q d) r.there
    ∙ (ap (λ (o : Option ℕ). is_part o q && (copy_number (role_copy r.role) == copy_number d)) r.part
    ∙ ap (λ (b : Bool). b && (copy_number (role_copy r.role) == copy_number d)) (ne_eqb p q (λ e. apart (sym e))))
is_other k x p c r q d (inr apart) =
    ap (is_of k q d) r.there
    ∙ (ap (λ (b : Bool). is_part (role_part k r.role) q && b) (ne_eqb (copy_number (role_copy r.role)) (copy_number d) (λ e. apart (same_copy d c (sym e ∙ ap copy_number r.copy))))
    ∙ and_false (is_part (role_part k r.role) q))

same_part : (o : Option ℕ) (p : ℕ) → is_part o p ≡ true → o ≡ Some p
same_part None p e = absurd (cc)
same_part (Some q) p e = go (cases_eq q p)
  where
    go : (q ≡ p) ⊎ (q ≢ p) → Some q ≡ Some p
    go (inl same) = ap Some same
    go (inr apart) = absurd (let no : (q == p) ≡ false = ne_eqb q p apart in cc)

same_number : (c d : CopyNo) → (copy_number c == copy_number d) ≡ true → c ≡ d
same_number c d e = go (cases_eq (copy_number c) (copy_number d))
  where
    go : (copy_number c ≡ copy_number d) ⊎ (copy_number c ≢ copy_number d) → c ≡ d
    go (inl same) = same_copy c d same
    go (inr apart) = absurd (let no : (copy_number c == copy_number d) ≡ false = ne_eqb (copy_number c) (copy_number d) apart in cc)

of_test : (k : PlainCert) (x p : ℕ) (c : CopyNo) (o : Option Role) → is_of k p c o ≡ true → RoleIsIn k o x (Some p) c
of_test k x p c None e = absurd (cc)
of_test k x p c (Some (Copy y d)) e = (same_part (part_of k y.0) p (first_of (is_part (part_of k y.0) p) (copy_number d == copy_number c) e), same_number d c (last_of (is_part (part_of k y.0) p) (copy_number d == copy_number c) e))
of_test k x p c (Some (Voter y q d)) e = (same_part (Some q.0) p (first_of (is_part (Some q.0) p) (copy_number d == copy_number c) e), same_number d c (last_of (is_part (Some q.0) p) (copy_number d == copy_number c) e))

-- a listed node belongs to its partition and copy
pub listed_in : (k : PlainCert) (count p : ℕ) (c : CopyNo) (i x : ℕ) → slice_get (nodes_among k count p c) i ≡ Some x → IsIn k x (Some p) c
listed_in k count p c i x at =
    let passes : is_of k p c (role_of k (get_or (nodes_among k count p c) i x)) ≡ true = filter_passes (λ (y : ℕ). is_of k p c (role_of k y)) (range_with_len k.hardened_inputs count) i x (slice_get_within (nodes_among k count p c) i x at) in
    let same : get_or (nodes_among k count p c) i x ≡ x = get_or_from_slice_get (nodes_among k count p c) i x x at in
    of_test k x p c (role_of k x) (ap (λ (y : ℕ). is_of k p c (role_of k y)) (sym same) ∙ passes)

-- no more are listed than there are
pub few_listed : (k : PlainCert) (count p : ℕ) (c : CopyNo) → length (nodes_among k count p c) ≤ count
few_listed k count p c =
    omega (arith, length-filter (λ (y : ℕ). is_of k p c (role_of k y)) (range_with_len k.hardened_inputs count), count_by-le-length (λ (y : ℕ). is_of k p c (role_of k y)) (range_with_len k.hardened_inputs count), length-range_with_len k.hardened_inputs count)

-- ---- one node more

range_more : (a n : ℕ) → range_with_len a (n + 1) ≡ range_with_len a n ++ (a + n) ∷ []
range_more a n = sym (map-id (range_with_len a (n + 1))) ∙ (map-range_with_len_more (λ (x : ℕ). x) a n (a + n) refl ∙ ap (λ (xs : List ℕ). xs ++ (a + n) ∷ []) (map-id (range_with_len a n)))

among_more : (k : PlainCert) (g x p : ℕ) (c : CopyNo) → x ≡ k.hardened_inputs + g → nodes_among k (g + 1) p c ≡ nodes_among k g p c ++ cond (is_of k p c (role_of k x)) (x ∷ []) []
among_more k g x p c at =
    ap (filter (λ (y : ℕ). is_of k p c (role_of k y))) (range_more k.hardened_inputs g)
    ∙ (filter-append (λ (y : ℕ). is_of k p c (role_of k y)) (range_with_len k.hardened_inputs g) ((k.hardened_inputs + g) ∷ [])
    ∙ ap (λ (y : ℕ). nodes_among k g p c ++ cond (is_of k p c (role_of k y)) (y ∷ []) []) (sym at))

pub one_more : (k : PlainCert) (g x p : ℕ) (c : CopyNo) (old new : Members) → AreMembers k g old → x ≡ k.hardened_inputs + g → IsIn k x (Some p) c → p < length k.depth
    → rows_of new c ≡ slice_set (rows_of old c) p (row (rows_of old c) p ++ x ∷ []) → ((d : CopyNo) → d ≢ c → rows_of new d ≡ rows_of old d) → AreMembers k (g + 1) new
one_more k g x p c old new is at inside within put same = record {
  long = λ d. long d (copy_cases d c);
  listed = λ q d l. listed q d l (copy_cases d c) (cases_eq q p);
}
  where
    long : (d : CopyNo) → (d ≡ c) ⊎ (d ≢ c) → length (rows_of new d) ≡ length k.depth
    long d (inl e) = ap (λ (f : CopyNo). length (rows_of new f)) e ∙ (ap length put ∙ (length-set (rows_of old c) p (row (rows_of old c) p ++ x ∷ []) ∙ is.long c))
    long d (inr apart) = ap length (same d apart) ∙ is.long d

    own : row (rows_of new c) p ≡ nodes_among k (g + 1) p c
    own =
        ap (λ (rows : List (List ℕ)). row rows p) put
        ∙ (get_or-set_same (rows_of old c) p (row (rows_of old c) p ++ x ∷ []) [] (omega (arith, within, is.long c))
        ∙ (ap (λ (xs : List ℕ). xs ++ x ∷ []) (is.listed p c within)
        ∙ (ap (λ (b : Bool). nodes_among k g p c ++ cond b (x ∷ []) []) (sym (is_own k x p c (role_in k x p c inside))) ∙ sym (among_more k g x p c at))))

    stays : (q : ℕ) (d : CopyNo) → (q ≢ p) ⊎ (d ≢ c) → nodes_among k g q d ≡ nodes_among k (g + 1) q d
    stays q d apart =
        sym (append-nil (nodes_among k g q d))
        ∙ (ap (λ (b : Bool). nodes_among k g q d ++ cond b (x ∷ []) []) (sym (is_other k x p c (role_in k x p c inside) q d apart)) ∙ sym (among_more k g x q d at))

    listed : (q : ℕ) (d : CopyNo) → q < length k.depth → (d ≡ c) ⊎ (d ≢ c) → (q ≡ p) ⊎ (q ≢ p) → row (rows_of new d) q ≡ nodes_among k (g + 1) q d
    listed q d l (inr apart) here = ap (λ (rows : List (List ℕ)). row rows q) (same d apart) ∙ (is.listed q d l ∙ stays q d (inr apart))
    listed q d l (inl e) (inl f) =
        ap (λ (b : CopyNo). row (rows_of new b) q) e ∙ (ap (λ (m : ℕ). row (rows_of new c) m) f
        ∙ (own ∙ (ap (λ (m : ℕ). nodes_among k (g + 1) m c) (sym f) ∙ ap (λ (b : CopyNo). nodes_among k (g + 1) q b) (sym e))))
    listed q d l (inl e) (inr apart) =
        ap (λ (b : CopyNo). row (rows_of new b) q) e ∙ (ap (λ (rows : List (List ℕ)). row rows q) put
        ∙ (get_or-set_other (rows_of old c) p q (row (rows_of old c) p ++ x ∷ []) [] apart
        ∙ (is.listed q c l ∙ (stays q c (inl apart) ∙ ap (λ (b : CopyNo). nodes_among k (g + 1) q b) (sym e)))))
