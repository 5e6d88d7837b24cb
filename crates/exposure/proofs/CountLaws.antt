-- Counts that grow node by node.
use Rattle.std.proofs.Common.{◌≡◌, ◌≢◌, ℕ, ◌+◌, ◌-◌, ◌<◌, ◌≤◌, ◌⊎◌, inl, inr, Bool, true, false, cond, ◌&&◌, List, length, take, get_or, slice_get, slice_index, slice_set, Option, Some, sym, ◌∙◌, ap, arith}
use Rattle.std.specs.Prelude.{◌==◌, count_by, replicate}
use Rattle.std.proofs.lemmas.Bool.{cases_eq, eq-eqb, ne_eqb}
use Rattle.std.proofs.lemmas.List.{get_or-set_same, get_or-set_other, get_or-replicate, length-set, length-replicate, length-take-le, take_all}
use Rattle.std.proofs.lemmas.List.Sums.{sum_by_more, count_by-le-length}
use Rattle.std.proofs.lemmas.Option.{get_or_from_slice_get}
use Rattle.tmr_base.specs.declared.copies.CopyNo.{CopyNo}
use Rattle.tmr_base.specs.Copies.{copy_number}
use Rattle.flat_net.proofs.Slots.{slot_at}
use Rattle.certificate.specs.declared.role.Role.{Role}
use Rattle.certificate.specs.Cert.{PlainCert, role_of}
use Rattle.exposure.specs.Counts.{role_part, role_copy, is_same_part, is_of}
use Rattle.exposure.specs.Private.Left.{AreCountsOf}

abbrev pub one_of : Bool → ℕ
one_of b = cond b 1 0

-- the counts of the first g nodes
pub record AreSoFar (k : PlainCert) (c : CopyNo) (g : ℕ) (counts : List ℕ) : Type 0 where
  pub long : length counts ≡ length k.depth
  pub each : (p : ℕ) → p < length k.depth → slice_index counts p ≡ count_by (is_of k p c) (take g k.roles)

pub none_so_far : (k : PlainCert) (c : CopyNo) (size : ℕ) (counts : List ℕ) → size ≡ length k.depth → counts ≡ replicate size 0 → AreSoFar k c 0 counts
none_so_far k c size counts same e = record {
  long = ap length e ∙ (length-replicate size 0 ∙ same);
  each = λ p h. ap (λ (xs : List ℕ). slice_index xs p) e ∙ get_or-replicate size p 0 0 (omega (arith, same, h));
}

-- a node more, of this role
pub one_more_role : (k : PlainCert) (c : CopyNo) (first g net q one : ℕ) (role : Role) (old new : List ℕ) → AreSoFar k c g old → first ≡ k.hardened_inputs → net ≡ first + g → role_of k net ≡ Some role → g < length k.roles
    → role_part k role ≡ Some q → q < length k.depth → one ≡ one_of (copy_number (role_copy role) == copy_number c) → new ≡ slice_set old q (slice_index old q + one) → AreSoFar k c (g + 1) new
one_more_role k c first g net q one role old new s start at there h part within told set = record {
  long = ap length set ∙ (length-set old q (slice_index old q + one) ∙ s.long);
  each = λ p l. go p l (cases_eq p q);
}
  where
    place : net - k.hardened_inputs ≡ g
    place = omega (arith, start, at)

    here : get_or k.roles g role ≡ role
    here = get_or_from_slice_get k.roles g role role (sym (slot_at k.hardened_inputs k.roles net (omega (arith, start, at)) ∙ ap (slice_get k.roles) place) ∙ there)

    more : (p : ℕ) → count_by (is_of k p c) (take (g + 1) k.roles) ≡ count_by (is_of k p c) (take g k.roles) + one_of (is_of k p c role)
    more p = sum_by_more (λ r. cond (is_of k p c r) 1 0) k.roles g role h ∙ ap (λ (r : Role). count_by (is_of k p c) (take g k.roles) + one_of (is_of k p c r)) here

    go : (p : ℕ) → p < length k.depth → (p ≡ q) ⊎ (p ≢ q) → slice_index new p ≡ count_by (is_of k p c) (take (g + 1) k.roles)
    go p l (inl is) =
        let own : is_same_part (role_part k role) p ≡ true = ap (λ (o : Option ℕ). is_same_part o p) part ∙ eq-eqb q p (sym is) in
        let counted : one_of (is_of k p c role) ≡ one = ap (λ (b : Bool). one_of (b && (copy_number (role_copy role) == copy_number c))) own ∙ sym told in
        let new_here : slice_index new q ≡ slice_index old q + one = ap (λ (xs : List ℕ). slice_index xs q) set ∙ get_or-set_same old q (slice_index old q + one) 0 (omega (arith, s.long, within)) in
        let there_is : slice_index new p ≡ slice_index old p + one = ap (slice_index new) is ∙ (new_here ∙ ap (λ (y : ℕ). slice_index old y + one) (sym is)) in
        omega (arith, there_is, s.each p l, more p, counted)
    go p l (inr apart) =
        let other : is_same_part (role_part k role) p ≡ false = ap (λ (o : Option ℕ). is_same_part o p) part ∙ ne_eqb q p (λ e. apart (sym e)) in
        let counted : one_of (is_of k p c role) ≡ 0 = ap (λ (b : Bool). one_of (b && (copy_number (role_copy role) == copy_number c))) other in
        let there_is : slice_index new p ≡ slice_index old p = ap (λ (xs : List ℕ). slice_index xs p) set ∙ get_or-set_other old q p (slice_index old q + one) 0 apart in
        omega (arith, there_is, s.each p l, more p, counted)

-- no count is above the number of nodes
pub few_so_far : (k : PlainCert) (c : CopyNo) (g q : ℕ) (counts : List ℕ) → AreSoFar k c g counts → g ≤ length k.roles → q < length k.depth → slice_index counts q ≤ g
few_so_far k c g q counts s few h = omega (arith, s.each q h, count_by-le-length (is_of k q c) (take g k.roles), length-take-le g k.roles few)

pub all_so_far : (k : PlainCert) (c : CopyNo) (g : ℕ) (counts : List ℕ) → AreSoFar k c g counts → length k.roles ≤ g → AreCountsOf k c counts
all_so_far k c g counts s all = record {
  long = s.long;
  each = λ p h. s.each p h ∙ ap (count_by (is_of k p c)) (take_all g k.roles all);
}
