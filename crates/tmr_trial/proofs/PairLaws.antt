-- The pair that a cycle draws.
use Rattle.std.proofs.Common.{◌≡◌, ◌≢◌, ℕ, ◌+◌, ◌<◌, Bool, true, false, cond, List, [], length, slice_get, Option, Some, None, refl, sym, ◌∙◌, ap, subst, arith}
use Rattle.std.specs.Prelude.{◌==◌, nat_lt}
use Rattle.std.proofs.lemmas.Bool.Decides.{nat_tests}
use Rattle.std.proofs.lemmas.Option.{slice_get_past}
use Rattle.tmr_base.specs.declared.copies.CopyNo.{CopyNo}
use Rattle.tmr_base.specs.declared.copies.CopyNo.TheVariants.{First, Second, Third}
use Rattle.tmr_base.specs.declared.ids.Upset.{Upset}
use Rattle.flat_net.specs.Net.{Net}
use Rattle.certificate.specs.declared.role.Role.{Role}
use Rattle.certificate.specs.Cert.{PlainCert, role_of, depth_of, part_depth}
use Rattle.certificate.specs.Schedules.{IsIn}
use Rattle.tmr_trial.specs.declared.near_pairs.NearPair.{NearPair}
use Rattle.tmr_trial.specs.Numbers.{next_state, state_after, drawn, draw}
use Rattle.tmr_trial.specs.NearSchedules.{IsTooNear, role_part, role_copy, nodes_among, nodes_of, other_copy, pair_with, pair_behind, first_drawn, pair_drawn}
use Rattle.tmr_trial.proofs.MemberLaws.{HasRole, role_in, in_role, listed_in}

-- what is drawn behind a first upset of partition p and copy c
behind_is : (k : PlainCert) (cycles s : ℕ) (first : Upset) (x p : ℕ) (c : CopyNo) → HasRole k x p c → pair_behind k cycles s first (role_of k x)
    ≡ pair_with cycles first (first.cycle + depth_of k p) (draw s 3 2 == 1) (slice_get (nodes_among k (length k.roles) p (other_copy c (draw s 1 2 == 1))) (draw s 4 (length (nodes_among k (length k.roles) p (other_copy c (draw s 1 2 == 1))))))
behind_is k cycles s first x p c r =
    ap (pair_behind k cycles s first) r.there
    ∙ (ap (λ (o : Option ℕ). pair_with cycles first (first.cycle + part_depth k o) (draw s 3 2 == 1) (slice_get (nodes_of k o (other_copy (role_copy r.role) (draw s 1 2 == 1))) (draw s 4 (length (nodes_of k o (other_copy (role_copy r.role) (draw s 1 2 == 1))))))) r.part
    ∙ ap (λ (d : CopyNo). pair_with cycles first (first.cycle + depth_of k p) (draw s 3 2 == 1) (slice_get (nodes_among k (length k.roles) p (other_copy d (draw s 1 2 == 1))) (draw s 4 (length (nodes_among k (length k.roles) p (other_copy d (draw s 1 2 == 1))))))) r.copy)

pub pair_is : (h : Net) (k : PlainCert) (cycles t s : ℕ) (first : Upset) (higher value : Bool) (p : ℕ) (c : CopyNo) (depth mid : ℕ) (nodes : List ℕ) (node : Option ℕ) (pair : Option NearPair) → first ≡ first_drawn h t s → higher ≡ (draw s 1 2 == 1) → value ≡ (draw s 3 2 == 1) → mid ≡ state_after 4 s
    → IsIn k first.net.0 (Some p) c → depth ≡ depth_of k p → nodes ≡ nodes_among k (length k.roles) p (other_copy c higher) → node ≡ slice_get nodes (draw mid 0 (length nodes)) → pair ≡ pair_with cycles first (first.cycle + depth) value node → pair ≡ pair_drawn h k cycles t s
unfolding pair_drawn
pair_is h k cycles t s first higher value p c depth mid nodes node pair first_is higher_is value_is mid_is inside depth_is nodes_are node_is is =
    is
    ∙ (ap (λ (d : ℕ). pair_with cycles first (first.cycle + d) value node) depth_is
    ∙ (ap (λ (b : Bool). pair_with cycles first (first.cycle + depth_of k p) b node) value_is
    ∙ (ap (pair_with cycles first (first.cycle + depth_of k p) (draw s 3 2 == 1)) node_drawn
    ∙ (sym (behind_is k cycles s first first.net.0 p c (role_in k first.net.0 p c inside))
    ∙ ap (λ (u : Upset). pair_behind k cycles s u (role_of k u.net.0)) first_is))))
  where
    node_drawn : node ≡ slice_get (nodes_among k (length k.roles) p (other_copy c (draw s 1 2 == 1))) (draw s 4 (length (nodes_among k (length k.roles) p (other_copy c (draw s 1 2 == 1)))))
    node_drawn =
        node_is
        ∙ (ap (λ (z : ℕ). slice_get nodes (drawn (next_state z) (length nodes))) mid_is
        ∙ (ap (λ (xs : List ℕ). slice_get xs (draw s 4 (length xs))) nodes_are
        ∙ ap (λ (b : Bool). slice_get (nodes_among k (length k.roles) p (other_copy c b)) (draw s 4 (length (nodes_among k (length k.roles) p (other_copy c b))))) higher_is))

-- what is known of a pair with this first upset
pub record IsPairOf (k : PlainCert) (cycles : ℕ) (first : Upset) (q : NearPair) : Type 0 where
  pub near : IsTooNear k q
  pub begins : q.first ≡ first
  pub range : q.second.cycle < cycles

copies_differ : (c : CopyNo) (higher : Bool) → c ≢ other_copy c higher
copies_differ First true = λ e. cc
copies_differ First false = λ e. cc
copies_differ Second true = λ e. cc
copies_differ Second false = λ e. cc
copies_differ Third true = λ e. cc
copies_differ Third false = λ e. cc

less : (a b : ℕ) → nat_lt a b ≡ true → a < b
less a b e = grind (arith, nat_tests)

some_same : (a b : NearPair) → Some a ≡ Some b → a ≡ b
some_same a b e = cc

with_facts : (k : PlainCert) (cycles : ℕ) (first : Upset) (value : Bool) (p : ℕ) (c d : CopyNo) → IsIn k first.net.0 (Some p) c → c ≢ d → (node : Option ℕ) → ((y : ℕ) → node ≡ Some y → IsIn k y (Some p) d) → (q : NearPair)
    → pair_with cycles first (first.cycle + depth_of k p) value node ≡ Some q → IsPairOf k cycles first q
with_facts k cycles first value p c d inside apart None each q e = absurd (cc)
with_facts k cycles first value p c d inside apart (Some y) each q e = go (nat_lt (first.cycle + depth_of k p) cycles) refl e
  where
    go : (b : Bool) → nat_lt (first.cycle + depth_of k p) cycles ≡ b
        → cond b (Some (record { first = first; second = record { cycle = first.cycle + depth_of k p; net = record { 0 = y }; value = value } })) None ≡ Some q → IsPairOf k cycles first q
    go false test is = absurd (cc)
    go true test is =
        subst (IsPairOf k cycles first) (some_same _ q is)
        (record {
          near = record { part = p; copy = c; other = d; first_in = inside; second_in = each y refl; differ = apart; apart = refl };
          begins = refl;
          range = less (first.cycle + depth_of k p) cycles test;
        })

-- a pair that is drawn is too near
pub pair_facts : (h : Net) (k : PlainCert) (cycles t s : ℕ) (q : NearPair) → pair_drawn h k cycles t s ≡ Some q → IsPairOf k cycles (first_drawn h t s) q
unfolding pair_drawn
pair_facts h k cycles t s q e = by_role (role_of k (first_drawn h t s).net.0) refl e
  where
    by_part : (r : Role) → role_of k (first_drawn h t s).net.0 ≡ Some r → (o : Option ℕ) → role_part k r ≡ o
        → pair_with cycles (first_drawn h t s) (t + part_depth k o) (draw s 3 2 == 1) (slice_get (nodes_of k o (other_copy (role_copy r) (draw s 1 2 == 1))) (draw s 4 (length (nodes_of k o (other_copy (role_copy r) (draw s 1 2 == 1)))))) ≡ Some q
        → IsPairOf k cycles (first_drawn h t s) q
    by_part r there None at is =
        absurd (let no : None ≡ Some q = sym (ap (pair_with cycles (first_drawn h t s) (t + part_depth k None) (draw s 3 2 == 1)) (slice_get_past {X = ℕ} [] (draw s 4 0) (omega arith))) ∙ is in cc)
    by_part r there (Some p) at is =
        with_facts k cycles (first_drawn h t s) (draw s 3 2 == 1) p (role_copy r) (other_copy (role_copy r) (draw s 1 2 == 1)) (in_role k (first_drawn h t s).net.0 p r there at) (copies_differ (role_copy r) (draw s 1 2 == 1))
        (slice_get (nodes_among k (length k.roles) p (other_copy (role_copy r) (draw s 1 2 == 1))) (draw s 4 (length (nodes_among k (length k.roles) p (other_copy (role_copy r) (draw s 1 2 == 1))))))
        (λ y at. listed_in k (length k.roles) p (other_copy (role_copy r) (draw s 1 2 == 1)) (draw s 4 (length (nodes_among k (length k.roles) p (other_copy (role_copy r) (draw s 1 2 == 1))))) y at) q is

    by_role : (o : Option Role) → role_of k (first_drawn h t s).net.0 ≡ o → pair_behind k cycles s (first_drawn h t s) o ≡ Some q → IsPairOf k cycles (first_drawn h t s) q
    by_role None there is = absurd (cc)
    by_role (Some r) there is = by_part r there (role_part k r) refl is
