-- The components of a partition that have a loop are as many as the nodes that are the first of such a component.
use Rattle.std.proofs.Common.{◌≡◌, ◌≢◌, ℕ, zero, suc, ◌+◌, ◌<◌, ◌≤◌, ◌⊎◌, inl, inr, Bool, true, false, ◌&&◌, ◌||◌, not, List, [], ◌∷◌, length, take, get_or, slice_index, refl, sym, ◌∙◌, ap, ap₂, arith}
use Rattle.std.specs.Prelude.{◌==◌, nat_eq}
use Rattle.std.specs.List.{list_any, range_with_len}
use Rattle.std.proofs.lemmas.Bool.{cases_eq, eq-eqb, ne_eqb}
use Rattle.std.proofs.lemmas.List.{take_more}
use Rattle.std.proofs.lemmas.List.Folds.{list_any-append}
use Rattle.tmr_base.specs.Parts.{PlainParts}
use Rattle.flat_net.specs.Net.{Net}
use Rattle.graph.specs.Lists.{Leads, alone, longer}
use Rattle.node_reads.proofs.Numbers.{numbers_more}
use Rattle.certificate.specs.Cert.{PlainCert}
use Rattle.feedback_cut.specs.Components.{PlainGroups, AreComponents, ReadsNode, component_of, has_loop}
use Rattle.partitioner.specs.Below.{count_below, one_if}
use Rattle.partitioner.proofs.BelowLaws.{count_none, count_same, count_changed}
use Rattle.reports.specs.Counts.{partitions, count_in, loops_in}
use Rattle.reports.specs.Private.Left.{heads_loop, AreCountsOf, AreLoopsOf}
use Rattle.reports.proofs.CountLaws.{was_seen}

-- nodes that lead to one another stand in one partition
leads_together : (n : Net) (parts : PlainParts) (x y : ℕ) → Leads (ReadsNode n parts) x y → slice_index parts.of x ≡ slice_index parts.of y
leads_together n parts _ _ (alone a) = refl
leads_together n parts _ _ (longer a b c leads next) = leads_together n parts a b leads ∙ next.reads.together

none_below : (k : ℕ) (p : ℕ → Bool) → ((x : ℕ) → p x ≡ false) → count_below k p ≡ 0
unfolding count_below
none_below zero p none = refl
none_below (suc k) p none = omega (arith, none_below k p none, ap one_if (none k))

module _ (n : Net) (k : PlainCert) (g : PlainGroups) (are : AreComponents n (partitions k) g) (p : ℕ) where
  -- component j has a node of partition p among the first m nodes
  abbrev met : ℕ → ℕ → Bool
  met m j = list_any (λ x. slice_index k.part x == p && component_of g x == j) (range_with_len 0 m)

  -- the first m nodes that are the first of a component with a loop, and the components with a loop that have one of them
  abbrev heads : ℕ → ℕ
  heads m = count_below m (λ x. slice_index k.part x == p && heads_loop g x)

  abbrev looped : ℕ → ℕ → Bool
  looped m j = has_loop g j && list_any (λ x. slice_index k.part x == p && component_of g x == j) (range_with_len 0 m)

  or_false : (b : Bool) → (b || false) ≡ b
  or_false true = refl
  or_false false = refl

  met_more : (m j : ℕ) → met (suc m) j ≡ (met m j || (slice_index k.part m == p && component_of g m == j))
  met_more m j =
      ap (list_any (λ x. slice_index k.part x == p && component_of g x == j)) (numbers_more m)
      ∙ (list_any-append (λ x. slice_index k.part x == p && component_of g x == j) (range_with_len 0 m) (m ∷ [])
      ∙ ap (λ (b : Bool). list_any (λ x. slice_index k.part x == p && component_of g x == j) (range_with_len 0 m) || b) (or_false (slice_index k.part m == p && component_of g m == j)))

  seen_more : (m j : ℕ) → m < length g.of → was_seen g.of (suc m) j ≡ (was_seen g.of m j || nat_eq j (component_of g m))
  seen_more m j h =
      let e : suc m ≡ m + 1 = omega arith in
      ap (λ (i : ℕ). list_any (nat_eq j) (take i g.of)) e
      ∙ (ap (list_any (nat_eq j)) (take_more g.of m 0 h) ∙ (list_any-append (nat_eq j) (take m g.of) (get_or g.of m 0 ∷ []) ∙ ap (λ (b : Bool). was_seen g.of m j || b) (or_false (nat_eq j (component_of g m)))))

  -- nodes of one component stand in one partition
  together : (x y : ℕ) → x < length n.nodes → y < length n.nodes → component_of g x ≡ component_of g y → slice_index k.part x ≡ slice_index k.part y
  together x y h l e = leads_together n (partitions k) x y (((are.shared x y h l).0 e).there)

  -- a component with a node in the partition has one among the first exactly where it was seen among them
  seen_is_met : (x : ℕ) → x < length n.nodes → slice_index k.part x ≡ p → (m : ℕ) → m ≤ length n.nodes → met m (component_of g x) ≡ was_seen g.of m (component_of g x)
  seen_is_met x h own zero l = refl
  seen_is_met x h own (suc m) l =
      met_more m (component_of g x)
      ∙ (ap₂ (λ (a b : Bool). a || b) (seen_is_met x h own m (omega (arith, l))) (last (cases_eq (component_of g m) (component_of g x))) ∙ sym (seen_more m (component_of g x) (omega (arith, l, are.nodes))))
    where
      last : (component_of g m ≡ component_of g x) ⊎ (component_of g m ≢ component_of g x) → (slice_index k.part m == p && component_of g m == component_of g x) ≡ nat_eq (component_of g x) (component_of g m)
      last (inl e) =
          ap₂ (λ (a b : Bool). a && b) (eq-eqb (slice_index k.part m) p (together m x (omega (arith, l)) h e ∙ own)) (eq-eqb (component_of g m) (component_of g x) e) ∙ sym (eq-eqb (component_of g x) (component_of g m) (sym e))
      last (inr ne) = ap (λ (b : Bool). slice_index k.part m == p && b) (ne_eqb (component_of g m) (component_of g x) ne) ∙ (and_false (slice_index k.part m == p) ∙ sym (ne_eqb (component_of g x) (component_of g m) (λ e. ne (sym e))))
        where
          and_false : (b : Bool) → (b && false) ≡ false
          and_false true = refl
          and_false false = refl

  -- one node more
  unmet : (m : ℕ) → (slice_index k.part m == p) ≡ false → count_below (length g.loops) (looped (suc m)) ≡ count_below (length g.loops) (looped m)
  unmet m e = count_same (length g.loops) (looped (suc m)) (looped m) (λ j h. ap (λ (b : Bool). has_loop g j && b) (met_more m j ∙ (ap (λ (b : Bool). met m j || (b && component_of g m == j)) e ∙ or_false (met m j))))

  changed : (m : ℕ) → m < length n.nodes → count_below (length g.loops) (looped (suc m)) + one_if (looped m (component_of g m)) ≡ count_below (length g.loops) (looped m) + one_if (looped (suc m) (component_of g m))
  changed m h =
      count_changed (length g.loops) (component_of g m) (looped (suc m)) (looped m) (are.below m h)
      (λ j l ne. ap (λ (b : Bool). has_loop g j && b) (met_more m j ∙ (ap (λ (b : Bool). met m j || (slice_index k.part m == p && b)) (ne_eqb (component_of g m) j (λ e. ne (sym e))) ∙ (ap (λ (b : Bool). met m j || b) (and_false (slice_index k.part m == p)) ∙ or_false (met m j)))))
    where
      and_false : (b : Bool) → (b && false) ≡ false
      and_false true = refl
      and_false false = refl

  heads_more : (m : ℕ) → heads (suc m) ≡ heads m + one_if (slice_index k.part m == p && heads_loop g m)
  unfolding count_below
  heads_more m = refl

  step : (m : ℕ) → m < length n.nodes → heads m ≡ count_below (length g.loops) (looped m) → heads (suc m) ≡ count_below (length g.loops) (looped (suc m))
  step m h before = heads_more m ∙ go (cases_eq (slice_index k.part m) p)
    where
      gains : (loop seen : Bool) → one_if (true && (loop && not seen)) + one_if (loop && seen) ≡ one_if (loop && (seen || true))
      gains true true = refl
      gains true false = refl
      gains false seen = refl

      go : (slice_index k.part m ≡ p) ⊎ (slice_index k.part m ≢ p) → count_below m (λ x. slice_index k.part x == p && heads_loop g x) + one_if (slice_index k.part m == p && heads_loop g m) ≡ count_below (length g.loops) (looped (suc m))
      go (inl own) =
          let c = component_of g m in
          let mine = eq-eqb (slice_index k.part m) p own in
          let here : one_if (slice_index k.part m == p && heads_loop g m) ≡ one_if (true && (has_loop g c && not (was_seen g.of m c))) = ap (λ (b : Bool). one_if (b && heads_loop g m)) mine in
          let was : one_if (looped m c) ≡ one_if (has_loop g c && was_seen g.of m c) = ap (λ (b : Bool). one_if (has_loop g c && b)) (seen_is_met m h own m (omega (arith, h))) in
          let now : one_if (looped (suc m) c) ≡ one_if (has_loop g c && (was_seen g.of m c || true)) = ap (λ (b : Bool). one_if (has_loop g c && b)) (met_more m c ∙ ap₂ (λ (a b : Bool). a || b) (seen_is_met m h own m (omega (arith, h))) (ap₂ (λ (a b : Bool). a && b) mine (eq-eqb c c refl))) in
          omega (arith, before, here, was, now, changed m h, gains (has_loop g c) (was_seen g.of m c))
      go (inr other) =
          let e = ne_eqb (slice_index k.part m) p other in
          let here : one_if (slice_index k.part m == p && heads_loop g m) ≡ 0 = ap (λ (b : Bool). one_if (b && heads_loop g m)) e in
          omega (arith, before, here, unmet m e)

  all_heads : (m : ℕ) → m ≤ length n.nodes → heads m ≡ count_below (length g.loops) (looped m)
  all_heads zero l = count_none (λ x. slice_index k.part x == p && heads_loop g x) ∙ sym (none_below (length g.loops) (looped 0) (λ j. and_false (has_loop g j)))
    where
      and_false : (b : Bool) → (b && false) ≡ false
      and_false true = refl
      and_false false = refl
  all_heads (suc m) l = step m (omega (arith, l)) (all_heads m (omega (arith, l)))

  pub loops_counted : length k.part ≡ length n.nodes → count_in k (heads_loop g) p ≡ loops_in k g p
  loops_counted long = all_heads (length k.part) (omega (arith, long))

-- so what counts the one counts the other
pub loops_of : (n : Net) (k : PlainCert) (g : PlainGroups) (counts : List ℕ) → AreComponents n (partitions k) g → length k.part ≡ length n.nodes → AreCountsOf k (heads_loop g) counts → AreLoopsOf k g counts
loops_of n k g counts are long of = record { long = of.long; count = λ p h. of.count p h ∙ loops_counted n k g are p long }
