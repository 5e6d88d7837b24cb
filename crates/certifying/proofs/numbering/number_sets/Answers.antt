use Rattle.std.proofs.Common.{◌≡◌, ◌≢◌, ℕ, ◌+◌, ◌<◌, ◌≤◌, inl, inr, List, length, length-append, get_or, ap, sym, subst, ◌∙◌, arith}
use Rattle.certifying.specs.Private.Numbers.{AreNumbered}
use Rattle.certifying.proofs.ForestLaws.{same_or_not, one_more}
use Rattle.certifying.proofs.numbering.number_sets.Goals as goal

pub loop-i-preserved : goal.loop-i-preserved
loop-i-preserved c =
    let parent : ℕ = get_or c.args.up.now c.loop-i.i 0 in
    let root = subst (λ (xs : List ℕ). get_or c.args.up.now c.loop-i.i 0 ≡ length xs → c.next_number-number.result ≡ c.loop-i.count) c.deref.ensures.value c.next_number-number.ensures.root in
    let other = subst (λ (xs : List ℕ). get_or c.args.up.now c.loop-i.i 0 < length xs → c.next_number-number.result ≡ get_or xs (get_or c.args.up.now c.loop-i.i 0) 0) c.deref.ensures.value c.next_number-number.ensures.other in
    record {
      long = ap length c.in_ok-push.ensures.items ∙ (length-append c.loop-i.numbers.items _ ∙ omega (arith, c.loop-i.invariant.long));
      few = few c.next_number-number.result c.loop-i.count c.next_count-count.result c.next_count-count.ensures.fresh c.next_count-count.ensures.old c.loop-i.i c.loop-i.invariant.few;
      numbered = subst (λ (xs : List ℕ). AreNumbered c.args.up.now xs c.next_count-count.result) (sym c.in_ok-push.ensures.items)
          (one_more c.args.up.now c.loop-i.numbers.items c.loop-i.count c.loop-i.i c.next_number-number.result c.next_count-count.result c.loop-i.invariant.numbered c.loop-i.invariant.long c.loop-i-test.true
          (c.requires.forest c.loop-i.i c.loop-i-test.true) (λ e. root (e ∙ sym c.loop-i.invariant.long)) (λ l. other (omega (arith, l, c.loop-i.invariant.long))) c.next_count-count.ensures.fresh c.next_count-count.ensures.old);
    }
  where
    few : (number count next : ℕ) → (number ≡ count → next ≡ count + 1) → (number ≢ count → next ≡ count) → (i : ℕ) → count ≤ i → next ≤ i + 1
    few number count next fresh old i l = elim (same_or_not number count) [ inl e ↦ omega (arith, fresh e, l) | inr d ↦ omega (arith, old d, l) ]
