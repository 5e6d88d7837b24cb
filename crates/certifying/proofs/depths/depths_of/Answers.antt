use Rattle.std.proofs.Common.{◌≡◌, ℕ, ◌≤◌, [], get_or, map, refl, subst, ◌∙◌, arith}
use Rattle.std.proofs.lemmas.List.{get_or-map, get_or_default, length-set}
use Rattle.tmr_base.specs.Copies.{Three, of_copy}
use Rattle.certificate.specs.Threes.{three_of}
use Rattle.certifying.specs.Private.Depths.{no_three, IsAbove}
use Rattle.certifying.proofs.DepthLaws.{raised, small_set}
use Rattle.certifying.proofs.depths.depths_of.Goals as goal

pub loop-i-preserved : goal.loop-i-preserved
loop-i-preserved c =
    let p : ℕ = get_or c.args.numbers.now c.loop-i.i 0 in
    let most = λ (e : ℕ) (above : IsAbove (map three_of c.args.labels.now) c.loop-i.i e).
    c.greatest.ensures e (λ d. subst (λ (t : Three). of_copy t d ≤ e) (get_or-map three_of c.args.labels.now c.loop-i.i [] no_three (omega (arith, c.loop-i-test.true, c.requires.long))) (above d)) in
    let old : c.index.result.now ≡ get_or c.loop-i.depths.items (get_or c.args.numbers.now c.loop-i.i 0) 0 = c.index.ensures ∙ get_or_default c.loop-i.depths.items (get_or c.args.numbers.now c.loop-i.i 0) c.index.result.now 0 (omega (arith, c.requires.below c.loop-i.i c.loop-i-test.true, c.loop-i.invariant.long)) in
    record {
      long = length-set c.loop-i.depths.items _ _ ∙ c.loop-i.invariant.long;
      small = small_set c.loop-i.depths.items (get_or c.args.numbers.now c.loop-i.i 0) c.greater.result c.loop-i.invariant.small c.greater.type_inv;
      least = raised c.args.numbers.now (map three_of c.args.labels.now) c.loop-i.depths.items c.loop-i.i (get_or c.args.numbers.now c.loop-i.i 0) c.index.result.now c.greatest.result c.greater.result
          c.loop-i.invariant.least c.loop-i-test.true refl old most c.greater.ensures;
    }
