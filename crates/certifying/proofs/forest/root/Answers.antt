use Rattle.std.proofs.Common.{◌≡◌, ℕ, ◌<◌, ◌≤◌, length, Option, get_or, ap, ◌∙◌, arith}
use Rattle.std.proofs.lemmas.List.{length-set}
use Rattle.certifying.specs.Private.Forests.{GoesAlong}
use Rattle.certifying.proofs.ForestLaws.{forest_set, along_set}
use Rattle.certifying.proofs.forest.root.Goals as goal

pub loop-x-preserved : goal.loop-x-preserved
loop-x-preserved c =
    let parent : c.parent_of-parent.result ≡ get_or c.loop-x.up.items c.loop-x.x 0 = c.parent_of-parent.ensures in
    let next : c.parent_of-next.result ≡ get_or c.loop-x.up.items c.parent_of-parent.result 0 = c.parent_of-next.ensures in
    let here : c.loop-x.x < length c.loop-x.up.items = omega (arith, c.loop-x.invariant.long, c.loop-x.invariant.bound, c.loop-x.invariant.within) in
    let below : c.parent_of-parent.result ≤ c.loop-x.x = omega (arith, parent, c.loop-x.invariant.forest c.loop-x.x here) in
    let there : c.parent_of-parent.result < length c.loop-x.up.items = omega (arith, below, here) in
    let lower : c.parent_of-next.result ≤ c.parent_of-parent.result = omega (arith, next, c.loop-x.invariant.forest c.parent_of-parent.result there) in
    let step = λ (f : ℕ → Option ℕ) (al : GoesAlong f c.args.up.now.items).
    ap f next ∙ (c.loop-x.invariant.along f al c.parent_of-parent.result there ∙ (ap f parent ∙ c.loop-x.invariant.along f al c.loop-x.x here)) in
    record {
      long = length-set c.loop-x.up.items _ _ ∙ c.loop-x.invariant.long;
      bound = c.loop-x.invariant.bound;
      forest = forest_set c.loop-x.up.items c.loop-x.x c.parent_of-next.result c.loop-x.invariant.forest (omega (arith, below, lower));
      within = omega (arith, below, lower, c.loop-x.invariant.within);
      same = λ f al. step f al ∙ c.loop-x.invariant.same f al;
      along = λ f al. along_set f c.loop-x.up.items c.loop-x.x c.parent_of-next.result (c.loop-x.invariant.along f al) (step f al);
    }
