use Rattle.std.proofs.Common.{◌≡◌, ◌∙◌, subst, sym}
use Rattle.tmr_base.specs.Parts.{PlainParts}
use Rattle.partitioner.specs.Sizes.{KeepsSize}
use Rattle.partitioner.proofs.RefineLaws.{refined_none}
use Rattle.triplicate.proofs.choosing.as_they_are.Goals as goal

pub returns-clause-parts : goal.returns-clause-parts
returns-clause-parts c = c.in_ok-found.ensures.exact ∙ refined_none c.args.n.now.net c.args.size c.args.short.now.parts

pub returns-clause-told : goal.returns-clause-told
returns-clause-told c =
    let n = c.args.n.now.net in
    let size = c.args.size in
    let found = c.in_ok-found.ensures in
    let same = found.exact ∙ refined_none n size c.args.short.now.parts in
    record {
      keeps = subst (λ (p : PlainParts). KeepsSize n size p) (sym same) c.requires.parts;
      range = found.range;
      pairs = found.cost;
      minimal = found.minimal;
    }
