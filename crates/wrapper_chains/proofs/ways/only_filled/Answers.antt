use Rattle.std.proofs.Common.{◌+◌, ◌∙◌, map, sym, ap, subst}
use Rattle.blif_text.specs.Views.{plain_element}
use Rattle.wrapper_chains.specs.Bare.{is_bare_element}
use Rattle.wrapper_chains.proofs.OneElement.{IsOnlyBefore, bare_more, first_filled}
use Rattle.library_faults.proofs.Models.{element_is}
use Rattle.wrapper_chains.proofs.ways.only_filled.Goals as goal
use Rattle.wrapper_chains.proofs.ways.only_filled.Goals.{then-not-is_bare+else-is_some, else-not-is_bare}

pub loop-i-preserved : goal.loop-i-preserved
loop-i-preserved c = elim c.if-not-is_bare.branch [
  | then-not-is_bare+else-is_some w ↦ subst (IsOnlyBefore c.args.names.now.keys c.args.holds.now (map plain_element c.args.elements.now) (c.loop-i.i + 1)) (sym w.only-is) (first_filled c.args.names.now.keys c.args.holds.now (map plain_element c.args.elements.now) c.loop-i.i c.loop-i.only (sym w.is_some.ensures ∙ w.if-is_some.false) c.loop-i.invariant)
  | else-not-is_bare w ↦ subst (IsOnlyBefore c.args.names.now.keys c.args.holds.now (map plain_element c.args.elements.now) (c.loop-i.i + 1)) (sym w.only-is) (bare_more c.args.names.now.keys c.args.holds.now (map plain_element c.args.elements.now) c.loop-i.i c.loop-i.only c.loop-i.invariant (ap (is_bare_element c.args.names.now.keys c.args.holds.now) (element_is c.args.elements.now c.loop-i.i c.index-elements-i.result c.loop-i-test.true c.index-elements-i.is) ∙ (sym c.is_bare.ensures ∙ w.if-not-is_bare.false)))
]
