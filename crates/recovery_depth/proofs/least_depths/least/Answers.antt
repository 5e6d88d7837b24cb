use Rattle.std.proofs.Common.{◌≡◌, ℕ, ◌<◌, length, refl, sym, ◌∙◌, ap, subst, arith}
use Rattle.recovery_depth.specs.Private.Vertices.{HasNoLoop, IsReachIn}
use Rattle.std.specs.Prelude.{map}
use Rattle.std.proofs.lemmas.Option.{slice_get_within}
use Rattle.tmr_base.specs.Parts.{PlainParts}
use Rattle.flat_net.specs.Nodes.{number_of}
use Rattle.recovery_depth.specs.Private.Copied.{copied_rows}
use Rattle.recovery_depth.specs.Private.ChainEnds.{IsRead}
use Rattle.recovery_depth.proofs.LongestChainLaws.{IsFound, is_deep, is_least, places_long, copy_reached}
use Rattle.recovery_depth.proofs.AdmitLaws.{are_admitted}
use Rattle.recovery_depth.specs.Private.LastRegisters.{number_at}
use Rattle.recovery_depth.proofs.CopyLaws.{copied_long}
use Rattle.recovery_depth.proofs.CopyOrder.{no_copy_loop}
use Rattle.recovery_depth.proofs.least_depths.least.Goals as goal

pub ordered-requires-clause-open_ended : goal.ordered-requires-clause-open_ended
ordered-requires-clause-open_ended c = subst HasNoLoop (sym c.in_ok-graph.ensures) (no_copy_loop c.args.n.now.net c.args.h.now.net c.args.c.now c.args.h.now.order c.requires.fits c.nodes_of-count.ensures.design.order (λ g. (c.requires.corresponds 6 g).labels refl))

pub ordered-requires-clause-count : goal.ordered-requires-clause-count
ordered-requires-clause-count c = c.nodes_of-count.ensures.count ∙ sym (ap length c.in_ok-graph.ensures ∙ copied_long c.args.n.now.net c.args.h.now.net c.args.c.now c.requires.fits)

pub reaches_in-requires-clause-count : goal.reaches_in-requires-clause-count
reaches_in-requires-clause-count c = c.nodes_of-count.ensures.count ∙ sym (ap length c.in_ok-graph.ensures ∙ copied_long c.args.n.now.net c.args.h.now.net c.args.c.now c.requires.fits)

pub registers_before-requires-clause-count : goal.registers_before-requires-clause-count
registers_before-requires-clause-count c = c.nodes_of-count.ensures.count ∙ sym (ap length c.in_ok-graph.ensures ∙ copied_long c.args.n.now.net c.args.h.now.net c.args.c.now c.requires.fits)

pub registers_before-requires-clause-reached : goal.registers_before-requires-clause-reached
registers_before-requires-clause-reached c =
    rw (c.deref-3.ensures.value, c.deref-4.ensures.value) (rw c.deref.ensures.value at c.in_ok-reaches.ensures.each)

pub greatest_labels-requires : goal.greatest_labels-requires
greatest_labels-requires c =
    ap length c.deref-6.ensures.value ∙ (c.in_ok-reaches.ensures.long ∙ (c.nodes_of-count.ensures.count
    ∙ sym (ap (λ pl. length (PlainParts.of pl)) c.in_ok-places.ensures ∙ places_long c.args.n.now.net c.args.h.now.net c.args.c.now c.requires.fits c.input_count-original.ensures.design.valid c.nodes_of-count.ensures.design.valid c.requires.corresponds)))

pub returns-clause-deep : goal.returns-clause-deep
returns-clause-deep c = λ p d e.
    let rows_long : c.nodes_of-count.result ≡ length (copied_rows c.args.h.now.net c.args.c.now) = c.nodes_of-count.ensures.count ∙ sym (copied_long c.args.n.now.net c.args.h.now.net c.args.c.now c.requires.fits) in
    let found : IsFound c.args.h.now.net c.args.c.now c.in_ok-is_register.is_register.items c.in_ok-reaches.reaches.items c.in_ok-before.before.items c.in_ok-depths.depths.items c.in_ok-ends.ends.items c.in_ok-originals.originals.items c.nodes_of-count.result = record {
      bits_are = c.in_ok-is_register.ensures;
      long = c.in_ok-reaches.ensures.long ∙ rows_long;
      reached = λ g l. rw (c.deref.ensures.value, c.in_ok-graph.ensures) at (c.in_ok-reaches.ensures.each g (omega (arith, rows_long, l)));
      before_are = rw (c.deref-3.ensures.value, c.deref-4.ensures.value, c.in_ok-graph.ensures) at c.in_ok-before.ensures;
      depths_are = rw (c.deref-6.ensures.value, c.in_ok-places.ensures) at c.in_ok-depths.ensures.each;
      ends_are = rw (c.deref-7.ensures.value, c.deref-8.ensures.value, c.deref-9.ensures.value, c.deref-10.ensures.value, c.in_ok-places.ensures) at c.in_ok-ends.ensures;
      none_is = rows_long;
      originals_are = c.in_ok-originals.ensures;
    } in
    let pl : p < length c.args.c.now.depth = omega (arith, slice_get_within c.in_ok-found.found.items p d e, c.in_ok-found.ensures.long, c.parts-parts.ensures.count) in
    let read : IsRead c.in_ok-before.before.items c.in_ok-originals.originals.items c.in_ok-ends.ends.items c.in_ok-depths.depths.items p d = rw (c.deref-11.ensures.value, c.deref-12.ensures.value, c.deref-13.ensures.value, c.deref-14.ensures.value) at (c.in_ok-found.ensures.read p d e) in
    is_deep c.args.n.now.net c.args.h.now.net c.args.c.now c.requires.fits c.input_count-original.ensures.design.valid c.nodes_of-count.ensures.design.valid c.requires.corresponds c.parts-parts.ensures.cert c.in_ok-is_register.is_register.items c.in_ok-reaches.reaches.items c.in_ok-before.before.items c.in_ok-depths.depths.items c.in_ok-ends.ends.items c.in_ok-originals.originals.items c.nodes_of-count.result found p d pl read

pub returns-clause-lowest : goal.returns-clause-lowest
returns-clause-lowest c = λ labels depths a p d e.
    is_least c.args.h.now.net c.args.c.now p d.depth (map number_of d.chain.items) (returns-clause-deep c p d e) labels depths a

pub returns-clause-admitted : goal.returns-clause-admitted
returns-clause-admitted c =
    let rows_long : c.nodes_of-count.result ≡ length (copied_rows c.args.h.now.net c.args.c.now) = c.nodes_of-count.ensures.count ∙ sym (copied_long c.args.n.now.net c.args.h.now.net c.args.c.now c.requires.fits) in
    let reached : (g : ℕ) → g < length (copied_rows c.args.h.now.net c.args.c.now) → IsReachIn (copied_rows c.args.h.now.net c.args.c.now) c.in_ok-is_register.is_register.items g (number_at c.in_ok-reaches.reaches.items g) = λ g l. rw (c.deref.ensures.value, c.in_ok-graph.ensures) at (c.in_ok-reaches.ensures.each g (omega (arith, rows_long, l))) in
    are_admitted c.args.n.now.net c.args.h.now.net c.args.c.now c.requires.fits c.parts-parts.ensures.cert c.in_ok-reaches.reaches.items (copy_reached c.args.n.now.net c.args.h.now.net c.args.c.now c.requires.fits c.in_ok-is_register.is_register.items c.in_ok-reaches.reaches.items c.in_ok-is_register.ensures reached) c.in_ok-found.found.items (c.in_ok-found.ensures.long ∙ c.parts-parts.ensures.count) (returns-clause-deep c)
