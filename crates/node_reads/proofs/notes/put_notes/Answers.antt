use Rattle.std.proofs.Common.{◌≡◌, length, get_or, ◌∙◌, arith}
use Rattle.std.specs.Prelude.{slice_index}
use Rattle.std.proofs.lemmas.List.{get_or_default}
use Rattle.node_reads.proofs.LoggedLaws.{no_note, put_none, put_next, at_within, put_all_ends, put_all_laid}
use Rattle.node_reads.proofs.notes.put_notes.Goals as goal

pub loop-k-init : goal.loop-k-init
loop-k-init c = put_none (length c.args.places.now.items) c.args.log.now c.args.places.now.items c.args.flat.now.items c.requires.starts c.requires.long

pub index_mut-requires : goal.index_mut-requires
index_mut-requires c =
    let row = c.requires.rows c.loop-k.k no_note c.loop-k-test.true in
    let at : c.index-at.result.now ≡ slice_index c.loop-k.places.items (get_or c.args.log.now c.loop-k.k no_note).row = c.index-at.ensures ∙ get_or_default c.loop-k.places.items (get_or c.args.log.now c.loop-k.k no_note).row c.index-at.result.now 0 (omega (arith, row, c.loop-k.invariant.places_long)) in
    omega (arith, at_within (length c.args.places.now.items) c.args.log.now c.loop-k.k c.loop-k.places.items c.loop-k.flat.items c.index-at.result.now c.loop-k.invariant c.requires.rows c.loop-k-test.true at)

pub overflow_add-at : goal.overflow_add-at
overflow_add-at c =
    let row = c.requires.rows c.loop-k.k no_note c.loop-k-test.true in
    let at : c.index-at.result.now ≡ slice_index c.loop-k.places.items (get_or c.args.log.now c.loop-k.k no_note).row = c.index-at.ensures ∙ get_or_default c.loop-k.places.items (get_or c.args.log.now c.loop-k.k no_note).row c.index-at.result.now 0 (omega (arith, row, c.loop-k.invariant.places_long)) in
    omega (
      arith,
      at_within (length c.args.places.now.items) c.args.log.now c.loop-k.k c.loop-k.places.items c.loop-k.flat.items c.index-at.result.now c.loop-k.invariant c.requires.rows c.loop-k-test.true at,
      c.loop-k.invariant.flat_long,
      c.requires.few,
    )

pub loop-k-preserved : goal.loop-k-preserved
loop-k-preserved c =
    let row = c.requires.rows c.loop-k.k no_note c.loop-k-test.true in
    let at : c.index-at.result.now ≡ slice_index c.loop-k.places.items (get_or c.args.log.now c.loop-k.k no_note).row = c.index-at.ensures ∙ get_or_default c.loop-k.places.items (get_or c.args.log.now c.loop-k.k no_note).row c.index-at.result.now 0 (omega (arith, row, c.loop-k.invariant.places_long)) in
    put_next (length c.args.places.now.items) c.args.log.now c.loop-k.k c.loop-k.places.items c.loop-k.flat.items c.index-at.result.now c.loop-k.invariant c.requires.rows c.loop-k-test.true at

pub returns-clause-ends : goal.returns-clause-ends
returns-clause-ends c = put_all_ends (length c.args.places.now.items) c.args.log.now c.loop-k.k c.loop-k.places.items c.loop-k.flat.items c.loop-k.invariant (omega (arith, c.loop-k-test.false))

pub returns-clause-laid : goal.returns-clause-laid
returns-clause-laid c = put_all_laid (length c.args.places.now.items) c.args.log.now c.loop-k.k c.loop-k.places.items c.loop-k.flat.items c.loop-k.invariant (omega (arith, c.loop-k-test.false))
