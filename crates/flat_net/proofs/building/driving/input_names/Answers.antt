use Rattle.std.proofs.Common.{◌≡◌, [], get_or, take, ◌∙◌}
use Rattle.std.specs.Str.{bytes_eq}
use Rattle.std.proofs.lemmas.List.{get_or_read}
use Rattle.indexmap.specs.IndexSet.{insert_key}
use Rattle.flat_net.proofs.Names.{insert_next}
use Rattle.flat_net.proofs.building.driving.input_names.Goals as goal

pub loop-input-preserved : goal.loop-input-preserved
loop-input-preserved c =
    let here = get_or_read c.args.inputs.now c.loop-input.input-index c.input-item.result c.loop-input-test.true c.input-item.is [] in
    let same : c.in_ok-copy.field-0 ≡ get_or c.args.inputs.now c.loop-input.input-index [] = c.in_ok-copy.ensures ∙ here in
    let inserted : c.insert.new.self.keys ≡ insert_key bytes_eq (take c.loop-input.input-index c.args.inputs.now) (get_or c.args.inputs.now c.loop-input.input-index []) = cc (c.in_ok-insert.ensures.keys, c.loop-input.invariant, same) in
    inserted ∙ insert_next c.args.inputs.now c.loop-input.input-index c.requires c.loop-input-test.true
