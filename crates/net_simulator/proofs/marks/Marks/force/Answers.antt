use Rattle.std.proofs.Common.{ℕ, ◌≡◌, ◌∙◌, ◌<◌, ◌||◌, true, false, length, slice_index, sym, ap, arith}
use Rattle.std.proofs.lemmas.List.{get_or_default}
use Rattle.std.specs.Prelude.{bit_or}
use Rattle.std.proofs.lemmas.Grind.{get_or_default_zero}
use Rattle.std.specs.Option.{unwrap_or}
use Rattle.net_meaning.specs.Meaning.{bit}
use Rattle.net_simulator.specs.Settled.{mark}
use Rattle.table_cover.specs.Words.{word_bit}
use Rattle.table_cover.proofs.WordLaws.{word_bit_or}
use Rattle.net_simulator.proofs.MarkLaws.{more_runs}
use Rattle.net_simulator.proofs.marks.Marks.force.Goals as goal

pub returns-then-index-clause-forced : goal.returns-then-index-clause-forced
returns-then-index-clause-forced c = λ j y l.
    let masks = c.args.self.now.masks.items in
    let values = c.args.self.now.values.items in
    let k : ℕ = c.args.x.0 in
    let in_masks : k < length masks = omega arith in
    let in_values : k < length values = omega arith in
    let on : bit c.args.self.now.forced.items k ≡ true = sym (c.index.ensures ∙ get_or_default c.args.self.now.forced.items k c.index.result.now false (omega arith)) ∙ c.if-index.true in
    let mask : c.index_mut-then-index.result.now ≡ slice_index masks k = c.index_mut-then-index.ensures.value ∙ get_or_default_zero masks k c.index_mut-then-index.result.now in_masks in
    let value : c.index-then-index.result.now ≡ slice_index values k = c.index-then-index.ensures ∙ get_or_default_zero values k c.index-then-index.result.now in_values in
    more_runs c.args.self.now.forced.items masks values k y j c.args.mask c.args.value (bit_or c.index_mut-then-index.result.now c.args.mask) c.merged.result on in_masks in_values
    (word_bit_or j c.index_mut-then-index.result.now c.args.mask ∙ ap (λ (w : ℕ). word_bit j w || word_bit j c.args.mask) mask)
    (c.merged.ensures j l ∙ ap (λ (w : ℕ). unwrap_or (mark (word_bit j c.args.mask) (word_bit j c.args.value)) (word_bit j w)) value)
