use Rattle.std.proofs.Common.{◌≡◌, ◌∙◌, ◌-◌, ◌≤◌, ℕ, length, drop, ap, subst, arith}
use Rattle.table_cover.specs.Cover.{cover_value}
use Rattle.table_cover.specs.Words.{bits_of}
use Rattle.net_simulator.specs.Truth.{number_from, places}
use Rattle.net_simulator.proofs.TruthLaws.{bits_are, number_below}
use Rattle.net_simulator.proofs.truth.word_of_cover.Goals as goal

pub returns : goal.returns
returns c = λ bits long.
    let few : length bits ≤ 6 = omega arith in
    let places_of : bits_of (number_from 0 bits) (drop (6 - c.args.pins) places) ≡ bits =
    subst (λ (k : ℕ). bits_of (number_from 0 bits) (drop (6 - k) places) ≡ bits) long (bits_are bits few) in
    c.wide_value.ensures (number_from 0 bits) (number_below bits few) ∙ ap (cover_value c.args.cover.now) (ap (bits_of (number_from 0 bits)) c.split_at.ensures.back ∙ places_of)
