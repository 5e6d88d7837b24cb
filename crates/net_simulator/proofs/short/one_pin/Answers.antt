use Rattle.std.proofs.Common.{ℕ, List, ◌*◌, ◌/◌, ◌%◌, ◌^◌, ◌∙◌, ap}
use Rattle.std.specs.Prelude.{slice_index_or}
use Rattle.table_cover.specs.Words.{word_bit}
use Rattle.net_simulator.proofs.ShortTables.{last_pin}
use Rattle.net_simulator.proofs.short.one_pin.Goals as goal

pub returns : goal.returns
returns c = λ x j is h l. ap (λ (e : List ℕ). word_bit j (slice_index_or e (c.args.word / 2 ^ (2 * c.args.high) % 4) 0)) is ∙ last_pin j x c.args.word c.args.high l h
