use Rattle.std.proofs.Common.{refl}
use Rattle.std.proofs.lemmas.Option.{slice_get_read}
use Rattle.net_simulator.proofs.Nodes.{entry_table, entry_low, entry_high}
use Rattle.net_simulator.proofs.tables.entry_at.Goals as goal

pub returns-clause-table : goal.returns-clause-table
returns-clause-table c = entry_table c.args.net.now.net c.args.tables.now c.requires.tables c.args.i c.index.result.now (slice_get_read c.args.tables.now.entries.items _ c.args.i c.index.result.now refl c.requires.i c.index.ensures)

pub returns-clause-high : goal.returns-clause-high
returns-clause-high c = entry_high c.args.net.now.net c.args.tables.now c.requires.tables c.args.i c.index.result.now (slice_get_read c.args.tables.now.entries.items _ c.args.i c.index.result.now refl c.requires.i c.index.ensures)

pub returns-clause-low : goal.returns-clause-low
returns-clause-low c = entry_low c.args.net.now.net c.args.tables.now c.requires.tables c.args.i c.index.result.now (slice_get_read c.args.tables.now.entries.items _ c.args.i c.index.result.now refl c.requires.i c.index.ensures)
