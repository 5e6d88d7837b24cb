-- Only private functions cite this: the tables of a design that runs beside another one.
use Rattle.net_simulator.specs.Tables.{AreTables, entry_nets}
use Rattle.net_simulator.specs.Truth.{AreTruths}
use Rattle.net_simulator.specs.declared.twin_sim.Layout.{Layout}

pub record IsLayout (l : Layout) : Type 0 where
  pub tables : AreTables l.net.now.net l.tables
  pub truths : AreTruths l.net.now.net (entry_nets l.tables.entries.items) l.truths
