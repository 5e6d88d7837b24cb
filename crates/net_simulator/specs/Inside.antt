-- Only private functions cite this: what the fields of the simulators hold.
use Rattle.std.specs.Prelude.{◌≡◌, length, map}
use Rattle.flat_net.specs.Net.{net_count}
use Rattle.flat_net.specs.Nodes.{number_of}
use Rattle.net_simulator.specs.Beside.{AreTwins, IsRoom}
use Rattle.net_simulator.specs.Cycle.{WideRun}
use Rattle.net_simulator.specs.Layouts.{IsLayout}
use Rattle.net_simulator.specs.Settled.{last_of, AreMarks}
use Rattle.net_simulator.specs.Twins.{TwinRun}
use Rattle.net_simulator.specs.Tables.{AreTables, entry_nets}
use Rattle.net_simulator.specs.Truth.{AreTruths}
use Rattle.net_simulator.specs.declared.wide.WideSim.TheInside as wide
use Rattle.net_simulator.specs.declared.twin_sim.TwinSim.TheInside as twin

abbrev pub wide_run_of : wide.Inside → WideRun
wide_run_of s = record { net = s.net.now.net; last = last_of s.started s.words.items }

-- there is a word for each net in two cycles, and what is forced on each in the next
pub record IsWideSim (s : wide.Inside) : Type 0 where
  pub words : length s.words.items ≡ net_count s.net.now.net
  pub before : length s.before.items ≡ net_count s.net.now.net
  pub marks : AreMarks (net_count s.net.now.net) s.marks
  pub tables : AreTables s.net.now.net s.tables
  pub truths : AreTruths s.net.now.net (entry_nets s.tables.entries.items) s.truths

abbrev pub twin_run_of : twin.Inside → TwinRun
twin_run_of s = record {
  net = s.layout.net.now.net;
  last = last_of s.started s.words.items;
  original = s.original.now.net;
  origins = map number_of s.layout.twins.origins.items;
  differing = s.changes.differing.items;
}

-- the same, and what is known of the design beside the other one
pub record IsTwinSim (s : twin.Inside) : Type 0 where
  pub words : length s.words.items ≡ net_count s.layout.net.now.net
  pub before : length s.before.items ≡ net_count s.layout.net.now.net
  pub marks : AreMarks (net_count s.layout.net.now.net) s.marks
  pub layout : IsLayout s.layout
  pub twins : AreTwins s.original.now.net s.layout.net.now.net s.layout.twins
  pub room : IsRoom (net_count s.layout.net.now.net) s.layout.twins s.changes
  pub differing : length s.changes.differing.items ≡ net_count s.original.now.net
