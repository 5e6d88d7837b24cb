use Rattle.std.proofs.Common.{◌≡◌, ◌++◌, drop}
use Rattle.tmr_texts.specs.ReplayText.{waves_at, output_waves}
use Rattle.tmr_top.proofs.commands.wave.output_waves.Given as goal

abbrev pub invariant-loop-k : goal.invariant-loop-k
invariant-loop-k l = l.names.items ++ waves_at l.n.net (drop l.k l.n.net.outputs) ≡ output_waves l.n.net
