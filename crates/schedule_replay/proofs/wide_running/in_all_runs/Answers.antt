use Rattle.std.proofs.Common.{◌<◌, ℕ, List, ap}
use Rattle.tmr_base.specs.declared.ids.NetId.{NetId}
use Rattle.table_cover.proofs.WordLaws.{word_bit_ones}
use Rattle.net_simulator.specs.Cycle.{forced_in}
use Rattle.schedule_replay.proofs.Starting.{nothing_in}
use Rattle.schedule_replay.proofs.wide_running.in_all_runs.Goals as goal

pub returns-clause-forced : goal.returns-clause-forced
returns-clause-forced c = λ j x l. c.in_ok-push_pairs.ensures.own j x l (word_bit_ones j l) (ap (λ (fs : List (NetId × ℕ × ℕ)). forced_in j fs x) c.new-forced.ensures.items)

pub returns-clause-nets : goal.returns-clause-nets
returns-clause-nets c = λ high all. c.in_ok-push_pairs.ensures.nets high all (nothing_in (λ f. f.0.0 < high) c.new-forced.result.items c.new-forced.ensures.items)
