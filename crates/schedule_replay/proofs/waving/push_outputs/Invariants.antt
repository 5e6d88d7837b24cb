use Rattle.std.proofs.Common.{◌≡◌, ◌++◌, List, Bool, Some}
use Rattle.std.specs.Prelude.{option_map}
use Rattle.table_cover.specs.Words.{bits_of}
use Rattle.net_meaning.specs.Meaning.{row_at}
use Rattle.schedule_replay.specs.Outcome.{outputs_in}
use Rattle.schedule_replay.specs.Waves.{waves}
use Rattle.schedule_replay.proofs.waving.push_outputs.Given as goal

abbrev pub invariant-loop-i : goal.invariant-loop-i
invariant-loop-i l = (tr ft : List (List Bool)) → option_map (bits_of 0) l.r.original.last ≡ Some (row_at tr l.t) → option_map (bits_of 0) l.r.hardened.last ≡ Some (row_at ft l.t) →
    l.values.items ≡ l.fn.values.items ++ waves (outputs_in l.n.net l.h.net tr ft l.t l.i)
