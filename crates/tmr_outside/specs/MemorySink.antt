-- What a sink in memory is, and what calls do to it.
use Rattle.std.specs.Prelude.{ℕ, ◌+◌, ◌-◌, ◌^◌, min, ◌++◌, List, refl}
use Rattle.std.specs.Coded.{Coded, code_by, coded×, coded_ℕ, coded_list}
use Rattle.tmr_outside.specs.Plan.{Plan, plan_code, after_call, with_failure}

-- the bytes that went out, how many calls failed, and which calls are to fail
pub record SinkInMemory : Type 0 where
  pub bytes : List ℕ
  pub faults : ℕ
  pub plan : Plan

-- a sink is stored as the tuple of its fields
abbrev pub sink_code : Coded SinkInMemory
sink_code = code_by (List ℕ × (ℕ × Plan)) (coded× (coded_list coded_ℕ) (coded× coded_ℕ plan_code))
    (λ sink. (sink.bytes, (sink.faults, sink.plan))) (λ p. record { bytes = p.0; faults = p.1.0; plan = p.1.1 }) (λ _. refl)

-- a call was made that let these bytes out
abbrev pub letting_out : SinkInMemory → List ℕ → SinkInMemory
letting_out sink bytes = record sink { bytes = sink.bytes ++ bytes; plan = after_call sink.plan }

-- a call failed; the count ends at the last number of 64 bits
abbrev pub counting_fault : SinkInMemory → SinkInMemory
counting_fault sink = record sink { faults = min (sink.faults + 1) (2 ^ 64 - 1) }

-- one more call is to fail, or lets out another prefix
abbrev pub failing_at : SinkInMemory → ℕ → ℕ → SinkInMemory
failing_at sink call keep = record sink { plan = with_failure sink.plan call keep }
