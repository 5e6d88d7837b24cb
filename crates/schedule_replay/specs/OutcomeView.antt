-- An outcome as its fields.
use Rattle.schedule_replay.specs.declared.outcome.Outcome.{Outcome}
use Rattle.schedule_replay.specs.Outcome.{PlainOutcome}

abbrev pub plain_outcome : Outcome → PlainOutcome
plain_outcome o = record { allowed = o.allowed; first = o.first.items; differences = o.differences; wrong = o.wrong; late = o.late }
