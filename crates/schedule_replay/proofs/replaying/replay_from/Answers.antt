use Rattle.std.proofs.Common.{◌≡◌, ◌∙◌, ◌<◌, Some, length, slice_get, refl, arith}
use Rattle.std.proofs.lemmas.Option.{slice_get_read}
use Rattle.schedule_replay.specs.declared.outcome.Outcome.{Outcome}
use Rattle.schedule_replay.proofs.OneSchedule.{first_of_one}
use Rattle.schedule_replay.proofs.replaying.replay_from.Goals as goal

pub returns : goal.returns
returns c = λ f w g u mf mg sf sg.
    let o : Outcome = c.swap_remove.result in
    let long : length c.in_ok-outcomes.outcomes.items ≡ 1 = c.in_ok-outcomes.ensures.outcomes.long ∙ c.from_ref.ensures.len in
    let some : 0 < length c.in_ok-outcomes.outcomes.items = omega arith in
    let at_s = first_of_one c.from_ref.result.now c.args.s.now c.from_ref.ensures.value in
    let at_o : slice_get c.in_ok-outcomes.outcomes.items 0 ≡ Some o = slice_get_read c.in_ok-outcomes.outcomes.items (length c.in_ok-outcomes.outcomes.items) 0 o refl some c.swap_remove.ensures.value in
    c.in_ok-outcomes.ensures.outcomes.each 0 c.args.s.now o f w g u at_s at_o mf mg sf sg
