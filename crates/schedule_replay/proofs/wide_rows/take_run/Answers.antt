use Rattle.std.proofs.Common.{◌≡◌, ℕ, List, length, sym, subst, arith}
use Rattle.std.proofs.lemmas.List.{with_items_is}
use Rattle.schedule_replay.proofs.Quiet.{tell_quiet}
use Rattle.schedule_replay.proofs.wide_rows.take_run.Goals as goal
use Rattle.schedule_replay.specs.Private.Telling.{TellQuiet}

pub returns-clause-quiet : goal.returns-clause-quiet
returns-clause-quiet c =
    let lasts_len : length c.take_upsets.new.lasts ≡ c.args.p.now.lasts.len = omega arith in
    subst (λ (ls : List ℕ). TellQuiet c.args.c.now c.args.s.now.upsets c.args.t ls) (sym (with_items_is c.args.p.now.lasts c.take_upsets.new.lasts lasts_len))
    (tell_quiet c.args.c.now c.args.s.now.upsets c.args.t c.in_ok-p.field-0 c.take_upsets.new.lasts c.in_ok-p.ensures.taken c.in_ok-p.ensures.latest)
