use Rattle.std.proofs.Common.{◌∷◌, [], length, ap, arith}
use Rattle.std.proofs.lemmas.List.{length-append}
use Rattle.schedule_replay.specs.declared.wide_rows.Progress.{Progress}
use Rattle.schedule_replay.specs.Wide.{IsFresh}
use Rattle.schedule_replay.proofs.WideLaws.{pushed_each, fresh_taken}
use Rattle.schedule_replay.proofs.wide_rows.start_progress.Goals as goal

pub loop-made-preserved : goal.loop-made-preserved
loop-made-preserved c =
    let p : Progress = c.in_ok-progress.progress in
    record {
      long = let same = ap length c.in_ok-push.ensures.items in let before = c.loop-made.invariant.long in omega (arith, same, length-append c.loop-made.runs.items (p ∷ []));
      each = pushed_each (λ j q. IsFresh c.args.c.now q) c.loop-made.runs.items c.push.new.self.items p c.in_ok-push.ensures.items c.loop-made.invariant.each c.in_ok-progress.ensures;
    }

pub returns : goal.returns
returns c = record {
  long = let long = c.loop-made.invariant.long in omega arith;
  each = λ j s p at_s at_p. fresh_taken c.args.c.now s.upsets p (c.loop-made.invariant.each j p at_p);
}
