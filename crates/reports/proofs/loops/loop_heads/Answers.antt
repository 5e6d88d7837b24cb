use Rattle.std.proofs.Common.{◌≡◌, ◌<◌, ◌∙◌, length, false, true, refl, arith}
use Rattle.std.specs.Prelude.{slice_set}
use Rattle.std.proofs.lemmas.List.{get_or_default}
use Rattle.recovery_depth.specs.Walks.{is_marked}
use Rattle.reports.proofs.CountLaws.{one_more_head}
use Rattle.reports.proofs.loops.loop_heads.Goals as goal

pub loop-x-preserved : goal.loop-x-preserved
loop-x-preserved c =
    let within : c.of-k.result < length c.args.groups.now.loops = omega (arith, c.of-k.ensures, c.requires.below c.loop-x.x c.loop-x-test.true) in
    let was : c.index.result.now ≡ is_marked c.loop-x.seen.items c.of-k.result = c.index.ensures ∙ get_or_default c.loop-x.seen.items c.of-k.result c.index.result.now false (omega (arith, within, c.loop-x.invariant.long)) in
    one_more_head c.args.groups.now c.loop-x.x c.of-k.result c.has_loop.result c.index.result.now c.is_new_loop-head.result c.loop-x.seen.items c.loop-x.heads.items (slice_set c.loop-x.seen.items c.of-k.result true) c.push.new.self.items c.loop-x.invariant (omega (arith, c.requires.count, c.loop-x-test.true)) c.of-k.ensures within c.has_loop.ensures was c.is_new_loop-head.ensures c.in_ok-push.ensures.items refl
