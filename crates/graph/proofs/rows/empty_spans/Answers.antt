use Rattle.std.proofs.Common.{◌≡◌, suc, ◌+◌, ◌++◌, [], ◌∷◌, sym, arith}
use Rattle.graph.proofs.EndLaws.{end_within, emptied_more}
use Rattle.graph.proofs.rows.empty_spans.Goals as goal

pub push-requires-clause-room : goal.push-requires-clause-room
push-requires-clause-room c =
    let place = end_within 0 c.args.ends.now c.args.count c.loop-x.x c.requires (omega arith) in
    omega (arith, place.0, c.loop-x.invariant.from, c.at-limit.ensures)

pub loop-x-preserved : goal.loop-x-preserved
loop-x-preserved c =
    let next : suc c.loop-x.x ≡ c.loop-x.x + 1 = omega arith in
    let more = emptied_more 0 c.args.ends.now c.loop-x.x (omega arith) in
    let pushed : c.push.new.self ≡ c.loop-x.empty ++ record { from = c.loop-x.from; to = c.loop-x.from; limit = c.at-limit.result } ∷ [] = c.in_ok-push.ensures in
    rw (sym next) (record { empty = rw (pushed, c.loop-x.invariant.empty, c.loop-x.invariant.from, c.at-limit.ensures) (sym more); from = c.at-limit.ensures })
