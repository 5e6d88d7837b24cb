use Rattle.std.proofs.Common.{◌<◌, ℕ, length, sym, ◌∙◌, subst, arith, All}
use Rattle.tmr_base.specs.declared.copies.CopyNo.TheVariants.{First}
use Rattle.sweep.proofs.CountLaws.{room, room_behind, row_within, net_counted}
use Rattle.sweep.proofs.counting.count_net.Goals as goal

pub count_copies-requires-clause-few : goal.count_copies-requires-clause-few
count_copies-requires-clause-few c = λ p l. omega (arith, room c.args.n.now.net c.args.plan.now c.args.x p c.args.counts.now c.requires.few c.requires.net c.requires.counts (omega (arith, l, c.requires.counts.long)))

pub count_each-requires-clause-within : goal.count_each-requires-clause-within
count_each-requires-clause-within c =
    let row = c.row.ensures ∙ c.requires.voters.row c.args.x c.requires.net in
    let m : ℕ = length c.count_copies.new.counts in
    subst (All (λ p. p < m)) (sym row) (row_within c.args.n.now.net c.args.plan.now c.args.x m (omega (arith, c.count_copies.auto.counts, c.requires.counts.long)))

pub count_each-requires-clause-few : goal.count_each-requires-clause-few
count_each-requires-clause-few c = λ p l.
    let row = c.row.ensures ∙ c.requires.voters.row c.args.x c.requires.net in
    let within : p < length c.args.counts.now = omega (arith, l, c.count_copies.auto.counts) in
    room_behind c.args.n.now.net c.args.plan.now c.args.x p c.args.counts.now c.count_copies.new.counts c.row.result.now c.requires.few c.requires.net c.requires.counts (omega (arith, within, c.requires.counts.long)) row (c.count_copies.ensures p First within)

pub returns : goal.returns
returns c =
    let row = c.row.ensures ∙ c.requires.voters.row c.args.x c.requires.net in
    net_counted c.args.n.now.net c.args.plan.now c.args.x c.args.counts.now c.count_copies.new.counts c.count_each.new.counts c.row.result.now c.requires.counts c.count_copies.auto.counts c.count_each.auto.counts row c.count_copies.ensures c.count_each.ensures
