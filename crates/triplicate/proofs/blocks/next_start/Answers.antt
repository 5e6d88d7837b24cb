use Rattle.std.proofs.Common.{◌≡◌, ◌+◌, length, ap, ◌∙◌, arith}
use Rattle.triplicate.specs.Pins.{pin_is_voted}
use Rattle.triplicate.specs.Voting.{voting_parts}
use Rattle.triplicate.proofs.Places.{start_more, start_few}
use Rattle.triplicate.proofs.blocks.next_start.Goals as goal

pub overflow_cast-voting : goal.overflow_cast-voting
overflow_cast-voting c =
    let row : length c.row.result.now ≡ length (voting_parts c.args.n.now.net c.args.parts.now (pin_is_voted c.args.n.now.net c.args.parts.now c.args.votes.now) c.args.x) = ap length (c.row.ensures ∙ c.requires.voters.row c.args.x c.requires.net) in
    omega (arith, row, start_more c.args.n.now.net c.args.parts.now (pin_is_voted c.args.n.now.net c.args.parts.now c.args.votes.now) c.args.x, start_few c.args.n.now.net c.args.parts.now (pin_is_voted c.args.n.now.net c.args.parts.now c.args.votes.now) (c.args.x + 1) (omega (arith, c.requires.net)), c.requires.few)

pub overflow_add-result : goal.overflow_add-result
overflow_add-result c =
    omega (arith, c.requires.start, c.copies-copied.ensures, start_more c.args.n.now.net c.args.parts.now (pin_is_voted c.args.n.now.net c.args.parts.now c.args.votes.now) c.args.x, start_few c.args.n.now.net c.args.parts.now (pin_is_voted c.args.n.now.net c.args.parts.now c.args.votes.now) (c.args.x + 1) (omega (arith, c.requires.net)), c.requires.few)

pub overflow_mul-result : goal.overflow_mul-result
overflow_mul-result c =
    let row : length c.row.result.now ≡ length (voting_parts c.args.n.now.net c.args.parts.now (pin_is_voted c.args.n.now.net c.args.parts.now c.args.votes.now) c.args.x) = ap length (c.row.ensures ∙ c.requires.voters.row c.args.x c.requires.net) in
    omega (arith, row, start_more c.args.n.now.net c.args.parts.now (pin_is_voted c.args.n.now.net c.args.parts.now c.args.votes.now) c.args.x, start_few c.args.n.now.net c.args.parts.now (pin_is_voted c.args.n.now.net c.args.parts.now c.args.votes.now) (c.args.x + 1) (omega (arith, c.requires.net)), c.requires.few)

pub overflow_add-result-2 : goal.overflow_add-result-2
overflow_add-result-2 c =
    let row : length c.row.result.now ≡ length (voting_parts c.args.n.now.net c.args.parts.now (pin_is_voted c.args.n.now.net c.args.parts.now c.args.votes.now) c.args.x) = ap length (c.row.ensures ∙ c.requires.voters.row c.args.x c.requires.net) in
    omega (arith, row, c.requires.start, c.copies-copied.ensures, start_more c.args.n.now.net c.args.parts.now (pin_is_voted c.args.n.now.net c.args.parts.now c.args.votes.now) c.args.x, start_few c.args.n.now.net c.args.parts.now (pin_is_voted c.args.n.now.net c.args.parts.now c.args.votes.now) (c.args.x + 1) (omega (arith, c.requires.net)), c.requires.few)

pub returns : goal.returns
returns c =
    let row : length c.row.result.now ≡ length (voting_parts c.args.n.now.net c.args.parts.now (pin_is_voted c.args.n.now.net c.args.parts.now c.args.votes.now) c.args.x) = ap length (c.row.ensures ∙ c.requires.voters.row c.args.x c.requires.net) in
    omega (arith, row, c.requires.start, c.copies-copied.ensures, start_more c.args.n.now.net c.args.parts.now (pin_is_voted c.args.n.now.net c.args.parts.now c.args.votes.now) c.args.x)
