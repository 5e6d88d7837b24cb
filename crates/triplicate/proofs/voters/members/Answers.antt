use Rattle.std.proofs.Common.{◌≡◌, ◌+◌, ◌<◌, ℕ, List, length, sym, subst, ap, ◌∙◌, arith}
use Rattle.std.specs.Prelude.{slice_index}
use Rattle.node_reads.specs.Noting.{Lists, noted}
use Rattle.triplicate.specs.Private.Noted.{is_in}
use Rattle.triplicate.proofs.VoterRows.{member_noted}
use Rattle.triplicate.proofs.voters.members.Goals as goal

pub loop-y-preserved : goal.loop-y-preserved
loop-y-preserved c =
    let part : c.of-part.result ≡ slice_index c.args.parts.now.of c.loop-y.y = c.of-part.ensures.value in
    let below : slice_index c.args.parts.now.of c.loop-y.y < c.args.parts.now.count = omega (arith, part, c.of-part.ensures.range) in
    subst (λ (rows : List (List ℕ)). Lists (is_in c.args.parts.now) (c.loop-y.y + 1) c.args.parts.now.count rows)
    (sym (c.in_ok-note.ensures.rows ∙ ap (λ p. noted c.loop-y.rows p c.loop-y.y) part))
    (member_noted c.args.parts.now c.loop-y.y c.args.parts.now.count c.loop-y.rows c.loop-y.invariant below)

pub returns : goal.returns
returns c =
    let end : c.loop-y.y ≡ length c.args.n.now.net.nodes = omega (arith, c.loop-y-test.false, c.nodes_of-y-end.ensures.count) in
    subst (λ (rows : List (List ℕ)). Lists (is_in c.args.parts.now) (length c.args.n.now.net.nodes) c.args.parts.now.count rows) (sym c.in_ok-packed.ensures)
    (subst (λ (k : ℕ). Lists (is_in c.args.parts.now) k c.args.parts.now.count c.loop-y.rows) end c.loop-y.invariant)
