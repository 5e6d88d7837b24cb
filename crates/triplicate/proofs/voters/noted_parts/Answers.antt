use Rattle.std.proofs.Common.{◌≡◌, ◌+◌, ◌<◌, ℕ, List, [], length, replicate, sym, subst, ap, ◌∙◌, arith, All}
use Rattle.std.specs.Prelude.{slice_index}
use Rattle.flat_net.specs.Net.{net_count}
use Rattle.node_reads.specs.Noting.{Lists}
use Rattle.triplicate.specs.Pins.{pin_is_voted}
use Rattle.triplicate.specs.Private.Noted.{members, nodes_noted, parts_noted}
use Rattle.triplicate.specs.Starts.{needs}
use Rattle.triplicate.specs.Taps.{IsTapped}
use Rattle.triplicate.proofs.VoterRows.{parts_none, parts_step, members_below, rows_listed, none_listed, pin_in_range}
use Rattle.triplicate.proofs.TapLaws.{noting_start, members_own, parts_tapped}
use Rattle.triplicate.proofs.voters.noted_parts.Goals as goal

pub loop-p-init : goal.loop-p-init
loop-p-init c =
    let nets : c.input_count.result + c.nodes_of.result ≡ net_count c.args.n.now.net = omega (arith, c.input_count.ensures.count, c.nodes_of.ensures.count) in
    record {
      rows = c.in_ok-rows.ensures ∙ (ap (λ k. replicate k []) nets ∙ sym (parts_none c.args.n.now.net c.args.parts.now (pin_is_voted c.args.n.now.net c.args.parts.now c.args.votes.now) (replicate (net_count c.args.n.now.net) [])));
      places = c.in_ok-taps.ensures;
      done = λ y h l. absurd (omega (arith, l));
    }

pub note_members-requires-clause-nodes : goal.note_members-requires-clause-nodes
note_members-requires-clause-nodes c =
    let row : c.row.result.now ≡ members c.args.n.now.net c.args.parts.now c.loop-p.p = c.row.ensures ∙ c.in_ok-members.ensures.row c.loop-p.p (omega (arith, c.loop-p-test.true, c.count-count.ensures)) in
    subst (λ (ys : List ℕ). All (λ y. y < length c.args.n.now.net.nodes) ys) (sym row) (members_below c.args.n.now.net c.args.parts.now c.loop-p.p)

pub note_members-requires-clause-own : goal.note_members-requires-clause-own
note_members-requires-clause-own c =
    let row : c.row.result.now ≡ members c.args.n.now.net c.args.parts.now c.loop-p.p = c.row.ensures ∙ c.in_ok-members.ensures.row c.loop-p.p (omega (arith, c.loop-p-test.true, c.count-count.ensures)) in
    subst (λ (ys : List ℕ). All (λ y. slice_index c.args.parts.now.of y ≡ c.loop-p.p) ys) (sym row) (members_own c.args.n.now.net c.args.parts.now c.loop-p.p)

pub note_members-requires-clause-noting : goal.note_members-requires-clause-noting
note_members-requires-clause-noting c =
    noting_start c.args.n.now.net c.args.parts.now (pin_is_voted c.args.n.now.net c.args.parts.now c.args.votes.now) c.loop-p.p c.loop-p.rows
    (subst (λ (rs : List (List ℕ)). Lists (needs c.args.n.now.net c.args.parts.now (pin_is_voted c.args.n.now.net c.args.parts.now c.args.votes.now)) c.loop-p.p (net_count c.args.n.now.net) rs) (sym c.loop-p.invariant.rows)
    (rows_listed c.args.n.now.net c.args.parts.now (pin_is_voted c.args.n.now.net c.args.parts.now c.args.votes.now) c.loop-p.p (replicate (net_count c.args.n.now.net) []) (pin_in_range c.args.n.now.net c.nodes_of.ensures.design.valid) (none_listed c.args.n.now.net c.args.parts.now (pin_is_voted c.args.n.now.net c.args.parts.now c.args.votes.now))))

pub loop-p-preserved : goal.loop-p-preserved
loop-p-preserved c =
    let row : c.row.result.now ≡ members c.args.n.now.net c.args.parts.now c.loop-p.p = c.row.ensures ∙ c.in_ok-members.ensures.row c.loop-p.p (omega (arith, c.loop-p-test.true, c.count-count.ensures)) in
    let own : All (IsTapped c.args.n.now.net c.args.parts.now (pin_is_voted c.args.n.now.net c.args.parts.now c.args.votes.now) c.note_members.new.taps) (members c.args.n.now.net c.args.parts.now c.loop-p.p) = subst (λ (ys : List ℕ). All (IsTapped c.args.n.now.net c.args.parts.now (pin_is_voted c.args.n.now.net c.args.parts.now c.args.votes.now) c.note_members.new.taps) ys) row c.in_ok-note_members.ensures.members in
    record {
      rows = c.in_ok-note_members.ensures.rows
          ∙ (ap (λ ys. nodes_noted c.args.n.now.net c.args.parts.now (pin_is_voted c.args.n.now.net c.args.parts.now c.args.votes.now) ys c.loop-p.rows) row
          ∙ (ap (nodes_noted c.args.n.now.net c.args.parts.now (pin_is_voted c.args.n.now.net c.args.parts.now c.args.votes.now) (members c.args.n.now.net c.args.parts.now c.loop-p.p)) c.loop-p.invariant.rows
          ∙ sym (parts_step c.args.n.now.net c.args.parts.now (pin_is_voted c.args.n.now.net c.args.parts.now c.args.votes.now) c.loop-p.p (replicate (net_count c.args.n.now.net) []))));
      places = c.in_ok-note_members.ensures.places;
      done = parts_tapped c.args.n.now.net c.args.parts.now (pin_is_voted c.args.n.now.net c.args.parts.now c.args.votes.now) c.note_members.new.taps c.loop-p.p (λ y h l. c.in_ok-note_members.ensures.kept y h (c.loop-p.invariant.done y h l)) own;
    }

pub returns-clause-rows : goal.returns-clause-rows
returns-clause-rows c =
    let end : c.loop-p.p ≡ c.args.parts.now.count = omega (arith, c.loop-p-test.false, c.count-count.ensures) in
    let rows : c.loop-p.rows ≡ parts_noted c.args.n.now.net c.args.parts.now (pin_is_voted c.args.n.now.net c.args.parts.now c.args.votes.now) c.args.parts.now.count (replicate (net_count c.args.n.now.net) []) = c.loop-p.invariant.rows ∙ ap (λ p. parts_noted c.args.n.now.net c.args.parts.now (pin_is_voted c.args.n.now.net c.args.parts.now c.args.votes.now) p (replicate (net_count c.args.n.now.net) [])) end in
    subst (λ (rs : List (List ℕ)). Lists (needs c.args.n.now.net c.args.parts.now (pin_is_voted c.args.n.now.net c.args.parts.now c.args.votes.now)) c.args.parts.now.count (net_count c.args.n.now.net) rs) (sym rows)
    (rows_listed c.args.n.now.net c.args.parts.now (pin_is_voted c.args.n.now.net c.args.parts.now c.args.votes.now) c.args.parts.now.count (replicate (net_count c.args.n.now.net) []) (pin_in_range c.args.n.now.net c.nodes_of.ensures.design.valid) (none_listed c.args.n.now.net c.args.parts.now (pin_is_voted c.args.n.now.net c.args.parts.now c.args.votes.now)))
