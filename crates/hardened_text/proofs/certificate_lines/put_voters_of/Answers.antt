use Rattle.std.proofs.Common.{ℕ, List, ◌++◌, ap, ◌∙◌}
use Rattle.std.specs.List.{flat_map}
use Rattle.flat_net.specs.Net.{name_of}
use Rattle.triplicate.specs.Planned.{plan_votes}
use Rattle.triplicate.specs.Voting.{voting_parts}
use Rattle.hardened_text.specs.Private.Spelled.{line_head, lines_at}
use Rattle.hardened_text.proofs.CertPuts.{row_same}
use Rattle.hardened_text.proofs.certificate_lines.put_voters_of.Goals as goal

pub returns : goal.returns
returns c =
    let n = c.args.n.now.net in
    c.in_ok-put_row.ensures ∙ (ap (λ (w : List ℕ). c.args.out.now.items ++ flat_map (lines_at (line_head w) w) c.row.result.now) (c.bytes.ensures.bytes ∙ c.name.ensures)
    ∙ (ap (λ (ps : List ℕ). c.args.out.now.items ++ flat_map (lines_at (line_head (name_of n c.args.x)) (name_of n c.args.x)) ps) (c.row.ensures ∙ c.requires.voters.row c.args.x c.requires.net)
    ∙ ap (λ (t : List ℕ). c.args.out.now.items ++ t) (row_same (name_of n c.args.x) (voting_parts n c.args.plan.now.parts (plan_votes n c.args.plan.now) c.args.x))))
