use Rattle.std.proofs.Common.{◌≡◌, subst, sym, rules}
use Rattle.tmr_base.specs.Parts.{PlainParts}
use Rattle.partitioner.specs.Sizes.{plain_parts, KeepsSize}
use Rattle.partitioner.proofs.PlainLaws.{plain_keeps_size}
use Rattle.partitioner.proofs.plain_cut.plain.Goals as goal

pub returns-clause-size : goal.returns-clause-size
returns-clause-size c =
    let exact : c.make.result ≡ plain_parts c.args.n.now.net c.args.size = search rules in
    subst (λ (p : PlainParts). KeepsSize c.args.n.now.net c.args.size p) (sym exact) (plain_keeps_size c.args.n.now.net c.args.size c.requires)
