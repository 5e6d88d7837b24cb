use Rattle.std.proofs.Common.{sym, subst}
use Rattle.std.specs.Prelude.{◌↔◌, IsTrue}
use Rattle.tmr_base.specs.Parts.{PlainParts}
use Rattle.partitioner.specs.Refining.{IsMinimal}
use Rattle.partitioner.proofs.refinement.refining.refine_placed.Goals as goal

pub returns-clause-minimal : goal.returns-clause-minimal
returns-clause-minimal c = subst (λ (p : PlainParts). IsTrue c.no_move_helps-minimal.result ↔ IsMinimal c.args.n.now.net c.args.size p) (sym c.make.ensures) c.no_move_helps-minimal.ensures
