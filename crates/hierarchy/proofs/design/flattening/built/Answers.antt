use Rattle.std.proofs.Common.{◌≡◌, subst}
use Rattle.std.specs.Prelude.{IfOk}
use Rattle.flat_net.specs.Draft.{PlainDraft}
use Rattle.flat_net.specs.Faults.{net_of_draft}
use Rattle.hierarchy.proofs.design.flattening.built.Goals as goal

pub returns-in-Ok-clause-ok : goal.returns-in-Ok-clause-ok
returns-in-Ok-clause-ok c = subst (λ (d : PlainDraft). IfOk c.build.result (λ net. net.net ≡ net_of_draft d)) c.in-Ok.ensures c.build.ensures.ok
