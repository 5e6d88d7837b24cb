use Rattle.std.proofs.Common.{sym, ◌∙◌}
use Rattle.certifying.proofs.forest.join.Goals as goal

pub returns-then-x-y-clause-along : goal.returns-then-x-y-clause-along
returns-then-x-y-clause-along c = λ f al e.
    c.link.ensures.along f (c.root-y.ensures.along f (c.root-x.ensures.along f al)) (c.root-x.ensures.same f al ∙ (e ∙ sym (c.root-y.ensures.same f (c.root-x.ensures.along f al))))

pub returns-else-x-y-clause-along : goal.returns-else-x-y-clause-along
returns-else-x-y-clause-along c = λ f al e.
    c.link-else-x-y.ensures.along f (c.root-y.ensures.along f (c.root-x.ensures.along f al)) (c.root-y.ensures.same f (c.root-x.ensures.along f al) ∙ (sym e ∙ sym (c.root-x.ensures.same f al)))
