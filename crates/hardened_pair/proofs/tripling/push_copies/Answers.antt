use Rattle.std.proofs.Common.{List, subst}
use Rattle.certificate.specs.declared.role.Role.{Role}
use Rattle.certificate.specs.declared.role.Role.TheVariants.{Copy}
use Rattle.hardened_pair.specs.Private.Layouts.{net_of}
use Rattle.hardened_pair.specs.Private.Made.{IsNext}
use Rattle.triplicate.proofs.Numbering.{copies_of_node}
use Rattle.hardened_pair.proofs.RoleSteps.{next_copy, copy_more}
use Rattle.hardened_pair.proofs.tripling.push_copies.Goals as goal

pub push_copy-requires-clause-next : goal.push_copy-requires-clause-next
push_copy-requires-clause-next c =
    let all = subst (λ (rs : List Role). IsNext c.args.layout.now c.args.made.now.roles.items rs) (copies_of_node (net_of c.args.layout.now) c.args.x.0 c.requires.node) c.requires.next in
    next_copy c.args.layout.now (Copy c.args.x) c.args.made.now.roles.items c.loop-c.made.roles.items c.loop-c.c-index all c.loop-c-test.true c.loop-c.invariant.roles

pub loop-c-preserved : goal.loop-c-preserved
loop-c-preserved c = record {
  made = c.in_ok-push_copy.ensures.made;
  roles = copy_more (Copy c.args.x) c.args.made.now.roles.items c.loop-c.made.roles.items c.push_copy.new.made.roles.items c.loop-c.c-index c.loop-c-test.true c.loop-c.invariant.roles c.in_ok-push_copy.ensures.roles;
}
