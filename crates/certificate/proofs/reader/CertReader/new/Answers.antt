use Rattle.std.proofs.Common.{[], None, length, refl, ◌∙◌, ap, subst, sym, arith}
use Rattle.std.proofs.lemmas.List.{length-replicate}
use Rattle.text_lines.specs.Pending.{IsOneLine}
use Rattle.certificate.proofs.Endings.{new_read}
use Rattle.certificate.proofs.reader.CertReader.new.Goals as goal

pub invariant_of-result : goal.invariant_of-result
invariant_of-result c = record {
  lines = omega arith;
  ready = λ none. record {
    one_line = subst IsOneLine (sym c.new.ensures.items) (λ i d lt. absurd (omega (arith, lt)));
    roles = ap length (c.roles_or_fault-roles.ensures.roles none) ∙ length-replicate (length c.args.h.now.net.nodes) None;
  };
  was_given = ([], new_read c.args.n.now.net c.args.h.now.net c.roles_or_fault-roles.result.1 _ _ c.roles_or_fault-roles.ensures.memory refl c.new.ensures.items refl c.new-2.ensures.items c.new-3.ensures.items c.new-4.ensures.items c.new-5.ensures.items c.roles_or_fault-roles.ensures.roles c.new-6.ensures.items);
}

pub returns-clause-stands : goal.returns-clause-stands
returns-clause-stands c = record {
  size = refl;
  read = new_read c.args.n.now.net c.args.h.now.net c.roles_or_fault-roles.result.1 _ _ c.roles_or_fault-roles.ensures.memory refl c.new.ensures.items refl c.new-2.ensures.items c.new-3.ensures.items c.new-4.ensures.items c.new-5.ensures.items c.roles_or_fault-roles.ensures.roles c.new-6.ensures.items;
}
