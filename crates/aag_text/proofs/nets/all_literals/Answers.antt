use Rattle.std.proofs.Common.{◌∙◌, List, ap, sym, subst, length, arith}
use Rattle.aag_text.specs.declared.aig.Literal.{Literal}
use Rattle.aag_text.specs.Private.Gates.{PlainGates, next_of}
use Rattle.aag_text.specs.Private.Nets.{HasLiterals, AreRight, OnlyTables}
use Rattle.aag_text.proofs.Firsts.{length-firsts, all_below, whole}
use Rattle.aag_text.proofs.nets.all_literals.Goals as goal

pub make_tables-requires-clause-long : goal.make_tables-requires-clause-long
make_tables-requires-clause-long c = ap length (c.deref_mut.ensures.value ∙ c.in_ok-literals.ensures) ∙ length-firsts c.args.n.now.net

pub make_tables-requires-clause-below : goal.make_tables-requires-clause-below
make_tables-requires-clause-below c =
    let top = ap (λ (g : PlainGates). next_of g) c.new-gates.ensures in
    all_below c.args.n.now.net (next_of c.new-gates.result) c.deref_mut.result.now (c.deref_mut.ensures.value ∙ c.in_ok-literals.ensures) (omega (arith, top, c.input_count-inputs.ensures.count, c.register_count.ensures))

pub returns : goal.returns
returns c =
    let first = c.deref_mut.ensures.value ∙ c.in_ok-literals.ensures in
    let grows = c.in_ok-make_tables.ensures.grows in
    let start = ap (λ (g : PlainGates). g.first) c.new-gates.ensures in
    let same = ap length c.deref_mut.ensures.value in
    let all = whole c.in_ok-literals.literals.len c.make_tables.new.literals c.in_ok-literals.literals.items (c.in_ok-make_tables.ensures.long ∙ same) (c.in_ok-make_tables.ensures.long ∙ c.deref_mut.ensures.len) in
    subst (λ (ls : List Literal). HasLiterals c.args.n.now ls c.make_tables.new.gates) (sym all) (record {
      long = c.in_ok-make_tables.ensures.long ∙ (ap length first ∙ length-firsts c.args.n.now.net);
      right = subst (λ (f : List Literal). AreRight c.args.n.now.net c.args.n.now.order (length c.args.n.now.net.nodes) f c.make_tables.new.literals c.make_tables.new.gates) first c.in_ok-make_tables.ensures.right;
      others = subst (λ (f : List Literal). OnlyTables c.args.n.now.net f c.make_tables.new.literals) first c.in_ok-make_tables.ensures.others;
      first = omega (arith, grows.first, start, c.input_count-inputs.ensures.count, c.register_count.ensures);
      count = let none = ap (λ (g : PlainGates). length g.list) c.new-gates.ensures in omega (arith, c.in_ok-make_tables.ensures.count, none);
      few = let none = ap (λ (g : PlainGates). length g.list) c.new-gates.ensures in omega (arith, grows.bound, none);
      below = c.in_ok-make_tables.ensures.below;
    })
