use Rattle.std.proofs.Common.{◌*◌, ap, arith, rules}
use Rattle.std.proofs.lemmas.List.{length-set}
use Rattle.library_faults.proofs.Additions.{used_more, number_below}
use Rattle.library_faults.proofs.lengths.count.add_formal.Goals as goal

pub index-requires : goal.index-requires
index-requires c = omega (arith, c.requires.shaped, number_below c.args.count.now.formals.keys c.args.k c.args.name.now c.requires.formal)

pub index_mut-requires : goal.index_mut-requires
index_mut-requires c = omega (arith, c.requires.shaped, number_below c.args.count.now.formals.keys c.args.k c.args.name.now c.requires.formal)

pub returns : goal.returns
returns c = record {
  bytes = omega arith;
  places = omega arith;
  passed = omega (arith, c.saturating_add-count.ensures);
  passed_bytes = omega (arith, c.saturating_add-count-2.ensures, c.saturating_mul.ensures, ap (λ r. c.args.times * r) c.limited_length.ensures);
  by = λ n. used_more c.args.count.now.formals.keys c.args.count.now.uses.items c.args.k c.args.times c.index.result.now c.saturating_add.result c.args.name.now n c.requires.formal c.requires.shaped c.index.ensures c.saturating_add.ensures;
  formals = search rules;
  shaped = length-set c.args.count.now.uses.items c.args.k c.saturating_add.result;
}
