use Rattle.std.proofs.Common.{◌∙◌, ap, refl, sym, arith}
use Rattle.std.specs.Prelude.{option_copied}
use Rattle.library_faults.specs.Private.Entries.{entry_at}
use Rattle.wrapper_chains.proofs.ways.end_way.Goals as goal

pub returns : goal.returns
returns c = record {
  count = c.in-Some.count.now;
  is = sym (c.entry_at.ensures ∙ (ap (λ ps. entry_at ps c.deref-2.result.now c.args.x) c.deref.ensures.value ∙ ap (λ es. entry_at c.args.looked.now.positions.items es c.args.x) c.deref-2.ensures.value)) ∙ ap option_copied c.in-Some.is;
  closed = omega (arith, c.if-count-gt0.false);
  base = refl;
  bound = c.in_ok-nets.ensures;
}
