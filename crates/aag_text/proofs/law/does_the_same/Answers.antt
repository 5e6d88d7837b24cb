use Rattle.aag_text.proofs.Agree.{agrees}
use Rattle.aag_text.proofs.Exist.{values, values_are_trace}
use Rattle.aag_text.proofs.law.does_the_same.Goals as goal

pub returns : goal.returns
returns c = λ n a d g. record {
  some = λ w ins are. (values n a g w ins, values_are_trace n a g w ins);
  each = λ w ins are rows is tr it t l. agrees n d a g w ins rows is tr it t l;
}
