use Rattle.std.proofs.Common.{◌∙◌, ap}
use Rattle.std.proofs.lemmas.Result.{IfOk-weaker}
use Rattle.blif_text.specs.Kind.{is_among}
use Rattle.wrapper_chains.proofs.Handing.{used_among}
use Rattle.wrapper_chains.proofs.ways.bound_formals.Goals as goal

pub returns : goal.returns
returns c = IfOk-weaker c.bound_among.result _ _ (λ nets told name some. told name (ap (λ ns. is_among ns name) c.as_slice.ensures.keys ∙ used_among c.args.count.now name some) some) c.bound_among.ensures
