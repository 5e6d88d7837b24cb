use Rattle.std.proofs.Common.{◌∙◌, ap, sym, cond, Some}
use Rattle.std.specs.Str.{bytes_eq}
use Rattle.indexmap.specs.IndexMap.{get}
use Rattle.wrapper_chains.proofs.Binding.{bound_before, bound_now}
use Rattle.wrapper_chains.proofs.bindings.bind_one.Goals as goal

pub returns-then-contains_key : goal.returns-then-contains_key
returns-then-contains_key c = λ q. bound_before (get bytes_eq c.args.actuals.now) c.args.formal.now c.args.actual.now q (sym c.contains_key.ensures ∙ c.if-contains_key.true)

pub returns : goal.returns
returns c = λ q.
    c.in_ok-insert.ensures.updates.0 q
    ∙ (ap (λ f. cond (bytes_eq f q) (Some c.in_ok-actual.actual) (get bytes_eq c.args.actuals.now q)) c.in_ok-formal.ensures
    ∙ (ap (λ a. cond (bytes_eq c.args.formal.now q) (Some a) (get bytes_eq c.args.actuals.now q)) c.in_ok-actual.ensures
    ∙ bound_now (get bytes_eq c.args.actuals.now) c.args.formal.now c.args.actual.now q (sym c.contains_key.ensures ∙ c.if-contains_key.false)))
