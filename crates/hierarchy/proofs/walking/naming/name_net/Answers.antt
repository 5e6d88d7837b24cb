use Rattle.std.proofs.Common.{◌≡◌, ◌∙◌, sym, ap, subst, take, [], ◌∷◌, ◌++◌}
use Rattle.std.specs.Str.{bytes_eq}
use Rattle.indexmap.specs.IndexMap.{get}
use Rattle.library_faults.specs.Flat.{net_text}
use Rattle.hierarchy.specs.Clash.{is_taken}
use Rattle.hierarchy.specs.Private.Naming.{IsNamed, Clashes}
use Rattle.hierarchy.proofs.NetNames.{named_one, clash_one}
use Rattle.hierarchy.specs.Private.Walk.{net_at}
use Rattle.hierarchy.proofs.walking.naming.name_net.Goals as goal

pub returns-then-taken-clause-fault : goal.returns-then-taken-clause-fault
returns-then-taken-clause-fault c =
    subst (Clashes (get bytes_eq c.args.texts.now) (net_at c.args.place.now c.args.name.now ∷ [])) (sym (c.in_ok-text.ensures.text ∙ ap net_text same))
    (clash_one (get bytes_eq c.args.texts.now) (net_at c.args.place.now c.args.name.now) (λ seen n. sym c.if-taken.true ∙ (c.in_ok-text.ensures.taken seen n ∙ ap (is_taken seen) same)))
  where
    same : record { path = take c.resolve-end.result.0 c.deref.result.now; name = c.resolve-end.result.1.now } ≡ net_at c.args.place.now c.args.name.now
    same = ap (λ p. record { path = take c.resolve-end.result.0 p; name = c.resolve-end.result.1.now }) c.deref.ensures.value ∙ sym c.resolve-end.ensures.net

pub returns-clause-named : goal.returns-clause-named
returns-clause-named c =
    named_one (get bytes_eq c.args.texts.now) (get bytes_eq c.add_net.new.texts) (net_at c.args.place.now c.args.name.now)
    (λ seen n. sym c.if-taken.false ∙ (c.in_ok-text.ensures.taken seen n ∙ ap (is_taken seen) same))
    (λ seen n. subst (λ net. IsNamed (get bytes_eq c.add_net.new.texts) (seen ++ net ∷ [])) same (c.in_ok-text.ensures.named seen n c.if-taken.false))
  where
    same : record { path = take c.resolve-end.result.0 c.deref.result.now; name = c.resolve-end.result.1.now } ≡ net_at c.args.place.now c.args.name.now
    same = ap (λ p. record { path = take c.resolve-end.result.0 p; name = c.resolve-end.result.1.now }) c.deref.ensures.value ∙ sym c.resolve-end.ensures.net
