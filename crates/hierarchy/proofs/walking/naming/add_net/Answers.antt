use Rattle.std.proofs.Common.{◌≡◌, ◌∙◌, ◌<◌, ◌^◌, not, cond, sym, ap, take, length, ◌++◌, Some, None, nat_eq}
use Rattle.std.specs.Str.{bytes_eq}
use Rattle.std.proofs.lemmas.List.Elements.{All-take}
use Rattle.indexmap.specs.IndexMap.{get}
use Rattle.library_faults.specs.Flat.{path_text}
use Rattle.hierarchy.proofs.NetNames.{taken_long, taken_some, taken_none, named_before, named_now}
use Rattle.hierarchy.proofs.walking.naming.add_net.Goals as goal

pub returns-in-Some-clause-taken : goal.returns-in-Some-clause-taken
returns-in-Some-clause-taken c = λ seen named.
    let there : get bytes_eq c.args.texts.now (path_text (take c.args.end c.args.path.now) ++ c.args.name.now) ≡ Some c.in-Some.before = ap (get bytes_eq c.args.texts.now) (sym c.in_ok-text.ensures) ∙ (sym c.get.ensures.value ∙ (sym c.copied-before.ensures ∙ c.in-Some.is)) in
    let long : length (take c.args.end c.args.path.now) ≡ c.args.end = taken_long c.args.path.now c.args.end c.requires.end in
    ap (λ n. not (nat_eq c.in-Some.before n)) (sym long) ∙ taken_some (get bytes_eq c.args.texts.now) seen named (record { path = take c.args.end c.args.path.now; name = c.args.name.now }) (All-take (λ number. number < 2 ^ 64) c.args.end c.args.path.now c.requires.small) c.in-Some.before there

pub returns-in-Some-clause-named : goal.returns-in-Some-clause-named
returns-in-Some-clause-named c = λ seen named free.
    let there : get bytes_eq c.args.texts.now (path_text (take c.args.end c.args.path.now) ++ c.args.name.now) ≡ Some c.in-Some.before = ap (get bytes_eq c.args.texts.now) (sym c.in_ok-text.ensures) ∙ (sym c.get.ensures.value ∙ (sym c.copied-before.ensures ∙ c.in-Some.is)) in
    let long : length (take c.args.end c.args.path.now) ≡ c.args.end = taken_long c.args.path.now c.args.end c.requires.end in
    let small = All-take (λ number. number < 2 ^ 64) c.args.end c.args.path.now c.requires.small in
    named_before (get bytes_eq c.args.texts.now) seen named (record { path = take c.args.end c.args.path.now; name = c.args.name.now }) small c.in-Some.before there
    (sym (ap (λ n. not (nat_eq c.in-Some.before n)) (sym long) ∙ taken_some (get bytes_eq c.args.texts.now) seen named (record { path = take c.args.end c.args.path.now; name = c.args.name.now }) small c.in-Some.before there) ∙ free)

pub returns-in_ok-insert-in-None-clause-taken : goal.returns-in_ok-insert-in-None-clause-taken
returns-in_ok-insert-in-None-clause-taken c = λ seen named.
    let none : get bytes_eq c.args.texts.now (path_text (take c.args.end c.args.path.now) ++ c.args.name.now) ≡ None = ap (get bytes_eq c.args.texts.now) (sym c.in_ok-text.ensures) ∙ (sym c.get.ensures.value ∙ (sym c.copied-before.ensures ∙ c.in-None.is)) in
    taken_none (get bytes_eq c.args.texts.now) seen named (record { path = take c.args.end c.args.path.now; name = c.args.name.now }) (All-take (λ number. number < 2 ^ 64) c.args.end c.args.path.now c.requires.small) none

pub returns-in_ok-insert-in-None-clause-named : goal.returns-in_ok-insert-in-None-clause-named
returns-in_ok-insert-in-None-clause-named c = λ seen named _.
    let none : get bytes_eq c.args.texts.now (path_text (take c.args.end c.args.path.now) ++ c.args.name.now) ≡ None = ap (get bytes_eq c.args.texts.now) (sym c.in_ok-text.ensures) ∙ (sym c.get.ensures.value ∙ (sym c.copied-before.ensures ∙ c.in-None.is)) in
    let long : length (take c.args.end c.args.path.now) ≡ c.args.end = taken_long c.args.path.now c.args.end c.requires.end in
    named_now (get bytes_eq c.args.texts.now) seen named (record { path = take c.args.end c.args.path.now; name = c.args.name.now }) (All-take (λ number. number < 2 ^ 64) c.args.end c.args.path.now c.requires.small) (get bytes_eq c.insert.new.self) none
    (λ q. c.in_ok-insert-in-None.ensures.updates.0 q ∙ (ap (λ t. cond (bytes_eq t q) (Some c.args.end) (get bytes_eq c.args.texts.now q)) (c.in_ok-copy-in-None.ensures ∙ c.in_ok-text.ensures) ∙ ap (λ n. cond (bytes_eq (path_text (take c.args.end c.args.path.now) ++ c.args.name.now) q) (Some n) (get bytes_eq c.args.texts.now q)) (sym long)))
