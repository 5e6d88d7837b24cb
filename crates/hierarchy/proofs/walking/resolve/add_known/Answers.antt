use Rattle.std.proofs.Common.{◌∙◌, ℕ, List, cond, ap, sym, Some}
use Rattle.std.specs.Str.{bytes_eq}
use Rattle.indexmap.specs.IndexMap.{get}
use Rattle.blif_text.specs.Views.{plain_element}
use Rattle.hierarchy.specs.Private.Bindings.{bindings_of}
use Rattle.hierarchy.proofs.Resolving.{within_more}
use Rattle.hierarchy.specs.Private.Walk.{library_of}
use Rattle.hierarchy.proofs.walking.resolve.add_known.Goals as goal

pub returns : goal.returns
returns c = within_more (library_of c.args.place.now.ready) c.args.place.now.walk.now (bindings_of (plain_element c.args.element.now)) (get bytes_eq c.args.nets.now) (get bytes_eq c.insert.new.self) c.args.formal.now c.in-Some.actual.now c.resolve-end.result.0 c.resolve-end.result.1.now (sym c.in-Some.ensures)
    (record { is = c.resolve-end.ensures.net; inner = c.resolve-end.ensures.inner })
    (λ q. c.in_ok-insert.ensures.updates.0 q
    ∙ (ap (λ k. cond (bytes_eq k q) (Some (c.resolve-end.result.0, c.in_ok-net.net)) (get bytes_eq c.args.nets.now q)) c.in_ok-key.ensures
    ∙ ap (λ (n : List ℕ). cond (bytes_eq c.args.formal.now q) (Some (c.resolve-end.result.0, n)) (get bytes_eq c.args.nets.now q)) c.in_ok-net.ensures))
