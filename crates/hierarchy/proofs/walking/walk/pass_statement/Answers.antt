use Rattle.std.proofs.Common.{◌∙◌, sym, arith, map, length}
use Rattle.std.proofs.Common.{◌≡◌, ◌≤◌, ap, subst, suc, ℕ, List, [], ◌∷◌, take, ◌++◌, Some}
use Rattle.std.specs.Prelude.{slice_get, option_and_then}
use mathlib.Core.Path.{fun_ext}
use Rattle.std.specs.Str.{bytes_eq}
use Rattle.indexmap.specs.IndexMap.{get}
use Rattle.hierarchy.specs.Private.Bindings.{bindings_of, Binds}
use Rattle.library_faults.specs.Flat.{actual_of, resolve}
use Rattle.hierarchy.specs.Private.Walk.{innermost_first, known_net, bound_by, level_of, IsNetWithin, library_of}
use Rattle.hierarchy.proofs.Coming.{too_deep}
use Rattle.hierarchy.proofs.Moved.{binds_at, moved_past, moved_into, target_at, nothing_there, within_at, passed_walking}
use Rattle.std.proofs.lemmas.List.{length-map, length-reverse}
use Rattle.blif_text.specs.Views.{plain_model, plain_element}
use Rattle.hierarchy.proofs.Linked.{rows_long, row_long}
use Rattle.hierarchy.proofs.walking.walk.pass_statement.Goals as goal

pub link_at-link-requires-clause-row : goal.link_at-link-requires-clause-row
link_at-link-requires-clause-row c = omega (arith, rows_long _ c.requires.ready.holds c.args.ready.now.rows.now (library_of c.args.ready.now) c.requires.ready.links, c.requires.walking.frames_are.2)

pub link_at-link-requires-clause-link : goal.link_at-link-requires-clause-link
link_at-link-requires-clause-link c = λ row e. row_long (library_of c.args.ready.now) _ c.requires.ready.holds c.args.ready.now.rows.now c.requires.ready.links c.args.top.model c.args.top.next row c.requires.next e

pub returns-in_ok-enter : goal.returns-in_ok-enter
returns-in_ok-enter c =
    moved_into (library_of c.args.ready.now) c.args.walk.now.path.items c.args.top (innermost_first c.args.walk.now) (innermost_first c.push_frame.new.walk) c.args.walk.now c.enter.new.walk (get bytes_eq c.in_ok-known.known) c.in-Some.target (λ k below. fun_ext (λ name. ap (λ o. option_and_then (λ nets. get bytes_eq nets name) o) (c.in_ok-enter.ensures.outer k (omega (arith, below, long)) ∙ ap (λ ms. slice_get ms k) c.in_ok-push_frame.ensures.known))) (λ name end net e. c.in_ok-enter.ensures.own name end net (subst (λ d. known_net c.enter.new.walk d name ≡ Some (end, net)) long e)) right c.requires.walking c.requires.next c.requires.instance
    (let many = ap length c.in_ok-push_frame.ensures.frames in omega (arith, length-map c.args.ready.now.models.now plain_model, length-reverse c.push_frame.new.walk.frames.items))
    c.requires.ready.holds c.requires.ready.bare
    (sym (target_at (library_of c.args.ready.now) c.args.ready.now.rows.now c.requires.ready c.args.top.model c.args.top.next c.link_at-link.result.now c.requires.walking.frames_are.2 c.link_at-link.ensures) ∙ c.in-Some.is)
    c.in_ok-push_frame.ensures.frames c.in_ok-enter.ensures.frames (c.in_ok-enter.ensures.path ∙ ap (λ p. take c.args.top.path_end p ++ c.args.top.number ∷ []) c.in_ok-push_frame.ensures.path) (let n = c.requires.walking.frames_are.1 in let r = c.requires.room in omega arith)
  where
    long : suc (length (innermost_first c.args.walk.now)) ≡ length c.push_frame.new.walk.frames.items
    long = let many = ap length c.in_ok-push_frame.ensures.frames in omega (arith, length-reverse c.push_frame.new.walk.frames.items)

    right : (name : List ℕ) (end : ℕ) (net : List ℕ) → get bytes_eq c.in_ok-known.known name ≡ Some (end, net) → (actual : List ℕ) × (actual_of (bound_by (library_of c.args.ready.now) (Some (c.args.top.model, c.args.top.next))) name ≡ Some actual) × (end ≤ c.args.top.path_end) × (resolve (map (level_of (library_of c.args.ready.now) c.args.walk.now.path.items) (c.args.top ∷ innermost_first c.args.walk.now)) actual ≡ record { path = take end c.args.walk.now.path.items; name = net })
    right name end net e = go (c.in_ok-known.ensures name end net e)
      where
        go : (actual : List ℕ) × (actual_of (bindings_of (plain_element c.args.element.now)) name ≡ Some actual) × IsNetWithin (library_of c.args.ready.now) c.push_frame.new.walk actual end net → (actual : List ℕ) × (actual_of (bound_by (library_of c.args.ready.now) (Some (c.args.top.model, c.args.top.next))) name ≡ Some actual) × (end ≤ c.args.top.path_end) × (resolve (map (level_of (library_of c.args.ready.now) c.args.walk.now.path.items) (c.args.top ∷ innermost_first c.args.walk.now)) actual ≡ record { path = take end c.args.walk.now.path.items; name = net })
        go (actual, bound, is) =
            let both = within_at (library_of c.args.ready.now) c.args.walk.now.path.items c.args.top (innermost_first c.args.walk.now) c.push_frame.new.walk actual end net c.in_ok-push_frame.ensures.frames c.in_ok-push_frame.ensures.path is in
            (actual, ap (λ e. actual_of (bindings_of e) name) (sym c.requires.here) ∙ bound, both.0, both.1)

pub returns-else-len-ready : goal.returns-else-len-ready
returns-else-len-ready c =
    moved_past (library_of c.args.ready.now) c.args.walk.now.path.items c.args.top (innermost_first c.args.walk.now) c.args.walk.now c.push_frame.new.walk c.in_ok-push_frame.ensures.known c.requires.walking c.requires.next c.requires.instance c.in_ok-push_frame.ensures.frames c.in_ok-push_frame.ensures.path
    (λ levels. too_deep (library_of c.args.ready.now) (length (innermost_first c.args.walk.now)) levels _
    (let many = ap length c.in_ok-push_frame.ensures.frames in omega (arith, length-map c.args.ready.now.models.now plain_model, length-reverse c.push_frame.new.walk.frames.items)))

pub returns-in_default : goal.returns-in_default
returns-in_default c =
    moved_past (library_of c.args.ready.now) c.args.walk.now.path.items c.args.top (innermost_first c.args.walk.now) c.args.walk.now c.push_frame.new.walk c.in_ok-push_frame.ensures.known c.requires.walking c.requires.next c.requires.instance c.in_ok-push_frame.ensures.frames c.in_ok-push_frame.ensures.path
    (λ levels. nothing_there (library_of c.args.ready.now) c.args.ready.now.rows.now c.requires.ready _
    (sym (target_at (library_of c.args.ready.now) c.args.ready.now.rows.now c.requires.ready c.args.top.model c.args.top.next c.link_at-link.result.now c.requires.walking.frames_are.2 c.link_at-link.ensures) ∙ c.in_default.is)
    c.requires.instance _ levels)

pub nets_within-requires-clause-place : goal.nets_within-requires-clause-place
nets_within-requires-clause-place c = record { ready = c.requires.ready; walking = passed_walking (library_of c.args.ready.now) c.args.walk.now.path.items c.args.top (innermost_first c.args.walk.now) c.args.walk.now c.push_frame.new.walk c.in_ok-push_frame.ensures.known c.requires.walking c.in_ok-push_frame.ensures.frames c.in_ok-push_frame.ensures.path }

pub nets_within-requires-clause-binds : goal.nets_within-requires-clause-binds
nets_within-requires-clause-binds c = subst (λ e. Binds c.link_at-link.result.now.actuals (bindings_of e)) (sym c.requires.here) (binds_at (library_of c.args.ready.now) c.args.ready.now.rows.now c.requires.ready c.args.top.model c.args.top.next c.link_at-link.result.now c.requires.walking.frames_are.2 c.link_at-link.ensures)
