use Rattle.std.proofs.Common.{◌≡◌, ◌∙◌, ◌<◌, ◌≤◌, sym, ap, refl, subst, arith, get_or, length, vec_len}
use Rattle.std.proofs.lemmas.List.{length-map}
use Rattle.blif_text.specs.Views.{plain_model}
use Rattle.hierarchy.specs.Private.Walk.{innermost_first, coming, moves, IsWalking, IsNextElement, library_of}
use Rattle.library_faults.specs.Private.Models.{IsInstance, model_at, element_at}
use Rattle.hierarchy.proofs.Moved.{next_left, next_found, at_element, none_left, top_in, all_walked, some_left, popped_walked}
use Rattle.hierarchy.proofs.walking.walk.next_element.Goals as goal

pub returns-in_default : goal.returns-in_default
returns-in_default c = none_left (library_of c.args.ready.now) c.moves.walk c.args.walk.now (c.in_default.ensures.none refl) c.moves.invariant.same

pub moves-smaller-then-top-len : goal.moves-smaller-then-top-len
moves-smaller-then-top-len c = (next_left (library_of c.args.ready.now) c.moves.walk.path.items c.in-Some.top (innermost_first c.pop_frame.new.walk) c.moves.walk c.pop_frame.new.walk c.moves.invariant.walking refl c.in-Some.ensures.some refl c.in-Some.ensures.path c.in-Some.ensures.known all).2
  where
    below : c.in-Some.top.model < length c.args.ready.now.models.now
    below = omega (arith, top_in (library_of c.args.ready.now) c.moves.walk c.in-Some.top (innermost_first c.pop_frame.new.walk) c.moves.invariant.walking c.in-Some.ensures.some, length-map c.args.ready.now.models.now plain_model)

    all : length (model_at (library_of c.args.ready.now) c.in-Some.top.model).elements ≤ c.in-Some.top.next
    all = all_walked c.args.ready.now.models.now c.in-Some.top.model c.in-Some.top.next c.index-ready-top.result below c.index-ready-top.is (let e = c.len.ensures ∙ ap (λ m. vec_len m.elements) (sym c.index-ready-top.is) in omega arith)

pub moves-preserved-then-top-len : goal.moves-preserved-then-top-len
moves-preserved-then-top-len c = record { same = left.0 ∙ c.moves.invariant.same; walking = left.1 }
  where
    below : c.in-Some.top.model < length c.args.ready.now.models.now
    below = omega (arith, top_in (library_of c.args.ready.now) c.moves.walk c.in-Some.top (innermost_first c.pop_frame.new.walk) c.moves.invariant.walking c.in-Some.ensures.some, length-map c.args.ready.now.models.now plain_model)

    all : length (model_at (library_of c.args.ready.now) c.in-Some.top.model).elements ≤ c.in-Some.top.next
    all = all_walked c.args.ready.now.models.now c.in-Some.top.model c.in-Some.top.next c.index-ready-top.result below c.index-ready-top.is (let e = c.len.ensures ∙ ap (λ m. vec_len m.elements) (sym c.index-ready-top.is) in omega arith)

    left : (coming (library_of c.args.ready.now) c.pop_frame.new.walk ≡ coming (library_of c.args.ready.now) c.moves.walk) × IsWalking (library_of c.args.ready.now) c.pop_frame.new.walk × (moves (library_of c.args.ready.now) c.pop_frame.new.walk < moves (library_of c.args.ready.now) c.moves.walk)
    left = next_left (library_of c.args.ready.now) c.moves.walk.path.items c.in-Some.top (innermost_first c.pop_frame.new.walk) c.moves.walk c.pop_frame.new.walk c.moves.invariant.walking refl c.in-Some.ensures.some refl c.in-Some.ensures.path c.in-Some.ensures.known all

pub returns-in-moves : goal.returns-in-moves
returns-in-moves c = record {
  model = found.model;
  element = found.element;
  plain = found.plain;
  walking = found.walking;
  comes = sym c.moves.invariant.same ∙ found.comes;
}
  where
    below : c.in-Some.top.model < length c.args.ready.now.models.now
    below = omega (arith, top_in (library_of c.args.ready.now) c.moves.walk c.in-Some.top (innermost_first c.pop_frame.new.walk) c.moves.invariant.walking c.in-Some.ensures.some, length-map c.args.ready.now.models.now plain_model)

    more : c.in-Some.top.next < length c.index-ready-top.result.elements.items
    more = let e = c.len.ensures ∙ ap (λ m. vec_len m.elements) (sym c.index-ready-top.is) in omega arith

    plain : ¬ IsInstance (element_at (library_of c.args.ready.now) c.in-Some.top.model c.in-Some.top.next)
    plain = λ i. c.if-is_placing.ensures.no refl (subst IsInstance (at_element c.args.ready.now.models.now c.in-Some.top.model c.in-Some.top.next c.index-ready-top.result c.index.result.now below c.index-ready-top.is more (c.index.ensures ∙ ap (λ m. get_or m.elements.items c.in-Some.top.next c.index.result.now) (sym c.index-ready-top.is))) i)

    found : IsNextElement (library_of c.args.ready.now) c.moves.walk c.in-Some.top.model c.in-Some.top.next c.push_frame.new.walk
    found = next_found (library_of c.args.ready.now) c.moves.walk.path.items c.in-Some.top (innermost_first c.pop_frame.new.walk) c.moves.walk c.push_frame.new.walk c.moves.invariant.walking refl c.in-Some.ensures.some c.in_ok-push_frame.ensures.frames (c.in_ok-push_frame.ensures.path ∙ c.in-Some.ensures.path) (c.in_ok-push_frame.ensures.known ∙ c.in-Some.ensures.known)
        (some_left c.args.ready.now.models.now c.in-Some.top.model c.in-Some.top.next c.index-ready-top.result below c.index-ready-top.is more) plain

pub pass_statement-requires-clause-walking : goal.pass_statement-requires-clause-walking
pass_statement-requires-clause-walking c = popped_walked (library_of c.args.ready.now) c.moves.walk c.pop_frame.new.walk c.in-Some.top (innermost_first c.pop_frame.new.walk) c.moves.invariant.walking c.in-Some.ensures.some refl c.in-Some.ensures.path c.in-Some.ensures.known
