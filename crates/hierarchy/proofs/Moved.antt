-- A move of a walk past a `.subckt` statement, in the words of the moves' contracts.
use Rattle.std.proofs.Common.{◌≡◌, ℕ, suc, ◌+◌, ◌-◌, ◌^◌, ◌<◌, ◌≤◌, Bool, List, [], ◌∷◌, ◌++◌, length, take, map, get_or, refl, sym, ap, subst, ◌∙◌, arith, Option, Some, None}
use Rattle.std.specs.Prelude.{slice_get}
use Rattle.std.proofs.lemmas.List.{get_or-map, length-map}
use Rattle.blif_text.specs.Models.{PlainElement, PlainModel}
use Rattle.blif_text.specs.declared.library.BlifModel.{BlifModel}
use Rattle.blif_text.specs.declared.library.Element.{Element}
use Rattle.blif_text.specs.Views.{plain_model, plain_element}
use Rattle.library_faults.specs.Flat.{Level, resolve, actual_of, elements_to}
use Rattle.library_faults.specs.Private.Models.{no_element, IsInstance, model_at, element_at}
use Rattle.hierarchy.specs.declared.walking.walk.Frame.{Frame}
use Rattle.hierarchy.specs.declared.walking.walk.Walk.{Walk}
use Rattle.hierarchy.specs.declared.walking.bindings.Row.{Row}
use Rattle.hierarchy.specs.declared.walking.bindings.Link.{Link}
use Rattle.library_faults.specs.Graph.{names_of, model_named}
use Rattle.hierarchy.specs.Private.Bindings.{target_of, bindings_of, Binds}
use Rattle.wrapper_chains.specs.Bare.{AreBare}
use Rattle.wrapper_chains.specs.Private.Placed.{placed_element}
use Rattle.indexmap.specs.IndexMap.{get}
use mathlib.Core.Path.{fun_ext}
use Rattle.std.specs.Prelude.{option_and_then}
use Rattle.std.specs.Str.{bytes_eq}
use Rattle.hierarchy.specs.Private.Naming.{AreSmall}
use Rattle.hierarchy.specs.Private.Walk.{innermost_first, AreWalked, AreReady, IsMoved, IsNext, IsWalking, IsNetWithin, AreKnown, known_net, bound_by, coming, coming_from, levels_of, level_of, moves}
use Rattle.library_faults.proofs.Models.{at_model}
use Rattle.hierarchy.proofs.Coming.{placed_name, no_target, target_is, skipped, skipped_frames, passed_fewer, left, left_fewer, frames_weaken, passed, entered, entered_frames, entered_known, entered_fewer}
use Rattle.hierarchy.proofs.PathTexts.{path_more}
use Rattle.hierarchy.proofs.Linked.{link_of, some_row}

known_by : (old w : Walk) → w.known.items ≡ old.known.items → known_net w ≡ known_net old
known_by old w same = fun_ext (λ depth. fun_ext (λ name. ap (λ ms. option_and_then (λ nets. get bytes_eq nets name) (slice_get ms depth)) same))

-- what a walk keeps, in the words of its path and placed models
walks : (library : List PlainModel) (w : Walk) (path : List ℕ) (frames : List Frame) → w.path.items ≡ path → innermost_first w ≡ frames → AreWalked library path (known_net w) frames → IsWalking library w
walks library w path frames same stack a = subst (λ p. AreWalked library p (known_net w) (innermost_first w)) (sym same) (subst (AreWalked library path (known_net w)) (sym stack) a)

walked_at : (library : List PlainModel) (w : Walk) (path : List ℕ) (frames : List Frame) → w.path.items ≡ path → innermost_first w ≡ frames → IsWalking library w → AreWalked library path (known_net w) frames
walked_at library w path frames same stack a = subst (AreWalked library path (known_net w)) stack (subst (λ p. AreWalked library p (known_net w) (innermost_first w)) same a)

-- the same once the innermost placed model is taken off
pub popped_walked : (library : List PlainModel) (old w : Walk) (f : Frame) (fs : List Frame) → IsWalking library old → innermost_first old ≡ f ∷ fs → innermost_first w ≡ fs → w.path.items ≡ old.path.items → w.known.items ≡ old.known.items → AreWalked library w.path.items (known_net w) (f ∷ innermost_first w)
popped_walked library old w f fs a frames left same known_same =
    subst (λ gs. AreWalked library w.path.items (known_net w) (f ∷ gs)) (sym left)
    (subst (λ k. AreWalked library w.path.items k (f ∷ fs)) (sym (known_by old w known_same)) (walked_at library old w.path.items (f ∷ fs) (sym same) frames a))

-- a net that a statement's formal has, in the words of the placed model before it passes the statement
pub within_at : (library : List PlainModel) (path : List ℕ) (f : Frame) (fs : List Frame) (w : Walk) (actual : List ℕ) (end : ℕ) (net : List ℕ) → innermost_first w ≡ record { model = f.model; next = f.next + 1; number = f.number + 1; placing = f.placing; path_end = f.path_end } ∷ fs → w.path.items ≡ path → IsNetWithin library w actual end net → (end ≤ f.path_end) × (resolve (map (level_of library path) (f ∷ fs)) actual ≡ record { path = take end path; name = net })
within_at library path f fs w actual end net frames same right = (
  right.inner (record f { next = f.next + 1; number = f.number + 1 }) fs frames,
  sym (ap (λ q. resolve (map (level_of library q) (innermost_first w)) actual) same ∙ ap (λ gs. resolve (map (level_of library path) gs) actual) frames) ∙ (right.is ∙ ap (λ q. record { path = take end q; name = net }) same),
)

-- a walk that has passed a statement
pub passed_walking : (library : List PlainModel) (path : List ℕ) (f : Frame) (fs : List Frame) (old w : Walk) → w.known.items ≡ old.known.items → AreWalked library path (known_net old) (f ∷ fs) → innermost_first w ≡ record { model = f.model; next = f.next + 1; number = f.number + 1; placing = f.placing; path_end = f.path_end } ∷ fs → w.path.items ≡ path → IsWalking library w
passed_walking library path f fs old w known_same a frames kept = walks library w path (record f { next = f.next + 1; number = f.number + 1 } ∷ fs) kept frames (record {
  frames_are = skipped_frames library (length path) f (record f { next = f.next + 1; number = f.number + 1 }) fs a.frames_are refl;
  known_are = subst (λ k. AreKnown library path k (f ∷ fs)) (sym (known_by old w known_same)) a.known_are;
  small = a.small;
})

pub moved_past : (library : List PlainModel) (path : List ℕ) (f : Frame) (fs : List Frame) (old w : Walk) → w.known.items ≡ old.known.items → AreWalked library path (known_net old) (f ∷ fs) → f.next < length (model_at library f.model).elements → IsInstance (element_at library f.model f.next) → innermost_first w ≡ record { model = f.model; next = f.next + 1; number = f.number + 1; placing = f.placing; path_end = f.path_end } ∷ fs → w.path.items ≡ path → ((levels : List Level) → elements_to library (length library - length fs) levels (placed_name (element_at library f.model f.next)) ≡ []) → IsMoved library path (f ∷ fs) w
moved_past library path f fs old w known_same a below i frames kept none = record {
  same = rw (frames, kept) (sym (skipped library path f (record f { next = f.next + 1; number = f.number + 1 }) fs below i refl none));
  walking = passed_walking library path f fs old w known_same a frames kept;
  fewer = rw frames (passed_fewer library f (record f { next = f.next + 1; number = f.number + 1 }) fs below refl refl);
}

pub moved_into : (library : List PlainModel) (path : List ℕ) (f : Frame) (fs : List Frame) (middle : List Frame) (old w : Walk) (nets : List ℕ → Option (ℕ × List ℕ)) (y : ℕ) → ((k : ℕ) → k < suc (length fs) → known_net w k ≡ known_net old k) → ((name : List ℕ) (end : ℕ) (net : List ℕ) → known_net w (suc (length fs)) name ≡ Some (end, net) → nets name ≡ Some (end, net)) → ((name : List ℕ) (end : ℕ) (net : List ℕ) → nets name ≡ Some (end, net) → (actual : List ℕ) × (actual_of (bound_by library (Some (f.model, f.next))) name ≡ Some actual) × (end ≤ f.path_end) × (resolve (map (level_of library path) (f ∷ fs)) actual ≡ record { path = take end path; name = net })) → AreWalked library path (known_net old) (f ∷ fs) → f.next < length (model_at library f.model).elements → IsInstance (element_at library f.model f.next) → length fs < length library → (holds : List Bool) → AreBare library holds → target_of (names_of library) holds (element_at library f.model f.next) ≡ Some y → middle ≡ record { model = f.model; next = f.next + 1; number = f.number + 1; placing = f.placing; path_end = f.path_end } ∷ fs → innermost_first w ≡ record { model = y; next = 0; number = 0; placing = Some (f.model, f.next); path_end = length w.path.items } ∷ middle → w.path.items ≡ take f.path_end path ++ f.number ∷ [] → f.number < 2 ^ 64 → IsMoved library path (f ∷ fs) w
moved_into library path f fs middle old w nets y deep_known grown nets_right a below i deep holds bare target mid frames longer small = record {
  same = rw (frames, mid) (sym (entered library path w.path.items f g h fs y a.frames_are below i deep found.1 refl refl longer));
  walking = walks library w w.path.items (h ∷ g ∷ fs) refl (frames ∙ ap (λ m. h ∷ m) mid) (record {
    frames_are = entered_frames library path w.path.items f g h fs y a.frames_are below found.0 refl refl longer;
    known_are = entered_known library path w.path.items f g h fs y old w nets a.frames_are a.known_are deep_known grown longer refl refl nets_right;
    small = subst AreSmall (sym longer) (path_more path f.path_end f.number small a.small);
  });
  fewer = rw (frames, mid) (entered_fewer library f g h fs y (length w.path.items) below i deep found.1 refl refl);
}
  where
    found : (y < length library) × (model_named library (placed_name (element_at library f.model f.next)) ≡ Some (model_at library y))
    found = target_is library holds bare (element_at library f.model f.next) y target i

    g : Frame
    g = record f { next = f.next + 1; number = f.number + 1 }

    h : Frame
    h = record { model = y; next = 0; number = 0; placing = Some (f.model, f.next); path_end = length w.path.items }

-- what the link of an element says that it places
pub target_at : (library : List PlainModel) (rows : List Row) (r : AreReady library rows) (x i : ℕ) (link : Link) → x < length library → ((row : Row) → slice_get rows x ≡ Some row → slice_get row.links.items i ≡ Some link) → link.target ≡ target_of (names_of library) r.holds (element_at library x i)
target_at library rows r x i link below at = go (some_row library (names_of library) r.holds rows r.links x below)
  where
    go : (row : Row) × (slice_get rows x ≡ Some row) → link.target ≡ target_of (names_of library) r.holds (element_at library x i)
    go (row, e) = (link_of library (names_of library) r.holds rows r.links x i row link e (at row e)).target

-- what the link of an element says that it binds
pub binds_at : (library : List PlainModel) (rows : List Row) (r : AreReady library rows) (x i : ℕ) (link : Link) → x < length library → ((row : Row) → slice_get rows x ≡ Some row → slice_get row.links.items i ≡ Some link) → Binds link.actuals (bindings_of (element_at library x i))
binds_at library rows r x i link below at = go (some_row library (names_of library) r.holds rows r.links x below)
  where
    go : (row : Row) × (slice_get rows x ≡ Some row) → Binds link.actuals (bindings_of (element_at library x i))
    go (row, e) = (link_of library (names_of library) r.holds rows r.links x i row link e (at row e)).actuals

pub nothing_there : (library : List PlainModel) (rows : List Row) (r : AreReady library rows) (e : PlainElement) → target_of (names_of library) r.holds e ≡ None → IsInstance e → (depth : ℕ) (levels : List Level) → elements_to library depth levels (placed_name e) ≡ []
nothing_there library rows r e none i depth levels = no_target library r.holds r.bare e none i depth levels

-- ---- the next element

pub next_left : (library : List PlainModel) (path : List ℕ) (f : Frame) (fs : List Frame) (old w : Walk) → IsWalking library old → old.path.items ≡ path → innermost_first old ≡ f ∷ fs → innermost_first w ≡ fs → w.path.items ≡ path → w.known.items ≡ old.known.items → length (model_at library f.model).elements ≤ f.next → (coming library w ≡ coming library old) × IsWalking library w × (moves library w < moves library old)
next_left library path f fs old w a kept frames left_frames same known_same all = (
  rw (left_frames, same, kept, frames) (sym (left library path f fs all)),
  walks library w path fs same left_frames (record {
    frames_are = frames_weaken library f.path_end (length path) fs walked.frames_are.0 walked.frames_are.4;
    known_are = subst (λ k. AreKnown library path k fs) (sym (known_by old w known_same)) walked.known_are.1;
    small = walked.small;
  }),
  rw (left_frames, frames) (left_fewer library f fs all),
)
  where
    walked : AreWalked library path (known_net old) (f ∷ fs)
    walked = walked_at library old path (f ∷ fs) kept frames a

levels : (library : List PlainModel) (w : Walk) (p : List ℕ) (gs : List Frame) → w.path.items ≡ p → innermost_first w ≡ gs → levels_of library w ≡ map (level_of library p) gs
levels library w p gs e f = ap (λ q. map (level_of library q) (innermost_first w)) e ∙ ap (λ hs. map (level_of library p) hs) f

come : (library : List PlainModel) (w : Walk) (p : List ℕ) (gs : List Frame) → w.path.items ≡ p → innermost_first w ≡ gs → coming library w ≡ coming_from library p gs
come library w p gs e f = ap (λ q. coming_from library q (innermost_first w)) e ∙ ap (λ hs. coming_from library p hs) f

join : {X : Type 0} {a b c d : List X} → a ≡ b → c ≡ d → a ++ c ≡ b ++ d
join e f = cc

pub next_found : (library : List PlainModel) (path : List ℕ) (f : Frame) (fs : List Frame) (old w : Walk) → IsWalking library old → old.path.items ≡ path → innermost_first old ≡ f ∷ fs → innermost_first w ≡ record { model = f.model; next = f.next + 1; number = f.number; placing = f.placing; path_end = f.path_end } ∷ fs → w.path.items ≡ path → w.known.items ≡ old.known.items → f.next < length (model_at library f.model).elements → ¬ IsInstance (element_at library f.model f.next) → IsNext library old (Some (f.model, f.next)) w
next_found library path f fs old w a kept frames new_frames same known_same below plain = record {
  model = walked.frames_are.2;
  element = below;
  plain = plain;
  walking = walks library w path (record f { next = f.next + 1 } ∷ fs) same new_frames (record {
    frames_are = (walked.frames_are.0, (let n = walked.frames_are.1 in omega arith), walked.frames_are.2, walked.frames_are.3, walked.frames_are.4);
    known_are = subst (λ k. AreKnown library path k (f ∷ fs)) (sym (known_by old w known_same)) walked.known_are;
    small = walked.small;
  });
  comes = come library old path (f ∷ fs) kept frames ∙ (passed library path f (record f { next = f.next + 1 }) fs below plain refl
      ∙ sym (join (ap (λ ls. placed_element ls (element_at library f.model f.next)) (levels library w path (record f { next = f.next + 1 } ∷ fs) same new_frames)) (come library w path (record f { next = f.next + 1 } ∷ fs) same new_frames)));
}
  where
    walked : AreWalked library path (known_net old) (f ∷ fs)
    walked = walked_at library old path (f ∷ fs) kept frames a

pub at_element : (models : List BlifModel) (x i : ℕ) (item : BlifModel) (e : Element) → x < length models → item ≡ get_or models x item → i < length item.elements.items → e ≡ get_or item.elements.items i e → element_at (map plain_model models) x i ≡ plain_element e
at_element models x i item e below is within at =
    ap (λ m. get_or m.elements i no_element) (at_model models x item below is)
    ∙ (get_or-map plain_element item.elements.items i e no_element within ∙ ap plain_element (sym at))

nothing : (library : List PlainModel) (p : List ℕ) → coming_from library p [] ≡ []
unfolding coming_from
nothing library p = refl

pub none_left : (library : List PlainModel) (w old : Walk) → innermost_first w ≡ [] → coming library w ≡ coming library old → coming library old ≡ []
none_left library w old none same = sym same ∙ (come library w w.path.items [] refl none ∙ nothing library w.path.items)

pub top_in : (library : List PlainModel) (w : Walk) (f : Frame) (fs : List Frame) → IsWalking library w → innermost_first w ≡ f ∷ fs → f.model < length library
top_in library w f fs a frames = (walked_at library w w.path.items (f ∷ fs) refl frames a).frames_are.2

pub all_walked : (models : List BlifModel) (x next : ℕ) (item : BlifModel) → x < length models → item ≡ get_or models x item → length item.elements.items ≤ next → length (model_at (map plain_model models) x).elements ≤ next
all_walked models x next item below is all = let e = ap (λ m. length m.elements) (at_model models x item below is) in omega (arith, length-map item.elements.items plain_element)

pub some_left : (models : List BlifModel) (x next : ℕ) (item : BlifModel) → x < length models → item ≡ get_or models x item → next < length item.elements.items → next < length (model_at (map plain_model models) x).elements
some_left models x next item below is more = let e = ap (λ m. length m.elements) (at_model models x item below is) in omega (arith, length-map item.elements.items plain_element)
