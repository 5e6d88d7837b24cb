-- What is still to come after one move of a walk.
use Rattle.std.proofs.Common.{◌≡◌, ℕ, zero, suc, ◌+◌, ◌-◌, ◌<◌, ◌≤◌, Bool, true, false, cond, List, [], ◌∷◌, ◌++◌, length, take, drop, map, refl, sym, ap, ◌∙◌, arith, add-one, Option, Some, None, append_assoc, drop-cons}
use Rattle.std.specs.Prelude.{slice_index_or}
use Rattle.std.specs.Option.{is_none, option_map_or}
use Rattle.std.proofs.lemmas.List.{drop_all, length-append, length-take, take-append-le, take_all, length-map}
use Rattle.std.proofs.lemmas.Option.{slice_get-get_or}
use Rattle.blif_text.specs.Models.{PlainElement, Table, Register, Instance, PlainModel}
use Rattle.blif_text.specs.Library.{name_of}
use Rattle.hierarchy.specs.declared.walking.walk.Frame.{Frame}
use Rattle.hierarchy.specs.declared.walking.walk.Walk.{Walk}
use Rattle.library_faults.specs.Graph.{names_of, number_named, model_named}
use Rattle.library_faults.specs.Flat.{Level, NetElement, no_model, path_of, actual_of, resolve, elements_with, elements_to}
use Rattle.hierarchy.specs.Private.Bindings.{target_of, bindings_of}
use Rattle.hierarchy.specs.Private.Walk.{bound_by, level_of, rest_of, coming_from, known_net, AreFrames, AreKnown, moves_with, moves_to, moves_from}
use Rattle.library_faults.specs.Private.Models.{IsInstance, model_at, no_element, element_at}
use Rattle.library_faults.proofs.GraphLaws.{number_within}
use Rattle.wrapper_chains.specs.Bare.{AreBare, filled}
use Rattle.wrapper_chains.specs.Private.Placed.{placed_element}
use Rattle.wrapper_chains.proofs.BareLaws.{nothing_placed, nothing_to}

-- ---- paths that begin alike

take_shorter : (path : List ℕ) (end e : ℕ) → e ≤ end → take e (take end path) ≡ take e path
take_shorter [] zero zero l = refl
take_shorter [] (suc end) zero l = refl
take_shorter [] zero (suc e) l = refl
take_shorter [] (suc end) (suc e) l = refl
take_shorter (b ∷ path) zero zero l = refl
take_shorter (b ∷ path) zero (suc e) l = absurd (omega arith)
take_shorter (b ∷ path) (suc end) zero l = refl
take_shorter (b ∷ path) (suc end) (suc e) l = ap (λ bs. b ∷ bs) (take_shorter path end e (omega arith))

cut_same : (path more : List ℕ) (end e : ℕ) → e ≤ end → end ≤ length path → take e path ≡ take e (take end path ++ more)
cut_same path more end e low high = sym (take-append-le e (take end path) more (omega (arith, length-take end path)) ∙ take_shorter path end e low)

views : (library : List PlainModel) (path other : List ℕ) (bound : ℕ) (fs : List Frame) → AreFrames library bound fs → ((e : ℕ) → e ≤ bound → take e path ≡ take e other) → map (level_of library path) fs ≡ map (level_of library other) fs
views library path other bound [] a same = refl
views library path other bound (f ∷ fs) a same =
    let head : level_of library path f ≡ level_of library other f = ap (λ p. record { path = p; bindings = bound_by library f.placing }) (same f.path_end a.0) in
    let tail : map (level_of library path) fs ≡ map (level_of library other) fs = views library path other f.path_end fs a.4 (λ e l. same e (let h = a.0 in omega arith)) in
    cc

come_same : (library : List PlainModel) (path other : List ℕ) (bound : ℕ) (fs : List Frame) → AreFrames library bound fs → ((e : ℕ) → e ≤ bound → take e path ≡ take e other) → coming_from library path fs ≡ coming_from library other fs
unfolding coming_from
come_same library path other bound [] a same = refl
come_same library path other bound (f ∷ fs) a same =
    let levels : map (level_of library path) (f ∷ fs) ≡ map (level_of library other) (f ∷ fs) = views library path other bound (f ∷ fs) a same in
    let here : rest_of library (length library - length fs) (map (level_of library path) (f ∷ fs)) f ≡ rest_of library (length library - length fs) (map (level_of library other) (f ∷ fs)) f = ap (λ ls. rest_of library (length library - length fs) ls f) levels in
    let tail : coming_from library path fs ≡ coming_from library other fs = come_same library path other f.path_end fs a.4 (λ e l. same e (let h = a.0 in omega arith)) in
    cc

pub frames_weaken : (library : List PlainModel) (bound wider : ℕ) (fs : List Frame) → bound ≤ wider → AreFrames library bound fs → AreFrames library wider fs
frames_weaken library bound wider [] l a = tt
frames_weaken library bound wider (f ∷ fs) l a = ((let h = a.0 in omega arith), a.1, a.2, a.3, a.4)

-- ---- a model that is walked whole is left

pub left : (library : List PlainModel) (path : List ℕ) (f : Frame) (fs : List Frame) → length (model_at library f.model).elements ≤ f.next → coming_from library path (f ∷ fs) ≡ coming_from library path fs
unfolding coming_from elements_with
left library path f fs all = rw (drop_all f.next (model_at library f.model).elements all) refl

pub left_fewer : (library : List PlainModel) (f : Frame) (fs : List Frame) → length (model_at library f.model).elements ≤ f.next → moves_from library fs < moves_from library (f ∷ fs)
unfolding moves_from moves_with
left_fewer library f fs all = rw (drop_all f.next (model_at library f.model).elements all) (omega arith)

-- ---- a table or a register is passed

cut : (library : List PlainModel) (f : Frame) → f.next < length (model_at library f.model).elements → drop f.next (model_at library f.model).elements ≡ element_at library f.model f.next ∷ drop (f.next + 1) (model_at library f.model).elements
cut library f below = rw (add-one) (drop-cons (model_at library f.model).elements f.next no_element below)

plain_first : (inner : List Level → List ℕ → List NetElement) (levels : List Level) (number : ℕ) (e : PlainElement) (rest : List PlainElement) → ¬ IsInstance e → elements_with inner levels number (e ∷ rest) ≡ placed_element levels e ++ elements_with inner levels number rest
unfolding elements_with
plain_first inner levels number (Table pins out cover) rest plain = refl
plain_first inner levels number (Register pin out control init) rest plain = refl
plain_first inner levels number (Instance model bindings) rest plain = absurd (plain tt)

pub passed : (library : List PlainModel) (path : List ℕ) (f g : Frame) (fs : List Frame) → f.next < length (model_at library f.model).elements → ¬ IsInstance (element_at library f.model f.next) → g ≡ record f { next = f.next + 1 } → coming_from library path (f ∷ fs) ≡ placed_element (map (level_of library path) (g ∷ fs)) (element_at library f.model f.next) ++ coming_from library path (g ∷ fs)
unfolding coming_from
passed library path f g fs below plain is = rw is (rw (cut library f below, plain_first _ _ f.number (element_at library f.model f.next) (drop (f.next + 1) (model_at library f.model).elements) plain) (append_assoc (placed_element (map (level_of library path) (f ∷ fs)) (element_at library f.model f.next)) _ _))

moves_first : (inner : List ℕ → ℕ) (e : PlainElement) (rest : List PlainElement) → moves_with inner rest < moves_with inner (e ∷ rest)
unfolding moves_with
moves_first inner (Table pins out cover) rest = omega arith
moves_first inner (Register pin out control init) rest = omega arith
moves_first inner (Instance model bindings) rest = omega arith

pub passed_fewer : (library : List PlainModel) (f g : Frame) (fs : List Frame) → f.next < length (model_at library f.model).elements → g.next ≡ f.next + 1 → g.model ≡ f.model → moves_from library (g ∷ fs) < moves_from library (f ∷ fs)
unfolding moves_from
passed_fewer library f g fs below next model = rw (next, model, cut library f below) (let less = moves_first (moves_to library (length library - length fs)) (element_at library f.model f.next) (drop (f.next + 1) (model_at library f.model).elements) in omega arith)

-- ---- a placed model

pub placed_name : PlainElement → List ℕ
placed_name (Table pins out cover) = []
placed_name (Register pin out control init) = []
placed_name (Instance model bindings) = model

pub instance_first : (inner : List Level → List ℕ → List NetElement) (levels : List Level) (number : ℕ) (e : PlainElement) (rest : List PlainElement) → IsInstance e → elements_with inner levels number (e ∷ rest) ≡ inner (record { path = path_of levels ++ number ∷ []; bindings = bindings_of e } ∷ levels) (placed_name e) ++ elements_with inner levels (number + 1) rest
unfolding elements_with placed_name
instance_first inner levels number (Table pins out cover) rest i = absurd i
instance_first inner levels number (Register pin out control init) rest i = absurd i
instance_first inner levels number (Instance model bindings) rest i = refl

instance_moves : (inner : List ℕ → ℕ) (e : PlainElement) (rest : List PlainElement) → IsInstance e → moves_with inner (e ∷ rest) ≡ suc (inner (placed_name e) + moves_with inner rest)
unfolding moves_with placed_name
instance_moves inner (Table pins out cover) rest i = absurd i
instance_moves inner (Register pin out control init) rest i = absurd i
instance_moves inner (Instance model bindings) rest i = refl

-- the statement comes first, and then the rest
pub placing_step : (library : List PlainModel) (path : List ℕ) (f g : Frame) (fs : List Frame) → f.next < length (model_at library f.model).elements → IsInstance (element_at library f.model f.next) → g ≡ record f { next = f.next + 1; number = f.number + 1 } → coming_from library path (f ∷ fs) ≡ elements_to library (length library - length fs) (record { path = take f.path_end path ++ f.number ∷ []; bindings = bindings_of (element_at library f.model f.next) } ∷ map (level_of library path) (f ∷ fs)) (placed_name (element_at library f.model f.next)) ++ coming_from library path (g ∷ fs)
unfolding coming_from
placing_step library path f g fs below i is = rw is (rw (cut library f below, instance_first _ _ f.number (element_at library f.model f.next) (drop (f.next + 1) (model_at library f.model).elements) i) (append_assoc (elements_to library (length library - length fs) (record { path = take f.path_end path ++ f.number ∷ []; bindings = bindings_of (element_at library f.model f.next) } ∷ map (level_of library path) (f ∷ fs)) (placed_name (element_at library f.model f.next))) _ _))

module _ (library : List PlainModel) (holds : List Bool) (bare : AreBare library holds) where
  -- what has no target has no elements
  pub no_target : (e : PlainElement) → target_of (names_of library) holds e ≡ None → IsInstance e → (depth : ℕ) (levels : List Level) → elements_to library depth levels (placed_name e) ≡ []
  unfolding placed_name
  no_target (Table pins out cover) none i depth levels = absurd i
  no_target (Register pin out control init) none i depth levels = absurd i
  no_target (Instance model bindings) none i depth levels = nothing_to library depth levels model (nothing_placed library holds bare depth model (ap is_none none))

  some_named : (model : List ℕ) (y : ℕ) (o : Option ℕ) → number_named (names_of library) model ≡ o → filled holds o ≡ Some y → number_named (names_of library) model ≡ Some y
  some_named model y None e some = absurd cc
  some_named model y (Some x) e some = e ∙ on (slice_index_or holds x true) some
    where
      on : (v : Bool) → cond v (Some x) None ≡ Some y → Some x ≡ Some y
      on true g = g
      on false g = absurd cc

  -- a target is the model of that name
  pub target_is : (e : PlainElement) (y : ℕ) → target_of (names_of library) holds e ≡ Some y → IsInstance e → (y < length library) × (model_named library (placed_name e) ≡ Some (model_at library y))
  unfolding placed_name
  target_is (Table pins out cover) y some i = absurd i
  target_is (Register pin out control init) y some i = absurd i
  target_is (Instance model bindings) y some i = (below, rw named (slice_get-get_or library y no_model below))
    where
      named : number_named (names_of library) model ≡ Some y
      named = some_named model y (number_named (names_of library) model) refl some

      below : y < length library
      below = omega (arith, number_within (names_of library) model y named, length-map library name_of)

depth_more : (n k : ℕ) → k < n → n - k ≡ suc (n - suc k)
depth_more n k l = omega arith

into : (library : List PlainModel) (depth y : ℕ) (levels : List Level) (name : List ℕ) → model_named library name ≡ Some (model_at library y) → elements_to library (suc depth) levels name ≡ elements_with (elements_to library depth) levels 0 (model_at library y).elements
unfolding elements_to
into library depth y levels name e = rw e refl

into_moves : (library : List PlainModel) (depth y : ℕ) (name : List ℕ) → model_named library name ≡ Some (model_at library y) → moves_to library (suc depth) name ≡ moves_with (moves_to library depth) (model_at library y).elements
unfolding moves_to
into_moves library depth y name e = rw e refl

one_more : (library : List PlainModel) (path : List ℕ) (f : Frame) (fs : List Frame) → coming_from library path (f ∷ fs) ≡ rest_of library (length library - length fs) (map (level_of library path) (f ∷ fs)) f ++ coming_from library path fs
unfolding coming_from
one_more library path f fs = refl

rest_new : (library : List PlainModel) (depth : ℕ) (levels : List Level) (h : Frame) (y : ℕ) (placing : Option (ℕ × ℕ)) (end : ℕ) → h ≡ record { model = y; next = 0; number = 0; placing = placing; path_end = end } → rest_of library depth levels h ≡ elements_with (elements_to library depth) levels 0 (model_at library y).elements
rest_new library depth levels h y placing end is = rw is refl

join : {X : Type 0} (a b : List X) (c d : List X) → a ≡ b → c ≡ d → a ++ c ≡ b ++ d
join a b c d e f = cc

pair : {X : Type 0} (a b : X) (c d : List X) → a ≡ b → c ≡ d → a ∷ c ≡ b ∷ d
pair a b c d e f = cc

-- the placed model comes before the rest
pub entered : (library : List PlainModel) (path other : List ℕ) (f g h : Frame) (fs : List Frame) (y : ℕ) → AreFrames library (length path) (f ∷ fs) → f.next < length (model_at library f.model).elements → IsInstance (element_at library f.model f.next) → length fs < length library → model_named library (placed_name (element_at library f.model f.next)) ≡ Some (model_at library y) → g ≡ record f { next = f.next + 1; number = f.number + 1 } → h ≡ record { model = y; next = 0; number = 0; placing = Some (f.model, f.next); path_end = length other } → other ≡ take f.path_end path ++ f.number ∷ [] → coming_from library path (f ∷ fs) ≡ coming_from library other (h ∷ g ∷ fs)
entered library path other f g h fs y a below i deep named is_g is_h is_other =
    placing_step library path f g fs below i is_g
    ∙ (join _ _ _ _ first come ∙ sym (one_more library other h (g ∷ fs)))
  where
    same : (e : ℕ) → e ≤ f.path_end → take e path ≡ take e other
    same e l = rw is_other (cut_same path (f.number ∷ []) f.path_end e l a.0)

    frames_g : AreFrames library f.path_end (g ∷ fs)
    frames_g = rw is_g ((omega arith, (let n = a.1 in omega arith), a.2, a.3, a.4))

    tail : map (level_of library path) (f ∷ fs) ≡ map (level_of library other) (g ∷ fs)
    tail = (let e : map (level_of library path) (f ∷ fs) ≡ map (level_of library path) (g ∷ fs) = rw is_g refl in e) ∙ views library path other f.path_end (g ∷ fs) frames_g same

    come : coming_from library path (g ∷ fs) ≡ coming_from library other (g ∷ fs)
    come = come_same library path other f.path_end (g ∷ fs) frames_g same

    whole : take (length other) other ≡ take f.path_end path ++ f.number ∷ []
    whole = take_all (length other) other (omega arith) ∙ is_other

    head : record { path = take f.path_end path ++ f.number ∷ []; bindings = bindings_of (element_at library f.model f.next) } ≡ level_of library other h
    head = rw is_h (ap (λ p. record { path = p; bindings = bindings_of (element_at library f.model f.next) }) (sym whole))

    first : elements_to library (length library - length fs) (record { path = take f.path_end path ++ f.number ∷ []; bindings = bindings_of (element_at library f.model f.next) } ∷ map (level_of library path) (f ∷ fs)) (placed_name (element_at library f.model f.next)) ≡ rest_of library (length library - length (g ∷ fs)) (map (level_of library other) (h ∷ g ∷ fs)) h
    first =
        ap (λ d. elements_to library d (record { path = take f.path_end path ++ f.number ∷ []; bindings = bindings_of (element_at library f.model f.next) } ∷ map (level_of library path) (f ∷ fs)) (placed_name (element_at library f.model f.next))) (depth_more (length library) (length fs) deep)
        ∙ (ap (λ ls. elements_to library (suc (length library - suc (length fs))) ls (placed_name (element_at library f.model f.next))) (pair _ _ _ _ head tail)
        ∙ (into library (length library - suc (length fs)) y (map (level_of library other) (h ∷ g ∷ fs)) (placed_name (element_at library f.model f.next)) named
        ∙ sym (rest_new library (length library - suc (length fs)) (map (level_of library other) (h ∷ g ∷ fs)) h y (Some (f.model, f.next)) (length other) is_h)))

pub entered_frames : (library : List PlainModel) (path other : List ℕ) (f g h : Frame) (fs : List Frame) (y : ℕ) → AreFrames library (length path) (f ∷ fs) → f.next < length (model_at library f.model).elements → y < length library → g ≡ record f { next = f.next + 1; number = f.number + 1 } → h ≡ record { model = y; next = 0; number = 0; placing = Some (f.model, f.next); path_end = length other } → other ≡ take f.path_end path ++ f.number ∷ [] → AreFrames library (length other) (h ∷ g ∷ fs)
entered_frames library path other f g h fs y a below known is_g is_h is_other = rw (is_h, is_g) ((omega arith, omega arith, known, (a.2, below), (longer, (let n = a.1 in omega arith), a.2, a.3, a.4)))
  where
    longer : f.path_end ≤ length other
    longer = rw is_other (let h = a.0 in omega (arith, length-append (take f.path_end path) (f.number ∷ []), length-take f.path_end path))

-- what was known of outer placed models stays right, since their paths stay
known_same : (library : List PlainModel) (path other : List ℕ) (bound : ℕ) (fs : List Frame) (known later : ℕ → List ℕ → Option (ℕ × List ℕ)) → AreFrames library bound fs → ((e : ℕ) → e ≤ bound → take e path ≡ take e other) → ((k : ℕ) → k < length fs → later k ≡ known k) → AreKnown library path known fs → AreKnown library other later fs
known_same library path other bound [] known later a same kept right = tt
known_same library path other bound (f ∷ fs) known later a same kept right = (
  (λ name end net e. go name end net (right.0 name end net (ap (λ k. k name) (sym (kept (length fs) (omega arith))) ∙ e))),
  known_same library path other f.path_end fs known later a.4 (λ e l. same e (let h = a.0 in omega arith)) (λ k l. kept k (omega arith)) right.1,
)
  where
    go : (name : List ℕ) (end : ℕ) (net : List ℕ) → (end ≤ f.path_end) × (resolve (map (level_of library path) (f ∷ fs)) name ≡ record { path = take end path; name = net }) → (end ≤ f.path_end) × (resolve (map (level_of library other) (f ∷ fs)) name ≡ record { path = take end other; name = net })
    go name end net (low, is) = (low, ap (λ ls. resolve ls name) (sym (views library path other bound (f ∷ fs) a same)) ∙ (is ∙ ap (λ p. record { path = p; name = net }) (same end (let h = a.0 in omega arith))))

pub entered_known : (library : List PlainModel) (path other : List ℕ) (f g h : Frame) (fs : List Frame) (y : ℕ) (old w : Walk) (nets : List ℕ → Option (ℕ × List ℕ)) → AreFrames library (length path) (f ∷ fs) → AreKnown library path (known_net old) (f ∷ fs) → ((k : ℕ) → k < suc (length fs) → known_net w k ≡ known_net old k) → ((name : List ℕ) (end : ℕ) (net : List ℕ) → known_net w (suc (length fs)) name ≡ Some (end, net) → nets name ≡ Some (end, net)) → other ≡ take f.path_end path ++ f.number ∷ [] → g ≡ record f { next = f.next + 1; number = f.number + 1 } → h ≡ record { model = y; next = 0; number = 0; placing = Some (f.model, f.next); path_end = length other } → ((name : List ℕ) (end : ℕ) (net : List ℕ) → nets name ≡ Some (end, net) → (actual : List ℕ) × (actual_of (bound_by library (Some (f.model, f.next))) name ≡ Some actual) × (end ≤ f.path_end) × (resolve (map (level_of library path) (f ∷ fs)) actual ≡ record { path = take end path; name = net })) → AreKnown library other (known_net w) (h ∷ g ∷ fs)
unfolding resolve
entered_known library path other f g h fs y old w nets a known kept grown is_other is_g is_h right = rw (is_h, is_g) (
  (λ name end net e. go name end net (right name end net (grown name end net e))),
  known_same library path other f.path_end (f ∷ fs) (known_net old) (known_net w) own same kept known,
)
  where
    own : AreFrames library f.path_end (f ∷ fs)
    own = (omega arith, a.1, a.2, a.3, a.4)

    same : (e : ℕ) → e ≤ f.path_end → take e path ≡ take e other
    same e l = cut_same path (f.number ∷ []) f.path_end e l a.0 ∙ ap (take e) (sym is_other)

    go : (name : List ℕ) (end : ℕ) (net : List ℕ) → (actual : List ℕ) × (actual_of (bound_by library (Some (f.model, f.next))) name ≡ Some actual) × (end ≤ f.path_end) × (resolve (map (level_of library path) (f ∷ fs)) actual ≡ record { path = take end path; name = net }) → (end ≤ length other) × (resolve (record { path = take (length other) other; bindings = bound_by library (Some (f.model, f.next)) } ∷ map (level_of library other) (f ∷ fs)) name ≡ record { path = take end other; name = net })
    go name end net (actual, bound, low, is) = (
      (let h = a.0 in omega (arith, ap length is_other, length-append (take f.path_end path) (f.number ∷ []), length-take f.path_end path)),
      ap (λ o. option_map_or (resolve (map (level_of library other) (f ∷ fs))) o (record { path = take (length other) other; name = name })) bound
          ∙ (ap (λ ls. resolve ls actual) (sym (views library path other f.path_end (f ∷ fs) own same)) ∙ (is ∙ ap (λ p. record { path = p; name = net }) (same end low))),
    )

pub entered_fewer : (library : List PlainModel) (f g h : Frame) (fs : List Frame) (y : ℕ) (end : ℕ) → f.next < length (model_at library f.model).elements → IsInstance (element_at library f.model f.next) → length fs < length library → model_named library (placed_name (element_at library f.model f.next)) ≡ Some (model_at library y) → g ≡ record f { next = f.next + 1; number = f.number + 1 } → h ≡ record { model = y; next = 0; number = 0; placing = Some (f.model, f.next); path_end = end } → moves_from library (h ∷ g ∷ fs) < moves_from library (f ∷ fs)
unfolding moves_from
entered_fewer library f g h fs y end below i deep named is_g is_h = rw (is_h, is_g, cut library f below) (
    let inner : moves_to library (length library - length fs) (placed_name (element_at library f.model f.next)) ≡ moves_with (moves_to library (length library - suc (length fs))) (model_at library y).elements = ap (λ d. moves_to library d (placed_name (element_at library f.model f.next))) (depth_more (length library) (length fs) deep) ∙ into_moves library (length library - suc (length fs)) y (placed_name (element_at library f.model f.next)) named in
    let here = instance_moves (moves_to library (length library - length fs)) (element_at library f.model f.next) (drop (f.next + 1) (model_at library f.model).elements) i in
    omega arith)

-- the statement is passed alone
pub skipped_frames : (library : List PlainModel) (bound : ℕ) (f g : Frame) (fs : List Frame) → AreFrames library bound (f ∷ fs) → g ≡ record f { next = f.next + 1; number = f.number + 1 } → AreFrames library bound (g ∷ fs)
skipped_frames library bound f g fs a is = rw is ((a.0, (let n = a.1 in omega arith), a.2, a.3, a.4))

pub skipped : (library : List PlainModel) (path : List ℕ) (f g : Frame) (fs : List Frame) → f.next < length (model_at library f.model).elements → IsInstance (element_at library f.model f.next) → g ≡ record f { next = f.next + 1; number = f.number + 1 } → ((levels : List Level) → elements_to library (length library - length fs) levels (placed_name (element_at library f.model f.next)) ≡ []) → coming_from library path (f ∷ fs) ≡ coming_from library path (g ∷ fs)
skipped library path f g fs below i is none = placing_step library path f g fs below i is ∙ rw (none _) refl

-- no model is placed deeper than there are models
pub too_deep : (library : List PlainModel) (k : ℕ) (levels : List Level) (name : List ℕ) → length library ≤ k → elements_to library (length library - k) levels name ≡ []
unfolding elements_to
too_deep library k levels name deep = let e : length library - k ≡ 0 = omega arith in rw e refl
