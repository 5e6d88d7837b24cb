-- What a walk has still to come.
use Rattle.std.specs.Prelude.{◌≡◌, ℕ, Bool, zero, suc, ◌+◌, ◌-◌, ◌<◌, ◌≤◌, List, [], ◌∷◌, ◌++◌, length, map, take, drop, reverse, Option, Some, None, slice_get, option_and_then}
use Rattle.std.specs.Option.{option_map_or}
use Rattle.std.specs.Str.{bytes_eq}
use Rattle.indexmap.specs.IndexMap.{get}
use Rattle.blif_text.specs.Views.{plain_model}
use Rattle.blif_text.specs.Models.{PlainElement, Table, Register, Instance, PlainModel}
use Rattle.hierarchy.specs.declared.walking.walk.Frame.{Frame}
use Rattle.hierarchy.specs.declared.walking.walk.Walk.{Walk}
use Rattle.hierarchy.specs.declared.walking.walk.Place.{Place}
use Rattle.library_faults.specs.Graph.{names_of, model_named}
use Rattle.library_faults.specs.Flat.{Level, PlacedNet, actual_of, NetElement, resolve, elements_with, elements_to}
use Rattle.library_faults.specs.Private.Models.{model_at, element_at, IsInstance}
use Rattle.hierarchy.specs.Private.Naming.{AreSmall}
use Rattle.hierarchy.specs.declared.walking.bindings.Row.{Row}
use Rattle.hierarchy.specs.declared.walking.bindings.Ready.{Ready}
use Rattle.hierarchy.specs.Private.Bindings.{bindings_of, AreRows}
use Rattle.wrapper_chains.specs.Bare.{AreBare}
use Rattle.wrapper_chains.specs.Private.Placed.{placed_element}

-- what the statement that places the model binds
abbrev pub bound_by : List PlainModel → Option (ℕ × ℕ) → List (List ℕ × List ℕ)
bound_by library None = []
bound_by library (Some (x, i)) = bindings_of (element_at library x i)

abbrev pub level_of : List PlainModel → List ℕ → Frame → Level
level_of library path f = record { path = take f.path_end path; bindings = bound_by library f.placing }

-- the elements of a placed model that are still to come
abbrev pub rest_of : List PlainModel → ℕ → List Level → Frame → List NetElement
rest_of library depth levels f = elements_with (elements_to library depth) levels f.number (drop f.next (model_at library f.model).elements)

-- the elements still to come of placed models, the innermost first
unfoldable pub coming_from : List PlainModel → List ℕ → List Frame → List NetElement
coming_from library path [] = []
coming_from library path (f ∷ frames) =
    rest_of library (length library - length frames) (map (level_of library path) (f ∷ frames)) f ++ coming_from library path frames

abbrev pub innermost_first : Walk → List Frame
innermost_first w = reverse w.frames.items

abbrev pub levels_of : List PlainModel → Walk → List Level
levels_of library w = map (level_of library w.path.items) (innermost_first w)

-- the elements still to come
abbrev pub coming : List PlainModel → Walk → List NetElement
coming library w = coming_from library w.path.items (innermost_first w)

-- a statement of the library
abbrev pub IsPlacing : List PlainModel → Option (ℕ × ℕ) → Type 0
IsPlacing library None = Unit {0}
IsPlacing library (Some (x, i)) = (x < length library) × (i < length (model_at library x).elements)

-- paths become shorter outwards
abbrev pub AreFrames : List PlainModel → ℕ → List Frame → Type 0
AreFrames library bound [] = Unit {0}
AreFrames library bound (f ∷ frames) =
    (f.path_end ≤ bound) × (f.number ≤ f.next) × (f.model < length library) × IsPlacing library f.placing × AreFrames library f.path_end frames

-- the net of a name in the placed model of this depth, where a walk knows it: where its path ends, and its name
abbrev pub known_net : Walk → ℕ → List ℕ → Option (ℕ × List ℕ)
known_net w depth name = option_and_then (λ nets. get bytes_eq nets name) (slice_get w.known.items depth)

-- what is known of the net of a name in these placed models is right
abbrev pub AreKnown : List PlainModel → List ℕ → (ℕ → List ℕ → Option (ℕ × List ℕ)) → List Frame → Type 0
AreKnown library path known [] = Unit {0}
AreKnown library path known (f ∷ frames) =
    ((name : List ℕ) (end : ℕ) (net : List ℕ) → known (length frames) name ≡ Some (end, net)
    → (end ≤ f.path_end) × (resolve (map (level_of library path) (f ∷ frames)) name ≡ record { path = take end path; name = net }))
    × AreKnown library path known frames

-- these placed models may stand in a walk with this path, which knows this of names
pub record AreWalked (library : List PlainModel) (path : List ℕ) (known : ℕ → List ℕ → Option (ℕ × List ℕ)) (frames : List Frame) : Type 0 where
  pub frames_are : AreFrames library (length path) frames
  pub known_are : AreKnown library path known frames
  pub small : AreSmall path

-- what a walk keeps
abbrev pub IsWalking : List PlainModel → Walk → Type 0
IsWalking library w = AreWalked library w.path.items (known_net w) (innermost_first w)

-- how many moves the walk of a model takes: one for each element, those of the models that it places, and one to leave it
unfoldable pub moves_with : (List ℕ → ℕ) → List PlainElement → ℕ
moves_with inner [] = 1
moves_with inner (Table pins out cover ∷ elements) = suc (moves_with inner elements)
moves_with inner (Register pin out control init ∷ elements) = suc (moves_with inner elements)
moves_with inner (Instance model bindings ∷ elements) = suc (inner model + moves_with inner elements)

unfoldable pub moves_to : List PlainModel → ℕ → List ℕ → ℕ
moves_to library zero name = 0
moves_to library (suc depth) name = option_map_or (λ m. moves_with (moves_to library depth) m.elements) (model_named library name) 0

unfoldable pub moves_from : List PlainModel → List Frame → ℕ
moves_from library [] = 0
moves_from library (f ∷ frames) =
    moves_with (moves_to library (length library - length frames)) (drop f.next (model_at library f.model).elements) + moves_from library frames

abbrev pub moves : List PlainModel → Walk → ℕ
moves library w = moves_from library (innermost_first w)

-- the links are those of the library, and a model is only left out where it is bare
pub record AreReady (library : List PlainModel) (rows : List Row) : Type 0 where
  pub holds : List Bool
  pub links : AreRows (names_of library) holds rows library
  pub bare : AreBare library holds

abbrev pub library_of : Ready → List PlainModel
library_of r = map plain_model r.models.now

abbrev pub IsReady : Ready → Type 0
IsReady r = AreReady (library_of r) r.rows.now

-- a walk stands in a library that is ready
pub record IsPlace (p : Place) : Type 0 where
  pub ready : IsReady p.ready
  pub walking : IsWalking (library_of p.ready) p.walk.now

abbrev pub levels_at : Place → List Level
levels_at p = levels_of (library_of p.ready) p.walk.now

-- the net of a name in the innermost placed model
abbrev pub net_at : Place → List ℕ → PlacedNet
net_at p = resolve (levels_at p)

-- the walk stands where one move from these placed models leads: the same is to come, and fewer moves are left
pub record IsMoved (library : List PlainModel) (path : List ℕ) (frames : List Frame) (w : Walk) : Type 0 where
  pub same : coming library w ≡ coming_from library path frames
  pub walking : IsWalking library w
  pub fewer : moves library w < moves_from library frames

-- the walk has passed this table or register, which came next
pub record IsNextElement (library : List PlainModel) (old : Walk) (x i : ℕ) (new : Walk) : Type 0 where
  pub model : x < length library
  pub element : i < length (model_at library x).elements
  pub plain : ¬ IsInstance (element_at library x i)
  pub walking : IsWalking library new
  pub comes : coming library old ≡ placed_element (levels_of library new) (element_at library x i) ++ coming library new

-- the next element, where one is still to come
abbrev pub IsNext : List PlainModel → Walk → Option (ℕ × ℕ) → Walk → Type 0
IsNext library old None new = coming library old ≡ []
IsNext library old (Some (x, i)) new = IsNextElement library old x i new

-- the net of what a statement binds a formal to, in the innermost placed model of the walk
pub record IsNetWithin (library : List PlainModel) (w : Walk) (actual : List ℕ) (end : ℕ) (net : List ℕ) : Type 0 where
  pub is : resolve (levels_of library w) actual ≡ record { path = take end w.path.items; name = net }
  pub inner : (f : Frame) (frames : List Frame) → innermost_first w ≡ f ∷ frames → end ≤ f.path_end

-- these formals have these nets, where they are bound like this
abbrev pub AreWithin : List PlainModel → Walk → List (List ℕ × List ℕ) → (List ℕ → Option (ℕ × List ℕ)) → Type 0
AreWithin library w bindings nets = (name : List ℕ) (end : ℕ) (net : List ℕ) → nets name ≡ Some (end, net)
    → (actual : List ℕ) × (actual_of bindings name ≡ Some actual) × IsNetWithin library w actual end net

-- the same of the formals of a statement
abbrev pub AreNetsBelow : Place → PlainElement → (List ℕ → Option (ℕ × List ℕ)) → Type 0
AreNetsBelow p element nets = AreWithin (library_of p.ready) p.walk.now (bindings_of element) nets
