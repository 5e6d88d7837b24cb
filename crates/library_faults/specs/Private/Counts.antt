-- What the flat text of a model costs wherever it is placed, counted model by model. These are for proofs: what the public calls
-- promise is said of the flat text alone.
use Rattle.std.specs.Prelude.{◌≡◌, ◌≤◌, ◌<◌, ℕ, zero, suc, ◌+◌, ◌*◌, ◌||◌, Bool, true, false, List, [], ◌∷◌, ◌++◌, length, map, min, sum_by, slice_get, slice_index, slice_index_or, Option, Some, None, if◌then◌else◌}
use Rattle.std.specs.Option.{option_map_or}
use Rattle.std.specs.Str.{bytes_eq}
use Rattle.limits.specs.Most.{widest_text}
use Rattle.tmr_base.specs.declared.ids.Edge.{Edge}
use Rattle.blif_text.specs.Kind.{is_among}
use Rattle.blif_text.specs.Models.{PlainElement, Table, Register, Instance, PlainModel}
use Rattle.library_faults.specs.declared.lengths.count.Count.{Count}
use Rattle.library_faults.specs.Graph.{names_of, number_named}
use Rattle.library_faults.specs.Faults.{formal_of}
use Rattle.library_faults.specs.Flat.{step, actual_of}
use Rattle.library_faults.specs.FlatText.{spaced, rows_length, capped}
use Rattle.library_faults.specs.Private.Models.{model_at}

-- a net that stands in the flat elements of a model: it goes by one of the model's formals, whatever that is bound to, or its
-- text is the path of the placed model and this text
pub data Use : Type 0 where
  Formal : (name : List ℕ) → Use
  Own : (text : List ℕ) → Use

-- the net of a name in a model with these formals
abbrev pub use_of : (List ℕ → Bool) → List ℕ → Use
use_of is_formal name = if is_formal name then Formal name else Own name

-- a net of a placed model, in the model that places it
abbrev pub placed_use : (List ℕ → Bool) → ℕ → List (List ℕ × List ℕ) → Use → Use
placed_use is_formal number bindings (Formal name) = option_map_or (use_of is_formal) (actual_of bindings name) (Own (step number ++ name))
placed_use is_formal number bindings (Own text) = Own (step number ++ text)

abbrev pub control_names : Option (Edge × List ℕ) → List (List ℕ)
control_names None = []
control_names (Some (edge, name)) = name ∷ []

-- the nets of a table or a register
abbrev pub element_names : PlainElement → List (List ℕ)
element_names (Table pins out cover) = pins ++ out ∷ []
element_names (Register pin out control init) = pin ∷ out ∷ control_names control
element_names (Instance model bindings) = []

-- the nets that stand in the flat elements of statements, each as often as it stands there
unfoldable pub uses_with : (List ℕ → Bool) → (List ℕ → List Use) → ℕ → List PlainElement → List Use
uses_with is_formal inner number [] = []
uses_with is_formal inner number (Table pins out cover ∷ elements) =
    map (use_of is_formal) (pins ++ out ∷ []) ++ uses_with is_formal inner number elements
uses_with is_formal inner number (Register pin out control init ∷ elements) =
    map (use_of is_formal) (pin ∷ out ∷ control_names control) ++ uses_with is_formal inner number elements
uses_with is_formal inner number (Instance model bindings ∷ elements) =
    map (placed_use is_formal number bindings) (inner model) ++ uses_with is_formal inner (number + 1) elements

abbrev pub control_fixed : Option (Edge × List ℕ) → ℕ
control_fixed None = 0
control_fixed (Some (edge, name)) = 3

-- the line of a table or a register without its nets and the blanks before them, and the rows
abbrev pub element_fixed : PlainElement → ℕ
element_fixed (Table pins out cover) = 7 + rows_length cover
element_fixed (Register pin out control init) = 9 + control_fixed control
element_fixed (Instance model bindings) = 0

-- the bytes of the flat elements of statements, without those nets
unfoldable pub fixed_with : (List ℕ → ℕ) → List PlainElement → ℕ
fixed_with inner [] = 0
fixed_with inner (Table pins out cover ∷ elements) = 7 + rows_length cover + fixed_with inner elements
fixed_with inner (Register pin out control init ∷ elements) = 9 + control_fixed control + fixed_with inner elements
fixed_with inner (Instance model bindings ∷ elements) = inner model + fixed_with inner elements

-- what a model's statements may bind: its inputs and outputs. Nothing places the main model.
abbrev pub is_formal : List PlainModel → ℕ → List ℕ → Bool
is_formal library zero name = false
is_formal library (suc x) name = is_among (model_at library (suc x)).inputs name || is_among (model_at library (suc x)).outputs name

-- the nets of the model of this name, which has at most so many models below one another
unfoldable pub uses_to : List PlainModel → ℕ → List ℕ → List Use
uses_to library zero name = []
uses_to library (suc depth) name =
    option_map_or (λ x. uses_with (is_formal library x) (uses_to library depth) 0 (model_at library x).elements) (number_named (names_of library) name) []

unfoldable pub fixed_to : List PlainModel → ℕ → List ℕ → ℕ
fixed_to library zero name = 0
fixed_to library (suc depth) name =
    option_map_or (λ x. fixed_with (fixed_to library depth) (model_at library x).elements) (number_named (names_of library) name) 0

-- those of the model of this number
abbrev pub uses_in : List PlainModel → ℕ → ℕ → List Use
uses_in library depth x = uses_with (is_formal library x) (uses_to library depth) 0 (model_at library x).elements

abbrev pub fixed_in : List PlainModel → ℕ → ℕ → ℕ
fixed_in library depth x = fixed_with (fixed_to library depth) (model_at library x).elements

-- ---- sums over nets

-- a blank and the text of a net of the model's own, without the path of the placed model
abbrev pub own_length : Use → ℕ
own_length (Formal name) = 0
own_length (Own text) = spaced text

abbrev pub own_one : Use → ℕ
own_one (Formal name) = 0
own_one (Own text) = 1

abbrev pub formal_one : Use → ℕ
formal_one (Formal name) = 1
formal_one (Own text) = 0

-- a length, as far as any limit lets a text have it
abbrev pub limited : ℕ → ℕ
limited n = min n (widest_text + 1)

abbrev pub formal_length : Use → ℕ
formal_length (Formal name) = limited (length name)
formal_length (Own text) = 0

-- the net goes by this formal
abbrev pub by_formal : List ℕ → Use → ℕ
by_formal formal (Formal name) = if bytes_eq formal name then 1 else 0
by_formal formal (Own text) = 0

-- the least that a net costs with the blank before it
abbrev pub least : Use → ℕ
least (Formal name) = 1
least (Own text) = spaced text

-- ---- counts

-- how often the count has a formal
abbrev pub used : Count → List ℕ → ℕ
used count name = option_map_or (λ k. slice_index_or count.uses.items k 0) (number_named count.formals.keys name) 0

-- there is a number for each formal
abbrev pub IsShaped : Count → Type 0
IsShaped count = length count.uses.items ≡ length count.formals.keys

-- the count is exactly that of these nets and the bytes beside them
pub record IsCount (count : Count) (fixed : ℕ) (uses : List Use) : Type 0 where
  pub bytes : count.bytes ≡ fixed + sum_by own_length uses
  pub places : count.places ≡ sum_by own_one uses
  pub passed : count.passed ≡ sum_by formal_one uses
  pub passed_bytes : count.passed_bytes ≡ sum_by formal_length uses
  pub by : (name : List ℕ) → used count name ≡ sum_by (by_formal name) uses
  pub small : count.bytes + count.passed ≤ widest_text
  pub exact : count.passed_bytes < 18446744073709551615

-- the count, or none where the text is longer than the limit wherever the model is placed
abbrev pub IsOutcome : ℕ → Option Count → ℕ → List Use → Type 0
IsOutcome limit None fixed uses = limit < fixed + sum_by least uses
IsOutcome limit (Some count) fixed uses = IsCount count fixed uses

-- nothing stands in the count
pub record IsEmptyCount (count : Count) (formals : List (List ℕ)) : Type 0 where
  pub keys : count.formals.keys ≡ formals
  pub shaped : IsShaped count
  pub bytes : count.bytes ≡ 0
  pub places : count.places ≡ 0
  pub passed : count.passed ≡ 0
  pub passed_bytes : count.passed_bytes ≡ 0
  pub by : (name : List ℕ) → used count name ≡ 0

-- nets and bytes were added to the count, where `total` gives the sum over the nets of what it is given for one. Numbers are
-- kept as far as a text within any limit can have them.
pub record Adds (old new : Count) (fixed : ℕ) (total : (Use → ℕ) → ℕ) : Type 0 where
  pub bytes : limited new.bytes ≡ limited (old.bytes + (fixed + total own_length))
  pub places : limited new.places ≡ limited (old.places + total own_one)
  pub passed : limited new.passed ≡ limited (old.passed + total formal_one)
  pub passed_bytes : capped new.passed_bytes ≡ capped (old.passed_bytes + total formal_length)
  pub by : (name : List ℕ) → limited (used new name) ≡ limited (used old name + total (by_formal name))
  pub formals : new.formals ≡ old.formals
  pub shaped : length new.uses.items ≡ length old.uses.items

-- so many times one net
abbrev pub times_of : ℕ → Use → (Use → ℕ) → ℕ
times_of times use_ weight = times * weight use_

-- nets
abbrev pub sum_of : List Use → (Use → ℕ) → ℕ
sum_of uses weight = sum_by weight uses

-- what the formals of a placed model are bound to, each as often as that model has the formal
abbrev pub bound_of : (List ℕ → Bool) → Count → List (List ℕ × List ℕ) → (Use → ℕ) → ℕ
bound_of is_formal placed bindings weight = sum_by (λ b. used placed b.0 * weight (use_of is_formal b.1)) bindings

-- the formals stay, with a number for each
pub record KeepsFormals (old new : Count) : Type 0 where
  pub formals : new.formals ≡ old.formals
  pub shaped : length new.uses.items ≡ length old.uses.items

-- the number of the next `.subckt` behind a statement
abbrev pub number_after : ℕ → PlainElement → ℕ
number_after number (Table pins out cover) = number
number_after number (Register pin out control init) = number
number_after number (Instance model bindings) = number + 1

-- nets of a model's own and bytes were added
pub record IsGrown (old new : Count) (nets more : ℕ) : Type 0 where
  pub bytes : new.bytes ≡ capped (old.bytes + more)
  pub places : new.places ≡ capped (old.places + nets)
  pub passed : new.passed ≡ old.passed
  pub passed_bytes : new.passed_bytes ≡ old.passed_bytes
  pub formals : new.formals ≡ old.formals
  pub uses : new.uses ≡ old.uses

-- no formal is bound twice
abbrev pub AreApart : List (List ℕ × List ℕ) → Type 0
AreApart [] = Unit {0}
AreApart (b ∷ bindings) = (is_among (map formal_of bindings) b.0 ≡ false) × AreApart bindings

-- the count of a placed model is that of its nets and bytes
abbrev pub IsTold : ℕ → (List ℕ → Option Count) → (List ℕ → ℕ) → (List ℕ → List Use) → PlainElement → Type 0
IsTold limit counts fixed uses (Table pins out cover) = Unit {0}
IsTold limit counts fixed uses (Register pin out control init) = Unit {0}
IsTold limit counts fixed uses (Instance model bindings) = IsOutcome limit (counts model) (fixed model) (uses model) × AreApart bindings

-- nets and bytes were added, or they are longer than the limit
abbrev pub IsAdded : ℕ → Bool → Count → Count → ℕ → List Use → Type 0
IsAdded limit false old new fixed uses = limit < fixed + sum_by least uses
IsAdded limit true old new fixed uses = Adds old new fixed (sum_of uses)

-- each count is that of the model at its place in the order, which has no more models below one another than stand before it
abbrev pub AreCounted : List PlainModel → ℕ → List ℕ → List (Option Count) → Type 0
AreCounted library limit order counts = (place depth : ℕ) → place < length counts → place ≤ depth
    → IsOutcome limit (slice_index_or counts place None) (fixed_in library depth (slice_index order place)) (uses_in library depth (slice_index order place))

-- each count that is there is exactly that of the model at its place in the order
pub record AreCounts (library : List PlainModel) (order : List ℕ) (counts : List (Option Count)) : Type 0 where
  pub exact : (place depth : ℕ) (count : Count) → slice_index_or counts place None ≡ Some count → place ≤ depth
      → IsCount count (fixed_in library depth (slice_index order place)) (uses_in library depth (slice_index order place))

-- the place of each number of the order
abbrev pub ArePlaces : List ℕ → List ℕ → Type 0
ArePlaces order positions = (place : ℕ) → place < length order → slice_get positions (slice_index order place) ≡ Some place
