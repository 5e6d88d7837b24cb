-- The length of the flat elements of a model, wherever it is placed.
use Rattle.std.proofs.Common.{◌≡◌, ℕ, ◌+◌, Bool, true, false, cond, List, [], ◌∷◌, ◌++◌, length, map, refl, sym, ap, ◌∙◌, arith, append-nil, Option, Some, None}
use Rattle.std.specs.Prelude.{All}
use Rattle.std.specs.Option.{option_map_or}
use Rattle.std.specs.List.{sum_by}
use Rattle.std.proofs.lemmas.List.{length-append, map-append}
use Rattle.std.proofs.lemmas.Grind.{flat_map-append}
use Rattle.std.proofs.lemmas.List.Sums.{sum_by-cons, sum_by-append}
use Rattle.std.proofs.lemmas.List.Elements.{All-head, All-tail}
use Rattle.tmr_base.specs.declared.ids.Edge.{Edge}
use Rattle.blif_text.specs.Models.{PlainElement, Table, Register, Instance}
use Rattle.library_faults.specs.Flat.{Level, NetElement, NetTable, NetRegister, resolve, resolved_control, path_of, path_text, step, actual_of, net_text, named, named_control, elements_with}
use Rattle.library_faults.specs.FlatText.{spaced, all_spaced, control_length, element_length}
use Rattle.library_faults.specs.Private.Counts.{Use, Formal, Own, use_of, placed_use, control_names, control_fixed, uses_with, fixed_with, is_formal}
use Rattle.library_faults.proofs.Sums.{sum_same, sum_mapped}

-- a blank and the text of a net of a model placed at these levels
unfoldable pub use_length : List Level → Use → ℕ
use_length levels (Formal name) = spaced (net_text (resolve levels name))
use_length levels (Own text) = 1 + (length (path_text (path_of levels)) + length text)

-- the levels bind nothing but formals
unfoldable pub Binds : List Level → (List ℕ → Bool) → Type 0
Binds [] is_formal = ⊥
Binds (level ∷ outer) is_formal = (name : List ℕ) → is_formal name ≡ false → actual_of level.bindings name ≡ None

name_length : (levels : List Level) (is_formal : List ℕ → Bool) (name : List ℕ) → Binds levels is_formal → use_length levels (use_of is_formal name) ≡ spaced (net_text (resolve levels name))
unfolding use_length resolve Binds
name_length [] is_formal name binds = absurd binds
name_length (level ∷ outer) is_formal name binds = go (is_formal name) refl
  where
    go : (b : Bool) → is_formal name ≡ b → use_length (level ∷ outer) (cond b (Formal name) (Own name)) ≡ spaced (net_text (resolve (level ∷ outer) name))
    go true e = refl
    go false e = omega (arith, length-append (path_text level.path) name, ap (λ o. length (net_text (option_map_or (resolve outer) o (record { path = level.path; name = name })))) (binds name e))

names_length : (levels : List Level) (is_formal : List ℕ → Bool) (names : List (List ℕ)) → Binds levels is_formal → sum_by (use_length levels) (map (use_of is_formal) names) ≡ all_spaced (map net_text (map (resolve levels) names))
names_length levels is_formal [] binds = refl
names_length levels is_formal (name ∷ names) binds = omega (arith, sum_by-cons (use_length levels) (use_of is_formal name) (map (use_of is_formal) names), sum_by-cons spaced (net_text (resolve levels name)) (map net_text (map (resolve levels) names)), name_length levels is_formal name binds, names_length levels is_formal names binds)

table_length : (levels : List Level) (pins : List (List ℕ)) (out : List ℕ) → all_spaced (map net_text (map (resolve levels) (pins ++ out ∷ []))) ≡ all_spaced (map net_text (map (resolve levels) pins)) + spaced (net_text (resolve levels out))
table_length levels [] out = omega arith
table_length levels (pin ∷ pins) out = omega (arith, sum_by-cons spaced (net_text (resolve levels pin)) (map net_text (map (resolve levels) pins)), sum_by-cons spaced (net_text (resolve levels pin)) (map net_text (map (resolve levels) (pins ++ out ∷ []))), table_length levels pins out)

latch_length : (levels : List Level) (pin out : List ℕ) (control : Option (Edge × List ℕ)) → all_spaced (map net_text (map (resolve levels) (pin ∷ out ∷ control_names control))) + control_fixed control ≡ spaced (net_text (resolve levels pin)) + spaced (net_text (resolve levels out)) + control_length (named_control (resolved_control levels control))
latch_length levels pin out None = omega arith
latch_length levels pin out (Some (edge, clock)) = omega arith

-- ---- a placed model

-- the text of a path goes on with that of the statement's number
pub one_further : (path : List ℕ) (number : ℕ) → path_text (path ++ number ∷ []) ≡ path_text path ++ step number
one_further path number = flat_map-append step path (number ∷ []) ∙ ap (λ r. path_text path ++ r) (append-nil (step number))

longer : (path : List ℕ) (number : ℕ) → length (path_text (path ++ number ∷ [])) ≡ length (path_text path) + length (step number)
longer path number = ap length (one_further path number) ∙ length-append (path_text path) (step number)

placed_length : (levels : List Level) (is_formal : List ℕ → Bool) (number : ℕ) (bindings : List (List ℕ × List ℕ)) (u : Use) → Binds levels is_formal → use_length (record { path = path_of levels ++ number ∷ []; bindings = bindings } ∷ levels) u ≡ use_length levels (placed_use is_formal number bindings u)
unfolding use_length resolve
placed_length levels is_formal number bindings (Formal name) binds = go (actual_of bindings name)
  where
    go : (o : Option (List ℕ)) → spaced (net_text (option_map_or (resolve levels) o (record { path = path_of levels ++ number ∷ []; name = name }))) ≡ use_length levels (option_map_or (use_of is_formal) o (Own (step number ++ name)))
    go None = omega (arith, length-append (path_text (path_of levels ++ number ∷ [])) name, longer (path_of levels) number, length-append (step number) name)
    go (Some actual) = sym (name_length levels is_formal actual binds)
placed_length levels is_formal number bindings (Own text) binds = omega (arith, longer (path_of levels) number, length-append (step number) text)

pub all_placed_length : (levels : List Level) (is_formal : List ℕ → Bool) (number : ℕ) (bindings : List (List ℕ × List ℕ)) (uses : List Use) → Binds levels is_formal → sum_by (use_length (record { path = path_of levels ++ number ∷ []; bindings = bindings } ∷ levels)) uses ≡ sum_by (use_length levels) (map (placed_use is_formal number bindings) uses)
all_placed_length levels is_formal number bindings uses binds =
    sum_same (use_length (record { path = path_of levels ++ number ∷ []; bindings = bindings } ∷ levels)) (λ u. use_length levels (placed_use is_formal number bindings u)) uses (λ u. placed_length levels is_formal number bindings u binds)
    ∙ sym (sum_mapped (use_length levels) (placed_use is_formal number bindings) uses)

-- the flat elements of the models that statements place have this length
unfoldable pub Costs : (List Level → List ℕ → List NetElement) → (List ℕ → ℕ) → (List ℕ → List Use) → List Level → ℕ → PlainElement → Type 0
Costs inner fixed uses levels number (Table pins out cover) = Unit {0}
Costs inner fixed uses levels number (Register pin out control init) = Unit {0}
Costs inner fixed uses levels number (Instance model bindings) = sum_by element_length (map named (inner (record { path = path_of levels ++ number ∷ []; bindings = bindings } ∷ levels) model)) ≡ fixed model + sum_by (use_length (record { path = path_of levels ++ number ∷ []; bindings = bindings } ∷ levels)) (uses model)

pub with_length : (inner : List Level → List ℕ → List NetElement) (fixed : List ℕ → ℕ) (uses : List ℕ → List Use) (levels : List Level) (is_formal : List ℕ → Bool) → Binds levels is_formal → (number : ℕ) (elements : List PlainElement) → All (λ e. (n : ℕ) → Costs inner fixed uses levels n e) elements → sum_by element_length (map named (elements_with inner levels number elements)) ≡ fixed_with fixed elements + sum_by (use_length levels) (uses_with is_formal uses number elements)
unfolding elements_with uses_with fixed_with Costs
with_length inner fixed uses levels is_formal binds number [] costs = refl
with_length inner fixed uses levels is_formal binds number (Table pins out cover ∷ elements) costs = omega (
  arith,
  sum_by-cons element_length (named (NetTable (map (resolve levels) pins) (resolve levels out) cover)) (map named (elements_with inner levels number elements)),
  sum_by-append (use_length levels) (map (use_of is_formal) (pins ++ out ∷ [])) (uses_with is_formal uses number elements),
  names_length levels is_formal (pins ++ out ∷ []) binds,
  table_length levels pins out,
  with_length inner fixed uses levels is_formal binds number elements (All-tail (λ e. (n : ℕ) → Costs inner fixed uses levels n e) (Table pins out cover) elements costs),
)
with_length inner fixed uses levels is_formal binds number (Register pin out control init ∷ elements) costs = omega (
  arith,
  sum_by-cons element_length (named (NetRegister (resolve levels pin) (resolve levels out) (resolved_control levels control) init)) (map named (elements_with inner levels number elements)),
  sum_by-append (use_length levels) (map (use_of is_formal) (pin ∷ out ∷ control_names control)) (uses_with is_formal uses number elements),
  names_length levels is_formal (pin ∷ out ∷ control_names control) binds,
  latch_length levels pin out control,
  with_length inner fixed uses levels is_formal binds number elements (All-tail (λ e. (n : ℕ) → Costs inner fixed uses levels n e) (Register pin out control init) elements costs),
)
with_length inner fixed uses levels is_formal binds number (Instance model bindings ∷ elements) costs = omega (
  arith,
  ap (sum_by element_length) (map-append named (inner (record { path = path_of levels ++ number ∷ []; bindings = bindings } ∷ levels) model) (elements_with inner levels (number + 1) elements)),
  sum_by-append element_length (map named (inner (record { path = path_of levels ++ number ∷ []; bindings = bindings } ∷ levels) model)) (map named (elements_with inner levels (number + 1) elements)),
  sum_by-append (use_length levels) (map (placed_use is_formal number bindings) (uses model)) (uses_with is_formal uses (number + 1) elements),
  all_placed_length levels is_formal number bindings (uses model) binds,
  All-head (λ e. (n : ℕ) → Costs inner fixed uses levels n e) (Instance model bindings) elements costs number,
  with_length inner fixed uses levels is_formal binds (number + 1) elements (All-tail (λ e. (n : ℕ) → Costs inner fixed uses levels n e) (Instance model bindings) elements costs),
)
