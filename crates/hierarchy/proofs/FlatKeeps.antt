-- What the flat model keeps.
use Rattle.std.proofs.Common.{◌≡◌, Bool, true, false, ◌&&◌, ℕ, zero, suc, ◌+◌, ◌<◌, ◌≤◌, List, [], ◌∷◌, length, map, refl, sym, ap, subst, ◌∙◌, arith, Option, None, Some}
use Rattle.std.specs.Prelude.{All, slice_get, slice_index_or, flat_map, option_and_then}
use Rattle.std.specs.Option.{option_map_or}
use Rattle.std.specs.List.{sum_by}
use Rattle.std.proofs.lemmas.Bool.{ltb-true}
use Rattle.std.proofs.lemmas.List.{length-map, length-append, map-append}
use Rattle.std.proofs.lemmas.List.Elements.{All-cons, All-nil, All-append, All-head, All-tail}
use Rattle.std.proofs.lemmas.List.Sums.{sum_by-cons}
use Rattle.std.proofs.lemmas.Grind.{flat_map-append}
use Rattle.std.proofs.lemmas.Option.{slice_get_within, get_or_from_slice_get}
use Rattle.blif_text.specs.Models.{PlainElement, Table, Register, Instance, PlainModel}
use Rattle.blif_text.specs.Library.{FitsPins, IsModel, IsLibrary, Differ}
use Rattle.flat_net.specs.Draft.{AreDistinct, reads_of}
use Rattle.flat_net.specs.Faults.{draft_reads}
use Rattle.library_faults.specs.Graph.{names_of, number_named, model_named}
use Rattle.library_faults.specs.Flat.{Level, NetElement, net_text, resolve, named, main_of, main_level, no_model, elements_with, elements_to, flat_elements, flat_model}
use Rattle.hierarchy.specs.Drafted.{drafted, draft_of}
use Rattle.hierarchy.specs.Private.Countable.{pins_of, is_countable}

as_many : (levels : List Level) (pins : List (List ℕ)) → length (map net_text (map (resolve levels) pins)) ≡ length pins
as_many levels pins = length-map (map (resolve levels) pins) net_text ∙ length-map pins (resolve levels)

fits_with : (inner : List Level → List ℕ → List NetElement) → ((levels : List Level) (name : List ℕ) → All FitsPins (map named (inner levels name))) → (levels : List Level) (number : ℕ) (es : List PlainElement) → All FitsPins es → All FitsPins (map named (elements_with inner levels number es))
unfolding elements_with
fits_with inner below levels number [] all = All-nil FitsPins
fits_with inner below levels number (Table pins out cover ∷ es) all =
    let here : cover.width ≡ length pins = All-head FitsPins (Table pins out cover) es all in
    All-cons FitsPins (Table (map net_text (map (resolve levels) pins)) (net_text (resolve levels out)) cover) (map named (elements_with inner levels number es)) (here ∙ sym (as_many levels pins)) (fits_with inner below levels number es (All-tail FitsPins (Table pins out cover) es all))
fits_with inner below levels number (Register pin out control init ∷ es) all = All-cons FitsPins _ (map named (elements_with inner levels number es)) tt (fits_with inner below levels number es (All-tail FitsPins (Register pin out control init) es all))
fits_with inner below levels number (Instance model bindings ∷ es) all = subst (All FitsPins) (sym (map-append named (inner _ model) (elements_with inner levels (number + 1) es))) (All-append FitsPins (map named (inner _ model)) (map named (elements_with inner levels (number + 1) es)) (below _ model) (fits_with inner below levels (number + 1) es (All-tail FitsPins (Instance model bindings) es all)))

module _ (library : List PlainModel) (each : All IsModel library) where
  model_fits : (x : ℕ) (m : PlainModel) → slice_get library x ≡ Some m → All FitsPins m.elements
  model_fits x m e = (subst IsModel (get_or_from_slice_get library x m m e) (each x m (slice_get_within library x m e))).covers

  named_fits : (o : Option ℕ) (m : PlainModel) → option_and_then (slice_get library) o ≡ Some m → All FitsPins m.elements
  named_fits None m e = absurd cc
  named_fits (Some x) m e = model_fits x m e

  fits_to : (depth : ℕ) (levels : List Level) (name : List ℕ) → All FitsPins (map named (elements_to library depth levels name))
  unfolding elements_to
  fits_to zero levels name = All-nil FitsPins
  fits_to (suc depth) levels name = placed_fits depth levels (fits_to depth) (model_named library name) (λ m e. named_fits (number_named (names_of library) name) m e)
    where
      placed_fits : (depth : ℕ) (levels : List Level) → ((levels : List Level) (name : List ℕ) → All FitsPins (map named (elements_to library depth levels name))) → (o : Option PlainModel) → ((m : PlainModel) → o ≡ Some m → All FitsPins m.elements) → All FitsPins (map named (option_map_or (λ m. elements_with (elements_to library depth) levels 0 m.elements) o []))
      placed_fits depth levels below None h = All-nil FitsPins
      placed_fits depth levels below (Some m) h = fits_with (elements_to library depth) below levels 0 m.elements (h m refl)

  main_is_model : 0 < length library → IsModel (main_of library)
  main_is_model some = subst IsModel (first library) (each 0 no_model some)
    where
      first : (models : List PlainModel) → slice_index_or models 0 no_model ≡ main_of models
      first [] = refl
      first (m ∷ models) = refl

pub flat_fits : (library : List PlainModel) → IsLibrary library → All FitsPins (flat_model library).elements
unfolding flat_model flat_elements
flat_fits library l = fits_with (elements_to library (length library)) (fits_to library l.models.each (length library)) (main_level ∷ []) 0 (main_of library).elements (main_is_model library l.models.each l.some).covers

pub flat_inputs : (library : List PlainModel) → IsLibrary library → Differ (flat_model library).inputs
unfolding flat_model
flat_inputs library l = (main_is_model library l.models.each l.some).inputs

pub flat_outputs : (library : List PlainModel) → IsLibrary library → Differ (flat_model library).outputs
unfolding flat_model
flat_outputs library l = (main_is_model library l.models.each l.some).outputs

-- ---- the nets and pins of a countable model

both : (a b : Bool) → (a && b) ≡ true → (a ≡ true) × (b ≡ true)
both true b e = (refl, e)
both false b e = absurd cc

few_drafted : (es : List PlainElement) → length (flat_map drafted es) ≤ length es
few_drafted [] = omega arith
few_drafted (Table pins out cover ∷ es) = omega (arith, few_drafted es)
few_drafted (Register pin out control init ∷ es) = omega (arith, few_drafted es)
few_drafted (Instance model bindings ∷ es) = omega (arith, few_drafted es)

one_reads : (e : PlainElement) → length (flat_map reads_of (drafted e)) ≡ pins_of e
one_reads (Table pins out cover) = omega (arith, length-append pins [])
one_reads (Register pin out control init) = refl
one_reads (Instance model bindings) = refl

all_reads : (es : List PlainElement) → length (flat_map reads_of (flat_map drafted es)) ≡ sum_by pins_of es
all_reads [] = refl
all_reads (e ∷ es) = omega (arith, sum_by-cons pins_of e es, one_reads e, all_reads es, ap length (flat_map-append reads_of (drafted e) (flat_map drafted es)), length-append (flat_map reads_of (drafted e)) (flat_map reads_of (flat_map drafted es)))

pub few_nets : (m : PlainModel) → is_countable m ≡ true → length (draft_of m).inputs + length (draft_of m).elements < 4294967295
unfolding draft_of is_countable
few_nets m e = omega (arith, few_drafted m.elements, ltb-true (length m.inputs + length m.elements) 4294967295 (both _ _ e).0)

pub few_reads : (m : PlainModel) → is_countable m ≡ true → length (draft_reads (draft_of m)) < 4294967295
unfolding draft_of is_countable
few_reads m e = omega (arith, all_reads m.elements, ltb-true (sum_by pins_of m.elements) 4294967295 (both _ _ e).1)

pub distinct : (names : List (List ℕ)) → Differ names → AreDistinct names
distinct names d j k jk kl = d j k [] jk kl

pub draft_inputs : (m : PlainModel) → Differ m.inputs → AreDistinct (draft_of m).inputs
unfolding draft_of
draft_inputs m d = distinct m.inputs d

pub draft_outputs : (m : PlainModel) → Differ m.outputs → AreDistinct (draft_of m).outputs
unfolding draft_of
draft_outputs m d = distinct m.outputs d

pub ruleset draft_laws = (few_nets, few_reads, draft_inputs, draft_outputs)
