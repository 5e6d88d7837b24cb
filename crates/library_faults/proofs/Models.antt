-- Models and elements by number, in the words of the code.
use Rattle.std.proofs.Common.{◌≡◌, ℕ, ◌<◌, List, [], ◌∷◌, length, map, get_or, refl, sym, ap, ◌∙◌}
use Rattle.std.specs.Prelude.{slice_index_or}
use Rattle.std.proofs.lemmas.List.{get_or-map}
use Rattle.blif_text.specs.Models.{PlainModel}
use Rattle.blif_text.specs.declared.library.BlifModel.{BlifModel}
use Rattle.blif_text.specs.declared.library.Element.{Element}
use Rattle.blif_text.specs.Views.{plain_model, plain_element}
use Rattle.library_faults.specs.Flat.{no_model, main_of}
use Rattle.library_faults.specs.Private.Models.{model_at, no_element}

pub at_model : (models : List BlifModel) (x : ℕ) (item : BlifModel) → x < length models → item ≡ get_or models x item → model_at (map plain_model models) x ≡ plain_model item
at_model models x item below is = get_or-map plain_model models x item no_model below ∙ ap plain_model (sym is)

pub element_is : (es : List Element) (i : ℕ) (item : Element) → i < length es → item ≡ get_or es i item → slice_index_or (map plain_element es) i no_element ≡ plain_element item
element_is es i item below is = get_or-map plain_element es i item no_element below ∙ ap plain_element (sym is)

pub first_model : (library : List PlainModel) → model_at library 0 ≡ main_of library
first_model [] = refl
first_model (m ∷ models) = refl
