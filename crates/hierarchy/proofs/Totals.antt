-- What is still to come before the first element of a walk.
use Rattle.std.proofs.Common.{◌≡◌, ◌-◌, List, [], ◌∷◌, length, ap, ◌∙◌, arith, append-nil, None}
use Rattle.blif_text.specs.Models.{PlainModel}
use Rattle.hierarchy.specs.declared.walking.walk.Walk.{Walk}
use Rattle.hierarchy.specs.declared.walking.walk.Frame.{Frame}
use Rattle.library_faults.specs.Flat.{main_of, main_level, elements_with, elements_to, flat_elements}
use Rattle.library_faults.proofs.Models.{first_model}
use Rattle.hierarchy.specs.Private.Walk.{coming, coming_from, innermost_first}

-- before the first element all elements are still to come
root : Frame
root = record { model = 0; next = 0; number = 0; placing = None; path_end = 0 }

pub all_to_come : (library : List PlainModel) (w : Walk) → innermost_first w ≡ record { model = 0; next = 0; number = 0; placing = None; path_end = 0 } ∷ [] → coming library w ≡ flat_elements library
unfolding coming_from flat_elements
all_to_come library w e = rw (e, first_model library) (append-nil _ ∙ ap (λ d. elements_with (elements_to library d) (main_level ∷ []) 0 (main_of library).elements) (let d : length library - 0 ≡ length library = omega arith in d))
