-- The lines of a replay, put one after the other.
use Rattle.std.proofs.Common.{◌≡◌, ℕ, ◌+◌, ◌<◌, ◌≤◌, List, [], ◌∷◌, ◌++◌, length, drop, get_or, Some, refl, sym, ap, ◌∙◌, append_assoc, add-one, drop-cons, arith}
use Rattle.std.specs.Prelude.{slice_get}
use Rattle.std.proofs.lemmas.List.{nil_from_length, length-drop, append-nil}
use Rattle.std.proofs.lemmas.Option.{get_or_from_slice_get}
use Rattle.flat_net.specs.Net.{Net, name_of}
use Rattle.schedule_replay.specs.declared.outcome.Difference.{Difference}
use Rattle.tmr_texts.specs.ReplayText.{output_name, difference_line, difference_lines}

pub named_output : (n : Net) (k x : ℕ) (name : List ℕ) → slice_get n.outputs k ≡ Some x → name ≡ name_of n x → name ≡ output_name n k
named_output n k x name at is = is ∙ ap (name_of n) (sym (get_or_from_slice_get n.outputs k x 0 at))

pub ruleset names = (named_output)

next : {A : Type 0} (i : ℕ) (xs : List A) (d : A) → i < length xs → drop i xs ≡ get_or xs i d ∷ drop (i + 1) xs
next i xs d h = rw (add-one, drop-cons xs i d) refl

-- one line more
pub difference_put : (n : Net) (text line : List ℕ) (ds : List Difference) (i : ℕ) (d : Difference) (whole : List ℕ) → i < length ds → line ≡ difference_line n (get_or ds i d) → text ++ difference_lines n (drop i ds) ≡ whole → (text ++ line) ++ difference_lines n (drop (i + 1) ds) ≡ whole
difference_put n text line ds i d whole h is e =
    append_assoc text line (difference_lines n (drop (i + 1) ds))
    ∙ (ap (λ (l : List ℕ). text ++ (l ++ difference_lines n (drop (i + 1) ds))) is
    ∙ (ap (λ (xs : List Difference). text ++ difference_lines n xs) (sym (next i ds d h)) ∙ e))

pub all_put : (n : Net) (text : List ℕ) (ds : List Difference) (i : ℕ) (whole : List ℕ) → length ds ≤ i → text ++ difference_lines n (drop i ds) ≡ whole → text ≡ whole
all_put n text ds i whole h e =
    let none : drop i ds ≡ [] = nil_from_length (drop i ds) (omega (arith, length-drop i ds)) in
    sym (append-nil text) ∙ (ap (λ (xs : List Difference). text ++ difference_lines n xs) (sym none) ∙ e)

pub ruleset differences = (difference_put, all_put)
