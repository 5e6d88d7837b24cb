-- Reading and flattening the text of a design gives the design with its marks.
use Rattle.std.proofs.Common.{◌≡◌, ℕ, ◌≤◌, Bool, List, [], ◌∷◌, Result, Ok, refl, sym, ap, subst, ◌∙◌}
use Rattle.flat_net.specs.Net.{Net, IsValid}
use Rattle.flat_net.specs.Free.{AreMarks}
use Rattle.flat_net.specs.Faults.{net_of_draft, IsFaultless}
use Rattle.blif_text.specs.Models.{PlainModel}
use Rattle.blif_text.specs.Kind.{Bad}
use Rattle.blif_text.specs.Reading.{reading}
use Rattle.hierarchy.specs.Drafted.{draft_of, assumed, open_marks}
use Rattle.library_faults.specs.Flat.{flat_model}
use Rattle.library_faults.specs.FlatText.{text_length}
use Rattle.hierarchy.specs.Flatten.{IsFlat, IsFreeFlat}
use Rattle.hierarchy.proofs.Marks.{free_flat}
use Rattle.blif_writer.specs.Text.{with_marks, flat_text, free_text}
use Rattle.blif_writer.specs.Model.{free_model}
use Rattle.blif_writer.specs.NetOf.{IsNetOf, IsFreeNetOf}
use Rattle.blif_writer.proofs.Valid.{valid_text}
use Rattle.blif_writer.proofs.Spelled.{reading_again}
use Rattle.blif_writer.proofs.Flattened.{flat_model_is, no_clash, sound}
use Rattle.blif_writer.proofs.Redrafted.{AreMarkable, markable, none_markable, net_draft, draft_is, open_are, none_assumed, net_again, faultless}

pub text_again : (n : Net) (free : List Bool) → IsValid n → reading (free_text n free) ≡ Ok (free_model n free ∷ [])
text_again n free v = reading_again n free (valid_text n free v)

drafted_is : (n : Net) (free : List Bool) → AreMarkable (with_marks free n.nodes) → draft_of (flat_model (free_model n free ∷ [])) ≡ net_draft n
drafted_is n free ok = ap draft_of (flat_model_is n free) ∙ draft_is n free ok

-- the design that the one model flattens to
design_again : (n : Net) (free : List Bool) → IsValid n → AreMarkable (with_marks free n.nodes) → n ≡ net_of_draft (draft_of (flat_model (free_model n free ∷ [])))
design_again n free v ok = sym (net_again n v) ∙ ap net_of_draft (sym (drafted_is n free ok))

-- the one model is flattened to the design, within each limit that its text keeps
flat_again : (n : Net) (limit : ℕ) → IsValid n → text_length (free_model n []) ≤ limit → IsFlat (free_model n [] ∷ []) limit n 0
flat_again n limit v within = record {
  sound = sound n [];
  fits = subst (λ (m : PlainModel). text_length m ≤ limit) (sym (flat_model_is n [])) within;
  clear = no_clash n [];
  faultless = subst IsFaultless (sym (drafted_is n [] (none_markable n))) (faultless n v);
  design_is = design_again n [] v (none_markable n);
  open_are = none_assumed n ∙ ap assumed (sym (flat_model_is n []));
}

pub net_of_text : (n : Net) (limit : ℕ) → IsValid n → text_length (free_model n []) ≤ limit → IsNetOf (flat_text n) limit n 0
net_of_text n limit v within = record { library = free_model n [] ∷ []; reads = text_again n [] v; flat = flat_again n limit v within }

-- and with its marks
pub free_of_text : (n : Net) (free : List Bool) (limit : ℕ) → IsValid n → AreMarks n free → text_length (free_model n free) ≤ limit → IsFreeNetOf (free_text n free) limit n free
free_of_text n free limit v marks within = record { library = free_model n free ∷ []; reads = text_again n free v; flat = flat }
  where
    ok : AreMarkable (with_marks free n.nodes)
    ok = markable n free marks.registers

    flat : IsFreeFlat (free_model n free ∷ []) limit n free
    flat =
        free_flat (free_model n free ∷ []) limit (free_model n free) n free (sym (flat_model_is n free)) (sound n free) (subst (λ (m : PlainModel). text_length m ≤ limit) (sym (flat_model_is n free)) within) (no_clash n free)
        (subst IsFaultless (sym (draft_is n free ok)) (faultless n v)) (sym (net_again n v) ∙ ap net_of_draft (sym (draft_is n free ok))) (open_are n free marks.one_each ok)

ok_is : (a b : List PlainModel) (r s : Result (List PlainModel) Bad) → r ≡ Ok a → s ≡ Ok b → r ≡ s → a ≡ b
ok_is a b r s ea eb e = cc

one_library : (n : Net) (free : List Bool) (library : List PlainModel) → IsValid n → reading (free_text n free) ≡ Ok library → library ≡ free_model n free ∷ []
one_library n free library v reads = ok_is library (free_model n free ∷ []) (reading (free_text n free)) (reading (free_text n free)) reads (text_again n free v) refl

-- the text gives no other design
pub only_net : (n m : Net) (limit count : ℕ) → IsValid n → IsNetOf (flat_text n) limit m count → (m ≡ n) × (count ≡ 0)
only_net n m limit count v f =
    let one : f.library ≡ free_model n [] ∷ [] = one_library n [] f.library v f.reads in
    let design : m ≡ n = f.flat.design_is ∙ (ap (λ (l : List PlainModel). net_of_draft (draft_of (flat_model l))) one ∙ sym (design_again n [] v (none_markable n))) in
    let none : count ≡ 0 = f.flat.open_are ∙ (ap (λ (l : List PlainModel). assumed (flat_model l)) one ∙ (ap assumed (flat_model_is n []) ∙ sym (none_assumed n))) in
    (design, none)

pub only_free : (n m : Net) (free marks : List Bool) (limit : ℕ) → IsValid n → AreMarks n free → IsFreeNetOf (free_text n free) limit m marks → (m ≡ n) × (marks ≡ free)
only_free n m free marks limit v are f =
    let ok : AreMarkable (with_marks free n.nodes) = markable n free are.registers in
    let one : f.library ≡ free_model n free ∷ [] = one_library n free f.library v f.reads in
    let design : m ≡ n = f.flat.flat.design_is ∙ (ap (λ (l : List PlainModel). net_of_draft (draft_of (flat_model l))) one ∙ sym (design_again n free v ok)) in
    let same : marks ≡ free = f.flat.marks_are ∙ (ap (λ (l : List PlainModel). open_marks (flat_model l)) one ∙ (ap open_marks (flat_model_is n free) ∙ sym (open_are n free are.one_each ok))) in
    (design, same)
