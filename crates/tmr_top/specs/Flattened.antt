-- `flatten ORIG FLAT`: what it comes to.
use Rattle.std.specs.Prelude.{◌≡◌, ℕ, Bool, List, [], ◌∷◌, count_by}
use Rattle.flat_net.specs.Net.{Net}
use Rattle.blif_writer.specs.Text.{flat_text}
use Rattle.tmr_outside.specs.Contents.{Contents}
use Rattle.tmr_top.specs.declared.decision.Verdict.{Verdict}
use Rattle.tmr_top.specs.declared.decision.Verdict.TheVariants.{Done, NotAccepted, Refused}
use Rattle.tmr_words.specs.Line.{Flattening}
use Rattle.tmr_top.specs.Loads.{original_file}
use Rattle.tmr_top.specs.Designs.{HoldsDesign, HoldsNoDesign}
use Rattle.tmr_texts.specs.Texts.{flattened_line, refused_line}

-- done: the original is a design, its flat text is saved, and it is told of
pub record IsFlattened (f : Flattening) (held : Contents) (saved : List (List ℕ)) (text : List ℕ) : Type 0 where
  pub design : Net
  pub free : List Bool
  pub holds : HoldsDesign held (original_file f.limits f.original) design free
  pub saves : saved ≡ flat_text design ∷ []
  pub says : text ≡ flattened_line design (count_by (λ bit. bit) free)

-- refused: the original is no design
pub record IsUnflattened (f : Flattening) (held : Contents) (text : List ℕ) : Type 0 where
  pub reason : List ℕ
  pub unread : HoldsNoDesign held (original_file f.limits f.original) reason
  pub says : text ≡ refused_line f.original reason

abbrev pub Flattened : Flattening → Contents → Verdict → List (List ℕ) → List ℕ → Type 0
Flattened f held Done saved text = IsFlattened f held saved text
Flattened f held NotAccepted saved text = ⊥
Flattened f held Refused saved text = IsUnflattened f held text
