-- `to-aag ORIG AAG`: what it comes to.
use Rattle.std.specs.Prelude.{◌≡◌, ℕ, List, [], ◌∷◌, count_by}
use Rattle.aag_text.specs.Written.{IsCountedFile}
use Rattle.flat_net.specs.Free.{FreeDesign}
use Rattle.tmr_outside.specs.Contents.{Contents}
use Rattle.tmr_top.specs.declared.decision.Verdict.{Verdict}
use Rattle.tmr_top.specs.declared.decision.Verdict.TheVariants.{Done, NotAccepted, Refused}
use Rattle.tmr_words.specs.Line.{Graphing}
use Rattle.tmr_top.specs.Loads.{original_file}
use Rattle.tmr_top.specs.Designs.{HoldsDesign, HoldsNoDesign}
use Rattle.tmr_texts.specs.Texts.{graph_line, refused_line}

-- done: the original is a design, a file of it is saved, and its numbers are told, among them how many gates that file's graph has
pub record IsGraphed (w : Graphing) (held : Contents) (saved : List (List ℕ)) (text : List ℕ) : Type 0 where
  pub original : FreeDesign
  pub holds : HoldsDesign held (original_file w.limits w.original) original.design.net original.free
  pub bytes : List ℕ
  pub gates : ℕ
  pub file : IsCountedFile original bytes gates
  pub saves : saved ≡ bytes ∷ []
  pub says : text ≡ graph_line original.design.net gates (count_by (λ bit. bit) original.free)

-- refused: the original is no design
pub record IsUngraphed (w : Graphing) (held : Contents) (text : List ℕ) : Type 0 where
  pub reason : List ℕ
  pub unread : HoldsNoDesign held (original_file w.limits w.original) reason
  pub says : text ≡ refused_line w.original reason

abbrev pub Graphed : Graphing → Contents → Verdict → List (List ℕ) → List ℕ → Type 0
Graphed w held Done saved text = IsGraphed w held saved text
Graphed w held NotAccepted saved text = ⊥
Graphed w held Refused saved text = IsUngraphed w held text
