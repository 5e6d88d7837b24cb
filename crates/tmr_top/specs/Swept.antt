-- `sweep ORIG`: what it comes to. It saves nothing.
use Rattle.std.specs.Prelude.{◌≡◌, ℕ, List, []}
use Rattle.flat_net.specs.Free.{FreeDesign}
use Rattle.sweep.specs.Sweep.{IsSweepText}
use Rattle.tmr_outside.specs.Contents.{Contents}
use Rattle.tmr_top.specs.declared.decision.Verdict.{Verdict}
use Rattle.tmr_top.specs.declared.decision.Verdict.TheVariants.{Done, NotAccepted, Refused}
use Rattle.tmr_words.specs.Line.{Sweeping}
use Rattle.tmr_top.specs.Loads.{original_file}
use Rattle.tmr_top.specs.Designs.{HoldsDesign, HoldsNoDesign}
use Rattle.tmr_texts.specs.Texts.{refused_line}

-- done: the original is a design, and the text tells of one hardened form of it for each size
pub record IsSweptOver (w : Sweeping) (held : Contents) (text : List ℕ) : Type 0 where
  pub design : FreeDesign
  pub holds : HoldsDesign held (original_file w.limits w.original) design.design.net design.free
  pub says : IsSweepText w.form design w.version w.most text

-- refused: the original is no design
pub record IsUnswept (w : Sweeping) (held : Contents) (text : List ℕ) : Type 0 where
  pub reason : List ℕ
  pub unread : HoldsNoDesign held (original_file w.limits w.original) reason
  pub says : text ≡ refused_line w.original reason

abbrev pub SweptOver : Sweeping → Contents → Verdict → List (List ℕ) → List ℕ → Type 0
SweptOver w held Done saved text = IsSweptOver w held text × (saved ≡ [])
SweptOver w held NotAccepted saved text = ⊥
SweptOver w held Refused saved text = IsUnswept w held text
