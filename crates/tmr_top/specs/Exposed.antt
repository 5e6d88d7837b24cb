-- `exposure ORIG HARD CERT`: what it comes to. It saves nothing.
use Rattle.std.specs.Prelude.{◌≡◌, ℕ, List, []}
use Rattle.exposure.specs.Text.{exposure_text}
use Rattle.tmr_outside.specs.Contents.{Contents}
use Rattle.tmr_top.specs.declared.decision.Verdict.{Verdict}
use Rattle.tmr_top.specs.declared.decision.Verdict.TheVariants.{Done, NotAccepted, Refused}
use Rattle.tmr_words.specs.Line.{Pair}
use Rattle.tmr_top.specs.Pairs.{ReadPair, HoldsPair, Accepts}
use Rattle.tmr_top.specs.Validated.{IsNotAccepted, IsPairUnread}

-- done: all three files are read, the eight rules hold, and the text tells how many pairs of upsets are too near
pub record IsExposed (p : Pair) (held : Contents) (text : List ℕ) : Type 0 where
  pub pair : ReadPair
  pub holds : HoldsPair held p pair
  pub accepts : Accepts pair
  pub says : text ≡ exposure_text pair.certificate

abbrev pub Exposed : Pair → Contents → Verdict → List (List ℕ) → List ℕ → Type 0
Exposed p held Done saved text = IsExposed p held text × (saved ≡ [])
Exposed p held NotAccepted saved text = IsNotAccepted p held text
Exposed p held Refused saved text = IsPairUnread p held text
