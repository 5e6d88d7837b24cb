-- `report ORIG HARD CERT`: what it comes to. It saves nothing.
use Rattle.std.specs.Prelude.{◌≡◌, ℕ, List, []}
use Rattle.reports.specs.Report.{IsReport}
use Rattle.tmr_outside.specs.Contents.{Contents}
use Rattle.tmr_top.specs.declared.decision.Verdict.{Verdict}
use Rattle.tmr_top.specs.declared.decision.Verdict.TheVariants.{Done, NotAccepted, Refused}
use Rattle.tmr_words.specs.Line.{Pair}
use Rattle.tmr_top.specs.Pairs.{ReadPair, HoldsPair, Accepts}
use Rattle.tmr_top.specs.Validated.{IsNotAccepted, IsPairUnread}

-- done: all three files are read, the eight rules hold, and the text is a report on the pair
pub record IsReported (p : Pair) (held : Contents) (text : List ℕ) : Type 0 where
  pub pair : ReadPair
  pub holds : HoldsPair held p pair
  pub accepts : Accepts pair
  pub says : IsReport pair.original pair.hardened pair.certificate text

abbrev pub Reported : Pair → Contents → Verdict → List (List ℕ) → List ℕ → Type 0
Reported p held Done saved text = IsReported p held text × (saved ≡ [])
Reported p held NotAccepted saved text = IsNotAccepted p held text
Reported p held Refused saved text = IsPairUnread p held text
