-- `picture ORIG HARD CERT DOT`: what it comes to.
use Rattle.std.specs.Prelude.{◌≡◌, ℕ, List, [], ◌∷◌, count_by}
use Rattle.partition_graph.specs.Picture.{IsPicture}
use Rattle.tmr_outside.specs.Contents.{Contents}
use Rattle.tmr_top.specs.declared.decision.Verdict.{Verdict}
use Rattle.tmr_top.specs.declared.decision.Verdict.TheVariants.{Done, NotAccepted, Refused}
use Rattle.tmr_words.specs.Line.{Picturing}
use Rattle.tmr_top.specs.Pairs.{ReadPair, HoldsPair, Accepts}
use Rattle.tmr_top.specs.Validated.{IsNotAccepted, IsPairUnread}
use Rattle.tmr_texts.specs.Texts.{accepted_line}

-- done: all three files are read, the eight rules hold, the picture of the partitions is saved, and what `validate` prints is printed
pub record IsPictured (w : Picturing) (held : Contents) (saved : List (List ℕ)) (text : List ℕ) : Type 0 where
  pub pair : ReadPair
  pub holds : HoldsPair held w.pair pair
  pub accepts : Accepts pair
  pub picture : List ℕ
  pub draws : IsPicture pair.original pair.certificate picture
  pub saves : saved ≡ picture ∷ []
  pub says : text ≡ accepted_line pair.certificate (count_by (λ bit. bit) pair.free) (count_by (λ bit. bit) pair.hardened_free)

abbrev pub Pictured : Picturing → Contents → Verdict → List (List ℕ) → List ℕ → Type 0
Pictured w held Done saved text = IsPictured w held saved text
Pictured w held NotAccepted saved text = IsNotAccepted w.pair held text
Pictured w held Refused saved text = IsPairUnread w.pair held text
