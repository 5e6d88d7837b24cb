-- `campaign ORIG HARD CERT NUMBER CYCLES [near]`: what it comes to. It saves nothing.
use Rattle.std.specs.Prelude.{◌≡◌, ℕ, Bool, true, false, List, []}
use Rattle.campaigns.specs.Campaign.{IsCampaignText}
use Rattle.campaigns.specs.NearCampaign.{IsNearText}
use Rattle.tmr_outside.specs.Contents.{Contents}
use Rattle.tmr_top.specs.declared.decision.Verdict.{Verdict}
use Rattle.tmr_top.specs.declared.decision.Verdict.TheVariants.{Done, NotAccepted, Refused}
use Rattle.tmr_words.specs.Line.{Campaigning}
use Rattle.tmr_top.specs.Pairs.{ReadPair, HoldsPair, Accepts}
use Rattle.tmr_top.specs.Validated.{IsNotAccepted, IsPairUnread}

-- the text of the campaign that is asked for: with `near` its upsets are pairs that the certificate does not allow
abbrev pub Says : Bool → Campaigning → ReadPair → List ℕ → Type 0
Says false w pair text = IsCampaignText w.number w.cycles pair.original pair.hardened pair.certificate text
Says true w pair text = IsNearText w.number w.cycles pair.original pair.hardened pair.certificate text

-- done: all three files are read, the eight rules hold, and the text tells what 64 runs of the pair come to
pub record IsCampaigned (w : Campaigning) (held : Contents) (text : List ℕ) : Type 0 where
  pub pair : ReadPair
  pub holds : HoldsPair held w.pair pair
  pub accepts : Accepts pair
  pub says : Says w.near w pair text

abbrev pub Campaigned : Campaigning → Contents → Verdict → List (List ℕ) → List ℕ → Type 0
Campaigned w held Done saved text = IsCampaigned w held text × (saved ≡ [])
Campaigned w held NotAccepted saved text = IsNotAccepted w.pair held text
Campaigned w held Refused saved text = IsPairUnread w.pair held text
