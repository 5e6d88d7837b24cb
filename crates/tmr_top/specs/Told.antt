-- `help [COMMAND]` and `version`: what they come to. They load and save nothing.
use Rattle.std.specs.Prelude.{◌≡◌, ℕ, List, [], Option}
use Rattle.tmr_words.specs.declared.topic.Topic.{Topic}
use Rattle.tmr_texts.specs.Help.{help_text, version_text}
use Rattle.tmr_top.specs.declared.decision.Verdict.{Verdict}
use Rattle.tmr_top.specs.declared.decision.Verdict.TheVariants.{Done, NotAccepted, Refused}

-- done: just this is printed
abbrev pub Told : List ℕ → Verdict → List (List ℕ) → List ℕ → Type 0
Told what Done saved text = (text ≡ what) × (saved ≡ [])
Told what NotAccepted saved text = ⊥
Told what Refused saved text = ⊥

-- what is told of one command, or of all
abbrev pub IsHelped : Option Topic → Verdict → List (List ℕ) → List ℕ → Type 0
IsHelped topic = Told (help_text topic)

-- the version of these sources
abbrev pub IsVersion : Verdict → List (List ℕ) → List ℕ → Type 0
IsVersion = Told version_text
