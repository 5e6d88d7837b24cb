-- What a command comes to, by what the files held at entry.
use Rattle.std.specs.Prelude.{ℕ, List}
use Rattle.tmr_outside.specs.Contents.{Contents}
use Rattle.tmr_top.specs.declared.decision.Verdict.{Verdict}
use Rattle.tmr_words.specs.Line.{Command, Validate, Harden, Flatten, Replay, Report, Guard, CheckGuard, WriteGraph, ReadGraph, TryOut, Help, Version}
use Rattle.tmr_words.specs.Line.{Certify, Exposure, Sweep, Explain, Campaign, Picture}
use Rattle.tmr_top.specs.Validated.{Validated}
use Rattle.tmr_top.specs.Hardened.{Hardened}
use Rattle.tmr_top.specs.Flattened.{Flattened}
use Rattle.tmr_top.specs.Replayed.{Replayed}
use Rattle.tmr_top.specs.Reported.{Reported}
use Rattle.tmr_top.specs.Guarded.{Guarded, GuardChecked}
use Rattle.tmr_top.specs.Graphed.{Graphed}
use Rattle.tmr_top.specs.GraphRead.{GraphRead}
use Rattle.tmr_top.specs.Tried.{Tried}
use Rattle.tmr_top.specs.Certified.{Certified}
use Rattle.tmr_top.specs.Exposed.{Exposed}
use Rattle.tmr_top.specs.Swept.{SweptOver}
use Rattle.tmr_top.specs.Explained.{Explained}
use Rattle.tmr_top.specs.Campaigned.{Campaigned}
use Rattle.tmr_top.specs.Pictured.{Pictured}
use Rattle.tmr_top.specs.Told.{IsHelped, IsVersion}

-- The contents at entry, where every file to be loaded is there and is not too long, the status that is decided before the put, the
-- texts to be saved, in the order of the names to be saved, and the text to be printed. Where the status is not Done nothing is saved.
abbrev pub Outcome : Command → Contents → Verdict → List (List ℕ) → List ℕ → Type 0
Outcome (Validate p) held verdict saved text = Validated p held verdict saved text
Outcome (Harden w) held verdict saved text = Hardened w held verdict saved text
Outcome (Flatten f) held verdict saved text = Flattened f held verdict saved text
Outcome (Replay w) held verdict saved text = Replayed w held verdict saved text
Outcome (Report p) held verdict saved text = Reported p held verdict saved text
Outcome (Guard w) held verdict saved text = Guarded w held verdict saved text
Outcome (CheckGuard w) held verdict saved text = GuardChecked w held verdict saved text
Outcome (WriteGraph w) held verdict saved text = Graphed w held verdict saved text
Outcome (ReadGraph w) held verdict saved text = GraphRead w held verdict saved text
Outcome (TryOut t) held verdict saved text = Tried t verdict saved text
Outcome (Certify w) held verdict saved text = Certified w held verdict saved text
Outcome (Exposure p) held verdict saved text = Exposed p held verdict saved text
Outcome (Sweep w) held verdict saved text = SweptOver w held verdict saved text
Outcome (Explain p) held verdict saved text = Explained p held verdict saved text
Outcome (Campaign w) held verdict saved text = Campaigned w held verdict saved text
Outcome (Picture w) held verdict saved text = Pictured w held verdict saved text
Outcome (Help topic) held verdict saved text = IsHelped topic verdict saved text
Outcome Version held verdict saved text = IsVersion verdict saved text
