-- What rests on the words alone, whatever files tell.
use Rattle.std.specs.Prelude.{Bool, true, false}
use Rattle.tmr_words.specs.Line.{Command, Validate, Harden, Flatten, Replay, Report, Guard, CheckGuard, WriteGraph, ReadGraph, TryOut, Help, Version}
use Rattle.tmr_words.specs.Line.{Certify, Exposure, Sweep, Explain, Campaign, Picture}

-- the command compares what files hold, and so may find that they do not agree
abbrev pub compares : Command → Bool
compares (Validate p) = true
compares (Harden w) = false
compares (Flatten f) = false
compares (Replay w) = true
compares (Report p) = true
compares (Guard w) = false
compares (CheckGuard w) = true
compares (WriteGraph w) = false
compares (ReadGraph w) = false
compares (TryOut t) = false
compares (Certify w) = true
compares (Exposure p) = true
compares (Sweep w) = false
compares (Explain p) = true
compares (Campaign w) = true
compares (Picture w) = true
compares (Help topic) = false
compares Version = false

-- What the files hold decides what the command comes to. Of `certify` that is not promised: that a certificate is found wherever there is one
abbrev pub is_decided : Command → Bool
is_decided (Validate p) = true
is_decided (Harden w) = true
is_decided (Flatten f) = true
is_decided (Replay w) = true
is_decided (Report p) = true
is_decided (Guard w) = true
is_decided (CheckGuard w) = true
is_decided (WriteGraph w) = true
is_decided (ReadGraph w) = true
is_decided (TryOut t) = true
is_decided (Certify w) = false
is_decided (Exposure p) = true
is_decided (Sweep w) = true
is_decided (Explain p) = true
is_decided (Campaign w) = true
is_decided (Picture w) = true
is_decided (Help topic) = true
is_decided Version = true
