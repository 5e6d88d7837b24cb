-- The commands by their names, and how each is called.
use Rattle.std.specs.Prelude.{ℕ, List, [], ◌∷◌, Option, Some, None, codes, if◌then◌else◌}
use Rattle.std.specs.Option.{option_map}
use Rattle.std.specs.Str.{bytes_eq}
use Rattle.tmr_words.specs.declared.topic.Topic.{Topic}
use Rattle.tmr_words.specs.declared.topic.Topic.TheVariants.{Validate, Harden, Flatten, Replay, Report, Trial, Guard, CheckGuard, WriteGraph, ReadGraph, Wave, Certify, Exposure, Sweep, Explain, Campaign, Picture, Help, Version}

-- the command that a word names
unfoldable pub topic_of : List ℕ → Option Topic
topic_of word =
    if bytes_eq word (codes "validate") then Some Validate
    else if bytes_eq word (codes "harden") then Some Harden
    else if bytes_eq word (codes "flatten") then Some Flatten
    else if bytes_eq word (codes "replay") then Some Replay
    else if bytes_eq word (codes "report") then Some Report
    else if bytes_eq word (codes "trial") then Some Trial
    else if bytes_eq word (codes "guard") then Some Guard
    else if bytes_eq word (codes "guarded") then Some CheckGuard
    else if bytes_eq word (codes "to-aag") then Some WriteGraph
    else if bytes_eq word (codes "from-aag") then Some ReadGraph
    else if bytes_eq word (codes "wave") then Some Wave
    else if bytes_eq word (codes "certify") then Some Certify
    else if bytes_eq word (codes "exposure") then Some Exposure
    else if bytes_eq word (codes "sweep") then Some Sweep
    else if bytes_eq word (codes "explain") then Some Explain
    else if bytes_eq word (codes "campaign") then Some Campaign
    else if bytes_eq word (codes "picture") then Some Picture
    else if bytes_eq word (codes "help") then Some Help
    else if bytes_eq word (codes "version") then Some Version
    else None

-- all commands, in the order in which they are told of
abbrev pub commands : List Topic
commands = Validate ∷ Harden ∷ Flatten ∷ Replay ∷ Report ∷ Trial ∷ Guard ∷ CheckGuard ∷ WriteGraph ∷ ReadGraph ∷ Wave
    ∷ Certify ∷ Exposure ∷ Sweep ∷ Explain ∷ Campaign ∷ Picture ∷ Help ∷ Version ∷ []

-- how a command is called: its name, its files and other words, and its options
abbrev pub call_of : Topic → List ℕ
call_of Validate = codes "validate ORIG HARD CERT"
call_of Harden = codes "harden ORIG HARD CERT [--size S] [--cert V] [--depth D] [--form F]"
call_of Flatten = codes "flatten ORIG FLAT"
call_of Replay = codes "replay ORIG HARD CERT SCHED"
call_of Report = codes "report ORIG HARD CERT"
call_of Trial = codes "trial NUMBER NODES"
call_of Guard = codes "guard ORIG GUARDED"
call_of CheckGuard = codes "guarded ORIG GUARDED"
call_of WriteGraph = codes "to-aag ORIG AAG"
call_of ReadGraph = codes "from-aag AAG FLAT"
call_of Wave = codes "wave ORIG HARD CERT SCHED VCD"
call_of Certify = codes "certify ORIG HARD CERT [--cert V]"
call_of Exposure = codes "exposure ORIG HARD CERT"
call_of Sweep = codes "sweep ORIG [--cert V] [--depth D] [--form F]"
call_of Explain = codes "explain ORIG HARD CERT"
call_of Campaign = codes "campaign ORIG HARD CERT NUMBER CYCLES [near]"
call_of Picture = codes "picture ORIG HARD CERT DOT"
call_of Help = codes "help [COMMAND]"
call_of Version = codes "version"

-- no word asks for all commands, and one word for the command that it names
unfoldable pub help_of : List (List ℕ) → Option (Option Topic)
help_of [] = Some None
help_of (word ∷ []) = option_map Some (topic_of word)
help_of (word ∷ other ∷ words) = None
