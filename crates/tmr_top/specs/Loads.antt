-- The files that a command loads, and those that it saves. How large they may be is said by the limits of the command's words.
use Rattle.std.specs.Prelude.{ℕ, List, [], ◌∷◌, ◌++◌, map, Option, Some, None}
use Rattle.limits.specs.declared.Limits.{Limits}
use Rattle.limits.specs.Most.{most_original, most_hardened}
use Rattle.tmr_words.specs.Line.{Command, Pair, Replaying, Validate, Harden, Flatten, Replay, Report, Guard, CheckGuard, WriteGraph, ReadGraph, TryOut, Help, Version}
use Rattle.tmr_words.specs.Line.{Certify, Exposure, Sweep, Explain, Campaign, Picture}

-- how a file is loaded
pub data FileKind : Type 0 where
  Netlist : FileKind
  Bytes : FileKind

-- a file to be loaded, and the most bytes that it may have; a netlist is read while it is loaded, and so is the certificate of two designs
-- that are read, whose bytes are not kept; of other files, and of the three that `explain` loads, the bytes are kept
pub record Load : Type 0 where
  pub name : List ℕ
  pub limit : ℕ
  pub kind : FileKind

-- an original design
abbrev pub original_file : Limits → List ℕ → Load
original_file l name = record { name = name; limit = most_original l; kind = Netlist }

-- a hardened design, and a guarded one
abbrev pub hardened_file : Limits → List ℕ → Load
hardened_file l name = record { name = name; limit = most_hardened l; kind = Netlist }

-- a certificate
abbrev pub certificate_file : Limits → List ℕ → Load
certificate_file l name = record { name = name; limit = most_hardened l; kind = Bytes }

-- a schedule has at most 16 MiB, whatever the limits
abbrev pub schedule_file : List ℕ → Load
schedule_file name = record { name = name; limit = 16777216; kind = Bytes }

-- an AIGER file
abbrev pub graph_file : Limits → List ℕ → Load
graph_file l name = record { name = name; limit = most_original l; kind = Bytes }

-- the three files of a pair
abbrev pub pair_files : Pair → List Load
pair_files p = original_file p.limits p.original ∷ hardened_file p.limits p.hardened ∷ certificate_file p.limits p.certificate ∷ []

-- and with them the schedule
abbrev pub replay_files : Replaying → List Load
replay_files w = pair_files w.pair ++ schedule_file w.schedule ∷ []

-- a file whose bytes are kept
abbrev pub kept_file : Load → Load
kept_file load = record { name = load.name; limit = load.limit; kind = Bytes }

-- the three files of a pair, all kept, so that a line of them can be shown
abbrev pub kept_pair_files : Pair → List Load
kept_pair_files p = kept_file (original_file p.limits p.original) ∷ kept_file (hardened_file p.limits p.hardened)
    ∷ certificate_file p.limits p.certificate ∷ []

-- the name that waves are saved under, where there is one
abbrev pub wave_names : Option (List ℕ) → List (List ℕ)
wave_names None = []
wave_names (Some name) = name ∷ []

-- the files that a command loads, in this order
abbrev pub loads_of : Command → List Load
loads_of (Validate p) = pair_files p
loads_of (Harden w) = original_file w.limits w.original ∷ []
loads_of (Flatten f) = original_file f.limits f.original ∷ []
loads_of (Replay w) = replay_files w
loads_of (Report p) = pair_files p
loads_of (Guard w) = original_file w.limits w.original ∷ []
loads_of (CheckGuard w) = original_file w.limits w.original ∷ hardened_file w.limits w.guarded ∷ []
loads_of (WriteGraph w) = original_file w.limits w.original ∷ []
loads_of (ReadGraph w) = graph_file w.limits w.graph ∷ []
loads_of (TryOut t) = []
loads_of (Certify w) = original_file w.limits w.original ∷ hardened_file w.limits w.hardened ∷ []
loads_of (Exposure p) = pair_files p
loads_of (Sweep w) = original_file w.limits w.original ∷ []
loads_of (Explain p) = kept_pair_files p
loads_of (Campaign w) = pair_files w.pair
loads_of (Picture w) = pair_files w.pair
loads_of (Help topic) = []
loads_of Version = []

-- the names that a command saves, in this order
abbrev pub saves_of : Command → List (List ℕ)
saves_of (Validate p) = []
saves_of (Harden w) = w.hardened ∷ w.certificate ∷ []
saves_of (Flatten f) = f.flat ∷ []
saves_of (Replay w) = wave_names w.waves
saves_of (Report p) = []
saves_of (Guard w) = w.guarded ∷ []
saves_of (CheckGuard w) = []
saves_of (WriteGraph w) = w.graph ∷ []
saves_of (ReadGraph w) = w.flat ∷ []
saves_of (TryOut t) = []
saves_of (Certify w) = w.certificate ∷ []
saves_of (Exposure p) = []
saves_of (Sweep w) = []
saves_of (Explain p) = []
saves_of (Campaign w) = []
saves_of (Picture w) = w.picture ∷ []
saves_of (Help topic) = []
saves_of Version = []

abbrev pub load_name : Load → List ℕ
load_name load = load.name

-- the names that a command line loads
abbrev pub loaded_names : Option Command → List (List ℕ)
loaded_names None = []
loaded_names (Some c) = map load_name (loads_of c)

-- and those that it saves
abbrev pub saved_names : Option Command → List (List ℕ)
saved_names None = []
saved_names (Some c) = saves_of c
