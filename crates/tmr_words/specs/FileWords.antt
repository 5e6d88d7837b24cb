-- What the words of a command show of where they lie.
use Rattle.std.specs.Prelude.{ℕ, List, map, Option}
use Rattle.std.specs.Borrow.{Bor}
use Rattle.std.specs.Option.{option_map}
use Rattle.tmr_words.specs.declared.line.PairWords.{PairWords}
use Rattle.tmr_words.specs.declared.line.FlatWords.{FlatWords}
use Rattle.tmr_words.specs.declared.replay_words.ReplayWords.{ReplayWords}
use Rattle.tmr_words.specs.declared.harden_words.HardenWords.{HardenWords}
use Rattle.tmr_words.specs.declared.line.GuardWords.{GuardWords}
use Rattle.tmr_words.specs.declared.line.GraphWords.{GraphWords}
use Rattle.tmr_words.specs.declared.line.GraphReadWords.{GraphReadWords}
use Rattle.tmr_words.specs.declared.certify_words.CertifyWords.{CertifyWords}
use Rattle.tmr_words.specs.declared.sweep_words.SweepWords.{SweepWords}
use Rattle.tmr_words.specs.declared.campaign_words.CampaignWords.{CampaignWords}
use Rattle.tmr_words.specs.declared.picture_words.PictureWords.{PictureWords}
use Rattle.tmr_words.specs.declared.line.CommandWords.{CommandWords}
use Rattle.tmr_words.specs.declared.line.CommandWords.TheVariants as words
use Rattle.tmr_words.specs.Line.{Pair, Hardening, Flattening, Replaying, Guarding, Graphing, GraphReading, Certifying, Sweeping, Campaigning, Picturing}
use Rattle.tmr_words.specs.Line.{Command, Validate, Harden, Flatten, Replay, Report, Guard, CheckGuard, WriteGraph, ReadGraph, TryOut, Help, Version}
use Rattle.tmr_words.specs.Line.{Certify, Exposure, Sweep, Explain, Campaign, Picture}
use Rattle.tmr_words.specs.TrialWords.{trial_in}

abbrev pub pair_in : PairWords → Pair
pair_in words = record { original = words.original.now; hardened = words.hardened.now; certificate = words.certificate.now; limits = words.limits }

abbrev pub hardening_in : HardenWords → Hardening
hardening_in words = record {
  original = words.original.now;
  hardened = words.hardened.now;
  certificate = words.certificate.now;
  form = words.form;
  size = words.size;
  version = words.version;
  most = words.most;
  limits = words.limits;
}

abbrev pub flattening_in : FlatWords → Flattening
flattening_in words = record { original = words.original.now; flat = words.flat.now; limits = words.limits }

abbrev pub guarding_in : GuardWords → Guarding
guarding_in words = record { original = words.original.now; guarded = words.guarded.now; limits = words.limits }

abbrev pub graphing_in : GraphWords → Graphing
graphing_in words = record { original = words.original.now; graph = words.graph.now; limits = words.limits }

abbrev pub graph_reading_in : GraphReadWords → GraphReading
graph_reading_in words = record { graph = words.graph.now; flat = words.flat.now; limits = words.limits }

abbrev pub word_in : Option (Bor (List ℕ)) → Option (List ℕ)
word_in word = option_map (λ w. w.now) word

abbrev pub replaying_in : ReplayWords → Replaying
replaying_in words = record { pair = pair_in words.pair; schedule = words.schedule.now; waves = word_in words.waves }

abbrev pub certifying_in : CertifyWords → Certifying
certifying_in words = record {
  original = words.original.now;
  hardened = words.hardened.now;
  certificate = words.certificate.now;
  version = words.version;
  limits = words.limits;
}

abbrev pub sweeping_in : SweepWords → Sweeping
sweeping_in words = record { original = words.original.now; form = words.form; version = words.version; most = words.most; limits = words.limits }

abbrev pub campaigning_in : CampaignWords → Campaigning
campaigning_in words = record { pair = pair_in words.pair; number = words.number; cycles = words.cycles; near = words.near }

abbrev pub picturing_in : PictureWords → Picturing
picturing_in words = record { pair = pair_in words.pair; picture = words.picture.now }

abbrev pub command_in : CommandWords → Command
command_in (words.Validate pair) = Validate (pair_in pair)
command_in (words.Harden harden) = Harden (hardening_in harden)
command_in (words.Flatten flat) = Flatten (flattening_in flat)
command_in (words.Replay replay) = Replay (replaying_in replay)
command_in (words.Report pair) = Report (pair_in pair)
command_in (words.Guard guard) = Guard (guarding_in guard)
command_in (words.CheckGuard guard) = CheckGuard (guarding_in guard)
command_in (words.WriteGraph graph) = WriteGraph (graphing_in graph)
command_in (words.ReadGraph graph) = ReadGraph (graph_reading_in graph)
command_in (words.Trial trial) = TryOut (trial_in trial)
command_in (words.Certify certify) = Certify (certifying_in certify)
command_in (words.Exposure pair) = Exposure (pair_in pair)
command_in (words.Sweep sweep) = Sweep (sweeping_in sweep)
command_in (words.Explain pair) = Explain (pair_in pair)
command_in (words.Campaign campaign) = Campaign (campaigning_in campaign)
command_in (words.Picture picture) = Picture (picturing_in picture)
command_in (words.Help topic) = Help topic
command_in words.Version = Version

-- words without where they lie in memory
abbrev pub read_words : List (Bor (List ℕ)) → List (List ℕ)
read_words words = map (λ word. word.now) words
