-- What the words of a command line mean.
use Rattle.std.specs.Prelude.{ℕ, ◌&&◌, nat_lt, nat_eq, not, Bool, true, false, List, [], ◌∷◌, length, Option, Some, None, codes, String, if◌then◌else◌}
use Rattle.std.specs.Option.{option_and_then, option_map}
use Rattle.std.specs.Str.{bytes_eq}
use Rattle.std.specs.declared.alloc.Global.{Global}
use Rattle.limits.specs.declared.Limits.{Limits}
use Rattle.tmr_base.specs.Numbers.{number_of}
use Rattle.triplicate.specs.declared.form.Form.{Form}
use Rattle.triplicate.specs.declared.form.Form.TheVariants.{Plain, Lean}
use Rattle.tmr_words.specs.Words.{texts, Words, has_no_options, has_plain_words_alone, has_versions_alone, has_no_sizes, limits_of, words_of}
use Rattle.tmr_words.specs.Trials.{Trial, trial_of}
use Rattle.tmr_words.specs.Campaigns.{cycles_number}
use Rattle.tmr_words.specs.declared.topic.Topic.{Topic}
use Rattle.tmr_words.specs.declared.topic.Topic.TheVariants as topic
use Rattle.tmr_words.specs.Topics.{topic_of, help_of}

-- the three files of `validate ORIG HARD CERT` and of `report ORIG HARD CERT`. In this record and the next ones `limits` says how large files may be.
pub record Pair : Type 0 where
  pub original : List ℕ
  pub hardened : List ℕ
  pub certificate : List ℕ
  pub limits : Limits

-- the three files of `harden ORIG HARD CERT`, the form, the size of partitions, the version of the certificate, and the most that a depth may be
pub record Hardening : Type 0 where
  pub original : List ℕ
  pub hardened : List ℕ
  pub certificate : List ℕ
  pub form : Form
  pub size : ℕ
  pub version : ℕ
  pub most : ℕ
  pub limits : Limits

-- the files of `replay ORIG HARD CERT SCHED`, and of `wave ORIG HARD CERT SCHED VCD`, which saves the waves as VCD
pub record Replaying : Type 0 where
  pub pair : Pair
  pub schedule : List ℕ
  pub waves : Option (List ℕ)

-- the two files of `flatten ORIG FLAT`
pub record Flattening : Type 0 where
  pub original : List ℕ
  pub flat : List ℕ
  pub limits : Limits

-- the two files of `guard ORIG GUARDED` and of `guarded ORIG GUARDED`
pub record Guarding : Type 0 where
  pub original : List ℕ
  pub guarded : List ℕ
  pub limits : Limits

-- the two files of `to-aag ORIG AAG`
pub record Graphing : Type 0 where
  pub original : List ℕ
  pub graph : List ℕ
  pub limits : Limits

-- the two files of `from-aag AAG FLAT`
pub record GraphReading : Type 0 where
  pub graph : List ℕ
  pub flat : List ℕ
  pub limits : Limits

-- the three files of `certify ORIG HARD CERT`, and the version of the certificate
pub record Certifying : Type 0 where
  pub original : List ℕ
  pub hardened : List ℕ
  pub certificate : List ℕ
  pub version : ℕ
  pub limits : Limits

-- the file of `sweep ORIG`, the form, the version of the certificate, and the most that a depth may be
pub record Sweeping : Type 0 where
  pub original : List ℕ
  pub form : Form
  pub version : ℕ
  pub most : ℕ
  pub limits : Limits

-- the files of `campaign ORIG HARD CERT NUMBER CYCLES`, the number that schedules are drawn from, how many cycles each has, and whether their upsets are
-- too near, which a sixth word says
pub record Campaigning : Type 0 where
  pub pair : Pair
  pub number : ℕ
  pub cycles : ℕ
  pub near : Bool

-- the files of `picture ORIG HARD CERT DOT`, which saves the picture as DOT
pub record Picturing : Type 0 where
  pub pair : Pair
  pub picture : List ℕ

-- what the words of a command line can mean; `help` without a word has no topic
pub data Command : Type 0 where
  Validate : Pair → Command
  Harden : Hardening → Command
  Flatten : Flattening → Command
  Replay : Replaying → Command
  Report : Pair → Command
  TryOut : Trial → Command
  Guard : Guarding → Command
  CheckGuard : Guarding → Command
  WriteGraph : Graphing → Command
  ReadGraph : GraphReading → Command
  Certify : Certifying → Command
  Exposure : Pair → Command
  Sweep : Sweeping → Command
  Explain : Pair → Command
  Campaign : Campaigning → Command
  Picture : Picturing → Command
  Help : Option Topic → Command
  Version : Command

-- a file word is not empty
abbrev pub is_file : List ℕ → Bool
is_file word = nat_lt 0 (length word)

-- the pair of files that three words name
unfoldable pub pair_named : Limits → List (List ℕ) → Option Pair
pair_named limits (original ∷ hardened ∷ certificate ∷ []) =
    if is_file original && is_file hardened && is_file certificate
    then Some (record { original = original; hardened = hardened; certificate = certificate; limits = limits })
    else None
pair_named limits words = None

-- a command over a pair
abbrev pub over_pair : Limits → (Pair → Command) → List (List ℕ) → Option Command
over_pair limits command words = option_map command (pair_named limits words)

abbrev pub over_trial : List (List ℕ) → Option Command
over_trial words = option_map TryOut (trial_of words)

abbrev pub over_help : List (List ℕ) → Option Command
over_help words = option_map Help (help_of words)

-- `version` has no words
abbrev pub version_of : List (List ℕ) → Option Command
version_of [] = Some Version
version_of (word ∷ words) = None

unfoldable pub flattening_of : Limits → List (List ℕ) → Option Command
flattening_of limits (original ∷ flat ∷ []) =
    if is_file original && is_file flat
    then Some (Flatten (record { original = original; flat = flat; limits = limits }))
    else None
flattening_of limits words = None

unfoldable pub guarding_of : Limits → List (List ℕ) → Option Guarding
guarding_of limits (original ∷ guarded ∷ []) =
    if is_file original && is_file guarded then Some (record { original = original; guarded = guarded; limits = limits }) else None
guarding_of limits words = None

-- a command over a design and a guarded one
abbrev pub over_guarding : Limits → (Guarding → Command) → List (List ℕ) → Option Command
over_guarding limits command words = option_map command (guarding_of limits words)

unfoldable pub graphing_of : Limits → List (List ℕ) → Option Command
graphing_of limits (original ∷ graph ∷ []) =
    if is_file original && is_file graph
    then Some (WriteGraph (record { original = original; graph = graph; limits = limits }))
    else None
graphing_of limits words = None

unfoldable pub graph_reading_of : Limits → List (List ℕ) → Option Command
graph_reading_of limits (graph ∷ flat ∷ []) =
    if is_file graph && is_file flat
    then Some (ReadGraph (record { graph = graph; flat = flat; limits = limits }))
    else None
graph_reading_of limits words = None

-- a replay over a pair, where no file word is empty, and no waves are saved or those under this name
abbrev pub replay_over : Option Pair → List ℕ → Option (List ℕ) → Option Command
replay_over None schedule waves = None
replay_over (Some pair) schedule waves =
    if is_file schedule then Some (Replay (record { pair = pair; schedule = schedule; waves = waves })) else None

unfoldable pub replaying_of : Limits → List (List ℕ) → Option Command
replaying_of limits (original ∷ hardened ∷ certificate ∷ schedule ∷ []) =
    replay_over (pair_named limits (original ∷ hardened ∷ certificate ∷ [])) schedule None
replaying_of limits words = None

unfoldable pub waving_of : Limits → List (List ℕ) → Option Command
waving_of limits (original ∷ hardened ∷ certificate ∷ schedule ∷ waves ∷ []) =
    if is_file waves then replay_over (pair_named limits (original ∷ hardened ∷ certificate ∷ [])) schedule (Some waves) else None
waving_of limits words = None

-- a number from 1 to 4,294,967,295, decimal and without leading zeros
unfoldable pub positive_number : List ℕ → Option ℕ
positive_number word = option_and_then (λ n. if nat_eq n 0 then None else Some n) (number_of 32 word)

-- `1` or `2`
unfoldable pub version_number : List ℕ → Option ℕ
version_number word = if bytes_eq word (codes "1") then Some 1 else if bytes_eq word (codes "2") then Some 2 else None

-- `plain` or `lean`
unfoldable pub form_named : List ℕ → Option Form
form_named word = if bytes_eq word (codes "plain") then Some Plain else if bytes_eq word (codes "lean") then Some Lean else None

-- what an option says that is given at most once; where it is not given, this
abbrev pub said : {A : Type 0} → (List ℕ → Option A) → A → List (List ℕ) → Option A
said read default [] = Some default
said read default (value ∷ []) = read value
said read default (value ∷ other ∷ values) = None

-- the hardened design and the certificate have two names
unfoldable pub hardening_with : Limits → Form → ℕ → ℕ → ℕ → List (List ℕ) → Option Command
hardening_with limits form size version most (original ∷ hardened ∷ certificate ∷ []) =
    if is_file original && is_file hardened && is_file certificate && not (bytes_eq hardened certificate)
    then Some (Harden (record {
      original = original;
      hardened = hardened;
      certificate = certificate;
      form = form;
      size = size;
      version = version;
      most = most;
      limits = limits;
    }))
    else None
hardening_with limits form size version most words = None

-- a hardening of this form; without the other options the size is 64, the version 1, and a depth may be any
unfoldable pub hardening_as : Limits → Form → Words → Option Command
hardening_as limits form words =
    option_and_then (λ size. option_and_then (λ version. option_and_then (λ most. hardening_with limits form size version most words.plain)
    (said positive_number 4294967295 words.depths)) (said version_number 1 words.versions)) (said positive_number 64 words.sizes)

-- without the option the form is plain
unfoldable pub hardening_of : Limits → Words → Option Command
hardening_of limits words = option_and_then (λ form. hardening_as limits form words) (said form_named Plain words.forms)

-- the certificate has another name than the two designs, which are read
unfoldable pub certifying_with : Limits → ℕ → List (List ℕ) → Option Certifying
certifying_with limits version (original ∷ hardened ∷ certificate ∷ []) =
    if is_file original && is_file hardened && is_file certificate && not (bytes_eq certificate original) && not (bytes_eq certificate hardened)
    then Some (record { original = original; hardened = hardened; certificate = certificate; version = version; limits = limits })
    else None
certifying_with limits version words = None

-- its one option is the version, which is 1 where it is not said
unfoldable pub certifying_of : Limits → Words → Option Certifying
certifying_of limits words =
    if has_versions_alone words
    then option_and_then (λ version. certifying_with limits version words.plain) (said version_number 1 words.versions)
    else None

unfoldable pub sweeping_with : Limits → Form → ℕ → ℕ → List (List ℕ) → Option Sweeping
sweeping_with limits form version most (original ∷ []) =
    if is_file original then Some (record { original = original; form = form; version = version; most = most; limits = limits }) else None
sweeping_with limits form version most words = None

-- a sweep of this form; without the other options the version is 1, and a depth may be any
unfoldable pub sweeping_as : Limits → Form → Words → Option Sweeping
sweeping_as limits form words =
    option_and_then (λ version. option_and_then (λ most. sweeping_with limits form version most words.plain)
    (said positive_number 4294967295 words.depths)) (said version_number 1 words.versions)

-- a sweep goes over the sizes, so none is said; without the option the form is plain
unfoldable pub sweeping_of : Limits → Words → Option Sweeping
sweeping_of limits words =
    if has_no_sizes words then option_and_then (λ form. sweeping_as limits form words) (said form_named Plain words.forms) else None

-- a campaign over a pair, from a number below 2^64, with 1 to 100,000 cycles
unfoldable pub campaign_over : Option Pair → List ℕ → List ℕ → Bool → Option Campaigning
campaign_over None number cycles near = None
campaign_over (Some pair) number cycles near =
    option_and_then (λ n. option_map (λ t. record { pair = pair; number = n; cycles = t; near = near }) (cycles_number cycles)) (number_of 64 number)

-- five words, or six where the last one is `near`
unfoldable pub campaigning_of : Limits → List (List ℕ) → Option Campaigning
campaigning_of limits (original ∷ hardened ∷ certificate ∷ number ∷ cycles ∷ []) =
    campaign_over (pair_named limits (original ∷ hardened ∷ certificate ∷ [])) number cycles false
campaigning_of limits (original ∷ hardened ∷ certificate ∷ number ∷ cycles ∷ word ∷ []) =
    if bytes_eq word (codes "near") then campaign_over (pair_named limits (original ∷ hardened ∷ certificate ∷ [])) number cycles true else None
campaigning_of limits words = None

unfoldable pub picturing_of : Limits → List (List ℕ) → Option Picturing
picturing_of limits (original ∷ hardened ∷ certificate ∷ picture ∷ []) =
    if is_file picture
    then option_map (λ pair. record { pair = pair; picture = picture }) (pair_named limits (original ∷ hardened ∷ certificate ∷ []))
    else None
picturing_of limits words = None

-- what the words mean behind the name of a command over files that has no option but `--large`
unfoldable pub plain_meaning : Limits → Topic → List (List ℕ) → Option Command
plain_meaning limits topic.Validate words = over_pair limits Validate words
plain_meaning limits topic.Harden words = None
plain_meaning limits topic.Flatten words = flattening_of limits words
plain_meaning limits topic.Replay words = replaying_of limits words
plain_meaning limits topic.Report words = over_pair limits Report words
plain_meaning limits topic.Trial words = None
plain_meaning limits topic.Guard words = over_guarding limits Guard words
plain_meaning limits topic.CheckGuard words = over_guarding limits CheckGuard words
plain_meaning limits topic.WriteGraph words = graphing_of limits words
plain_meaning limits topic.ReadGraph words = graph_reading_of limits words
plain_meaning limits topic.Wave words = waving_of limits words
plain_meaning limits topic.Certify words = None
plain_meaning limits topic.Exposure words = over_pair limits Exposure words
plain_meaning limits topic.Sweep words = None
plain_meaning limits topic.Explain words = over_pair limits Explain words
plain_meaning limits topic.Campaign words = option_map Campaign (campaigning_of limits words)
plain_meaning limits topic.Picture words = option_map Picture (picturing_of limits words)
plain_meaning limits topic.Help words = None
plain_meaning limits topic.Version words = None

-- what the words mean behind the name of a command over files, with these limits
unfoldable pub file_meaning : Limits → Topic → Words → Option Command
file_meaning limits topic.Harden words = hardening_of limits words
file_meaning limits topic.Certify words = option_map Certify (certifying_of limits words)
file_meaning limits topic.Sweep words = option_map Sweep (sweeping_of limits words)
file_meaning limits name words = if has_no_options words then plain_meaning limits name words.plain else None

-- What the words mean behind the name of a command. `trial`, `help` and `version` read no file, and have no options, nor `--large`.
unfoldable pub meaning_of : Topic → Words → Option Command
meaning_of topic.Trial words = if has_plain_words_alone words then over_trial words.plain else None
meaning_of topic.Help words = if has_plain_words_alone words then over_help words.plain else None
meaning_of topic.Version words = if has_plain_words_alone words then version_of words.plain else None
meaning_of name words = option_and_then (λ limits. file_meaning limits name words) (limits_of words)

abbrev pub named_meaning : Topic → List (List ℕ) → Option Command
named_meaning name words = option_and_then (meaning_of name) (words_of words)

-- what the words mean: a command with its files and options, or nothing
unfoldable pub line_of : List (List ℕ) → Option Command
line_of [] = None
line_of (command ∷ words) = option_and_then (λ name. named_meaning name words) (topic_of command)

-- what the words of a command line mean
abbrev pub meaning : List (String Global) → Option Command
meaning words = line_of (texts words)
