-- What a command line that means a command keeps.
use Rattle.std.proofs.Common.{◌≡◌, ◌≢◌, ℕ, Bool, true, false, cond, ◌&&◌, List, [], ◌∷◌, Option, Some, None, refl, subst}
use Rattle.std.specs.Prelude.{not}
use Rattle.std.specs.Option.{option_and_then, option_map}
use Rattle.std.specs.Str.{bytes_eq}
use Rattle.flat_net.proofs.Names.{eq_true}
use Rattle.limits.specs.declared.Limits.{Limits}
use Rattle.triplicate.specs.declared.form.Form.{Form}
use Rattle.triplicate.specs.declared.form.Form.TheVariants.{Plain}
use Rattle.tmr_words.specs.Words.{Words, has_no_options, has_plain_words_alone, has_versions_alone, limits_of, words_of}
use Rattle.tmr_words.specs.Trials.{trial_of}
use Rattle.tmr_words.specs.declared.topic.Topic.{Topic}
use Rattle.tmr_words.specs.declared.topic.Topic.TheVariants as topic
use Rattle.tmr_words.specs.Topics.{topic_of, help_of}
use Rattle.tmr_words.specs.Line.{Command, Pair, Hardening, Certifying, Validate, Harden, Flatten, Replay, Report, Guard, CheckGuard, WriteGraph, ReadGraph, TryOut, Help, Version}
use Rattle.tmr_words.specs.Line.{Certify, Exposure, Sweep, Explain, Campaign, Picture}
use Rattle.tmr_words.specs.Line.{is_file, said, positive_number, version_number, form_named, pair_named, version_of, flattening_of, guarding_of, graphing_of, graph_reading_of, replay_over, replaying_of, waving_of}
use Rattle.tmr_words.specs.Line.{hardening_with, hardening_as, hardening_of, certifying_with, certifying_of, sweeping_of, campaigning_of, picturing_of, plain_meaning, file_meaning, meaning_of, line_of}

pub all_said : (limits : Limits) (form : Form) (words : Words) (size version most : ℕ) → said positive_number 64 words.sizes ≡ Some size → said version_number 1 words.versions ≡ Some version → said positive_number 4294967295 words.depths ≡ Some most → hardening_as limits form words ≡ hardening_with limits form size version most words.plain
unfolding hardening_as
all_said limits form words size version most one two three = rw (one, two, three) refl

-- ---- files that are saved have names of their own

-- a hardening saves under two names, and a certificate that is found has the name of neither design
abbrev NamesApart : Command → Type 0
NamesApart (Harden w) = w.hardened ≢ w.certificate
NamesApart (Certify w) = (w.certificate ≢ w.original) × (w.certificate ≢ w.hardened)
NamesApart (Validate p) = Unit {0}
NamesApart (Flatten f) = Unit {0}
NamesApart (Replay w) = Unit {0}
NamesApart (Report p) = Unit {0}
NamesApart (TryOut t) = Unit {0}
NamesApart (Guard w) = Unit {0}
NamesApart (CheckGuard w) = Unit {0}
NamesApart (WriteGraph w) = Unit {0}
NamesApart (ReadGraph w) = Unit {0}
NamesApart (Exposure p) = Unit {0}
NamesApart (Sweep w) = Unit {0}
NamesApart (Explain p) = Unit {0}
NamesApart (Campaign w) = Unit {0}
NamesApart (Picture w) = Unit {0}
NamesApart (Help t) = Unit {0}
NamesApart Version = Unit {0}

abbrev Keeps : Option Command → Type 0
Keeps None = Unit {0}
Keeps (Some c) = NamesApart c

choice : (b : Bool) (x y : Option Command) → Keeps x → Keeps y → Keeps (cond b x y)
choice true x y one other = one
choice false x y one other = other

mapped : {A : Type 0} (C : A → Command) → ((a : A) → NamesApart (C a)) → (o : Option A) → Keeps (option_map C o)
mapped C each None = tt
mapped C each (Some a) = each a

flattening_keeps : (limits : Limits) (words : List (List ℕ)) → Keeps (flattening_of limits words)
unfolding flattening_of
flattening_keeps limits [] = tt
flattening_keeps limits (a ∷ []) = tt
flattening_keeps limits (a ∷ b ∷ []) = choice (is_file a && is_file b) _ _ tt tt
flattening_keeps limits (a ∷ b ∷ c ∷ words) = tt

graphing_keeps : (limits : Limits) (words : List (List ℕ)) → Keeps (graphing_of limits words)
unfolding graphing_of
graphing_keeps limits [] = tt
graphing_keeps limits (a ∷ []) = tt
graphing_keeps limits (a ∷ b ∷ []) = choice (is_file a && is_file b) _ _ tt tt
graphing_keeps limits (a ∷ b ∷ c ∷ words) = tt

graph_reading_keeps : (limits : Limits) (words : List (List ℕ)) → Keeps (graph_reading_of limits words)
unfolding graph_reading_of
graph_reading_keeps limits [] = tt
graph_reading_keeps limits (a ∷ []) = tt
graph_reading_keeps limits (a ∷ b ∷ []) = choice (is_file a && is_file b) _ _ tt tt
graph_reading_keeps limits (a ∷ b ∷ c ∷ words) = tt

version_keeps : (words : List (List ℕ)) → Keeps (version_of words)
version_keeps [] = tt
version_keeps (word ∷ words) = tt

replay_keeps : (pair : Option Pair) (schedule : List ℕ) (waves : Option (List ℕ)) → Keeps (replay_over pair schedule waves)
replay_keeps None schedule waves = tt
replay_keeps (Some pair) schedule waves = choice (is_file schedule) _ _ tt tt

replaying_keeps : (limits : Limits) (words : List (List ℕ)) → Keeps (replaying_of limits words)
unfolding replaying_of
replaying_keeps limits [] = tt
replaying_keeps limits (a ∷ []) = tt
replaying_keeps limits (a ∷ b ∷ []) = tt
replaying_keeps limits (a ∷ b ∷ c ∷ []) = tt
replaying_keeps limits (a ∷ b ∷ c ∷ d ∷ []) = replay_keeps (pair_named limits (a ∷ b ∷ c ∷ [])) d None
replaying_keeps limits (a ∷ b ∷ c ∷ d ∷ e ∷ words) = tt

waving_keeps : (limits : Limits) (words : List (List ℕ)) → Keeps (waving_of limits words)
unfolding waving_of
waving_keeps limits [] = tt
waving_keeps limits (a ∷ []) = tt
waving_keeps limits (a ∷ b ∷ []) = tt
waving_keeps limits (a ∷ b ∷ c ∷ []) = tt
waving_keeps limits (a ∷ b ∷ c ∷ d ∷ []) = tt
waving_keeps limits (a ∷ b ∷ c ∷ d ∷ e ∷ []) = choice (is_file e) _ _ (replay_keeps (pair_named limits (a ∷ b ∷ c ∷ [])) d (Some e)) tt
waving_keeps limits (a ∷ b ∷ c ∷ d ∷ e ∷ f ∷ words) = tt

first_of : (x y : Bool) → (x && y) ≡ true → x ≡ true
first_of true y e = refl
first_of false y e = absurd cc

last_of : (x y : Bool) → (x && y) ≡ true → y ≡ true
last_of true y e = e
last_of false y e = absurd cc

not_same : (b : Bool) → not b ≡ true → b ≡ true → ⊥
not_same true e f = absurd cc
not_same false e f = absurd cc

-- two texts of which the test says that they differ
differ : (a b : List ℕ) → not (bytes_eq a b) ≡ true → a ≢ b
differ a b e same = not_same (bytes_eq a b) e (eq_true a b same)

-- ---- hardening

made_keeps : (limits : Limits) (form : Form) (size version most : ℕ) (a b c : List ℕ) (test : Bool) → (test ≡ true → b ≢ c) → Keeps (cond test (Some (Harden (record { original = a; hardened = b; certificate = c; form = form; size = size; version = version; most = most; limits = limits }))) None)
made_keeps limits form size version most a b c false apart = tt
made_keeps limits form size version most a b c true apart = apart refl

with_keeps : (limits : Limits) (form : Form) (size version most : ℕ) (words : List (List ℕ)) → Keeps (hardening_with limits form size version most words)
unfolding hardening_with
with_keeps limits form size version most [] = tt
with_keeps limits form size version most (a ∷ []) = tt
with_keeps limits form size version most (a ∷ b ∷ []) = tt
with_keeps limits form size version most (a ∷ b ∷ c ∷ []) =
    made_keeps limits form size version most a b c (is_file a && is_file b && is_file c && not (bytes_eq b c))
    (λ test. differ b c (last_of (is_file a && is_file b && is_file c) (not (bytes_eq b c)) test))
with_keeps limits form size version most (a ∷ b ∷ c ∷ d ∷ words) = tt

form_keeps : (limits : Limits) (form : Form) (words : Words) → Keeps (hardening_as limits form words)
unfolding hardening_as
form_keeps limits form words = by_size (said positive_number 64 words.sizes)
  where
    by_most : (size version : ℕ) (o : Option ℕ) → Keeps (option_and_then (λ most. hardening_with limits form size version most words.plain) o)
    by_most size version None = tt
    by_most size version (Some most) = with_keeps limits form size version most words.plain

    by_version : (size : ℕ) (o : Option ℕ) → Keeps (option_and_then (λ version. option_and_then (λ most. hardening_with limits form size version most words.plain) (said positive_number 4294967295 words.depths)) o)
    by_version size None = tt
    by_version size (Some version) = by_most size version (said positive_number 4294967295 words.depths)

    by_size : (o : Option ℕ) → Keeps (option_and_then (λ size. option_and_then (λ version. option_and_then (λ most. hardening_with limits form size version most words.plain) (said positive_number 4294967295 words.depths)) (said version_number 1 words.versions)) o)
    by_size None = tt
    by_size (Some size) = by_version size (said version_number 1 words.versions)

hardening_keeps : (limits : Limits) (words : Words) → Keeps (hardening_of limits words)
unfolding hardening_of
hardening_keeps limits words = by_form (said form_named Plain words.forms)
  where
    by_form : (o : Option Form) → Keeps (option_and_then (λ form. hardening_as limits form words) o)
    by_form None = tt
    by_form (Some form) = form_keeps limits form words

-- ---- certifying

abbrev IsApart : Option Certifying → Type 0
IsApart None = Unit {0}
IsApart (Some w) = (w.certificate ≢ w.original) × (w.certificate ≢ w.hardened)

found_apart : (limits : Limits) (version : ℕ) (a b c : List ℕ) (test : Bool) → (test ≡ true → (c ≢ a) × (c ≢ b)) → IsApart (cond test (Some (record { original = a; hardened = b; certificate = c; version = version; limits = limits })) None)
found_apart limits version a b c false both = tt
found_apart limits version a b c true both = both refl

both_differ : (a b c : List ℕ) (files : Bool) → (files && not (bytes_eq c a) && not (bytes_eq c b)) ≡ true → (c ≢ a) × (c ≢ b)
both_differ a b c files test = (
  differ c a (last_of files (not (bytes_eq c a)) (first_of (files && not (bytes_eq c a)) (not (bytes_eq c b)) test)),
  differ c b (last_of (files && not (bytes_eq c a)) (not (bytes_eq c b)) test),
)

certify_apart : (limits : Limits) (version : ℕ) (words : List (List ℕ)) → IsApart (certifying_with limits version words)
unfolding certifying_with
certify_apart limits version [] = tt
certify_apart limits version (a ∷ []) = tt
certify_apart limits version (a ∷ b ∷ []) = tt
certify_apart limits version (a ∷ b ∷ c ∷ []) =
    found_apart limits version a b c (is_file a && is_file b && is_file c && not (bytes_eq c a) && not (bytes_eq c b))
    (both_differ a b c (is_file a && is_file b && is_file c))
certify_apart limits version (a ∷ b ∷ c ∷ d ∷ words) = tt

certifying_apart : (limits : Limits) (words : Words) → IsApart (certifying_of limits words)
unfolding certifying_of
certifying_apart limits words = go (has_versions_alone words) (said version_number 1 words.versions)
  where
    go : (b : Bool) (o : Option ℕ) → IsApart (cond b (option_and_then (λ version. certifying_with limits version words.plain) o) None)
    go false o = tt
    go true None = tt
    go true (Some version) = certify_apart limits version words.plain

found_keeps : (o : Option Certifying) → IsApart o → Keeps (option_map Certify o)
found_keeps None apart = tt
found_keeps (Some w) apart = apart

-- ---- all commands

plain_keeps : (limits : Limits) (name : Topic) (words : List (List ℕ)) → Keeps (plain_meaning limits name words)
unfolding plain_meaning
plain_keeps limits topic.Validate words = mapped Validate (λ p. tt) (pair_named limits words)
plain_keeps limits topic.Harden words = tt
plain_keeps limits topic.Flatten words = flattening_keeps limits words
plain_keeps limits topic.Replay words = replaying_keeps limits words
plain_keeps limits topic.Report words = mapped Report (λ p. tt) (pair_named limits words)
plain_keeps limits topic.Trial words = tt
plain_keeps limits topic.Guard words = mapped Guard (λ g. tt) (guarding_of limits words)
plain_keeps limits topic.CheckGuard words = mapped CheckGuard (λ g. tt) (guarding_of limits words)
plain_keeps limits topic.WriteGraph words = graphing_keeps limits words
plain_keeps limits topic.ReadGraph words = graph_reading_keeps limits words
plain_keeps limits topic.Wave words = waving_keeps limits words
plain_keeps limits topic.Certify words = tt
plain_keeps limits topic.Exposure words = mapped Exposure (λ p. tt) (pair_named limits words)
plain_keeps limits topic.Sweep words = tt
plain_keeps limits topic.Explain words = mapped Explain (λ p. tt) (pair_named limits words)
plain_keeps limits topic.Campaign words = mapped Campaign (λ w. tt) (campaigning_of limits words)
plain_keeps limits topic.Picture words = mapped Picture (λ w. tt) (picturing_of limits words)
plain_keeps limits topic.Help words = tt
plain_keeps limits topic.Version words = tt

without_options : (limits : Limits) (name : Topic) (words : Words) → Keeps (cond (has_no_options words) (plain_meaning limits name words.plain) None)
without_options limits name words = choice (has_no_options words) _ _ (plain_keeps limits name words.plain) tt

files_keep : (limits : Limits) (name : Topic) (words : Words) → Keeps (file_meaning limits name words)
unfolding file_meaning
files_keep limits topic.Validate words = without_options limits topic.Validate words
files_keep limits topic.Harden words = hardening_keeps limits words
files_keep limits topic.Flatten words = without_options limits topic.Flatten words
files_keep limits topic.Replay words = without_options limits topic.Replay words
files_keep limits topic.Report words = without_options limits topic.Report words
files_keep limits topic.Trial words = without_options limits topic.Trial words
files_keep limits topic.Guard words = without_options limits topic.Guard words
files_keep limits topic.CheckGuard words = without_options limits topic.CheckGuard words
files_keep limits topic.WriteGraph words = without_options limits topic.WriteGraph words
files_keep limits topic.ReadGraph words = without_options limits topic.ReadGraph words
files_keep limits topic.Wave words = without_options limits topic.Wave words
files_keep limits topic.Certify words = found_keeps (certifying_of limits words) (certifying_apart limits words)
files_keep limits topic.Exposure words = without_options limits topic.Exposure words
files_keep limits topic.Sweep words = mapped Sweep (λ w. tt) (sweeping_of limits words)
files_keep limits topic.Explain words = without_options limits topic.Explain words
files_keep limits topic.Campaign words = without_options limits topic.Campaign words
files_keep limits topic.Picture words = without_options limits topic.Picture words
files_keep limits topic.Help words = without_options limits topic.Help words
files_keep limits topic.Version words = without_options limits topic.Version words

with_limits : (name : Topic) (words : Words) (o : Option Limits) → Keeps (option_and_then (λ limits. file_meaning limits name words) o)
with_limits name words None = tt
with_limits name words (Some limits) = files_keep limits name words

command_keeps : (name : Topic) (words : Words) → Keeps (meaning_of name words)
unfolding meaning_of
command_keeps topic.Validate words = with_limits topic.Validate words (limits_of words)
command_keeps topic.Harden words = with_limits topic.Harden words (limits_of words)
command_keeps topic.Flatten words = with_limits topic.Flatten words (limits_of words)
command_keeps topic.Replay words = with_limits topic.Replay words (limits_of words)
command_keeps topic.Report words = with_limits topic.Report words (limits_of words)
command_keeps topic.Trial words = choice (has_plain_words_alone words) _ _ (mapped TryOut (λ t. tt) (trial_of words.plain)) tt
command_keeps topic.Guard words = with_limits topic.Guard words (limits_of words)
command_keeps topic.CheckGuard words = with_limits topic.CheckGuard words (limits_of words)
command_keeps topic.WriteGraph words = with_limits topic.WriteGraph words (limits_of words)
command_keeps topic.ReadGraph words = with_limits topic.ReadGraph words (limits_of words)
command_keeps topic.Wave words = with_limits topic.Wave words (limits_of words)
command_keeps topic.Certify words = with_limits topic.Certify words (limits_of words)
command_keeps topic.Exposure words = with_limits topic.Exposure words (limits_of words)
command_keeps topic.Sweep words = with_limits topic.Sweep words (limits_of words)
command_keeps topic.Explain words = with_limits topic.Explain words (limits_of words)
command_keeps topic.Campaign words = with_limits topic.Campaign words (limits_of words)
command_keeps topic.Picture words = with_limits topic.Picture words (limits_of words)
command_keeps topic.Help words = choice (has_plain_words_alone words) _ _ (mapped Help (λ t. tt) (help_of words.plain)) tt
command_keeps topic.Version words = choice (has_plain_words_alone words) _ _ (version_keeps words.plain) tt

line_keeps : (words : List (List ℕ)) → Keeps (line_of words)
unfolding line_of
line_keeps [] = tt
line_keeps (command ∷ words) = by_name (topic_of command)
  where
    by_words : (name : Topic) (o : Option Words) → Keeps (option_and_then (meaning_of name) o)
    by_words name None = tt
    by_words name (Some read) = command_keeps name read

    by_name : (o : Option Topic) → Keeps (option_and_then (λ name. option_and_then (meaning_of name) (words_of words)) o)
    by_name None = tt
    by_name (Some name) = by_words name (words_of words)

-- a hardening saves under two names
pub two_names : (words : List (List ℕ)) (w : Hardening) → line_of words ≡ Some (Harden w) → w.hardened ≢ w.certificate
two_names words w is = subst Keeps is (line_keeps words)

-- a certificate that is found is saved under the name of neither design
pub name_apart : (words : List (List ℕ)) (w : Certifying) → line_of words ≡ Some (Certify w) → (w.certificate ≢ w.original) × (w.certificate ≢ w.hardened)
name_apart words w is = subst Keeps is (line_keeps words)
