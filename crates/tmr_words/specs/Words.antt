-- How the words behind a command word are read.
use Rattle.std.specs.Prelude.{ℕ, ◌==◌, ◌&&◌, nat_lt, Bool, List, [], ◌∷◌, ◌++◌, map, length, take, drop, Option}
use Rattle.std.specs.Prelude.{Some, None, codes, slice_index, string_bytes, String, if◌then◌else◌}
use Rattle.std.specs.Option.{option_map}
use Rattle.std.specs.Str.{bytes_eq}
use Rattle.std.specs.declared.alloc.Global.{Global}
use Rattle.limits.specs.declared.Limits.{Limits}
use Rattle.limits.specs.declared.Limits.TheVariants.{Usual, Large}
use Rattle.tmr_words.specs.declared.words.Setting.{Setting}
use Rattle.tmr_words.specs.declared.words.Setting.TheVariants.{Size, Version, Depth, Form}

-- the words as lists of bytes
abbrev pub texts : List (String Global) → List (List ℕ)
texts words = map string_bytes words

-- the plain words, the values that the options are given: `--size`, `--cert`, `--depth` and `--form`, and the word `--large`, as often as it stands there
pub record Words : Type 0 where
  pub plain : List (List ℕ)
  pub sizes : List (List ℕ)
  pub versions : List (List ℕ)
  pub depths : List (List ℕ)
  pub forms : List (List ℕ)
  pub larges : List (List ℕ)

abbrev pub no_words : Words
no_words = record { plain = []; sizes = []; versions = []; depths = []; forms = []; larges = [] }

abbrev pub plain_word : List ℕ → Words
plain_word word = record { plain = word ∷ []; sizes = []; versions = []; depths = []; forms = []; larges = [] }

abbrev pub large_word : List ℕ → Words
large_word word = record { plain = []; sizes = []; versions = []; depths = []; forms = []; larges = word ∷ [] }

abbrev pub given_value : Setting → List ℕ → Words
given_value Size value = record { plain = []; sizes = value ∷ []; versions = []; depths = []; forms = []; larges = [] }
given_value Version value = record { plain = []; sizes = []; versions = value ∷ []; depths = []; forms = []; larges = [] }
given_value Depth value = record { plain = []; sizes = []; versions = []; depths = value ∷ []; forms = []; larges = [] }
given_value Form value = record { plain = []; sizes = []; versions = []; depths = []; forms = value ∷ []; larges = [] }

-- these, and behind them those
abbrev pub both : Words → Words → Words
both these those = record {
  plain = these.plain ++ those.plain;
  sizes = these.sizes ++ those.sizes;
  versions = these.versions ++ those.versions;
  depths = these.depths ++ those.depths;
  forms = these.forms ++ those.forms;
  larges = these.larges ++ those.larges;
}

-- no option but `--large` is given
abbrev pub has_no_options : Words → Bool
has_no_options words = length words.sizes == 0 && length words.versions == 0 && length words.depths == 0 && length words.forms == 0

-- no option is given, and no `--large`
abbrev pub has_plain_words_alone : Words → Bool
has_plain_words_alone words = has_no_options words && length words.larges == 0

-- no option but `--cert` and `--large` is given
abbrev pub has_versions_alone : Words → Bool
has_versions_alone words = length words.sizes == 0 && length words.depths == 0 && length words.forms == 0

-- `--size` is not given
abbrev pub has_no_sizes : Words → Bool
has_no_sizes words = length words.sizes == 0

-- The limits that hold: without `--large` the usual ones, and with it the large ones. It stands at most once.
abbrev pub limits_asked : List (List ℕ) → Option Limits
limits_asked [] = Some Usual
limits_asked (large ∷ []) = Some Large
limits_asked (large ∷ again ∷ larges) = None

abbrev pub limits_of : Words → Option Limits
limits_of words = limits_asked words.larges

-- how an option is written
abbrev pub setting_text : Setting → List ℕ
setting_text Size = codes "--size"
setting_text Version = codes "--cert"
setting_text Depth = codes "--depth"
setting_text Form = codes "--form"

-- the same with `=` behind it
abbrev pub equals_text : Setting → List ℕ
equals_text Size = codes "--size="
equals_text Version = codes "--cert="
equals_text Depth = codes "--depth="
equals_text Form = codes "--form="

abbrev pub begins_with : List ℕ → List ℕ → Bool
begins_with start word = bytes_eq (take (length start) word) start

-- it begins with `-`
abbrev pub has_dash : List ℕ → Bool
has_dash word = slice_index word 0 == 45

-- a word of two or more bytes that begins with `-`
abbrev pub is_option : List ℕ → Bool
is_option word = nat_lt 1 (length word) && has_dash word

-- What a word before the first `--` is: an option whose value is the next word, or what it adds by itself, or a word that cannot stand there.
pub data Kind : Type 0 where
  Awaits : Setting → Kind
  Adds : Words → Kind
  Unknown : Kind

-- `--size` has its value in the next word, and `--size=VALUE` has it with it; so it is for each option
abbrev pub as_option : Setting → List ℕ → Kind → Kind
as_option setting word otherwise =
    if bytes_eq word (setting_text setting) then Awaits setting
    else if begins_with (equals_text setting) word then Adds (given_value setting (drop (length (equals_text setting)) word))
    else otherwise

-- `--large` has no value, and says by itself what it says
abbrev pub as_large : List ℕ → Kind → Kind
as_large word otherwise = if bytes_eq word (codes "--large") then Adds (large_word word) else otherwise

-- one of the four options that have a value, or `--large`, or a plain word
unfoldable pub kind : List ℕ → Kind
kind word =
    if is_option word
    then as_option Size word (as_option Version word (as_option Depth word (as_option Form word (as_large word Unknown))))
    else Adds (plain_word word)

-- The value of an option that awaits it. It does not begin with `-`.
abbrev pub value_in : Setting → List ℕ → Option Words
value_in setting word = if has_dash word then None else Some (given_value setting word)

-- these words and those behind them, where all can stand where they do
abbrev pub joined : Option Words → Option Words → Option Words
joined None behind = None
joined (Some these) behind = option_map (both these) behind

-- a last word, which awaits nothing
abbrev pub last_word : Kind → Option Words
last_word (Awaits setting) = None
last_word (Adds these) = Some these
last_word Unknown = None

-- A word, the word behind it, what is behind both, and what is behind the first.
abbrev pub first_words : Kind → List ℕ → Option Words → Option Words → Option Words
first_words (Awaits setting) value behind_both behind = joined (value_in setting value) behind_both
first_words (Adds these) next behind_both behind = joined (Some these) behind
first_words Unknown next behind_both behind = None

-- words among which there is no `--`
unfoldable pub mixed_words : List (List ℕ) → Option Words
mixed_words [] = Some no_words
mixed_words (word ∷ []) = last_word (kind word)
mixed_words (word ∷ next ∷ words) = first_words (kind word) next (mixed_words words) (mixed_words (next ∷ words))

abbrev pub is_dashes : List ℕ → Bool
is_dashes word = bytes_eq word (codes "--")

-- the words before the first `--`, or all
unfoldable pub before_dashes : List (List ℕ) → List (List ℕ)
before_dashes [] = []
before_dashes (word ∷ words) = if is_dashes word then [] else word ∷ before_dashes words

-- the words behind the first `--`, or none
unfoldable pub behind_dashes : List (List ℕ) → List (List ℕ)
behind_dashes [] = []
behind_dashes (word ∷ words) = if is_dashes word then words else behind_dashes words

abbrev pub plain_words : List (List ℕ) → Words
plain_words words = record { plain = words; sizes = []; versions = []; depths = []; forms = []; larges = [] }

-- The words behind a command word. Before the first `--` options and plain words are mixed. Behind it all words are plain.
abbrev pub words_of : List (List ℕ) → Option Words
words_of words = joined (mixed_words (before_dashes words)) (Some (plain_words (behind_dashes words)))
