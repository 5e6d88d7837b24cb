-- How the words behind a command word are read, one after the other.
use Rattle.std.specs.Prelude.{ℕ, List, [], ◌∷◌, length, drop, Option, Some, None, codes, if◌then◌else◌}
use Rattle.std.specs.Option.{option_map, option_and_then}
use Rattle.std.specs.Str.{bytes_eq}
use Rattle.tmr_words.specs.declared.words.Setting.{Setting}
use Rattle.tmr_words.specs.declared.words.Setting.TheVariants.{Size, Version, Depth, Form}
use Rattle.tmr_words.specs.declared.words.Mode.{Mode}
use Rattle.tmr_words.specs.declared.words.Mode.TheVariants.{Options, Value, Plain}
use Rattle.tmr_words.specs.Words.{Words, no_words, plain_word, large_word, given_value, both, setting_text, equals_text, begins_with, has_dash, is_option}

-- what a word adds to those that are read, and how the next word is read
pub record Taken : Type 0 where
  pub adds : Words
  pub next : Mode

-- `--size` waits for the next word, which is its value, and `--size=VALUE` has its value; so it is for each option
abbrev pub take_setting : Setting → List ℕ → Option Taken → Option Taken
take_setting setting word otherwise =
    if bytes_eq word (setting_text setting) then Some (record { adds = no_words; next = Value setting })
    else if begins_with (equals_text setting) word then Some (record { adds = given_value setting (drop (length (equals_text setting)) word); next = Options })
    else otherwise

-- `--large` adds itself
abbrev pub take_large : List ℕ → Option Taken → Option Taken
take_large word otherwise = if bytes_eq word (codes "--large") then Some (record { adds = large_word word; next = Options }) else otherwise

-- one of the four options, or `--large`
unfoldable pub take_option : List ℕ → Option Taken
take_option word = take_setting Size word (take_setting Version word (take_setting Depth word (take_setting Form word (take_large word None))))

-- Before the first `--` a word may be an option, or the value that the option before it waits for, which does not begin with `-`. That
-- `--` adds nothing, and behind it all words are plain.
unfoldable pub take_word : Mode → List ℕ → Option Taken
take_word Plain word = Some (record { adds = plain_word word; next = Plain })
take_word (Value setting) word = if has_dash word then None else Some (record { adds = given_value setting word; next = Options })
take_word Options word =
    if bytes_eq word (codes "--") then Some (record { adds = no_words; next = Plain })
    else if is_option word then take_option word
    else Some (record { adds = plain_word word; next = Options })

-- all words are read; no option may still wait for its value
abbrev pub at_end : Mode → Option Words
at_end Options = Some no_words
at_end (Value setting) = None
at_end Plain = Some no_words

unfoldable pub words_from : Mode → List (List ℕ) → Option Words
words_from mode [] = at_end mode
words_from mode (word ∷ words) = option_and_then (λ taken. option_map (both taken.adds) (words_from taken.next words)) (take_word mode word)
