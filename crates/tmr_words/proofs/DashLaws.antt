-- Words read one after the other are those that the first `--` divides.
use Rattle.std.proofs.Common.{◌≡◌, ℕ, Bool, true, false, cond, List, [], ◌∷◌, length, drop, Option, Some, None, refl, sym, ap, subst, ◌∙◌}
use Rattle.std.specs.Prelude.{codes}
use Rattle.std.specs.Option.{option_map, option_and_then}
use Rattle.std.specs.Str.{bytes_eq}
use Rattle.std.proofs.lemmas.Slice.Eq.{bytes_eq-Decides}
use Rattle.tmr_words.specs.declared.words.Setting.{Setting}
use Rattle.tmr_words.specs.declared.words.Setting.TheVariants.{Size, Version, Depth, Form}
use Rattle.tmr_words.specs.declared.words.Mode.{Mode}
use Rattle.tmr_words.specs.declared.words.Mode.TheVariants.{Options, Value, Plain}
use Rattle.tmr_words.specs.Words.{Words, no_words, plain_word, large_word, given_value, both, setting_text, equals_text, begins_with, has_dash, is_option}
use Rattle.tmr_words.specs.Words.{Kind, Awaits, Adds, Unknown, as_option, as_large, kind, value_in, joined, last_word, first_words, mixed_words, is_dashes, before_dashes, behind_dashes, plain_words, words_of}
use Rattle.tmr_words.specs.Private.WordByWord.{Taken, take_setting, take_large, take_option, take_word, words_from}
use Rattle.tmr_words.proofs.WordLaws.{both_assoc, both_none, step, at_last}

-- what a word of this kind adds, and how the next one is read
abbrev taken_of : Kind → Option Taken
taken_of (Awaits setting) = Some (record { adds = no_words; next = Value setting })
taken_of (Adds these) = Some (record { adds = these; next = Options })
taken_of Unknown = None

chosen : (a b : Bool) (setting : Setting) (these : Words) (otherwise : Kind) → cond a (Some (record { adds = no_words; next = Value setting })) (cond b (Some (record { adds = these; next = Options })) (taken_of otherwise)) ≡ taken_of (cond a (Awaits setting) (cond b (Adds these) otherwise))
chosen true b setting these otherwise = refl
chosen false true setting these otherwise = refl
chosen false false setting these otherwise = refl

setting_taken : (setting : Setting) (word : List ℕ) (otherwise : Kind) → take_setting setting word (taken_of otherwise) ≡ taken_of (as_option setting word otherwise)
setting_taken setting word otherwise = chosen (bytes_eq word (setting_text setting)) (begins_with (equals_text setting) word) setting (given_value setting (drop (length (equals_text setting)) word)) otherwise

large_chosen : (b : Bool) (these : Words) (otherwise : Kind) → cond b (Some (record { adds = these; next = Options })) (taken_of otherwise) ≡ taken_of (cond b (Adds these) otherwise)
large_chosen true these otherwise = refl
large_chosen false these otherwise = refl

large_taken : (word : List ℕ) (otherwise : Kind) → take_large word (taken_of otherwise) ≡ taken_of (as_large word otherwise)
large_taken word otherwise = large_chosen (bytes_eq word (codes "--large")) (large_word word) otherwise

option_taken : (word : List ℕ) → take_option word ≡ taken_of (as_option Size word (as_option Version word (as_option Depth word (as_option Form word (as_large word Unknown)))))
unfolding take_option
option_taken word =
    ap (λ (t : Option Taken). take_setting Size word (take_setting Version word (take_setting Depth word (take_setting Form word t)))) (large_taken word Unknown)
    ∙ (ap (λ (t : Option Taken). take_setting Size word (take_setting Version word (take_setting Depth word t))) (setting_taken Form word (as_large word Unknown))
    ∙ (ap (λ (t : Option Taken). take_setting Size word (take_setting Version word t)) (setting_taken Depth word (as_option Form word (as_large word Unknown)))
    ∙ (ap (λ (t : Option Taken). take_setting Size word t) (setting_taken Version word (as_option Depth word (as_option Form word (as_large word Unknown))))
    ∙ setting_taken Size word (as_option Version word (as_option Depth word (as_option Form word (as_large word Unknown)))))))

either : (b : Bool) (k : Kind) (these : Words) (t : Option Taken) → t ≡ taken_of k → cond b t (Some (record { adds = these; next = Options })) ≡ taken_of (cond b k (Adds these))
either true k these t e = e
either false k these t e = refl

-- a word that is no `--`
mixed_taken : (word : List ℕ) → is_dashes word ≡ false → take_word Options word ≡ taken_of (kind word)
unfolding take_word kind
mixed_taken word e = rw e (either (is_option word) _ (plain_word word) (take_option word) (option_taken word))

dashes_taken : (word : List ℕ) → is_dashes word ≡ true → take_word Options word ≡ Some (record { adds = no_words; next = Plain })
unfolding take_word
dashes_taken word e = rw e refl

plain_taken : (word : List ℕ) → take_word Plain word ≡ Some (record { adds = plain_word word; next = Plain })
unfolding take_word
plain_taken word = refl

value_taken : (setting : Setting) (word : List ℕ) → take_word (Value setting) word ≡ cond (has_dash word) None (Some (record { adds = given_value setting word; next = Options }))
unfolding take_word
value_taken setting word = refl

-- what is read behind a word that is taken so
abbrev read_on : Option Taken → List (List ℕ) → Option Words
read_on taken rest = option_and_then (λ taken. option_map (both taken.adds) (words_from taken.next rest)) taken

reads_on : (mode : Mode) (word : List ℕ) (rest : List (List ℕ)) (taken : Option Taken) → take_word mode word ≡ taken → words_from mode (word ∷ rest) ≡ read_on taken rest
reads_on mode word rest taken e = step mode word rest ∙ ap (λ (t : Option Taken). read_on t rest) e

-- ---- behind `--`

all_plain : (words : List (List ℕ)) → words_from Plain words ≡ Some (plain_words words)
all_plain [] = at_last Plain
all_plain (word ∷ words) = reads_on Plain word words _ (plain_taken word) ∙ ap (option_map (both (plain_word word))) (all_plain words)

-- ---- before it

pub none_both : (o : Option Words) → option_map (both no_words) o ≡ o
none_both None = refl
none_both (Some words) = refl

join_both : (these : Words) (o : Option Words) (plain : Words) → joined (option_map (both these) o) (Some plain) ≡ option_map (both these) (joined o (Some plain))
join_both these None plain = refl
join_both these (Some words) plain = ap Some (both_assoc these words plain)

mixed_none : mixed_words [] ≡ Some no_words
unfolding mixed_words
mixed_none = refl

mixed_last : (word : List ℕ) → mixed_words (word ∷ []) ≡ last_word (kind word)
unfolding mixed_words
mixed_last word = refl

mixed_first : (word next : List ℕ) (words : List (List ℕ)) → mixed_words (word ∷ next ∷ words) ≡ first_words (kind word) next (mixed_words words) (mixed_words (next ∷ words))
unfolding mixed_words
mixed_first word next words = refl

mixed_adds : (word : List ℕ) (these : Words) (words : List (List ℕ)) → kind word ≡ Adds these → mixed_words (word ∷ words) ≡ option_map (both these) (mixed_words words)
mixed_adds word these [] e = mixed_last word ∙ (ap last_word e ∙ (sym (ap Some (both_none these)) ∙ sym (ap (option_map (both these)) mixed_none)))
mixed_adds word these (next ∷ words) e = mixed_first word next words ∙ ap (λ (k : Kind). first_words k next (mixed_words words) (mixed_words (next ∷ words))) e

mixed_unknown : (word : List ℕ) (words : List (List ℕ)) → kind word ≡ Unknown → mixed_words (word ∷ words) ≡ None
mixed_unknown word [] e = mixed_last word ∙ ap last_word e
mixed_unknown word (next ∷ words) e = mixed_first word next words ∙ ap (λ (k : Kind). first_words k next (mixed_words words) (mixed_words (next ∷ words))) e

mixed_awaits : (word : List ℕ) (setting : Setting) (next : List ℕ) (words : List (List ℕ)) → kind word ≡ Awaits setting → mixed_words (word ∷ next ∷ words) ≡ joined (value_in setting next) (mixed_words words)
mixed_awaits word setting next words e = mixed_first word next words ∙ ap (λ (k : Kind). first_words k next (mixed_words words) (mixed_words (next ∷ words))) e

before_here : (word : List ℕ) (words : List (List ℕ)) → is_dashes word ≡ true → before_dashes (word ∷ words) ≡ []
unfolding before_dashes
before_here word words e = rw e refl

before_later : (word : List ℕ) (words : List (List ℕ)) → is_dashes word ≡ false → before_dashes (word ∷ words) ≡ word ∷ before_dashes words
unfolding before_dashes
before_later word words e = rw e refl

behind_here : (word : List ℕ) (words : List (List ℕ)) → is_dashes word ≡ true → behind_dashes (word ∷ words) ≡ words
unfolding behind_dashes
behind_here word words e = rw e refl

behind_later : (word : List ℕ) (words : List (List ℕ)) → is_dashes word ≡ false → behind_dashes (word ∷ words) ≡ behind_dashes words
unfolding behind_dashes
behind_later word words e = rw e refl

of_none : words_of [] ≡ Some no_words
unfolding mixed_words before_dashes behind_dashes
of_none = refl

of_dashes : (word : List ℕ) (words : List (List ℕ)) → is_dashes word ≡ true → words_of (word ∷ words) ≡ Some (plain_words words)
of_dashes word words e = rw (before_here word words e, behind_here word words e, mixed_none) refl

of_mixed : (word : List ℕ) (words : List (List ℕ)) → is_dashes word ≡ false → words_of (word ∷ words) ≡ joined (mixed_words (word ∷ before_dashes words)) (Some (plain_words (behind_dashes words)))
of_mixed word words e = rw (before_later word words e, behind_later word words e) refl

-- the text `--` begins with `-`
dashes_dash : (word : List ℕ) → has_dash word ≡ false → is_dashes word ≡ false
dashes_dash word e = go (is_dashes word) refl where
  go : (b : Bool) → is_dashes word ≡ b → b ≡ false
  go false h = refl
  go true h = subst (λ (w : List ℕ). has_dash w ≡ false) ((bytes_eq-Decides word (codes "--")).0 h) e

module _ (word : List ℕ) (rest : List (List ℕ)) (mixed : is_dashes word ≡ false) where
  adds : (these : Words) → kind word ≡ Adds these → words_from Options rest ≡ words_of rest → words_from Options (word ∷ rest) ≡ words_of (word ∷ rest)
  adds these e ih =
      reads_on Options word rest _ (mixed_taken word mixed ∙ ap taken_of e)
      ∙ (ap (option_map (both these)) ih
      ∙ (sym (join_both these (mixed_words (before_dashes rest)) (plain_words (behind_dashes rest)))
      ∙ (ap (λ (o : Option Words). joined o (Some (plain_words (behind_dashes rest)))) (sym (mixed_adds word these (before_dashes rest) e))
      ∙ sym (of_mixed word rest mixed))))

  unknown : kind word ≡ Unknown → words_from Options (word ∷ rest) ≡ words_of (word ∷ rest)
  unknown e =
      reads_on Options word rest _ (mixed_taken word mixed ∙ ap taken_of e)
      ∙ (ap (λ (o : Option Words). joined o (Some (plain_words (behind_dashes rest)))) (sym (mixed_unknown word (before_dashes rest) e))
      ∙ sym (of_mixed word rest mixed))

dashes : (word : List ℕ) (rest : List (List ℕ)) → is_dashes word ≡ true → words_from Options (word ∷ rest) ≡ words_of (word ∷ rest)
dashes word rest e = reads_on Options word rest _ (dashes_taken word e) ∙ (none_both (words_from Plain rest) ∙ (all_plain rest ∙ sym (of_dashes word rest e)))

before_none : before_dashes [] ≡ []
unfolding before_dashes
before_none = refl

-- an option that awaits its value
module _ (word : List ℕ) (setting : Setting) (mixed : is_dashes word ≡ false) (e : kind word ≡ Awaits setting) where
  taken : take_word Options word ≡ Some (record { adds = no_words; next = Value setting })
  taken = mixed_taken word mixed ∙ ap taken_of e

  awaits_last : words_from Options (word ∷ []) ≡ words_of (word ∷ [])
  awaits_last =
      reads_on Options word [] _ taken
      ∙ (ap (option_map (both no_words)) (at_last (Value setting))
      ∙ (ap (λ (o : Option Words). joined o (Some (plain_words (behind_dashes [])))) (sym (ap (λ (b : List (List ℕ)). mixed_words (word ∷ b)) before_none ∙ (mixed_last word ∙ ap last_word e)))
      ∙ sym (of_mixed word [] mixed)))

  module _ (value : List ℕ) (rest : List (List ℕ)) where
    behind_word : words_from Options (word ∷ value ∷ rest) ≡ read_on (cond (has_dash value) None (Some (record { adds = given_value setting value; next = Options }))) rest
    behind_word = reads_on Options word (value ∷ rest) _ taken ∙ (none_both (words_from (Value setting) (value ∷ rest)) ∙ reads_on (Value setting) value rest _ (value_taken setting value))

    nothing : mixed_words (word ∷ before_dashes (value ∷ rest)) ≡ None → words_of (word ∷ value ∷ rest) ≡ None
    nothing h = of_mixed word (value ∷ rest) mixed ∙ ap (λ (o : Option Words). joined o (Some (plain_words (behind_dashes (value ∷ rest))))) h

    with_dash : has_dash value ≡ true → (b : Bool) → is_dashes value ≡ b → words_of (word ∷ value ∷ rest) ≡ None
    with_dash h true d = nothing (ap (λ (b : List (List ℕ)). mixed_words (word ∷ b)) (before_here value rest d) ∙ (mixed_last word ∙ ap last_word e))
    with_dash h false d = nothing (ap (λ (b : List (List ℕ)). mixed_words (word ∷ b)) (before_later value rest d) ∙ (mixed_awaits word setting value (before_dashes rest) e ∙ ap (λ (b : Bool). joined (cond b None (Some (given_value setting value))) (mixed_words (before_dashes rest))) h))

    these_words : has_dash value ≡ false → words_of (word ∷ value ∷ rest) ≡ option_map (both (given_value setting value)) (words_of rest)
    these_words h =
        of_mixed word (value ∷ rest) mixed
        ∙ (ap (λ (b : List (List ℕ)). joined (mixed_words (word ∷ b)) (Some (plain_words (behind_dashes (value ∷ rest))))) (before_later value rest (dashes_dash value h))
        ∙ (ap (λ (b : List (List ℕ)). joined (mixed_words (word ∷ value ∷ before_dashes rest)) (Some (plain_words b))) (behind_later value rest (dashes_dash value h))
        ∙ (ap (λ (o : Option Words). joined o (Some (plain_words (behind_dashes rest)))) (mixed_awaits word setting value (before_dashes rest) e ∙ ap (λ (b : Bool). joined (cond b None (Some (given_value setting value))) (mixed_words (before_dashes rest))) h)
        ∙ join_both (given_value setting value) (mixed_words (before_dashes rest)) (plain_words (behind_dashes rest)))))

    awaits_value : (b : Bool) → has_dash value ≡ b → words_from Options rest ≡ words_of rest → words_from Options (word ∷ value ∷ rest) ≡ words_of (word ∷ value ∷ rest)
    awaits_value true h ih = behind_word ∙ (ap (λ (b : Bool). read_on (cond b None (Some (record { adds = given_value setting value; next = Options }))) rest) h ∙ sym (with_dash h (is_dashes value) refl))
    awaits_value false h ih =
        behind_word
        ∙ (ap (λ (b : Bool). read_on (cond b None (Some (record { adds = given_value setting value; next = Options }))) rest) h
        ∙ (ap (option_map (both (given_value setting value))) ih ∙ sym (these_words h)))

single_of : (word : List ℕ) → is_dashes word ≡ false → (k : Kind) → kind word ≡ k → words_from Options [] ≡ words_of [] → words_from Options (word ∷ []) ≡ words_of (word ∷ [])
single_of word mixed (Awaits setting) e ih = awaits_last word setting mixed e
single_of word mixed (Adds these) e ih = adds word [] mixed these e ih
single_of word mixed Unknown e ih = unknown word [] mixed e

single : (word : List ℕ) (b : Bool) → is_dashes word ≡ b → words_from Options [] ≡ words_of [] → words_from Options (word ∷ []) ≡ words_of (word ∷ [])
single word true d ih = dashes word [] d
single word false d ih = single_of word d (kind word) refl ih

more_of : (word value : List ℕ) (rest : List (List ℕ)) → is_dashes word ≡ false → (k : Kind) → kind word ≡ k → words_from Options (value ∷ rest) ≡ words_of (value ∷ rest) → words_from Options rest ≡ words_of rest → words_from Options (word ∷ value ∷ rest) ≡ words_of (word ∷ value ∷ rest)
more_of word value rest mixed (Awaits setting) e ih under = awaits_value word setting mixed e value rest (has_dash value) refl under
more_of word value rest mixed (Adds these) e ih under = adds word (value ∷ rest) mixed these e ih
more_of word value rest mixed Unknown e ih under = unknown word (value ∷ rest) mixed e

more : (word value : List ℕ) (rest : List (List ℕ)) (b : Bool) → is_dashes word ≡ b → words_from Options (value ∷ rest) ≡ words_of (value ∷ rest) → words_from Options rest ≡ words_of rest → words_from Options (word ∷ value ∷ rest) ≡ words_of (word ∷ value ∷ rest)
more word value rest true d ih under = dashes word (value ∷ rest) d
more word value rest false d ih under = more_of word value rest d (kind word) refl ih under

-- what is read word by word is what the words are
pub reads_all : (words : List (List ℕ)) → words_from Options words ≡ words_of words
reads_all [] = at_last Options ∙ sym of_none
reads_all (word ∷ []) = single word (is_dashes word) refl (reads_all [])
reads_all (word ∷ value ∷ rest) = more word value rest (is_dashes word) refl (reads_all (value ∷ rest)) (reads_all rest)
