-- Words, one after the other.
use Rattle.std.proofs.Common.{◌≡◌, ℕ, ◌+◌, ◌<◌, ◌≤◌, List, [], ◌∷◌, length, drop, get_or, Option, Some, None, refl, sym, ap, ◌∙◌, append_assoc, add-one, drop-cons, arith}
use Rattle.std.specs.Prelude.{string_bytes, String}
use Rattle.std.specs.Option.{option_map, option_and_then}
use Rattle.std.specs.declared.alloc.Global.{Global}
use Rattle.std.proofs.lemmas.List.{nil_from_length, length-drop, append-nil}
use Rattle.tmr_words.specs.declared.words.Mode.{Mode}
use Rattle.tmr_words.specs.Words.{texts, Words, no_words, both}
use Rattle.tmr_words.specs.Private.WordByWord.{Taken, take_word, at_end, words_from}

-- these words, and behind them what is still to be read
abbrev pub behind : Words → Option Words → Option Words
behind done rest = option_map (both done) rest

pub both_assoc : (a b c : Words) → both (both a b) c ≡ both a (both b c)
both_assoc a b c = rw (append_assoc a.plain b.plain c.plain, append_assoc a.sizes b.sizes c.sizes, append_assoc a.versions b.versions c.versions, append_assoc a.depths b.depths c.depths, append_assoc a.forms b.forms c.forms, append_assoc a.larges b.larges c.larges) refl

pub both_none : (a : Words) → both a no_words ≡ a
both_none a = rw (append-nil a.plain, append-nil a.sizes, append-nil a.versions, append-nil a.depths, append-nil a.forms, append-nil a.larges) refl

one_more : (done adds : Words) (rest : Option Words) → behind done (option_map (both adds) rest) ≡ behind (both done adds) rest
one_more done adds None = refl
one_more done adds (Some words) = ap Some (sym (both_assoc done adds words))

next : (i : ℕ) (words : List (String Global)) (d : String Global) → i < length words → texts (drop i words) ≡ string_bytes (get_or words i d) ∷ texts (drop (i + 1) words)
next i words d h = ap texts (let e : drop i words ≡ get_or words i d ∷ drop (i + 1) words = rw (add-one, drop-cons words i d) refl in e)

all_done : (i : ℕ) (words : List (String Global)) → length words ≤ i → texts (drop i words) ≡ []
all_done i words h = ap texts (nil_from_length (drop i words) (omega (arith, length-drop i words)))

pub step : (mode : Mode) (word : List ℕ) (rest : List (List ℕ)) → words_from mode (word ∷ rest) ≡ option_and_then (λ taken. option_map (both taken.adds) (words_from taken.next rest)) (take_word mode word)
unfolding words_from
step mode word rest = refl

pub at_last : (mode : Mode) → words_from mode [] ≡ at_end mode
unfolding words_from
at_last mode = refl

module _ (mode : Mode) (done : Words) (i : ℕ) (words : List (String Global)) (d : String Global) (word : List ℕ) (whole : Option Words) (within : i < length words) (is : word ≡ string_bytes (get_or words i d)) (so_far : behind done (words_from mode (texts (drop i words))) ≡ whole) where
  left : texts (drop i words) ≡ word ∷ texts (drop (i + 1) words)
  left = next i words d within ∙ ap (λ (w : List ℕ). w ∷ texts (drop (i + 1) words)) (sym is)

  here : behind done (option_and_then (λ taken. option_map (both taken.adds) (words_from taken.next (texts (drop (i + 1) words)))) (take_word mode word)) ≡ whole
  here = ap (behind done) (sym (step mode word (texts (drop (i + 1) words)))) ∙ (ap (λ (ws : List (List ℕ)). behind done (words_from mode ws)) (sym left) ∙ so_far)

  -- a word that cannot stand there
  pub at_none : None ≡ take_word mode word → None ≡ whole
  at_none e = ap (λ (t : Option Taken). behind done (option_and_then (λ taken. option_map (both taken.adds) (words_from taken.next (texts (drop (i + 1) words)))) t)) e ∙ here

  -- a word that adds this
  pub after_word : (adds : Words) (then : Mode) → Some (record { adds = adds; next = then }) ≡ take_word mode word → behind (both done adds) (words_from then (texts (drop (i + 1) words))) ≡ whole
  after_word adds then e = sym (one_more done adds (words_from then (texts (drop (i + 1) words)))) ∙ (ap (λ (t : Option Taken). behind done (option_and_then (λ taken. option_map (both taken.adds) (words_from taken.next (texts (drop (i + 1) words)))) t)) e ∙ here)

-- all words are read
pub no_more_words : (mode : Mode) (done : Words) (i : ℕ) (words : List (String Global)) (whole : Option Words) → length words ≤ i → behind done (words_from mode (texts (drop i words))) ≡ whole → behind done (at_end mode) ≡ whole
no_more_words mode done i words whole h e =
    sym (ap (λ (ws : List (List ℕ)). behind done (words_from mode ws)) (all_done i words h) ∙ ap (behind done) (at_last mode)) ∙ e

pub ruleset ends = (both_none)
