-- Lines of names are read again, word by word.
use Rattle.std.proofs.Common.{◌≡◌, ℕ, zero, suc, ◌+◌, ◌-◌, ◌<◌, Bool, true, false, List, [], ◌∷◌, ◌++◌, length, map, take, get_or, slice_get, Option, Some, refl, sym, ap, subst, ◌∙◌, append_assoc, arith}
use Rattle.std.specs.Prelude.{◌==◌, ◌&&◌, not, nat_lt, filter}
use Rattle.std.specs.List.{join_with_byte, list_all, All, slice_split, before_first, suffix_len}
use Rattle.std.specs.Option.{option_map_or}
use Rattle.std.proofs.lemmas.Bool.{ltb-true}
use Rattle.std.proofs.lemmas.Bool.Decides.{nat_tests}
use Rattle.std.proofs.lemmas.Option.{slice_get-get_or}
use Rattle.std.proofs.lemmas.List.{length-append, take_all, get_or-append-add}
use Rattle.std.proofs.lemmas.List.Elements.{All-append}
use Rattle.std.proofs.lemmas.List.Sums.{position_or_len_is, suffix_len_is}
use Rattle.std.proofs.lemmas.List.Splits.{slice_split_none, slice_split_at}
use Rattle.tmr_base.specs.Names.{is_name, is_name_byte}
use Rattle.blif_text.specs.Text.{is_line_feed, lines_of, last_byte, is_hash, without_cr, content, is_blank, trimmed, joins_next, part, joined_from, tokens, Statement, statement, spoken, statement_of, statements_of, statements}
use Rattle.blif_writer.specs.Text.{lines_text}

pub both_true : (a b : Bool) → a && b ≡ true → (a ≡ true) × (b ≡ true)
both_true true b e = (refl, e)
both_true false b e = absurd cc

not_true : (b : Bool) → not b ≡ true → b ≡ false
not_true true e = absurd cc
not_true false e = refl

other : (b c : ℕ) → c < b → (b == c) ≡ false
other b c lt = grind (arith, nat_tests)

-- a byte of a line: above the control characters, and no `#`
abbrev pub IsLineByte : ℕ → Type 0
IsLineByte b = (31 < b) × ((b == 35) ≡ false)

abbrev AreLineBytes : List ℕ → Type 0
AreLineBytes text = All IsLineByte text

above : (b : ℕ) → is_name_byte b ≡ true → 32 < b
above b e = ltb-true 32 b (both_true (nat_lt 32 b) (not (b == 127)) (both_true (nat_lt 32 b && not (b == 127)) (not (b == 35)) e).0).0

name_byte : (b : ℕ) → is_name_byte b ≡ true → IsLineByte b
name_byte b e = let up = above b e in (omega arith, not_true (b == 35) (both_true (nat_lt 32 b && not (b == 127)) (not (b == 35)) e).1)

-- all bytes may stand in a name
abbrev AreNameBytes : List ℕ → Type 0
AreNameBytes text = All (λ b. is_name_byte b ≡ true) text

name_bytes : (w : List ℕ) → list_all is_name_byte w ≡ true → AreNameBytes w
name_bytes [] e k d lt = absurd (omega arith)
name_bytes (b ∷ bs) e zero d lt = (both_true (is_name_byte b) (list_all is_name_byte bs) e).0
name_bytes (b ∷ bs) e (suc k) d lt = name_bytes bs (both_true (is_name_byte b) (list_all is_name_byte bs) e).1 k d (omega arith)

name_all : (w : List ℕ) → is_name w ≡ true → AreNameBytes w
name_all w e = name_bytes w (both_true _ (list_all is_name_byte w) e).1

name_some : (w : List ℕ) → is_name w ≡ true → 0 < length w
name_some [] e = absurd cc
name_some (b ∷ bs) e = omega arith

name_end : (w : List ℕ) → is_name w ≡ true → (last_byte w == 92) ≡ false
name_end w e =
    let some = name_some w e in
    let at : slice_get w (length w - 1) ≡ Some (get_or w (length w - 1) 0) = slice_get-get_or w (length w - 1) 0 (omega arith) in
    let first : option_map_or (λ b. not (b == 92)) (slice_get w (length w - 1)) false ≡ true = (both_true _ (list_all is_name_byte w) e).0 in
    not_true (last_byte w == 92) (ap (λ (o : Option ℕ). option_map_or (λ b. not (b == 92)) o false) (sym at) ∙ first)

-- the text of a line: it has bytes, and the last of them ends a name
record IsClean (text : List ℕ) : Type 0 where
  bytes : All IsLineByte text
  some : 0 < length text
  last : 32 < last_byte text
  plain : (last_byte text == 92) ≡ false

clean_name : (w : List ℕ) → is_name w ≡ true → IsClean w
clean_name w e =
    let all = name_all w e in
    let some = name_some w e in
    record { bytes = λ k d lt. name_byte (get_or w k d) (all k d lt); some = some; last = above (last_byte w) (all (length w - 1) 0 (omega arith)); plain = name_end w e }

blank_byte : All IsLineByte (32 ∷ [])
blank_byte zero d lt = (omega arith, refl)
blank_byte (suc k) d lt = absurd (omega arith)

last_behind : (w text : List ℕ) → 0 < length text → last_byte (w ++ 32 ∷ text) ≡ last_byte text
last_behind w text some =
    let place : length (w ++ 32 ∷ text) - 1 ≡ length w + suc (length text - 1) = omega (arith, length-append w (32 ∷ text)) in
    ap (λ (k : ℕ). get_or (w ++ 32 ∷ text) k 0) place ∙ get_or-append-add w (32 ∷ text) (suc (length text - 1)) 0

clean_behind : (w text : List ℕ) → is_name w ≡ true → IsClean text → IsClean (w ++ 32 ∷ text)
clean_behind w text e c =
    let all = name_all w e in
    let same = last_behind w text c.some in
    record {
      bytes = All-append IsLineByte w (32 ∷ text) (λ k d lt. name_byte (get_or w k d) (all k d lt)) (All-append IsLineByte (32 ∷ []) text blank_byte c.bytes);
      some = omega (arith, length-append w (32 ∷ text));
      last = subst (λ (b : ℕ). 32 < b) (sym same) c.last;
      plain = ap (λ (b : ℕ). b == 92) same ∙ c.plain;
    }

-- each word is a name
abbrev pub AreNames : List (List ℕ) → Type 0
AreNames [] = Unit {0}
AreNames (w ∷ ws) = (is_name w ≡ true) × AreNames ws

-- a line has words, and each is a name
abbrev pub IsLine : List (List ℕ) → Type 0
IsLine [] = ⊥
IsLine (w ∷ ws) = (is_name w ≡ true) × AreNames ws

abbrev pub AreLines : List (List (List ℕ)) → Type 0
AreLines [] = Unit {0}
AreLines (line ∷ lines) = IsLine line × AreLines lines

pub lines_join : (xs ys : List (List (List ℕ))) → AreLines xs → AreLines ys → AreLines (xs ++ ys)
lines_join [] ys a b = b
lines_join (x ∷ xs) ys a b = (a.0, lines_join xs ys a.1 b)

pub names_join : (xs ys : List (List ℕ)) → AreNames xs → AreNames ys → AreNames (xs ++ ys)
names_join [] ys a b = b
names_join (x ∷ xs) ys a b = (a.0, names_join xs ys a.1 b)

clean_line : (w : List ℕ) (ws : List (List ℕ)) → is_name w ≡ true → AreNames ws → IsClean (join_with_byte 32 (w ∷ ws))
clean_line w [] e names = clean_name w e
clean_line w (v ∷ ws) e names = clean_behind w (join_with_byte 32 (v ∷ ws)) e (clean_line v ws names.0 names.1)

-- ---- within a line

cut_hash : (text : List ℕ) → AreLineBytes text → before_first is_hash text ≡ text
cut_hash text bytes =
    let none = position_or_len_is is_hash text (length text) 0 (omega arith) (λ k lt. (bytes k 0 lt).1) (λ lt. absurd (omega arith)) in
    ap (λ (k : ℕ). take k text) none ∙ take_all (length text) text (omega arith)

content_is : (text : List ℕ) → IsClean text → content text ≡ text
unfolding content
content_is text c =
    let no_cr : without_cr text ≡ text = rw (other (last_byte text) 13 (omega (arith, c.last))) refl in
    ap (before_first is_hash) no_cr ∙ cut_hash text c.bytes

no_blank : (b : ℕ) → 32 < b → is_blank b ≡ false
no_blank b lt = rw (other b 32 lt, other b 9 (omega arith)) refl

trimmed_is : (text : List ℕ) → IsClean text → trimmed text ≡ text
unfolding trimmed
trimmed_is text c =
    let none : suffix_len is_blank text ≡ length text - length text = suffix_len_is is_blank text (length text) 0 (omega arith) (λ k low lt. absurd (omega arith)) (λ lt. no_blank (last_byte text) c.last) in
    let whole : length text - suffix_len is_blank text ≡ length text = omega (arith, none) in
    ap (λ (k : ℕ). take k text) whole ∙ take_all (length text) text (omega arith)

ends_there : (text : List ℕ) → IsClean text → joins_next text ≡ false
unfolding joins_next
ends_there text c = ap (λ (t : List ℕ). last_byte t == 92) (ap trimmed (content_is text c) ∙ trimmed_is text c) ∙ c.plain

part_is : (text : List ℕ) → IsClean text → part text ≡ text
unfolding part
part_is text c = rw (ends_there text c) (content_is text c)

line_joined : (number : ℕ) (text : List ℕ) (rest : List (List ℕ)) → IsClean text → joined_from number (text ∷ rest) ≡ record { number = number; text = text } ∷ joined_from (number + 1) rest
unfolding joined_from
line_joined number text rest c = rw (ends_there text c, part_is text c) refl

-- ---- words

name_blanks : (w : List ℕ) → is_name w ≡ true → All (λ b. is_blank b ≡ false) w
name_blanks w e = λ k d lt. no_blank (get_or w k d) (above (get_or w k d) (name_all w e k d lt))

split_again : (w : List ℕ) (ws : List (List ℕ)) → is_name w ≡ true → AreNames ws → slice_split is_blank (join_with_byte 32 (w ∷ ws)) ≡ w ∷ ws
split_again w [] e names = slice_split_none is_blank w (name_blanks w e)
split_again w (v ∷ ws) e names = slice_split_at is_blank w 32 (join_with_byte 32 (v ∷ ws)) (name_blanks w e) refl ∙ ap (λ (t : List (List ℕ)). w ∷ t) (split_again v ws names.0 names.1)

name_full : (w : List ℕ) → is_name w ≡ true → not (length w == 0) ≡ true
name_full w e = ap not (other (length w) 0 (name_some w e))

all_full : (ws : List (List ℕ)) → AreNames ws → filter (λ token. not (length token == 0)) ws ≡ ws
all_full [] names = refl
all_full (w ∷ ws) names = rw (name_full w names.0) (ap (λ (t : List (List ℕ)). w ∷ t) (all_full ws names.1))

tokens_again : (w : List ℕ) (ws : List (List ℕ)) → is_name w ≡ true → AreNames ws → tokens (join_with_byte 32 (w ∷ ws)) ≡ w ∷ ws
unfolding tokens
tokens_again w ws e names = ap (filter (λ token. not (length token == 0))) (split_again w ws e names) ∙ all_full (w ∷ ws) (e, names)

-- ---- lines

line_feeds : (text : List ℕ) → AreLineBytes text → All (λ b. is_line_feed b ≡ false) text
line_feeds text bytes = λ k d lt. let up = (bytes k d lt).0 in other (get_or text k d) 10 (omega arith)

pub lines_again : (ls : List (List (List ℕ))) → AreLines ls → lines_of (lines_text ls) ≡ map (join_with_byte 32) ls ++ [] ∷ []
lines_again [] ok = refl
lines_again ([] ∷ ls) ok = absurd ok.0
lines_again ((w ∷ ws) ∷ ls) ok =
    let text : List ℕ = join_with_byte 32 (w ∷ ws) in
    let clean = clean_line w ws ok.0.0 ok.0.1 in
    ap lines_of (append_assoc text (10 ∷ []) (lines_text ls)) ∙ (slice_split_at is_line_feed text 10 (lines_text ls) (line_feeds text clean.bytes) refl ∙ ap (λ (t : List (List ℕ)). text ∷ t) (lines_again ls ok.1))

-- the statements of lines of words, of which the first has this number
abbrev pub numbered : ℕ → List (List (List ℕ)) → List Statement
numbered number [] = []
numbered number ([] ∷ ls) = numbered (number + 1) ls
numbered number ((w ∷ ws) ∷ ls) = statement number w ws ∷ numbered (number + 1) ls

none_behind : (number : ℕ) → statements_of (joined_from number ([] ∷ [] ∷ [])) ≡ []
unfolding content trimmed joins_next part joined_from tokens spoken statement_of
none_behind number = refl

spoken_again : (number : ℕ) (w : List ℕ) (ws : List (List ℕ)) → is_name w ≡ true → AreNames ws → statement_of (record { number = number; text = join_with_byte 32 (w ∷ ws) }) ≡ statement number w ws ∷ []
unfolding statement_of spoken
spoken_again number w ws e names = ap (spoken number) (tokens_again w ws e names)

statements_from : (number : ℕ) (ls : List (List (List ℕ))) → AreLines ls → statements_of (joined_from number (map (join_with_byte 32) ls ++ [] ∷ [] ∷ [])) ≡ numbered number ls
statements_from number [] ok = none_behind number
statements_from number ([] ∷ ls) ok = absurd ok.0
statements_from number ((w ∷ ws) ∷ ls) ok =
    let rest : List (List ℕ) = map (join_with_byte 32) ls ++ [] ∷ [] ∷ [] in
    ap statements_of (line_joined number (join_with_byte 32 (w ∷ ws)) rest (clean_line w ws ok.0.0 ok.0.1))
    ∙ (ap (λ (ss : List Statement). ss ++ statements_of (joined_from (number + 1) rest)) (spoken_again number w ws ok.0.0 ok.0.1)
    ∙ ap (λ (ss : List Statement). statement number w ws ∷ ss) (statements_from (number + 1) ls ok.1))

-- a text of lines of names has these statements
pub statements_again : (ls : List (List (List ℕ))) → AreLines ls → statements (lines_text ls) ≡ numbered 1 ls
unfolding statements
statements_again ls ok =
    let all : lines_of (lines_text ls) ++ [] ∷ [] ≡ map (join_with_byte 32) ls ++ [] ∷ [] ∷ [] = ap (λ (ts : List (List ℕ)). ts ++ [] ∷ []) (lines_again ls ok) ∙ append_assoc (map (join_with_byte 32) ls) ([] ∷ []) ([] ∷ []) in
    ap (λ (ts : List (List ℕ)). statements_of (joined_from 1 ts)) all ∙ statements_from 1 ls ok
