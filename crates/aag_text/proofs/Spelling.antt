-- The text of a graph is a file of it.
use Rattle.std.proofs.Common.{◌≡◌, ℕ, zero, suc, ◌+◌, ◌*◌, ◌/◌, ◌%◌, ◌^◌, ◌<◌, ◌≤◌, ◌==◌, Bool, true, false, List, [], ◌∷◌, ◌++◌, map, length, codes, Option, Some, refl, sym, ap, ◌∙◌, arith, append_assoc, if◌then◌else◌}
use Rattle.std.specs.Prelude.{◌&&◌}
use Rattle.std.specs.List.{All, slice_split, join_with_byte}
use Rattle.std.specs.Fmt.{decimal}
use Rattle.std.specs.Char.{is_ascii_digit}
use Rattle.std.specs.Str.{all_ascii_digits}
use Rattle.std.proofs.lemmas.Bool.{lt-ltb, le-ltb, eq-eqb}
use Rattle.std.proofs.lemmas.Bool.Decides.{nat_tests}
use Rattle.std.proofs.lemmas.Fmt.{digits_decimal, decimal_digit}
use Rattle.std.proofs.lemmas.Str.Parse.{numerals_by_value, tells_all_ascii_digits}
use Rattle.std.proofs.lemmas.List.{append-nil}
use Rattle.std.proofs.lemmas.List.Elements.{All-append}
use Rattle.std.proofs.lemmas.List.Splits.{slice_split_none, slice_split_at, length-slice_split}
use Rattle.tmr_base.specs.Numbers.{number_of}
use Rattle.tmr_base.proofs.NumberLaws.{number_again, number_from}
use Rattle.aag_text.specs.declared.aig.Literal.{Literal}
use Rattle.aag_text.specs.declared.aig.Latch.{Latch}
use Rattle.aag_text.specs.declared.aig.Gate.{Gate}
use Rattle.aag_text.specs.declared.aig.Start.{Start}
use Rattle.aag_text.specs.declared.aig.Start.TheVariants.{Zero, One, Free}
use Rattle.aag_text.specs.declared.aig.Header.{Header}
use Rattle.aag_text.specs.Aig.{PlainAig, literal_number}
use Rattle.aag_text.specs.Text.{literal_word, variable_word, start_words, header_line, header, latch_line, gate_line, symbol_lines, aig_lines}
use Rattle.blif_writer.specs.Text.{lines_text}
use Rattle.aag_text.specs.Lines.{◌>>=◌, is_line_feed, is_blank, without_return, lines_from, lines_of, words_of, literal_of, literal_in, variable_in, header_of, input_of, start_named, start_of, latch_of, output_of, gate_of, symbol_count, is_below, is_symbol, AreOf, AreSymbols, IsFile}

-- ---- lines and words

-- all bytes of a word are above the blank
abbrev pub IsWord : List ℕ → Type 0
IsWord word = All (λ b. 32 < b) word

abbrev pub AreWords : List (List ℕ) → Type 0
AreWords [] = Unit {0}
AreWords (w ∷ ws) = IsWord w × AreWords ws

-- a line has words
abbrev pub IsLine : List (List ℕ) → Type 0
IsLine [] = ⊥
IsLine (w ∷ ws) = IsWord w × AreWords ws

abbrev pub AreLines : List (List (List ℕ)) → Type 0
AreLines [] = Unit {0}
AreLines (line ∷ lines) = IsLine line × AreLines lines

pub lines_join : (xs ys : List (List (List ℕ))) → AreLines xs → AreLines ys → AreLines (xs ++ ys)
lines_join [] ys a b = b
lines_join (x ∷ xs) ys a b = (a.0, lines_join xs ys a.1 b)

other : (b c : ℕ) → c < b → (b == c) ≡ false
other b c lt = grind (arith, nat_tests)

-- a piece with pieces behind it is a line
pub line_cons : (piece : List ℕ) (pieces : List (List ℕ)) → 0 < length pieces → lines_from (piece ∷ pieces) ≡ without_return piece ∷ lines_from pieces
line_cons piece [] some = absurd (omega arith)
line_cons [] (next ∷ pieces) some = refl
line_cons (b ∷ piece) (next ∷ pieces) some = refl

-- the bytes of a line are above the carriage return
line_bytes : (w : List ℕ) (ws : List (List ℕ)) → IsWord w → AreWords ws → All (λ b. 13 < b) (join_with_byte 32 (w ∷ ws))
line_bytes w [] is are = λ k d lt. let above = is k d lt in omega (arith, above)
line_bytes w (v ∷ ws) is are =
    All-append (λ b. 13 < b) w (32 ∷ join_with_byte 32 (v ∷ ws)) (λ k d lt. let above = is k d lt in omega (arith, above))
    (All-append (λ b. 13 < b) (32 ∷ []) (join_with_byte 32 (v ∷ ws)) (one_blank) (line_bytes v ws are.0 are.1))
  where
    one_blank : All (λ b. 13 < b) (32 ∷ [])
    one_blank zero d lt = omega arith
    one_blank (suc k) d lt = absurd (omega arith)

kept : (line : List ℕ) → All (λ b. 13 < b) line → without_return line ≡ line
kept [] above = refl
kept (b ∷ []) above = let up : 13 < b = above 0 0 (omega arith) in ap (λ (x : Bool). if x then [] else b ∷ []) (other b 13 up)
kept (b ∷ c ∷ line) above = ap (λ (t : List ℕ). b ∷ t) (kept (c ∷ line) (λ k d lt. above (suc k) d (omega (arith, lt))))

pub lines_again : (ls : List (List (List ℕ))) → AreLines ls → lines_of (lines_text ls) ≡ map (join_with_byte 32) ls
lines_again [] are = refl
lines_again ([] ∷ ls) are = absurd are.0
lines_again ((w ∷ ws) ∷ ls) are =
    let text : List ℕ = join_with_byte 32 (w ∷ ws) in
    let bytes = line_bytes w ws are.0.0 are.0.1 in
    let long = length-slice_split is_line_feed (lines_text ls) in
    let some : 0 < length (slice_split is_line_feed (lines_text ls)) = omega (arith, long) in
    ap lines_of (append_assoc text (10 ∷ []) (lines_text ls))
    ∙ (ap lines_from (slice_split_at is_line_feed text 10 (lines_text ls) (λ k d lt. let above = bytes k d lt in other _ 10 (omega (arith, above))) refl)
    ∙ (line_cons text (slice_split is_line_feed (lines_text ls)) some
    ∙ (ap (λ (t : List ℕ). t ∷ lines_of (lines_text ls)) (kept text bytes)
    ∙ ap (λ (t : List (List ℕ)). text ∷ t) (lines_again ls are.1))))

word_blanks : (w : List ℕ) → IsWord w → All (λ b. is_blank b ≡ false) w
word_blanks w is = λ k d lt. other _ 32 (is k d lt)

pub words_again : (w : List ℕ) (ws : List (List ℕ)) → IsWord w → AreWords ws → words_of (join_with_byte 32 (w ∷ ws)) ≡ w ∷ ws
words_again w [] is are = slice_split_none is_blank w (word_blanks w is)
words_again w (v ∷ ws) is are = slice_split_at is_blank w 32 (join_with_byte 32 (v ∷ ws)) (word_blanks w is) refl ∙ ap (λ (t : List (List ℕ)). w ∷ t) (words_again v ws are.0 are.1)

-- ---- numbers

both : (a b : Bool) → (a && b) ≡ true → (a ≡ true) × (b ≡ true)
both true b e = (refl, e)
both false b e = absurd (cc)

digit_above : (b : ℕ) → is_ascii_digit b ≡ true → 32 < b
digit_above b e = grind (arith, nat_tests)

digits_above : (bs : List ℕ) → all_ascii_digits bs ≡ true → IsWord bs
digits_above [] e k d lt = absurd (omega arith)
digits_above (b ∷ bs) e zero d lt = digit_above b (both (is_ascii_digit b) (all_ascii_digits bs) e).0
digits_above (b ∷ bs) e (suc k) d lt = digits_above bs (both (is_ascii_digit b) (all_ascii_digits bs) e).1 k d (omega (arith, lt))

pub number_word : (n : ℕ) → n < 2 ^ 32 → IsWord (decimal n)
number_word n fits = digits_above (decimal n) (digits_decimal (numerals_by_value (λ ds. all_ascii_digits ds ≡ true) tells_all_ascii_digits) n (omega (arith, fits)))

number_is : (n : ℕ) → n < 2 ^ 32 → number_of 32 (decimal n) ≡ Some n
number_is n fits = number_again 32 n fits (omega (arith, fits))

one_again : number_of 32 (codes "1") ≡ Some 1
one_again = number_from 32 (codes "1") 1 (sym (decimal_digit 1 (omega arith))) (omega arith) (omega arith)

literal_again : (l : Literal) → literal_of (literal_number l) ≡ l
literal_again l = go l.variable l.negated
  where
    go : (v : ℕ) (b : Bool) → literal_of (if b then 2 * v + 1 else 2 * v) ≡ record { variable = v; negated = b }
    go v true =
        let half : (2 * v + 1) / 2 ≡ v = omega arith in
        let odd : (2 * v + 1) % 2 ≡ 1 = omega arith in
        rw (half, odd) refl
    go v false =
        let half : (2 * v) / 2 ≡ v = omega arith in
        let even : (2 * v) % 2 ≡ 0 = omega arith in
        rw (half, even) refl

most_literal : (m : ℕ) (l : Literal) → l.variable ≤ m → literal_number l ≤ 2 * m + 1
most_literal m l le = go l.variable l.negated le
  where
    go : (v : ℕ) (b : Bool) → v ≤ m → (if b then 2 * v + 1 else 2 * v) ≤ 2 * m + 1
    go v true le = omega (arith, le)
    go v false le = omega (arith, le)

module _ (m : ℕ) (fits : 2 * m + 1 < 2 ^ 32) where
  literal_fits : (l : Literal) → l.variable ≤ m → literal_number l < 2 ^ 32
  literal_fits l le = let most = most_literal m l le in omega (arith, most, fits)

  literal_read : (number : ℕ) → number ≤ 2 * m + 1 → literal_in m (decimal number) ≡ Some (literal_of number)
  unfolding literal_in
  literal_read number le = rw (number_is number (omega (arith, le, fits)), le-ltb (2 * m + 1) number le) refl

  literal_is : (l : Literal) → l.variable ≤ m → literal_in m (literal_word l) ≡ Some l
  literal_is l le = literal_read (literal_number l) (most_literal m l le) ∙ ap (λ (x : Literal). Some x) (literal_again l)

  variable_is : (v : ℕ) → 0 < v → v ≤ m → variable_in m (variable_word v) ≡ Some v
  unfolding variable_in
  variable_is v some le = rw (literal_is (record { variable = v; negated = false }) le, lt-ltb 0 v some) refl

  literal_plain : (l : Literal) → l.variable ≤ m → IsWord (literal_word l)
  literal_plain l le = number_word (literal_number l) (literal_fits l le)

  variable_plain : (v : ℕ) → v ≤ m → IsWord (variable_word v)
  variable_plain v le = literal_plain (record { variable = v; negated = false }) le

  -- ---- the forms of lines

  input_line_is : (v : ℕ) → 0 < v → v ≤ m → input_of m (variable_word v ∷ []) ≡ Some v
  unfolding input_of
  input_line_is v some le = variable_is v some le

  output_line_is : (l : Literal) → l.variable ≤ m → output_of m (literal_word l ∷ []) ≡ Some l
  unfolding output_of
  output_line_is l le = literal_is l le

  start_is : (v : ℕ) (s : Start) → 0 < v → v ≤ m → start_of v (start_words v s) ≡ Some s
  start_is v Zero some le = refl
  start_is v One some le = ap (start_named v) one_again
  start_is v Free some le =
      let zero : (2 * v == 0) ≡ false = other (2 * v) 0 (omega (arith, some)) in
      let one : (2 * v == 1) ≡ false = other (2 * v) 1 (omega (arith, some)) in
      let same : (2 * v == 2 * v) ≡ true = eq-eqb (2 * v) (2 * v) refl in
      ap (start_named v) (number_is (2 * v) (omega (arith, le, fits))) ∙ rw (zero, one, same) refl

  latch_with : (v : ℕ) (next : Literal) (s : Start) (words : List (List ℕ)) → 0 < v → v ≤ m → next.variable ≤ m → length words ≤ 1 → start_of v words ≡ Some s
      → latch_of m (variable_word v ∷ literal_word next ∷ words) ≡ Some (record { variable = v; next = next; start = s })
  unfolding latch_of
  latch_with v next s [] some le low long is = rw (variable_is v some le) (rw (literal_is next low) (ap (λ (o : Option Start). o >>= (λ start. Some (record { variable = v; next = next; start = start }))) is))
  latch_with v next s (w ∷ []) some le low long is = rw (variable_is v some le) (rw (literal_is next low) (ap (λ (o : Option Start). o >>= (λ start. Some (record { variable = v; next = next; start = start }))) is))
  latch_with v next s (w ∷ x ∷ words) some le low long is = absurd (omega (arith, long))

  latch_line_is : (l : Latch) → 0 < l.variable → l.variable ≤ m → l.next.variable ≤ m → latch_of m (latch_line l) ≡ Some l
  latch_line_is l some le low = latch_with l.variable l.next l.start (start_words l.variable l.start) some le low (short l.start) (start_is l.variable l.start some le)
    where
      short : (s : Start) → length (start_words l.variable s) ≤ 1
      short Zero = omega arith
      short One = omega arith
      short Free = omega arith

  gate_line_is : (g : Gate) → 0 < g.variable → g.variable ≤ m → g.left.variable ≤ m → g.right.variable ≤ m → gate_of m (gate_line g) ≡ Some g
  unfolding gate_of
  gate_line_is g some le left right = rw (variable_is g.variable some le, literal_is g.left left, literal_is g.right right) refl

-- ---- lines of things

-- the words of a thing are a line, and say that thing
pub record IsSpelled {A : Type 0} (form : List (List ℕ) → Option A) (words : List (List ℕ)) (x : A) : Type 0 where
  pub line : IsLine words
  pub is : form words ≡ Some x

abbrev pub AreSpelled : {A : Type 0} → (List (List ℕ) → Option A) → (A → List (List ℕ)) → List A → Type 0
AreSpelled form f [] = Unit {0}
AreSpelled form f (x ∷ xs) = IsSpelled form (f x) x × AreSpelled form f xs

line_words : (words : List (List ℕ)) → IsLine words → words_of (join_with_byte 32 words) ≡ words
line_words [] is = absurd is
line_words (w ∷ ws) is = words_again w ws is.0 is.1

are_of : {A : Type 0} (form : List (List ℕ) → Option A) (f : A → List (List ℕ)) (xs : List A) → AreSpelled form f xs → AreOf form (map (join_with_byte 32) (map f xs)) xs
are_of form f [] are = refl
are_of form f (x ∷ xs) are =
    let here : form (words_of (join_with_byte 32 (f x))) ≡ Some x = ap form (line_words (f x) are.0.line) ∙ are.0.is in
    ap (λ (o : Option _). o ∷ map (λ line. form (words_of line)) (map (join_with_byte 32) (map f xs))) here ∙ ap (λ (os : List (Option _)). Some x ∷ os) (are_of form f xs are.1)

are_lines : {A : Type 0} (form : List (List ℕ) → Option A) (f : A → List (List ℕ)) (xs : List A) → AreSpelled form f xs → AreLines (map f xs)
are_lines form f [] are = tt
are_lines form f (x ∷ xs) are = (are.0.line, are_lines form f xs are.1)

-- ---- graphs whose variables are at most m

abbrev pub AreVariables : ℕ → List ℕ → Type 0
AreVariables m [] = Unit {0}
AreVariables m (v ∷ vs) = (0 < v) × (v ≤ m) × AreVariables m vs

abbrev pub AreLatches : ℕ → List Latch → Type 0
AreLatches m [] = Unit {0}
AreLatches m (l ∷ ls) = (0 < l.variable) × (l.variable ≤ m) × (l.next.variable ≤ m) × AreLatches m ls

abbrev pub AreLiterals : ℕ → List Literal → Type 0
AreLiterals m [] = Unit {0}
AreLiterals m (l ∷ ls) = (l.variable ≤ m) × AreLiterals m ls

abbrev pub AreGates : ℕ → List Gate → Type 0
AreGates m [] = Unit {0}
AreGates m (g ∷ gs) = (0 < g.variable) × (g.variable ≤ m) × (g.left.variable ≤ m) × (g.right.variable ≤ m) × AreGates m gs

pub record IsWithin (m : ℕ) (a : PlainAig) : Type 0 where
  pub fits : 2 * m + 1 < 2 ^ 32
  pub inputs : AreVariables m a.inputs
  pub latches : AreLatches m a.latches
  pub outputs : AreLiterals m a.outputs
  pub gates : AreGates m a.gates
  pub input_count : length a.inputs < 2 ^ 32
  pub latch_count : length a.latches < 2 ^ 32
  pub output_count : length a.outputs < 2 ^ 32
  pub gate_count : length a.gates < 2 ^ 32

module _ (m : ℕ) (fits : 2 * m + 1 < 2 ^ 32) where
  each_input : (vs : List ℕ) → AreVariables m vs → AreSpelled (input_of m) (λ v. variable_word v ∷ []) vs
  each_input [] are = tt
  each_input (v ∷ vs) are = (record { line = (variable_plain m fits v are.1, tt); is = input_line_is m fits v are.0 are.1 }, each_input vs are.2)

  one_word : IsWord (codes "1")
  one_word zero d lt = omega arith
  one_word (suc k) d lt = absurd (omega (arith, lt))

  start_plain : (v : ℕ) (s : Start) → v ≤ m → AreWords (start_words v s)
  start_plain v Zero le = tt
  start_plain v One le = (one_word, tt)
  start_plain v Free le = (variable_plain m fits v le, tt)

  each_latch : (ls : List Latch) → AreLatches m ls → AreSpelled (latch_of m) latch_line ls
  each_latch [] are = tt
  each_latch (l ∷ ls) are = (record { line = (variable_plain m fits l.variable are.1, (literal_plain m fits l.next are.2, start_plain l.variable l.start are.1)); is = latch_line_is m fits l are.0 are.1 are.2 }, each_latch ls are.3)

  each_output : (ls : List Literal) → AreLiterals m ls → AreSpelled (output_of m) (λ (l : Literal). literal_word l ∷ []) ls
  each_output [] are = tt
  each_output (l ∷ ls) are = (record { line = (literal_plain m fits l are.0, tt); is = output_line_is m fits l are.0 }, each_output ls are.1)

  each_gate : (gs : List Gate) → AreGates m gs → AreSpelled (gate_of m) gate_line gs
  each_gate [] are = tt
  each_gate (g ∷ gs) are = (record { line = (variable_plain m fits g.variable are.1, (literal_plain m fits g.left are.2, (literal_plain m fits g.right are.3, tt))); is = gate_line_is m fits g are.0 are.1 are.2 are.3 }, each_gate gs are.4)

aag_word : IsWord (codes "aag")
aag_word zero d lt = omega arith
aag_word (suc zero) d lt = omega arith
aag_word (suc (suc zero)) d lt = omega arith
aag_word (suc (suc (suc k))) d lt = absurd (omega (arith, lt))

header_is : (m : ℕ) (a : PlainAig) → IsWithin m a → header_of (header_line (header m a)) ≡ Some (header m a)
unfolding header_of
header_is m a is = rw (number_is m (omega (arith, is.fits)), number_is (length a.inputs) is.input_count, number_is (length a.latches) is.latch_count, number_is (length a.outputs) is.output_count, number_is (length a.gates) is.gate_count) refl

header_plain : (m : ℕ) (a : PlainAig) → IsWithin m a → IsLine (header_line (header m a))
header_plain m a is = (aag_word, (number_word m (omega (arith, is.fits)), (number_word (length a.inputs) is.input_count, (number_word (length a.latches) is.latch_count, (number_word (length a.outputs) is.output_count, (number_word (length a.gates) is.gate_count, tt))))))

-- ---- symbols

letter_word : (letter k : ℕ) → 32 < letter → k < 2 ^ 32 → IsWord (letter ∷ decimal k)
letter_word letter k above fits zero d lt = above
letter_word letter k above fits (suc j) d lt = number_word k fits j d (omega (arith, lt))

symbol_is : (h : Header) (letter k : ℕ) (name : List ℕ) → k < symbol_count h letter → k < 2 ^ 32 → is_symbol h ((letter ∷ decimal k) ∷ name ∷ []) ≡ true
unfolding is_symbol
symbol_is h letter k name lt fits = ap (λ (o : Option ℕ). is_below o (symbol_count h letter)) (number_is k fits) ∙ lt-ltb k (symbol_count h letter) lt

pub symbols_plain : (letter k : ℕ) (names : List (List ℕ)) → 32 < letter → k + length names < 2 ^ 32 → AreWords names → AreLines (symbol_lines letter k names)
symbols_plain letter k [] above fits are = tt
symbols_plain letter k (name ∷ names) above fits are = ((letter_word letter k above (omega (arith, fits)), (are.0, tt)), symbols_plain letter (k + 1) names above (omega (arith, fits)) are.1)

pub symbols_are : (h : Header) (letter k : ℕ) (names : List (List ℕ)) → 32 < letter → k + length names ≤ symbol_count h letter → k + length names < 2 ^ 32 → AreWords names → AreSymbols h (map (join_with_byte 32) (symbol_lines letter k names))
symbols_are h letter k [] above within fits are = tt
symbols_are h letter k (name ∷ names) above within fits are =
    let words = words_again (letter ∷ decimal k) (name ∷ []) (letter_word letter k above (omega (arith, fits))) (are.0, tt) in
    (ap (is_symbol h) words ∙ symbol_is h letter k name (omega (arith, within)) (omega (arith, fits)), symbols_are h letter (k + 1) names above (omega (arith, within)) (omega (arith, fits)) are.1)

pub symbols_both : (h : Header) (xs ys : List (List ℕ)) → AreSymbols h xs → AreSymbols h ys → AreSymbols h (xs ++ ys)
symbols_both h [] ys a b = b
symbols_both h (x ∷ xs) ys a b = (a.0, symbols_both h xs ys a.1 b)

-- ---- the file

pub map_both : {A B : Type 0} (f : A → B) (xs ys : List A) → map f (xs ++ ys) ≡ map f xs ++ map f ys
map_both f [] ys = refl
map_both f (x ∷ xs) ys = ap (λ (r : List _). f x ∷ r) (map_both f xs ys)

sections : {A B : Type 0} (f : A → B) (i l o g s : List A) → map f ((i ++ (l ++ (o ++ g))) ++ s) ≡ map f i ++ (map f l ++ (map f o ++ (map f g ++ (map f s ++ []))))
sections f i l o g s = simp (append_assoc, map_both, append-nil) refl

pub file_spelled : (m : ℕ) (a : PlainAig) (symbols : List (List (List ℕ))) → IsWithin m a → AreLines symbols → AreSymbols (header m a) (map (join_with_byte 32) symbols) → IsFile (lines_text (aig_lines m a ++ symbols)) a
file_spelled m a symbols is lines are =
    let ins = each_input m is.fits a.inputs is.inputs in
    let lats = each_latch m is.fits a.latches is.latches in
    let outs = each_output m is.fits a.outputs is.outputs in
    let gats = each_gate m is.fits a.gates is.gates in
    let f : List (List ℕ) → List ℕ = join_with_byte 32 in
    let i : List (List (List ℕ)) = map (λ v. variable_word v ∷ []) a.inputs in
    let l : List (List (List ℕ)) = map latch_line a.latches in
    let o : List (List (List ℕ)) = map (λ (x : Literal). literal_word x ∷ []) a.outputs in
    let g : List (List (List ℕ)) = map gate_line a.gates in
    let all : AreLines (aig_lines m a ++ symbols) = (
      header_plain m a is,
      lines_join (i ++ (l ++ (o ++ g))) symbols
          (lines_join i (l ++ (o ++ g)) (are_lines (input_of m) (λ v. variable_word v ∷ []) a.inputs ins)
          (lines_join l (o ++ g) (are_lines (latch_of m) latch_line a.latches lats)
          (lines_join o g (are_lines (output_of m) (λ (x : Literal). literal_word x ∷ []) a.outputs outs) (are_lines (gate_of m) gate_line a.gates gats))))
          lines,
    ) in
    record {
      header = header m a;
      first = f (header_line (header m a));
      inputs = map f i;
      latches = map f l;
      outputs = map f o;
      gates = map f g;
      symbols = map f symbols;
      comment = [];
      lines = lines_again (aig_lines m a ++ symbols) all ∙ ap (λ (r : List (List ℕ)). f (header_line (header m a)) ∷ r) (sections f i l o g symbols);
      is_header = ap header_of (line_words (header_line (header m a)) (header_plain m a is)) ∙ header_is m a is;
      counts = record { inputs = refl; latches = refl; outputs = refl; gates = refl };
      are_inputs = are_of (input_of m) (λ v. variable_word v ∷ []) a.inputs ins;
      are_latches = are_of (latch_of m) latch_line a.latches lats;
      are_outputs = are_of (output_of m) (λ (x : Literal). literal_word x ∷ []) a.outputs outs;
      are_gates = are_of (gate_of m) gate_line a.gates gats;
      are_symbols = are;
      ends = tt;
    }
