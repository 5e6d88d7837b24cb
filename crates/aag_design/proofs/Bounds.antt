-- What a file's graph keeps: few entries, and variables from 1 on that fit.
use Rattle.std.proofs.Common.{◌≡◌, ℕ, suc, ◌+◌, ◌*◌, ◌/◌, ◌^◌, ◌<◌, ◌≤◌, Bool, true, false, List, [], ◌∷◌, ◌++◌, length, map, get_or, slice_get, Option, Some, None, refl, sym, ap, ◌∙◌, subst, arith, length-append}
use Rattle.std.specs.Prelude.{nat_lt, not, ◌&&◌, ◌||◌, ◌==◌, drop}
use Rattle.std.specs.Option.{option_map}
use Rattle.std.specs.List.{slice_split, flat_map}
use Rattle.std.specs.Fmt.{decimal}
use Rattle.std.proofs.lemmas.Bool.{ltb-true}
use Rattle.std.proofs.lemmas.List.{length-map}
use Rattle.std.proofs.lemmas.List.Sums.{count_by-le-length}
use Rattle.std.proofs.lemmas.List.Splits.{length-slice_split}
use Rattle.std.proofs.lemmas.List.Concat.{flat_map-cons}
use Rattle.std.proofs.lemmas.Option.{slice_get-map, slice_get_within, get_or_from_slice_get}
use Rattle.std.proofs.lemmas.Fmt.{decimal_injective}
use Rattle.tmr_base.specs.Numbers.{number_of}
use Rattle.tmr_base.proofs.NumberLaws.{number_text}
use Rattle.flat_net.specs.Draft.{Element, AreDistinct, reads_of}
use Rattle.flat_net.specs.Faults.{draft_reads}
use Rattle.flat_net.proofs.Slots.{slice_get_there}
use Rattle.aag_text.specs.declared.aig.Literal.{Literal}
use Rattle.aag_text.specs.declared.aig.Latch.{Latch}
use Rattle.aag_text.specs.declared.aig.Gate.{Gate}
use Rattle.aag_text.specs.Aig.{PlainAig}
use Rattle.aag_text.specs.Lines.{◌>>=◌, hold, word, is_line_feed, lines_from, lines_of, words_of, literal_of, literal_in, variable_in, input_of, start_of, latch_of, output_of, gate_of, AreOf, IsFile}
use Rattle.aag_text.proofs.Spelling.{line_cons}
use Rattle.aag_text.specs.Variables.{defined}
use Rattle.aag_design.specs.Draft.{map_from, numbered, aig_elements}
use Rattle.aag_design.specs.Private.Drafting.{plain_draft}
use Rattle.aag_design.proofs.Places.{some_is, map_from_first, map_get, length-map_from, node_total, IsPlace, AtZero, AtLatch, AtGate, AtNext, AtOutput, place_of}
use Rattle.aag_design.proofs.Nets.{element, element_get, elements_long}
use Rattle.aag_design.proofs.Known.{IsDefinition, ByInput, ByLatch, ByGate, definition_of}

-- ---- lines

few_lines : (pieces : List (List ℕ)) → length (lines_from pieces) ≤ length pieces
few_lines [] = omega arith
few_lines ([] ∷ []) = omega arith
few_lines ((b ∷ piece) ∷ []) = omega arith
few_lines (piece ∷ next ∷ pieces) =
    let more = few_lines (next ∷ pieces) in
    let here : length (lines_from (piece ∷ next ∷ pieces)) ≡ suc (length (lines_from (next ∷ pieces))) = ap length (line_cons piece (next ∷ pieces) (omega arith)) in
    omega (arith, more, here)

lines_few : (bytes : List ℕ) → length (lines_of bytes) ≤ length bytes + 1
lines_few bytes =
    let a = few_lines (slice_split is_line_feed bytes) in
    let b = length-slice_split is_line_feed bytes in
    let c = count_by-le-length is_line_feed bytes in
    omega (arith, a, b, c)

module _ {A : Type 0} (form : List (List ℕ) → Option A) where
  section_long : (section : List (List ℕ)) (items : List A) → AreOf form section items → length section ≡ length items
  section_long section items are = sym (length-map section (λ line. form (words_of line))) ∙ (ap length are ∙ length-map items Some)

  -- an item has a line
  item_line : (section : List (List ℕ)) (items : List A) (k : ℕ) (x : A) → AreOf form section items → slice_get items k ≡ Some x → (line : List ℕ) × (form (words_of line) ≡ Some x)
  item_line section items k x are e = go (slice_get section k) refl
    where
      both : option_map (λ line. form (words_of line)) (slice_get section k) ≡ Some (Some x)
      both = sym (slice_get-map (λ line. form (words_of line)) section k) ∙ (ap (λ (os : List (Option A)). slice_get os k) are ∙ map_get Some items k x e)

      go : (o : Option (List ℕ)) → slice_get section k ≡ o → (line : List ℕ) × (form (words_of line) ≡ Some x)
      go None f = absurd (let g = rw f at both in cc)
      go (Some line) f = (line, let g = rw f at both in cc)

-- so many entries has the graph of a file at most
pub few_entries : (bytes : List ℕ) (a : PlainAig) → IsFile bytes a → length a.inputs + length a.latches + length a.outputs + length a.gates ≤ length bytes
few_entries bytes a f =
    let i = section_long (input_of f.header.most) f.inputs a.inputs f.are_inputs in
    let l = section_long (latch_of f.header.most) f.latches a.latches f.are_latches in
    let o = section_long (output_of f.header.most) f.outputs a.outputs f.are_outputs in
    let g = section_long (gate_of f.header.most) f.gates a.gates f.are_gates in
    let all : length (lines_of bytes) ≡ suc (length (f.inputs ++ (f.latches ++ (f.outputs ++ (f.gates ++ (f.symbols ++ f.comment)))))) = ap length f.lines in
    let s1 = length-append f.inputs (f.latches ++ (f.outputs ++ (f.gates ++ (f.symbols ++ f.comment)))) in
    let s2 = length-append f.latches (f.outputs ++ (f.gates ++ (f.symbols ++ f.comment))) in
    let s3 = length-append f.outputs (f.gates ++ (f.symbols ++ f.comment)) in
    let s4 = length-append f.gates (f.symbols ++ f.comment) in
    let few = lines_few bytes in
    omega (arith, i, l, o, g, all, s1, s2, s3, s4, few)

-- ---- variables

bind_is : {A B : Type 0} (o : Option A) (f : A → Option B) (y : B) → (o >>= f) ≡ Some y → (x : A) × (o ≡ Some x) × (f x ≡ Some y)
bind_is None f y e = absurd (cc)
bind_is (Some x) f y e = (x, refl, e)

held : (b : Bool) (u : Unit {0}) → hold b ≡ Some u → b ≡ true
held true u e = refl
held false u e = absurd (cc)

-- from 1 on, and it fits
abbrev pub IsVariable : ℕ → Type 0
IsVariable u = (0 < u) × (u < 2 ^ 32)

and_parts : (b c : Bool) → (b && c) ≡ true → c ≡ true
and_parts true c e = e
and_parts false c e = absurd (cc)

literal_fits : (m : ℕ) (text : List ℕ) (l : Literal) → literal_in m text ≡ Some l → l.variable < 2 ^ 32
unfolding literal_in
literal_fits m text l e =
    let (number, n, rest) = bind_is (number_of 32 text) _ l e in
    let (u, h, last) = bind_is (hold (not (nat_lt (2 * m + 1) number))) _ l rest in
    let small = (number_text 32 text number n).1 in
    let is : number / 2 ≡ l.variable = ap (λ (k : Literal). k.variable) (some_is (literal_of number) l last) in
    omega (arith, small, is)

variable_is : (m : ℕ) (text : List ℕ) (v : ℕ) → variable_in m text ≡ Some v → IsVariable v
unfolding variable_in
variable_is m text v e =
    let (l, n, rest) = bind_is (literal_in m text) _ v e in
    let (u, h, last) = bind_is (hold (not l.negated && nat_lt 0 l.variable)) _ v rest in
    let some : 0 < l.variable = ltb-true 0 l.variable (and_parts (not l.negated) (nat_lt 0 l.variable) (held _ u h)) in
    let is : l.variable ≡ v = some_is l.variable v last in
    let fits = literal_fits m text l n in
    (omega (arith, some, is), omega (arith, fits, is))

input_is : (m : ℕ) (words : List (List ℕ)) (v : ℕ) → input_of m words ≡ Some v → IsVariable v
unfolding input_of
input_is m words v e =
    let (u, h, rest) = bind_is (hold (length words == 1)) _ v e in
    variable_is m (word words 0) v rest

latch_is : (m : ℕ) (words : List (List ℕ)) (l : Latch) → latch_of m words ≡ Some l → IsVariable l.variable
unfolding latch_of
latch_is m words l e =
    let (u, h, rest) = bind_is (hold (length words == 2 || length words == 3)) _ l e in
    let (v, is, rest2) = bind_is (variable_in m (word words 0)) _ l rest in
    let (next, n, rest3) = bind_is (literal_in m (word words 1)) _ l rest2 in
    let (start, s, last) = bind_is (start_of v (drop 2 words)) _ l rest3 in
    let same : v ≡ l.variable = ap (λ (k : Latch). k.variable) (some_is _ l last) in
    subst IsVariable same (variable_is m (word words 0) v is)

gate_is : (m : ℕ) (words : List (List ℕ)) (g : Gate) → gate_of m words ≡ Some g → IsVariable g.variable
unfolding gate_of
gate_is m words g e =
    let (u, h, rest) = bind_is (hold (length words == 3)) _ g e in
    let (v, is, rest2) = bind_is (variable_in m (word words 0)) _ g rest in
    let (left, n, rest3) = bind_is (literal_in m (word words 1)) _ g rest2 in
    let (right, s, last) = bind_is (literal_in m (word words 2)) _ g rest3 in
    let same : v ≡ g.variable = ap (λ (k : Gate). k.variable) (some_is _ g last) in
    subst IsVariable same (variable_is m (word words 0) v is)

pub variables_are : (bytes : List ℕ) (a : PlainAig) → IsFile bytes a → (p u : ℕ) → slice_get (defined a) p ≡ Some u → IsVariable u
variables_are bytes a f p u e = go (definition_of a p u e)
  where
    go : IsDefinition a p u → IsVariable u
    go (ByInput at) = let (line, is) = item_line (input_of f.header.most) f.inputs a.inputs p u f.are_inputs at in input_is f.header.most (words_of line) u is
    go (ByLatch j l place at v) = let (line, is) = item_line (latch_of f.header.most) f.latches a.latches j l f.are_latches at in subst IsVariable v (latch_is f.header.most (words_of line) l is)
    go (ByGate k g place at v) = let (line, is) = item_line (gate_of f.header.most) f.gates a.gates k g f.are_gates at in subst IsVariable v (gate_is f.header.most (words_of line) g is)

-- ---- the draft

numbered_names : {A : Type 0} (letter : ℕ) (xs : List A) → length xs < 2 ^ 64 → AreDistinct (map_from (λ i x. numbered letter i) 0 xs)
numbered_names {A} letter xs few j k jk h e =
    let long = length-map_from (λ i (x : A). numbered letter i) 0 xs in
    let (x, f) = slice_get_there xs j (omega (arith, jk, h, long)) in
    let (y, g) = slice_get_there xs k (omega (arith, h, long)) in
    let one = get_or_from_slice_get (map_from (λ i (z : A). numbered letter i) 0 xs) j (numbered letter j) [] (map_from_first (λ i (z : A). numbered letter i) xs j x f) in
    let two = get_or_from_slice_get (map_from (λ i (z : A). numbered letter i) 0 xs) k (numbered letter k) [] (map_from_first (λ i (z : A). numbered letter i) xs k y g) in
    let same : numbered letter j ≡ numbered letter k = sym one ∙ (e ∙ two) in
    let digits : decimal j ≡ decimal k = cc in
    let number = decimal_injective j k (omega (arith, jk, h, long, few)) (omega (arith, h, long, few)) digits in
    omega (arith, number, jk)

pub inputs_distinct : (a : PlainAig) → length a.inputs < 2 ^ 64 → AreDistinct (map_from (λ i v. numbered 105 i) 0 a.inputs)
inputs_distinct a few = numbered_names 105 a.inputs few

pub outputs_distinct : (a : PlainAig) → length a.outputs < 2 ^ 64 → AreDistinct (map_from (λ k l. numbered 111 k) 0 a.outputs)
outputs_distinct a few = numbered_names 111 a.outputs few

few_reads : (es : List Element) → ((i : ℕ) (e : Element) → slice_get es i ≡ Some e → length (reads_of e) ≤ 2) → length (flat_map reads_of es) ≤ 2 * length es
few_reads [] f = omega arith
few_reads (e ∷ es) f =
    let here = f 0 e refl in
    let more = few_reads es (λ i d h. f (suc i) d h) in
    let whole : length (flat_map reads_of (e ∷ es)) ≡ length (reads_of e ++ flat_map reads_of es) = ap length (flat_map-cons reads_of e es) in
    omega (arith, here, more, whole, length-append (reads_of e) (flat_map reads_of es))

element_reads : (a : PlainAig) (i : ℕ) (p : IsPlace a i) → length (reads_of (element a i p)) ≤ 2
element_reads a i (AtZero z) = omega arith
element_reads a i (AtLatch j l z at) = omega arith
element_reads a i (AtGate k g z at) = omega arith
element_reads a i (AtNext j l z at) = omega arith
element_reads a i (AtOutput k m z at) = omega arith

pub reads_few : (a : PlainAig) → length (draft_reads (plain_draft a)) ≤ 2 * node_total a
reads_few a =
    let few = few_reads (aig_elements a) (λ i e h. here i e h) in
    let long = elements_long a in
    subst (λ (n : ℕ). length (draft_reads (plain_draft a)) ≤ 2 * n) long few
  where
    here : (i : ℕ) (e : Element) → slice_get (aig_elements a) i ≡ Some e → length (reads_of e) ≤ 2
    here i e h =
        let within = slice_get_within (aig_elements a) i e h in
        let long = elements_long a in
        let p : IsPlace a i = place_of a i (omega (arith, within, long)) in
        subst (λ (d : Element). length (reads_of d) ≤ 2) (some_is (element a i p) e (sym (element_get a i p) ∙ h)) (element_reads a i p)
