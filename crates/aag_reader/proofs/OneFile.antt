-- A file is one of one graph, or it has a bad line.
use Rattle.std.proofs.Common.{◌≡◌, ℕ, suc, ◌+◌, ◌≤◌, Bool, true, false, List, [], ◌∷◌, ◌++◌, map, length, codes, Option, Some, None, refl, sym, ap, subst, ◌∙◌, arith, append_assoc, length-append}
use Rattle.std.proofs.lemmas.Slice.Eq.{bytes_eq-Decides}
use Rattle.flat_net.specs.First.{IsFirst, HasNone}
use Rattle.aag_text.specs.declared.aig.Header.{Header}
use Rattle.aag_text.specs.declared.aig.Literal.{Literal}
use Rattle.aag_text.specs.declared.aig.Latch.{Latch}
use Rattle.aag_text.specs.declared.aig.Gate.{Gate}
use Rattle.aag_text.specs.Aig.{PlainAig}
use Rattle.aag_text.specs.Lines.{words_of, header_of, input_of, latch_of, output_of, gate_of, is_symbol, is_comment, AreOf, IsEnd, HasCounts, IsFile}
use Rattle.aag_reader.specs.BadLine.{due, is_formed, AreFormed, IsBad, IsFirstBadLine, NoLine, NoHeader, BadLine}
use Rattle.aag_reader.proofs.FileLaws.{at_input, at_latch, at_output, at_gate, at_symbol, symbols_formed, formed_join, as_long, are_formed}

-- ---- one graph

some_inj : {A : Type 0} (x y : A) → Some x ≡ Some y → x ≡ y
some_inj x y e = cc

cons_head : {A : Type 0} (x y : A) (xs ys : List A) → x ∷ xs ≡ y ∷ ys → x ≡ y
cons_head x y xs ys e = cc

cons_tail : {A : Type 0} (x y : A) (xs ys : List A) → x ∷ xs ≡ y ∷ ys → xs ≡ ys
cons_tail x y xs ys e = cc

somes_inj : {A : Type 0} (xs ys : List A) → map Some xs ≡ map Some ys → xs ≡ ys
somes_inj [] [] e = refl
somes_inj [] (y ∷ ys) e = absurd (cc)
somes_inj (x ∷ xs) [] e = absurd (cc)
somes_inj (x ∷ xs) (y ∷ ys) e =
    let here = some_inj x y (cons_head (Some x) (Some y) (map Some xs) (map Some ys) e) in
    let later = somes_inj xs ys (cons_tail (Some x) (Some y) (map Some xs) (map Some ys) e) in
    ap (λ z. z ∷ xs) here ∙ ap (λ zs. y ∷ zs) later

-- lists with beginnings of one length begin alike and go on alike
same_parts : {A : Type 0} (xs ys us vs : List A) → length xs ≡ length ys → xs ++ us ≡ ys ++ vs → (xs ≡ ys) × (us ≡ vs)
same_parts [] [] us vs long e = (refl, e)
same_parts [] (y ∷ ys) us vs long e = absurd (omega (arith, long))
same_parts (x ∷ xs) [] us vs long e = absurd (omega (arith, long))
same_parts (x ∷ xs) (y ∷ ys) us vs long e =
    let here = cons_head x y (xs ++ us) (ys ++ vs) e in
    let later = same_parts xs ys us vs (omega (arith, long)) (cons_tail x y (xs ++ us) (ys ++ vs) e) in
    (ap (λ z. z ∷ xs) here ∙ ap (λ zs. y ∷ zs) later.0, later.1)

-- so many lines of one form say one thing
one_section : {A : Type 0} (form : List (List ℕ) → Option A) (count : ℕ) (ls ms us vs : List (List ℕ)) (xs ys : List A) → ls ++ us ≡ ms ++ vs → AreOf form ls xs → AreOf form ms ys → length xs ≡ count → length ys ≡ count → (xs ≡ ys) × (us ≡ vs)
one_section form count ls ms us vs xs ys e one other long also =
    let first = as_long form ls xs one in
    let second = as_long form ms ys other in
    let same = same_parts ls ms us vs (omega (arith, first, second, long, also)) e in
    (somes_inj xs ys (sym one ∙ (ap (map (λ line. form (words_of line))) same.0 ∙ other)), same.1)

one_header : (bytes : List ℕ) (a b : PlainAig) (f : IsFile bytes a) (g : IsFile bytes b) → f.header ≡ g.header
one_header bytes a b f g =
    let first = cons_head f.first g.first _ _ (sym f.lines ∙ g.lines) in
    some_inj f.header g.header (sym f.is_header ∙ (ap (λ line. header_of (words_of line)) first ∙ g.is_header))

abbrev the_graph : List ℕ → List Latch → List Literal → List Gate → PlainAig
the_graph i l o g = record { inputs = i; latches = l; outputs = o; gates = g }

same_graph : (i j : List ℕ) (l m : List Latch) (o p : List Literal) (g h : List Gate) → i ≡ j → l ≡ m → o ≡ p → g ≡ h → the_graph i l o g ≡ the_graph j m p h
same_graph i j l m o p g h a b c d = cc

-- a file is one of one graph
pub one_file : (bytes : List ℕ) (a b : PlainAig) → IsFile bytes a → IsFile bytes b → a ≡ b
one_file bytes a b f g =
    let same = sym (one_header bytes a b f g) in
    let counts : HasCounts f.header b = subst (λ (h : Header). HasCounts h b) same g.counts in
    let lines = cons_tail f.first g.first _ _ (sym f.lines ∙ g.lines) in
    let inputs = one_section (input_of f.header.most) f.header.inputs f.inputs g.inputs _ _ a.inputs b.inputs lines f.are_inputs (subst (λ (h : Header). AreOf (input_of h.most) g.inputs b.inputs) same g.are_inputs) f.counts.inputs counts.inputs in
    let latches = one_section (latch_of f.header.most) f.header.latches f.latches g.latches _ _ a.latches b.latches inputs.1 f.are_latches (subst (λ (h : Header). AreOf (latch_of h.most) g.latches b.latches) same g.are_latches) f.counts.latches counts.latches in
    let outputs = one_section (output_of f.header.most) f.header.outputs f.outputs g.outputs _ _ a.outputs b.outputs latches.1 f.are_outputs (subst (λ (h : Header). AreOf (output_of h.most) g.outputs b.outputs) same g.are_outputs) f.counts.outputs counts.outputs in
    let gates = one_section (gate_of f.header.most) f.header.gates f.gates g.gates _ _ a.gates b.gates outputs.1 f.are_gates (subst (λ (h : Header). AreOf (gate_of h.most) g.gates b.gates) same g.are_gates) f.counts.gates counts.gates in
    same_graph a.inputs b.inputs a.latches b.latches a.outputs b.outputs a.gates b.gates inputs.0 latches.0 outputs.0 gates.0

-- ---- no bad line

-- a comment's line is no symbol
letter_is_none : (h : Header) → is_symbol h (words_of (codes "c")) ≡ false
unfolding is_symbol
letter_is_none h = refl

comment_is_none : (h : Header) (line : List ℕ) → is_comment line ≡ true → is_symbol h (words_of line) ≡ false
comment_is_none h line e = subst (λ (l : List ℕ). is_symbol h (words_of l) ≡ false) (sym ((bytes_eq-Decides line (codes "c")).0 e)) (letter_is_none h)

yes_no : (b c : Bool) → b ≡ true → b ≡ c → c ≡ false → ⊥
yes_no b c e f g = cc

ends_here : (lines : List (List ℕ)) (line : List ℕ) (rest : List (List ℕ)) → IsEnd lines → lines ≡ line ∷ rest → is_comment line ≡ true
ends_here lines line rest ends e = subst IsEnd e ends

starts_bad : (h : Header) (n : ℕ) (lines : List (List ℕ)) (line : List ℕ) (rest : List (List ℕ)) → IsBad h n lines → lines ≡ line ∷ rest → IsBad h n (line ∷ rest)
starts_bad h n lines line rest bad e = subst (IsBad h n) e bad

-- behind the lines that are of their forms comes the end, and no bad line
no_clash : (h : Header) (k n : ℕ) (known comment before rest : List (List ℕ)) → AreFormed h k known → due h ≤ k + length known → IsEnd comment → known ++ comment ≡ before ++ rest → n ≡ k + length before → AreFormed h k before → IsBad h n rest → ⊥
no_clash h k n [] comment [] [] are far ends e at formed bad = omega (arith, bad, far, at)
no_clash h k n [] comment [] (line ∷ rest) are far ends e at formed bad =
    yes_no (is_comment line) (is_comment line) (ends_here comment line rest ends e) refl (bad.1 (omega (arith, far, at)))
no_clash h k n [] comment (b ∷ before) rest are far ends e at formed bad =
    yes_no (is_formed h k b) (is_symbol h (words_of b)) formed.0 (at_symbol h k b (omega (arith, far))) (comment_is_none h b (ends_here comment b (before ++ rest) ends e))
no_clash h k n (x ∷ known) comment [] rest are far ends e at formed bad =
    let here = starts_bad h n rest x (known ++ comment) bad (sym e) in
    let same : k ≡ n = omega (arith, at) in
    yes_no (is_formed h k x) (is_formed h n x) are.0 (ap (λ (m : ℕ). is_formed h m x) same) here.0
no_clash h k n (x ∷ known) comment (b ∷ before) rest are far ends e at formed bad =
    no_clash h (suc k) n known comment before rest are.1 (omega (arith, far)) ends (cons_tail x b (known ++ comment) (before ++ rest) e) (omega (arith, at)) formed.1 bad

module _ (bytes : List ℕ) (a : PlainAig) (f : IsFile bytes a) where
  abbrev known : List (List ℕ)
  known = f.inputs ++ (f.latches ++ (f.outputs ++ (f.gates ++ f.symbols)))

  input_lines : length f.inputs ≡ f.header.inputs
  input_lines = as_long (input_of f.header.most) f.inputs a.inputs f.are_inputs ∙ f.counts.inputs

  latch_lines : length f.latches ≡ f.header.latches
  latch_lines = as_long (latch_of f.header.most) f.latches a.latches f.are_latches ∙ f.counts.latches

  output_lines : length f.outputs ≡ f.header.outputs
  output_lines = as_long (output_of f.header.most) f.outputs a.outputs f.are_outputs ∙ f.counts.outputs

  gate_lines : length f.gates ≡ f.header.gates
  gate_lines = as_long (gate_of f.header.most) f.gates a.gates f.are_gates ∙ f.counts.gates

  known_far : due f.header ≤ 0 + length (f.inputs ++ (f.latches ++ (f.outputs ++ (f.gates ++ f.symbols))))
  known_far = omega (
    arith,
    input_lines,
    latch_lines,
    output_lines,
    gate_lines,
    length-append f.inputs (f.latches ++ (f.outputs ++ (f.gates ++ f.symbols))),
    length-append f.latches (f.outputs ++ (f.gates ++ f.symbols)),
    length-append f.outputs (f.gates ++ f.symbols),
    length-append f.gates f.symbols,
  )

  known_formed : AreFormed f.header 0 (f.inputs ++ (f.latches ++ (f.outputs ++ (f.gates ++ f.symbols))))
  known_formed =
      let h : Header = f.header in
      formed_join f.header 0 f.header.inputs f.inputs _ (omega (arith, input_lines))
      (are_formed (input_of f.header.most) f.header 0 f.inputs a.inputs (λ j line le lt. at_input f.header j line (omega (arith, lt, f.counts.inputs))) f.are_inputs)
      (formed_join f.header f.header.inputs (f.header.inputs + f.header.latches) f.latches _ (omega (arith, latch_lines))
      (are_formed (latch_of f.header.most) f.header f.header.inputs f.latches a.latches (λ j line le lt. at_latch f.header j line le (omega (arith, lt, f.counts.latches))) f.are_latches)
      (formed_join f.header (f.header.inputs + f.header.latches) (f.header.inputs + f.header.latches + f.header.outputs) f.outputs _ (omega (arith, output_lines))
      (are_formed (output_of f.header.most) f.header (f.header.inputs + f.header.latches) f.outputs a.outputs (λ j line le lt. at_output f.header j line le (omega (arith, lt, f.counts.outputs))) f.are_outputs)
      (formed_join f.header (f.header.inputs + f.header.latches + f.header.outputs) (due f.header) f.gates _ (omega (arith, gate_lines))
      (are_formed (gate_of f.header.most) f.header (f.header.inputs + f.header.latches + f.header.outputs) f.gates a.gates (λ j line le lt. at_gate f.header j line le (omega (arith, lt, f.counts.gates))) f.are_gates)
      (symbols_formed f.header (due f.header) f.symbols (omega arith) f.are_symbols))))

  known_lines : (f.inputs ++ (f.latches ++ (f.outputs ++ (f.gates ++ (f.symbols ++ f.comment))))) ≡ (f.inputs ++ (f.latches ++ (f.outputs ++ (f.gates ++ f.symbols)))) ++ f.comment
  known_lines = sym (
      append_assoc f.inputs (f.latches ++ (f.outputs ++ (f.gates ++ f.symbols))) f.comment
      ∙ ap (λ (r : List (List ℕ)). f.inputs ++ r) (append_assoc f.latches (f.outputs ++ (f.gates ++ f.symbols)) f.comment
      ∙ ap (λ (r : List (List ℕ)). f.latches ++ r) (append_assoc f.outputs (f.gates ++ f.symbols) f.comment
      ∙ ap (λ (r : List (List ℕ)). f.outputs ++ r) (append_assoc f.gates f.symbols f.comment))))

  -- a file of a graph has no bad line
  pub file_or_bad : (number : ℕ) → IsFirstBadLine bytes number → ⊥
  file_or_bad number (NoLine none is) = absurd (let e = sym f.lines ∙ none in cc)
  file_or_bad number (NoHeader line rest lines none is) =
      let first = cons_head f.first line _ rest (sym f.lines ∙ lines) in
      absurd (let e : Some f.header ≡ None = sym f.is_header ∙ (ap (λ l. header_of (words_of l)) first ∙ none) in cc)
  file_or_bad number (BadLine h line before rest lines head formed bad is) =
      let first = cons_head f.first line _ (before ++ rest) (sym f.lines ∙ lines) in
      let same : h ≡ f.header = some_inj h f.header (sym head ∙ (ap (λ l. header_of (words_of l)) (sym first) ∙ f.is_header)) in
      no_clash f.header 0 (length before) known f.comment before rest known_formed known_far f.ends
      (sym known_lines ∙ cons_tail f.first line _ (before ++ rest) (sym f.lines ∙ lines))
      (omega arith)
      (subst (λ (g : Header). AreFormed g 0 before) same formed)
      (subst (λ (g : Header). IsBad g (length before) rest) same bad)

-- ---- no entry that passes a test is the first that does
pub none_or_first : {A : Type 0} (test : List A → A → Bool) (xs : List A) (x : A) → HasNone test xs → IsFirst test xs x → ⊥
none_or_first test xs x none first = let e = none.none first.before x first.after first.split in let p = first.passes in absurd (cc)
