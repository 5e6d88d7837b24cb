-- Lines that are put one after the other.
use Rattle.std.proofs.Common.{◌≡◌, ℕ, suc, ◌+◌, ◌<◌, ◌≤◌, List, [], ◌∷◌, ◌++◌, length, drop, map, get_or, sym, ap, ◌∙◌, append_assoc, arith, drop-cons}
use Rattle.std.proofs.lemmas.List.Concat.{flat_map-append}
use Rattle.std.specs.Prelude.{codes}
use Rattle.blif_writer.specs.Text.{line_text, lines_text}
use Rattle.blif_writer.proofs.Putting.{line_put, more_put, one_put}
use Rattle.aag_text.specs.declared.aig.Literal.{Literal}
use Rattle.std.proofs.Common.{Bool, true, false, Option, Some, slice_get}
use Rattle.std.specs.Prelude.{if◌then◌else◌}
use Rattle.std.proofs.lemmas.List.{get_or-map, length-map}
use Rattle.std.proofs.lemmas.Option.{slice_get_within, get_or_from_slice_get}
use Rattle.flat_net.specs.Net.{Net, Node, Table, Register, node_of, name_of}
use Rattle.blif_writer.proofs.NodeLines.{node_at, input_name}
use Rattle.aag_text.specs.Same.{registers, registers_from}
use Rattle.aag_text.specs.Private.Nets.{is_register_at}
use Rattle.aag_text.specs.Private.Puts.{symbol_line, register_symbols, next_symbol}
use Rattle.aag_text.specs.Aig.{PlainAig}
use Rattle.aag_text.specs.Text.{variable_word, literal_word, header, header_line, latch_line, gate_line, aig_lines, symbol_lines, design_symbols, aag_text}

-- one line more of a list
pub lines_more : {A : Type 0} (f : A → List (List ℕ)) (xs : List A) (i : ℕ) (d : A) (old new total : List ℕ) → i < length xs → new ≡ old ++ line_text (f (get_or xs i d)) → old ++ lines_text (map f (drop i xs)) ≡ total → new ++ lines_text (map f (drop (i + 1) xs)) ≡ total
lines_more f xs i d old new total l is e =
    let here : drop i xs ≡ get_or xs i d ∷ drop (i + 1) xs = drop-cons xs i d l ∙ ap (λ (k : ℕ). get_or xs i d ∷ drop k xs) (let q : suc i ≡ i + 1 = omega arith in q) in
    ap (λ (o : List ℕ). o ++ lines_text (map f (drop (i + 1) xs))) is
    ∙ (append_assoc old (line_text (f (get_or xs i d))) (lines_text (map f (drop (i + 1) xs)))
    ∙ (ap (λ (r : List _). old ++ lines_text (map f r)) (sym here) ∙ e))

-- the lines of a graph are put
pub graph_put : (a : PlainAig) (m : ℕ) (o0 o1 o2 o3 o4 o5 : List ℕ) → o1 ≡ o0 ++ line_text (header_line (header m a)) → o2 ≡ o1 ++ lines_text (map (λ v. variable_word v ∷ []) a.inputs) → o3 ≡ o2 ++ lines_text (map latch_line a.latches) → o4 ≡ o3 ++ lines_text (map (λ (l : Literal). literal_word l ∷ []) a.outputs) → o5 ≡ o4 ++ lines_text (map gate_line a.gates) → o5 ≡ o0 ++ lines_text (aig_lines m a)
graph_put a m o0 o1 o2 o3 o4 o5 e1 e2 e3 e4 e5 =
    let h : List ℕ = line_text (header_line (header m a)) in
    let i : List (List (List ℕ)) = map (λ v. variable_word v ∷ []) a.inputs in
    let l : List (List (List ℕ)) = map latch_line a.latches in
    let o : List (List (List ℕ)) = map (λ (k : Literal). literal_word k ∷ []) a.outputs in
    let g : List (List (List ℕ)) = map gate_line a.gates in
    let s4 : o5 ≡ o3 ++ lines_text (o ++ g) = e5 ∙ (ap (λ (t : List ℕ). t ++ lines_text g) e4 ∙ (append_assoc o3 (lines_text o) (lines_text g) ∙ ap (λ (t : List ℕ). o3 ++ t) (sym (flat_map-append line_text o g)))) in
    let s3 : o5 ≡ o2 ++ lines_text (l ++ (o ++ g)) = s4 ∙ (ap (λ (t : List ℕ). t ++ lines_text (o ++ g)) e3 ∙ (append_assoc o2 (lines_text l) (lines_text (o ++ g)) ∙ ap (λ (t : List ℕ). o2 ++ t) (sym (flat_map-append line_text l (o ++ g))))) in
    let s2 : o5 ≡ o1 ++ lines_text (i ++ (l ++ (o ++ g))) = s3 ∙ (ap (λ (t : List ℕ). t ++ lines_text (l ++ (o ++ g))) e2 ∙ (append_assoc o1 (lines_text i) (lines_text (l ++ (o ++ g))) ∙ ap (λ (t : List ℕ). o1 ++ t) (sym (flat_map-append line_text i (l ++ (o ++ g)))))) in
    s2 ∙ (ap (λ (t : List ℕ). t ++ lines_text (i ++ (l ++ (o ++ g)))) e1 ∙ append_assoc o0 h (lines_text (i ++ (l ++ (o ++ g)))))

pub header_put : (m i l o a o0 o1 o2 o3 o4 o5 o6 o7 : List ℕ) → o1 ≡ o0 ++ codes "aag" → o2 ≡ o1 ++ 32 ∷ m → o3 ≡ o2 ++ 32 ∷ i → o4 ≡ o3 ++ 32 ∷ l → o5 ≡ o4 ++ 32 ∷ o → o6 ≡ o5 ++ 32 ∷ a → o7 ≡ o6 ++ 10 ∷ [] → o7 ≡ o0 ++ line_text (codes "aag" ∷ m ∷ i ∷ l ∷ o ∷ a ∷ [])
header_put m i l o a o0 o1 o2 o3 o4 o5 o6 o7 e1 e2 e3 e4 e5 e6 e7 =
    let w5 = one_put o5 o6 a e6 in
    let w4 = more_put o4 o5 o6 (o ∷ []) (a ∷ []) (one_put o4 o5 o e5) w5 in
    let w3 = more_put o3 o4 o6 (l ∷ []) (o ∷ a ∷ []) (one_put o3 o4 l e4) w4 in
    let w2 = more_put o2 o3 o6 (i ∷ []) (l ∷ o ∷ a ∷ []) (one_put o2 o3 i e3) w3 in
    let w1 = more_put o1 o2 o6 (m ∷ []) (i ∷ l ∷ o ∷ a ∷ []) (one_put o1 o2 m e2) w2 in
    line_put o0 o1 o6 o7 (codes "aag") (m ∷ i ∷ l ∷ o ∷ a ∷ []) e1 w1 e7

-- one symbol more
pub symbol_more : (letter k : ℕ) (names : List (List ℕ)) (i : ℕ) (name old new total : List ℕ) → i < length names → name ≡ get_or names i [] → new ≡ old ++ line_text (symbol_line letter k name) → old ++ lines_text (symbol_lines letter k (drop i names)) ≡ total → new ++ lines_text (symbol_lines letter (k + 1) (drop (i + 1) names)) ≡ total
symbol_more letter k names i name old new total l named is e =
    let here : drop i names ≡ get_or names i [] ∷ drop (i + 1) names = drop-cons names i [] l ∙ ap (λ (m : ℕ). get_or names i [] ∷ drop m names) (let q : suc i ≡ i + 1 = omega arith in q) in
    let rest : List ℕ = lines_text (symbol_lines letter (k + 1) (drop (i + 1) names)) in
    ap (λ (o : List ℕ). o ++ rest) (is ∙ ap (λ (m : List ℕ). old ++ line_text (symbol_line letter k m)) named)
    ∙ (append_assoc old (line_text (symbol_line letter k (get_or names i []))) rest
    ∙ (ap (λ (r : List (List ℕ)). old ++ lines_text (symbol_lines letter k r)) (sym here) ∙ e))

pub input_more : (n : Net) (i : ℕ) (name old new total : List ℕ) → i < length n.inputs → name ≡ name_of n i → new ≡ old ++ line_text (symbol_line 105 i name) → old ++ lines_text (symbol_lines 105 i (drop i n.inputs)) ≡ total → new ++ lines_text (symbol_lines 105 (i + 1) (drop (i + 1) n.inputs)) ≡ total
input_more n i name old new total l named is e = symbol_more 105 i n.inputs i name old new total l (named ∙ input_name n i l) is e

pub output_more : (n : Net) (k x : ℕ) (name old new total : List ℕ) → slice_get n.outputs k ≡ Some x → name ≡ name_of n x → new ≡ old ++ line_text (symbol_line 111 k name) → old ++ lines_text (symbol_lines 111 k (drop k (map (name_of n) n.outputs))) ≡ total → new ++ lines_text (symbol_lines 111 (k + 1) (drop (k + 1) (map (name_of n) n.outputs))) ≡ total
output_more n k x name old new total at named is e =
    let l : k < length n.outputs = slice_get_within n.outputs k x at in
    symbol_more 111 k (map (name_of n) n.outputs) k name old new total (omega (arith, l, length-map n.outputs (name_of n)))
    (named ∙ (ap (name_of n) (sym (get_or_from_slice_get n.outputs k x 0 at)) ∙ sym (get_or-map (name_of n) n.outputs k 0 [] l))) is e

one_symbol : (n : Net) (j x : ℕ) (node : Node) (nodes : List Node) → node_of n x ≡ Some node → symbol_lines 108 j (map (name_of n) (registers_from x (node ∷ nodes))) ≡ register_symbols n j x ++ symbol_lines 108 (next_symbol n j x) (map (name_of n) (registers_from (x + 1) nodes))
one_symbol n j x (Table name cover pins) nodes e = sym (ap (λ (o : Option Node). (if is_register_at o then symbol_line 108 j (name_of n x) ∷ [] else []) ++ symbol_lines 108 (if is_register_at o then j + 1 else j) (map (name_of n) (registers_from (x + 1) nodes))) e)
one_symbol n j x (Register name init pin) nodes e = sym (ap (λ (o : Option Node). (if is_register_at o then symbol_line 108 j (name_of n x) ∷ [] else []) ++ symbol_lines 108 (if is_register_at o then j + 1 else j) (map (name_of n) (registers_from (x + 1) nodes))) e)

pub register_more : (n : Net) (i j x next : ℕ) (old new total : List ℕ) → i < length n.nodes → x ≡ length n.inputs + i → next ≡ next_symbol n j x → new ≡ old ++ lines_text (register_symbols n j x)
    → old ++ lines_text (symbol_lines 108 j (map (name_of n) (registers_from (length n.inputs + i) (drop i n.nodes)))) ≡ total
    → new ++ lines_text (symbol_lines 108 next (map (name_of n) (registers_from (length n.inputs + (i + 1)) (drop (i + 1) n.nodes)))) ≡ total
register_more n i j x next old new total l place after is e =
    let d : Node = Register [] false 0 in
    let here : drop i n.nodes ≡ get_or n.nodes i d ∷ drop (i + 1) n.nodes = drop-cons n.nodes i d l ∙ ap (λ (k : ℕ). get_or n.nodes i d ∷ drop k n.nodes) (let s : suc i ≡ i + 1 = omega arith in s) in
    let node : node_of n x ≡ Some (get_or n.nodes i d) = ap (node_of n) place ∙ node_at n i d l in
    let more : List (List (List ℕ)) = symbol_lines 108 (next_symbol n j x) (map (name_of n) (registers_from (x + 1) (drop (i + 1) n.nodes))) in
    let step : symbol_lines 108 j (map (name_of n) (registers_from (length n.inputs + i) (drop i n.nodes))) ≡ register_symbols n j x ++ more =
    ap (λ (y : ℕ). symbol_lines 108 j (map (name_of n) (registers_from y (drop i n.nodes)))) (sym place)
    ∙ (ap (λ (nodes : List Node). symbol_lines 108 j (map (name_of n) (registers_from x nodes))) here ∙ one_symbol n j x (get_or n.nodes i d) (drop (i + 1) n.nodes) node) in
    let further : length n.inputs + (i + 1) ≡ x + 1 = omega (arith, place) in
    ap (λ (y : ℕ). new ++ lines_text (symbol_lines 108 next (map (name_of n) (registers_from y (drop (i + 1) n.nodes))))) further
    ∙ (ap (λ (m : ℕ). new ++ lines_text (symbol_lines 108 m (map (name_of n) (registers_from (x + 1) (drop (i + 1) n.nodes))))) after
    ∙ (ap (λ (o : List ℕ). o ++ lines_text more) is
    ∙ (append_assoc old (lines_text (register_symbols n j x)) (lines_text more)
    ∙ (ap (λ (t : List ℕ). old ++ t) (sym (flat_map-append line_text (register_symbols n j x) more))
    ∙ (ap (λ (ls : List (List (List ℕ))). old ++ lines_text ls) (sym step) ∙ e)))))

pub next_bound : (n : Net) (j x next i : ℕ) → next ≡ next_symbol n j x → j ≤ i → next ≤ i + 1
next_bound n j x next i e l = go (is_register_at (node_of n x)) e
  where
    go : (b : Bool) → next ≡ (if b then j + 1 else j) → next ≤ i + 1
    go true e = omega (arith, e, l)
    go false e = omega (arith, e, l)

-- the whole file is put
pub file_put : (a : PlainAig) (m : ℕ) (n : Net) (o0 o1 o2 o3 o4 : List ℕ) → o0 ≡ [] → o1 ≡ o0 ++ lines_text (aig_lines m a) → o2 ≡ o1 ++ lines_text (symbol_lines 105 0 n.inputs) → o3 ≡ o2 ++ lines_text (symbol_lines 108 0 (map (name_of n) (registers n))) → o4 ≡ o3 ++ lines_text (symbol_lines 111 0 (map (name_of n) n.outputs)) → o4 ≡ aag_text m a n
file_put a m n o0 o1 o2 o3 o4 e0 e1 e2 e3 e4 =
    let i : List (List (List ℕ)) = symbol_lines 105 0 n.inputs in
    let l : List (List (List ℕ)) = symbol_lines 108 0 (map (name_of n) (registers n)) in
    let o : List (List (List ℕ)) = symbol_lines 111 0 (map (name_of n) n.outputs) in
    let s3 : o4 ≡ o2 ++ lines_text (l ++ o) = e4 ∙ (ap (λ (t : List ℕ). t ++ lines_text o) e3 ∙ (append_assoc o2 (lines_text l) (lines_text o) ∙ ap (λ (t : List ℕ). o2 ++ t) (sym (flat_map-append line_text l o)))) in
    let s2 : o4 ≡ o1 ++ lines_text (i ++ (l ++ o)) = s3 ∙ (ap (λ (t : List ℕ). t ++ lines_text (l ++ o)) e2 ∙ (append_assoc o1 (lines_text i) (lines_text (l ++ o)) ∙ ap (λ (t : List ℕ). o1 ++ t) (sym (flat_map-append line_text i (l ++ o))))) in
    s2 ∙ (ap (λ (t : List ℕ). t ++ lines_text (i ++ (l ++ o))) (e1 ∙ ap (λ (t : List ℕ). t ++ lines_text (aig_lines m a)) e0) ∙ sym (flat_map-append line_text (aig_lines m a) (design_symbols n)))
