-- The statements of a flat text spell one model, and reading the text gives it.
use Rattle.std.proofs.Common.{◌≡◌, ℕ, ◌+◌, ◌-◌, ◌⊎◌, inl, inr, Bool, true, false, List, [], ◌∷◌, ◌++◌, length, map, Option, Some, None, Ok, refl, sym, ap, subst, ◌∙◌, append_assoc, arith}
use Rattle.std.specs.Prelude.{codes}
use Rattle.std.specs.List.{list_all, flat_map}
use Rattle.std.proofs.lemmas.List.{length-append, length-map, append-nil}
use Rattle.tmr_base.specs.declared.ids.Edge.{Edge}
use Rattle.tmr_base.specs.declared.ids.Edge.TheVariants.{Rising, Falling}
use Rattle.table_cover.specs.Cover.{PlainCover, IsCover, is_mark}
use Rattle.flat_net.specs.Net.{Net, Node, Table, Register, name_of}
use Rattle.flat_net.proofs.Names.{eq_false}
use Rattle.blif_text.specs.Word.{word_of}
use Rattle.blif_text.specs.Text.{Statement, statement}
use Rattle.blif_text.specs.Library.{Differ}
use Rattle.blif_text.specs.Views.{marked, marked_rows}
use Rattle.blif_text.specs.Kind.{Marks, row_of, tokens_of, first_bad}
use Rattle.blif_text.specs.Models.{PlainElement, PlainModel, Table as TableElement, Register as LatchElement, edge, init, register, row_then, rows, table, elements, listed, is_port_in, is_port_out, appearing, model, own_then, own, model_then, models}
use Rattle.blif_text.specs.Reading.{reading_of, reading}
use Rattle.blif_text.proofs.Tables.{table_is}
use Rattle.library_faults.proofs.NameSets.{none_before}
use Rattle.blif_writer.specs.Text.{edge_word, row_line, row_lines, init_word, start_of, with_marks, net_words, clock_words, node_lines, free_lines, free_text}
use Rattle.blif_text.specs.declared.library.Init.{Init}
use Rattle.blif_text.specs.declared.library.Init.TheVariants.{Zero, One, Free, Unknown}
use Rattle.blif_writer.specs.Model.{element_of, free_model}
use Rattle.blif_writer.proofs.Clean.{numbered, statements_again}
use Rattle.blif_writer.proofs.KindLaws.{AreRows, rows_from, IsControl, IsSpelled, AreSpelled, IsText, first_word, bit_is, row_read, row_statement, row_numbered, table_statement, table_numbered, latch_words, latch_statement, latch_numbered, model_statement, inputs_statement, outputs_statement, behind_ports, flat_numbered, text_good, text_lines}

-- ---- the statements of nodes

-- the first word of a line of a node
abbrev IsBody : List ℕ → Type 0
IsBody w = (word_of w ≡ word_of (codes ".names")) ⊎ ((word_of w ≡ word_of (codes ".latch")) ⊎ (word_of w ≡ word_of (codes "1")))

abbrev AreBody : List (List (List ℕ)) → Type 0
AreBody [] = Unit {0}
AreBody ([] ∷ ls) = ⊥
AreBody ((w ∷ ws) ∷ ls) = IsBody w × AreBody ls

body_join : (xs ys : List (List (List ℕ))) → AreBody xs → AreBody ys → AreBody (xs ++ ys)
body_join [] ys a b = b
body_join ([] ∷ xs) ys a b = absurd a
body_join ((w ∷ ws) ∷ xs) ys a b = (a.0, body_join xs ys a.1 b)

row_body : (on : Bool) (marks : List ℕ) (ls : List (List (List ℕ))) → list_all is_mark marks ≡ true → AreBody ls → AreBody (row_line on marks ∷ ls)
row_body on [] ls e ok = (inr (inr (ap word_of (bit_is on) ∙ first_word on [] e)), ok)
row_body on (m ∷ ms) ls e ok = (inr (inr (first_word on (m ∷ ms) e)), ok)

rows_body : (on : Bool) (width : ℕ) (rs : List (List ℕ)) → AreRows width rs → AreBody (map (row_line on) rs)
rows_body on width [] ok = tt
rows_body on width (row ∷ rs) ok = row_body on row (map (row_line on) rs) ok.0.1 (rows_body on width rs ok.1)

node_body : (n : Net) (node : Node × Bool) → IsSpelled n node.0 → AreBody (node_lines n node)
node_body n (Table name cover pins, free) ok = (inl refl, rows_body cover.is_on cover.width cover.rows (rows_from cover.width cover.rows ok.3.rows))
node_body n (Register name init pin, free) ok = (inr (inl refl), tt)

nodes_body : (n : Net) (nodes : List (Node × Bool)) → AreSpelled n nodes → AreBody (flat_map (node_lines n) nodes)
nodes_body n [] ok = tt
nodes_body n (node ∷ nodes) ok = body_join (node_lines n node) (flat_map (node_lines n) nodes) (node_body n node ok.0) (nodes_body n nodes ok.1)

abbrev end_line : List (List (List ℕ))
end_line = (codes ".end" ∷ []) ∷ []

own_step : (w : List ℕ) (s : Statement) (rest : List Statement) → IsBody w → own_then (word_of w) s rest ≡ s ∷ rest
unfolding word_of
own_step w s rest (inl e) = ap (λ v. own_then v s rest) e
own_step w s rest (inr (inl e)) = ap (λ v. own_then v s rest) e
own_step w s rest (inr (inr e)) = ap (λ v. own_then v s rest) e

own_end : (number : ℕ) → own (numbered number end_line) ≡ []
unfolding own word_of
own_end number = refl

own_body : (number : ℕ) (ls : List (List (List ℕ))) → AreBody ls → own (numbered number (ls ++ end_line)) ≡ numbered number ls
unfolding own
own_body number [] ok = own_end number
own_body number ([] ∷ ls) ok = absurd ok
own_body number ((w ∷ ws) ∷ ls) ok =
    own_step w (statement number w ws) (own (numbered (number + 1) (ls ++ end_line))) ok.0 ∙ ap (λ (ss : List Statement). statement number w ws ∷ ss) (own_body (number + 1) ls ok.1)

models_step : (w : List ℕ) (s : Statement) (body : List Statement) (ms : List PlainModel) → IsBody w → model_then (word_of w) s body ms ≡ ms
unfolding word_of
models_step w s body ms (inl e) = ap (λ v. model_then v s body ms) e
models_step w s body ms (inr (inl e)) = ap (λ v. model_then v s body ms) e
models_step w s body ms (inr (inr e)) = ap (λ v. model_then v s body ms) e

models_end : (number : ℕ) → models (numbered number end_line) ≡ []
unfolding models word_of
models_end number = refl

models_body : (number : ℕ) (ls : List (List (List ℕ))) → AreBody ls → models (numbered number (ls ++ end_line)) ≡ []
unfolding models
models_body number [] ok = models_end number
models_body number ([] ∷ ls) ok = absurd ok
models_body number ((w ∷ ws) ∷ ls) ok =
    models_step w (statement number w ws) (own (numbered (number + 1) (ls ++ end_line))) (models (numbered (number + 1) (ls ++ end_line))) ok.0 ∙ models_body (number + 1) ls ok.1

no_port_in : (w : List ℕ) → IsBody w → is_port_in (word_of w) ≡ false
unfolding word_of
no_port_in w (inl e) = ap is_port_in e
no_port_in w (inr (inl e)) = ap is_port_in e
no_port_in w (inr (inr e)) = ap is_port_in e

no_port_out : (w : List ℕ) → IsBody w → is_port_out (word_of w) ≡ false
unfolding word_of
no_port_out w (inl e) = ap is_port_out e
no_port_out w (inr (inl e)) = ap is_port_out e
no_port_out w (inr (inr e)) = ap is_port_out e

no_inputs : (number : ℕ) (ls : List (List (List ℕ))) → AreBody ls → listed is_port_in (numbered number ls) ≡ []
unfolding listed
no_inputs number [] ok = refl
no_inputs number ([] ∷ ls) ok = absurd ok
no_inputs number ((w ∷ ws) ∷ ls) ok = rw (no_port_in w ok.0) (no_inputs (number + 1) ls ok.1)

no_outputs : (number : ℕ) (ls : List (List (List ℕ))) → AreBody ls → listed is_port_out (numbered number ls) ≡ []
unfolding listed
no_outputs number [] ok = refl
no_outputs number ([] ∷ ls) ok = absurd ok
no_outputs number ((w ∷ ws) ∷ ls) ok = rw (no_port_out w ok.0) (no_outputs (number + 1) ls ok.1)

-- ---- the elements of nodes

rows_again : (on : Bool) (width : ℕ) (rs : List (List ℕ)) (number : ℕ) (ls : List (List (List ℕ))) → AreRows width rs → ((later : ℕ) → rows width (numbered later ls) ≡ []) → rows width (numbered number (map (row_line on) rs ++ ls)) ≡ map (marked on) rs
unfolding rows word_of
rows_again on width [] number ls ok ends = ends number
rows_again on width (row ∷ rs) number ls ok ends =
    let read : row_of width (tokens_of (row_statement number on row)) ≡ Some (marked on row) = ap (λ (w : ℕ). row_of w (tokens_of (row_statement number on row))) (sym ok.0.0) ∙ row_read on row ok.0.1 in
    let here : rows width (row_statement number on row ∷ numbered (number + 1) (map (row_line on) rs ++ ls)) ≡ marked on row ∷ map (marked on) rs =
    ap (λ (o : Option Marks). row_then (word_of (codes "1")) o (rows width (numbered (number + 1) (map (row_line on) rs ++ ls)))) read ∙ ap (λ (ms : List Marks). marked on row ∷ ms) (rows_again on width rs (number + 1) ls ok.1 ends) in
    ap (rows width) (row_numbered number on row (map (row_line on) rs ++ ls) ok.0.1) ∙ here

rows_passed : (on : Bool) (width : ℕ) (rs : List (List ℕ)) (number : ℕ) (ls : List (List (List ℕ))) (es : List PlainElement) → AreRows width rs → ((later : ℕ) → elements (numbered later ls) ≡ es) → elements (numbered number (map (row_line on) rs ++ ls)) ≡ es
unfolding elements word_of
rows_passed on width [] number ls es ok is = is number
rows_passed on width (row ∷ rs) number ls es ok is =
    let here : elements (row_statement number on row ∷ numbered (number + 1) (map (row_line on) rs ++ ls)) ≡ es = rows_passed on width rs (number + 1) ls es ok.1 is in
    ap elements (row_numbered number on row (map (row_line on) rs ++ ls) ok.0.1) ∙ here

no_rows : (n : Net) (nodes : List (Node × Bool)) (width number : ℕ) → rows width (numbered number (flat_map (node_lines n) nodes)) ≡ []
unfolding rows word_of
no_rows n [] width number = refl
no_rows n ((Table name cover pins, free) ∷ nodes) width number = refl
no_rows n ((Register name init pin, free) ∷ nodes) width number = refl

table_again : (number : ℕ) (pins : List (List ℕ)) (out : List ℕ) (k : PlainCover) (ls : List (List (List ℕ))) (es : List PlainElement) → length pins ≡ k.width → IsCover k → ((width later : ℕ) → rows width (numbered later ls) ≡ []) → ((later : ℕ) → elements (numbered later ls) ≡ es)
    → elements (numbered number ((codes ".names" ∷ (pins ++ out ∷ [])) ∷ (row_lines k ++ ls))) ≡ TableElement pins out k ∷ es
unfolding elements word_of
table_again number pins out k ls es wide cover ends is =
    ap elements (table_numbered number (pins ++ out ∷ []) (row_lines k ++ ls)) ∙ here
  where
    behind : List Statement
    behind = numbered (number + 1) (row_lines k ++ ls)

    width : length (pins ++ out ∷ []) - 1 ≡ k.width
    width = omega (arith, length-append pins (out ∷ []), wide)

    are_rows : AreRows k.width k.rows
    are_rows = rows_from k.width k.rows cover.rows

    read : rows (length (pins ++ out ∷ []) - 1) (numbered (number + 1) (row_lines k ++ ls)) ≡ marked_rows k
    read = ap (λ (w : ℕ). rows w (numbered (number + 1) (row_lines k ++ ls))) width ∙ rows_again k.is_on k.width k.rows (number + 1) ls are_rows (ends k.width)

    first : table (pins ++ out ∷ []) (rows (length (pins ++ out ∷ []) - 1) (numbered (number + 1) (row_lines k ++ ls))) ≡ TableElement pins out k
    first = ap (table (pins ++ out ∷ [])) read ∙ table_is pins out k (sym wide) cover.empty_is_on

    rest : elements (numbered (number + 1) (row_lines k ++ ls)) ≡ es
    rest = rows_passed k.is_on k.width k.rows (number + 1) ls es are_rows is

    here : elements (table_statement number (pins ++ out ∷ []) ∷ numbered (number + 1) (row_lines k ++ ls)) ≡ TableElement pins out k ∷ es
    here = ap (λ (e : PlainElement). e ∷ elements (numbered (number + 1) (row_lines k ++ ls))) first ∙ ap (λ (more : List PlainElement). TableElement pins out k ∷ more) rest

init_again : (b : Init) → init (init_word b) ≡ b
init_again Zero = refl
init_again One = refl
init_again Free = refl
init_again Unknown = refl

edge_again : (e : Edge) → edge (edge_word e) ≡ e
edge_again Rising = refl
edge_again Falling = refl

latch_read : (pin out : List ℕ) (clock : Option (Edge × List ℕ)) (b : Init) → IsControl clock → register (latch_words pin out clock b) ≡ LatchElement pin out clock b ∷ []
unfolding register
latch_read pin out None b c = rw (init_again b) refl
latch_read pin out (Some (e, name)) b c = rw (init_again b, eq_false name (codes "NIL") c.1, edge_again e) refl

latch_again : (number : ℕ) (pin out : List ℕ) (clock : Option (Edge × List ℕ)) (b : Init) (ls : List (List (List ℕ))) (es : List PlainElement) → IsControl clock → ((later : ℕ) → elements (numbered later ls) ≡ es)
    → elements (numbered number ((codes ".latch" ∷ latch_words pin out clock b) ∷ ls)) ≡ LatchElement pin out clock b ∷ es
unfolding elements word_of
latch_again number pin out clock b ls es c is =
    ap elements (latch_numbered number (latch_words pin out clock b) ls) ∙ here
  where
    here : elements (latch_statement number (latch_words pin out clock b) ∷ numbered (number + 1) ls) ≡ LatchElement pin out clock b ∷ es
    here = ap (λ (e : List PlainElement). e ++ elements (numbered (number + 1) ls)) (latch_read pin out clock b c) ∙ ap (λ (more : List PlainElement). LatchElement pin out clock b ∷ more) (is (number + 1))

elements_again : (n : Net) (nodes : List (Node × Bool)) → AreSpelled n nodes → (number : ℕ) → elements (numbered number (flat_map (node_lines n) nodes)) ≡ map (element_of n) nodes
unfolding elements
elements_again n [] ok number = none
  where
    none : elements [] ≡ []
    none = refl
elements_again n ((Table name cover pins, free) ∷ nodes) ok number =
    table_again number (net_words n pins) name cover (flat_map (node_lines n) nodes) (map (element_of n) nodes) (length-map pins (name_of n) ∙ ok.0.2) ok.0.3 (no_rows n nodes) (elements_again n nodes ok.1)
elements_again n ((Register name init pin, free) ∷ nodes) ok number =
    latch_again number (name_of n pin) name n.clock (start_of free init) (flat_map (node_lines n) nodes) (map (element_of n) nodes) ok.0.2 (elements_again n nodes ok.1)

-- ---- the model

appearing_all : (listed names : List (List ℕ)) → Differ (listed ++ names) → appearing listed names ≡ listed ++ names
unfolding appearing
appearing_all listed [] differ = sym (append-nil listed)
appearing_all listed (name ∷ names) differ =
    let whole : (listed ++ name ∷ []) ++ names ≡ listed ++ name ∷ names = append_assoc listed (name ∷ []) names in
    rw (none_before listed name names differ) (appearing_all (listed ++ name ∷ []) names (subst Differ (sym whole) differ) ∙ whole)

-- the statements of the model
abbrev own_statements : Net → List Bool → List Statement
own_statements n free = inputs_statement n ∷ outputs_statement n ∷ numbered 4 (flat_map (node_lines n) (with_marks free n.nodes))

own_again : (n : Net) (free : List Bool) → IsText n free → own (inputs_statement n ∷ outputs_statement n ∷ numbered 4 (behind_ports n free)) ≡ own_statements n free
unfolding own word_of
own_again n free t = ap (λ (ss : List Statement). inputs_statement n ∷ outputs_statement n ∷ ss) (own_body 4 (flat_map (node_lines n) (with_marks free n.nodes)) (nodes_body n (with_marks free n.nodes) t.nodes))

no_more : (n : Net) (free : List Bool) → IsText n free → models (inputs_statement n ∷ outputs_statement n ∷ numbered 4 (behind_ports n free)) ≡ []
unfolding models word_of
no_more n free t = models_body 4 (flat_map (node_lines n) (with_marks free n.nodes)) (nodes_body n (with_marks free n.nodes) t.nodes)

inputs_again : (n : Net) (free : List Bool) → IsText n free → appearing [] (listed is_port_in (own_statements n free)) ≡ n.inputs ++ clock_words n.clock
unfolding listed word_of
inputs_again n free t =
    let none : listed is_port_in (numbered 4 (flat_map (node_lines n) (with_marks free n.nodes))) ≡ [] = no_inputs 4 (flat_map (node_lines n) (with_marks free n.nodes)) (nodes_body n (with_marks free n.nodes) t.nodes) in
    ap (λ (more : List (List ℕ)). appearing [] ((n.inputs ++ clock_words n.clock) ++ more)) none ∙ (ap (appearing []) (append-nil (n.inputs ++ clock_words n.clock)) ∙ appearing_all [] (n.inputs ++ clock_words n.clock) t.inputs_differ)

outputs_again : (n : Net) (free : List Bool) → IsText n free → listed is_port_out (own_statements n free) ≡ net_words n n.outputs
unfolding listed word_of
outputs_again n free t =
    let none : listed is_port_out (numbered 4 (flat_map (node_lines n) (with_marks free n.nodes))) ≡ [] = no_outputs 4 (flat_map (node_lines n) (with_marks free n.nodes)) (nodes_body n (with_marks free n.nodes) t.nodes) in
    ap (λ (more : List (List ℕ)). net_words n n.outputs ++ more) none ∙ append-nil (net_words n n.outputs)

own_elements : (n : Net) (free : List Bool) → IsText n free → elements (own_statements n free) ≡ map (element_of n) (with_marks free n.nodes)
unfolding elements word_of
own_elements n free t = elements_again n (with_marks free n.nodes) t.nodes 4

model_again : (n : Net) (free : List Bool) → IsText n free → model n.model (own_statements n free) ≡ free_model n free
unfolding model free_model
model_again n free t = rw (inputs_again n free t, outputs_again n free t, own_elements n free t) refl

models_again : (n : Net) (free : List Bool) → IsText n free → models (numbered 1 (free_lines n free)) ≡ free_model n free ∷ []
unfolding models word_of
models_again n free t = ap models (flat_numbered n free) ∙ whole
  where
    whole : models (model_statement n ∷ inputs_statement n ∷ outputs_statement n ∷ numbered 4 (behind_ports n free)) ≡ free_model n free ∷ []
    whole =
        ap (λ (body : List Statement). model n.model body ∷ models (inputs_statement n ∷ outputs_statement n ∷ numbered 4 (behind_ports n free))) (own_again n free t)
        ∙ (ap (λ (m : PlainModel). m ∷ models (inputs_statement n ∷ outputs_statement n ∷ numbered 4 (behind_ports n free))) (model_again n free t)
        ∙ ap (λ (ms : List PlainModel). free_model n free ∷ ms) (no_more n free t))

-- reading the text gives the one model
pub reading_again : (n : Net) (free : List Bool) → IsText n free → reading (free_text n free) ≡ Ok (free_model n free ∷ [])
unfolding reading_of
reading_again n free t =
    let whole = statements_again (free_lines n free) (text_lines n free t) in
    ap reading_of (whole ∙ flat_numbered n free) ∙ (first ∙ ap Ok (ap models (sym (flat_numbered n free)) ∙ models_again n free t))
  where
    first : reading_of (model_statement n ∷ inputs_statement n ∷ outputs_statement n ∷ numbered 4 (behind_ports n free)) ≡ Ok (models (model_statement n ∷ inputs_statement n ∷ outputs_statement n ∷ numbered 4 (behind_ports n free)))
    first = rw (ap (first_bad []) (sym (flat_numbered n free)) ∙ text_good n free t) refl
