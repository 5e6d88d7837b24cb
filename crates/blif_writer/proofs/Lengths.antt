-- How many bytes the text of a design has.
use Rattle.std.proofs.Common.{◌≡◌, ℕ, suc, ◌+◌, ◌*◌, Bool, true, false, List, [], ◌∷◌, ◌++◌, length, map, Option, Some, None, refl, sym, ap, ◌∙◌, arith}
use Rattle.std.specs.Prelude.{codes, ◌==◌}
use Rattle.std.specs.List.{flat_map, sum_by, join_with_byte}
use Rattle.std.proofs.Math.Nat.{suc-mul, zero-mul}
use Rattle.std.proofs.lemmas.List.{length-append}
use Rattle.std.proofs.lemmas.List.Sums.{sum_by-cons, sum_by-append}
use Rattle.std.proofs.lemmas.List.Concat.{flat_map-append}
use Rattle.tmr_base.specs.declared.ids.Edge.{Edge}
use Rattle.tmr_base.specs.declared.ids.Edge.TheVariants.{Rising, Falling}
use Rattle.flat_net.specs.Net.{Net, Node, Table, Register, IsValid, IsWired, net_count, name_of}
use Rattle.library_faults.specs.FlatText.{spaced as spaced_length, all_spaced, row_length, rows_length, control_length, element_length, text_length}
use Rattle.blif_writer.specs.Text.{bit, edge_word, row_line, row_lines, line_text, lines_text, net_words, clock_words, control_words, init_word, start_of, with_marks, node_lines, free_lines, free_text}
use Rattle.blif_text.specs.declared.library.Init.{Init}
use Rattle.blif_text.specs.declared.library.Init.TheVariants.{Zero, One, Free, Unknown}
use Rattle.blif_writer.specs.Left.{spaced}
use Rattle.blif_writer.specs.Model.{element_of, free_model}
use Rattle.blif_writer.specs.Length.{nets_length, node_length, flat_length}
use Rattle.blif_writer.proofs.Putting.{joined}
use Rattle.blif_writer.proofs.KindLaws.{AreRows, rows_from}
use Rattle.blif_writer.proofs.Valid.{EachMarked, each_node, each_marked}

spaced_long : (ws : List (List ℕ)) → length (spaced ws) ≡ all_spaced ws
spaced_long [] = refl
spaced_long (w ∷ ws) = omega (arith, length-append w (spaced ws), sum_by-cons spaced_length w ws, spaced_long ws)

line_long : (w : List ℕ) (ws : List (List ℕ)) → length (line_text (w ∷ ws)) ≡ length w + all_spaced ws + 1
line_long w ws = omega (arith, length-append (join_with_byte 32 (w ∷ ws)) (10 ∷ []), ap length (joined w ws), length-append w (spaced ws), spaced_long ws)

lines_long : (line : List (List ℕ)) (lines : List (List (List ℕ))) → length (lines_text (line ∷ lines)) ≡ length (line_text line) + length (lines_text lines)
lines_long line lines = length-append (line_text line) (lines_text lines)

more_long : (xs ys : List (List (List ℕ))) → length (lines_text (xs ++ ys)) ≡ length (lines_text xs) + length (lines_text ys)
more_long xs ys = ap length (flat_map-append line_text xs ys) ∙ length-append (lines_text xs) (lines_text ys)

bit_long : (b : Bool) → length (bit b) ≡ 1
bit_long true = refl
bit_long false = refl

init_long : (b : Init) → length (init_word b) ≡ 1
init_long Zero = refl
init_long One = refl
init_long Free = refl
init_long Unknown = refl

edge_long : (edge : Edge) → length (edge_word edge) ≡ 2
edge_long Rising = refl
edge_long Falling = refl

row_long : (on : Bool) (marks : List ℕ) → length (line_text (row_line on marks)) ≡ row_length (length marks)
row_long on [] = omega (arith, line_long (bit on) [], bit_long on)
row_long on (m ∷ ms) =
    let some : (length (m ∷ ms) == 0) ≡ false = grind arith in
    rw some (omega (arith, line_long (m ∷ ms) (bit on ∷ []), bit_long on, sum_by-cons spaced_length (bit on) []))

rows_long : (on : Bool) (width : ℕ) (rows : List (List ℕ)) → AreRows width rows → length (lines_text (map (row_line on) rows)) ≡ length rows * row_length width
rows_long on width [] ok = sym (zero-mul (row_length width))
rows_long on width (row ∷ rows) ok =
    let one : length (line_text (row_line on row)) ≡ row_length width = row_long on row ∙ ap row_length ok.0.0 in
    lines_long (row_line on row) (map (row_line on) rows) ∙ (ap (λ (k : ℕ). k + length (lines_text (map (row_line on) rows))) one ∙ (ap (λ (k : ℕ). row_length width + k) (rows_long on width rows ok.1) ∙ turned (row_length width) (length rows)))
  where
    turned : (r k : ℕ) → r + k * r ≡ suc k * r
    turned r k = omega (arith, suc-mul k r)

control_long : (c : Option (Edge × List ℕ)) → all_spaced (control_words c) ≡ control_length c
control_long None = refl
control_long (Some (edge, clock)) = omega (arith, sum_by-cons spaced_length (edge_word edge) (clock ∷ []), sum_by-cons spaced_length clock [], edge_long edge)

node_long : (n : Net) (node : Node × Bool) → IsWired (net_count n) node.0 → length (lines_text (node_lines n node)) ≡ element_length (element_of n node)
node_long n (Table name cover pins, free) wired =
    let words = net_words n pins in
    omega (arith, lines_long (codes ".names" ∷ (words ++ name ∷ [])) (row_lines cover), line_long (codes ".names") (words ++ name ∷ []), sum_by-append spaced_length words (name ∷ []), sum_by-cons spaced_length name [], rows_long cover.is_on cover.width cover.rows (rows_from cover.width cover.rows wired.2.rows))
node_long n (Register name init pin, free) wired =
    let last = control_words n.clock ++ init_word (start_of free init) ∷ [] in
    omega (arith, lines_long (codes ".latch" ∷ name_of n pin ∷ name ∷ last) [], line_long (codes ".latch") (name_of n pin ∷ name ∷ last), sum_by-cons spaced_length (name_of n pin) (name ∷ last), sum_by-cons spaced_length name last, sum_by-append spaced_length (control_words n.clock) (init_word (start_of free init) ∷ []), sum_by-cons spaced_length (init_word (start_of free init)) [], init_long (start_of free init), control_long n.clock)

nodes_long : (n : Net) (nodes : List (Node × Bool)) → EachMarked (IsWired (net_count n)) nodes → length (lines_text (flat_map (node_lines n) nodes)) ≡ sum_by element_length (map (element_of n) nodes)
nodes_long n [] each = refl
nodes_long n (node ∷ nodes) each = omega (arith, more_long (node_lines n node) (flat_map (node_lines n) nodes), node_long n node each.0, nodes_long n nodes each.1, sum_by-cons element_length (element_of n node) (map (element_of n) nodes))

-- the text of a design is as long as that of its one model
pub text_long : (n : Net) (free : List Bool) → IsValid n → length (free_text n free) ≡ text_length (free_model n free)
unfolding free_lines text_length free_model
text_long n free v =
    let inputs = n.inputs ++ clock_words n.clock in
    let outputs = net_words n n.outputs in
    let nodes = flat_map (node_lines n) (with_marks free n.nodes) in
    let end : List (List (List ℕ)) = (codes ".end" ∷ []) ∷ [] in
    omega (
      arith,
      lines_long (codes ".model" ∷ n.model ∷ []) ((codes ".inputs" ∷ inputs) ∷ (codes ".outputs" ∷ outputs) ∷ (nodes ++ end)),
      line_long (codes ".model") (n.model ∷ []),
      sum_by-cons spaced_length n.model [],
      lines_long (codes ".inputs" ∷ inputs) ((codes ".outputs" ∷ outputs) ∷ (nodes ++ end)),
      line_long (codes ".inputs") inputs,
      lines_long (codes ".outputs" ∷ outputs) (nodes ++ end),
      line_long (codes ".outputs") outputs,
      more_long nodes end,
      nodes_long n (with_marks free n.nodes) (each_marked (IsWired (net_count n)) free n.nodes (each_node n (IsWired (net_count n)) (λ x node lt at. v.unordered.wired x node at))),
    )

nets_long : (n : Net) (nets : List ℕ) → all_spaced (net_words n nets) ≡ nets_length n nets
nets_long n [] = refl
nets_long n (x ∷ nets) = sum_by-cons spaced_length (name_of n x) (net_words n nets) ∙ (ap (λ (k : ℕ). spaced_length (name_of n x) + k) (nets_long n nets) ∙ sym (sum_by-cons (λ y. spaced_length (name_of n y)) x nets))

element_long : (n : Net) (node : Node × Bool) → element_length (element_of n node) ≡ node_length n node.0
element_long n (Table name cover pins, free) = ap (λ (k : ℕ). 7 + k + spaced_length name + rows_length cover) (nets_long n pins)
element_long n (Register name init pin, free) = refl

one_more : (n : Net) (node : Node) (bit : Bool) (rest : List (Node × Bool)) (nodes : List Node) → sum_by element_length (map (element_of n) rest) ≡ sum_by (node_length n) nodes → sum_by element_length (map (element_of n) ((node, bit) ∷ rest)) ≡ sum_by (node_length n) (node ∷ nodes)
one_more n node bit rest nodes e = sum_by-cons element_length (element_of n (node, bit)) (map (element_of n) rest) ∙ (ap (λ (k : ℕ). k + sum_by element_length (map (element_of n) rest)) (element_long n (node, bit)) ∙ (ap (λ (k : ℕ). node_length n node + k) e ∙ sym (sum_by-cons (node_length n) node nodes)))

elements_long : (n : Net) (free : List Bool) (nodes : List Node) → sum_by element_length (map (element_of n) (with_marks free nodes)) ≡ sum_by (node_length n) nodes
unfolding with_marks
elements_long n [] [] = refl
elements_long n (bit ∷ free) [] = refl
elements_long n [] (node ∷ nodes) = one_more n node false (with_marks [] nodes) nodes (elements_long n [] nodes)
elements_long n (bit ∷ free) (node ∷ nodes) = one_more n node bit (with_marks free nodes) nodes (elements_long n free nodes)

-- and that is a sum over its nodes and their pins
pub model_long : (n : Net) (free : List Bool) → text_length (free_model n free) ≡ flat_length n
unfolding text_length free_model flat_length
model_long n free = omega (arith, sum_by-append spaced_length n.inputs (clock_words n.clock), nets_long n n.outputs, elements_long n free n.nodes)

pub text_sum : (n : Net) (free : List Bool) → IsValid n → length (free_text n free) ≡ flat_length n
text_sum n free v = text_long n free v ∙ model_long n free
