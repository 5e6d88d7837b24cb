-- The lines of nodes, node by node.
use Rattle.std.proofs.Common.{◌≡◌, ℕ, zero, suc, ◌+◌, ◌-◌, ◌<◌, ◌≤◌, Bool, true, false, List, [], ◌∷◌, ◌++◌, length, map, drop, get_or, slice_get, Option, Some, None, refl, sym, ap, ◌∙◌, append_assoc, arith}
use Rattle.std.specs.Prelude.{codes}
use Rattle.std.specs.List.{flat_map}
use Rattle.std.proofs.lemmas.List.{append-nil, drop_all, drop_more, get_or-map, get_or_append_left, get_or-append-add}
use Rattle.std.proofs.lemmas.List.Concat.{flat_map-append}
use Rattle.std.proofs.lemmas.Option.{slice_get-get_or}
use Rattle.table_cover.specs.Cover.{PlainCover}
use Rattle.flat_net.specs.Net.{Net, Node, Table, Register, slot, node_of, node_name, name_of, pins_at, IsCoverOf, IsInitOf}
use Rattle.flat_net.specs.Free.{node_bit}
use Rattle.flat_net.proofs.Slots.{slot_at, slot_within}
use Rattle.std.specs.Option.{unwrap_or}
use Rattle.std.specs.Prelude.{nat_lt, if◌then◌else◌}
use Rattle.flat_net.specs.declared.kind.Kind.TheVariants as kind
use Rattle.flat_net.specs.Kinds.{kind_of}
use Rattle.blif_writer.specs.Text.{init_word, start_of, with_marks, line_text, lines_text, net_words, control_words, row_lines, node_lines}
use Rattle.blif_writer.specs.Left.{spaced, lines_at, nodes_left}
use Rattle.blif_writer.proofs.Putting.{line_put, lines_put, more_put, one_put}

-- the name of an input
pub input_name : (n : Net) (x : ℕ) → x < length n.inputs → name_of n x ≡ get_or n.inputs x []
input_name n x lt = get_or_append_left n.inputs (map node_name n.nodes) [] x lt

-- the name of node i
pub node_name_at : (n : Net) (i : ℕ) (node : Node) → i < length n.nodes → name_of n (length n.inputs + i) ≡ node_name (get_or n.nodes i node)
node_name_at n i node lt = get_or-append-add n.inputs (map node_name n.nodes) i [] ∙ get_or-map node_name n.nodes i node [] lt

pub node_at : (n : Net) (i : ℕ) (node : Node) → i < length n.nodes → node_of n (length n.inputs + i) ≡ Some (get_or n.nodes i node)
node_at n i node lt =
    let less : length n.inputs + i - length n.inputs ≡ i = omega arith in
    slot_at (length n.inputs) n.nodes (length n.inputs + i) (omega arith) ∙ (ap (slice_get n.nodes) less ∙ slice_get-get_or n.nodes i node lt)

-- the name of a node
pub name_is : (n : Net) (x : ℕ) (node : Node) → node_of n x ≡ Some node → name_of n x ≡ node_name node
name_is n x node e =
    let within = slot_within (length n.inputs) n.nodes x node e in
    let i : ℕ = x - length n.inputs in
    let whole : x ≡ length n.inputs + i = omega (arith, within.0) in
    let lt : i < length n.nodes = omega (arith, within.0, within.1) in
    let here : node_of n x ≡ Some (get_or n.nodes i node) = ap (node_of n) whole ∙ node_at n i node lt in
    let same : get_or n.nodes i node ≡ node = some_is (get_or n.nodes i node) node (sym here ∙ e) in
    ap (name_of n) whole ∙ (node_name_at n i node lt ∙ ap node_name same)
  where
    some_is : (a b : Node) → Some a ≡ Some b → a ≡ b
    some_is a b e = cc

-- a table's lines are put
pub table_put : (n : Net) (free : Bool) (x : ℕ) (o : Option Node) (k : PlainCover) (name old o1 o2 o3 o4 o5 : List ℕ) → node_of n x ≡ o → IsCoverOf o k → name ≡ name_of n x
    → o1 ≡ old ++ codes ".names" → o2 ≡ o1 ++ spaced (net_words n (pins_at o)) → o3 ≡ o2 ++ 32 ∷ name → o4 ≡ o3 ++ 10 ∷ [] → o5 ≡ o4 ++ lines_text (row_lines k)
    → o5 ≡ old ++ lines_text (lines_at n o free)
table_put n free x None k name old o1 o2 o3 o4 o5 at cover is e1 e2 e3 e4 e5 = absurd cover
table_put n free x (Some (Register other init pin)) k name old o1 o2 o3 o4 o5 at cover is e1 e2 e3 e4 e5 = absurd cover
table_put n free x (Some (Table own c pins)) k name old o1 o2 o3 o4 o5 at cover is e1 e2 e3 e4 e5 =
    let named : name ≡ own = is ∙ name_is n x (Table own c pins) at in
    let words : o3 ≡ o1 ++ spaced (net_words n pins ++ own ∷ []) = more_put o1 o2 o3 (net_words n pins) (own ∷ []) e2 (one_put o2 o3 own (e3 ∙ ap (λ (w : List ℕ). o2 ++ 32 ∷ w) named)) in
    let line : o4 ≡ old ++ line_text (codes ".names" ∷ (net_words n pins ++ own ∷ [])) = line_put old o1 o3 o4 (codes ".names") (net_words n pins ++ own ∷ []) e1 words e4 in
    let all = lines_put old o4 o5 (codes ".names" ∷ (net_words n pins ++ own ∷ [])) (row_lines c) line (e5 ∙ ap (λ (d : PlainCover). o4 ++ lines_text (row_lines d)) (sym cover)) in
    all

-- a register's line is put
pub register_put : (n : Net) (free : Bool) (x : ℕ) (o : Option Node) (b : Bool) (name old o1 o2 o3 o4 o5 o6 : List ℕ) → node_of n x ≡ o → IsInitOf o b → name ≡ name_of n x
    → o1 ≡ old ++ codes ".latch" → o2 ≡ o1 ++ spaced (net_words n (pins_at o)) → o3 ≡ o2 ++ 32 ∷ name → o4 ≡ o3 ++ spaced (control_words n.clock) → o5 ≡ o4 ++ 32 ∷ init_word (start_of free b) → o6 ≡ o5 ++ 10 ∷ []
    → o6 ≡ old ++ lines_text (lines_at n o free)
register_put n free x None b name old o1 o2 o3 o4 o5 o6 at init is e1 e2 e3 e4 e5 e6 = absurd init
register_put n free x (Some (Table own c pins)) b name old o1 o2 o3 o4 o5 o6 at init is e1 e2 e3 e4 e5 e6 = absurd init
register_put n free x (Some (Register own start pin)) b name old o1 o2 o3 o4 o5 o6 at init is e1 e2 e3 e4 e5 e6 =
    let named : name ≡ own = is ∙ name_is n x (Register own start pin) at in
    let control : List (List ℕ) = control_words n.clock in
    let ends : o3 ≡ o1 ++ spaced (name_of n pin ∷ own ∷ []) = more_put o1 o2 o3 (name_of n pin ∷ []) (own ∷ []) e2 (one_put o2 o3 own (e3 ∙ ap (λ (w : List ℕ). o2 ++ 32 ∷ w) named)) in
    let last : o5 ≡ o3 ++ spaced (control ++ init_word (start_of free start) ∷ []) = more_put o3 o4 o5 control (init_word (start_of free start) ∷ []) e4 (one_put o4 o5 (init_word (start_of free start)) (e5 ∙ ap (λ (v : Bool). o4 ++ 32 ∷ init_word (start_of free v)) (sym init))) in
    let words : o5 ≡ o1 ++ spaced (name_of n pin ∷ own ∷ (control ++ init_word (start_of free start) ∷ [])) = more_put o1 o3 o5 (name_of n pin ∷ own ∷ []) (control ++ init_word (start_of free start) ∷ []) ends last in
    let line = line_put old o1 o5 o6 (codes ".latch") (name_of n pin ∷ own ∷ (control ++ init_word (start_of free start) ∷ [])) e1 words e6 in
    line ∙ ap (λ (t : List ℕ). old ++ t) (sym (append-nil (line_text (codes ".latch" ∷ name_of n pin ∷ own ∷ (control ++ init_word (start_of free start) ∷ [])))))

-- an input has no lines
pub input_put : (n : Net) (free : Bool) (o : Option Node) (out : List ℕ) → kind_of o ≡ kind.Input → out ≡ out ++ lines_text (lines_at n o free)
input_put n free None out e = sym (append-nil out)
input_put n free (Some (Table name cover pins)) out e = absurd cc
input_put n free (Some (Register name init pin)) out e = absurd cc

pub marks_long : (free : List Bool) (nodes : List Node) → length (with_marks free nodes) ≡ length nodes
unfolding with_marks
marks_long [] [] = refl
marks_long (bit ∷ free) [] = refl
marks_long [] (node ∷ nodes) = omega (arith, marks_long [] nodes)
marks_long (bit ∷ free) (node ∷ nodes) = omega (arith, marks_long free nodes)

abbrev pub bit_of : List Bool → ℕ → Bool
bit_of free i = unwrap_or (slice_get free i) false

-- a node stands with its mark
marked_at : (free : List Bool) (nodes : List Node) (i : ℕ) (node : Node) (d : Node × Bool) → i < length nodes → get_or (with_marks free nodes) i d ≡ (get_or nodes i node, bit_of free i)
unfolding with_marks
marked_at free [] i node d l = absurd (omega arith)
marked_at [] (other ∷ nodes) zero node d l = refl
marked_at [] (other ∷ nodes) (suc i) node d l = marked_at [] nodes i node d (omega arith)
marked_at (bit ∷ free) (other ∷ nodes) zero node d l = refl
marked_at (bit ∷ free) (other ∷ nodes) (suc i) node d l = marked_at free nodes i node d (omega arith)

pub bit_is : (start : ℕ) (free : List Bool) (x i : ℕ) → x ≡ start + i → node_bit start free x ≡ bit_of free i
bit_is start free x i e =
    let less : x - start ≡ i = omega (arith, e) in
    ap (λ (o : Option Bool). unwrap_or o false) (slot_at start free x (omega (arith, e)) ∙ ap (slice_get free) less)

pub node_bit_none : (start x : ℕ) → node_bit start [] x ≡ false
unfolding slot
node_bit_none start x = go (nat_lt x start)
  where
    go : (b : Bool) → unwrap_or (if b then None else slice_get [] (x - start)) false ≡ false
    go true = refl
    go false = refl

-- one node more
pub node_put : (n : Net) (free : List Bool) (i x : ℕ) (out new total : List ℕ) → i < length n.nodes → x ≡ length n.inputs + i → new ≡ out ++ lines_text (lines_at n (node_of n x) (node_bit (length n.inputs) free x)) → out ++ nodes_left n free i ≡ total → new ++ nodes_left n free (i + 1) ≡ total
node_put n free i x out new total lt place put e = go (get_or n.nodes i any) refl
  where
    start : Bool
    start = true

    any : Node
    any = Register [] start 0

    go : (node : Node) → get_or n.nodes i any ≡ node → new ++ nodes_left n free (i + 1) ≡ total
    go node is =
        let rest : List ℕ = nodes_left n free (i + 1) in
        let there : node_of n x ≡ Some node = ap (node_of n) place ∙ (node_at n i any lt ∙ ap (λ (m : Node). Some m) is) in
        let one : get_or (with_marks free n.nodes) i (any, start) ≡ (node, bit_of free i) = marked_at free n.nodes i any (any, start) lt ∙ ap (λ (m : Node). let p : Node × Bool = (m, bit_of free i) in p) is in
        let left : drop i (with_marks free n.nodes) ≡ (node, bit_of free i) ∷ drop (i + 1) (with_marks free n.nodes) = drop_more (with_marks free n.nodes) i (any, start) (omega (arith, marks_long free n.nodes, lt)) ∙ ap (λ (m : Node × Bool). m ∷ drop (i + 1) (with_marks free n.nodes)) one in
        let both : nodes_left n free i ≡ lines_text (node_lines n (node, bit_of free i)) ++ rest = ap (λ (ms : List (Node × Bool)). lines_text (flat_map (node_lines n) ms)) left ∙ flat_map-append line_text (node_lines n (node, bit_of free i)) (flat_map (node_lines n) (drop (i + 1) (with_marks free n.nodes))) in
        let here : new ≡ out ++ lines_text (node_lines n (node, bit_of free i)) = put ∙ (ap (λ (b : Bool). out ++ lines_text (lines_at n (node_of n x) b)) (bit_is (length n.inputs) free x i place) ∙ ap (λ (o : Option Node). out ++ lines_text (lines_at n o (bit_of free i))) there) in
        ap (λ (o : List ℕ). o ++ rest) here ∙ (append_assoc out (lines_text (node_lines n (node, bit_of free i))) rest ∙ (ap (λ (t : List ℕ). out ++ t) (sym both) ∙ e))

-- no node is left
pub all_put : (n : Net) (free : List Bool) (i : ℕ) (out total : List ℕ) → length n.nodes ≤ i → out ++ nodes_left n free i ≡ total → out ≡ total
all_put n free i out total le e = sym (append-nil out) ∙ (ap (λ (ms : List (Node × Bool)). out ++ lines_text (flat_map (node_lines n) ms)) (sym (drop_all i (with_marks free n.nodes) (omega (arith, marks_long free n.nodes, le)))) ∙ e)
