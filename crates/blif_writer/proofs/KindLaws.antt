-- No statement of a flat text is bad.
use Rattle.std.proofs.Common.{◌≡◌, ◌≢◌, ℕ, zero, suc, ◌+◌, ◌-◌, ◌<◌, ◌⊎◌, inl, inr, Bool, true, false, List, [], ◌∷◌, ◌++◌, length, map, get_or, slice_get, Option, Some, None, refl, sym, ap, subst, ◌∙◌, append_assoc, arith}
use Rattle.std.specs.Prelude.{◌==◌, ◌&&◌, ◌||◌, not, nat_eq, codes, All}
use Rattle.std.specs.List.{list_all, flat_map}
use Rattle.std.proofs.lemmas.Bool.{eqb-true}
use Rattle.std.proofs.lemmas.List.{length-append, length-map}
use Rattle.std.proofs.lemmas.List.Elements.{All-head, All-tail}
use Rattle.std.specs.Option.{option_map_or}
use Rattle.std.proofs.lemmas.Option.{slice_get-get_or}
use Rattle.tmr_base.specs.Names.{is_name, is_name_byte}
use Rattle.tmr_base.specs.declared.ids.Edge.{Edge}
use Rattle.tmr_base.specs.declared.ids.Edge.TheVariants.{Rising, Falling}
use Rattle.table_cover.specs.Cover.{PlainCover, IsCover, IsRow, is_mark}
use Rattle.table_cover.specs.Pushing.{is_output}
use Rattle.flat_net.specs.Net.{Net, Node, Table, Register, name_of}
use Rattle.blif_text.specs.Word.{word_of}
use Rattle.blif_text.specs.Text.{Statement, statement, statement_by}
use Rattle.blif_text.specs.Library.{Differ}
use Rattle.blif_text.specs.Views.{bit as output, marked}
use Rattle.blif_text.specs.Kind.{name_kind, names_kind, model_kind, port_kind, ports_kind, table_kind, type_kind, init_kind, ends_kind, control_kind, latch_kind, row_of, row_kind, Shape, kind_here, kind_at, is_model, first_bad as first_bad_of_text}
use Rattle.blif_text.specs.Private.Latest.{open_model, table_before, here_of, here, lists, first_bad}
use Rattle.blif_text.proofs.InOrder.{bad_same}
use Rattle.library_faults.proofs.NameSets.{none_before}
use Rattle.blif_text.specs.declared.library.Init.{Init}
use Rattle.blif_text.specs.declared.library.Init.TheVariants.{Zero, One, Free, Unknown}
use Rattle.blif_writer.specs.Text.{bit, init_word, start_of, with_marks, edge_word, row_line, row_lines, net_words, clock_words, control_words, node_lines, free_lines}
use Rattle.blif_writer.proofs.Clean.{both_true, AreNames, IsLine, AreLines, names_join, lines_join, numbered}

-- ---- names

name_good : (name : List ℕ) → is_name name ≡ true → name_kind name ≡ None
unfolding name_kind
name_good name e = rw e refl

names_good : (names : List (List ℕ)) → AreNames names → names_kind names ≡ None
unfolding names_kind
names_good [] ok = refl
names_good (name ∷ names) ok = rw (name_good name ok.0) (names_good names ok.1)

ports_good : (listed names : List (List ℕ)) → AreNames names → Differ (listed ++ names) → ports_kind listed names ≡ None
unfolding ports_kind port_kind
ports_good listed [] ok differ = refl
ports_good listed (name ∷ names) ok differ =
    let whole : (listed ++ name ∷ []) ++ names ≡ listed ++ name ∷ names = append_assoc listed (name ∷ []) names in
    rw (name_good name ok.0, none_before listed name names differ) (ports_good (listed ++ name ∷ []) names ok.1 (subst Differ (sym whole) differ))

-- ---- one statement and those behind it

-- the next statement is good, and so are those behind it
good : (earlier body : List Statement) (s : Statement) (rest : List Statement) → open_model earlier ≡ Some body → kind_here s.word (lists is_model earlier) (here_of body) s ≡ None → first_bad (s ∷ earlier) rest ≡ None → first_bad earlier (s ∷ rest) ≡ None
unfolding first_bad here kind_at
good earlier body s rest opened fine behind = rw (opened, fine) behind

-- lines are good behind whatever statements of an open model
abbrev pub AreGood : List (List (List ℕ)) → Type 0
AreGood ls = (number : ℕ) (earlier body : List Statement) → open_model earlier ≡ Some body → first_bad earlier (numbered number ls) ≡ None

end_good : AreGood ((codes ".end" ∷ []) ∷ [])
unfolding word_of first_bad
end_good number earlier body opened = good earlier body (statement number (codes ".end") []) [] opened fine none
  where
    fine : kind_here (word_of (codes ".end")) (lists is_model earlier) (here_of body) (statement number (codes ".end") []) ≡ None
    fine = refl

    none : first_bad (statement number (codes ".end") [] ∷ earlier) [] ≡ None
    none = refl

-- ---- rows

-- the first token of a row is marks or an output
abbrev IsMark : ℕ → Type 0
IsMark b = (b ≡ 48) ⊎ ((b ≡ 49) ⊎ (b ≡ 45))

mark_is : (b : ℕ) → is_mark b ≡ true → IsMark b
mark_is b e = go (nat_eq b 48) (nat_eq b 49) (nat_eq b 45) refl refl refl e
  where
    go : (p q r : Bool) → nat_eq b 48 ≡ p → nat_eq b 49 ≡ q → nat_eq b 45 ≡ r → p || q || r ≡ true → IsMark b
    go true q r ep eq er h = inl (eqb-true b 48 ep)
    go false true r ep eq er h = inr (inl (eqb-true b 49 eq))
    go false false true ep eq er h = inr (inr (eqb-true b 45 er))
    go false false false ep eq er h = absurd cc

pub row_word : (b : ℕ) (bs : List ℕ) → is_mark b ≡ true → word_of (b ∷ bs) ≡ word_of (codes "1")
unfolding word_of
row_word b bs e = go (mark_is b e)
  where
    here : (c : ℕ) → b ≡ c → word_of (c ∷ bs) ≡ word_of (codes "1") → word_of (b ∷ bs) ≡ word_of (codes "1")
    here c is row = ap (λ (d : ℕ). word_of (d ∷ bs)) is ∙ row

    zero_row : word_of (48 ∷ bs) ≡ word_of (codes "1")
    zero_row = refl

    one_row : word_of (49 ∷ bs) ≡ word_of (codes "1")
    one_row = refl

    dash_row : word_of (45 ∷ bs) ≡ word_of (codes "1")
    dash_row = refl

    go : IsMark b → word_of (b ∷ bs) ≡ word_of (codes "1")
    go (inl is) = here 48 is zero_row
    go (inr (inl is)) = here 49 is one_row
    go (inr (inr is)) = here 45 is dash_row

pub bit_is : (on : Bool) → bit on ≡ output on ∷ []
bit_is true = refl
bit_is false = refl

output_mark : (on : Bool) → is_mark (output on) ≡ true
output_mark true = refl
output_mark false = refl

output_good : (on : Bool) → is_output (output on) ≡ true
output_good true = refl
output_good false = refl

same_output : (on : Bool) → (output on == output on) ≡ true
same_output true = refl
same_output false = refl

-- the statement of a row
abbrev pub row_first : Bool → List ℕ → List ℕ
row_first on [] = output on ∷ []
row_first on (m ∷ ms) = m ∷ ms

abbrev pub row_rest : Bool → List ℕ → List (List ℕ)
row_rest on [] = []
row_rest on (m ∷ ms) = (output on ∷ []) ∷ []

pub row_line_is : (on : Bool) (marks : List ℕ) → row_line on marks ≡ row_first on marks ∷ row_rest on marks
row_line_is on [] = ap (λ (w : List ℕ). w ∷ []) (bit_is on)
row_line_is on (m ∷ ms) = ap (λ (w : List ℕ). (m ∷ ms) ∷ w ∷ []) (bit_is on)

pub first_word : (on : Bool) (marks : List ℕ) → list_all is_mark marks ≡ true → word_of (row_first on marks) ≡ word_of (codes "1")
first_word on [] e = row_word (output on) [] (output_mark on)
first_word on (m ∷ ms) e = row_word m ms (mark_here (is_mark m) e)
  where
    mark_here : (b : Bool) → b && list_all is_mark ms ≡ true → b ≡ true
    mark_here true h = refl
    mark_here false h = absurd cc

-- the row is read as its marks and the output
pub row_read : (on : Bool) (marks : List ℕ) → list_all is_mark marks ≡ true → row_of (length marks) (row_first on marks ∷ row_rest on marks) ≡ Some (marked on marks)
unfolding row_of
row_read on [] e = rw (output_good on) refl
row_read on (m ∷ ms) e = rw (nonzero, same_length, e, output_good on) refl
  where
    nonzero : (length (m ∷ ms) == 0) ≡ false
    nonzero = grind arith

    same_length : (length (m ∷ ms) == length (m ∷ ms)) ≡ true
    same_length = grind arith

-- the statement of a row, with its word
abbrev pub row_statement : ℕ → Bool → List ℕ → Statement
row_statement number on marks = statement_by number (word_of (codes "1")) (row_first on marks) (row_rest on marks)

pub row_numbered : (number : ℕ) (on : Bool) (marks : List ℕ) (ls : List (List (List ℕ))) → list_all is_mark marks ≡ true → numbered number (row_line on marks ∷ ls) ≡ row_statement number on marks ∷ numbered (number + 1) ls
row_numbered number on marks ls e =
    ap (λ (l : List (List ℕ)). numbered number (l ∷ ls)) (row_line_is on marks) ∙ ap (λ w. statement_by number w (row_first on marks) (row_rest on marks) ∷ numbered (number + 1) ls) (first_word on marks e)

-- the rows so far have this output, where there are any
abbrev FitsOutput : Bool → Option ℕ → Type 0
FitsOutput on None = Unit {0}
FitsOutput on (Some b) = b ≡ output on

abbrev shape : ℕ → Option ℕ → Shape
shape width before = record { width = width; output = before }

row_fine : (on : Bool) (marks : List ℕ) (before : Option ℕ) → list_all is_mark marks ≡ true → FitsOutput on before → row_kind (Some (shape (length marks) before)) (row_first on marks ∷ row_rest on marks) ≡ None
unfolding row_kind
row_fine on marks None e fits = rw (row_read on marks e) refl
row_fine on marks (Some b) e fits = rw (row_read on marks e, fits, same_output on) refl

row_shape : (number : ℕ) (on : Bool) (marks : List ℕ) (before : Option ℕ) (body : List Statement) → list_all is_mark marks ≡ true → table_before body ≡ Some (shape (length marks) before) → table_before (row_statement number on marks ∷ body) ≡ Some (shape (length marks) (Some (output on)))
unfolding table_before word_of
row_shape number on marks before body e at = rw (at, row_read on marks e) refl

opens_row : (number : ℕ) (on : Bool) (marks : List ℕ) (earlier body : List Statement) → open_model earlier ≡ Some body → open_model (row_statement number on marks ∷ earlier) ≡ Some (row_statement number on marks ∷ body)
unfolding open_model word_of
opens_row number on marks earlier body opened = rw opened refl

-- each row is as wide as the table, and made of marks
abbrev pub AreRows : ℕ → List (List ℕ) → Type 0
AreRows width [] = Unit {0}
AreRows width (row ∷ rows) = IsRow width row × AreRows width rows

pub rows_good : (on : Bool) (width : ℕ) (rows : List (List ℕ)) (ls : List (List (List ℕ))) (number : ℕ) (before : Option ℕ) (earlier body : List Statement) → AreRows width rows → AreGood ls → open_model earlier ≡ Some body → table_before body ≡ Some (shape width before) → FitsOutput on before
    → first_bad earlier (numbered number (map (row_line on) rows ++ ls)) ≡ None
unfolding word_of
rows_good on width [] ls number before earlier body ok fine opened at fits = fine number earlier body opened
rows_good on width (row ∷ rows) ls number before earlier body ok fine opened at fits =
    let s : Statement = row_statement number on row in
    let here : table_before body ≡ Some (shape (length row) before) = at ∙ ap (λ (w : ℕ). Some (shape w before)) (sym ok.0.0) in
    let kind_none : row_kind (table_before body) (row_first on row ∷ row_rest on row) ≡ None = ap (λ (t : Option Shape). row_kind t (row_first on row ∷ row_rest on row)) here ∙ row_fine on row before ok.0.1 fits in
    let next : table_before (s ∷ body) ≡ Some (shape width (Some (output on))) = row_shape number on row before body ok.0.1 here ∙ ap (λ (w : ℕ). Some (shape w (Some (output on)))) ok.0.0 in
    ap (first_bad earlier) (row_numbered number on row (map (row_line on) rows ++ ls) ok.0.1)
    ∙ good earlier body s (numbered (number + 1) (map (row_line on) rows ++ ls)) opened kind_none
    (rows_good on width rows ls (number + 1) (Some (output on)) (s ∷ earlier) (s ∷ body) ok.1 fine (opens_row number on row earlier body opened) next refl)

-- ---- tables

table_fine : (args : List (List ℕ)) (out : List ℕ) → AreNames args → is_name out ≡ true → table_kind (args ++ out ∷ []) ≡ None
unfolding table_kind
table_fine args out ok e = rw (some, names_good (args ++ out ∷ []) (names_join args (out ∷ []) ok (e, tt))) refl
  where
    some : (length (args ++ out ∷ []) == 0) ≡ false
    some = let long : length (args ++ out ∷ []) ≡ length args + 1 = length-append args (out ∷ []) in rw long (grind arith)

abbrev pub table_statement : ℕ → List (List ℕ) → Statement
table_statement number args = statement number (codes ".names") args

pub table_numbered : (number : ℕ) (args : List (List ℕ)) (ls : List (List (List ℕ))) → numbered number ((codes ".names" ∷ args) ∷ ls) ≡ table_statement number args ∷ numbered (number + 1) ls
table_numbered number args ls = refl

opens_table : (number : ℕ) (args : List (List ℕ)) (earlier body : List Statement) → open_model earlier ≡ Some body → open_model (table_statement number args ∷ earlier) ≡ Some (table_statement number args ∷ body)
unfolding open_model word_of
opens_table number args earlier body opened = rw opened refl

table_shape : (number : ℕ) (args : List (List ℕ)) (body : List Statement) → table_before (table_statement number args ∷ body) ≡ Some (shape (length args - 1) None)
unfolding table_before word_of
table_shape number args body = refl

pub table_good : (pins : List (List ℕ)) (out : List ℕ) (k : PlainCover) (ls : List (List (List ℕ))) → AreNames pins → is_name out ≡ true → length pins ≡ k.width → AreRows k.width k.rows → AreGood ls → AreGood ((codes ".names" ∷ (pins ++ out ∷ [])) ∷ (row_lines k ++ ls))
unfolding word_of
table_good pins out k ls ok e wide rows fine number earlier body opened =
    let args : List (List ℕ) = pins ++ out ∷ [] in
    let s : Statement = table_statement number args in
    let width : length args - 1 ≡ k.width = omega (arith, length-append pins (out ∷ []), wide) in
    ap (first_bad earlier) (table_numbered number args (row_lines k ++ ls))
    ∙ good earlier body s (numbered (number + 1) (row_lines k ++ ls)) opened (table_fine pins out ok e)
    (rows_good k.is_on k.width k.rows ls (number + 1) None (s ∷ earlier) (s ∷ body) rows fine (opens_table number args earlier body opened) (table_shape number args body ∙ ap (λ (w : ℕ). Some (shape w None)) width) tt)

-- ---- latches

init_good : (b : Init) → init_kind (init_word b) ≡ None
unfolding init_kind
init_good Zero = refl
init_good One = refl
init_good Free = refl
init_good Unknown = refl

edge_good : (edge : Edge) → type_kind (edge_word edge) ≡ None
unfolding type_kind
edge_good Rising = refl
edge_good Falling = refl

-- the clock is a name, and not `NIL`
abbrev pub IsControl : Option (Edge × List ℕ) → Type 0
IsControl None = Unit {0}
IsControl (Some (edge, clock)) = (is_name clock ≡ true) × (clock ≢ codes "NIL")

abbrev pub latch_words : List ℕ → List ℕ → Option (Edge × List ℕ) → Init → List (List ℕ)
latch_words pin out control b = pin ∷ out ∷ (control_words control ++ init_word b ∷ [])

latch_fine : (pin out : List ℕ) (control : Option (Edge × List ℕ)) (b : Init) → is_name pin ≡ true → is_name out ≡ true → IsControl control → latch_kind (latch_words pin out control b) ≡ None
unfolding latch_kind ends_kind control_kind
latch_fine pin out None b p o c = rw (name_good pin p, name_good out o, init_good b) refl
latch_fine pin out (Some (edge, clock)) b p o c = rw (name_good pin p, name_good out o, edge_good edge, name_good clock c.0, init_good b) refl

abbrev pub latch_statement : ℕ → List (List ℕ) → Statement
latch_statement number args = statement number (codes ".latch") args

pub latch_numbered : (number : ℕ) (args : List (List ℕ)) (ls : List (List (List ℕ))) → numbered number ((codes ".latch" ∷ args) ∷ ls) ≡ latch_statement number args ∷ numbered (number + 1) ls
latch_numbered number args ls = refl

opens_latch : (number : ℕ) (args : List (List ℕ)) (earlier body : List Statement) → open_model earlier ≡ Some body → open_model (latch_statement number args ∷ earlier) ≡ Some (latch_statement number args ∷ body)
unfolding open_model word_of
opens_latch number args earlier body opened = rw opened refl

pub latch_good : (pin out : List ℕ) (control : Option (Edge × List ℕ)) (b : Init) (ls : List (List (List ℕ))) → is_name pin ≡ true → is_name out ≡ true → IsControl control → AreGood ls → AreGood ((codes ".latch" ∷ latch_words pin out control b) ∷ ls)
unfolding word_of
latch_good pin out control b ls p o c fine number earlier body opened =
    let args : List (List ℕ) = latch_words pin out control b in
    let s : Statement = latch_statement number args in
    ap (first_bad earlier) (latch_numbered number args ls)
    ∙ good earlier body s (numbered (number + 1) ls) opened (latch_fine pin out control b p o c) (fine (number + 1) (s ∷ earlier) (s ∷ body) (opens_latch number args earlier body opened))

-- ---- all nodes

-- what a node's lines need
abbrev pub IsSpelled : Net → Node → Type 0
IsSpelled n (Table name cover pins) = AreNames (net_words n pins) × (is_name name ≡ true) × (length pins ≡ cover.width) × IsCover cover
IsSpelled n (Register name init pin) = (is_name (name_of n pin) ≡ true) × (is_name name ≡ true) × IsControl n.clock

abbrev pub AreSpelled : Net → List (Node × Bool) → Type 0
AreSpelled n [] = Unit {0}
AreSpelled n (node ∷ nodes) = IsSpelled n node.0 × AreSpelled n nodes

pub rows_from : (width : ℕ) (rows : List (List ℕ)) → All (λ row. IsRow width row) rows → AreRows width rows
rows_from width [] all = tt
rows_from width (row ∷ rows) all = (All-head (λ row. IsRow width row) row rows all, rows_from width rows (All-tail (λ row. IsRow width row) row rows all))

node_good : (n : Net) (node : Node × Bool) (ls : List (List (List ℕ))) → IsSpelled n node.0 → AreGood ls → AreGood (node_lines n node ++ ls)
node_good n (Table name cover pins, free) ls ok fine = table_good (net_words n pins) name cover ls ok.0 ok.1 (length-map pins (name_of n) ∙ ok.2) (rows_from cover.width cover.rows ok.3.rows) fine
node_good n (Register name init pin, free) ls ok fine = latch_good (name_of n pin) name n.clock (start_of free init) ls ok.0 ok.1 ok.2 fine

nodes_good : (n : Net) (nodes : List (Node × Bool)) (ls : List (List (List ℕ))) → AreSpelled n nodes → AreGood ls → AreGood (flat_map (node_lines n) nodes ++ ls)
nodes_good n [] ls ok fine = fine
nodes_good n (node ∷ nodes) ls ok fine =
    let whole : (node_lines n node ++ flat_map (node_lines n) nodes) ++ ls ≡ node_lines n node ++ (flat_map (node_lines n) nodes ++ ls) = append_assoc (node_lines n node) (flat_map (node_lines n) nodes) ls in
    λ number earlier body opened. ap (λ (l : List (List (List ℕ))). first_bad earlier (numbered number l)) whole ∙ node_good n node (flat_map (node_lines n) nodes ++ ls) ok.0 (nodes_good n nodes ls ok.1 fine) number earlier body opened

-- what the text of a design needs
pub record IsText (n : Net) (free : List Bool) : Type 0 where
  pub model : is_name n.model ≡ true
  pub inputs : AreNames (n.inputs ++ clock_words n.clock)
  pub inputs_differ : Differ (n.inputs ++ clock_words n.clock)
  pub outputs : AreNames (net_words n n.outputs)
  pub outputs_differ : Differ (net_words n n.outputs)
  pub nodes : AreSpelled n (with_marks free n.nodes)

-- the first three statements
abbrev pub model_statement : Net → Statement
model_statement n = statement 1 (codes ".model") (n.model ∷ [])

abbrev pub inputs_statement : Net → Statement
inputs_statement n = statement 2 (codes ".inputs") (n.inputs ++ clock_words n.clock)

abbrev pub outputs_statement : Net → Statement
outputs_statement n = statement 3 (codes ".outputs") (net_words n n.outputs)

abbrev pub behind_ports : Net → List Bool → List (List (List ℕ))
behind_ports n free = flat_map (node_lines n) (with_marks free n.nodes) ++ (codes ".end" ∷ []) ∷ []

pub flat_numbered : (n : Net) (free : List Bool) → numbered 1 (free_lines n free) ≡ model_statement n ∷ inputs_statement n ∷ outputs_statement n ∷ numbered 4 (behind_ports n free)
unfolding free_lines word_of
flat_numbered n free = refl

model_good : (n : Net) (rest : List Statement) → is_name n.model ≡ true → first_bad (model_statement n ∷ []) rest ≡ None → first_bad [] (model_statement n ∷ rest) ≡ None
unfolding first_bad here open_model kind_at model_kind word_of
model_good n rest e behind = rw (name_good n.model e) behind

opens_model : (n : Net) → open_model (model_statement n ∷ []) ≡ Some []
unfolding open_model word_of
opens_model n = refl

opens_inputs : (n : Net) → open_model (inputs_statement n ∷ model_statement n ∷ []) ≡ Some (inputs_statement n ∷ [])
unfolding open_model word_of
opens_inputs n = refl

opens_outputs : (n : Net) → open_model (outputs_statement n ∷ inputs_statement n ∷ model_statement n ∷ []) ≡ Some (outputs_statement n ∷ inputs_statement n ∷ [])
unfolding open_model word_of
opens_outputs n = refl

-- no statement of the text is bad
none_bad : (n : Net) (free : List Bool) → IsText n free → first_bad [] (numbered 1 (free_lines n free)) ≡ None
unfolding word_of
none_bad n free t =
    let rest : List Statement = numbered 4 (behind_ports n free) in
    let earlier : List Statement = model_statement n ∷ [] in
    let later : List Statement = inputs_statement n ∷ earlier in
    let nodes = nodes_good n (with_marks free n.nodes) ((codes ".end" ∷ []) ∷ []) t.nodes end_good 4 (outputs_statement n ∷ later) (outputs_statement n ∷ inputs_statement n ∷ []) (opens_outputs n) in
    let outputs = good later (inputs_statement n ∷ []) (outputs_statement n) rest (opens_inputs n) (ports_good [] (net_words n n.outputs) t.outputs t.outputs_differ) nodes in
    let inputs = good earlier [] (inputs_statement n) (outputs_statement n ∷ rest) (opens_model n) (ports_good [] (n.inputs ++ clock_words n.clock) t.inputs t.inputs_differ) outputs in
    ap (first_bad []) (flat_numbered n free) ∙ model_good n (inputs_statement n ∷ outputs_statement n ∷ rest) t.model inputs

pub text_good : (n : Net) (free : List Bool) → IsText n free → first_bad_of_text [] (numbered 1 (free_lines n free)) ≡ None
text_good n free t = bad_same (numbered 1 (free_lines n free)) ∙ none_bad n free t

-- ---- all lines are lines of names

bit_name : (b : Bool) → is_name (bit b) ≡ true
bit_name true = refl
bit_name false = refl

init_name : (b : Init) → is_name (init_word b) ≡ true
init_name Zero = refl
init_name One = refl
init_name Free = refl
init_name Unknown = refl

edge_name : (edge : Edge) → is_name (edge_word edge) ≡ true
edge_name Rising = refl
edge_name Falling = refl

control_names : (control : Option (Edge × List ℕ)) → IsControl control → AreNames (control_words control)
control_names None c = tt
control_names (Some (edge, clock)) c = (edge_name edge, (c.0, tt))

both_made : (a b : Bool) → a ≡ true → b ≡ true → a && b ≡ true
both_made a b ea eb = rw (ea, eb) refl

mark_byte : (b : ℕ) → is_mark b ≡ true → (is_name_byte b ≡ true) × (not (b == 92) ≡ true)
mark_byte b e = go (mark_is b e)
  where
    go : IsMark b → (is_name_byte b ≡ true) × (not (b == 92) ≡ true)
    go (inl is) = (ap is_name_byte is, ap (λ (c : ℕ). not (c == 92)) is)
    go (inr (inl is)) = (ap is_name_byte is, ap (λ (c : ℕ). not (c == 92)) is)
    go (inr (inr is)) = (ap is_name_byte is, ap (λ (c : ℕ). not (c == 92)) is)

mark_at : (marks : List ℕ) (k : ℕ) → list_all is_mark marks ≡ true → k < length marks → is_mark (get_or marks k 0) ≡ true
mark_at [] k e lt = absurd (omega arith)
mark_at (m ∷ ms) zero e lt = (both_true (is_mark m) (list_all is_mark ms) e).0
mark_at (m ∷ ms) (suc k) e lt = mark_at ms k (both_true (is_mark m) (list_all is_mark ms) e).1 (omega arith)

mark_bytes : (marks : List ℕ) → list_all is_mark marks ≡ true → list_all is_name_byte marks ≡ true
mark_bytes [] e = refl
mark_bytes (m ∷ ms) e =
    let h = both_true (is_mark m) (list_all is_mark ms) e in
    both_made (is_name_byte m) (list_all is_name_byte ms) (mark_byte m h.0).0 (mark_bytes ms h.1)

marks_name : (marks : List ℕ) → 0 < length marks → list_all is_mark marks ≡ true → is_name marks ≡ true
marks_name marks some e =
    let at : slice_get marks (length marks - 1) ≡ Some (get_or marks (length marks - 1) 0) = slice_get-get_or marks (length marks - 1) 0 (omega arith) in
    let last = (mark_byte (get_or marks (length marks - 1) 0) (mark_at marks (length marks - 1) e (omega arith))).1 in
    both_made _ (list_all is_name_byte marks) (ap (λ (o : Option ℕ). option_map_or (λ b. not (b == 92)) o false) at ∙ last) (mark_bytes marks e)

row_names : (on : Bool) (marks : List ℕ) → list_all is_mark marks ≡ true → IsLine (row_line on marks)
row_names on [] e = (bit_name on, tt)
row_names on (m ∷ ms) e = (marks_name (m ∷ ms) (omega arith) e, (bit_name on, tt))

rows_names : (on : Bool) (width : ℕ) (rows : List (List ℕ)) → AreRows width rows → AreLines (map (row_line on) rows)
rows_names on width [] ok = tt
rows_names on width (row ∷ rows) ok = (row_names on row ok.0.1, rows_names on width rows ok.1)

node_names : (n : Net) (node : Node × Bool) → IsSpelled n node.0 → AreLines (node_lines n node)
node_names n (Table name cover pins, free) ok = ((refl, names_join (net_words n pins) (name ∷ []) ok.0 (ok.1, tt)), rows_names cover.is_on cover.width cover.rows (rows_from cover.width cover.rows ok.3.rows))
node_names n (Register name init pin, free) ok = ((refl, (ok.0, (ok.1, names_join (control_words n.clock) (init_word (start_of free init) ∷ []) (control_names n.clock ok.2) (init_name (start_of free init), tt)))), tt)

nodes_names : (n : Net) (nodes : List (Node × Bool)) → AreSpelled n nodes → AreLines (flat_map (node_lines n) nodes)
nodes_names n [] ok = tt
nodes_names n (node ∷ nodes) ok = lines_join (node_lines n node) (flat_map (node_lines n) nodes) (node_names n node ok.0) (nodes_names n nodes ok.1)

pub text_lines : (n : Net) (free : List Bool) → IsText n free → AreLines (free_lines n free)
unfolding free_lines
text_lines n free t = ((refl, (t.model, tt)), ((refl, t.inputs), ((refl, t.outputs), lines_join (flat_map (node_lines n) (with_marks free n.nodes)) ((codes ".end" ∷ []) ∷ []) (nodes_names n (with_marks free n.nodes) t.nodes) ((refl, tt), tt))))
