-- The text of the guarded design, net by net of the original.
use Rattle.std.proofs.Common.{◌≡◌, ℕ, zero, suc, ◌+◌, ◌*◌, ◌<◌, ◌≤◌, false, List, [], ◌∷◌, ◌++◌, length, map, slice_get, Option, Some, All, refl, sym, ap, ◌∙◌, append_assoc, arith}
use Rattle.std.specs.Prelude.{codes, replicate}
use Rattle.std.specs.List.{flat_map, range_with_len}
use Rattle.std.proofs.lemmas.List.{append-nil}
use Rattle.std.proofs.lemmas.List.Concat.{flat_map-append}
use Rattle.std.proofs.lemmas.List.Folds.{flat_map-map}
use Rattle.std.proofs.lemmas.Option.{slice_get_within}
use Rattle.limits.specs.Most.{widest_nets}
use Rattle.tmr_base.specs.declared.ids.Edge.{Edge}
use Rattle.flat_net.specs.Net.{Net, Node, Table, Register, Design, net_count, pin_total, name_of, IsValid, IsWired, IsDesign}
use Rattle.blif_writer.specs.Text.{with_marks, clock_words, control_words, init_word, start_of, row_lines, net_words, node_lines, line_text, lines_text, flat_text}
use Rattle.blif_writer.specs.Left.{spaced, spaced_line, nodes_left}
use Rattle.blif_writer.proofs.Putting.{joined, spaced_append}
use Rattle.blif_writer.proofs.TextLaws.{text_put}
use Rattle.dwc.specs.Guard.{twin, twin_text, twofold, node_twin, differ_cover, comparator, any_cover, alarm, alarm_net, guard_net}
use Rattle.dwc.specs.Making.{guard_order}
use Rattle.dwc.proofs.Order.{is_order}
use Rattle.dwc.proofs.Texts.{twin_tailed, comparator_tailed, alarm_tailed}
use Rattle.dwc.proofs.Nodes.{twin_name, comparator_name, alarm_name}
use Rattle.dwc.proofs.Making.{node_at}
use Rattle.dwc.proofs.Valid.{model_same, clock_same, output_below, is_valid}
use Rattle.guarded_text.specs.Private.Spelled.{tailed, two_spelled, comparator_text, any_rows, alarm_text}
use Rattle.guarded_text.specs.Private.Lines.{guarded_clock, all_tailed, copy_lines, twins_text}
use Rattle.guarded_text.proofs.Rows.{twos_same, ones_same, numbers_same}

-- ---- the parts of a guarded design

nodes_are : (n : Net) → (guard_net n).nodes ≡ flat_map (λ node. twofold (node_twin node)) n.nodes ++ (map (comparator n) n.outputs ++ alarm n ∷ [])
unfolding guard_net
nodes_are n = refl

inputs_are : (n : Net) → (guard_net n).inputs ≡ flat_map (λ name. twofold (twin_text name)) n.inputs
unfolding guard_net
inputs_are n = refl

outputs_are : (n : Net) → (guard_net n).outputs ≡ flat_map (λ y. twofold (λ c. twin c y)) n.outputs ++ alarm_net n ∷ []
unfolding guard_net
outputs_are n = refl

-- ---- lists of words

-- the lines of a node without a mark
abbrev node_text : Net → Node → List ℕ
node_text g node = lines_text (node_lines g (node, false))

-- nodes without marks
unmarked : (g : Net) (nodes : List Node) → lines_text (flat_map (node_lines g) (with_marks [] nodes)) ≡ flat_map (node_text g) nodes
unfolding with_marks
unmarked g [] = refl
unmarked g (node ∷ nodes) = flat_map-append line_text (node_lines g (node, false)) (flat_map (node_lines g) (with_marks [] nodes)) ∙ ap (λ (t : List ℕ). node_text g node ++ t) (unmarked g nodes)

both : {A : Type 0} {a b c d : List A} → a ≡ b → c ≡ d → a ++ c ≡ b ++ d
both e f = cc

some_is : (a b : Node) → Some a ≡ Some b → a ≡ b
some_is a b e = cc

in_a_row : (o p q r a b c : List ℕ) → p ≡ o ++ a → q ≡ p ++ b → r ≡ q ++ c → r ≡ o ++ (a ++ (b ++ c))
in_a_row o p q r a b c e f g = g ∙ (ap (λ (t : List ℕ). t ++ c) f ∙ (ap (λ (t : List ℕ). (t ++ b) ++ c) e ∙ regroup o a b c))
  where
    regroup : (o a b c : List ℕ) → ((o ++ a) ++ b) ++ c ≡ o ++ (a ++ (b ++ c))
    regroup o a b c = simp append_assoc

-- ---- rows

any_rows_same : (count : ℕ) → lines_text (row_lines (any_cover count)) ≡ any_rows count
any_rows_same zero = refl
any_rows_same (suc count) = regroup (replicate (suc count) 48)
  where
    regroup : (row : List ℕ) → ((row ++ 32 ∷ 48 ∷ []) ++ 10 ∷ []) ++ [] ≡ row ++ 32 ∷ 48 ∷ 10 ∷ []
    regroup row = simp (append_assoc, append-nil)

-- ---- lines

comparator_regroup : (o p q r s t : List ℕ) → ((o ++ (p ++ (q ++ (r ++ [])))) ++ s) ++ t ≡ o ++ ((p ++ q) ++ (r ++ (s ++ t)))
comparator_regroup o p q r s t = simp (append_assoc, append-nil)

alarm_regroup : (first names last rows : List ℕ) → ((first ++ (names ++ (32 ∷ (last ++ [])))) ++ 10 ∷ []) ++ rows ≡ first ++ (names ++ (32 ∷ (last ++ 10 ∷ rows)))
alarm_regroup first names last rows = simp (append_assoc, append-nil)

-- the guarded design is a valid one
pub guarded_valid : (d : Design) → net_count d.net + pin_total d.net ≤ widest_nets → IsDesign d → IsValid (guard_net d.net)
guarded_valid d few is = is_valid d.net is.valid few (guard_order d.net d.order) (is_order d.net is.valid d.order is.order)

module _ (n : Net) (valid : IsValid n) where
  -- ---- names

  twin_named : (x c : ℕ) → x < net_count n → c < 2 → name_of (guard_net n) (twin c x) ≡ twin_text (name_of n x) c
  twin_named x c high l = twin_name n x c high l ∙ sym (twin_tailed (name_of n x) c)

  comparator_named : (k y : ℕ) → slice_get n.outputs k ≡ Some y → name_of (guard_net n) (2 * net_count n + k) ≡ tailed (name_of n y) 101
  comparator_named k y at = comparator_name n k y at ∙ sym (comparator_tailed (name_of n y))

  alarm_named : name_of (guard_net n) (alarm_net n) ≡ codes "alarm~z"
  alarm_named = alarm_name n ∙ sym alarm_tailed

  -- what a copy reads
  pins_named : (c : ℕ) (pins : List ℕ) → c < 2 → All (λ x. x < net_count n) pins → net_words (guard_net n) (map (twin c) pins) ≡ all_tailed n (48 + c) pins
  pins_named c [] l all = refl
  pins_named c (x ∷ pins) l all = cons (twin_named x c (all 0 0 (omega arith)) l) (pins_named c pins l (λ i d h. all (suc i) d (omega (arith, h))))
    where
      cons : {a b : List ℕ} {ps qs : List (List ℕ)} → a ≡ b → ps ≡ qs → a ∷ ps ≡ b ∷ qs
      cons e f = cc

  -- ---- the copies of a node

  copy_same : (c : ℕ) (node : Node) → c < 2 → IsWired (net_count n) node → node_lines (guard_net n) (node_twin node c, false) ≡ copy_lines n (48 + c) (Some node)
  copy_same c (Table name cover pins) l wired = ap (λ (ws : List (List ℕ)). (codes ".names" ∷ (ws ++ twin_text name c ∷ [])) ∷ row_lines cover) (pins_named c pins l wired.0)
  copy_same c (Register name init pin) l wired =
      ap (λ (w : List ℕ). (codes ".latch" ∷ w ∷ twin_text name c ∷ (control_words (guard_net n).clock ++ init_word (start_of false init) ∷ [])) ∷ []) (twin_named pin c wired l)
      ∙ ap (λ (e : Option (Edge × List ℕ)). (codes ".latch" ∷ twin_text (name_of n pin) c ∷ twin_text name c ∷ (control_words e ++ init_word (start_of false init) ∷ [])) ∷ []) (clock_same n)

  twins_same : flat_map (node_text (guard_net n)) (flat_map (λ node. twofold (node_twin node)) n.nodes) ≡ flat_map (twins_text n) n.nodes
  twins_same = twos_same (node_text (guard_net n)) node_twin (twins_text n) n.nodes each
    where
      each : (i : ℕ) (node : Node) → slice_get n.nodes i ≡ Some node → node_text (guard_net n) (node_twin node 0) ++ node_text (guard_net n) (node_twin node 1) ≡ twins_text n node
      each i node at =
          let p = node_at n i (length n.inputs + i) (slice_get_within n.nodes i node at) refl in
          let same : p.node ≡ node = some_is p.node node (sym p.listed ∙ at) in
          let wired = valid.unordered.wired (length n.inputs + i) node (p.is ∙ ap Some same) in
          both (ap lines_text (copy_same 0 node (omega arith) wired)) (ap lines_text (copy_same 1 node (omega arith) wired))

  -- ---- comparators and the alarm

  comparator_same : (y : ℕ) → y < net_count n → node_text (guard_net n) (comparator n y) ≡ comparator_text (name_of n y)
  comparator_same y high =
      let own : List ℕ = tailed (name_of n y) 101 in
      let g : Net = guard_net n in
      ap (λ (t : List ℕ). (t ++ 10 ∷ []) ++ lines_text (row_lines differ_cover)) (joined (codes ".names") (name_of g (twin 0 y) ∷ name_of g (twin 1 y) ∷ own ∷ []))
      ∙ (two _ _ _ _ (twin_named y 0 high (omega arith)) (twin_named y 1 high (omega arith))
      ∙ comparator_regroup (codes ".names") (32 ∷ twin_text (name_of n y) 0) (32 ∷ twin_text (name_of n y) 1) (32 ∷ tailed (name_of n y) 101) (10 ∷ []) (lines_text (row_lines differ_cover)))
    where
      two : (a b u v : List ℕ) → a ≡ u → b ≡ v →
          ((codes ".names" ++ spaced (a ∷ b ∷ tailed (name_of n y) 101 ∷ [])) ++ 10 ∷ []) ++ lines_text (row_lines differ_cover)
          ≡ ((codes ".names" ++ spaced (u ∷ v ∷ tailed (name_of n y) 101 ∷ [])) ++ 10 ∷ []) ++ lines_text (row_lines differ_cover)
      two a b u v e f = cc

  comparators_same : flat_map (node_text (guard_net n)) (map (comparator n) n.outputs) ≡ flat_map (λ y. comparator_text (name_of n y)) n.outputs
  comparators_same =
      flat_map-map (node_text (guard_net n)) (comparator n) n.outputs
      ∙ ones_same (λ y. node_text (guard_net n) (comparator n y)) (λ y. comparator_text (name_of n y)) n.outputs (λ k y at. comparator_same y (output_below n valid k y at))

  -- the names of all comparators
  read_by_alarm : spaced (net_words (guard_net n) (range_with_len (2 * net_count n) (length n.outputs))) ≡ flat_map (λ y. 32 ∷ tailed (name_of n y) 101) n.outputs
  read_by_alarm =
      ap spaced (numbers_same (name_of (guard_net n)) (λ y. tailed (name_of n y) 101) (2 * net_count n) n.outputs comparator_named)
      ∙ flat_map-map (λ (w : List ℕ). 32 ∷ w) (λ y. tailed (name_of n y) 101) n.outputs

  alarm_same : node_text (guard_net n) (alarm n) ≡ alarm_text n
  alarm_same =
      let names : List (List ℕ) = net_words (guard_net n) (range_with_len (2 * net_count n) (length n.outputs)) in
      let rows : List ℕ = lines_text (row_lines (any_cover (length n.outputs))) in
      ap (λ (t : List ℕ). (t ++ 10 ∷ []) ++ rows) (joined (codes ".names") (names ++ codes "alarm~z" ∷ []) ∙ ap (λ (t : List ℕ). codes ".names" ++ t) (spaced_append names (codes "alarm~z" ∷ [])))
      ∙ (ap (λ (t : List ℕ). ((codes ".names" ++ (t ++ spaced (codes "alarm~z" ∷ []))) ++ 10 ∷ []) ++ rows) read_by_alarm
      ∙ (alarm_regroup (codes ".names") (flat_map (λ y. 32 ∷ tailed (name_of n y) 101) n.outputs) (codes "alarm~z") rows
      ∙ ap (λ (t : List ℕ). codes ".names" ++ (flat_map (λ y. 32 ∷ tailed (name_of n y) 101) n.outputs ++ (codes " alarm~z\n" ++ t))) (any_rows_same (length n.outputs))))

  -- the lines of all nodes
  nodes_same : nodes_left (guard_net n) [] 0 ≡ flat_map (twins_text n) n.nodes ++ (flat_map (λ y. comparator_text (name_of n y)) n.outputs ++ alarm_text n)
  nodes_same =
      let f = node_text (guard_net n) in
      unmarked (guard_net n) (guard_net n).nodes
      ∙ (ap (flat_map (node_text (guard_net n))) (nodes_are n)
      ∙ (flat_map-append f (flat_map (λ node. twofold (node_twin node)) n.nodes) (map (comparator n) n.outputs ++ alarm n ∷ [])
      ∙ both twins_same (flat_map-append f (map (comparator n) n.outputs) (alarm n ∷ []) ∙ both comparators_same (append-nil (node_text (guard_net n) (alarm n)) ∙ alarm_same))))

  -- ---- ports

  inputs_same : spaced (guard_net n).inputs ≡ flat_map two_spelled n.inputs
  inputs_same = ap spaced (inputs_are n) ∙ twos_same (λ (w : List ℕ). 32 ∷ w) twin_text two_spelled n.inputs (λ i name at. refl)

  outputs_same : spaced (net_words (guard_net n) (guard_net n).outputs) ≡ flat_map (λ y. two_spelled (name_of n y)) n.outputs ++ codes " alarm~z"
  outputs_same =
      let f : ℕ → List ℕ = λ x. 32 ∷ name_of (guard_net n) x in
      flat_map-map (λ (w : List ℕ). 32 ∷ w) (name_of (guard_net n)) (guard_net n).outputs
      ∙ (ap (flat_map f) (outputs_are n)
      ∙ (flat_map-append f (flat_map (λ y. twofold (λ c. twin c y)) n.outputs) (alarm_net n ∷ [])
      ∙ both (twos_same f (λ y c. twin c y) (λ y. two_spelled (name_of n y)) n.outputs each) (append-nil (32 ∷ name_of (guard_net n) (alarm_net n)) ∙ ap (λ (w : List ℕ). 32 ∷ w) alarm_named)))
    where
      two : (a b u v : List ℕ) → a ≡ u → b ≡ v → (32 ∷ a) ++ 32 ∷ b ≡ 32 ∷ (u ++ 32 ∷ v)
      two a b u v e f = cc

      each : (i y : ℕ) → slice_get n.outputs i ≡ Some y → (32 ∷ name_of (guard_net n) (twin 0 y)) ++ 32 ∷ name_of (guard_net n) (twin 1 y) ≡ two_spelled (name_of n y)
      each i y at = let high = output_below n valid i y at in two _ _ _ _ (twin_named y 0 high (omega arith)) (twin_named y 1 high (omega arith))

  inputs_line : codes ".inputs" ++ (flat_map two_spelled n.inputs ++ (spaced (clock_words (guarded_clock n.clock)) ++ 10 ∷ [])) ≡ spaced_line (codes ".inputs") ((guard_net n).inputs ++ clock_words (guard_net n).clock)
  inputs_line =
      let own = clock_words (guarded_clock n.clock) in
      ap (λ (t : List ℕ). codes ".inputs" ++ t) (sym (append_assoc (flat_map two_spelled n.inputs) (spaced own) (10 ∷ [])))
      ∙ (ap (λ (t : List ℕ). codes ".inputs" ++ ((t ++ spaced own) ++ 10 ∷ [])) (sym inputs_same)
      ∙ (ap (λ (t : List ℕ). codes ".inputs" ++ (t ++ 10 ∷ [])) (sym (spaced_append (guard_net n).inputs own))
      ∙ ap (λ (e : Option (Edge × List ℕ)). spaced_line (codes ".inputs") ((guard_net n).inputs ++ clock_words e)) (sym (clock_same n))))

  outputs_line : codes ".outputs" ++ (flat_map (λ y. two_spelled (name_of n y)) n.outputs ++ codes " alarm~z\n") ≡ spaced_line (codes ".outputs") (net_words (guard_net n) (guard_net n).outputs)
  outputs_line =
      ap (λ (t : List ℕ). codes ".outputs" ++ t) (sym (append_assoc (flat_map (λ y. two_spelled (name_of n y)) n.outputs) (codes " alarm~z") (10 ∷ [])))
      ∙ ap (λ (t : List ℕ). codes ".outputs" ++ (t ++ 10 ∷ [])) (sym outputs_same)

  -- all of the text
  pub text_is : (o0 o3 o4 o5 o6 o7 : List ℕ) → o0 ≡ []
      → o3 ≡ ((o0 ++ spaced_line (codes ".model") (n.model ∷ [])) ++ (codes ".inputs" ++ (flat_map two_spelled n.inputs ++ (spaced (clock_words (guarded_clock n.clock)) ++ 10 ∷ [])))) ++ (codes ".outputs" ++ (flat_map (λ y. two_spelled (name_of n y)) n.outputs ++ codes " alarm~z\n"))
      → o4 ≡ o3 ++ flat_map (twins_text n) n.nodes → o5 ≡ o4 ++ flat_map (λ y. comparator_text (name_of n y)) n.outputs → o6 ≡ o5 ++ alarm_text n → o7 ≡ o6 ++ codes ".end\n"
      → o7 ≡ flat_text (guard_net n)
  text_is o0 o3 o4 o5 o6 o7 e0 e3 e4 e5 e6 e7 =
      let g = guard_net n in
      let o1 : List ℕ = o0 ++ spaced_line (codes ".model") (n.model ∷ []) in
      let o2 : List ℕ = o1 ++ spaced_line (codes ".inputs") ((guard_net n).inputs ++ clock_words (guard_net n).clock) in
      let ends : o3 ≡ o2 ++ spaced_line (codes ".outputs") (net_words (guard_net n) (guard_net n).outputs) = e3 ∙ two o1 _ _ _ _ inputs_line outputs_line in
      let nodes : o6 ≡ o3 ++ nodes_left (guard_net n) [] 0 = in_a_row o3 o4 o5 o6 _ _ _ e4 e5 e6 ∙ ap (λ (t : List ℕ). o3 ++ t) (sym nodes_same) in
      text_put g [] o0 o1 o2 o3 o6 o7 e0 (ap (λ (m : List ℕ). o0 ++ spaced_line (codes ".model") (m ∷ [])) (sym (model_same n))) refl ends nodes e7
    where
      two : (o a b c d : List ℕ) → a ≡ c → b ≡ d → (o ++ a) ++ b ≡ (o ++ c) ++ d
      two o a b c d e f = cc
