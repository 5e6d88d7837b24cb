-- The text of the hardened design, net by net of the original.
use Rattle.std.proofs.Common.{◌≡◌, ℕ, ◌+◌, ◌-◌, ◌<◌, ◌≤◌, Bool, true, false, List, [], ◌∷◌, ◌++◌, length, map, get_or, slice_get, Option, Some, None, refl, sym, ap, subst, ◌∙◌, append_assoc, arith}
use Rattle.std.specs.Prelude.{codes, slice_index, if◌then◌else◌, nat_eq}
use Rattle.std.specs.List.{flat_map, range_with_len}
use Rattle.std.proofs.lemmas.List.{append-nil, map-append}
use Rattle.std.proofs.lemmas.List.Concat.{flat_map-append}
use Rattle.std.proofs.lemmas.Option.{get_or_from_slice_get, slice_get_within}
use Rattle.tmr_base.specs.declared.copies.CopyNo.{CopyNo}
use Rattle.tmr_base.specs.declared.copies.CopyNo.TheVariants.{First, Second, Third}
use Rattle.tmr_base.specs.declared.ids.Edge.{Edge}
use Rattle.tmr_base.specs.Names.{copy_text, voter_text}
use Rattle.tmr_base.specs.Parts.{PlainParts}
use Rattle.flat_net.specs.Net.{Net, Node, Table, Register, net_count, node_of, name_of, pins_at}
use Rattle.flat_net.specs.Free.{node_bit}
use Rattle.feedback_cut.specs.Inner.{node_pins}
use Rattle.blif_writer.specs.Text.{with_marks, clock_words, control_words, init_word, start_of, row_lines, net_words, node_lines, line_text, lines_text, free_text}
use Rattle.blif_writer.specs.Left.{spaced, spaced_line, nodes_left}
use Rattle.blif_writer.proofs.NodeLines.{node_at}
use Rattle.blif_writer.proofs.Putting.{spaced_append}
use Rattle.blif_writer.proofs.TextLaws.{text_put}
use Rattle.certificate.specs.declared.role.Role.{Role}
use Rattle.certificate.specs.declared.role.Role.TheVariants.{Copy, Voter}
use Rattle.certificate.specs.Cert.{PlainCert}
use Rattle.certificate.specs.Starts.{role_start, spread_start, counted}
use Rattle.triplicate.specs.Blocks.{threefold, block, hardened_roles, hardened_inputs, hardened_clock}
use Rattle.triplicate.specs.Form.{version_of, majority_cover}
use Rattle.triplicate.specs.Voting.{ReadsNet}
use Rattle.triplicate.specs.Construction.{pin_net, node_copy, role_node, hardened_net, hardened_cert}
use Rattle.triplicate.specs.Given.{IsGiven}
use Rattle.triplicate.specs.Labels.{Labeling}
use Rattle.triplicate.specs.Numbers.{block_start, copy_net}
use Rattle.triplicate.proofs.Formed.{map_agree, map_map, flat_map_agree}
use Rattle.triplicate.proofs.Numbering.{owner, HasNumber, in_block}
use Rattle.triplicate.proofs.Reading.{read_in_range}
use Rattle.hardened_text.specs.Private.Spelled.{three_spelled}
use Rattle.hardened_text.specs.Private.Lines.{pin_name, pin_names, copy_lines, voter_lines, role_lines, block_text, marks_of, blocks_text}
use Rattle.hardened_text.proofs.ReadNames.{copy_named, pin_named}
use Rattle.hardened_text.proofs.Ranges.{in_range}

-- lists of lists
flat_flat : {A B C : Type 0} (f : B → List C) (g : A → List B) (xs : List A) → flat_map f (flat_map g xs) ≡ flat_map (λ x. flat_map f (g x)) xs
flat_flat f g [] = refl
flat_flat f g (x ∷ xs) = flat_map-append f (g x) (flat_map g xs) ∙ ap (λ t. flat_map f (g x) ++ t) (flat_flat f g xs)

flat_of_map : {A B C : Type 0} (f : B → List C) (g : A → B) (xs : List A) → flat_map f (map g xs) ≡ flat_map (λ x. f (g x)) xs
flat_of_map f g [] = refl
flat_of_map f g (x ∷ xs) = ap (λ t. f (g x) ++ t) (flat_of_map f g xs)

-- each node with its mark
marked_pairs : {A : Type 0} (node : A → Node) (mark : A → Bool) (xs : List A) → with_marks (map mark xs) (map node xs) ≡ map (λ x. (node x, mark x)) xs
unfolding with_marks
marked_pairs node mark [] = refl
marked_pairs node mark (x ∷ xs) = ap (λ t. (node x, mark x) ∷ t) (marked_pairs node mark xs)

-- three names of each, a blank before each
spaced_threes : {A : Type 0} (g : A → CopyNo → List ℕ) (xs : List A) →
    spaced (flat_map (λ x. threefold (g x)) xs) ≡ flat_map (λ x. 32 ∷ (g x First ++ 32 ∷ (g x Second ++ 32 ∷ g x Third))) xs
spaced_threes g [] = refl
spaced_threes g (x ∷ xs) =
    spaced_append (threefold (g x)) (flat_map (λ x. threefold (g x)) xs)
    ∙ both (regroup (g x First) (g x Second) (g x Third)) (spaced_threes g xs)
  where
    regroup : (a b c : List ℕ) → spaced (a ∷ b ∷ c ∷ []) ≡ 32 ∷ (a ++ 32 ∷ (b ++ 32 ∷ c))
    regroup a b c = simp (append_assoc, append-nil)

    both : {a b c d : List ℕ} → a ≡ b → c ≡ d → a ++ c ≡ b ++ d
    both e f = cc

four_lines : (own a b d u v w : List ℕ) → a ≡ u → b ≡ v → d ≡ w →
    ◌≡◌ {A = List (List (List ℕ))} ((codes ".names" ∷ a ∷ b ∷ d ∷ own ∷ []) ∷ row_lines majority_cover) ((codes ".names" ∷ u ∷ v ∷ w ∷ own ∷ []) ∷ row_lines majority_cover)
four_lines own a b d u v w e f g = cc

module _ (n : Net) (parts : PlainParts) (voted : ℕ → ℕ → Bool) (t : Labeling) (is : IsGiven n parts voted t) where
  h : Net
  h = hardened_net n parts voted

  k : PlainCert
  k = hardened_cert n parts voted t

  -- the names of what a copy reads
  pins_named : (y : ℕ) (c : CopyNo) (pins : List ℕ) → y < length n.nodes → node_pins n y ≡ pins →
      map (λ j. name_of (hardened_net n parts voted) (pin_net n parts voted y c j (slice_index pins j))) (range_with_len 0 (length pins)) ≡ pin_names n parts voted y c
  pins_named y c pins node e =
      ap (λ (ps : List ℕ). map (λ j. name_of (hardened_net n parts voted) (pin_net n parts voted y c j (slice_index ps j))) (range_with_len 0 (length ps))) (sym e)
      ∙ map_agree (λ j. name_of (hardened_net n parts voted) (pin_net n parts voted y c j (slice_index (node_pins n y) j))) (pin_name n parts voted y c) (range_with_len 0 (length (node_pins n y))) each
    where
      each : (i j : ℕ) → slice_get (range_with_len 0 (length (node_pins n y))) i ≡ Some j → name_of (hardened_net n parts voted) (pin_net n parts voted y c j (slice_index (node_pins n y) j)) ≡ pin_name n parts voted y c j
      each i j at =
          let (same, low) = in_range (length (node_pins n y)) i j at in
          let reads : ReadsNet n y j (slice_index (node_pins n y) j) = record { pin = omega (arith, same, low); is = refl } in
          pin_named n parts voted t is y j (slice_index (node_pins n y) j) c node (read_in_range n parts voted t is y j (slice_index (node_pins n y) j) reads) reads

  clocked : (hardened_net n parts voted).clock ≡ hardened_clock n.clock
  unfolding hardened_net
  clocked = refl

  -- the lines of a copy
  copy_same : (x : ℕ) (c : CopyNo) (free : Bool) (o : Option Node) → length n.inputs ≤ x → x < net_count n → node_of n x ≡ o →
      node_lines (hardened_net n parts voted) (node_copy n parts voted (x - length n.inputs) c o, free) ≡ copy_lines (hardened_clock n.clock) (pin_names n parts voted (x - length n.inputs) c) c free o
  copy_same x c free None low high at = absurd (none (sym there ∙ at))
    where
      there : node_of n x ≡ Some (get_or n.nodes (x - length n.inputs) (Register [] false 0))
      there = ap (node_of n) (omega arith) ∙ node_at n (x - length n.inputs) (Register [] false 0) (omega arith)

      none : (Some (get_or n.nodes (x - length n.inputs) (Register [] false 0)) ≡ None) → ⊥
      none e = cc
  copy_same x c free (Some (Table name cover pins)) low high at =
      let y = x - length n.inputs in
      let own : node_pins n y ≡ pins = ap (λ (z : ℕ). pins_at (node_of n z)) (omega arith) ∙ ap pins_at at in
      ap (λ (ws : List (List ℕ)). (codes ".names" ∷ (ws ++ copy_text name c ∷ [])) ∷ row_lines cover)
      (map_map (name_of (hardened_net n parts voted)) (λ j. pin_net n parts voted y c j (slice_index pins j)) (range_with_len 0 (length pins)) ∙ pins_named y c pins (omega arith) own)
  copy_same x c free (Some (Register name init pin)) low high at =
      let y = x - length n.inputs in
      let own : node_pins n y ≡ pin ∷ [] = ap (λ (z : ℕ). pins_at (node_of n z)) (omega arith) ∙ ap pins_at at in
      ap (λ (ws : List (List ℕ)). (codes ".latch" ∷ (ws ++ copy_text name c ∷ (control_words (hardened_net n parts voted).clock ++ init_word (start_of free init) ∷ []))) ∷ []) (pins_named y c (pin ∷ []) (omega arith) own)
      ∙ ap (λ (e : Option (Edge × List ℕ)). (codes ".latch" ∷ (pin_names n parts voted y c ++ copy_text name c ∷ (control_words e ++ init_word (start_of free init) ∷ []))) ∷ []) clocked

  -- the lines of a voter
  voter_same : (x p : ℕ) (c : CopyNo) (free : Bool) → x < net_count n → node_lines (hardened_net n parts voted) (role_node n parts voted (Voter (record { 0 = x }) (record { 0 = p }) c), free) ≡ voter_lines (name_of n x) p c
  voter_same x p c free high = four_lines (voter_text (name_of n x) p c) _ _ _ _ _ _ (copy_named n parts voted t is x First high) (copy_named n parts voted t is x Second high) (copy_named n parts voted t is x Third high)

  -- the lines of what a role stands for
  role_same : (free : Bool) (g : ℕ) (r : Role) → HasNumber n parts voted r g → (own : Bool) → own ≡ free → node_lines (hardened_net n parts voted) (role_node n parts voted r, own) ≡ role_lines n parts voted free r
  role_same free g (Copy x c) (low, high, number) own e = ap (λ (b : Bool). node_lines (hardened_net n parts voted) (role_node n parts voted (Copy x c), b)) e ∙ copy_same x.0 c free (node_of n x.0) low high refl
  role_same free g (Voter x p c) (high, below, needed, number) own e = ap (λ (b : Bool). node_lines (hardened_net n parts voted) (role_node n parts voted (Voter x p c), b)) e ∙ voter_same x.0 p.0 c free high

  -- a role's lines where its mark is that of its net
  abbrev marked : List Bool → Role → List (List (List ℕ))
  marked w r = node_lines (hardened_net n parts voted) (role_node n parts voted r, role_start (hardened_cert n parts voted t) w r)

  original_inputs : (hardened_cert n parts voted t).original_inputs ≡ length n.inputs
  unfolding hardened_cert
  original_inputs = refl

  all_roles : (hardened_cert n parts voted t).roles ≡ hardened_roles n parts voted
  unfolding hardened_cert
  all_roles = refl

  all_nodes : (hardened_net n parts voted).nodes ≡ map (role_node n parts voted) (hardened_roles n parts voted)
  unfolding hardened_net
  all_nodes = refl

  -- a voter's lines tell nothing of marks
  marked_same : (w : List Bool) (g : ℕ) (r : Role) → HasNumber n parts voted r g → marked w r ≡ role_lines n parts voted (node_bit (length n.inputs) w (owner r)) r
  marked_same w g (Copy x c) number = role_same (node_bit (length n.inputs) w x.0) g (Copy x c) number _ (ap (λ (s : ℕ). node_bit s w x.0) original_inputs)
  marked_same w g (Voter x p c) (high, below, needed, number) = voter_same x.0 p.0 c false high

  -- the lines of what stands for net x
  block_same : (w : List Bool) (x : ℕ) → x < net_count n → lines_text (flat_map (marked w) (block n parts voted x)) ≡ block_text n parts voted (node_bit (length n.inputs) w x) x
  block_same w x high = ap lines_text (flat_map_agree (marked w) (role_lines n parts voted (node_bit (length n.inputs) w x)) (block n parts voted x) each)
    where
      each : (i : ℕ) (r : Role) → slice_get (block n parts voted x) i ≡ Some r → marked w r ≡ role_lines n parts voted (node_bit (length n.inputs) w x) r
      each i r at =
          let (number, own) = in_block n parts voted x i r high at in
          marked_same w (block_start n parts voted x + i) r number ∙ ap (λ (z : ℕ). role_lines n parts voted (node_bit (length n.inputs) w z) r) own

  -- the lines of all nodes
  nodes_same : (w : List Bool) → nodes_left (hardened_net n parts voted) (spread_start (hardened_cert n parts voted t) w) 0 ≡ blocks_text n parts voted w (net_count n)
  unfolding hardened_roles
  nodes_same w =
      ap (λ (ms : List (Node × Bool)). lines_text (flat_map (node_lines (hardened_net n parts voted)) ms))
      (ap (λ (nodes : List Node). with_marks (map (role_start (hardened_cert n parts voted t) w) (hardened_cert n parts voted t).roles) nodes) all_nodes
      ∙ (ap (λ (rs : List Role). with_marks (map (role_start (hardened_cert n parts voted t) w) rs) (map (role_node n parts voted) (hardened_roles n parts voted))) all_roles
      ∙ marked_pairs (role_node n parts voted) (role_start (hardened_cert n parts voted t) w) (hardened_roles n parts voted)))
      ∙ (ap lines_text (flat_of_map (node_lines (hardened_net n parts voted)) (λ (r : Role). let p : Node × Bool = (role_node n parts voted r, role_start (hardened_cert n parts voted t) w r) in p) (hardened_roles n parts voted)
      ∙ flat_flat (marked w) (block n parts voted) (range_with_len 0 (net_count n)))
      ∙ (flat_flat line_text (λ x. flat_map (marked w) (block n parts voted x)) (range_with_len 0 (net_count n))
      ∙ flat_map_agree (λ x. lines_text (flat_map (marked w) (block n parts voted x))) (λ x. block_text n parts voted (node_bit (length n.inputs) w x) x) (range_with_len 0 (net_count n)) each))
    where
      each : (i x : ℕ) → slice_get (range_with_len 0 (net_count n)) i ≡ Some x → lines_text (flat_map (marked w) (block n parts voted x)) ≡ block_text n parts voted (node_bit (length n.inputs) w x) x
      each i x at = let (same, low) = in_range (net_count n) i x at in block_same w x (omega (arith, same, low))

  -- the marks that count
  marks_same : (f : List Bool) → counted (hardened_cert n parts voted t) f ≡ marks_of t.inputs f
  unfolding hardened_cert
  marks_same f = go t.inputs
    where
      go : (b : Bool) → (if nat_eq (version_of b) 1 then [] else f) ≡ marks_of b f
      go true = refl
      go false = refl

  -- the names of the outputs
  outputs_same : spaced (net_words (hardened_net n parts voted) (hardened_net n parts voted).outputs) ≡ flat_map (λ x. three_spelled (name_of n x)) n.outputs
  unfolding hardened_net
  outputs_same =
      ap spaced (map_of_flat (name_of (hardened_net n parts voted)) (λ x. threefold (copy_net n parts voted x)) n.outputs ∙ flat_map_agree _ (λ x. threefold (copy_text (name_of n x))) n.outputs each)
      ∙ spaced_threes (λ x. copy_text (name_of n x)) n.outputs
    where
      map_of_flat : {A B C : Type 0} (f : B → C) (g : A → List B) (xs : List A) → map f (flat_map g xs) ≡ flat_map (λ x. map f (g x)) xs
      map_of_flat f g [] = refl
      map_of_flat f g (x ∷ xs) = map-append f (g x) (flat_map g xs) ∙ ap (λ ys. map f (g x) ++ ys) (map_of_flat f g xs)

      three : (a b d u v w : List ℕ) → a ≡ u → b ≡ v → d ≡ w → ◌≡◌ {A = List (List ℕ)} (a ∷ b ∷ d ∷ []) (u ∷ v ∷ w ∷ [])
      three a b d u v w e f g = cc

      each : (i x : ℕ) → slice_get n.outputs i ≡ Some x → map (name_of (hardened_net n parts voted)) (threefold (copy_net n parts voted x)) ≡ threefold (copy_text (name_of n x))
      each i x at =
          let high : x < net_count n = subst (λ (z : ℕ). z < net_count n) (get_or_from_slice_get n.outputs i x 0 at) (is.valid.unordered.outputs_in_range i 0 (slice_get_within n.outputs i x at)) in
          three _ _ _ _ _ _ (copy_named n parts voted t is x First high) (copy_named n parts voted t is x Second high) (copy_named n parts voted t is x Third high)

  ports : ((hardened_net n parts voted).model ≡ n.model) × ((hardened_net n parts voted).inputs ≡ hardened_inputs n)
  unfolding hardened_net
  ports = (refl, refl)

  inputs_line : codes ".inputs" ++ (flat_map three_spelled n.inputs ++ (spaced (clock_words (hardened_clock n.clock)) ++ 10 ∷ [])) ≡ spaced_line (codes ".inputs") ((hardened_net n parts voted).inputs ++ clock_words (hardened_net n parts voted).clock)
  inputs_line =
      let own = clock_words (hardened_clock n.clock) in
      ap (λ (t : List ℕ). codes ".inputs" ++ t) (sym (append_assoc (flat_map three_spelled n.inputs) (spaced own) (10 ∷ [])))
      ∙ (ap (λ (t : List ℕ). codes ".inputs" ++ ((t ++ spaced own) ++ 10 ∷ [])) (sym (spaced_threes copy_text n.inputs))
      ∙ (ap (λ (t : List ℕ). codes ".inputs" ++ (t ++ 10 ∷ [])) (sym (spaced_append (hardened_inputs n) own))
      ∙ (ap (λ (ins : List (List ℕ)). spaced_line (codes ".inputs") (ins ++ own)) (sym ports.1)
      ∙ ap (λ (e : Option (Edge × List ℕ)). spaced_line (codes ".inputs") ((hardened_net n parts voted).inputs ++ clock_words e)) (sym clocked))))

  -- all of the text
  pub design_is : (f : List Bool) (o0 o3 o4 o5 : List ℕ) → o0 ≡ []
      → o3 ≡ ((o0 ++ spaced_line (codes ".model") (n.model ∷ [])) ++ (codes ".inputs" ++ (flat_map three_spelled n.inputs ++ (spaced (clock_words (hardened_clock n.clock)) ++ 10 ∷ [])))) ++ (codes ".outputs" ++ (flat_map (λ x. three_spelled (name_of n x)) n.outputs ++ 10 ∷ []))
      → o4 ≡ o3 ++ blocks_text n parts voted (marks_of t.inputs f) (net_count n) → o5 ≡ o4 ++ codes ".end\n"
      → o5 ≡ free_text (hardened_net n parts voted) (spread_start (hardened_cert n parts voted t) (counted (hardened_cert n parts voted t) f))
  design_is f o0 o3 o4 o5 e0 e3 e4 e5 =
      let own = hardened_net n parts voted in
      let marks = spread_start (hardened_cert n parts voted t) (counted (hardened_cert n parts voted t) f) in
      let o1 : List ℕ = o0 ++ spaced_line (codes ".model") (n.model ∷ []) in
      let o2 : List ℕ = o1 ++ spaced_line (codes ".inputs") (own.inputs ++ clock_words own.clock) in
      let outputs : codes ".outputs" ++ (flat_map (λ x. three_spelled (name_of n x)) n.outputs ++ 10 ∷ []) ≡ spaced_line (codes ".outputs") (net_words own own.outputs) = ap (λ (t : List ℕ). codes ".outputs" ++ (t ++ 10 ∷ [])) (sym outputs_same) in
      let ends : o3 ≡ o2 ++ spaced_line (codes ".outputs") (net_words own own.outputs) = e3 ∙ two o1 _ _ _ _ inputs_line outputs in
      let nodes : o4 ≡ o3 ++ nodes_left own marks 0 = e4 ∙ ap (λ (t : List ℕ). o3 ++ t) (ap (λ (w : List Bool). blocks_text n parts voted w (net_count n)) (sym (marks_same f)) ∙ sym (nodes_same (counted (hardened_cert n parts voted t) f))) in
      text_put own marks o0 o1 o2 o3 o4 o5 e0 (ap (λ (m : List ℕ). o0 ++ spaced_line (codes ".model") (m ∷ [])) (sym ports.0)) refl ends nodes e5
    where
      two : (o a b c d : List ℕ) → a ≡ c → b ≡ d → (o ++ a) ++ b ≡ (o ++ c) ++ d
      two o a b c d e f = cc
