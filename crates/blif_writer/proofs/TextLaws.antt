-- All lines of a text, one after the other.
use Rattle.std.proofs.Common.{◌≡◌, ℕ, Bool, List, [], ◌∷◌, ◌++◌, sym, ap, ◌∙◌, append_assoc}
use Rattle.std.specs.Prelude.{codes}
use Rattle.std.specs.List.{flat_map}
use Rattle.std.proofs.lemmas.List.Concat.{flat_map-append}
use Rattle.flat_net.specs.Net.{Net}
use Rattle.blif_writer.specs.Text.{line_text, lines_text, net_words, clock_words, with_marks, node_lines, free_lines, free_text}
use Rattle.blif_writer.specs.Left.{nodes_left, spaced, spaced_line}
use Rattle.blif_writer.proofs.Putting.{joined}

in_a_row : (a b c m e o0 o1 o2 o3 o4 o5 : List ℕ) → o0 ≡ [] → o1 ≡ o0 ++ a → o2 ≡ o1 ++ b → o3 ≡ o2 ++ c → o4 ≡ o3 ++ m → o5 ≡ o4 ++ e → o5 ≡ a ++ (b ++ (c ++ (m ++ e)))
in_a_row a b c m e o0 o1 o2 o3 o4 o5 e0 e1 e2 e3 e4 e5 =
    let one : o1 ≡ a = e1 ∙ ap (λ (o : List ℕ). o ++ a) e0 in
    let two : o2 ≡ a ++ b = e2 ∙ ap (λ (o : List ℕ). o ++ b) one in
    let three : o3 ≡ a ++ (b ++ c) = e3 ∙ (ap (λ (o : List ℕ). o ++ c) two ∙ append_assoc a b c) in
    let four : o4 ≡ a ++ (b ++ (c ++ m)) = e4 ∙ (ap (λ (o : List ℕ). o ++ m) three ∙ (append_assoc a (b ++ c) m ∙ ap (λ (o : List ℕ). a ++ o) (append_assoc b c m))) in
    e5 ∙ (ap (λ (o : List ℕ). o ++ e) four ∙ (append_assoc a (b ++ (c ++ m)) e ∙ ap (λ (o : List ℕ). a ++ o) (append_assoc b (c ++ m) e ∙ ap (λ (o : List ℕ). b ++ o) (append_assoc c m e))))

line_is : (first : List ℕ) (words : List (List ℕ)) → line_text (first ∷ words) ≡ spaced_line first words
line_is first words = ap (λ (t : List ℕ). t ++ 10 ∷ []) (joined first words) ∙ append_assoc first (spaced words) (10 ∷ [])

three : (a b c x y z m : List ℕ) → a ≡ x → b ≡ y → c ≡ z → a ++ (b ++ (c ++ m)) ≡ x ++ (y ++ (z ++ m))
three a b c x y z m ea eb ec = cc

-- the text of a design, piece by piece
text_is : (n : Net) (free : List Bool) → free_text n free ≡ spaced_line (codes ".model") (n.model ∷ []) ++ (spaced_line (codes ".inputs") (n.inputs ++ clock_words n.clock) ++ (spaced_line (codes ".outputs") (net_words n n.outputs) ++ (nodes_left n free 0 ++ lines_text ((codes ".end" ∷ []) ∷ []))))
unfolding free_lines
text_is n free =
    let ins = n.inputs ++ clock_words n.clock in
    let outs = net_words n n.outputs in
    let end : List (List (List ℕ)) = (codes ".end" ∷ []) ∷ [] in
    let nodes = flat_map-append line_text (flat_map (node_lines n) (with_marks free n.nodes)) end in
    ap (λ (t : List ℕ). line_text (codes ".model" ∷ n.model ∷ []) ++ (line_text (codes ".inputs" ∷ ins) ++ (line_text (codes ".outputs" ∷ outs) ++ t))) nodes
    ∙ three (line_text (codes ".model" ∷ n.model ∷ [])) (line_text (codes ".inputs" ∷ ins)) (line_text (codes ".outputs" ∷ outs)) (spaced_line (codes ".model") (n.model ∷ [])) (spaced_line (codes ".inputs") ins) (spaced_line (codes ".outputs") outs) (nodes_left n free 0 ++ lines_text end)
    (line_is (codes ".model") (n.model ∷ [])) (line_is (codes ".inputs") ins) (line_is (codes ".outputs") outs)

-- all lines are put
pub text_put : (n : Net) (free : List Bool) (o0 o1 o2 o3 o4 o5 : List ℕ) → o0 ≡ [] → o1 ≡ o0 ++ spaced_line (codes ".model") (n.model ∷ []) → o2 ≡ o1 ++ spaced_line (codes ".inputs") (n.inputs ++ clock_words n.clock) → o3 ≡ o2 ++ spaced_line (codes ".outputs") (net_words n n.outputs)
    → o4 ≡ o3 ++ nodes_left n free 0 → o5 ≡ o4 ++ lines_text ((codes ".end" ∷ []) ∷ []) → o5 ≡ free_text n free
text_put n free o0 o1 o2 o3 o4 o5 e0 e1 e2 e3 e4 e5 =
    in_a_row (spaced_line (codes ".model") (n.model ∷ [])) (spaced_line (codes ".inputs") (n.inputs ++ clock_words n.clock)) (spaced_line (codes ".outputs") (net_words n n.outputs)) (nodes_left n free 0) (lines_text ((codes ".end" ∷ []) ∷ [])) o0 o1 o2 o3 o4 o5 e0 e1 e2 e3 e4 e5 ∙ sym (text_is n free)
