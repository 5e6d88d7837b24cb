-- Words that are put one after the other, and lines of them.
use Rattle.std.proofs.Common.{◌≡◌, ℕ, ◌+◌, ◌<◌, List, [], ◌∷◌, ◌++◌, length, map, drop, get_or, slice_get, Some, sym, ap, ◌∙◌, append_assoc, arith}
use Rattle.std.specs.List.{join_with_byte}
use Rattle.std.proofs.lemmas.List.{append-nil, drop_more, get_or-map, length-map}
use Rattle.std.proofs.lemmas.List.Concat.{flat_map-append}
use Rattle.std.proofs.lemmas.Option.{get_or_from_slice_get}
use Rattle.flat_net.specs.Net.{Net, name_of}
use Rattle.blif_writer.specs.Text.{line_text, lines_text, net_words}
use Rattle.blif_writer.specs.Left.{spaced}

-- one word more of these
pub word_put : (out new total word : List ℕ) (words : List (List ℕ)) (i : ℕ) → i < length words → word ≡ get_or words i [] → new ≡ out ++ 32 ∷ word → out ++ spaced (drop i words) ≡ total → new ++ spaced (drop (i + 1) words) ≡ total
word_put out new total word words i lt is put e =
    let rest : List ℕ = spaced (drop (i + 1) words) in
    ap (λ (o : List ℕ). o ++ rest) put ∙ (append_assoc out (32 ∷ word) rest ∙ (ap (λ (w : List ℕ). out ++ (32 ∷ (w ++ rest))) is ∙ (ap (λ (ws : List (List ℕ)). out ++ spaced ws) (sym (drop_more words i [] lt)) ∙ e)))

-- the name of a net of these
net_word : (n : Net) (nets : List ℕ) (i x : ℕ) → i < length nets → x ≡ get_or nets i 0 → name_of n x ≡ get_or (net_words n nets) i []
net_word n nets i x lt is = ap (name_of n) is ∙ sym (get_or-map (name_of n) nets i 0 [] lt)

-- the name of one net more of these
pub net_put : (n : Net) (nets : List ℕ) (i x : ℕ) (out new total word : List ℕ) → i < length nets → x ≡ get_or nets i 0 → word ≡ name_of n x → new ≡ out ++ 32 ∷ word → out ++ spaced (drop i (net_words n nets)) ≡ total → new ++ spaced (drop (i + 1) (net_words n nets)) ≡ total
net_put n nets i x out new total word lt is named put e =
    word_put out new total word (net_words n nets) i (omega (arith, length-map nets (name_of n))) (named ∙ net_word n nets i x lt is) put e

pub there : (xs : List ℕ) (i x : ℕ) → slice_get xs i ≡ Some x → x ≡ get_or xs i 0
there xs i x e = sym (get_or_from_slice_get xs i x 0 e)

pub joined : (w : List ℕ) (ws : List (List ℕ)) → join_with_byte 32 (w ∷ ws) ≡ w ++ spaced ws
joined w [] = sym (append-nil w)
joined w (v ∷ ws) = ap (λ (t : List ℕ). w ++ (32 ∷ t)) (joined v ws)

pub spaced_append : (xs ys : List (List ℕ)) → spaced (xs ++ ys) ≡ spaced xs ++ spaced ys
spaced_append xs ys = flat_map-append (λ (w : List ℕ). 32 ∷ w) xs ys

-- a line is put: its first word, the others, and the line feed
pub line_put : (old o1 o2 o3 first : List ℕ) (words : List (List ℕ)) → o1 ≡ old ++ first → o2 ≡ o1 ++ spaced words → o3 ≡ o2 ++ 10 ∷ [] → o3 ≡ old ++ line_text (first ∷ words)
line_put old o1 o2 o3 first words e1 e2 e3 =
    let text : List ℕ = join_with_byte 32 (first ∷ words) in
    let both : o2 ≡ old ++ text = e2 ∙ (ap (λ (o : List ℕ). o ++ spaced words) e1 ∙ (append_assoc old first (spaced words) ∙ ap (λ (t : List ℕ). old ++ t) (sym (joined first words)))) in
    e3 ∙ (ap (λ (o : List ℕ). o ++ 10 ∷ []) both ∙ append_assoc old text (10 ∷ []))

-- words that are put, and more words
pub more_put : (old o1 o2 : List ℕ) (xs ys : List (List ℕ)) → o1 ≡ old ++ spaced xs → o2 ≡ o1 ++ spaced ys → o2 ≡ old ++ spaced (xs ++ ys)
more_put old o1 o2 xs ys e1 e2 =
    e2 ∙ (ap (λ (o : List ℕ). o ++ spaced ys) e1 ∙ (append_assoc old (spaced xs) (spaced ys) ∙ ap (λ (t : List ℕ). old ++ t) (sym (spaced_append xs ys))))

-- one word alone
pub one_put : (old o : List ℕ) (word : List ℕ) → o ≡ old ++ 32 ∷ word → o ≡ old ++ spaced (word ∷ [])
one_put old o word e = e ∙ ap (λ (t : List ℕ). old ++ 32 ∷ t) (sym (append-nil word))

-- a line, and more lines
pub lines_put : (old o1 o2 : List ℕ) (line : List (List ℕ)) (lines : List (List (List ℕ))) → o1 ≡ old ++ line_text line → o2 ≡ o1 ++ lines_text lines → o2 ≡ old ++ lines_text (line ∷ lines)
lines_put old o1 o2 line lines e1 e2 = e2 ∙ (ap (λ (o : List ℕ). o ++ lines_text lines) e1 ∙ append_assoc old (line_text line) (lines_text lines))

-- one line more of these
pub line_more : {A : Type 0} (f : A → List (List ℕ)) (out new total : List ℕ) (xs : List A) (i : ℕ) (x : A) → i < length xs → x ≡ get_or xs i x → new ≡ out ++ line_text (f x) → out ++ lines_text (map f (drop i xs)) ≡ total → new ++ lines_text (map f (drop (i + 1) xs)) ≡ total
line_more f out new total xs i x lt is put e =
    let rest : List ℕ = lines_text (map f (drop (i + 1) xs)) in
    ap (λ (o : List ℕ). o ++ rest) put ∙ (append_assoc out (line_text (f x)) rest ∙ (ap (λ y. out ++ (line_text (f y) ++ rest)) is ∙ (ap (λ ys. out ++ lines_text (map f ys)) (sym (drop_more xs i x lt)) ∙ e)))
