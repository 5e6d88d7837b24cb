-- The lines of the copies of a node, piece by piece.
use Rattle.std.proofs.Common.{◌≡◌, ℕ, ◌+◌, ◌<◌, Bool, false, List, [], ◌∷◌, ◌++◌, length, drop, get_or, Option, Some, None, refl, sym, ap, ◌∙◌, arith}
use Rattle.std.specs.Prelude.{codes}
use Rattle.std.proofs.lemmas.List.{append-nil, get_or-map, length-map}
use Rattle.flat_net.specs.Net.{Net, Node, Table, Register, node_of, name_of, pins_at, IsTable, IsInitOf}
use Rattle.blif_writer.specs.Text.{control_words, init_word, start_of, row_lines, line_text}
use Rattle.blif_writer.specs.Left.{spaced}
use Rattle.blif_writer.proofs.NodeLines.{name_is}
use Rattle.blif_writer.proofs.Putting.{word_put, line_put, more_put, one_put, lines_put}
use Rattle.guarded_text.specs.Private.Spelled.{tailed}
use Rattle.guarded_text.specs.Private.Lines.{guarded_clock, all_tailed, copy_text, AreRowsOf}

-- one pin more
pub pin_put : (n : Net) (byte : ℕ) (pins : List ℕ) (j x : ℕ) (name out new total : List ℕ) → j < length pins → x ≡ get_or pins j 0 → name ≡ name_of n x → new ≡ out ++ 32 ∷ tailed name byte
    → out ++ spaced (drop j (all_tailed n byte pins)) ≡ total → new ++ spaced (drop (j + 1) (all_tailed n byte pins)) ≡ total
pin_put n byte pins j x name out new total lt is named put e =
    let f : ℕ → List ℕ = λ y. tailed (name_of n y) byte in
    word_put out new total (tailed name byte) (all_tailed n byte pins) j (omega (arith, lt, length-map pins f)) (ap (λ (w : List ℕ). tailed w byte) (named ∙ ap (name_of n) is) ∙ sym (get_or-map f pins j 0 [] lt)) put e

-- a table's lines are put
pub table_put : (n : Net) (byte : ℕ) (x : ℕ) (o : Option Node) (name rows old o1 o2 o3 o4 o5 : List ℕ) → node_of n x ≡ o → IsTable o → AreRowsOf o rows → name ≡ name_of n x
    → o1 ≡ old ++ codes ".names" → o2 ≡ o1 ++ spaced (all_tailed n byte (pins_at o)) → o3 ≡ o2 ++ 32 ∷ tailed name byte → o4 ≡ o3 ++ 10 ∷ [] → o5 ≡ o4 ++ rows
    → o5 ≡ old ++ copy_text n byte o
table_put n byte x None name rows old o1 o2 o3 o4 o5 at table told is e1 e2 e3 e4 e5 = absurd table
table_put n byte x (Some (Register other init pin)) name rows old o1 o2 o3 o4 o5 at table told is e1 e2 e3 e4 e5 = absurd table
table_put n byte x (Some (Table own d nets)) name rows old o1 o2 o3 o4 o5 at table told is e1 e2 e3 e4 e5 =
    let named : name ≡ own = is ∙ name_is n x (Table own d nets) at in
    let pins : List (List ℕ) = all_tailed n byte nets in
    let words : o3 ≡ o1 ++ spaced (pins ++ (tailed own byte) ∷ []) = more_put o1 o2 o3 pins ((tailed own byte) ∷ []) e2 (one_put o2 o3 (tailed own byte) (e3 ∙ ap (λ (w : List ℕ). o2 ++ 32 ∷ tailed w byte) named)) in
    let line : o4 ≡ old ++ line_text (codes ".names" ∷ (pins ++ (tailed own byte) ∷ [])) = line_put old o1 o3 o4 (codes ".names") (pins ++ (tailed own byte) ∷ []) e1 words e4 in
    lines_put old o4 o5 (codes ".names" ∷ (pins ++ (tailed own byte) ∷ [])) (row_lines d) line (e5 ∙ ap (λ (t : List ℕ). o4 ++ t) (told d refl))

-- a register's line is put
pub register_put : (n : Net) (byte : ℕ) (x : ℕ) (o : Option Node) (b : Bool) (name control old o1 o2 o3 o4 o5 o6 : List ℕ) → node_of n x ≡ o → IsInitOf o b → name ≡ name_of n x → control ≡ spaced (control_words (guarded_clock n.clock))
    → o1 ≡ old ++ codes ".latch" → o2 ≡ o1 ++ spaced (all_tailed n byte (pins_at o)) → o3 ≡ o2 ++ 32 ∷ tailed name byte → o4 ≡ o3 ++ control → o5 ≡ o4 ++ 32 ∷ init_word (start_of false b) → o6 ≡ o5 ++ 10 ∷ []
    → o6 ≡ old ++ copy_text n byte o
register_put n byte x None b name control old o1 o2 o3 o4 o5 o6 at init is told e1 e2 e3 e4 e5 e6 = absurd init
register_put n byte x (Some (Table own d nets)) b name control old o1 o2 o3 o4 o5 o6 at init is told e1 e2 e3 e4 e5 e6 = absurd init
register_put n byte x (Some (Register own start pin)) b name control old o1 o2 o3 o4 o5 o6 at init is told e1 e2 e3 e4 e5 e6 =
    let named : name ≡ own = is ∙ name_is n x (Register own start pin) at in
    let value : List ℕ = init_word (start_of false start) in
    let clocked : List (List ℕ) = control_words (guarded_clock n.clock) in
    let first : List ℕ = tailed (name_of n pin) byte in
    let ends : o3 ≡ o1 ++ spaced (first ∷ (tailed own byte) ∷ []) = more_put o1 o2 o3 (first ∷ []) ((tailed own byte) ∷ []) e2 (one_put o2 o3 (tailed own byte) (e3 ∙ ap (λ (w : List ℕ). o2 ++ 32 ∷ tailed w byte) named)) in
    let last : o5 ≡ o3 ++ spaced (clocked ++ value ∷ []) = more_put o3 o4 o5 clocked (value ∷ []) (e4 ∙ ap (λ (t : List ℕ). o3 ++ t) told) (one_put o4 o5 value (e5 ∙ ap (λ (v : Bool). o4 ++ 32 ∷ init_word (start_of false v)) (sym init))) in
    let words : o5 ≡ o1 ++ spaced (first ∷ (tailed own byte) ∷ (clocked ++ value ∷ [])) = more_put o1 o3 o5 (first ∷ (tailed own byte) ∷ []) (clocked ++ value ∷ []) ends last in
    let line = line_put old o1 o5 o6 (codes ".latch") (first ∷ (tailed own byte) ∷ (clocked ++ value ∷ [])) e1 words e6 in
    line ∙ ap (λ (t : List ℕ). old ++ t) (sym (append-nil (line_text (codes ".latch" ∷ first ∷ (tailed own byte) ∷ (clocked ++ value ∷ [])))))
