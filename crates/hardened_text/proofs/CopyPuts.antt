-- The lines of the copies of a node, piece by piece.
use Rattle.std.proofs.Common.{◌≡◌, ℕ, ◌+◌, ◌<◌, ◌≤◌, Bool, false, List, [], ◌∷◌, ◌++◌, length, map, drop, slice_get, Option, Some, None, sym, ap, subst, ◌∙◌, append_assoc, arith}
use Rattle.std.specs.Prelude.{codes, slice_index, if◌then◌else◌}
use Rattle.std.specs.List.{range_with_len}
use Rattle.std.specs.Fmt.{decimal}
use Rattle.std.proofs.lemmas.List.{append-nil}
use Rattle.std.proofs.lemmas.List.FromFn.{length-map-range_with_len, get_or-map-range_with_len}
use Rattle.tmr_base.specs.declared.copies.CopyNo.{CopyNo}
use Rattle.tmr_base.specs.declared.copies.CopyNo.TheVariants.{First, Second, Third}
use Rattle.tmr_base.specs.declared.ids.Edge.{Edge}
use Rattle.tmr_base.specs.Names.{copy_text, voter_text}
use Rattle.tmr_base.specs.Parts.{PlainParts}
use Rattle.flat_net.specs.declared.kind.Kind.TheVariants as kind
use Rattle.flat_net.specs.Kinds.{kind_of}
use Rattle.flat_net.specs.Net.{Net, Node, Table, Register, node_of, node_name, name_of, pins_at, IsCoverOf, IsInitOf}
use Rattle.table_cover.specs.Cover.{PlainCover}
use Rattle.feedback_cut.specs.Inner.{node_pins}
use Rattle.blif_writer.specs.Text.{control_words, init_word, start_of, row_lines, line_text, lines_text}
use Rattle.blif_writer.specs.Left.{spaced}
use Rattle.blif_writer.proofs.NodeLines.{name_is, node_at}
use Rattle.blif_writer.proofs.Putting.{word_put, joined, spaced_append}
use Rattle.triplicate.proofs.Formed.{map_agree}
use Rattle.hardened_text.specs.Private.Spelled.{pin_spelled, pins_spelled}
use Rattle.hardened_text.specs.Private.Lines.{pin_name, pin_names, copy_lines, first_word, ending_of}
use Rattle.hardened_text.proofs.Ranges.{in_range, row_done}

-- the lines of copy c, put together
abbrev spelled : Net → ℕ → List ℕ → List Bool → List ℕ → List ℕ → CopyNo → List ℕ
spelled n x digits votes word ending c = word ++ (spaced (pins_spelled n digits votes x c) ++ 32 ∷ (copy_text (name_of n x) c ++ ending))

-- the same, by the names of its pins
abbrev named : Net → PlainParts → (ℕ → ℕ → Bool) → Option (Edge × List ℕ) → Bool → ℕ → CopyNo → List ℕ
named n parts voted clock free y c = lines_text (copy_lines clock (pin_names n parts voted y c) c free (node_of n (length n.inputs + y)))

-- one pin more
pub pin_put : (n : Net) (digits : List ℕ) (votes : List Bool) (x : ℕ) (c : CopyNo) (j : ℕ) (out new total : List ℕ) → j < length (pins_at (node_of n x)) → new ≡ out ++ 32 ∷ pin_spelled n digits votes x c j
    → out ++ spaced (drop j (pins_spelled n digits votes x c)) ≡ total → new ++ spaced (drop (j + 1) (pins_spelled n digits votes x c)) ≡ total
pin_put n digits votes x c j out new total lt put e =
    let f = pin_spelled n digits votes x c in
    let k = length (pins_at (node_of n x)) in
    word_put out new total (f j) (pins_spelled n digits votes x c) j (omega (arith, lt, length-map-range_with_len f 0 k)) (sym (get_or-map-range_with_len f 0 k j j [] lt (omega arith))) put e

-- no pin is left
pub pins_done : (n : Net) (digits : List ℕ) (votes : List Bool) (x : ℕ) (c : CopyNo) (j : ℕ) (out total : List ℕ) → length (pins_at (node_of n x)) ≤ j
    → out ++ spaced (drop j (pins_spelled n digits votes x c)) ≡ total → out ≡ total
pins_done n digits votes x c j out total le e =
    row_done (λ (word : List ℕ). 32 ∷ word) j (pins_spelled n digits votes x c) out total (omega (arith, le, length-map-range_with_len (pin_spelled n digits votes x c) 0 (length (pins_at (node_of n x))))) e

-- a copy's lines are put
pub copy_put : (old o1 o2 o3 o4 word pins name own ending : List ℕ) → o1 ≡ old ++ word → o2 ≡ o1 ++ pins → o3 ≡ o2 ++ 32 ∷ name → name ≡ own → o4 ≡ o3 ++ ending → o4 ≡ old ++ (word ++ (pins ++ 32 ∷ (own ++ ending)))
copy_put old o1 o2 o3 o4 word pins name own ending e1 e2 e3 is e4 =
    e4 ∙ (ap (λ (o : List ℕ). o ++ ending) (e3 ∙ (ap (λ (o : List ℕ). o ++ 32 ∷ name) (e2 ∙ ap (λ (o : List ℕ). o ++ pins) e1) ∙ ap (λ (w : List ℕ). ((old ++ word) ++ pins) ++ 32 ∷ w) is)) ∙ regroup old word pins own ending)
  where
    regroup : (o w p n e : List ℕ) → (((o ++ w) ++ p) ++ 32 ∷ n) ++ e ≡ o ++ (w ++ (p ++ 32 ∷ (n ++ e)))
    regroup o w p n e = simp append_assoc

-- the line of a copy: its first word, the words before its name, the name, and the words behind it
word_line : (word name : List ℕ) (before behind : List (List ℕ)) → line_text (word ∷ (before ++ name ∷ behind)) ≡ word ++ (spaced before ++ 32 ∷ (name ++ (spaced behind ++ 10 ∷ [])))
word_line word name before behind =
    ap (λ (t : List ℕ). t ++ 10 ∷ []) (joined word (before ++ name ∷ behind) ∙ ap (λ (t : List ℕ). word ++ t) (spaced_append before (name ∷ behind)))
    ∙ regroup word (spaced before) name (spaced behind)
  where
    regroup : (w p n b : List ℕ) → (w ++ (p ++ 32 ∷ (n ++ b))) ++ 10 ∷ [] ≡ w ++ (p ++ 32 ∷ (n ++ (b ++ 10 ∷ [])))
    regroup w p n b = simp append_assoc

-- a copy's lines are made of its first word, its pins, its name and what stands behind that
copy_is : (n : Net) (clock : Option (Edge × List ℕ)) (pins : List (List ℕ)) (c : CopyNo) (free : Bool) (x : ℕ) (node : Node) → node_of n x ≡ Some node →
    first_word (kind_of (node_of n x)) ++ (spaced pins ++ 32 ∷ (copy_text (name_of n x) c ++ ending_of clock free (node_of n x))) ≡ lines_text (copy_lines clock pins c free (node_of n x))
copy_is n clock pins c free x node at =
    subst (λ (o : Option Node). first_word (kind_of o) ++ (spaced pins ++ 32 ∷ (copy_text (name_of n x) c ++ ending_of clock free o)) ≡ lines_text (copy_lines clock pins c free o)) (sym at) (go node (name_is n x node at))
  where
    table : (w p n e : List ℕ) → w ++ (p ++ 32 ∷ (n ++ 10 ∷ e)) ≡ (w ++ (p ++ 32 ∷ (n ++ 10 ∷ []))) ++ e
    table w p n e = simp append_assoc

    go : (node : Node) → name_of n x ≡ node_name node → first_word (kind_of (Some node)) ++ (spaced pins ++ 32 ∷ (copy_text (name_of n x) c ++ ending_of clock free (Some node))) ≡ lines_text (copy_lines clock pins c free (Some node))
    go (Table own d nets) is =
        ap (λ (w : List ℕ). codes ".names" ++ (spaced pins ++ 32 ∷ (copy_text w c ++ 10 ∷ lines_text (row_lines d)))) is
        ∙ (table (codes ".names") (spaced pins) (copy_text own c) (lines_text (row_lines d))
        ∙ ap (λ (t : List ℕ). t ++ lines_text (row_lines d)) (sym (word_line (codes ".names") (copy_text own c) pins [])))
    go (Register own start pin) is =
        let value : List ℕ = init_word (start_of free start) in
        let behind : spaced (control_words clock) ++ 32 ∷ value ≡ spaced (control_words clock ++ value ∷ []) =
        sym (spaced_append (control_words clock) (value ∷ []) ∙ ap (λ (t : List ℕ). spaced (control_words clock) ++ 32 ∷ t) (append-nil value)) in
        ap (λ (w : List ℕ). codes ".latch" ++ (spaced pins ++ 32 ∷ (copy_text w c ++ ((spaced (control_words clock) ++ 32 ∷ value) ++ 10 ∷ [])))) is
        ∙ (ap (λ (t : List ℕ). codes ".latch" ++ (spaced pins ++ 32 ∷ (copy_text own c ++ (t ++ 10 ∷ [])))) behind
        ∙ (sym (word_line (codes ".latch") (copy_text own c) pins (control_words clock ++ value ∷ []))
        ∙ sym (append-nil (line_text (codes ".latch" ∷ (pins ++ copy_text own c ∷ (control_words clock ++ value ∷ [])))))))

-- what stands behind the names of a net's copies, by what the net is
pub input_ending : (clock : Option (Edge × List ℕ)) (free : Bool) (o : Option Node) (out : List ℕ) → kind_of o ≡ kind.Input → out ≡ [] → out ≡ ending_of clock free o
input_ending clock free None out e none = none
input_ending clock free (Some (Table name cover nets)) out e none = absurd cc
input_ending clock free (Some (Register name init pin)) out e none = absurd cc

pub cover_ending : (clock : Option (Edge × List ℕ)) (free : Bool) (o : Option Node) (d : PlainCover) → IsCoverOf o d → 10 ∷ lines_text (row_lines d) ≡ ending_of clock free o
cover_ending clock free None d is = absurd is
cover_ending clock free (Some (Table name cover nets)) d is = ap (λ (k : PlainCover). 10 ∷ lines_text (row_lines k)) (sym is)
cover_ending clock free (Some (Register name init pin)) d is = absurd is

pub init_ending : (clock : Option (Edge × List ℕ)) (free : Bool) (o : Option Node) (b : Bool) → IsInitOf o b → (spaced (control_words clock) ++ 32 ∷ init_word (start_of free b)) ++ 10 ∷ [] ≡ ending_of clock free o
init_ending clock free None b is = absurd is
init_ending clock free (Some (Table name cover nets)) b is = absurd is
init_ending clock free (Some (Register name init pin)) b is = ap (λ (v : Bool). (spaced (control_words clock) ++ 32 ∷ init_word (start_of free v)) ++ 10 ∷ []) (sym is)

pub ruleset endings = (input_ending, cover_ending, init_ending)

-- the pins of node y are the named ones
pub pins_same : (n : Net) (parts : PlainParts) (voted : ℕ → ℕ → Bool) (y : ℕ) (c : CopyNo) →
    pins_spelled n (decimal (slice_index parts.of y)) (map (voted y) (range_with_len 0 (length (node_pins n y)))) (length n.inputs + y) c ≡ pin_names n parts voted y c
pins_same n parts voted y c = map_agree (pin_spelled n (decimal (slice_index parts.of y)) votes (length n.inputs + y) c) (pin_name n parts voted y c) (range_with_len 0 count) same
  where
    count : ℕ
    count = length (node_pins n y)

    votes : List Bool
    votes = map (voted y) (range_with_len 0 count)

    same : (i j : ℕ) → slice_get (range_with_len 0 count) i ≡ Some j → pin_spelled n (decimal (slice_index parts.of y)) votes (length n.inputs + y) c j ≡ pin_name n parts voted y c j
    same i j at =
        let (is, low) = in_range count i j at in
        ap (λ (b : Bool). if b then voter_text (name_of n (slice_index (node_pins n y) j)) (slice_index parts.of y) c else copy_text (name_of n (slice_index (node_pins n y) j)) c)
        (get_or-map-range_with_len (voted y) 0 count j j false (omega (arith, is, low)) (omega arith))

-- the lines of the three copies, whose pins are the named ones
pub three_put : (n : Net) (parts : PlainParts) (voted : ℕ → ℕ → Bool) (clock : Option (Edge × List ℕ)) (free : Bool) (x y p : ℕ) (digits : List ℕ) (votes : List Bool) (word ending old new : List ℕ) → y < length n.nodes → x ≡ length n.inputs + y → p ≡ slice_index parts.of y → digits ≡ decimal p → votes ≡ map (voted y) (range_with_len 0 (length (node_pins n y)))
    → word ≡ first_word (kind_of (node_of n x)) → ending ≡ ending_of clock free (node_of n x)
    → new ≡ ((old ++ spelled n x digits votes word ending First) ++ spelled n x digits votes word ending Second) ++ spelled n x digits votes word ending Third
    → new ≡ ((old ++ named n parts voted clock free y First) ++ named n parts voted clock free y Second) ++ named n parts voted clock free y Third
three_put n parts voted clock free x y p digits votes word ending old new below ex ep ed ev ew ee put =
    put ∙ all old _ _ _ _ _ _ (same First) (same Second) (same Third)
  where
    z : ℕ
    z = length n.inputs + y

    ds : List ℕ
    ds = decimal (slice_index parts.of y)

    vs : List Bool
    vs = map (voted y) (range_with_len 0 (length (node_pins n y)))

    same : (c : CopyNo) → spelled n x digits votes word ending c ≡ named n parts voted clock free y c
    same c =
        ap (λ (d : List ℕ). spelled n x d votes word ending c) (ed ∙ ap decimal ep)
        ∙ (ap (λ (v : List Bool). spelled n x ds v word ending c) ev
        ∙ (ap (λ (w : List ℕ). spelled n x ds vs w ending c) ew
        ∙ (ap (λ (e : List ℕ). spelled n x ds vs (first_word (kind_of (node_of n x))) e c) ee
        ∙ (ap (λ (i : ℕ). spelled n i ds vs (first_word (kind_of (node_of n i))) (ending_of clock free (node_of n i)) c) ex
        ∙ (ap (λ (ws : List (List ℕ)). first_word (kind_of (node_of n z)) ++ (spaced ws ++ 32 ∷ (copy_text (name_of n z) c ++ ending_of clock free (node_of n z)))) (pins_same n parts voted y c)
        ∙ copy_is n clock (pin_names n parts voted y c) c free z _ (node_at n y (Register [] false 0) below))))))

    all : (o a b c x y z : List ℕ) → a ≡ x → b ≡ y → c ≡ z → ((o ++ a) ++ b) ++ c ≡ ((o ++ x) ++ y) ++ z
    all o a b c x y z e f g = cc
