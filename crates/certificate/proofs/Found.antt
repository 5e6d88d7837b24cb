-- What is read is the text that the certificate is written with.
use Rattle.std.proofs.Common.{◌≡◌, ℕ, suc, ◌+◌, Bool, true, false, cond, List, [], ◌∷◌, ◌++◌, length, get_or, Option, Some, None, Ok, Err, refl, sym, ap, subst, ◌∙◌, arith}
use Rattle.std.proofs.Common.{append_assoc, ◌⊎◌, inl, inr}
use Rattle.std.proofs.lemmas.Fmt.{decimal_digit}
use Rattle.std.specs.Prelude.{◌==◌, codes}
use Rattle.std.specs.Str.{bytes_eq}
use Rattle.std.specs.List.{flat_map, join_with_byte, position_or_len, before_first, after_first}
use Rattle.std.specs.Fmt.{decimal}
use Rattle.std.proofs.lemmas.Bool.{eqb-true}
use Rattle.std.proofs.lemmas.List.{length-append, append-nil, nil_from_length}
use Rattle.std.proofs.lemmas.List.Concat.{flat_map-append}
use Rattle.std.proofs.lemmas.List.Splits.{join_with_byte-slice_split}
use Rattle.std.proofs.lemmas.List.Sums.{split_at_first, passes_at_first}
use Rattle.std.proofs.lemmas.Slice.Eq.{bytes_eq-Decides}
use Rattle.text_lines.specs.Lines.{has_line_feed}
use Rattle.text_lines.proofs.NextLine.{line_feed_within}
use Rattle.tmr_base.specs.declared.copies.CopyNo.{CopyNo}
use Rattle.tmr_base.specs.Copies.{Three}
use Rattle.flat_net.specs.Net.{Net}
use Rattle.certificate.specs.declared.role.Role.{Role}
use Rattle.certificate.specs.declared.fault.CertFault.{CertFault}
use Rattle.certificate.specs.declared.fault.CertFault.TheVariants.{Line}
use Rattle.certificate.specs.Lines.{Rest, next_line, words_of, is_line_feed, want}
use Rattle.certificate.specs.Cert.{PlainCert}
use Rattle.certificate.specs.Text.{line_text, part_line, part_lines, node_line, node_lines, voter_line, voter_lines, cert_lines, cert_text}
use Rattle.certificate.specs.Folding.{version_named, Depths, Nodes, Roles, give_copies, read_node, read_voter, read_part, read_parts, parts_line, first_line, last_line, part_step, node_step, role_step, voter_step, repeat, fold_of_text}
use Rattle.certificate.proofs.Cases.{bind_ok, hold_ok, want_ok, ok_is, version_is, repeat_all, read_node_read, read_voter_read, read_part_read, read_parts_read}
use Rattle.certificate.proofs.Filling.{copy_role}
use Rattle.certificate.proofs.Validity.{NodesOk, nodes_ok, no_nodes, cert_made, depths_ok}

chosen : {A : Type 0} (b : Bool) (x y : A) (d : CertFault) → cond b (Ok x) (Err d) ≡ Ok y → (b ≡ true) × (x ≡ y)
chosen true x y d e = (refl, cc)
chosen false x y d e = absurd cc

-- a line, its line feed, and the rest
next_is : (r : Rest) (x : List ℕ × Rest) → next_line r ≡ Ok x → r.bytes ≡ (x.0 ++ 10 ∷ []) ++ x.1.bytes
unfolding next_line
next_is r x e =
    let made : List ℕ × Rest = (before_first is_line_feed r.bytes, record { line = r.line + 1; bytes = after_first is_line_feed r.bytes }) in
    let c = chosen (has_line_feed r.bytes) made x (Line r.line) e in
    let there = line_feed_within r.bytes c.0 in
    let feed : get_or r.bytes (position_or_len is_line_feed r.bytes) 0 ≡ 10 = eqb-true _ _ (passes_at_first is_line_feed r.bytes 0 there) in
    let parts : r.bytes ≡ made.0 ++ (10 ∷ made.1.bytes) = split_at_first is_line_feed r.bytes 0 there ∙ ap (λ (b : ℕ). made.0 ++ (b ∷ made.1.bytes)) feed in
    subst (λ (y : List ℕ × Rest). r.bytes ≡ (y.0 ++ 10 ∷ []) ++ y.1.bytes) c.1 (parts ∙ sym (append_assoc made.0 (10 ∷ []) made.1.bytes))

line_is : (r : Rest) (x : List ℕ × Rest) (words : List (List ℕ)) → next_line r ≡ Ok x → words_of x.0 ≡ words → r.bytes ≡ line_text words ++ x.1.bytes
line_is r x words e w =
    let joined : x.0 ≡ join_with_byte 32 words = sym (join_with_byte-slice_split 32 x.0) ∙ ap (join_with_byte 32) w in
    next_is r x e ∙ ap (λ (l : List ℕ). (l ++ 10 ∷ []) ++ x.1.bytes) joined

-- lines that were read, and what is left
abbrev Spells : List ℕ → List (List (List ℕ)) → Rest → Type 0
Spells bytes lines rest = bytes ≡ flat_map line_text lines ++ rest.bytes

one_more : (bytes : List ℕ) (lines more : List (List (List ℕ))) (s t : Rest) → Spells bytes lines s → Spells s.bytes more t → Spells bytes (lines ++ more) t
one_more bytes lines more s t e f =
    e ∙ (ap (λ (b : List ℕ). flat_map line_text lines ++ b) f ∙ (sym (append_assoc (flat_map line_text lines) (flat_map line_text more) t.bytes) ∙ ap (λ (b : List ℕ). b ++ t.bytes) (sym (flat_map-append line_text lines more))))

single : (r : Rest) (x : List ℕ × Rest) (words : List (List ℕ)) → next_line r ≡ Ok x → words_of x.0 ≡ words → Spells r.bytes (words ∷ []) x.1
single r x words e w = line_is r x words e w ∙ ap (λ (b : List ℕ). b ++ x.1.bytes) (sym (append-nil (line_text words)))

-- ---- depths

part_lines_push : (p : ℕ) (ds : List ℕ) (d : ℕ) → part_lines p (ds ++ d ∷ []) ≡ part_lines p ds ++ part_line (p + length ds) d ∷ []
part_lines_push p [] d = let e : p + 0 ≡ p = omega arith in ap (λ (q : ℕ). part_line q d ∷ []) (sym e)
part_lines_push p (c ∷ ds) d = let e : p + 1 + length ds ≡ p + suc (length ds) = omega arith in ap (λ (v : List (List (List ℕ))). part_line p c ∷ v) (part_lines_push (p + 1) ds d ∙ ap (λ (q : ℕ). part_lines (p + 1) ds ++ part_line q d ∷ []) e)

depth_text : (bytes : List ℕ) (i : ℕ) (s t : Depths) → Spells bytes (part_lines 0 s.depth) s.rest → part_step s ≡ Ok t → Spells bytes (part_lines 0 t.depth) t.rest
unfolding part_step
depth_text bytes i s t so_far e =
    let line = bind_ok (next_line s.rest) _ t e in
    let depth = bind_ok (read_part (length s.depth) line.0.0 s.rest.line) _ t line.2 in
    let made : Depths = record { depth = s.depth ++ depth.0 ∷ []; rest = line.0.1 } in
    let r = read_part_read (length s.depth) line.0.0 s.rest.line depth.0 depth.1 in
    let one = single s.rest line.0 (part_line (length s.depth) depth.0) line.1 r.words in
    let all = one_more bytes (part_lines 0 s.depth) (part_line (length s.depth) depth.0 ∷ []) s.rest line.0.1 so_far one in
    let zero_more : 0 + length s.depth ≡ length s.depth = omega arith in
    let lines : part_lines 0 s.depth ++ part_line (length s.depth) depth.0 ∷ [] ≡ part_lines 0 made.depth = ap (λ (q : ℕ). part_lines 0 s.depth ++ part_line q depth.0 ∷ []) (sym zero_more) ∙ sym (part_lines_push 0 s.depth depth.0) in
    subst (λ (d : Depths). Spells bytes (part_lines 0 d.depth) d.rest) (ok_is made t depth.2) (subst (λ (v : List (List (List ℕ))). Spells bytes v line.0.1) lines all)

depths_text : (count : ℕ) (rest : Rest) (t : Depths) → repeat count part_step (record { depth = []; rest = rest }) ≡ Ok t → Spells rest.bytes (part_lines 0 t.depth) t.rest
depths_text count rest t e = repeat_all (λ i d. Spells rest.bytes (part_lines 0 d.depth) d.rest) part_step (depth_text rest.bytes) count (record { depth = []; rest = rest }) t refl e

-- ---- nodes

node_lines_push : (n h : Net) (x : ℕ) (ps : List ℕ) (ts ls : List Three) (p : ℕ) (t l : Three) → length ps ≡ length ts → length ps ≡ length ls → node_lines n h x (ps ++ p ∷ []) (ts ++ t ∷ []) (ls ++ l ∷ []) ≡ node_lines n h x ps ts ls ++ node_line n h (x + length ps) p t l ∷ []
node_lines_push n h x [] [] [] p t l a b = let e : x + 0 ≡ x = omega arith in ap (λ (q : ℕ). node_line n h q p t l ∷ []) (sym e)
node_lines_push n h x [] (t' ∷ ts) ls p t l a b = absurd cc
node_lines_push n h x [] [] (l' ∷ ls) p t l a b = absurd cc
node_lines_push n h x (q ∷ ps) [] ls p t l a b = absurd cc
node_lines_push n h x (q ∷ ps) (t' ∷ ts) [] p t l a b = absurd cc
node_lines_push n h x (q ∷ ps) (t' ∷ ts) (l' ∷ ls) p t l a b =
    let e : x + 1 + length ps ≡ x + suc (length ps) = omega arith in
    ap (λ (v : List (List (List ℕ))). node_line n h x q t' l' ∷ v) (node_lines_push n h (x + 1) ps ts ls p t l (omega arith) (omega arith) ∙ ap (λ (y : ℕ). node_lines n h (x + 1) ps ts ls ++ node_line n h y p t l ∷ []) e)

record NodesText (n h : Net) (bytes : List ℕ) (s : Nodes) : Type 0 where
  copies : length s.part ≡ length s.copies
  labels : length s.part ≡ length s.labels
  text : Spells bytes (node_lines n h (length n.inputs) s.part s.copies s.labels) s.rest

nodes_text_keep : (n h : Net) (parts : ℕ) (bytes : List ℕ) (i : ℕ) (s t : Nodes) → NodesText n h bytes s → node_step n h parts s ≡ Ok t → NodesText n h bytes t
unfolding node_step
nodes_text_keep n h parts bytes i s t so_far e =
    let x = length n.inputs + length s.part in
    let line = bind_ok (next_line s.rest) _ t e in
    let node = bind_ok (read_node n h x parts line.0.0 s.rest.line) _ t line.2 in
    let roles = bind_ok (give_copies (length h.inputs) x node.0.copies s.rest.line s.roles) _ t node.2 in
    let r = read_node_read n h x parts line.0.0 s.rest.line node.0 node.1 in
    let made : Nodes = record { part = s.part ++ node.0.part ∷ []; copies = s.copies ++ node.0.copies ∷ []; labels = s.labels ++ node.0.labels ∷ []; roles = roles.0; rest = line.0.1 } in
    let one = single s.rest line.0 (node_line n h x node.0.part node.0.copies node.0.labels) line.1 r.words in
    let all = one_more bytes (node_lines n h (length n.inputs) s.part s.copies s.labels) (node_line n h x node.0.part node.0.copies node.0.labels ∷ []) s.rest line.0.1 so_far.text one in
    let lines = node_lines_push n h (length n.inputs) s.part s.copies s.labels node.0.part node.0.copies node.0.labels so_far.copies so_far.labels in
    subst (NodesText n h bytes) (ok_is made t roles.2) (record {
      copies = length-append s.part (node.0.part ∷ []) ∙ (ap (λ (m : ℕ). m + 1) so_far.copies ∙ sym (length-append s.copies (node.0.copies ∷ [])));
      labels = length-append s.part (node.0.part ∷ []) ∙ (ap (λ (m : ℕ). m + 1) so_far.labels ∙ sym (length-append s.labels (node.0.labels ∷ [])));
      text = subst (λ (v : List (List (List ℕ))). Spells bytes v line.0.1) (sym lines) all;
    })

pub nodes_text : (n h : Net) (parts : ℕ) (rest : Rest) (t : Nodes) → repeat (length n.nodes) (node_step n h parts) (no_nodes h rest) ≡ Ok t → Spells rest.bytes (node_lines n h (length n.inputs) t.part t.copies t.labels) t.rest
nodes_text n h parts rest t e = (repeat_all (λ i s. NodesText n h rest.bytes s) (node_step n h parts) (nodes_text_keep n h parts rest.bytes) (length n.nodes) (no_nodes h rest) t (record { copies = refl; labels = refl; text = refl }) e).text

-- ---- roles

voter_lines_push : (n h : Net) (g : ℕ) (rs : List Role) (r : Role) → voter_lines n h g (rs ++ r ∷ []) ≡ voter_lines n h g rs ++ voter_line n h (g + length rs) r
voter_lines_push n h g [] r = let e : g + 0 ≡ g = omega arith in append-nil (voter_line n h g r) ∙ ap (λ (q : ℕ). voter_line n h q r) (sym e)
voter_lines_push n h g (q ∷ rs) r =
    let e : g + 1 + length rs ≡ g + suc (length rs) = omega arith in
    let more = voter_lines_push n h (g + 1) rs r ∙ ap (λ (y : ℕ). voter_lines n h (g + 1) rs ++ voter_line n h y r) e in
    ap (λ (v : List (List (List ℕ))). voter_line n h g q ++ v) more ∙ sym (append_assoc (voter_line n h g q) (voter_lines n h (g + 1) rs) (voter_line n h (g + suc (length rs)) r))

abbrev pub AreCopies : List (Option Role) → Type 0
AreCopies given = (j : ℕ) (r : Role) → get_or given j None ≡ Some r → (x : ℕ) × (c : CopyNo) × (r ≡ copy_role x c)

role_text : (version : ℕ) (n h : Net) (parts : ℕ) (given : List (Option Role)) (bytes : List ℕ) (s t : Roles) (o : Option Role) → AreCopies given → get_or given (length s.roles) None ≡ o → Spells bytes (voter_lines n h (length h.inputs) s.roles) s.rest → role_step version n h parts o s ≡ Ok t → Spells bytes (voter_lines n h (length h.inputs) t.roles) t.rest
role_text version n h parts given bytes s t (Some r) copies is so_far e =
    let made : Roles = record { roles = s.roles ++ r ∷ []; rest = s.rest } in
    let c = copies (length s.roles) r is in
    let none : voter_line n h (length h.inputs + length s.roles) r ≡ [] = ap (voter_line n h (length h.inputs + length s.roles)) c.2 in
    let lines : voter_lines n h (length h.inputs) s.roles ≡ voter_lines n h (length h.inputs) made.roles = sym (append-nil _) ∙ (ap (λ (v : List (List (List ℕ))). voter_lines n h (length h.inputs) s.roles ++ v) (sym none) ∙ sym (voter_lines_push n h (length h.inputs) s.roles r)) in
    subst (λ (d : Roles). Spells bytes (voter_lines n h (length h.inputs) d.roles) d.rest) (ok_is made t e) (subst (λ (v : List (List (List ℕ))). Spells bytes v s.rest) lines so_far)
role_text version n h parts given bytes s t None copies is so_far e =
    let g = length h.inputs + length s.roles in
    let line = bind_ok (next_line s.rest) _ t e in
    let role = bind_ok (read_voter version n h g parts line.0.0 s.rest.line) _ t line.2 in
    let v = read_voter_read version n h g parts line.0.0 s.rest.line role.0 role.1 in
    let made : Roles = record { roles = s.roles ++ role.0 ∷ []; rest = line.0.1 } in
    let one = single s.rest line.0 (words_of line.0.0) line.1 refl in
    let all = one_more bytes (voter_lines n h (length h.inputs) s.roles) (words_of line.0.0 ∷ []) s.rest line.0.1 so_far one in
    let lines : voter_lines n h (length h.inputs) s.roles ++ words_of line.0.0 ∷ [] ≡ voter_lines n h (length h.inputs) made.roles = ap (λ (w : List (List (List ℕ))). voter_lines n h (length h.inputs) s.roles ++ w) (sym v.words) ∙ sym (voter_lines_push n h (length h.inputs) s.roles role.0) in
    subst (λ (d : Roles). Spells bytes (voter_lines n h (length h.inputs) d.roles) d.rest) (ok_is made t role.2) (subst (λ (w : List (List (List ℕ))). Spells bytes w line.0.1) lines all)

role_text_keep : (version : ℕ) (n h : Net) (parts : ℕ) (given : List (Option Role)) (bytes : List ℕ) → AreCopies given → (i : ℕ) (s t : Roles) → Spells bytes (voter_lines n h (length h.inputs) s.roles) s.rest → voter_step version n h parts given s ≡ Ok t → Spells bytes (voter_lines n h (length h.inputs) t.roles) t.rest
unfolding voter_step
role_text_keep version n h parts given bytes copies i s t so_far e = role_text version n h parts given bytes s t (get_or given (length s.roles) None) copies refl so_far e

roles_text : (version : ℕ) (n h : Net) (parts : ℕ) (given : List (Option Role)) (rest : Rest) (t : Roles) → AreCopies given → repeat (length h.nodes) (voter_step version n h parts given) (record { roles = []; rest = rest }) ≡ Ok t → Spells rest.bytes (voter_lines n h (length h.inputs) t.roles) t.rest
roles_text version n h parts given rest t copies e = repeat_all (λ i s. Spells rest.bytes (voter_lines n h (length h.inputs) s.roles) s.rest) (voter_step version n h parts given) (role_text_keep version n h parts given rest.bytes copies) (length h.nodes) (record { roles = []; rest = rest }) t refl e

-- ---- all of it

first_words : (line : List ℕ) (version : ℕ) → ((version ≡ 1) × (line ≡ codes "tmr-cert 1")) ⊎ ((version ≡ 2) × (line ≡ codes "tmr-cert 2")) → words_of line ≡ codes "tmr-cert" ∷ decimal version ∷ []
first_words line version (inl p) =
    let digit : codes "1" ≡ decimal version = sym (decimal_digit 1 (omega arith)) ∙ ap decimal (sym p.0) in
    ap words_of p.1 ∙ ap (λ (w : List ℕ). codes "tmr-cert" ∷ w ∷ []) digit
first_words line version (inr p) =
    let digit : codes "2" ≡ decimal version = sym (decimal_digit 2 (omega arith)) ∙ ap decimal (sym p.0) in
    ap words_of p.1 ∙ ap (λ (w : List ℕ). codes "tmr-cert" ∷ w ∷ []) digit

first_text : (r : Rest) (s : ℕ × Rest) → first_line r ≡ Ok s → Spells r.bytes ((codes "tmr-cert" ∷ decimal s.0 ∷ []) ∷ []) s.1
unfolding first_line
first_text r s e =
    let line = bind_ok (next_line r) _ s e in
    let version = bind_ok (want (version_named line.0.0) (Line r.line)) _ s line.2 in
    let made : ℕ × Rest = (version.0, line.0.1) in
    let words = first_words line.0.0 version.0 (version_is line.0.0 version.0 (want_ok (version_named line.0.0) (Line r.line) version.0 version.1)) in
    subst (λ (t : ℕ × Rest). Spells r.bytes ((codes "tmr-cert" ∷ decimal t.0 ∷ []) ∷ []) t.1) (ok_is made s version.2) (single r line.0 (codes "tmr-cert" ∷ decimal version.0 ∷ []) line.1 words)

last_text : (r s : Rest) → last_line r ≡ Ok s → Spells r.bytes ((codes "end" ∷ []) ∷ []) s × (s.bytes ≡ [])
unfolding last_line
last_text r s e =
    let line = bind_ok (next_line r) _ s e in
    let is = hold_ok (bytes_eq line.0.0 (codes "end")) (Line r.line) _ s line.2 in
    let over = hold_ok (length line.0.1.bytes == 0) (Line line.0.1.line) _ s is.1 in
    let text : line.0.0 ≡ codes "end" = (bytes_eq-Decides line.0.0 (codes "end")).0 is.0 in
    let words : words_of line.0.0 ≡ codes "end" ∷ [] = ap words_of text in
    subst (λ (t : Rest). Spells r.bytes ((codes "end" ∷ []) ∷ []) t × (t.bytes ≡ [])) (ok_is line.0.1 s over.1) (single r line.0 (codes "end" ∷ []) line.1 words, nil_from_length line.0.1.bytes (eqb-true _ _ over.0))

parts_text : (r : Rest) (x : ℕ × Rest) → parts_line r ≡ Ok x → Spells r.bytes ((codes "parts" ∷ decimal x.0 ∷ []) ∷ []) x.1
unfolding parts_line
parts_text r x e =
    let line = bind_ok (next_line r) _ x e in
    let count = bind_ok (read_parts line.0.0 r.line) _ x line.2 in
    let made : ℕ × Rest = (count.0, line.0.1) in
    let words = (read_parts_read line.0.0 r.line count.0 count.1).0 in
    subst (λ (y : ℕ × Rest). Spells r.bytes ((codes "parts" ∷ decimal y.0 ∷ []) ∷ []) y.1) (ok_is made x count.2) (single r line.0 (codes "parts" ∷ decimal count.0 ∷ []) line.1 words)

copies_alone : (n h : Net) (parts i : ℕ) (s : Nodes) → NodesOk n h parts i s → AreCopies s.roles
copies_alone n h parts i s ok j r e = let p = ok.filled.sound j r e in (length n.inputs + p.i, p.c, p.role)

abbrev pub pieces : Net → Net → PlainCert → ℕ → List (List (List ℕ))
pieces n h k parts = (codes "tmr-cert" ∷ decimal k.version ∷ []) ∷ [] ++ ((codes "parts" ∷ decimal parts ∷ []) ∷ [] ++ (part_lines 0 k.depth ++ (node_lines n h k.original_inputs k.part k.copies k.labels ++ (voter_lines n h k.hardened_inputs k.roles ++ (codes "end" ∷ []) ∷ []))))

spelled : (n h : Net) (k : PlainCert) (parts : ℕ) → length k.depth ≡ parts → pieces n h k parts ≡ cert_lines n h k
unfolding cert_lines
spelled n h k parts e = ap (λ (m : ℕ). pieces n h k m) (sym e)

pub fold_of_text_found : (n h : Net) (bytes : List ℕ) (k : PlainCert) → fold_of_text n h bytes ≡ Ok k → bytes ≡ cert_text n h k
unfolding fold_of_text
fold_of_text_found n h bytes k e =
    let from : Rest = record { line = 1; bytes = bytes } in
    let start = bind_ok (first_line from) _ k e in
    let parts = bind_ok (parts_line start.0.1) _ k start.2 in
    let depths = bind_ok (repeat parts.0.0 part_step (record { depth = []; rest = parts.0.1 })) _ k parts.2 in
    let nodes = bind_ok (repeat (length n.nodes) (node_step n h parts.0.0) (no_nodes h depths.0.rest)) _ k depths.2 in
    let roles = bind_ok (repeat (length h.nodes) (voter_step start.0.0 n h parts.0.0 nodes.0.roles) (record { roles = []; rest = nodes.0.rest })) _ k nodes.2 in
    let last = bind_ok (last_line roles.0.rest) _ k roles.2 in
    subst (λ (c : PlainCert). bytes ≡ cert_text n h c) (ok_is (cert_made start.0.0 n h depths.0.depth nodes.0 roles.0) k last.2)
    (whole n h bytes from start.0 parts.0 depths.0 nodes.0 roles.0 last.0 refl (first_text from start.0 start.1) (parts_text start.0.1 parts.0 parts.1) (depths_text parts.0.0 parts.0.1 depths.0 depths.1) (depths_ok parts.0.0 parts.0.1 depths.0 depths.1).long
    (nodes_text n h parts.0.0 depths.0.rest nodes.0 nodes.1) (roles_text start.0.0 n h parts.0.0 nodes.0.roles nodes.0.rest roles.0 (copies_alone n h parts.0.0 (length n.nodes) nodes.0 (nodes_ok n h parts.0.0 depths.0.rest nodes.0 nodes.1)) roles.1) (last_text roles.0.rest last.0 last.1))
  where
    whole : (n h : Net) (bytes : List ℕ) (from : Rest) (start parts : ℕ × Rest) (depths : Depths) (nodes : Nodes) (roles : Roles) (last : Rest) → from.bytes ≡ bytes
        → Spells from.bytes ((codes "tmr-cert" ∷ decimal start.0 ∷ []) ∷ []) start.1 → Spells start.1.bytes ((codes "parts" ∷ decimal parts.0 ∷ []) ∷ []) parts.1 → Spells parts.1.bytes (part_lines 0 depths.depth) depths.rest → length depths.depth ≡ parts.0
        → Spells depths.rest.bytes (node_lines n h (length n.inputs) nodes.part nodes.copies nodes.labels) nodes.rest → Spells nodes.rest.bytes (voter_lines n h (length h.inputs) roles.roles) roles.rest → Spells roles.rest.bytes ((codes "end" ∷ []) ∷ []) last × (last.bytes ≡ [])
        → bytes ≡ cert_text n h (cert_made start.0 n h depths.depth nodes roles)
    whole n h bytes from start parts depths nodes roles last is a b c long d e f =
        let six = one_more nodes.rest.bytes (voter_lines n h (length h.inputs) roles.roles) ((codes "end" ∷ []) ∷ []) roles.rest last e f.0 in
        let five = one_more depths.rest.bytes (node_lines n h (length n.inputs) nodes.part nodes.copies nodes.labels) (voter_lines n h (length h.inputs) roles.roles ++ (codes "end" ∷ []) ∷ []) nodes.rest last d six in
        let four = one_more parts.1.bytes (part_lines 0 depths.depth) (node_lines n h (length n.inputs) nodes.part nodes.copies nodes.labels ++ (voter_lines n h (length h.inputs) roles.roles ++ (codes "end" ∷ []) ∷ [])) depths.rest last c five in
        let three = one_more start.1.bytes ((codes "parts" ∷ decimal parts.0 ∷ []) ∷ []) (part_lines 0 depths.depth ++ (node_lines n h (length n.inputs) nodes.part nodes.copies nodes.labels ++ (voter_lines n h (length h.inputs) roles.roles ++ (codes "end" ∷ []) ∷ []))) parts.1 last b four in
        let two = one_more from.bytes ((codes "tmr-cert" ∷ decimal start.0 ∷ []) ∷ []) ((codes "parts" ∷ decimal parts.0 ∷ []) ∷ [] ++ (part_lines 0 depths.depth ++ (node_lines n h (length n.inputs) nodes.part nodes.copies nodes.labels ++ (voter_lines n h (length h.inputs) roles.roles ++ (codes "end" ∷ []) ∷ [])))) start.1 last a three in
        let lines = spelled n h (cert_made start.0 n h depths.depth nodes roles) parts.0 long in
        let all : List (List (List ℕ)) = pieces n h (cert_made start.0 n h depths.depth nodes roles) parts.0 in
        sym is ∙ (two ∙ (ap (λ (r : List ℕ). flat_map line_text all ++ r) f.1 ∙ (append-nil (flat_map line_text all) ∙ ap (flat_map line_text) lines)))
