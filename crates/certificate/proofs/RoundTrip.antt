-- What is written is read again: all lines, one after the other.
use Rattle.std.proofs.Common.{◌≡◌, ℕ, suc, ◌+◌, ◌-◌, ◌^◌, ◌<◌, ◌≤◌, true, List, [], ◌∷◌, ◌++◌, length, get_or, Option, Some, None, Result, Ok, refl, sym, ap, subst, ◌∙◌, arith}
use Rattle.std.proofs.Common.{◌⊎◌, inl, inr, append_assoc, nat_lt, set, slice_get}
use Rattle.std.proofs.lemmas.Fmt.{decimal_digit}
use Rattle.std.specs.Prelude.{codes, is_none}
use Rattle.std.specs.List.{flat_map, join_with_byte, list_all, AllByRecursion}
use Rattle.std.specs.Fmt.{decimal}
use Rattle.std.proofs.lemmas.List.{length-append, append-nil}
use Rattle.std.proofs.Math.ListN.{get_or-append}
use Rattle.std.proofs.Math.Seq.{get_or-append_seam}
use Rattle.std.proofs.lemmas.List.Elements.{recursion_from_All}
use Rattle.std.proofs.lemmas.List.{length-replicate}
use Rattle.tmr_base.specs.declared.copies.CopyNo.{CopyNo}
use Rattle.tmr_base.specs.declared.copies.CopyNo.TheVariants.{First, Second, Third}
use Rattle.tmr_base.specs.Copies.{Three, of_copy, copy_number}
use Rattle.flat_net.specs.Net.{Net, IsValid, name_of}
use Rattle.certificate.specs.declared.role.Role.{Role}
use Rattle.certificate.specs.declared.role.Role.TheVariants.{Copy, Voter}
use Rattle.certificate.specs.declared.fault.CertFault.{CertFault}
use Rattle.certificate.specs.Lines.{◌>>=◌, Rest}
use Rattle.certificate.specs.Plain.{IsNode, IsVoted, AreNodes}
use Rattle.certificate.specs.Text.{line_text, three_words, part_line, part_lines, node_line, node_lines, voter_lines}
use Rattle.std.proofs.lemmas.List.Concat.{flat_map-cons}
use Rattle.certificate.specs.Cert.{PlainCert, IsCert, Fits, role_of, copy_of, three_or_input}
use Rattle.certificate.specs.Text.{cert_lines, cert_text}
use Rattle.certificate.specs.Folding.{version_named, Depths, Nodes, Roles, give, give_copies, parts_line, first_line, last_line, part_step, node_step, role_step, voter_step, repeat, fold_of_text}
use Rattle.certificate.proofs.Filling.{Filled, Also, IsCopyOf, give_fills, copies_fill, nothing_filled, no_three, copy_role}
use Rattle.certificate.proofs.Validity.{no_nodes, cert_made, same_copy}
use Rattle.flat_net.specs.Net.{slot}
use Rattle.flat_net.proofs.Slots.{slot_at, slot_within}
use Rattle.std.proofs.lemmas.Option.{slice_get-get_or}
use Rattle.std.proofs.lemmas.List.Concat.{flat_map-append}
use Rattle.certificate.proofs.Cases.{AreSmall}
use Rattle.certificate.proofs.Again.{coded, words_again, parts_line_ok, next_of, part_line_ok, read_part_again, read_parts_again, node_line_ok, read_node_again, voter_text, voter_text_ok, read_voter_again}

-- where the steps lead
pub record Leads {S : Type 0} (step : S → Result S CertFault) (count : ℕ) (s : S) (P : S → Type 0) : Type 0 where
  pub last : S
  pub steps : repeat count step s ≡ Ok last
  pub is : P last

no_step : {S : Type 0} (step : S → Result S CertFault) (s : S) (P : S → Type 0) → P s → Leads step 0 s P
unfolding repeat
no_step step s P p = record { last = s; steps = refl; is = p }

step_more : {S : Type 0} (step : S → Result S CertFault) (count : ℕ) (s t : S) (P : S → Type 0) → step s ≡ Ok t → Leads step count t P → Leads step (suc count) s P
unfolding repeat
step_more step count s t P e l = record { last = l.last; steps = ap (λ (r : Result _ CertFault). r >>= repeat count step) e ∙ l.steps; is = l.is }

first_line_of : (words : List (List ℕ)) (lines : List (List (List ℕ))) (tail : List ℕ) → flat_map line_text (words ∷ lines) ++ tail ≡ line_text words ++ (flat_map line_text lines ++ tail)
first_line_of words lines tail = ap (λ (b : List ℕ). b ++ tail) (flat_map-cons line_text words lines) ∙ append_assoc (line_text words) (flat_map line_text lines) tail

-- ---- depths

part_step_again : (s : Depths) (d : ℕ) (tail : List ℕ) → length s.depth < 2 ^ 32 → d < 2 ^ 32 → s.rest.bytes ≡ line_text (part_line (length s.depth) d) ++ tail → part_step s ≡ Ok (record { depth = s.depth ++ d ∷ []; rest = record { line = s.rest.line + 1; bytes = tail } })
unfolding part_step
part_step_again s d tail low small e =
    let p = length s.depth in
    let ok = part_line_ok p d low small in
    let words = codes "part" ∷ decimal p ∷ codes "depth" ∷ decimal d ∷ [] in
    let next = next_of s.rest (codes "part") (decimal p ∷ codes "depth" ∷ decimal d ∷ []) tail ok.words e in
    let w = words_again (codes "part") (decimal p ∷ codes "depth" ∷ decimal d ∷ []) ok.words in
    rw next (rw (read_part_again (join_with_byte 32 words) p d s.rest.line w ok.full low small) refl)

depths_again : (more : List ℕ) (s : Depths) (tail : List ℕ) → AllByRecursion (λ d. d < 2 ^ 32) more → length s.depth + length more ≤ 2 ^ 32 → s.rest.bytes ≡ flat_map line_text (part_lines (length s.depth) more) ++ tail
    → Leads part_step (length more) s (λ t. (t.depth ≡ s.depth ++ more) × (t.rest.bytes ≡ tail))
depths_again [] s tail small low e = no_step part_step s (λ t. (t.depth ≡ s.depth ++ []) × (t.rest.bytes ≡ tail)) (sym (append-nil s.depth), e)
depths_again (d ∷ more) s tail small low e =
    let t : Depths = record { depth = s.depth ++ d ∷ []; rest = record { line = s.rest.line + 1; bytes = flat_map line_text (part_lines (length s.depth + 1) more) ++ tail } } in
    let one = part_step_again s d (flat_map line_text (part_lines (length s.depth + 1) more) ++ tail) (omega arith) small.0 (e ∙ first_line_of (part_line (length s.depth) d) (part_lines (length s.depth + 1) more) tail) in
    let long : length t.depth ≡ length s.depth + 1 = length-append s.depth (d ∷ []) in
    let l = depths_again more t tail small.1 (omega arith) (ap (λ (p : ℕ). flat_map line_text (part_lines p more) ++ tail) (sym long)) in
    step_more part_step (length more) s t (λ v. (v.depth ≡ s.depth ++ d ∷ more) × (v.rest.bytes ≡ tail)) one (record { last = l.last; steps = l.steps; is = (l.is.0 ∙ append_assoc s.depth (d ∷ []) more, l.is.1) })

-- ---- roles that are given

none_there : (P : ℕ → Role → Type 0) (start g : ℕ) (roles : List (Option Role)) (o : Option Role) → Filled P start roles → start ≤ g → get_or roles (g - start) None ≡ o → ((r : Role) → P g r → ⊥) → o ≡ None
none_there P start g roles None filled low e fresh = refl
none_there P start g roles (Some r) filled low e fresh =
    let back : start + (g - start) ≡ g = omega arith in
    absurd (fresh r (subst (λ (v : ℕ). P v r) back (filled.sound (g - start) r e)))

give_again : (P : ℕ → Role → Type 0) (start g : ℕ) (role : Role) (line : ℕ) (roles : List (Option Role)) → Filled P start roles → start ≤ g → ((r : Role) → P g r → ⊥) → give start g role line roles ≡ Ok (set roles (g - start) (Some role))
unfolding give
give_again P start g role line roles filled low fresh =
    let free : is_none (get_or roles (g - start) None) ≡ true = ap is_none (none_there P start g roles (get_or roles (g - start) None) filled low refl fresh) in
    rw free refl

abbrev Fresh : (ℕ → Role → Type 0) → Three → Type 0
Fresh P t = (c : CopyNo) (r : Role) → P (of_copy t c) r → ⊥

abbrev Distinct : Three → Type 0
Distinct t = (c d : CopyNo) → of_copy t c ≡ of_copy t d → c ≡ d

pub copies_again : (P : ℕ → Role → Type 0) (start x : ℕ) (t : Three) (line : ℕ) (roles : List (Option Role)) → Filled P start roles → ((c : CopyNo) → (start ≤ of_copy t c) × (of_copy t c < start + length roles)) → Fresh P t → Distinct t
    → (after : List (Option Role)) × (give_copies start x t line roles ≡ Ok after)
unfolding give_copies
copies_again P start x t line roles filled nodes fresh distinct =
    let one : List (Option Role) = set roles (t.first - start) (Some (copy_role x First)) in
    let e1 = give_again P start t.first (copy_role x First) line roles filled (nodes First).0 (fresh First) in
    let f1 = give_fills P start t.first (copy_role x First) line roles one filled (nodes First).0 (nodes First).1 e1 in
    let two : List (Option Role) = set one (t.second - start) (Some (copy_role x Second)) in
    let e2 = give_again (Also P t.first (copy_role x First)) start t.second (copy_role x Second) line one f1.0 (nodes Second).0 fresh2 in
    let f2 = give_fills (Also P t.first (copy_role x First)) start t.second (copy_role x Second) line one two f1.0 (nodes Second).0 (omega (arith, (nodes Second).1, f1.1)) e2 in
    let e3 = give_again (Also (Also P t.first (copy_role x First)) t.second (copy_role x Second)) start t.third (copy_role x Third) line two f2.0 (nodes Third).0 fresh3 in
    (set two (t.third - start) (Some (copy_role x Third)), rw e1 (rw e2 e3))
  where
    fresh2 : (r : Role) → Also P t.first (copy_role x First) t.second r → ⊥
    fresh2 r (inl p) = fresh Second r p
    fresh2 r (inr p) = let e = distinct Second First p.0 in absurd cc

    fresh3 : (r : Role) → Also (Also P t.first (copy_role x First)) t.second (copy_role x Second) t.third r → ⊥
    fresh3 r (inl (inl p)) = fresh Third r p
    fresh3 r (inl (inr p)) = let e = distinct Third First p.0 in absurd cc
    fresh3 r (inr p) = let e = distinct Third Second p.0 in absurd cc

-- ---- nodes

-- what is still to be read of the nodes
pub record NodesLeft (n h : Net) (k : PlainCert) (tail : List ℕ) (s : Nodes) (ps : List ℕ) (ts ls : List Three) : Type 0 where
  pub part : s.part ++ ps ≡ k.part
  pub copies : s.copies ++ ts ≡ k.copies
  pub labels : s.labels ++ ls ≡ k.labels
  pub long : length s.part ≡ length s.copies
  pub long_labels : length s.part ≡ length s.labels
  pub copies_long : length ps ≡ length ts
  pub labels_long : length ps ≡ length ls
  pub roles : length s.roles ≡ length h.nodes
  pub filled : Filled (IsCopyOf (length n.inputs) s.copies) (length h.inputs) s.roles
  pub text : s.rest.bytes ≡ flat_map line_text (node_lines n h (length n.inputs + length s.part) ps ts ls) ++ tail

-- all nodes are read
pub record NodesDone (n h : Net) (k : PlainCert) (tail : List ℕ) (s : Nodes) : Type 0 where
  pub part : s.part ≡ k.part
  pub copies : s.copies ≡ k.copies
  pub labels : s.labels ≡ k.labels
  pub roles : length s.roles ≡ length h.nodes
  pub filled : Filled (IsCopyOf (length n.inputs) s.copies) (length h.inputs) s.roles
  pub text : s.rest.bytes ≡ tail

-- what the lines of one node have
pub record NodeOk (n h : Net) (parts p : ℕ) (t l : Three) : Type 0 where
  pub part : p < parts
  pub copies : AreNodes h t
  pub labels : AreSmall l
  pub distinct : Distinct t

node_step_again : (n h : Net) (parts p : ℕ) (t l : Three) (s : Nodes) (tail : List ℕ) → IsValid n → IsValid h → parts ≤ 2 ^ 32 → IsNode n (length n.inputs + length s.part) → NodeOk n h parts p t l → length s.part ≡ length s.copies → length s.roles ≡ length h.nodes
    → Filled (IsCopyOf (length n.inputs) s.copies) (length h.inputs) s.roles → Fresh (IsCopyOf (length n.inputs) s.copies) t
    → s.rest.bytes ≡ line_text (node_line n h (length n.inputs + length s.part) p t l) ++ tail
    → (after : List (Option Role)) × (node_step n h parts s ≡ Ok (record { part = s.part ++ p ∷ []; copies = s.copies ++ t ∷ []; labels = s.labels ++ l ∷ []; roles = after; rest = record { line = s.rest.line + 1; bytes = tail } })) × Filled (IsCopyOf (length n.inputs) (s.copies ++ t ∷ [])) (length h.inputs) after × (length after ≡ length s.roles)
unfolding node_step
node_step_again n h parts p t l s tail valid valid_h small node one long roles_long filled fresh e =
    let x = length n.inputs + length s.part in
    let ok = node_line_ok n h x p t l valid valid_h node one.copies (omega (arith, one.part)) one.labels in
    let more : List (List ℕ) = name_of n x ∷ decimal p ∷ three_words (name_of h) t ++ three_words decimal l in
    let next = next_of s.rest (codes "node") more tail ok.words e in
    let w = words_again (codes "node") more ok.words in
    let line = read_node_again n h (join_with_byte 32 (codes "node" ∷ more)) x p parts t l s.rest.line w valid valid_h node one.copies one.part small one.labels ok.full in
    let in_range = in_range_of h t (length s.roles) roles_long one.copies in
    let given = copies_again (IsCopyOf (length n.inputs) s.copies) (length h.inputs) x t s.rest.line s.roles filled in_range fresh one.distinct in
    let same : give_copies (length h.inputs) (length n.inputs + length s.copies) t s.rest.line s.roles ≡ Ok given.0 = subst (λ (m : ℕ). give_copies (length h.inputs) (length n.inputs + m) t s.rest.line s.roles ≡ Ok given.0) long given.1 in
    let f = copies_fill (length h.inputs) (length n.inputs) s.copies t s.rest.line s.roles given.0 filled in_range same in
    (given.0, rw next (rw (line, given.1) refl), f.0, f.1)
  where
    in_range_of : (h : Net) (t : Three) (count : ℕ) → count ≡ length h.nodes → AreNodes h t → (c : CopyNo) → (length h.inputs ≤ of_copy t c) × (of_copy t c < length h.inputs + count)
    in_range_of h t count e nodes First = (nodes.0.0, omega (arith, nodes.0.1))
    in_range_of h t count e nodes Second = (nodes.1.0, omega (arith, nodes.1.1))
    in_range_of h t count e nodes Third = (nodes.2.0, omega (arith, nodes.2.1))

-- what the certificate says of each node's line, and that no net is two copies
pub record CanBeRead (n h : Net) (k : PlainCert) (parts : ℕ) : Type 0 where
  pub nodes : (i : ℕ) → i < length k.part → NodeOk n h parts (get_or k.part i 0) (get_or k.copies i no_three) (get_or k.labels i no_three)
  pub once : (i j : ℕ) (c d : CopyNo) → i < length k.copies → j < length k.copies → of_copy (get_or k.copies i no_three) c ≡ of_copy (get_or k.copies j no_three) d → i ≡ j
  pub count : length k.part ≡ length n.nodes

fresh_of : (n h : Net) (k : PlainCert) (parts : ℕ) (copies ts : List Three) (t : Three) → CanBeRead n h k parts → copies ++ t ∷ ts ≡ k.copies → Fresh (IsCopyOf (length n.inputs) copies) t
fresh_of n h k parts copies ts t can e c r q =
    let long : length k.copies ≡ length copies + suc (length ts) = ap length (sym e) ∙ length-append copies (t ∷ ts) in
    let old : get_or k.copies q.i no_three ≡ get_or copies q.i no_three = ap (λ (v : List Three). get_or v q.i no_three) (sym e) ∙ get_or-append copies (t ∷ ts) no_three q.i q.within in
    let new : get_or k.copies (length copies) no_three ≡ t = ap (λ (v : List Three). get_or v (length copies) no_three) (sym e) ∙ get_or-append_seam copies t ts no_three in
    let same : of_copy (get_or k.copies q.i no_three) q.c ≡ of_copy (get_or k.copies (length copies) no_three) c = ap (λ (u : Three). of_copy u q.c) old ∙ (q.net ∙ ap (λ (u : Three). of_copy u c) (sym new)) in
    let place = can.once q.i (length copies) q.c c (omega (arith, q.within, long)) (omega (arith, long)) same in
    absurd (omega (arith, place, q.within))

nodes_again : (n h : Net) (k : PlainCert) (parts : ℕ) (tail : List ℕ) (ps : List ℕ) (ts ls : List Three) (s : Nodes) → IsValid n → IsValid h → parts ≤ 2 ^ 32 → CanBeRead n h k parts → NodesLeft n h k tail s ps ts ls → Leads (node_step n h parts) (length ps) s (NodesDone n h k tail)
nodes_again n h k parts tail [] [] [] s valid valid_h small can left = no_step (node_step n h parts) s (NodesDone n h k tail) (record {
  part = sym (append-nil s.part) ∙ left.part;
  copies = sym (append-nil s.copies) ∙ left.copies;
  labels = sym (append-nil s.labels) ∙ left.labels;
  roles = left.roles;
  filled = left.filled;
  text = left.text;
})
nodes_again n h k parts tail [] (t ∷ ts) ls s valid valid_h small can left = absurd (omega (arith, left.copies_long))
nodes_again n h k parts tail [] [] (l ∷ ls) s valid valid_h small can left = absurd (omega (arith, left.labels_long))
nodes_again n h k parts tail (p ∷ ps) [] ls s valid valid_h small can left = absurd (omega (arith, left.copies_long))
nodes_again n h k parts tail (p ∷ ps) (t ∷ ts) [] s valid valid_h small can left = absurd (omega (arith, left.labels_long))
nodes_again n h k parts tail (p ∷ ps) (t ∷ ts) (l ∷ ls) s valid valid_h small can left =
    let i = length s.part in
    let all_long : length k.part ≡ i + suc (length ps) = ap length (sym left.part) ∙ length-append s.part (p ∷ ps) in
    let at_p : get_or k.part i 0 ≡ p = ap (λ (v : List ℕ). get_or v i 0) (sym left.part) ∙ get_or-append_seam s.part p ps 0 in
    let at_t : get_or k.copies i no_three ≡ t = ap (λ (v : List Three). get_or v i no_three) (sym left.copies) ∙ (ap (λ (m : ℕ). get_or (s.copies ++ t ∷ ts) m no_three) left.long ∙ get_or-append_seam s.copies t ts no_three) in
    let long_l : i ≡ length s.labels = left.long_labels in
    let at_l : get_or k.labels i no_three ≡ l = ap (λ (v : List Three). get_or v i no_three) (sym left.labels) ∙ (ap (λ (m : ℕ). get_or (s.labels ++ l ∷ ls) m no_three) long_l ∙ get_or-append_seam s.labels l ls no_three) in
    let within : i < length k.part = omega arith in
    let o1 = subst (λ (q : ℕ). NodeOk n h parts q (get_or k.copies i no_three) (get_or k.labels i no_three)) at_p (can.nodes i within) in
    let o2 = subst (λ (q : Three). NodeOk n h parts p q (get_or k.labels i no_three)) at_t o1 in
    let one : NodeOk n h parts p t l = subst (λ (q : Three). NodeOk n h parts p t q) at_l o2 in
    let node : IsNode n (length n.inputs + i) = (omega arith, omega (arith, within, can.count)) in
    let fresh : Fresh (IsCopyOf (length n.inputs) s.copies) t = fresh_of n h k parts s.copies ts t can left.copies in
    let rest : List ℕ = flat_map line_text (node_lines n h (length n.inputs + i + 1) ps ts ls) ++ tail in
    let text = left.text ∙ first_line_of (node_line n h (length n.inputs + i) p t l) (node_lines n h (length n.inputs + i + 1) ps ts ls) tail in
    let g = node_step_again n h parts p t l s rest valid valid_h small node one left.long left.roles left.filled fresh text in
    let next : Nodes = record { part = s.part ++ p ∷ []; copies = s.copies ++ t ∷ []; labels = s.labels ++ l ∷ []; roles = g.0; rest = record { line = s.rest.line + 1; bytes = rest } } in
    let longer : length (s.part ++ p ∷ []) ≡ i + 1 = length-append s.part (p ∷ []) in
    let place : length n.inputs + i + 1 ≡ length n.inputs + length (s.part ++ p ∷ []) = omega (arith, longer) in
    step_more (node_step n h parts) (length ps) s next (NodesDone n h k tail) g.1 (nodes_again n h k parts tail ps ts ls next valid valid_h small can (record {
      part = append_assoc s.part (p ∷ []) ps ∙ left.part;
      copies = append_assoc s.copies (t ∷ []) ts ∙ left.copies;
      labels = append_assoc s.labels (l ∷ []) ls ∙ left.labels;
      long = length-append s.part (p ∷ []) ∙ (ap (λ (m : ℕ). m + 1) left.long ∙ sym (length-append s.copies (t ∷ [])));
      long_labels = length-append s.part (p ∷ []) ∙ (ap (λ (m : ℕ). m + 1) left.long_labels ∙ sym (length-append s.labels (l ∷ [])));
      copies_long = omega (arith, left.copies_long);
      labels_long = omega (arith, left.labels_long);
      roles = g.3 ∙ left.roles;
      filled = g.2;
      text = ap (λ (y : ℕ). flat_map line_text (node_lines n h y ps ts ls) ++ tail) place;
    }))

-- ---- roles

abbrev pub as_given : Role → Option Role
as_given (Copy x c) = Some (Copy x c)
as_given (Voter x p c) = None

pub record RolesLeft (n h : Net) (k : PlainCert) (tail : List ℕ) (s : Roles) (rs : List Role) : Type 0 where
  pub roles : s.roles ++ rs ≡ k.roles
  pub text : s.rest.bytes ≡ flat_map line_text (voter_lines n h (length h.inputs + length s.roles) rs) ++ tail

pub record RolesCan (version : ℕ) (n h : Net) (k : PlainCert) (parts : ℕ) (given : List (Option Role)) : Type 0 where
  pub role_given : (j : ℕ) (r : Role) → slice_get k.roles j ≡ Some r → get_or given j None ≡ as_given r
  pub voters : (j : ℕ) (x p : ℕ) (c : CopyNo) → slice_get k.roles j ≡ Some (Voter (record { 0 = x }) (record { 0 = p }) c) → IsVoted version n x × (p < parts)
  pub count : length k.roles ≡ length h.nodes

seam : {A : Type 0} (xs : List A) (y : A) (ys : List A) → slice_get (xs ++ y ∷ ys) (length xs) ≡ Some y
seam [] y ys = refl
seam (x ∷ xs) y ys = seam xs y ys

step_at : (version : ℕ) (n h : Net) (parts : ℕ) (given : List (Option Role)) (s : Roles) (o : Option Role) → get_or given (length s.roles) None ≡ o → voter_step version n h parts given s ≡ role_step version n h parts o s
unfolding voter_step
step_at version n h parts given s o e = ap (λ (q : Option Role). role_step version n h parts q s) e

voter_step_again : (version : ℕ) (n h : Net) (parts x p : ℕ) (c : CopyNo) (s : Roles) (tail : List ℕ) → IsValid n → IsValid h → parts ≤ 2 ^ 32 → IsNode h (length h.inputs + length s.roles) → IsVoted version n x → p < parts → s.rest.bytes ≡ line_text (voter_text n h (length h.inputs + length s.roles) x p c) ++ tail
    → role_step version n h parts None s ≡ Ok (record { roles = s.roles ++ Voter (record { 0 = x }) (record { 0 = p }) c ∷ []; rest = record { line = s.rest.line + 1; bytes = tail } })
voter_step_again version n h parts x p c s tail valid valid_h small node_h voted low e =
    let g = length h.inputs + length s.roles in
    let ok = voter_text_ok n h g x p c valid valid_h node_h voted.1 (omega arith) in
    let more : List (List ℕ) = name_of h g ∷ name_of n x ∷ decimal p ∷ decimal (copy_number c) ∷ [] in
    let next = next_of s.rest (codes "voter") more tail ok.words e in
    let w = words_again (codes "voter") more ok.words in
    rw next (rw (read_voter_again version n h (join_with_byte 32 (codes "voter" ∷ more)) g x p parts c s.rest.line w valid valid_h node_h voted low small ok.full) refl)

abbrev RolesDone : PlainCert → List ℕ → Roles → Type 0
RolesDone k tail s = (s.roles ≡ k.roles) × (s.rest.bytes ≡ tail)

roles_again : (version : ℕ) (n h : Net) (k : PlainCert) (parts : ℕ) (given : List (Option Role)) (tail : List ℕ) (rs : List Role) (s : Roles) → IsValid n → IsValid h → parts ≤ 2 ^ 32 → RolesCan version n h k parts given → RolesLeft n h k tail s rs → Leads (voter_step version n h parts given) (length rs) s (RolesDone k tail)
roles_again version n h k parts given tail [] s valid valid_h small can left = no_step (voter_step version n h parts given) s (RolesDone k tail) (sym (append-nil s.roles) ∙ left.roles, left.text)
roles_again version n h k parts given tail (Copy x c ∷ rs) s valid valid_h small can left =
    let at : slice_get k.roles (length s.roles) ≡ Some (Copy x c) = ap (λ (v : List Role). slice_get v (length s.roles)) (sym left.roles) ∙ seam s.roles (Copy x c) rs in
    let next : Roles = record { roles = s.roles ++ Copy x c ∷ []; rest = s.rest } in
    let one : voter_step version n h parts given s ≡ Ok next = step_at version n h parts given s (Some (Copy x c)) (can.role_given (length s.roles) (Copy x c) at) in
    let longer : length (s.roles ++ Copy x c ∷ []) ≡ length s.roles + 1 = length-append s.roles (Copy x c ∷ []) in
    let place : length h.inputs + length s.roles + 1 ≡ length h.inputs + length (s.roles ++ Copy x c ∷ []) = omega (arith, longer) in
    step_more (voter_step version n h parts given) (length rs) s next (RolesDone k tail) one (roles_again version n h k parts given tail rs next valid valid_h small can (record {
      roles = append_assoc s.roles (Copy x c ∷ []) rs ∙ left.roles;
      text = left.text ∙ ap (λ (y : ℕ). flat_map line_text (voter_lines n h y rs) ++ tail) place;
    }))
roles_again version n h k parts given tail (Voter x p c ∷ rs) s valid valid_h small can left =
    let r : Role = Voter x p c in
    let g = length h.inputs + length s.roles in
    let at : slice_get k.roles (length s.roles) ≡ Some r = ap (λ (v : List Role). slice_get v (length s.roles)) (sym left.roles) ∙ seam s.roles r rs in
    let all_long : length k.roles ≡ length s.roles + suc (length rs) = ap length (sym left.roles) ∙ length-append s.roles (r ∷ rs) in
    let node_h : IsNode h g = (omega arith, omega (arith, all_long, can.count)) in
    let v = can.voters (length s.roles) x.0 p.0 c at in
    let rest : List ℕ = flat_map line_text (voter_lines n h (g + 1) rs) ++ tail in
    let next : Roles = record { roles = s.roles ++ r ∷ []; rest = record { line = s.rest.line + 1; bytes = rest } } in
    let text = left.text ∙ first_line_of (voter_text n h g x.0 p.0 c) (voter_lines n h (g + 1) rs) tail in
    let one : voter_step version n h parts given s ≡ Ok next = step_at version n h parts given s None (can.role_given (length s.roles) r at) ∙ voter_step_again version n h parts x.0 p.0 c s rest valid valid_h small node_h v.0 v.1 text in
    let longer : length (s.roles ++ r ∷ []) ≡ length s.roles + 1 = length-append s.roles (r ∷ []) in
    let place : g + 1 ≡ length h.inputs + length (s.roles ++ r ∷ []) = omega (arith, longer) in
    step_more (voter_step version n h parts given) (length rs) s next (RolesDone k tail) one (roles_again version n h k parts given tail rs next valid valid_h small can (record {
      roles = append_assoc s.roles (r ∷ []) rs ∙ left.roles;
      text = ap (λ (y : ℕ). flat_map line_text (voter_lines n h y rs) ++ tail) place;
    }))

-- ---- what a certificate of the two designs has

pub copy_at : (k : PlainCert) (i : ℕ) (c : CopyNo) → i < length k.copies → copy_of k (k.original_inputs + i) c ≡ of_copy (get_or k.copies i no_three) c
copy_at k i c lt =
    let less : k.original_inputs + i - k.original_inputs ≡ i = omega arith in
    let s : slot k.original_inputs k.copies (k.original_inputs + i) ≡ Some (get_or k.copies i no_three) = slot_at k.original_inputs k.copies (k.original_inputs + i) (omega arith) ∙ (ap (slice_get k.copies) less ∙ slice_get-get_or k.copies i no_three lt) in
    ap (λ (o : Option Three). three_or_input o (k.original_inputs + i) c) s

role_at_copy : (k : PlainCert) (i : ℕ) (c : CopyNo) → IsCert k → i < length k.copies → role_of k (of_copy (get_or k.copies i no_three) c) ≡ Some (copy_role (k.original_inputs + i) c)
role_at_copy k i c cert lt = ap (role_of k) (sym (copy_at k i c lt)) ∙ cert.copies_have_roles (k.original_inputs + i) c (omega arith) (omega (arith, cert.copies_long))

some_same : (r q : Role) (o : Option Role) → o ≡ Some r → o ≡ Some q → r ≡ q
some_same r q o e f = cc

can_read : (n h : Net) (k : PlainCert) → IsCert k → Fits n h k → CanBeRead n h k (length k.depth)
can_read n h k cert fits = record { nodes = nodes; once = once; count = fits.original_nodes }
  where
    role : (i : ℕ) (c : CopyNo) → i < length k.copies → role_of k (of_copy (get_or k.copies i no_three) c) ≡ Some (copy_role (k.original_inputs + i) c)
    role i c lt = role_at_copy k i c cert lt

    is_node : (i : ℕ) (c : CopyNo) → i < length k.copies → IsNode h (of_copy (get_or k.copies i no_three) c)
    is_node i c lt =
        let w = slot_within k.hardened_inputs k.roles (of_copy (get_or k.copies i no_three) c) (copy_role (k.original_inputs + i) c) (role i c lt) in
        (omega (arith, w.0, fits.hardened_inputs), omega (arith, w.1, fits.hardened_inputs, fits.hardened_nodes))

    once : (i j : ℕ) (c d : CopyNo) → i < length k.copies → j < length k.copies → of_copy (get_or k.copies i no_three) c ≡ of_copy (get_or k.copies j no_three) d → i ≡ j
    once i j c d lt lt' e =
        let same = some_same _ _ _ (role i c lt) (ap (role_of k) e ∙ role j d lt') in
        let numbers = same_copy (k.original_inputs + i) (k.original_inputs + j) c d same in
        omega (arith, numbers.0)

    nodes : (i : ℕ) → i < length k.part → NodeOk n h (length k.depth) (get_or k.part i 0) (get_or k.copies i no_three) (get_or k.labels i no_three)
    nodes i lt =
        let l : i < length k.copies = omega (arith, cert.copies_long) in
        let labels = cert.small_labels i no_three (omega (arith, cert.labels_long)) in
        record {
          part = cert.parts_in_range i 0 lt;
          copies = (is_node i First l, is_node i Second l, is_node i Third l);
          labels = labels;
          distinct = λ c d e. (same_copy (k.original_inputs + i) (k.original_inputs + i) c d (some_same _ _ _ (role i c l) (ap (role_of k) e ∙ role i d l))).1;
        }

roles_can : (n h : Net) (k : PlainCert) (given : List (Option Role)) → IsCert k → Fits n h k → Filled (IsCopyOf (length n.inputs) k.copies) (length h.inputs) given → RolesCan k.version n h k (length k.depth) given
roles_can n h k given cert fits filled = record { role_given = role_given; voters = voters; count = fits.hardened_nodes }
  where
    role_here : (j : ℕ) (r : Role) → slice_get k.roles j ≡ Some r → role_of k (length h.inputs + j) ≡ Some r
    role_here j r e =
        let less : length h.inputs + j - k.hardened_inputs ≡ j = omega (arith, fits.hardened_inputs) in
        slot_at k.hardened_inputs k.roles (length h.inputs + j) (omega (arith, fits.hardened_inputs)) ∙ (ap (slice_get k.roles) less ∙ e)

    voters : (j : ℕ) (x p : ℕ) (c : CopyNo) → slice_get k.roles j ≡ Some (Voter (record { 0 = x }) (record { 0 = p }) c) → IsVoted k.version n x × (p < length k.depth)
    voters j x p c e =
        let r = cert.roles_in_range (length h.inputs + j) (Voter (record { 0 = x }) (record { 0 = p }) c) (role_here j _ e) in
        ((λ one. let low : k.original_inputs ≤ x = r.0 one in omega (arith, fits.original_inputs), omega (arith, r.1, fits.original_inputs, fits.original_nodes)), r.2)

    no_copy : (j : ℕ) (x p : ℕ) (c : CopyNo) (o : Option Role) → slice_get k.roles j ≡ Some (Voter (record { 0 = x }) (record { 0 = p }) c) → get_or given j None ≡ o → o ≡ None
    no_copy j x p c None e f = refl
    no_copy j x p c (Some q) e f =
        let s = filled.sound j q f in
        let r : role_of k (length h.inputs + j) ≡ Some (copy_role (k.original_inputs + s.i) s.c) = ap (role_of k) (sym s.net) ∙ role_at_copy k s.i s.c cert s.within in
        let same = some_same _ _ _ r (role_here j _ e) in
        absurd (cc same)

    role_given : (j : ℕ) (r : Role) → slice_get k.roles j ≡ Some r → get_or given j None ≡ as_given r
    role_given j (Copy x c) e =
        let here = role_here j (Copy x c) e in
        let range = cert.roles_in_range (length h.inputs + j) (Copy x c) here in
        let is = cert.roles_are_copies (length h.inputs + j) x.0 c here in
        let i : ℕ = x.0 - k.original_inputs in
        let back : k.original_inputs + i ≡ x.0 = omega (arith, range.0) in
        let back' : x.0 ≡ length n.inputs + i = omega (arith, range.0, fits.original_inputs) in
        let within : i < length k.copies = omega (arith, range.0, range.1, cert.copies_long) in
        let net : of_copy (get_or k.copies i no_three) c ≡ length h.inputs + j = sym (copy_at k i c within) ∙ (ap (λ (y : ℕ). copy_of k y c) back ∙ is) in
        let f = filled.complete (length h.inputs + j) (Copy x c) (record { i = i; c = c; within = within; role = ap (λ (y : ℕ). copy_role y c) back'; net = net }) in
        let less : length h.inputs + j - length h.inputs ≡ j = omega arith in
        subst (λ (m : ℕ). get_or given m None ≡ Some (Copy x c)) less f.1
    role_given j (Voter x p c) e = no_copy j x.0 p.0 c (get_or given j None) e refl

-- ---- all of it

first_line_of_digit : (n version : ℕ) (digit tail : List ℕ) → list_all (nat_lt 32) digit ≡ true → version_named (join_with_byte 32 (codes "tmr-cert" ∷ digit ∷ [])) ≡ Some version → first_line (record { line = n; bytes = line_text (codes "tmr-cert" ∷ digit ∷ []) ++ tail }) ≡ Ok (version, record { line = n + 1; bytes = tail })
unfolding first_line
first_line_of_digit n version digit tail word named =
    rw (next_of (record { line = n; bytes = line_text (codes "tmr-cert" ∷ digit ∷ []) ++ tail }) (codes "tmr-cert") (digit ∷ []) tail (coded (codes "tmr-cert") refl, (coded digit word, tt)) refl) (rw named refl)

first_line_again : (n version : ℕ) (tail : List ℕ) → (version ≡ 1) ⊎ (version ≡ 2) → first_line (record { line = n; bytes = line_text (codes "tmr-cert" ∷ decimal version ∷ []) ++ tail }) ≡ Ok (version, record { line = n + 1; bytes = tail })
first_line_again n version tail (inl e) =
    let digit : codes "1" ≡ decimal version = sym (decimal_digit 1 (omega arith)) ∙ ap decimal (sym e) in
    subst (λ (w : List ℕ). first_line (record { line = n; bytes = line_text (codes "tmr-cert" ∷ w ∷ []) ++ tail }) ≡ Ok (version, record { line = n + 1; bytes = tail })) digit (first_line_of_digit n version (codes "1") tail refl (ap Some (sym e)))
first_line_again n version tail (inr e) =
    let digit : codes "2" ≡ decimal version = sym (decimal_digit 2 (omega arith)) ∙ ap decimal (sym e) in
    subst (λ (w : List ℕ). first_line (record { line = n; bytes = line_text (codes "tmr-cert" ∷ w ∷ []) ++ tail }) ≡ Ok (version, record { line = n + 1; bytes = tail })) digit (first_line_of_digit n version (codes "2") tail refl (ap Some (sym e)))

parts_line_again : (n count : ℕ) (tail : List ℕ) → count < 2 ^ 32 → parts_line (record { line = n; bytes = line_text (codes "parts" ∷ decimal count ∷ []) ++ tail }) ≡ Ok (count, record { line = n + 1; bytes = tail })
unfolding parts_line
parts_line_again n count tail small =
    let line = parts_line_ok count small in
    let ok = line.words in
    let next = next_of (record { line = n; bytes = line_text (codes "parts" ∷ decimal count ∷ []) ++ tail }) (codes "parts") (decimal count ∷ []) tail ok refl in
    let w = words_again (codes "parts") (decimal count ∷ []) ok in
    rw next (rw (read_parts_again (join_with_byte 32 (codes "parts" ∷ decimal count ∷ [])) count n w line.full small) refl)

last_line_again : (r : Rest) → r.bytes ≡ flat_map line_text ((codes "end" ∷ []) ∷ []) → last_line r ≡ Ok (record { line = r.line + 1; bytes = [] })
unfolding last_line
last_line_again r e = rw (next_of r (codes "end") [] [] (coded (codes "end") refl, tt) e) refl

-- the text, line by line
pub text_is : (n h : Net) (k : PlainCert) → cert_text n h k ≡ line_text (codes "tmr-cert" ∷ decimal k.version ∷ []) ++ (line_text (codes "parts" ∷ decimal (length k.depth) ∷ []) ++ (flat_map line_text (part_lines 0 k.depth) ++ (flat_map line_text (node_lines n h k.original_inputs k.part k.copies k.labels) ++ (flat_map line_text (voter_lines n h k.hardened_inputs k.roles) ++ flat_map line_text ((codes "end" ∷ []) ∷ [])))))
unfolding cert_lines
text_is n h k = ap (λ (b : List ℕ). line_text (codes "tmr-cert" ∷ decimal k.version ∷ []) ++ (line_text (codes "parts" ∷ decimal (length k.depth) ∷ []) ++ b))
    (flat_map-append line_text (part_lines 0 k.depth) _ ∙ ap (λ (b : List ℕ). flat_map line_text (part_lines 0 k.depth) ++ b)
    (flat_map-append line_text (node_lines n h k.original_inputs k.part k.copies k.labels) _ ∙ ap (λ (b : List ℕ). flat_map line_text (node_lines n h k.original_inputs k.part k.copies k.labels) ++ b)
    (flat_map-append line_text (voter_lines n h k.hardened_inputs k.roles) ((codes "end" ∷ []) ∷ []))))

abbrev plain : ℕ → ℕ → ℕ → List ℕ → List ℕ → List Three → List Three → List Role → PlainCert
plain v a b d p t l r = record { version = v; original_inputs = a; hardened_inputs = b; depth = d; part = p; copies = t; labels = l; roles = r }

same_cert : (v a b a' b' : ℕ) (d d' p p' : List ℕ) (t t' l l' : List Three) (r r' : List Role) → a ≡ a' → b ≡ b' → d ≡ d' → p ≡ p' → t ≡ t' → l ≡ l' → r ≡ r' → plain v a b d p t l r ≡ plain v a' b' d' p' t' l' r'
same_cert v a b a' b' d d' p p' t t' l l' r r' e1 e2 e3 e4 e5 e6 e7 = rw (e1, e2, e3, e4, e5, e6, e7) refl

-- the steps of reading, each with what it leads to
reads : (n h : Net) (bytes : List ℕ) (start parts : ℕ × Rest) (depths : Depths) (nodes : Nodes) (roles : Roles) (last : Rest)
    → first_line (record { line = 1; bytes = bytes }) ≡ Ok start → parts_line start.1 ≡ Ok parts → repeat parts.0 part_step (record { depth = []; rest = parts.1 }) ≡ Ok depths
    → repeat (length n.nodes) (node_step n h parts.0) (no_nodes h depths.rest) ≡ Ok nodes → repeat (length h.nodes) (voter_step start.0 n h parts.0 nodes.roles) (record { roles = []; rest = nodes.rest }) ≡ Ok roles → last_line roles.rest ≡ Ok last
    → fold_of_text n h bytes ≡ Ok (cert_made start.0 n h depths.depth nodes roles)
unfolding fold_of_text
reads n h bytes start parts depths nodes roles last a b c d e f = rw a (rw b (rw c (rw d (rw e (rw f refl)))))

pub fold_of_text_again : (n h : Net) (k : PlainCert) → IsValid n → IsValid h → IsCert k → Fits n h k → fold_of_text n h (cert_text n h k) ≡ Ok k
fold_of_text_again n h k valid valid_h cert fits =
    let count = length k.depth in
    let few : count < 2 ^ 32 = omega (arith, cert.few_parts) in
    let few' : count ≤ 2 ^ 32 = omega arith in
    let few0 : 0 + count ≤ 2 ^ 32 = omega arith in
    let t5 : List ℕ = flat_map line_text ((codes "end" ∷ []) ∷ []) in
    let t4 : List ℕ = flat_map line_text (voter_lines n h k.hardened_inputs k.roles) ++ t5 in
    let t3 : List ℕ = flat_map line_text (node_lines n h k.original_inputs k.part k.copies k.labels) ++ t4 in
    let t2 : List ℕ = flat_map line_text (part_lines 0 k.depth) ++ t3 in
    let t1 : List ℕ = line_text (codes "parts" ∷ decimal count ∷ []) ++ t2 in
    let start : Rest = record { line = 2; bytes = t1 } in
    let from : List ℕ = line_text (codes "tmr-cert" ∷ decimal k.version ∷ []) ++ t1 in
    let first : first_line (record { line = 1; bytes = from }) ≡ Ok (k.version, start) = first_line_again 1 k.version t1 cert.known_version in
    let parts : parts_line start ≡ Ok (count, record { line = 3; bytes = t2 }) = parts_line_again 2 count t2 few in
    let s0 : Depths = record { depth = []; rest = record { line = 3; bytes = t2 } } in
    let d = depths_again k.depth s0 t3 (recursion_from_All (λ (v : ℕ). v < 2 ^ 32) k.depth cert.small_depths) few0 refl in
    let n0 = no_nodes h d.last.rest in
    let place : length n.inputs + 0 ≡ k.original_inputs = omega (arith, fits.original_inputs) in
    let node_text : d.last.rest.bytes ≡ flat_map line_text (node_lines n h (length n.inputs + 0) k.part k.copies k.labels) ++ t4 = d.is.1 ∙ ap (λ (x : ℕ). flat_map line_text (node_lines n h x k.part k.copies k.labels) ++ t4) (sym place) in
    let ns = nodes_again n h k count t4 k.part k.copies k.labels n0 valid valid_h few' (can_read n h k cert fits) (record {
      part = refl;
      copies = refl;
      labels = refl;
      long = refl;
      long_labels = refl;
      copies_long = sym cert.copies_long;
      labels_long = sym cert.labels_long;
      roles = length-replicate (length h.nodes) None;
      filled = nothing_filled (length n.inputs) (length h.inputs) (length h.nodes);
      text = node_text;
    }) in
    let nodes_steps : repeat (length n.nodes) (node_step n h count) n0 ≡ Ok ns.last = subst (λ (m : ℕ). repeat m (node_step n h count) n0 ≡ Ok ns.last) fits.original_nodes ns.steps in
    let filled : Filled (IsCopyOf (length n.inputs) k.copies) (length h.inputs) ns.last.roles = subst (λ (v : List Three). Filled (IsCopyOf (length n.inputs) v) (length h.inputs) ns.last.roles) ns.is.copies ns.is.filled in
    let r0 : Roles = record { roles = []; rest = ns.last.rest } in
    let place_h : length h.inputs + 0 ≡ k.hardened_inputs = omega (arith, fits.hardened_inputs) in
    let role_text : ns.last.rest.bytes ≡ flat_map line_text (voter_lines n h (length h.inputs + 0) k.roles) ++ t5 = ns.is.text ∙ ap (λ (x : ℕ). flat_map line_text (voter_lines n h x k.roles) ++ t5) (sym place_h) in
    let rs = roles_again k.version n h k count ns.last.roles t5 k.roles r0 valid valid_h few' (roles_can n h k ns.last.roles cert fits filled) (record { roles = refl; text = role_text }) in
    let roles_steps : repeat (length h.nodes) (voter_step k.version n h count ns.last.roles) r0 ≡ Ok rs.last = subst (λ (m : ℕ). repeat m (voter_step k.version n h count ns.last.roles) r0 ≡ Ok rs.last) fits.hardened_nodes rs.steps in
    let last = last_line_again rs.last.rest rs.is.1 in
    let all = reads n h from (k.version, start) (count, record { line = 3; bytes = t2 }) d.last ns.last rs.last (record { line = rs.last.rest.line + 1; bytes = [] }) first parts d.steps nodes_steps roles_steps last in
    let same : cert_made k.version n h d.last.depth ns.last rs.last ≡ k = same_cert k.version (length n.inputs) (length h.inputs) k.original_inputs k.hardened_inputs d.last.depth k.depth ns.last.part k.part ns.last.copies k.copies ns.last.labels k.labels rs.last.roles k.roles (sym fits.original_inputs) (sym fits.hardened_inputs) d.is.0 ns.is.part ns.is.copies ns.is.labels rs.is.0 in
    ap (fold_of_text n h) (text_is n h k) ∙ (all ∙ ap Ok same)
