-- What is read is a certificate of the two designs.
use Rattle.std.proofs.Common.{◌≡◌, ℕ, zero, suc, ◌+◌, ◌-◌, ◌^◌, ◌<◌, ◌≤◌, List, [], ◌∷◌, ◌++◌, length, get_or, Option, Some, None, Ok, refl, sym, ap, subst, ◌∙◌, arith}
use Rattle.std.proofs.Common.{◌⊎◌, inl, inr, replicate, slice_get, All}
use Rattle.std.proofs.lemmas.List.{length-append, length-replicate}
use Rattle.std.proofs.lemmas.List.Elements.{All-push}
use Rattle.std.proofs.lemmas.Option.{slice_get-get_or}
use Rattle.tmr_base.specs.declared.copies.CopyNo.{CopyNo}
use Rattle.tmr_base.specs.declared.copies.CopyNo.TheVariants.{First, Second, Third}
use Rattle.tmr_base.specs.Copies.{Three, of_copy}
use Rattle.flat_net.specs.Net.{Net, IsValid, slot}
use Rattle.flat_net.proofs.Slots.{slot_at, slot_within}
use Rattle.certificate.specs.declared.role.Role.{Role}
use Rattle.certificate.specs.declared.role.Role.TheVariants.{Copy, Voter}
use Rattle.certificate.specs.declared.fault.CertFault.TheVariants.{Line}
use Rattle.certificate.specs.Lines.{Rest, next_line, want}
use Rattle.certificate.specs.Plain.{IsVoted, AreNodes}
use Rattle.certificate.specs.Cert.{PlainCert, IsCert, Fits, RoleIsInRange, role_of, copy_of, three_or_input}
use Rattle.certificate.specs.Carrying.{made}
use Rattle.certificate.specs.Folding.{version_named, Depths, Nodes, Roles, give_copies, read_node, read_voter, read_part, read_parts, parts_line, first_line, last_line, part_step, node_step, role_step, voter_step, repeat, fold_of_text}
use Rattle.certificate.proofs.Cases.{AreSmall, bind_ok, want_ok, ok_is, repeat_all, version_is, read_node_read, read_voter_read, read_part_read, read_parts_read}
use Rattle.certificate.proofs.Filling.{Filled, IsCopyOf, copies_fill, nothing_filled, no_three, copy_role}

-- ---- one element more

pub push_old : {A : Type 0} (xs : List A) (y x : A) (j : ℕ) → slice_get xs j ≡ Some x → slice_get (xs ++ y ∷ []) j ≡ Some x
push_old [] y x j e = absurd cc
push_old (z ∷ xs) y x zero e = e
push_old (z ∷ xs) y x (suc j) e = push_old xs y x j e

pub push_last : {A : Type 0} (xs : List A) (y : A) → slice_get (xs ++ y ∷ []) (length xs) ≡ Some y
push_last [] y = refl
push_last (z ∷ xs) y = push_last xs y

pub push_read : {A : Type 0} (xs : List A) (y x : A) (j : ℕ) → slice_get (xs ++ y ∷ []) j ≡ Some x → (slice_get xs j ≡ Some x) ⊎ ((j ≡ length xs) × (y ≡ x))
push_read [] y x zero e = inr (refl, cc)
push_read [] y x (suc j) e = absurd cc
push_read (z ∷ xs) y x zero e = inl e
push_read (z ∷ xs) y x (suc j) e = go (push_read xs y x j e)
  where
    go : (slice_get xs j ≡ Some x) ⊎ ((j ≡ length xs) × (y ≡ x)) → (slice_get xs j ≡ Some x) ⊎ ((suc j ≡ suc (length xs)) × (y ≡ x))
    go (inl f) = inl f
    go (inr f) = inr (ap suc f.0, f.1)

-- ---- depths

pub record DepthsOk (i : ℕ) (s : Depths) : Type 0 where
  pub long : length s.depth ≡ i
  pub small : All (λ d. d < 2 ^ 32) s.depth

depths_keep : (i : ℕ) (s t : Depths) → DepthsOk i s → part_step s ≡ Ok t → DepthsOk (i + 1) t
unfolding part_step
depths_keep i s t ok e =
    let line = bind_ok (next_line s.rest) _ t e in
    let depth = bind_ok (read_part (length s.depth) line.0.0 s.rest.line) _ t line.2 in
    let made : Depths = record { depth = s.depth ++ depth.0 ∷ []; rest = line.0.1 } in
    let r = read_part_read (length s.depth) line.0.0 s.rest.line depth.0 depth.1 in
    subst (DepthsOk (i + 1)) (ok_is made t depth.2) (record {
      long = length-append s.depth (depth.0 ∷ []) ∙ omega (arith, ok.long);
      small = All-push (λ d. d < 2 ^ 32) s.depth depth.0 ok.small r.small;
    })

pub depths_ok : (count : ℕ) (rest : Rest) (t : Depths) → repeat count part_step (record { depth = []; rest = rest }) ≡ Ok t → DepthsOk count t
depths_ok count rest t e = repeat_all DepthsOk part_step depths_keep count (record { depth = []; rest = rest }) t (record { long = refl; small = λ i d lt. absurd (omega arith) }) e

-- ---- nodes

pub record NodesOk (n h : Net) (parts i : ℕ) (s : Nodes) : Type 0 where
  pub part : length s.part ≡ i
  pub copies : length s.copies ≡ i
  pub labels : length s.labels ≡ i
  pub in_range : All (λ p. p < parts) s.part
  pub small : All AreSmall s.labels
  pub roles : length s.roles ≡ length h.nodes
  pub filled : Filled (IsCopyOf (length n.inputs) s.copies) (length h.inputs) s.roles

each_node : (h : Net) (t : Three) (count : ℕ) → count ≡ length h.nodes → AreNodes h t → (c : CopyNo) → (length h.inputs ≤ of_copy t c) × (of_copy t c < length h.inputs + count)
each_node h t count e nodes First = (nodes.0.0, omega (arith, nodes.0.1))
each_node h t count e nodes Second = (nodes.1.0, omega (arith, nodes.1.1))
each_node h t count e nodes Third = (nodes.2.0, omega (arith, nodes.2.1))

nodes_keep : (n h : Net) (parts i : ℕ) (s t : Nodes) → NodesOk n h parts i s → node_step n h parts s ≡ Ok t → NodesOk n h parts (i + 1) t
unfolding node_step
nodes_keep n h parts i s t ok e =
    let x = length n.inputs + length s.part in
    let line = bind_ok (next_line s.rest) _ t e in
    let node = bind_ok (read_node n h x parts line.0.0 s.rest.line) _ t line.2 in
    let roles = bind_ok (give_copies (length h.inputs) x node.0.copies s.rest.line s.roles) _ t node.2 in
    let r = read_node_read n h x parts line.0.0 s.rest.line node.0 node.1 in
    let same : length s.part ≡ length s.copies = omega (arith, ok.part, ok.copies) in
    let given : give_copies (length h.inputs) (length n.inputs + length s.copies) node.0.copies s.rest.line s.roles ≡ Ok roles.0 = subst (λ (m : ℕ). give_copies (length h.inputs) (length n.inputs + m) node.0.copies s.rest.line s.roles ≡ Ok roles.0) same roles.1 in
    let f = copies_fill (length h.inputs) (length n.inputs) s.copies node.0.copies s.rest.line s.roles roles.0 ok.filled (each_node h node.0.copies (length s.roles) ok.roles r.copies) given in
    let made : Nodes = record { part = s.part ++ node.0.part ∷ []; copies = s.copies ++ node.0.copies ∷ []; labels = s.labels ++ node.0.labels ∷ []; roles = roles.0; rest = line.0.1 } in
    subst (NodesOk n h parts (i + 1)) (ok_is made t roles.2) (record {
      part = length-append s.part (node.0.part ∷ []) ∙ omega (arith, ok.part);
      copies = length-append s.copies (node.0.copies ∷ []) ∙ omega (arith, ok.copies);
      labels = length-append s.labels (node.0.labels ∷ []) ∙ omega (arith, ok.labels);
      in_range = All-push (λ p. p < parts) s.part node.0.part ok.in_range r.part;
      small = All-push AreSmall s.labels node.0.labels ok.small r.labels;
      roles = f.1 ∙ ok.roles;
      filled = f.0;
    })

abbrev pub no_nodes : Net → Rest → Nodes
no_nodes h rest = record { part = []; copies = []; labels = []; roles = replicate (length h.nodes) None; rest = rest }

pub nodes_ok : (n h : Net) (parts : ℕ) (rest : Rest) (t : Nodes) → repeat (length n.nodes) (node_step n h parts) (no_nodes h rest) ≡ Ok t → NodesOk n h parts (length n.nodes) t
nodes_ok n h parts rest t e = repeat_all (NodesOk n h parts) (node_step n h parts) (nodes_keep n h parts) (length n.nodes) (no_nodes h rest) t
    (record { part = refl; copies = refl; labels = refl; in_range = λ i d lt. absurd (omega arith); small = λ i d lt. absurd (omega arith); roles = length-replicate (length h.nodes) None; filled = nothing_filled (length n.inputs) (length h.inputs) (length h.nodes) }) e

-- ---- roles

pub record IsVoterOf (version : ℕ) (n : Net) (parts : ℕ) (r : Role) : Type 0 where
  pub x : ℕ
  pub p : ℕ
  pub c : CopyNo
  pub is : r ≡ Voter (record { 0 = x }) (record { 0 = p }) c
  pub voted : IsVoted version n x
  pub part : p < parts

pub record RolesOk (version : ℕ) (n : Net) (parts : ℕ) (given : List (Option Role)) (i : ℕ) (s : Roles) : Type 0 where
  pub long : length s.roles ≡ i
  pub copies : (j : ℕ) (r : Role) → j < i → get_or given j None ≡ Some r → slice_get s.roles j ≡ Some r
  pub others : (j : ℕ) (r : Role) → slice_get s.roles j ≡ Some r → (get_or given j None ≡ Some r) ⊎ IsVoterOf version n parts r

role_added : (version : ℕ) (n : Net) (parts : ℕ) (given : List (Option Role)) (i : ℕ) (s : Roles) (r : Role) (rest : Rest) → RolesOk version n parts given i s → ((q : Role) → get_or given (length s.roles) None ≡ Some q → q ≡ r) → (get_or given (length s.roles) None ≡ Some r) ⊎ IsVoterOf version n parts r → RolesOk version n parts given (i + 1) (record { roles = s.roles ++ r ∷ []; rest = rest })
role_added version n parts given i s r rest ok same what = record { long = length-append s.roles (r ∷ []) ∙ omega (arith, ok.long); copies = copies; others = others }
  where
    before_or_last : (j k : ℕ) → j < k + 1 → (j < k) ⊎ (j ≡ k)
    before_or_last j k h = grind arith

    copies : (j : ℕ) (q : Role) → j < i + 1 → get_or given j None ≡ Some q → slice_get (s.roles ++ r ∷ []) j ≡ Some q
    copies j q lt e = go (before_or_last j i lt)
      where
        go : (j < i) ⊎ (j ≡ i) → slice_get (s.roles ++ r ∷ []) j ≡ Some q
        go (inl l) = push_old s.roles r q j (ok.copies j q l e)
        go (inr is) =
            let here : j ≡ length s.roles = is ∙ sym ok.long in
            let q-is : q ≡ r = same q (subst (λ (k : ℕ). get_or given k None ≡ Some q) here e) in
            ap (slice_get (s.roles ++ r ∷ [])) here ∙ (push_last s.roles r ∙ ap Some (sym q-is))

    others : (j : ℕ) (q : Role) → slice_get (s.roles ++ r ∷ []) j ≡ Some q → (get_or given j None ≡ Some q) ⊎ IsVoterOf version n parts q
    others j q e = go (push_read s.roles r q j e)
      where
        go : (slice_get s.roles j ≡ Some q) ⊎ ((j ≡ length s.roles) × (r ≡ q)) → (get_or given j None ≡ Some q) ⊎ IsVoterOf version n parts q
        go (inl f) = ok.others j q f
        go (inr f) = subst (λ (k : ℕ). (get_or given k None ≡ Some q) ⊎ IsVoterOf version n parts q) (sym f.0) (subst (λ (u : Role). (get_or given (length s.roles) None ≡ Some u) ⊎ IsVoterOf version n parts u) f.1 what)

role_keeps : (version : ℕ) (n h : Net) (parts : ℕ) (given : List (Option Role)) (i : ℕ) (s t : Roles) (o : Option Role) → RolesOk version n parts given i s → get_or given (length s.roles) None ≡ o → role_step version n h parts o s ≡ Ok t → RolesOk version n parts given (i + 1) t
role_keeps version n h parts given i s t (Some r) ok is e =
    let made : Roles = record { roles = s.roles ++ r ∷ []; rest = s.rest } in
    subst (RolesOk version n parts given (i + 1)) (ok_is made t e) (role_added version n parts given i s r s.rest ok (λ q f. cc) (inl is))
role_keeps version n h parts given i s t None ok is e =
    let line = bind_ok (next_line s.rest) _ t e in
    let role = bind_ok (read_voter version n h (length h.inputs + length s.roles) parts line.0.0 s.rest.line) _ t line.2 in
    let v = read_voter_read version n h (length h.inputs + length s.roles) parts line.0.0 s.rest.line role.0 role.1 in
    let made : Roles = record { roles = s.roles ++ role.0 ∷ []; rest = line.0.1 } in
    subst (RolesOk version n parts given (i + 1)) (ok_is made t role.2) (role_added version n parts given i s role.0 line.0.1 ok (λ q f. absurd cc) (inr (record { x = v.x; p = v.p; c = v.c; is = v.is; voted = v.voted; part = v.part })))

roles_keep : (version : ℕ) (n h : Net) (parts : ℕ) (given : List (Option Role)) (i : ℕ) (s t : Roles) → RolesOk version n parts given i s → voter_step version n h parts given s ≡ Ok t → RolesOk version n parts given (i + 1) t
unfolding voter_step
roles_keep version n h parts given i s t ok e = role_keeps version n h parts given i s t (get_or given (length s.roles) None) ok refl e

pub roles_ok : (version : ℕ) (n h : Net) (parts : ℕ) (given : List (Option Role)) (rest : Rest) (t : Roles) → repeat (length h.nodes) (voter_step version n h parts given) (record { roles = []; rest = rest }) ≡ Ok t → RolesOk version n parts given (length h.nodes) t
roles_ok version n h parts given rest t e = repeat_all (RolesOk version n parts given) (voter_step version n h parts given) (roles_keep version n h parts given) (length h.nodes) (record { roles = []; rest = rest }) t
    (record { long = refl; copies = λ j r lt f. absurd (omega arith); others = λ j r f. absurd cc }) e

-- ---- all of it

abbrev pub cert_made : ℕ → Net → Net → List ℕ → Nodes → Roles → PlainCert
cert_made version n h depth nodes roles = made version n h depth nodes roles.roles

read_within : {A : Type 0} (xs : List (Option A)) (j : ℕ) (r : A) → get_or xs j None ≡ Some r → j < length xs
read_within [] j r e = absurd cc
read_within (x ∷ xs) zero r e = omega arith
read_within (x ∷ xs) (suc j) r e = let l = read_within xs j r e in omega arith

copy_is : (version : ℕ) (n h : Net) (depth : List ℕ) (nodes : Nodes) (roles : Roles) (i : ℕ) (c : CopyNo) → i < length nodes.copies → copy_of (cert_made version n h depth nodes roles) (length n.inputs + i) c ≡ of_copy (get_or nodes.copies i no_three) c
copy_is version n h depth nodes roles i c lt =
    let less : length n.inputs + i - length n.inputs ≡ i = omega arith in
    let s : slot (length n.inputs) nodes.copies (length n.inputs + i) ≡ Some (get_or nodes.copies i no_three) = slot_at (length n.inputs) nodes.copies (length n.inputs + i) (omega arith) ∙ (ap (slice_get nodes.copies) less ∙ slice_get-get_or nodes.copies i no_three lt) in
    ap (λ (o : Option Three). three_or_input o (length n.inputs + i) c) s

abbrev pub role_node : Role → ℕ
role_node (Copy x c) = x.0
role_node (Voter x p c) = x.0

pub same_copy : (x y : ℕ) (c d : CopyNo) → copy_role x c ≡ copy_role y d → (x ≡ y) × (c ≡ d)
same_copy x y c d e = (ap role_node e, cc)

copy_net : (version : ℕ) (n h : Net) (depth : List ℕ) (nodes : Nodes) (roles : Roles) (g x : ℕ) (c : CopyNo) → IsCopyOf (length n.inputs) nodes.copies g (copy_role x c) → copy_of (cert_made version n h depth nodes roles) x c ≡ g
copy_net version n h depth nodes roles g x c p =
    let s = same_copy x (length n.inputs + p.i) c p.c p.role in
    let there : copy_of (cert_made version n h depth nodes roles) (length n.inputs + p.i) p.c ≡ g = copy_is version n h depth nodes roles p.i p.c p.within ∙ p.net in
    subst (λ (y : ℕ). copy_of (cert_made version n h depth nodes roles) y c ≡ g) (sym s.0) (subst (λ (d : CopyNo). copy_of (cert_made version n h depth nodes roles) (length n.inputs + p.i) d ≡ g) (sym s.1) there)

pub is_cert : (version : ℕ) (n h : Net) (parts : ℕ) (depth : List ℕ) (nodes : Nodes) (roles : Roles) → (version ≡ 1) ⊎ (version ≡ 2) → IsValid n → IsValid h → length depth ≡ parts → All (λ d. d < 2 ^ 32) depth → parts < 2 ^ 32 → NodesOk n h parts (length n.nodes) nodes → RolesOk version n parts nodes.roles (length h.nodes) roles → IsCert (cert_made version n h depth nodes roles) × Fits n h (cert_made version n h depth nodes roles)
is_cert version n h parts depth nodes roles is_version valid valid_h long small_depths small ok done = (
  record {
    known_version = is_version;
    few_parts = omega arith;
    few_original = omega (arith, valid.unordered.few, ok.part);
    few_hardened = omega (arith, valid_h.unordered.few, done.long);
    small_depths = small_depths;
    small_labels = ok.small;
    parts_in_range = subst (λ (m : ℕ). All (λ p. p < m) nodes.part) (sym long) ok.in_range;
    copies_long = ok.copies ∙ sym ok.part;
    labels_long = ok.labels ∙ sym ok.part;
    roles_in_range = in_range;
    copies_have_roles = have_roles;
    roles_are_copies = are_copies;
  },
  record { original_inputs = refl; original_nodes = ok.part; hardened_inputs = refl; hardened_nodes = done.long },
)
  where
    k : PlainCert
    k = cert_made version n h depth nodes roles

    in_hardened : (g : ℕ) (r : Role) → role_of k g ≡ Some r → (length h.inputs ≤ g) × (slice_get roles.roles (g - length h.inputs) ≡ Some r)
    in_hardened g r e =
        let w = slot_within (length h.inputs) roles.roles g r e in
        (w.0, sym (slot_at (length h.inputs) roles.roles g w.0) ∙ e)

    is_copy : (g : ℕ) (r : Role) → length h.inputs ≤ g → get_or nodes.roles (g - length h.inputs) None ≡ Some r → IsCopyOf (length n.inputs) nodes.copies g r
    is_copy g r low e =
        let back : length h.inputs + (g - length h.inputs) ≡ g = omega arith in
        subst (λ (v : ℕ). IsCopyOf (length n.inputs) nodes.copies v r) back (ok.filled.sound (g - length h.inputs) r e)

    in_range : (g : ℕ) (r : Role) → role_of k g ≡ Some r → RoleIsInRange k r
    in_range g r e = let i = in_hardened g r e in go i.0 (done.others (g - length h.inputs) r i.1)
      where
        go : length h.inputs ≤ g → (get_or nodes.roles (g - length h.inputs) None ≡ Some r) ⊎ IsVoterOf version n parts r → RoleIsInRange k r
        go low (inl f) = let c = is_copy g r low f in subst (RoleIsInRange k) (sym c.role) (omega arith, omega (arith, c.within, ok.copies, ok.part))
        go low (inr v) = subst (RoleIsInRange k) (sym v.is) (v.voted.0, omega (arith, v.voted.1, ok.part), omega (arith, v.part))

    have_roles : (x : ℕ) (c : CopyNo) → length n.inputs ≤ x → x < length n.inputs + length nodes.part → role_of k (copy_of k x c) ≡ Some (copy_role x c)
    have_roles x c low high =
        let i : ℕ = x - length n.inputs in
        let back : length n.inputs + i ≡ x = omega arith in
        let within : i < length nodes.copies = omega (arith, ok.copies, ok.part) in
        let g : ℕ = of_copy (get_or nodes.copies i no_three) c in
        let is : copy_of k x c ≡ g = subst (λ (y : ℕ). copy_of k y c ≡ g) back (copy_is version n h depth nodes roles i c within) in
        let f = ok.filled.complete g (copy_role (length n.inputs + i) c) (record { i = i; c = c; within = within; role = refl; net = refl }) in
        let short : g - length h.inputs < length h.nodes = omega (arith, read_within nodes.roles (g - length h.inputs) (copy_role (length n.inputs + i) c) f.1, ok.roles) in
        let r = done.copies (g - length h.inputs) (copy_role (length n.inputs + i) c) short f.1 in
        ap (role_of k) is ∙ (slot_at (length h.inputs) roles.roles g f.0 ∙ (r ∙ ap (λ (y : ℕ). Some (copy_role y c)) back))

    are_copies : (g x : ℕ) (c : CopyNo) → role_of k g ≡ Some (copy_role x c) → copy_of k x c ≡ g
    are_copies g x c e = let i = in_hardened g (copy_role x c) e in go i.0 (done.others (g - length h.inputs) (copy_role x c) i.1)
      where
        go : length h.inputs ≤ g → (get_or nodes.roles (g - length h.inputs) None ≡ Some (copy_role x c)) ⊎ IsVoterOf version n parts (copy_role x c) → copy_of k x c ≡ g
        go low (inl f) = copy_net version n h depth nodes roles g x c (is_copy g (copy_role x c) low f)
        go low (inr v) = let h = v.is in absurd cc

one_or_two : {A B P Q : Type 0} → (A × P) ⊎ (B × Q) → A ⊎ B
one_or_two (inl p) = inl p.0
one_or_two (inr p) = inr p.0

pub fold_of_text_ok : (n h : Net) (bytes : List ℕ) (k : PlainCert) → IsValid n → IsValid h → fold_of_text n h bytes ≡ Ok k → IsCert k × Fits n h k
unfolding fold_of_text first_line parts_line
fold_of_text_ok n h bytes k valid valid_h e =
    let start = bind_ok (first_line (record { line = 1; bytes = bytes })) _ k e in
    let parts = bind_ok (parts_line start.0.1) _ k start.2 in
    let depths = bind_ok (repeat parts.0.0 part_step (record { depth = []; rest = parts.0.1 })) _ k parts.2 in
    let nodes = bind_ok (repeat (length n.nodes) (node_step n h parts.0.0) (no_nodes h depths.0.rest)) _ k depths.2 in
    let roles = bind_ok (repeat (length h.nodes) (voter_step start.0.0 n h parts.0.0 nodes.0.roles) (record { roles = []; rest = nodes.0.rest })) _ k nodes.2 in
    let last = bind_ok (last_line roles.0.rest) _ k roles.2 in
    let small : parts.0.0 < 2 ^ 32 = parts_small start.0.1 parts.0 parts.1 in
    let read = depths_ok parts.0.0 parts.0.1 depths.0 depths.1 in
    subst (λ (c : PlainCert). IsCert c × Fits n h c) (ok_is (cert_made start.0.0 n h depths.0.depth nodes.0 roles.0) k last.2)
    (is_cert start.0.0 n h parts.0.0 depths.0.depth nodes.0 roles.0 (version_known (record { line = 1; bytes = bytes }) start.0 start.1) valid valid_h read.long read.small small (nodes_ok n h parts.0.0 depths.0.rest nodes.0 nodes.1) (roles_ok start.0.0 n h parts.0.0 nodes.0.roles nodes.0.rest roles.0 roles.1))
  where
    version_known : (r : Rest) (v : ℕ × Rest) → first_line r ≡ Ok v → (v.0 ≡ 1) ⊎ (v.0 ≡ 2)
    version_known r v f =
        let line = bind_ok (next_line r) _ v f in
        let version = bind_ok (want (version_named line.0.0) (Line r.line)) _ v line.2 in
        let made : ℕ × Rest = (version.0, line.0.1) in
        subst (λ (q : ℕ × Rest). (q.0 ≡ 1) ⊎ (q.0 ≡ 2)) (ok_is made v version.2) (one_or_two (version_is line.0.0 version.0 (want_ok (version_named line.0.0) (Line r.line) version.0 version.1)))

    parts_small : (r : Rest) (p : ℕ × Rest) → parts_line r ≡ Ok p → p.0 < 2 ^ 32
    parts_small r p f =
        let line = bind_ok (next_line r) _ p f in
        let count = bind_ok (read_parts line.0.0 r.line) _ p line.2 in
        let made : ℕ × Rest = (count.0, line.0.1) in
        subst (λ (q : ℕ × Rest). q.0 < 2 ^ 32) (ok_is made p count.2) (read_parts_read line.0.0 r.line count.0 count.1).1
