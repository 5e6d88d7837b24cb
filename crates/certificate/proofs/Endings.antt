-- What a text gives that comes to its end.
use Rattle.std.proofs.Common.{◌≡◌, ℕ, zero, suc, ◌-◌, ◌<◌, ◌⊎◌, inl, inr, Bool, false, List, [], ◌∷◌, ◌++◌, length, Option, Some, None, Result, Ok, Err, IfOk, IfSome, refl, sym, ap, subst, ◌∙◌, append-nil, arith}
use Rattle.std.specs.Prelude.{◌==◌, replicate, nat_lt, slice_index_or}
use Rattle.std.specs.List.{position_or_len}
use Rattle.std.proofs.lemmas.Bool.{le-ltb}
use Rattle.std.proofs.lemmas.Bool.Decides.{nat_tests}
use Rattle.std.proofs.lemmas.List.Sums.{position_or_len_is}
use Rattle.text_lines.specs.Lines.{is_line_feed}
use Rattle.text_lines.specs.Pending.{IsOneLine}
use Rattle.flat_net.specs.Net.{Net, IsValid}
use Rattle.certificate.specs.declared.fault.CertFault.{CertFault}
use Rattle.certificate.specs.declared.fault.CertFault.TheVariants.{Line, Memory}
use Rattle.certificate.specs.declared.pieces.LineInHand.{LineInHand}
use Rattle.certificate.specs.declared.progress.Progress.{Progress}
use Rattle.certificate.specs.declared.progress.Stage.{Stage}
use Rattle.certificate.specs.declared.progress.Stage.TheVariants.{Begun, Versioned, Counted, Ended}
use Rattle.certificate.specs.declared.reading.NodeTable.{NodeTable}
use Rattle.certificate.specs.declared.role.Role.{Role}
use Rattle.certificate.specs.Cert.{PlainCert, IsCert, Fits}
use Rattle.certificate.specs.Gives.{Gives, Fails}
use Rattle.certificate.specs.Lines.{◌>>=◌, hold, Rest, next_line}
use Rattle.certificate.specs.Reading.{cert_of_text}
use Rattle.certificate.specs.Tables.{depths_read, nodes_read, roles_read}
use Rattle.certificate.specs.Text.{cert_text}
use Rattle.certificate.specs.Folding.{Nodes, Roles, repeat, first_line, parts_line, last_line, part_step, node_step, voter_step, role_step, fold_of_text}
use Rattle.certificate.specs.Carrying.{made, carry, carry_from, carry_roles, carry_nodes, carry_parts, carry_count, carry_all, carry_end, to_come}
use Rattle.certificate.specs.Reader.{HasRead}
use Rattle.certificate.proofs.Carries.{fails_so}
use Rattle.certificate.proofs.Same.{same_reading}
use Rattle.certificate.proofs.Validity.{no_nodes, fold_of_text_ok}
use Rattle.certificate.proofs.Found.{fold_of_text_found}
use Rattle.certificate.proofs.RoundTrip.{fold_of_text_again}

-- ---- no line is left

pub no_next : (r : Rest) → IsOneLine r.bytes → next_line r ≡ Err (Line r.line)
unfolding next_line
no_next r one =
    let at : position_or_len is_line_feed r.bytes ≡ length r.bytes = position_or_len_is is_line_feed r.bytes (length r.bytes) 0 (omega arith) (λ k lt. one k 0 lt) (λ lt. absurd (omega (arith, lt))) in
    let e : nat_lt (position_or_len is_line_feed r.bytes) (length r.bytes) ≡ false = le-ltb _ _ (omega (arith, at)) in
    rw e refl

none_last : (r : Rest) (k : Rest → Result PlainCert CertFault) → next_line r ≡ Err (Line r.line) → (last_line r >>= k) ≡ Err (Line r.line)
unfolding last_line
none_last r k e = rw e refl

module _ (version : ℕ) (n h : Net) (parts : ℕ) where
  role_or_line : (given : List (Option Role)) (s : Roles) → next_line s.rest ≡ Err (Line s.rest.line)
      → (voter_step version n h parts given s ≡ Err (Line s.rest.line)) ⊎ ((role : Role) × (voter_step version n h parts given s ≡ Ok (roles_read (s.roles ++ role ∷ []) s.rest)))
  unfolding voter_step
  role_or_line given s e = go (slice_index_or given (length s.roles) None)
    where
      go : (o : Option Role) → (role_step version n h parts o s ≡ Err (Line s.rest.line)) ⊎ ((role : Role) × (role_step version n h parts o s ≡ Ok (roles_read (s.roles ++ role ∷ []) s.rest)))
      go None = inl (rw e refl)
      go (Some role) = inr (role, refl)

  abbrev closing : List ℕ → Nodes → Roles → Result PlainCert CertFault
  closing depth nodes voters = last_line voters.rest >>= λ end. Ok (made version n h depth nodes voters.roles)

  none_voters : (k : ℕ) (depth : List ℕ) (nodes : Nodes) (given : List (Option Role)) (s : Roles) → next_line s.rest ≡ Err (Line s.rest.line)
      → (repeat k (voter_step version n h parts given) s >>= closing depth nodes) ≡ Err (Line s.rest.line)
  unfolding repeat
  none_voters zero depth nodes given s e = none_last s.rest _ e
  none_voters (suc k) depth nodes given s e = go (λ role. none_voters k depth nodes given (roles_read (s.roles ++ role ∷ []) s.rest) e) (role_or_line given s e)
    where
      go : ((role : Role) → (repeat k (voter_step version n h parts given) (roles_read (s.roles ++ role ∷ []) s.rest) >>= closing depth nodes) ≡ Err (Line s.rest.line))
          → (voter_step version n h parts given s ≡ Err (Line s.rest.line)) ⊎ ((role : Role) × (voter_step version n h parts given s ≡ Ok (roles_read (s.roles ++ role ∷ []) s.rest)))
          → (repeat (suc k) (voter_step version n h parts given) s >>= closing depth nodes) ≡ Err (Line s.rest.line)
      go on (inl f) = rw f refl
      go on (inr p) = rw p.1 (on p.0)

  none_roles : (depth : List ℕ) (roles : List Role) (nodes : Nodes) → next_line nodes.rest ≡ Err (Line nodes.rest.line) → carry_roles version n h parts depth roles nodes ≡ Err (Line nodes.rest.line)
  unfolding carry_roles
  none_roles depth roles nodes e = none_voters (length h.nodes - length roles) depth nodes nodes.roles (roles_read roles nodes.rest) e

  none_nodes : (depth : List ℕ) (roles : List Role) (nodes : Nodes) → next_line nodes.rest ≡ Err (Line nodes.rest.line) → carry_nodes version n h parts depth roles nodes ≡ Err (Line nodes.rest.line)
  unfolding carry_nodes repeat node_step
  none_nodes depth roles nodes e = go (length n.nodes - length nodes.part)
    where
      go : (k : ℕ) → (repeat k (node_step n h parts) nodes >>= λ all. carry_roles version n h parts depth roles all) ≡ Err (Line nodes.rest.line)
      go zero = none_roles depth roles nodes e
      go (suc k) = rw e refl

  none_parts : (depth : List ℕ) (nodes : NodeTable) (roles : List Role) (r : Rest) → next_line r ≡ Err (Line r.line) → carry_parts version n h parts depth nodes roles r ≡ Err (Line r.line)
  unfolding carry_parts repeat part_step
  none_parts depth nodes roles r e = go (parts - length depth)
    where
      go : (k : ℕ) → (repeat k part_step (depths_read depth r) >>= λ depths. carry_nodes version n h parts depths.depth roles (nodes_read nodes depths.rest)) ≡ Err (Line r.line)
      go zero = none_nodes depth roles (nodes_read nodes r) e
      go (suc k) = rw e refl

none_count : (version : ℕ) (n h : Net) (depth : List ℕ) (nodes : NodeTable) (roles : List Role) (r : Rest) → next_line r ≡ Err (Line r.line) → carry_count version n h depth nodes roles r ≡ Err (Line r.line)
unfolding carry_count parts_line
none_count version n h depth nodes roles r e = rw e refl

none_all : (n h : Net) (depth : List ℕ) (nodes : NodeTable) (roles : List Role) (r : Rest) → next_line r ≡ Err (Line r.line) → carry_all n h depth nodes roles r ≡ Err (Line r.line)
unfolding carry_all first_line
none_all n h depth nodes roles r e = rw e refl

-- all lines are read, but more bytes stand behind them
some_left : (version : ℕ) (n h : Net) (depth : List ℕ) (nodes : NodeTable) (roles : List Role) (r : Rest) → 0 < length r.bytes → carry_end version n h depth nodes roles r ≡ Err (Line r.line)
unfolding carry_end
some_left version n h depth nodes roles r lt =
    ap (λ (b : Bool). hold b (Line r.line) >>= λ _. Ok (made version n h depth (nodes_read nodes r) roles)) (let some : (length r.bytes == 0) ≡ false = grind (arith, nat_tests, lt) in some)

none_left : (version : ℕ) (n h : Net) (depth : List ℕ) (nodes : NodeTable) (roles : List Role) (r : Rest) → r.bytes ≡ [] → carry_end version n h depth nodes roles r ≡ Ok (made version n h depth (nodes_read nodes r) roles)
unfolding carry_end
none_left version n h depth nodes roles r none =
    ap (λ (xs : List ℕ). hold (length xs == 0) (Line r.line) >>= λ _. Ok (made version n h depth (nodes_read nodes r) roles)) none

-- the lines are not all read
abbrev pub IsUnended : Stage → List ℕ → Type 0
IsUnended Begun part = Unit {0}
IsUnended (Versioned version) part = Unit {0}
IsUnended (Counted version parts) part = Unit {0}
IsUnended (Ended version) part = 0 < length part

pub not_ended : (stage : Stage) (part : List ℕ) → ((version : ℕ) → stage ≡ Ended version → ⊥) → IsUnended stage part
not_ended Begun part not = tt
not_ended (Versioned version) part not = tt
not_ended (Counted version parts) part not = tt
not_ended (Ended version) part not = absurd (not version refl)

unended : (n h : Net) (stage : Stage) (depth : List ℕ) (nodes : NodeTable) (roles : List Role) (r : Rest) → IsOneLine r.bytes → IsUnended stage r.bytes → carry_from n h stage depth nodes roles r ≡ Err (Line r.line)
unended n h Begun depth nodes roles r one un = none_all n h depth nodes roles r (no_next r one)
unended n h (Versioned version) depth nodes roles r one un = none_count version n h depth nodes roles r (no_next r one)
unended n h (Counted version parts) depth nodes roles r one un = none_parts version n h parts depth nodes roles r (no_next r one)
unended n h (Ended version) depth nodes roles r one un = some_left version n h depth nodes roles r un

-- ---- the end of the bytes that a reader stands for

module _ (n h : Net) (refused : Option CertFault) (line : LineInHand) (p : Progress) (given : List ℕ) (read : HasRead n h refused line p given) where
  pub fault_read : (f : CertFault) → refused ≡ Some f → Fails f (cert_of_text n h given)
  fault_read f is =
      let bad : HasRead n h (Some f) line p given = subst (λ (o : Option CertFault). HasRead n h o line p given) is read in
      fails_so f _ _ (ap (cert_of_text n h) (append-nil given)) (bad [])

  whole : refused ≡ None → cert_of_text n h given ≡ carry n h p (record { line = line.number; bytes = line.part.items })
  whole is =
      let good : HasRead n h None line p given = subst (λ (o : Option CertFault). HasRead n h o line p given) is read in
      ap (cert_of_text n h) (sym (append-nil given)) ∙ (good [] ∙ ap (λ (xs : List ℕ). carry n h p (record { line = line.number; bytes = xs })) (append-nil line.part.items))

  pub end_read : (version : ℕ) (r : Rest) → refused ≡ None → p.stage ≡ Ended version → line.part.items ≡ [] → cert_of_text n h given ≡ Ok (made version n h p.depth.items (nodes_read p.nodes r) p.roles.items)
  end_read version r is stage none =
      whole is ∙ (ap (λ (s : Stage). carry_from n h s p.depth.items p.nodes p.roles.items (record { line = line.number; bytes = line.part.items })) stage
      ∙ none_left version n h p.depth.items p.nodes p.roles.items (record { line = line.number; bytes = line.part.items }) none)

  pub unended_read : refused ≡ None → IsOneLine line.part.items → IsUnended p.stage line.part.items → cert_of_text n h given ≡ Err (Line line.number)
  unended_read is one un = whole is ∙ unended n h p.stage p.depth.items p.nodes p.roles.items (record { line = line.number; bytes = line.part.items }) one un

-- ---- what the answer says

module _ (n h : Net) (given : List ℕ) (valid : IsValid n) (valid_h : IsValid h) where
  pub cert_is : (k : PlainCert) → cert_of_text n h given ≡ Ok k → IsCert k × Fits n h k
  cert_is k e = fold_of_text_ok n h given k valid valid_h (same_reading n h given ∙ e)

  pub fits_so : (r : Result PlainCert CertFault) → Gives (λ k. k) r (cert_of_text n h given) → IfOk r (λ k. Fits n h k)
  fits_so (Ok k) e = (cert_is k e).1
  fits_so (Err f) e = tt

  pub found_so : (r : Result PlainCert CertFault) → Gives (λ k. k) r (cert_of_text n h given) → IfOk r (λ k. given ≡ cert_text n h k)
  found_so (Ok k) e = fold_of_text_found n h given k (same_reading n h given ∙ e)
  found_so (Err f) e = tt

  pub only_so : (r : Result PlainCert CertFault) → Gives (λ k. k) r (cert_of_text n h given) → (k : PlainCert) → IsCert k → Fits n h k → given ≡ cert_text n h k → Gives (λ k. k) r (Ok k)
  only_so r e k cert fits text =
      subst (λ (read : Result PlainCert CertFault). Gives (λ (x : PlainCert). x) r read) (sym (same_reading n h given) ∙ (ap (fold_of_text n h) text ∙ fold_of_text_again n h k valid valid_h cert fits)) e

-- ---- the beginning

then_same : {A B : Type 0} (x : Result A CertFault) (f g : A → Result B CertFault) → ((a : A) → f a ≡ g a) → (x >>= f) ≡ (x >>= g)
then_same (Ok a) f g same = same a
then_same (Err e) f g same = refl

module _ (n h : Net) where
  roles_new : (version parts : ℕ) (depth : List ℕ) (nodes : Nodes) → carry_roles version n h parts depth [] nodes
      ≡ (repeat (length h.nodes) (voter_step version n h parts nodes.roles) (record { roles = []; rest = nodes.rest }) >>= closing version n h parts depth nodes)
  unfolding carry_roles
  roles_new version parts depth nodes =
      ap (λ (k : ℕ). repeat k (voter_step version n h parts nodes.roles) (record { roles = []; rest = nodes.rest }) >>= closing version n h parts depth nodes) (let all : length h.nodes - 0 ≡ length h.nodes = omega arith in all)

  nodes_new : (version parts : ℕ) (depth : List ℕ) (r : Rest) → carry_nodes version n h parts depth [] (no_nodes h r)
      ≡ (repeat (length n.nodes) (node_step n h parts) (no_nodes h r) >>= λ nodes. (repeat (length h.nodes) (voter_step version n h parts nodes.roles) (record { roles = []; rest = nodes.rest }) >>= closing version n h parts depth nodes))
  unfolding carry_nodes
  nodes_new version parts depth r =
      ap (λ (k : ℕ). repeat k (node_step n h parts) (no_nodes h r) >>= λ all. carry_roles version n h parts depth [] all) (let all : length n.nodes - 0 ≡ length n.nodes = omega arith in all)
      ∙ then_same (repeat (length n.nodes) (node_step n h parts) (no_nodes h r)) _ _ (λ nodes. roles_new version parts depth nodes)

  abbrev IsNew : NodeTable → Type 0
  IsNew nodes = (r : Rest) → nodes_read nodes r ≡ no_nodes h r

  parts_new : (version parts : ℕ) (nodes : NodeTable) (r : Rest) → IsNew nodes → carry_parts version n h parts [] nodes [] r
      ≡ (repeat parts part_step (record { depth = []; rest = r }) >>= λ depths. (repeat (length n.nodes) (node_step n h parts) (no_nodes h depths.rest) >>= λ nodes. (repeat (length h.nodes) (voter_step version n h parts nodes.roles) (record { roles = []; rest = nodes.rest }) >>= closing version n h parts depths.depth nodes)))
  unfolding carry_parts
  parts_new version parts nodes r new =
      ap (λ (k : ℕ). repeat k part_step (record { depth = []; rest = r }) >>= λ depths. carry_nodes version n h parts depths.depth [] (nodes_read nodes depths.rest)) (let all : parts - 0 ≡ parts = omega arith in all)
      ∙ then_same (repeat parts part_step (record { depth = []; rest = r })) _ _ (λ depths. ap (carry_nodes version n h parts depths.depth []) (new depths.rest) ∙ nodes_new version parts depths.depth depths.rest)

  all_new : (nodes : NodeTable) (bytes : List ℕ) → IsNew nodes → carry_all n h [] nodes [] (record { line = 1; bytes = bytes }) ≡ fold_of_text n h bytes
  unfolding carry_all carry_count fold_of_text
  all_new nodes bytes new =
      then_same (first_line (record { line = 1; bytes = bytes })) _ _ (λ start. then_same (parts_line start.1) _ _ (λ parts. parts_new start.0 parts.0 nodes parts.1 new))

  -- a reader that was given nothing
  pub new_read : (refused : Option CertFault) (line : LineInHand) (p : Progress) → IfSome refused (λ e. e ≡ Memory) → line.number ≡ 1 → line.part.items ≡ [] → p.stage ≡ Begun → p.depth.items ≡ []
      → p.nodes.part.items ≡ [] → p.nodes.copies.items ≡ [] → p.nodes.labels.items ≡ [] → (refused ≡ None → p.nodes.roles.items ≡ replicate (length h.nodes) None) → p.roles.items ≡ [] → HasRead n h refused line p []
  new_read (Some fault) line p is_memory number part stage depth nodes copies labels roles voters = λ more. subst (λ (f : CertFault). Fails f (cert_of_text n h more)) (sym is_memory) tt
  new_read None line p is_memory number part stage depth nodes copies labels roles voters = λ more.
      sym (same_reading n h more) ∙ (sym (all_new p.nodes more (λ r. rw (nodes, copies, labels, roles refl) refl)) ∙ sym (at_start more))
    where
      at_start : (more : List ℕ) → to_come n h line p more ≡ carry_all n h [] p.nodes [] (record { line = 1; bytes = more })
      at_start more = rw (number, part, stage, depth, voters) refl
