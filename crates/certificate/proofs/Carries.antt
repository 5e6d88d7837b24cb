-- How reading goes on behind a line.
use Rattle.std.proofs.Common.{◌≡◌, ℕ, ◌+◌, ◌-◌, ◌<◌, ◌≤◌, Bool, true, false, List, [], ◌∷◌, ◌++◌, length, Option, Some, None, Result, Ok, Err, IfErr, refl, sym, ap, subst, ◌∙◌, arith}
use Rattle.std.specs.Prelude.{◌==◌, codes, slice_index_or}
use Rattle.std.specs.Result.{IsErrAnd}
use Rattle.std.specs.Str.{bytes_eq}
use Rattle.std.proofs.lemmas.Bool.Decides.{nat_tests}
use Rattle.std.proofs.lemmas.List.{length-append}
use Rattle.flat_net.specs.Net.{Net}
use Rattle.certificate.specs.declared.fault.CertFault.{CertFault}
use Rattle.certificate.specs.declared.fault.CertFault.TheVariants as fault
use Rattle.certificate.specs.declared.progress.Progress.{Progress}
use Rattle.certificate.specs.declared.progress.Stage.{Stage}
use Rattle.certificate.specs.declared.reading.NodeTable.{NodeTable}
use Rattle.certificate.specs.declared.role.Role.{Role}
use Rattle.certificate.specs.Cert.{PlainCert}
use Rattle.certificate.specs.Gives.{Fails}
use Rattle.certificate.specs.Lines.{◌>>=◌, want, hold, Rest, next_line}
use Rattle.certificate.specs.Tables.{depths_read, nodes_read, roles_read}
use Rattle.certificate.specs.Folding.{version_named, Depths, Nodes, Roles, repeat, first_line, parts_line, last_line, part_step, node_step, voter_step, read_parts, read_part, read_voter}
use Rattle.certificate.specs.Carrying.{part_taken, node_taken, voter_taken, made, carry_roles, carry_nodes, carry_parts, carry_count, carry_all, carry_end, carry_from, carry, Passes, Refuses}
use Rattle.certificate.proofs.Steps.{goes_on, ends, is_done}

-- ---- faults

pub fails_on : {A B : Type 0} (e : CertFault) (x : Result A CertFault) (f : A → Result B CertFault) → Fails e x → Fails e (x >>= f)
fails_on fault.Memory x f h = tt
fails_on {A} {B} (fault.Line n) x f h = ap (λ (y : Result A CertFault). y >>= f) h
fails_on {A} {B} (fault.UnknownNet n) x f h = ap (λ (y : Result A CertFault). y >>= f) h
fails_on {A} {B} (fault.Order n) x f h = ap (λ (y : Result A CertFault). y >>= f) h
fails_on {A} {B} (fault.Range n) x f h = ap (λ (y : Result A CertFault). y >>= f) h
fails_on {A} {B} (fault.Doubled n) x f h = ap (λ (y : Result A CertFault). y >>= f) h

pub fails_so : {A : Type 0} (e : CertFault) (x y : Result A CertFault) → x ≡ y → Fails e x → Fails e y
fails_so {A} e x y same h = subst (λ (z : Result A CertFault). Fails e z) same h

-- ---- a step at a whole line

part_at : (depth text : List ℕ) (r after : Rest) → next_line r ≡ Ok (text, after) → part_step (depths_read depth r) ≡ (part_taken depth text r.line >>= λ (d : List ℕ). Ok (depths_read d after))
unfolding part_step part_taken
part_at depth text r after e = rw e (go (read_part (length depth) text r.line))
  where
    go : (o : Result ℕ CertFault) → (o >>= λ d. Ok (depths_read (depth ++ d ∷ []) after)) ≡ ((o >>= λ d. Ok (depth ++ d ∷ [])) >>= λ (d : List ℕ). Ok (depths_read d after))
    go (Ok d) = refl
    go (Err f) = refl

node_at : (n h : Net) (parts : ℕ) (nodes : NodeTable) (text : List ℕ) (r after : Rest) → next_line r ≡ Ok (text, after) → node_step n h parts (nodes_read nodes r) ≡ node_taken n h parts (nodes_read nodes after) text r.line
unfolding node_step node_taken
node_at n h parts nodes text r after e = rw e refl

voter_at : (version : ℕ) (n h : Net) (parts : ℕ) (given : List (Option Role)) (roles : List Role) (text : List ℕ) (r after : Rest) → slice_index_or given (length roles) None ≡ None → next_line r ≡ Ok (text, after)
    → voter_step version n h parts given (roles_read roles r) ≡ (voter_taken version n h parts roles text r.line >>= λ (v : List Role). Ok (roles_read v after))
unfolding voter_step voter_taken
voter_at version n h parts given roles text r after due e = rw due (rw e (go (read_voter version n h (length h.inputs + length roles) parts text r.line)))
  where
    go : (o : Result Role CertFault) → (o >>= λ role. Ok (roles_read (roles ++ role ∷ []) after)) ≡ ((o >>= λ role. Ok (roles ++ role ∷ [])) >>= λ (v : List Role). Ok (roles_read v after))
    go (Ok d) = refl
    go (Err f) = refl

end_at : (k : PlainCert) (text : List ℕ) (r after : Rest) → next_line r ≡ Ok (text, after)
    → (last_line r >>= λ end. Ok k) ≡ (hold (bytes_eq text (codes "end")) (fault.Line r.line) >>= λ _. (hold (length after.bytes == 0) (fault.Line after.line) >>= λ _. Ok k))
unfolding last_line
end_at k text r after e = rw e (go (bytes_eq text (codes "end")) (length after.bytes == 0))
  where
    go : (a b : Bool) → ((hold a (fault.Line r.line) >>= λ _. (hold b (fault.Line after.line) >>= λ _. Ok after)) >>= λ end. Ok k) ≡ (hold a (fault.Line r.line) >>= λ _. (hold b (fault.Line after.line) >>= λ _. Ok k))
    go true true = refl
    go true false = refl
    go false b = refl

-- a role that is given needs no line
given_at : (version : ℕ) (n h : Net) (parts : ℕ) (given : List (Option Role)) (roles : List Role) (role : Role) (r : Rest) → slice_index_or given (length roles) None ≡ Some role
    → voter_step version n h parts given (roles_read roles r) ≡ Ok (roles_read (roles ++ role ∷ []) r)
unfolding voter_step
given_at version n h parts given roles role r e = rw e refl

pub given_passed : (version : ℕ) (n h : Net) (parts : ℕ) (given : List (Option Role)) (roles new : List Role) (role : Role) (r : Rest) → length roles < length given → slice_index_or given (length roles) None ≡ Some role → new ≡ roles ++ role ∷ []
    → repeat (length given - length roles) (voter_step version n h parts given) (roles_read roles r) ≡ repeat (length given - length new) (voter_step version n h parts given) (roles_read new r)
given_passed version n h parts given roles new role r lt e is =
    let long : length new ≡ length roles + 1 = ap length is ∙ length-append roles (role ∷ []) in
    let step : voter_step version n h parts given (roles_read roles r) ≡ Ok (roles_read new r) = given_at version n h parts given roles role r e ∙ ap (λ (x : List Role). Ok (roles_read x r)) (sym is) in
    sym (ap (λ (k : ℕ). repeat (length given - k) (voter_step version n h parts given) (roles_read new r)) long
    ∙ goes_on (voter_step version n h parts given) (length given) (length roles) (roles_read roles r) (roles_read new r) _ lt step refl)

-- ---- stages that are done

parts_over : (version : ℕ) (n h : Net) (parts : ℕ) (depth : List ℕ) (nodes : NodeTable) (roles : List Role) (r : Rest) → parts ≤ length depth
    → carry_parts version n h parts depth nodes roles r ≡ carry_nodes version n h parts depth roles (nodes_read nodes r)
unfolding carry_parts
parts_over version n h parts depth nodes roles r le =
    ap (λ (y : Result Depths CertFault). y >>= λ depths. carry_nodes version n h parts depths.depth roles (nodes_read nodes depths.rest))
    (is_done part_step parts (length depth) (depths_read depth r) _ le refl)

nodes_over : (version : ℕ) (n h : Net) (parts : ℕ) (depth : List ℕ) (roles : List Role) (s : Nodes) → length n.nodes ≤ length s.part
    → carry_nodes version n h parts depth roles s ≡ carry_roles version n h parts depth roles s
unfolding carry_nodes
nodes_over version n h parts depth roles s le =
    ap (λ (y : Result Nodes CertFault). y >>= λ all. carry_roles version n h parts depth roles all)
    (is_done (node_step n h parts) (length n.nodes) (length s.part) s _ le refl)

roles_over : (version : ℕ) (n h : Net) (parts : ℕ) (depth : List ℕ) (roles : List Role) (s : Nodes) → length h.nodes ≤ length roles
    → carry_roles version n h parts depth roles s ≡ (last_line s.rest >>= λ end. Ok (made version n h depth s roles))
unfolding carry_roles
roles_over version n h parts depth roles s le =
    ap (λ (y : Result Roles CertFault). y >>= λ voters. (last_line voters.rest >>= λ end. Ok (made version n h depth s voters.roles)))
    (is_done (voter_step version n h parts s.roles) (length h.nodes) (length roles) (roles_read roles s.rest) _ le refl)

-- ---- a line of a partition

module _ (version : ℕ) (n h : Net) (parts : ℕ) (depth : List ℕ) (nodes : NodeTable) (roles : List Role) (text : List ℕ) (line : ℕ) where
  pub part_passes : (new : List ℕ) → length depth < parts → length new ≡ length depth + 1 → part_taken depth text line ≡ Ok new
      → Passes (carry_parts version n h parts depth nodes roles) (carry_parts version n h parts new nodes roles) text line
  unfolding carry_parts
  part_passes new lt long e = λ r after found at.
      let step : part_step (depths_read depth r) ≡ Ok (depths_read new after) = part_at depth text r after found ∙ ap (λ (y : Result (List ℕ) CertFault). y >>= λ (d : List ℕ). Ok (depths_read d after)) (ap (part_taken depth text) at ∙ e) in
      let all : repeat (parts - length new) part_step (depths_read new after) ≡ repeat (parts - length depth) part_step (depths_read depth r) =
      ap (λ (k : ℕ). repeat (parts - k) part_step (depths_read new after)) long ∙ goes_on part_step parts (length depth) (depths_read depth r) (depths_read new after) _ lt step refl in
      ap (λ (y : Result Depths CertFault). y >>= λ depths. carry_nodes version n h parts depths.depth roles (nodes_read nodes depths.rest)) (sym all)

  pub part_refuses : (f : CertFault) → length depth < parts → Fails f (part_taken depth text line) → Refuses (carry_parts version n h parts depth nodes roles) f text line
  unfolding carry_parts
  part_refuses f lt fails = λ r after found at.
      let step : Fails f (part_step (depths_read depth r)) = fails_so f _ _ (sym (part_at depth text r after found)) (fails_on f (part_taken depth text r.line) (λ (d : List ℕ). Ok (depths_read d after)) (fails_so f _ _ (ap (part_taken depth text) (sym at)) fails)) in
      fails_on f (repeat (parts - length depth) part_step (depths_read depth r)) _ (ends f part_step parts (length depth) (depths_read depth r) _ lt step refl)

  -- ---- a line of a node

  pub node_passes : (new : NodeTable) → parts ≤ length depth → length nodes.part.items < length n.nodes → length new.part.items ≡ length nodes.part.items + 1
      → ((after : Rest) → node_taken n h parts (nodes_read nodes after) text line ≡ Ok (nodes_read new after))
      → Passes (carry_parts version n h parts depth nodes roles) (carry_parts version n h parts depth new roles) text line
  unfolding carry_nodes
  node_passes new deep lt long e = λ r after found at.
      let step : node_step n h parts (nodes_read nodes r) ≡ Ok (nodes_read new after) = node_at n h parts nodes text r after found ∙ (ap (node_taken n h parts (nodes_read nodes after) text) at ∙ e after) in
      let all : repeat (length n.nodes - length new.part.items) (node_step n h parts) (nodes_read new after) ≡ repeat (length n.nodes - length nodes.part.items) (node_step n h parts) (nodes_read nodes r) =
      ap (λ (k : ℕ). repeat (length n.nodes - k) (node_step n h parts) (nodes_read new after)) long ∙ goes_on (node_step n h parts) (length n.nodes) (length nodes.part.items) (nodes_read nodes r) (nodes_read new after) _ lt step refl in
      parts_over version n h parts depth nodes roles r deep ∙ (ap (λ (y : Result Nodes CertFault). y >>= λ all. carry_roles version n h parts depth roles all) (sym all) ∙ sym (parts_over version n h parts depth new roles after deep))

  pub node_refuses : (f : CertFault) → parts ≤ length depth → length nodes.part.items < length n.nodes → ((after : Rest) → Fails f (node_taken n h parts (nodes_read nodes after) text line))
      → Refuses (carry_parts version n h parts depth nodes roles) f text line
  unfolding carry_nodes
  node_refuses f deep lt fails = λ r after found at.
      let step : Fails f (node_step n h parts (nodes_read nodes r)) = fails_so f _ _ (sym (node_at n h parts nodes text r after found)) (fails_so f _ _ (ap (node_taken n h parts (nodes_read nodes after) text) (sym at)) (fails after)) in
      fails_so f _ _ (sym (parts_over version n h parts depth nodes roles r deep)) (fails_on f (repeat (length n.nodes - length nodes.part.items) (node_step n h parts) (nodes_read nodes r)) _ (ends f (node_step n h parts) (length n.nodes) (length nodes.part.items) (nodes_read nodes r) _ lt step refl))

  -- ---- a line behind those of the nodes

  -- the roles that are given are passed over
  abbrev pub Passed : List Role → Type 0
  Passed mid = (r : Rest) → repeat (length nodes.roles.items - length roles) (voter_step version n h parts nodes.roles.items) (roles_read roles r) ≡ repeat (length nodes.roles.items - length mid) (voter_step version n h parts nodes.roles.items) (roles_read mid r)

  pub passed_there : (given : List (Option Role)) (mid : List Role) → given ≡ nodes.roles.items
      → ((r : Rest) → repeat (length given - length roles) (voter_step version n h parts given) (roles_read roles r) ≡ repeat (length given - length mid) (voter_step version n h parts given) (roles_read mid r)) → Passed mid
  passed_there given mid is passed =
      subst (λ (xs : List (Option Role)). (r : Rest) → repeat (length xs - length roles) (voter_step version n h parts xs) (roles_read roles r) ≡ repeat (length xs - length mid) (voter_step version n h parts xs) (roles_read mid r)) is passed

  pub passed_over : (mid : List Role) (r : Rest) → parts ≤ length depth → length n.nodes ≤ length nodes.part.items → length nodes.roles.items ≡ length h.nodes → Passed mid
      → carry_parts version n h parts depth nodes roles r ≡ carry_roles version n h parts depth mid (nodes_read nodes r)
  unfolding carry_roles
  passed_over mid r deep wide places passed =
      let all : repeat (length h.nodes - length roles) (voter_step version n h parts nodes.roles.items) (roles_read roles r) ≡ repeat (length h.nodes - length mid) (voter_step version n h parts nodes.roles.items) (roles_read mid r) =
      subst (λ (k : ℕ). repeat (k - length roles) (voter_step version n h parts nodes.roles.items) (roles_read roles r) ≡ repeat (k - length mid) (voter_step version n h parts nodes.roles.items) (roles_read mid r)) places (passed r) in
      parts_over version n h parts depth nodes roles r deep ∙ (nodes_over version n h parts depth roles (nodes_read nodes r) wide
      ∙ ap (λ (y : Result Roles CertFault). y >>= λ voters. (last_line voters.rest >>= λ end. Ok (made version n h depth (nodes_read nodes r) voters.roles))) all)

  filled_over : (mid : List Role) (r : Rest) → parts ≤ length depth → length n.nodes ≤ length nodes.part.items
      → carry_parts version n h parts depth nodes mid r ≡ carry_roles version n h parts depth mid (nodes_read nodes r)
  filled_over mid r deep wide = parts_over version n h parts depth nodes mid r deep ∙ nodes_over version n h parts depth mid (nodes_read nodes r) wide

  pub voter_passes : (mid new : List Role) → parts ≤ length depth → length n.nodes ≤ length nodes.part.items → length nodes.roles.items ≡ length h.nodes → Passed mid
      → length mid < length h.nodes → slice_index_or nodes.roles.items (length mid) None ≡ None → length new ≡ length mid + 1 → voter_taken version n h parts mid text line ≡ Ok new
      → Passes (carry_parts version n h parts depth nodes roles) (carry_parts version n h parts depth nodes new) text line
  unfolding carry_roles
  voter_passes mid new deep wide places passed lt due long e = λ r after found at.
      let step : voter_step version n h parts nodes.roles.items (roles_read mid r) ≡ Ok (roles_read new after) =
      voter_at version n h parts nodes.roles.items mid text r after due found ∙ ap (λ (y : Result (List Role) CertFault). y >>= λ (v : List Role). Ok (roles_read v after)) (ap (voter_taken version n h parts mid text) at ∙ e) in
      let all : repeat (length h.nodes - length new) (voter_step version n h parts nodes.roles.items) (roles_read new after) ≡ repeat (length h.nodes - length mid) (voter_step version n h parts nodes.roles.items) (roles_read mid r) =
      ap (λ (k : ℕ). repeat (length h.nodes - k) (voter_step version n h parts nodes.roles.items) (roles_read new after)) long ∙ goes_on (voter_step version n h parts nodes.roles.items) (length h.nodes) (length mid) (roles_read mid r) (roles_read new after) _ lt step refl in
      passed_over mid r deep wide places passed ∙ (ap (λ (y : Result Roles CertFault). y >>= λ voters. (last_line voters.rest >>= λ end. Ok (made version n h depth (nodes_read nodes r) voters.roles))) (sym all)
      ∙ sym (filled_over new after deep wide))

  pub voter_refuses : (mid : List Role) (f : CertFault) → parts ≤ length depth → length n.nodes ≤ length nodes.part.items → length nodes.roles.items ≡ length h.nodes → Passed mid
      → length mid < length h.nodes → slice_index_or nodes.roles.items (length mid) None ≡ None → Fails f (voter_taken version n h parts mid text line)
      → Refuses (carry_parts version n h parts depth nodes roles) f text line
  unfolding carry_roles
  voter_refuses mid f deep wide places passed lt due fails = λ r after found at.
      let step : Fails f (voter_step version n h parts nodes.roles.items (roles_read mid r)) =
      fails_so f _ _ (sym (voter_at version n h parts nodes.roles.items mid text r after due found)) (fails_on f (voter_taken version n h parts mid text r.line) (λ (v : List Role). Ok (roles_read v after)) (fails_so f _ _ (ap (voter_taken version n h parts mid text) (sym at)) fails)) in
      fails_so f _ _ (sym (passed_over mid r deep wide places passed)) (fails_on f (repeat (length h.nodes - length mid) (voter_step version n h parts nodes.roles.items) (roles_read mid r)) _ (ends f (voter_step version n h parts nodes.roles.items) (length h.nodes) (length mid) (roles_read mid r) _ lt step refl))

  last_at : (mid : List Role) (r after : Rest) → parts ≤ length depth → length n.nodes ≤ length nodes.part.items → length nodes.roles.items ≡ length h.nodes → Passed mid
      → length h.nodes ≤ length mid → next_line r ≡ Ok (text, after)
      → carry_parts version n h parts depth nodes roles r ≡ (hold (bytes_eq text (codes "end")) (fault.Line r.line) >>= λ _. carry_end version n h depth nodes mid after)
  unfolding carry_end
  last_at mid r after deep wide places passed full found =
      passed_over mid r deep wide places passed ∙ (roles_over version n h parts depth mid (nodes_read nodes r) full ∙ end_at (made version n h depth (nodes_read nodes r) mid) text r after found)

  pub end_passes : (mid : List Role) → parts ≤ length depth → length n.nodes ≤ length nodes.part.items → length nodes.roles.items ≡ length h.nodes → Passed mid
      → length h.nodes ≤ length mid → hold (bytes_eq text (codes "end")) (fault.Line line) ≡ Ok tt
      → Passes (carry_parts version n h parts depth nodes roles) (carry_end version n h depth nodes mid) text line
  end_passes mid deep wide places passed full e = λ r after found at.
      last_at mid r after deep wide places passed full found ∙ ap (λ (y : Result (Unit {0}) CertFault). y >>= λ _. carry_end version n h depth nodes mid after) (ap (λ (i : ℕ). hold (bytes_eq text (codes "end")) (fault.Line i)) at ∙ e)

  pub end_refuses : (mid : List Role) (f : CertFault) → parts ≤ length depth → length n.nodes ≤ length nodes.part.items → length nodes.roles.items ≡ length h.nodes → Passed mid
      → length h.nodes ≤ length mid → Fails f (hold (bytes_eq text (codes "end")) (fault.Line line))
      → Refuses (carry_parts version n h parts depth nodes roles) f text line
  end_refuses mid f deep wide places passed full fails = λ r after found at.
      fails_so f _ _ (sym (last_at mid r after deep wide places passed full found))
      (fails_on f (hold (bytes_eq text (codes "end")) (fault.Line r.line)) _ (fails_so f _ _ (ap (λ (i : ℕ). hold (bytes_eq text (codes "end")) (fault.Line i)) (sym at)) fails))

-- ---- the first two lines

module _ (n h : Net) (depth : List ℕ) (nodes : NodeTable) (roles : List Role) (text : List ℕ) (line : ℕ) where
  first_at : (r after : Rest) → next_line r ≡ Ok (text, after) → carry_all n h depth nodes roles r ≡ (want (version_named text) (fault.Line r.line) >>= λ version. carry_count version n h depth nodes roles after)
  unfolding carry_all first_line
  first_at r after e = rw e (go (want (version_named text) (fault.Line r.line)))
    where
      go : (o : Result ℕ CertFault) → ((o >>= λ version. Ok (version, after)) >>= λ (start : ℕ × Rest). carry_count start.0 n h depth nodes roles start.1) ≡ (o >>= λ version. carry_count version n h depth nodes roles after)
      go (Ok v) = refl
      go (Err f) = refl

  pub first_passes : (version : ℕ) → want (version_named text) (fault.Line line) ≡ Ok version → Passes (carry_all n h depth nodes roles) (carry_count version n h depth nodes roles) text line
  first_passes version e = λ r after found at.
      first_at r after found ∙ ap (λ (y : Result ℕ CertFault). y >>= λ version. carry_count version n h depth nodes roles after) (ap (λ (i : ℕ). want (version_named text) (fault.Line i)) at ∙ e)

  pub first_refuses : (f : CertFault) → Fails f (want (version_named text) (fault.Line line)) → Refuses (carry_all n h depth nodes roles) f text line
  first_refuses f fails = λ r after found at.
      fails_so f _ _ (sym (first_at r after found)) (fails_on f (want (version_named text) (fault.Line r.line)) _ (fails_so f _ _ (ap (λ (i : ℕ). want (version_named text) (fault.Line i)) (sym at)) fails))

  count_at : (version : ℕ) (r after : Rest) → next_line r ≡ Ok (text, after) → carry_count version n h depth nodes roles r ≡ (read_parts text r.line >>= λ parts. carry_parts version n h parts depth nodes roles after)
  unfolding carry_count parts_line
  count_at version r after e = rw e (go (read_parts text r.line))
    where
      go : (o : Result ℕ CertFault) → ((o >>= λ parts. Ok (parts, after)) >>= λ (start : ℕ × Rest). carry_parts version n h start.0 depth nodes roles start.1) ≡ (o >>= λ parts. carry_parts version n h parts depth nodes roles after)
      go (Ok v) = refl
      go (Err f) = refl

  pub count_passes : (version parts : ℕ) → read_parts text line ≡ Ok parts → Passes (carry_count version n h depth nodes roles) (carry_parts version n h parts depth nodes roles) text line
  count_passes version parts e = λ r after found at.
      count_at version r after found ∙ ap (λ (y : Result ℕ CertFault). y >>= λ parts. carry_parts version n h parts depth nodes roles after) (ap (read_parts text) at ∙ e)

  pub count_refuses : (version : ℕ) (f : CertFault) → Fails f (read_parts text line) → Refuses (carry_count version n h depth nodes roles) f text line
  count_refuses version f fails = λ r after found at.
      fails_so f _ _ (sym (count_at version r after found)) (fails_on f (read_parts text r.line) _ (fails_so f _ _ (ap (read_parts text) (sym at)) fails))

  -- ---- behind `end`

  some_bytes : (r after : Rest) → next_line r ≡ Ok (text, after) → (length r.bytes == 0) ≡ false
  unfolding next_line
  some_bytes r after e = go r.bytes refl
    where
      go : (bytes : List ℕ) → r.bytes ≡ bytes → (length r.bytes == 0) ≡ false
      go [] f = absurd (let k : next_line r ≡ Err (fault.Line r.line) = rw f refl in let no : Ok (text, after) ≡ Err (fault.Line r.line) = sym e ∙ k in cc)
      go (b ∷ bytes) f = rw f (let some : (length (b ∷ bytes) == 0) ≡ false = grind (arith, nat_tests) in some)

  pub more_refused : (version : ℕ) → Refuses (carry_end version n h depth nodes roles) (fault.Line line) text line
  unfolding carry_end
  more_refused version = λ r after found at.
      ap (λ (b : Bool). hold b (fault.Line r.line) >>= λ _. Ok (made version n h depth (nodes_read nodes r) roles)) (some_bytes r after found) ∙ ap (λ (i : ℕ). Err (fault.Line i)) at

-- ---- what is kept of the lines, as a whole

module _ (n h : Net) (old : Progress) (text : List ℕ) (line : ℕ) where
  at_stage : (stage : Stage) (r : Rest) → old.stage ≡ stage → carry n h old r ≡ carry_from n h stage old.depth.items old.nodes old.roles.items r
  at_stage stage r e = ap (λ (s : Stage). carry_from n h s old.depth.items old.nodes old.roles.items r) e

  pub passes_so : (before new after : Stage) (depth : List ℕ) (nodes : NodeTable) (roles : List Role) → old.stage ≡ before → new ≡ after
      → Passes (carry_from n h before old.depth.items old.nodes old.roles.items) (carry_from n h after depth nodes roles) text line
      → Passes (carry n h old) (carry_from n h new depth nodes roles) text line
  passes_so before new after depth nodes roles e f passes = λ r rest found at.
      at_stage before r e ∙ (passes r rest found at ∙ sym (ap (λ (s : Stage). carry_from n h s depth nodes roles rest) f))

  pub refuses_so : (stage : Stage) (f : CertFault) → old.stage ≡ stage → Refuses (carry_from n h stage old.depth.items old.nodes old.roles.items) f text line → Refuses (carry n h old) f text line
  refuses_so stage f e refuses = λ r rest found at. fails_so f _ _ (sym (at_stage stage r e)) (refuses r rest found at)

-- ---- a fault that is passed on is the fault that was met

pub passed_on : {X : Type 0} (r : Result X CertFault) (P : CertFault → Type 0) (f : CertFault) → IsErrAnd r (λ e. e ≡ f) → P f → IfErr r P
passed_on (Ok x) P f is p = tt
passed_on (Err e) P f is p = subst P (sym is) p
