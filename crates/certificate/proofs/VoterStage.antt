-- The stage of the hardened nodes: a copy has its role, and each other one has a voter's line.
use Rattle.std.proofs.Common.{◌≡◌, ◌≢◌, ℕ, zero, suc, ◌+◌, ◌<◌, ◌≤◌, ◌⊎◌, inl, inr, Bool, true, false, cond, nat_lt, nat_eq, List, [], ◌∷◌, ◌++◌, length, get_or, Option, Some, None, Result, Ok, Err, refl, sym, ap, subst, ◌∙◌, arith}
use Rattle.std.specs.Prelude.{if◌then◌else◌, codes, is_some, is_none}
use Rattle.std.specs.List.{filter, filter_map}
use Rattle.std.specs.Option.{unwrap_or}
use Rattle.std.proofs.lemmas.List.{length-append}
use Rattle.std.proofs.Math.ListN.{get_or-append}
use Rattle.std.proofs.Math.Seq.{get_or-append_seam}
use Rattle.tmr_base.specs.declared.copies.CopyNo.TheVariants.{First}
use Rattle.tmr_base.specs.Copies.{Three}
use Rattle.flat_net.specs.Net.{Net}
use Rattle.certificate.specs.declared.fault.CertFault.{CertFault}
use Rattle.certificate.specs.declared.fault.CertFault.TheVariants.{Line}
use Rattle.certificate.specs.declared.role.Role.{Role}
use Rattle.certificate.specs.declared.role.Role.TheVariants.{Copy, Voter}
use Rattle.certificate.specs.Cert.{PlainCert}
use Rattle.certificate.specs.Lines.{◌>>=◌, Rest, next_line}
use Rattle.certificate.specs.Words.{word_of, number_in, net_in, node_in, node_or_none, voted_in, copy_named, value}
use Rattle.certificate.specs.Reading.{tests_of, parts_in, version_in, voter_gives, role_in, numbers, VoterDue, EndDue, voter_or_end, due}
use Rattle.certificate.specs.Folding.{repeat, Roles, voter_step, role_step, read_voter}
use Rattle.certificate.proofs.LineTests.{passes, first_failed, fault_at, guard, voter_same, voter_checks, voter_said}
use Rattle.certificate.proofs.GivenRoles.{gift, role_new, role_other}
use Rattle.certificate.proofs.Told.{Told, told_voter, begins}
use Rattle.certificate.proofs.Stages.{Cut, last, more, cut, answer, no_line, bad_line, good_line, later_due, repeat_err, repeat_ok, repeat_none, one_later}
use Rattle.certificate.proofs.NodeStage.{is_value}

abbrev no_matter : Role
no_matter = Copy (record { 0 = 0 }) First

-- ---- lists of numbers

-- the first that passes a test
pub first_passes : (p : ℕ → Bool) (g count j : ℕ) → ((i : ℕ) → i < j → p (g + i) ≡ false) → p (g + j) ≡ true → j < count → voter_or_end (filter p (numbers g count)) ≡ VoterDue (g + j)
first_passes p g zero j before here lt = absurd (omega arith)
first_passes p g (suc count) zero before here lt =
    let same : g + 0 ≡ g = omega arith in
    let yes : p g ≡ true = ap p (sym same) ∙ here in
    ap (λ (b : Bool). voter_or_end (cond b (g ∷ filter p (numbers (g + 1) count)) (filter p (numbers (g + 1) count)))) yes ∙ ap VoterDue (sym same)
first_passes p g (suc count) (suc j) before here lt =
    let same : g + 0 ≡ g = omega arith in
    let not : p g ≡ false = ap p (sym same) ∙ before 0 (omega arith) in
    let later : (i : ℕ) → i < j → p (g + 1 + i) ≡ false = λ i l. (let e : g + 1 + i ≡ g + suc i = omega arith in ap p e ∙ before (suc i) (omega arith)) in
    let e : g + 1 + j ≡ g + suc j = omega arith in
    ap (λ (b : Bool). voter_or_end (cond b (g ∷ filter p (numbers (g + 1) count)) (filter p (numbers (g + 1) count)))) not ∙ (first_passes p (g + 1) count j later (ap p e ∙ here) (omega arith) ∙ ap VoterDue e)

pub none_passes : (p : ℕ → Bool) (g count : ℕ) → ((i : ℕ) → i < count → p (g + i) ≡ false) → voter_or_end (filter p (numbers g count)) ≡ EndDue
none_passes p g zero before = refl
none_passes p g (suc count) before =
    let same : g + 0 ≡ g = omega arith in
    let not : p g ≡ false = ap p (sym same) ∙ before 0 (omega arith) in
    let later : (i : ℕ) → i < count → p (g + 1 + i) ≡ false = λ i l. (let e : g + 1 + i ≡ g + suc i = omega arith in ap p e ∙ before (suc i) (omega arith)) in
    ap (λ (b : Bool). voter_or_end (cond b (g ∷ filter p (numbers (g + 1) count)) (filter p (numbers (g + 1) count)))) not ∙ none_passes p (g + 1) count later

-- the values that are there, in order
pub all_there : (f : ℕ → Option Role) (g : ℕ) (roles : List Role) → ((i : ℕ) → i < length roles → f (g + i) ≡ Some (get_or roles i no_matter)) → filter_map f (numbers g (length roles)) ≡ roles
all_there f g [] there = refl
all_there f g (r ∷ roles) there =
    let same : g + 0 ≡ g = omega arith in
    let here : f g ≡ Some r = ap f (sym same) ∙ there 0 (omega arith) in
    let later : (i : ℕ) → i < length roles → f (g + 1 + i) ≡ Some (get_or roles i no_matter) = λ i l. (let e : g + 1 + i ≡ g + suc i = omega arith in ap f e ∙ there (suc i) (omega arith)) in
    let rest = all_there f (g + 1) roles later in
    rw here (ap (λ (v : List Role). r ∷ v) rest)

-- a net of which there are voters
voted_value : (version : ℕ) (n : Net) (line : List ℕ) → is_some (voted_in version n line 2) ≡ true → value (voted_in version n line 2) ≡ value (net_in n line 2)
voted_value version n line e = go (nat_eq version 1) e
  where
    within : (c : Bool) (x : ℕ) → is_some (if c then None else Some x) ≡ true → value (if c then None else Some x) ≡ x
    within true x e = absurd cc
    within false x e = refl

    node : (o : Option ℕ) → is_some (node_or_none (length n.inputs) o) ≡ true → value (node_or_none (length n.inputs) o) ≡ value o
    node None e = absurd cc
    node (Some x) e = within (nat_lt x (length n.inputs)) x e

    go : (b : Bool) → is_some (if b then node_in n line 2 else net_in n line 2) ≡ true → value (if b then node_in n line 2 else net_in n line 2) ≡ value (net_in n line 2)
    go true e = node (net_in n line 2) e
    go false e = refl

-- ---- the stage

-- the hardened nodes so far have their roles, and the table has those of the others
pub record Filled (start count : ℕ) (table : List (Option Role)) (roles : List Role) (gifts : List (ℕ × Role)) : Type 0 where
  pub done : (i : ℕ) → i < length roles → role_in gifts (start + i) ≡ Some (get_or roles i no_matter)
  pub left : (i : ℕ) → length roles ≤ i → i < count → get_or table i None ≡ role_in gifts (start + i)

last_or_before : (i : ℕ) (roles : List Role) (r : Role) → i < length (roles ++ r ∷ []) → (i < length roles) ⊎ (i ≡ length roles)
last_or_before i roles r lt = let e : length (roles ++ r ∷ []) ≡ length roles + 1 = length-append roles (r ∷ []) in grind arith

pushed : (start count : ℕ) (table : List (Option Role)) (roles : List Role) (gifts : List (ℕ × Role)) (r : Role) → Filled start count table roles gifts → role_in gifts (start + length roles) ≡ Some r → Filled start count table (roles ++ r ∷ []) gifts
pushed start count table roles gifts r filled here = record {
  done = λ i lt. go i (last_or_before i roles r lt);
  left = λ i le lt. filled.left i (omega (arith, length-append roles (r ∷ []))) lt;
}
  where
    go : (i : ℕ) → (i < length roles) ⊎ (i ≡ length roles) → role_in gifts (start + i) ≡ Some (get_or (roles ++ r ∷ []) i no_matter)
    go i (inl lt) = filled.done i lt ∙ ap Some (sym (get_or-append roles (r ∷ []) no_matter i lt))
    go i (inr e) = ap (λ (k : ℕ). role_in gifts (start + k)) e ∙ (here ∙ ap Some (sym (ap (λ (k : ℕ). get_or (roles ++ r ∷ []) k no_matter) e ∙ get_or-append_seam roles r [] no_matter)))

one_gift : (start count : ℕ) (table : List (Option Role)) (roles : List Role) (gifts : List (ℕ × Role)) (r : Role) → Filled start count table roles gifts → role_in gifts (start + length roles) ≡ None → Filled start count table (roles ++ r ∷ []) (gifts ++ gift (start + length roles) r ∷ [])
one_gift start count table roles gifts r filled free = record {
  done = λ i lt. go i (last_or_before i roles r lt);
  left = λ i le lt. (let apart : start + length roles ≢ start + i = λ e. omega (arith, length-append roles (r ∷ []), le, e) in filled.left i (omega (arith, length-append roles (r ∷ []), le)) lt ∙ sym (role_other gifts (start + length roles) (start + i) r apart));
}
  where
    go : (i : ℕ) → (i < length roles) ⊎ (i ≡ length roles) → role_in (gifts ++ gift (start + length roles) r ∷ []) (start + i) ≡ Some (get_or (roles ++ r ∷ []) i no_matter)
    go i (inl lt) =
        let apart : start + length roles ≢ start + i = λ e. omega (arith, lt, e) in
        role_other gifts (start + length roles) (start + i) r apart ∙ (filled.done i lt ∙ ap Some (sym (get_or-append roles (r ∷ []) no_matter i lt)))
    go i (inr e) = ap (λ (k : ℕ). role_in (gifts ++ gift (start + length roles) r ∷ []) (start + k)) e ∙ (role_new gifts (start + length roles) r free ∙ ap Some (sym (ap (λ (k : ℕ). get_or (roles ++ r ∷ []) k no_matter) e ∙ get_or-append_seam roles r [] no_matter)))

module _ (n h : Net) (parts version : ℕ) (depth part : List ℕ) (copies labels : List Three) (table : List (Option Role)) (deep : length depth ≡ parts) (wide : length part ≡ length n.nodes) (g : Roles → Result PlainCert CertFault)
    (next : (t : Roles) (after : List (List ℕ)) (gifts : List (ℕ × Role)) → Told n h after parts version depth part copies labels gifts → Filled (length h.inputs) (length h.nodes) table t.roles gifts → t.rest.line ≡ length after + 1 → length t.roles ≡ length h.nodes → g t ≡ answer n h after t.rest.bytes) where
  abbrev role_made : Roles → Rest → Role → Result Roles CertFault
  role_made s rest role = Ok (record { roles = s.roles ++ role ∷ []; rest = rest })

  step_is : (s : Roles) (o : Option Role) → get_or table (length s.roles) None ≡ o → voter_step version n h parts table s ≡ role_step version n h parts o s
  unfolding voter_step
  step_is s o e = ap (λ (v : Option Role). role_step version n h parts v s) e

  voter_read : (s : Roles) (line : List ℕ) (rest : Rest) → next_line s.rest ≡ Ok (line, rest) → role_step version n h parts None s ≡ (read_voter version n h (length h.inputs + length s.roles) parts line s.rest.line >>= role_made s rest)
  voter_read s line rest e = rw e refl

  voter_none : (s : Roles) → next_line s.rest ≡ Err (Line s.rest.line) → role_step version n h parts None s ≡ Err (Line s.rest.line)
  voter_none s e = rw e refl

  voter_fault : (before : List (List ℕ)) (line : List ℕ) (i x : ℕ) → parts_in before ≡ parts → version_in before ≡ version → fault_at n h before line i (VoterDue x) ≡ first_failed (voter_checks version n h line i x parts)
  unfolding tests_of
  voter_fault before line i x p q = ap (λ (k : ℕ). first_failed (voter_checks (version_in before) n h line i x k)) p ∙ ap (λ (v : ℕ). first_failed (voter_checks v n h line i x parts)) q

  voter_begins : (line : List ℕ) (i x : ℕ) → first_failed (voter_checks version n h line i x parts) ≡ None → word_of line 0 ≡ codes "voter"
  voter_begins line i x e = begins 5 (codes "voter") line (passes (voter_checks version n h line i x parts) 0 (omega arith) e)

  voter_named : (line : List ℕ) (i x : ℕ) → first_failed (voter_checks version n h line i x parts) ≡ None → voter_gives n h line ≡ gift x (voter_said version n line) ∷ []
  voter_named line i x e =
      let net = voted_value version n line (passes (voter_checks version n h line i x parts) 4 (omega arith) e) in
      ap (λ (k : ℕ). gift k (Voter (record { 0 = value (net_in n line 2) }) (record { 0 = value (number_in line 3) }) (unwrap_or (copy_named (word_of line 4)) First)) ∷ []) (is_value x (node_in h line 1) (passes (voter_checks version n h line i x parts) 5 (omega arith) e))
      ∙ ap (λ (k : ℕ). gift x (Voter (record { 0 = k }) (record { 0 = value (number_in line 3) }) (unwrap_or (copy_named (word_of line 4)) First)) ∷ []) (sym net)

  pub voters_stage : (count : ℕ) (s : Roles) (before : List (List ℕ)) (gifts : List (ℕ × Role)) → Told n h before parts version depth part copies labels gifts → Filled (length h.inputs) (length h.nodes) table s.roles gifts → s.rest.line ≡ length before + 1 → length s.roles + count ≡ length h.nodes → (repeat count (voter_step version n h parts table) s >>= g) ≡ answer n h before s.rest.bytes
  voters_stage zero s before gifts told filled at long = repeat_none (voter_step version n h parts table) s g ∙ next s before gifts told filled at (omega arith)
  voters_stage (suc count) s before gifts told filled at long = with_role (voters_stage count) (get_or table (length s.roles) None) refl
    where
      role_is : get_or table (length s.roles) None ≡ role_in gifts (length h.inputs + length s.roles)
      role_is = filled.left (length s.roles) (omega arith) (omega arith)

      with_role : ((t : Roles) (after : List (List ℕ)) (gifts : List (ℕ × Role)) → Told n h after parts version depth part copies labels gifts → Filled (length h.inputs) (length h.nodes) table t.roles gifts → t.rest.line ≡ length after + 1 → length t.roles + count ≡ length h.nodes → (repeat count (voter_step version n h parts table) t >>= g) ≡ answer n h after t.rest.bytes)
          → (o : Option Role) → get_or table (length s.roles) None ≡ o → (repeat (suc count) (voter_step version n h parts table) s >>= g) ≡ answer n h before s.rest.bytes
      with_role again (Some r) e =
          let t : Roles = record { roles = s.roles ++ r ∷ []; rest = s.rest } in
          repeat_ok (voter_step version n h parts table) count s t g (step_is s (Some r) e) ∙ again t before gifts told (pushed (length h.inputs) (length h.nodes) table s.roles gifts r filled (sym role_is ∙ e)) at (omega (arith, length-append s.roles (r ∷ [])))
      with_role again None e = go (cut s.rest)
        where
          free : role_in gifts (length h.inputs + length s.roles) ≡ None
          free = sym role_is ∙ e

          has_none : (o : Option Role) → o ≡ None → is_none o ≡ true
          has_none None f = refl
          has_none (Some r) f = absurd cc

          has_one : (o : Option Role) (r : Role) → o ≡ Some r → is_none o ≡ false
          has_one None r f = absurd cc
          has_one (Some q) r f = refl

          is_due : due n h before ≡ VoterDue (length h.inputs + length s.roles)
          is_due = later_due n h before parts version depth part copies labels gifts told deep wide
              ∙ first_passes (λ g. is_none (role_in gifts g)) (length h.inputs) (length h.nodes) (length s.roles) (λ i lt. has_one _ _ (filled.done i lt)) (has_none _ free) (omega arith)

          step : voter_step version n h parts table s ≡ role_step version n h parts None s
          step = step_is s None e

          go : Cut s.rest → (repeat (suc count) (voter_step version n h parts table) s >>= g) ≡ answer n h before s.rest.bytes
          go (last d f) = repeat_err (voter_step version n h parts table) count s g _ (step ∙ voter_none s d) ∙ (ap (λ (i : ℕ). Err (Line i)) at ∙ sym (no_line n h before s.rest.bytes told.going f))
          go (more line rest d later f lt) = tries (first_failed (voter_checks version n h line s.rest.line (length h.inputs + length s.roles) parts)) refl
            where
              fault_is : fault_at n h before line s.rest.line (VoterDue (length h.inputs + length s.roles)) ≡ first_failed (voter_checks version n h line s.rest.line (length h.inputs + length s.roles) parts)
              fault_is = voter_fault before line s.rest.line (length h.inputs + length s.roles) told.parts_are told.version_is

              reads : voter_step version n h parts table s ≡ (guard (first_failed (voter_checks version n h line s.rest.line (length h.inputs + length s.roles) parts)) (voter_said version n line) >>= role_made s rest)
              reads = step ∙ (voter_read s line rest d ∙ ap (λ (r : Result Role CertFault). r >>= role_made s rest) (voter_same version n h (length h.inputs + length s.roles) parts line s.rest.line))

              tries : (o : Option CertFault) → first_failed (voter_checks version n h line s.rest.line (length h.inputs + length s.roles) parts) ≡ o → (repeat (suc count) (voter_step version n h parts table) s >>= g) ≡ answer n h before s.rest.bytes
              tries (Some fault) o =
                  let fails : voter_step version n h parts table s ≡ Err fault = reads ∙ ap (λ (v : Option CertFault). guard v (voter_said version n line) >>= role_made s rest) o in
                  repeat_err (voter_step version n h parts table) count s g fault fails ∙ sym (bad_line n h before s.rest.bytes line rest.bytes s.rest.line (VoterDue (length h.inputs + length s.roles)) fault told.going f at is_due (fault_is ∙ o))
              tries None o =
                  let r : Role = voter_said version n line in
                  let t : Roles = record { roles = s.roles ++ r ∷ []; rest = rest } in
                  let made : voter_step version n h parts table s ≡ Ok t = reads ∙ ap (λ (v : Option CertFault). guard v (voter_said version n line) >>= role_made s rest) o in
                  let said = told_voter n h before parts version depth part copies labels gifts told line (voter_begins line s.rest.line (length h.inputs + length s.roles) o) in
                  let gifts_are : voter_gives n h line ≡ gift (length h.inputs + length s.roles) r ∷ [] = voter_named line s.rest.line (length h.inputs + length s.roles) o in
                  let here : Filled (length h.inputs) (length h.nodes) table t.roles (gifts ++ voter_gives n h line) = subst (λ (v : List (ℕ × Role)). Filled (length h.inputs) (length h.nodes) table (s.roles ++ r ∷ []) (gifts ++ v)) (sym gifts_are) (one_gift (length h.inputs) (length h.nodes) table s.roles gifts r filled free) in
                  repeat_ok (voter_step version n h parts table) count s t g made ∙ (again t (before ++ line ∷ []) (gifts ++ voter_gives n h line) said here (one_later before line s.rest.line rest.line at later) (omega (arith, length-append s.roles (r ∷ [])))
                  ∙ sym (good_line n h before s.rest.bytes line rest.bytes s.rest.line (VoterDue (length h.inputs + length s.roles)) told.going f at is_due (fault_is ∙ o)))
