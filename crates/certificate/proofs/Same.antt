-- The code's way of reading gives what specs/Reading says, for all designs and all bytes.
use Rattle.std.proofs.Common.{◌≡◌, ℕ, ◌+◌, ◌⊎◌, inl, inr, false, List, [], ◌∷◌, ◌++◌, length, Option, Some, None, Result, Ok, Err, refl, sym, ap, ◌∙◌, arith}
use Rattle.std.specs.Prelude.{codes, is_some, is_none, map}
use Rattle.std.specs.Str.{bytes_eq}
use Rattle.flat_net.specs.Net.{Net}
use Rattle.certificate.specs.declared.fault.CertFault.{CertFault}
use Rattle.certificate.specs.declared.fault.CertFault.TheVariants.{Line}
use Rattle.certificate.specs.declared.role.Role.{Role}
use Rattle.certificate.specs.Cert.{PlainCert}
use Rattle.certificate.specs.Lines.{◌>>=◌, want, Rest, next_line}
use Rattle.certificate.specs.Words.{word_of, number_in, value, version_named}
use Rattle.certificate.specs.Reading.{tests_of, lines_with, gives, given, VersionDue, PartsDue, due, ended, cert_of_text}
use Rattle.certificate.specs.Folding.{repeat, Depths, Nodes, Roles, first_line, parts_line, read_parts, last_line, part_step, node_step, voter_step, fold_of_text}
use Rattle.certificate.proofs.Cases.{version_is}
use Rattle.certificate.proofs.Validity.{no_nodes, cert_made}
use Rattle.certificate.proofs.LineTests.{passes, first_failed, fault_at, guard, parts_same}
use Rattle.certificate.proofs.GivenRoles.{Held, nothing_held}
use Rattle.certificate.proofs.Told.{Told, begins, without_line, given_more, still_going, not_end}
use Rattle.certificate.proofs.Stages.{Cut, last, more, cut, answer, no_line, bad_line, good_line, later_due, parts_stage}
use Rattle.certificate.proofs.NodeStage.{nodes_stage}
use Rattle.certificate.proofs.VoterStage.{Filled, none_passes, voters_stage}
use Rattle.certificate.proofs.EndStage.{spelled_is, end_stage}

module _ (n h : Net) where
  -- ---- the code's reading, from each stage on

  abbrev after_roles : ℕ → Depths → Nodes → Roles → Result PlainCert CertFault
  after_roles version depths nodes roles = last_line roles.rest >>= λ end. Ok (cert_made version n h depths.depth nodes roles)

  abbrev after_nodes : ℕ → ℕ → Depths → Nodes → Result PlainCert CertFault
  after_nodes version parts depths nodes = repeat (length h.nodes) (voter_step version n h parts nodes.roles) (record { roles = []; rest = nodes.rest }) >>= after_roles version depths nodes

  abbrev after_parts : ℕ → ℕ → Depths → Result PlainCert CertFault
  after_parts version parts depths = repeat (length n.nodes) (node_step n h parts) (no_nodes h depths.rest) >>= after_nodes version parts depths

  abbrev after_count : ℕ → ℕ × Rest → Result PlainCert CertFault
  after_count version parts = repeat parts.0 part_step (record { depth = []; rest = parts.1 }) >>= after_parts version parts.0

  abbrev after_version : ℕ × Rest → Result PlainCert CertFault
  after_version start = parts_line start.1 >>= after_count start.0

  staged : (bytes : List ℕ) → fold_of_text n h bytes ≡ (first_line (record { line = 1; bytes = bytes }) >>= after_version)
  unfolding fold_of_text
  staged bytes = refl

  -- ---- each gives what is left of the text

  roles_left : (version parts : ℕ) (depths : Depths) (nodes : Nodes) → length depths.depth ≡ parts → length nodes.part ≡ length n.nodes → (t : Roles) (after : List (List ℕ)) (gifts : List (ℕ × Role)) → Told n h after parts version depths.depth nodes.part nodes.copies nodes.labels gifts → Filled (length h.inputs) (length h.nodes) nodes.roles t.roles gifts → t.rest.line ≡ length after + 1 → length t.roles ≡ length h.nodes → after_roles version depths nodes t ≡ answer n h after t.rest.bytes
  roles_left version parts depths nodes deep wide t after gifts told filled at long =
      end_stage n h after parts version depths.depth nodes.part nodes.copies nodes.labels gifts told t.rest (cert_made version n h depths.depth nodes t)
      (spelled_is n h after parts version depths.depth nodes.part nodes.copies nodes.labels gifts told nodes.roles t.roles filled long)
      (later_due n h after parts version depths.depth nodes.part nodes.copies nodes.labels gifts told deep wide ∙ none_passes _ (length h.inputs) (length h.nodes) (λ i lt. has_one _ _ (filled.done i (omega (arith, long, lt)))))
      at
    where
      has_one : (o : Option Role) (r : Role) → o ≡ Some r → is_none o ≡ false
      has_one None r f = absurd cc
      has_one (Some q) r f = refl

  nodes_left : (version parts : ℕ) (depths : Depths) → length depths.depth ≡ parts → (t : Nodes) (after : List (List ℕ)) (gifts : List (ℕ × Role)) → Told n h after parts version depths.depth t.part t.copies t.labels gifts → Held (length h.inputs) (length h.nodes) t.roles gifts → t.rest.line ≡ length after + 1 → length t.part ≡ length n.nodes → after_nodes version parts depths t ≡ answer n h after t.rest.bytes
  nodes_left version parts depths deep t after gifts told held at wide =
      voters_stage n h parts version depths.depth t.part t.copies t.labels t.roles deep wide (after_roles version depths t) (roles_left version parts depths t deep wide) (length h.nodes) (record { roles = []; rest = t.rest }) after gifts told
      (record { done = λ i lt. absurd (omega arith); left = λ i le lt. held.same i lt }) at (omega arith)

  parts_left : (version parts : ℕ) (t : Depths) (after : List (List ℕ)) → Told n h after parts version t.depth [] [] [] [] → t.rest.line ≡ length after + 1 → length t.depth ≡ parts → after_parts version parts t ≡ answer n h after t.rest.bytes
  parts_left version parts t after told at deep =
      nodes_stage n h parts version t.depth deep (after_nodes version parts t) (nodes_left version parts t deep) (length n.nodes) (no_nodes h t.rest) after [] told (nothing_held (length h.inputs) (length h.nodes)) at (omega arith)

  count_left : (version parts : ℕ) (rest : Rest) (after : List (List ℕ)) → Told n h after parts version [] [] [] [] [] → rest.line ≡ length after + 1 → after_count version (parts, rest) ≡ answer n h after rest.bytes
  count_left version parts rest after told at = parts_stage n h parts version (after_parts version parts) (parts_left version parts) parts (record { depth = []; rest = rest }) after told at (omega arith)

  -- ---- the first two lines

  begins_cert : (line : List ℕ) (version : ℕ) → version_named line ≡ Some version → word_of line 0 ≡ codes "tmr-cert"
  begins_cert line version e = go (version_is line version e)
    where
      go : ((version ≡ 1) × (line ≡ codes "tmr-cert 1")) ⊎ ((version ≡ 2) × (line ≡ codes "tmr-cert 2")) → word_of line 0 ≡ codes "tmr-cert"
      go (inl p) = ap (λ (l : List ℕ). word_of l 0) p.1
      go (inr p) = ap (λ (l : List ℕ). word_of l 0) p.1

  two_told : (one two : List ℕ) (version : ℕ) → version_named one ≡ Some version → word_of two 0 ≡ codes "parts" → Told n h (one ∷ two ∷ []) (value (number_in two 1)) version [] [] [] [] []
  two_told one two version v second =
      let first = begins_cert one version v in
      let parts : lines_with (codes "part") (one ∷ two ∷ []) ≡ [] = without_line (codes "part") (one ∷ []) two (ap (λ (w : List ℕ). bytes_eq w (codes "part")) second) ∙ without_line (codes "part") [] one (ap (λ (w : List ℕ). bytes_eq w (codes "part")) first) in
      let nodes : lines_with (codes "node") (one ∷ two ∷ []) ≡ [] = without_line (codes "node") (one ∷ []) two (ap (λ (w : List ℕ). bytes_eq w (codes "node")) second) ∙ without_line (codes "node") [] one (ap (λ (w : List ℕ). bytes_eq w (codes "node")) first) in
      record {
        two = omega arith;
        parts_are = refl;
        version_is = ap value v;
        going = still_going (one ∷ []) two (still_going [] one refl (not_end one (codes "tmr-cert") first (λ e. absurd cc))) (not_end two (codes "parts") second (λ e. absurd cc));
        depth_are = ap (map _) parts;
        part_are = ap (map _) nodes;
        copies_are = ap (map _) nodes;
        labels_are = ap (map _) nodes;
        gifts_are = given_more n h (one ∷ []) two ∙ gifts_none one two first second;
      }
    where
      no_gift : (line first : List ℕ) → word_of line 0 ≡ first → bytes_eq first (codes "node") ≡ false → bytes_eq first (codes "voter") ≡ false → gives n h line ≡ []
      no_gift line first e node voter =
          let one : bytes_eq (word_of line 0) (codes "node") ≡ false = ap (λ (w : List ℕ). bytes_eq w (codes "node")) e ∙ node in
          let two : bytes_eq (word_of line 0) (codes "voter") ≡ false = ap (λ (w : List ℕ). bytes_eq w (codes "voter")) e ∙ voter in
          rw (one, two) refl

      gifts_none : (one two : List ℕ) → word_of one 0 ≡ codes "tmr-cert" → word_of two 0 ≡ codes "parts" → given n h (one ∷ []) ++ gives n h two ≡ []
      gifts_none one two first second =
          ap (λ (v : List (ℕ × Role)). (v ++ []) ++ gives n h two) (no_gift one (codes "tmr-cert") first refl refl) ∙ no_gift two (codes "parts") second refl refl

  first_due : due n h [] ≡ VersionDue
  unfolding due
  first_due = refl

  second_due : (line : List ℕ) → due n h (line ∷ []) ≡ PartsDue
  unfolding due
  second_due line = refl

  version_fault : (line : List ℕ) (o : Option ℕ) → version_named line ≡ o → fault_at n h [] line 1 VersionDue ≡ first_failed ((is_some o, Line 1) ∷ [])
  unfolding tests_of
  version_fault line o e = ap (λ (v : Option ℕ). first_failed ((is_some v, Line 1) ∷ [])) e

  parts_begin : (before : List (List ℕ)) (line : List ℕ) (i : ℕ) → fault_at n h before line i PartsDue ≡ None → word_of line 0 ≡ codes "parts"
  unfolding tests_of
  parts_begin before line i e = begins 2 (codes "parts") line (passes (tests_of n h before line i PartsDue) 0 (omega arith) e)

  first_none : (r : Rest) → next_line r ≡ Err (Line r.line) → first_line r ≡ Err (Line r.line)
  unfolding first_line
  first_none r e = rw e refl

  first_read : (r rest : Rest) (line : List ℕ) (o : Option ℕ) → next_line r ≡ Ok (line, rest) → version_named line ≡ o → first_line r ≡ (want o (Line r.line) >>= λ version. Ok (version, rest))
  unfolding first_line
  first_read r rest line o e f = rw (e, f) refl

  parts_none : (r : Rest) → next_line r ≡ Err (Line r.line) → parts_line r ≡ Err (Line r.line)
  unfolding parts_line
  parts_none r e = rw e refl

  abbrev count_made : Rest → ℕ → Result (ℕ × Rest) CertFault
  count_made rest count = Ok (count, rest)

  parts_read : (r rest : Rest) (line : List ℕ) → next_line r ≡ Ok (line, rest) → parts_line r ≡ (read_parts line r.line >>= count_made rest)
  unfolding parts_line
  parts_read r rest line e = rw e refl

  second_left : (version : ℕ) (one : List ℕ) (r : Rest) → version_named one ≡ Some version → r.line ≡ 2 → (parts_line r >>= after_count version) ≡ answer n h (one ∷ []) r.bytes
  second_left version one r v at = go (cut r)
    where
      going : ended (one ∷ []) ≡ false
      going = still_going [] one refl (not_end one (codes "tmr-cert") (begins_cert one version v) (λ e. absurd cc))

      go : Cut r → (parts_line r >>= after_count version) ≡ answer n h (one ∷ []) r.bytes
      go (last e f) = ap (λ (v : Result (ℕ × Rest) CertFault). v >>= after_count version) (parts_none r e) ∙ (ap (λ (i : ℕ). Err (Line i)) at ∙ sym (no_line n h (one ∷ []) r.bytes going f))
      go (more line rest e later f lt) = tries (fault_at n h (one ∷ []) line r.line PartsDue) refl
        where
          reads : parts_line r ≡ (guard (fault_at n h (one ∷ []) line r.line PartsDue) (value (number_in line 1)) >>= count_made rest)
          reads = parts_read r rest line e ∙ ap (λ (v : Result ℕ CertFault). v >>= count_made rest) (parts_same n h (one ∷ []) line r.line)

          tries : (o : Option CertFault) → fault_at n h (one ∷ []) line r.line PartsDue ≡ o → (parts_line r >>= after_count version) ≡ answer n h (one ∷ []) r.bytes
          tries (Some fault) o =
              let fails : parts_line r ≡ Err fault = reads ∙ ap (λ (v : Option CertFault). guard v (value (number_in line 1)) >>= count_made rest) o in
              ap (λ (v : Result (ℕ × Rest) CertFault). v >>= after_count version) fails ∙ sym (bad_line n h (one ∷ []) r.bytes line rest.bytes r.line PartsDue fault going f at (second_due one) o)
          tries None o =
              let made : parts_line r ≡ count_made rest (value (number_in line 1)) = reads ∙ ap (λ (v : Option CertFault). guard v (value (number_in line 1)) >>= count_made rest) o in
              ap (λ (v : Result (ℕ × Rest) CertFault). v >>= after_count version) made ∙ (count_left version (value (number_in line 1)) rest (one ∷ line ∷ []) (two_told one line version v (parts_begin (one ∷ []) line r.line o)) (omega (arith, later, at))
              ∙ sym (good_line n h (one ∷ []) r.bytes line rest.bytes r.line PartsDue going f at (second_due one) o))

  first_left : (r : Rest) → r.line ≡ 1 → (first_line r >>= after_version) ≡ answer n h [] r.bytes
  first_left r at = go (cut r)
    where
      go : Cut r → (first_line r >>= after_version) ≡ answer n h [] r.bytes
      go (last e f) = ap (λ (v : Result (ℕ × Rest) CertFault). v >>= after_version) (first_none r e) ∙ (ap (λ (i : ℕ). Err (Line i)) at ∙ sym (no_line n h [] r.bytes refl f))
      go (more line rest e later f lt) = tries (version_named line) refl
        where
          tries : (o : Option ℕ) → version_named line ≡ o → (first_line r >>= after_version) ≡ answer n h [] r.bytes
          tries None o =
              ap (λ (v : Result (ℕ × Rest) CertFault). v >>= after_version) (first_read r rest line None e o) ∙ (ap (λ (i : ℕ). Err (Line i)) at
              ∙ sym (bad_line n h [] r.bytes line rest.bytes 1 VersionDue (Line 1) refl f refl first_due (version_fault line None o)))
          tries (Some version) o =
              ap (λ (v : Result (ℕ × Rest) CertFault). v >>= after_version) (first_read r rest line (Some version) e o) ∙ (second_left version line rest o (omega (arith, later, at))
              ∙ sym (good_line n h [] r.bytes line rest.bytes 1 VersionDue refl f refl first_due (version_fault line (Some version) o)))

  pub same_reading : (bytes : List ℕ) → fold_of_text n h bytes ≡ cert_of_text n h bytes
  unfolding cert_of_text
  same_reading bytes = staged bytes ∙ first_left (record { line = 1; bytes = bytes }) refl
