-- The stage of the original nodes.
use Rattle.std.proofs.Common.{◌≡◌, ℕ, zero, suc, ◌+◌, ◌<◌, ◌≤◌, Bool, true, false, List, [], ◌∷◌, ◌++◌, length, Option, Some, None, Result, Ok, Err, refl, sym, ap, subst, ◌∙◌, arith}
use Rattle.std.specs.Prelude.{if◌then◌else◌, codes}
use Rattle.std.proofs.lemmas.Bool.{eqb-true}
use Rattle.std.proofs.lemmas.List.{length-append}
use Rattle.flat_net.specs.Net.{Net}
use Rattle.certificate.specs.declared.fault.CertFault.{CertFault}
use Rattle.certificate.specs.declared.fault.CertFault.TheVariants.{Line, Doubled}
use Rattle.certificate.specs.declared.role.Role.{Role}
use Rattle.certificate.specs.Cert.{PlainCert}
use Rattle.certificate.specs.Lines.{◌>>=◌, Rest, next_line}
use Rattle.certificate.specs.Words.{word_of, number_in, node_in, is, value}
use Rattle.certificate.specs.Reading.{tests_of, parts_in, node_gives, given, all_new, NodeDue, due}
use Rattle.certificate.specs.Folding.{repeat, NodeLine, Nodes, node_step, read_node, give_copies}
use Rattle.certificate.proofs.Cases.{read_node_read}
use Rattle.certificate.proofs.LineTests.{passes, first_failed, fault_at, or_else, guard, node_same, node_checks, node_said, copies_in, labels_in}
use Rattle.certificate.proofs.GivenRoles.{Held, Gave, gave, twice, three_gifts, copies_gave}
use Rattle.certificate.proofs.Told.{Told, told_node, begins}
use Rattle.certificate.proofs.Stages.{Cut, last, more, cut, answer, no_line, bad_line, good_line, node_due, repeat_err, repeat_ok, repeat_none, one_later}

pub failed_append : (a b : List (Bool × CertFault)) → first_failed (a ++ b) ≡ or_else (first_failed a) (first_failed b)
failed_append [] b = refl
failed_append ((c, e) ∷ a) b = go c (failed_append a b)
  where
    go : (c : Bool) → first_failed (a ++ b) ≡ or_else (first_failed a) (first_failed b) → (if c then first_failed (a ++ b) else Some e) ≡ or_else (if c then first_failed a else Some e) (first_failed b)
    go true f = f
    go false f = refl

pub is_value : (x : ℕ) (o : Option ℕ) → is x o ≡ true → value o ≡ x
is_value x None e = absurd cc
is_value x (Some y) e = eqb-true y x e

abbrev last_check : Bool → ℕ → Option CertFault
last_check b i = first_failed ((b, Doubled i) ∷ [])

module _ (n h : Net) (parts version : ℕ) (depth : List ℕ) (deep : length depth ≡ parts) (g : Nodes → Result PlainCert CertFault)
    (next : (t : Nodes) (after : List (List ℕ)) (gifts : List (ℕ × Role)) → Told n h after parts version depth t.part t.copies t.labels gifts → Held (length h.inputs) (length h.nodes) t.roles gifts → t.rest.line ≡ length after + 1 → length t.part ≡ length n.nodes → g t ≡ answer n h after t.rest.bytes) where
  abbrev node_made : Nodes → Rest → NodeLine → List (Option Role) → Nodes
  node_made s rest node roles = record { part = s.part ++ node.part ∷ []; copies = s.copies ++ node.copies ∷ []; labels = s.labels ++ node.labels ∷ []; roles = roles; rest = rest }

  abbrev node_rest : Nodes → Rest → NodeLine → Result Nodes CertFault
  node_rest s rest node = give_copies (length h.inputs) (length n.inputs + length s.part) node.copies s.rest.line s.roles >>= λ roles. Ok (node_made s rest node roles)

  node_read : (s : Nodes) (line : List ℕ) (rest : Rest) → next_line s.rest ≡ Ok (line, rest) → node_step n h parts s ≡ (read_node n h (length n.inputs + length s.part) parts line s.rest.line >>= node_rest s rest)
  unfolding node_step
  node_read s line rest e = rw e refl

  node_none : (s : Nodes) → next_line s.rest ≡ Err (Line s.rest.line) → node_step n h parts s ≡ Err (Line s.rest.line)
  unfolding node_step
  node_none s e = rw e refl

  -- the tests of the line, where these are the partitions and the roles given before
  node_fault : (before : List (List ℕ)) (line : List ℕ) (i x : ℕ) (gifts : List (ℕ × Role)) → parts_in before ≡ parts → given n h before ≡ gifts → fault_at n h before line i (NodeDue x) ≡ or_else (first_failed (node_checks n h line i x parts)) (last_check (all_new gifts (node_gives n h line)) i)
  unfolding tests_of
  node_fault before line i x gifts p q =
      ap (λ (k : ℕ). first_failed (node_checks n h line i x k ++ (all_new (given n h before) (node_gives n h line), Doubled i) ∷ [])) p
      ∙ (ap (λ (v : List (ℕ × Role)). first_failed (node_checks n h line i x parts ++ (all_new v (node_gives n h line), Doubled i) ∷ [])) q
      ∙ failed_append (node_checks n h line i x parts) ((all_new gifts (node_gives n h line), Doubled i) ∷ []))

  node_begins : (line : List ℕ) (i x : ℕ) → first_failed (node_checks n h line i x parts) ≡ None → word_of line 0 ≡ codes "node"
  node_begins line i x e = begins 9 (codes "node") line (passes (node_checks n h line i x parts) 0 (omega arith) e)

  node_named : (line : List ℕ) (i x : ℕ) → first_failed (node_checks n h line i x parts) ≡ None → value (node_in n line 1) ≡ x
  node_named line i x e = is_value x (node_in n line 1) (passes (node_checks n h line i x parts) 4 (omega arith) e)

  pub nodes_stage : (count : ℕ) (s : Nodes) (before : List (List ℕ)) (gifts : List (ℕ × Role)) → Told n h before parts version depth s.part s.copies s.labels gifts → Held (length h.inputs) (length h.nodes) s.roles gifts → s.rest.line ≡ length before + 1 → length s.part + count ≡ length n.nodes → (repeat count (node_step n h parts) s >>= g) ≡ answer n h before s.rest.bytes
  nodes_stage zero s before gifts told held at long = repeat_none (node_step n h parts) s g ∙ next s before gifts told held at (omega arith)
  nodes_stage (suc count) s before gifts told held at long = go (nodes_stage count) (cut s.rest)
    where
      is_due : due n h before ≡ NodeDue (length n.inputs + length s.part)
      is_due = node_due n h before parts version depth s.part s.copies s.labels gifts told deep (omega arith)

      go : ((t : Nodes) (after : List (List ℕ)) (gifts : List (ℕ × Role)) → Told n h after parts version depth t.part t.copies t.labels gifts → Held (length h.inputs) (length h.nodes) t.roles gifts → t.rest.line ≡ length after + 1 → length t.part + count ≡ length n.nodes → (repeat count (node_step n h parts) t >>= g) ≡ answer n h after t.rest.bytes) → Cut s.rest → (repeat (suc count) (node_step n h parts) s >>= g) ≡ answer n h before s.rest.bytes
      go again (last e f) = repeat_err (node_step n h parts) count s g _ (node_none s e) ∙ (ap (λ (i : ℕ). Err (Line i)) at ∙ sym (no_line n h before s.rest.bytes told.going f))
      go again (more line rest e later f lt) = tries (first_failed (node_checks n h line s.rest.line (length n.inputs + length s.part) parts)) refl
        where
          fault_is : fault_at n h before line s.rest.line (NodeDue (length n.inputs + length s.part)) ≡ or_else (first_failed (node_checks n h line s.rest.line (length n.inputs + length s.part) parts)) (last_check (all_new gifts (node_gives n h line)) s.rest.line)
          fault_is = node_fault before line s.rest.line (length n.inputs + length s.part) gifts told.parts_are told.gifts_are

          bad : (fault : CertFault) → node_step n h parts s ≡ Err fault → fault_at n h before line s.rest.line (NodeDue (length n.inputs + length s.part)) ≡ Some fault → (repeat (suc count) (node_step n h parts) s >>= g) ≡ answer n h before s.rest.bytes
          bad fault step o = repeat_err (node_step n h parts) count s g fault step ∙ sym (bad_line n h before s.rest.bytes line rest.bytes s.rest.line (NodeDue (length n.inputs + length s.part)) fault told.going f at is_due o)

          reads : node_step n h parts s ≡ (guard (first_failed (node_checks n h line s.rest.line (length n.inputs + length s.part) parts)) (node_said (value (number_in line 2)) (copies_in h line) (labels_in line)) >>= node_rest s rest)
          reads = node_read s line rest e ∙ ap (λ (r : Result NodeLine CertFault). r >>= node_rest s rest) (node_same n h (length n.inputs + length s.part) parts line s.rest.line)

          tries : (o : Option CertFault) → first_failed (node_checks n h line s.rest.line (length n.inputs + length s.part) parts) ≡ o → (repeat (suc count) (node_step n h parts) s >>= g) ≡ answer n h before s.rest.bytes
          tries (Some fault) o = bad fault (reads ∙ ap (λ (v : Option CertFault). guard v (node_said (value (number_in line 2)) (copies_in h line) (labels_in line)) >>= node_rest s rest) o) (fault_is ∙ ap (λ (v : Option CertFault). or_else v (last_check (all_new gifts (node_gives n h line)) s.rest.line)) o)
          tries None o = given_to (copies_gave (length h.inputs) (length h.nodes) s.rest.line gifts (length n.inputs + length s.part) (copies_in h line) s.roles held nodes)
            where
              read : read_node n h (length n.inputs + length s.part) parts line s.rest.line ≡ Ok (node_said (value (number_in line 2)) (copies_in h line) (labels_in line))
              read = node_same n h (length n.inputs + length s.part) parts line s.rest.line ∙ ap (λ (v : Option CertFault). guard v (node_said (value (number_in line 2)) (copies_in h line) (labels_in line))) o

              nodes : ((length h.inputs ≤ value (node_in h line 3)) × (value (node_in h line 3) < length h.inputs + length h.nodes)) × ((length h.inputs ≤ value (node_in h line 4)) × (value (node_in h line 4) < length h.inputs + length h.nodes)) × ((length h.inputs ≤ value (node_in h line 5)) × (value (node_in h line 5) < length h.inputs + length h.nodes))
              nodes = (read_node_read n h (length n.inputs + length s.part) parts line s.rest.line _ read).copies

              step : node_step n h parts s ≡ node_rest s rest (node_said (value (number_in line 2)) (copies_in h line) (labels_in line))
              step = reads ∙ ap (λ (v : Option CertFault). guard v (node_said (value (number_in line 2)) (copies_in h line) (labels_in line)) >>= node_rest s rest) o

              gifts_are : node_gives n h line ≡ three_gifts (length h.inputs) (length h.nodes) s.rest.line (length n.inputs + length s.part) (copies_in h line)
              gifts_are = ap (λ (y : ℕ). three_gifts (length h.inputs) (length h.nodes) s.rest.line y (copies_in h line)) (node_named line s.rest.line (length n.inputs + length s.part) o)

              fault_then : fault_at n h before line s.rest.line (NodeDue (length n.inputs + length s.part)) ≡ last_check (all_new gifts (three_gifts (length h.inputs) (length h.nodes) s.rest.line (length n.inputs + length s.part) (copies_in h line))) s.rest.line
              fault_then = fault_is ∙ (ap (λ (v : Option CertFault). or_else v (last_check (all_new gifts (node_gives n h line)) s.rest.line)) o ∙ ap (λ (v : List (ℕ × Role)). last_check (all_new gifts v) s.rest.line) gifts_are)

              given_to : Gave (length h.inputs) (length h.nodes) gifts (three_gifts (length h.inputs) (length h.nodes) s.rest.line (length n.inputs + length s.part) (copies_in h line)) s.rest.line (give_copies (length h.inputs) (length n.inputs + length s.part) (copies_in h line) s.rest.line s.roles) → (repeat (suc count) (node_step n h parts) s >>= g) ≡ answer n h before s.rest.bytes
              given_to (twice d old) = bad (Doubled s.rest.line) (step ∙ ap (λ (r : Result (List (Option Role)) CertFault). r >>= λ roles. Ok (node_made s rest (node_said (value (number_in line 2)) (copies_in h line) (labels_in line)) roles)) d) (fault_then ∙ ap (λ (b : Bool). last_check b s.rest.line) old)
              given_to (gave roles d new held_more) =
                  let t : Nodes = node_made s rest (node_said (value (number_in line 2)) (copies_in h line) (labels_in line)) roles in
                  let made : node_step n h parts s ≡ Ok t = step ∙ ap (λ (r : Result (List (Option Role)) CertFault). r >>= λ roles. Ok (node_made s rest (node_said (value (number_in line 2)) (copies_in h line) (labels_in line)) roles)) d in
                  let said = told_node n h before parts version depth s.part s.copies s.labels gifts told line (node_begins line s.rest.line (length n.inputs + length s.part) o) in
                  let here = subst (λ (v : List (ℕ × Role)). Held (length h.inputs) (length h.nodes) roles (gifts ++ v)) (sym gifts_are) held_more in
                  repeat_ok (node_step n h parts) count s t g made ∙ (again t (before ++ line ∷ []) (gifts ++ node_gives n h line) said here (one_later before line s.rest.line rest.line at later) (omega (arith, length-append s.part (value (number_in line 2) ∷ [])))
                  ∙ sym (good_line n h before s.rest.bytes line rest.bytes s.rest.line (NodeDue (length n.inputs + length s.part)) told.going f at is_due (fault_then ∙ ap (λ (b : Bool). last_check b s.rest.line) new)))
