-- The stages of the code's reading, each of which gives what is left of the text.
use Rattle.std.proofs.Common.{◌≡◌, ◌≢◌, ℕ, zero, suc, ◌+◌, ◌<◌, Bool, true, false, nat_lt, List, [], ◌∷◌, ◌++◌, length, Option, Some, None, Result, Ok, Err, refl, sym, ap, ◌∙◌, append_assoc, arith}
use Rattle.std.specs.Prelude.{if◌then◌else◌, codes, ◌==◌, not, is_none}
use Rattle.std.specs.List.{filter, position_or_len, before_first, after_first}
use Rattle.std.proofs.lemmas.Bool.{ltb-true, ltb-false, lt-ltb, le-ltb}
use Rattle.std.proofs.lemmas.Bool.Decides.{nat_tests}
use Rattle.std.proofs.lemmas.List.{length-append, length-map}
use Rattle.std.proofs.lemmas.List.Splits.{slice_split_none, slice_split_first}
use Rattle.std.proofs.lemmas.List.Sums.{fails_before_first}
use Rattle.tmr_base.specs.Copies.{Three}
use Rattle.flat_net.specs.Net.{Net}
use Rattle.certificate.specs.declared.fault.CertFault.{CertFault}
use Rattle.certificate.specs.declared.fault.CertFault.TheVariants.{Line}
use Rattle.certificate.specs.declared.role.Role.{Role}
use Rattle.certificate.specs.Cert.{PlainCert}
use Rattle.certificate.specs.Lines.{◌>>=◌, Rest, next_line, is_line_feed}
use Rattle.certificate.specs.Words.{word_of, number_in, is, value, lines_of}
use Rattle.certificate.specs.Reading.{unless_failed, all_tests, tests_of, lines_with, parts_in, given, role_in, hardened_nodes, Due, PartDue, NodeDue, voter_or_end, due, ended, spelled}
use Rattle.certificate.specs.Folding.{repeat, Depths, part_step, read_part}
use Rattle.certificate.proofs.LineTests.{passes, first_failed, fault_at, guard, part_same}
use Rattle.certificate.proofs.Told.{Told, told_part, begins}

-- ---- the next line

pub data Cut (r : Rest) : Type 0 where
  last : next_line r ≡ Err (Line r.line) → lines_of r.bytes ≡ r.bytes ∷ [] → Cut r
  more : (line : List ℕ) (rest : Rest) → next_line r ≡ Ok (line, rest) → rest.line ≡ r.line + 1 → lines_of r.bytes ≡ line ∷ lines_of rest.bytes → 0 < length r.bytes → Cut r

pub cut : (r : Rest) → Cut r
unfolding next_line
cut r = go (nat_lt (position_or_len is_line_feed r.bytes) (length r.bytes)) refl
  where
    go : (b : Bool) → nat_lt (position_or_len is_line_feed r.bytes) (length r.bytes) ≡ b → Cut r
    go true e = let lt = ltb-true _ _ e in more (before_first is_line_feed r.bytes) (record { line = r.line + 1; bytes = after_first is_line_feed r.bytes }) (rw e refl) refl (slice_split_first is_line_feed r.bytes 0 lt) (omega arith)
    go false e = let le = ltb-false _ _ e in last (rw e refl) (slice_split_none is_line_feed r.bytes (λ i d lt. fails_before_first is_line_feed r.bytes i d (omega arith)))

-- ---- what is left of a text

module _ (n h : Net) where
  abbrev pub answer_at : List (List ℕ) → List (List ℕ) → Result PlainCert CertFault
  answer_at before lines = unless_failed (all_tests n h before lines) (spelled n h (before ++ lines))

  abbrev unless : Option CertFault → Result PlainCert CertFault → Result PlainCert CertFault
  unless None r = r
  unless (Some e) r = Err e

  more_tests : (a b : List (Bool × CertFault)) (k : PlainCert) → unless_failed (a ++ b) k ≡ unless (first_failed a) (unless_failed b k)
  more_tests [] b k = refl
  more_tests ((holds, fault) ∷ a) b k = go holds (more_tests a b k)
    where
      go : (c : Bool) → unless_failed (a ++ b) k ≡ unless (first_failed a) (unless_failed b k) → (if c then unless_failed (a ++ b) k else Err fault) ≡ unless (if c then first_failed a else Some fault) (unless_failed b k)
      go true e = e
      go false e = refl

  abbrev pub answer : List (List ℕ) → List ℕ → Result PlainCert CertFault
  answer before bytes = answer_at before (lines_of bytes)

  pub no_line : (before : List (List ℕ)) (bytes : List ℕ) → ended before ≡ false → lines_of bytes ≡ bytes ∷ [] → answer before bytes ≡ Err (Line (length before + 1))
  no_line before bytes going e = ap (answer_at before) e ∙ go (ended before) going
    where
      go : (b : Bool) → b ≡ false → unless_failed ((b, Line (length before + 1)) ∷ (length bytes == 0, Line (length before + 1)) ∷ []) (spelled n h (before ++ bytes ∷ [])) ≡ Err (Line (length before + 1))
      go true f = absurd cc
      go false f = refl

  pub some_line : (bytes : List ℕ) → (first : List ℕ) × (rest : List (List ℕ)) × (lines_of bytes ≡ first ∷ rest)
  some_line bytes = go (cut (record { line = 0; bytes = bytes }))
    where
      go : Cut (record { line = 0; bytes = bytes }) → (first : List ℕ) × (rest : List (List ℕ)) × (lines_of bytes ≡ first ∷ rest)
      go (last e f) = (bytes, [], f)
      go (more line rest e at f lt) = (line, lines_of rest.bytes, f)

  abbrev tried : List (List ℕ) → List ℕ → List (List ℕ) → Option CertFault → Result PlainCert CertFault
  tried before line lines fault = unless fault (unless_failed (all_tests n h (before ++ line ∷ []) lines) (spelled n h (before ++ line ∷ lines)))

  two_lines : (before : List (List ℕ)) (line next : List ℕ) (lines : List (List ℕ)) → ended before ≡ false → answer_at before (line ∷ next ∷ lines) ≡ tried before line (next ∷ lines) (fault_at n h before line (length before + 1) (due n h before))
  two_lines before line next lines going = go (ended before) going
    where
      go : (b : Bool) → b ≡ false → unless_failed ((not b, Line (length before + 1)) ∷ (tests_of n h before line (length before + 1) (due n h before) ++ all_tests n h (before ++ line ∷ []) (next ∷ lines))) (spelled n h (before ++ line ∷ next ∷ lines)) ≡ tried before line (next ∷ lines) (fault_at n h before line (length before + 1) (due n h before))
      go true f = absurd cc
      go false f = more_tests (tests_of n h before line (length before + 1) (due n h before)) (all_tests n h (before ++ line ∷ []) (next ∷ lines)) (spelled n h (before ++ line ∷ next ∷ lines))

  a_line : (before : List (List ℕ)) (bytes line : List ℕ) (rest : List ℕ) → ended before ≡ false → lines_of bytes ≡ line ∷ lines_of rest → answer before bytes ≡ tried before line (lines_of rest) (fault_at n h before line (length before + 1) (due n h before))
  a_line before bytes line rest going e =
      let s = some_line rest in
      let fault = fault_at n h before line (length before + 1) (due n h before) in
      ap (answer_at before) e ∙ (ap (λ (v : List (List ℕ)). answer_at before (line ∷ v)) s.2 ∙ (two_lines before line s.0 s.1 going ∙ ap (λ (v : List (List ℕ)). tried before line v fault) (sym s.2)))

  pub bad_line : (before : List (List ℕ)) (bytes line rest : List ℕ) (i : ℕ) (d : Due) (fault : CertFault) → ended before ≡ false → lines_of bytes ≡ line ∷ lines_of rest → i ≡ length before + 1 → due n h before ≡ d → fault_at n h before line i d ≡ Some fault → answer before bytes ≡ Err fault
  bad_line before bytes line rest i d fault going e at is f =
      let here : fault_at n h before line (length before + 1) (due n h before) ≡ Some fault = ap (fault_at n h before line (length before + 1)) is ∙ (ap (λ (j : ℕ). fault_at n h before line j d) (sym at) ∙ f) in
      a_line before bytes line rest going e ∙ ap (tried before line (lines_of rest)) here

  pub good_line : (before : List (List ℕ)) (bytes line rest : List ℕ) (i : ℕ) (d : Due) → ended before ≡ false → lines_of bytes ≡ line ∷ lines_of rest → i ≡ length before + 1 → due n h before ≡ d → fault_at n h before line i d ≡ None → answer before bytes ≡ answer (before ++ line ∷ []) rest
  good_line before bytes line rest i d going e at is f =
      let here : fault_at n h before line (length before + 1) (due n h before) ≡ None = ap (fault_at n h before line (length before + 1)) is ∙ (ap (λ (j : ℕ). fault_at n h before line j d) (sym at) ∙ f) in
      a_line before bytes line rest going e ∙ (ap (tried before line (lines_of rest)) here ∙ ap (λ (v : List (List ℕ)). unless_failed (all_tests n h (before ++ line ∷ []) (lines_of rest)) (spelled n h v)) (sym (append_assoc before (line ∷ []) (lines_of rest))))

-- ---- which line is due

same_false : (a b : ℕ) → a ≢ b → (a == b) ≡ false
same_false a b apart = grind (arith, nat_tests)

module _ (n h : Net) (before : List (List ℕ)) (parts version : ℕ) (depth part : List ℕ) (copies labels : List Three) (gifts : List (ℕ × Role)) (told : Told n h before parts version depth part copies labels gifts) where
  abbrev choice : Bool → Bool → Due
  choice b c = if b then PartDue (length (lines_with (codes "part") before)) else if c then NodeDue (length n.inputs + length (lines_with (codes "node") before)) else voter_or_end (filter (λ g. is_none (role_in (given n h before) g)) (hardened_nodes h))

  third_on : due n h before ≡ choice (nat_lt (length (lines_with (codes "part") before)) (parts_in before)) (nat_lt (length (lines_with (codes "node") before)) (length n.nodes))
  unfolding due
  third_on =
      let two = told.two in
      let not_zero : (length before == 0) ≡ false = same_false (length before) 0 (λ e. omega arith) in
      let not_one : (length before == 1) ≡ false = same_false (length before) 1 (λ e. omega arith) in
      rw (not_zero, not_one) refl

  depth_long : length (lines_with (codes "part") before) ≡ length depth
  depth_long = sym (length-map (lines_with (codes "part") before) (λ line. value (number_in line 3))) ∙ ap length told.depth_are

  part_long : length (lines_with (codes "node") before) ≡ length part
  part_long = sym (length-map (lines_with (codes "node") before) (λ line. value (number_in line 2))) ∙ ap length told.part_are

  pub part_due : length depth < parts → due n h before ≡ PartDue (length depth)
  part_due lt =
      let test : nat_lt (length (lines_with (codes "part") before)) (parts_in before) ≡ true = lt-ltb _ _ (omega (arith, depth_long, told.parts_are)) in
      third_on ∙ (ap (λ (b : Bool). choice b (nat_lt (length (lines_with (codes "node") before)) (length n.nodes))) test ∙ ap PartDue depth_long)

  no_part : length depth ≡ parts → nat_lt (length (lines_with (codes "part") before)) (parts_in before) ≡ false
  no_part e = le-ltb _ _ (omega (arith, depth_long, told.parts_are))

  pub node_due : length depth ≡ parts → length part < length n.nodes → due n h before ≡ NodeDue (length n.inputs + length part)
  node_due e lt =
      let test : nat_lt (length (lines_with (codes "node") before)) (length n.nodes) ≡ true = lt-ltb _ _ (omega (arith, part_long)) in
      third_on ∙ (ap (λ (b : Bool). choice b (nat_lt (length (lines_with (codes "node") before)) (length n.nodes))) (no_part e) ∙ (ap (choice false) test ∙ ap (λ (k : ℕ). NodeDue (length n.inputs + k)) part_long))

  pub later_due : length depth ≡ parts → length part ≡ length n.nodes → due n h before ≡ voter_or_end (filter (λ g. is_none (role_in gifts g)) (hardened_nodes h))
  later_due e f =
      let test : nat_lt (length (lines_with (codes "node") before)) (length n.nodes) ≡ false = le-ltb _ _ (omega (arith, part_long)) in
      third_on ∙ (ap (λ (b : Bool). choice b (nat_lt (length (lines_with (codes "node") before)) (length n.nodes))) (no_part e) ∙ (ap (choice false) test ∙ ap (λ (v : List (ℕ × Role)). voter_or_end (filter (λ g. is_none (role_in v g)) (hardened_nodes h))) told.gifts_are))

-- ---- steps

pub repeat_err : {S T : Type 0} (step : S → Result S CertFault) (count : ℕ) (s : S) (g : S → Result T CertFault) (e : CertFault) → step s ≡ Err e → (repeat (suc count) step s >>= g) ≡ Err e
unfolding repeat
repeat_err step count s g e f = rw f refl

pub repeat_ok : {S T : Type 0} (step : S → Result S CertFault) (count : ℕ) (s t : S) (g : S → Result T CertFault) → step s ≡ Ok t → (repeat (suc count) step s >>= g) ≡ (repeat count step t >>= g)
unfolding repeat
repeat_ok step count s t g f = rw f refl

pub repeat_none : {S T : Type 0} (step : S → Result S CertFault) (s : S) (g : S → Result T CertFault) → (repeat zero step s >>= g) ≡ g s
unfolding repeat
repeat_none step s g = refl

pub one_later : (before : List (List ℕ)) (line : List ℕ) (i j : ℕ) → i ≡ length before + 1 → j ≡ i + 1 → j ≡ length (before ++ line ∷ []) + 1
one_later before line i j e f = omega (arith, length-append before (line ∷ []))

-- ---- partitions

module _ (n h : Net) (parts version : ℕ) (g : Depths → Result PlainCert CertFault)
    (next : (t : Depths) (after : List (List ℕ)) → Told n h after parts version t.depth [] [] [] [] → t.rest.line ≡ length after + 1 → length t.depth ≡ parts → g t ≡ answer n h after t.rest.bytes) where
  part_read : (s : Depths) (line : List ℕ) (rest : Rest) → next_line s.rest ≡ Ok (line, rest) → part_step s ≡ (read_part (length s.depth) line s.rest.line >>= λ depth. Ok (record { depth = s.depth ++ depth ∷ []; rest = rest }))
  unfolding part_step
  part_read s line rest e = rw e refl

  part_none : (s : Depths) → next_line s.rest ≡ Err (Line s.rest.line) → part_step s ≡ Err (Line s.rest.line)
  unfolding part_step
  part_none s e = rw e refl

  abbrev part_made : Depths → Rest → ℕ → Result Depths CertFault
  part_made s rest depth = Ok (record { depth = s.depth ++ depth ∷ []; rest = rest })

  part_begins : (before : List (List ℕ)) (line : List ℕ) (i p : ℕ) → fault_at n h before line i (PartDue p) ≡ None → word_of line 0 ≡ codes "part"
  unfolding tests_of
  part_begins before line i p e = begins 4 (codes "part") line (passes (tests_of n h before line i (PartDue p)) 0 (omega arith) e)

  pub parts_stage : (count : ℕ) (s : Depths) (before : List (List ℕ)) → Told n h before parts version s.depth [] [] [] [] → s.rest.line ≡ length before + 1 → length s.depth + count ≡ parts → (repeat count part_step s >>= g) ≡ answer n h before s.rest.bytes
  parts_stage zero s before told at long = repeat_none part_step s g ∙ next s before told at (omega arith)
  parts_stage (suc count) s before told at long = go (parts_stage count) (cut s.rest)
    where
      is_due : due n h before ≡ PartDue (length s.depth)
      is_due = part_due n h before parts version s.depth [] [] [] [] told (omega arith)

      go : ((t : Depths) (after : List (List ℕ)) → Told n h after parts version t.depth [] [] [] [] → t.rest.line ≡ length after + 1 → length t.depth + count ≡ parts → (repeat count part_step t >>= g) ≡ answer n h after t.rest.bytes) → Cut s.rest → (repeat (suc count) part_step s >>= g) ≡ answer n h before s.rest.bytes
      go again (last e f) = repeat_err part_step count s g _ (part_none s e) ∙ (ap (λ (i : ℕ). Err (Line i)) at ∙ sym (no_line n h before s.rest.bytes told.going f))
      go again (more line rest e later f lt) = tries (fault_at n h before line s.rest.line (PartDue (length s.depth))) refl
        where
          reads : part_step s ≡ (guard (fault_at n h before line s.rest.line (PartDue (length s.depth))) (value (number_in line 3)) >>= part_made s rest)
          reads = part_read s line rest e ∙ ap (λ (r : Result ℕ CertFault). r >>= part_made s rest) (part_same n h before (length s.depth) line s.rest.line)

          tries : (o : Option CertFault) → fault_at n h before line s.rest.line (PartDue (length s.depth)) ≡ o → (repeat (suc count) part_step s >>= g) ≡ answer n h before s.rest.bytes
          tries (Some fault) o =
              let step : part_step s ≡ Err fault = reads ∙ ap (λ (v : Option CertFault). guard v (value (number_in line 3)) >>= part_made s rest) o in
              repeat_err part_step count s g fault step ∙ sym (bad_line n h before s.rest.bytes line rest.bytes s.rest.line (PartDue (length s.depth)) fault told.going f at is_due o)
          tries None o =
              let t : Depths = record { depth = s.depth ++ value (number_in line 3) ∷ []; rest = rest } in
              let step : part_step s ≡ Ok t = reads ∙ ap (λ (v : Option CertFault). guard v (value (number_in line 3)) >>= part_made s rest) o in
              let said = told_part n h before parts version s.depth [] [] [] [] told line (part_begins before line s.rest.line (length s.depth) o) in
              repeat_ok part_step count s t g step ∙ (again t (before ++ line ∷ []) said (one_later before line s.rest.line rest.line at later) (omega (arith, length-append s.depth (value (number_in line 3) ∷ [])))
              ∙ sym (good_line n h before s.rest.bytes line rest.bytes s.rest.line (PartDue (length s.depth)) told.going f at is_due o))
