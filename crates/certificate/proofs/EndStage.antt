-- The last line, and the certificate that the lines spell.
use Rattle.std.proofs.Common.{◌≡◌, ℕ, ◌+◌, ◌<◌, Bool, true, false, List, [], ◌∷◌, ◌++◌, length, Option, Some, None, Result, Ok, Err, refl, sym, ap, ◌∙◌, arith}
use Rattle.std.specs.Prelude.{if◌then◌else◌, codes, ◌==◌, map}
use Rattle.std.specs.Str.{bytes_eq}
use Rattle.std.specs.List.{filter_map}
use Rattle.std.proofs.lemmas.Bool.{eqb-true}
use Rattle.std.proofs.lemmas.List.{length-append, nil_from_length, append-nil}
use Rattle.std.proofs.Math.ListN.{get_or-append}
use Rattle.std.proofs.lemmas.Slice.Eq.{bytes_eq-Decides}
use Rattle.tmr_base.specs.Copies.{Three}
use Rattle.flat_net.specs.Net.{Net}
use Rattle.certificate.specs.declared.fault.CertFault.{CertFault}
use Rattle.certificate.specs.declared.fault.CertFault.TheVariants.{Line}
use Rattle.certificate.specs.declared.role.Role.{Role}
use Rattle.certificate.specs.Cert.{PlainCert}
use Rattle.certificate.specs.Lines.{◌>>=◌, Rest, next_line}
use Rattle.certificate.specs.Words.{word_of, number_in, value, version_named}
use Rattle.certificate.specs.Reading.{unless_failed, tests_of, version_in, lines_with, gives, given, role_in, numbers, hardened_nodes, EndDue, due, ended, spelled}
use Rattle.certificate.specs.Folding.{last_line}
use Rattle.certificate.proofs.LineTests.{first_failed, fault_at, copies_in, labels_in}
use Rattle.certificate.proofs.Told.{Told, without_line, given_more, has_ended}
use Rattle.certificate.proofs.Stages.{Cut, last, more, cut, answer, answer_at, no_line, bad_line, good_line, some_line}
use Rattle.certificate.proofs.VoterStage.{Filled, all_there}

abbrev says : Net → Net → ℕ → List (List ℕ) → List (List ℕ) → List (ℕ × Role) → PlainCert
says n h version parts nodes gifts = record {
  version = version;
  original_inputs = length n.inputs;
  hardened_inputs = length h.inputs;
  depth = map (λ line. value (number_in line 3)) parts;
  part = map (λ line. value (number_in line 2)) nodes;
  copies = map (copies_in h) nodes;
  labels = map labels_in nodes;
  roles = filter_map (role_in gifts) (hardened_nodes h);
}

spelled_so : (n h : Net) (lines : List (List ℕ)) → spelled n h lines ≡ says n h (version_in lines) (lines_with (codes "part") lines) (lines_with (codes "node") lines) (given n h lines)
unfolding spelled
spelled_so n h lines = refl

says_same : (n h : Net) (v w : ℕ) (p q x y : List (List ℕ)) (f g : List (ℕ × Role)) → v ≡ w → p ≡ q → x ≡ y → f ≡ g → says n h v p x f ≡ says n h w q y g
says_same n h v w p q x y f g a b c d = ap (λ (k : ℕ). says n h k p x f) a ∙ (ap (λ (k : List (List ℕ)). says n h w k x f) b ∙ (ap (λ (k : List (List ℕ)). says n h w q k f) c ∙ ap (λ (k : List (ℕ × Role)). says n h w q y k) d))

-- a line that is none of these adds nothing
idle : (n h : Net) (before : List (List ℕ)) (line : List ℕ) → 0 < length before → bytes_eq (word_of line 0) (codes "part") ≡ false → bytes_eq (word_of line 0) (codes "node") ≡ false → bytes_eq (word_of line 0) (codes "voter") ≡ false → spelled n h (before ++ line ∷ []) ≡ spelled n h before
idle n h before line some part node voter =
    let none : gives n h line ≡ [] = rw (node, voter) refl in
    spelled_so n h (before ++ line ∷ []) ∙ (says_same n h _ (version_in before) _ (lines_with (codes "part") before) _ (lines_with (codes "node") before) _ (given n h before)
    (ap (λ (l : List ℕ). value (version_named l)) (get_or-append before (line ∷ []) [] 0 some))
    (without_line (codes "part") before line part)
    (without_line (codes "node") before line node)
    (given_more n h before line ∙ (ap (λ (v : List (ℕ × Role)). given n h before ++ v) none ∙ append-nil (given n h before)))
    ∙ sym (spelled_so n h before))

abbrev pub plain : ℕ → ℕ → ℕ → List ℕ → List ℕ → List Three → List Three → List Role → PlainCert
plain v a b d p t l r = record { version = v; original_inputs = a; hardened_inputs = b; depth = d; part = p; copies = t; labels = l; roles = r }

plain_same : (v w a b : ℕ) (d d' p p' : List ℕ) (t t' l l' : List Three) (r r' : List Role) → v ≡ w → d ≡ d' → p ≡ p' → t ≡ t' → l ≡ l' → r ≡ r' → plain v a b d p t l r ≡ plain w a b d' p' t' l' r'
plain_same v w a b d d' p p' t t' l l' r r' e1 e2 e3 e4 e5 e6 = rw (e1, e2, e3, e4, e5, e6) refl

module _ (n h : Net) (before : List (List ℕ)) (parts version : ℕ) (depth part : List ℕ) (copies labels : List Three) (gifts : List (ℕ × Role)) (told : Told n h before parts version depth part copies labels gifts) where
  pub spelled_is : (table : List (Option Role)) (roles : List Role) → Filled (length h.inputs) (length h.nodes) table roles gifts → length roles ≡ length h.nodes → spelled n h before ≡ plain version (length n.inputs) (length h.inputs) depth part copies labels roles
  spelled_is table roles filled long =
      let there : filter_map (role_in (given n h before)) (hardened_nodes h) ≡ roles =
      ap (λ (v : List (ℕ × Role)). filter_map (role_in v) (hardened_nodes h)) told.gifts_are ∙ (ap (λ (k : ℕ). filter_map (role_in gifts) (numbers (length h.inputs) k)) (sym long) ∙ all_there (role_in gifts) (length h.inputs) roles filled.done) in
      spelled_so n h before ∙ plain_same (version_in before) version (length n.inputs) (length h.inputs) _ depth _ part _ copies _ labels _ roles told.version_is told.depth_are told.part_are told.copies_are told.labels_are there

  end_fault : (line : List ℕ) (i : ℕ) (b : Bool) → bytes_eq line (codes "end") ≡ b → fault_at n h before line i EndDue ≡ (if b then None else Some (Line i))
  unfolding tests_of
  end_fault line i b e = ap (λ (c : Bool). first_failed ((c, Line i) ∷ [])) e

  last_none : (r : Rest) → next_line r ≡ Err (Line r.line) → last_line r ≡ Err (Line r.line)
  unfolding last_line
  last_none r e = rw e refl

  last_read : (r rest : Rest) (line : List ℕ) (b c : Bool) → next_line r ≡ Ok (line, rest) → bytes_eq line (codes "end") ≡ b → (length rest.bytes == 0) ≡ c → last_line r ≡ (if b then (if c then Ok rest else Err (Line rest.line)) else Err (Line r.line))
  unfolding last_line
  last_read r rest line true true e f d = rw (e, f, d) refl
  last_read r rest line true false e f d = rw (e, f, d) refl
  last_read r rest line false c e f d = rw (e, f) refl

  abbrev gives_cert : PlainCert → Rest → Result PlainCert CertFault
  gives_cert k rest = Ok k

  -- after `end`
  over : (after : List (List ℕ)) (bytes : List ℕ) (c : Bool) → ended after ≡ true → (length bytes == 0) ≡ c → answer n h after bytes ≡ (if c then Ok (spelled n h (after ++ [] ∷ [])) else Err (Line (length after + 1)))
  over after bytes c done e = go (cut (record { line = 0; bytes = bytes }))
    where
      at_end : (b : Bool) (c : Bool) → b ≡ true → (length bytes == 0) ≡ c → unless_failed ((b, Line (length after + 1)) ∷ (length bytes == 0, Line (length after + 1)) ∷ []) (spelled n h (after ++ bytes ∷ [])) ≡ (if c then Ok (spelled n h (after ++ [] ∷ [])) else Err (Line (length after + 1)))
      at_end true true y d =
          let nil : bytes ≡ [] = nil_from_length bytes (eqb-true _ _ d) in
          rw d (ap (λ (v : List ℕ). Ok (spelled n h (after ++ v ∷ []))) nil)
      at_end true false y d = rw d refl
      at_end false c y d = absurd cc

      two : (line next : List ℕ) (lines : List (List ℕ)) → answer_at n h after (line ∷ next ∷ lines) ≡ Err (Line (length after + 1))
      two line next lines = rw done refl

      many : (c : Bool) → (length bytes == 0) ≡ c → 0 < length bytes → c ≡ false
      many true d lt = absurd (omega (arith, eqb-true _ _ d))
      many false d lt = refl

      go : Cut (record { line = 0; bytes = bytes }) → answer n h after bytes ≡ (if c then Ok (spelled n h (after ++ [] ∷ [])) else Err (Line (length after + 1)))
      go (last d f) = ap (answer_at n h after) f ∙ at_end (ended after) c done e
      go (more line rest d later f lt) =
          let s = some_line n h rest.bytes in
          let none : c ≡ false = many c e lt in
          ap (answer_at n h after) f ∙ (ap (λ (v : List (List ℕ)). answer_at n h after (line ∷ v)) s.2 ∙ (two line s.0 s.1 ∙ ap (λ (b : Bool). if b then Ok (spelled n h (after ++ [] ∷ [])) else Err (Line (length after + 1))) (sym none)))

  pub end_stage : (r : Rest) (k : PlainCert) → spelled n h before ≡ k → due n h before ≡ EndDue → r.line ≡ length before + 1 → (last_line r >>= gives_cert k) ≡ answer n h before r.bytes
  end_stage r k is_k is_due at = go (cut r)
    where
      go : Cut r → (last_line r >>= gives_cert k) ≡ answer n h before r.bytes
      go (last e f) = ap (λ (v : Result Rest CertFault). v >>= gives_cert k) (last_none r e) ∙ (ap (λ (i : ℕ). Err (Line i)) at ∙ sym (no_line n h before r.bytes told.going f))
      go (more line rest e later f lt) = tries (bytes_eq line (codes "end")) refl (length rest.bytes == 0) refl
        where
          tries : (b : Bool) → bytes_eq line (codes "end") ≡ b → (c : Bool) → (length rest.bytes == 0) ≡ c → (last_line r >>= gives_cert k) ≡ answer n h before r.bytes
          tries false y c d =
              ap (λ (v : Result Rest CertFault). v >>= gives_cert k) (last_read r rest line false c e y d) ∙ sym (bad_line n h before r.bytes line rest.bytes r.line EndDue (Line r.line) told.going f at is_due (end_fault line r.line false y))
          tries true y c d = by_rest c d
            where
              is_end : line ≡ codes "end"
              is_end = (bytes_eq-Decides line (codes "end")).0 y

              first : word_of line 0 ≡ codes "end"
              first = ap (λ (l : List ℕ). word_of l 0) is_end

              two_before : 0 < length before
              two_before = let two = told.two in omega arith

              two_after : 0 < length (before ++ line ∷ [])
              two_after = omega (arith, length-append before (line ∷ []))

              spells : spelled n h ((before ++ line ∷ []) ++ [] ∷ []) ≡ k
              spells = idle n h (before ++ line ∷ []) [] two_after refl refl refl ∙ (idle n h before line two_before (ap (λ (w : List ℕ). bytes_eq w (codes "part")) first) (ap (λ (w : List ℕ). bytes_eq w (codes "node")) first) (ap (λ (w : List ℕ). bytes_eq w (codes "voter")) first) ∙ is_k)

              passes : answer n h before r.bytes ≡ answer n h (before ++ line ∷ []) rest.bytes
              passes = good_line n h before r.bytes line rest.bytes r.line EndDue told.going f at is_due (end_fault line r.line true y)

              late : rest.line ≡ length (before ++ line ∷ []) + 1
              late = omega (arith, length-append before (line ∷ []), at, later)

              by_rest : (c : Bool) → (length rest.bytes == 0) ≡ c → (last_line r >>= gives_cert k) ≡ answer n h before r.bytes
              by_rest true d = ap (λ (v : Result Rest CertFault). v >>= gives_cert k) (last_read r rest line true true e y d) ∙ sym (passes ∙ (over (before ++ line ∷ []) rest.bytes true (has_ended before line y) d ∙ ap Ok spells))
              by_rest false d = ap (λ (v : Result Rest CertFault). v >>= gives_cert k) (last_read r rest line true false e y d) ∙ (ap (λ (i : ℕ). Err (Line i)) late ∙ sym (passes ∙ over (before ++ line ∷ []) rest.bytes false (has_ended before line y) d))
