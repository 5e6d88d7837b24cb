-- A line is read by the code as the tests of specs/Reading say.
use Rattle.std.proofs.Common.{◌≡◌, ℕ, zero, suc, ◌<◌, length, get_or, arith, Bool, true, false, nat_lt, nat_eq, List, [], ◌∷◌, Option, Some, None, Result, Ok, Err, refl, ap, ◌∙◌}
use Rattle.std.specs.Prelude.{if◌then◌else◌, codes, ◌&&◌, ◌==◌, is_some}
use Rattle.std.specs.Str.{bytes_eq}
use Rattle.std.specs.Option.{unwrap_or}
use Rattle.tmr_base.specs.declared.copies.CopyNo.{CopyNo}
use Rattle.tmr_base.specs.declared.copies.CopyNo.TheVariants.{First}
use Rattle.tmr_base.specs.Copies.{Three}
use Rattle.flat_net.specs.Net.{Net}
use Rattle.certificate.specs.declared.fault.CertFault.{CertFault}
use Rattle.certificate.specs.declared.fault.CertFault.TheVariants.{Memory, Line, UnknownNet, Order, Range}
use Rattle.certificate.specs.declared.role.Role.{Role}
use Rattle.certificate.specs.declared.role.Role.TheVariants.{Voter}
use Rattle.certificate.specs.Lines.{◌>>=◌, want, hold, words_of, form_words, number_at}
use Rattle.certificate.specs.Words.{word_of, number_in, net_in, node_in, voted_in, is_form, are_numbers, are_nodes, is, value, copy_named}
use Rattle.certificate.specs.Reading.{tests_of, Due, PartsDue, PartDue}
use Rattle.certificate.specs.Folding as fold

-- ---- one line's tests

-- the fault of the first test that fails
abbrev pub first_failed : List (Bool × CertFault) → Option CertFault
first_failed [] = None
first_failed ((holds, fault) ∷ more) = if holds then first_failed more else Some fault

abbrev pub or_else : Option CertFault → Option CertFault → Option CertFault
or_else None f = f
or_else (Some e) f = Some e

-- the fault of line i, where this line is due
abbrev pub fault_at : Net → Net → List (List ℕ) → List ℕ → ℕ → Due → Option CertFault
fault_at n h before line i d = first_failed (tests_of n h before line i d)

-- the value, or the fault
abbrev pub guard : {A : Type 0} → Option CertFault → A → Result A CertFault
guard None x = Ok x
guard (Some e) x = Err e

one_hold : {A : Type 0} (b : Bool) (e : CertFault) (x : A) → (hold b e >>= λ _. Ok x) ≡ guard (first_failed ((b, e) ∷ [])) x
one_hold true e x = refl
one_hold false e x = refl

two_holds : {A : Type 0} (b c : Bool) (e f : CertFault) (x : A) → (hold b e >>= λ _. hold c f >>= λ _. Ok x) ≡ guard (first_failed ((b, e) ∷ (c, f) ∷ [])) x
two_holds true c e f x = one_hold c f x
two_holds false c e f x = refl

formed : {A : Type 0} (b : Bool) (ws : List (List ℕ)) (f : List (List ℕ) → Result A CertFault) (e : CertFault) (more : List (Bool × CertFault)) (x : A) → f ws ≡ guard (first_failed more) x → ((hold b e >>= λ _. Ok ws) >>= f) ≡ guard (first_failed ((b, e) ∷ more)) x
formed true ws f e more x same = same
formed false ws f e more x same = refl

abbrev pub no_check : Bool × CertFault
no_check = (true, Memory)

-- each test of a line without a fault holds
pub passes : (checks : List (Bool × CertFault)) (j : ℕ) → j < length checks → first_failed checks ≡ None → (get_or checks j no_check).0 ≡ true
passes [] j lt e = absurd (omega arith)
passes ((true, fault) ∷ more) zero lt e = refl
passes ((true, fault) ∷ more) (suc j) lt e = passes more j (omega arith) e
passes ((false, fault) ∷ more) j lt e = absurd cc

parts_tests : (i : ℕ) (k : Option ℕ) → want k (Line i) ≡ guard (first_failed ((is_some k && true, Line i) ∷ [])) (value k)
parts_tests i None = refl
parts_tests i (Some k) = refl

pub parts_same : (n h : Net) (before : List (List ℕ)) (line : List ℕ) (i : ℕ) → fold.read_parts line i ≡ guard (fault_at n h before line i PartsDue) (value (number_in line 1))
unfolding fold.read_parts form_words number_at tests_of
parts_same n h before line i = formed (is_form 2 (codes "parts") line) (words_of line) _ (Line i) ((are_numbers line (1 ∷ []), Line i) ∷ []) (value (number_in line 1)) (parts_tests i (number_in line 1))

part_tests : (p i : ℕ) (b : Bool) (q d : Option ℕ) → (hold b (Line i) >>= λ _. want q (Line i) >>= λ q. want d (Line i) >>= λ d. hold (q == p) (Line i) >>= λ _. Ok d) ≡ guard (first_failed ((b, Line i) ∷ (is_some q && (is_some d && true), Line i) ∷ (is p q, Line i) ∷ [])) (value d)
part_tests p i false q d = refl
part_tests p i true None d = refl
part_tests p i true (Some q) None = refl
part_tests p i true (Some q) (Some d) = one_hold (q == p) (Line i) d

pub part_same : (n h : Net) (before : List (List ℕ)) (p : ℕ) (line : List ℕ) (i : ℕ) → fold.read_part p line i ≡ guard (fault_at n h before line i (PartDue p)) (value (number_in line 3))
unfolding fold.read_part form_words number_at tests_of
part_same n h before p line i = formed (is_form 4 (codes "part") line) (words_of line) _ (Line i) ((bytes_eq (word_of line 2) (codes "depth"), Line i) ∷ (are_numbers line (1 ∷ 3 ∷ []), Line i) ∷ (is p (number_in line 1), Line i) ∷ []) (value (number_in line 3)) (part_tests p i (bytes_eq (word_of line 2) (codes "depth")) (number_in line 1) (number_in line 3))

abbrev pub both : {A : Type 0} → ℕ → A → ℕ × A
both p x = (p, x)

abbrev pub three : ℕ → ℕ → ℕ → Three
three a b c = record { first = a; second = b; third = c }

abbrev pub node_said : ℕ → Three → Three → fold.NodeLine
node_said p copies labels = record { part = p; copies = copies; labels = labels }

node_tests : (x parts i : ℕ) (p e f g y a b c : Option ℕ) →
    ((want p (Line i) >>= λ p. ((want e (Line i) >>= λ e. want f (Line i) >>= λ f. want g (Line i) >>= λ g. Ok (three e f g)) >>= λ labels. Ok (both p labels))) >>= λ numbers.
    want y (UnknownNet i) >>= λ named.
    (want a (UnknownNet i) >>= λ a. want b (UnknownNet i) >>= λ b. want c (UnknownNet i) >>= λ c. Ok (three a b c)) >>= λ copies.
    hold (named == x) (Order i) >>= λ _. hold (nat_lt numbers.0 parts) (Range i) >>= λ _. Ok (node_said numbers.0 copies numbers.1))
    ≡ guard (first_failed ((is_some p && (is_some e && (is_some f && (is_some g && true))), Line i) ∷ (is_some y && true, UnknownNet i) ∷ (is_some a && (is_some b && (is_some c && true)), UnknownNet i) ∷ (is x y, Order i) ∷ (nat_lt (value p) parts, Range i) ∷ []))
    (node_said (value p) (three (value a) (value b) (value c)) (three (value e) (value f) (value g)))
node_tests x parts i None e f g y a b c = refl
node_tests x parts i (Some p) None f g y a b c = refl
node_tests x parts i (Some p) (Some e) None g y a b c = refl
node_tests x parts i (Some p) (Some e) (Some f) None y a b c = refl
node_tests x parts i (Some p) (Some e) (Some f) (Some g) None a b c = refl
node_tests x parts i (Some p) (Some e) (Some f) (Some g) (Some y) None b c = refl
node_tests x parts i (Some p) (Some e) (Some f) (Some g) (Some y) (Some a) None c = refl
node_tests x parts i (Some p) (Some e) (Some f) (Some g) (Some y) (Some a) (Some b) None = refl
node_tests x parts i (Some p) (Some e) (Some f) (Some g) (Some y) (Some a) (Some b) (Some c) = two_holds (y == x) (nat_lt p parts) (Order i) (Range i) _

-- the tests of a node's line but the last
abbrev pub node_more : Net → Net → List ℕ → ℕ → ℕ → ℕ → List (Bool × CertFault)
node_more n h line i x parts =
    (are_numbers line (2 ∷ 6 ∷ 7 ∷ 8 ∷ []), Line i) ∷
    (are_nodes n line (1 ∷ []), UnknownNet i) ∷
    (are_nodes h line (3 ∷ 4 ∷ 5 ∷ []), UnknownNet i) ∷
    (is x (node_in n line 1), Order i) ∷
    (nat_lt (value (number_in line 2)) parts, Range i) ∷ []

abbrev pub node_checks : Net → Net → List ℕ → ℕ → ℕ → ℕ → List (Bool × CertFault)
node_checks n h line i x parts = (is_form 9 (codes "node") line, Line i) ∷ node_more n h line i x parts

abbrev pub copies_in : Net → List ℕ → Three
copies_in h line = record { first = value (node_in h line 3); second = value (node_in h line 4); third = value (node_in h line 5) }

abbrev pub labels_in : List ℕ → Three
labels_in line = record { first = value (number_in line 6); second = value (number_in line 7); third = value (number_in line 8) }

pub node_same : (n h : Net) (x parts : ℕ) (line : List ℕ) (i : ℕ) → fold.read_node n h x parts line i ≡ guard (first_failed (node_checks n h line i x parts)) (node_said (value (number_in line 2)) (copies_in h line) (labels_in line))
unfolding fold.read_node fold.node_numbers fold.three_numbers fold.known fold.known_three form_words number_at
node_same n h x parts line i = formed (is_form 9 (codes "node") line) (words_of line) _ (Line i) (node_more n h line i x parts) (node_said (value (number_in line 2)) (copies_in h line) (labels_in line))
    (node_tests x parts i (number_in line 2) (number_in line 6) (number_in line 7) (number_in line 8) (node_in n line 1) (node_in h line 3) (node_in h line 4) (node_in h line 5))

-- a voter's line, where its net is read so
abbrev voter_read : ℕ → ℕ → ℕ → Option ℕ → Option CopyNo → Option ℕ → Result ℕ CertFault → Result Role CertFault
voter_read g parts i p c y x =
    (want p (Line i) >>= λ p. want c (Line i) >>= λ c. Ok (both p c)) >>= λ numbers.
    want y (UnknownNet i) >>= λ named. x >>= λ x.
    hold (named == g) (Order i) >>= λ _. hold (nat_lt numbers.0 parts) (Range i) >>= λ _. Ok (Voter (record { 0 = x }) (record { 0 = numbers.0 }) numbers.1)

voter_tests : (g parts i : ℕ) (p : Option ℕ) (c : Option CopyNo) (y x : Option ℕ) →
    voter_read g parts i p c y (want x (UnknownNet i))
    ≡ guard (first_failed ((is_some p && true, Line i) ∷ (is_some c, Line i) ∷ (is_some y && true, UnknownNet i) ∷ (is_some x, UnknownNet i) ∷ (is g y, Order i) ∷ (nat_lt (value p) parts, Range i) ∷ []))
    (Voter (record { 0 = value x }) (record { 0 = value p }) (unwrap_or c First))
voter_tests g parts i None c y x = refl
voter_tests g parts i (Some p) None y x = refl
voter_tests g parts i (Some p) (Some c) None x = refl
voter_tests g parts i (Some p) (Some c) (Some y) None = refl
voter_tests g parts i (Some p) (Some c) (Some y) (Some x) = two_holds (y == g) (nat_lt p parts) (Order i) (Range i) _

voted_same : (version : ℕ) (n : Net) (line : List ℕ) (i : ℕ) → fold.voted version n (word_of line 2) i ≡ want (voted_in version n line 2) (UnknownNet i)
unfolding fold.voted fold.known
voted_same version n line i = go (nat_eq version 1)
  where
    go : (b : Bool) → (if b then want (node_in n line 2) (UnknownNet i) else want (net_in n line 2) (UnknownNet i)) ≡ want (if b then node_in n line 2 else net_in n line 2) (UnknownNet i)
    go true = refl
    go false = refl

abbrev pub voter_more : ℕ → Net → Net → List ℕ → ℕ → ℕ → ℕ → List (Bool × CertFault)
voter_more version n h line i g parts =
    (are_numbers line (3 ∷ []), Line i) ∷
    (is_some (copy_named (word_of line 4)), Line i) ∷
    (are_nodes h line (1 ∷ []), UnknownNet i) ∷
    (is_some (voted_in version n line 2), UnknownNet i) ∷
    (is g (node_in h line 1), Order i) ∷
    (nat_lt (value (number_in line 3)) parts, Range i) ∷ []

abbrev pub voter_checks : ℕ → Net → Net → List ℕ → ℕ → ℕ → ℕ → List (Bool × CertFault)
voter_checks version n h line i g parts = (is_form 5 (codes "voter") line, Line i) ∷ voter_more version n h line i g parts

abbrev pub voter_said : ℕ → Net → List ℕ → Role
voter_said version n line = Voter (record { 0 = value (voted_in version n line 2) }) (record { 0 = value (number_in line 3) }) (unwrap_or (copy_named (word_of line 4)) First)

pub voter_same : (version : ℕ) (n h : Net) (g parts : ℕ) (line : List ℕ) (i : ℕ) → fold.read_voter version n h g parts line i ≡ guard (first_failed (voter_checks version n h line i g parts)) (voter_said version n line)
unfolding fold.read_voter fold.voter_numbers fold.known form_words number_at
voter_same version n h g parts line i =
    formed (is_form 5 (codes "voter") line) (words_of line) _ (Line i) (voter_more version n h line i g parts) (voter_said version n line) (
    ap (voter_read g parts i (number_in line 3) (copy_named (word_of line 4)) (node_in h line 1)) (voted_same version n line i)
    ∙ voter_tests g parts i (number_in line 3) (copy_named (word_of line 4)) (node_in h line 1) (voted_in version n line 2))
