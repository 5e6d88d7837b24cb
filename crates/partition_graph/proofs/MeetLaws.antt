-- Where nets lead, noted role by role, pin by pin and output by output.
use Rattle.std.proofs.Common.{◌≡◌, ◌≢◌, ℕ, ◌+◌, ◌<◌, ◌≤◌, ◌⊎◌, inl, inr, Bool, false, ◌&&◌, ◌||◌, ◌-◌, List, [], ◌∷◌, ◌++◌, length, map, take, get_or, slice_index, slice_get, Some, refl, sym, ◌∙◌, ap, arith}
use Rattle.std.specs.Prelude.{◌==◌, nat_le}
use Rattle.std.specs.List.{list_any, range_with_len}
use Rattle.std.proofs.lemmas.Bool.{cases_eq, ne_eqb, le-leb, lt-leb}
use Rattle.std.proofs.lemmas.Option.{get_or_from_slice_get}
use Rattle.std.proofs.lemmas.List.FromFn.{map-range_with_len_more}
use Rattle.std.proofs.lemmas.List.Folds.{list_any_more, list_any-append}
use Rattle.flat_net.proofs.Slots.{slot_at}
use Rattle.certificate.specs.declared.role.Role.{Role}
use Rattle.certificate.specs.Cert.{PlainCert, role_of}
use Rattle.flat_net.specs.Net.{Net}
use Rattle.partitioner.specs.Below.{count_below}
use Rattle.partitioner.proofs.BelowLaws.{count_same}
use Rattle.partition_graph.specs.declared.edges.Edges.{Edges}
use Rattle.partition_graph.specs.Places.{home}
use Rattle.partition_graph.specs.Edges.{is_voted_for, is_read_at, is_put_out, leads_to, AreEdges}
use Rattle.partition_graph.specs.Private.Counting.{AreHomes}
use Rattle.partition_graph.specs.Private.Meeting.{is_met, AreCounted}
use Rattle.partition_graph.proofs.EdgeLaws.{or_assoc, or_false, and_false}

-- one element more, of which nothing was met before
pub any_more : {A : Type 0} (p : A → Bool) (xs : List A) (i : ℕ) (x : A) (first old new : Bool) → i < length xs → x ≡ get_or xs i x → old ≡ (first || list_any p (take i xs)) → new ≡ (old || p x) → new ≡ (first || list_any p (take (i + 1) xs))
any_more p xs i x first old new h at before more =
    more ∙ (ap (λ (b : Bool). b || p x) before ∙ (or_assoc first (list_any p (take i xs)) (p x)
    ∙ ap (λ (b : Bool). first || b) (ap (λ y. list_any p (take i xs) || p y) at ∙ sym (list_any_more p xs i x h))))

map_same : (xs : List ℕ) → map (λ x. x) xs ≡ xs
map_same [] = refl
map_same (x ∷ xs) = ap (λ ys. x ∷ ys) (map_same xs)

pub range_more : (i : ℕ) → range_with_len 0 (i + 1) ≡ range_with_len 0 i ++ i ∷ []
range_more i = sym (map_same (range_with_len 0 (i + 1))) ∙ (map-range_with_len_more (λ x. x) 0 i i (omega arith) ∙ ap (λ xs. xs ++ i ∷ []) (map_same (range_with_len 0 i)))

-- one number more
pub numbers_more : (p : ℕ → Bool) (i : ℕ) (first old new : Bool) → old ≡ (first || list_any p (range_with_len 0 i)) → new ≡ (old || p i) → new ≡ (first || list_any p (range_with_len 0 (i + 1)))
numbers_more p i first old new before more =
    more ∙ (ap (λ (b : Bool). b || p i) before ∙ (or_assoc first (list_any p (range_with_len 0 i)) (p i) ∙ ap (λ (b : Bool). first || b) here))
  where
    here : (list_any p (range_with_len 0 i) || p i) ≡ list_any p (range_with_len 0 (i + 1))
    here =
        sym (ap (list_any p) (range_more i)
        ∙ (list_any-append p (range_with_len 0 i) (i ∷ []) ∙ ap (λ (b : Bool). list_any p (range_with_len 0 i) || b) (or_false (p i))))

-- ---- roles

pub role_here : (k : PlainCert) (g net : ℕ) (role : Role) → net ≡ k.hardened_inputs + g → role_of k net ≡ Some role → role ≡ get_or k.roles g role
role_here k g net role at there =
    let place : net - k.hardened_inputs ≡ g = omega arith in
    sym (get_or_from_slice_get k.roles g role role (sym (slot_at k.hardened_inputs k.roles net (omega arith) ∙ ap (slice_get k.roles) place) ∙ there))

-- a voter of a node, and one of an input
pub voter_of_node : (inputs node y : ℕ) (at : Bool) → inputs ≤ node → (node == y && at) ≡ (nat_le inputs y && (node == y && at))
voter_of_node inputs node y at h = go (cases_eq node y)
  where
    go : (node ≡ y) ⊎ (node ≢ y) → (node == y && at) ≡ (nat_le inputs y && (node == y && at))
    go (inl e) = sym (ap (λ (b : Bool). b && (node == y && at)) (le-leb inputs y (omega (arith, h, e))))
    go (inr ne) = ap (λ (b : Bool). b && at) (ne_eqb node y ne) ∙ sym (ap (λ (b : Bool). nat_le inputs y && (b && at)) (ne_eqb node y ne) ∙ and_false (nat_le inputs y))

pub voter_of_input : (inputs node y : ℕ) (at : Bool) → node < inputs → (nat_le inputs y && (node == y && at)) ≡ false
voter_of_input inputs node y at h = go (cases_eq node y)
  where
    go : (node ≡ y) ⊎ (node ≢ y) → (nat_le inputs y && (node == y && at)) ≡ false
    go (inl e) = ap (λ (b : Bool). b && (node == y && at)) (lt-leb inputs y (omega (arith, h, e)))
    go (inr ne) = ap (λ (b : Bool). nat_le inputs y && (b && at)) (ne_eqb node y ne) ∙ and_false (nat_le inputs y)

-- ---- all that was met

or_three : (e0 e1 e2 e3 v r o : Bool) → e0 ≡ false → e1 ≡ (e0 || v) → e2 ≡ (e1 || r) → e3 ≡ (e2 || o) → e3 ≡ (v || (r || o))
or_three e0 e1 e2 e3 v r o none is_first is_second is_third =
    is_third ∙ (ap (λ (b : Bool). b || o) (is_second ∙ ap (λ (b : Bool). b || r) (is_first ∙ ap (λ (b : Bool). b || v) none)) ∙ or_assoc v r o)

pub leads_are : (n : Net) (k : PlainCert) (x b : ℕ) (e0 e1 e2 e3 : Bool) → e0 ≡ false → e1 ≡ (e0 || is_voted_for k x b) → e2 ≡ (e1 || is_read_at n k x b) → e3 ≡ (e2 || is_put_out n k x b) → e3 ≡ leads_to n k b x
unfolding leads_to
leads_are n k x b e0 e1 e2 e3 = or_three e0 e1 e2 e3 (is_voted_for k x b) (is_read_at n k x b) (is_put_out n k x b)

pub edges_are : (n : Net) (k : PlainCert) (homes : List ℕ) (e : Edges) → AreHomes k homes → AreCounted homes e → ((x b : ℕ) → is_met e x b ≡ leads_to n k b x) → AreEdges n k e.counts
edges_are n k homes e are counted met = record {
  ascending = counted.ascending;
  numbers = λ a b.
      counted.numbers a b
      ∙ (ap (λ (m : ℕ). count_below m (λ x. slice_index homes x == a && is_met e x b)) are.long
      ∙ count_same (k.original_inputs + length k.part) (λ x. slice_index homes x == a && is_met e x b) (λ x. home k x == a && leads_to n k b x)
      (λ x h. ap (λ (z : ℕ). z == a && is_met e x b) (are.each x h) ∙ ap (λ (t : Bool). home k x == a && t) (met x b)));
  some = counted.some;
}
