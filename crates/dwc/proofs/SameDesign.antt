-- Two designs compared, entry by entry.
use Rattle.std.proofs.Common.{◌≡◌, ℕ, suc, ◌+◌, ◌-◌, ◌<◌, ◌≤◌, ◌⊎◌, inl, inr, List, [], ◌∷◌, length, Option, Some, None, slice_get, refl, sym, ap, ◌∙◌, subst, arith, Bool, true, false}
use Rattle.std.specs.Prelude.{◌↔◌, IsTrue}
use Rattle.std.proofs.lemmas.Bool.{cases_lt, false≢true}
use Rattle.std.proofs.lemmas.Option.{slice_get_past}
use Rattle.table_cover.specs.Cover.{PlainCover}
use Rattle.flat_net.specs.Net.{Net, Node, Table, Register, net_count, node_of, node_name, name_of, pins_at, IsCoverOf, IsInitOf}
use Rattle.flat_net.proofs.Slots.{slot_at, slot_there, slice_get_there}
use Rattle.dwc.specs.declared.check.GuardAnswer.{GuardAnswer}
use Rattle.dwc.specs.declared.check.GuardAnswer.TheVariants.{Guarded, Not}
use Rattle.dwc.specs.Answer.{DifferFirst, IsAnswer}
use Rattle.dwc.proofs.Nodes.{name_of_node}

-- ---- answers

-- refused, and rightly
pub neither : {P : Type 0} → (P → ⊥) → (IsTrue false → P) × (P → IsTrue false)
neither never = ((λ e. absurd (false≢true e)), (λ p. absurd (never p)))

-- granted, and rightly
pub both : {P : Type 0} → P → (IsTrue true → P) × (P → IsTrue true)
both p = ((λ e. p), (λ q. refl))

pub answered : (a b : Net) (r : GuardAnswer) → IsAnswer a b r → r ≡ Guarded → a ≡ b
answered a b Guarded is e = is
answered a b (Not rule at) is e = absurd (cc)

-- ---- lists

pub more_same : {A : Type 0} (xs ys : List A) (k : ℕ) → ((i : ℕ) → i < k → slice_get xs i ≡ slice_get ys i) → slice_get xs k ≡ slice_get ys k → (i : ℕ) → i < k + 1 → slice_get xs i ≡ slice_get ys i
more_same xs ys k before here i h = go (cases_lt i k)
  where
    go : (i < k) ⊎ (k ≤ i) → slice_get xs i ≡ slice_get ys i
    go (inl l) = before i l
    go (inr l) = let e : k ≡ i = omega (arith, h, l) in subst (λ j. slice_get xs j ≡ slice_get ys j) e here

pub lists_same : {A : Type 0} (xs ys : List A) → length xs ≡ length ys → ((i : ℕ) → i < length xs → slice_get xs i ≡ slice_get ys i) → xs ≡ ys
lists_same [] [] l e = refl
lists_same [] (y ∷ ys) l e = absurd (omega (arith, l))
lists_same (x ∷ xs) [] l e = absurd (omega (arith, l))
lists_same (x ∷ xs) (y ∷ ys) l e =
    let here : Some x ≡ Some y = e 0 (omega arith) in
    let rest : xs ≡ ys = lists_same xs ys (omega (arith, l)) (λ i h. e (suc i) (omega (arith, h))) in
    cc

-- a list that is the front of a longer one
pub shorter : {A : Type 0} (xs ys : List A) → length xs < length ys → ((i : ℕ) → i < length xs → slice_get xs i ≡ slice_get ys i) → DifferFirst xs ys (length xs)
shorter xs ys h same = record {
  differ = λ e.
      let (y, at) = slice_get_there ys (length xs) h in
      let none = slice_get_past xs (length xs) (omega arith) in
      absurd (cc);
  first = same;
}

-- ---- nodes

pub node_at_place : (n : Net) (x i : ℕ) → x ≡ length n.inputs + i → node_of n x ≡ slice_get n.nodes i
node_at_place n x i e =
    let back : x - length n.inputs ≡ i = omega (arith, e) in
    slot_at (length n.inputs) n.nodes x (omega (arith, e)) ∙ ap (slice_get n.nodes) back

-- the name of a net that is a node
abbrev name_at : Option Node → List ℕ
name_at None = []
name_at (Some node) = node_name node

named_at : (n : Net) (x : ℕ) → length n.inputs ≤ x → x < net_count n → name_of n x ≡ name_at (node_of n x)
named_at n x low high =
    let (node, at) = slot_there (length n.inputs) n.nodes x low high in
    name_of_node n x node at ∙ ap name_at (sym at)

-- nodes that are the same have the same name
pub same_named : (a b : Net) (x : ℕ) → length a.inputs ≤ x → x < net_count a → length b.inputs ≤ x → x < net_count b → node_of a x ≡ node_of b x → name_of a x ≡ name_of b x
same_named a b x la ha lb hb e = named_at a x la ha ∙ (ap name_at e ∙ sym (named_at b x lb hb))

names_at : (a b : Net) (x : ℕ) → length a.inputs ≤ x → x < net_count a → length b.inputs ≤ x → x < net_count b → name_of a x ≡ name_of b x → name_at (node_of a x) ≡ name_at (node_of b x)
names_at a b x la ha lb hb e = sym (named_at a x la ha) ∙ (e ∙ named_at b x lb hb)

table_parts : (o p : Option Node) (k l : PlainCover) → IsCoverOf o k → IsCoverOf p l → pins_at o ≡ pins_at p → name_at o ≡ name_at p → ((k ≡ l) → o ≡ p) × ((o ≡ p) → k ≡ l)
table_parts None p k l ck cl ps ns = absurd ck
table_parts (Some (Register n i q)) p k l ck cl ps ns = absurd ck
table_parts (Some (Table n c q)) None k l ck cl ps ns = absurd cl
table_parts (Some (Table n c q)) (Some (Register m d r)) k l ck cl ps ns = absurd cl
table_parts (Some (Table n c q)) (Some (Table m d r)) k l ck cl ps ns =
    ((λ e. let same : c ≡ d = ck ∙ (e ∙ sym cl) in let names : n ≡ m = ns in let pins : q ≡ r = ps in cc), (λ e. let same : c ≡ d = cc in sym ck ∙ (same ∙ cl)))

register_parts : (o p : Option Node) (i j : Bool) → IsInitOf o i → IsInitOf p j → pins_at o ≡ pins_at p → name_at o ≡ name_at p → ((i ≡ j) → o ≡ p) × ((o ≡ p) → i ≡ j)
register_parts None p k l ck cl ps ns = absurd ck
register_parts (Some (Table n i q)) p k l ck cl ps ns = absurd ck
register_parts (Some (Register n c q)) None k l ck cl ps ns = absurd cl
register_parts (Some (Register n c q)) (Some (Table m d r)) k l ck cl ps ns = absurd cl
register_parts (Some (Register n c q)) (Some (Register m d r)) k l ck cl ps ns =
    ((λ e. let same : c ≡ d = ck ∙ (e ∙ sym cl) in let names : n ≡ m = ns in let pin : q ≡ r = one q r ps in cc), (λ e. let same : c ≡ d = cc in sym ck ∙ (same ∙ cl)))
  where
    one : (q r : ℕ) → q ∷ [] ≡ r ∷ [] → q ≡ r
    one q r e = cc

-- tables of one name and with the same pins are the same where their covers are
pub tables_same : (a b : Net) (x : ℕ) (k l : PlainCover) (r : Bool) → length a.inputs ≤ x → x < net_count a → length b.inputs ≤ x → x < net_count b → name_of a x ≡ name_of b x → pins_at (node_of a x) ≡ pins_at (node_of b x) → IsCoverOf (node_of a x) k → IsCoverOf (node_of b x) l → IsTrue r ↔ (k ≡ l) → IsTrue r ↔ (node_of a x ≡ node_of b x)
tables_same a b x k l r la ha lb hb names pins ck cl is =
    let parts = table_parts (node_of a x) (node_of b x) k l ck cl pins (names_at a b x la ha lb hb names) in
    ((λ t. parts.0 (is.0 t)), (λ e. is.1 (parts.1 e)))

-- registers are the same where their initial values are
pub registers_same : (a b : Net) (x : ℕ) (i j r : Bool) → length a.inputs ≤ x → x < net_count a → length b.inputs ≤ x → x < net_count b → name_of a x ≡ name_of b x → pins_at (node_of a x) ≡ pins_at (node_of b x) → IsInitOf (node_of a x) i → IsInitOf (node_of b x) j → IsTrue r ↔ (i ≡ j) → IsTrue r ↔ (node_of a x ≡ node_of b x)
registers_same a b x i j r la ha lb hb names pins ci cj is =
    let parts = register_parts (node_of a x) (node_of b x) i j ci cj pins (names_at a b x la ha lb hb names) in
    ((λ t. parts.0 (is.0 t)), (λ e. is.1 (parts.1 e)))
