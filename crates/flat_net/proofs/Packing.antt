-- The design of a draft, packed.
use Rattle.std.proofs.Common.{◌≡◌, ◌≢◌, ℕ, suc, ◌+◌, ◌<◌, Bool, true, false, not, List, [], ◌∷◌, ◌++◌, length, map, filter, take, drop, get_or, Option, Some, None, refl, sym, ap, ◌∙◌, subst, arith}
use Rattle.std.specs.Prelude.{MatchOption}
use Rattle.std.specs.List.{list_any}
use Rattle.std.specs.Str.{bytes_eq}
use Rattle.std.proofs.lemmas.List.{length-map, length-append, take_at, drop_at}
use Rattle.std.proofs.lemmas.Bool.{false≢true}
use Rattle.indexmap.specs.IndexSet.{remove_key}
use Rattle.tmr_base.specs.declared.ids.Edge.{Edge}
use Rattle.flat_net.specs.Nodes.{number_of}
use Rattle.flat_net.specs.Net.{Net, Node, register_count, IsUnordered}
use Rattle.flat_net.specs.declared.wiring.Wiring.TheInside.{Inside}
use Rattle.flat_net.specs.View.{net_of, IsWiring}
use Rattle.flat_net.specs.Draft.{PlainDraft, Element, out_of, AreDistinct}
use Rattle.flat_net.specs.Faults.{is_among, number_in, node_of_element, net_inputs, draft_names, clock_of, net_of_draft, HasCleanClock}
use Rattle.flat_net.specs.Packed.{nodes_from}
use Rattle.flat_net.specs.Private.Bodies.{body_of}
use Rattle.flat_net.specs.Private.Wired.{AreWires}
use Rattle.flat_net.proofs.Names.{eq_from, eq_false}
use Rattle.flat_net.proofs.Sound.{clock_is_input}

-- ---- the names without the clock's

remove_left : {A : Type 0} (test : A → Bool) (xs ys : List A) → list_any test xs ≡ true → remove_key test (xs ++ ys) ≡ remove_key test xs ++ ys
remove_left test [] ys e = absurd (false≢true e)
remove_left {A} test (x ∷ xs) ys e = go (test x) refl (remove_left test xs ys)
  where
    go : (b : Bool) → test x ≡ b → (list_any test xs ≡ true → remove_key test (xs ++ ys) ≡ remove_key test xs ++ ys) → remove_key test (x ∷ (xs ++ ys)) ≡ remove_key test (x ∷ xs) ++ ys
    go true f ih = rw f refl
    go false f ih = rw f (ap (λ (zs : List A). x ∷ zs) (ih (rw f at e)))

filter_whole : (clock : List ℕ) (xs : List (List ℕ)) → ((k : ℕ) → k < length xs → get_or xs k [] ≢ clock) → filter (λ x. not (bytes_eq clock x)) xs ≡ xs
filter_whole clock [] h = refl
filter_whole clock (x ∷ xs) h = rw (eq_false clock x (λ e. h 0 (omega arith) (sym e))) (ap (λ (zs : List (List ℕ)). x ∷ zs) (filter_whole clock xs (λ k l. h (suc k) (omega arith))))

remove_is_filter : (clock : List ℕ) (xs : List (List ℕ)) → AreDistinct xs → remove_key (bytes_eq clock) xs ≡ filter (λ x. not (bytes_eq clock x)) xs
remove_is_filter clock [] distinct = refl
remove_is_filter clock (x ∷ xs) distinct = go (bytes_eq clock x) refl (remove_is_filter clock xs (λ j k jk h. distinct (suc j) (suc k) (omega arith) (omega arith)))
  where
    go : (b : Bool) → bytes_eq clock x ≡ b → remove_key (bytes_eq clock) xs ≡ filter (λ y. not (bytes_eq clock y)) xs → remove_key (bytes_eq clock) (x ∷ xs) ≡ filter (λ y. not (bytes_eq clock y)) (x ∷ xs)
    go true f ih = rw f (sym (filter_whole clock xs (λ k l e. distinct 0 (suc k) (omega arith) (omega arith) (sym (eq_from clock x f) ∙ sym e))))
    go false f ih = rw f (ap (λ (zs : List (List ℕ)). x ∷ zs) ih)

filter_true : (xs : List (List ℕ)) → filter (λ x. true) xs ≡ xs
filter_true [] = refl
filter_true (x ∷ xs) = ap (λ (zs : List (List ℕ)). x ∷ zs) (filter_true xs)

pub names_without : (d : PlainDraft) (edge : Edge) (clock : List ℕ) (keys : List (List ℕ)) → AreDistinct d.inputs → clock_of d ≡ Some (edge, clock) → is_among d.inputs clock ≡ true → keys ≡ remove_key (bytes_eq clock) (d.inputs ++ map out_of d.elements) → keys ≡ draft_names d
names_without d edge clock keys distinct e input k = rw e (k ∙ (remove_left (bytes_eq clock) d.inputs (map out_of d.elements) input ∙ ap (λ (zs : List (List ℕ)). zs ++ map out_of d.elements) (remove_is_filter clock d.inputs distinct)))

pub names_with_all : (d : PlainDraft) (keys : List (List ℕ)) → clock_of d ≡ None → keys ≡ d.inputs ++ map out_of d.elements → keys ≡ draft_names d
names_with_all d keys e k = rw e (k ∙ ap (λ (zs : List (List ℕ)). zs ++ map out_of d.elements) (sym (filter_true d.inputs)))

-- ---- the packed design

pub same_net : (m m' : List ℕ) (i i' : List (List ℕ)) (n n' : List Node) (o o' : List ℕ) (c c' : Option (Edge × List ℕ)) → m ≡ m' → i ≡ i' → n ≡ n' → o ≡ o' → c ≡ c' → ◌≡◌ {A = Net} (record { model = m; inputs = i; nodes = n; outputs = o; clock = c }) (record { model = m'; inputs = i'; nodes = n'; outputs = o'; clock = c' })
same_net m m' i i' n n' o o' c c' em ei en eo ec = λ k. record { model = em k; inputs = ei k; nodes = en k; outputs = eo k; clock = ec k }

-- what the fields of a packed design are made of
pub record IsPackedFrom (d : PlainDraft) (w : Inside) : Type 0 where
  pub model : w.model ≡ d.model
  pub names : w.names.keys ≡ draft_names d
  pub inputs : w.inputs ≡ length (net_inputs d)
  pub bodies : w.nodes.bodies.items ≡ map body_of d.elements
  pub wires : AreWires (draft_names d) d.elements (map number_of w.nodes.pins.items) w.nodes.ends.items w.nodes.registers
  pub outputs : map number_of w.outputs.items ≡ map (number_in (draft_names d)) d.outputs
  pub clock : w.clock ≡ clock_of d

pub net_packed : (d : PlainDraft) (w : Inside) → IsPackedFrom d w → net_of w ≡ net_of_draft d
net_packed d w p = same_net w.model d.model (take w.inputs w.names.keys) (net_inputs d) (nodes_from 0 (drop w.inputs w.names.keys) w.nodes.bodies.items w.nodes.ends.items (map number_of w.nodes.pins.items)) (map (node_of_element (draft_names d)) d.elements) (map number_of w.outputs.items) (map (number_in (draft_names d)) d.outputs) w.clock (clock_of d)
    p.model
    (rw (p.names, p.inputs) (take_at (net_inputs d) (map out_of d.elements) (length (net_inputs d)) refl))
    (rw (p.names, p.inputs, p.bodies, drop_at (net_inputs d) (map out_of d.elements) (length (net_inputs d)) refl) p.wires.nodes)
    p.outputs
    p.clock

pub wiring_packed : (d : PlainDraft) (w : Inside) → IsPackedFrom d w → IsUnordered (net_of_draft d) → IsWiring w
wiring_packed d w p valid = record {
  named = rw (p.names, p.inputs, p.bodies) (length-append (net_inputs d) (map out_of d.elements) ∙ ap (λ k. length (net_inputs d) + k) (length-map d.elements out_of ∙ sym (length-map d.elements body_of)));
  cut = rw (p.bodies, ← length-map w.nodes.pins.items number_of) p.wires.cut;
  registers = p.wires.latches ∙ ap register_count (sym (net_packed d w p));
  net = subst (λ (n : Net). IsUnordered n) (sym (net_packed d w p)) valid;
}

pub names_of_nets : (d : PlainDraft) (o : Option (Edge × List ℕ)) (all keys : List (List ℕ)) → o ≡ clock_of d → MatchOption o (keys ≡ all) (λ c. keys ≡ remove_key (bytes_eq c.1) all) → all ≡ d.inputs ++ map out_of d.elements → AreDistinct d.inputs → HasCleanClock d → keys ≡ draft_names d
names_of_nets d None all keys e k are distinct clean = names_with_all d keys (sym e) (k ∙ are)
names_of_nets d (Some (edge, clock)) all keys e k are distinct clean =
    names_without d edge clock keys distinct (sym e) (clock_is_input d edge clock clean (sym e)) (k ∙ ap (remove_key (bytes_eq clock)) are)

pub bodies_map : {X : Type 0} (f : X → Element) (xs : List X) → map (λ x. body_of (f x)) xs ≡ map body_of (map f xs)
bodies_map f [] = refl
bodies_map f (x ∷ xs) = ap (λ bs. body_of (f x) ∷ bs) (bodies_map f xs)
