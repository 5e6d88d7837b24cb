-- The draft of the one model has no fault, and gives the design back.
use Rattle.std.proofs.Common.{◌≡◌, ◌≢◌, ℕ, suc, ◌+◌, ◌-◌, ◌<◌, ◌⊎◌, inl, inr, Bool, true, false, cond, List, [], ◌∷◌, ◌++◌, length, map, get_or, slice_get, Option, Some, None, refl, sym, ap, subst, ◌∙◌, append_assoc, arith}
use Rattle.std.specs.Prelude.{◌||◌, not, count_by, filter, codes, All}
use Rattle.std.specs.List.{flat_map}
use Rattle.std.specs.Str.{bytes_eq}
use Rattle.std.proofs.lemmas.List.{append-nil, length-append, map-append, get_or_default, get_or_push}
use Rattle.std.proofs.lemmas.List.Sums.{sum_by-cons}
use Rattle.std.proofs.lemmas.List.Elements.{filter-append, All-head, All-tail}
use Rattle.std.proofs.lemmas.List.Folds.{list_any_at}
use Rattle.tmr_base.specs.declared.ids.Edge.{Edge}
use Rattle.tmr_base.specs.declared.ids.Edge.TheVariants.{Rising, Falling}
use Rattle.flat_net.specs.Net.{Net, Node, Table, Register, IsValid, IsWired, IsClockOf, IsOrder, IsInitOf, net_count, net_names, name_of, node_of, node_name, is_register, register_count}
use Rattle.flat_net.specs.Draft.{PlainDraft, Element, TableOf, LatchOf, out_of, reads_of}
use Rattle.flat_net.specs.Faults.{is_among, first_control, clock_from, clock_of, is_clock, net_inputs, draft_names, number_in, node_of_element, net_of_draft, is_driven_before, same_control, is_unlike_any, is_mixed, draft_reads, is_no_net, IsDrivenOnce, HasOneClock, HasCleanClock, IsDriven, IsFaultless}
use Rattle.flat_net.proofs.Names.{eq_true, eq_false}
use Rattle.flat_net.proofs.Sound.{among_number}
use Rattle.blif_text.specs.Library.{Differ}
use Rattle.hierarchy.specs.Drafted.{starts_with, drafted, draft_of, is_open, open_mark, open_marks, assumed}
use Rattle.hierarchy.proofs.Marks.{marks_counted}
use Rattle.flat_net.specs.Free.{node_bit}
use Rattle.flat_net.proofs.Slots.{slot_at}
use Rattle.library_faults.proofs.NameSets.{none_before}
use Rattle.blif_writer.specs.Text.{start_of, with_marks, net_words, clock_words}
use Rattle.blif_writer.specs.Model.{element_of, free_model}
use Rattle.blif_writer.proofs.NodeLines.{input_name, bit_of, bit_is}
use Rattle.blif_writer.proofs.Differing.{differ_from}
use Rattle.blif_writer.proofs.Valid.{names_long, whole_apart, EachNode, each_node}

-- ---- the draft

abbrev draft_element : Net → Node → Element
draft_element n (Table name cover pins) = TableOf (net_words n pins) name cover
draft_element n (Register name init pin) = LatchOf (name_of n pin) name n.clock init

abbrev draft_elements : Net → List Element
draft_elements n = map (draft_element n) n.nodes

abbrev pub net_draft : Net → PlainDraft
net_draft n = record { model = n.model; inputs = n.inputs ++ clock_words n.clock; outputs = net_words n n.outputs; elements = draft_elements n }

starts_again : (free init : Bool) → (free ≡ true → init ≡ false) → starts_with (start_of free init) ≡ init
starts_again true init h = sym (h refl)
starts_again false true h = refl
starts_again false false h = refl

open_again : (free init : Bool) → is_open (start_of free init) ≡ free
open_again true init = refl
open_again false true = refl
open_again false false = refl

-- marked are only registers whose initial value is 0
abbrev pub IsMarkable : Node × Bool → Type 0
IsMarkable (Table name cover pins, free) = free ≡ false
IsMarkable (Register name init pin, free) = free ≡ true → init ≡ false

abbrev pub AreMarkable : List (Node × Bool) → Type 0
AreMarkable [] = Unit {0}
AreMarkable (node ∷ nodes) = IsMarkable node × AreMarkable nodes

markable_one : (node : Node) (free : Bool) → (free ≡ true → IsInitOf (Some node) false) → IsMarkable (node, free)
markable_one (Table name cover pins) false h = refl
markable_one (Table name cover pins) true h = absurd (h refl)
markable_one (Register name init pin) free h = h

markable_from : (free : List Bool) (nodes : List Node) → ((i : ℕ) → i < length nodes → bit_of free i ≡ true → IsInitOf (slice_get nodes i) false) → AreMarkable (with_marks free nodes)
unfolding with_marks
markable_from [] [] each = tt
markable_from (bit ∷ free) [] each = tt
markable_from [] (node ∷ nodes) each = (markable_one node false (each 0 (omega arith)), markable_from [] nodes (λ i l. each (suc i) (omega (arith, l))))
markable_from (bit ∷ free) (node ∷ nodes) each = (markable_one node bit (each 0 (omega arith)), markable_from free nodes (λ i l. each (suc i) (omega (arith, l))))

pub markable : (n : Net) (free : List Bool) → ((x : ℕ) → node_bit (length n.inputs) free x ≡ true → IsInitOf (node_of n x) false) → AreMarkable (with_marks free n.nodes)
markable n free marks = markable_from free n.nodes (λ i l e. subst (λ (o : Option Node). IsInitOf o false) (there i) (marks (length n.inputs + i) (bit_is (length n.inputs) free (length n.inputs + i) i refl ∙ e)))
  where
    there : (i : ℕ) → node_of n (length n.inputs + i) ≡ slice_get n.nodes i
    there i = let less : length n.inputs + i - length n.inputs ≡ i = omega arith in slot_at (length n.inputs) n.nodes (length n.inputs + i) (omega arith) ∙ ap (slice_get n.nodes) less

no_bit : (i : ℕ) → bit_of [] i ≡ true → ⊥
no_bit i e = cc

pub none_markable : (n : Net) → AreMarkable (with_marks [] n.nodes)
none_markable n = markable_from [] n.nodes (λ i l e. absurd (no_bit i e))

one_drafted : (n : Net) (node : Node) (bit : Bool) (rest : List (Node × Bool)) (nodes : List Node) → IsMarkable (node, bit) → flat_map drafted (map (element_of n) rest) ≡ map (draft_element n) nodes → flat_map drafted (map (element_of n) ((node, bit) ∷ rest)) ≡ map (draft_element n) (node ∷ nodes)
one_drafted n (Table name cover pins) bit rest nodes ok e = ap (λ (es : List Element). TableOf (net_words n pins) name cover ∷ es) e
one_drafted n (Register name init pin) bit rest nodes ok e = ap (λ (b : Bool). LatchOf (name_of n pin) name n.clock b ∷ flat_map drafted (map (element_of n) rest)) (starts_again bit init ok) ∙ ap (λ (es : List Element). LatchOf (name_of n pin) name n.clock init ∷ es) e

drafted_again : (n : Net) (free : List Bool) (nodes : List Node) → AreMarkable (with_marks free nodes) → flat_map drafted (map (element_of n) (with_marks free nodes)) ≡ map (draft_element n) nodes
unfolding with_marks
drafted_again n [] [] ok = refl
drafted_again n (bit ∷ free) [] ok = refl
drafted_again n [] (node ∷ nodes) ok = one_drafted n node false (with_marks [] nodes) nodes ok.0 (drafted_again n [] nodes ok.1)
drafted_again n (bit ∷ free) (node ∷ nodes) ok = one_drafted n node bit (with_marks free nodes) nodes ok.0 (drafted_again n free nodes ok.1)

pub draft_is : (n : Net) (free : List Bool) → AreMarkable (with_marks free n.nodes) → draft_of (free_model n free) ≡ net_draft n
unfolding draft_of free_model
draft_is n free ok = ap (λ (es : List Element). let d : PlainDraft = record { model = n.model; inputs = n.inputs ++ clock_words n.clock; outputs = net_words n n.outputs; elements = es } in d) (drafted_again n free n.nodes ok)

-- ---- the marks

abbrev pub mark_in : Node × Bool → Bool
mark_in node = node.1

marks_again : (n : Net) (nodes : List (Node × Bool)) → AreMarkable nodes → flat_map open_mark (map (element_of n) nodes) ≡ map mark_in nodes
marks_again n [] ok = refl
marks_again n ((Table name cover pins, free) ∷ nodes) ok = ap (λ (b : Bool). b ∷ flat_map open_mark (map (element_of n) nodes)) (sym ok.0) ∙ ap (λ (bs : List Bool). free ∷ bs) (marks_again n nodes ok.1)
marks_again n ((Register name init pin, free) ∷ nodes) ok = ap (λ (b : Bool). b ∷ flat_map open_mark (map (element_of n) nodes)) (open_again free init) ∙ ap (λ (bs : List Bool). free ∷ bs) (marks_again n nodes ok.1)

all_marks : (free : List Bool) (nodes : List Node) → length free ≡ length nodes → map mark_in (with_marks free nodes) ≡ free
unfolding with_marks
all_marks [] [] e = refl
all_marks (bit ∷ free) [] e = absurd (omega (arith, e))
all_marks [] (node ∷ nodes) e = absurd (omega (arith, e))
all_marks (bit ∷ free) (node ∷ nodes) e = ap (λ (bs : List Bool). bit ∷ bs) (all_marks free nodes (omega (arith, e)))

no_marks : (nodes : List Node) → count_by (λ bit. bit) (map mark_in (with_marks [] nodes)) ≡ 0
unfolding with_marks
no_marks [] = refl
no_marks (node ∷ nodes) = sum_by-cons (λ bit. cond bit 1 0) false (map mark_in (with_marks [] nodes)) ∙ ap (λ (k : ℕ). 0 + k) (no_marks nodes)

-- the marks are read back
pub open_are : (n : Net) (free : List Bool) → length free ≡ length n.nodes → AreMarkable (with_marks free n.nodes) → free ≡ open_marks (free_model n free)
unfolding open_marks free_model
open_are n free long ok = sym (marks_again n (with_marks free n.nodes) ok ∙ all_marks free n.nodes long)

no_open : (n : Net) → open_marks (free_model n []) ≡ map mark_in (with_marks [] n.nodes)
unfolding open_marks free_model
no_open n = marks_again n (with_marks [] n.nodes) (none_markable n)

-- without marks no initial value is open
pub none_assumed : (n : Net) → 0 ≡ assumed (free_model n [])
none_assumed n = sym (sym (marks_counted (free_model n [])) ∙ (ap (count_by (λ bit. bit)) (no_open n) ∙ no_marks n.nodes))

-- ---- the clock

clock_first : (n : Net) (nodes : List Node) → (first_control (map (draft_element n) nodes) ≡ Some n.clock) ⊎ ((first_control (map (draft_element n) nodes) ≡ None) × (count_by is_register nodes ≡ 0))
clock_first n [] = inr (refl, refl)
clock_first n (Register name init pin ∷ nodes) = inl refl
clock_first n (Table name cover pins ∷ nodes) = go (clock_first n nodes)
  where
    go : (first_control (map (draft_element n) nodes) ≡ Some n.clock) ⊎ ((first_control (map (draft_element n) nodes) ≡ None) × (count_by is_register nodes ≡ 0)) → (first_control (map (draft_element n) nodes) ≡ Some n.clock) ⊎ ((first_control (map (draft_element n) nodes) ≡ None) × (count_by is_register (Table name cover pins ∷ nodes) ≡ 0))
    go (inl e) = inl e
    go (inr p) = inr (p.0, sum_by-cons (λ x. cond (is_register x) 1 0) (Table name cover pins) nodes ∙ ap (λ (k : ℕ). 0 + k) p.1)

clock_again : (n : Net) → IsValid n → clock_of (net_draft n) ≡ n.clock
clock_again n v = go (clock_first n n.nodes)
  where
    unclocked : (c : Option (Edge × List ℕ)) → IsClockOf n c → register_count n ≡ 0 → None ≡ c
    unclocked None h e = refl
    unclocked (Some (edge, name)) h e = absurd (omega (arith, h.3, e))

    go : (first_control (draft_elements n) ≡ Some n.clock) ⊎ ((first_control (draft_elements n) ≡ None) × (count_by is_register n.nodes ≡ 0)) → clock_of (net_draft n) ≡ n.clock
    go (inl e) = ap clock_from e
    go (inr p) = ap clock_from p.0 ∙ unclocked n.clock v.unordered.clock p.1

-- ---- the names

all_kept : (p : List ℕ → Bool) (names : List (List ℕ)) → ((k : ℕ) → k < length names → p (get_or names k []) ≡ true) → filter p names ≡ names
all_kept p [] kept = refl
all_kept p (name ∷ names) kept = rw (kept 0 (omega arith)) (ap (λ (ns : List (List ℕ)). name ∷ ns) (all_kept p names (λ k lt. kept (suc k) (omega arith))))

-- the clock is no net
clock_apart : (n : Net) (edge : Edge) (clock : List ℕ) → IsClockOf n (Some (edge, clock)) → (x : ℕ) → x < net_count n → clock ≢ name_of n x
clock_apart n edge clock h x lt e =
    let within : x < length (net_names n) = omega (arith, names_long n) in
    h.2 (x, within, get_or_default (net_names n) x clock [] within ∙ sym e)

-- each of the names is that of a net
abbrev AreNets : Net → List (List ℕ) → Type 0
AreNets n [] = Unit {0}
AreNets n (name ∷ names) = ((x : ℕ) × (x < net_count n) × (name ≡ name_of n x)) × AreNets n names

nets_join : (n : Net) (xs ys : List (List ℕ)) → AreNets n xs → AreNets n ys → AreNets n (xs ++ ys)
nets_join n [] ys a b = b
nets_join n (x ∷ xs) ys a b = (a.0, nets_join n xs ys a.1 b)

nets_right : (n : Net) (xs ys : List (List ℕ)) → AreNets n (xs ++ ys) → AreNets n ys
nets_right n [] ys a = a
nets_right n (x ∷ xs) ys a = nets_right n xs ys a.1

words_are_nets : (n : Net) (nets : List ℕ) → All (λ x. x < net_count n) nets → AreNets n (net_words n nets)
words_are_nets n [] all = tt
words_are_nets n (x ∷ nets) all = ((x, All-head (λ y. y < net_count n) x nets all, refl), words_are_nets n nets (All-tail (λ y. y < net_count n) x nets all))

not_clock : (n : Net) (edge : Edge) (clock : List ℕ) (names : List (List ℕ)) → IsClockOf n (Some (edge, clock)) → AreNets n names → is_among names clock ≡ false
not_clock n edge clock [] h a = refl
not_clock n edge clock (name ∷ names) h a =
    let x = a.0.0 in
    rw (eq_false clock name (λ e. clock_apart n edge clock h x a.0.1 (e ∙ a.0.2)), not_clock n edge clock names h a.1) refl

is_net : (n : Net) (name : List ℕ) (x : ℕ) → x < net_count n → name ≡ name_of n x → is_among (net_names n) name ≡ true
is_net n name x lt e = list_any_at (bytes_eq name) (net_names n) x [] (omega (arith, names_long n)) (eq_true name (name_of n x) e)

-- ---- the design

inputs_again : (n : Net) → IsValid n → net_inputs (net_draft n) ≡ n.inputs
inputs_again n v = ap (λ (c : Option (Edge × List ℕ)). filter (λ name. not (is_clock c name)) (n.inputs ++ clock_words n.clock)) (clock_again n v) ∙ go n.clock v.unordered.clock
  where
    kept_with : (edge : Edge) (clock : List ℕ) → IsClockOf n (Some (edge, clock)) → (k : ℕ) → k < length n.inputs → not (bytes_eq clock (get_or n.inputs k [])) ≡ true
    kept_with edge clock h k lt = ap not (eq_false clock (get_or n.inputs k []) (λ e. clock_apart n edge clock h k (omega arith) (e ∙ sym (input_name n k lt))))

    go : (c : Option (Edge × List ℕ)) → IsClockOf n c → filter (λ name. not (is_clock c name)) (n.inputs ++ clock_words c) ≡ n.inputs
    go None h = ap (filter (λ name. not (is_clock None name))) (append-nil n.inputs) ∙ all_kept (λ name. not (is_clock None name)) n.inputs (λ k lt. refl)
    go (Some (edge, clock)) h =
        let p : List ℕ → Bool = λ name. not (bytes_eq clock name) in
        let dropped : filter p (clock ∷ []) ≡ [] = rw (eq_true clock clock refl) refl in
        filter-append p n.inputs (clock ∷ []) ∙ (ap (λ (ns : List (List ℕ)). filter p n.inputs ++ ns) dropped ∙ (append-nil (filter p n.inputs) ∙ all_kept p n.inputs (kept_with edge clock h)))

outs_again : (n : Net) (nodes : List Node) → map out_of (map (draft_element n) nodes) ≡ map node_name nodes
outs_again n [] = refl
outs_again n (Table name cover pins ∷ nodes) = ap (λ (ns : List (List ℕ)). name ∷ ns) (outs_again n nodes)
outs_again n (Register name init pin ∷ nodes) = ap (λ (ns : List (List ℕ)). name ∷ ns) (outs_again n nodes)

names_again : (n : Net) → IsValid n → draft_names (net_draft n) ≡ net_names n
names_again n v = ap (λ (ins : List (List ℕ)). ins ++ map out_of (draft_elements n)) (inputs_again n v) ∙ ap (λ (outs : List (List ℕ)). n.inputs ++ outs) (outs_again n n.nodes)

number_again : (n : Net) (x : ℕ) → IsValid n → x < net_count n → number_in (net_names n) (name_of n x) ≡ x
number_again n x v lt =
    let found = among_number (net_names n) (name_of n x) (is_net n (name_of n x) x lt refl) in
    v.unordered.names_differ (number_in (net_names n) (name_of n x)) x (omega (arith, names_long n, found.0)) lt found.1

numbers_again : (n : Net) (nets : List ℕ) → IsValid n → All (λ x. x < net_count n) nets → map (number_in (net_names n)) (net_words n nets) ≡ nets
numbers_again n [] v all = refl
numbers_again n (x ∷ nets) v all =
    ap (λ (y : ℕ). y ∷ map (number_in (net_names n)) (net_words n nets)) (number_again n x v (All-head (λ y. y < net_count n) x nets all)) ∙ ap (λ (ys : List ℕ). x ∷ ys) (numbers_again n nets v (All-tail (λ y. y < net_count n) x nets all))

node_again : (n : Net) (node : Node) → IsValid n → IsWired (net_count n) node → node_of_element (net_names n) (draft_element n node) ≡ node
node_again n (Table name cover pins) v wired = ap (λ (ps : List ℕ). Table name cover ps) (numbers_again n pins v wired.0)
node_again n (Register name init pin) v wired = ap (λ (p : ℕ). Register name init p) (number_again n pin v wired)

nodes_again : (n : Net) (nodes : List Node) → IsValid n → EachNode (IsWired (net_count n)) nodes → map (node_of_element (net_names n)) (map (draft_element n) nodes) ≡ nodes
nodes_again n [] v each = refl
nodes_again n (node ∷ nodes) v each =
    ap (λ (m : Node). m ∷ map (node_of_element (net_names n)) (map (draft_element n) nodes)) (node_again n node v each.0) ∙ ap (λ (ms : List Node). node ∷ ms) (nodes_again n nodes v each.1)

all_wired : (n : Net) → IsValid n → EachNode (IsWired (net_count n)) n.nodes
all_wired n v = each_node n (IsWired (net_count n)) (λ x node lt at. v.unordered.wired x node at)

same_net : (m : List ℕ) (i j : List (List ℕ)) (ns ms : List Node) (os ps : List ℕ) (c d : Option (Edge × List ℕ)) → i ≡ j → ns ≡ ms → os ≡ ps → c ≡ d
    → (let a : Net = record { model = m; inputs = i; nodes = ns; outputs = os; clock = c } in a) ≡ (let b : Net = record { model = m; inputs = j; nodes = ms; outputs = ps; clock = d } in b)
same_net m i j ns ms os ps c d e1 e2 e3 e4 = cc

pub net_again : (n : Net) → IsValid n → net_of_draft (net_draft n) ≡ n
net_again n v =
    let nodes : map (node_of_element (draft_names (net_draft n))) (draft_elements n) ≡ n.nodes = ap (λ (names : List (List ℕ)). map (node_of_element names) (draft_elements n)) (names_again n v) ∙ nodes_again n n.nodes v (all_wired n v) in
    let outputs : map (number_in (draft_names (net_draft n))) (net_words n n.outputs) ≡ n.outputs = ap (λ (names : List (List ℕ)). map (number_in names) (net_words n n.outputs)) (names_again n v) ∙ numbers_again n n.outputs v v.unordered.outputs_in_range in
    same_net n.model (net_inputs (net_draft n)) n.inputs (map (node_of_element (draft_names (net_draft n))) (draft_elements n)) n.nodes (map (number_in (draft_names (net_draft n))) (net_words n n.outputs)) n.outputs (clock_of (net_draft n)) n.clock (inputs_again n v) nodes outputs (clock_again n v)

-- ---- no fault

driven_once : (n : Net) → IsValid n → IsDrivenOnce (net_draft n)
driven_once n v = record { none = none }
  where
    none : (before : List Element) (x : Element) (after : List Element) → draft_elements n ≡ before ++ x ∷ after → is_driven_before (n.inputs ++ clock_words n.clock) before x ≡ false
    none before x after e =
        let ins = n.inputs ++ clock_words n.clock in
        let outs : map node_name n.nodes ≡ map out_of before ++ out_of x ∷ map out_of after = sym (outs_again n n.nodes) ∙ (ap (map out_of) e ∙ map-append out_of before (x ∷ after)) in
        let whole : ins ++ map node_name n.nodes ≡ (ins ++ map out_of before) ++ out_of x ∷ map out_of after = ap (λ (os : List (List ℕ)). ins ++ os) outs ∙ sym (append_assoc ins (map out_of before) (out_of x ∷ map out_of after)) in
        none_before (ins ++ map out_of before) (out_of x) (map out_of after) (subst Differ whole (differ_from (ins ++ map node_name n.nodes) (whole_apart n v)))

same_self : (c : Option (Edge × List ℕ)) → same_control c c ≡ true
same_self None = refl
same_self (Some (Rising, name)) = eq_true name name refl
same_self (Some (Falling, name)) = eq_true name name refl

-- each latch has this control
abbrev HasControl : Option (Edge × List ℕ) → Element → Type 0
HasControl c (TableOf pins out cover) = Unit {0}
HasControl c (LatchOf pin out control init) = control ≡ c

abbrev HaveControl : Option (Edge × List ℕ) → List Element → Type 0
HaveControl c [] = Unit {0}
HaveControl c (e ∷ es) = HasControl c e × HaveControl c es

control_left : (c : Option (Edge × List ℕ)) (xs ys : List Element) → HaveControl c (xs ++ ys) → HaveControl c xs
control_left c [] ys h = tt
control_left c (x ∷ xs) ys h = (h.0, control_left c xs ys h.1)

control_right : (c : Option (Edge × List ℕ)) (xs ys : List Element) → HaveControl c (xs ++ ys) → HaveControl c ys
control_right c [] ys h = h
control_right c (x ∷ xs) ys h = control_right c xs ys h.1

first_is : (c : Option (Edge × List ℕ)) (es : List Element) → HaveControl c es → (first_control es ≡ None) ⊎ (first_control es ≡ Some c)
first_is c [] h = inl refl
first_is c (TableOf pins out cover ∷ es) h = first_is c es h.1
first_is c (LatchOf pin out control init ∷ es) h = inr (ap (λ (d : Option (Edge × List ℕ)). let o : Option (Option (Edge × List ℕ)) = Some d in o) h.0)

all_controls : (n : Net) (nodes : List Node) → HaveControl n.clock (map (draft_element n) nodes)
all_controls n [] = tt
all_controls n (Table name cover pins ∷ nodes) = (tt, all_controls n nodes)
all_controls n (Register name init pin ∷ nodes) = (refl, all_controls n nodes)

unmixed : (c : Option (Edge × List ℕ)) (before : List Element) (x : Element) → HasControl c x → (first_control before ≡ None) ⊎ (first_control before ≡ Some c) → is_mixed before x ≡ false
unmixed c before x h (inl e) = ap (λ (o : Option (Option (Edge × List ℕ))). is_unlike_any o x) e
unmixed c before (TableOf pins out cover) h (inr e) = ap (λ (o : Option (Option (Edge × List ℕ))). is_unlike_any o (TableOf pins out cover)) e
unmixed c before (LatchOf pin out control init) h (inr e) =
    ap (λ (o : Option (Option (Edge × List ℕ))). is_unlike_any o (LatchOf pin out control init)) e ∙ (ap (λ (d : Option (Edge × List ℕ)). not (same_control c d)) h ∙ ap not (same_self c))

one_clock : (n : Net) → HasOneClock (net_draft n)
one_clock n = record { none = none }
  where
    none : (before : List Element) (x : Element) (after : List Element) → draft_elements n ≡ before ++ x ∷ after → is_mixed before x ≡ false
    none before x after e =
        let all : HaveControl n.clock (before ++ x ∷ after) = subst (HaveControl n.clock) e (all_controls n n.nodes) in
        unmixed n.clock before x (control_right n.clock before (x ∷ after) all).0 (first_is n.clock before (control_left n.clock before (x ∷ after) all))

reads_again : (n : Net) (nodes : List Node) → EachNode (IsWired (net_count n)) nodes → AreNets n (flat_map reads_of (map (draft_element n) nodes))
reads_again n [] each = tt
reads_again n (Table name cover pins ∷ nodes) each = nets_join n (net_words n pins) (flat_map reads_of (map (draft_element n) nodes)) (words_are_nets n pins each.0.0) (reads_again n nodes each.1)
reads_again n (Register name init pin ∷ nodes) each = ((pin, each.0, refl), reads_again n nodes each.1)

clean_clock : (n : Net) → IsValid n → HasCleanClock (net_draft n)
clean_clock n v edge clock e =
    let is : n.clock ≡ Some (edge, clock) = sym (clock_again n v) ∙ e in
    let h : IsClockOf n (Some (edge, clock)) = subst (IsClockOf n) is v.unordered.clock in
    let input : is_among (n.inputs ++ clock_words n.clock) clock ≡ true = ap (λ (c : Option (Edge × List ℕ)). is_among (n.inputs ++ clock_words c) clock) is ∙ last_input clock in
    let reads : is_among (draft_reads (net_draft n)) clock ≡ false = not_clock n edge clock (draft_reads (net_draft n)) h (reads_again n n.nodes (all_wired n v)) in
    let outputs : is_among (net_words n n.outputs) clock ≡ false = not_clock n edge clock (net_words n n.outputs) h (words_are_nets n n.outputs v.unordered.outputs_in_range) in
    all_false (bytes_eq clock (codes "NIL")) (is_among (n.inputs ++ clock_words n.clock) clock) (is_among (draft_reads (net_draft n)) clock) (is_among (net_words n n.outputs) clock) (eq_false clock (codes "NIL") h.1) input reads outputs
  where
    last_input : (clock : List ℕ) → is_among (n.inputs ++ clock ∷ []) clock ≡ true
    last_input clock = list_any_at (bytes_eq clock) (n.inputs ++ clock ∷ []) (length n.inputs) [] (omega (arith, length-append n.inputs (clock ∷ []))) (eq_true clock (get_or (n.inputs ++ clock ∷ []) (length n.inputs) []) (sym (get_or_push n.inputs clock [] (length n.inputs) refl)))

    all_false : (a b c d : Bool) → a ≡ false → b ≡ true → c ≡ false → d ≡ false → a || not b || c || d ≡ false
    all_false a b c d ea eb ec ed = rw (ea, eb, ec, ed) refl

driven : (n : Net) → IsValid n → IsDriven (net_draft n)
driven n v = record { none = none }
  where
    all : AreNets n (draft_reads (net_draft n) ++ net_words n n.outputs)
    all = nets_join n (draft_reads (net_draft n)) (net_words n n.outputs) (reads_again n n.nodes (all_wired n v)) (words_are_nets n n.outputs v.unordered.outputs_in_range)

    none : (before : List (List ℕ)) (x : List ℕ) (after : List (List ℕ)) → draft_reads (net_draft n) ++ net_words n n.outputs ≡ before ++ x ∷ after → is_no_net (draft_names (net_draft n)) before x ≡ false
    none before x after e =
        let rest = nets_right n before (x ∷ after) (subst (AreNets n) e all) in
        ap (λ (names : List (List ℕ)). not (is_among names x)) (names_again n v) ∙ ap not (is_net n x rest.0.0 rest.0.1 rest.0.2)

pub faultless : (n : Net) → IsValid n → IsFaultless (net_draft n)
faultless n v = record {
  driven_once = driven_once n v;
  one_clock = one_clock n;
  clean_clock = clean_clock n v;
  driven = driven n v;
  ordered = (v.ordered.0, subst (λ (m : Net). IsOrder m v.ordered.0) (sym (net_again n v)) v.ordered.1);
}
