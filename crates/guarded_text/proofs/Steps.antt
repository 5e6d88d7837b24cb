-- What comes at each step of the text.
use Rattle.std.proofs.Common.{◌≡◌, ℕ, ◌+◌, ◌-◌, ◌<◌, ◌≤◌, Bool, true, false, List, [], ◌∷◌, ◌++◌, length, Option, sym, ap, ◌∙◌, append_assoc, arith}
use Rattle.std.specs.Prelude.{codes, nat_eq, nat_lt, slice_index, if◌then◌else◌}
use Rattle.std.specs.List.{flat_map}
use Rattle.std.proofs.lemmas.Bool.{eq-eqb, ne_eqb, lt-ltb, le-ltb}
use Rattle.flat_net.specs.Net.{Net, Node, node_of, name_of}
use Rattle.blif_writer.specs.Left.{spaced, spaced_line}
use Rattle.blif_writer.specs.Text.{clock_words}
use Rattle.dwc.proofs.Making.{node_at}
use Rattle.guarded_text.specs.Private.Spelled.{two_spelled, comparator_text, alarm_end}
use Rattle.guarded_text.specs.Private.Lines.{guarded_clock, copy_text}
use Rattle.guarded_text.specs.Private.Steps.{ports_text, twins_at, comparator_name, alarm_step, compared_step, guarded_step}

yes : {A : Type 0} (b : Bool) (x y : A) → b ≡ true → x ≡ (if b then x else y)
yes b x y e = ap (λ (c : Bool). if c then x else y) (sym e)

no : {A : Type 0} (b : Bool) (x y : A) → b ≡ false → y ≡ (if b then x else y)
no b x y e = ap (λ (c : Bool). if c then x else y) (sym e)

-- ---- the alarm

pub alarm_word : (n : Net) (k : ℕ) → k ≡ 0 → codes ".names" ≡ alarm_step n k
unfolding alarm_step
alarm_word n k e = yes (nat_eq k 0) (codes ".names") _ (eq-eqb k 0 e)

pub alarm_name : (n : Net) (k j : ℕ) → j ≡ k - 1 → 0 < k → j < length n.outputs → comparator_name n j ≡ alarm_step n k
unfolding alarm_step
alarm_name n k j e some low =
    ap (comparator_name n) e
    ∙ (yes (nat_lt (k - 1) (length n.outputs)) (comparator_name n (k - 1)) (alarm_end n) (lt-ltb (k - 1) (length n.outputs) (omega (arith, e, low)))
    ∙ no (nat_eq k 0) (codes ".names") _ (ne_eqb k 0 (λ z. omega (arith, z, some))))

pub alarm_ends : (n : Net) (k : ℕ) → 0 < k → length n.outputs ≤ k - 1 → alarm_end n ≡ alarm_step n k
unfolding alarm_step
alarm_ends n k some high =
    no (nat_lt (k - 1) (length n.outputs)) (comparator_name n (k - 1)) (alarm_end n) (le-ltb (k - 1) (length n.outputs) high)
    ∙ no (nat_eq k 0) (codes ".names") _ (ne_eqb k 0 (λ z. omega (arith, z, some)))

-- ---- what comes behind the nodes

pub compared_output : (n : Net) (k : ℕ) → k < length n.outputs → comparator_text (name_of n (slice_index n.outputs k)) ≡ compared_step n k
unfolding compared_step
compared_output n k low = yes (nat_lt k (length n.outputs)) (comparator_text (name_of n (slice_index n.outputs k))) (alarm_step n (k - length n.outputs)) (lt-ltb k (length n.outputs) low)

pub compared_alarm : (n : Net) (k j : ℕ) → j ≡ k - length n.outputs → length n.outputs ≤ k → alarm_step n j ≡ compared_step n k
unfolding compared_step
compared_alarm n k j e high =
    ap (alarm_step n) e
    ∙ no (nat_lt k (length n.outputs)) (comparator_text (name_of n (slice_index n.outputs k))) (alarm_step n (k - length n.outputs)) (le-ltb k (length n.outputs) high)

-- ---- the text

-- the ports, put line by line
pub ports_put : (n : Net) (out new : List ℕ) → new ≡ ((out ++ spaced_line (codes ".model") (n.model ∷ []))
    ++ (codes ".inputs" ++ (flat_map two_spelled n.inputs ++ (spaced (clock_words (guarded_clock n.clock)) ++ 10 ∷ []))))
    ++ (codes ".outputs" ++ (flat_map (λ y. two_spelled (name_of n y)) n.outputs ++ codes " alarm~z\n")) → new ≡ out ++ ports_text n
ports_put n out new put = put ∙ regroup out (spaced_line (codes ".model") (n.model ∷ []))
    (codes ".inputs" ++ (flat_map two_spelled n.inputs ++ (spaced (clock_words (guarded_clock n.clock)) ++ 10 ∷ [])))
    (codes ".outputs" ++ (flat_map (λ y. two_spelled (name_of n y)) n.outputs ++ codes " alarm~z\n"))
  where
    regroup : (o a b c : List ℕ) → ((o ++ a) ++ b) ++ c ≡ o ++ (a ++ (b ++ c))
    regroup o a b c = append_assoc (o ++ a) b c ∙ append_assoc o a (b ++ c)

-- both copies of a node, put one by one
pub twins_put : (n : Net) (i x : ℕ) (out new : List ℕ) → i < length n.nodes → x ≡ length n.inputs + i
    → new ≡ (out ++ copy_text n 48 (node_of n x)) ++ copy_text n 49 (node_of n x) → new ≡ out ++ twins_at n i
twins_put n i x out new low place put =
    let p = node_at n i x low place in
    put ∙ (append_assoc out (copy_text n 48 (node_of n x)) (copy_text n 49 (node_of n x))
    ∙ ap (λ (o : Option Node). out ++ (copy_text n 48 o ++ copy_text n 49 o)) (p.is ∙ sym p.listed))

pub guarded_ports : (n : Net) (k : ℕ) → k ≡ 0 → ports_text n ≡ guarded_step n k
unfolding guarded_step
guarded_ports n k e = yes (nat_eq k 0) (ports_text n) _ (eq-eqb k 0 e)

pub guarded_twins : (n : Net) (k i : ℕ) → i ≡ k - 1 → 0 < k → i < length n.nodes → twins_at n i ≡ guarded_step n k
unfolding guarded_step
guarded_twins n k i e some low =
    ap (twins_at n) e
    ∙ (yes (nat_lt (k - 1) (length n.nodes)) (twins_at n (k - 1)) (compared_step n (k - 1 - length n.nodes)) (lt-ltb (k - 1) (length n.nodes) (omega (arith, e, low)))
    ∙ no (nat_eq k 0) (ports_text n) _ (ne_eqb k 0 (λ z. omega (arith, z, some))))

pub guarded_compared : (n : Net) (k j : ℕ) → j ≡ k - 1 - length n.nodes → 0 < k → length n.nodes ≤ k - 1 → compared_step n j ≡ guarded_step n k
unfolding guarded_step
guarded_compared n k j e some high =
    ap (compared_step n) e
    ∙ (no (nat_lt (k - 1) (length n.nodes)) (twins_at n (k - 1)) (compared_step n (k - 1 - length n.nodes)) (le-ltb (k - 1) (length n.nodes) high)
    ∙ no (nat_eq k 0) (ports_text n) _ (ne_eqb k 0 (λ z. omega (arith, z, some))))
