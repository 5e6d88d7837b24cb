-- The latches of registers.
use Rattle.std.proofs.Common.{◌≡◌, ℕ, zero, suc, ◌+◌, ◌<◌, Bool, true, false, List, [], ◌∷◌, ◌++◌, length, drop, take, map, get_or, slice_get, slice_index, Option, Some, None, refl, sym, ◌∙◌, ap, arith, drop-cons, append_assoc}
use Rattle.std.specs.Prelude.{if◌then◌else◌}
use Rattle.std.proofs.lemmas.List.{append-nil}
use Rattle.flat_net.specs.Net.{Design, Net, Node, Table, Register, node_of, pins_at, IsRegister, IsInitOf}
use Rattle.blif_writer.proofs.NodeLines.{node_at}
use Rattle.aag_text.specs.declared.aig.Literal.{Literal}
use Rattle.aag_text.specs.declared.aig.Latch.{Latch}
use Rattle.aag_text.specs.Same.{registers_from, init_of}
use Rattle.aag_text.specs.Private.Nets.{literal_at, is_register_at, pin_of, latch_at, latches_at}

pub init_is : (o : Option Node) (b : Bool) → IsInitOf o b → init_of o ≡ b
init_is None b is = absurd is
init_is (Some (Table name cover pins)) b is = absurd is
init_is (Some (Register name init pin)) b is = is

pub one_pin : (o : Option Node) → IsRegister o → length (pins_at o) ≡ 1
one_pin None is = absurd is
one_pin (Some (Table name cover pins)) is = absurd is
one_pin (Some (Register name init pin)) is = refl

pub pin_is : (o : Option Node) → IsRegister o → slice_index (pins_at o) 0 ≡ pin_of o
pin_is None is = absurd is
pin_is (Some (Table name cover pins)) is = absurd is
pin_is (Some (Register name init pin)) is = refl

pub register_is : (o : Option Node) → is_register_at o ≡ true → IsRegister o
register_is None e = absurd (cc)
register_is (Some (Table name cover pins)) e = absurd (cc)
register_is (Some (Register name init pin)) e = tt

pub no_latch : (n : Net) (free : List Bool) (literals : List Literal) (x : ℕ) (out : List Latch) → is_register_at (node_of n x) ≡ false → out ≡ out ++ latches_at n free literals x
no_latch n free literals x out e = sym (ap (λ (b : Bool). out ++ (if b then latch_at n free literals x ∷ [] else [])) e ∙ append-nil out)

one_node : (n : Net) (free : List Bool) (literals : List Literal) (x : ℕ) (node : Node) (nodes : List Node) → node_of n x ≡ Some node → map (latch_at n free literals) (registers_from x (node ∷ nodes)) ≡ latches_at n free literals x ++ map (latch_at n free literals) (registers_from (x + 1) nodes)
one_node n free literals x (Table name cover pins) nodes e = sym (ap (λ (o : Option Node). (if is_register_at o then latch_at n free literals x ∷ [] else []) ++ map (latch_at n free literals) (registers_from (x + 1) nodes)) e)
one_node n free literals x (Register name init pin) nodes e = sym (ap (λ (o : Option Node). (if is_register_at o then latch_at n free literals x ∷ [] else []) ++ map (latch_at n free literals) (registers_from (x + 1) nodes)) e)

-- one node more
pub latches_more : (n : Net) (free : List Bool) (literals : List Literal) (i : ℕ) (old new total : List Latch) → i < length n.nodes → new ≡ old ++ latches_at n free literals (length n.inputs + i)
    → old ++ map (latch_at n free literals) (registers_from (length n.inputs + i) (drop i n.nodes)) ≡ total
    → new ++ map (latch_at n free literals) (registers_from (length n.inputs + (i + 1)) (drop (i + 1) n.nodes)) ≡ total
latches_more n free literals i old new total l is e =
    let d : Node = Register [] false 0 in
    let f : List ℕ → List Latch = map (latch_at n free literals) in
    let x : ℕ = length n.inputs + i in
    let here : drop i n.nodes ≡ get_or n.nodes i d ∷ drop (i + 1) n.nodes = drop-cons n.nodes i d l ∙ ap (λ (k : ℕ). get_or n.nodes i d ∷ drop k n.nodes) (let s : suc i ≡ i + 1 = omega arith in s) in
    let step : f (registers_from x (drop i n.nodes)) ≡ latches_at n free literals x ++ f (registers_from (x + 1) (drop (i + 1) n.nodes)) =
    ap (λ (nodes : List Node). f (registers_from x nodes)) here ∙ one_node n free literals x (get_or n.nodes i d) (drop (i + 1) n.nodes) (node_at n i d l) in
    let next : length n.inputs + (i + 1) ≡ x + 1 = omega arith in
    ap (λ (k : ℕ). new ++ f (registers_from k (drop (i + 1) n.nodes))) next
    ∙ (ap (λ (o : List Latch). o ++ f (registers_from (x + 1) (drop (i + 1) n.nodes))) is
    ∙ (append_assoc old (latches_at n free literals x) (f (registers_from (x + 1) (drop (i + 1) n.nodes)))
    ∙ (ap (λ (t : List Latch). old ++ t) (sym step) ∙ e)))

pub starts_at : (x : ℕ) → x + 0 ≡ x
starts_at x = omega arith

pub inputs_are : (d e : Design) (i : ℕ) → d ≡ e → i ≡ length d.net.inputs → i ≡ length e.net.inputs
inputs_are d e i same is = is ∙ ap (λ (x : Design). length x.net.inputs) same

pub count_is : (d e : Design) (i : ℕ) → d ≡ e → i ≡ length d.net.nodes → i ≡ length e.net.nodes
count_is d e i same is = is ∙ ap (λ (x : Design). length x.net.nodes) same

-- one output more
pub outputs_more : (literals : List Literal) (outputs : List ℕ) (k x : ℕ) (old new : List Literal) (own : Literal) → slice_get outputs k ≡ Some x → own ≡ literal_at literals x → old ≡ map (literal_at literals) (take k outputs) → new ≡ old ++ own ∷ [] → new ≡ map (literal_at literals) (take (k + 1) outputs)
outputs_more literals [] zero x old new own at is e f = absurd (cc)
outputs_more literals [] (suc k) x old new own at is e f = absurd (cc)
outputs_more literals (y ∷ outputs) zero x old new own at is e f =
    let here : y ≡ x = some_is y x at in
    f ∙ (ap (λ (o : List Literal). o ++ own ∷ []) e ∙ ap (λ (l : Literal). l ∷ []) (is ∙ ap (literal_at literals) (sym here)))
  where
    some_is : (a b : ℕ) → Some a ≡ Some b → a ≡ b
    some_is a b e = cc
outputs_more literals (y ∷ outputs) (suc k) x old new own at is e f =
    let rest : map (literal_at literals) (take k outputs) ++ own ∷ [] ≡ map (literal_at literals) (take (k + 1) outputs) = outputs_more literals outputs k x (map (literal_at literals) (take k outputs)) _ own at is refl refl in
    let count : suc k + 1 ≡ suc (k + 1) = omega arith in
    f ∙ (ap (λ (o : List Literal). o ++ own ∷ []) e ∙ (ap (λ (r : List Literal). literal_at literals y ∷ r) rest ∙ ap (λ (m : ℕ). map (literal_at literals) (take m (y ∷ outputs))) (sym count)))
