-- What comes at each step of the texts.
use Rattle.std.proofs.Common.{◌≡◌, ℕ, ◌-◌, ◌<◌, ◌≤◌, Bool, true, false, List, [], ◌∷◌, ◌++◌, length, sym, ap, ◌∙◌, append_assoc, arith}
use Rattle.std.specs.Prelude.{codes, nat_eq, nat_lt, if◌then◌else◌}
use Rattle.std.proofs.lemmas.Bool.{eq-eqb, ne_eqb, lt-ltb, le-ltb}
use Rattle.std.specs.List.{flat_map}
use Rattle.flat_net.specs.Net.{Net, net_count, name_of}
use Rattle.flat_net.specs.Free.{FreeDesign}
use Rattle.blif_writer.specs.Left.{spaced, spaced_line}
use Rattle.blif_writer.specs.Text.{clock_words}
use Rattle.triplicate.specs.Blocks.{hardened_clock}
use Rattle.triplicate.specs.declared.planning.Plan.{Plan}
use Rattle.triplicate.specs.Planned.{plan_votes}
use Rattle.hardened_text.specs.Private.Spelled.{three_spelled}
use Rattle.hardened_text.specs.Private.Lines.{node_text, voters_text}
use Rattle.hardened_text.specs.Private.Steps.{ports_text, net_block, design_step, front_text, part_text, step_behind, certificate_step}

yes : {A : Type 0} (b : Bool) (x y : A) → b ≡ true → x ≡ (if b then x else y)
yes b x y e = ap (λ (c : Bool). if c then x else y) (sym e)

no : {A : Type 0} (b : Bool) (x y : A) → b ≡ false → y ≡ (if b then x else y)
no b x y e = ap (λ (c : Bool). if c then x else y) (sym e)

-- ---- the flat text

-- the ports, put line by line
pub ports_put : (n : Net) (out new : List ℕ) → new ≡ ((out ++ spaced_line (codes ".model") (n.model ∷ []))
    ++ (codes ".inputs" ++ (flat_map three_spelled n.inputs ++ (spaced (clock_words (hardened_clock n.clock)) ++ 10 ∷ []))))
    ++ (codes ".outputs" ++ (flat_map (λ x. three_spelled (name_of n x)) n.outputs ++ 10 ∷ [])) → new ≡ out ++ ports_text n
ports_put n out new put = put ∙ regroup out (spaced_line (codes ".model") (n.model ∷ []))
    (codes ".inputs" ++ (flat_map three_spelled n.inputs ++ (spaced (clock_words (hardened_clock n.clock)) ++ 10 ∷ [])))
    (codes ".outputs" ++ (flat_map (λ x. three_spelled (name_of n x)) n.outputs ++ 10 ∷ []))
  where
    regroup : (o a b c : List ℕ) → ((o ++ a) ++ b) ++ c ≡ o ++ (a ++ (b ++ c))
    regroup o a b c = append_assoc (o ++ a) b c ∙ append_assoc o a (b ++ c)

pub design_ports : (n : FreeDesign) (p : Plan) (k : ℕ) → k ≡ 0 → ports_text n.design.net ≡ design_step n p k
unfolding design_step
design_ports n p k e = yes (nat_eq k 0) (ports_text n.design.net) _ (eq-eqb k 0 e)

pub design_net : (n : FreeDesign) (p : Plan) (k x : ℕ) → x ≡ k - 1 → 0 < k → x < net_count n.design.net → net_block n p x ≡ design_step n p k
unfolding design_step
design_net n p k x e some low =
    ap (net_block n p) e
    ∙ (yes (nat_lt (k - 1) (net_count n.design.net)) (net_block n p (k - 1)) (codes ".end\n") (lt-ltb (k - 1) (net_count n.design.net) (omega (arith, e, low)))
    ∙ no (nat_eq k 0) (ports_text n.design.net) _ (ne_eqb k 0 (λ z. omega (arith, z, some))))

pub design_end : (n : FreeDesign) (p : Plan) (k : ℕ) → 0 < k → net_count n.design.net ≤ k - 1 → codes ".end\n" ≡ design_step n p k
unfolding design_step
design_end n p k some high =
    no (nat_lt (k - 1) (net_count n.design.net)) (net_block n p (k - 1)) (codes ".end\n") (le-ltb (k - 1) (net_count n.design.net) high)
    ∙ no (nat_eq k 0) (ports_text n.design.net) _ (ne_eqb k 0 (λ z. omega (arith, z, some)))

-- ---- the certificate

pub certificate_front : (n : Net) (p : Plan) (k : ℕ) → k ≡ 0 → front_text p ≡ certificate_step n p k
unfolding certificate_step
certificate_front n p k e = yes (nat_eq k 0) (front_text p) _ (eq-eqb k 0 e)

pub certificate_part : (n : Net) (p : Plan) (k x : ℕ) → x ≡ k - 1 → 0 < k → x < p.parts.count → part_text p x ≡ certificate_step n p k
unfolding certificate_step
certificate_part n p k x e some low =
    ap (part_text p) e
    ∙ (yes (nat_lt (k - 1) p.parts.count) (part_text p (k - 1)) (step_behind n p (k - 1 - p.parts.count)) (lt-ltb (k - 1) p.parts.count (omega (arith, e, low)))
    ∙ no (nat_eq k 0) (front_text p) _ (ne_eqb k 0 (λ z. omega (arith, z, some))))

pub certificate_behind : (n : Net) (p : Plan) (k x : ℕ) → x ≡ k - 1 - p.parts.count → 0 < k → p.parts.count ≤ k - 1 → step_behind n p x ≡ certificate_step n p k
unfolding certificate_step
certificate_behind n p k x e some high =
    ap (step_behind n p) e
    ∙ (no (nat_lt (k - 1) p.parts.count) (part_text p (k - 1)) (step_behind n p (k - 1 - p.parts.count)) (le-ltb (k - 1) p.parts.count high)
    ∙ no (nat_eq k 0) (front_text p) _ (ne_eqb k 0 (λ z. omega (arith, z, some))))

pub behind_node : (n : Net) (p : Plan) (k : ℕ) → k < length n.nodes → node_text n p.parts p.extra.table.labels k ≡ step_behind n p k
unfolding step_behind
behind_node n p k low = yes (nat_lt k (length n.nodes)) (node_text n p.parts p.extra.table.labels k) _ (lt-ltb k (length n.nodes) low)

pub behind_voters : (n : Net) (p : Plan) (k x : ℕ) → x ≡ k - length n.nodes → length n.nodes ≤ k → x < net_count n → voters_text n p.parts (plan_votes n p) x ≡ step_behind n p k
unfolding step_behind
behind_voters n p k x e high low =
    ap (voters_text n p.parts (plan_votes n p)) e
    ∙ (yes (nat_lt (k - length n.nodes) (net_count n)) (voters_text n p.parts (plan_votes n p) (k - length n.nodes)) (codes "end\n") (lt-ltb (k - length n.nodes) (net_count n) (omega (arith, e, low)))
    ∙ no (nat_lt k (length n.nodes)) (node_text n p.parts p.extra.table.labels k) _ (le-ltb k (length n.nodes) high))

pub behind_end : (n : Net) (p : Plan) (k : ℕ) → length n.nodes ≤ k → net_count n ≤ k - length n.nodes → codes "end\n" ≡ step_behind n p k
unfolding step_behind
behind_end n p k high last =
    no (nat_lt (k - length n.nodes) (net_count n)) (voters_text n p.parts (plan_votes n p) (k - length n.nodes)) (codes "end\n") (le-ltb (k - length n.nodes) (net_count n) last)
    ∙ no (nat_lt k (length n.nodes)) (node_text n p.parts p.extra.table.labels k) _ (le-ltb k (length n.nodes) high)
