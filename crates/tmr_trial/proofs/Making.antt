-- A design is made node by node.
use Rattle.std.proofs.Common.{◌≡◌, ℕ, zero, suc, ◌+◌, ◌<◌, ◌≤◌, List, [], ◌∷◌, ◌++◌, length, map, get_or, take, refl, sym, ap, ◌∙◌, subst, arith}
use Rattle.std.specs.Prelude.{codes}
use Rattle.std.specs.List.{range_with_len}
use Rattle.std.specs.Str.{bytes_eq}
use Rattle.std.proofs.lemmas.List.FromFn.{map-range_with_len_more}
use Rattle.indexmap.specs.IndexSet.{insert_key}
use Rattle.flat_net.specs.declared.nodes.PackedNodes.{PackedNodes}
use Rattle.flat_net.specs.declared.wiring.Wiring.TheInside.{Inside}
use Rattle.flat_net.specs.Nodes.{number_of}
use Rattle.flat_net.specs.Net.{Node}
use Rattle.flat_net.specs.declared.nodes.Body.{Body}
use Rattle.flat_net.specs.Packed.{AreEnds}
use Rattle.flat_net.specs.Packs.{Packs}
use Rattle.flat_net.proofs.Names.{insert_next}
use Rattle.flat_net.proofs.PacksLaws.{IsAssembled}
use Rattle.tmr_trial.specs.Designs.{input_text, node_text, node_drawn, node_at, nodes_drawn, state_behind, state_at, clock_for, trial_outputs, design_of}
use Rattle.tmr_trial.proofs.Texts.{texts, length-texts, texts_distinct}
use Rattle.tmr_trial.proofs.NodeLaws.{nodes_named}

pub state_none : (number : ℕ) → state_at number 0 ≡ number
unfolding state_at
state_none number = refl

pub state_more : (number i : ℕ) → state_at number (i + 1) ≡ state_behind (state_at number i)
unfolding state_at
state_more number i = let e : i + 1 ≡ suc i = omega arith in rw e refl

-- nothing packed has no pins
pub no_pins : (packed : PackedNodes) → Packs [] packed [] → length packed.pins.items ≡ 0
no_pins packed k = go packed.bodies.items packed.ends.items (length packed.pins.items) k.named k.cut
  where
    go : (bodies : List Body) (ends : List ℕ) (count : ℕ) → 0 ≡ length bodies → AreEnds 0 bodies ends count → count ≡ 0
    go [] [] count e cut = sym cut
    go [] (end ∷ ends) count e cut = absurd cut
    go (body ∷ bodies) ends count e cut = absurd (omega arith)

-- one node more
pub packs_next : (number nodes i s : ℕ) (old new : PackedNodes) → s ≡ state_at number i → Packs (map node_text (range_with_len 0 i)) old (nodes_drawn number nodes i)
    → ((names : List (List ℕ)) (name : List ℕ) (done : List Node) → name ≡ node_text i → Packs names old done → Packs (names ++ name ∷ []) new (done ++ node_drawn nodes i s ∷ []))
    → Packs (map node_text (range_with_len 0 (i + 1))) new (nodes_drawn number nodes (i + 1))
packs_next number nodes i s old new at before more =
    let next : Packs (map node_text (range_with_len 0 i) ++ node_text i ∷ []) new (nodes_drawn number nodes i ++ node_drawn nodes i s ∷ []) = more (map node_text (range_with_len 0 i)) (node_text i) (nodes_drawn number nodes i) refl before in
    let same : nodes_drawn number nodes i ++ node_drawn nodes i s ∷ [] ≡ nodes_drawn number nodes (i + 1) = ap (λ (x : ℕ). nodes_drawn number nodes i ++ node_drawn nodes i x ∷ []) at ∙ sym (map-range_with_len_more (node_at number nodes) 0 i i (omega arith)) in
    subst (λ (names : List (List ℕ)). Packs names new (nodes_drawn number nodes (i + 1))) (sym (map-range_with_len_more node_text 0 i i (omega arith))) (subst (λ (done : List Node). Packs (map node_text (range_with_len 0 i) ++ node_text i ∷ []) new done) same next)

-- one name more
pub names_next : (count x : ℕ) (text : List ℕ) (old new : List (List ℕ)) → count ≤ 100000 → x < 8 + count → get_or (texts count) x [] ≡ text → old ≡ take x (texts count) → new ≡ insert_key bytes_eq old text → new ≡ take (x + 1) (texts count)
names_next count x text old new few h named before more =
    more ∙ (ap (λ (ks : List (List ℕ)). insert_key bytes_eq ks text) before ∙ (ap (insert_key bytes_eq (take x (texts count))) (sym named) ∙ insert_next (texts count) x (texts_distinct count few) (omega (arith, h, length-texts count))))

-- one number more
range_grown : (a n : ℕ) → range_with_len a (suc n) ≡ range_with_len a n ++ (a + n) ∷ []
range_grown a zero = ap (λ (k : ℕ). k ∷ []) (omega arith)
range_grown a (suc n) =
    let e : (a + 1) + n ≡ a + suc n = omega arith in
    ap (λ (xs : List ℕ). a ∷ xs) (range_grown (a + 1) n ∙ ap (λ (k : ℕ). range_with_len (a + 1) n ++ k ∷ []) e)

pub range_more : (a n : ℕ) → range_with_len a (n + 1) ≡ range_with_len a n ++ (a + n) ∷ []
range_more a n = let e : n + 1 ≡ suc n = omega arith in ap (range_with_len a) e ∙ range_grown a n

-- what is made is the design
pub assembles : (number nodes : ℕ) (w : Inside) → w.model ≡ codes "trial" → w.names.keys ≡ texts nodes → w.inputs ≡ 8 → Packs (map node_text (range_with_len 0 nodes)) w.nodes (nodes_drawn number nodes nodes)
    → map number_of w.outputs.items ≡ trial_outputs nodes → w.clock ≡ clock_for w.nodes.registers → IsAssembled (design_of number nodes) w
unfolding design_of
assembles number nodes w model names inputs packs outputs clock = record {
  model = model;
  names = names ∙ ap (λ (xs : List (List ℕ)). map input_text (range_with_len 0 8) ++ xs) (sym (nodes_named number nodes nodes));
  inputs = inputs;
  nodes = subst (λ (xs : List (List ℕ)). Packs xs w.nodes (nodes_drawn number nodes nodes)) (sym (nodes_named number nodes nodes)) packs;
  outputs = outputs;
  clock = clock ∙ ap clock_for packs.registers;
}
