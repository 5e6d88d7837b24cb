-- The names of inputs and nodes are names, and differ.
use Rattle.std.proofs.Common.{◌≡◌, ◌≢◌, ℕ, ◌+◌, ◌-◌, ◌%◌, ◌^◌, ◌<◌, ◌≤◌, ◌⊎◌, inl, inr, true, List, [], ◌∷◌, ◌++◌, length, map, get_or, refl, sym, ap, ◌∙◌, arith}
use Rattle.std.specs.Prelude.{codes}
use Rattle.std.specs.List.{range_with_len}
use Rattle.std.specs.Fmt.{decimal}
use Rattle.std.proofs.lemmas.Bool.{cases_lt}
use Rattle.std.proofs.lemmas.Bool.Decides.{nat_tests}
use Rattle.std.proofs.lemmas.Fmt.{decimal_by_steps, decimal_injective}
use Rattle.std.proofs.lemmas.List.{length-append, get_or_append_left, get_or-append_right}
use Rattle.std.proofs.lemmas.List.FromFn.{get_or-map-range_with_len, length-map-range_with_len}
use Rattle.tmr_base.specs.Names.{is_name}
use Rattle.tmr_base.proofs.NameLaws.{name_append}
use Rattle.flat_net.specs.Draft.{AreDistinct}
use Rattle.tmr_trial.specs.Designs.{input_text, node_text}

digit_is_name : (d : ℕ) → d < 10 → is_name ((48 + d) ∷ []) ≡ true
digit_is_name d h = grind (arith, nat_tests)

decimal_is_name : (i : ℕ) → i < 2 ^ 64 → is_name (decimal i) ≡ true
decimal_is_name i fits =
    decimal_by_steps (λ n ds. is_name ds ≡ true) digit_is_name (λ n ds low before. name_append ds ((48 + n % 10) ∷ []) before (digit_is_name (n % 10) (last n))) i fits
  where
    last : (n : ℕ) → n % 10 < 10
    last n = omega arith

pub input_is_name : (i : ℕ) → i < 2 ^ 64 → is_name (input_text i) ≡ true
input_is_name i fits = name_append (codes "i") (decimal i) refl (decimal_is_name i fits)

pub node_is_name : (i : ℕ) → i < 2 ^ 64 → is_name (node_text i) ≡ true
node_is_name i fits = name_append (codes "n") (decimal i) refl (decimal_is_name i fits)

heads_alike : (a b : ℕ) (xs ys : List ℕ) → a ∷ xs ≡ b ∷ ys → a ≡ b
heads_alike a b xs ys e = cc

-- names begin with one of three letters
pub input_is_no_node : (i j : ℕ) → input_text i ≡ node_text j → ⊥
input_is_no_node i j e = omega (arith, heads_alike 105 110 (decimal i) (decimal j) e)

pub input_is_no_clock : (i : ℕ) → input_text i ≡ codes "clk" → ⊥
input_is_no_clock i e = omega (arith, heads_alike 105 99 (decimal i) (108 ∷ 107 ∷ []) e)

pub node_is_no_clock : (i : ℕ) → node_text i ≡ codes "clk" → ⊥
node_is_no_clock i e = omega (arith, heads_alike 110 99 (decimal i) (108 ∷ 107 ∷ []) e)

pub clock_is_not_nil : codes "clk" ≢ codes "NIL"
clock_is_not_nil e = omega (arith, heads_alike 99 78 (108 ∷ 107 ∷ []) (73 ∷ 76 ∷ []) e)

tails_alike : (a : ℕ) (xs ys : List ℕ) → a ∷ xs ≡ a ∷ ys → xs ≡ ys
tails_alike a xs ys e = cc

pub inputs_differ : (i j : ℕ) → i < 2 ^ 64 → j < 2 ^ 64 → input_text i ≡ input_text j → i ≡ j
inputs_differ i j h g e = decimal_injective i j h g (tails_alike 105 (decimal i) (decimal j) e)

pub nodes_differ : (i j : ℕ) → i < 2 ^ 64 → j < 2 ^ 64 → node_text i ≡ node_text j → i ≡ j
nodes_differ i j h g e = decimal_injective i j h g (tails_alike 110 (decimal i) (decimal j) e)

-- the names of the inputs, and then those of so many nodes
abbrev pub texts : ℕ → List (List ℕ)
texts count = map input_text (range_with_len 0 8) ++ map node_text (range_with_len 0 count)

pub length-texts : (count : ℕ) → length (texts count) ≡ 8 + count
length-texts count = omega (arith, length-append (map input_text (range_with_len 0 8)) (map node_text (range_with_len 0 count)), length-map-range_with_len node_text 0 count)

pub input_at : (count x : ℕ) → x < 8 → get_or (texts count) x [] ≡ input_text x
input_at count x h =
    get_or_append_left (map input_text (range_with_len 0 8)) (map node_text (range_with_len 0 count)) [] x h
    ∙ get_or-map-range_with_len input_text 0 8 x x [] h (omega arith)

pub node_at : (count i : ℕ) → i < count → get_or (texts count) (8 + i) [] ≡ node_text i
node_at count i h =
    let behind : (8 + i) - 8 ≡ i = omega arith in
    get_or-append_right (map input_text (range_with_len 0 8)) (map node_text (range_with_len 0 count)) 8 (8 + i) [] refl (omega arith)
    ∙ (ap (λ (k : ℕ). get_or (map node_text (range_with_len 0 count)) k []) behind ∙ get_or-map-range_with_len node_text 0 count i i [] h (omega arith))

-- what stands at a place
pub record IsInput (count x : ℕ) : Type 0 where
  pub below : x < 8
  pub text : get_or (texts count) x [] ≡ input_text x

pub record IsNode (count x : ℕ) : Type 0 where
  pub node : ℕ
  pub below : node < count
  pub at : x ≡ 8 + node
  pub text : get_or (texts count) x [] ≡ node_text node

pub text_at : (count x : ℕ) → x < 8 + count → IsInput count x ⊎ IsNode count x
text_at count x h = go (cases_lt x 8)
  where
    go : (x < 8) ⊎ (8 ≤ x) → IsInput count x ⊎ IsNode count x
    go (inl l) = inl (record { below = l; text = input_at count x l })
    go (inr l) =
        let at : x ≡ 8 + (x - 8) = omega arith in
        let below : x - 8 < count = omega arith in
        inr (record { node = x - 8; below = below; at = at; text = ap (λ (y : ℕ). get_or (texts count) y []) at ∙ node_at count (x - 8) below })

pub texts_are_names : (count x : ℕ) → count ≤ 100000 → x < 8 + count → is_name (get_or (texts count) x []) ≡ true
texts_are_names count x few h = go (text_at count x h)
  where
    go : IsInput count x ⊎ IsNode count x → is_name (get_or (texts count) x []) ≡ true
    go (inl a) = ap is_name a.text ∙ input_is_name x (let l = a.below in omega arith)
    go (inr a) = ap is_name a.text ∙ node_is_name a.node (let l = a.below in omega arith)

pub texts_apart : (count x y : ℕ) → count ≤ 100000 → x < 8 + count → y < 8 + count → get_or (texts count) x [] ≡ get_or (texts count) y [] → x ≡ y
texts_apart count x y few h g e = go (text_at count x h) (text_at count y g)
  where
    go : IsInput count x ⊎ IsNode count x → IsInput count y ⊎ IsNode count y → x ≡ y
    go (inl a) (inl b) = inputs_differ x y (let l = a.below in omega arith) (let l = b.below in omega arith) (sym a.text ∙ (e ∙ b.text))
    go (inl a) (inr b) = absurd (input_is_no_node x b.node (sym a.text ∙ (e ∙ b.text)))
    go (inr a) (inl b) = absurd (input_is_no_node y a.node (sym b.text ∙ (sym e ∙ a.text)))
    go (inr a) (inr b) = a.at ∙ (ap (λ (k : ℕ). 8 + k) (nodes_differ a.node b.node (let l = a.below in omega arith) (let l = b.below in omega arith) (sym a.text ∙ (e ∙ b.text))) ∙ sym b.at)

pub texts_distinct : (count : ℕ) → count ≤ 100000 → AreDistinct (texts count)
texts_distinct count few j k l h e =
    let same = texts_apart count j k few (omega (arith, length-texts count)) (omega (arith, length-texts count)) e in
    omega arith

-- no net has the clock's name
pub texts_no_clock : (count x : ℕ) → x < 8 + count → get_or (texts count) x [] ≢ codes "clk"
texts_no_clock count x h e = go (text_at count x h)
  where
    go : IsInput count x ⊎ IsNode count x → ⊥
    go (inl a) = input_is_no_clock x (sym a.text ∙ e)
    go (inr a) = node_is_no_clock a.node (sym a.text ∙ e)
