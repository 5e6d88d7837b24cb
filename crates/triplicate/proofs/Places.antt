-- Where blocks begin.
use Rattle.std.proofs.Common.{◌≡◌, ℕ, suc, ◌+◌, ◌*◌, ◌<◌, ◌≤◌, ◌⊎◌, refl, inl, inr, List, [], ◌∷◌, ◌++◌, length, sym, ap, ◌∙◌, arith, Bool, true}
use Rattle.std.specs.Prelude.{slice_index}
use Rattle.std.specs.List.{flat_map, range_with_len}
use Rattle.std.proofs.lemmas.Bool.{cases_lt}
use Rattle.std.proofs.lemmas.List.{get_or_append_left, get_or_push}
use Rattle.std.proofs.lemmas.Option.{slice_get_within}
use Rattle.tmr_base.specs.declared.copies.CopyNo.{CopyNo}
use Rattle.tmr_base.specs.declared.copies.CopyNo.TheVariants.{First, Second, Third}
use Rattle.tmr_base.specs.Copies.{Three, copy_number}
use Rattle.triplicate.specs.Construction.{three_copies}
use Rattle.tmr_base.specs.Parts.{PlainParts}
use Rattle.flat_net.specs.Net.{Net, net_count}
use Rattle.triplicate.specs.Voting.{needs_voter, voting_parts}
use Rattle.triplicate.specs.Blocks.{copies_of, block, hardened_roles}
use Rattle.triplicate.specs.Numbers.{block_start, copy_net, voter_net, voter_rank}
use Rattle.triplicate.proofs.Lists.{blocks_more, blocks_rise, passing_at}
use Rattle.triplicate.proofs.Numbering.{copies_of_node, block_length, copy_net_node, copy_net_input, voter_net_is}

-- one entry more
pub pushed_all : (f : ℕ → ℕ) (xs ys : List ℕ) (x v : ℕ) → ys ≡ xs ++ v ∷ [] → length xs ≡ x → v ≡ f x → ((z : ℕ) → z < x → slice_index xs z ≡ f z) → (z : ℕ) → z < x + 1 → slice_index ys z ≡ f z
pushed_all f xs ys x v e long here all z h = ap (λ (zs : List ℕ). slice_index zs z) e ∙ go (cases_lt z x)
  where
    go : (z < x) ⊎ (x ≤ z) → slice_index (xs ++ v ∷ []) z ≡ f z
    go (inl l) = get_or_append_left xs (v ∷ []) 0 z (omega arith) ∙ all z l
    go (inr l) = let same : z ≡ x = omega arith in get_or_push xs v 0 z (omega arith) ∙ (here ∙ ap f (sym same))

module _ (n : Net) (parts : PlainParts) (voted : ℕ → ℕ → Bool) where
  -- ---- where blocks begin

  pub start_none : block_start n parts voted 0 ≡ 3 * length n.inputs
  unfolding block_start
  start_none = omega arith

  -- behind all nets stands the number of all
  pub start_all : block_start n parts voted (net_count n) ≡ 3 * length n.inputs + length (hardened_roles n parts voted)
  unfolding block_start hardened_roles
  start_all = refl

  pub start_more : (x : ℕ) → block_start n parts voted (x + 1) ≡ block_start n parts voted x + (length (copies_of n x) + 3 * length (voting_parts n parts voted x))
  unfolding block_start
  start_more x =
      let e : x + 1 ≡ suc x = omega arith in
      omega (arith, ap (λ k. length (flat_map (block n parts voted) (range_with_len 0 k))) e, blocks_more (block n parts voted) x, block_length n parts voted x)

  pub start_few : (x : ℕ) → x ≤ net_count n → block_start n parts voted x ≤ 3 * length n.inputs + length (hardened_roles n parts voted)
  unfolding block_start hardened_roles
  start_few x h = go (cases_lt x (net_count n))
    where
      go : (x < net_count n) ⊎ (net_count n ≤ x) → 3 * length n.inputs + length (flat_map (block n parts voted) (range_with_len 0 x)) ≤ 3 * length n.inputs + length (flat_map (block n parts voted) (range_with_len 0 (net_count n)))
      go (inl l) = omega (arith, blocks_rise (block n parts voted) x (net_count n) l)
      go (inr l) = let same : x ≡ net_count n = omega arith in omega (arith, ap (λ k. length (flat_map (block n parts voted) (range_with_len 0 k))) same)

  pub copy_net_more : (x : ℕ) (c : CopyNo) → copy_net n parts voted x c ≡ copy_net n parts voted x First + copy_number c
  copy_net_more x c = go (cases_lt x (length n.inputs))
    where
      go : (x < length n.inputs) ⊎ (length n.inputs ≤ x) → copy_net n parts voted x c ≡ copy_net n parts voted x First + copy_number c
      go (inl l) = omega (arith, copy_net_input n parts voted x c l, copy_net_input n parts voted x First l)
      go (inr l) = omega (arith, copy_net_node n parts voted x c l, copy_net_node n parts voted x First l)

  pub voter_net_more : (x p : ℕ) (c : CopyNo) → voter_net n parts voted x p c ≡ voter_net n parts voted x p First + copy_number c
  voter_net_more x p c = omega (arith, voter_net_is n parts voted x p c, voter_net_is n parts voted x p First)

  pub first_is_start : (x : ℕ) → length n.inputs ≤ x → copy_net n parts voted x First ≡ block_start n parts voted x
  first_is_start x h = omega (arith, copy_net_node n parts voted x First h)

module _ (n : Net) (parts : PlainParts) (voted : ℕ → ℕ → Bool) where
  -- all three copies of a net have numbers that fit
  pub copy_few : (x : ℕ) → x < net_count n → copy_net n parts voted x First + 3 ≤ 3 * length n.inputs + length (hardened_roles n parts voted)
  copy_few x h = go (cases_lt x (length n.inputs))
    where
      go : (x < length n.inputs) ⊎ (length n.inputs ≤ x) → copy_net n parts voted x First + 3 ≤ 3 * length n.inputs + length (hardened_roles n parts voted)
      go (inl l) = omega (arith, copy_net_input n parts voted x First l)
      go (inr l) = omega (arith, first_is_start n parts voted x l, start_more n parts voted x, ap length (copies_of_node n x l), start_few n parts voted (x + 1) (omega (arith, h)))

  pub voter_few : (x p : ℕ) → x < net_count n → p < parts.count → needs_voter n parts voted x p ≡ true → voter_net n parts voted x p First + 3 ≤ 3 * length n.inputs + length (hardened_roles n parts voted)
  voter_few x p h l e =
      let within = slice_get_within (voting_parts n parts voted x) (voter_rank n parts voted x p) p (passing_at (needs_voter n parts voted x) p parts.count l e) in
      omega (arith, voter_net_is n parts voted x p First, within, start_more n parts voted x, start_few n parts voted (x + 1) (omega (arith, h)))

  pub three_is : (x v : ℕ) → v ≡ copy_net n parts voted x First → ◌≡◌ {A = Three} (record { first = v; second = v + 1; third = v + 2 }) (three_copies n parts voted x)
  three_is x v e =
      let b : v + 1 ≡ copy_net n parts voted x Second = omega (arith, e, copy_net_more n parts voted x Second) in
      let c : v + 2 ≡ copy_net n parts voted x Third = omega (arith, e, copy_net_more n parts voted x Third) in
      λ i. record { first = e i; second = b i; third = c i }
