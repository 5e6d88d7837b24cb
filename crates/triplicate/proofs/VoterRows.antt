-- The rows that noting makes list the partitions that need voters.
use Rattle.std.proofs.Common.{◌≡◌, ℕ, zero, suc, ◌+◌, ◌<◌, ◌≤◌, List, [], ◌∷◌, ◌++◌, length, take, filter, get_or, refl, sym, ap, ◌∙◌, subst, arith, Bool, true, false, eqb, ◌&&◌, ◌||◌, if◌then◌else◌, All, replicate, set, Option, Some, None}
use Rattle.std.specs.Prelude.{slice_index}
use Rattle.std.specs.List.{range_with_len, list_any}
use Rattle.std.proofs.lemmas.Bool.{eqb-true}
use Rattle.std.proofs.lemmas.List.{length-set, take_more, length-replicate, get_or-replicate}
use Rattle.std.proofs.lemmas.List.Folds.{list_any-append}
use Rattle.std.proofs.lemmas.List.Elements.{All-head, All-tail, All-filter, filter_passes}
use Rattle.node_reads.specs.Noting.{ends_in, noted, Lists}
use Rattle.node_reads.specs.Private.Marking.{ListsMarked}
use Rattle.node_reads.proofs.Numbers.{numbers_more, numbers_below}
use Rattle.node_reads.proofs.NotingLaws.{noted_marks, marks_same, marks_none, marks_all}
use Rattle.tmr_base.specs.Parts.{PlainParts}
use Rattle.flat_net.specs.Net.{Net, Node, Table, Register, net_count, node_of, pins_at, IsValid}
use Rattle.feedback_cut.specs.Inner.{node_pins}
use Rattle.triplicate.specs.Voting.{votes_for, needs_voter}
use Rattle.triplicate.specs.Private.Noted.{is_in, pin_noted, pins_noted, nodes_noted, members, parts_noted}
use Rattle.triplicate.specs.Starts.{needs}

-- ---- lengths

length-noted : (rows : List (List ℕ)) (x k : ℕ) → length (noted rows x k) ≡ length rows
length-noted rows x k = go (ends_in (get_or rows x []) k)
  where
    go : (b : Bool) → length (if b then rows else set rows x (get_or rows x [] ++ k ∷ [])) ≡ length rows
    go true = refl
    go false = length-set rows x (get_or rows x [] ++ k ∷ [])

module _ (n : Net) (parts : PlainParts) (voted : ℕ → ℕ → Bool) where
  pub length-pin_noted : (y j : ℕ) (rows : List (List ℕ)) → length (pin_noted n parts voted y j rows) ≡ length rows
  unfolding pin_noted
  length-pin_noted y j rows = go (voted y j)
    where
      go : (b : Bool) → length (if b then noted rows (slice_index (node_pins n y) j) (slice_index parts.of y) else rows) ≡ length rows
      go true = length-noted rows (slice_index (node_pins n y) j) (slice_index parts.of y)
      go false = refl

  pub length-pins_noted : (y j : ℕ) (rows : List (List ℕ)) → length (pins_noted n parts voted y j rows) ≡ length rows
  unfolding pins_noted
  length-pins_noted y zero rows = refl
  length-pins_noted y (suc j) rows = length-pin_noted y j (pins_noted n parts voted y j rows) ∙ length-pins_noted y j rows

  pub length-nodes_noted : (ys : List ℕ) (rows : List (List ℕ)) → length (nodes_noted n parts voted ys rows) ≡ length rows
  unfolding nodes_noted
  length-nodes_noted [] rows = refl
  length-nodes_noted (y ∷ ys) rows = length-nodes_noted ys (pins_noted n parts voted y (length (node_pins n y)) rows) ∙ length-pins_noted y (length (node_pins n y)) rows

  pub length-parts_noted : (k : ℕ) (rows : List (List ℕ)) → length (parts_noted n parts voted k rows) ≡ length rows
  unfolding parts_noted
  length-parts_noted zero rows = refl
  length-parts_noted (suc p) rows = length-nodes_noted (members n parts p) (parts_noted n parts voted p rows) ∙ length-parts_noted p rows

  -- ---- one more step

  pub pin_passed : (y j : ℕ) (rows : List (List ℕ)) → voted y j ≡ false → rows ≡ pin_noted n parts voted y j rows
  unfolding pin_noted
  pin_passed y j rows e = sym (ap (λ (b : Bool). if b then noted rows (slice_index (node_pins n y) j) (slice_index parts.of y) else rows) e)

  pub pin_is_noted : (y j x p : ℕ) (rows : List (List ℕ)) → voted y j ≡ true → x ≡ slice_index (node_pins n y) j → p ≡ slice_index parts.of y → noted rows x p ≡ pin_noted n parts voted y j rows
  unfolding pin_noted
  pin_is_noted y j x p rows e f g = rw (f, g) (sym (ap (λ (b : Bool). if b then noted rows (slice_index (node_pins n y) j) (slice_index parts.of y) else rows) e))

  pub pins_step : (y j : ℕ) (rows : List (List ℕ)) → pins_noted n parts voted y (j + 1) rows ≡ pin_noted n parts voted y j (pins_noted n parts voted y j rows)
  unfolding pins_noted
  pins_step y j rows = let e : j + 1 ≡ suc j = omega arith in ap (λ k. pins_noted n parts voted y k rows) e

  pub pins_none : (y : ℕ) (rows : List (List ℕ)) → pins_noted n parts voted y 0 rows ≡ rows
  unfolding pins_noted
  pins_none y rows = refl

  pub parts_step : (p : ℕ) (rows : List (List ℕ)) → parts_noted n parts voted (p + 1) rows ≡ nodes_noted n parts voted (members n parts p) (parts_noted n parts voted p rows)
  unfolding parts_noted
  parts_step p rows = let e : p + 1 ≡ suc p = omega arith in ap (λ k. parts_noted n parts voted k rows) e

  pub parts_none : (rows : List (List ℕ)) → parts_noted n parts voted 0 rows ≡ rows
  unfolding parts_noted
  parts_none rows = refl

  nodes_append : (ys zs : List ℕ) (rows : List (List ℕ)) → nodes_noted n parts voted (ys ++ zs) rows ≡ nodes_noted n parts voted zs (nodes_noted n parts voted ys rows)
  unfolding nodes_noted
  nodes_append [] zs rows = refl
  nodes_append (y ∷ ys) zs rows = nodes_append ys zs (pins_noted n parts voted y (length (node_pins n y)) rows)

  pub nodes_none : (rows : List (List ℕ)) → nodes_noted n parts voted [] rows ≡ rows
  unfolding nodes_noted
  nodes_none rows = refl

  pub nodes_step : (ys : List ℕ) (i : ℕ) (rows : List (List ℕ)) → i < length ys → nodes_noted n parts voted (take (i + 1) ys) rows ≡ pins_noted n parts voted (get_or ys i 0) (length (node_pins n (get_or ys i 0))) (nodes_noted n parts voted (take i ys) rows)
  unfolding nodes_noted
  nodes_step ys i rows h = ap (λ zs. nodes_noted n parts voted zs rows) (take_more ys i 0 h) ∙ nodes_append (take i ys) (get_or ys i 0 ∷ []) rows

  -- ---- what is marked

  pins_mark : (p y j : ℕ) (marked : ℕ → Bool) (rows : List (List ℕ)) → slice_index parts.of y ≡ p → j ≤ length (node_pins n y) → ((i : ℕ) → i < length (node_pins n y) → slice_index (node_pins n y) i < net_count n) → ListsMarked (needs n parts voted) p (net_count n) marked rows →
      ListsMarked (needs n parts voted) p (net_count n) (λ x. marked x || list_any (votes_for n voted x y) (range_with_len 0 j)) (pins_noted n parts voted y j rows)
  unfolding pins_noted pin_noted
  pins_mark p y zero marked rows own h below lists = marks_same (needs n parts voted) p (net_count n) marked (λ x. marked x || false) rows lists (λ z l. or_false (marked z))
    where
      or_false : (b : Bool) → (b || false) ≡ b
      or_false true = refl
      or_false false = refl
  pins_mark p y (suc j) marked rows own h below lists = go (voted y j) refl (pins_mark p y j marked rows own (omega arith) below lists)
    where
      before : ℕ → Bool
      before = λ x. marked x || list_any (votes_for n voted x y) (range_with_len 0 j)

      more : (v : Bool) → voted y j ≡ v → (x : ℕ) → (marked x || list_any (votes_for n voted x y) (range_with_len 0 (suc j))) ≡ ((marked x || list_any (votes_for n voted x y) (range_with_len 0 j)) || (v && eqb (slice_index (node_pins n y) j) x))
      more v e x = ap (λ b. marked x || b) (ap (list_any (votes_for n voted x y)) (numbers_more j) ∙ (list_any-append (votes_for n voted x y) (range_with_len 0 j) (j ∷ []) ∙ ap (λ b. list_any (votes_for n voted x y) (range_with_len 0 j) || ((b && eqb (slice_index (node_pins n y) j) x) || false)) e)) ∙ regroup (marked x) (list_any (votes_for n voted x y) (range_with_len 0 j)) (v && eqb (slice_index (node_pins n y) j) x)
        where
          regroup : (a b c : Bool) → (a || (b || (c || false))) ≡ ((a || b) || c)
          regroup true b c = refl
          regroup false true c = refl
          regroup false false true = refl
          regroup false false false = refl

      go : (v : Bool) → voted y j ≡ v → ListsMarked (needs n parts voted) p (net_count n) (λ x. marked x || list_any (votes_for n voted x y) (range_with_len 0 j)) (pins_noted n parts voted y j rows) →
          ListsMarked (needs n parts voted) p (net_count n) (λ x. marked x || list_any (votes_for n voted x y) (range_with_len 0 (suc j))) (if voted y j then noted (pins_noted n parts voted y j rows) (slice_index (node_pins n y) j) (slice_index parts.of y) else pins_noted n parts voted y j rows)
      go true e ih = rw (e, own) (noted_marks (needs n parts voted) p (net_count n) (λ x. marked x || list_any (votes_for n voted x y) (range_with_len 0 j)) (λ x. marked x || list_any (votes_for n voted x y) (range_with_len 0 (suc j))) (pins_noted n parts voted y j rows) (slice_index (node_pins n y) j) ih (below j (omega arith)) (λ z l. more true e z))
      go false e ih = rw e (marks_same (needs n parts voted) p (net_count n) (λ x. marked x || list_any (votes_for n voted x y) (range_with_len 0 j)) (λ x. marked x || list_any (votes_for n voted x y) (range_with_len 0 (suc j))) (pins_noted n parts voted y j rows) ih (λ z l. more false e z ∙ last (marked z || list_any (votes_for n voted z y) (range_with_len 0 j))))
        where
          last : (b : Bool) → (b || false) ≡ b
          last true = refl
          last false = refl

  -- some pin of node y votes for net x
  abbrev votes : ℕ → ℕ → Bool
  votes x y = list_any (votes_for n voted x y) (range_with_len 0 (length (node_pins n y)))

  nodes_mark : (p : ℕ) (ys : List ℕ) (marked : ℕ → Bool) (rows : List (List ℕ)) → All (λ y. slice_index parts.of y ≡ p) ys → ((y i : ℕ) → i < length (node_pins n y) → slice_index (node_pins n y) i < net_count n) → ListsMarked (needs n parts voted) p (net_count n) marked rows →
      ListsMarked (needs n parts voted) p (net_count n) (λ x. marked x || list_any (votes x) ys) (nodes_noted n parts voted ys rows)
  unfolding nodes_noted
  nodes_mark p [] marked rows all below lists = marks_same (needs n parts voted) p (net_count n) marked (λ x. marked x || false) rows lists (λ z l. or_false (marked z))
    where
      or_false : (b : Bool) → (b || false) ≡ b
      or_false true = refl
      or_false false = refl
  nodes_mark p (y ∷ ys) marked rows all below lists =
      let here = pins_mark p y (length (node_pins n y)) marked rows (All-head (λ y. slice_index parts.of y ≡ p) y ys all) (omega arith) (below y) lists in
      marks_same (needs n parts voted) p (net_count n) (λ x. (marked x || votes x y) || list_any (votes x) ys) (λ x. marked x || list_any (votes x) (y ∷ ys)) (nodes_noted n parts voted ys (pins_noted n parts voted y (length (node_pins n y)) rows))
      (nodes_mark p ys (λ x. marked x || votes x y) (pins_noted n parts voted y (length (node_pins n y)) rows) (All-tail (λ y. slice_index parts.of y ≡ p) y ys all) below here)
      (λ z l. regroup (marked z) (votes z y) (list_any (votes z) ys))
    where
      regroup : (a b c : Bool) → (a || (b || c)) ≡ ((a || b) || c)
      regroup true b c = refl
      regroup false b c = refl

  any_filter : (p q : ℕ → Bool) (xs : List ℕ) → list_any q (filter p xs) ≡ list_any (λ y. p y && q y) xs
  any_filter p q [] = refl
  any_filter p q (x ∷ xs) = go (p x) refl (any_filter p q xs)
    where
      go : (b : Bool) → p x ≡ b → list_any q (filter p xs) ≡ list_any (λ y. p y && q y) xs → list_any q (filter p (x ∷ xs)) ≡ list_any (λ y. p y && q y) (x ∷ xs)
      go true e ih = rw e (ap (λ b. q x || b) ih)
      go false e ih = rw e ih

  -- the rows of all partitions
  pub rows_listed : (k : ℕ) (rows : List (List ℕ)) → ((y i : ℕ) → i < length (node_pins n y) → slice_index (node_pins n y) i < net_count n) → Lists (needs n parts voted) 0 (net_count n) rows → Lists (needs n parts voted) k (net_count n) (parts_noted n parts voted k rows)
  unfolding parts_noted needs_voter
  rows_listed zero rows below lists = lists
  rows_listed (suc p) rows below lists =
      let ih = rows_listed p rows below lists in
      let start = marks_none (needs n parts voted) p (net_count n) (λ x. false) (parts_noted n parts voted p rows) ih (λ z. refl) in
      let own : All (λ y. slice_index parts.of y ≡ p) (members n parts p) = λ i d h. eqb-true _ _ (filter_passes (λ y. is_in parts y p) (range_with_len 0 (length n.nodes)) i d h) in
      let done = nodes_mark p (members n parts p) (λ x. false) (parts_noted n parts voted p rows) own below start in
      marks_all (needs n parts voted) p (net_count n) (λ x. false || list_any (votes x) (members n parts p)) (nodes_noted n parts voted (members n parts p) (parts_noted n parts voted p rows)) done (λ z l. any_filter (λ y. is_in parts y p) (votes z) (range_with_len 0 (length n.nodes)))

  pub none_listed : Lists (needs n parts voted) 0 (net_count n) (replicate (net_count n) [])
  none_listed = record { long = length-replicate (net_count n) []; row = λ x h. get_or-replicate (net_count n) x [] [] h }

-- one node more in its partition
pub member_noted : (parts : PlainParts) (y count : ℕ) (rows : List (List ℕ)) → Lists (is_in parts) y count rows → slice_index parts.of y < count → Lists (is_in parts) (y + 1) count (noted rows (slice_index parts.of y) y)
member_noted parts y count rows lists h =
    let e : y + 1 ≡ suc y = omega arith in
    rw e (marks_all (is_in parts) y count (λ z. eqb (slice_index parts.of y) z) (noted rows (slice_index parts.of y) y) (noted_marks (is_in parts) y count (λ z. false) (λ z. eqb (slice_index parts.of y) z) rows (slice_index parts.of y) (marks_none (is_in parts) y count (λ z. false) rows lists (λ z. refl)) h (λ z l. refl)) (λ z l. refl))

pub no_members : (parts : PlainParts) (count : ℕ) → Lists (is_in parts) 0 count (replicate count [])
no_members parts count = record { long = length-replicate count []; row = λ x h. get_or-replicate count x [] [] h }

-- what is listed of a partition's nodes are nodes
pub members_below : (n : Net) (parts : PlainParts) (p : ℕ) → All (λ y. y < length n.nodes) (members n parts p)
members_below n parts p = All-filter (λ y. is_in parts y p) (λ y. y < length n.nodes) (range_with_len 0 (length n.nodes)) (numbers_below (length n.nodes))

-- what a pin of a valid design reads is a net
pub pin_in_range : (n : Net) → IsValid n → (y i : ℕ) → i < length (node_pins n y) → slice_index (node_pins n y) i < net_count n
pin_in_range n valid y i h = go (node_of n (length n.inputs + y)) refl
  where
    go : (o : Option Node) → node_of n (length n.inputs + y) ≡ o → slice_index (node_pins n y) i < net_count n
    go None e = absurd (let none : length (node_pins n y) ≡ 0 = ap (λ (m : Option Node). length (pins_at m)) e in omega (arith, none, h))
    go (Some (Table name cover pins)) e =
        let wired = valid.unordered.wired (length n.inputs + y) (Table name cover pins) e in
        let same : node_pins n y ≡ pins = ap pins_at e in
        subst (λ (ps : List ℕ). slice_index ps i < net_count n) (sym same) (wired.0 i 0 (omega (arith, h, ap length same)))
    go (Some (Register name init pin)) e =
        let wired = valid.unordered.wired (length n.inputs + y) (Register name init pin) e in
        let same : node_pins n y ≡ pin ∷ [] = ap pins_at e in
        let first : i ≡ 0 = omega (arith, h, ap length same) in
        subst (λ (ps : List ℕ). slice_index ps i < net_count n) (sym same) (subst (λ k. slice_index (pin ∷ []) k < net_count n) (sym first) wired)
