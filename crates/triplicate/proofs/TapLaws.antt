-- Which voter each pin reads, as it is noted.
use Rattle.std.proofs.Common.{◌≡◌, ◌≢◌, ℕ, suc, ◌+◌, ◌<◌, ◌≤◌, ◌⊎◌, inl, inr, List, [], ◌∷◌, ◌++◌, length, take, filter, get_or, refl, sym, ap, ◌∙◌, subst, arith, Bool, true, false, eqb, ◌||◌, All, set, below_more}
use Rattle.std.specs.Prelude.{slice_index}
use Rattle.std.specs.List.{range_with_len}
use Rattle.std.proofs.lemmas.Bool.{eq-eqb, eqb-true, cases_eq, cases_lt}
use Rattle.std.proofs.lemmas.List.{length_push, get_or_append_left, get_or_push, get_or-set_same, get_or-set_other, take_more}
use Rattle.std.proofs.lemmas.List.FromFn.{length-range_with_len}
use Rattle.std.proofs.lemmas.List.Elements.{All-append, All-take, filter_passes}
use Rattle.std.proofs.lemmas.Option.{slice_get_within, get_or_from_slice_get}
use Rattle.node_reads.specs.Noting.{noted, related, Lists}
use Rattle.node_reads.specs.Private.Marking.{ListsMarked}
use Rattle.node_reads.proofs.NotingLaws.{marked_row, noted_marks, marks_none}
use Rattle.tmr_base.specs.Parts.{PlainParts}
use Rattle.flat_net.specs.Net.{Net, net_count}
use Rattle.feedback_cut.specs.Inner.{node_pins}
use Rattle.triplicate.specs.declared.taps.Taps.{Taps}
use Rattle.triplicate.specs.Voting.{needs_voter}
use Rattle.triplicate.specs.Private.Noted.{is_in, members, IsNoting}
use Rattle.triplicate.specs.Starts.{needs}
use Rattle.triplicate.specs.Numbers.{voter_rank}
use Rattle.triplicate.specs.Taps.{tap_of, IsTapped}
use Rattle.triplicate.specs.Private.Places.{tap_start, HasPlaces}
use Rattle.triplicate.proofs.Lists.{passing_at}
use Rattle.triplicate.proofs.PinSums.{starts_apart}

passing_few : (p : ℕ → Bool) (xs : List ℕ) → length (filter p xs) ≤ length xs
passing_few p [] = omega arith
passing_few p (x ∷ xs) = go (p x) refl (passing_few p xs)
  where
    go : (b : Bool) → p x ≡ b → length (filter p xs) ≤ length xs → length (filter p (x ∷ xs)) ≤ length (x ∷ xs)
    go true e ih = rw e (omega (arith, ih))
    go false e ih = rw e (omega (arith, ih))

-- ---- lists that are written place by place

-- the next place of a run is written
pub places_more : (f : ℕ → ℕ) (old new : List ℕ) (first j : ℕ) → first + j < length old → new ≡ set old (first + j) (f j) → ((i : ℕ) → i < j → slice_index old (first + i) ≡ f i) → (i : ℕ) → i < j + 1 → slice_index new (first + i) ≡ f i
places_more f old new first j h e before =
    below_more _ _
    (λ i l. ap (λ (xs : List ℕ). slice_index xs (first + i)) e ∙ (get_or-set_other old (first + j) (first + i) (f j) 0 (apart i l) ∙ before i l))
    (ap (λ (xs : List ℕ). slice_index xs (first + j)) e ∙ get_or-set_same old (first + j) (f j) 0 h)
  where
    apart : (i : ℕ) → i < j → first + i ≢ first + j
    apart i l = omega (arith, l)

-- what stands outside the run stays
pub places_others : (old new start : List ℕ) (first many j v : ℕ) → j < many → new ≡ set old (first + j) v → ((k : ℕ) → (k < first) ⊎ (first + many ≤ k) → slice_index old k ≡ slice_index start k) → (k : ℕ) → (k < first) ⊎ (first + many ≤ k) → slice_index new k ≡ slice_index start k
places_others old new start first many j v h e same k out = ap (λ (xs : List ℕ). slice_index xs k) e ∙ (get_or-set_other old (first + j) k v 0 (apart out) ∙ same k out)
  where
    apart : (k < first) ⊎ (first + many ≤ k) → k ≢ first + j
    apart (inl l) = omega (arith, l)
    apart (inr l) = omega (arith, l, h)

-- the places of one node more have a beginning
pub firsts_more : (n : Net) (old new : List ℕ) (y next : ℕ) → length old ≡ y → new ≡ old ++ next ∷ [] → next ≡ tap_start n y → ((z : ℕ) → z < y → slice_index old z ≡ tap_start n z) → (z : ℕ) → z < y + 1 → slice_index new z ≡ tap_start n z
firsts_more n old new y next long e is before =
    below_more _ _
    (λ z l. ap (λ (xs : List ℕ). slice_index xs z) e ∙ (get_or_append_left old (next ∷ []) 0 z (omega (arith, l, long)) ∙ before z l))
    (ap (λ (xs : List ℕ). slice_index xs y) e ∙ (get_or_push old next 0 y long ∙ is))

module _ (n : Net) (parts : PlainParts) (voted : ℕ → ℕ → Bool) where
  -- ---- the rows while a partition is noted

  pub noting_start : (p : ℕ) (rows : List (List ℕ)) → Lists (needs n parts voted) p (net_count n) rows → IsNoting n parts voted p rows
  noting_start p rows lists = record { marked = λ z. false; lists = marks_none (needs n parts voted) p (net_count n) (λ z. false) rows lists (λ z. refl) }

  noting_lists : (p x : ℕ) (rows : List (List ℕ)) (noting : IsNoting n parts voted p rows) → x < net_count n → ListsMarked (needs n parts voted) p (net_count n) (λ z. noting.marked z || eqb x z) (noted rows x p)
  noting_lists p x rows noting l = noted_marks (needs n parts voted) p (net_count n) noting.marked (λ z. noting.marked z || eqb x z) rows x noting.lists l (λ z h. refl)

  pub noting_more : (p x : ℕ) (rows : List (List ℕ)) → IsNoting n parts voted p rows → x < net_count n → IsNoting n parts voted p (noted rows x p)
  noting_more p x rows noting l = record { marked = λ z. noting.marked z || eqb x z; lists = noting_lists p x rows noting l }

  -- the partition that was noted stands last, behind those below it
  pub noted_place : (p x : ℕ) (rows : List (List ℕ)) → IsNoting n parts voted p rows → x < net_count n → length (get_or (noted rows x p) x []) ≡ suc (voter_rank n parts voted x p)
  noted_place p x rows noting l =
      let marks : (noting.marked x || eqb x x) ≡ true = ap (λ (b : Bool). noting.marked x || b) (eq-eqb x x refl) ∙ or_true (noting.marked x) in
      ap length ((noting_lists p x rows noting l).row x l ∙ ap (marked_row (needs n parts voted) p x) marks) ∙ more (related (needs n parts voted) p x)
    where
      or_true : (b : Bool) → (b || true) ≡ true
      or_true true = refl
      or_true false = refl

      more : (xs : List ℕ) → length (xs ++ p ∷ []) ≡ suc (length xs)
      more xs = omega (arith, length_push xs p)

  -- no more voters stand before that of a partition than there are partitions before it
  pub rank_few : (x p : ℕ) → voter_rank n parts voted x p ≤ p
  rank_few x p = omega (arith, passing_few (needs_voter n parts voted x) (range_with_len 0 p), length-range_with_len 0 p)

  -- ---- what a place tells

  pub tap_passed : (y j : ℕ) → voted y j ≡ false → 0 ≡ tap_of n parts voted y j
  tap_passed y j e = rw e refl

  tap_voted : (y j : ℕ) → voted y j ≡ true → suc (voter_rank n parts voted (slice_index (node_pins n y) j) (slice_index parts.of y)) ≡ tap_of n parts voted y j
  tap_voted y j e = rw e refl

  pub tap_is : (y j x p : ℕ) → voted y j ≡ true → x ≡ slice_index (node_pins n y) j → p ≡ slice_index parts.of y → suc (voter_rank n parts voted x p) ≡ tap_of n parts voted y j
  tap_is y j x p e f g = ap (λ (z : ℕ). suc (voter_rank n parts voted z p)) f ∙ (ap (λ (q : ℕ). suc (voter_rank n parts voted (slice_index (node_pins n y) j) q)) g ∙ tap_voted y j e)

  pub tap_some : (y j place : ℕ) → place ≡ tap_of n parts voted y j → place ≢ 0 → voted y j ≡ true
  tap_some y j place e some = go (voted y j) refl
    where
      go : (v : Bool) → voted y j ≡ v → v ≡ true
      go true f = refl
      go false f = absurd (some (e ∙ sym (tap_passed y j f)))

  -- ---- node after node

  -- there is still a place for each pin
  pub places_kept : (old new : Taps) → new.firsts.items ≡ old.firsts.items → length new.places.items ≡ length old.places.items → HasPlaces n old → HasPlaces n new
  places_kept old new ef ep has = record {
    long = ap length ef ∙ has.long;
    each = λ y h. ap (λ (xs : List ℕ). slice_index xs y) ef ∙ has.each y h;
    places = ep ∙ has.places;
  }

  -- there is room for the pins of node y
  pub tap_room : (taps : Taps) (y : ℕ) → HasPlaces n taps → y < length n.nodes → slice_index taps.firsts.items y + length (node_pins n y) ≤ length taps.places.items
  tap_room taps y has h = omega (arith, has.each y h, has.places, starts_apart n y (length n.nodes) h)

  -- the places of another node stay
  tapped_other : (old new : Taps) (y z : ℕ) → z ≢ y → y < length n.nodes → z < length n.nodes → HasPlaces n old → HasPlaces n new → ((k : ℕ) → (k < slice_index old.firsts.items y) ⊎ (slice_index old.firsts.items y + length (node_pins n y) ≤ k) → slice_index new.places.items k ≡ slice_index old.places.items k) → IsTapped n parts voted old z → IsTapped n parts voted new z
  tapped_other old new y z ne hy hz has now others t =
      let first : slice_index new.firsts.items z ≡ slice_index old.firsts.items z = now.each z hz ∙ sym (has.each z hz) in
      record {
        within = tap_room new z now hz;
        each = λ j l. ap (λ (k : ℕ). slice_index new.places.items (k + j)) first ∙ (others (slice_index old.firsts.items z + j) (out j l (cases_lt z y)) ∙ t.each j l);
      }
    where
      out : (j : ℕ) → j < length (node_pins n z) → (z < y) ⊎ (y ≤ z) → (slice_index old.firsts.items z + j < slice_index old.firsts.items y) ⊎ (slice_index old.firsts.items y + length (node_pins n y) ≤ slice_index old.firsts.items z + j)
      out j l (inl b) = inl (omega (arith, l, has.each z hz, has.each y hy, starts_apart n z y b))
      out j l (inr b) = inr (omega (arith, has.each z hz, has.each y hy, starts_apart n y z (omega (arith, b, ne))))

  pub tapped_kept : (old new : Taps) (y z : ℕ) → y < length n.nodes → z < length n.nodes → HasPlaces n old → HasPlaces n new → ((k : ℕ) → (k < slice_index old.firsts.items y) ⊎ (slice_index old.firsts.items y + length (node_pins n y) ≤ k) → slice_index new.places.items k ≡ slice_index old.places.items k) → IsTapped n parts voted new y → IsTapped n parts voted old z → IsTapped n parts voted new z
  tapped_kept old new y z hy hz has now others own t = go (cases_eq z y)
    where
      go : (z ≡ y) ⊎ (z ≢ y) → IsTapped n parts voted new z
      go (inl e) = subst (λ (k : ℕ). IsTapped n parts voted new k) (sym e) own
      go (inr ne) = tapped_other old new y z ne hy hz has now others t

  pub tapped_more : (old new : Taps) (ys : List ℕ) (i : ℕ) → i < length ys → All (λ y. y < length n.nodes) ys → HasPlaces n old → HasPlaces n new → ((k : ℕ) → (k < slice_index old.firsts.items (get_or ys i 0)) ⊎ (slice_index old.firsts.items (get_or ys i 0) + length (node_pins n (get_or ys i 0)) ≤ k) → slice_index new.places.items k ≡ slice_index old.places.items k) → IsTapped n parts voted new (get_or ys i 0) → All (IsTapped n parts voted old) (take i ys) → All (IsTapped n parts voted new) (take (i + 1) ys)
  tapped_more old new ys i l below has now others own done =
      let few : All (λ y. y < length n.nodes) (take i ys) = All-take (λ y. y < length n.nodes) i ys below in
      let before : All (IsTapped n parts voted new) (take i ys) = λ k d b. tapped_kept old new (get_or ys i 0) (get_or (take i ys) k d) (below i 0 l) (few k d b) has now others own (done k d b) in
      let last : All (IsTapped n parts voted new) (get_or ys i 0 ∷ []) = λ k d b. one k d b in
      subst (λ (zs : List ℕ). All (IsTapped n parts voted new) zs) (sym (take_more ys i 0 l)) (All-append (IsTapped n parts voted new) (take i ys) (get_or ys i 0 ∷ []) before last)
    where
      one : (k d : ℕ) → k < 1 → IsTapped n parts voted new (get_or (get_or ys i 0 ∷ []) k d)
      one k d b =
          let first : k ≡ 0 = omega (arith, b) in
          subst (λ (m : ℕ). IsTapped n parts voted new (get_or (get_or ys i 0 ∷ []) m d)) (sym first) own

  -- ---- partition after partition

  -- each node of a partition is among its members
  member_of : (P : ℕ → Type 0) (p y : ℕ) → All P (members n parts p) → y < length n.nodes → slice_index parts.of y ≡ p → P y
  member_of P p y all h e =
      let at = passing_at (λ (z : ℕ). is_in parts z p) y (length n.nodes) h (eq-eqb (slice_index parts.of y) p e) in
      let place = length (filter (λ (z : ℕ). is_in parts z p) (range_with_len 0 y)) in
      subst P (get_or_from_slice_get (members n parts p) place y y at) (all place y (slice_get_within (members n parts p) place y at))

  pub parts_tapped : (taps : Taps) (p : ℕ) → ((y : ℕ) → y < length n.nodes → slice_index parts.of y < p → IsTapped n parts voted taps y) → All (IsTapped n parts voted taps) (members n parts p) → (y : ℕ) → y < length n.nodes → slice_index parts.of y < p + 1 → IsTapped n parts voted taps y
  parts_tapped taps p before own y h l = go (cases_lt (slice_index parts.of y) p)
    where
      go : (slice_index parts.of y < p) ⊎ (p ≤ slice_index parts.of y) → IsTapped n parts voted taps y
      go (inl b) = before y h b
      go (inr b) = member_of (IsTapped n parts voted taps) p y own h (omega (arith, b, l))

-- the members of a partition stand in it
pub members_own : (n : Net) (parts : PlainParts) (p : ℕ) → All (λ y. slice_index parts.of y ≡ p) (members n parts p)
members_own n parts p = λ i d h. eqb-true _ _ (filter_passes (λ y. is_in parts y p) (range_with_len 0 (length n.nodes)) i d h)
