-- Where the readers of wide nodes stand after a move.
use Rattle.std.proofs.Common.{◌≡◌, ℕ, ◌+◌, ◌<◌, ◌⊎◌, inl, inr, Bool, true, false, eqb, ◌&&◌, suc, List, ◌∷◌, length, set, get_or, refl, sym, ◌∙◌, ap, subst, arith}
use Rattle.std.specs.List.{All, list_any}
use Rattle.std.proofs.lemmas.Bool.{cases_eq, cases_Bool, eq-eqb, ne_eqb, eqb-true, ltb-true, lt-ltb, true≢false}
use Rattle.std.proofs.lemmas.List.Folds.{list_any_at}
use Rattle.std.proofs.lemmas.List.{take_all, get_or_default}
use Rattle.flat_net.specs.Net.{Net}
use Rattle.tmr_base.specs.Parts.{PlainParts}
use Rattle.partitioner.specs.declared.counts.spots.Spots.{Spots}
use Rattle.partitioner.specs.Below.{one_if}
use Rattle.node_reads.specs.Sources.{reads_other, other_readers, is_wide, wide_sources}
use Rattle.partitioner.specs.Private.Sets.{has}
use Rattle.partitioner.specs.Sizes.{capacity, held}
use Rattle.partitioner.specs.Refining.{has_room, put}
use Rattle.partitioner.specs.Private.Tracking.{Tracks, held_parts, reader_count}
use Rattle.partitioner.specs.Private.Spotting.{AreSpots}
use Rattle.partitioner.proofs.SetLaws.{any_known, same_number}
use Rattle.node_reads.proofs.SourceLaws.{related_below}
use Rattle.std.specs.List.Sorted.{IsStrictlySortedBy}
use Rattle.std.specs.Ordering.{is_eq, nat_cmp}
use Rattle.std.proofs.lemmas.Map.Keys.{below_from_sorted, sorted_tail}
use Rattle.partitioner.specs.declared.counts.partitioning.Partitioning.{Partitioning}
use Rattle.partitioner.specs.Private.Leading.{LeadsOpen, LeadsReaders, start_of}
use Rattle.partitioner.proofs.CountLaws.{any_by_count}
use Rattle.partitioner.proofs.HeldLaws.{held_moved}
use Rattle.partitioner.proofs.WideLaws.{wide_marked}
use Rattle.partitioner.proofs.ShiftLaws.{reader_count_moved}

-- the wide nodes that i reads are noted in partition b
pub record NotesMoved (n : Net) (i b : ℕ) (old new : Spots) : Type 0 where
  pub free_long : length new.free ≡ length old.free
  pub nets_long : length new.nets ≡ length old.nets
  pub free_kept : (z r : ℕ) → has old.free z r ≡ true → has new.free z r ≡ true
  pub nets_kept : (r z : ℕ) → has old.nets r z ≡ true → has new.nets r z ≡ true
  pub free : All (λ x. has new.free x b ≡ true) (wide_sources n i)
  pub nets : All (λ x. has new.nets b x ≡ true) (wide_sources n i)

-- a reader where none was
pub newly_read : (n : Net) (of : List ℕ) (i b x : ℕ) (P : ℕ → Type 0) → i < length of → i < length n.nodes → x < length n.nodes → is_wide n x ≡ true → (get_or of i 0 ≡ b → ⊥) → All P (wide_sources n i) → 0 < reader_count n (set of i b) x b → (0 < reader_count n of x b) ⊎ P x
newly_read n of i b x P l l' m wide apart all some = go (cases_Bool (reads_other n i x)) (reader_count_moved n of i b x b l l')
  where
    go : (reads_other n i x ≡ true) ⊎ (reads_other n i x ≡ false) → reader_count n (set of i b) x b + one_if (reads_other n i x && eqb (get_or of i 0) b) ≡ reader_count n of x b + one_if (reads_other n i x && eqb b b) → (0 < reader_count n of x b) ⊎ P x
    go (inl e) moved =
        inr (any_known (λ m. eqb m x) P (P x) (wide_sources n i)
        (sym (ap (list_any (λ m. eqb m x)) (take_all (length (wide_sources n i)) (wide_sources n i) (omega arith))) ∙ (wide_marked n i x m wide ∙ e)) all
        (λ y f p. subst P (eqb-true y x f) p))
    go (inr e) moved =
        let none : one_if (reads_other n i x && eqb b b) ≡ 0 = ap (λ (c : Bool). one_if (c && eqb b b)) e in
        inl (omega (arith, moved, none, some))

-- elsewhere readers are not more
pub still_read : (n : Net) (of : List ℕ) (i b x q : ℕ) → i < length of → i < length n.nodes → (b ≡ q → ⊥) → 0 < reader_count n (set of i b) x q → 0 < reader_count n of x q
still_read n of i b x q l l' ne some =
    let moved = reader_count_moved n of i b x q l l' in
    let none : one_if (reads_other n i x && eqb b q) ≡ 0 = ap (λ (c : Bool). one_if (reads_other n i x && c)) (ne_eqb b q ne) ∙ no (reads_other n i x) in
    omega (arith, moved, none, some)
  where
    no : (c : Bool) → one_if (c && false) ≡ 0
    no true = refl
    no false = refl

-- a partition that the node does not leave had room if it has
had_room : (size : ℕ) (parts : PlainParts) (i b q : ℕ) → i < length parts.of → (get_or parts.of i 0 ≡ q → ⊥) → has_room size (put parts i b) q ≡ true → has_room size parts q ≡ true
had_room size parts i b q l ne room =
    let moved = held_moved parts.of i b q l in
    let none : one_if (eqb (get_or parts.of i 0) q) ≡ 0 = ap one_if (ne_eqb (get_or parts.of i 0) q ne) in
    let now : held (set parts.of i b) q < capacity size = ltb-true (held (set parts.of i b) q) (capacity size) room in
    lt-ltb (held parts.of q) (capacity size) (omega (arith, moved, none, now))

pub spots_moved : (n : Net) (size : ℕ) (parts : PlainParts) (i b : ℕ) (old noted : Spots) (opened closed : List (List ℕ)) → i < length parts.of → i < length n.nodes → b < parts.count → (get_or parts.of i 0 ≡ b → ⊥) → AreSpots n size parts old → NotesMoved n i b old noted
    → length opened ≡ length noted.free → ((z r : ℕ) → has noted.free z r ≡ true → has opened z r ≡ true) → (has_room size parts (get_or parts.of i 0) ≡ false → (x : ℕ) → x < length n.nodes → has noted.nets (get_or parts.of i 0) x ≡ true → has opened x (get_or parts.of i 0) ≡ true)
    → length closed ≡ length opened → ((z r : ℕ) → has_room size (put parts i b) r ≡ true → has opened z r ≡ true → has closed z r ≡ true)
    → AreSpots n size (put parts i b) (record { free = closed; nets = noted.nets })
spots_moved n size parts i b old noted opened closed l l' within apart are notes o_long o_kept o_opened c_long c_kept =
    record {
      free_long = c_long ∙ (o_long ∙ (notes.free_long ∙ are.free_long));
      nets_long = notes.nets_long ∙ are.nets_long;
      nets = λ x q m k wide some. nets_at x q m k wide some (cases_eq b q);
      free = λ x q m k wide some room. c_kept x q room (open_at x q m k wide some room (cases_eq b q) (cases_eq (get_or parts.of i 0) q));
    }
  where
    of : List ℕ
    of = parts.of

    nets_at : (x q : ℕ) → x < length n.nodes → q < parts.count → is_wide n x ≡ true → 0 < reader_count n (set parts.of i b) x q → (b ≡ q) ⊎ (b ≡ q → ⊥) → has noted.nets q x ≡ true
    nets_at x q m k wide some (inr ne) = notes.nets_kept q x (are.nets x q m k wide (still_read n parts.of i b x q l l' ne some))
    nets_at x q m k wide some (inl e) = subst (λ (r : ℕ). has noted.nets r x ≡ true) e (at (newly_read n parts.of i b x (λ y. has noted.nets b y ≡ true) l l' m wide apart notes.nets (subst (λ (r : ℕ). 0 < reader_count n (set parts.of i b) x r) (sym e) some)))
      where
        at : (0 < reader_count n parts.of x b) ⊎ (has noted.nets b x ≡ true) → has noted.nets b x ≡ true
        at (inl h) = notes.nets_kept b x (are.nets x b m within wide h)
        at (inr h) = h

    open_at : (x q : ℕ) → x < length n.nodes → q < parts.count → is_wide n x ≡ true → 0 < reader_count n (set parts.of i b) x q → has_room size (put parts i b) q ≡ true → (b ≡ q) ⊎ (b ≡ q → ⊥) → (get_or parts.of i 0 ≡ q) ⊎ (get_or parts.of i 0 ≡ q → ⊥) → has opened x q ≡ true
    open_at x q m k wide some room (inl e) from =
        o_kept x q (subst (λ (r : ℕ). has noted.free x r ≡ true) e (at (newly_read n parts.of i b x (λ y. has noted.free y b ≡ true) l l' m wide apart notes.free (subst (λ (r : ℕ). 0 < reader_count n (set parts.of i b) x r) (sym e) some))))
      where
        at : (0 < reader_count n parts.of x b) ⊎ (has noted.free x b ≡ true) → has noted.free x b ≡ true
        at (inl h) = notes.free_kept x b (are.free x b m within wide h (had_room size parts i b b l apart (subst (λ (r : ℕ). has_room size (put parts i b) r ≡ true) (sym e) room)))
        at (inr h) = h
    open_at x q m k wide some room (inr ne) (inr ma) =
        o_kept x q (notes.free_kept x q (are.free x q m k wide (still_read n parts.of i b x q l l' ne some) (had_room size parts i b q l ma room)))
    open_at x q m k wide some room (inr ne) (inl e) = at (cases_Bool (has_room size parts q))
      where
        read : 0 < reader_count n parts.of x q
        read = still_read n parts.of i b x q l l' ne some

        at : (has_room size parts q ≡ true) ⊎ (has_room size parts q ≡ false) → has opened x q ≡ true
        at (inl h) = o_kept x q (notes.free_kept x q (are.free x q m k wide read h))
        at (inr h) =
            subst (λ (r : ℕ). has opened x r ≡ true) e
            (o_opened (ap (has_room size parts) e ∙ h) x m (subst (λ (r : ℕ). has noted.nets r x ≡ true) (sym e) (notes.nets_kept q x (are.nets x q m k wide read))))

-- some reader of x stands where a reader of x stands
pub read_there : (n : Net) (of : List ℕ) (x k d : ℕ) → k < length (other_readers n x) → 0 < reader_count n of x (get_or of (get_or (other_readers n x) k d) 0)
unfolding reader_count
read_there n of x k d l =
    let y = get_or (other_readers n x) k d in
    let some = list_any_at (λ z. eqb (get_or of z 0) (get_or of y 0)) (other_readers n x) k d l (eq-eqb (get_or of y 0) (get_or of y 0) refl) in
    ltb-true 0 (reader_count n of x (get_or of y 0)) (sym (any_by_count (λ z. eqb (get_or of z 0) (get_or of y 0)) (other_readers n x)) ∙ some)

-- what holds where the readers of x stand holds wherever x is read
pub found_there : (n : Net) (of : List ℕ) (x q : ℕ) (P : ℕ → Type 0) → All (λ y. P (get_or of y 0)) (other_readers n x) → 0 < reader_count n of x q → P q
unfolding reader_count
found_there n of x q P all some =
    any_known (λ y. eqb (get_or of y 0) q) (λ y. P (get_or of y 0)) (P q) (other_readers n x)
    (any_by_count (λ y. eqb (get_or of y 0) q) (other_readers n x) ∙ lt-ltb 0 (reader_count n of x q) some) all
    (λ y f p. subst P (eqb-true (get_or of y 0) q f) p)

-- the readers of the first nodes are noted
pub record SpottedBelow (n : Net) (of : List ℕ) (count x : ℕ) (s : Spots) : Type 0 where
  pub free_long : length s.free ≡ length n.nodes
  pub nets_long : length s.nets ≡ count
  pub nets : (z q : ℕ) → z < x → is_wide n z ≡ true → 0 < reader_count n of z q → has s.nets q z ≡ true
  pub free : (z q : ℕ) → z < x → is_wide n z ≡ true → 0 < reader_count n of z q → has s.free z q ≡ true

pub spotted_more : (n : Net) (of : List ℕ) (count x : ℕ) (old new : Spots) → SpottedBelow n of count x old → length new.free ≡ length old.free → length new.nets ≡ length old.nets → ((z r : ℕ) → has old.free z r ≡ true → has new.free z r ≡ true) → ((r z : ℕ) → has old.nets r z ≡ true → has new.nets r z ≡ true) → All (λ y. has new.free x (get_or of y 0) ≡ true) (other_readers n x) → All (λ y. has new.nets (get_or of y 0) x ≡ true) (other_readers n x) → SpottedBelow n of count (x + 1) new
spotted_more n of count x old new before free_long nets_long free_kept nets_kept free nets =
    record {
      free_long = free_long ∙ before.free_long;
      nets_long = nets_long ∙ before.nets_long;
      nets = λ z q l wide some. nets_at z q l wide some (cases_eq z x);
      free = λ z q l wide some. free_at z q l wide some (cases_eq z x);
    }
  where
    nets_at : (z q : ℕ) → z < x + 1 → is_wide n z ≡ true → 0 < reader_count n of z q → (z ≡ x) ⊎ (z ≡ x → ⊥) → has new.nets q z ≡ true
    nets_at z q l wide some (inl e) =
        subst (λ (k : ℕ). has new.nets q k ≡ true) (sym e) (found_there n of x q (λ r. has new.nets r x ≡ true) nets (subst (λ (k : ℕ). 0 < reader_count n of k q) e some))
    nets_at z q l wide some (inr ne) = nets_kept q z (before.nets z q (omega (arith, l, ne)) wide some)

    free_at : (z q : ℕ) → z < x + 1 → is_wide n z ≡ true → 0 < reader_count n of z q → (z ≡ x) ⊎ (z ≡ x → ⊥) → has new.free z q ≡ true
    free_at z q l wide some (inl e) =
        subst (λ (k : ℕ). has new.free k q ≡ true) (sym e) (found_there n of x q (λ r. has new.free x r ≡ true) free (subst (λ (k : ℕ). 0 < reader_count n of k q) e some))
    free_at z q l wide some (inr ne) = free_kept z q (before.free z q (omega (arith, l, ne)) wide some)

pub spotted_narrow : (n : Net) (of : List ℕ) (count x : ℕ) (s : Spots) → is_wide n x ≡ false → SpottedBelow n of count x s → SpottedBelow n of count (x + 1) s
spotted_narrow n of count x s narrow before =
    record {
      free_long = before.free_long;
      nets_long = before.nets_long;
      nets = λ z q l wide some. before.nets z q (below z l wide (cases_eq z x)) wide some;
      free = λ z q l wide some. before.free z q (below z l wide (cases_eq z x)) wide some;
    }
  where
    below : (z : ℕ) → z < x + 1 → is_wide n z ≡ true → (z ≡ x) ⊎ (z ≡ x → ⊥) → z < x
    below z l wide (inl e) = absurd (true≢false (sym wide ∙ (ap (is_wide n) e ∙ narrow)))
    below z l wide (inr ne) = omega (arith, l, ne)

-- as good as the partitions that a set has, and so as those of the readers
pub spots_lead : (n : Net) (size : ℕ) (p : Partitioning) (spots : Spots) (i x a : ℕ) → Tracks n p → AreSpots n size (held_parts p) spots → x < length n.nodes → is_wide n x ≡ true → ((c : ℕ) → c < p.count → has spots.free x c ≡ true → LeadsOpen n size p i a c) → LeadsReaders n size p i a x
spots_lead n size p spots i x a tracks are l wide all = λ k d h room.
    let y = get_or (other_readers n x) k d in
    let within : y < length p.of.items = omega (arith, tracks.long, related_below (reads_other n) (length n.nodes) x k d h) in
    let c_in : start_of p y < p.count = tracks.in_range y 0 within in
    all (start_of p y) c_in (are.free x (start_of p y) l c_in wide (read_there n p.of.items x k d h) room) room

-- numbers that are left come later
pub left_later : (q c : ℕ) (list rest : List ℕ) → list ≡ q ∷ rest → IsStrictlySortedBy nat_cmp list → list_any (λ k. is_eq (nat_cmp c k)) rest ≡ true → q < c
left_later q c list rest e sorted h =
    any_known (λ k. is_eq (nat_cmp c k)) (λ k. q < k) (q < c) rest h
    (λ k d l. subst (λ (z : ℕ). q < z) (get_or_default rest k 0 d l) (below_from_sorted (q ∷ rest) 0 (suc k) 0 (subst (λ (xs : List ℕ). IsStrictlySortedBy nat_cmp xs) e sorted) (omega arith) (omega (arith, l))))
    (λ k f m. subst (λ (z : ℕ). q < z) (sym (eqb-true c k (sym (same_number c k) ∙ f))) m)

pub left_sorted : (q : ℕ) (list rest : List ℕ) → list ≡ q ∷ rest → IsStrictlySortedBy nat_cmp list → IsStrictlySortedBy nat_cmp rest
left_sorted q list rest e sorted = sorted_tail nat_cmp q rest (subst (λ (xs : List ℕ). IsStrictlySortedBy nat_cmp xs) e sorted)

-- a node that is not read in a partition leaves it
pub spots_left : (n : Net) (size : ℕ) (parts : PlainParts) (old new : Spots) (x q : ℕ) → AreSpots n size parts old → reader_count n parts.of x q ≡ 0 → length new.free ≡ length old.free → length new.nets ≡ length old.nets
    → ((z r : ℕ) → (q ≡ r → ⊥) → has old.free z r ≡ true → has new.free z r ≡ true) → ((z r : ℕ) → (z ≡ x → ⊥) → has old.free z r ≡ true → has new.free z r ≡ true)
    → ((r z : ℕ) → (x ≡ z → ⊥) → has old.nets r z ≡ true → has new.nets r z ≡ true) → ((r z : ℕ) → (r ≡ q → ⊥) → has old.nets r z ≡ true → has new.nets r z ≡ true)
    → AreSpots n size parts new
spots_left n size parts old new x q are none free_long nets_long free_kept free_others nets_kept nets_others =
    record {
      free_long = free_long ∙ are.free_long;
      nets_long = nets_long ∙ are.nets_long;
      nets = λ z r l m wide some. nets_at z r some (are.nets z r l m wide some) (cases_eq x z) (cases_eq r q);
      free = λ z r l m wide some room. free_at z r some (are.free z r l m wide some room) (cases_eq z x) (cases_eq q r);
    }
  where
    no : (z r : ℕ) → z ≡ x → r ≡ q → 0 < reader_count n parts.of z r → ⊥
    no z r e f some = omega (arith, some, ap (λ (k : ℕ). reader_count n parts.of k r) e, ap (reader_count n parts.of x) f, none)

    nets_at : (z r : ℕ) → 0 < reader_count n parts.of z r → has old.nets r z ≡ true → (x ≡ z) ⊎ (x ≡ z → ⊥) → (r ≡ q) ⊎ (r ≡ q → ⊥) → has new.nets r z ≡ true
    nets_at z r some h (inr ne) from = nets_kept r z ne h
    nets_at z r some h (inl e) (inr ne) = nets_others r z ne h
    nets_at z r some h (inl e) (inl f) = absurd (no z r (sym e) f some)

    free_at : (z r : ℕ) → 0 < reader_count n parts.of z r → has old.free z r ≡ true → (z ≡ x) ⊎ (z ≡ x → ⊥) → (q ≡ r) ⊎ (q ≡ r → ⊥) → has new.free z r ≡ true
    free_at z r some h (inr ne) from = free_others z r ne h
    free_at z r some h (inl e) (inr ne) = free_kept z r ne h
    free_at z r some h (inl e) (inl f) = absurd (no z r e (sym f) some)
