-- Marks where wide nodes stand and are read.
use Rattle.std.proofs.Common.{◌≡◌, ℕ, ◌+◌, ◌<◌, ◌⊎◌, inl, inr, true, false, List, [], length, set, get_or, sym, ◌∙◌, ap, subst, arith}
use Rattle.std.specs.List.{All}
use Rattle.std.proofs.lemmas.Bool.{cases_eq, true≢false}
use Rattle.std.proofs.lemmas.List.{get_or-set_same, get_or-set_other}
use Rattle.flat_net.specs.Net.{Net}
use Rattle.node_reads.specs.Sources.{is_wide, wide_sources, other_readers}
use Rattle.partitioner.specs.Private.Marks.{is_marked}
use Rattle.partitioner.specs.Private.Tracking.{AreMarks, IsBeside, reader_count}
use Rattle.partitioner.proofs.SpotLaws.{newly_read, still_read, found_there}

-- node i goes to partition b, where it and the wide nodes that it reads are marked
pub marks_moved : (n : Net) (of : List ℕ) (count i b : ℕ) (old new : List (List ℕ)) → i < length of → i < length n.nodes → b < count → (get_or of i 0 ≡ b → ⊥) → AreMarks n of count old → length new ≡ length old
    → ((z : ℕ) → length (get_or new z []) ≡ length (get_or old z [])) → ((z r : ℕ) → is_marked old z r ≡ true → is_marked new z r ≡ true) → is_marked new i b ≡ true → All (λ x. is_marked new x b ≡ true) (wide_sources n i)
    → AreMarks n (set of i b) count new
marks_moved n of count i b old new l l' within apart are long rows kept own row =
    record {
      long = long ∙ are.long;
      narrow = λ x m no. rows x ∙ are.narrow x m no;
      marked = λ x q m k wide near. at x q m k wide near;
    }
  where
    read : (x q : ℕ) → x < length n.nodes → q < count → is_wide n x ≡ true → 0 < reader_count n (set of i b) x q → (b ≡ q) ⊎ (b ≡ q → ⊥) → is_marked new x q ≡ true
    read x q m k wide some (inr ne) = kept x q (are.marked x q m k wide (inr (still_read n of i b x q l l' ne some)))
    read x q m k wide some (inl e) =
        subst (λ (r : ℕ). is_marked new x r ≡ true) e (at-b (newly_read n of i b x (λ y. is_marked new y b ≡ true) l l' m wide apart row (subst (λ (r : ℕ). 0 < reader_count n (set of i b) x r) (sym e) some)))
      where
        at-b : (0 < reader_count n of x b) ⊎ (is_marked new x b ≡ true) → is_marked new x b ≡ true
        at-b (inl h) = kept x b (are.marked x b m within wide (inr h))
        at-b (inr h) = h

    stands : (x q : ℕ) → x < length n.nodes → q < count → is_wide n x ≡ true → get_or (set of i b) x 0 ≡ q → (x ≡ i) ⊎ (x ≡ i → ⊥) → is_marked new x q ≡ true
    stands x q m k wide e (inl f) =
        let here : b ≡ q = sym (ap (λ (z : ℕ). get_or (set of i b) z 0) f ∙ get_or-set_same of i b 0 l) ∙ e in
        subst (λ (z : ℕ). is_marked new z q ≡ true) (sym f) (subst (λ (r : ℕ). is_marked new i r ≡ true) here own)
    stands x q m k wide e (inr ne) = kept x q (are.marked x q m k wide (inl (sym (get_or-set_other of i x b 0 ne) ∙ e)))

    at : (x q : ℕ) → x < length n.nodes → q < count → is_wide n x ≡ true → IsBeside n (set of i b) x q → is_marked new x q ≡ true
    at x q m k wide (inl e) = stands x q m k wide e (cases_eq x i)
    at x q m k wide (inr some) = read x q m k wide some (cases_eq b q)

-- node x is no longer marked in a partition where it neither stands nor is read
pub marks_left : (n : Net) (of : List ℕ) (count x a : ℕ) (old new : List (List ℕ)) → AreMarks n of count old → (get_or of x 0 ≡ a → ⊥) → reader_count n of x a ≡ 0 → length new ≡ length old
    → ((z : ℕ) → length (get_or new z []) ≡ length (get_or old z [])) → ((z r : ℕ) → (a ≡ r → ⊥) → is_marked old z r ≡ true → is_marked new z r ≡ true) → ((z r : ℕ) → (z ≡ x → ⊥) → is_marked old z r ≡ true → is_marked new z r ≡ true)
    → AreMarks n of count new
marks_left n of count x a old new are apart none long rows kept others =
    record {
      long = long ∙ are.long;
      narrow = λ z m no. rows z ∙ are.narrow z m no;
      marked = λ z q m k wide near. at z q near (are.marked z q m k wide near) (cases_eq a q) (cases_eq z x);
    }
  where
    never : (z q : ℕ) → a ≡ q → z ≡ x → IsBeside n of z q → ⊥
    never z q e f (inl h) = apart (sym (ap (λ (k : ℕ). get_or of k 0) f) ∙ (h ∙ sym e))
    never z q e f (inr h) = omega (arith, h, none, ap (λ (k : ℕ). reader_count n of k q) f, ap (reader_count n of x) e)

    at : (z q : ℕ) → IsBeside n of z q → is_marked old z q ≡ true → (a ≡ q) ⊎ (a ≡ q → ⊥) → (z ≡ x) ⊎ (z ≡ x → ⊥) → is_marked new z q ≡ true
    at z q near h (inr ne) f = kept z q ne h
    at z q near h (inl e) (inr ne) = others z q ne h
    at z q near h (inl e) (inl f) = absurd (never z q e f near)

-- the first nodes are marked
pub record MarksBelow (n : Net) (of : List ℕ) (x : ℕ) (marks : List (List ℕ)) : Type 0 where
  pub long : length marks ≡ length n.nodes
  pub narrow : (z : ℕ) → is_wide n z ≡ false → length (get_or marks z []) ≡ 0
  pub marked : (z q : ℕ) → z < x → is_wide n z ≡ true → IsBeside n of z q → is_marked marks z q ≡ true

pub marks_more : (n : Net) (of : List ℕ) (x : ℕ) (old new : List (List ℕ)) → is_wide n x ≡ true → MarksBelow n of x old → length new ≡ length old
    → ((z : ℕ) → (z ≡ x → ⊥) → length (get_or new z []) ≡ length (get_or old z [])) → ((z r : ℕ) → (z ≡ x → ⊥) → is_marked old z r ≡ true → is_marked new z r ≡ true)
    → is_marked new x (get_or of x 0) ≡ true → All (λ y. is_marked new x (get_or of y 0) ≡ true) (other_readers n x) → MarksBelow n of (x + 1) new
marks_more n of x old new is_so before long rows kept own row =
    record {
      long = long ∙ before.long;
      narrow = λ z no. rows z (λ e. true≢false (sym is_so ∙ (sym (ap (is_wide n) e) ∙ no))) ∙ before.narrow z no;
      marked = λ z q l wide near. at z q l wide near (cases_eq z x);
    }
  where
    here : (q : ℕ) → IsBeside n of x q → is_marked new x q ≡ true
    here q (inl e) = subst (λ (r : ℕ). is_marked new x r ≡ true) e own
    here q (inr some) = found_there n of x q (λ r. is_marked new x r ≡ true) row some

    at : (z q : ℕ) → z < x + 1 → is_wide n z ≡ true → IsBeside n of z q → (z ≡ x) ⊎ (z ≡ x → ⊥) → is_marked new z q ≡ true
    at z q l wide near (inl e) = subst (λ (k : ℕ). is_marked new k q ≡ true) (sym e) (here q (subst (λ (k : ℕ). IsBeside n of k q) e near))
    at z q l wide near (inr ne) = kept z q ne (before.marked z q (omega (arith, l, ne)) wide near)

pub marks_narrow : (n : Net) (of : List ℕ) (x : ℕ) (marks : List (List ℕ)) → is_wide n x ≡ false → MarksBelow n of x marks → MarksBelow n of (x + 1) marks
marks_narrow n of x marks none before =
    record { long = before.long; narrow = before.narrow; marked = λ z q l wide near. before.marked z q (below z l wide (cases_eq z x)) wide near }
  where
    below : (z : ℕ) → z < x + 1 → is_wide n z ≡ true → (z ≡ x) ⊎ (z ≡ x → ⊥) → z < x
    below z l wide (inl e) = absurd (true≢false (sym wide ∙ (ap (is_wide n) e ∙ none)))
    below z l wide (inr ne) = omega (arith, l, ne)
