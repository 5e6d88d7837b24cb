-- The count of one model.
use Rattle.std.proofs.Common.{◌≡◌, ℕ, ◌+◌, ◌<◌, ◌≤◌, Bool, true, false, cond, List, map, min, sym, subst, ◌∙◌, arith, Option}
use Rattle.std.specs.Prelude.{All}
use Rattle.std.specs.List.{sum_by}
use Rattle.std.specs.Str.{bytes_eq}
use Rattle.std.proofs.lemmas.List.Sums.{sum_by-le-sum_by}
use Rattle.limits.specs.Most.{widest_text}
use Rattle.blif_text.specs.Kind.{is_among}
use Rattle.blif_text.specs.declared.library.Element.{Element}
use Rattle.blif_text.specs.Views.{plain_element}
use Rattle.library_faults.specs.declared.lengths.count.Count.{Count}
use Rattle.library_faults.specs.Private.Counts.{Use, Formal, Own, own_length, own_one, formal_one, by_formal, least, fixed_with, uses_with, IsCount, IsEmptyCount, IsTold, IsAdded, Adds, sum_of}
use Rattle.library_faults.proofs.Sums.{sum_same, sum_both}

pub rebased : (limit : ℕ) (fit : Bool) (counts : List ℕ → Option Count) (fixed : List ℕ → ℕ) (uses : List ℕ → List Use) (first last : Count) (items elements : List Element) (keys : List (List ℕ)) → items ≡ elements → first.formals.keys ≡ keys → ((limit' : ℕ) (fixed' : List ℕ → ℕ) (uses' : List ℕ → List Use) → All (IsTold limit' counts fixed' uses') (map plain_element items) → IsAdded limit' fit first last (fixed_with fixed' (map plain_element items)) (uses_with (is_among first.formals.keys) uses' 0 (map plain_element items))) → All (IsTold limit counts fixed uses) (map plain_element elements) → IsAdded limit fit first last (fixed_with fixed (map plain_element elements)) (uses_with (is_among keys) uses 0 (map plain_element elements))
rebased limit fit counts fixed uses first last items elements keys same formals added told =
    subst (λ ks. IsAdded limit fit first last (fixed_with fixed (map plain_element elements)) (uses_with (is_among ks) uses 0 (map plain_element elements))) formals
    (subst (λ (es : List Element). IsAdded limit fit first last (fixed_with fixed (map plain_element es)) (uses_with (is_among first.formals.keys) uses 0 (map plain_element es))) same
    (added limit fixed uses (subst (λ (es : List Element). All (IsTold limit counts fixed uses) (map plain_element es)) (sym same) told)))

pub least_sum : (uses : List Use) → sum_by least uses ≡ sum_by own_length uses + sum_by formal_one uses
least_sum uses = sum_same least (λ u. own_length u + formal_one u) uses one ∙ sum_both own_length formal_one uses
  where
    one : (u : Use) → least u ≡ own_length u + formal_one u
    one (Formal name) = omega arith
    one (Own text) = omega arith

by_below : (name : List ℕ) (u : Use) → by_formal name u ≤ formal_one u
by_below name (Formal formal) = go (bytes_eq name formal)
  where
    go : (b : Bool) → cond b 1 0 ≤ 1
    go true = omega arith
    go false = omega arith
by_below name (Own text) = omega arith

ones_below : (u : Use) → own_one u ≤ own_length u
ones_below (Formal name) = omega arith
ones_below (Own text) = omega arith

module _ (limit : ℕ) (first last : Count) (fixed : ℕ) (uses : List Use) (keys : List (List ℕ)) (small : limit ≤ widest_text) (empty : IsEmptyCount first keys) where
  pub too_large : (fit : Bool) → IsAdded limit fit first last fixed uses → fit ≡ false → limit < fixed + sum_by least uses
  too_large fit added e = subst (λ t. IsAdded limit t first last fixed uses) e added

  pub too_many : (fit : Bool) (total : ℕ) → IsAdded limit fit first last fixed uses → fit ≡ true → total ≡ min (last.bytes + last.passed) 18446744073709551615 → limit < total → limit < fixed + sum_by least uses
  too_many fit total added e is over = omega (arith, adds.bytes, adds.passed, empty.bytes, empty.passed, least_sum uses)
    where
      adds : Adds first last fixed (sum_of uses)
      adds = subst (λ t. IsAdded limit t first last fixed uses) e added

  pub counted : (fit : Bool) (total : ℕ) → IsAdded limit fit first last fixed uses → fit ≡ true → total ≡ min (last.bytes + last.passed) 18446744073709551615 → total ≤ limit → last.passed_bytes < 18446744073709551615 → IsCount last fixed uses
  counted fit total added e is within exact = record {
    bytes = bytes;
    places = omega (arith, adds.places, empty.places, bytes, sum_by-le-sum_by own_one own_length uses ones_below);
    passed = passed;
    passed_bytes = omega (arith, adds.passed_bytes, empty.passed_bytes, exact);
    by = λ name. omega (arith, adds.by name, empty.by name, passed, sum_by-le-sum_by (by_formal name) formal_one uses (by_below name));
    small = omega arith;
    exact = exact;
  }
    where
      adds : Adds first last fixed (sum_of uses)
      adds = subst (λ t. IsAdded limit t first last fixed uses) e added

      bytes : last.bytes ≡ fixed + sum_by own_length uses
      bytes = omega (arith, adds.bytes, empty.bytes)

      passed : last.passed ≡ sum_by formal_one uses
      passed = omega (arith, adds.passed, empty.passed)
