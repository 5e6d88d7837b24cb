-- What lines say, with one line more.
use Rattle.std.proofs.Common.{◌≡◌, ◌≢◌, ℕ, ◌≤◌, Bool, true, false, cond, List, [], ◌∷◌, ◌++◌, length, refl, sym, ap, ◌∙◌, arith}
use Rattle.std.specs.Prelude.{codes, ◌&&◌, ◌||◌, ◌==◌, map}
use Rattle.std.specs.Str.{bytes_eq}
use Rattle.std.specs.List.{list_all}
use Rattle.std.proofs.lemmas.List.{length-append, append-nil, map-append}
use Rattle.std.proofs.lemmas.List.Elements.{filter-append}
use Rattle.std.proofs.lemmas.List.Concat.{flat_map-append}
use Rattle.std.proofs.Math.ListN.{get_or-append}
use Rattle.std.proofs.lemmas.Slice.Eq.{bytes_eq-Decides}
use Rattle.tmr_base.specs.Copies.{Three}
use Rattle.flat_net.specs.Net.{Net}
use Rattle.certificate.specs.declared.role.Role.{Role}
use Rattle.certificate.specs.Lines.{words_of, word, is_full}
use Rattle.certificate.specs.Words.{word_of, number_in, value, is_form}
use Rattle.certificate.specs.Reading.{lines_with, version_in, parts_in, node_gives, voter_gives, gives, given, ended}
use Rattle.certificate.proofs.Cases.{both_true}
use Rattle.certificate.proofs.LineTests.{copies_in, labels_in}

-- ---- one line more

pub begins : (count : ℕ) (first line : List ℕ) → is_form count first line ≡ true → word_of line 0 ≡ first
begins count first line e =
    let long = both_true (length (words_of line) == count) (list_all is_full (words_of line) && bytes_eq (word (words_of line) 0) first) e in
    (bytes_eq-Decides (word_of line 0) first).0 (both_true (list_all is_full (words_of line)) (bytes_eq (word (words_of line) 0) first) long.1).1

pub with_line : (first : List ℕ) (before : List (List ℕ)) (line : List ℕ) → bytes_eq (word_of line 0) first ≡ true → lines_with first (before ++ line ∷ []) ≡ lines_with first before ++ line ∷ []
with_line first before line e = filter-append (λ l. bytes_eq (word_of l 0) first) before (line ∷ []) ∙ ap (λ (b : Bool). lines_with first before ++ cond b (line ∷ []) []) e

pub without_line : (first : List ℕ) (before : List (List ℕ)) (line : List ℕ) → bytes_eq (word_of line 0) first ≡ false → lines_with first (before ++ line ∷ []) ≡ lines_with first before
without_line first before line e = filter-append (λ l. bytes_eq (word_of l 0) first) before (line ∷ []) ∙ (ap (λ (b : Bool). lines_with first before ++ cond b (line ∷ []) []) e ∙ append-nil (lines_with first before))

pub given_more : (n h : Net) (before : List (List ℕ)) (line : List ℕ) → given n h (before ++ line ∷ []) ≡ given n h before ++ gives n h line
given_more n h before line = flat_map-append (gives n h) before (line ∷ []) ∙ ap (λ (v : List (ℕ × Role)). given n h before ++ v) (append-nil (gives n h line))

pub still_going : (before : List (List ℕ)) (line : List ℕ) → ended before ≡ false → bytes_eq line (codes "end") ≡ false → ended (before ++ line ∷ []) ≡ false
still_going [] line e f = rw f refl
still_going (l ∷ before) line e f = go (bytes_eq l (codes "end")) e (λ d. still_going before line d f)
  where
    go : (b : Bool) → b || ended before ≡ false → (ended before ≡ false → ended (before ++ line ∷ []) ≡ false) → b || ended (before ++ line ∷ []) ≡ false
    go true d more = absurd cc
    go false d more = more d

pub has_ended : (before : List (List ℕ)) (line : List ℕ) → bytes_eq line (codes "end") ≡ true → ended (before ++ line ∷ []) ≡ true
has_ended [] line f = rw f refl
has_ended (l ∷ before) line f = go (bytes_eq l (codes "end")) (has_ended before line f)
  where
    go : (b : Bool) → ended (before ++ line ∷ []) ≡ true → b || ended (before ++ line ∷ []) ≡ true
    go true more = refl
    go false more = more

is_true_or_false : (a b : List ℕ) (c : Bool) → bytes_eq a b ≡ c → a ≢ b → bytes_eq a b ≡ false
is_true_or_false a b true e apart = absurd (apart ((bytes_eq-Decides a b).0 e))
is_true_or_false a b false e apart = e

pub not_end : (line first : List ℕ) → word_of line 0 ≡ first → codes "end" ≢ first → bytes_eq line (codes "end") ≡ false
not_end line first is apart = is_true_or_false line (codes "end") (bytes_eq line (codes "end")) refl (λ same. apart (ap (λ (l : List ℕ). word_of l 0) (sym same) ∙ is))

-- ---- what the lines so far say

pub record Told (n h : Net) (before : List (List ℕ)) (parts version : ℕ) (depth part : List ℕ) (copies labels : List Three) (gifts : List (ℕ × Role)) : Type 0 where
  pub two : 2 ≤ length before
  pub parts_are : parts_in before ≡ parts
  pub version_is : version_in before ≡ version
  pub going : ended before ≡ false
  pub depth_are : map (λ line. value (number_in line 3)) (lines_with (codes "part") before) ≡ depth
  pub part_are : map (λ line. value (number_in line 2)) (lines_with (codes "node") before) ≡ part
  pub copies_are : map (copies_in h) (lines_with (codes "node") before) ≡ copies
  pub labels_are : map labels_in (lines_with (codes "node") before) ≡ labels
  pub gifts_are : given n h before ≡ gifts

one_longer : {A : Type 0} (xs : List A) (x : A) → 2 ≤ length xs → 2 ≤ length (xs ++ x ∷ [])
one_longer xs x le = omega (arith, length-append xs (x ∷ []))

mapped : {A : Type 0} (f : List ℕ → A) (xs : List (List ℕ)) (line : List ℕ) (ys : List A) → map f xs ≡ ys → map f (xs ++ line ∷ []) ≡ ys ++ f line ∷ []
mapped f xs line ys e = map-append f xs (line ∷ []) ∙ ap (λ (v : List _). v ++ f line ∷ []) e

module _ (n h : Net) (before : List (List ℕ)) (parts version : ℕ) (depth part : List ℕ) (copies labels : List Three) (gifts : List (ℕ × Role)) (told : Told n h before parts version depth part copies labels gifts) (line : List ℕ) where
  test : (first : List ℕ) → word_of line 0 ≡ first → (k : List ℕ) → bytes_eq (word_of line 0) k ≡ bytes_eq first k
  test first e k = ap (λ (w : List ℕ). bytes_eq w k) e

  parts_still : parts_in (before ++ line ∷ []) ≡ parts
  parts_still = ap (λ (l : List ℕ). value (number_in l 1)) (get_or-append before (line ∷ []) [] 1 (omega (arith, told.two))) ∙ told.parts_are

  version_still : version_in (before ++ line ∷ []) ≡ version
  version_still = ap (λ (l : List ℕ). version_in (l ∷ [])) (get_or-append before (line ∷ []) [] 0 (omega (arith, told.two))) ∙ told.version_is

  pub told_part : word_of line 0 ≡ codes "part" → Told n h (before ++ line ∷ []) parts version (depth ++ value (number_in line 3) ∷ []) part copies labels gifts
  told_part first =
      let same = without_line (codes "node") before line (test (codes "part") first (codes "node")) in
      record {
        two = one_longer before line told.two;
        parts_are = parts_still;
        version_is = version_still;
        going = still_going before line told.going (not_end line (codes "part") first (λ e. absurd cc));
        depth_are = ap (map _) (with_line (codes "part") before line (test (codes "part") first (codes "part"))) ∙ mapped (λ l. value (number_in l 3)) _ line depth told.depth_are;
        part_are = ap (map _) same ∙ told.part_are;
        copies_are = ap (map _) same ∙ told.copies_are;
        labels_are = ap (map _) same ∙ told.labels_are;
        gifts_are = given_more n h before line ∙ (rw (test (codes "part") first (codes "node"), test (codes "part") first (codes "voter")) (append-nil (given n h before)) ∙ told.gifts_are);
      }

  pub told_node : word_of line 0 ≡ codes "node" → Told n h (before ++ line ∷ []) parts version depth (part ++ value (number_in line 2) ∷ []) (copies ++ copies_in h line ∷ []) (labels ++ labels_in line ∷ []) (gifts ++ node_gives n h line)
  told_node first =
      let more = with_line (codes "node") before line (test (codes "node") first (codes "node")) in
      record {
        two = one_longer before line told.two;
        parts_are = parts_still;
        version_is = version_still;
        going = still_going before line told.going (not_end line (codes "node") first (λ e. absurd cc));
        depth_are = ap (map _) (without_line (codes "part") before line (test (codes "node") first (codes "part"))) ∙ told.depth_are;
        part_are = ap (map _) more ∙ mapped (λ l. value (number_in l 2)) _ line part told.part_are;
        copies_are = ap (map _) more ∙ mapped (copies_in h) _ line copies told.copies_are;
        labels_are = ap (map _) more ∙ mapped labels_in _ line labels told.labels_are;
        gifts_are = given_more n h before line ∙ (rw (test (codes "node") first (codes "node")) (ap (λ (v : List (ℕ × Role)). v ++ node_gives n h line) told.gifts_are));
      }

  pub told_voter : word_of line 0 ≡ codes "voter" → Told n h (before ++ line ∷ []) parts version depth part copies labels (gifts ++ voter_gives n h line)
  told_voter first =
      let same = without_line (codes "node") before line (test (codes "voter") first (codes "node")) in
      record {
        two = one_longer before line told.two;
        parts_are = parts_still;
        version_is = version_still;
        going = still_going before line told.going (not_end line (codes "voter") first (λ e. absurd cc));
        depth_are = ap (map _) (without_line (codes "part") before line (test (codes "voter") first (codes "part"))) ∙ told.depth_are;
        part_are = ap (map _) same ∙ told.part_are;
        copies_are = ap (map _) same ∙ told.copies_are;
        labels_are = ap (map _) same ∙ told.labels_are;
        gifts_are = given_more n h before line ∙ (rw (test (codes "voter") first (codes "node"), test (codes "voter") first (codes "voter")) (ap (λ (v : List (ℕ × Role)). v ++ voter_gives n h line) told.gifts_are));
      }
