-- The contents of a map of names, read by name.
use Rattle.std.proofs.Common.{◌≡◌, ◌≢◌, ℕ, Bool, true, false, cond, List, [], ◌∷◌, map, Option, Some, refl, sym, ap, ◌∙◌}
use Rattle.std.specs.Prelude.{option_map, string_bytes, Vec, String}
use Rattle.std.specs.Ordering.{nat_cmp, eq_by_cmp}
use Rattle.std.specs.Cmp.{eq_by_cmp_equiv}
use Rattle.std.specs.Cmp.Lexicographic.{slice_cmp, nat_list_cmp_total}
use Rattle.std.specs.FinMap.{get, insert, find, get-from_entries, get-insert, same_map, slice_cmp-IsAntisymmetric, nat_cmp-IsAntisymmetric}
use Rattle.std.specs.Str.{bytes_eq}
use Rattle.std.specs.Map.{lookup}
use Rattle.std.specs.BTreeMap as tree
use Rattle.std.specs.BTreeMap.{is_at}
use Rattle.std.specs.declared.alloc.Global.{Global}
use Rattle.std.specs.String.{string_cmp}
use Rattle.std.proofs.lemmas.Bool.{false_from_ne_true}
use Rattle.std.proofs.lemmas.Map.Text.{is_eq-slice_cmp, btree_map_updates_text}
use Rattle.std.proofs.lemmas.Slice.Eq.{bytes_eq-Decides}
use Rattle.tmr_outside.specs.Contents.{Contents, entry_bytes, contents_of}

chosen : (b : Bool) (v : Vec ℕ Global) (a : Option (List ℕ)) (o : Option (Vec ℕ Global)) → a ≡ option_map (λ v. v.items) o → cond b (Some v.items) a ≡ option_map (λ v. v.items) (cond b (Some v) o)
chosen true v a o e = refl
chosen false v a o e = e

-- a look-up in the pairs of bytes is one in the map
find-entry_bytes : (name : List ℕ) (es : List (String Global × Vec ℕ Global)) → find (slice_cmp nat_cmp) name (map entry_bytes es) ≡ option_map (λ v. v.items) (lookup (is_at (λ k. slice_cmp nat_cmp name (string_bytes k))) es)
find-entry_bytes name [] = refl
find-entry_bytes name (e ∷ es) = chosen _ e.1 _ _ (find-entry_bytes name es)

pub get-contents_of : (m : tree.BTreeMap (String Global) (Vec ℕ Global)) (name : List ℕ) → get (contents_of m) name ≡ option_map (λ v. v.items) (tree.get_by_text m name)
get-contents_of m name = get-from_entries nat_list_cmp_total (map entry_bytes m.entries) name ∙ find-entry_bytes name m.entries

-- the test of an insertion, turned round
turned : (key name : List ℕ) → bytes_eq key name ≡ eq_by_cmp (slice_cmp nat_cmp) name key
turned key name = sym (is_eq-slice_cmp key name) ∙ (eq_by_cmp_equiv nat_list_cmp_total).symm key name

-- what an insertion does
pub contents_of-insert : (key : String Global) (bytes : Vec ℕ Global) (m n : tree.BTreeMap (String Global) (Vec ℕ Global)) → tree.Updates string_cmp m n key (Some bytes) → contents_of n ≡ insert (contents_of m) (string_bytes key) bytes.items
contents_of-insert key bytes m n updates = same_map nat_list_cmp_total (slice_cmp-IsAntisymmetric nat_cmp-IsAntisymmetric) _ _ (λ name.
    get-contents_of n name
    ∙ ap (option_map (λ v. v.items)) (btree_map_updates_text (string_bytes key) m n (Some bytes) updates name)
    ∙ sym (chosen (bytes_eq (string_bytes key) name) bytes (get (contents_of m) name) (tree.get_by_text m name) (get-contents_of m name))
    ∙ ap (λ b. cond b (Some bytes.items) (get (contents_of m) name)) (turned (string_bytes key) name)
    ∙ sym (get-insert nat_list_cmp_total (contents_of m) (string_bytes key) bytes.items name))

-- an insertion leaves the other names
pub get-insert_other : (held : Contents) (name : List ℕ) (bytes : List ℕ) (other : List ℕ) → other ≢ name → get (insert held name bytes) other ≡ get held other
get-insert_other held name bytes other differs =
    get-insert nat_list_cmp_total held name bytes other
    ∙ ap (λ b. cond b (Some bytes) (get held other)) (is_eq-slice_cmp other name ∙ unequal other name differs)
  where
    unequal : (xs ys : List ℕ) → xs ≢ ys → bytes_eq xs ys ≡ false
    unequal xs ys differs = false_from_ne_true (bytes_eq xs ys) (λ e. differs ((bytes_eq-Decides xs ys).0 e))

-- the name itself holds what was put there
pub get-insert_same : (held : Contents) (name bytes : List ℕ) → get (insert held name bytes) name ≡ Some bytes
get-insert_same held name bytes =
    get-insert nat_list_cmp_total held name bytes name
    ∙ ap (λ b. cond b (Some bytes) (get held name)) (is_eq-slice_cmp name name ∙ (bytes_eq-Decides name name).1 refl)

pub ruleset contents_rules = (get-contents_of, get-insert_other)
