-- Tables of at most six pins by their words.
use Rattle.std.proofs.Common.{◌≡◌, ◌≢◌, ℕ, suc, ◌+◌, ◌<◌, ◌≤◌, ◌⊎◌, inl, inr, Bool, true, false, List, [], ◌∷◌, ◌++◌, length, map, take, cond, slice_index, slice_get, Option, Some, None, refl, sym, ◌∙◌, ap, subst, arith}
use Rattle.std.specs.Prelude.{nat_le}
use Rattle.std.proofs.lemmas.List.{length-map, get_or_append_left}
use Rattle.std.proofs.Math.Seq.{get_or-append_seam, take-suc}
use Rattle.std.proofs.lemmas.Option.{get_or_from_slice_get, slice_get_within}
use Rattle.tmr_base.specs.declared.ids.NetId.{NetId}
use Rattle.table_cover.specs.Cover.{cover_value}
use Rattle.table_cover.specs.Words.{word_bit}
use Rattle.flat_net.specs.Net.{Node, Table, Register, IsTable}
use Rattle.net_meaning.specs.Meaning.{bit}
use Rattle.net_simulator.specs.Settled.{own_value}
use Rattle.net_simulator.specs.Tables.{entry_of}
use Rattle.net_simulator.specs.Truth.{number_from, TellsNode, ids_of, short_pins}
use Rattle.net_simulator.proofs.Settling.{equal_or_not}

length_ids : (pins : List ℕ) → length (ids_of pins) ≡ length pins
length_ids pins = length-map pins (λ (p : ℕ). record { 0 = p })

pub pins_is : (o : Option Node) (x : ℕ) → (entry_of o x).pins ≡ length (short_pins o)
pins_is None x = refl
pins_is (Some (Register name init pin)) x = refl
pins_is (Some (Table name cover pins)) x = go (nat_le (length pins) 6)
  where
    go : (few : Bool) → cond few (length pins) 0 ≡ length (cond few (ids_of pins) [])
    go true = sym (length_ids pins)
    go false = refl

few_is : (n : ℕ) → nat_le n 6 ≡ true → n ≤ 6
few_is n e = grind arith

pub short_few : (o : Option Node) → length (short_pins o) ≤ 6
short_few None = omega arith
short_few (Some (Register name init pin)) = omega arith
short_few (Some (Table name cover pins)) = go (nat_le (length pins) 6) refl
  where
    go : (few : Bool) → nat_le (length pins) 6 ≡ few → length (cond few (ids_of pins) []) ≤ 6
    go true e = let l = few_is (length pins) e in let m = length_ids pins in omega (arith, l, m)
    go false e = omega arith

values_of_ids : (v : List Bool) (pins : List ℕ) → map (λ (p : NetId). bit v p.0) (ids_of pins) ≡ map (bit v) pins
values_of_ids v [] = refl
values_of_ids v (p ∷ pins) = ap (λ (bs : List Bool). bit v p ∷ bs) (values_of_ids v pins)

-- a word's bit, or what the literals give, is the value of the table
pub short_tells : (o : Option Node) (x word t : ℕ) (before v : List Bool) (rows : Bool) → IsTable o → TellsNode o word → rows ≡ own_value o t before v
    → cond (entry_of o x).is_short (word_bit (number_from 0 (map (λ (p : NetId). bit v p.0) (short_pins o))) word) rows ≡ own_value o t before v
short_tells None x word t before v rows table tells same = absurd table
short_tells (Some (Register name init pin)) x word t before v rows table tells same = absurd table
short_tells (Some (Table name cover pins)) x word t before v rows table tells same = go (nat_le (length pins) 6) refl
  where
    go : (few : Bool) → nat_le (length pins) 6 ≡ few → cond few (word_bit (number_from 0 (map (λ (p : NetId). bit v p.0) (cond few (ids_of pins) []))) word) rows ≡ cover_value cover (map (bit v) pins)
    go true e =
        ap (λ (bs : List Bool). word_bit (number_from 0 bs) word) (values_of_ids v pins)
        ∙ tells (few_is (length pins) e) (map (bit v) pins) (length-map pins (bit v))
    go false e = same

-- one word more
pub words_more : (P : ℕ → ℕ → Type 0) (words new : List ℕ) (i word : ℕ) → length words ≡ i → new ≡ words ++ word ∷ [] → ((k : ℕ) → k < i → P k (slice_index words k)) → P i word
    → (k : ℕ) → k < i + 1 → P k (slice_index new k)
words_more P words new i word long pushed before one k h = subst (λ (ws : List ℕ). P k (slice_index ws k)) (sym pushed) (go (equal_or_not k i))
  where
    go : (k ≡ i) ⊎ (k ≢ i) → P k (slice_index (words ++ word ∷ []) k)
    go (inl same) =
        let last : slice_index (words ++ word ∷ []) (length words) ≡ word = get_or-append_seam words word [] 0 in
        let here : slice_index (words ++ word ∷ []) k ≡ word = ap (slice_index (words ++ word ∷ [])) (same ∙ sym long) ∙ last in
        subst (P k) (sym here) (subst (λ (j : ℕ). P j word) (sym same) one)
    go (inr apart) =
        let within : k < length words = omega arith in
        subst (P k) (sym (get_or_append_left words (word ∷ []) 0 k within)) (before k (omega arith))

-- one net more
pub take_next : (xs : List ℕ) (i x : ℕ) → slice_get xs i ≡ Some x → take (i + 1) xs ≡ take i xs ++ x ∷ []
take_next xs i x e =
    ap (λ (k : ℕ). take k xs) (let s : i + 1 ≡ suc i = omega arith in s)
    ∙ (take-suc xs i x (slice_get_within xs i x e) ∙ ap (λ (y : ℕ). take i xs ++ y ∷ []) (get_or_from_slice_get xs i x x e))
