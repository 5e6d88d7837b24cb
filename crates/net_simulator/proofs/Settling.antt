-- One net more has its value.
use Rattle.std.proofs.Common.{◌≡◌, ◌≢◌, ℕ, zero, suc, ◌+◌, ◌<◌, ◌⊎◌, Bool, false, List, length, refl, sym, ◌∙◌, ap, subst, arith, inl, inr, slice_index, slice_set, Option, Some, None}
use Rattle.std.proofs.lemmas.List.{length-set, get_or-set_same, get_or-set_other}
use Rattle.table_cover.specs.Cover.{cover_value}
use Rattle.flat_net.specs.Net.{Net, Node, Table, Register, net_count, node_of, table_pins, IsTable}
use Rattle.net_meaning.specs.Meaning.{bit}
use Rattle.std.specs.Option.{unwrap_or}
use Rattle.net_simulator.specs.Forced.{forced_value}
use Rattle.net_meaning.proofs.Lists.{map_agree}
use Rattle.net_simulator.specs.Settled.{IsSettled, IsAmong}
use Rattle.net_simulator.specs.Tables.{IsTableOrder}

-- an equation asks of the values of its own cycle those of a table's pins alone
pub same_value : (o : Option Node) (u : Option Bool) (t : ℕ) (ins before v w : List Bool) (x : ℕ) → ((j : ℕ) → j < length (table_pins o) → bit v (slice_index (table_pins o) j) ≡ bit w (slice_index (table_pins o) j)) → forced_value o u t ins before v x ≡ forced_value o u t ins before w x
same_value None u t ins before v w x same = refl
same_value (Some (Table name cover pins)) u t ins before v w x same = ap (λ (bs : List Bool). unwrap_or u (cover_value cover bs)) (map_agree (bit v) (bit w) pins pins refl same)
same_value (Some (Register name init pin)) u zero ins before v w x same = refl
same_value (Some (Register name init pin)) u (suc t) ins before v w x same = refl

pub equal_or_not : (a b : ℕ) → (a ≡ b) ⊎ (a ≢ b)
equal_or_not a b = grind arith

module _ (n : Net) (t : ℕ) (ins before : List Bool) (forced : ℕ → Option Bool) (P Q : ℕ → Type 0) (v : List Bool) (x : ℕ) (b : Bool) where
  -- the value of net x is written, which no settled net reads
  pub settle : IsSettled n t ins before forced P v → x < net_count n → ((y : ℕ) → Q y → y ≢ x → P y)
      → ((y : ℕ) → Q y → (j : ℕ) → j < length (table_pins (node_of n y)) → slice_index (table_pins (node_of n y)) j ≢ x)
      → b ≡ forced_value (node_of n x) (forced x) t ins before v x
      → IsSettled n t ins before forced Q (slice_set v x b)
  settle is l fewer unread e = record { wide = length-set v x b ∙ is.wide; equations = λ y h q. go y h q (equal_or_not y x) }
    where
      after : (y : ℕ) → Q y → forced_value (node_of n y) (forced y) t ins before v y ≡ forced_value (node_of n y) (forced y) t ins before (slice_set v x b) y
      after y q = same_value (node_of n y) (forced y) t ins before v (slice_set v x b) y (λ j k. sym (get_or-set_other v x _ b false (unread y q j k)))

      go : (y : ℕ) → y < net_count n → Q y → (y ≡ x) ⊎ (y ≢ x) → bit (slice_set v x b) y ≡ forced_value (node_of n y) (forced y) t ins before (slice_set v x b) y
      go y h q (inl same) =
          let here : bit (slice_set v x b) y ≡ b = subst (λ (z : ℕ). bit (slice_set v x b) z ≡ b) (sym same) (get_or-set_same v x b false (let w = is.wide in omega arith)) in
          here ∙ (e ∙ (subst (λ (z : ℕ). forced_value (node_of n x) (forced x) t ins before v x ≡ forced_value (node_of n z) (forced z) t ins before v z) (sym same) refl ∙ after y q))
      go y h q (inr apart) = get_or-set_other v x y b false apart ∙ (is.equations y h (fewer y q apart) ∙ after y q)

  -- nothing is written
  pub settled_anyway : IsSettled n t ins before forced P v → ((y : ℕ) → y < net_count n → Q y → P y) → IsSettled n t ins before forced Q v
  settled_anyway is fewer = record { wide = is.wide; equations = λ y h q. is.equations y h (fewer y h q) }

-- no net among the first k + 1 reads the table at k
pub unread_at : (n : Net) (nets : List ℕ) → IsTableOrder n nets → (k : ℕ) → k < length nets
    → (y : ℕ) → IsAmong n nets (k + 1) y → (j : ℕ) → j < length (table_pins (node_of n y)) → slice_index (table_pins (node_of n y)) j ≢ slice_index nets k
unread_at n nets is k h y among j l same = go (node_of n y) refl
  where
    go : (o : Option Node) → node_of n y ≡ o → ⊥
    go None e = absurd (let none : length (table_pins (node_of n y)) ≡ 0 = ap (λ (o : Option Node). length (table_pins o)) e in omega arith)
    go (Some (Register name init pin)) e = absurd (let none : length (table_pins (node_of n y)) ≡ 0 = ap (λ (o : Option Node). length (table_pins o)) e in omega arith)
    go (Some (Table name cover pins)) e =
        let (i, below, here) = among (subst IsTable (sym e) tt) in
        let (m, before, there) = is.after i j (omega arith) (subst (λ (z : ℕ). j < length (table_pins (node_of n z))) (sym here) l) (subst (λ (z : ℕ). IsTable (node_of n (slice_index (table_pins (node_of n z)) j))) (sym here) (subst (λ (z : ℕ). IsTable (node_of n z)) (sym same) (is.tables k h))) in
        let found : slice_index nets m ≡ slice_index nets k = there ∙ (ap (λ (z : ℕ). slice_index (table_pins (node_of n z)) j) here ∙ same) in
        is.once m k (omega arith) h found

-- a net among the first k + 1 is the one at k or among the first k
pub among_fewer : (n : Net) (nets : List ℕ) (k : ℕ) (y : ℕ) → IsAmong n nets (k + 1) y → y ≢ slice_index nets k → IsAmong n nets k y
among_fewer n nets k y among apart table =
    let (i, below, here) = among table in
    (i, at i below here (equal_or_not i k), here)
  where
    at : (i : ℕ) → i < k + 1 → slice_index nets i ≡ y → (i ≡ k) ⊎ (i ≢ k) → i < k
    at i below here (inl e) = absurd (apart (sym here ∙ ap (slice_index nets) e))
    at i below here (inr e) = omega arith
