-- Nets that have the values of those that they stand for.
use Rattle.std.proofs.Common.{◌≡◌, ℕ, ◌+◌, ◌<◌, ◌⊎◌, inl, inr, Bool, true, false, List, [], ◌∷◌, ◌++◌, length, map, refl, sym, ◌∙◌, ap, subst, arith, slice_index, Option, Some, None}
use Rattle.std.specs.Prelude.{All, IfSome, IsSomeAnd, option_map, slice_index_or}
use Rattle.std.proofs.lemmas.List.{get_or-map, get_or_append_left}
use Rattle.std.proofs.Math.Seq.{get_or-append_seam}
use Rattle.tmr_base.specs.declared.ids.NetId.{NetId}
use Rattle.flat_net.specs.Nodes.{number_of}
use Rattle.std.proofs.lemmas.List.FromFn.{get_or-map-range_with_len, length-map-range_with_len}
use Rattle.table_cover.specs.Cover.{PlainCover, cover_value, IsMajority, majority_of}
use Rattle.flat_net.specs.Net.{Net, Node, Table, Register, net_count, node_of, pins_at, table_pins, IsTable, IsCoverOf, IsValid}
use Rattle.flat_net.proofs.Ranges.{pin_in_range}
use Rattle.flat_net.proofs.Slots.{slot_within}
use Rattle.graph.specs.Rows.{row, Stands}
use Rattle.graph.specs.Readers.{AreReaders}
use Rattle.net_meaning.specs.Meaning.{bit}
use Rattle.net_meaning.proofs.Lists.{map_agree}
use Rattle.net_simulator.specs.Beside.{IsAlike, IsCopy, IsVote, StandFor, StandForOne, AreReadersOf, net_row, net_rows}
use Rattle.net_simulator.specs.Cycle.{IsCycle, cycle_after, values_of}
use Rattle.net_simulator.specs.Forced.{forced_value}
use Rattle.net_simulator.specs.Settled.{own_value, last_of}
use Rattle.net_simulator.specs.Twins.{table_value, AreTablesMet}

-- what is the same of two tables
pub is_copy : (o p : Option Node) (origins : List ℕ) (a b : PlainCover) → IsCoverOf o a → IsCoverOf p b → a ≡ b → length (pins_at o) ≡ length (pins_at p) → StandFor origins (pins_at o) (pins_at p) → IsCopy p o origins
is_copy None p origins a b is_a is_b same long stand = absurd is_a
is_copy (Some (Register name init pin)) p origins a b is_a is_b same long stand = absurd is_a
is_copy (Some (Table name cover pins)) None origins a b is_a is_b same long stand = absurd is_b
is_copy (Some (Table name cover pins)) (Some (Register other init pin)) origins a b is_a is_b same long stand = absurd is_b
is_copy (Some (Table name cover pins)) (Some (Table other second qs)) origins a b is_a is_b same long stand = (is_a ∙ (same ∙ sym is_b), long, stand)

pub cover_long : (o p : Option Node) (a b : PlainCover) → length (pins_at o) ≡ a.width → length (pins_at p) ≡ b.width → a ≡ b → length (pins_at o) ≡ length (pins_at p)
cover_long o p a b e f same = e ∙ (ap (λ (k : PlainCover). k.width) same ∙ sym f)

pub ruleset copy_rules = (is_copy, cover_long)

pub is_vote : (o : Option Node) (origins : List ℕ) (x : ℕ) (a : PlainCover) → IsCoverOf o a → length (pins_at o) ≡ a.width → IsMajority a → StandForOne origins (pins_at o) x → IsVote o origins x
is_vote None origins x a is wide votes stand = absurd is
is_vote (Some (Register name init pin)) origins x a is wide votes stand = absurd is
is_vote (Some (Table name cover pins)) origins x a is wide votes stand = (subst IsMajority (sym is) votes, wide ∙ votes.three, stand)

pub ruleset vote_rules = (is_vote)

module _ (n : Net) (origins : List ℕ) (x : ℕ) where
  -- a copy has the value of what it copies
  pub copy_alike : (o : Option Node) → IsCopy (node_of n x) o origins → IsAlike n o origins x
  copy_alike o is v w met same = go (node_of n x) refl o is same
    where
      go : (p : Option Node) → node_of n x ≡ p → (o : Option Node) → IsCopy p o origins
          → ((i : ℕ) → i < length (table_pins o) → bit v (slice_index (table_pins o) i) ≡ bit w (slice_index origins (slice_index (table_pins o) i)))
          → table_value o v ≡ bit w x
      go None e o is same = absurd is
      go (Some (Register name init pin)) e o is same = absurd is
      go (Some (Table name cover pins)) e None is same = absurd (is.0)
      go (Some (Table name cover pins)) e (Some (Register other init pin)) is same = absurd (is.0)
      go (Some (Table name cover pins)) e (Some (Table other second qs)) is same =
          let (cover_is, long, stand) = is in
          let own : bit w x ≡ table_value (Some (Table name cover pins)) w = met x (subst IsTable (sym e) tt) ∙ ap (λ (p : Option Node). table_value p w) e in
          ap (λ (k : PlainCover). cover_value k (map (bit v) qs)) cover_is
          ∙ (ap (cover_value cover) (map_agree (bit v) (bit w) qs pins long (λ i h. same i (omega (arith, long)) ∙ ap (bit w) (stand i (omega (arith, long)))))
          ∙ sym own)

  majority_of_one : (b : Bool) → majority_of b b b ≡ b
  majority_of_one true = refl
  majority_of_one false = refl

  -- a majority of one value has it
  three_of_one : (cover : PlainCover) (v : List Bool) (b : Bool) (pins : List ℕ) → IsMajority cover → length pins ≡ 3 → ((i : ℕ) → i < length pins → bit v (slice_index pins i) ≡ b) → cover_value cover (map (bit v) pins) ≡ b
  three_of_one cover v b [] is long same = absurd (omega (arith, long))
  three_of_one cover v b (p ∷ []) is long same = absurd (omega (arith, long))
  three_of_one cover v b (p ∷ q ∷ []) is long same = absurd (omega (arith, long))
  three_of_one cover v b (p ∷ q ∷ r ∷ []) is long same =
      is.votes (bit v p) (bit v q) (bit v r)
      ∙ (ap (λ (a : Bool). majority_of a (bit v q) (bit v r)) (same 0 (omega arith))
      ∙ (ap (λ (a : Bool). majority_of b a (bit v r)) (same 1 (omega arith))
      ∙ (ap (λ (a : Bool). majority_of b b a) (same 2 (omega arith))
      ∙ majority_of_one b)))
  three_of_one cover v b (p ∷ q ∷ r ∷ s ∷ more) is long same = absurd (omega (arith, long))

  pub vote_alike : (o : Option Node) → IsVote o origins x → IsAlike n o origins x
  vote_alike None is v w met same = absurd is
  vote_alike (Some (Register name init pin)) is v w met same = absurd is
  vote_alike (Some (Table name cover pins)) is v w met same =
      let (votes, long, stand) = is in
      three_of_one cover v (bit w x) pins votes long (λ i h. same i h ∙ ap (bit w) (stand i h))

pub ruleset alike_rules = (copy_alike, vote_alike)

-- what a table's equation gives it, in every cycle
pub own_table_value : (o : Option Node) (t : ℕ) (before v : List Bool) → IsTable o → own_value o t before v ≡ table_value o v
own_table_value None t before v is = absurd is
own_table_value (Some (Table name cover pins)) t before v is = refl
own_table_value (Some (Register name init pin)) t before v is = absurd is

forced_table_value : (o : Option Node) (t : ℕ) (ins before v : List Bool) (x : ℕ) → IsTable o → forced_value o None t ins before v x ≡ table_value o v
forced_table_value None t ins before v x is = absurd is
forced_table_value (Some (Table name cover pins)) t ins before v x is = refl
forced_table_value (Some (Register name init pin)) t ins before v x is = absurd is

-- a cycle in which no table is forced
pub cycle_meets_tables : (n : Net) (last : Option (List Bool)) (ins : List Bool) (forced : ℕ → Option Bool) (v : List Bool) → IsCycle n last ins forced v → ((x : ℕ) → IsTable (node_of n x) → forced x ≡ None) → AreTablesMet n v
cycle_meets_tables n last ins forced v is none x table =
    is.equations x (within x (node_of n x) refl table)
    ∙ (ap (λ (u : Option Bool). forced_value (node_of n x) u (cycle_after last) ins (values_of last) v x) (none x table)
    ∙ forced_table_value (node_of n x) (cycle_after last) ins (values_of last) v x table)
  where
    within : (x : ℕ) (o : Option Node) → node_of n x ≡ o → IsTable o → x < net_count n
    within x None e is = absurd is
    within x (Some node) e is = (slot_within (length n.inputs) n.nodes x node e).1

-- the pins of a table among the pins of nodes
pub table_pins_at : (o : Option Node) (i : ℕ) → i < length (table_pins o) → table_pins o ≡ pins_at o
table_pins_at None i h = refl
table_pins_at (Some (Table name cover pins)) i h = refl
table_pins_at (Some (Register name init pin)) i h = absurd (omega arith)

-- a net with pins is one of the design
pub read_within : (n : Net) (y i : ℕ) → i < length (table_pins (node_of n y)) → y < net_count n
read_within n y i h = go (node_of n y) refl h
  where
    go : (o : Option Node) → node_of n y ≡ o → i < length (table_pins o) → y < net_count n
    go None e h = absurd (omega arith)
    go (Some node) e h = (slot_within (length n.inputs) n.nodes y node e).1

-- the readers of what each net reads
pub readers_are : (h : Net) (readers : List (List ℕ)) → IsValid h → AreReaders (net_rows h) readers → AreReadersOf h readers
readers_are h readers valid are y i l =
    let pins : table_pins (node_of h y) ≡ pins_at (node_of h y) = table_pins_at (node_of h y) i l in
    let within : y < net_count h = read_within h y i l in
    let rows : row (net_rows h) y ≡ pins_at (node_of h y) = get_or-map-range_with_len (net_row h) 0 (net_count h) y y [] within (omega arith) in
    let long : length (net_rows h) ≡ net_count h = length-map-range_with_len (net_row h) 0 (net_count h) in
    let there : i < length (pins_at (node_of h y)) = subst (λ (ps : List ℕ). i < length ps) pins l in
    let in_row : i < length (row (net_rows h) y) = subst (λ (ps : List ℕ). i < length ps) (sym rows) there in
    let pin : slice_index (pins_at (node_of h y)) i < net_count h = pin_in_range h y i _ valid there refl in
    subst (λ (ps : List ℕ). Stands (row readers (slice_index ps i)) y) (sym pins)
    (are.listed (slice_index (pins_at (node_of h y)) i) y (record { place = i; within = in_row; is = ap (λ (ps : List ℕ). slice_index ps i) rows; vertex = omega (arith, long, pin) }))

-- the net that a net stands for is one of the other design
pub origin_within : (origins : List NetId) (count i : ℕ) → All (λ o. o.0 < count) origins → i < length origins → slice_index (map number_of origins) i < count
origin_within origins count i range l =
    let here : slice_index (map number_of origins) i ≡ number_of (slice_index_or origins i (record { 0 = 0 })) = get_or-map number_of origins i (record { 0 = 0 }) 0 l in
    subst (λ (k : ℕ). k < count) (sym here) (range i (record { 0 = 0 }) l)

below_or_last : (y k : ℕ) → y < k + 1 → (y < k) ⊎ (y ≡ k)
below_or_last y k h = grind arith

-- one more bit of which this is true
pub one_bit_more : (P : ℕ → Bool → Type 0) (bits : List Bool) (k : ℕ) (b : Bool) → length bits ≡ k → ((y : ℕ) → y < k → P y (bit bits y)) → P k b → (y : ℕ) → y < k + 1 → P y (bit (bits ++ b ∷ []) y)
one_bit_more P bits k b long earlier last y l = go (below_or_last y k l)
  where
    go : (y < k) ⊎ (y ≡ k) → P y (bit (bits ++ b ∷ []) y)
    go (inl h) = subst (P y) (sym (get_or_append_left bits (b ∷ []) false y (omega (arith, long)))) (earlier y h)
    go (inr e) =
        let at : y ≡ length bits = e ∙ sym long in
        subst (λ (z : ℕ). P z (bit (bits ++ b ∷ []) z)) (sym at) (subst (P (length bits)) (sym (get_or-append_seam bits b [] false)) (subst (λ (z : ℕ). P z b) (sym long) last))

-- what is true of the words of a cycle is true of the words that were read
pub of_words : (o : Option (List ℕ)) (P : List ℕ → Type 0) (ws : List ℕ) → IsSomeAnd o P → IfSome o (λ (words : List ℕ). ws ≡ words) → P ws
of_words None P ws is same = absurd is
of_words (Some words) P ws is same = subst P (sym same) is

pub for_words : (o : Option (List ℕ)) (P Q : List ℕ → Type 0) (ws : List ℕ) → IsSomeAnd o P → IfSome o (λ (words : List ℕ). ws ≡ words) → Q ws → IsSomeAnd o Q
for_words None P Q ws is same q = is
for_words (Some words) P Q ws is same q = subst Q same q

-- the values of the last cycle in a run
pub last_bits : (f : List ℕ → List Bool) (started : Bool) (words : List ℕ) → last_of started (f words) ≡ option_map f (last_of started words)
last_bits f true words = refl
last_bits f false words = refl
