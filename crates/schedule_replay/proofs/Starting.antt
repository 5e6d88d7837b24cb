-- A cycle with upsets and start values is the trace's next row.
use Rattle.std.proofs.Common.{◌≡◌, ℕ, zero, suc, ◌+◌, ◌*◌, ◌-◌, ◌<◌, inl, inr, nat_lt, Bool, true, false, if◌then◌else◌, List, [], length, slice_get, refl, sym, ◌∙◌, ap, subst, arith, Option, Some, None}
use Rattle.std.specs.Prelude.{nat_eq, IsSomeAnd, All}
use Rattle.std.specs.Option.{unwrap_or}
use Rattle.std.proofs.lemmas.Bool.{eq-eqb}
use Rattle.std.proofs.lemmas.List.{length-map}
use Rattle.tmr_base.specs.declared.ids.NetId.{NetId}
use Rattle.tmr_base.specs.declared.ids.Upset.{Upset}
use Rattle.flat_net.specs.Net.{Net, Design, Node, Table, Register, net_count, node_of, slot, IsValid, IsInitOf}
use Rattle.flat_net.specs.Free.{node_bit, AreMarks}
use Rattle.net_meaning.specs.Meaning.{row_at, row_before, start_at, node_value, net_value, upset_at, IsFreeFaultTrace, IsScheduleOf, AreRows, HasOneTrace, FreeTracesAreUnique, spread, spread_row}
use Rattle.net_meaning.proofs.Lists.{row_at-spread}
use Rattle.certificate.specs.Cert.{PlainCert, Fits}
use Rattle.certificate.specs.Starts.{counted, spread_start}
use Rattle.net_simulator.specs.Cycle.{IsCycle, cycle_after, values_of}
use Rattle.net_simulator.specs.Forced.{forced_value}
use Rattle.net_simulator.proofs.OneCycle.{before_cycle, one_cycle}
use Rattle.schedules.specs.Schedule.{PlainSchedule, IsPlainSchedule, IsBefore}
use Rattle.schedules.specs.Reading.{IsNodeOf}
use Rattle.schedule_replay.specs.Starts.{or_else, start_in, MarksRegisters, AreStarts}
use Rattle.schedule_replay.proofs.Taking.{or_none, all_spread}

-- a mark at what is no register
pub no_register : (n : Net) (free w : List Bool) (x : ℕ) → MarksRegisters n free → (IsInitOf (node_of n x) false → ⊥) → start_at n free w x ≡ None
no_register n free w x marks none = go (node_bit (length n.inputs) free x) refl
  where
    go : (b : Bool) → node_bit (length n.inputs) free x ≡ b → (if b then Some (node_bit (length n.inputs) w x) else None) ≡ None
    go true e = absurd (none (marks x e))
    go false e = refl

none_in : (t : ℕ) (o : Option Bool) → o ≡ None → start_in t o ≡ None
none_in zero o e = e
none_in (suc t) o e = refl

alone : (u o : Option Bool) → o ≡ None → or_else u o ≡ u
alone u o e = ap (or_else u) e ∙ or_none u

first_value : (u o : Option Bool) (init : Bool) → unwrap_or u (unwrap_or o init) ≡ unwrap_or (or_else u o) init
first_value None o init = refl
first_value (Some b) o init = refl

module _ (n : Net) (free w : List Bool) (marks : MarksRegisters n free) (s : List Upset) (tr : List (List Bool)) where
  -- the last values, as a simulator has them
  abbrev Last : ℕ → Option (List Bool)
  Last t = before_cycle tr t

  -- what a net has by its equation is what it has where upsets and start values are forced
  net_alike : (t x : ℕ) (ins v : List Bool) → unwrap_or (upset_at s t x) (net_value (node_of n x) (start_at n free w x) t ins (row_before tr t) v x) ≡ forced_value (node_of n x) (or_else (upset_at s t x) (start_in t (start_at n free w x))) (cycle_after (Last t)) ins (values_of (Last t)) v x
  net_alike t x ins v = go (node_of n x) refl t
    where
      none_here : (o : Option Node) → node_of n x ≡ o → (IsInitOf o false → ⊥) → start_at n free w x ≡ None
      none_here o e none = no_register n free w x marks (λ is. none (subst (λ (r : Option Node). IsInitOf r false) e is))

      go : (o : Option Node) → node_of n x ≡ o → (t : ℕ) → unwrap_or (upset_at s t x) (net_value o (start_at n free w x) t ins (row_before tr t) v x) ≡ forced_value o (or_else (upset_at s t x) (start_in t (start_at n free w x))) (cycle_after (Last t)) ins (values_of (Last t)) v x
      go None e zero = ap (λ (r : Option Bool). unwrap_or r (net_value None None zero ins [] v x)) (sym (alone (upset_at s zero x) (start_at n free w x) (none_here None e (λ is. is))))
      go None e (suc t) = ap (λ (r : Option Bool). unwrap_or r (net_value None None (suc t) ins (row_at tr t) v x)) (sym (or_none (upset_at s (suc t) x)))
      go (Some (Table name cover pins)) e zero = ap (λ (r : Option Bool). unwrap_or r (node_value (Table name cover pins) None zero [] v)) (sym (alone (upset_at s zero x) (start_at n free w x) (none_here (Some (Table name cover pins)) e (λ is. is))))
      go (Some (Table name cover pins)) e (suc t) = ap (λ (r : Option Bool). unwrap_or r (node_value (Table name cover pins) None (suc t) (row_at tr t) v)) (sym (or_none (upset_at s (suc t) x)))
      go (Some (Register name init pin)) e zero = first_value (upset_at s zero x) (start_at n free w x) init
      go (Some (Register name init pin)) e (suc t) = ap (λ (r : Option Bool). unwrap_or r (node_value (Register name init pin) None (suc t) (row_at tr t) v)) (sym (or_none (upset_at s (suc t) x)))

  row_is_cycle : (ins : List (List Bool)) (t : ℕ) → IsFreeFaultTrace n free w ins s tr → t < length ins → IsCycle n (Last t) (row_at ins t) (λ x. or_else (upset_at s t x) (start_in t (start_at n free w x))) (row_at tr t)
  row_is_cycle ins t is l = record {
    wide = is.wide t l;
    equations = λ x h. is.equations t x l h ∙ net_alike t x (row_at ins t) (row_at tr t);
  }

  -- a simulator's step gives the trace's next row
  pub step_row : IsValid n → (ins : List (List Bool)) (t : ℕ) → IsFreeFaultTrace n free w ins s tr → t < length ins
      → (m : Net) (last after : Option (List Bool)) (row : List Bool) (forced : ℕ → Option Bool)
      → m ≡ n → last ≡ before_cycle tr t → row ≡ row_at ins t → ((x : ℕ) → x < net_count n → forced x ≡ or_else (upset_at s t x) (start_in t (start_at n free w x))) → IsSomeAnd after (λ v. IsCycle m last row forced v) → after ≡ Some (row_at tr t)
  step_row valid ins t is l m last None row forced same_net same_last same_row same_forced cycle = absurd cycle
  step_row valid ins t is l m last (Some v) row forced same_net same_last same_row same_forced cycle =
      let at_net = subst (λ (a : Net). IsCycle a last row forced v) same_net cycle in
      let at_last = subst (λ (o : Option (List Bool)). IsCycle n o row forced v) same_last at_net in
      let at_row = subst (λ (r : List Bool). IsCycle n (before_cycle tr t) r forced v) same_row at_last in
      let at_forced : IsCycle n (before_cycle tr t) (row_at ins t) (λ x. or_else (upset_at s t x) (start_in t (start_at n free w x))) v = record {
        wide = at_row.wide;
        equations = λ x h. at_row.equations x h ∙ ap (λ (u : Option Bool). forced_value (node_of n x) u (cycle_after (before_cycle tr t)) (row_at ins t) (values_of (before_cycle tr t)) v x) (same_forced x h);
      } in
      ap Some (one_cycle n valid (before_cycle tr t) (row_at ins t) (λ x. or_else (upset_at s t x) (start_in t (start_at n free w x))) v (row_at tr t) at_forced (row_is_cycle ins t is l))

not_marked : (n : Net) (x : ℕ) → node_bit (length n.inputs) [] x ≡ false
unfolding slot
not_marked n x = go (nat_lt x (length n.inputs))
  where
    go : (b : Bool) → unwrap_or (if b then None else slice_get [] (x - length n.inputs)) false ≡ false
    go true = refl
    go false = refl

-- where nothing is marked there are none
pub unmarked : (n : Net) → MarksRegisters n []
unmarked n x e = absurd (let no = not_marked n x in cc)

pub no_starts : (n : Net) (w : List Bool) → AreStarts n [] w 0 []
no_starts n w x l = sym (ap (λ (b : Bool). if b then Some (node_bit (length n.inputs) w x) else None) (not_marked n x))

pub none_given : (n : Net) (w : List Bool) (starts : List (NetId × Bool)) → starts ≡ [] → AreStarts n [] w 0 starts
none_given n w starts e = subst (λ (fs : List (NetId × Bool)). AreStarts n [] w 0 fs) (sym e) (no_starts n w)

-- for rows and upsets of a schedule there is one trace of each design
module _ (s : PlainSchedule) (plain : IsPlainSchedule s) where
  rows_wide : (t : ℕ) → t < length s.rows → length (row_at s.rows t) ≡ s.inputs
  rows_wide t l = plain.wide t [] l

  pub rows_fit : (n : Net) → s.inputs ≡ length n.inputs → AreRows n s.rows
  rows_fit n e t l = rows_wide t l ∙ e

  pub spread_rows_fit : (h : Net) → length h.inputs ≡ 3 * s.inputs → AreRows h (spread s.rows)
  spread_rows_fit h e t l =
      let within : t < length s.rows = omega (arith, length-map s.rows spread_row) in
      ap length (row_at-spread s.rows t) ∙ (all_spread (row_at s.rows t) ∙ (ap (λ (m : ℕ). 3 * m) (rows_wide t within) ∙ sym e))

  pub nothing_struck : (n : Net) → IsScheduleOf 2 n (length s.rows) []
  nothing_struck n = record {
    cycles = λ u there. absurd (let l = there.1 in omega arith);
    nets = λ u there. absurd (let l = there.1 in omega arith);
    nodes = λ v u there. absurd (let l = there.1 in omega arith);
    differ = λ j k u v l e. absurd (cc);
  }

  pub upsets_fit : (h : Net) → All (λ u. u.net.0 < net_count h) s.upsets → IsScheduleOf 2 h (length (spread s.rows)) s.upsets
  upsets_fit h nets = record {
    cycles = λ u there.
        let c = plain.in_range there.0 u there.1 in
        let here : u.cycle < length s.rows = subst (λ (v : Upset). v.cycle < length s.rows) there.2 c in
        omega (arith, length-map s.rows spread_row);
    nets = λ u there. subst (λ (v : Upset). v.net.0 < net_count h) there.2 (nets there.0 u there.1);
    nodes = λ v. absurd (omega arith);
    differ = λ j k u v l e f same_cycle same_net. absurd (apart u v (plain.ascending j k u v l e f) same_cycle same_net);
  }
    where
      apart : (u v : Upset) → IsBefore u v → u.cycle ≡ v.cycle → u.net.0 ≡ v.net.0 → ⊥
      apart u v (inl l) e f = absurd (omega arith)
      apart u v (inr (a, l)) e f = absurd (omega arith)

  pub original_trace : (n : Net) (f w : List Bool) → FreeTracesAreUnique n f → s.inputs ≡ length n.inputs → HasOneTrace n f w s.rows []
  original_trace n f w law e = law 2 w s.rows (rows_fit n e) [] (nothing_struck n)

  pub hardened_trace : (h : Net) (g w : List Bool) → FreeTracesAreUnique h g → length h.inputs ≡ 3 * s.inputs → All (λ u. u.net.0 < net_count h) s.upsets → HasOneTrace h g w (spread s.rows) s.upsets
  hardened_trace h g w law e nets = law 2 w (spread s.rows) (spread_rows_fit h e) s.upsets (upsets_fit h nets)

-- the nets of a design are those that its certificate has a role or an input for
pub high_nets : (n h : Net) (k : PlainCert) (us : List Upset) → Fits n h k → All (λ u. u.net.0 < net_count h) us → All (λ u. u.net.0 < k.hardened_inputs + length k.roles) us
high_nets n h k us fits all i d l = let a = all i d l in let b = fits.hardened_inputs in let c = fits.hardened_nodes in omega arith

pub low_nets : (n h : Net) (k : PlainCert) (us : List Upset) → Fits n h k → length h.inputs ≡ 3 * length n.inputs → All (λ u. u.net.0 < k.hardened_inputs → u.net.0 < 3 * k.original_inputs) us
low_nets n h k us fits three i d l below = let b = fits.hardened_inputs in let c = fits.original_inputs in omega arith

pub nodes_nets : (h : Net) (us : List Upset) → All (λ u. IsNodeOf h u.net.0) us → All (λ u. u.net.0 < net_count h) us
nodes_nets h us all i d l = (all i d l).1

pub ruleset nodes_in_range = (nodes_nets)

pub nothing_in : {A : Type 0} (P : A → Type 0) (xs : List A) → xs ≡ [] → All P xs
nothing_in P xs e i d l = absurd (let none = ap length e in omega arith)

-- marks that count are of registers
pub counted_registers : (k : PlainCert) (n : Net) (free : List Bool) → AreMarks n free → MarksRegisters n (counted k free)
counted_registers k n free is = go (nat_eq k.version 1)
  where
    go : (b : Bool) → MarksRegisters n (if b then [] else free)
    go true = unmarked n
    go false = is.registers

-- in version 1 there are no start values
pub uncounted : (k : PlainCert) (n : Net) (free w : List Bool) (starts : List (NetId × Bool)) → k.version ≡ 1 → starts ≡ [] → AreStarts n (counted k free) w 0 starts
uncounted k n free w starts version e = subst (λ (b : Bool). AreStarts n (if b then [] else free) w 0 starts) (sym (eq-eqb k.version 1 version)) (none_given n w starts e)

-- what holds for all start values holds for those that count by the certificate
pub for_counted : (P : Net → List Bool → List Bool → Net → List Bool → List Bool → Type 0) (a b x y : Design) (k : PlainCert) (f g v : List Bool) (os hs : List (NetId × Bool)) → b ≡ a → y ≡ x → AreMarks a.net f → AreMarks x.net g
    → AreStarts a.net (counted k f) v 0 os → AreStarts x.net (counted k g) (spread_start k v) 0 hs
    → ((e w h u : List Bool) → MarksRegisters b.net e → MarksRegisters y.net h → AreStarts b.net e w 0 os → AreStarts y.net h u 0 hs → P b.net e w y.net h u)
    → P a.net (counted k f) v x.net (counted k g) (spread_start k v)
for_counted P a b x y k f g v os hs same_n same_h marks_n marks_h starts_n starts_h all =
    let at_n : (e w h u : List Bool) → MarksRegisters a.net e → MarksRegisters y.net h → AreStarts a.net e w 0 os → AreStarts y.net h u 0 hs → P a.net e w y.net h u =
    subst (λ (d : Design). (e w h u : List Bool) → MarksRegisters d.net e → MarksRegisters y.net h → AreStarts d.net e w 0 os → AreStarts y.net h u 0 hs → P d.net e w y.net h u) same_n all in
    let at_h : (e w h u : List Bool) → MarksRegisters a.net e → MarksRegisters x.net h → AreStarts a.net e w 0 os → AreStarts x.net h u 0 hs → P a.net e w x.net h u =
    subst (λ (d : Design). (e w h u : List Bool) → MarksRegisters a.net e → MarksRegisters d.net h → AreStarts a.net e w 0 os → AreStarts d.net h u 0 hs → P a.net e w d.net h u) same_h at_n in
    at_h (counted k f) v (counted k g) (spread_start k v) (counted_registers k a.net f marks_n) (counted_registers k x.net g marks_h) starts_n starts_h
