-- Parts that were read one after the other make a schedule.
use Rattle.std.proofs.Common.{◌≡◌, ℕ, ◌≤◌, Bool, false, cond, ◌||◌, List, length, map, Option, Result, Ok, Err, sym, ◌∙◌, ap, subst, arith}
use Rattle.std.specs.Prelude.{nat_lt}
use Rattle.std.specs.Map.{lookup}
use Rattle.std.specs.BTreeMap.{BTreeMap, is_at}
use Rattle.std.proofs.lemmas.Bool.Decides.{nat_tests}
use Rattle.std.proofs.lemmas.List.{length-map}
use Rattle.tmr_base.specs.declared.ids.Upset.{Upset}
use Rattle.flat_net.specs.Net.{Net}
use Rattle.net_meaning.specs.Meaning.{upset_at}
use Rattle.toml.specs.Data.{Data}
use Rattle.schedules.specs.declared.fault.ScheduleFault.{ScheduleFault}
use Rattle.schedules.specs.declared.fault.ScheduleFault.TheVariants as fault
use Rattle.schedules.specs.Document.{and_then, listed_rows, listed_upsets, Listed, listed, starts_or_fault}
use Rattle.schedules.specs.Reading.{IsReadAs}
use Rattle.schedules.specs.Schedule.{PlainSchedule, IsPlainSchedule}
use Rattle.schedules.specs.Private.Reading.{ListsUpsets}
use Rattle.schedules.specs.Private.Entries.{place_cmp, upset_of_entry}
use Rattle.schedules.proofs.Places.{entries_hold}
use Rattle.schedules.proofs.Members.{same_members, ascending_distinct}

few_enough : (a b : ℕ) → a ≤ 1048576 → b ≤ 1048576 → (nat_lt 1048576 a || nat_lt 1048576 b) ≡ false
few_enough a b l k = grind (arith, nat_tests)

module _ (version : ℕ) (n h : Net) (starts : Option (List Bool)) (rows ups : List Data) (few_rows : length rows ≤ 1048576) (few_ups : length ups ≤ 1048576) where
  abbrev Rest : List Bool → Result Listed ScheduleFault
  Rest ss = and_then (listed_rows (length n.inputs) rows) (λ rs. and_then (listed_upsets version h (length rs) ups) (λ us. Ok (let x : Listed = record { rows = rs; starts = ss; upsets = us } in x)))

  abbrev Last : List Bool → List (List Bool) → Result Listed ScheduleFault
  Last ss rs = and_then (listed_upsets version h (length rs) ups) (λ us. Ok (let x : Listed = record { rows = rs; starts = ss; upsets = us } in x))

  not_too_many : listed version n h starts rows ups ≡ and_then (starts_or_fault starts) Rest
  not_too_many = ap (λ (t : Bool). cond t (Err fault.TooMany) (and_then (starts_or_fault starts) Rest)) (few_enough (length rows) (length ups) few_rows few_ups)

  with_starts : (ss : List Bool) → starts_or_fault starts ≡ Ok ss → listed version n h starts rows ups ≡ Rest ss
  with_starts ss e = not_too_many ∙ ap (λ (r : Result (List Bool) ScheduleFault). and_then r Rest) e

  with_rows : (ss : List Bool) (rs : List (List Bool)) → starts_or_fault starts ≡ Ok ss → listed_rows (length n.inputs) rows ≡ Ok rs → listed version n h starts rows ups ≡ Last ss rs
  with_rows ss rs e f = with_starts ss e ∙ ap (λ (r : Result (List (List Bool)) ScheduleFault). and_then r (Last ss)) f

  pub all_read : (m : BTreeMap (ℕ × ℕ) Bool) (es : List ((ℕ × ℕ) × Bool)) (old new : PlainSchedule)
      → starts_or_fault starts ≡ Ok old.starts → listed_rows (length n.inputs) rows ≡ Ok old.rows → ListsUpsets version h (length old.rows) ups m → es ≡ m.entries → old.inputs ≡ length n.inputs
      → new ≡ record old { upsets = map upset_of_entry es } → IsPlainSchedule new → IsReadAs (length n.inputs) (listed version n h starts rows ups) new
  all_read m es old new starts_read rows_read ups_read same inputs is plain =
      let l : Listed = record { rows = old.rows; starts = old.starts; upsets = ups_read.upsets } in
      let done : listed version n h starts rows ups ≡ Ok l =
      with_rows old.starts old.rows starts_read rows_read ∙ ap (λ (r : Result (List Upset) ScheduleFault). and_then r (λ us. Ok (let x : Listed = record { rows = old.rows; starts = old.starts; upsets = us } in x))) ups_read.listed in
      let alike : (cycle net : ℕ) → upset_at new.upsets cycle net ≡ upset_at ups_read.upsets cycle net =
      λ cycle net. ap (λ (s : PlainSchedule). upset_at s.upsets cycle net) is ∙ (sym (entries_hold es cycle net) ∙ (ap (λ (xs : List ((ℕ × ℕ) × Bool)). lookup (is_at (place_cmp (cycle, net))) xs) same ∙ ups_read.holds cycle net)) in
      subst (λ (r : Result Listed ScheduleFault). IsReadAs (length n.inputs) r new) (sym done) (record {
        inputs_are = ap (λ (s : PlainSchedule). s.inputs) is ∙ inputs;
        rows = ap (λ (s : PlainSchedule). s.rows) is;
        starts = ap (λ (s : PlainSchedule). s.starts) is;
        count = ap (λ (s : PlainSchedule). length s.upsets) is ∙ (length-map es upset_of_entry ∙ (ap length same ∙ ups_read.count));
        members = λ u. same_members new.upsets ups_read.upsets (ascending_distinct new.upsets plain.ascending) ups_read.distinct alike u;
        upsets = alike;
      })
