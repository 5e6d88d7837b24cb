-- Entries that are read one after the other, and all entries together.
use Rattle.std.proofs.Common.{◌≡◌, ℕ, ◌+◌, Bool, true, false, cond, not, List, [], ◌∷◌, ◌++◌, length, map, take, filter_map, zip, Option, Some, None, Result, Ok, Err, refl, sym, ◌∙◌, ap, append_assoc, append-nil, length-append, option_map, option_and_then}
use Rattle.std.specs.Prelude.{nat_lt}
use Rattle.std.specs.List.{range_with_len}
use Rattle.std.proofs.Math.Seq.{take-append_seam}
use Rattle.std.proofs.lemmas.List.Elements.{filter_map-append}
use Rattle.tmr_base.specs.declared.ids.Upset.{Upset}
use Rattle.flat_net.specs.Net.{Net}
use Rattle.toml.specs.Data.{Data}
use Rattle.schedules.specs.declared.fault.ScheduleFault.{ScheduleFault}
use Rattle.schedules.specs.declared.fault.ScheduleFault.TheVariants as fault
use Rattle.schedules.specs.Document.{Entry, and_then, all_or_fault, is_listed, known, struck_named, upset_of, upset_in, named_upset, entry_of, numbered_upset, listed_upsets, row_of, row_or_fault, numbered_row, listed_rows}
use Rattle.schedules.specs.Private.Reading.{rows_from, upsets_from}

-- what was read before stands in front
module _ {A : Type 0} where
  abbrev behind : List A → Result (List A) ScheduleFault → Result (List A) ScheduleFault
  behind earlier r = and_then r (λ more. Ok (earlier ++ more))

  pub behind_none : (r : Result (List A) ScheduleFault) → behind [] r ≡ r
  behind_none (Ok xs) = refl
  behind_none (Err f) = refl

  pub behind_one : (earlier : List A) (a : A) (r : Result (List A) ScheduleFault) → behind (earlier ++ a ∷ []) r ≡ behind earlier (and_then r (λ more. Ok (a ∷ more)))
  behind_one earlier a (Ok xs) = ap Ok (append_assoc earlier (a ∷ []) xs)
  behind_one earlier a (Err f) = refl

-- ---- rows

abbrev all_rows : ℕ → ℕ → List Data → Result (List (List Bool)) ScheduleFault
all_rows width t ds = all_or_fault (map (numbered_row width) (zip (range_with_len t (length ds)) ds))

rows_are : (width t : ℕ) (earlier : List (List Bool)) (ds : List Data) → rows_from width t earlier ds ≡ behind earlier (all_rows width t ds)
rows_are width t earlier [] = ap Ok (sym (append-nil earlier))
rows_are width t earlier (d ∷ ds) = go (row_of width d) (λ row. rows_are width (t + 1) (earlier ++ row ∷ []) ds)
  where
    go : (o : Option (List Bool)) → ((row : List Bool) → rows_from width (t + 1) (earlier ++ row ∷ []) ds ≡ behind (earlier ++ row ∷ []) (all_rows width (t + 1) ds))
        → and_then (row_or_fault t o) (λ row. rows_from width (t + 1) (earlier ++ row ∷ []) ds) ≡ behind earlier (and_then (row_or_fault t o) (λ row. and_then (all_rows width (t + 1) ds) (λ more. Ok (row ∷ more))))
    go None more = refl
    go (Some row) more = more row ∙ behind_one earlier row (all_rows width (t + 1) ds)

pub rows_are_listed : (width : ℕ) (ds : List Data) → rows_from width 0 [] ds ≡ listed_rows width ds
rows_are_listed width ds = rows_are width 0 [] ds ∙ behind_none (all_rows width 0 ds)

-- ---- upsets

module _ (version : ℕ) (h : Net) (cycles : ℕ) where
  -- an entry without a fault writes its upset
  writes : (j : ℕ) (earlier : List Upset) (o : Option Entry) (u : Upset) → upset_of version h cycles j earlier o ≡ Ok u → option_and_then (named_upset version h) o ≡ Some u
  writes j earlier None u is = absurd (cc)
  writes j earlier (Some e) u is = at (struck_named version h e.net) is
    where
      ok : (s t : Bool) (v : Upset) → cond s (Err (fault.Range j)) (cond t (Err (fault.Doubled j)) (Ok v)) ≡ Ok u → v ≡ u
      ok true t v e = absurd (cc)
      ok false true v e = absurd (cc)
      ok false false v e = cc

      at : (x : Option ℕ) → known cycles j earlier e x ≡ Ok u → option_map (λ net. let w : Upset = record { cycle = e.cycle; net = record { 0 = net }; value = e.value } in w) x ≡ Some u
      at None is = absurd (cc)
      at (Some x) is = ap Some (ok (not (nat_lt e.cycle cycles)) (is_listed earlier e.cycle x) (record { cycle = e.cycle; net = record { 0 = x }; value = e.value }) is)

  abbrev written : List Data → List Upset
  written ds = filter_map (upset_in version h) ds

  abbrev all_upsets : List Data → ℕ → List Data → Result (List Upset) ScheduleFault
  all_upsets all j ds = all_or_fault (map (numbered_upset version h cycles all) (zip (range_with_len j (length ds)) ds))

  one_more : (before : List Data) (d : Data) (u : Upset) → upset_in version h d ≡ Some u → written (before ++ d ∷ []) ≡ written before ++ u ∷ []
  one_more before d u e = filter_map-append (upset_in version h) before (d ∷ []) ∙ ap (λ (us : List Upset). filter_map (upset_in version h) before ++ us) (last (upset_in version h d) e)
    where
      last : (o : Option Upset) → o ≡ Some u → filter_map (λ (x : Option Upset). x) (o ∷ []) ≡ u ∷ []
      last None q = absurd (cc)
      last (Some v) q = let same : v ≡ u = cc in ap (λ (w : Upset). w ∷ []) same

  upsets_are : (before ds : List Data) (j : ℕ) → length before ≡ j → upsets_from version h cycles j (written before) ds ≡ behind (written before) (all_upsets (before ++ ds) j ds)
  upsets_are before [] j long = ap Ok (sym (append-nil (written before)))
  upsets_are before (d ∷ ds) j long =
      go (upset_of version h cycles j (written before) (entry_of d)) refl (upsets_are (before ++ d ∷ []) ds (j + 1) (length-append before (d ∷ []) ∙ ap (λ (k : ℕ). k + 1) long))
      ∙ ap (λ (r : Result Upset ScheduleFault). behind (written before) (and_then r (λ u. and_then (all_upsets (before ++ d ∷ ds) (j + 1) ds) (λ more. Ok (u ∷ more))))) here
    where
      here : upset_of version h cycles j (written before) (entry_of d) ≡ numbered_upset version h cycles (before ++ d ∷ ds) (j, d)
      here = ap (λ (xs : List Data). upset_of version h cycles j (filter_map (upset_in version h) xs) (entry_of d)) (sym (ap (λ (k : ℕ). take k (before ++ d ∷ ds)) (sym long) ∙ take-append_seam before (d ∷ ds)))

      go : (r : Result Upset ScheduleFault) → upset_of version h cycles j (written before) (entry_of d) ≡ r → upsets_from version h cycles (j + 1) (written (before ++ d ∷ [])) ds ≡ behind (written (before ++ d ∷ [])) (all_upsets ((before ++ d ∷ []) ++ ds) (j + 1) ds)
          → and_then (upset_of version h cycles j (written before) (entry_of d)) (λ u. upsets_from version h cycles (j + 1) (written before ++ u ∷ []) ds) ≡ behind (written before) (and_then (upset_of version h cycles j (written before) (entry_of d)) (λ u. and_then (all_upsets (before ++ d ∷ ds) (j + 1) ds) (λ more. Ok (u ∷ more))))
      go (Err f) is more =
          ap (λ (r : Result Upset ScheduleFault). and_then r (λ u. upsets_from version h cycles (j + 1) (written before ++ u ∷ []) ds)) is
          ∙ sym (ap (λ (r : Result Upset ScheduleFault). behind (written before) (and_then r (λ u. and_then (all_upsets (before ++ d ∷ ds) (j + 1) ds) (λ rest. Ok (u ∷ rest))))) is)
      go (Ok u) is more =
          let grown : written (before ++ d ∷ []) ≡ written before ++ u ∷ [] = one_more before d u (writes j (written before) (entry_of d) u is) in
          ap (λ (r : Result Upset ScheduleFault). and_then r (λ v. upsets_from version h cycles (j + 1) (written before ++ v ∷ []) ds)) is
          ∙ (ap (λ (us : List Upset). upsets_from version h cycles (j + 1) us ds) (sym grown)
          ∙ (more
          ∙ (ap (λ (us : List Upset). behind us (all_upsets ((before ++ d ∷ []) ++ ds) (j + 1) ds)) grown
          ∙ (ap (λ (xs : List Data). behind (written before ++ u ∷ []) (all_upsets xs (j + 1) ds)) (append_assoc before (d ∷ []) ds)
          ∙ (behind_one (written before) u (all_upsets (before ++ d ∷ ds) (j + 1) ds)
          ∙ sym (ap (λ (r : Result Upset ScheduleFault). behind (written before) (and_then r (λ v. and_then (all_upsets (before ++ d ∷ ds) (j + 1) ds) (λ rest. Ok (v ∷ rest))))) is))))))

  pub upsets_are_listed : (ds : List Data) → upsets_from version h cycles 0 [] ds ≡ listed_upsets version h cycles ds
  upsets_are_listed ds = upsets_are [] ds 0 refl ∙ behind_none (all_upsets ds 0 ds)
