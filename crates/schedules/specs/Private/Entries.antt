-- Upsets by cycle and net.
use Rattle.std.specs.Prelude.{◌≡◌, ℕ, Bool, List}
use Rattle.std.specs.declared.cmp.Ordering.{Ordering}
use Rattle.std.specs.Ordering.{nat_cmp, ordering_then}
use Rattle.std.specs.BTreeMap as tree
use Rattle.std.specs.BTreeMap.{BTreeMap}
use Rattle.tmr_base.specs.declared.ids.Upset.{Upset}
use Rattle.net_meaning.specs.Meaning.{upset_at}
use Rattle.schedules.specs.declared.entry.Written.{Written}
use Rattle.schedules.specs.Document.{Entry}

-- by cycle, and then by net
abbrev pub place_cmp : ℕ × ℕ → ℕ × ℕ → Ordering
place_cmp a b = ordering_then (nat_cmp a.0 b.0) (nat_cmp a.1 b.1)

abbrev pub upset_of_entry : (ℕ × ℕ) × Bool → Upset
upset_of_entry e = record { cycle = e.0.0; net = record { 0 = e.0.1 }; value = e.1 }

-- the map has just these upsets
abbrev pub Holds : BTreeMap (ℕ × ℕ) Bool → List Upset → Type 0
Holds m us = (cycle net : ℕ) → tree.get place_cmp m (cycle, net) ≡ upset_at us cycle net

abbrev pub plain_entry : Written → Entry
plain_entry w = record { cycle = w.cycle; net = w.net.now; value = w.value }
