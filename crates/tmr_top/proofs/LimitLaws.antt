-- What is said of a file with one limit, said of it with the same limit in other words; and designs within a limit are small.
use Rattle.std.proofs.Common.{◌≡◌, ℕ, ◌*◌, ◌≤◌, List, [], ◌∷◌, Result, subst, arith}
use Rattle.std.specs.Prelude.{IfOk, Vec}
use Rattle.std.specs.declared.alloc.Global.{Global}
use Rattle.blif_text.specs.Models.{PlainModel}
use Rattle.blif_text.specs.declared.fault.TextFault.{TextFault}
use Rattle.flat_net.specs.Free.{FreeDesign}
use Rattle.limits.specs.declared.Limits.{Limits}
use Rattle.limits.specs.Most.{most_original, widest_nets}
use Rattle.limits.proofs.MostLaws.{original_within}
use Rattle.tmr_outside.specs.Contents.{Contents}
use Rattle.tmr_outside.specs.Seen.{FilesSeen}
use Rattle.tmr_top.specs.declared.loads.Stop.{Stop}
use Rattle.tmr_top.specs.Designs.{HoldsDesign}
use Rattle.tmr_top.specs.Loads.{Load}
use Rattle.tmr_top.specs.Private.Opened.{netlist_file, bytes_file, HoldsText, HoldsBytes, Opens, Never, Gives}
use Rattle.tmr_top.specs.Private.Refused.{IsRefusedNetlist, IsWithin}
use Rattle.tmr_top.specs.Private.Shown.{IsShownNetlist}

-- ---- loads

pub netlist_opened : (name : List ℕ) (k m : ℕ) (a b : FilesSeen) (was is : Type 0) (answer : Result (Result (List PlainModel) TextFault) Stop) → k ≡ m
    → Opens (netlist_file name k ∷ []) (λ (t : Result (List PlainModel) TextFault) held. HoldsText held (netlist_file name k) t) Never a b was is answer
    → Opens (netlist_file name m ∷ []) (λ (t : Result (List PlainModel) TextFault) held. HoldsText held (netlist_file name m) t) Never a b was is answer
netlist_opened name k m a b was is answer same = subst (λ (x : ℕ). Opens (netlist_file name x ∷ []) (λ (t : Result (List PlainModel) TextFault) held. HoldsText held (netlist_file name x) t) Never a b was is answer) same

pub bytes_opened : (name : List ℕ) (k m : ℕ) (a b : FilesSeen) (was is : Type 0) (answer : Result (Vec ℕ Global) Stop) → k ≡ m
    → Opens (bytes_file name k ∷ []) (λ (v : Vec ℕ Global) held. HoldsBytes held (bytes_file name k) v.items) Never a b was is answer
    → Opens (bytes_file name m ∷ []) (λ (v : Vec ℕ Global) held. HoldsBytes held (bytes_file name m) v.items) Never a b was is answer
bytes_opened name k m a b was is answer same = subst (λ (x : ℕ). Opens (bytes_file name x ∷ []) (λ (v : Vec ℕ Global) held. HoldsBytes held (bytes_file name x) v.items) Never a b was is answer) same

pub opened_within : {A : Type 0} (name : List ℕ) (k m : ℕ) (H : Load → A → Contents → Type 0) (a b : FilesSeen) (was is : Type 0) (answer : Result A Stop) → k ≡ m
    → Opens (bytes_file name k ∷ []) (H (bytes_file name k)) Never a b was is answer
    → Opens (bytes_file name m ∷ []) (H (bytes_file name m)) Never a b was is answer
opened_within name k m H a b was is answer same = subst (λ (x : ℕ). Opens (bytes_file name x ∷ []) (H (bytes_file name x)) Never a b was is answer) same

-- ---- reads

pub netlist_given : (name : List ℕ) (k m : ℕ) (text : Result (List PlainModel) TextFault) (answer : Result FreeDesign Stop) → k ≡ m
    → Gives (λ held. HoldsText held (netlist_file name k) text) (λ (n : FreeDesign) held. HoldsDesign held (netlist_file name k) n.design.net n.free) (IsRefusedNetlist (netlist_file name k)) answer
    → Gives (λ held. HoldsText held (netlist_file name m) text) (λ (n : FreeDesign) held. HoldsDesign held (netlist_file name m) n.design.net n.free) (IsRefusedNetlist (netlist_file name m)) answer
netlist_given name k m text answer same = subst (λ (x : ℕ). Gives (λ held. HoldsText held (netlist_file name x) text) (λ (n : FreeDesign) held. HoldsDesign held (netlist_file name x) n.design.net n.free) (IsRefusedNetlist (netlist_file name x)) answer) same

pub shown_given : (name : List ℕ) (k m : ℕ) (bytes : List ℕ) (answer : Result FreeDesign Stop) → k ≡ m
    → Gives (λ held. HoldsBytes held (bytes_file name k) bytes) (λ (n : FreeDesign) held. HoldsDesign held (netlist_file name k) n.design.net n.free) (IsShownNetlist (netlist_file name k)) answer
    → Gives (λ held. HoldsBytes held (bytes_file name m) bytes) (λ (n : FreeDesign) held. HoldsDesign held (netlist_file name m) n.design.net n.free) (IsShownNetlist (netlist_file name m)) answer
shown_given name k m bytes answer same = subst (λ (x : ℕ). Gives (λ held. HoldsBytes held (bytes_file name x) bytes) (λ (n : FreeDesign) held. HoldsDesign held (netlist_file name x) n.design.net n.free) (IsShownNetlist (netlist_file name x)) answer) same

pub within_same : (k m : ℕ) (answer : Result FreeDesign Stop) → k ≡ m → IfOk answer (IsWithin k) → IfOk answer (IsWithin m)
within_same k m answer same = subst (λ (x : ℕ). IfOk answer (IsWithin x)) same

-- ---- designs within a limit are small

pub few_pins : (l : Limits) (x : ℕ) → 2 * x ≤ most_original l → x ≤ widest_nets
few_pins l x few = omega (arith, few, original_within l)

pub few_rows : (l : Limits) (x : ℕ) → x ≤ most_original l → x ≤ widest_nets
few_rows l x few = omega (arith, few, original_within l)

pub ruleset few = (few_pins, few_rows)
