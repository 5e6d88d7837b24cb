-- Bytes give one design, or none.
use Rattle.std.proofs.Common.{◌≡◌, ◌≢◌, ℕ, Bool, List, Option, Some, Result, Ok, Err, inl, inr, refl, ◌≤◌, ◌+◌, ◌*◌, subst}
use Rattle.std.specs.Prelude.{count_by}
use Rattle.std.specs.FinMap.{get}
use Rattle.blif_text.specs.Kind.{Bad}
use Rattle.blif_text.specs.Models.{PlainModel}
use Rattle.blif_text.specs.Reading.{reading, IsFaultOf, Reads}
use Rattle.blif_text.specs.declared.fault.TextFault.{TextFault}
use Rattle.blif_text.specs.declared.fault.TextFault.TheVariants as faults
use Rattle.blif_text.specs.declared.fault.TextKind.{TextKind}
use Rattle.tmr_texts.specs.Texts.{line_reason}
use Rattle.flat_net.specs.Net.{Net, net_count, pin_total}
use Rattle.flat_net.specs.Free.{FreeDesign}
use Rattle.hierarchy.specs.Flatten.{IsFlatFault, IsFreeFlat}
use Rattle.hierarchy.specs.declared.flat_fault.FlatFault.{FlatFault}
use Rattle.hierarchy.specs.declared.flat_fault.FlatFault.TheVariants.{Memory}
use Rattle.hierarchy.proofs.OneAnswer.{flat_or_fault}
use Rattle.hierarchy.proofs.Marks.{one_free}
use Rattle.tmr_outside.specs.Contents.{Contents}
use Rattle.blif_writer.specs.NetOf.{IsFreeNetOf}
use Rattle.hierarchy.specs.Sizes.{row_total}
use Rattle.tmr_top.specs.Private.Refused.{IsWithin}
use Rattle.tmr_top.specs.Loads.{Load}
use Rattle.tmr_top.specs.Private.Opened.{HoldsText}
use Rattle.tmr_top.specs.Designs.{IsUnread, HoldsDesign, HoldsNoDesign}
use Rattle.tmr_texts.specs.Reasons.{kind_text, flat_reason}

-- ---- what a name holds that was read so

-- its library is flattened
pub holds_flat : (held : Contents) (load : Load) (library : List PlainModel) (n : Net) (free : List Bool) → IsFreeFlat library load.limit n free → HoldsText held load (Ok library) → HoldsDesign held load n free
holds_flat held load library n free flat holds = record { bytes = holds.bytes; there = holds.there; short = holds.short; fact = record { library = library; reads = holds.fact; flat = flat } }

-- its library gives no design
pub holds_fault : (held : Contents) (load : Load) (library : List PlainModel) (fault : FlatFault) → fault ≢ Memory → IsFlatFault library load.limit fault → HoldsText held load (Ok library) → HoldsNoDesign held load (flat_reason fault)
holds_fault held load library fault caused first holds = record {
  bytes = holds.bytes;
  there = holds.there;
  short = holds.short;
  fact = inr (record { library = library; read = holds.fact; fault = fault; caused = caused; first = first; says = refl });
}

-- it has a bad line
pub holds_bad : (held : Contents) (load : Load) (text : Result (List PlainModel) TextFault) (fault : TextFault) (line : ℕ) (kind : TextKind) → text ≡ Err fault → fault ≡ faults.Bad line kind → HoldsText held load text → HoldsNoDesign held load (line_reason line (kind_text kind))
holds_bad held load text fault line kind is bad holds = record {
  bytes = holds.bytes;
  there = holds.there;
  short = holds.short;
  fact = inl (record {
    bad = record { line = line; kind = kind };
    read = subst (λ (f : TextFault). IsFaultOf (reading holds.bytes) f) bad (subst (λ (t : Result (List PlainModel) TextFault). Reads t (reading holds.bytes)) is holds.fact);
    says = refl;
  });
}

pub is_within : (limit : ℕ) (library : List PlainModel) (n : FreeDesign) → IsFreeFlat library limit n.design.net n.free → 2 * (net_count n.design.net + pin_total n.design.net) ≤ limit → row_total n.design.net ≤ limit → IsWithin limit n
is_within limit library n flat few rows = record { few = few; rows = rows; flat = record { library = library; flat = flat } }

pub ruleset designs = (is_within)

-- ---- it gives one design, or none

same_library : (r : Result (List PlainModel) Bad) (one other : List PlainModel) → r ≡ Ok one → r ≡ Ok other → one ≡ other
same_library r one other e f = cc

read_or_bad : (r : Result (List PlainModel) Bad) (library : List PlainModel) (bad : Bad) → r ≡ Ok library → r ≡ Err bad → ⊥
read_or_bad r library bad e f = cc

same_bytes : (o : Option (List ℕ)) (one other : List ℕ) → o ≡ Some one → o ≡ Some other → one ≡ other
same_bytes o one other e f = cc

design_once : (limit : ℕ) (bytes : List ℕ) (n m : Net) (a b : List Bool) → IsFreeNetOf bytes limit n a → IsFreeNetOf bytes limit m b → (n ≡ m) × (a ≡ b)
design_once limit bytes n m a b one other =
    let same = same_library (reading bytes) one.library other.library one.reads other.reads in
    one_free other.library limit n m a b (subst (λ (l : List PlainModel). IsFreeFlat l limit n a) same one.flat) other.flat

design_or_unread : (limit : ℕ) (bytes : List ℕ) (n : Net) (a : List Bool) (reason : List ℕ) → IsFreeNetOf bytes limit n a → IsUnread limit bytes reason → ⊥
design_or_unread limit bytes n a reason design (inl bad) = read_or_bad (reading bytes) design.library bad.bad design.reads bad.read
design_or_unread limit bytes n a reason design (inr bad) =
    let same = same_library (reading bytes) design.library bad.library design.reads bad.read in
    flat_or_fault bad.library limit n (count_by (λ bit. bit) a) bad.fault (subst (λ (l : List PlainModel). IsFreeFlat l limit n a) same design.flat).flat bad.caused bad.first

-- a name holds one design
pub one_design : (held : Contents) (load : Load) (n m : Net) (a b : List Bool) → HoldsDesign held load n a → HoldsDesign held load m b → (n ≡ m) × (a ≡ b)
one_design held load n m a b one other =
    let same = same_bytes (get held load.name) one.bytes other.bytes one.there other.there in
    design_once load.limit other.bytes n m a b (subst (λ (bytes : List ℕ). IsFreeNetOf bytes load.limit n a) same one.fact) other.fact

-- a name that holds a design is not refused
pub design_or_none : (held : Contents) (load : Load) (n : Net) (a : List Bool) (reason : List ℕ) → HoldsDesign held load n a → HoldsNoDesign held load reason → ⊥
design_or_none held load n a reason one none =
    let same = same_bytes (get held load.name) one.bytes none.bytes one.there none.there in
    design_or_unread load.limit none.bytes n a reason (subst (λ (bytes : List ℕ). IsFreeNetOf bytes load.limit n a) same one.fact) none.fact
