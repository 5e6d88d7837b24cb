-- Files that were loaded and read, and loads and reads that came to no end.
use Rattle.std.specs.Prelude.{◌≡◌, ℕ, List, [], map, codes, Option, IfSome, Vec, Result, Ok, Err, IfOk, IfErr, MatchResult}
use Rattle.std.specs.declared.alloc.Global.{Global}
use Rattle.blif_text.specs.Models.{PlainModel}
use Rattle.blif_text.specs.Reading.{reading, Reads}
use Rattle.blif_text.specs.declared.fault.TextFault.{TextFault}
use Rattle.tmr_outside.specs.Contents.{Contents}
use Rattle.tmr_outside.specs.Counts.{NoneRose}
use Rattle.tmr_outside.specs.Seen.{FilesSeen, IsTold}
use Rattle.tmr_top.specs.declared.loads.Stop.{Stop}
use Rattle.tmr_top.specs.declared.loads.Stop.TheVariants as stop
use Rattle.tmr_top.specs.declared.status.Status.{Status}
use Rattle.tmr_top.specs.declared.status.Status.TheVariants as status
use Rattle.tmr_top.specs.Loads.{Load, load_name, Netlist, Bytes}
use Rattle.tmr_top.specs.Files.{Holds, OfOne, OfEach, OfFirst, IsLong, IsMissing, IsFine}
use Rattle.tmr_top.specs.Changes.{LoadFailed, ChangesOnly}
use Rattle.tmr_texts.specs.Texts.{load_fault_line, refused_line}

-- a netlist of this name with this limit
abbrev pub netlist_file : List ℕ → ℕ → Load
netlist_file name limit = record { name = name; limit = limit; kind = Netlist }

-- and any other file
abbrev pub bytes_file : List ℕ → ℕ → Load
bytes_file name limit = record { name = name; limit = limit; kind = Bytes }

-- what the file holds was read, with this result
abbrev pub HoldsText : Contents → Load → Result (List PlainModel) TextFault → Type 0
HoldsText held load text = Holds held load (λ bytes. Reads text (reading bytes))

-- the file holds these bytes
abbrev pub HoldsBytes : Contents → Load → List ℕ → Type 0
HoldsBytes held load loaded = Holds held load (λ bytes. bytes ≡ loaded)

-- these files were loaded, one after the other: each is there and not too long, and G holds of what they hold
pub record IsOpen (loads : List Load) (G : Contents → Type 0) (old new : FilesSeen) : Type 0 where
  pub holds : IfSome old.contents (λ held. OfEach (IsFine held) loads × G held)
  pub none : IsTold old → NoneRose old.load_count new.load_count

-- why these files were not all loaded and read: the load of one failed, or one is too long, or all are loaded and one is refused in a line
-- of which R holds, or there was no memory
abbrev pub IsStop : List Load → (List ℕ → Contents → Type 0) → FilesSeen → FilesSeen → Stop → Type 0
IsStop loads R old new (stop.Failed name) = OfOne (λ load. LoadFailed old new load × (name.now ≡ load.name)) loads
IsStop loads R old new (stop.TooLong name) =
    IfSome old.contents (λ held. OfFirst held (λ load. IsLong held load × (name.now ≡ load.name)) loads)
    × (IsTold old → NoneRose old.load_count new.load_count)
IsStop loads R old new (stop.Refused line) = IsOpen loads (R line.items) old new
IsStop loads R old new stop.Memory = IsTold old → NoneRose old.load_count new.load_count

-- a steady object fails at nothing but a file that is not there
abbrev pub IsSteadyStop : List Load → Option Contents → Stop → Type 0
IsSteadyStop loads contents (stop.Failed name) = IfSome contents (λ held. OfFirst held (IsMissing held) loads)
IsSteadyStop loads contents (stop.TooLong name) = Unit {0}
IsSteadyStop loads contents (stop.Refused line) = Unit {0}
IsSteadyStop loads contents stop.Memory = Unit {0}

-- These files were loaded and read, or that came to no end. H holds of what was read and of what the files hold. `was` says that the
-- files were steady, and `is` that they are.
pub record Opens {A : Type 0} (loads : List Load) (H : A → Contents → Type 0) (R : List ℕ → Contents → Type 0)
    (old new : FilesSeen) (was is : Type 0) (answer : Result A Stop) : Type 0 where
  pub stays : new.contents ≡ old.contents
  pub changes : ChangesOnly (map load_name loads) [] old new
  pub steady : was → is
  pub ok : IfOk answer (λ a. IsOpen loads (H a) old new)
  pub stop : IfErr answer (IsStop loads R old new)
  pub steady_stop : was → IfErr answer (IsSteadyStop loads old.contents)

-- a load refuses nothing
abbrev pub Never : List ℕ → Contents → Type 0
Never line held = ⊥

-- where G holds of what the files hold, a read was refused in a line of which R holds
abbrev pub IsRefusal : (Contents → Type 0) → (List ℕ → Contents → Type 0) → Stop → Type 0
IsRefusal G R (stop.Failed name) = ⊥
IsRefusal G R (stop.TooLong name) = ⊥
IsRefusal G R (stop.Refused line) = (held : Contents) → G held → R line.items held
IsRefusal G R stop.Memory = Unit {0}

-- where G holds of what the files hold, they were read as something of which H holds, or one was refused
abbrev pub Gives : {A : Type 0} → (Contents → Type 0) → (A → Contents → Type 0) → (List ℕ → Contents → Type 0) → Result A Stop → Type 0
Gives G H R answer = MatchResult answer (λ a. (held : Contents) → G held → H a held) (IsRefusal G R)

-- what is kept until all files are loaded: what was read of them, of which H holds, or the line that refuses one, of which R holds
abbrev pub Keeps : {A : Type 0} → (A → Contents → Type 0) → (List ℕ → Contents → Type 0) → Result A (Vec ℕ Global) → Contents → Type 0
Keeps H R kept held = MatchResult kept (λ a. H a held) (λ line. R line.items held)

-- a refusal is kept, and any other stop is told
abbrev pub keeping : {A : Type 0} → Result A Stop → Result (Result A (Vec ℕ Global)) Stop
keeping (Ok a) = Ok (Ok a)
keeping (Err (stop.Failed name)) = Err (stop.Failed name)
keeping (Err (stop.TooLong name)) = Err (stop.TooLong name)
keeping (Err (stop.Refused line)) = Ok (Err line)
keeping (Err stop.Memory) = Err stop.Memory

-- what was kept is told
abbrev pub telling : {A : Type 0} → Result A (Vec ℕ Global) → Result A Stop
telling (Ok a) = Ok a
telling (Err line) = Err (stop.Refused line)

-- the status and the text where files were not all loaded and read
abbrev pub IsStopped : Stop → Status → List ℕ → Type 0
IsStopped (stop.Failed name) s text = (s ≡ status.Fault) × (text ≡ load_fault_line name.now)
IsStopped (stop.TooLong name) s text = (s ≡ status.Refused) × (text ≡ refused_line name.now (codes "too long"))
IsStopped (stop.Refused line) s text = (s ≡ status.Refused) × (text ≡ line.items)
IsStopped stop.Memory s text = ⊥
