-- The document of a schedule file: what it says, or its first fault.
use Rattle.std.specs.Prelude.{ℕ, ℤ, pos, negsuc, Bool, true, false, not, ◌&&◌, ◌||◌, nat_eq, nat_le, nat_lt, List, [], ◌∷◌, map, replicate, count_by, length, take, Option, Some, None, Result, Ok, Err, option_and_then, option_map, codes, if◌then◌else◌}
use Rattle.std.specs.List.{list_all, list_any, filter_map, range_with_len, zip}
use Rattle.std.specs.Str.{is_utf8, bytes_eq}
use Rattle.toml.specs.Data.{Data, Items, no_items, item, Members, no_members, member, get_member, as_array, as_str, as_table, as_integer}
use Rattle.toml.specs.Parse.{parse_document}
use Rattle.tmr_base.specs.declared.ids.Upset.{Upset}
use Rattle.flat_net.specs.Net.{Net, net_named}
use Rattle.schedules.specs.declared.fault.ScheduleFault.{ScheduleFault}
use Rattle.schedules.specs.declared.fault.ScheduleFault.TheVariants as fault

-- the members of the document that the bytes are, if they are one
abbrev pub document : List ℕ → Option Members
document bytes = if is_utf8 bytes then parse_document bytes else None

-- there are no other keys than those that pass
abbrev pub only_keys : (List ℕ → Bool) → Members → Bool
only_keys known no_members = true
only_keys known (member key value rest) = known key && only_keys known rest

-- the keys that a schedule file may have; start values come with version 2
abbrev pub is_file_key : ℕ → List ℕ → Bool
is_file_key version key = bytes_eq key (codes "inputs") || (bytes_eq key (codes "upset") || (not (nat_eq version 1) && bytes_eq key (codes "start")))

-- the keys of an upset
abbrev pub is_upset_key : List ℕ → Bool
is_upset_key key = bytes_eq key (codes "cycle") || (bytes_eq key (codes "net") || bytes_eq key (codes "value"))

abbrev pub list_of : Items → List Data
list_of no_items = []
list_of (item d rest) = d ∷ list_of rest

-- the rows of inputs, where the key is there and holds an array
abbrev pub inputs_of : Members → Option Items
inputs_of top = option_and_then as_array (get_member (codes "inputs") top)

abbrev pub array_or_none : Option Data → Option Items
array_or_none None = Some no_items
array_or_none (Some d) = as_array d

-- the upsets, where the key holds an array; without the key there are none
abbrev pub upsets_of : Members → Option Items
upsets_of top = array_or_none (get_member (codes "upset") top)

-- `0` or `1`
abbrev pub is_bit : ℕ → Bool
is_bit b = nat_eq b 48 || nat_eq b 49

-- the bits of a text of one `0` or `1` per input
abbrev pub bits_of_text : ℕ → List ℕ → Option (List Bool)
bits_of_text width text = if nat_eq (length text) width && list_all is_bit text then Some (map (λ b. nat_eq b 49) text) else None

abbrev pub row_of : ℕ → Data → Option (List Bool)
row_of width d = option_and_then (bits_of_text width) (as_str d)

abbrev pub starts_in : ℕ → Option Data → Option (List Bool)
starts_in count None = Some (replicate count false)
starts_in count (Some d) = row_of count d

-- the start values, where the key holds a text of one `0` or `1` for each; without the key all are 0
abbrev pub starts_of : ℕ → Members → Option (List Bool)
starts_of count top = starts_in count (get_member (codes "start") top)

-- a number from 0
abbrev pub natural : ℤ → Option ℕ
natural (pos n) = Some n
natural (negsuc n) = None

-- 0 or 1
abbrev pub bit_of_number : ℕ → Option Bool
bit_of_number n = if nat_le n 1 then Some (nat_eq n 1) else None

abbrev pub natural_at : List ℕ → Members → Option ℕ
natural_at key ms = option_and_then natural (option_and_then as_integer (get_member key ms))

-- an upset as it is written
pub record Entry : Type 0 where
  pub cycle : ℕ
  pub net : List ℕ
  pub value : Bool

abbrev pub entry_from : Option ℕ → Option (List ℕ) → Option Bool → Option Entry
entry_from None net value = None
entry_from (Some cycle) None value = None
entry_from (Some cycle) (Some net) None = None
entry_from (Some cycle) (Some net) (Some value) = Some (record { cycle = cycle; net = net; value = value })

-- a table with exactly these keys
abbrev pub entry_in : Members → Option Entry
entry_in ms =
    if only_keys is_upset_key ms
    then entry_from (natural_at (codes "cycle") ms) (option_and_then as_str (get_member (codes "net") ms))
    (option_and_then bit_of_number (natural_at (codes "value") ms))
    else None

-- the upset that a value is, if it is a table of that form
abbrev pub entry_of : Data → Option Entry
entry_of d = option_and_then entry_in (as_table d)

-- a net that may be struck: in version 1 none of the inputs
abbrev pub struck_at : ℕ → ℕ → ℕ → Option ℕ
struck_at version inputs x = if not (nat_eq version 1) || nat_le inputs x then Some x else None

-- the net with this name, if it may be struck
abbrev pub struck_named : ℕ → Net → List ℕ → Option ℕ
struck_named version h name = option_and_then (struck_at version (length h.inputs)) (net_named h name)

-- some upset has this cycle and net
abbrev pub is_listed : List Upset → ℕ → ℕ → Bool
is_listed us cycle net = list_any (λ u. nat_eq u.cycle cycle && nat_eq u.net.0 net) us

-- an upset of this net: its cycle is one of the schedule's, and no earlier upset has its cycle and net
abbrev pub placed : ℕ → ℕ → List Upset → ℕ → Bool → ℕ → Result Upset ScheduleFault
placed cycles j earlier cycle value net =
    if not (nat_lt cycle cycles) then Err (fault.Range j)
    else if is_listed earlier cycle net then Err (fault.Doubled j)
    else Ok (record { cycle = cycle; net = record { 0 = net }; value = value })

-- the same where the net is known
abbrev pub known : ℕ → ℕ → List Upset → Entry → Option ℕ → Result Upset ScheduleFault
known cycles j earlier e None = Err (fault.UnknownNet j)
known cycles j earlier e (Some net) = placed cycles j earlier e.cycle e.value net

-- upset j, after the earlier ones
abbrev pub upset_of : ℕ → Net → ℕ → ℕ → List Upset → Option Entry → Result Upset ScheduleFault
upset_of version h cycles j earlier None = Err (fault.Entry j)
upset_of version h cycles j earlier (Some e) = known cycles j earlier e (struck_named version h e.net)

-- the first fault, if there is one, else what comes of the value
abbrev pub and_then : {A B : Type 0} → Result A ScheduleFault → (A → Result B ScheduleFault) → Result B ScheduleFault
and_then (Ok a) f = f a
and_then (Err e) f = Err e

-- all the values, or the first fault
abbrev pub all_or_fault : {A : Type 0} → List (Result A ScheduleFault) → Result (List A) ScheduleFault
all_or_fault [] = Ok []
all_or_fault (r ∷ rs) = and_then r (λ a. and_then (all_or_fault rs) (λ more. Ok (a ∷ more)))

-- the entries, each behind its number
abbrev pub numbered : List Data → List (ℕ × Data)
numbered ds = zip (range_with_len 0 (length ds)) ds

-- the upset that an entry writes, if it names a net that may be struck
abbrev pub named_upset : ℕ → Net → Entry → Option Upset
named_upset version h e = option_map (λ net. record { cycle = e.cycle; net = record { 0 = net }; value = e.value }) (struck_named version h e.net)

-- the upset that a value writes, if it is an entry of such a net
abbrev pub upset_in : ℕ → Net → Data → Option Upset
upset_in version h d = option_and_then (named_upset version h) (entry_of d)

-- an entry with its number, after the upsets that the entries before it write
abbrev pub numbered_upset : ℕ → Net → ℕ → List Data → ℕ × Data → Result Upset ScheduleFault
numbered_upset version h cycles ds e = upset_of version h cycles e.0 (filter_map (upset_in version h) (take e.0 ds)) (entry_of e.1)

-- the upsets that the entries are, or the fault of the first that is none
abbrev pub listed_upsets : ℕ → Net → ℕ → List Data → Result (List Upset) ScheduleFault
listed_upsets version h cycles ds = all_or_fault (map (numbered_upset version h cycles ds) (numbered ds))

-- row t, or the fault that it is none
abbrev pub row_or_fault : ℕ → Option (List Bool) → Result (List Bool) ScheduleFault
row_or_fault t None = Err (fault.Row t)
row_or_fault t (Some row) = Ok row

-- a row with its number
abbrev pub numbered_row : ℕ → ℕ × Data → Result (List Bool) ScheduleFault
numbered_row width e = row_or_fault e.0 (row_of width e.1)

-- the rows that the entries are, or the fault of the first that is none
abbrev pub listed_rows : ℕ → List Data → Result (List (List Bool)) ScheduleFault
listed_rows width ds = all_or_fault (map (numbered_row width) (numbered ds))

-- the start values, or the fault that they are none
abbrev pub starts_or_fault : Option (List Bool) → Result (List Bool) ScheduleFault
starts_or_fault None = Err fault.Start
starts_or_fault (Some starts) = Ok starts

-- the rows, the start values, and the upsets in the order of the file
pub record Listed : Type 0 where
  pub rows : List (List Bool)
  pub starts : List Bool
  pub upsets : List Upset

-- what the entries say, or the first fault: too many entries, then the start values, the rows and the upsets
abbrev pub listed : ℕ → Net → Net → Option (List Bool) → List Data → List Data → Result Listed ScheduleFault
listed version n h starts rows ups =
    if nat_lt 1048576 (length rows) || nat_lt 1048576 (length ups) then Err fault.TooMany
    else and_then (starts_or_fault starts) (λ ss.
    and_then (listed_rows (length n.inputs) rows) (λ rs.
    and_then (listed_upsets version h (length rs) ups) (λ us. Ok (record { rows = rs; starts = ss; upsets = us }))))

-- the same, or the fault that a key holds no array
abbrev pub arrays_listed : ℕ → Net → Net → Option (List Bool) → Option Items → Option Items → Result Listed ScheduleFault
arrays_listed version n h starts None ups = Err fault.Top
arrays_listed version n h starts (Some rows) None = Err fault.Top
arrays_listed version n h starts (Some rows) (Some ups) = listed version n h starts (list_of rows) (list_of ups)

-- what a document says, where there are so many start values
abbrev pub document_listed : ℕ → ℕ → Net → Net → Option Members → Result Listed ScheduleFault
document_listed version count n h None = Err fault.NotToml
document_listed version count n h (Some top) =
    if only_keys (is_file_key version) top then arrays_listed version n h (starts_of count top) (inputs_of top) (upsets_of top) else Err fault.Top

-- what a schedule file says of these designs, or its first fault: n is the original with its marks, h the hardened design.
-- In version 1 nothing is marked, so there are no start values.
unfoldable pub sched_of : ℕ → List ℕ → Net → List Bool → Net → Result Listed ScheduleFault
sched_of version bytes n free h = document_listed version (count_by (λ mark. mark) free) n h (document bytes)
