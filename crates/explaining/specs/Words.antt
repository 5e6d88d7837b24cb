-- What is said of a reason. n is the original, h the hardened design and k the certificate.
use Rattle.std.specs.Prelude.{ℕ, ◌+◌, ◌==◌, Bool, true, false, List, [], ◌∷◌, length, codes, Option, Some, None, if◌then◌else◌}
use Rattle.std.specs.List.{concat}
use Rattle.std.specs.Option.{unwrap_or}
use Rattle.std.specs.Fmt.{decimal}
use Rattle.tmr_base.specs.declared.copies.CopyNo.{CopyNo}
use Rattle.tmr_base.specs.declared.ids.Edge.{Edge}
use Rattle.tmr_base.specs.declared.ids.Edge.TheVariants.{Rising, Falling}
use Rattle.tmr_base.specs.Copies.{copy_number}
use Rattle.flat_net.specs.Net.{Net, name_of}
use Rattle.certificate.specs.declared.role.Role.{Role}
use Rattle.certificate.specs.declared.role.Role.TheVariants.{Copy, Voter}
use Rattle.certificate.specs.Cert.{PlainCert, role_of, part_of}
use Rattle.explaining.specs.declared.rule.Rule.{Rule}
use Rattle.explaining.specs.declared.rule.Rule.TheVariants.{Inputs, Clocks, Outputs}
use Rattle.explaining.specs.declared.reason.Reason.{Reason}
use Rattle.explaining.specs.declared.reason.Reason.TheVariants.{InputCount, NoClock, NewClock, WrongEdge, IsTable, IsRegister, PinCount, Polarity, RowCount, Row, Initial, Pin, VoterPin, Minority, LowLabel, DeepLabel, WrongOutput, NoOutput, NewOutput}

-- `inputs 5, not 6`
abbrev pub count_text : List ℕ → ℕ → ℕ → List ℕ
count_text what is wanted = concat (what ∷ codes " " ∷ decimal is ∷ codes ", not " ∷ decimal wanted ∷ [])

abbrev pub edge_text : Edge → List ℕ
edge_text Rising = codes "rising"
edge_text Falling = codes "falling"

-- an initial value: `free`, `0` or `1`
abbrev pub initial_text : Bool → Bool → List ℕ
initial_text true bit = codes "free"
initial_text false true = codes "1"
initial_text false false = codes "0"

abbrev pub bit_text : Bool → List ℕ
bit_text false = codes "0"
bit_text true = codes "1"

-- `copy 1 of a`
abbrev pub copy_text : Net → ℕ → CopyNo → List ℕ
copy_text n x c = concat (codes "copy " ∷ decimal (copy_number c) ∷ codes " of " ∷ name_of n x ∷ [])

-- ` for partition 2 and copy 0`
abbrev pub purpose_text : ℕ → CopyNo → List ℕ
purpose_text p c = concat (codes " for partition " ∷ decimal p ∷ codes " and copy " ∷ decimal (copy_number c) ∷ [])

-- `a voter of b for partition 2 and copy 0`
abbrev pub voter_text : Net → ℕ → ℕ → CopyNo → List ℕ
voter_text n x p c = concat (codes "a voter of " ∷ name_of n x ∷ purpose_text p c ∷ [])

-- the partition of a node
abbrev pub part_number : PlainCert → ℕ → ℕ
part_number k x = unwrap_or (part_of k x) 0

-- what a hardened net is for
abbrev pub role_text : Net → PlainCert → Option Role → List ℕ
role_text n k None = codes "an input"
role_text n k (Some (Copy x c)) = concat (copy_text n x.0 c ∷ codes " in partition " ∷ decimal (part_number k x.0) ∷ [])
role_text n k (Some (Voter x p c)) = voter_text n x.0 p.0 c

-- `pin 1 reads g, copy 1 of a in partition 0`
abbrev pub reads_text : Net → Net → PlainCert → ℕ → ℕ → List ℕ
reads_text n h k j g = concat (codes "pin " ∷ decimal j ∷ codes " reads " ∷ name_of h g ∷ codes ", " ∷ role_text n k (role_of k g) ∷ [])

-- what would read x for partition p and copy c, where x stands in some partition: a copy there, or a voter
abbrev pub reader_text : Net → PlainCert → Option ℕ → ℕ → ℕ → CopyNo → List ℕ
reader_text n k None x p c = if k.version == 1 then copy_text n x c else voter_text n x p c
reader_text n k (Some q) x p c =
    if q == p then concat (copy_text n x c ∷ codes ", or its voter" ∷ purpose_text p c ∷ []) else voter_text n x p c

-- why a rule fails at a place
abbrev pub reason_text : Net → Net → PlainCert → ℕ → Reason → List ℕ
reason_text n h k place (InputCount is wanted) = count_text (codes "inputs") is wanted
reason_text n h k place NoClock = codes "no clock, original has one"
reason_text n h k place NewClock = codes "a clock, original has none"
reason_text n h k place (WrongEdge is wanted) = concat (codes "edge " ∷ edge_text is ∷ codes ", not " ∷ edge_text wanted ∷ [])
reason_text n h k place IsTable = codes "kind table, not register"
reason_text n h k place IsRegister = codes "kind register, not table"
reason_text n h k place (PinCount is wanted) = count_text (codes "pins") is wanted
reason_text n h k place Polarity = codes "polarity"
reason_text n h k place (RowCount is wanted) = count_text (codes "rows") is wanted
reason_text n h k place (Row i is wanted) = concat (codes "row " ∷ decimal i ∷ codes " is " ∷ is.now ∷ codes ", not " ∷ wanted.now ∷ [])
reason_text n h k place (Initial is is_free wanted wanted_free) =
    concat (codes "initial value " ∷ initial_text is_free is ∷ codes ", not " ∷ initial_text wanted_free wanted ∷ [])
reason_text n h k place (Pin j g x p c) =
    concat (reads_text n h k j g.0 ∷ codes "; wanted " ∷ reader_text n k (part_of k x.0) x.0 p.0 c ∷ [])
reason_text n h k place (VoterPin g x c) =
    concat (reads_text n h k (copy_number c) g.0 ∷ codes "; wanted " ∷ copy_text n x.0 c ∷ [])
reason_text n h k place (Minority a b c) = concat (codes "not the majority at " ∷ bit_text a ∷ bit_text b ∷ bit_text c ∷ [])
reason_text n h k place (LowLabel label wants g m) =
    concat (codes "label " ∷ decimal label ∷ codes ", wants " ∷ decimal wants
    ∷ codes " (reads " ∷ name_of h g.0 ∷ codes " with label " ∷ decimal m ∷ codes ")" ∷ [])
reason_text n h k place (DeepLabel label depth p) =
    concat (codes "label " ∷ decimal label ∷ codes " above depth " ∷ decimal depth ∷ codes " of partition " ∷ decimal p.0 ∷ [])
reason_text n h k place (WrongOutput g x c) =
    concat (codes "output " ∷ decimal place ∷ codes " is " ∷ name_of h g.0 ∷ codes ", not " ∷ copy_text n x.0 c ∷ [])
reason_text n h k place (NoOutput x c) =
    concat (codes "output " ∷ decimal place ∷ codes " is missing, wanted " ∷ copy_text n x.0 c ∷ [])
reason_text n h k place (NewOutput g) = concat (codes "output " ∷ decimal place ∷ codes " is " ∷ name_of h g.0 ∷ codes ", wanted none" ∷ [])

-- where a rule fails: at the inputs, at the clock, at a hardened node, or at an output position
abbrev pub place_text : Net → Rule → ℕ → List ℕ
place_text h Inputs place = codes "inputs"
place_text h Clocks place = codes "clock"
place_text h Outputs place = concat (codes "output " ∷ decimal place ∷ [])
place_text h rule place = name_of h (length h.inputs + place)
