-- What a certificate's text must be for an original design n and a hardened design h. The lines before a line say which one is
-- due. A line's tests stand in the order of its faults; the text has the fault of the first test that fails, and where none fails
-- its lines spell the certificate.
use Rattle.std.specs.Prelude.{ℕ, zero, suc, ◌+◌, ◌==◌, ◌&&◌, not, Bool, true, nat_lt, List, [], ◌∷◌, ◌++◌, map, length, codes, Option, Some, None, is_some, is_none, Result, Ok, Err, if◌then◌else◌, slice_index_or}
use Rattle.std.specs.List.{list_any, filter, filter_map, flat_map}
use Rattle.std.specs.Option.{unwrap_or}
use Rattle.std.specs.Str.{bytes_eq}
use Rattle.tmr_base.specs.declared.copies.CopyNo.{CopyNo}
use Rattle.tmr_base.specs.declared.copies.CopyNo.TheVariants.{First, Second, Third}
use Rattle.tmr_base.specs.Copies.{Three}
use Rattle.flat_net.specs.Net.{Net}
use Rattle.certificate.specs.declared.fault.CertFault.{CertFault}
use Rattle.certificate.specs.declared.fault.CertFault.TheVariants.{Line, UnknownNet, Order, Range, Doubled}
use Rattle.certificate.specs.declared.role.Role.{Role}
use Rattle.certificate.specs.declared.role.Role.TheVariants.{Copy, Voter}
use Rattle.certificate.specs.Cert.{PlainCert}
use Rattle.certificate.specs.Words.{lines_of, word_of, number_in, net_in, node_in, voted_in, version_named, copy_named, is_form, are_numbers, are_nodes, is, value}

-- ---- what lines say

-- those that begin with this word
abbrev pub lines_with : List ℕ → List (List ℕ) → List (List ℕ)
lines_with first lines = filter (λ line. bytes_eq (word_of line 0) first) lines

abbrev pub version_in : List (List ℕ) → ℕ
version_in lines = value (version_named (slice_index_or lines 0 []))

-- how many partitions there are
abbrev pub parts_in : List (List ℕ) → ℕ
parts_in lines = value (number_in (slice_index_or lines 1 []) 1)

-- `end` is among them
abbrev pub ended : List (List ℕ) → Bool
ended lines = list_any (λ line. bytes_eq line (codes "end")) lines

-- the hardened node that word i of a node's line names is copy c of the node of this line
abbrev pub copy_given : Net → Net → List ℕ → ℕ → CopyNo → ℕ × Role
copy_given n h line i c = (value (node_in h line i), Copy (record { 0 = value (node_in n line 1) }) c)

abbrev pub node_gives : Net → Net → List ℕ → List (ℕ × Role)
node_gives n h line = copy_given n h line 3 First ∷ copy_given n h line 4 Second ∷ copy_given n h line 5 Third ∷ []

abbrev pub voter_gives : Net → Net → List ℕ → List (ℕ × Role)
voter_gives n h line = (
  value (node_in h line 1),
  Voter (record { 0 = value (net_in n line 2) }) (record { 0 = value (number_in line 3) }) (unwrap_or (copy_named (word_of line 4)) First),
) ∷ []

-- the roles that a line gives to hardened nodes: a node's line to the three copies, a voter's line to the voter, any other none
abbrev pub gives : Net → Net → List ℕ → List (ℕ × Role)
gives n h line = if bytes_eq (word_of line 0) (codes "node") then node_gives n h line
    else if bytes_eq (word_of line 0) (codes "voter") then voter_gives n h line else []

-- the roles that lines give
abbrev pub given : Net → Net → List (List ℕ) → List (ℕ × Role)
given n h lines = flat_map (gives n h) lines

-- the first role that hardened node g is given
abbrev pub role_in : List (ℕ × Role) → ℕ → Option Role
role_in [] g = None
role_in ((x, role) ∷ more) g = if x == g then Some role else role_in more g

-- each of these is for a node without a role, both by those given before and by those that stand before it here
abbrev pub all_new : List (ℕ × Role) → List (ℕ × Role) → Bool
all_new before [] = true
all_new before (one ∷ more) = is_none (role_in before one.0) && all_new (before ++ one ∷ []) more

-- so many numbers, from g on
abbrev pub numbers : ℕ → ℕ → List ℕ
numbers g zero = []
numbers g (suc count) = g ∷ numbers (g + 1) count

abbrev pub hardened_nodes : Net → List ℕ
hardened_nodes h = numbers (length h.inputs) (length h.nodes)

-- ---- which line is due

pub data Due : Type 0 where
  VersionDue : Due
  PartsDue : Due
  PartDue : (p : ℕ) → Due
  NodeDue : (x : ℕ) → Due
  VoterDue : (g : ℕ) → Due
  EndDue : Due

-- a voter's line for the first hardened node without a role, and `end` where there is none
abbrev pub voter_or_end : List ℕ → Due
voter_or_end [] = EndDue
voter_or_end (g ∷ more) = VoterDue g

-- the line that is due after these
unfoldable pub due : Net → Net → List (List ℕ) → Due
due n h before =
    let parts = length (lines_with (codes "part") before) in
    let nodes = length (lines_with (codes "node") before) in
    if length before == 0 then VersionDue
    else if length before == 1 then PartsDue
    else if nat_lt parts (parts_in before) then PartDue parts
    else if nat_lt nodes (length n.nodes) then NodeDue (length n.inputs + nodes)
    else voter_or_end (filter (λ g. is_none (role_in (given n h before) g)) (hardened_nodes h))

-- ---- tests, each with the fault that there is where it fails

-- of line i, after the lines before it, where this one is due; words are counted from 0
unfoldable pub tests_of : Net → Net → List (List ℕ) → List ℕ → ℕ → Due → List (Bool × CertFault)
-- `tmr-cert 1` or `tmr-cert 2`
tests_of n h before line i VersionDue = (is_some (version_named line), Line i) ∷ []
-- `parts K`
tests_of n h before line i PartsDue =
    (is_form 2 (codes "parts") line, Line i) ∷
    (are_numbers line (1 ∷ []), Line i) ∷ []
-- `part P depth D`
tests_of n h before line i (PartDue p) =
    (is_form 4 (codes "part") line, Line i) ∷
    (bytes_eq (word_of line 2) (codes "depth"), Line i) ∷
    (are_numbers line (1 ∷ 3 ∷ []), Line i) ∷
    (is p (number_in line 1), Line i) ∷ []
-- `node X P H0 H1 H2 E0 E1 E2`
tests_of n h before line i (NodeDue x) =
    (is_form 9 (codes "node") line, Line i) ∷
    (are_numbers line (2 ∷ 6 ∷ 7 ∷ 8 ∷ []), Line i) ∷
    (are_nodes n line (1 ∷ []), UnknownNet i) ∷
    (are_nodes h line (3 ∷ 4 ∷ 5 ∷ []), UnknownNet i) ∷
    (is x (node_in n line 1), Order i) ∷
    (nat_lt (value (number_in line 2)) (parts_in before), Range i) ∷
    (all_new (given n h before) (node_gives n h line), Doubled i) ∷ []
-- `voter H X P C`
tests_of n h before line i (VoterDue g) =
    (is_form 5 (codes "voter") line, Line i) ∷
    (are_numbers line (3 ∷ []), Line i) ∷
    (is_some (copy_named (word_of line 4)), Line i) ∷
    (are_nodes h line (1 ∷ []), UnknownNet i) ∷
    (is_some (voted_in (version_in before) n line 2), UnknownNet i) ∷
    (is g (node_in h line 1), Order i) ∷
    (nat_lt (value (number_in line 3)) (parts_in before), Range i) ∷ []
-- `end`
tests_of n h before line i EndDue = (bytes_eq line (codes "end"), Line i) ∷ []

-- of the rest of a text, cut at its line feeds, after the lines before: no line stands after `end`, and what follows the last line
-- feed stands after `end` and is empty
abbrev pub all_tests : Net → Net → List (List ℕ) → List (List ℕ) → List (Bool × CertFault)
all_tests n h before [] = []
all_tests n h before (last ∷ []) = (ended before, Line (length before + 1)) ∷ (length last == 0, Line (length before + 1)) ∷ []
all_tests n h before (line ∷ next ∷ more) =
    (not (ended before), Line (length before + 1)) ∷
    tests_of n h before line (length before + 1) (due n h before) ++ all_tests n h (before ++ line ∷ []) (next ∷ more)

-- ---- the answer

-- what three words say, from word i on
abbrev pub three_in : (List ℕ → ℕ → Option ℕ) → List ℕ → ℕ → Three
three_in f line i = record { first = value (f line i); second = value (f line (i + 1)); third = value (f line (i + 2)) }

-- the certificate that lines without a fault spell
unfoldable pub spelled : Net → Net → List (List ℕ) → PlainCert
spelled n h lines =
    let nodes = lines_with (codes "node") lines in
    record {
      version = version_in lines;
      original_inputs = length n.inputs;
      hardened_inputs = length h.inputs;
      depth = map (λ line. value (number_in line 3)) (lines_with (codes "part") lines);
      part = map (λ line. value (number_in line 2)) nodes;
      copies = map (λ line. three_in (node_in h) line 3) nodes;
      labels = map (λ line. three_in number_in line 6) nodes;
      roles = filter_map (role_in (given n h lines)) (hardened_nodes h);
    }

-- k, or the fault of the first test that fails
abbrev pub unless_failed : List (Bool × CertFault) → PlainCert → Result PlainCert CertFault
unless_failed [] k = Ok k
unless_failed ((holds, fault) ∷ more) k = if holds then unless_failed more k else Err fault

-- the certificate that the text gives for the designs n and h, or its first fault
unfoldable pub cert_of_text : Net → Net → List ℕ → Result PlainCert CertFault
cert_of_text n h bytes = unless_failed (all_tests n h [] (lines_of bytes)) (spelled n h (lines_of bytes))
