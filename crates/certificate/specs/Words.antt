-- The lines of a certificate's text, and what a line says.
use Rattle.std.specs.Prelude.{ℕ, ◌==◌, ◌&&◌, not, Bool, false, nat_lt, nat_eq, List, [], length, codes, Option, Some, None, is_some, if◌then◌else◌, slice_index_or}
use Rattle.std.specs.List.{list_all, slice_split}
use Rattle.std.specs.Option.{unwrap_or}
use Rattle.std.specs.Str.{bytes_eq}
use Rattle.tmr_base.specs.declared.copies.CopyNo.{CopyNo}
use Rattle.tmr_base.specs.declared.copies.CopyNo.TheVariants.{First, Second, Third}
use Rattle.tmr_base.specs.Numbers.{number_of}
-- `lines_of`: a text cut at its line feeds, which is its lines, and what follows the last line feed
pub use Rattle.text_lines.specs.Lines.{is_line_feed, lines_of}
use Rattle.flat_net.specs.Net.{Net, net_named}

abbrev pub is_blank : ℕ → Bool
is_blank b = b == 32

-- a line cut at its blanks
abbrev pub words_of : List ℕ → List (List ℕ)
words_of line = slice_split is_blank line

abbrev pub word : List (List ℕ) → ℕ → List ℕ
word words i = slice_index_or words i []

abbrev pub is_full : List ℕ → Bool
is_full w = not (length w == 0)

-- as many words, none of them empty, of which this is the first
abbrev pub has_form : List (List ℕ) → ℕ → List ℕ → Bool
has_form words count first = length words == count && (list_all is_full words && bytes_eq (word words 0) first)

abbrev pub is_form : ℕ → List ℕ → List ℕ → Bool
is_form count first line = has_form (words_of line) count first

-- `tmr-cert 1` or `tmr-cert 2`
abbrev pub version_named : List ℕ → Option ℕ
version_named line = if bytes_eq line (codes "tmr-cert 1") then Some 1 else if bytes_eq line (codes "tmr-cert 2") then Some 2 else None

-- word i of a line, counted from 0
abbrev pub word_of : List ℕ → ℕ → List ℕ
word_of line i = word (words_of line) i

-- the number below 2 ^ 32 that it is
abbrev pub number_in : List ℕ → ℕ → Option ℕ
number_in line i = number_of 32 (word_of line i)

-- the net whose name it is
abbrev pub net_in : Net → List ℕ → ℕ → Option ℕ
net_in n line i = net_named n (word_of line i)

-- an input is no node
abbrev pub node_or_none : ℕ → Option ℕ → Option ℕ
node_or_none inputs None = None
node_or_none inputs (Some x) = if nat_lt x inputs then None else Some x

-- the node whose name it is
abbrev pub node_in : Net → List ℕ → ℕ → Option ℕ
node_in n line i = node_or_none (length n.inputs) (net_in n line i)

-- the net whose name it is, which in version 1 is a node
abbrev pub voted_in : ℕ → Net → List ℕ → ℕ → Option ℕ
voted_in version n line i = if nat_eq version 1 then node_in n line i else net_in n line i

-- `0`, `1` or `2`
abbrev pub copy_named : List ℕ → Option CopyNo
copy_named w = if bytes_eq w (codes "0") then Some First else if bytes_eq w (codes "1") then Some Second
    else if bytes_eq w (codes "2") then Some Third else None

abbrev pub are_numbers : List ℕ → List ℕ → Bool
are_numbers line places = list_all (λ i. is_some (number_in line i)) places

abbrev pub are_nodes : Net → List ℕ → List ℕ → Bool
are_nodes n line places = list_all (λ i. is_some (node_in n line i)) places

-- there is one, and it is x
abbrev pub is : ℕ → Option ℕ → Bool
is x None = false
is x (Some y) = y == x

-- the one that there is, in a line without a fault
abbrev pub value : Option ℕ → ℕ
value o = unwrap_or o 0
