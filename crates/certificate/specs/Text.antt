-- The text of a certificate for two designs, as a list of lines of words.
use Rattle.std.specs.Prelude.{ℕ, ◌+◌, List, [], ◌∷◌, ◌++◌, length, codes}
use Rattle.std.specs.List.{flat_map, join_with_byte}
use Rattle.std.specs.Fmt.{decimal}
use Rattle.tmr_base.specs.Copies.{Three, copy_number}
use Rattle.flat_net.specs.Net.{Net, name_of}
use Rattle.certificate.specs.declared.role.Role.{Role}
use Rattle.certificate.specs.declared.role.Role.TheVariants.{Copy, Voter}
use Rattle.certificate.specs.Cert.{PlainCert}

-- three words, one for each copy
abbrev pub three_words : (ℕ → List ℕ) → Three → List (List ℕ)
three_words f t = f t.first ∷ f t.second ∷ f t.third ∷ []

-- `part P depth D`
abbrev pub part_line : ℕ → ℕ → List (List ℕ)
part_line p depth = codes "part" ∷ decimal p ∷ codes "depth" ∷ decimal depth ∷ []

-- one line for each partition, from p on
abbrev pub part_lines : ℕ → List ℕ → List (List (List ℕ))
part_lines p [] = []
part_lines p (depth ∷ depths) = part_line p depth ∷ part_lines (p + 1) depths

-- `node X P H0 H1 H2 E0 E1 E2`: original node x, its partition, its three copies and their labels
abbrev pub node_line : Net → Net → ℕ → ℕ → Three → Three → List (List ℕ)
node_line n h x p copies labels = codes "node" ∷ name_of n x ∷ decimal p ∷ three_words (name_of h) copies ++ three_words decimal labels

-- one line for each original node, from x on
abbrev pub node_lines : Net → Net → ℕ → List ℕ → List Three → List Three → List (List (List ℕ))
node_lines n h x [] copies labels = []
node_lines n h x (p ∷ ps) [] labels = []
node_lines n h x (p ∷ ps) (t ∷ ts) [] = []
node_lines n h x (p ∷ ps) (t ∷ ts) (l ∷ ls) = node_line n h x p t l ∷ node_lines n h (x + 1) ps ts ls

-- `voter H X P C`: hardened net g, where it gives copy c of x for partition p; a copy has no line
abbrev pub voter_line : Net → Net → ℕ → Role → List (List (List ℕ))
voter_line n h g (Copy x c) = []
voter_line n h g (Voter x p c) = (codes "voter" ∷ name_of h g ∷ name_of n x.0 ∷ decimal p.0 ∷ decimal (copy_number c) ∷ []) ∷ []

-- one line for each voter, from hardened net g on
abbrev pub voter_lines : Net → Net → ℕ → List Role → List (List (List ℕ))
voter_lines n h g [] = []
voter_lines n h g (role ∷ roles) = voter_line n h g role ++ voter_lines n h (g + 1) roles

-- the lines of a certificate's text
unfoldable pub cert_lines : Net → Net → PlainCert → List (List (List ℕ))
cert_lines n h k =
    (codes "tmr-cert" ∷ decimal k.version ∷ []) ∷
    (codes "parts" ∷ decimal (length k.depth) ∷ []) ∷
    (part_lines 0 k.depth ++
    (node_lines n h k.original_inputs k.part k.copies k.labels ++
    (voter_lines n h k.hardened_inputs k.roles ++
    (codes "end" ∷ []) ∷ [])))

-- words with one blank between each two, and a line feed
abbrev pub line_text : List (List ℕ) → List ℕ
line_text words = join_with_byte 32 words ++ 10 ∷ []

-- the text of certificate k, for the original n and the hardened design h
abbrev pub cert_text : Net → Net → PlainCert → List ℕ
cert_text n h k = flat_map line_text (cert_lines n h k)
