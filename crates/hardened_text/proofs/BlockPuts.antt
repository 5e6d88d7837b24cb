-- What stands for a net: the lines of its copies, and of its voters.
use Rattle.std.proofs.Common.{◌≡◌, ℕ, ◌-◌, ◌<◌, ◌≤◌, Bool, List, [], ◌++◌, length, sym, ap, ◌∙◌, append_assoc}
use Rattle.std.specs.List.{flat_map}
use Rattle.std.proofs.lemmas.List.{append-nil}
use Rattle.std.proofs.lemmas.List.Concat.{flat_map-append}
use Rattle.tmr_base.specs.declared.copies.CopyNo.{CopyNo}
use Rattle.tmr_base.specs.declared.copies.CopyNo.TheVariants.{First, Second, Third}
use Rattle.tmr_base.specs.Parts.{PlainParts}
use Rattle.flat_net.specs.Net.{Net, node_of, name_of}
use Rattle.blif_writer.specs.Text.{line_text, lines_text}
use Rattle.certificate.specs.declared.role.Role.{Role}
use Rattle.triplicate.specs.Blocks.{copies_of, voters_for, hardened_clock}
use Rattle.triplicate.specs.Voting.{voting_parts}
use Rattle.triplicate.proofs.Numbering.{copies_of_node, copies_of_input}
use Rattle.hardened_text.specs.Private.Spelled.{voter_head, voters_at}
use Rattle.hardened_text.specs.Private.Lines.{pin_names, copy_lines, role_lines, block_text}
use Rattle.hardened_text.proofs.VoterPuts.{voters_same}

-- the lines of copy c of net x
abbrev copy_text_of : Net → PlainParts → (ℕ → ℕ → Bool) → Bool → ℕ → ℕ → CopyNo → List ℕ
copy_text_of n parts voted free x y c = lines_text (copy_lines (hardened_clock n.clock) (pin_names n parts voted y c) c free (node_of n x))

-- what stands for a net, in two pieces
pieces : (n : Net) (parts : PlainParts) (voted : ℕ → ℕ → Bool) (free : Bool) (x : ℕ) →
    block_text n parts voted free x ≡ lines_text (flat_map (role_lines n parts voted free) (copies_of n x)) ++ flat_map (voters_at (voter_head (name_of n x))) (voting_parts n parts voted x)
pieces n parts voted free x =
    let voters = flat_map (voters_for x) (voting_parts n parts voted x) in
    ap lines_text (flat_map-append (role_lines n parts voted free) (copies_of n x) voters)
    ∙ (flat_map-append line_text (flat_map (role_lines n parts voted free) (copies_of n x)) (flat_map (role_lines n parts voted free) voters)
    ∙ ap (λ (t : List ℕ). lines_text (flat_map (role_lines n parts voted free) (copies_of n x)) ++ t) (voters_same n parts voted free x (voting_parts n parts voted x)))

three : (a b c : List (List (List ℕ))) → lines_text (a ++ (b ++ (c ++ []))) ≡ lines_text a ++ (lines_text b ++ lines_text c)
three a b c =
    flat_map-append line_text a (b ++ (c ++ []))
    ∙ (ap (λ (t : List ℕ). lines_text a ++ t) (flat_map-append line_text b (c ++ []))
    ∙ ap (λ (ls : List (List (List ℕ))). lines_text a ++ (lines_text b ++ lines_text ls)) (append-nil c))

-- a node's copies are put
pub node_copies : (n : Net) (parts : PlainParts) (voted : ℕ → ℕ → Bool) (free : Bool) (x y z : ℕ) (old new : List ℕ) → length n.inputs ≤ x → y ≡ x - length n.inputs → z ≡ x
    → new ≡ ((old ++ copy_text_of n parts voted free z y First) ++ copy_text_of n parts voted free z y Second) ++ copy_text_of n parts voted free z y Third
    → new ≡ old ++ lines_text (flat_map (role_lines n parts voted free) (copies_of n x))
node_copies n parts voted free x y z old new high ey ez put =
    let one = copy_text_of n parts voted free x (x - length n.inputs) in
    let copies : lines_text (flat_map (role_lines n parts voted free) (copies_of n x)) ≡ one First ++ (one Second ++ one Third) =
    ap (λ (rs : List Role). lines_text (flat_map (role_lines n parts voted free) rs)) (copies_of_node n x high)
    ∙ three (lines First) (lines Second) (lines Third) in
    put ∙ (ap (λ (w : ℕ). ((old ++ copy_text_of n parts voted free w y First) ++ copy_text_of n parts voted free w y Second) ++ copy_text_of n parts voted free w y Third) ez
    ∙ (ap (λ (w : ℕ). ((old ++ copy_text_of n parts voted free x w First) ++ copy_text_of n parts voted free x w Second) ++ copy_text_of n parts voted free x w Third) ey
    ∙ (regroup old (one First) (one Second) (one Third) ∙ ap (λ (t : List ℕ). old ++ t) (sym copies))))
  where
    lines : CopyNo → List (List (List ℕ))
    lines c = copy_lines (hardened_clock n.clock) (pin_names n parts voted (x - length n.inputs) c) c free (node_of n x)

    regroup : (o a b c : List ℕ) → ((o ++ a) ++ b) ++ c ≡ o ++ (a ++ (b ++ c))
    regroup o a b c = simp append_assoc

-- an input has no copies among the nodes
pub input_copies : (n : Net) (parts : PlainParts) (voted : ℕ → ℕ → Bool) (free : Bool) (x : ℕ) (old : List ℕ) → x < length n.inputs → old ≡ old ++ lines_text (flat_map (role_lines n parts voted free) (copies_of n x))
input_copies n parts voted free x old low =
    sym (append-nil old) ∙ ap (λ (rs : List Role). old ++ lines_text (flat_map (role_lines n parts voted free) rs)) (sym (copies_of_input n x low))

-- copies and voters are put
pub block_put : (n : Net) (parts : PlainParts) (voted : ℕ → ℕ → Bool) (free : Bool) (x : ℕ) (name old mid new row : List ℕ) → name ≡ name_of n x → row ≡ voting_parts n parts voted x
    → mid ≡ old ++ lines_text (flat_map (role_lines n parts voted free) (copies_of n x)) → new ≡ mid ++ flat_map (voters_at (voter_head name)) row → new ≡ old ++ block_text n parts voted free x
block_put n parts voted free x name old mid new row is er put_copies put_voters =
    let copies = lines_text (flat_map (role_lines n parts voted free) (copies_of n x)) in
    put_voters ∙ (ap (λ (w : List ℕ). mid ++ flat_map (voters_at (voter_head w)) row) is ∙ (ap (λ (ps : List ℕ). mid ++ flat_map (voters_at (voter_head (name_of n x))) ps) er
    ∙ (ap (λ (o : List ℕ). o ++ flat_map (voters_at (voter_head (name_of n x))) (voting_parts n parts voted x)) put_copies
    ∙ (append_assoc old copies (flat_map (voters_at (voter_head (name_of n x))) (voting_parts n parts voted x)) ∙ ap (λ (t : List ℕ). old ++ t) (sym (pieces n parts voted free x))))))
