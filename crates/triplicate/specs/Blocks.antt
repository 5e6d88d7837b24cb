-- The nodes of the hardened design in their order: for each net of the original its copies, if it is a node, and then its
-- voters in ascending partitions. (The copies of an input are inputs.)
use Rattle.std.specs.Prelude.{ℕ, Bool, nat_lt, List, [], ◌∷◌, ◌++◌, length, Option, if◌then◌else◌}
use Rattle.std.specs.List.{flat_map, range_with_len}
use Rattle.std.specs.Option.{option_map}
use Rattle.tmr_base.specs.declared.copies.CopyNo.{CopyNo}
use Rattle.tmr_base.specs.declared.copies.CopyNo.TheVariants.{First, Second, Third}
use Rattle.tmr_base.specs.declared.ids.Edge.{Edge}
use Rattle.tmr_base.specs.Names.{copy_text, voter_text, clock_text}
use Rattle.tmr_base.specs.Parts.{PlainParts}
use Rattle.flat_net.specs.Net.{Net, net_count, name_of}
use Rattle.certificate.specs.declared.role.Role.{Role}
use Rattle.certificate.specs.declared.role.Role.TheVariants.{Copy, Voter}
use Rattle.triplicate.specs.Voting.{voting_parts}

-- one for each copy, in their order
abbrev pub threefold : {A : Type 0} → (CopyNo → A) → List A
threefold f = f First ∷ f Second ∷ f Third ∷ []

-- the copies of net x
abbrev pub copies_of : Net → ℕ → List Role
copies_of n x = if nat_lt x (length n.inputs) then [] else threefold (λ c. Copy (record { 0 = x }) c)

-- the voters of net x for partition p
abbrev pub voters_for : ℕ → ℕ → List Role
voters_for x p = threefold (λ c. Voter (record { 0 = x }) (record { 0 = p }) c)

-- what stands for net x
abbrev pub block : Net → PlainParts → (ℕ → ℕ → Bool) → ℕ → List Role
block n parts voted x = copies_of n x ++ flat_map (voters_for x) (voting_parts n parts voted x)

-- what all nodes of the hardened design are for
unfoldable pub hardened_roles : Net → PlainParts → (ℕ → ℕ → Bool) → List Role
hardened_roles n parts voted = flat_map (block n parts voted) (range_with_len 0 (net_count n))

-- the name that goes with a role
abbrev pub role_name : Net → Role → List ℕ
role_name n (Copy x c) = copy_text (name_of n x.0) c
role_name n (Voter x p c) = voter_text (name_of n x.0) p.0 c

-- three inputs for each one
abbrev pub hardened_inputs : Net → List (List ℕ)
hardened_inputs n = flat_map (λ name. threefold (copy_text name)) n.inputs

abbrev pub hardened_clock : Option (Edge × List ℕ) → Option (Edge × List ℕ)
hardened_clock clock = option_map (λ c. (c.0, clock_text c.1)) clock
