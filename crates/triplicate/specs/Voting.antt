-- Which pins read voters. Nodes and pins are counted from 0; `voted y j` says that pin j of node y is voted.
use Rattle.std.specs.Prelude.{◌≡◌, ◌≢◌, ℕ, ◌+◌, ◌<◌, ◌==◌, ◌&&◌, ◌||◌, Bool, true, false, List, length, slice_index, filter}
use Rattle.std.specs.List.{list_any, range_with_len}
use Rattle.tmr_base.specs.Parts.{PlainParts}
use Rattle.flat_net.specs.Net.{Net}
use Rattle.feedback_cut.specs.Inner.{node_pins, ReadsInside}
use Rattle.feedback_cut.specs.Cut.{is_cut}
use Rattle.triplicate.specs.declared.form.Form.{Form}
use Rattle.triplicate.specs.Choices.{IsCutOf}

-- pin j of node y reads net x
pub record ReadsNet (n : Net) (y j x : ℕ) : Type 0 where
  pub pin : j < length (node_pins n y)
  pub is : slice_index (node_pins n y) j ≡ x

-- pin j of node y is voted and reads net x
abbrev pub votes_for : Net → (ℕ → ℕ → Bool) → ℕ → ℕ → ℕ → Bool
votes_for n voted x y j = voted y j && slice_index (node_pins n y) j == x

-- a voted pin of a node of partition p reads net x
unfoldable pub needs_voter : Net → PlainParts → (ℕ → ℕ → Bool) → ℕ → ℕ → Bool
needs_voter n parts voted x p =
    list_any (λ y. slice_index parts.of y == p && list_any (votes_for n voted x y) (range_with_len 0 (length (node_pins n y))))
    (range_with_len 0 (length n.nodes))

-- the partitions that need a voter of net x, ascending
abbrev pub voting_parts : Net → PlainParts → (ℕ → ℕ → Bool) → ℕ → List ℕ
voting_parts n parts voted x = filter (needs_voter n parts voted x) (range_with_len 0 parts.count)

-- a pin that reads an input is voted or not, by `inputs`; one that reads a node of another partition is voted; and of those
-- that read a node of their own partition, the pins of the form's cut of all loops are voted, and extra ones, and
-- no others
pub record VotesFor (kind : Form) (n : Net) (parts : PlainParts) (inputs : Bool) (cut : List (List Bool))
    (extra voted : ℕ → ℕ → Bool) : Type 0 where
  pub at_inputs : (y j x : ℕ) → ReadsNet n y j x → x < length n.inputs → voted y j ≡ inputs
  pub foreign : (y j x : ℕ) → ReadsNet n y j (length n.inputs + x) → slice_index parts.of x ≢ slice_index parts.of y → voted y j ≡ true
  pub meets : IsCutOf kind n parts cut
  pub own : (y j x : ℕ) → ReadsInside n parts y j x → voted y j ≡ (is_cut cut y j || extra y j)

-- no extra pins
abbrev pub none_extra : ℕ → ℕ → Bool
none_extra y j = false
