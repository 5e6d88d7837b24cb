-- The hardened design has room, and its names are those of its roles.
use Rattle.std.proofs.Common.{◌≡◌, ℕ, ◌<◌, List, [], ◌++◌, map, get_or, sym, ap, ◌∙◌, subst, arith, append-nil}
use Rattle.std.proofs.lemmas.List.{length-append, length-map}
use Rattle.flat_net.specs.Net.{net_names, node_name, net_count, name_of}
use Rattle.flat_net.specs.Packs.{Packs}
use Rattle.triplicate.specs.Labels.{Labeling}
use Rattle.hardened_pair.specs.declared.tripling.Made.{Made}
use Rattle.triplicate.specs.Blocks.{hardened_roles, hardened_inputs, role_name}
use Rattle.triplicate.specs.Construction.{role_node, hardened_net}
use Rattle.triplicate.specs.Given.{IsGiven}
use Rattle.triplicate.specs.Pins.{AreVotesOf}
use Rattle.triplicate.specs.Planned.{votes_in}
use Rattle.triplicate.specs.Starts.{AreVoterRows, AreStarts}
use Rattle.triplicate.specs.Taps.{AreTaps}
use Rattle.hardened_pair.specs.declared.layout.Layout.{Layout}
use Rattle.hardened_pair.specs.Private.Layouts.{net_of, partitions, voted, HasRoom, IsLayout}
use Rattle.hardened_pair.specs.Private.Made.{IsMade}
use Rattle.triplicate.proofs.Formed.{map_map, map_agree, names_of_roles}
use Rattle.triplicate.proofs.Named.{names_differ, hardened_count}
use Rattle.triplicate.proofs.Tripled.{length-hardened_inputs}

module _ (l : Layout) (t : Labeling) (is : IsGiven (net_of l) (partitions l) (voted l) t) where
  node_names : map node_name (hardened_net (net_of l) (partitions l) (voted l)).nodes ≡ map (role_name (net_of l)) (hardened_roles (net_of l) (partitions l) (voted l))
  unfolding hardened_net
  node_names = map_map node_name (role_node (net_of l) (partitions l) (voted l)) (hardened_roles (net_of l) (partitions l) (voted l)) ∙ map_agree (λ r. node_name (role_node (net_of l) (partitions l) (voted l) r)) (role_name (net_of l)) (hardened_roles (net_of l) (partitions l) (voted l)) (names_of_roles (net_of l) (partitions l) (voted l) t is)

  all_names : net_names (hardened_net (net_of l) (partitions l) (voted l)) ≡ hardened_inputs (net_of l) ++ map (role_name (net_of l)) (hardened_roles (net_of l) (partitions l) (voted l))
  unfolding hardened_net
  all_names = ap (λ (xs : List (List ℕ)). hardened_inputs (net_of l) ++ xs) node_names

  pub room : HasRoom (net_of l) (partitions l) (voted l)
  room = record {
    names = λ j k less h e. differs j k less (omega (arith, h, length-append (hardened_inputs (net_of l)) (map (role_name (net_of l)) (hardened_roles (net_of l) (partitions l) (voted l))), length-map (hardened_roles (net_of l) (partitions l) (voted l)) (role_name (net_of l)), length-hardened_inputs (net_of l), hardened_count (net_of l) (partitions l) (voted l) t is)) (named j ∙ (e ∙ sym (named k)));
    pins = is.few_pins;
    nets = is.few;
  }
    where
      named : (k : ℕ) → name_of (hardened_net (net_of l) (partitions l) (voted l)) k ≡ get_or (hardened_inputs (net_of l) ++ map (role_name (net_of l)) (hardened_roles (net_of l) (partitions l) (voted l))) k []
      named k = ap (λ (xs : List (List ℕ)). get_or xs k []) all_names

      differs : (j k : ℕ) → j < k → k < net_count (hardened_net (net_of l) (partitions l) (voted l)) → name_of (hardened_net (net_of l) (partitions l) (voted l)) j ≡ name_of (hardened_net (net_of l) (partitions l) (voted l)) k → ⊥
      differs j k less h e = omega (arith, less, names_differ (net_of l) (partitions l) (voted l) t is j k (omega arith) h e)

  -- the plan's lists with the starts are a layout
  pub layout_is : AreVotesOf (net_of l) (partitions l) (votes_in l.plan.now) → AreVoterRows (net_of l) (partitions l) (voted l) l.plan.now.voters → AreTaps (net_of l) (partitions l) (voted l) l.plan.now.taps
      → AreStarts (net_of l) (partitions l) (voted l) l.starts.items → IsLayout l
  layout_is votes voters taps starts = record { votes = votes; voters = voters; taps = taps; starts = starts; room = room }

  pub made_names : (made : Made) → IsMade l made → made.waiting.items ≡ [] → made.roles.items ≡ hardened_roles (net_of l) (partitions l) (voted l) → made.names.keys ≡ net_names (hardened_net (net_of l) (partitions l) (voted l))
  made_names made m none e = sym (append-nil made.names.keys) ∙ (sym (ap (λ (xs : List (List ℕ)). made.names.keys ++ xs) none) ∙ (m.named ∙ (ap (λ rs. hardened_inputs (net_of l) ++ map (role_name (net_of l)) rs) e ∙ sym all_names)))

  pub made_nodes : (made : Made) → IsMade l made → made.roles.items ≡ hardened_roles (net_of l) (partitions l) (voted l) → Packs (map node_name (hardened_net (net_of l) (partitions l) (voted l)).nodes) made.nodes (hardened_net (net_of l) (partitions l) (voted l)).nodes
  unfolding hardened_net
  made_nodes made m e = rw node_names (subst (λ rs. Packs (map (role_name (net_of l)) rs) made.nodes (map (role_node (net_of l) (partitions l) (voted l)) rs)) e m.packed)
