-- The plan of hardening, and the pair that it stands for.
use Rattle.std.specs.Prelude.{◌≡◌, ◌↔◌, ℕ, ◌<◌, Bool, false, IsTrue, length, count_by}
use Rattle.flat_net.specs.Net.{Net}
use Rattle.flat_net.specs.Free.{FreeDesign}
use Rattle.certificate.specs.Cert.{PlainCert}
use Rattle.certificate.specs.Starts.{counted, spread_start}
use Rattle.recovery_depth.specs.Extra.{is_extra, AreExtra}
use Rattle.partitioner.specs.Cost.{cost}
use Rattle.partitioner.specs.Sizes.{plain_parts}
use Rattle.partitioner.specs.Refining.{IsMinimal}
use Rattle.triplicate.specs.declared.form.Form.{Form}
use Rattle.triplicate.specs.declared.hardened.Hardened.{Hardened}
use Rattle.triplicate.specs.declared.hardened.HardenedFree.{HardenedFree}
use Rattle.triplicate.specs.declared.planning.Plan.{Plan}
use Rattle.triplicate.specs.Choices.{ArePartsOf}
use Rattle.triplicate.specs.Blocks.{hardened_roles}
use Rattle.triplicate.specs.Result.{is_voter_role}
use Rattle.triplicate.specs.Construction.{hardened_net, hardened_cert, hardened_order}
use Rattle.triplicate.specs.Given.{IsGiven}
use Rattle.triplicate.specs.Labels.{labeling}
use Rattle.triplicate.specs.Pins.{PlainVotes, pin_is_voted, AreVotesOf}
use Rattle.triplicate.specs.Starts.{AreVoterRows}
use Rattle.triplicate.specs.Taps.{AreTaps}

-- the plan's choice of voted pins: whether those that read inputs are, the cut ones, and the extra ones
abbrev pub votes_in : Plan → PlainVotes
votes_in p = record { inputs = p.inputs; cut = p.cut; marks = p.extra.marks }

-- pin j of node y is voted by the plan
abbrev pub plan_votes : Net → Plan → ℕ → ℕ → Bool
plan_votes n p = pin_is_voted n p.parts (votes_in p)

-- the certificate of the pair that the plan stands for
abbrev pub cert_in : Net → Plan → PlainCert
cert_in n p = hardened_cert n p.parts (plan_votes n p) (labeling p.inputs p.extra.table)

-- that pair, and what is told of it
abbrev pub pair_in : FreeDesign → Plan → HardenedFree
pair_in n p = record {
  net = record {
    design = record {
      net = hardened_net n.design.net p.parts (plan_votes n.design.net p);
      order = hardened_order n.design.net p.parts (plan_votes n.design.net p) n.design.order;
    };
    free = spread_start (cert_in n.design.net p) (counted (cert_in n.design.net p) n.free);
  };
  cert = cert_in n.design.net p;
  cost = p.cost;
  plain = p.plain;
  minimal = p.minimal;
  voters = count_by is_voter_role (hardened_roles n.design.net p.parts (plan_votes n.design.net p));
}

-- design and certificate are made of a plan, and what is told of them is what the plan tells
pub record IsMadeOf (n : Net) (p : Plan) (r : Hardened) : Type 0 where
  pub net : r.net.net ≡ hardened_net n p.parts (plan_votes n p)
  pub cert : r.cert ≡ cert_in n p
  pub cost : r.cost ≡ p.cost
  pub plain : r.plain ≡ p.plain
  pub minimal : r.minimal ≡ p.minimal
  pub voters : r.voters ≡ count_by is_voter_role (hardened_roles n p.parts (plan_votes n p))

-- the form's partitions of this size and its cut of the loops inside them, and the extra pins that the bound `most` wants; for each
-- net the partitions that need a voter of it, and for each pin which voter it reads; and what is told of the partitions
pub record IsPlan (kind : Form) (n : Net) (size : ℕ) (inputs : Bool) (most : ℕ) (p : Plan) : Type 0 where
  -- the version that is wanted: in version 2 pins that read inputs are voted too
  pub inputs_are : p.inputs ≡ inputs
  -- a hardened design can be made from it, with the form that is wanted, the plan's cut and its extra pins
  pub given : IsGiven n p.parts (plan_votes n p) (labeling p.inputs p.extra.table)
  pub kind_is : given.kind ≡ kind
  pub cut_is : given.cut ≡ p.cut
  pub extra_is : given.extra ≡ is_extra p.extra.marks
  pub votes : AreVotesOf n p.parts (votes_in p)
  -- no label is above `most`, and a bound above the number of nodes makes no pin extra
  pub bound : AreExtra n p.parts p.cut most p.extra
  pub none : length n.nodes < most → (y j : ℕ) → is_extra p.extra.marks y j ≡ false
  -- the partitions are those of the form and the size
  pub exact : ArePartsOf kind n size p.parts
  pub voters : AreVoterRows n p.parts (plan_votes n p) p.voters
  pub taps : AreTaps n p.parts (plan_votes n p) p.taps
  -- what is told of the partitions is so
  pub pairs : p.cost ≡ cost n p.parts
  pub plain_pairs : p.plain ≡ cost n (plain_parts n size)
  pub minimal : IsTrue p.minimal ↔ IsMinimal n size p.parts
