-- What hardening answers.
use Rattle.std.specs.Prelude.{◌≡◌, ◌↔◌, ◌<◌, ℕ, Some, nat_eq, Bool, IsTrue, length, count_by}
use Rattle.flat_net.specs.Net.{Net}
use Rattle.flat_net.specs.Free.{FreeDesign}
use Rattle.certificate.specs.Starts.{counted}
use Rattle.certificate.specs.declared.role.Role.{Role}
use Rattle.partitioner.specs.Cost.{cost}
use Rattle.partitioner.specs.Sizes.{plain_parts}
use Rattle.partitioner.specs.Refining.{IsMinimal}
use Rattle.triplicate.specs.declared.form.Form.{Form}
use Rattle.triplicate.specs.declared.hardened.Hardened.{Hardened}
use Rattle.triplicate.specs.declared.hardened.HardenedFree.{HardenedFree}
use Rattle.triplicate.specs.Form.{HasForm, HardenedForm, FreeHardenedForm, BoundedForm, parts_of, is_voter}
use Rattle.triplicate.specs.Voting.{none_extra}

abbrev pub is_voter_role : Role → Bool
is_voter_role r = is_voter (Some r)

-- a pair in the hardened form, and beside it the cost of its partitions, that of the plain cut, whether no single move
-- lowers the cost, and how many voters there are
pub record IsHardenedPair (n : Net) (size : ℕ) (r : Hardened) : Type 0 where
  pub form : HardenedForm n size r.net.net r.cert
  pub pairs : r.cost ≡ cost n (parts_of r.cert)
  pub plain_pairs : r.plain ≡ cost n (plain_parts n size)
  pub minimal : IsTrue r.minimal ↔ IsMinimal n size (parts_of r.cert)
  pub voters : r.voters ≡ count_by is_voter_role r.cert.roles

-- the same in version 2
pub record IsFreeHardenedPair (n : FreeDesign) (size : ℕ) (r : HardenedFree) : Type 0 where
  pub form : FreeHardenedForm n.design.net n.free size r.net.design.net r.net.free r.cert
  pub pairs : r.cost ≡ cost n.design.net (parts_of r.cert)
  pub plain_pairs : r.plain ≡ cost n.design.net (plain_parts n.design.net size)
  pub minimal : IsTrue r.minimal ↔ IsMinimal n.design.net size (parts_of r.cert)
  pub voters : r.voters ≡ count_by is_voter_role r.cert.roles

-- the same of either form and in either version, with no depth above `most`; a bound above the number of nodes adds no voters
pub record IsBoundedPair (kind : Form) (n : FreeDesign) (size version most : ℕ) (r : HardenedFree) : Type 0 where
  pub form : BoundedForm kind n.design.net n.free size version most r.net.design.net r.net.free r.cert
  pub unbounded : length n.design.net.nodes < most →
      HasForm kind n.design.net (counted r.cert n.free) size r.net.design.net (counted r.cert r.net.free) r.cert (nat_eq version 2) none_extra
  pub pairs : r.cost ≡ cost n.design.net (parts_of r.cert)
  pub plain_pairs : r.plain ≡ cost n.design.net (plain_parts n.design.net size)
  pub minimal : IsTrue r.minimal ↔ IsMinimal n.design.net size (parts_of r.cert)
  pub voters : r.voters ≡ count_by is_voter_role r.cert.roles
