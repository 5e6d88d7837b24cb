-- The pair that is made of a plan has the hardened form.
use Rattle.std.proofs.Common.{◌≡◌, ◌⊎◌, refl, ℕ}
use Rattle.std.specs.Prelude.{nat_eq}
use Rattle.flat_net.specs.Free.{FreeDesign}
use Rattle.triplicate.specs.declared.form.Form.{Form}
use Rattle.triplicate.specs.declared.hardened.Hardened.{Hardened}
use Rattle.triplicate.specs.declared.planning.Plan.{Plan}
use Rattle.triplicate.specs.Result.{IsBoundedPair}
use Rattle.triplicate.specs.Planned.{IsPlan, pair_in}
use Rattle.triplicate.proofs.Whole.{bounded_is}

pub planned_is : (kind : Form) (n : FreeDesign) (size version most : ℕ) (p : Plan) → (version ≡ 1) ⊎ (version ≡ 2) → IsPlan kind n.design.net size (nat_eq version 2) most p → IsBoundedPair kind n size version most (pair_in n p)
planned_is kind n size version most p known is =
    bounded_is kind n size version most p made (pair_in n p) known is (record { net = refl; cert = refl; cost = refl; plain = refl; minimal = refl; voters = refl }) refl refl refl refl refl refl refl
  where
    made : Hardened
    made = record {
      net = (pair_in n p).net.design;
      cert = (pair_in n p).cert;
      cost = p.cost;
      plain = p.plain;
      minimal = p.minimal;
      voters = (pair_in n p).voters;
    }
