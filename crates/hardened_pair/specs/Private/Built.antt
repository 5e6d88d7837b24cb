-- Only private functions cite this: a hardened design as it is made, whatever its version.
use Rattle.std.specs.Prelude.{ℕ, Bool}
use Rattle.flat_net.specs.Net.{Net}
use Rattle.triplicate.specs.declared.form.Form.{Form}
use Rattle.triplicate.specs.declared.hardened.Hardened.{Hardened}
use Rattle.triplicate.specs.declared.planning.Plan.{Plan}
use Rattle.triplicate.specs.Planned.{IsPlan, IsMadeOf}

-- what is made of a plan
pub record IsBuilt (kind : Form) (n : Net) (size : ℕ) (inputs : Bool) (most : ℕ) (r : Hardened) : Type 0 where
  pub plan : Plan
  pub planned : IsPlan kind n size inputs most plan
  pub made : IsMadeOf n plan r
