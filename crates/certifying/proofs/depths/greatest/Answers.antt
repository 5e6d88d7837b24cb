use Rattle.std.proofs.Common.{arith}
use Rattle.tmr_base.specs.declared.copies.CopyNo.TheVariants.{First, Second, Third}
use Rattle.certifying.proofs.depths.greatest.Goals as goal

pub returns : goal.returns
returns c = λ e above.
    let first = above First in
    let second = above Second in
    let third = above Third in
    omega (arith, first, second, third, c.max.ensures, c.max-2.ensures)
