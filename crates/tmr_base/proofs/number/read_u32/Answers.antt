use Rattle.std.proofs.Common.{◌≡◌, None, Some, sym, arith, rules}
use Rattle.tmr_base.specs.Numbers.{number_of}
use Rattle.tmr_base.proofs.NumberLaws.{narrow_large, narrow_none, is_no_text}
use Rattle.tmr_base.proofs.number.read_u32.Goals as goal

pub returns-in-None-clause-none : goal.returns-in-None-clause-none
returns-in-None-clause-none c =
    let none : number_of 64 c.args.bytes.now ≡ None = search rules in
    λ _ n small. is_no_text c.args.bytes.now (narrow_none c.args.bytes.now none) n small

pub returns-else-number-clause-exact : goal.returns-else-number-clause-exact
returns-else-number-clause-exact c =
    let some : number_of 64 c.args.bytes.now ≡ Some c.in-Some.number = search rules in
    sym (narrow_large c.args.bytes.now c.in-Some.number some (omega arith))

pub returns-else-number-clause-none : goal.returns-else-number-clause-none
returns-else-number-clause-none c =
    let some : number_of 64 c.args.bytes.now ≡ Some c.in-Some.number = search rules in
    λ _ n small. is_no_text c.args.bytes.now (narrow_large c.args.bytes.now c.in-Some.number some (omega arith)) n small
