use Rattle.std.proofs.Common.{◌≡◌, get_or, length, sym, subst, ℕ, List, arith, rules}
use Rattle.std.specs.Str.Parse.{ParsesUnsigned}
use Rattle.tmr_base.proofs.NumberLaws.{none_of_none, none_of_sign, none_of_zeros, zero_of_zero, some_of_parsed, none_of_refused, none_of_other}
use Rattle.tmr_base.proofs.number.parse_u64.Goals as goal

pub returns-then-bytes-eq1 : goal.returns-then-bytes-eq1
returns-then-bytes-eq1 c =
    let first : get_or c.args.bytes.now 0 0 ≡ c.in-Some.first.now = search rules in
    sym (zero_of_zero c.args.bytes.now (omega arith) c.if-bytes-eq1.true)

pub returns-else-bytes-eq1 : goal.returns-else-bytes-eq1
returns-else-bytes-eq1 c =
    let first : get_or c.args.bytes.now 0 0 ≡ c.in-Some.first.now = search rules in
    sym (none_of_zeros c.args.bytes.now (omega arith) c.if-bytes-eq1.false)

pub returns-then-first-eq43 : goal.returns-then-first-eq43
returns-then-first-eq43 c =
    let first : get_or c.args.bytes.now 0 0 ≡ c.in-Some.first.now = search rules in
    sym (none_of_sign c.args.bytes.now (omega arith))

pub returns-in-None : goal.returns-in-None
returns-in-None c =
    let none : length c.args.bytes.now ≡ 0 = search rules in
    sym (none_of_none c.args.bytes.now none)

pub returns-in-Ok-parse : goal.returns-in-Ok-parse
returns-in-Ok-parse c =
    let first : get_or c.args.bytes.now 0 0 ≡ c.in-Some.first.now = search rules in
    let parsed = subst (λ (t : List ℕ). ParsesUnsigned 64 10 t c.parse.result) c.in-Ok.ensures.cases.0 c.parse.ensures.value.0 in
    sym (some_of_parsed c.args.bytes.now c.parse.result c.in-Ok-parse.number parsed c.in-Ok-parse.is (omega arith) (omega arith))

pub returns-in-Err-parse : goal.returns-in-Err-parse
returns-in-Err-parse c =
    let first : get_or c.args.bytes.now 0 0 ≡ c.in-Some.first.now = search rules in
    let parsed = subst (λ (t : List ℕ). ParsesUnsigned 64 10 t c.parse.result) c.in-Ok.ensures.cases.0 c.parse.ensures.value.0 in
    sym (none_of_refused c.args.bytes.now c.parse.result c.in-Err-parse.field-0 parsed c.in-Err-parse.is (omega arith))

pub returns-in-Err : goal.returns-in-Err
returns-in-Err c = sym (none_of_other c.args.bytes.now c.in-Err.ensures.cases.0)
