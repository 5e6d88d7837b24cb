use Rattle.std.proofs.Common.{◌≡◌, ◌+◌, ◌∙◌, ◌∷◌, [], ℕ, length, ap, arith}
use Rattle.std.proofs.lemmas.List.{length-append}
use Rattle.flat_net.specs.Net.{Design}
use Rattle.schedule_replay.proofs.Placing.{roles_more}
use Rattle.schedule_replay.proofs.starts.spread_start.Goals as goal

pub loop-i-preserved : goal.loop-i-preserved
loop-i-preserved c =
    let i : ℕ = c.loop-i.i in
    let inputs : c.input_count-inputs.result + i ≡ c.args.c.now.hardened_inputs + i = let a = c.input_count-inputs.ensures.count ∙ ap (λ (d : Design). length d.net.inputs) c.net-design.ensures.net in let b = c.requires.fits.hardened_inputs in omega arith in
    record {
      values = roles_more c.args.c.now c.args.values.now i (c.input_count-inputs.result + i) c.role-role.result c.role_start.result c.loop-i.spread.items c.push.new.self.items inputs c.role-role.ensures.role c.role_start.ensures c.loop-i.invariant.values c.in_ok-push.ensures.items;
      long = let same = ap length c.in_ok-push.ensures.items in let before = c.loop-i.invariant.long in omega (arith, same, length-append c.loop-i.spread.items (c.role_start.result ∷ []));
    }
