use Rattle.std.proofs.Common.{arith}
use Rattle.tmr_top.proofs.TrialLaws.{form_fits, three_inputs, three_of_each}
use Rattle.tmr_top.proofs.commands.trial.run_all.Goals as goal

pub masked_campaign-requires : goal.masked_campaign-requires
masked_campaign-requires c =
    let form = c.requires.form in
    record {
      fits = form_fits _ 64 _ _ form;
      inputs = three_inputs _ 64 _ _ form;
      outputs = three_of_each _ 64 _ _ form;
      masks = c.pass_check.ensures;
      few = omega arith;
    }
