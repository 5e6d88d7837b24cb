use Rattle.std.proofs.Common.{◌<◌, length, All, refl, sym, ap, ◌∙◌, subst}
use Rattle.flat_net.specs.Net.{Design}
use Rattle.certificate.specs.Starts.{counted, spread_start}
use Rattle.schedule_replay.specs.declared.outcome.Difference.{Difference}
use Rattle.schedule_replay.specs.OutcomeView.{plain_outcome}
use Rattle.schedule_replay.specs.Starts.{given_starts}
use Rattle.tmr_words.specs.FileWords.{word_in}
use Rattle.tmr_top.specs.Private.Works.{save_texts}
use Rattle.tmr_texts.specs.ReplayText.{replay_lines}
use Rattle.campaigns.proofs.RunLaws.{shown_outputs}
use Rattle.tmr_top.proofs.ReplayLaws.{three_inputs, outputs_in_threes, told}
use Rattle.tmr_top.proofs.commands.replay.replay_accepted.Goals as goal

pub replay_of-requires-clause-inputs : goal.replay_of-requires-clause-inputs
replay_of-requires-clause-inputs c = three_inputs c.args.n.now.design.net c.args.n.now.free c.args.h.now.design.net c.args.h.now.free c.args.c.now c.requires.accepted

pub replay_of-requires-clause-outputs : goal.replay_of-requires-clause-outputs
replay_of-requires-clause-outputs c = outputs_in_threes c.args.n.now.design.net c.args.n.now.free c.args.h.now.design.net c.args.h.now.free c.args.c.now c.requires.accepted

pub save_waves-requires-clause-inputs : goal.save_waves-requires-clause-inputs
save_waves-requires-clause-inputs c = three_inputs c.args.n.now.design.net c.args.n.now.free c.args.h.now.design.net c.args.h.now.free c.args.c.now c.requires.accepted

pub save_waves-requires-clause-outputs : goal.save_waves-requires-clause-outputs
save_waves-requires-clause-outputs c = outputs_in_threes c.args.n.now.design.net c.args.n.now.free c.args.h.now.design.net c.args.h.now.free c.args.c.now c.requires.accepted

pub replay_lines-requires : goal.replay_lines-requires
replay_lines-requires c =
    let n = c.args.n.now.design.net in
    let f = counted c.args.c.now c.args.n.now.free in
    let w = given_starts c.args.c.now c.args.n.now.free c.args.s.now in
    let h = c.args.h.now.design.net in
    let g = counted c.args.c.now c.args.h.now.free in
    subst (λ (d : Design). All (λ (x : Difference). x.output < length d.net.outputs) c.in_ok-outcome.outcome.first.items) (sym c.net.ensures.net)
    (shown_outputs n f w h g (spread_start c.args.c.now w) c.args.c.now c.args.s.now (plain_outcome c.in_ok-outcome.outcome) c.in_ok-outcome.ensures.replayed)

pub returns : goal.returns
returns c =
    let o = plain_outcome c.in_ok-outcome.outcome in
    record {
      done = refl;
      names_are = c.in_ok-saves.ensures.names;
      told = told (word_in c.args.waves) c.args.n.now.design.net c.args.n.now.free c.args.h.now.design.net c.args.h.now.free c.args.c.now c.args.s.now o (save_texts c.in_ok-saves.saves.items) c.in_ok-text.text.items
          c.in_ok-outcome.ensures.replayed c.in_ok-outcome.ensures.masked
          (c.in_ok-text.ensures ∙ ap (λ (d : Design). replay_lines d.net c.args.s.now o) c.net.ensures.net)
          c.in_ok-saves.ensures.saves;
    }
