use Rattle.std.proofs.Common.{[], get_or, refl, sym, ◌∙◌, arith}
use Rattle.std.proofs.lemmas.Bool.{true≢false}
use Rattle.table_cover.proofs.WordLaws.{word_bit_ones}
use Rattle.partitioner.proofs.ScanLaws.{shut_leads}
use Rattle.partitioner.proofs.refinement.scanning.candidates.Goals as goal

pub returns-then-need-eq0 : goal.returns-then-need-eq0
returns-then-need-eq0 c = λ j q l within lane shut. absurd (true≢false (sym (word_bit_ones j l) ∙ shut))

pub returns : goal.returns
returns c =
    shut_leads c.args.n.now.net c.args.p.now c.args.i c.args.gains.now c.args.level c.args.w c.first_in.result c.needed-need.result _ c.args.lead c.counted_lanes-lanes.result (get_or c.args.p.now.sources c.args.i []) c.requires.counted refl c.requires.lead
    c.first_in.ensures c.needed-need.ensures (omega arith) (omega arith) c.counted_lanes-lanes.ensures
