use Rattle.tmr_texts.specs.Texts.{refused_line}
use Rattle.tmr_top.proofs.ShownLaws.{shown_text}
use Rattle.tmr_top.proofs.shown_pairs.shown_text.Goals as goal

pub returns : goal.returns
returns c = shown_text (refused_line c.args.name.now c.args.reason.now) c.line_of.result.now c.in_ok-text.text.items c.extend_from_slice.new.self.items c.push.new.self.items c.args.bytes.now c.args.number c.in_ok-text.ensures c.line_of.ensures c.in_ok-extend_from_slice.ensures.items c.in_ok-push.ensures.items
