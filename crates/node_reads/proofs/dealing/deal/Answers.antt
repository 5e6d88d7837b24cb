use Rattle.std.proofs.Common.{◌/◌}
use Rattle.node_reads.specs.Private.Dealt.{own_note}
use Rattle.node_reads.proofs.DealtLaws.{logs_put}
use Rattle.node_reads.proofs.dealing.deal.Goals as goal

pub returns : goal.returns
returns c = logs_put c.args.blocks.now.items (c.args.note.row / 16384) c.index_mut.result.now c.push.new.self (own_note 16384 c.args.note) c.requires c.index_mut.ensures.value c.in_ok-push.ensures.items
