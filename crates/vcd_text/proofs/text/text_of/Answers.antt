use Rattle.vcd_text.proofs.Puts.{text_put}
use Rattle.vcd_text.proofs.text.text_of.Goals as goal

pub returns : goal.returns
returns c =
    text_put c.args.names.now c.args.cycles c.args.values.now c.new-out.result.items c.put_head.new.out.items c.put_cycles.new.out.items c.put_end.new.out.items
    c.new-out.ensures.items c.in_ok-put_head.ensures c.in_ok-put_cycles.ensures c.in_ok-put_end.ensures
