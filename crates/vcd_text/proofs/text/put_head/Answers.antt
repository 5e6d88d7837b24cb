use Rattle.vcd_text.proofs.Puts.{head_put}
use Rattle.vcd_text.proofs.text.put_head.Goals as goal

pub returns : goal.returns
returns c =
    head_put c.args.names.now c.args.out.now.items c.extend_from_slice.new.self.items c.put_vars.new.out.items c.extend_from_slice-2.new.self.items
    c.in_ok-extend_from_slice.ensures.items c.in_ok-put_vars.ensures c.in_ok-extend_from_slice-2.ensures.items
