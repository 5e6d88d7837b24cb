use Rattle.std.proofs.Common.{◌++◌, ap, ◌∙◌, List, ℕ}
use Rattle.vcd_text.proofs.Puts.{var_put}
use Rattle.vcd_text.proofs.text.put_var.Goals as goal

pub returns : goal.returns
returns c =
    var_put c.args.k c.args.name.now c.args.out.now.items c.extend_from_slice.new.self.items c.put_code.new.out.items c.push.new.self.items c.extend_from_slice-2.new.self.items c.extend_from_slice-3.new.self.items
    c.in_ok-extend_from_slice.ensures.items c.in_ok-put_code.ensures c.in_ok-push.ensures.items (c.in_ok-extend_from_slice-2.ensures.items ∙ ap (λ (w : List ℕ). c.push.new.self.items ++ w) c.bytes.ensures.bytes) c.in_ok-extend_from_slice-3.ensures.items
