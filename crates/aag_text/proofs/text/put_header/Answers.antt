use Rattle.aag_text.proofs.Puts.{header_put}
use Rattle.aag_text.proofs.text.put_header.Goals as goal

pub returns : goal.returns
returns c = header_put _ _ _ _ _ c.args.out.now.items c.extend_from_slice.new.self.items c.put_count.new.out.items c.put_count-2.new.out.items c.put_count-3.new.out.items c.put_count-4.new.out.items c.put_count-5.new.out.items c.push.new.self.items
    c.in_ok-extend_from_slice.ensures.items c.in_ok-put_count.ensures c.in_ok-put_count-2.ensures c.in_ok-put_count-3.ensures c.in_ok-put_count-4.ensures c.in_ok-put_count-5.ensures c.in_ok-push.ensures.items
