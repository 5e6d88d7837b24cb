use Rattle.aag_text.specs.Aig.{plain_aig}
use Rattle.aag_text.proofs.Puts.{file_put}
use Rattle.aag_text.proofs.text.text_of.Goals as goal

pub returns : goal.returns
returns c = file_put (plain_aig c.args.a.now) _ c.args.n.now.net c.new-out.result.items c.put_graph.new.out.items c.put_input_symbols.new.out.items c.put_register_symbols.new.out.items c.put_output_symbols.new.out.items c.new-out.ensures.items c.in_ok-put_graph.ensures c.in_ok-put_input_symbols.ensures c.in_ok-put_register_symbols.ensures c.in_ok-put_output_symbols.ensures
