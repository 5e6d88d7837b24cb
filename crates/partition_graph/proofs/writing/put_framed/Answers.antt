use Rattle.std.proofs.Common.{◌≡◌, ◌++◌, [], ◌∙◌}
use Rattle.partition_graph.specs.Picture.{quoted, framed}
use Rattle.partition_graph.proofs.writing.put_framed.Goals as goal

pub returns : goal.returns
unfolding framed
returns c =
    let first : c.as_slice-2.result.now ≡ quoted c.args.path.now = c.as_slice-2.ensures.value ∙ c.in_ok-name.ensures in
    let second : c.as_slice-4.result.now ≡ quoted c.args.path.now = c.as_slice-4.ensures.value ∙ c.in_ok-name.ensures in
    c.in_ok-put_all.ensures ∙ λ i. c.args.out.now.items ++ (c.as_slice.ensures i ++ (first i ++ (c.as_slice-3.ensures i ++ (second i ++ (c.as_slice-5.ensures i ++ (c.args.text.now ++ (c.as_slice-6.ensures i ++ [])))))))
