use Rattle.std.proofs.Common.{rules, tests, ap, ◌∙◌}
use Rattle.std.proofs.lemmas.Iterator.{YieldsList-from_take}
use Rattle.std.proofs.lemmas.Iterator.Consumers.{map_from_collect}
use Rattle.std.proofs.lemmas.Iterator.Splits.{YieldsList-from_slice_split}
use Rattle.std.specs.Slice.Iter.{split_rest, split_done, split_callee}
use Rattle.certificate.proofs.forms.first_words.Goals as goal

pub returns : goal.returns
returns c = map_from_collect _ c.collect.ensures.ran (YieldsList-from_take 10 (YieldsList-from_slice_split _ _ c.args.line.now (ap (λ s. split_rest s) c.take.ensures.source ∙ c.split.ensures.rest) (ap (λ s. split_done s) c.take.ensures.source ∙ c.split.ensures.done) (ap (λ s. split_callee s) c.take.ensures.source ∙ c.split.ensures.closure) (λ x r q k. search (rules, tests))) c.take.ensures.count)
