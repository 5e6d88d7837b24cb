use Rattle.std.proofs.Common.{ap, ◌∙◌}
use Rattle.std.specs.Prelude.{string_bytes}
use Rattle.tmr_words.specs.Words.{Words, texts}
use Rattle.tmr_words.specs.Private.WordByWord.{words_from}
use Rattle.tmr_words.specs.Private.WordsRead.{words_in, item_in}
use Rattle.std.proofs.Common.{drop, ◌+◌}
use Rattle.tmr_words.proofs.WordLaws.{behind, at_none, after_word, no_more_words}
use Rattle.tmr_words.specs.declared.words.Mode.TheVariants.{Options}
use Rattle.tmr_words.proofs.DashLaws.{none_both, reads_all}
use Rattle.tmr_words.proofs.words.read_words.Goals as goal

pub loop-word-init : goal.loop-word-init
loop-word-init c =
    rw (c.new.ensures.items, c.new-2.ensures.items, c.new-3.ensures.items, c.new-4.ensures.items, c.new-5.ensures.items, c.new-6.ensures.items)
    (none_both (words_from Options (texts c.args.words.now)) ∙ reads_all (texts c.args.words.now))

pub returns-in-None : goal.returns-in-None
returns-in-None c = at_none c.loop-word.mode (words_in c.loop-word.read) c.loop-word.word-index c.args.words.now c.word-item.result c.as_str.result.now _ c.loop-word-test.true (c.as_str.ensures.value ∙ ap string_bytes c.word-item.is) c.loop-word.invariant c.in-None.ensures

pub loop-word-preserved : goal.loop-word-preserved
loop-word-preserved c =
    ap (λ (w : Words). behind w (words_from c.in-Some.taken.next (texts (drop (c.loop-word.word-index + 1) c.args.words.now)))) c.in_ok-add-in-Some.ensures
    ∙ after_word c.loop-word.mode (words_in c.loop-word.read) c.loop-word.word-index c.args.words.now c.word-item.result c.as_str.result.now _ c.loop-word-test.true (c.as_str.ensures.value ∙ ap string_bytes c.word-item.is) c.loop-word.invariant (item_in c.in-Some.taken.item) c.in-Some.taken.next c.in-Some.ensures

pub returns : goal.returns
returns c = c.ended.ensures ∙ no_more_words c.loop-word.mode (words_in c.loop-word.read) c.loop-word.word-index c.args.words.now _ c.loop-word-test.false c.loop-word.invariant
