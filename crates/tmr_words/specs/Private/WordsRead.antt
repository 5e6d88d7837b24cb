-- The words that are read, without where they lie.
use Rattle.tmr_words.specs.declared.words.ReadWords.{ReadWords}
use Rattle.tmr_words.specs.declared.words.Item.{Item}
use Rattle.tmr_words.specs.declared.words.Item.TheVariants as item
use Rattle.tmr_words.specs.declared.words.TakenWord.{TakenWord}
use Rattle.tmr_words.specs.FileWords.{read_words}
use Rattle.tmr_words.specs.Words.{Words, no_words, plain_word, large_word, given_value}
use Rattle.tmr_words.specs.Private.WordByWord.{Taken}

abbrev pub words_in : ReadWords → Words
words_in words = record {
  plain = read_words words.plain.items;
  sizes = read_words words.sizes.items;
  versions = read_words words.versions.items;
  depths = read_words words.depths.items;
  forms = read_words words.forms.items;
  larges = read_words words.larges.items;
}

abbrev pub item_in : Item → Words
item_in item.Nothing = no_words
item_in (item.Plain word) = plain_word word.now
item_in (item.Large word) = large_word word.now
item_in (item.Given setting value) = given_value setting value.now

abbrev pub taken_in : TakenWord → Taken
taken_in taken = record { adds = item_in taken.item; next = taken.next }
