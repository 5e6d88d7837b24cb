use Rattle.std.proofs.Common.{map, arith}
use Rattle.std.proofs.lemmas.List.{length-map}
use Rattle.blif_text.specs.Views.{plain_model}
use Rattle.blif_text.proofs.Sound.{sound_library}
use Rattle.blif_text.proofs.reader.text.ended.Goals as goal

pub new-requires : goal.new-requires
new-requires c = sound_library c.args.progress.now (map plain_model c.in-Ok.models.items) c.is_empty.result c.requires (omega (arith, c.if-len.false, c.len.ensures, length-map c.in-Ok.models.items plain_model)) c.in-Ok.ensures c.is_empty.ensures c.if-is_empty.false
