use Rattle.std.proofs.Common.{List, ℕ, ap, ◌∙◌}
use Rattle.tmr_base.specs.Names.{copy_text}
use Rattle.blif_writer.specs.Left.{spaced}
use Rattle.hardened_text.specs.Private.Pieces.{pins_of}
use Rattle.hardened_text.proofs.CopyPuts.{copy_put}
use Rattle.hardened_text.proofs.copies.put_copy.Goals as goal

pub returns : goal.returns
returns c =
    copy_put c.args.out.now.items c.extend_from_slice.new.self.items c.put_pins.new.out.items c.put_copy_name.new.out.items c.extend_from_slice-2.new.self.items c.args.pieces.now.word.now (spaced (pins_of c.args.pieces.now c.args.c)) (copy_text c.bytes.result.now c.args.c) (copy_text _ c.args.c) c.args.pieces.now.ending.now
    c.in_ok-extend_from_slice.ensures.items c.in_ok-put_pins.ensures c.in_ok-put_copy_name.ensures (ap (λ (w : List ℕ). copy_text w c.args.c) (c.bytes.ensures.bytes ∙ c.name.ensures)) c.in_ok-extend_from_slice-2.ensures.items
