use Rattle.graph.proofs.PackedLaws.{put_room, put_within, put_packed, put_rows, put_rooms}
use Rattle.graph.proofs.deciding.put.Goals as goal

pub bounds-bits-span : goal.bounds-bits-span
bounds-bits-span c = rw c.at-span.ensures (put_within c.args.bits.now c.args.bit c.args.spans.now c.args.x c.requires.packed c.requires.within c.requires.room)

pub grow-requires-clause-room : goal.grow-requires-clause-room
grow-requires-clause-room c = put_room c.args.bits.now c.args.bit c.args.spans.now c.args.x c.requires.packed c.requires.within c.requires.room

pub returns-clause-packed : goal.returns-clause-packed
returns-clause-packed c = rw (c.grow.ensures, c.at-span.ensures) (put_packed c.args.bits.now c.args.bit c.args.spans.now c.args.x c.requires.packed c.requires.within c.requires.room)

pub returns-clause-rows : goal.returns-clause-rows
returns-clause-rows c = rw (c.grow.ensures, c.at-span.ensures) (put_rows c.args.bits.now c.args.bit c.args.spans.now c.args.x c.requires.packed c.requires.within c.requires.room)

pub returns-clause-room : goal.returns-clause-room
returns-clause-room c = rw c.grow.ensures (put_rooms c.args.bits.now c.args.bit c.args.spans.now c.args.x c.requires.packed c.requires.within c.requires.room)
