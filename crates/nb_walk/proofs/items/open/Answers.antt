use Rattle.std.proofs.Common.{◌<◌, arith, length, sym, subst}
use Rattle.nb_walk.specs.Angle.{level_of}
use Rattle.nb_walk.specs.Room.{HasRoom}
use Rattle.nb_walk.proofs.Rooms.{depth_free, room_bodies, divided_level}
use Rattle.nb_walk.proofs.items.open.Goals as goal

pub push-requires : goal.push-requires
push-requires c = (omega arith, depth_free (length c.args.items.now.items) c.args.cell.now.key c.requires.form.key c.requires.depth)

pub returns-then-kids-eq0-clause-room : goal.returns-then-kids-eq0-clause-room
returns-then-kids-eq0-clause-room c =
    subst HasRoom (sym c.push.ensures.items)
    (room_bodies c.args.items.now.items c.args.cell.now c.first.result c.count.result c.requires.room c.requires.depth c.requires.form c.first.ensures.value c.count.ensures.value)

pub push_kids-requires-clause-level : goal.push_kids-requires-clause-level
push_kids-requires-clause-level c =
    subst (λ k. level_of k < 21) (sym c.key.ensures.value)
    (divided_level c.args.cell.now c.kids-kids.result c.requires.form c.kids-kids.ensures.value c.if-kids-eq0.false)
