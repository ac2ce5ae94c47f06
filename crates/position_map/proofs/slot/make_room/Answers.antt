use Rattle.std.proofs.Common.{arith}
use Rattle.position_map.proofs.Keeping.{made_same, made_kept, made_room, made_elsewhere}
use Rattle.position_map.proofs.slot.make_room.Goals as goal

pub returns-in-Ok-clause-same : goal.returns-in-Ok-clause-same
returns-in-Ok-clause-same g c = made_same c.args.position c.args.position c.args.slots.now.entries _ c.requires.absent c.in-Ok.ensures.entries

pub returns-in-Ok-clause-kept : goal.returns-in-Ok-clause-kept
returns-in-Ok-clause-kept g c = λ rooms. made_kept c.args.position c.args.position rooms c.args.slots.now.entries _ c.requires.least (omega (arith, c.ranges.position.fits)) c.requires.absent c.in-Ok.ensures.entries c.in-Ok.ensures.updates.0

pub returns-in-Ok-clause-room : goal.returns-in-Ok-clause-room
returns-in-Ok-clause-room g c = made_room c.args.position c.args.position c.args.slots.now.entries _ c.in-Ok.ensures.updates.0

pub returns-in-Ok-clause-elsewhere : goal.returns-in-Ok-clause-elsewhere
returns-in-Ok-clause-elsewhere g c = λ q n. made_elsewhere c.args.position c.args.position q c.args.slots.now.entries _ c.in-Ok.ensures.updates.0 n
