use Rattle.std.proofs.Common.{◌∙◌, sym}
use Rattle.position_map.proofs.Keeping.{is_there, none_there, kept_more, last_among}
use Rattle.position_map.proofs.map.PositionMap.reserve.Goals as goal

pub returns-then-contains_key-clause-room : goal.returns-then-contains_key-clause-room
returns-then-contains_key-clause-room g c = rw (← c.self.view_is) (is_there c.args.position c.self.inside.slots.entries ∙ sym c.contains_key.ensures ∙ c.if-contains_key.true)

pub make_room-requires-clause-absent : goal.make_room-requires-clause-absent
make_room-requires-clause-absent g c = none_there _ (is_there c.args.position c.self.inside.slots.entries ∙ sym c.contains_key.ensures ∙ c.if-contains_key.false)

pub invariant_of-self-2 : goal.invariant_of-self-2
invariant_of-self-2 g c = rw c.in_ok-push.ensures.items (c.make_room.ensures.kept _ (last_among c.args.position c.self.inside.rooms.items) (kept_more c.args.position c.self.inside.rooms.items c.self.inside.slots.entries c.self.invariant))

pub returns-clause-rise : goal.returns-clause-rise
returns-clause-rise g c = (c.make_room.ensures.kept c.push.new.self.items (rw c.in_ok-push.ensures.items (last_among c.args.position c.self.inside.rooms.items)) (rw c.in_ok-push.ensures.items (kept_more c.args.position c.self.inside.rooms.items c.self.inside.slots.entries c.self.invariant))).rise
