use Rattle.std.proofs.Common.{◌∙◌, sym, arith}
use Rattle.std.proofs.lemmas.Bool.{false≢true}
use Rattle.position_map.proofs.Joining.{slot_above, put_of, ends_there, kept_joined, kept_over}
use Rattle.position_map.proofs.map.PositionMap.fill.Goals as goal

pub join-requires-clause-least : goal.join-requires-clause-least
join-requires-clause-least g c = slot_above 0 c.args.position _ c.self.invariant.rise (rw (← c.self.view_is) at c.requires.room)

pub join-requires-clause-first : goal.join-requires-clause-first
join-requires-clause-first g c =
    (ends_there c.args.position c.args.value c.self.inside.rooms.items c.self.inside.slots.entries c.put.new.slots.entries c.self.invariant c.put.ensures.filled
    (slot_above 0 c.args.position _ c.self.invariant.rise (rw (← c.self.view_is) at c.requires.room)) (c.put.ensures.was_empty.0 c.if-put.true)).0

pub join-requires-clause-last : goal.join-requires-clause-last
join-requires-clause-last g c =
    (ends_there c.args.position c.args.value c.self.inside.rooms.items c.self.inside.slots.entries c.put.new.slots.entries c.self.invariant c.put.ensures.filled
    (slot_above 0 c.args.position _ c.self.invariant.rise (rw (← c.self.view_is) at c.requires.room)) (c.put.ensures.was_empty.0 c.if-put.true)).1

pub invariant_of-self : goal.invariant_of-self
invariant_of-self g c =
    kept_joined c.args.position c.args.value c.self.inside.rooms.items c.self.inside.slots.entries c.put.new.slots.entries c.join.new.slots.entries c.self.invariant c.put.ensures.filled
    (slot_above 0 c.args.position _ c.self.invariant.rise (rw (← c.self.view_is) at c.requires.room)) (omega (arith, c.ranges.position.fits)) (c.put.ensures.was_empty.0 c.if-put.true) c.join.ensures.same c.join.ensures.ends

pub invariant_of-self-else-put : goal.invariant_of-self-else-put
invariant_of-self-else-put g c =
    kept_over c.args.position c.args.value c.self.inside.rooms.items c.self.inside.slots.entries c.put.new.slots.entries c.self.invariant c.put.ensures.filled
    (omega (arith, c.ranges.position.fits)) (rw (← c.self.view_is) at c.requires.room) (λ e. false≢true (sym c.if-put.false ∙ c.put.ensures.was_empty.1 e))

pub returns-then-put-clause-put : goal.returns-then-put-clause-put
returns-then-put-clause-put g c = rw (c.join.ensures.same, ← c.self.view_is) (put_of c.args.position c.args.value c.self.inside.slots.entries c.put.new.slots.entries c.self.invariant.rise c.put.ensures.filled).at

pub returns-else-put-clause-put : goal.returns-else-put-clause-put
returns-else-put-clause-put g c = rw (← c.self.view_is) (put_of c.args.position c.args.value c.self.inside.slots.entries c.put.new.slots.entries c.self.invariant.rise c.put.ensures.filled).at
