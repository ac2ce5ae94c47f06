use Rattle.std.proofs.Common.{◌∙◌, sym, Some, None}
use Rattle.position_map.proofs.Keeping.{value_found}
use Rattle.position_map.proofs.map.PositionMap.get.Goals as goal

pub returns-in-Some-clause-value : goal.returns-in-Some-clause-value
returns-in-Some-clause-value g c = rw (← c.self.view_is) (c.as_ref.ensures.value ∙ sym (value_found c.args.position c.self.inside.slots.entries (Some c.in-Some.slot.now) c.self.invariant.rise c.in-Some.ensures.value))

pub returns-in-None-clause-value : goal.returns-in-None-clause-value
returns-in-None-clause-value g c = rw (← c.self.view_is) (sym (value_found c.args.position c.self.inside.slots.entries None c.self.invariant.rise c.in-None.ensures.value))
