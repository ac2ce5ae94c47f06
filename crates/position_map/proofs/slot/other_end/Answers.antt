use Rattle.std.proofs.Common.{◌∙◌, Some, None}
use Rattle.position_map.proofs.Keeping.{known_found, then_is}
use Rattle.position_map.proofs.slot.other_end.Goals as goal

pub returns-in-Some : goal.returns-in-Some
returns-in-Some g c = rw (known_found c.args.position c.args.slots.now.entries (Some c.in-Some.slot.now) c.requires.rise c.in-Some.ensures.value, ← c.is_some.ensures) (c.then_some.ensures ∙ then_is c.is_some.result c.in-Some.slot.now.other_end)

pub returns-in-None : goal.returns-in-None
returns-in-None g c = rw (known_found c.args.position c.args.slots.now.entries None c.requires.rise c.in-None.ensures.value)
