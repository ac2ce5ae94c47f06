use Rattle.std.proofs.Common.{refl}
use Rattle.position_map.proofs.Keeping.{set_same, set_ends, not_found}
use Rattle.position_map.proofs.slot.set_end.Goals as goal

pub returns-in-Some-clause-same : goal.returns-in-Some-clause-same
returns-in-Some-clause-same g c = set_same c.args.position c.in-Some.slot.now _ _ _ c.in-Some.ensures.value refl (c.get_mut.follows.holds _).0

pub returns-in-Some-clause-ends : goal.returns-in-Some-clause-ends
returns-in-Some-clause-ends g c = λ q. set_ends c.args.position q c.in-Some.slot.now _ _ _ c.in-Some.ensures.value (c.get_mut.follows.holds _).0

pub returns-in_default-clause-ends : goal.returns-in_default-clause-ends
returns-in_default-clause-ends g c = not_found c.args.position c.args.slots.now.entries c.in_default.ensures.value c.requires.room
