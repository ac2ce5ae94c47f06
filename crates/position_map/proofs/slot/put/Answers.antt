use Rattle.std.proofs.Common.{◌∙◌, refl, sym, ap, is_some}
use Rattle.position_map.proofs.Keeping.{slot_found, put_at, put_rise, put_ends, empty_found, not_found}
use Rattle.position_map.proofs.slot.put.Goals as goal

pub returns-in-Some-clause-filled : goal.returns-in-Some-clause-filled
returns-in-Some-clause-filled g c = record {
  at = λ q. put_at c.args.position q c.args.value c.in-Some.slot.now _ c.args.slots.now.entries _ c.in-Some.ensures.value c.replace.ensures.after (c.get_mut.follows.holds _).0;
  rise = put_rise c.args.position _ c.args.slots.now.entries _ (c.get_mut.follows.holds _).0 c.requires.rise;
  ends = λ q. put_ends c.args.position q c.in-Some.slot.now _ c.args.slots.now.entries _ c.in-Some.ensures.value refl (c.get_mut.follows.holds _).0;
}

pub returns-in-Some-clause-was_empty : goal.returns-in-Some-clause-was_empty
returns-in-Some-clause-was_empty g c = empty_found _ c.is_none.result _ (slot_found c.args.position c.in-Some.slot.now c.args.slots.now.entries c.in-Some.ensures.value) (ap is_some (sym c.replace.ensures.value) ∙ c.is_none.ensures)

pub returns-in-None-clause-filled : goal.returns-in-None-clause-filled
returns-in-None-clause-filled g c = not_found c.args.position c.args.slots.now.entries c.in-None.ensures.value c.requires.room

pub returns-in-None-clause-was_empty : goal.returns-in-None-clause-was_empty
returns-in-None-clause-was_empty g c = not_found c.args.position c.args.slots.now.entries c.in-None.ensures.value c.requires.room
