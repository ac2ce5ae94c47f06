use Rattle.std.proofs.Common.{sym, ◌∙◌, None, is_some, ap}
use Rattle.std.proofs.lemmas.Bool.{false≢true}
use Rattle.position_map.proofs.Keeping.{shown_found, empty_found, slot_found}
use Rattle.position_map.proofs.slot.is_empty.Goals as goal

pub returns-in-Some : goal.returns-in-Some
returns-in-Some g c = empty_found _ c.is_none.result _ (slot_found c.args.position c.in-Some.slot.now c.args.slots.now.entries c.in-Some.ensures.value) c.is_none.ensures

pub returns-in-None : goal.returns-in-None
returns-in-None g c = ((λ t. absurd (false≢true t)), λ e. absurd (false≢true (ap is_some (sym (shown_found c.args.position c.args.slots.now.entries None c.in-None.ensures.value) ∙ e))))
