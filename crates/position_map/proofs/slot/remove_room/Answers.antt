use Rattle.std.proofs.Common.{◌∙◌, sym, arith}
use Rattle.std.proofs.lemmas.Bool.{false≢true}
use Rattle.position_map.proofs.Keeping.{removed_same, removed_kept, kept_full}
use Rattle.position_map.proofs.slot.remove_room.Goals as goal

pub returns-then-is_empty-clause-same : goal.returns-then-is_empty-clause-same
returns-then-is_empty-clause-same g c = removed_same c.args.position c.args.slots.now.entries _ (c.is_empty.ensures.0 c.if-is_empty.true) c.remove.ensures.entries

pub returns-then-is_empty-clause-kept : goal.returns-then-is_empty-clause-kept
returns-then-is_empty-clause-kept g c = λ rooms. removed_kept c.args.position rooms c.args.slots.now.entries _ (omega (arith, c.ranges.position.fits)) (c.is_empty.ensures.0 c.if-is_empty.true) c.remove.ensures.entries c.remove.ensures.updates.0

pub returns-else-is_empty-clause-kept : goal.returns-else-is_empty-clause-kept
returns-else-is_empty-clause-kept g c = λ rooms. kept_full c.args.position rooms c.args.slots.now.entries (λ e. false≢true (sym c.if-is_empty.false ∙ c.is_empty.ensures.1 e))
