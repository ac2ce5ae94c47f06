use Rattle.std.proofs.Common.{◌∙◌, sym}
use Rattle.position_map.proofs.Ahead.{ahead_first, ahead_found, ahead_more}
use Rattle.position_map.proofs.slot.first_from.Goals as goal

pub loop-next-init : goal.loop-next-init
loop-next-init g c = record {
  can = tt;
  finite = tt;
  ahead = rw (c.into_iter-next-iterator.ensures.into_iter_gives, c.range-next-items.ensures.between tt) (ahead_first c.args.position c.args.slots.now.entries c.requires.rise);
}

pub loop-next-preserved : goal.loop-next-preserved
loop-next-preserved g c = record {
  can = tt;
  finite = tt;
  ahead = ahead_more c.args.position c.in-Some.next.now c.in-Some.slot.now _ c.next.new.self (sym c.is_some.ensures ∙ c.if-is_some.false) (rw c.in-Some.ensures.steps at c.loop-next.invariant.ahead);
}

pub returns-then-is_some : goal.returns-then-is_some
returns-then-is_some g c = ahead_found c.args.position c.in-Some.next.now c.in-Some.slot.now _ c.next.new.self (sym c.is_some.ensures ∙ c.if-is_some.true) (rw c.in-Some.ensures.steps at c.loop-next.invariant.ahead)
