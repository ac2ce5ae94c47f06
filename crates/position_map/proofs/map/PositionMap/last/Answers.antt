use Rattle.std.proofs.Common.{◌≡◌, ◌∙◌, sym, ap}
use Rattle.position_map.proofs.Ahead.{behind_more, none_above, rise_front, value_last}
use Rattle.position_map.proofs.map.PositionMap.last.Goals as goal

pub loop-last-init : goal.loop-last-init
loop-last-init g c =
    let source : c.into_iter-last-iterator.result.iter ≡ c.self.inside.slots.entries = ap (λ r. r.iter) c.into_iter-last-iterator.ensures.into_iter_gives ∙ c.rev-last-items.ensures.source ∙ c.iter.ensures.rest in
    record {
      can = tt;
      finite = tt;
      rise = rw source c.self.invariant.rise;
      same = rw (source, ← c.self.view_is);
    }

pub loop-last-preserved : goal.loop-last-preserved
loop-last-preserved g c = record {
  can = tt;
  finite = tt;
  rise = rise_front 0 c.next.new.self.iter _ (rw c.in-Some.ensures.steps at c.loop-last.invariant.rise);
  same = c.loop-last.invariant.same ∙ rw c.in-Some.ensures.steps (behind_more c.in-Some.last.now c.in-Some.slot.now c.next.new.self.iter (sym c.is_some.ensures ∙ c.if-is_some.false));
}

pub returns-then-is_some : goal.returns-then-is_some
returns-then-is_some g c =
    let rise = rw c.in-Some.ensures.steps at c.loop-last.invariant.rise in
    let same = rw c.in-Some.ensures.steps at c.loop-last.invariant.same in
    rw same (value_last 0 c.in-Some.last.now c.in-Some.slot.now c.next.new.self.iter (sym c.is_some.ensures ∙ c.if-is_some.true) rise, λ q l. none_above 0 c.in-Some.last.now q c.in-Some.slot.now c.next.new.self.iter rise l)
