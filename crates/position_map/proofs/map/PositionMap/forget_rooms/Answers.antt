use Rattle.std.proofs.Common.{◌∙◌, sym}
use Rattle.position_map.proofs.Keeping.{all_full, none_among}
use Rattle.position_map.proofs.map.PositionMap.forget_rooms.Goals as goal

pub loop-room-preserved : goal.loop-room-preserved
loop-room-preserved g c = record {
  kept = c.remove_room.ensures.kept c.pop.new.self.items (rw c.in-Some.ensures.items at c.loop-room.invariant.kept);
  same = c.remove_room.ensures.same ∙ c.loop-room.invariant.same;
}

pub returns-clause-full : goal.returns-clause-full
returns-clause-full g c =
    let k = c.loop-room.invariant.kept in
    all_full _ k.rise (λ q e. sym (none_among q c.loop-room.self-inside.rooms.items (sym c.loop-room.self-inside.rooms.ok.0 ∙ c.in_default.ensures.cases.0)) ∙ k.among q e)
