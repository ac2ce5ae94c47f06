use Rattle.std.proofs.Common.{◌∙◌, ◌+◌, drop}
use Rattle.proposer.proofs.Merging.{entries_from, entries_rest, room_more}
use Rattle.proposer.proofs.reported.reserve_entries.Goals as goal

pub loop-entry-preserved : goal.loop-entry-preserved
loop-entry-preserved c = (
  entries_rest c.loop-entry.entry-index c.args.entries.now c.entry-item.result c.loop-entry-test.true c.entry-item.is c.loop-entry.invariant.0,
  c.in_ok-reserve.ensures.same ∙ c.loop-entry.invariant.1,
  room_more c.args.entries.now (drop (c.loop-entry.entry-index + 1) c.args.entries.now) (drop c.loop-entry.entry-index c.args.entries.now) c.entry-item.result c.loop-entry.reports c.reserve.new.self
      (entries_from c.loop-entry.entry-index c.args.entries.now c.entry-item.result c.loop-entry-test.true c.entry-item.is) c.loop-entry.invariant.2 c.in_ok-reserve.ensures.room c.in_ok-reserve.ensures.others,
)
