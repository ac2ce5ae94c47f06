use Rattle.std.proofs.Common.{◌≡◌, ◌+◌, ◌≤◌, ◌++◌, List, length, vec_len, vec_capacity}
use Rattle.std.specs.Vec.Iter.{into_iter_items}
use Rattle.paxos.specs.Lists.{Has}
use Rattle.world.specs.Placed.{AreOf, ArePlaced}
use Rattle.world.specs.Runs.{IsUnwritten}
use Rattle.world.proofs.running.place_all.Given as goal

-- those before are placed with their stores, there is room for the others, and nobody has written the stores that are left
abbrev pub invariant-loop-records : goal.invariant-loop-records
invariant-loop-records g l = (goal.iterator-loop-records g).can_next l.records-iterator
    × (goal.iterator-loop-records g).is_finite l.records-iterator
    × ArePlaced {R = g.row.R.Denot} {A = g.row.A.Denot} g.R.Records.is_kept g.A.Application.has_applied l.fn.group l.fn.members l.fn.names l.seats.items
    × (l.number ≡ length l.seats.items)
    × (length l.seats.items + length (into_iter_items l.records-iterator) ≡ length l.fn.stores.items)
    × (vec_len l.seats + length (into_iter_items l.records-iterator) ≤ vec_capacity l.seats)
    × ((r : g.row.R.Denot) → Has (into_iter_items l.records-iterator) r → IsUnwritten g.R.Records.stands g.R.Records.is_kept r)
    × ((done : List g.row.R.Denot) × (done ++ into_iter_items l.records-iterator ≡ l.fn.stores.items) × AreOf g.R.Records.fates l.seats.items done)
