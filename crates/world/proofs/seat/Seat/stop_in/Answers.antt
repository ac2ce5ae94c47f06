use Rattle.std.proofs.Common.{true, Err, Some, refl, sym, ap, ◌∙◌}
use Rattle.std.specs.Option.{option_copied_mut}
use Rattle.acceptor.specs.Steps.{Acceptor}
use Rattle.member.specs.Drafts.{write_in}
use Rattle.paxos.specs.Records.{written}
use Rattle.world.specs.Seats.{Did, IsAny, store_in}
use Rattle.world.proofs.Settling.{did_fail, did_in, did_write, failure_in, fails_in_stop, grew, planned_write, runs_still, stays, stops_in_write, store_running, store_stopped}
use Rattle.world.proofs.seat.Seat.stop_in.Goals as goal

pub returns-in-Ok-clause-moved : goal.returns-in-Ok-clause-moved
returns-in-Ok-clause-moved g c = λ t i seat drafted.
    let x = c.in-Some.node.now in
    let y = c.cut.new.self in
    let there = sym c.as_mut.ensures.value ∙ ap option_copied_mut c.in-Some.is in
    let place = seat.running x there in
    let left = c.empty.ensures.left y refl in
    let write = write_in c.args.draft.member.change in
    let same = planned_write {R = g.row.R.Denot} {A = g.row.A.Denot} g.A.Application.has_applied g.A.Application.meaning t i x c.args.draft place.0 (drafted x there) in
    stops_in_write {R = g.row.R.Denot} {A = g.row.A.Denot} g.R.Records.stands g.R.Records.is_kept g.A.Application.has_applied IsAny c.args.self.now c.empty.new.self x (y.setup, y.member.acceptor.records)
    there left.0 left.1 c.cut.ensures.kept (Did g.R.Records.failed g.R.Records.fates true (store_in c.args.self.now) (store_in c.empty.new.self)) (g.A.Application.meaning t.names) t i y.member.acceptor.kept write place.0
    (λ u runs. (c.in-Ok.ensures.wrote place.1).0 ∙ ap (λ w. written w x.member.acceptor.kept) (same u runs))
    same
    (c.empty.ensures.stands y refl (c.in-Ok.ensures.wrote place.1).1)
    (λ kept. did_in {R = g.row.R.Denot} g.R.Records.failed g.R.Records.fates true _ _ x.member.acceptor.records y.member.acceptor.records write _ (store_running c.args.self.now x there)
    (store_stopped c.empty.new.self (y.setup, y.member.acceptor.records) left.0 left.1)
    (did_write {R = g.row.R.Denot} g.R.Records.failed g.R.Records.fates true x.member.acceptor.records y.member.acceptor.records (g.R.Records.stands y.member.acceptor.records) x.member.acceptor.kept tt write (c.in-Ok.ensures.went place.1 kept)))

pub returns-in-Err-Store-clause-moved : goal.returns-in-Err-Store-clause-moved
returns-in-Err-Store-clause-moved g c = λ t i seat drafted.
    let x = c.in-Some.node.now in
    let y = c.cut.new.self in
    let there = sym c.as_mut.ensures.value ∙ ap option_copied_mut c.in-Some.is in
    let place = seat.running x there in
    let left = c.empty-in-Err-Store.ensures.left y refl in
    let stopped = c.in-Err-Store.ensures.store (ap Err c.in-Err-Store.field-0-is) in
    let write = write_in c.args.draft.member.change in
    fails_in_stop {R = g.row.R.Denot} {A = g.row.A.Denot} g.R.Records.stands g.R.Records.is_kept g.A.Application.has_applied IsAny c.args.self.now c.empty-in-Err-Store.new.self x (y.setup, y.member.acceptor.records)
    there left.0 left.1 c.cut.ensures.kept (Did g.R.Records.failed g.R.Records.fates true (store_in c.args.self.now) (store_in c.empty-in-Err-Store.new.self))
    (g.A.Application.meaning t.names) t i write place.0
    (planned_write {R = g.row.R.Denot} {A = g.row.A.Denot} g.A.Application.has_applied g.A.Application.meaning t i x c.args.draft place.0 (drafted x there))
    (λ kept. failure_in {R = g.row.R.Denot} g.R.Records.failed g.R.Records.fates (g.R.Records.stands y.member.acceptor.records) true _ _ x.member.acceptor.records y.member.acceptor.records x.member.acceptor.kept write
    (store_running c.args.self.now x there) (store_stopped c.empty-in-Err-Store.new.self (y.setup, y.member.acceptor.records) left.0 left.1)
    (did_fail {R = g.row.R.Denot} g.R.Records.failed g.R.Records.fates true x.member.acceptor.records y.member.acceptor.records (g.R.Records.stands y.member.acceptor.records) x.member.acceptor.kept _ write
    (c.in-Err-Store.ensures.writes (ap Err c.in-Err-Store.field-0-is) place.1)
    (grew g.R.Records.failed place.1 stopped.cause) (stopped.crash place.1 kept) (rw c.in-Err-Store.field-0-is at c.in-Err-Store.ensures.went place.1 kept)))

pub returns-in-Err-Memory-clause-refused : goal.returns-in-Err-Memory-clause-refused
returns-in-Err-Memory-clause-refused g c =
    let x = c.in-Some.node.now in
    let y = c.cut.new.self in
    let there = sym c.as_mut.ensures.value ∙ ap option_copied_mut c.in-Some.is in
    let memory = c.in-Err-Memory.ensures.memory (ap Err c.in-Err-Memory.field-0-is) in
    stays {R = g.row.R.Denot} {A = g.row.A.Denot} g.R.Records.stands g.R.Records.is_kept g.A.Application.has_applied IsAny c.args.self.now (record { node = Some y; left = c.args.self.now.left }) x y
    there refl c.cut.ensures.kept (ap (λ (a : Acceptor g.row.R.Denot). a.kept) memory.0.kept) memory.1

pub returns-in-Err-Memory-clause-seat : goal.returns-in-Err-Memory-clause-seat
returns-in-Err-Memory-clause-seat g c = λ t seat.
    let x = c.in-Some.node.now in
    let y = c.cut.new.self in
    let there = sym c.as_mut.ensures.value ∙ ap option_copied_mut c.in-Some.is in
    let was = seat.running x there in
    let memory = c.in-Err-Memory.ensures.memory (ap Err c.in-Err-Memory.field-0-is) in
    runs_still {R = g.row.R.Denot} {A = g.row.A.Denot} t c.args.self.now (record { node = Some y; left = c.args.self.now.left }) y refl refl (c.cut.ensures.setup ∙ was.0) (ap (λ (a : Acceptor g.row.R.Denot). a.is_stopped) memory.0.kept ∙ was.1) seat
