use Rattle.std.proofs.Common.{◌≡◌, arith, pos, w64, to_z}
use Rattle.std.proofs.lemmas.Int.{to_z_pos}
use Rattle.sqlite.specs.State.{ExecutesInside}
use Rattle.sqlite.specs.Held.{state}
use Rattle.record_tables.specs.Texts.{promise_text}
use Rattle.record_writes.proofs.Holding.{promise_params}
use Rattle.record_writes.proofs.Both.{promise_ran}
use Rattle.record_writes.proofs.Stores.{low_round}
use Rattle.record_writes.proofs.UpdateFaults.{promise_failed_inside}
use Rattle.record_writes.proofs.vote.first.Goals as goal

pub returns-clause-law : goal.returns-clause-law
returns-clause-law g c clean o last now within over u see =
    let before = state g.S.Store c.args.tx.now.conn.now in
    let after = state g.S.Store c.execute.new.self.conn.now in
    let b = c.args.ballot in
    let signed : to_z w64 b.round ≡ pos b.round = let low = low_round b c.requires in to_z_pos w64 b.round (omega (arith, low)) in
    let ran : ExecutesInside 0 promise_text (promise_params b) before after c.execute.result =
    rw (c.params-to_sql.ensures, c.round_of-round.ensures, signed, c.params-to_sql-2.ensures, c.from-member.ensures) at (c.execute.ensures.runs clean see.mode) in
    promise_ran before after o last now b c.execute.result (c.requires, within) over u see clean c.execute.ensures.survives ran

pub returns-clause-store : goal.returns-clause-store
returns-clause-store g c clean o now fits see =
    let before = state g.S.Store c.args.tx.now.conn.now in
    let after = state g.S.Store c.execute.new.self.conn.now in
    let b = c.args.ballot in
    let signed : to_z w64 b.round ≡ pos b.round = let low = low_round b c.requires in to_z_pos w64 b.round (omega (arith, low)) in
    let ran : ExecutesInside 0 promise_text (promise_params b) before after c.execute.result =
    rw (c.params-to_sql.ensures, c.round_of-round.ensures, signed, c.params-to_sql-2.ensures, c.from-member.ensures) at (c.execute.ensures.runs clean see.mode) in
    promise_failed_inside before after o fits now.promise.round now.promise.member b.round b.member see.known see.stored.meta c.execute.result ran
