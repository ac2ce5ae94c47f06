use Rattle.std.proofs.Common.{◌≡◌, arith, pos, [], ◌∷◌, w64, to_z}
use Rattle.std.proofs.lemmas.Int.{to_z_pos}
use Rattle.sqlite.specs.declared.types.Value.TheVariants.{Int}
use Rattle.sqlite.specs.State.{Executes, Survives, CommitsBy}
use Rattle.sqlite.specs.Held.{state}
use Rattle.record_tables.specs.Texts.{promise_text}
use Rattle.record_writes.proofs.Faulty.{any_left, err_known}
use Rattle.record_writes.proofs.Holding.{holds_stored, promise_params, promise_written}
use Rattle.record_writes.proofs.Stores.{low_round}
use Rattle.record_writes.proofs.UpdateFaults.{promise_failed}
use Rattle.record_writes.proofs.promise.write.Goals as goal

pub returns-clause-law : goal.returns-clause-law
returns-clause-law g c clean text up o last within over h =
    let before = state g.S.Store c.args.connection.now in
    let after = state g.S.Store c.execute.new.conn in
    let b = c.args.ballot in
    let params = Int (pos b.round) ∷ Int (pos b.member) ∷ [] in
    let signed : to_z w64 b.round ≡ pos b.round = let low = low_round b c.requires in to_z_pos w64 b.round (omega (arith, low)) in
    let ran : Executes promise_text params before after c.execute.result =
    rw (text, c.params-to_sql.ensures, c.round_of-round.ensures, signed, c.params-to_sql-2.ensures, c.from-member.ensures) at (c.execute.ensures.runs clean) in
    let survives : Survives before after (CommitsBy promise_text params before) =
    rw (text, c.params-to_sql.ensures, c.round_of-round.ensures, signed, c.params-to_sql-2.ensures, c.from-member.ensures) at c.execute.ensures.survives in
    promise_written before after o last b (c.requires, within) over h up (λ it. g.met.S.Store.stays c.args.connection.now.store it) c.execute.result clean (λ it db left. g.met.S.Store.settled c.execute.new.conn.store db it left) survives ran

pub returns-clause-store : goal.returns-clause-store
returns-clause-store g c clean text up o last fits h =
    let before = state g.S.Store c.args.connection.now in
    let after = state g.S.Store c.execute.new.conn in
    let b = c.args.ballot in
    let params = promise_params b in
    let signed : to_z w64 b.round ≡ pos b.round = let low = low_round b c.requires in to_z_pos w64 b.round (omega (arith, low)) in
    let ran : Executes promise_text params before after c.execute.result =
    rw (text, c.params-to_sql.ensures, c.round_of-round.ensures, signed, c.params-to_sql-2.ensures, c.from-member.ensures) at (c.execute.ensures.runs clean) in
    let it = holds_stored before o last h up (λ up. g.met.S.Store.stays c.args.connection.now.store up) in
    promise_failed before after o fits last.promise.round last.promise.member b.round b.member (h.known up) it.meta c.execute.result ran

pub returns-clause-known : goal.returns-clause-known
returns-clause-known g c clean o last h = err_known (state g.S.Store c.args.connection.now) (state g.S.Store c.execute.new.conn) o last h _ _ c.execute.result (c.execute.ensures.runs clean)

pub returns-clause-survives : goal.returns-clause-survives
returns-clause-survives g c = any_left (state g.S.Store c.args.connection.now) (state g.S.Store c.execute.new.conn) _ c.execute.ensures.survives
