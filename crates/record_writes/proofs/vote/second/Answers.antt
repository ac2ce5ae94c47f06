use Rattle.std.proofs.Common.{◌≡◌, arith, pos, w64, to_z}
use Rattle.std.proofs.lemmas.Int.{to_z_pos}
use Rattle.sqlite.specs.State.{ExecutesInside}
use Rattle.sqlite.specs.Held.{state}
use Rattle.record_tables.specs.Texts.{vote_text}
use Rattle.record_writes.proofs.Upserted.{params}
use Rattle.record_writes.proofs.Both.{vote_ran}
use Rattle.record_writes.proofs.Stores.{low_round}
use Rattle.record_writes.proofs.VoteFaults.{vote_failed_inside}
use Rattle.record_writes.proofs.vote.second.Goals as goal

pub returns-clause-law : goal.returns-clause-law
returns-clause-law g c clean o last now within v is good u see =
    let before = state g.S.Store c.args.tx.now.conn.now in
    let after = state g.S.Store c.execute.new.self.conn.now in
    let b = c.args.ballot in
    let signed : to_z w64 b.round ≡ pos b.round = let low = low_round b c.requires.ballot in to_z_pos w64 b.round (omega (arith, low)) in
    let ran : ExecutesInside 0 vote_text (params c.args.position (record { ballot = b; value = v })) before after c.execute.result =
    rw (c.params-to_sql.ensures, c.params-to_sql-2.ensures, c.round_of-round.ensures, signed, c.params-to_sql-3.ensures, c.from-member.ensures, c.params-to_sql-4.ensures, is) at (c.execute.ensures.runs clean see.mode) in
    vote_ran before after o last now b c.args.position v c.execute.result c.requires.least c.requires.most (c.requires.ballot, within) good u see clean c.execute.ensures.survives ran

pub returns-clause-store : goal.returns-clause-store
returns-clause-store g c clean o now v is good see =
    let before = state g.S.Store c.args.tx.now.conn.now in
    let after = state g.S.Store c.execute.new.self.conn.now in
    let b = c.args.ballot in
    let signed : to_z w64 b.round ≡ pos b.round = let low = low_round b c.requires.ballot in to_z_pos w64 b.round (omega (arith, low)) in
    let ran : ExecutesInside 0 vote_text (params c.args.position (record { ballot = b; value = v })) before after c.execute.result =
    rw (c.params-to_sql.ensures, c.params-to_sql-2.ensures, c.round_of-round.ensures, signed, c.params-to_sql-3.ensures, c.from-member.ensures, c.params-to_sql-4.ensures, is) at (c.execute.ensures.runs clean see.mode) in
    vote_failed_inside before after c.args.position (record { ballot = b; value = v }) good c.requires.most see.stored.rows (see.stored.once c.args.position) see.stored.votes see.known c.execute.result ran
