use Rattle.std.proofs.Common.{◌≡◌, ◌≤◌, List, []}
use Rattle.sqlite.specs.Order.{Row}
use Rattle.sqlite.specs.State.{HasCleanDisk, IsUnchanged, Survives}
use Rattle.sqlite.specs.Held.{state}
use Rattle.sqlite.specs.Given.{HasGiven}
use Rattle.record_tables.specs.Texts.{votes_load_text}
use Rattle.sql_records.specs.Reading.{AreShown}
use Rattle.ballots.specs.Values.{positions}
use Rattle.paxos.specs.WellFormed.{AreVotes as MayBeVotes}
use Rattle.sql_records.proofs.Read.{UpTo, last_of}
use Rattle.sql_records.proofs.votes.load_votes.Given as goal

abbrev pub invariant-votes : goal.invariant-votes
invariant-votes g l =
    let old = state g.S.Store l.fn.connection in
    let now = state g.S.Store l.rows.conn.now in
    (l.rows.conn.ghost_name ≡ l.initial.rows.conn.ghost_name) × Survives old now (λ _. ⊥) × UpTo l.last l.record.votes × (l.last ≡ last_of 0 l.record.votes) × (l.counter ≤ l.last) × (l.last ≤ positions)
    × (HasCleanDisk now → (given : List Row) × HasGiven g.S.Store votes_load_text [] l.rows.conn.now given × IsUnchanged old now × AreShown l.fn.members l.promise given l.record.votes) × (l.record.learnt ≡ []) × MayBeVotes l.fn.members l.fn.promise 1 positions l.record.votes
