use Rattle.std.proofs.Common.{◌≡◌, ◌≤◌, List, [], length}
use Rattle.sqlite.specs.Order.{Row}
use Rattle.sqlite.specs.State.{HasCleanDisk, IsUnchanged, Survives}
use Rattle.sqlite.specs.Held.{state}
use Rattle.sqlite.specs.Given.{HasGiven}
use Rattle.record_tables.specs.Texts.{learnt_load_text}
use Rattle.sql_records.specs.Reading.{AreLearnt}
use Rattle.ballots.specs.Values.{positions}
use Rattle.sql_records.proofs.learnt.load_learnt.Given as goal

abbrev pub invariant-learnt : goal.invariant-learnt
invariant-learnt g l =
    let old = state g.S.Store l.fn.connection in
    let now = state g.S.Store l.rows.conn.now in
    (l.rows.conn.ghost_name ≡ l.initial.rows.conn.ghost_name) × Survives old now (λ _. ⊥) × (l.counter ≤ length l.record.learnt) × (length l.record.learnt ≤ positions) × (l.record.promise ≡ l.fn.found.promise) × (l.record.votes ≡ l.fn.found.votes)
    × (HasCleanDisk now → (given : List Row) × HasGiven g.S.Store learnt_load_text [] l.rows.conn.now given × IsUnchanged old now × AreLearnt 1 given l.record.learnt)
