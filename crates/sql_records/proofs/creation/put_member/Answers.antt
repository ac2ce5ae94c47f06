use Rattle.sqlite.specs.State.{ExecutesInside}
use Rattle.sqlite.specs.Held.{state}
use Rattle.record_tables.specs.Texts.{member_text}
use Rattle.sql_records.proofs.Creating.{member_params, member_put}
use Rattle.sql_records.proofs.MemberFaults.{member_failed}
use Rattle.std.proofs.Common.{refl}
use Rattle.sql_records.proofs.Undone.{keeps_by}
use Rattle.sql_records.proofs.creation.put_member.Goals as goal

pub returns-clause-made : goal.returns-clause-made
returns-clause-made g c clean m =
    let before = state g.S.Store c.args.tx.now.conn.now in
    let after = state g.S.Store c.execute.new.self.conn.now in
    let ran : ExecutesInside 0 member_text (member_params before after c.args.setup.now) before after c.execute.result =
    rw (c.params-to_sql.ensures, c.params-to_sql-2.ensures, c.params-to_sql-3.ensures, c.params-to_sql-4.ensures, c.from-member.ensures, c.from-members.ensures, c.group-group.ensures, c.member.ensures.member, c.count.ensures.count, c.members.ensures, c.requires) at (c.execute.ensures.runs clean m.mode) in
    member_put before after c.args.setup.now c.execute.result m ran

pub returns-clause-store : goal.returns-clause-store
returns-clause-store g c clean m =
    let before = state g.S.Store c.args.tx.now.conn.now in
    let after = state g.S.Store c.execute.new.self.conn.now in
    let ran : ExecutesInside 0 member_text (member_params before after c.args.setup.now) before after c.execute.result =
    rw (c.params-to_sql.ensures, c.params-to_sql-2.ensures, c.params-to_sql-3.ensures, c.params-to_sql-4.ensures, c.from-member.ensures, c.from-members.ensures, c.group-group.ensures, c.member.ensures.member, c.count.ensures.count, c.members.ensures, c.requires) at (c.execute.ensures.runs clean m.mode) in
    member_failed before after c.args.setup.now c.are_names.ensures m c.execute.result ran

pub returns-clause-undone : goal.returns-clause-undone
returns-clause-undone g c clean = keeps_by g.S.Store c.args.tx.now.conn.now c.execute.new.self.conn.now _ _ c.execute.result _ refl (c.execute.ensures.runs clean) (λ none. (c.execute.ensures.ended none).1)
