use Rattle.row_pages.specs.Rows.{with_value}
use Rattle.std.proofs.Common.{◌∙◌, ap, sym}
use Rattle.std.specs.Option.{option_copied_mut}
use Rattle.node_table.proofs.Rows.{written, unchanged, placed, room-written, row-there, on_ok}
use Rattle.node_table.proofs.table.reserve.Goals as goal

pub returns-in-Some-clause-same : goal.returns-in-Some-clause-same
returns-in-Some-clause-same c =
    let s = c.reserve_in.new.row in
    unchanged c.args.rows.now (with_value c.args.rows.now c.number.result s) c.number.result c.in-Some.row.now s (sym c.get_mut.ensures.value ∙ ap option_copied_mut c.in-Some.is) (written c.args.rows.now c.number.result s) (sym c.reserve_in.ensures.same)

pub returns-in-Some-clause-room : goal.returns-in-Some-clause-room
returns-in-Some-clause-room c =
    let s = c.reserve_in.new.row in
    on_ok c.reserve_in.result _ _
    (λ h there. rw (← c.number.ensures) (room-written c.args.rows.now (with_value c.args.rows.now c.number.result s) c.number.result c.in-Some.row.now s (sym c.get_mut.ensures.value ∙ ap option_copied_mut c.in-Some.is) (written c.args.rows.now c.number.result s) c.args.part c.args.additional h))
    c.reserve_in.ensures.room

pub returns-in-None-clause-room : goal.returns-in-None-clause-room
returns-in-None-clause-room c = λ there. absurd (row-there c.args.rows.now c.number.result (sym c.get_mut.ensures.value ∙ ap option_copied_mut c.in-None.is) (rw (← c.number.ensures) at there))

pub returns-in-Some-clause-places : goal.returns-in-Some-clause-places
returns-in-Some-clause-places c =
    let s = c.reserve_in.new.row in
    placed c.args.rows.now (with_value c.args.rows.now c.number.result s) c.number.result c.in-Some.row.now s (sym c.get_mut.ensures.value ∙ ap option_copied_mut c.in-Some.is) (written c.args.rows.now c.number.result s) c.reserve_in.ensures.place
