use Rattle.row_pages.specs.Rows.{with_value}
use Rattle.std.proofs.Common.{◌∙◌, ap, sym, arith, ◌+◌}
use Rattle.std.specs.Option.{option_copied_mut}
use Rattle.node_table.specs.Flat.{with_child}
use Rattle.node_table.specs.Rows.{entry_of_row}
use Rattle.node_table.proofs.Rows.{written, changed, placed, room-written, room-at, room-none, row-entry, listed-items}
use Rattle.node_table.proofs.table.add_below.Goals as goal

pub add_to-requires-clause-within : goal.add_to-requires-clause-within
add_to-requires-clause-within c =
    let r = c.in-Some.row.now in
    let w = c.requires.within (entry_of_row r) (row-entry c.args.rows.now c.args.parent r (rw c.number.ensures at (sym c.get_mut.ensures.value ∙ ap option_copied_mut c.in-Some.is))) in
    rw (listed-items c.args.part r) w

pub add_to-requires-clause-room : goal.add_to-requires-clause-room
add_to-requires-clause-room c =
    room-at c.args.part c.number.result 1 c.args.rows.now c.in-Some.row.now (sym c.get_mut.ensures.value ∙ ap option_copied_mut c.in-Some.is) (rw (← c.number.ensures) at c.requires.room)

pub returns-in-Some-clause-added : goal.returns-in-Some-clause-added
returns-in-Some-clause-added c =
    let s = c.add_to.new.row in
    rw (← c.number.ensures)
    (changed c.args.rows.now (with_value c.args.rows.now c.number.result s) c.number.result c.in-Some.row.now s (sym c.get_mut.ensures.value ∙ ap option_copied_mut c.in-Some.is) (written c.args.rows.now c.number.result s) (with_child c.args.part c.args.index c.args.child) (sym c.add_to.ensures.added))

pub returns-in-Some-clause-room : goal.returns-in-Some-clause-room
returns-in-Some-clause-room c = λ n h.
    (let s = c.add_to.new.row in
    let was = sym c.get_mut.ensures.value ∙ ap option_copied_mut c.in-Some.is in
    let room = room-at c.args.part c.number.result (n + 1) c.args.rows.now c.in-Some.row.now was (rw (← c.number.ensures) at h) in
    let len = c.add_to.ensures.len in
    let more = c.add_to.ensures.capacity in
    rw (← c.number.ensures) (room-written c.args.rows.now (with_value c.args.rows.now c.number.result s) c.number.result c.in-Some.row.now s was (written c.args.rows.now c.number.result s) c.args.part n (omega arith)))

pub returns-in_default-clause-added : goal.returns-in_default-clause-added
returns-in_default-clause-added c = absurd (room-none c.args.part c.number.result 1 c.args.rows.now (sym c.get_mut.ensures.value ∙ ap option_copied_mut c.in_default.is) (rw (← c.number.ensures) at c.requires.room))

pub returns-in_default-clause-room : goal.returns-in_default-clause-room
returns-in_default-clause-room c = absurd (room-none c.args.part c.number.result 1 c.args.rows.now (sym c.get_mut.ensures.value ∙ ap option_copied_mut c.in_default.is) (rw (← c.number.ensures) at c.requires.room))

pub returns-in-Some-clause-places : goal.returns-in-Some-clause-places
returns-in-Some-clause-places c =
    let s = c.add_to.new.row in
    placed c.args.rows.now (with_value c.args.rows.now c.number.result s) c.number.result c.in-Some.row.now s (sym c.get_mut.ensures.value ∙ ap option_copied_mut c.in-Some.is) (written c.args.rows.now c.number.result s) c.add_to.ensures.place
