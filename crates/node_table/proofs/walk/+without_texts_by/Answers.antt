-- The bytes that are left, and those of the texts that are still to come.
use Rattle.std.proofs.Common.{◌≡◌, ◌∙◌, ◌-◌, ap, sym, arith, option_copied, length}
use Rattle.node_table.specs.Flat.{read_trees}
use Rattle.node_table.specs.Rows.{table_of, entry_of_row}
use Rattle.node_table.proofs.Texts.{bytes-turn, bytes-stop}
use Rattle.node_table.proofs.Rows.{row-entry, row-none}
use Rattle.node_table.proofs.walk.+without_texts_by.Goals as goal

pub returns-in_default-clause-left : goal.returns-in_default-clause-left
returns-in_default-clause-left t c =
    let f = table_of c.args.cursor.now in
    let stop = bytes-stop f (read_trees (c.args.levels - 1) f) c.args.ids.now c.loop-id.id-index c.id-item.result c.loop-id-test.true c.id-item.is
    (rw (c.number.ensures, c.loop-id.invariant.0) at (row-none c.loop-id.cursor c.number.result (sym c.seek.ensures.value ∙ ap option_copied c.in_default.is))) in
    let all = c.loop-id.invariant.1 in
    omega arith

pub returns-in_err-left-clause-more : goal.returns-in_err-left-clause-more
returns-in_err-left-clause-more t c =
    let f = table_of c.args.cursor.now in
    let below = read_trees (c.args.levels - 1) f in
    let turn = bytes-turn f below c.args.ids.now c.loop-id.id-index c.id-item.result (entry_of_row c.in-Some.row.now) c.loop-id-test.true c.id-item.is
    (rw (c.number.ensures, c.loop-id.invariant.0) at (row-entry c.loop-id.cursor c.number.result c.in-Some.row.now (sym c.seek.ensures.value ∙ ap option_copied c.in-Some.is))) in
    let all = c.loop-id.invariant.1 in
    let rest = c.loop-id.invariant.2 in
    let text : length c.as_str.result.now ≡ length c.in-Some.row.now.text = ap length c.as_str.ensures in
    let short = c.in_err-left.ensures in
    rw c.from_residual.ensures (omega arith)

pub returns-in_err-left-2-clause-more : goal.returns-in_err-left-2-clause-more
returns-in_err-left-2-clause-more t c =
    let f = table_of c.args.cursor.now in
    let below = read_trees (c.args.levels - 1) f in
    let turn = bytes-turn f below c.args.ids.now c.loop-id.id-index c.id-item.result (entry_of_row c.in-Some.row.now) c.loop-id-test.true c.id-item.is
    (rw (c.number.ensures, c.loop-id.invariant.0) at (row-entry c.loop-id.cursor c.number.result c.in-Some.row.now (sym c.seek.ensures.value ∙ ap option_copied c.in-Some.is))) in
    let all = c.loop-id.invariant.1 in
    let rest = c.loop-id.invariant.2 in
    let text : length c.as_str.result.now ≡ length c.in-Some.row.now.text = ap length c.as_str.ensures in
    let taken = c.in_ok-left.ensures in
    let sought = c.seek.ensures.same ∙ c.loop-id.invariant.0 in
    let more = rw (c.deref.ensures.value, sought) at c.in_err-left-2.ensures.more in
    rw c.from_residual-in_err-left-2.ensures (omega arith)

pub returns-in_err-left-3-clause-more : goal.returns-in_err-left-3-clause-more
returns-in_err-left-3-clause-more t c =
    let f = table_of c.args.cursor.now in
    let below = read_trees (c.args.levels - 1) f in
    let turn = bytes-turn f below c.args.ids.now c.loop-id.id-index c.id-item.result (entry_of_row c.in-Some.row.now) c.loop-id-test.true c.id-item.is
    (rw (c.number.ensures, c.loop-id.invariant.0) at (row-entry c.loop-id.cursor c.number.result c.in-Some.row.now (sym c.seek.ensures.value ∙ ap option_copied c.in-Some.is))) in
    let all = c.loop-id.invariant.1 in
    let rest = c.loop-id.invariant.2 in
    let text : length c.as_str.result.now ≡ length c.in-Some.row.now.text = ap length c.as_str.ensures in
    let taken = c.in_ok-left.ensures in
    let sought = c.seek.ensures.same ∙ c.loop-id.invariant.0 in
    let first = c.without_texts_by.ensures.same ∙ sought in
    let one = rw (c.deref.ensures.value, sought) at c.in_ok-left-2.ensures.left in
    let more = rw (c.deref-in-loop-id.ensures.value, first) at c.in_err-left-3.ensures.more in
    rw c.from_residual-in_err-left-3.ensures (omega arith)

pub loop-id-preserved : goal.loop-id-preserved
loop-id-preserved t c =
    let f = table_of c.args.cursor.now in
    let below = read_trees (c.args.levels - 1) f in
    let turn = bytes-turn f below c.args.ids.now c.loop-id.id-index c.id-item.result (entry_of_row c.in-Some.row.now) c.loop-id-test.true c.id-item.is
    (rw (c.number.ensures, c.loop-id.invariant.0) at (row-entry c.loop-id.cursor c.number.result c.in-Some.row.now (sym c.seek.ensures.value ∙ ap option_copied c.in-Some.is))) in
    let all = c.loop-id.invariant.1 in
    let rest = c.loop-id.invariant.2 in
    let text : length c.as_str.result.now ≡ length c.in-Some.row.now.text = ap length c.as_str.ensures in
    let taken = c.in_ok-left.ensures in
    let sought = c.seek.ensures.same ∙ c.loop-id.invariant.0 in
    let first = c.without_texts_by.ensures.same ∙ sought in
    let one = rw (c.deref.ensures.value, sought) at c.in_ok-left-2.ensures.left in
    let two = rw (c.deref-in-loop-id.ensures.value, first) at c.in_ok-left-3.ensures.left in
    (c.without_texts_by-in-loop-id.ensures.same ∙ first, omega arith, omega arith)
