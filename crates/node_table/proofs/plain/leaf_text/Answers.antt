use Rattle.std.proofs.Common.{◌∙◌, ap, sym, refl, option_copied}
use Rattle.node_table.specs.Rows.{entry_of_row}
use Rattle.node_table.proofs.Rows.{row-entry}
use Rattle.node_table.proofs.InPlace.{empty-list}
use Rattle.node_table.proofs.plain.leaf_text.Goals as goal

pub returns-then-is_empty-2-clause-text : goal.returns-then-is_empty-2-clause-text
returns-then-is_empty-2-clause-text c =
    let r = c.in_ok-row.row.now in
    let at = rw c.number.ensures at (row-entry c.args.cursor.now c.number.result r (sym c.seek.ensures.value ∙ ap option_copied c.in_ok-row.was)) in
    record {
      entry = entry_of_row r;
      there = at;
      kind = sym c.is_text.ensures ∙ c.if-is_text.true;
      text = refl;
      attributes = empty-list c.deref.result.now _ c.is_empty.result c.is_empty.ensures c.if-is_empty.true c.deref.ensures.value;
      children = empty-list c.deref-then-is_empty.result.now _ c.is_empty-then-is_empty.result c.is_empty-then-is_empty.ensures c.if-is_empty-2.true c.deref-then-is_empty.ensures.value;
    }
