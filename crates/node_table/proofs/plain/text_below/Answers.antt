use Rattle.std.proofs.Common.{◌∙◌, sym, refl}
use Rattle.node_table.specs.Rows.{table_of, entry_of_row}
use Rattle.node_table.proofs.InPlace.{text-of-only}
use Rattle.node_table.proofs.plain.text_below.Goals as goal

pub returns-in_ok-leaf_text-in-len1-clause-below : goal.returns-in_ok-leaf_text-in-len1-clause-below
returns-in_ok-leaf_text-in-len1-clause-below c =
    text-of-only (table_of c.args.cursor.now) (entry_of_row c.args.row.now) _ c.as_slice.result.now c.only-item.result (sym c.is_inner-then-this-lt2.ensures ∙ c.if-is_inner-2.true) c.as_slice.ensures c.in-len1.len_at_least c.in-len1.len_below
    c.only-item.is refl c.in_ok-leaf_text-in-len1.ensures.text
