use Rattle.std.proofs.Common.{◌≤◌, ◌<◌, ◌∙◌, sym, arith}
use Rattle.node_table.specs.Rows.{table_of}
use Rattle.node_table.proofs.Rows.{row-read}
use Rattle.copied_rows.proofs.Turns.{both-lent, both-own, cloned-says}
use Rattle.copied_rows.proofs.copying.Copying.row.Goals as goal

pub returns-then-number-self-clause-row : goal.returns-then-number-self-clause-row
returns-then-number-self-clause-row c =
    let lent = table_of c.args.self.now.lent in
    let own = table_of c.args.rows.now in
    let id = c.args.id in
    let below : id < c.args.self.now.first = rw c.number.ensures at c.if-number-self.true in
    let read = rw c.number-then-number-self.ensures at (row-read c.args.self.now.lent c.number-then-number-self.result c.seek.result (sym c.seek.ensures.value)) in
    cloned-says c.cloned.result _ _ c.cloned.ensures (read ∙ sym (both-lent lent own id (c.requires.apart.own id below)))

pub returns-clause-row : goal.returns-clause-row
returns-clause-row c =
    let lent = table_of c.args.self.now.lent in
    let own = table_of c.args.rows.now in
    let id = c.args.id in
    let number = c.number.ensures in
    let far = c.if-number-self.false in
    let from : c.args.self.now.first ≤ id = omega arith in
    let read = rw c.number-2.ensures at (row-read c.args.rows.now c.number-2.result c.get.result (sym c.get.ensures)) in
    cloned-says c.cloned-2.result _ _ c.cloned-2.ensures (read ∙ sym (both-own lent own id (c.requires.apart.lent id from)))
