use Rattle.std.proofs.Common.{◌∙◌, ap, sym}
use Rattle.node_table.specs.Rows.{table_of}
use Rattle.node_table.proofs.Rows.{table-sets, table-same, places-same, places-new}
use Rattle.copied_rows.proofs.copies.put_copy.Goals as goal

pub returns-in_err-insert-clause-same : goal.returns-in_err-insert-clause-same
returns-in_err-insert-clause-same c = λ i ne. ap (λ h. h i) (table-same c.args.rows.now c.insert.new.self c.in_err-insert.ensures.refused)

pub returns-in_err-insert-clause-places : goal.returns-in_err-insert-clause-places
returns-in_err-insert-clause-places c = places-same c.args.rows.now c.insert.new.self c.in_err-insert.ensures.refused

pub returns-clause-put : goal.returns-clause-put
returns-clause-put c = let set = table-sets c.args.rows.now c.insert.new.self c.number-2.result _ c.in_ok-insert.ensures.put in ap (table_of c.insert.new.self) (sym c.number-2.ensures) ∙ set.here

pub returns-clause-same : goal.returns-clause-same
returns-clause-same c = λ i ne. (let set = table-sets c.args.rows.now c.insert.new.self c.number-2.result _ c.in_ok-insert.ensures.put in set.apart i (λ same. ne (same ∙ c.number-2.ensures)))

pub returns-clause-places : goal.returns-clause-places
returns-clause-places c = places-new c.args.rows.now c.insert.new.self c.number-2.result _ (ap (table_of c.args.rows.now) c.number-2.ensures ∙ c.requires) (c.number.ensures ∙ sym c.number-2.ensures) c.in_ok-insert.ensures.put
