use Rattle.std.proofs.Common.{◌∙◌, refl, string_bytes, subst}
use Rattle.node_table.specs.Flat.{Table, IsChangedAt, with_text}
use Rattle.node_plans.specs.Planned.{table_with}
use Rattle.node_plans.proofs.Plans.{row-there, changed-table, changed-places}
use Rattle.node_plans.specs.declared.plan.Plan.{Plan}
use Rattle.node_plans.proofs.plan.set_text.Goals as goal

pub set_text-requires : goal.set_text-requires
set_text-requires c = row-there c.touch.new.plan.rows c.args.id ∙ c.in_ok-touch.ensures.there

pub returns-clause-changed : goal.returns-clause-changed
returns-clause-changed c =
    let q : Plan = record c.touch.new.plan { rows = c.set_text.new.rows } in
    let P : Table → Type 0 = λ t. IsChangedAt t (table_with q c.args.rows.now) c.args.id (with_text (string_bytes c.args.text)) in
    subst P c.touch.ensures.same (changed-table c.touch.new.plan q c.args.rows.now refl c.args.id (with_text (string_bytes c.args.text)) c.in_ok-touch.ensures.there (rw c.in_ok-text.ensures at c.set_text.ensures.changed))

pub returns-clause-places : goal.returns-clause-places
returns-clause-places c =
    let q : Plan = record c.touch.new.plan { rows = c.set_text.new.rows } in
    changed-places c.touch.new.plan q c.args.rows.now refl c.args.id (with_text (string_bytes c.args.text)) c.in_ok-touch.ensures.there (rw c.in_ok-text.ensures at c.set_text.ensures.changed) c.set_text.ensures.places ∙ c.touch.ensures.places
