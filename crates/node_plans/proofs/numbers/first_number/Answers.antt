use Rattle.std.proofs.Common.{ℕ, List, sym, subst}
use Rattle.node_table.specs.Flat.{Table}
use Rattle.node_table.specs.Labels.{Ascends, HasNumbers}
use Rattle.node_table.proofs.Numbers.{settled}
use Rattle.node_plans.specs.Planned.{table_with, places_with}
use Rattle.node_plans.proofs.Items.{listed-some}
use Rattle.node_plans.proofs.numbers.first_number.Goals as goal

pub renumber-requires-clause-there : goal.renumber-requires-clause-there
renumber-requires-clause-there c = λ i l. listed-some (table_with c.args.plan.now c.args.rows.now) c.requires.listed c.args.parent i (rw (← c.requires.all) l)

pub renumber-requires-clause-once : goal.renumber-requires-clause-once
renumber-requires-clause-once c = λ i. rw c.requires.all (c.requires.listed.once c.args.parent i)

pub renumber-requires-clause-few : goal.renumber-requires-clause-few
renumber-requires-clause-few c = rw c.requires.all (c.requires.listed.few c.args.parent)

pub returns-in_err-renumber-clause-numbered : goal.returns-in_err-renumber-clause-numbered
returns-in_err-renumber-clause-numbered c = rw (c.renumber.ensures.same, c.in_err-renumber.ensures.refused) c.requires.numbered

pub returns-clause-numbered : goal.returns-clause-numbered
returns-clause-numbered c =
    let f = table_with c.args.plan.now c.args.rows.now in
    let w = places_with c.args.plan.now c.args.rows.now in
    let v = places_with c.renumber.new.plan c.args.rows.now in
    let P : Table → Type 0 = HasNumbers v in
    let Q : List ℕ → Type 0 = Ascends v in
    subst P (sym c.renumber.ensures.same)
    (settled w v f c.args.parent c.requires.listed (λ i h. c.renumber.ensures.others i (rw c.requires.all h)) (λ i ne. c.requires.numbered i) (subst Q c.requires.all c.in_ok-renumber.ensures.rises))
