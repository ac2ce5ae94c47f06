use Rattle.std.proofs.Common.{◌∙◌, ℕ, ap, refl}
use Rattle.node_table.specs.Labels.{place_of}
use Rattle.node_table.proofs.Numbers.{ascends-same}
use Rattle.node_plans.specs.declared.plan.Plan.{Plan}
use Rattle.node_plans.specs.Planned.{places_with}
use Rattle.node_plans.proofs.Plans.{row-there, renumbered-table, renumbered-others, renumbered-here}
use Rattle.node_plans.proofs.numbers.renumber.Goals as goal

pub number_all-requires-clause-there : goal.number_all-requires-clause-there
number_all-requires-clause-there c = λ i l. row-there c.touch_all.new.plan.rows i ∙ c.in_ok-touch_all.ensures.there i l

pub returns-in_err-touch_all-clause-same : goal.returns-in_err-touch_all-clause-same
returns-in_err-touch_all-clause-same c = c.touch_all.ensures.same

pub returns-in_err-touch_all-clause-others : goal.returns-in_err-touch_all-clause-others
returns-in_err-touch_all-clause-others c = λ i h. ap (λ (w : ℕ → ℕ). w i) c.touch_all.ensures.places

abbrev after : goal.After-number_all → Plan
after c = record c.touch_all.new.plan { rows = c.number_all.new.rows }

pub returns-clause-same : goal.returns-clause-same
returns-clause-same c = renumbered-table c.touch_all.new.plan (after c) c.args.rows.now refl c.number_all.ensures.same ∙ c.touch_all.ensures.same

pub returns-clause-rises : goal.returns-clause-rises
returns-clause-rises c =
    ascends-same (place_of c.number_all.new.rows) (places_with (after c) c.args.rows.now) c.args.ids.now (λ i l. renumbered-here c.touch_all.new.plan (after c) c.args.rows.now refl c.number_all.ensures.same i (c.in_ok-touch_all.ensures.there i l)) c.number_all.ensures.rises

pub returns-clause-others : goal.returns-clause-others
returns-clause-others c = λ i h. renumbered-others c.touch_all.new.plan (after c) c.args.rows.now refl c.number_all.ensures.same i (c.number_all.ensures.others i h) ∙ ap (λ (w : ℕ → ℕ). w i) c.touch_all.ensures.places
