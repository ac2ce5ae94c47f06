use Rattle.std.proofs.Common.{◌∙◌, sym, refl, arith, IsSome, subst}
use Rattle.std.proofs.lemmas.List.{take_all}
use Rattle.node_table.specs.Flat.{Table}
use Rattle.node_table.specs.Rows.{row_of}
use Rattle.node_plans.proofs.Items.{item-held, held-none, held-turn}
use Rattle.node_plans.proofs.numbers.touch_all.Goals as goal

pub loop-id-init : goal.loop-id-init
loop-id-init c = record { same = refl; places = refl; there = λ i l. absurd (held-none i c.args.ids.now l) }

pub touch-requires : goal.touch-requires
touch-requires c =
    let P : Table → Type 0 = λ f. IsSome (f c.id-item.result) in
    subst P (sym c.loop-id.invariant.same) (c.requires c.id-item.result (item-held c.args.ids.now c.loop-id.id-index c.id-item.result c.loop-id-test.true c.id-item.is))

pub returns-in_err-touch-clause-same : goal.returns-in_err-touch-clause-same
returns-in_err-touch-clause-same c = c.touch.ensures.same ∙ c.loop-id.invariant.same

pub returns-in_err-touch-clause-places : goal.returns-in_err-touch-clause-places
returns-in_err-touch-clause-places c = c.touch.ensures.places ∙ c.loop-id.invariant.places

pub loop-id-preserved : goal.loop-id-preserved
loop-id-preserved c =
    record {
      same = c.touch.ensures.same ∙ c.loop-id.invariant.same;
      places = c.touch.ensures.places ∙ c.loop-id.invariant.places;
      there = held-turn c.args.ids.now c.loop-id.id-index c.id-item.result c.loop-id-test.true c.id-item.is (λ i. IsSome (row_of c.touch.new.plan.rows i)) c.in_ok-touch.ensures.there (λ i l. c.touch.ensures.kept i (c.loop-id.invariant.there i l));
    }

pub returns-clause-there : goal.returns-clause-there
returns-clause-there c = λ i l. c.loop-id.invariant.there i (rw (take_all c.loop-id.id-index c.args.ids.now (let done = c.loop-id-test.false in omega arith)) l)
