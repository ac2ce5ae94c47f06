use Rattle.std.proofs.Common.{◌≡◌, ◌≤◌, ◌<◌, ◌∙◌, ap, sym, refl, arith, length, take, reverse, append-nil, get_or}
use Rattle.std.proofs.lemmas.List.{take_all}
use Rattle.std.proofs.Math.ListN.{drop_of_length-le}
use Rattle.node_table.specs.Rows.{row_of}
use Rattle.node_table.specs.Plans.{changed}
use Rattle.node_table.proofs.Plans.{over-step, replaced-step, places-step}
use Rattle.node_table.proofs.exchange.exchange.Goals as goal

pub loop-change-init : goal.loop-change-init
loop-change-init c = record { rows = refl; plan = refl; room = c.requires.room; spare = omega arith }

pub make-requires : goal.make-requires
make-requires c =
    let within : c.loop-change.change-index < length c.loop-change.plan = omega (arith, c.loop-change-test.true, c.loop-change.auto.plan) in
    omega (arith, places-step c.loop-change.plan c.loop-change.change-index c.change-item.result c.change-item.result (row_of c.loop-change.rows) within, c.loop-change.invariant.room)

pub loop-change-preserved : goal.loop-change-preserved
loop-change-preserved c =
    let xs = c.loop-change.plan in
    let i = c.loop-change.change-index in
    let d = c.change-item.result in
    let x = get_or xs i d in
    let y = c.make.new.change in
    let f = row_of c.loop-change.rows in
    let within : i < length xs = omega (arith, c.loop-change-test.true, c.loop-change.auto.plan) in
    let now : row_of c.make.new.rows ≡ changed x.id x.row f = c.make.ensures.rows in
    let places = places-step xs i d y f within in
    record {
      rows = rw now (sym (over-step xs i d y f within) ∙ c.loop-change.invariant.rows);
      plan = rw now (sym (replaced-step xs i d y f within c.make.ensures.id c.make.ensures.was) ∙ c.loop-change.invariant.plan);
      room = omega (arith, places, c.loop-change.invariant.room, c.make.ensures.spare);
      spare = omega (arith, places, c.loop-change.invariant.spare, c.make.ensures.spare);
    }

pub returns-clause-rows : goal.returns-clause-rows
returns-clause-rows c =
    let ends : length c.loop-change.plan ≤ c.loop-change.change-index = omega (arith, c.loop-change-test.false, c.loop-change.auto.plan) in
    let none = drop_of_length-le c.loop-change.plan ends in rw none at c.loop-change.invariant.rows

pub returns-clause-plan : goal.returns-clause-plan
returns-clause-plan c =
    let ends : length c.loop-change.plan ≤ c.loop-change.change-index = omega (arith, c.loop-change-test.false, c.loop-change.auto.plan) in
    let none = drop_of_length-le c.loop-change.plan ends in
    let z = rw (none, append-nil) at c.loop-change.invariant.plan in
    let all : take c.loop-change.change-index c.loop-change.plan ≡ c.loop-change.plan = take_all c.loop-change.change-index c.loop-change.plan ends in
    c.reverse.ensures.after ∙ ap reverse (sym all ∙ z)

pub returns-clause-spare : goal.returns-clause-spare
returns-clause-spare c =
    let ends : length c.loop-change.plan ≤ c.loop-change.change-index = omega (arith, c.loop-change-test.false, c.loop-change.auto.plan) in
    let none = drop_of_length-le c.loop-change.plan ends in let z = rw none at c.loop-change.invariant.spare in omega arith
