use Rattle.std.proofs.Common.{true, false, Ok, Err, option_map, refl, rules, subst, sym}
use Rattle.std.proofs.lemmas.Result.{err_from_is_err_and}
use Rattle.query_meaning.specs.Environment.{Environment}
use Rattle.query_meaning.specs.Meaning.{mean}
use Rattle.query_meaning.specs.Running.{trees_of}
use Rattle.evaluation.specs.Gives.{IsReady}
use Rattle.item_expressions.specs.Lasting.{ready_on, stand_on, there_on}
use Rattle.item_expressions.specs.Looped.{leaving}
use Rattle.item_expressions.specs.Others.{IsTest}
use Rattle.item_expressions.proofs.Returned.{fails, passes, stops}
use Rattle.clause_walks.specs.Walked.{bound, with_variables}
use Rattle.query_control.proofs.flwor.ReturningAtTuple.take_item.Goals as goal

pub holds-requires-clause-read : goal.holds-requires-clause-read
holds-requires-clause-read g c = c.unread.ensures.read _ c.requires.item

pub and_bound-requires-clause-ready : goal.and_bound-requires-clause-ready
and_bound-requires-clause-ready g c =
    let around = with_variables c.args.others.now c.args.self.now.env.now in
    let test = c.args.self.now.condition.now in
    let is : IsTest (trees_of c.args.run.now) test c.args.variable.now c.args.others.now c.in-Some.test = search rules in
    let tells = rw c.unread.ensures.item at (c.in_ok-holds.ensures.holds test c.args.variable.now c.args.others.now around is refl) in
    let P : Environment → Type 0 = λ e. IsReady e c.holds.new.run in
    subst P (sym c.with-others.ensures) (ready_on around c.args.run.now c.holds.new.run tells.1.0 c.requires.ready)

pub and_bound-requires-clause-item : goal.and_bound-requires-clause-item
and_bound-requires-clause-item g c =
    let around = with_variables c.args.others.now c.args.self.now.env.now in
    let test = c.args.self.now.condition.now in
    let is : IsTest (trees_of c.args.run.now) test c.args.variable.now c.args.others.now c.in-Some.test = search rules in
    let tells = rw c.unread.ensures.item at (c.in_ok-holds.ensures.holds test c.args.variable.now c.args.others.now around is refl) in
    there_on c.args.item.now c.args.run.now c.holds.new.run tells.1.0 c.requires.item

pub and_bound-requires-clause-stand : goal.and_bound-requires-clause-stand
and_bound-requires-clause-stand g c =
    let around = with_variables c.args.others.now c.args.self.now.env.now in
    let test = c.args.self.now.condition.now in
    let is : IsTest (trees_of c.args.run.now) test c.args.variable.now c.args.others.now c.in-Some.test = search rules in
    let tells = rw c.unread.ensures.item at (c.in_ok-holds.ensures.holds test c.args.variable.now c.args.others.now around is refl) in
    stand_on c.args.given.now c.args.run.now c.holds.new.run tells.1.0 c.requires.fits

pub returns-in_err-holds-clause-gives : goal.returns-in_err-holds-clause-gives
returns-in_err-holds-clause-gives g c =
    let around = with_variables c.args.others.now c.args.self.now.env.now in
    let here = with_variables (bound c.args.variable.now c.args.item.now c.args.others.now) c.args.self.now.env.now in
    let test = c.args.self.now.condition.now in
    let is : IsTest (trees_of c.args.run.now) test c.args.variable.now c.args.others.now c.in-Some.test = search rules in
    let p = err_from_is_err_and c.from_residual-in_err-holds.result c.from_residual-in_err-holds.ensures.1 in
    let tells = rw c.unread.ensures.item at (c.in_err-holds.ensures.holds test c.args.variable.now c.args.others.now around is refl) in
    rw (p.1, p.2) (stops (option_map mean test) (mean c.args.self.now.body.now) here c.args.given.now c.args.run.now c.holds.new.run (Err _) tells _ refl)

pub returns-then-branch-clause-gives : goal.returns-then-branch-clause-gives
returns-then-branch-clause-gives g c =
    let here = with_variables (bound c.args.variable.now c.args.item.now c.args.others.now) c.args.self.now.env.now in
    let around = with_variables c.args.others.now c.args.self.now.env.now in
    let test = c.args.self.now.condition.now in
    let is : IsTest (trees_of c.args.run.now) test c.args.variable.now c.args.others.now c.in-Some.test = search rules in
    let tells = rw c.unread.ensures.item at (c.in_ok-holds.ensures.holds test c.args.variable.now c.args.others.now around is refl) in
    passes (option_map mean test) (mean c.args.self.now.body.now) here c.args.given.now c.args.run.now c.holds.new.run (Ok true) (rw c.if-branch.true at tells) c.and_bound.new.run (leaving c.and_bound.result c.and_bound.new.given) refl (rw (c.get-body.ensures, c.with-others.ensures) at c.and_bound.ensures.gives)

pub returns-clause-gives : goal.returns-clause-gives
returns-clause-gives g c =
    let here = with_variables (bound c.args.variable.now c.args.item.now c.args.others.now) c.args.self.now.env.now in
    let around = with_variables c.args.others.now c.args.self.now.env.now in
    let test = c.args.self.now.condition.now in
    let is : IsTest (trees_of c.args.run.now) test c.args.variable.now c.args.others.now c.in-Some.test = search rules in
    let tells = rw c.unread.ensures.item at (c.in_ok-holds.ensures.holds test c.args.variable.now c.args.others.now around is refl) in
    fails (option_map mean test) (mean c.args.self.now.body.now) here c.args.given.now c.args.run.now c.holds.new.run (Ok false) (rw c.if-branch.false at tells) refl c.requires.fits
