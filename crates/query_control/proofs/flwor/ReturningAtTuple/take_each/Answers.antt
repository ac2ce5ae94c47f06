use Rattle.std.proofs.Common.{◌≡◌, Ok, refl, rules, subst}
use Rattle.std.proofs.lemmas.Result.{err_from_is_err_and}
use Rattle.query_grammar.specs.declared.ast.Expr.{Expr}
use Rattle.query_meaning.specs.Running.{trees_of}
use Rattle.evaluation.specs.Gives.{Fails, GivesIn, Stand}
use Rattle.item_expressions.specs.Looped.{returned_of_each}
use Rattle.item_expressions.specs.Others.{IsTest}
use Rattle.item_expressions.specs.Subjects.{IsVariable}
use Rattle.clause_walks.specs.Walked.{with_variables}
use Rattle.query_control.proofs.flwor.ReturningAtTuple.take_each.Goals as goal

pub returns-in_err-add_of_each-in-Some-2 : goal.returns-in_err-add_of_each-in-Some-2
returns-in_err-add_of_each-in-Some-2 g c =
    let around = with_variables c.args.others.now c.args.self.now.env.now in
    let test = c.args.self.now.condition.now in
    let is : IsTest (trees_of c.args.run.now) test c.args.variable.now c.args.others.now c.in-Some-2.test = search rules in
    let f = c.in-Some.function in
    let means : IsVariable c.args.variable.now f.subject = search rules in
    let same : f.expression ≡ c.args.self.now.body.now = search rules in
    let found = c.in_err-add_of_each-in-Some-2.field-0.0 in
    let p = err_from_is_err_and c.from_residual-in_err-add_of_each-in-Some-2.result c.from_residual-in_err-add_of_each-in-Some-2.ensures.1 in
    let P : Expr → Type 0 = λ x. Fails (returned_of_each test x c.args.variable.now around c.args.items.now c.args.given.now c.args.run.now) found in
    rw (p.1, p.2) (subst P same (c.in_err-add_of_each-in-Some-2.ensures test c.args.variable.now c.args.others.now around is means refl))

pub returns-in_ok-add_of_each-in-Some-2 : goal.returns-in_ok-add_of_each-in-Some-2
returns-in_ok-add_of_each-in-Some-2 g c =
    let around = with_variables c.args.others.now c.args.self.now.env.now in
    let test = c.args.self.now.condition.now in
    let is : IsTest (trees_of c.args.run.now) test c.args.variable.now c.args.others.now c.in-Some-2.test = search rules in
    let f = c.in-Some.function in
    let means : IsVariable c.args.variable.now f.subject = search rules in
    let same : f.expression ≡ c.args.self.now.body.now = search rules in
    let P : Expr → Type 0 = λ x. GivesIn Stand (returned_of_each test x c.args.variable.now around c.args.items.now c.args.given.now) c.args.run.now (Ok c.add_of_each.new.given) c.add_of_each.new.run in
    subst P same (c.in_ok-add_of_each-in-Some-2.ensures test c.args.variable.now c.args.others.now around is means refl)
