use Rattle.std.proofs.Common.{◌∙◌, ℕ, Ok, ap, length, rules, subst, sym}
use Rattle.std.specs.List.{All}
use Rattle.std.proofs.lemmas.Result.{err_from_is_err_and}
use Rattle.query_meaning.specs.Running.{trees_of}
use Rattle.evaluation.specs.Gives.{GivesIn}
use Rattle.sorted_tuples.specs.Keys.{AreKept}
use Rattle.item_expressions.specs.Others.{IsTest}
use Rattle.item_expressions.specs.Subjects.{IsVariable, OfSubject}
use Rattle.clause_walks.specs.Walked.{with_variables}
use Rattle.keyed_items.specs.Keyed.{AreKeys, kept_of_each}
use Rattle.keyed_items.proofs.Tuples.{as_many}
use Rattle.query_control.proofs.order.KeepingAtTuple.take_each.Goals as goal

pub keep_of_each-requires-clause-kept : goal.keep_of_each-requires-clause-kept
keep_of_each-requires-clause-kept g c =
    let keys = c.args.self.now.keys.now in
    let are : AreKeys keys c.in-Some.functions.items = search rules in
    let P : ℕ → Type 0 = λ n. AreKept n c.args.given.now c.args.run.now in
    subst P (as_many keys c.in-Some.functions.items are ∙ ap length (sym c.deref-in-Some-2.ensures.value)) c.requires.fits

pub returns-in_err-keep_of_each-in-Some-2 : goal.returns-in_err-keep_of_each-in-Some-2
returns-in_err-keep_of_each-in-Some-2 g c =
    let around = with_variables c.args.others.now c.args.self.now.env.now in
    let test = c.args.self.now.condition.now in
    let is : IsTest (trees_of c.args.run.now) test c.args.variable.now c.args.others.now c.in-Some-2.test = search rules in
    let keys = c.args.self.now.keys.now in
    let are : AreKeys keys c.in-Some.functions.items = search rules in
    let all : All (λ (f : OfSubject). IsVariable c.args.variable.now f.subject) c.deref.result.now = search rules in
    let means = rw c.deref.ensures.value at all in
    let p = err_from_is_err_and c.from_residual-in_err-keep_of_each-in-Some-2.result c.from_residual-in_err-keep_of_each-in-Some-2.ensures.1 in
    rw (p.1, p.2) ((rw (c.with-others.ensures, c.deref-in-Some-2.ensures.value) at c.in_err-keep_of_each-in-Some-2.ensures) test keys is are means)

pub returns-in_ok-keep_of_each-in-Some-2 : goal.returns-in_ok-keep_of_each-in-Some-2
returns-in_ok-keep_of_each-in-Some-2 g c =
    let around = with_variables c.args.others.now c.args.self.now.env.now in
    let test = c.args.self.now.condition.now in
    let is : IsTest (trees_of c.args.run.now) test c.args.variable.now c.args.others.now c.in-Some-2.test = search rules in
    let keys = c.args.self.now.keys.now in
    let are : AreKeys keys c.in-Some.functions.items = search rules in
    let all : All (λ (f : OfSubject). IsVariable c.args.variable.now f.subject) c.deref.result.now = search rules in
    let means = rw c.deref.ensures.value at all in
    let P : ℕ → Type 0 = λ n. GivesIn (AreKept n) (kept_of_each test keys c.args.variable.now around c.args.items.now c.args.given.now) c.args.run.now (Ok c.keep_of_each.new.given) c.keep_of_each.new.run in
    subst P (sym (as_many keys c.in-Some.functions.items are)) ((rw (c.with-others.ensures, c.deref-in-Some-2.ensures.value) at c.in_ok-keep_of_each-in-Some-2.ensures) test keys is are means)
