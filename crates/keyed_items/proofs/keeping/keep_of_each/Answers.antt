use Rattle.std.proofs.Common.{◌≡◌, ◌∙◌, ap, length, rules, subst, sym}
use Rattle.std.proofs.lemmas.Result.{err_from_is_err_and}
use Rattle.query_meaning.specs.Running.{Run, trees_of}
use Rattle.evaluation.proofs.Each.{ends, goes_on, stops}
use Rattle.sorted_tuples.specs.Keys.{AreKept}
use Rattle.item_expressions.specs.Others.{IsTest}
use Rattle.keyed_items.specs.Keyed.{kept_of}
use Rattle.keyed_items.proofs.keeping.keep_of_each.Goals as goal

pub returns-in_err-keep_of : goal.returns-in_err-keep_of
returns-in_err-keep_of c = λ condition keys is are means.
    let shared : c.in_ok-binding.binding.value ≡ record { others = c.args.others.now; variable = c.args.variable.now } = search rules in
    let P : Run → Type 0 = λ run. IsTest (trees_of run) condition c.args.variable.now c.args.others.now.variables c.args.test.now in
    let p = err_from_is_err_and c.from_residual-in_err-keep_of.result c.from_residual-in_err-keep_of.ensures.1 in
    rw (p.1, p.2)
    (stops (AreKept (length c.args.functions.now)) (λ _. kept_of condition keys c.args.variable.now c.args.others.now) _ _ _ _ _ _ c.keep_of.new.run c.item-item.result _ (c.loop-item.invariant.1.1 condition keys is are means) c.loop-item-test.true c.item-item.is
    ((rw shared at c.in_err-keep_of.ensures.gives) condition keys (subst P (sym c.loop-item.invariant.0) is) are means))

pub loop-item-preserved : goal.loop-item-preserved
loop-item-preserved c = (
  c.in_ok-keep_of.ensures.same ∙ ap over c.loop-item.invariant.0,
  (
    c.in_ok-keep_of.ensures.kept,
    λ condition keys is are means.
        let shared : c.in_ok-binding.binding.value ≡ record { others = c.args.others.now; variable = c.args.variable.now } = search rules in
        let P : Run → Type 0 = λ run. IsTest (trees_of run) condition c.args.variable.now c.args.others.now.variables c.args.test.now in
        goes_on (AreKept (length c.args.functions.now)) (λ _. kept_of condition keys c.args.variable.now c.args.others.now) _ _ _ _ _ _ _ _ c.item-item.result (c.loop-item.invariant.1.1 condition keys is are means) c.loop-item-test.true c.item-item.is
        ((rw shared at c.in_ok-keep_of.ensures.gives) condition keys (subst P (sym c.loop-item.invariant.0) is) are means),
  ),
)
  where
    over : Run → Run
    over run = record run { turns = c.keep_of.new.run.turns; work = c.keep_of.new.run.work }

pub returns : goal.returns
returns c = λ condition keys is are means.
    ends (AreKept (length c.args.functions.now)) (λ _. kept_of condition keys c.args.variable.now c.args.others.now) _ _ _ _ _ _ (c.loop-item.invariant.1.1 condition keys is are means) c.loop-item-test.false
