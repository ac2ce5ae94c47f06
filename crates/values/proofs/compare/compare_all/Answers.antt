-- At each return the walk over the rows of pairs has ended.
use Rattle.std.proofs.Common.{◌≡◌, ℕ, List, get_or, subst, true, false, Ok, Err, refl, sym, ap, ◌∙◌}
use Rattle.std.proofs.lemmas.Result.{err_from_is_err_and}
use Rattle.values.specs.declared.atom.Atom.{Atom}
use Rattle.values.specs.Comparisons.{pair_compared, pair_work}
use Rattle.values.proofs.Pairs.{row-true, row-fault, row-false, no-row}
use Rattle.values.proofs.compare.compare_all.Goals as goal

-- an element that is the same value
same : (xs : List Atom) (n : ℕ) {x y : Atom} → x ≡ y → y ≡ get_or xs n y → x ≡ get_or xs n x
same xs n e is = subst (λ (x : Atom). x ≡ get_or xs n x) (sym e) is

pub returns-in_err-compare_with_each-clause-compared : goal.returns-in_err-compare_with_each-clause-compared
returns-in_err-compare_with_each-clause-compared c =
    let p = err_from_is_err_and c.from_residual.result c.from_residual.ensures.1 in
    let e = row-fault (pair_compared c.args.op) pair_work c.args.right.now c.args.left.now c.loop-value.value-index c.loop-value.turns c.loop-value.work c.args.turns.now c.args.work.now c.loop-value.invariant c.new.result c.loop-value-test.true (same c.args.left.now c.loop-value.value-index c.new.ensures c.value-item.is) (Err c.in_err-compare_with_each.field-0.0) c.compare_with_each.new.turns c.compare_with_each.new.work (record { result = c.in_err-compare_with_each.ensures.compared; left = tt }) c.in_err-compare_with_each.field-0.0 refl in
    p.1 ∙ ap Err p.2 ∙ e.result

pub returns-then-branch : goal.returns-then-branch
returns-then-branch c =
    let e = row-true (pair_compared c.args.op) pair_work c.args.right.now c.args.left.now c.loop-value.value-index c.loop-value.turns c.loop-value.work c.args.turns.now c.args.work.now c.loop-value.invariant c.new.result c.loop-value-test.true (same c.args.left.now c.loop-value.value-index c.new.ensures c.value-item.is) (Ok true) c.compare_with_each.new.turns c.compare_with_each.new.work (record { result = ap Ok (sym c.if-branch.true) ∙ c.in_ok-compare_with_each.ensures.compared; left = c.in_ok-compare_with_each.ensures.left }) refl in
    record { compared = e.result; left = e.left }

pub loop-value-preserved : goal.loop-value-preserved
loop-value-preserved c =
    row-false (pair_compared c.args.op) pair_work c.args.right.now c.args.left.now c.loop-value.value-index c.loop-value.turns c.loop-value.work c.args.turns.now c.args.work.now c.loop-value.invariant c.new.result c.loop-value-test.true (same c.args.left.now c.loop-value.value-index c.new.ensures c.value-item.is) (Ok false) c.compare_with_each.new.turns c.compare_with_each.new.work (record { result = ap Ok (sym c.if-branch.false) ∙ c.in_ok-compare_with_each.ensures.compared; left = c.in_ok-compare_with_each.ensures.left }) refl

pub returns : goal.returns
returns c =
    let e = no-row (pair_compared c.args.op) pair_work c.args.right.now c.args.left.now c.loop-value.value-index c.loop-value.turns c.loop-value.work c.args.turns.now c.args.work.now c.loop-value.invariant c.loop-value-test.false in
    record { compared = e.result; left = e.left }
