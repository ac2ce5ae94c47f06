use Rattle.std.proofs.Common.{List, [], subst, sym}
use Rattle.std.proofs.lemmas.Result.{err_from_is_err_and}
use Rattle.query_meaning.specs.Copies.{Copy, and_copy, roots_of}
use Rattle.query_meaning.specs.Meaning.{mean}
use Rattle.evaluation.proofs.Each.{begins, ends_mapped, goes_on, stops_mapped, Goes}
use Rattle.evaluation.specs.Bindings.{binding_of}
use Rattle.query_copies.specs.Kept.{AreCopies}
use Rattle.query_copies.proofs.Adding.{no_copies}
use Rattle.query_copies.proofs.copies.Copies.copies.Goals as goal

pub loop-binding-init : goal.loop-binding-init
loop-binding-init g c =
    let run = c.args.run.now in
    let P : List Copy → Type 0 = λ cs. Goes (λ ds. AreCopies run (roots_of ds)) (λ _ ds b. and_copy c.args.env.now ds (binding_of mean b)) c.args.bindings.now [] run 0 cs run in
    subst P (sym c.new-copies.ensures) (begins (λ ds. AreCopies run (roots_of ds)) (λ _ ds b. and_copy c.args.env.now ds (binding_of mean b)) c.args.bindings.now [] run (no_copies run))

pub loop-binding-preserved : goal.loop-binding-preserved
loop-binding-preserved g c =
    let run = c.args.run.now in
    let gives = c.in_ok-copies.ensures.gives in
    goes_on (λ cs. AreCopies run (roots_of cs)) (λ _ cs b. and_copy c.args.env.now cs (binding_of mean b)) _ _ _ _ _ _ _ _ c.binding-item.result c.loop-binding.invariant c.loop-binding-test.true c.binding-item.is
    (gives.0, (gives.1.0, c.in_ok-copies.ensures.copies run c.loop-binding.invariant.fine))

pub returns-in_err-copies : goal.returns-in_err-copies
returns-in_err-copies g c =
    let run = c.args.run.now in
    let p = err_from_is_err_and c.from_residual.result c.from_residual.ensures.1 in
    rw (p.1, p.2)
    (stops_mapped (λ cs. AreCopies run (roots_of cs)) (λ _. and_copy c.args.env.now) (binding_of mean) _ _ _ _ _ _ c.and_copy.new.run c.binding-item.result _ c.loop-binding.invariant c.loop-binding-test.true c.binding-item.is c.in_err-copies.ensures.gives)

pub returns : goal.returns
returns g c = ends_mapped (λ cs. AreCopies c.args.run.now (roots_of cs)) (λ _. and_copy c.args.env.now) (binding_of mean) _ _ _ _ _ _ c.loop-binding.invariant c.loop-binding-test.false
