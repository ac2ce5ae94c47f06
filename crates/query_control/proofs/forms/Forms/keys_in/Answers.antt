use Rattle.std.proofs.Common.{arith}
use Rattle.std.proofs.lemmas.Result.{err_from_is_err_and}
use Rattle.query_meaning.specs.Meaning.{mean}
use Rattle.query_meaning.specs.Sequences.{key_in}
use Rattle.evaluation.specs.Gives.{Any}
use Rattle.evaluation.proofs.Each.{goes_on, stops_mapped, ends_mapped}
use Rattle.sorted_tuples.specs.Keys.{sort_key_of}
use Rattle.query_control.proofs.forms.Forms.keys_in.Goals as goal

pub loop-key-preserved : goal.loop-key-preserved
loop-key-preserved g c =
    (omega (arith, c.in_ok-found.ensures.width, c.loop-key.invariant.0), goes_on _ _ _ _ _ _ _ _ _ _ c.key-item.result c.loop-key.invariant.1 c.loop-key-test.true c.key-item.is c.in_ok-found.ensures.key)

pub returns-in_err-found-clause-keys : goal.returns-in_err-found-clause-keys
returns-in_err-found-clause-keys g c =
    let p = err_from_is_err_and c.from_residual.result c.from_residual.ensures.1 in
    rw (p.1, p.2) (stops_mapped Any (λ _. key_in c.args.env.now) (sort_key_of mean) _ _ _ _ _ _ c.and_key.new.run c.key-item.result _ c.loop-key.invariant.1 c.loop-key-test.true c.key-item.is c.in_err-found.ensures.key)

pub returns-clause-keys : goal.returns-clause-keys
returns-clause-keys g c = ends_mapped Any (λ _. key_in c.args.env.now) (sort_key_of mean) _ _ _ _ _ _ c.loop-key.invariant.1 c.loop-key-test.false
