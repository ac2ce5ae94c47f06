use Rattle.std.proofs.Common.{◌≡◌, [], ◌∷◌, length, refl, rules}
use Rattle.std.proofs.lemmas.Result.{err_from_is_err_and}
use Rattle.query_meaning.specs.Environment.{with_variable}
use Rattle.keyed_items.proofs.Tuples.{kept_more, kept_on, test_turned, tuple_added, tuple_dropped, tuple_stops, tuple_unkeyed}
use Rattle.keyed_items.proofs.keeping.keep_of.Goals as goal

pub returns-in_err-holds-clause-gives : goal.returns-in_err-holds-clause-gives
returns-in_err-holds-clause-gives c = λ condition keys is are means.
    let env = c.args.binding.now.value.others in
    let turned = test_turned condition c.args.binding.now.value.variable c.args.binding.now.value.others.variables c.args.test.now c.args.run.now c.turn.new.self _ c.in_ok-turn.ensures is in
    let p = err_from_is_err_and c.from_residual-in_err-holds.result c.from_residual-in_err-holds.ensures.1 in
    rw (p.1, p.2) (tuple_stops condition keys c.args.functions.now c.args.binding.now.value.variable c.args.binding.now.value.others c.args.given.now c.args.item.now c.in_ok-read.read.item.now c.args.run.now c.turn.new.self _ c.in_ok-turn.ensures c.in_ok-read.ensures.0 c.holds.new.run _ (c.in_err-holds.ensures.holds condition c.args.binding.now.value.variable env.variables env turned refl))

pub returns-in_err-keys-clause-gives : goal.returns-in_err-keys-clause-gives
returns-in_err-keys-clause-gives c = λ condition keys is are means.
    let env = c.args.binding.now.value.others in
    let here = c.in_ok-read.read.item.now in
    let turned = test_turned condition c.args.binding.now.value.variable c.args.binding.now.value.others.variables c.args.test.now c.args.run.now c.turn.new.self _ c.in_ok-turn.ensures is in
    let p = err_from_is_err_and c.from_residual-in_err-keys.result c.from_residual-in_err-keys.ensures.1 in
    rw (p.1, p.2)
    (tuple_unkeyed condition keys c.args.functions.now c.args.binding.now.value.variable c.args.binding.now.value.others c.args.given.now c.args.item.now c.in_ok-read.read.item.now c.args.run.now c.turn.new.self _ c.in_ok-turn.ensures c.in_ok-read.ensures.0 are c.holds.new.run c.keys_of.new.run _ (rw c.if-branch.true at (c.in_ok-holds.ensures.holds condition c.args.binding.now.value.variable env.variables env turned refl))
    (c.in_err-keys.ensures.keys (with_variable c.args.binding.now.value.variable (here ∷ []) env) (λ k d below. means k d below here env)))

pub returns-then-branch-clause-gives : goal.returns-then-branch-clause-gives
returns-then-branch-clause-gives c = λ condition keys is are means.
    let env = c.args.binding.now.value.others in
    let here = c.in_ok-read.read.item.now in
    let turned = test_turned condition c.args.binding.now.value.variable c.args.binding.now.value.others.variables c.args.test.now c.args.run.now c.turn.new.self _ c.in_ok-turn.ensures is in
    let place : c.bound-place.result ≡ with_variable c.args.binding.now.value.variable (c.args.item.now ∷ []) c.args.binding.now.value.others = search rules in
    tuple_added condition keys c.args.functions.now c.args.binding.now.value.variable c.args.binding.now.value.others c.args.given.now c.args.item.now c.in_ok-read.read.item.now c.args.run.now c.turn.new.self _ c.in_ok-turn.ensures c.in_ok-read.ensures.0 are c.holds.new.run c.keys_of.new.run c.bound-place.result c.in_ok-keys.keys c.push.new.self c.push.result c.requires.ready c.requires.item c.requires.kept
    (rw c.if-branch.true at (c.in_ok-holds.ensures.holds condition c.args.binding.now.value.variable env.variables env turned refl))
    (c.in_ok-keys.ensures.keys (with_variable c.args.binding.now.value.variable (here ∷ []) env) (λ k d below. means k d below here env)) c.in_ok-keys.ensures.width place c.push.ensures.added c.push.ensures.code

pub returns-then-branch-clause-kept : goal.returns-then-branch-clause-kept
returns-then-branch-clause-kept c =
    let place : c.bound-place.result ≡ with_variable c.args.binding.now.value.variable (c.args.item.now ∷ []) c.args.binding.now.value.others = search rules in
    let same : c.keys_of.new.run ≡ record c.args.run.now { turns = c.keys_of.new.run.turns; work = c.keys_of.new.run.work } = search rules in
    kept_more c.args.binding.now.value.variable c.args.item.now c.args.binding.now.value.others c.bound-place.result c.args.given.now c.push.new.self c.in_ok-keys.keys (length c.args.functions.now) c.args.run.now c.keys_of.new.run c.push.result c.requires.ready c.requires.item c.requires.kept same c.in_ok-keys.ensures.width place c.push.ensures.added

pub returns-clause-gives : goal.returns-clause-gives
returns-clause-gives c = λ condition keys is are means.
    let env = c.args.binding.now.value.others in
    let turned = test_turned condition c.args.binding.now.value.variable c.args.binding.now.value.others.variables c.args.test.now c.args.run.now c.turn.new.self _ c.in_ok-turn.ensures is in
    tuple_dropped condition keys c.args.functions.now c.args.binding.now.value.variable c.args.binding.now.value.others c.args.given.now c.args.item.now c.in_ok-read.read.item.now c.args.run.now c.turn.new.self _ c.in_ok-turn.ensures c.in_ok-read.ensures.0 c.holds.new.run c.requires.kept (rw c.if-branch.false at (c.in_ok-holds.ensures.holds condition c.args.binding.now.value.variable env.variables env turned refl))

pub returns-clause-kept : goal.returns-clause-kept
returns-clause-kept c =
    let same : c.holds.new.run ≡ record c.args.run.now { turns = c.holds.new.run.turns; work = c.holds.new.run.work } = search rules in
    kept_on (length c.args.functions.now) c.args.given.now c.args.run.now c.holds.new.run c.requires.kept same
