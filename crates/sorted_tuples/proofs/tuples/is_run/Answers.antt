use Rattle.std.proofs.Common.{◌≡◌, Bor, cond, rules}
use Rattle.std.specs.Ordering.{is_gt, is_le}
use Rattle.std.proofs.lemmas.Fn.{always_returns_same}
use Rattle.query_meaning.specs.Sequences.{Tuple}
use Rattle.sorted_tuples.specs.Keys.{ranked}
use Rattle.sorted_tuples.proofs.tuples.is_run.Goals as goal

pub returns : goal.returns
returns c =
    let order = λ (t u : Bor Tuple). ranked 0 c.args.keys.now t.now.keys u.now.keys in
    c.is_sorted_by.ensures.cases (λ t u. cond c.args.falls (is_gt (order t u)) (is_le (order t u))) (always_returns_same _ (λ a b. b ≡ cond c.args.falls (is_gt (order a.0.now a.1.0.now)) (is_le (order a.0.now a.1.0.now))) _ (λ a b f' k. search rules))
