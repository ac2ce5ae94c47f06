use Rattle.std.proofs.Common.{rules}
use Rattle.query_meaning.specs.Sequences.{Tuple}
use Rattle.sorted_tuples.specs.Keys.{ranked}
use Rattle.sorted_tuples.proofs.Ranking.{comes_first_weak}
use Rattle.sorted_tuples.proofs.Sorting.{sort_inserts}
use Rattle.sorted_tuples.proofs.tuples.sort_by_keys.Goals as goal

pub returns : goal.returns
returns c =
    sort_inserts (λ (t : Tuple) u. ranked 0 c.args.keys.now t.keys u.keys) (comes_first_weak c.args.keys.now) c.sort_by.result _ _ c.sort_by.ensures.sorted c.sort_by.ensures.stable (λ a o f' k. search rules)
