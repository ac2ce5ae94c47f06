use Rattle.std.proofs.Common.{map, option_map}
use Rattle.query_meaning.specs.Meaning.{mean}
use Rattle.sorted_tuples.specs.Keys.{sort_key_of}
use Rattle.clause_walks.specs.Walked.{clause_of}
use Rattle.query_control.proofs.Kept.{ordered_gives}
use Rattle.query_control.proofs.forms.Forms.ordered.Goals as goal

pub returns : goal.returns
returns g c =
    ordered_gives (map (clause_of mean) c.args.clauses.now) (option_map mean c.args.condition.now) (map (sort_key_of mean) c.args.keys.now) (mean c.args.body.now) c.args.env.now _ _ _ _ _ _ c.in_ok-tuples.ensures c.as_slice.ensures c.returned_in_order.ensures
