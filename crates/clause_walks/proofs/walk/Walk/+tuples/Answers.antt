use Rattle.std.proofs.Common.{None, Some, map, arith, rules}
use Rattle.query_meaning.specs.Meaning.{mean}
use Rattle.clause_walks.specs.Walked.{clause_of, with_variables}
use Rattle.item_expressions.specs.Looped.{leaving}
use Rattle.clause_walks.proofs.Clauses.{clauses_rest}
use Rattle.clause_walks.proofs.Clauses.{tuples_for, one_gives}
use Rattle.item_expressions.proofs.Returned.{grows_turned}
use Rattle.clause_walks.proofs.Values.{ready_in_turn}
use Rattle.clause_walks.proofs.walk.Walk.+tuples.Goals as goal

pub tuples-let_all-requires : goal.tuples-let_all-requires
tuples-let_all-requires g t c κs within =
    let fits = g.met.A.AtTuple.lasts c.args.self.now.at_tuple.now c.args.given.now c.args.run.now c.value_of.new.run c.in_ok-items.ensures.1.0 c.requires.fits in
    let rest = clauses_rest (g.A.AtTuple.can_evaluate c.args.self.now.at_tuple.now) _ _ _ c.in-Some.ensures.cases.0 c.requires.clauses in
    (omega (arith, c.in-Some.ensures.cases.1, c.decreases), (search rules, (search rules, (search rules, (rest, (search rules, (search rules, (search rules, fits))))))))

pub tuples-for_each-requires : goal.tuples-for_each-requires
tuples-for_each-requires g t c κs within =
    let fits = g.met.A.AtTuple.lasts c.args.self.now.at_tuple.now c.args.given.now c.args.run.now c.value_of.new.run c.in_ok-items.ensures.1.0 c.requires.fits in
    let rest = clauses_rest (g.A.AtTuple.can_evaluate c.args.self.now.at_tuple.now) _ _ _ c.in-Some.ensures.cases.0 c.requires.clauses in
    (omega (arith, c.in-Some.ensures.cases.1, c.decreases), (search rules, (search rules, (search rules, (rest, (search rules, (search rules, (search rules, (search rules, fits)))))))))

pub tuples-for_each-requires-in-ForAt : goal.tuples-for_each-requires-in-ForAt
tuples-for_each-requires-in-ForAt g t c κs within =
    let fits = g.met.A.AtTuple.lasts c.args.self.now.at_tuple.now c.args.given.now c.args.run.now c.value_of.new.run c.in_ok-items.ensures.1.0 c.requires.fits in
    let rest = clauses_rest (g.A.AtTuple.can_evaluate c.args.self.now.at_tuple.now) _ _ _ c.in-Some.ensures.cases.0 c.requires.clauses in
    (omega (arith, c.in-Some.ensures.cases.1, c.decreases), (search rules, (search rules, (search rules, (rest, (search rules, (search rules, (search rules, (search rules, fits)))))))))

pub tuples-returns-in-For : goal.tuples-returns-in-For
tuples-returns-in-For g t c =
    tuples_for (g.A.AtTuple.fits c.args.self.now.at_tuple.now) _ _ _ _ None _ _ _ _ _ _ _ _ _ _ c.in-Some.ensures.cases.0 c.in-For.is c.source_of.ensures c.in_ok-items.ensures c.as_slice.ensures.items c.for_each.ensures

pub tuples-returns-in-ForAt : goal.tuples-returns-in-ForAt
tuples-returns-in-ForAt g t c =
    tuples_for (g.A.AtTuple.fits c.args.self.now.at_tuple.now) _ _ _ _ (Some _) _ _ _ _ _ _ _ _ _ _ c.in-Some.ensures.cases.0 c.in-ForAt.is c.source_of.ensures c.in_ok-items.ensures c.as_slice-in-ForAt.ensures.items c.for_each-in-ForAt.ensures

pub for_one-tuples-found-requires : goal.for_one-tuples-found-requires
for_one-tuples-found-requires g t c κs within =
    let fits = g.met.A.AtTuple.lasts c.args.self.now.at_tuple.now c.args.given.now c.args.run.now c.turn.new.self (grows_turned _ _ _ c.in_ok-turn.ensures) c.requires.fits in
    let ready = ready_in_turn _ _ _ _ (with_variables c.args.self.now.variables.now (g.A.AtTuple.env c.args.self.now.at_tuple.now)) _ _ _ _ c.requires.ready c.requires.item c.in_ok-turn.ensures c.in_ok-variables.ensures in
    (omega (arith, c.decreases), (search rules, (search rules, (search rules, (search rules, (search rules, (ready, fits)))))))

pub for_one-returns : goal.for_one-returns
for_one-returns g t c =
    let env = with_variables c.args.self.now.variables.now (g.A.AtTuple.env c.args.self.now.at_tuple.now) in
    record {
      gives = one_gives (g.A.AtTuple.fits c.args.self.now.at_tuple.now) _ _ (map (clause_of mean) c.args.self.now.clauses.now) (g.A.AtTuple.means c.args.self.now.at_tuple.now) env c.args.index c.args.given.now _ _ c.args.run.now c.turn.new.self c.tuples-found.new.run _ (leaving c.tuples-found.result c.tuples-found.new.given) c.in_ok-turn.ensures c.in_ok-variables.ensures c.tuples-found.ensures;
      former = search rules;
    }
