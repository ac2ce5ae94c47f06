use Rattle.std.proofs.Common.{◌≡◌, ◌+◌, ◌*◌, length, map, option_copied}
use Rattle.std.specs.Option.{ForSome}
use Rattle.query_meaning.specs.Meaning.{mean}
use Rattle.clause_walks.specs.Walked.{RebindsAt, clause_of, for_one, with_variables}
use Rattle.evaluation.proofs.Each.{Goes}
use Rattle.clause_walks.proofs.walk.Walk.+tuples.Given as goal

abbrev pub decreases-tuples : goal.decreases-tuples
decreases-tuples g l = 3 * length l.self.now.clauses.now

abbrev pub decreases-for_each : goal.decreases-for_each
decreases-for_each g l = 3 * length l.self.now.clauses.now + 2

abbrev pub decreases-for_one : goal.decreases-for_one
decreases-for_one g l = 3 * length l.self.now.clauses.now + 1

abbrev pub decreases-let_all : goal.decreases-let_all
decreases-let_all g l = 3 * length l.self.now.clauses.now + 1

abbrev pub invariant-for_each-loop-item : goal.invariant-for_each-loop-item
invariant-for_each-loop-item g l =
    (l.index ≡ l.item-index)
    × ForSome l.former (RebindsAt l.fn.variable (option_copied l.fn.at) l.fn.self.variables.now)
    × Goes (g.A.AtTuple.fits l.fn.self.at_tuple.now) (λ i s x. for_one l.fn.variable (option_copied l.fn.at) (map (clause_of mean) l.fn.self.clauses.now) (g.A.AtTuple.means l.fn.self.at_tuple.now) (with_variables l.fn.self.variables.now (g.A.AtTuple.env l.fn.self.at_tuple.now)) i s x) l.fn.items l.fn.given l.fn.run l.item-index l.given l.run
