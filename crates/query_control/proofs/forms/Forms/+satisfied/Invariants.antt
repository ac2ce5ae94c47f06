use Rattle.std.proofs.Common.{◌+◌, ◌*◌, length, map}
use Rattle.std.specs.Option.{ForSome}
use Rattle.query_meaning.specs.Meaning.{mean}
use Rattle.evaluation.specs.Bindings.{binding_of}
use Rattle.query_control.specs.Parts.{satisfied_by}
use Rattle.clause_walks.specs.Walked.{Rebinds}
use Rattle.query_control.proofs.Deciding.{Seeks}
use Rattle.query_control.proofs.forms.Forms.+satisfied.Given as goal

abbrev pub decreases-satisfied : goal.decreases-satisfied
decreases-satisfied g l = 3 * length l.bindings.now

abbrev pub decreases-until_decided : goal.decreases-until_decided
decreases-until_decided g l = 3 * length l.bindings.now + 2

abbrev pub decreases-satisfied_by : goal.decreases-satisfied_by
decreases-satisfied_by g l = 3 * length l.bindings.now + 1

abbrev pub invariant-until_decided-loop-item : goal.invariant-until_decided-loop-item
invariant-until_decided-loop-item g l =
    ForSome l.former (Rebinds l.fn.variable l.fn.env.variables)
    × Seeks l.fn.quantifier (λ x. satisfied_by l.fn.quantifier l.fn.variable (map (binding_of mean) l.fn.bindings) (mean l.fn.test) l.fn.env x) l.fn.items l.fn.run l.item-index l.run
