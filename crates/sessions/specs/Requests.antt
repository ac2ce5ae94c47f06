-- What one request does to a store (XQuery Update Facility 1.0, sections 2.4.1 and 3.2). That a request is done whole or not at all, with the code of its first fault, is section 2.4.1's; that it need not be updating is our own.
use Rattle.std.specs.Prelude.{ℕ, List, Option, Some, None, Result, Ok, Err}
use Rattle.std.specs.Str.{chars}
use Rattle.fault_codes.specs.declared.code.Code.{Code}
use Rattle.trees.specs.Forest.{ForestTerm}
use Rattle.query_grammar.specs.declared.ast.Expr.{Expr}
use Rattle.static_checks.specs.Static.{parsed}
use Rattle.pending.specs.Primitives.{PrimitiveTerm}
use Rattle.pending.specs.Compatible.{conflict}
use Rattle.query_meaning.specs.Meaning.{Outcome, evaluated}
use Rattle.update_meaning.specs.Results.{applied}
use Rattle.sessions.specs.declared.running.Ending.{Ending}
use Rattle.sessions.specs.declared.running.Ending.TheVariants.{Done, Fault}

-- the store that a request leaves, and how it ends
pub record Ran : Type 0 where
  pub forest : ForestTerm
  pub ending : Ending

-- a fault leaves the store as it was, the next identity too
abbrev pub failed : ForestTerm → Code → Ran
failed forest code = record { forest = forest; ending = Fault code }

-- the new store, or a fault
abbrev pub of_applied : ForestTerm → Result ForestTerm Code → Ran
of_applied forest (Ok new) = record { forest = new; ending = Done }
of_applied forest (Err code) = failed forest code

-- a list of primitives, which is compatible or not, from an evaluation after which `next` is the next identity
abbrev pub of_checked : ForestTerm → List PrimitiveTerm → (next : ℕ) → Option Code → Ran
of_checked forest ps next None = of_applied forest (applied ps next forest)
of_checked forest ps next (Some code) = failed forest code

abbrev pub of_evaluated : ForestTerm → Result Outcome Code → Ran
of_evaluated forest (Ok o) = of_checked forest o.primitives o.next (conflict o.primitives)
of_evaluated forest (Err code) = failed forest code

abbrev pub of_parsed : ForestTerm → Result Expr Code → Ran
of_parsed forest (Ok x) = of_evaluated forest (evaluated x forest)
of_parsed forest (Err code) = failed forest code

-- what a request of that text does to the store, at a level of the language
unfoldable pub run : ForestTerm → (level : ℕ) → (text : List ℕ) → Ran
run forest level text = of_parsed forest (parsed level (chars text))
