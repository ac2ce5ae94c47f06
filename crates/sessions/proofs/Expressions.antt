-- What an evaluation gives is what the expression means, and what its primitives bring is new.
use Rattle.std.proofs.Common.{◌≡◌, ℕ, ◌≤◌, ◌<◌, List, Result, Ok, Err, ap, arith}
use Rattle.data_model.specs.Trees.{Trees, append, count}
use Rattle.trees.specs.Forest.{ForestTerm}
use Rattle.fault_codes.specs.declared.code.Code.{Code}
use Rattle.values.specs.declared.atom.Item.{Item}
use Rattle.query_grammar.specs.declared.ast.Expr.{Expr}
use Rattle.query_meaning.specs.Running.{Run}
use Rattle.query_meaning.specs.Environment.{no_environment}
use Rattle.query_meaning.specs.Meaning.{evaluated, mean, outcome, start}
use Rattle.meaning_laws.proofs.Sound.{both_counted}
use Rattle.evaluator.specs.Outcomes.{evaluated_over, given}
use Rattle.sessions.specs.Requests.{of_evaluated, failed}

no_value : (r : Result (List Item × Run) Code) (code : Code) → given r ≡ Err code → outcome r ≡ Err code
no_value (Ok p) code h = absurd cc
no_value (Err c) code h = cc

-- an evaluation that ends in a fault
pub fails : (x : Expr) (forest : ForestTerm) (code : Code) → evaluated_over x forest ≡ Err code → of_evaluated forest (evaluated x forest) ≡ failed forest code
unfolding evaluated
fails x forest code over = ap (of_evaluated forest) (no_value (mean x no_environment (start forest)) code over)

-- what primitives bring, beside what is stored alone
pub beside_stored : (ts us vs : Trees) → ((i : ℕ) → count i (append ts (append us vs)) ≤ 1) → (i : ℕ) → count i (append ts vs) ≤ 1
beside_stored ts us vs h i = (let l = h i in omega (arith, both_counted i ts (append us vs), both_counted i us vs, both_counted i ts vs))

pub among_new : (us vs : Trees) (i : ℕ) → 0 < count i vs → 0 < count i (append us vs)
among_new us vs i h = omega (arith, both_counted i us vs)
