-- The tuples so far, where nothing was done but to take turns and work.
use Rattle.std.proofs.Common.{◌≡◌, List, Option, length}
use Rattle.std.specs.List.{All}
use Rattle.query_grammar.specs.declared.ast.Expr.{Expr}
use Rattle.query_grammar.specs.declared.ast.SortKey.{SortKey}
use Rattle.query_meaning.specs.Running.{trees_of}
use Rattle.evaluation.proofs.Each.{Goes}
use Rattle.sorted_tuples.specs.Keys.{AreKept}
use Rattle.item_expressions.specs.Others.{IsTest}
use Rattle.item_expressions.specs.Subjects.{IsVariable, OfSubject}
use Rattle.keyed_items.specs.Keyed.{AreKeys, kept_of}
use Rattle.keyed_items.proofs.keeping.keep_of_each.Given as goal

abbrev pub invariant-loop-item : goal.invariant-loop-item
invariant-loop-item l =
    (l.run ≡ record l.fn.run { turns = l.run.turns; work = l.run.work })
    × (AreKept (length l.fn.functions) l.given l.run
    × ((condition : Option Expr) (keys : List (SortKey Expr)) → IsTest (trees_of l.fn.run) condition l.fn.variable l.fn.others.variables l.fn.test → AreKeys keys l.fn.functions
    → All (λ (f : OfSubject). IsVariable l.fn.variable f.subject) l.fn.functions
    → Goes (AreKept (length l.fn.functions)) (λ _. kept_of condition keys l.fn.variable l.fn.others) l.fn.items l.fn.given l.fn.run l.item-index l.given l.run))
