use Rattle.std.proofs.Common.{drop}
use Rattle.std.specs.List.{All}
use Rattle.item_expressions.specs.Subjects.{IsVariable, OfSubject}
use Rattle.keyed_items.proofs.keys.are_of.Given as goal

abbrev pub invariant-loop-function : goal.invariant-loop-function
invariant-loop-function l =
    All (λ (f : OfSubject). IsVariable l.fn.variable f.subject) (drop l.function-index l.fn.functions) → All (λ (f : OfSubject). IsVariable l.fn.variable f.subject) l.fn.functions
