-- Operators with their right operands, by what these mean.
use Rattle.std.specs.Prelude.{Bool, true, false, not, ◌&&◌, ◌||◌, List, Option, Some, None}
use Rattle.values.specs.declared.atom.Item.{Item}
use Rattle.query_grammar.specs.declared.ast.Binary.{Binary}
use Rattle.query_grammar.specs.declared.ast.Binary.TheVariants as binary
use Rattle.query_grammar.specs.declared.ast.Operation.{Operation}
use Rattle.query_meaning.specs.Running.{M, pure, counted, each}
use Rattle.query_meaning.specs.Environment.{Environment}
use Rattle.query_meaning.specs.Sequences.{Meaning}
use Rattle.query_meaning.specs.Operators.{operated, set_of}
use Rattle.query_control.specs.declared.chain.SetOperator.{SetOperator}
use Rattle.query_control.specs.declared.chain.SetOperator.TheVariants as sets

abbrev pub operation_of : {A : Type 0} → (A → Meaning) → Operation A → Operation Meaning
operation_of f o = record { operator = o.operator; operand = f o.operand }

abbrev pub operand_of : {A : Type 0} → Operation A → A
operand_of o = o.operand

-- one operator more, whose work is counted
abbrev pub and_operation : Environment → List Item → Operation Meaning → M (List Item)
and_operation env given o = counted (operated o.operator given (o.operand env))

abbrev pub operated_in_turn : List (Operation Meaning) → Environment → List Item → M (List Item)
operated_in_turn os env left = each (λ _ given o. and_operation env given o) 0 os left

-- which value of the left side decides, so that the right one isn't evaluated
abbrev pub deciding : Binary → Option Bool
deciding binary.Or = Some true
deciding binary.And = Some false
deciding _ = None

-- an operator where both sides are evaluated
abbrev pub between : Binary → List Item → List Item → M (List Item)
between op left right = operated op left (pure right)

-- an operator between sets of nodes
abbrev pub set_operated : SetOperator → List Item → List Item → M (List Item)
set_operated sets.Union = set_of ◌||◌
set_operated sets.Intersect = set_of ◌&&◌
set_operated sets.Except = set_of (λ a b. a && not b)
