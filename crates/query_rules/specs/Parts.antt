-- The parts of the readers that have functions of their own.
use Rattle.std.specs.Prelude.{ℕ, Bool, true, false, if◌then◌else◌, List, [], length}
use Rattle.std.specs.List.{flat_map}
use Rattle.query_tokens.specs.declared.kind.Kind.{Kind}
use Rattle.query_tokens.specs.declared.kind.Kind.TheVariants as k
use Rattle.query_tokens.specs.declared.token.Token.{Token}
use Rattle.query_grammar.specs.declared.ast.Expr.{Expr}
use Rattle.query_grammar.specs.declared.ast.Binding.{Binding}
use Rattle.query_grammar.specs.declared.ast.Clause.{Clause}
use Rattle.query_grammar.specs.declared.ast.Clause.TheVariants as clause
use Rattle.query_grammar.specs.declared.ast.Operation.{Operation}
use Rattle.query_grammar.specs.declared.ast.Place.{Place}
use Rattle.query_grammar.specs.declared.ast.Place.TheVariants as place
use Rattle.query_grammar.specs.Grammar as grammar
use Rattle.query_grammar.specs.Reader as r
use Rattle.query_grammar.specs.Reading.{Reader, pure, ◌>>=◌, ◌>>◌, choose, sees, at_level, eat, rounds, many}
use Rattle.query_parts.specs.Operators.{operator_at, looseness_at, is_once}
use Rattle.query_parts.specs.declared.precedence.Precedence.{Precedence}
use Rattle.query_parts.specs.declared.precedence.Precedence.TheVariants as precedence

-- one more of a list
abbrev pub after_comma : {A : Type 0} → Reader A → Reader A
after_comma item = eat k.Comma >> item

-- what follows the first of a list
abbrev pub more : {A : Type 0} → Reader A → Reader (List A)
more item = many (at_level 12) (after_comma item)

-- Operators, by how tightly they bind.

-- what stands between them
abbrev pub operand : Reader Expr → Precedence → Reader Expr
operand single precedence.Intersection = r.unary single
operand single precedence.Union = r.inter single
operand single precedence.Multiplication = r.union single
operand single precedence.Addition = r.multiplication single
operand single precedence.Range = r.addition single
operand single precedence.Comparison = r.range single
operand single precedence.Conjunction = r.comparison single
operand single precedence.Disjunction = r.conjunction single

abbrev pub operation : Reader Expr → Precedence → Reader (Operation Expr)
operation single p = r.operation (operator_at p) (operand single p)

-- how many of them there may be: each takes a token
abbrev pub turns : Precedence → List Token → ℕ
turns p ts = if is_once p then 1 else length ts

abbrev pub operations : Reader Expr → Precedence → Reader (List (Operation Expr))
operations single p = λ ts. rounds (at_level (looseness_at p)) (operation single p) (turns p ts) [] ts

abbrev pub binary : Reader Expr → Precedence → Reader Expr
binary single p = if is_once p
    then r.at_most_once (looseness_at p) (operator_at p) (operand single p)
    else r.chain (looseness_at p) (operator_at p) (operand single p)

-- the same, by its parts
abbrev pub chain : Reader Expr → Precedence → Reader Expr
chain single p = do
  first ← operand single p
  others ← operations single p
  pure (grammar.chain_of first others)

-- Paths.

-- the lists behind one another
abbrev pub flat : {A : Type 0} → List (List A) → List A
flat = flat_map (λ xs. xs)

abbrev pub segments : Reader Expr → Reader (List Expr)
segments single = many (at_level 2) (r.segment single) >>= (λ steps. pure (flat steps))

-- Clauses.

-- a variable, this mark and an expression
abbrev pub binding : Reader Expr → Kind → Reader (Binding Expr)
binding single mark = do
  found ← r.variable
  eat mark
  x ← single
  pure (record { variable = found; source = x })

-- a binding of a `for`, or else of a `let`
abbrev pub clause_of : Reader Expr → (iterates : Bool) → Reader (Clause Expr)
clause_of single true = r.for_binding single
clause_of single false = r.set_binding single >>= (λ b. pure (clause.Let b))

abbrev pub more_clauses : Reader Expr → Reader (List (Clause Expr))
more_clauses single = many (at_level 13) (r.clauses single) >>= (λ found. pure (flat found))

-- Constructors.

-- a constructor's word and its content
abbrev pub plain : Reader Expr → Kind → Reader Expr
plain single kind = eat kind >> r.braces single

-- The readers of a path and of clauses, by these parts.
abbrev pub path : Reader Expr → Reader Expr
path single = do
  first ← r.step single
  others ← segments single
  pure (grammar.path_of (grammar.step_of first) others)

-- the clauses of one `for` or `let`
abbrev pub clauses : Reader Expr → Reader (List (Clause Expr))
clauses single = choose (sees 0 k.For) (eat k.For >> r.list1 (clause_of single true)) (eat k.Let >> r.list1 (clause_of single false))

-- Updating expressions.

-- among the first or the last children
abbrev pub end_place : Reader Place
end_place = choose (sees 1 k.First)
    (eat k.As >> eat k.First >> eat k.Into >> pure place.FirstInto)
    (eat k.As >> eat k.Last >> eat k.Into >> pure place.LastInto)
