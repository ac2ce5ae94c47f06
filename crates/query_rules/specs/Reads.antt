-- What reading all tokens gives, and what is asked of a function value that reads expressions.
use Rattle.std.specs.Prelude.{◌≡◌, ℕ, List, Option, Some, Result, Ok, Err}
use Rattle.std.specs.declared.alloc.Global.{Global}
use denote.Ref.{MutBor}
use Rattle.query_tokens.specs.declared.fault.ParseFault.{ParseFault}
use Rattle.query_tokens.specs.declared.token.Token.{Token}
use Rattle.query_grammar.specs.declared.ast.Expr.{Expr}
use Rattle.query_grammar.specs.Reader.{single, query}
use Rattle.query_parts.specs.Gives.{Fails, Gives}
use Rattle.query_rules.specs.declared.rules.Rules.{Rules}

-- what was read of all tokens
abbrev pub GivesWhole : Option Expr → Result Expr ParseFault → Type 0
GivesWhole outcome (Ok x) = outcome ≡ Some x
GivesWhole outcome (Err fault) = Fails outcome fault

-- the expression that the tokens are spelt as, at a level
abbrev pub IsParsed : (level : ℕ) → List Token → Result Expr ParseFault → Type 0
IsParsed level ts result = GivesWhole (query level ts) result

-- a function value that reads expressions at a level to a depth
pub record Nests (level : ℕ) (depth : ℕ) (pre : Global → ℕ → MutBor (List Token) → ℕ → Type 0)
    (post : Global → ℕ → MutBor (List Token) → ℕ → Result Expr ParseFault → MutBor (List Token) → Type 0) : Type 0 where
  pub callable : (alloc : Global) (old : MutBor (List Token)) → pre alloc level old depth
  pub reads : (alloc : Global) (old new : MutBor (List Token)) (r : Result Expr ParseFault) → post alloc level old depth r new
      → Gives (single level depth old.now) r new.now

-- rules whose function value reads expressions at their level to their depth
abbrev pub HasReader : {F : Type 0} (pre : F → Global → ℕ → MutBor (List Token) → ℕ → Type 0)
    (post : F → Global → ℕ → MutBor (List Token) → ℕ → Result Expr ParseFault → MutBor (List Token) → Type 0) → Rules F → Type 0
HasReader pre post rules = Nests rules.level rules.depth (pre rules.single) (post rules.single)
