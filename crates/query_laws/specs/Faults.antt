-- The first fault of a text, in the order of the passes (our own choice): tokens, brackets, grammar, functions, names that one clause
-- binds twice, variables, categories.
use Rattle.std.specs.Prelude.{◌≡◌, ℕ, true, false, List, [], Some}
use Rattle.fault_codes.specs.declared.code.Code.{Code}
use Rattle.fault_codes.specs.declared.code.Code.TheVariants.{XPST0003, XPST0008, XPST0017, XQST0089, PXQ0001}
use Rattle.query_tokens.specs.declared.token.Token.{Token}
use Rattle.query_tokens.specs.Lexing.{tokens}
use Rattle.query_tokens.specs.Reading.{Gives, Fails}
use Rattle.query_grammar.specs.declared.ast.Expr.{Expr}
use Rattle.query_grammar.specs.Grammar.{IsQuery}
use Rattle.static_checks.specs.Brackets.{nests_too_deep}
use Rattle.static_checks.specs.Functions.{has_unknown_call}
use Rattle.static_checks.specs.Variables.{binds_a_name_twice, has_unbound}
use Rattle.static_checks.specs.Categories.{judged}

-- the whole text is read as these tokens, which open no more brackets than may be
pub record IsReadAs (text : List ℕ) (ts : List Token) : Type 0 where
  pub read : tokens text ≡ Gives ts []
  pub shallow : nests_too_deep 0 ts ≡ false

-- the text is spelt as the expression at a level
pub record IsSpelt (level : ℕ) (text : List ℕ) (x : Expr) : Type 0 where
  pub spelling : List Token
  pub is_read : IsReadAs text spelling
  pub spelt : IsQuery level spelling x

-- The passes over an expression, each after those before it have found no fault.
pub data FaultOf (x : Expr) : Code → Type 0 where
  UnknownCall : has_unknown_call x ≡ true → FaultOf x XPST0017
  NameBoundTwice : has_unknown_call x ≡ false → binds_a_name_twice x ≡ true → FaultOf x XQST0089
  UnboundVariable : has_unknown_call x ≡ false → binds_a_name_twice x ≡ false → has_unbound x [] ≡ true → FaultOf x XPST0008
  ByCategory : (code : Code) → has_unknown_call x ≡ false → binds_a_name_twice x ≡ false → has_unbound x [] ≡ false → (judged x).fault ≡ Some code → FaultOf x code

-- the code of the first pass over a text in which a fault stands
pub data FirstFault (level : ℕ) (text : List ℕ) : Code → Type 0 where
  OfTokens : (code : Code) → tokens text ≡ Fails code → FirstFault level text code
  OfBrackets : (ts : List Token) → tokens text ≡ Gives ts [] → nests_too_deep 0 ts ≡ true → FirstFault level text PXQ0001
  OfGrammar : (ts : List Token) → IsReadAs text ts → ((x : Expr) → ¬ IsQuery level ts x) → FirstFault level text XPST0003
  OfExpression : (x : Expr) (code : Code) → IsSpelt level text x → FaultOf x code → FirstFault level text code
