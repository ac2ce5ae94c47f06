-- The static faults of a text (XQuery 1.0, section 2.3.1; XQuery Update Facility 1.0, section 2.5). They are sought in passes over the whole text,
-- and the first pass in which a fault stands gives the code (our own choice): tokens, brackets, grammar, functions, names that one clause
-- binds twice, variables that are not bound, categories.
use Rattle.std.specs.Prelude.{◌≡◌, ℕ, false, if◌then◌else◌, List, [], Option, Some, None, Result, Ok, Err}
use Rattle.fault_codes.specs.declared.code.Code.{Code}
use Rattle.fault_codes.specs.declared.code.Code.TheVariants.{XPST0003, XPST0008, XPST0017, XQST0089, PXQ0001}
use Rattle.query_tokens.specs.declared.fault.ParseFault.{ParseFault}
use Rattle.query_tokens.specs.declared.fault.ParseFault.TheVariants.{Memory, Static}
use Rattle.query_tokens.specs.declared.token.Token.{Token}
use Rattle.query_tokens.specs.Lexing.{tokens}
use Rattle.query_tokens.specs.Reading.{Read, Gives, Fails}
use Rattle.query_grammar.specs.declared.ast.Expr.{Expr}
use Rattle.query_grammar.specs.Grammar.{IsQuery}
use Rattle.query_grammar.specs.Reader.{query}
use Rattle.static_checks.specs.Brackets.{nests_too_deep}
use Rattle.static_checks.specs.Functions.{has_unknown_call}
use Rattle.static_checks.specs.Variables.{binds_a_name_twice, has_unbound}
use Rattle.static_checks.specs.Categories.{judged}

abbrev pub unless_fault : Option Code → Expr → Result Expr Code
unless_fault (Some code) x = Err code
unless_fault None x = Ok x

-- the passes over an expression
abbrev pub checked : Expr → Result Expr Code
checked x =
    if has_unknown_call x then Err XPST0017
    else (if binds_a_name_twice x then Err XQST0089
    else (if has_unbound x [] then Err XPST0008
    else unless_fault (judged x).fault x))

-- what the grammar has for tokens, checked
abbrev pub of_grammar : Option Expr → Result Expr Code
of_grammar None = Err XPST0003
of_grammar (Some x) = checked x

abbrev pub of_tokens : (level : ℕ) → List Token → Result Expr Code
of_tokens level ts = if nests_too_deep 0 ts then Err PXQ0001 else of_grammar (query level ts)

abbrev pub of_read : (level : ℕ) → Read (List Token) → Result Expr Code
of_read level (Gives ts rest) = of_tokens level ts
of_read level (Fails code) = Err code

-- the expression of a text (its characters) at a level, or its static code
abbrev pub parsed : (level : ℕ) → (text : List ℕ) → Result Expr Code
parsed level text = of_read level (tokens text)

-- what a parser answers; want of memory says nothing of the text
abbrev pub IsAnswer : Result Expr Code → Result Expr ParseFault → Type 0
IsAnswer outcome (Ok x) = outcome ≡ Ok x
IsAnswer outcome (Err Memory) = Unit {0}
IsAnswer outcome (Err (Static code)) = outcome ≡ Err code

-- no pass over the expression finds a fault
pub record HasNoFault (x : Expr) : Type 0 where
  pub functions : has_unknown_call x ≡ false
  pub names : binds_a_name_twice x ≡ false
  pub variables : has_unbound x [] ≡ false
  pub categories : (judged x).fault ≡ None

-- the text is spelt as the expression at a level, and has no static fault
pub record IsExpression (level : ℕ) (text : List ℕ) (x : Expr) : Type 0 where
  pub spelling : List Token
  pub read : tokens text ≡ Gives spelling []
  pub shallow : nests_too_deep 0 spelling ≡ false
  pub spelt : IsQuery level spelling x
  pub faultless : HasNoFault x
