-- What reading all tokens gives, said by the grammar.
use Rattle.std.proofs.Common.{◌≡◌, ℕ, suc, ◌+◌, List, length, Some, Result, Ok, Err, IfOk, subst, arith}
use Rattle.query_tokens.specs.declared.fault.ParseFault.{ParseFault}
use Rattle.query_tokens.specs.declared.token.Token.{Token}
use Rattle.query_grammar.specs.declared.ast.Expr.{Expr}
use Rattle.query_grammar.specs.Grammar.{IsQuery}
use Rattle.query_grammar.specs.Reader.{query, whole, exprs, single}
use Rattle.query_rules.specs.Reads.{GivesWhole}

pub query_gives : (level : ℕ) (ts : List Token) (n d : ℕ) (r : Result Expr ParseFault) → n ≡ length ts → d ≡ n + 1 → GivesWhole (whole (exprs (single level d) ts)) r → GivesWhole (query level ts) r
unfolding query
query_gives level ts n d r e f h = let deep : d ≡ suc (length ts) = omega arith in subst (λ k. GivesWhole (whole (exprs (single level k) ts)) r) deep h

pub spelt_of : (level : ℕ) (ts : List Token) (r : Result Expr ParseFault)
    → ((l : ℕ) (us : List Token) (x : Expr) → query l us ≡ Some x → IsQuery l us x)
    → GivesWhole (query level ts) r → IfOk r (λ x. IsQuery level ts x)
spelt_of level ts (Ok x) sound h = sound level ts x h
spelt_of level ts (Err fault) sound h = tt
