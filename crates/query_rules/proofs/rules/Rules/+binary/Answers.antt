use Rattle.std.proofs.Common.{List, Option, Some, Result, sym, ap, ◌∙◌, subst}
use Rattle.std.proofs.lemmas.Result.{err_from_is_err_and}
use Rattle.query_tokens.specs.declared.token.Token.{Token}
use Rattle.query_tokens.specs.declared.fault.ParseFault.{ParseFault}
use Rattle.query_grammar.specs.declared.ast.Expr.{Expr}
use Rattle.query_grammar.specs.declared.ast.Operation.{Operation}
use Rattle.query_grammar.specs.Grammar as grammar
use Rattle.query_grammar.specs.Reader as r
use Rattle.query_grammar.specs.Reading.{and_then, at_level, pure}
use Rattle.query_parts.specs.Gives.{Gives}
use Rattle.query_parts.specs.Operators.{looseness_at}
use Rattle.query_rules.specs.Parts as part
use Rattle.query_rules.proofs.Turns.{alone, first_fails, one_round, operand_fails, operand_then, operations_fail, tighter_is}
use Rattle.query_rules.proofs.rules.Rules.+binary.Goals as goal

pub operations-loop-turn-preserved : goal.operations-loop-turn-preserved
operations-loop-turn-preserved g t c =
    c.loop-turn.invariant ∙ one_round (at_level (looseness_at c.args.precedence)) (part.operation (r.single c.args.self.now.level c.args.self.now.depth) c.args.precedence) _ _ _ _ _ _ _ c.loop-turn-test.true (sym c.at_level.ensures ∙ c.if-not-at_level.false) c.in_ok-operation.ensures c.in_ok-push.ensures.ok

pub operand_from-returns-in-Some : goal.operand_from-returns-in-Some
operand_from-returns-in-Some g t c ts read =
    let P : Option (Expr × List Token) → Type 0 = λ o. Gives o c.continued.result c.continued.new.tokens in
    subst P (sym (tighter_is _ c.args.precedence c.in-Some.tighter ts (sym c.tighter.ensures ∙ c.in-Some.is))) (c.continued.ensures ts read)

pub continued-returns-in_err-first : goal.continued-returns-in_err-first
continued-returns-in_err-first g t c ts read =
    let p = err_from_is_err_and c.from_residual.result c.from_residual.ensures.1 in
    rw (p.1, p.2) (operand_fails _ c.args.precedence ts c.in_err-first.field-0.0 (c.in_err-first.ensures ts read))

pub continued-returns-in_err-first-2 : goal.continued-returns-in_err-first-2
continued-returns-in_err-first-2 g t c ts read =
    let p = err_from_is_err_and c.from_residual-in_err-first-2.result c.from_residual-in_err-first-2.ensures.1 in
    let P : Result (List (Operation Expr)) ParseFault → Type 0 =
    λ found. Gives (part.operations (r.single c.args.self.now.level c.args.self.now.depth) c.args.precedence c.operand_from.new.tokens) found c.operations.new.tokens in
    rw (p.1, p.2) (operations_fail _ c.args.precedence c.in_ok-first.first ts c.operand_from.new.tokens c.in_err-first-2.field-0.0 (c.in_ok-first.ensures ts read) (subst P c.in_err-first-2.ensures.err c.operations.ensures))

pub continued-returns : goal.continued-returns
continued-returns g t c ts read =
    let P : Result (List (Operation Expr)) ParseFault → Type 0 =
    λ found. Gives (part.operations (r.single c.args.self.now.level c.args.self.now.depth) c.args.precedence c.operand_from.new.tokens) found c.operations.new.tokens in
    operand_then _ c.args.precedence c.in_ok-first.first ts c.operand_from.new.tokens (c.in_ok-first.ensures ts read)
    ∙ ap (λ o. and_then o (λ others. pure (grammar.chain_of c.in_ok-first.first others))) (subst P c.in_ok-first-2.ensures.ok.1 c.operations.ensures)
    ∙ ap (λ x. Some (x, c.operations.new.tokens)) (ap (λ first. grammar.chain_of first c.in_ok-first-2.others) (sym c.in_ok-first-2.ensures.ok.0) ∙ sym c.in_ok-chain_of.ensures)

pub binary-returns-in_err-first : goal.binary-returns-in_err-first
binary-returns-in_err-first g t c =
    let p = err_from_is_err_and c.from_residual.result c.from_residual.ensures.1 in
    rw (p.1, p.2) (first_fails _ c.args.precedence c.args.tokens.now c.in_err-first.field-0.0 c.in_err-first.ensures)

pub binary-returns-then-not-goes_on : goal.binary-returns-then-not-goes_on
binary-returns-then-not-goes_on g t c =
    alone _ c.args.precedence c.in_ok-first.first c.args.tokens.now c.unary.new.tokens c.in_ok-first.ensures (sym c.goes_on.ensures ∙ c.if-not-goes_on.true)
