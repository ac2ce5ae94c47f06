use Rattle.std.proofs.Common.{sym, ◌∙◌}
use Rattle.query_tokens.specs.Lexing.{is_separated, separator}
use Rattle.query_tokens.proofs.Rounds as turn
use Rattle.query_tokens.proofs.separators.separators.Goals as goal

pub returns-then-not-is_separated : goal.returns-then-not-is_separated
returns-then-not-is_separated c =
    c.loop-turn.invariant ∙ turn.ends (λ _ text. is_separated text) (λ _. separator) _ _ _ (sym c.is_separated.ensures ∙ c.if-not-is_separated.true)

pub returns-in_err-rest : goal.returns-in_err-rest
returns-in_err-rest c =
    turn.passed_on _ _ _ _ c.in_err-rest.field-0.0 c.from_residual.ensures.1
    (turn.is_fault_in (λ _ text. is_separated text) (λ _. separator) _ _ _ _ _ _ c.loop-turn-test.true (sym c.is_separated.ensures ∙ c.if-not-is_separated.false) c.in_err-rest.ensures c.loop-turn.invariant)

pub loop-turn-preserved : goal.loop-turn-preserved
loop-turn-preserved c =
    c.loop-turn.invariant ∙ turn.goes_on (λ _ text. is_separated text) (λ _. separator) _ _ _ _ _ _ c.loop-turn-test.true (sym c.is_separated.ensures ∙ c.if-not-is_separated.false) c.in_ok-rest.ensures

pub returns : goal.returns
returns c = c.loop-turn.invariant ∙ turn.runs_out (λ _ text. is_separated text) (λ _. separator) _ _ _ _ c.loop-turn-test.false
