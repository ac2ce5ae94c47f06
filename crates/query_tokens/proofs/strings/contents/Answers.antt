use Rattle.std.proofs.Common.{sym, ◌∙◌}
use Rattle.query_tokens.specs.Lexing.{is_in_string, more_content}
use Rattle.query_tokens.proofs.Rounds as turn
use Rattle.query_tokens.proofs.strings.contents.Goals as goal

pub returns-then-not-is_in_string : goal.returns-then-not-is_in_string
returns-then-not-is_in_string c =
    c.loop-turn.invariant ∙ turn.ends (λ _ text. is_in_string c.args.quote text) (more_content c.args.quote) _ _ _ (sym c.is_in_string.ensures ∙ c.if-not-is_in_string.true)

pub returns-in_err-rest : goal.returns-in_err-rest
returns-in_err-rest c =
    turn.passed_on _ _ _ _ c.in_err-rest.field-0.0 c.from_residual.ensures.1
    (turn.is_fault_in (λ _ text. is_in_string c.args.quote text) (more_content c.args.quote) _ _ _ _ _ _ c.loop-turn-test.true (sym c.is_in_string.ensures ∙ c.if-not-is_in_string.false) c.in_err-rest.ensures c.loop-turn.invariant)

pub loop-turn-preserved : goal.loop-turn-preserved
loop-turn-preserved c =
    c.loop-turn.invariant ∙ turn.goes_on (λ _ text. is_in_string c.args.quote text) (more_content c.args.quote) _ _ _ _ _ _ c.loop-turn-test.true (sym c.is_in_string.ensures ∙ c.if-not-is_in_string.false) c.in_ok-rest.ensures

pub returns : goal.returns
returns c = c.loop-turn.invariant ∙ turn.runs_out (λ _ text. is_in_string c.args.quote text) (more_content c.args.quote) _ _ _ _ c.loop-turn-test.false
