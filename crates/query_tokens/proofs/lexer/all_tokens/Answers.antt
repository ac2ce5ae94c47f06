use Rattle.std.proofs.Common.{◌≤◌, length, sym, ap, ◌∙◌, arith}
use Rattle.query_tokens.specs.Reading.{Gives}
use Rattle.query_tokens.specs.Lexing.{is_left, next_token}
use Rattle.query_tokens.proofs.Shrinks.{next_token_takes, nothing_left, no_text}
use Rattle.query_tokens.proofs.Rounds as turn
use Rattle.query_tokens.proofs.lexer.all_tokens.Goals as goal

pub returns-then-not-is_left : goal.returns-then-not-is_left
returns-then-not-is_left c =
    let ended = sym c.is_left.ensures ∙ c.if-not-is_left.true in
    c.loop-turn.invariant.0 ∙ turn.ends (λ _ text. is_left text) next_token _ _ _ ended ∙ ap (λ r. Gives c.loop-turn.found r) (nothing_left c.loop-turn.rest.now ended)

pub returns-in_err-rest : goal.returns-in_err-rest
returns-in_err-rest c =
    turn.passed_whole _ _ _ c.in_err-rest.field-0.0 c.from_residual-in_err-rest.ensures.1
    (turn.is_fault_in (λ _ text. is_left text) next_token _ _ _ _ _ _ c.loop-turn-test.true (sym c.is_left.ensures ∙ c.if-not-is_left.false) c.in_err-rest.ensures c.loop-turn.invariant.0)

pub loop-turn-preserved : goal.loop-turn-preserved
loop-turn-preserved c =
    let more = sym c.is_left.ensures ∙ c.if-not-is_left.false in (
      c.loop-turn.invariant.0 ∙ turn.goes_on (λ _ text. is_left text) next_token _ _ _ _ _ _ c.loop-turn-test.true more c.in_ok-rest.ensures,
      omega (arith, next_token_takes _ _ _ _ more c.in_ok-rest.ensures),
    )

pub returns : goal.returns
returns c =
    let short : length c.loop-turn.rest.now ≤ 0 = omega (arith, c.loop-turn.invariant.1, c.loop-turn-test.false) in
    c.loop-turn.invariant.0 ∙ turn.runs_out (λ _ text. is_left text) next_token _ _ _ _ c.loop-turn-test.false ∙ ap (λ r. Gives c.loop-turn.found r) (no_text c.loop-turn.rest.now short)
