use Rattle.std.proofs.Common.{sym, ◌∙◌}
use Rattle.query_grammar.specs.Reader.{sees_sign}
use Rattle.query_grammar.specs.Reading.{take_as}
use Rattle.query_grammar.specs.Words.{sign_of}
use Rattle.query_rules.proofs.Turns.{one_round}
use Rattle.query_rules.proofs.operators.signs.Goals as goal

pub loop-turn-preserved : goal.loop-turn-preserved
loop-turn-preserved c =
    c.loop-turn.invariant ∙ one_round sees_sign (take_as sign_of) _ _ _ _ _ _ _ c.loop-turn-test.true (sym c.sees_sign.ensures ∙ c.if-not-sees_sign.false) c.in_ok-sign.ensures c.in_ok-push.ensures.ok
