use Rattle.std.proofs.Common.{sym, ◌∙◌}
use Rattle.query_grammar.specs.Reader as r
use Rattle.query_grammar.specs.Reading.{at_level}
use Rattle.query_rules.proofs.Turns.{flat_begun, one_flat_round}
use Rattle.query_rules.proofs.rules.Rules.segments.Goals as goal

pub loop-turn-init : goal.loop-turn-init
loop-turn-init g c = flat_begun (at_level 2) (r.segment (r.single c.args.self.now.level c.args.self.now.depth)) c.args.tokens.now _ _ c.left-turn-end.ensures c.new-found.ensures

pub loop-turn-preserved : goal.loop-turn-preserved
loop-turn-preserved g c =
    c.loop-turn.invariant ∙ one_flat_round (at_level 2) (r.segment (r.single c.args.self.now.level c.args.self.now.depth)) _ _ _ _ _ _ _ c.loop-turn-test.true (sym c.at_level.ensures ∙ c.if-not-at_level.false) c.in_ok-steps.ensures c.in_ok-append.ensures
