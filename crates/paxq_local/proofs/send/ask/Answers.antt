use Rattle.std.proofs.Common.{◌+◌, arith, IfOk, IfSome, Ok, ap, ◌∙◌, string_bytes}
use Rattle.paxq_local.specs.Told.{IsSaid, told_by_one}
use Rattle.paxq_local.specs.declared.asked.Said.{Said}
use Rattle.paxq_local.proofs.Brought.{brings-answer, brings-last, brings-none, said-after}
use Rattle.paxq_local.proofs.Giving.{given-again, given-none, if_err}
use Rattle.paxq_local.proofs.send.ask.Goals as goal

pub loop-turn-init : goal.loop-turn-init
loop-turn-init g c = (brings-none g.W.Wire.has_brought c.args.wire.now (λ _. Unit {0}) tt, omega arith, given-none g.W.Wire.was_given c.args.wire.now)

pub loop-turn-preserved : goal.loop-turn-preserved
loop-turn-preserved g c = (
  brings-last g.W.Wire.has_brought c.args.wire.now c.loop-turn.wire c.send_once.new.wire c.listen.new.wire (λ _. Unit {0})
      (λ xs. IfOk c.listen.result (λ o. IfSome o (λ (s : Said). IsSaid xs (told_by_one c.args.asked.now.form) c.args.group c.args.asked.now.id (string_bytes s.text)))) (λ _. Unit {0})
      c.loop-turn.invariant.0 c.send_once.ensures.brought c.listen.ensures.said (λ xs ys p q. tt),
  omega (arith, c.loop-turn-test.true),
  given-again g.W.Wire.was_given c.args.wire.now c.loop-turn.wire c.send_once.new.wire c.listen.new.wire c.loop-turn._turn _ _ (omega arith) c.loop-turn.invariant.2 c.send_once.ensures.given c.listen.ensures.given,
)

pub returns-in-Some-clause-said : goal.returns-in-Some-clause-said
returns-in-Some-clause-said g c =
    brings-answer g.W.Wire.has_brought c.args.wire.now c.loop-turn.wire c.send_once.new.wire c.listen.new.wire c.listen.result c.in-Some.said
    (λ xs s. IsSaid xs (told_by_one c.args.asked.now.form) c.args.group c.args.asked.now.id (string_bytes s.text))
    c.loop-turn.invariant.0 c.send_once.ensures.brought c.listen.ensures.said (c.in_ok-said.was ∙ ap Ok c.in-Some.is)
    (λ xs ys q. said-after xs ys (told_by_one c.args.asked.now.form) c.args.group c.args.asked.now.id (string_bytes c.in-Some.said.text) q)

pub returns-in-Some-clause-sent : goal.returns-in-Some-clause-sent
returns-in-Some-clause-sent g c = (c.loop-turn._turn + 1, omega (arith, c.loop-turn-test.true), given-again g.W.Wire.was_given c.args.wire.now c.loop-turn.wire c.send_once.new.wire c.listen.new.wire c.loop-turn._turn _ _ (omega arith) c.loop-turn.invariant.2 c.send_once.ensures.given c.listen.ensures.given, omega arith)

pub returns-in_err-said-clause-sent : goal.returns-in_err-said-clause-sent
returns-in_err-said-clause-sent g c = (c.loop-turn._turn + 1, omega (arith, c.loop-turn-test.true), given-again g.W.Wire.was_given c.args.wire.now c.loop-turn.wire c.send_once.new.wire c.listen.new.wire c.loop-turn._turn _ _ (omega arith) c.loop-turn.invariant.2 c.send_once.ensures.given c.listen.ensures.given, if_err _ c.from_residual.result c.from_residual.ensures.0)

pub returns-clause-sent : goal.returns-clause-sent
returns-clause-sent g c = (c.loop-turn._turn, c.loop-turn.invariant.1, c.loop-turn.invariant.2, omega (arith, c.loop-turn.invariant.1, c.loop-turn-test.false))
