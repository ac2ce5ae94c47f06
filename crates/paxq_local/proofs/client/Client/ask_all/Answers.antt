use Rattle.std.proofs.Common.{◌+◌, Bool, List, get_or, arith, false, Ok, ap, refl, ◌∙◌}
use Rattle.std.specs.declared.alloc.AllocError.{AllocError}
use Rattle.paxq_local.specs.Members.{HoldsSaid}
use Rattle.paxq_local.specs.declared.answers.Told.TheVariants.{NoAnswer}
use Rattle.paxq_local.specs.declared.asked.Form.TheVariants.{Ask}
use Rattle.paxq_local.proofs.Brought.{brings-none}
use Rattle.paxq_local.proofs.Giving.{if_err}
use Rattle.paxq_local.proofs.Hearing.{holds-last, told-last}
use Rattle.paxq_local.proofs.Holding.{holds-none, none-set}
use Rattle.paxq_local.proofs.Tries.{gives-round, gives-rounds-none, gives-tried, not-tried}
use Rattle.paxq_local.proofs.client.Client.ask_all.Goals as goal

pub loop-turn-init : goal.loop-turn-init
loop-turn-init g c = record {
  peers = refl;
  count = refl;
  floor = refl;
  most = omega arith;
  fresh = λ first k. ap (λ (bs : List Bool). get_or bs k false) c.in_ok-answers.ensures.members ∙ none-set c.args.members k;
  brings = brings-none g.W.Wire.has_brought c.args.wire.now (λ xs. HoldsSaid g.D.PartialEq.eq c.args.self.now.peers.items xs c.args.members c.args.asked.now.id c.in_ok-answers.answers)
      (holds-none g.D.PartialEq.eq c.args.self.now.peers.items c.args.members c.args.asked.now.id c.in_ok-answers.answers c.in_ok-answers.ensures.members c.in_ok-answers.ensures.none);
  sent = gives-rounds-none c.args.self.now.peers.items c.args.asked.now.bytes.items g.W.Wire.was_given c.args.wire.now;
}

pub loop-turn-preserved : goal.loop-turn-preserved
loop-turn-preserved g c = record {
  peers = c.listen_to_others.ensures.peers ∙ c.try_again.ensures.peers ∙ c.loop-turn.invariant.peers;
  count = c.listen_to_others.ensures.count ∙ c.try_again.ensures.count ∙ c.loop-turn.invariant.count;
  floor = c.listen_to_others.ensures.floor ∙ c.try_again.ensures.floor ∙ c.loop-turn.invariant.floor;
  most = omega (arith, c.loop-turn-test.true);
  fresh = λ first. absurd (omega (arith, first));
  brings = holds-last g.W.Wire.has_brought g.D.PartialEq.eq c.args.self.now.peers.items c.try_again.new.self.peers.items c.args.members c.args.asked.now.id c.loop-turn.answers c.listen_to_others.new.answers
      c.args.wire.now c.loop-turn.wire c.send_to_others.new.wire c.listen_to_others.new.wire c.listen_to_others.result
      c.loop-turn.invariant.brings (λ ds h. c.send_to_others.ensures.brought ds (c.try_again.ensures.brought ds h)) c.listen_to_others.ensures.told
      (c.try_again.ensures.peers ∙ c.loop-turn.invariant.peers) (c.in_ok-heard.was ∙ ap Ok c.in_default.is);
  sent = gives-round c.args.self.now.peers.items c.args.asked.now.bytes.items g.W.Wire.was_given c.args.wire.now c.loop-turn.wire c.try_again.new.wire c.send_to_others.new.wire c.listen_to_others.new.wire c.loop-turn.turn c.loop-turn.answers c.try_again.new.self.peers.items c.deref.result.now
      (c.try_again.ensures.peers ∙ c.loop-turn.invariant.peers) c.deref.ensures.value c.loop-turn.invariant.fresh c.loop-turn.invariant.sent c.try_again.ensures.given c.send_to_others.ensures.given c.listen_to_others.ensures.given;
}

pub returns-in-Some-clause-told : goal.returns-in-Some-clause-told
returns-in-Some-clause-told g c =
    told-last g.W.Wire.has_brought g.D.PartialEq.eq c.args.self.now.peers.items c.try_again.new.self.peers.items c.args.members c.args.asked.now.id c.loop-turn.answers c.listen_to_others.new.answers
    c.args.wire.now c.loop-turn.wire c.send_to_others.new.wire c.listen_to_others.new.wire c.listen_to_others.result c.in-Some.told
    c.loop-turn.invariant.brings (λ ds h. c.send_to_others.ensures.brought ds (c.try_again.ensures.brought ds h)) c.listen_to_others.ensures.told
    (c.try_again.ensures.peers ∙ c.loop-turn.invariant.peers) (c.in_ok-heard.was ∙ ap Ok c.in-Some.is)

pub returns-in-Some-clause-sent : goal.returns-in-Some-clause-sent
returns-in-Some-clause-sent g c =
    gives-tried c.args.self.now.peers.items c.args.asked.now.bytes.items g.W.Wire.was_given {E = AllocError} c.args.wire.now c.listen_to_others.new.wire (c.loop-turn.turn + 1) (Ok c.in-Some.told) (omega arith) (omega (arith, c.loop-turn-test.true))
    (gives-round c.args.self.now.peers.items c.args.asked.now.bytes.items g.W.Wire.was_given c.args.wire.now c.loop-turn.wire c.try_again.new.wire c.send_to_others.new.wire c.listen_to_others.new.wire c.loop-turn.turn c.loop-turn.answers c.try_again.new.self.peers.items c.deref.result.now
    (c.try_again.ensures.peers ∙ c.loop-turn.invariant.peers) c.deref.ensures.value c.loop-turn.invariant.fresh c.loop-turn.invariant.sent c.try_again.ensures.given c.send_to_others.ensures.given c.listen_to_others.ensures.given)

pub returns-in_err-heard-clause-sent : goal.returns-in_err-heard-clause-sent
returns-in_err-heard-clause-sent g c =
    gives-tried c.args.self.now.peers.items c.args.asked.now.bytes.items g.W.Wire.was_given c.args.wire.now c.listen_to_others.new.wire (c.loop-turn.turn + 1) c.from_residual-in_err-heard.result (omega arith) (omega (arith, c.loop-turn-test.true))
    (gives-round c.args.self.now.peers.items c.args.asked.now.bytes.items g.W.Wire.was_given c.args.wire.now c.loop-turn.wire c.try_again.new.wire c.send_to_others.new.wire c.listen_to_others.new.wire c.loop-turn.turn c.loop-turn.answers c.try_again.new.self.peers.items c.deref.result.now
    (c.try_again.ensures.peers ∙ c.loop-turn.invariant.peers) c.deref.ensures.value c.loop-turn.invariant.fresh c.loop-turn.invariant.sent c.try_again.ensures.given c.send_to_others.ensures.given c.listen_to_others.ensures.given)

pub returns-in_err-answers-clause-sent : goal.returns-in_err-answers-clause-sent
returns-in_err-answers-clause-sent g c =
    not-tried c.args.self.now.peers.items c.args.asked.now.bytes.items g.W.Wire.was_given c.args.wire.now Ask c.from_residual.result (if_err _ c.from_residual.result c.from_residual.ensures.0)

pub returns-in_err-check_memory-clause-sent : goal.returns-in_err-check_memory-clause-sent
returns-in_err-check_memory-clause-sent g c =
    gives-tried c.args.self.now.peers.items c.args.asked.now.bytes.items g.W.Wire.was_given c.args.wire.now c.loop-turn.wire c.loop-turn.turn c.from_residual-in_err-check_memory.result (omega (arith, c.loop-turn-test.false)) c.loop-turn.invariant.most c.loop-turn.invariant.sent

pub returns-clause-sent : goal.returns-clause-sent
returns-clause-sent g c =
    gives-tried c.args.self.now.peers.items c.args.asked.now.bytes.items g.W.Wire.was_given {E = AllocError} c.args.wire.now c.loop-turn.wire c.loop-turn.turn (Ok NoAnswer) (omega (arith, c.loop-turn-test.false)) c.loop-turn.invariant.most c.loop-turn.invariant.sent
