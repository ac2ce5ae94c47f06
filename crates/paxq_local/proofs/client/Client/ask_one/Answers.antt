use Rattle.std.proofs.Common.{◌≡◌, ◌+◌, ℕ, max, arith, Ok, IfOk, IfSome, List, ap, refl, subst, replicate, ◌∙◌, string_bytes}
use Rattle.std.specs.declared.alloc.AllocError.{AllocError}
use Rattle.paxq_local.specs.Members.{IsSaidBy, IsToldByFirst}
use Rattle.paxq_local.specs.Sent.{sent_to}
use Rattle.paxq_local.specs.Told.{told_at}
use Rattle.paxq_local.specs.declared.answers.Told.TheVariants.{NoAnswer, Said as said}
use Rattle.paxq_local.specs.declared.asked.Said.{Said}
use Rattle.paxq_local.proofs.Brought.{brings-answer, brings-as, brings-last, brings-none}
use Rattle.paxq_local.proofs.Giving.{gives-none, if_err}
use Rattle.paxq_local.proofs.Saying.{by-after}
use Rattle.paxq_local.proofs.Tries.{gives-first, gives-first-tried}
use Rattle.paxq_local.proofs.client.Client.ask_one.Goals as goal

pub loop-turn-init : goal.loop-turn-init
loop-turn-init g c = record {
  peers = refl;
  count = refl;
  floor = refl;
  most = omega arith;
  brings = brings-none g.W.Wire.has_brought c.args.wire.now (λ _. Unit {0}) tt;
  sent = gives-none g.W.Wire.was_given c.args.wire.now (λ went. went ≡ sent_to c.args.self.now.peers.items c.args.asked.now.bytes.items (replicate 0 0)) refl;
}

pub loop-turn-preserved : goal.loop-turn-preserved
loop-turn-preserved g c = record {
  peers = c.listen.ensures.peers ∙ c.try_again.ensures.peers ∙ c.loop-turn.invariant.peers;
  count = c.listen.ensures.count ∙ c.try_again.ensures.count ∙ c.loop-turn.invariant.count;
  floor = c.listen.ensures.floor ∙ c.try_again.ensures.floor ∙ c.loop-turn.invariant.floor;
  most = omega (arith, c.loop-turn-test.true);
  brings = brings-last g.W.Wire.has_brought c.args.wire.now c.loop-turn.wire c.send.new.wire c.listen.new.wire (λ _. Unit {0})
      (λ xs. IfOk c.listen.result (λ o. IfSome o (λ (s : Said). IsSaidBy g.D.PartialEq.eq c.try_again.new.self.peers.items xs 0 (told_at c.args.asked.now.form) c.args.asked.now.id (string_bytes s.text, s.position)))) (λ _. Unit {0})
      c.loop-turn.invariant.brings (λ ds h. c.send.ensures.brought ds (c.try_again.ensures.brought ds h)) c.listen.ensures.said (λ xs ys p q. tt);
  sent = gives-first c.args.self.now.peers.items c.args.asked.now.bytes.items g.W.Wire.was_given c.args.wire.now c.loop-turn.wire c.try_again.new.wire c.send.new.wire c.listen.new.wire c.loop-turn.turn c.try_again.new.self.peers.items c.deref.result.now
      (c.try_again.ensures.peers ∙ c.loop-turn.invariant.peers) c.deref.ensures.value c.loop-turn.invariant.sent c.try_again.ensures.given c.send.ensures.given c.listen.ensures.given;
}

pub returns-in-Some-clause-told : goal.returns-in-Some-clause-told
returns-in-Some-clause-told g c =
    brings-as g.W.Wire.has_brought c.args.wire.now c.listen.new.wire
    (λ xs. IsSaidBy g.D.PartialEq.eq c.try_again.new.self.peers.items xs 0 (told_at c.args.asked.now.form) c.args.asked.now.id (string_bytes c.in-Some.said.text, c.in-Some.said.position))
    (λ xs. IsToldByFirst g.D.PartialEq.eq c.args.self.now.peers.items xs c.args.asked.now.form c.args.asked.now.id c.args.self.now.floor c.note.new.self.floor (said c.in-Some.said.text))
    (brings-answer g.W.Wire.has_brought c.args.wire.now c.loop-turn.wire c.send.new.wire c.listen.new.wire c.listen.result c.in-Some.said
    (λ xs s. IsSaidBy g.D.PartialEq.eq c.try_again.new.self.peers.items xs 0 (told_at c.args.asked.now.form) c.args.asked.now.id (string_bytes s.text, s.position))
    c.loop-turn.invariant.brings (λ ds h. c.send.ensures.brought ds (c.try_again.ensures.brought ds h)) c.listen.ensures.said (c.in_ok-said.was ∙ ap Ok c.in-Some.is)
    (λ xs ys q. by-after g.D.PartialEq.eq c.try_again.new.self.peers.items xs ys 0 (told_at c.args.asked.now.form) c.args.asked.now.id (string_bytes c.in-Some.said.text, c.in-Some.said.position) q))
    (λ xs q. (
      c.in-Some.said.position,
      c.note.ensures.floor ∙ ap (λ (n : ℕ). max n c.in-Some.said.position) (c.listen.ensures.floor ∙ c.try_again.ensures.floor ∙ c.loop-turn.invariant.floor),
      subst (λ (ps : List g.row.D.Denot). IsSaidBy g.D.PartialEq.eq ps xs 0 (told_at c.args.asked.now.form) c.args.asked.now.id (string_bytes c.in-Some.said.text, c.in-Some.said.position)) (c.try_again.ensures.peers ∙ c.loop-turn.invariant.peers) q,
    ))

pub returns-in-Some-clause-sent : goal.returns-in-Some-clause-sent
returns-in-Some-clause-sent g c =
    gives-first-tried c.args.self.now.peers.items c.args.asked.now.bytes.items g.W.Wire.was_given {E = AllocError} c.args.wire.now c.listen.new.wire (c.loop-turn.turn + 1) (Ok (said c.in-Some.said.text)) (omega (arith, c.loop-turn-test.true)) (omega arith)
    (gives-first c.args.self.now.peers.items c.args.asked.now.bytes.items g.W.Wire.was_given c.args.wire.now c.loop-turn.wire c.try_again.new.wire c.send.new.wire c.listen.new.wire c.loop-turn.turn c.try_again.new.self.peers.items c.deref.result.now
    (c.try_again.ensures.peers ∙ c.loop-turn.invariant.peers) c.deref.ensures.value c.loop-turn.invariant.sent c.try_again.ensures.given c.send.ensures.given c.listen.ensures.given)

pub returns-in_err-said-clause-sent : goal.returns-in_err-said-clause-sent
returns-in_err-said-clause-sent g c =
    gives-first-tried c.args.self.now.peers.items c.args.asked.now.bytes.items g.W.Wire.was_given c.args.wire.now c.listen.new.wire (c.loop-turn.turn + 1) c.from_residual.result (omega (arith, c.loop-turn-test.true)) (if_err _ c.from_residual.result c.from_residual.ensures.0)
    (gives-first c.args.self.now.peers.items c.args.asked.now.bytes.items g.W.Wire.was_given c.args.wire.now c.loop-turn.wire c.try_again.new.wire c.send.new.wire c.listen.new.wire c.loop-turn.turn c.try_again.new.self.peers.items c.deref.result.now
    (c.try_again.ensures.peers ∙ c.loop-turn.invariant.peers) c.deref.ensures.value c.loop-turn.invariant.sent c.try_again.ensures.given c.send.ensures.given c.listen.ensures.given)

pub returns-in_err-check_memory-clause-sent : goal.returns-in_err-check_memory-clause-sent
returns-in_err-check_memory-clause-sent g c =
    gives-first-tried c.args.self.now.peers.items c.args.asked.now.bytes.items g.W.Wire.was_given c.args.wire.now c.loop-turn.wire c.loop-turn.turn c.from_residual-in_err-check_memory.result c.loop-turn.invariant.most
    (if_err _ c.from_residual-in_err-check_memory.result c.from_residual-in_err-check_memory.ensures.0) c.loop-turn.invariant.sent

pub returns-clause-sent : goal.returns-clause-sent
returns-clause-sent g c =
    gives-first-tried c.args.self.now.peers.items c.args.asked.now.bytes.items g.W.Wire.was_given {E = AllocError} c.args.wire.now c.loop-turn.wire c.loop-turn.turn (Ok NoAnswer) c.loop-turn.invariant.most
    (omega (arith, c.loop-turn.invariant.most, c.loop-turn-test.false)) c.loop-turn.invariant.sent
