use Rattle.std.proofs.Common.{◌≡◌, [], Option, Some, IfSome, refl, subst, take, string_bytes}
use Rattle.paxq_local.specs.Members.{IsSaidBy}
use Rattle.paxq_local.specs.Told.{told_at}
use Rattle.paxq_local.specs.declared.asked.Said.{Said}
use Rattle.paxq_local.proofs.Brought.{brings-none, brings-on}
use Rattle.paxq_local.proofs.Giving.{gives-on, nothing-none, nothing-over}
use Rattle.paxq_local.proofs.Hearing.{HasArrived, heard-last}
use Rattle.paxq_local.proofs.heard.listen_to_first.Goals as goal

pub returns-in_default-clause-said : goal.returns-in_default-clause-said
returns-in_default-clause-said g c =
    brings-on g.W.Wire.has_brought c.args.wire.now c.loop-datagram.wire c.work.new.wire c.work.new.wire (HasArrived c.work.result c.work.new.buffer) c.loop-datagram.invariant.brings c.work.ensures.brought (λ ds h. h)

pub returns-in-Some-heard-clause-said : goal.returns-in-Some-heard-clause-said
returns-in-Some-heard-clause-said g c =
    heard-last g.W.Wire.has_brought c.args.wire.now c.loop-datagram.wire c.work.new.wire (Some c.in-Some.arrival) c.in-Some.arrival c.work.new.buffer (take c.in-Some.arrival.length c.work.new.buffer)
    (λ xs. IsSaidBy g.D.PartialEq.eq c.args.peers.now xs 0 (told_at c.args.asked.now.form) c.args.asked.now.id (string_bytes c.in-Some-heard.said.text, c.in-Some-heard.said.position)) c.loop-datagram.invariant.brings c.in-Some.ensures.brought refl refl
    (λ xs come. subst (λ (o : Option Said). IfSome o (λ s. IsSaidBy g.D.PartialEq.eq c.args.peers.now xs 0 (told_at c.args.asked.now.form) c.args.asked.now.id (string_bytes s.text, s.position))) c.in-Some-heard.is (c.in_ok-heard.ensures xs come))

pub returns-then-is_over-clause-said : goal.returns-then-is_over-clause-said
returns-then-is_over-clause-said g c =
    brings-on g.W.Wire.has_brought c.args.wire.now c.loop-datagram.wire c.work.new.wire c.is_over.new.wire (HasArrived c.work.result c.work.new.buffer) c.loop-datagram.invariant.brings c.work.ensures.brought c.is_over.ensures.brought

pub loop-datagram-init : goal.loop-datagram-init
loop-datagram-init g c = record { brings = brings-none g.W.Wire.has_brought c.args.wire.now (λ _. Unit {0}) tt; given = nothing-none g.W.Wire.was_given c.args.wire.now }

pub loop-datagram-preserved : goal.loop-datagram-preserved
loop-datagram-preserved g c = record {
  brings = brings-on g.W.Wire.has_brought c.args.wire.now c.loop-datagram.wire c.work.new.wire c.is_over.new.wire (HasArrived c.work.result c.work.new.buffer) c.loop-datagram.invariant.brings c.work.ensures.brought c.is_over.ensures.brought;
  given = nothing-over g.W.Wire.was_given c.args.wire.now c.loop-datagram.wire c.work.new.wire c.is_over.new.wire c.loop-datagram.invariant.given c.work.ensures.given c.is_over.ensures.given;
}

pub returns-in_default-clause-given : goal.returns-in_default-clause-given
returns-in_default-clause-given g c = gives-on g.W.Wire.was_given c.args.wire.now c.loop-datagram.wire c.work.new.wire (λ went. went ≡ []) c.loop-datagram.invariant.given c.work.ensures.given

pub returns-in-Some-heard-clause-given : goal.returns-in-Some-heard-clause-given
returns-in-Some-heard-clause-given g c = gives-on g.W.Wire.was_given c.args.wire.now c.loop-datagram.wire c.work.new.wire (λ went. went ≡ []) c.loop-datagram.invariant.given c.work.ensures.given

pub returns-then-is_over-clause-given : goal.returns-then-is_over-clause-given
returns-then-is_over-clause-given g c = nothing-over g.W.Wire.was_given c.args.wire.now c.loop-datagram.wire c.work.new.wire c.is_over.new.wire c.loop-datagram.invariant.given c.work.ensures.given c.is_over.ensures.given

pub returns-in_err-heard-clause-given : goal.returns-in_err-heard-clause-given
returns-in_err-heard-clause-given g c = gives-on g.W.Wire.was_given c.args.wire.now c.loop-datagram.wire c.work.new.wire (λ went. went ≡ []) c.loop-datagram.invariant.given c.work.ensures.given
