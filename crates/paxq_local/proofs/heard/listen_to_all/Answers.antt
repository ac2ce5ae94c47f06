use Rattle.std.proofs.Common.{◌≡◌, ℕ, List, [], ◌++◌, sym, append-nil, Option, Some, MatchOption, refl, subst, take}
use Rattle.wires.specs.Wires.{Carried}
use Rattle.paxq_local.specs.Members.{HoldsSaid, IsToldByAll}
use Rattle.paxq_local.specs.declared.answers.Told.{Told}
use Rattle.paxq_local.proofs.Brought.{brings-none}
use Rattle.paxq_local.proofs.Giving.{gives-on, nothing-none, nothing-over}
use Rattle.paxq_local.proofs.Hearing.{HasArrived, heard-all, heard-kept, held-on}
use Rattle.paxq_local.proofs.heard.listen_to_all.Goals as goal

pub returns-in_default-clause-said : goal.returns-in_default-clause-said
returns-in_default-clause-said g c =
    held-on g.W.Wire.has_brought g.D.PartialEq.eq c.args.peers.now c.args.id c.args.answers.now c.loop-datagram.answers c.args.wire.now c.loop-datagram.wire c.loop-datagram.invariant.brings
    c.work.new.wire (HasArrived c.work.result c.work.new.buffer) c.work.ensures.brought

pub returns-in-Some-heard-clause-said : goal.returns-in-Some-heard-clause-said
returns-in-Some-heard-clause-said g c =
    heard-all g.W.Wire.has_brought g.D.PartialEq.eq c.args.peers.now c.args.id c.args.answers.now c.loop-datagram.answers c.args.wire.now c.loop-datagram.wire c.loop-datagram.invariant.brings
    c.work.new.wire (Some c.in-Some.arrival) c.in-Some.arrival c.work.new.buffer (take c.in-Some.arrival.length c.work.new.buffer) (λ members zs. IsToldByAll g.D.PartialEq.eq c.args.peers.now zs members c.args.id c.in-Some-heard.told) c.in-Some.ensures.brought refl refl
    (λ members zs come h. subst (λ (o : Option Told). MatchOption o (HoldsSaid g.D.PartialEq.eq c.args.peers.now zs members c.args.id c.note_answer.new.answers) (IsToldByAll g.D.PartialEq.eq c.args.peers.now zs members c.args.id)) c.in-Some-heard.is (c.in_ok-heard.ensures members zs come h))

pub returns-then-is_over-clause-said : goal.returns-then-is_over-clause-said
returns-then-is_over-clause-said g c =
    heard-kept g.W.Wire.has_brought g.D.PartialEq.eq c.args.peers.now c.args.id c.args.answers.now c.loop-datagram.answers c.args.wire.now c.loop-datagram.wire c.loop-datagram.invariant.brings
    c.work.new.wire c.is_over.new.wire (Some c.in-Some.arrival) c.in-Some.arrival c.work.new.buffer (take c.in-Some.arrival.length c.work.new.buffer) (λ members zs. HoldsSaid g.D.PartialEq.eq c.args.peers.now zs members c.args.id c.note_answer.new.answers) c.in-Some.ensures.brought refl refl
    (λ members zs come h. subst (λ (o : Option Told). MatchOption o (HoldsSaid g.D.PartialEq.eq c.args.peers.now zs members c.args.id c.note_answer.new.answers) (IsToldByAll g.D.PartialEq.eq c.args.peers.now zs members c.args.id)) c.in_default-heard.is (c.in_ok-heard.ensures members zs come h)) c.is_over.ensures.brought

pub loop-datagram-init : goal.loop-datagram-init
loop-datagram-init g c = record {
  brings = brings-none g.W.Wire.has_brought c.args.wire.now
      (λ xs. (members : ℕ) (before : List (Carried g.row.D.Denot)) → HoldsSaid g.D.PartialEq.eq c.args.peers.now before members c.args.id c.args.answers.now → HoldsSaid g.D.PartialEq.eq c.args.peers.now (before ++ xs) members c.args.id c.args.answers.now)
      (λ members before h. subst (λ (xs : List (Carried g.row.D.Denot)). HoldsSaid g.D.PartialEq.eq c.args.peers.now xs members c.args.id c.args.answers.now) (sym (append-nil before)) h);
  given = nothing-none g.W.Wire.was_given c.args.wire.now;
}

pub loop-datagram-preserved : goal.loop-datagram-preserved
loop-datagram-preserved g c = record {
  brings = heard-kept g.W.Wire.has_brought g.D.PartialEq.eq c.args.peers.now c.args.id c.args.answers.now c.loop-datagram.answers c.args.wire.now c.loop-datagram.wire c.loop-datagram.invariant.brings
      c.work.new.wire c.is_over.new.wire (Some c.in-Some.arrival) c.in-Some.arrival c.work.new.buffer (take c.in-Some.arrival.length c.work.new.buffer) (λ members zs. HoldsSaid g.D.PartialEq.eq c.args.peers.now zs members c.args.id c.note_answer.new.answers) c.in-Some.ensures.brought refl refl
      (λ members zs come h. subst (λ (o : Option Told). MatchOption o (HoldsSaid g.D.PartialEq.eq c.args.peers.now zs members c.args.id c.note_answer.new.answers) (IsToldByAll g.D.PartialEq.eq c.args.peers.now zs members c.args.id)) c.in_default-heard.is (c.in_ok-heard.ensures members zs come h)) c.is_over.ensures.brought;
  given = nothing-over g.W.Wire.was_given c.args.wire.now c.loop-datagram.wire c.work.new.wire c.is_over.new.wire c.loop-datagram.invariant.given c.work.ensures.given c.is_over.ensures.given;
}

pub returns-in_default-clause-given : goal.returns-in_default-clause-given
returns-in_default-clause-given g c = gives-on g.W.Wire.was_given c.args.wire.now c.loop-datagram.wire c.work.new.wire (λ went. went ≡ []) c.loop-datagram.invariant.given c.work.ensures.given

pub returns-in-Some-heard-clause-given : goal.returns-in-Some-heard-clause-given
returns-in-Some-heard-clause-given g c = gives-on g.W.Wire.was_given c.args.wire.now c.loop-datagram.wire c.work.new.wire (λ went. went ≡ []) c.loop-datagram.invariant.given c.work.ensures.given

pub returns-then-is_over-clause-given : goal.returns-then-is_over-clause-given
returns-then-is_over-clause-given g c = nothing-over g.W.Wire.was_given c.args.wire.now c.loop-datagram.wire c.work.new.wire c.is_over.new.wire c.loop-datagram.invariant.given c.work.ensures.given c.is_over.ensures.given

pub returns-in_err-heard-clause-given : goal.returns-in_err-heard-clause-given
returns-in_err-heard-clause-given g c = gives-on g.W.Wire.was_given c.args.wire.now c.loop-datagram.wire c.work.new.wire (λ went. went ≡ []) c.loop-datagram.invariant.given c.work.ensures.given
