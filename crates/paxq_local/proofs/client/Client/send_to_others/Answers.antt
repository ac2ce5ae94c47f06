use Rattle.std.proofs.Common.{◌≡◌, ◌+◌, ℕ, List, [], ◌∷◌, ◌++◌, arith, length, sym, subst, ◌∙◌}
use Rattle.paxq_local.specs.Asking.{Gives}
use Rattle.paxq_local.specs.Sent.{IsRound, sent_to}
use Rattle.paxq_local.proofs.Giving.{gives-as, gives-none, gives-then}
use Rattle.paxq_local.proofs.Tries.{round-none, round-past, round-sent}
use Rattle.paxq_local.proofs.client.Client.send_to_others.Goals as goal
use Rattle.paxq_local.proofs.client.Client.send_to_others.Goals.{else-not-has, then-not-has}

pub loop-member-init : goal.loop-member-init
loop-member-init g c = record {
  brought = λ ds h. h;
  most = omega arith;
  given = gives-none g.W.Wire.was_given c.args.wire.now (λ went. (to : List ℕ) × IsRound c.args.self.now.peers.items c.args.bytes.now c.args.answers.now 0 to went) ([], round-none c.args.self.now.peers.items c.args.bytes.now c.args.answers.now);
}

pub loop-member-preserved : goal.loop-member-preserved
loop-member-preserved g c = elim c.if-not-has.branch [
  | then-not-has w ↦
      rw w.wire-is
      (record {
        brought = λ ds h. w.send.ensures.brought ds (c.loop-member.invariant.brought ds h);
        most = omega (arith, c.loop-member-test.true);
        given = gives-then g.W.Wire.was_given c.args.wire.now c.loop-member.wire w.send.new.wire
            (λ went. (to : List ℕ) × IsRound c.args.self.now.peers.items c.args.bytes.now c.args.answers.now c.loop-member.member to went)
            (λ went. went ≡ sent_to c.args.self.now.peers.items c.args.bytes.now (c.loop-member.member ∷ []))
            (λ went. (to : List ℕ) × IsRound c.args.self.now.peers.items c.args.bytes.now c.args.answers.now (c.loop-member.member + 1) to went) c.loop-member.invariant.given w.send.ensures.given
            (λ xs ys r sent. (r.0 ++ c.loop-member.member ∷ [], round-sent c.args.self.now.peers.items c.args.bytes.now c.args.answers.now c.loop-member.member r.0 xs ys r.1 sent));
      })
  | else-not-has w ↦
      rw w.wire-is
      (record {
        brought = c.loop-member.invariant.brought;
        most = omega (arith, c.loop-member-test.true);
        given = gives-as g.W.Wire.was_given c.args.wire.now c.loop-member.wire
            (λ went. (to : List ℕ) × IsRound c.args.self.now.peers.items c.args.bytes.now c.args.answers.now c.loop-member.member to went)
            (λ went. (to : List ℕ) × IsRound c.args.self.now.peers.items c.args.bytes.now c.args.answers.now (c.loop-member.member + 1) to went) c.loop-member.invariant.given
            (λ xs r. (r.0, round-past c.args.self.now.peers.items c.args.bytes.now c.args.answers.now c.loop-member.member r.0 xs (sym c.has.ensures ∙ w.if-not-has.false) r.1));
      })
]

pub returns-clause-given : goal.returns-clause-given
returns-clause-given g c =
    let all : c.loop-member.member ≡ length c.args.self.now.peers.items = omega (arith, c.loop-member.invariant.most, c.loop-member-test.false) in
    subst (λ (n : ℕ). Gives g.W.Wire.was_given c.args.wire.now c.loop-member.wire (λ went. (to : List ℕ) × IsRound c.args.self.now.peers.items c.args.bytes.now c.args.answers.now n to went)) all c.loop-member.invariant.given
