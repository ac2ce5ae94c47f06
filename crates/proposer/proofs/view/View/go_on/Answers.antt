use Rattle.std.proofs.Common.{◌∷◌, [], refl, ap, subst, ◌∙◌, arith, length, length-append, replicate}
use Rattle.std.proofs.lemmas.List.{length-replicate}
use Rattle.ballots.specs.Values.{positions}
use Rattle.paxos.specs.Knowledge.{pair_of}
use Rattle.proposer.specs.Turning.{IsTurn}
use Rattle.proposer.proofs.Going.{goes_first, goes_pass, goes_propose, goes_last, past_last, turn_placed, so_many, turn_at, one}
use Rattle.proposer.proofs.view.View.go_on.Goals as goal

pub loop-next-init : goal.loop-next-init
loop-next-init c = (
  omega (arith, ap length c.new-proposals.ensures.items, c.requires.most),
  c.requires.least,
  λ ps l. rw c.new-proposals.ensures.items (goes_first c.args.members c.args.self.now ps c.args.from c.requires.least),
)

pub returns-in-Stop-clause-gone : goal.returns-in-Stop-clause-gone
returns-in-Stop-clause-gone c = λ ps l.
    let t = turn_at ps c.loop-next.next c.loop-next.proposals.items in
    let many = so_many c.args.members c.args.self.now ps c.args.from c.loop-next.proposals.items c.len.result c.args.waiting l (c.len.ensures ∙ c.loop-next.proposals.ok.0) in
    goes_last c.args.members c.args.self.now ps c.args.from c.loop-next.next c.loop-next.proposals.items
    (subst (IsTurn (one c.args.members c.args.self.now ps c.args.from t) t) c.in-Stop.is (c.in_ok-turn.ensures t refl many)) (c.loop-next.invariant.2 ps l)

pub loop-next-smaller-in-Pass : goal.loop-next-smaller-in-Pass
loop-next-smaller-in-Pass c = omega (arith, c.loop-next-test.true)

pub loop-next-preserved-in-Pass : goal.loop-next-preserved-in-Pass
unfolding positions
loop-next-preserved-in-Pass c = (
  c.loop-next.invariant.0,
  omega arith,
  λ ps l.
      let t = turn_at ps c.loop-next.next c.loop-next.proposals.items in
      let many = so_many c.args.members c.args.self.now ps c.args.from c.loop-next.proposals.items c.len.result c.args.waiting l (c.len.ensures ∙ c.loop-next.proposals.ok.0) in
      goes_pass c.args.members c.args.self.now ps c.args.from c.loop-next.next c.loop-next.proposals.items c.loop-next-test.true
      (subst (IsTurn (one c.args.members c.args.self.now ps c.args.from t) t) c.in-Pass.is (c.in_ok-turn.ensures t refl many)) (c.loop-next.invariant.2 ps l),
)

pub loop-next-smaller : goal.loop-next-smaller
loop-next-smaller c = omega (arith, c.loop-next-test.true)

pub loop-next-preserved : goal.loop-next-preserved
unfolding positions
loop-next-preserved c = (
  (let ps = replicate c.args.waiting (pair_of c.loop-next.next c.in-Propose.value) in
      let t = turn_at ps c.loop-next.next c.loop-next.proposals.items in
      let many = so_many c.args.members c.args.self.now ps c.args.from c.loop-next.proposals.items c.len.result c.args.waiting (length-replicate c.args.waiting _) (c.len.ensures ∙ c.loop-next.proposals.ok.0) in
      let placed = turn_placed c.args.members c.args.self.now ps c.args.from t _ (subst (IsTurn (one c.args.members c.args.self.now ps c.args.from t) t) c.in-Propose.is (c.in_ok-turn.ensures t refl many)) in
      let longer = ap length c.in_ok-push-in-Propose.ensures.items ∙ length-append c.loop-next.proposals.items (pair_of c.loop-next.next c.in-Propose.value ∷ []) in
      let known = c.len.ensures ∙ c.loop-next.proposals.ok.0 in
      omega (arith, placed, many, longer, known)),
  omega arith,
  λ ps l.
      let t = turn_at ps c.loop-next.next c.loop-next.proposals.items in
      let many = so_many c.args.members c.args.self.now ps c.args.from c.loop-next.proposals.items c.len.result c.args.waiting l (c.len.ensures ∙ c.loop-next.proposals.ok.0) in
      rw c.in_ok-push-in-Propose.ensures.items (goes_propose c.args.members c.args.self.now ps c.args.from c.loop-next.next c.loop-next.proposals.items c.in-Propose.value c.loop-next-test.true
      (subst (IsTurn (one c.args.members c.args.self.now ps c.args.from t) t) c.in-Propose.is (c.in_ok-turn.ensures t refl many)) (c.loop-next.invariant.2 ps l)),
)

pub returns-clause-gone : goal.returns-clause-gone
unfolding positions
returns-clause-gone c = λ ps l. goes_last c.args.members c.args.self.now ps c.args.from c.loop-next.next c.loop-next.proposals.items
    (past_last c.args.members c.args.self.now ps c.args.from c.loop-next.next c.loop-next.proposals.items (omega (arith, c.loop-next-test.false))) (c.loop-next.invariant.2 ps l)
