use Rattle.std.proofs.Common.{◌≡◌, ◌<◌, arith, false, refl, subst, true}
use Rattle.std.specs.Prelude.{nat_lt}
use Rattle.ballots.specs.Ballot.{last_round}
use Rattle.ballots.specs.declared.ballot.Ballot.{Ballot}
use Rattle.paxos.specs.Step.{may_begin}
use Rattle.member.proofs.Answering.{not_spent}
use Rattle.member.proofs.Beginning.{below_last_round, below_positions, may_still, positions_spent, round_left, rounds_passed, rounds_spent}
use Rattle.member.proofs.Drafting.{all_passed, one_left}
use Rattle.member.proofs.member.Member.draft_begin.Goals as goal

pub draft_ballot-requires-clause-learnt : goal.draft_ballot-requires-clause-learnt
draft_ballot-requires-clause-learnt g c = c.prefix-prefix.ensures.heard

pub draft_ballot-requires-clause-place : goal.draft_ballot-requires-clause-place
draft_ballot-requires-clause-place g c = below_positions c.prefix-prefix.result (let f = c.if-prefix-ge-POSITIONS.false in omega (arith, f))

pub draft_ballot-requires-clause-round : goal.draft_ballot-requires-clause-round
draft_ballot-requires-clause-round g c =
    subst (λ (b : Ballot). b.round < last_round) c.promised-promise.ensures (below_last_round c.promised-promise.result.round (let f = c.if-promise-ge-LAST_ROUND.false in omega (arith, f)))

pub returns-then-prefix-ge-POSITIONS-clause-spent : goal.returns-then-prefix-ge-POSITIONS-clause-spent
returns-then-prefix-ge-POSITIONS-clause-spent g c = λ u this.
    (λ e. positions_spent {R = g.row.R.Denot} c.args.self.now u c.prefix-prefix.result (c.prefix-prefix.ensures.heard u this) (all_passed c.prefix-prefix.result c.if-prefix-ge-POSITIONS.true), λ e. refl)

pub returns-then-promise-ge-LAST_ROUND-clause-spent : goal.returns-then-promise-ge-LAST_ROUND-clause-spent
returns-then-promise-ge-LAST_ROUND-clause-spent g c = λ u this.
    (λ e. rounds_spent {R = g.row.R.Denot} c.args.self.now u (subst (λ (b : Ballot). nat_lt b.round last_round ≡ false) c.promised-promise.ensures (rounds_passed c.promised-promise.result.round c.if-promise-ge-LAST_ROUND.true)), λ e. refl)

pub returns-clause-spent : goal.returns-clause-spent
returns-clause-spent g c = λ u this.
    let x = c.args.self.now in
    not_spent c.draft_ballot.result c.draft_ballot.ensures.fault (may_begin x.members x.acceptor.kept u)
    (may_still {R = g.row.R.Denot} x u c.prefix-prefix.result (c.prefix-prefix.ensures.heard u this) (one_left c.prefix-prefix.result (let f = c.if-prefix-ge-POSITIONS.false in omega (arith, f)))
    (subst (λ (b : Ballot). nat_lt b.round last_round ≡ true) c.promised-promise.ensures (round_left c.promised-promise.result.round (let f = c.if-promise-ge-LAST_ROUND.false in omega (arith, f)))))
