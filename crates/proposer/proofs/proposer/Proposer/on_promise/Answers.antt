use Rattle.std.proofs.Common.{◌≤◌, ◌∷◌, sym, subst}
use Rattle.ballots.specs.Messages.{Promise, packet, window_of}
use Rattle.paxos.specs.Step.{on_promise}
use Rattle.proposer.specs.Terms.{Proposer}
use Rattle.proposer.proofs.Promised.{Commits, promise_took, promise_stopped, knows_unchanged, stopped_unchanged, took_as_was}
use Rattle.proposer.proofs.proposer.Proposer.on_promise.Goals as goal

pub returns-clause-took : goal.returns-clause-took
returns-clause-took c = λ heard leader applied target k.
    let mid : Proposer = c.draft_promise.new.self in
    let same = c.in_ok-draft.ensures.same in
    let commits : Commits mid c.in_ok-draft.draft.change c.commit.new.self = record { nothing = c.commit.ensures.nothing; taken = c.commit.ensures.taken } in
    let most : c.args.sender ≤ mid.members = subst (λ n. c.args.sender ≤ n) (sym same.members) c.requires.most in
    let took = promise_took mid c.commit.new.self c.args.sender target applied (window_of c.args.window.now) c.in_ok-draft.draft.change c.in_ok-draft.draft.answer c.requires.least most c.requires.window c.in_ok-draft.ensures.takes commits heard leader
    (knows_unchanged heard leader c.args.self.now mid same k) in
    took_as_was c.args.self.now mid c.commit.new.self (λ n m. on_promise n m heard (record { heard = packet c.args.sender (Promise (window_of c.args.window.now)) target ∷ heard; leader = leader; applied = applied }) c.args.sender (window_of c.args.window.now) leader)
    c.in_ok-draft.draft.answer c.commit.result same (sym c.commit.ensures.answer) took

pub returns-clause-stopped : goal.returns-clause-stopped
returns-clause-stopped c = λ s.
    promise_stopped c.draft_promise.new.self c.commit.new.self c.args.sender (window_of c.args.window.now) c.in_ok-draft.draft.change c.in_ok-draft.draft.answer c.in_ok-draft.ensures.takes
    (record { nothing = c.commit.ensures.nothing; taken = c.commit.ensures.taken }) (stopped_unchanged c.args.self.now c.draft_promise.new.self c.in_ok-draft.ensures.same s)
