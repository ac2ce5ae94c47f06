use Rattle.std.proofs.Common.{◌∷◌, sym, ap, ◌∙◌}
use Rattle.paxos.specs.Knowledge.{newly, news}
use Rattle.paxos.specs.Step.{on_news}
use Rattle.proposer.specs.Terms.{Proposer}
use Rattle.proposer.proofs.Learned.{learned_took, learned_stopped, positions_in}
use Rattle.proposer.proofs.Promised.{Commits, knows_unchanged, stopped_unchanged, took_as_was}
use Rattle.proposer.proofs.proposer.Proposer.on_learned.Goals as goal

pub returns-clause-took : goal.returns-clause-took
returns-clause-took c = λ heard leader applied k h tells e kn.
    let mid : Proposer = c.draft_learned.new.self in
    let same = c.in_ok-draft.ensures.same in
    let commits : Commits mid c.in_ok-draft.draft.change c.commit.new.self = record { nothing = c.commit.ensures.nothing; taken = c.commit.ensures.taken } in
    let took = learned_took mid c.commit.new.self c.args.learnt.now c.in_ok-draft.draft.change c.in_ok-draft.draft.answer c.in_ok-draft.ensures.takes commits heard leader applied k h tells
    (e ∙ ap (λ n. positions_in (newly n h (news heard))) (sym same.members)) (knows_unchanged heard leader c.args.self.now mid same kn) in
    took_as_was c.args.self.now mid c.commit.new.self (λ n m. on_news n m heard (record { heard = k ∷ heard; leader = leader; applied = applied }) h) c.in_ok-draft.draft.answer c.commit.result same (sym c.commit.ensures.answer) took

pub returns-clause-stopped : goal.returns-clause-stopped
returns-clause-stopped c = λ s.
    learned_stopped c.draft_learned.new.self c.commit.new.self c.args.learnt.now c.in_ok-draft.draft.change c.in_ok-draft.draft.answer c.in_ok-draft.ensures.takes
    (record { nothing = c.commit.ensures.nothing; taken = c.commit.ensures.taken }) (stopped_unchanged c.args.self.now c.draft_learned.new.self c.in_ok-draft.ensures.same s)
