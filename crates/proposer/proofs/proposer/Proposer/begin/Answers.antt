use Rattle.std.proofs.Common.{sym, subst, ◌∙◌}
use Rattle.proposer.specs.Beginning.{IsBegun}
use Rattle.proposer.proofs.Begun.{begun_took, begun_proposer}
use Rattle.proposer.proofs.proposer.Proposer.begin.Goals as goal

pub returns-clause-took : goal.returns-clause-took
returns-clause-took c =
    let d = c.in_ok-draft.ensures.begun in
    let same = c.commit.ensures.answer in
    begun_took c.args.self.now.members c.args.self.now.member c.args.promise c.commit.result c.args.from c.args.learnt.now d.0 c.commit.new.self
    (same ∙ c.in_ok-draft.ensures.ballot) (subst (λ b. IsBegun c.args.self.now.members b c.args.from c.args.learnt.now d.0) (sym same) d.2) (c.commit.ensures.begun d.0 d.1)

pub returns-clause-stopped : goal.returns-clause-stopped
returns-clause-stopped c =
    let d = c.in_ok-draft.ensures.begun in
    begun_proposer c.args.self.now.members c.args.self.now.member c.in_ok-draft.draft.answer c.args.from c.args.learnt.now d.0 c.commit.new.self d.2 (c.commit.ensures.begun d.0 d.1)
