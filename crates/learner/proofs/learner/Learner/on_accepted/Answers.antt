use Rattle.std.proofs.Common.{◌∙◌, sym}
use Rattle.paxos.specs.Knowledge.{AcceptedBy}
use Rattle.learner.proofs.Hearing.{change_as_was, heard_as_was}
use Rattle.learner.proofs.learner.Learner.on_accepted.Goals as goal

pub returns-clause-heard : goal.returns-clause-heard
returns-clause-heard c = λ heard h. c.commit.ensures.heard heard (AcceptedBy c.args.member c.args.position c.args.vote.now) (heard_as_was heard c.args.self.now c.draft_accepted.new.self c.draft_accepted.ensures.same h) (c.in_ok-draft.ensures.change ∙ sym (change_as_was (AcceptedBy c.args.member c.args.position c.args.vote.now) c.args.self.now c.draft_accepted.new.self c.draft_accepted.ensures.same))

pub returns-clause-newly : goal.returns-clause-newly
returns-clause-newly c = λ heard h. c.commit.ensures.news ∙ c.in_ok-draft.ensures.newly heard h
