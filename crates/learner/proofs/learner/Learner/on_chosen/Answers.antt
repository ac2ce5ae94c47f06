use Rattle.std.proofs.Common.{◌∙◌, sym}
use Rattle.paxos.specs.Knowledge.{ChosenAre}
use Rattle.learner.proofs.Hearing.{change_as_was, heard_as_was}
use Rattle.learner.proofs.learner.Learner.on_chosen.Goals as goal

pub returns-clause-heard : goal.returns-clause-heard
returns-clause-heard c = λ heard h. c.commit.ensures.heard heard (ChosenAre c.args.pairs.now) (heard_as_was heard c.args.self.now c.draft_chosen.new.self c.draft_chosen.ensures.same h) (c.in_ok-draft.ensures.change ∙ sym (change_as_was (ChosenAre c.args.pairs.now) c.args.self.now c.draft_chosen.new.self c.draft_chosen.ensures.same))

pub returns-clause-newly : goal.returns-clause-newly
returns-clause-newly c = λ heard h. c.commit.ensures.news ∙ c.in_ok-draft.ensures.newly heard h
