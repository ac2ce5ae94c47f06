use Rattle.std.proofs.Common.{◌∙◌, ◌∷◌, ap, sym, subst}
use Rattle.paxos.specs.Knowledge.{ChosenAre, Heard as HeardTerm}
use Rattle.learner.specs.Hearing.{HasHeard}
use Rattle.learner.specs.Messages.{heard_of}
use Rattle.learner.proofs.heard.hear.Goals as goal

pub returns-in_ok-on_accepted-in-Accepted-clause-heard : goal.returns-in_ok-on_accepted-in-Accepted-clause-heard
returns-in_ok-on_accepted-in-Accepted-clause-heard c = λ heard h. subst (λ (x : HeardTerm). HasHeard (x ∷ heard) c.on_accepted.new.self) (sym (ap heard_of c.in-Accepted.is)) (c.in_ok-on_accepted-in-Accepted.ensures.heard heard h)

pub returns-in_ok-on_chosen-in-Chosen-clause-heard : goal.returns-in_ok-on_chosen-in-Chosen-clause-heard
returns-in_ok-on_chosen-in-Chosen-clause-heard c = λ heard h. subst (λ (x : HeardTerm). HasHeard (x ∷ heard) c.on_chosen.new.self) (ap ChosenAre c.deref.ensures.value ∙ sym (ap heard_of c.in-Chosen.is)) (c.in_ok-on_chosen-in-Chosen.ensures.heard heard h)
