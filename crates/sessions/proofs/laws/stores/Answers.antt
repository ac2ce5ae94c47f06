use Rattle.std.proofs.Common.{[], ◌∷◌, ap, ◌∙◌, cond}
use Rattle.sessions.specs.Meaning.{all_run, store_of}
use Rattle.ballots.specs.declared.value.Value.TheVariants.{NoOp, Request}
use Rattle.sessions.proofs.Meanings.{store_of-opening, store_of-push}
use Rattle.sessions.proofs.laws.stores.Goals as goal

pub returns-clause-opening : goal.returns-clause-opening
returns-clause-opening c = store_of-opening

pub returns-clause-no_op : goal.returns-clause-no_op
returns-clause-no_op c = λ names values. store_of-push names values NoOp

pub returns-clause-again : goal.returns-clause-again
returns-clause-again c = λ names values r e. store_of-push names values (Request r) ∙ ap (λ b. all_run (store_of names values) (cond b [] (r ∷ []))) e

pub returns-clause-first : goal.returns-clause-first
returns-clause-first c = λ names values r e. store_of-push names values (Request r) ∙ ap (λ b. all_run (store_of names values) (cond b [] (r ∷ []))) e
