use Rattle.std.proofs.Common.{arith, ◌≡◌, ◌≤◌, ◌∙◌, ℕ, List, ap, subst}
use Rattle.std.specs.Prelude.{IfOk}
use Rattle.ballots.specs.declared.value.Pair.{Pair}
use Rattle.paxos.specs.Knowledge.{ChosenAre}
use Rattle.learner.specs.Changes.{Learns, not_learnt}
use Rattle.learner.specs.Drafts.{Draft}
use Rattle.learner.specs.Terms.{Learner, learnt_of}
use Rattle.learner.proofs.Drafting.{drafts_due, drafts_ok, drafts_rising, rising_pairs}
use Rattle.learner.proofs.Learning.{are_positions}
use Rattle.learner.proofs.learner.Learner.draft_chosen.Goals as goal

pub draft_pairs-requires : goal.draft_pairs-requires
draft_pairs-requires c = record { places = are_positions 0 c.args.pairs.now c.requires.rising c.requires.most }

pub returns-clause-change : goal.returns-clause-change
returns-clause-change c = subst (λ (es : List Pair). IfOk c.draft_pairs.result (λ (d : Draft). d.change ≡ Learns (not_learnt es c.args.pairs.now))) (ap learnt_of c.self.view_is ∙ c.forget_rooms.ensures.same.learnt) c.draft_pairs.ensures.change

pub returns-clause-newly : goal.returns-clause-newly
returns-clause-newly c = drafts_ok c.draft_pairs.result (ChosenAre c.args.pairs.now) c.args.self.now (subst (λ (n : ℕ). n ≤ 63) (ap (λ (l : Learner). l.members) c.self.view_is ∙ c.forget_rooms.ensures.same.members) c.self.invariant.0) (returns-clause-change c) c.draft_pairs.ensures.news

pub returns-clause-due : goal.returns-clause-due
returns-clause-due c = drafts_due c.draft_pairs.result _ c.args.pairs.now c.draft_pairs.ensures.change (are_positions 0 c.args.pairs.now c.requires.rising c.requires.most)

pub returns-clause-rising : goal.returns-clause-rising
returns-clause-rising c = drafts_rising c.draft_pairs.result (Learns (not_learnt _ c.args.pairs.now)) c.draft_pairs.ensures.change c.draft_pairs.ensures.news (rising_pairs 1 0 _ c.args.pairs.now (omega arith) c.requires.rising c.requires.most)
