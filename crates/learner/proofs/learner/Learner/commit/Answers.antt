use Rattle.std.proofs.Common.{rules, ◌≡◌, ◌≤◌, ◌∙◌, refl, sym, ap, subst}
use Rattle.learner.specs.Changes.{Counts, HasCounted, HasLearnt, Learns}
use Rattle.learner.specs.Drafts.{Draft, change_in}
use Rattle.learner.specs.Terms.{Learner}
use Rattle.learner.proofs.Drafting.{has_counted, heard_drafted}
use Rattle.learner.proofs.learner.Learner.commit.Goals as goal

pub returns-in-Counts-clause-changed : goal.returns-in-Counts-clause-changed
returns-in-Counts-clause-changed c =
    let l : Learner = record { members = c.self.inside.members; slots = c.self.inside.chosen; tallies = c.self.inside.tallies } in
    let s : c.match-vote.self ≡ record { members = c.self.inside.members; slots = c.self.inside.chosen; tallies = c.count.new.self } = search rules in
    let k : HasCounted c.in-Counts.member c.in-Counts.position c.in-Counts.vote l c.match-vote.self = has_counted c.in-Counts.member c.in-Counts.position c.in-Counts.vote l c.match-vote.self c.count.new.self s c.count.ensures in
    let d : c.args.draft.change ≡ Counts c.in-Counts.member c.in-Counts.position c.in-Counts.vote = sym (ap (λ (x : Draft). x.change) c.draft.view_is) ∙ ap change_in c.in-Counts.is in
    rw d (subst (λ (x : Learner). HasCounted c.in-Counts.member c.in-Counts.position c.in-Counts.vote x c.match-vote.self) c.self.view_is k)

pub returns-in-Counts-clause-heard : goal.returns-in-Counts-clause-heard
returns-in-Counts-clause-heard c = λ heard h k e. heard_drafted h c.args.draft.change heard c.args.self.now c.match-vote.self (subst (λ (l : Learner). l.members ≤ 63) c.self.view_is c.self.invariant.0) (returns-in-Counts-clause-changed c) k e

pub returns-in-Learns-clause-changed : goal.returns-in-Learns-clause-changed
returns-in-Learns-clause-changed c =
    let l : Learner = record { members = c.self.inside.members; slots = c.self.inside.chosen; tallies = c.self.inside.tallies } in
    let new : Learner = record { members = c.self.inside.members; slots = c.learn.new.chosen; tallies = c.learn.new.tallies } in
    let k : HasLearnt c.in-Learns.pairs.items l new = record { members = refl; learnt = c.learn.ensures.learnt; tallies = c.learn.ensures.forgotten } in
    let d : c.args.draft.change ≡ Learns c.in-Learns.pairs.items = sym (ap (λ (x : Draft). x.change) c.draft.view_is) ∙ ap change_in c.in-Learns.is in
    rw d (subst (λ (x : Learner). HasLearnt c.in-Learns.pairs.items x new) c.self.view_is k)

pub returns-in-Learns-clause-heard : goal.returns-in-Learns-clause-heard
returns-in-Learns-clause-heard c = λ heard h k e. heard_drafted h c.args.draft.change heard c.args.self.now _ (subst (λ (l : Learner). l.members ≤ 63) c.self.view_is c.self.invariant.0) (returns-in-Learns-clause-changed c) k e
