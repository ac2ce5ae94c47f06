use Rattle.std.proofs.Common.{◌≡◌, ◌≤◌, ◌∙◌, [], ◌∷◌, ℕ, true, false, sym, ap, subst}
use Rattle.std.specs.Prelude.{IfOk}
use Rattle.ballots.specs.Ballot.{has_member, is_majority}
use Rattle.paxos.specs.Knowledge.{AcceptedBy, pair_of}
use Rattle.position_map.specs.Slots.{filled}
use Rattle.learner.specs.Changes.{Change, Counts, IsAsWas, Learns, Nothing, change_of, with_member}
use Rattle.learner.specs.Terms.{Learner}
use Rattle.learner.proofs.Drafting.{drafts_count, drafts_news, drafts_ok, drafts_nothing, drafts_rising, drafts_value}
use Rattle.learner.proofs.Hearing.{majority_with}
use Rattle.learner.proofs.Learning.{is_learnt, is_not_learnt}
use Rattle.learner.proofs.learner.Learner.draft_accepted.Goals as goal

pub returns-then-is_some-clause-change : goal.returns-then-is_some-clause-change
returns-then-is_some-clause-change c =
    let l : Learner = record { members = c.self.inside.members; slots = c.self.inside.chosen; tallies = c.self.inside.tallies } in
    let a : IsAsWas c.args.self.now l = subst (IsAsWas c.args.self.now) (sym c.self.view_is) c.forget_rooms.ensures.same in
    drafts_nothing c.args.member c.args.position c.args.vote.now c.args.self.now l a (is_learnt c.args.position c.get.result (filled c.self.inside.chosen) c.get.ensures.value (sym c.is_some.ensures ∙ c.if-is_some.true))

pub returns-then-is_majority-clause-change : goal.returns-then-is_majority-clause-change
returns-then-is_majority-clause-change c =
    let l : Learner = record { members = c.self.inside.members; slots = c.self.inside.chosen; tallies = c.self.inside.tallies } in
    let a : IsAsWas c.args.self.now l = subst (IsAsWas c.args.self.now) (sym c.self.view_is) c.forget_rooms.ensures.same in
    let e : is_majority c.self.inside.members (with_member l c.args.position c.args.vote.now c.args.member) ≡ true = sym (majority_with c.self.inside.members c.args.member c.args.position c.mask_of.result c.args.vote.now l c.requires.least_member c.mask_of.ensures) ∙ ap (λ (k : ℕ). is_majority c.self.inside.members (has_member k)) (sym c.mask_with-mask.ensures) ∙ sym c.is_majority.ensures ∙ c.if-is_majority.true in
    let d : Learns (pair_of c.args.position c.args.vote.now.value ∷ []) ≡ change_of c.args.self.now (AcceptedBy c.args.member c.args.position c.args.vote.now) = drafts_value c.args.member c.args.position c.args.vote.now c.args.self.now l a (is_not_learnt c.args.position c.get.result (filled c.self.inside.chosen) c.get.ensures.value (sym c.is_some.ensures ∙ c.if-is_some.false)) e in
    subst (λ (x : Change). IfOk c.draft_learnt.result (λ d. d.change ≡ x)) d c.draft_learnt.ensures.change

pub returns-clause-change : goal.returns-clause-change
returns-clause-change c =
    let l : Learner = record { members = c.self.inside.members; slots = c.self.inside.chosen; tallies = c.self.inside.tallies } in
    let a : IsAsWas c.args.self.now l = subst (IsAsWas c.args.self.now) (sym c.self.view_is) c.forget_rooms.ensures.same in
    let e : is_majority c.self.inside.members (with_member l c.args.position c.args.vote.now c.args.member) ≡ false = sym (majority_with c.self.inside.members c.args.member c.args.position c.mask_of.result c.args.vote.now l c.requires.least_member c.mask_of.ensures) ∙ ap (λ (k : ℕ). is_majority c.self.inside.members (has_member k)) (sym c.mask_with-mask.ensures) ∙ sym c.is_majority.ensures ∙ c.if-is_majority.false in
    ap (Counts c.args.member c.args.position) c.in_ok-copy.ensures.cases ∙ drafts_count c.args.member c.args.position c.args.vote.now c.args.self.now l a (is_not_learnt c.args.position c.get.result (filled c.self.inside.chosen) c.get.ensures.value (sym c.is_some.ensures ∙ c.if-is_some.false)) e

pub returns-then-is_some-clause-newly : goal.returns-then-is_some-clause-newly
returns-then-is_some-clause-newly c = λ heard h. drafts_news (AcceptedBy c.args.member c.args.position c.args.vote.now) _ Nothing c.args.self.now (subst (λ (n : ℕ). n ≤ 63) (ap (λ (l : Learner). l.members) c.self.view_is ∙ c.forget_rooms.ensures.same.members) c.self.invariant.0) c.new.ensures.items (returns-then-is_some-clause-change c) heard h

pub returns-then-is_majority-clause-newly : goal.returns-then-is_majority-clause-newly
returns-then-is_majority-clause-newly c = drafts_ok c.draft_learnt.result (AcceptedBy c.args.member c.args.position c.args.vote.now) c.args.self.now (subst (λ (n : ℕ). n ≤ 63) (ap (λ (l : Learner). l.members) c.self.view_is ∙ c.forget_rooms.ensures.same.members) c.self.invariant.0) (returns-then-is_majority-clause-change c) c.draft_learnt.ensures.news

pub returns-clause-newly : goal.returns-clause-newly
returns-clause-newly c = λ heard h. drafts_news (AcceptedBy c.args.member c.args.position c.args.vote.now) _ (Counts c.args.member c.args.position c.in_ok-copy.copy) c.args.self.now (subst (λ (n : ℕ). n ≤ 63) (ap (λ (l : Learner). l.members) c.self.view_is ∙ c.forget_rooms.ensures.same.members) c.self.invariant.0) c.new-2.ensures.items (returns-clause-change c) heard h

pub returns-then-is_some-clause-rising : goal.returns-then-is_some-clause-rising
returns-then-is_some-clause-rising c = rw c.new.ensures.items tt

pub returns-then-is_majority-clause-rising : goal.returns-then-is_majority-clause-rising
returns-then-is_majority-clause-rising c =
    drafts_rising c.draft_learnt.result (Learns (pair_of c.args.position c.args.vote.now.value ∷ [])) c.draft_learnt.ensures.change c.draft_learnt.ensures.news (c.requires.least, c.requires.most, tt)

pub returns-clause-rising : goal.returns-clause-rising
returns-clause-rising c = rw c.new-2.ensures.items tt
