use Rattle.std.proofs.Common.{◌≡◌, ◌∙◌, ◌++◌, [], ◌∷◌, List, ap, sym, append-nil}
use Rattle.std.proofs.lemmas.List.Elements.{All-nil}
use Rattle.ballots.specs.declared.value.Pair.{Pair}
use Rattle.position_map.specs.Slots.{filled, HasSlot}
use Rattle.learner.specs.Changes.{not_learnt, positions_in}
use Rattle.learner.specs.Slots.{pairs_of}
use Rattle.learner.proofs.Learning.{is_learnt, is_not_learnt, learnt_already, not_learnt_yet}
use Rattle.learner.proofs.learner.draft_pair.Goals as goal
use Rattle.learner.proofs.learner.draft_pair.Goals.{Then-is_some, In_ok-push-2}

already : (c : Then-is_some) → not_learnt (pairs_of (filled c.args.chosen.now)) (c.args.pair.now ∷ []) ≡ []
already c = learnt_already c.args.pair.now _ (is_learnt c.args.pair.now.position c.get.result (filled c.args.chosen.now) c.get.ensures.value (sym c.is_some.ensures ∙ c.if-is_some.true))

yet : (c : In_ok-push-2) → not_learnt (pairs_of (filled c.args.chosen.now)) (c.args.pair.now ∷ []) ≡ c.args.pair.now ∷ []
yet c = not_learnt_yet c.args.pair.now _ (is_not_learnt c.args.pair.now.position c.get.result (filled c.args.chosen.now) c.get.ensures.value (sym c.is_some.ensures ∙ c.if-is_some.false))

pub returns-then-is_some-clause-pairs : goal.returns-then-is_some-clause-pairs
returns-then-is_some-clause-pairs c = sym (append-nil c.args.learnt.now.items) ∙ ap (λ (es : List Pair). c.args.learnt.now.items ++ es) (sym (already c))

pub returns-then-is_some-clause-news : goal.returns-then-is_some-clause-news
returns-then-is_some-clause-news c = sym (append-nil c.args.news.now.items) ∙ ap (λ (es : List Pair). c.args.news.now.items ++ positions_in es) (sym (already c))

pub returns-then-is_some-clause-room : goal.returns-then-is_some-clause-room
returns-then-is_some-clause-room c = rw (already c) (All-nil (λ (e : Pair). HasSlot e.position c.args.chosen.now))

pub returns-clause-pairs : goal.returns-clause-pairs
returns-clause-pairs c = c.in_ok-push.ensures.items ∙ ap (λ (e : Pair). c.args.learnt.now.items ++ e ∷ []) (c.in_ok-copy.ensures.cases) ∙ ap (λ (es : List Pair). c.args.learnt.now.items ++ es) (sym (yet c))

pub returns-clause-news : goal.returns-clause-news
returns-clause-news c = c.in_ok-push-2.ensures.items ∙ ap (λ (es : List Pair). c.args.news.now.items ++ positions_in es) (sym (yet c))
