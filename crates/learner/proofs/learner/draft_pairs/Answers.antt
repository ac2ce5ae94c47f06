use Rattle.std.proofs.Common.{◌∙◌, ◌++◌, [], ◌∷◌, ℕ, List, ap, refl, sym, subst, take}
use Rattle.std.specs.List.{All}
use Rattle.std.proofs.lemmas.List.{map-append}
use Rattle.std.proofs.lemmas.List.Elements.{All-append, All-weaker}
use Rattle.ballots.specs.declared.value.Value.{Value}
use Rattle.ballots.specs.declared.value.Pair.{Pair}
use Rattle.position_map.specs.Slots.{filled, HasSlot}
use Rattle.learner.specs.Changes.{not_learnt, positions_in}
use Rattle.learner.specs.Slots.{pairs_of}
use Rattle.learner.proofs.Drafting.{more_pairs}
use Rattle.learner.proofs.learner.draft_pairs.Goals as goal

pub loop-pair-preserved : goal.loop-pair-preserved
loop-pair-preserved c =
    let learnt : List Pair = pairs_of (filled c.args.chosen.now) in
    let e : Pair = c.pair-item.result in
    let before : List Pair = not_learnt learnt (take c.loop-pair.pair-index c.args.pairs.now) in
    record {
      same = c.draft_pair.ensures.same ∙ c.loop-pair.invariant.same;
      pairs = more_pairs learnt c.args.pairs.now c.loop-pair.pair-index e _ c.loop-pair-test.true c.pair-item.is (c.in_ok-draft_pair.ensures.pairs ∙ ap (λ (es : List (ℕ × Value)). c.loop-pair.learnt.items ++ not_learnt (pairs_of es) (e ∷ [])) c.loop-pair.invariant.same ∙ ap (λ (xs : List Pair). xs ++ not_learnt learnt (e ∷ [])) c.loop-pair.invariant.pairs);
      news = c.in_ok-draft_pair.ensures.news ∙ ap (λ (es : List (ℕ × Value)). c.loop-pair.news.items ++ positions_in (not_learnt (pairs_of es) (e ∷ []))) c.loop-pair.invariant.same ∙ ap (λ (xs : List ℕ). xs ++ positions_in (not_learnt learnt (e ∷ []))) c.loop-pair.invariant.news ∙ sym (map-append (λ (x : Pair). x.position) before (not_learnt learnt (e ∷ []))) ∙ ap positions_in (more_pairs learnt c.args.pairs.now c.loop-pair.pair-index e _ c.loop-pair-test.true c.pair-item.is refl);
      room = subst (All (λ (x : Pair). HasSlot x.position c.draft_pair.new.chosen)) (more_pairs learnt c.args.pairs.now c.loop-pair.pair-index e _ c.loop-pair-test.true c.pair-item.is refl) (All-append (λ (x : Pair). HasSlot x.position c.draft_pair.new.chosen) before (not_learnt learnt (e ∷ [])) (All-weaker (λ (x : Pair). HasSlot x.position c.loop-pair.chosen) (λ (x : Pair). HasSlot x.position c.draft_pair.new.chosen) (λ x h. c.draft_pair.ensures.others x.position h) before c.loop-pair.invariant.room) (subst (λ (es : List (ℕ × Value)). All (λ (x : Pair). HasSlot x.position c.draft_pair.new.chosen) (not_learnt (pairs_of es) (e ∷ []))) c.loop-pair.invariant.same c.in_ok-draft_pair.ensures.room));
    }
