use Rattle.std.proofs.Common.{◌∙◌, ◌++◌, ◌∷◌, [], ap}
use Rattle.learner.specs.Changes.{not_learnt}
use Rattle.learner.specs.Terms.{learnt_of}
use Rattle.learner.proofs.Drafting.{more_pairs}
use Rattle.member.proofs.told.told_among.Goals as goal

pub loop-pair-preserved : goal.loop-pair-preserved
loop-pair-preserved c =
    let learnt = learnt_of c.args.learner.now in
    more_pairs learnt c.args.pairs.now c.loop-pair.pair-index c.pair-item.result _ c.loop-pair-test.true c.pair-item.is (c.in_ok-push_new.ensures ∙ ap (λ xs. xs ++ not_learnt learnt (c.pair-item.result ∷ [])) c.loop-pair.invariant)
