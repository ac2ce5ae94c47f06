use Rattle.std.proofs.Common.{ℕ, List, sym, subst}
use Rattle.update_meaning.specs.Changed.{rooted_at, chosen}
use Rattle.chosen_drafts.specs.Chosen.{AreNodesOf}
use Rattle.chosen_drafts.specs.Terms.{ChosenTerm}
use Rattle.tracked_drafts.specs.Tests.{IsStoredBut}
use Rattle.tracked_drafts.proofs.Roots.{all-marked}
use Rattle.tracked_drafts.proofs.tracked.TrackedDraft.of_roots.Goals as goal

pub invariant_of-result : goal.invariant_of-result
invariant_of-result c =
    let m = c.in-Ok.marked in
    let is = c.args.roots.now in
    let ts = c.args.forest.trees in
    let marked : AreNodesOf m.touched.keys (chosen (rooted_at is) ts) = subst (λ (keys : List ℕ). AreNodesOf keys (chosen (rooted_at is) ts)) (sym c.in-Ok.ensures.marked) c.in-Ok.ensures.nodes in
    subst (λ (d : ChosenTerm). IsStoredBut m.touched.keys d.after) (sym c.of_roots-draft.ensures)
    (subst (λ (js : List ℕ). IsStoredBut m.touched.keys (chosen (rooted_at js) ts)) (sym c.in-Ok.ensures.roots) (all-marked m.touched.keys (chosen (rooted_at is) ts) marked))
