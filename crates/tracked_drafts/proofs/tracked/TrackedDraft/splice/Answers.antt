use Rattle.std.proofs.Common.{◌≡◌, ◌≤◌, ℕ, true, Some, Option, None, IfSome, List, length, sym, subst, refl, arith}
use Rattle.data_model.specs.Trees.{Trees, Place, find, roots}
use Rattle.data_model.specs.Tree.{all_of}
use Rattle.data_model.specs.Changes.{with_part, part_of}
use Rattle.data_model.specs.declared.node.Part.{Part}
use Rattle.data_model.specs.declared.node.Part.TheVariants.{Attributes, Children}
use Rattle.node_plans.specs.Splices.{spliced}
use Rattle.node_plans.proofs.Results.{by-result}
use Rattle.node_table.specs.Labels.{get_before}
use Rattle.node_table.proofs.Entries.{some-of}
use Rattle.pending.specs.Compatible.{is_among}
use Rattle.chosen_drafts.specs.Terms.{ChosenTerm}
use Rattle.tracked_drafts.specs.Tests.{IsStoredBut, Begins}
use Rattle.tracked_drafts.proofs.Marks.{begins-among, begins-trans}
use Rattle.tracked_drafts.proofs.Places.{list_of}
use Rattle.tracked_drafts.proofs.Tests.{stored-more}
use Rattle.tracked_drafts.proofs.Changes.{stored-spliced}
use Rattle.tracked_drafts.proofs.tracked.TrackedDraft.splice.Goals as goal

pub invariant_of-self : goal.invariant_of-self
invariant_of-self c = stored-more c.self.inside.touched.keys c.mark.new.touched.keys c.self.inside.draft.after (begins-among c.self.inside.touched.keys c.mark.new.touched.keys c.mark.ensures.grows) c.self.invariant

pub invariant_of-self-in_err-mark_sibling : goal.invariant_of-self-in_err-mark_sibling
invariant_of-self-in_err-mark_sibling c =
    let k0 = c.self.inside.touched.keys in
    let k1 = c.mark.new.touched.keys in
    let k2 = c.mark_sibling.new.touched.keys in
    stored-more k0 k2 c.self.inside.draft.after (begins-among k0 k2 (begins-trans k0 k1 k2 c.mark.ensures.grows c.mark_sibling.ensures.grows)) c.self.invariant

pub invariant_of-self-in_err-mark_all : goal.invariant_of-self-in_err-mark_all
invariant_of-self-in_err-mark_all c =
    let k0 = c.self.inside.touched.keys in
    let k1 = c.mark.new.touched.keys in
    let k2 = c.mark_sibling.new.touched.keys in
    let k3 = c.mark_all.new.touched.keys in
    stored-more k0 k3 c.self.inside.draft.after (begins-among k0 k3 (begins-trans k0 k1 k3 c.mark.ensures.grows (begins-trans k1 k2 k3 c.mark_sibling.ensures.grows c.mark_all.ensures.grows))) c.self.invariant

marked : (c : goal.After-splice) → IsStoredBut c.mark_all.new.touched.keys c.self.inside.draft.after
marked c =
    let k0 = c.self.inside.touched.keys in
    let k1 = c.mark.new.touched.keys in
    let k2 = c.mark_sibling.new.touched.keys in
    let k3 = c.mark_all.new.touched.keys in
    stored-more k0 k3 c.self.inside.draft.after (begins-among k0 k3 (begins-trans k0 k1 k3 c.mark.ensures.grows (begins-trans k1 k2 k3 c.mark_sibling.ensures.grows c.mark_all.ensures.grows))) c.self.invariant

-- the list of the place that was found
listed : (part : Part) (p : ℕ) (ts : Trees) (x : Place) → find p ts ≡ Some x → part_of part p ts ≡ roots (list_of part x)
listed Attributes p ts x e = rw e refl
listed Children p ts x e = rw e refl

if-more : (o : Option ℕ) (is js : List ℕ) → Begins is js → IfSome o (λ i. is_among is i ≡ true) → IfSome o (λ i. is_among js i ≡ true)
if-more None is js b h = tt
if-more (Some i) is js b h = begins-among is js b i h

pub invariant_of-self-2 : goal.invariant_of-self-2
invariant_of-self-2 c =
    let old = c.self.inside.draft in
    let new = c.splice.new.self in
    let k1 = c.mark.new.touched.keys in
    let k2 = c.mark_sibling.new.touched.keys in
    let is = c.mark_all.new.touched.keys in
    let p = c.args.parent in
    let us = all_of c.args.trees.now in
    let P : ChosenTerm → Type 0 = λ d. IsStoredBut is d.after in
    let x = some-of (find p old.after) (rw (sym c.self.view_is) at c.requires.has) in
    let among : is_among is p ≡ true = begins-among k1 is (begins-trans k1 k2 is c.mark_sibling.ensures.grows c.mark_all.ensures.grows) p c.in_ok-mark.ensures.marked in
    let list = listed c.args.part p old.after x.0 x.1 in
    let before : IfSome (get_before (roots (list_of c.args.part x.0)) c.args.from) (λ i. is_among is i ≡ true) = if-more (get_before (roots (list_of c.args.part x.0)) c.args.from) k2 is c.mark_all.ensures.grows (rw list at c.in_ok-mark_sibling.ensures.marked) in
    let within : c.args.to ≤ length (roots (list_of c.args.part x.0)) = rw (sym c.self.view_is, list) at c.requires.within in
    let ordered = c.requires.ordered in
    by-result c.splice.result (new ≡ record old { after = with_part c.args.part p (spliced c.args.from c.args.to us) old.after }) (new ≡ old) (P new) c.splice.ensures.spliced c.splice.ensures.refused
    (λ e. subst P (sym e) (stored-spliced is c.args.part p c.args.from c.args.to us old.after x.0 (c.facts.ensures.distinct p) x.1 among c.in_ok-mark_all.ensures.marked (omega arith) before (marked c)))
    (λ e. subst P (sym e) (marked c))
