use Rattle.std.proofs.Common.{◌≡◌, ℕ, true, Some, IfSome, List, None, sym, subst, inr, refl, string_bytes}
use Rattle.data_model.specs.Trees.{Content, Place, find}
use Rattle.data_model.specs.Changes.{with_content}
use Rattle.node_plans.proofs.Results.{by-result}
use Rattle.node_table.proofs.Entries.{some-of}
use Rattle.pending.specs.Compatible.{is_among}
use Rattle.chosen_drafts.specs.Terms.{ChosenTerm}
use Rattle.tracked_drafts.specs.Tests.{IsStoredBut}
use Rattle.tracked_drafts.proofs.Marks.{begins-among, begins-trans}
use Rattle.tracked_drafts.proofs.Tests.{stored-more}
use Rattle.tracked_drafts.proofs.Rewrites.{IsSameKind, parent-among}
use Rattle.tracked_drafts.proofs.Changes.{stored-content}
use Rattle.tracked_drafts.proofs.tracked.TrackedDraft.set_name.Goals as goal

pub invariant_of-self : goal.invariant_of-self
invariant_of-self c = stored-more c.self.inside.touched.keys c.mark.new.touched.keys c.self.inside.draft.after (begins-among c.self.inside.touched.keys c.mark.new.touched.keys c.mark.ensures.grows) c.self.invariant

pub invariant_of-self-in_err-mark_parent : goal.invariant_of-self-in_err-mark_parent
invariant_of-self-in_err-mark_parent c =
    let k0 = c.self.inside.touched.keys in
    let k1 = c.mark.new.touched.keys in
    let k2 = c.mark_parent.new.touched.keys in
    stored-more k0 k2 c.self.inside.draft.after (begins-among k0 k2 (begins-trans k0 k1 k2 c.mark.ensures.grows c.mark_parent.ensures.grows)) c.self.invariant

abbrev says : goal.After-set_name → Content → Content
says c d = record d { name = string_bytes c.args.name }

same : (c : goal.After-set_name) → IsSameKind (says c)
same c = record { identity = λ d. refl; kind = λ d. refl }

marked : (c : goal.After-set_name) → IsStoredBut c.mark_parent.new.touched.keys c.self.inside.draft.after
marked c =
    let k0 = c.self.inside.touched.keys in
    let k1 = c.mark.new.touched.keys in
    let k2 = c.mark_parent.new.touched.keys in
    stored-more k0 k2 c.self.inside.draft.after (begins-among k0 k2 (begins-trans k0 k1 k2 c.mark.ensures.grows c.mark_parent.ensures.grows)) c.self.invariant

-- the parent of the place that was found
up : (is : List ℕ) (x : Place) → IfSome x.parent (λ p. is_among is p ≡ true) → (p : ℕ) → x.parent ≡ Some p → is_among is p ≡ true
up is x h p e = rw e at h

pub invariant_of-self-2 : goal.invariant_of-self-2
invariant_of-self-2 c =
    let old = c.self.inside.draft in
    let new = c.set_name.new.self in
    let is = c.mark_parent.new.touched.keys in
    let id = c.args.id in
    let P : ChosenTerm → Type 0 = λ d. IsStoredBut is d.after in
    let there = rw (sym c.self.view_is) at c.requires in
    let x = some-of (find id old.after) there in
    let among : is_among is id ≡ true = begins-among c.mark.new.touched.keys is c.mark_parent.ensures.grows id c.in_ok-mark.ensures.marked in
    let parent : IfSome x.0.parent (λ p. is_among is p ≡ true) = rw x.1 at c.in_ok-mark_parent.ensures.marked in
    by-result c.set_name.result (new ≡ record old { after = with_content id (says c) old.after }) (new ≡ old) (P new) c.set_name.ensures.set c.set_name.ensures.refused
    (λ e. subst P (sym e) (stored-content is id (says c) (same c) among old.after (inr (parent-among is None id old.after x.0 (c.facts.ensures.distinct id) x.1 (up is x.0 parent))) (marked c)))
    (λ e. subst P (sym e) (marked c))
