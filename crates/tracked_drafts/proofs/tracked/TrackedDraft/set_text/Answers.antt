use Rattle.std.proofs.Common.{◌≡◌, sym, subst, inl, refl, string_bytes}
use Rattle.data_model.specs.Trees.{Content}
use Rattle.data_model.specs.Changes.{with_content}
use Rattle.node_plans.proofs.Results.{by-result}
use Rattle.chosen_drafts.specs.Terms.{ChosenTerm}
use Rattle.tracked_drafts.specs.Tests.{IsStoredBut}
use Rattle.tracked_drafts.proofs.Marks.{begins-among}
use Rattle.tracked_drafts.proofs.Tests.{stored-more}
use Rattle.tracked_drafts.proofs.Rewrites.{IsSameKind}
use Rattle.tracked_drafts.proofs.Changes.{stored-content, names-kept}
use Rattle.tracked_drafts.proofs.tracked.TrackedDraft.set_text.Goals as goal

pub invariant_of-self : goal.invariant_of-self
invariant_of-self c = stored-more c.self.inside.touched.keys c.mark.new.touched.keys c.self.inside.draft.after (begins-among c.self.inside.touched.keys c.mark.new.touched.keys c.mark.ensures.grows) c.self.invariant

abbrev says : goal.After-set_text → Content → Content
says c d = record d { text = string_bytes c.args.text }

same : (c : goal.After-set_text) → IsSameKind (says c)
same c = record { identity = λ d. refl; kind = λ d. refl }

marked : (c : goal.After-set_text) → IsStoredBut c.mark.new.touched.keys c.self.inside.draft.after
marked c = stored-more c.self.inside.touched.keys c.mark.new.touched.keys c.self.inside.draft.after (begins-among c.self.inside.touched.keys c.mark.new.touched.keys c.mark.ensures.grows) c.self.invariant

pub invariant_of-self-2 : goal.invariant_of-self-2
invariant_of-self-2 c =
    let old = c.self.inside.draft in
    let new = c.set_text.new.self in
    let is = c.mark.new.touched.keys in
    let P : ChosenTerm → Type 0 = λ d. IsStoredBut is d.after in
    by-result c.set_text.result (new ≡ record old { after = with_content c.args.id (says c) old.after }) (new ≡ old) (P new) c.set_text.ensures.set c.set_text.ensures.refused
    (λ e. subst P (sym e) (stored-content is c.args.id (says c) (same c) c.in_ok-mark.ensures.marked old.after (inl (names-kept c.args.id (says c) (λ d. refl))) (marked c)))
    (λ e. subst P (sym e) (marked c))
