use Rattle.std.proofs.Common.{Some, ◌≡◌, IsSome, refl, ap, sym, ◌∙◌, subst, string_bytes}
use Rattle.data_model.specs.Changes.{with_content}
use Rattle.data_model.specs.Trees.{Content, find}
use Rattle.data_model.proofs.Climbs.{there-counts}
use Rattle.node_plans.proofs.Results.{by-result, on-ok}
use Rattle.trees.specs.Drafts.{DraftTerm}
use Rattle.update_meaning.specs.Changed.{rooted_at, chosen}
use Rattle.chosen_drafts.specs.Inside.{AreTrees, shown}
use Rattle.chosen_drafts.proofs.Chosen.{seen, content-kept, chosen-content}
use Rattle.chosen_drafts.proofs.some_trees.SomeTrees.set_name.Goals as goal

pub set_name-requires : goal.set_name-requires
set_name-requires c =
    let a = c.self.inside in
    let there : IsSome (find c.args.id (chosen (rooted_at a.roots.items) a.draft.after)) = rw (sym c.self.view_is) at c.requires in
    let among = c.self.invariant.noted c.args.id (there-counts c.args.id (chosen (rooted_at a.roots.items) a.draft.after) there) in
    subst IsSome (seen a.roots.items a.nodes.keys a.others c.args.id a.draft c.self.invariant among) there

abbrev says : goal.After-set_name → Content → Content
says c d = record d { name = string_bytes c.args.name }

pub invariant_of-self : goal.invariant_of-self
invariant_of-self c =
    let a = c.self.inside in
    let new = c.set_name.new.self in
    let there : IsSome (find c.args.id (chosen (rooted_at a.roots.items) a.draft.after)) = rw (sym c.self.view_is) at c.requires in
    let among = c.self.invariant.noted c.args.id (there-counts c.args.id (chosen (rooted_at a.roots.items) a.draft.after) there) in
    let P : DraftTerm → Type 0 = λ d. AreTrees a.roots.items a.nodes.keys a.others d in
    by-result c.set_name.result (new ≡ record a.draft { after = with_content c.args.id (says c) a.draft.after }) (new ≡ a.draft) (P new) c.set_name.ensures.set c.set_name.ensures.refused
    (λ e. subst P (sym e) (content-kept a.roots.items a.nodes.keys a.others c.args.id (says c) (λ d. refl) a.draft among c.self.invariant))
    (λ e. subst P (sym e) c.self.invariant)

pub returns-clause-set : goal.returns-clause-set
returns-clause-set c =
    let a = c.self.inside in
    let new = c.set_name.new.self in
    rw (sym c.self.view_is) (on-ok c.set_name.result (new ≡ record a.draft { after = with_content c.args.id (says c) a.draft.after }) _ c.set_name.ensures.set
    (λ e. ap (shown a.roots.items) e ∙ ap (λ ts. record { before = a.draft.before; after = ts; next = a.draft.next; roots = Some a.roots.items }) (chosen-content a.roots.items c.args.id (says c) (λ d. refl) a.draft.after)))
