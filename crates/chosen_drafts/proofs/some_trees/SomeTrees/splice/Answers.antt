use Rattle.std.proofs.Common.{Some, ◌≡◌, ℕ, ◌<◌, ◌≤◌, true, IsSome, List, length, ap, sym, ◌∙◌, subst}
use Rattle.data_model.specs.Changes.{with_part, part_of}
use Rattle.data_model.specs.Tree.{all_of}
use Rattle.data_model.specs.Trees.{count, find, append}
use Rattle.data_model.proofs.Climbs.{there-counts}
use Rattle.node_plans.proofs.Results.{by-result, on-ok}
use Rattle.node_plans.specs.Splices.{spliced}
use Rattle.trees.specs.Drafts.{DraftTerm}
use Rattle.pending.specs.Compatible.{is_among}
use Rattle.update_meaning.specs.Changed.{rooted_at, chosen}
use Rattle.chosen_drafts.specs.Chosen.{others}
use Rattle.chosen_drafts.specs.Inside.{AreTrees, shown}
use Rattle.chosen_drafts.proofs.Chosen.{seen, chosen-part}
use Rattle.chosen_drafts.proofs.Spliced.{part-same, distinct-whole, noted-new, spliced-kept}
use Rattle.chosen_drafts.proofs.some_trees.SomeTrees.splice.Goals as goal

-- what is asked of the trees that are shown
there : (c : goal.After-splice) → IsSome (find c.args.parent (chosen (rooted_at c.self.inside.roots.items) c.self.inside.draft.after))
there c = rw (sym c.self.view_is) at c.requires.has

among : (c : goal.After-splice) → is_among c.self.inside.nodes.keys c.args.parent ≡ true
among c = c.self.invariant.noted c.args.parent (there-counts c.args.parent (chosen (rooted_at c.self.inside.roots.items) c.self.inside.draft.after) (there c))

pub splice-requires-clause-has : goal.splice-requires-clause-has
splice-requires-clause-has c =
    let a = c.self.inside in
    let t : IsSome (find c.args.parent (chosen (rooted_at a.roots.items) a.draft.after)) = rw (sym c.self.view_is) at c.requires.has in
    let m = c.self.invariant.noted c.args.parent (there-counts c.args.parent (chosen (rooted_at a.roots.items) a.draft.after) t) in
    subst IsSome (seen a.roots.items a.nodes.keys a.others c.args.parent a.draft c.self.invariant m) t

pub splice-requires-clause-within : goal.splice-requires-clause-within
splice-requires-clause-within c =
    let a = c.self.inside in
    let t : IsSome (find c.args.parent (chosen (rooted_at a.roots.items) a.draft.after)) = rw (sym c.self.view_is) at c.requires.has in
    let m = c.self.invariant.noted c.args.parent (there-counts c.args.parent (chosen (rooted_at a.roots.items) a.draft.after) t) in
    let within : c.args.to ≤ length (part_of c.args.part c.args.parent (chosen (rooted_at a.roots.items) a.draft.after)) = rw (sym c.self.view_is) at c.requires.within in
    subst (λ (xs : List ℕ). c.args.to ≤ length xs) (part-same c.args.part c.args.parent (chosen (rooted_at a.roots.items) a.draft.after) a.draft.after (seen a.roots.items a.nodes.keys a.others c.args.parent a.draft c.self.invariant m)) within

pub splice-requires-clause-distinct : goal.splice-requires-clause-distinct
splice-requires-clause-distinct c = λ i.
    (let a = c.self.inside in
    let us = all_of c.args.trees.now in
    let new : count i (append (chosen (rooted_at a.roots.items) a.draft.after) us) ≤ 1 = rw (sym c.self.view_is) at c.requires.distinct i in
    let apart : 0 < count i us → count i (others a.roots.items a.draft.before.trees) ≡ 0 = rw (sym c.self.view_is) at c.requires.apart i in
    distinct-whole a.roots.items a.draft.after us (others a.roots.items a.draft.before.trees) i c.self.invariant.same (c.facts.ensures.distinct i) new apart)

pub invariant_of-self-2 : goal.invariant_of-self-2
invariant_of-self-2 c =
    let a = c.self.inside in
    let us = all_of c.args.trees.now in
    let new = c.splice.new.self in
    let keys = c.note_all.new.nodes.keys in
    let apart : (i : ℕ) → 0 < count i us → count i (others a.roots.items a.draft.before.trees) ≡ 0 = rw (sym c.self.view_is) at c.requires.apart in
    let base = noted-new a.roots.items a.nodes.keys keys a.others us a.draft c.note_all.ensures.notes apart c.self.invariant in
    let P : DraftTerm → Type 0 = λ d. AreTrees a.roots.items keys a.others d in
    by-result c.splice.result (new ≡ record a.draft { after = with_part c.args.part c.args.parent (spliced c.args.from c.args.to us) a.draft.after }) (new ≡ a.draft) (P new) c.splice.ensures.spliced c.splice.ensures.refused
    (λ e. subst P (sym e) (spliced-kept a.roots.items keys a.others c.args.part c.args.parent c.args.from c.args.to us a.draft c.requires.ordered (c.note_all.ensures.notes.grows c.args.parent (among c)) c.in_ok-note_all.ensures.noted base))
    (λ e. subst P (sym e) base)

pub returns-clause-spliced : goal.returns-clause-spliced
returns-clause-spliced c =
    let a = c.self.inside in
    let us = all_of c.args.trees.now in
    let new = c.splice.new.self in
    rw (sym c.self.view_is) (on-ok c.splice.result (new ≡ record a.draft { after = with_part c.args.part c.args.parent (spliced c.args.from c.args.to us) a.draft.after }) _ c.splice.ensures.spliced
    (λ e. ap (shown a.roots.items) e ∙ ap (λ ts. record { before = a.draft.before; after = ts; next = a.draft.next; roots = Some a.roots.items }) (chosen-part a.roots.items c.args.part c.args.parent (spliced c.args.from c.args.to us) a.draft.after)))
