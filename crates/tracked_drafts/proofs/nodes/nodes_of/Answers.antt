use Rattle.std.proofs.Common.{ℕ, ◌+◌, List, ◌++◌, get_or, ap, sym, ◌∙◌, subst, arith}
use Rattle.data_model.specs.Trees.{attributes_of, children_of}
use Rattle.update_meaning.specs.Changed.{rooted_at, chosen}
use Rattle.tracked_drafts.specs.Walked.{AreApart, Walked}
use Rattle.tracked_drafts.proofs.Walking.{walk-begins, walk-turn, walk-apart, walk-within, walked}
use Rattle.tracked_drafts.proofs.nodes.nodes_of.Goals as goal

pub note-requires : goal.note-requires
note-requires c =
    let is = c.args.roots.now in
    let ts = c.args.forest.now.trees in
    subst (λ (ks : List ℕ). AreApart (ks ++ is)) (sym c.new-nodes.ensures.empty) (walk-apart ts is is 0 c.facts.ensures.distinct (walk-begins ts is c.facts.ensures.distinct c.requires.distinct c.requires.roots))

pub loop-at-init : goal.loop-at-init
loop-at-init c =
    let is = c.args.roots.now in
    let ts = c.args.forest.now.trees in
    subst (λ (ks : List ℕ). Walked ts (chosen (rooted_at is) ts) ks 0) (sym (c.in_ok-note.ensures ∙ ap (λ ks. ks ++ is) c.new-nodes.ensures.empty)) (walk-begins ts is c.facts.ensures.distinct c.requires.distinct c.requires.roots)

pub note_lists-requires : goal.note_lists-requires
note_lists-requires c =
    let is = c.args.roots.now in
    let ts = c.args.forest.now.trees in
    let keys = c.loop-at.nodes.keys in
    let at = c.loop-at.at in
    walk-apart ts is ((keys ++ attributes_of c.new-id.result ts) ++ children_of c.new-id.result ts) (at + 1) c.facts.ensures.distinct
    (walk-turn ts (chosen (rooted_at is) ts) keys at c.new-id.result c.facts.ensures.distinct (omega (arith, c.loop-at-test.true, c.len.ensures.len)) (c.new-id.ensures ∙ ap (λ xs. get_or xs c.loop-at.at 0) c.as_slice.ensures.keys) c.loop-at.invariant)

pub loop-at-smaller : goal.loop-at-smaller
loop-at-smaller c =
    let within = walk-within c.args.forest.now.trees c.args.roots.now c.loop-at.nodes.keys c.loop-at.at c.facts.ensures.distinct (omega (arith, c.loop-at-test.true, c.len.ensures.len)) c.loop-at.invariant in
    omega (arith, within)

pub loop-at-preserved : goal.loop-at-preserved
loop-at-preserved c =
    let is = c.args.roots.now in
    let ts = c.args.forest.now.trees in
    subst (λ (ks : List ℕ). Walked ts (chosen (rooted_at is) ts) ks (c.loop-at.at + 1)) (sym c.in_ok-note_lists.ensures)
    (walk-turn ts (chosen (rooted_at is) ts) c.loop-at.nodes.keys c.loop-at.at c.new-id.result c.facts.ensures.distinct (omega (arith, c.loop-at-test.true, c.len.ensures.len)) (c.new-id.ensures ∙ ap (λ xs. get_or xs c.loop-at.at 0) c.as_slice.ensures.keys) c.loop-at.invariant)

pub returns : goal.returns
returns c = walked c.args.forest.now.trees (chosen (rooted_at c.args.roots.now) c.args.forest.now.trees) c.loop-at.nodes.keys c.loop-at.at (omega (arith, c.loop-at-test.false, c.len.ensures.len)) c.loop-at.invariant
