use Rattle.std.proofs.Common.{◌≡◌, ◌+◌, ◌≤◌, ◌∙◌, ℕ, Bool, true, false, not, nat_lt, Option, IsSome, is_some, None, Some, sym, arith, refl}
use Rattle.std.proofs.lemmas.Bool.Decides.{nat_tests}
use Rattle.data_model.specs.Trees.{Trees, Place, find, count}
use Rattle.data_model.specs.Views.{Views}
use Rattle.data_model.specs.Walks.{depth_of}
use Rattle.data_model.specs.declared.node.NodeView.{NodeView}
use Rattle.data_model.proofs.Paths.{path-up, path-top}
use Rattle.node_table.proofs.Entries.{some-of}
use Rattle.tracked_drafts.specs.Tests.{is_within}
use Rattle.tracked_drafts.proofs.Exits.{passes_at, passes-found, passes-absent}
use Rattle.apply.proofs.Turns.{unseen}
use Rattle.apply.proofs.places.is_within.Goals as goal

gone : (r : Option NodeView) (b : Bool) → is_some r ≡ not b → b ≡ true → r ≡ None
gone None b e h = refl
gone (Some v) b e h = (let z = rw h at e in cc)

there : (r : Option NodeView) (o : Option Place) (b : Bool) → is_some r ≡ not b → b ≡ false → Views r o → IsSome o
there None o b e h v = (let z = rw h at e in cc)
there (Some x) None b e h v = absurd v
there (Some x) (Some y) b e h v = refl

decided : (i : ℕ) (ts : Trees) (v : Bool) → ((j : ℕ) → count j ts ≤ 1) → IsSome (find i ts) → nat_lt (0 + depth_of i ts) 60 ≡ v → v ≡ passes_at i is_within 0 ts
decided i ts v one some e = let x = some-of (find i ts) some in sym (passes-found i is_within None 0 ts x.0 (one i) x.1 ∙ e)

pub returns-then-is_none : goal.returns-then-is_none
returns-then-is_none c =
    let ts = c.args.draft.now.draft.after in
    sym (passes-absent c.args.id is_within 0 ts (unseen c.node.result c.args.id ts (gone c.node.result c.is_none.result c.is_none.ensures c.if-is_none.true) c.node.ensures))

pub loop-above-init : goal.loop-above-init
loop-above-init c = (omega arith, there c.node.result (find c.args.id c.args.draft.now.draft.after) c.is_none.result c.is_none.ensures c.if-is_none.false c.node.ensures, omega arith)

pub returns-in-None : goal.returns-in-None
returns-in-None c =
    let ts = c.args.draft.now.draft.after in
    let i = c.loop-above.invariant in
    let l = c.loop-above-test.true in
    let top = (path-top c.loop-above.at ts c.facts.ensures.distinct i.1 (sym c.parent_of.ensures ∙ c.in-None.is)).1 in
    let was = i.2 in
    decided c.args.id ts true c.facts.ensures.distinct (there c.node.result (find c.args.id ts) c.is_none.result c.is_none.ensures c.if-is_none.false c.node.ensures) (grind (arith, nat_tests))

pub loop-above-preserved : goal.loop-above-preserved
loop-above-preserved c =
    let i = c.loop-above.invariant in
    let l = c.loop-above-test.true in
    let up = path-up c.loop-above.at c.in-Some.parent c.args.draft.now.draft.after c.facts.ensures.distinct i.1 (sym c.parent_of.ensures ∙ c.in-Some.is) in
    let level = up.1 in
    let was = i.2 in
    (omega arith, up.0, omega arith)

pub returns : goal.returns
returns c =
    let ts = c.args.draft.now.draft.after in
    let i = c.loop-above.invariant in
    let l = c.loop-above-test.false in
    let was = i.2 in
    decided c.args.id ts false c.facts.ensures.distinct (there c.node.result (find c.args.id ts) c.is_none.result c.is_none.ensures c.if-is_none.false c.node.ensures) (grind (arith, nat_tests))
