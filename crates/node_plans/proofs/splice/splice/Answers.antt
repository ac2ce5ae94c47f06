use Rattle.std.proofs.Common.{◌≡◌, ◌∙◌, ℕ, ◌+◌, IsSome, ap, sym, arith, subst, length}
use Rattle.data_model.specs.Trees.{Trees, size}
use Rattle.data_model.specs.Tree.{all_of}
use Rattle.data_model.specs.Changes.{with_part}
use Rattle.node_table.specs.Flat.{Table, IsTableOf, IsDocumentEntry}
use Rattle.node_table.specs.Rows.{trees_of}
use Rattle.node_table.specs.Labels.{HasNumbers}
use Rattle.node_table.proofs.Listings.{listed-of}
use Rattle.node_table.proofs.Plants.{size-within-identities}
use Rattle.node_plans.specs.Planned.{table_with, places_with}
use Rattle.node_plans.specs.Splices.{spliced, Writes}
use Rattle.node_plans.proofs.Results.{by-result, both-err, on-ok, on-err, if-ok}
use Rattle.node_plans.proofs.Splices.{outlined-stays, outlined-fresh, outlined-apart, outlined-fits, written-table, written-size, written-documents, written-numbers}
use Rattle.node_plans.proofs.splice.splice.Goals as goal

pub outline_of-requires-clause-listed : goal.outline_of-requires-clause-listed
outline_of-requires-clause-listed c = listed-of (table_with c.args.plan.now c.args.rows.now) c.args.levels (trees_of (table_with c.args.plan.now c.args.rows.now) c.args.levels) c.requires.table c.requires.bound

pub outline_of-requires-clause-few : goal.outline_of-requires-clause-few
outline_of-requires-clause-few c =
    let small = size-within-identities c.args.levels (all_of c.args.trees.now) (λ i. (let a = c.requires.apart i in omega arith)) c.requires.below in
    let bound = c.requires.bound in omega arith

pub returns-in_err-outline-clause-numbered : goal.returns-in_err-outline-clause-numbered
returns-in_err-outline-clause-numbered c = c.outline_of.ensures.numbered

pub returns-in_err-outline-clause-documents : goal.returns-in_err-outline-clause-documents
returns-in_err-outline-clause-documents c = λ i d. (let P : Table → Type 0 = λ f. IsDocumentEntry (f i) in subst P (sym c.outline_of.ensures.same) d)

pub write-requires-clause-has : goal.write-requires-clause-has
write-requires-clause-has c = let P : Table → Type 0 = λ f. IsSome (f c.args.span.parent) in subst P (sym c.outline_of.ensures.same) c.requires.has

pub write-requires-clause-stays : goal.write-requires-clause-stays
write-requires-clause-stays c =
    (let f = table_with c.args.plan.now c.args.rows.now in
    let v = places_with c.outline_of.new.plan c.args.rows.now in
    let N : Table → Type 0 = HasNumbers v in
    let up = subst N c.outline_of.ensures.same c.outline_of.ensures.numbered in
    let s = c.args.span in
    let o = c.in_ok-outline.outline in
    let q = c.requires in
    let e = c.in_ok-outline.ensures in
    outlined-stays f c.args.levels v s.part s.parent s.from s.to o.first o.list.items o.gone.items (trees_of f c.args.levels) (all_of c.args.trees.now) q.table q.bound up q.has q.ordered q.within q.apart q.below e.free e.list e.gone)

pub write-requires-clause-fresh : goal.write-requires-clause-fresh
write-requires-clause-fresh c = λ i l. ap (λ (f : Table). f i) c.outline_of.ensures.same ∙
    (let f = table_with c.args.plan.now c.args.rows.now in
    let v = places_with c.outline_of.new.plan c.args.rows.now in
    let N : Table → Type 0 = HasNumbers v in
    let up = subst N c.outline_of.ensures.same c.outline_of.ensures.numbered in
    let s = c.args.span in
    let o = c.in_ok-outline.outline in
    let q = c.requires in
    let e = c.in_ok-outline.ensures in
    outlined-fresh f c.args.levels v s.part s.parent s.from s.to o.first o.list.items o.gone.items (trees_of f c.args.levels) (all_of c.args.trees.now) q.table q.bound up q.has q.ordered q.within q.apart q.below e.free e.list e.gone) i l

pub write-requires-clause-apart : goal.write-requires-clause-apart
write-requires-clause-apart c =
    (let f = table_with c.args.plan.now c.args.rows.now in
    let v = places_with c.outline_of.new.plan c.args.rows.now in
    let N : Table → Type 0 = HasNumbers v in
    let up = subst N c.outline_of.ensures.same c.outline_of.ensures.numbered in
    let s = c.args.span in
    let o = c.in_ok-outline.outline in
    let q = c.requires in
    let e = c.in_ok-outline.ensures in
    outlined-apart f c.args.levels v s.part s.parent s.from s.to o.first o.list.items o.gone.items (trees_of f c.args.levels) (all_of c.args.trees.now) q.table q.bound up q.has q.ordered q.within q.apart q.below e.free e.list e.gone)

pub write-requires-clause-distinct : goal.write-requires-clause-distinct
write-requires-clause-distinct c = λ i. (let a = c.requires.apart i in omega arith)

pub write-requires-clause-few : goal.write-requires-clause-few
write-requires-clause-few c =
    (let f = table_with c.args.plan.now c.args.rows.now in
    let v = places_with c.outline_of.new.plan c.args.rows.now in
    let N : Table → Type 0 = HasNumbers v in
    let up = subst N c.outline_of.ensures.same c.outline_of.ensures.numbered in
    let s = c.args.span in
    let o = c.in_ok-outline.outline in
    let q = c.requires in
    let e = c.in_ok-outline.ensures in
    outlined-fits f c.args.levels v s.part s.parent s.from s.to o.first o.list.items o.gone.items (trees_of f c.args.levels) (all_of c.args.trees.now) q.table q.bound up q.has q.ordered q.within q.apart q.below e.free e.list e.gone)

abbrev Written : goal.After-write → Type 0
Written c =
    Writes (table_with c.outline_of.new.plan c.args.rows.now) (table_with c.write.new.plan c.args.rows.now) (places_with c.outline_of.new.plan c.args.rows.now) (places_with c.write.new.plan c.args.rows.now) c.args.span.part c.args.span.parent c.in_ok-outline.outline.first c.in_ok-outline.outline.list.items
    c.in_ok-outline.outline.gone.items (all_of c.args.trees.now)

abbrev before : goal.After-write → Trees
before c = trees_of (table_with c.args.plan.now c.args.rows.now) c.args.levels

abbrev after : goal.After-write → Trees
after c = with_part c.args.span.part c.args.span.parent (spliced c.args.span.from c.args.span.to (all_of c.args.trees.now)) (before c)

outcome : (c : goal.After-write) → Written c
    → IsTableOf (table_with c.write.new.plan c.args.rows.now) c.args.levels (after c)
    × (size (after c) + length c.in_ok-outline.outline.gone.items ≡ size (before c) + size (all_of c.args.trees.now))
    × ((i : ℕ) → IsDocumentEntry (table_with c.args.plan.now c.args.rows.now i) → IsDocumentEntry (table_with c.write.new.plan c.args.rows.now i))
    × HasNumbers (places_with c.write.new.plan c.args.rows.now) (table_with c.write.new.plan c.args.rows.now)
outcome c written =
    let f = table_with c.args.plan.now c.args.rows.now in
    let g = table_with c.write.new.plan c.args.rows.now in
    let v = places_with c.outline_of.new.plan c.args.rows.now in
    let w = places_with c.write.new.plan c.args.rows.now in
    let s = c.args.span in
    let o = c.in_ok-outline.outline in
    let q = c.requires in
    let e = c.in_ok-outline.ensures in
    let N : Table → Type 0 = HasNumbers v in
    let up = subst N c.outline_of.ensures.same c.outline_of.ensures.numbered in
    let P : Table → Type 0 = λ t. Writes t g v w s.part s.parent o.first o.list.items o.gone.items (all_of c.args.trees.now) in
    let wr = subst P c.outline_of.ensures.same written in (
      written-table f c.args.levels v s.part s.parent s.from s.to o.first o.list.items o.gone.items (trees_of f c.args.levels) (all_of c.args.trees.now) q.table q.bound up q.has q.ordered q.within q.apart q.below e.free e.list e.gone g w wr,
      written-size f c.args.levels v s.part s.parent s.from s.to o.first o.list.items o.gone.items (trees_of f c.args.levels) (all_of c.args.trees.now) q.table q.bound up q.has q.ordered q.within q.apart q.below e.free e.list e.gone g w wr,
      written-documents f c.args.levels v s.part s.parent s.from s.to o.first o.list.items o.gone.items (trees_of f c.args.levels) (all_of c.args.trees.now) q.table q.bound up q.has q.ordered q.within q.apart q.below e.free e.list e.gone g w wr,
      written-numbers f c.args.levels v s.part s.parent s.from s.to o.first o.list.items o.gone.items (trees_of f c.args.levels) (all_of c.args.trees.now) q.table q.bound up q.has q.ordered q.within q.apart q.below e.free e.list e.gone g w wr,
    )

-- memory was refused: the table is as it was, and so are the numbers
abbrev Refused : goal.After-write → Type 0
Refused c = (table_with c.write.new.plan c.args.rows.now ≡ table_with c.outline_of.new.plan c.args.rows.now) × (places_with c.write.new.plan c.args.rows.now ≡ places_with c.outline_of.new.plan c.args.rows.now)

pub returns-clause-spliced : goal.returns-clause-spliced
returns-clause-spliced c = on-ok c.write.result (Written c) _ c.write.ensures.written (λ h. (outcome c h).0)

pub returns-clause-removed : goal.returns-clause-removed
returns-clause-removed c =
    if-ok c.write.result (Written c) (λ n. n ≡ length c.in_ok-outline.outline.gone.items) _ c.write.ensures.written c.write.ensures.counted (λ n h k. (let s = (outcome c h).1 in omega arith))

pub returns-clause-numbered : goal.returns-clause-numbered
returns-clause-numbered c =
    by-result c.write.result (Written c) (Refused c) _ c.write.ensures.written (both-err c.write.result _ _ c.write.ensures.refused c.write.ensures.places) (λ h. (outcome c h).3) (λ h. rw (h.0, h.1) c.outline_of.ensures.numbered)

pub returns-clause-documents : goal.returns-clause-documents
returns-clause-documents c =
    by-result c.write.result (Written c) (Refused c) _ c.write.ensures.written (both-err c.write.result _ _ c.write.ensures.refused c.write.ensures.places) (λ h. (outcome c h).2)
    (λ h i d. (let P : Table → Type 0 = λ f. IsDocumentEntry (f i) in subst P (sym (h.0 ∙ c.outline_of.ensures.same)) d))

pub returns-clause-refused : goal.returns-clause-refused
returns-clause-refused c = on-err c.write.result _ _ c.write.ensures.refused (λ h. h ∙ c.outline_of.ensures.same)
