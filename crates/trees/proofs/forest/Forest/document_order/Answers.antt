use Rattle.std.proofs.Common.{◌≡◌, ◌<◌, eqb, take, map, filter, is_some, refl, ap, sym, ◌∙◌, subst, All, IfOk, arith}
use Rattle.std.specs.List.{dedup}
use Rattle.std.proofs.lemmas.List.{take_all}
use Rattle.data_model.specs.Trees.{count}
use Rattle.data_model.specs.Order.{identities}
use Rattle.data_model.specs.Axes.{is_in}
use Rattle.trees.specs.Forest.{ForestTerm}
use Rattle.node_table.specs.Rising.{Rises}
use Rattle.node_table.specs.Rows.{table_of, trees_of}
use Rattle.node_table.specs.Labels.{place_of}
use Rattle.node_table.proofs.Ups.{orders-of, row-counts, row-there}
use Rattle.node_table.proofs.Ordered.{by-labels-in-order, in-document-order}
use Rattle.trees.proofs.forest.Forest.document_order.Goals as goal

pub returns-then-rising-len : goal.returns-then-rising-len
returns-then-rising-len c =
    let ids = c.args.ids.items in
    let xs = identities c.args.self.now.trees in
    let whole : take c.rising-rising.result ids ≡ ids = take_all c.rising-rising.result ids (omega (arith, c.if-rising-len.true, c.len.ensures)) in
    let told : Rises (take c.rising-rising.result c.deref.result.now) xs = subst (λ (t : ForestTerm). Rises (take c.rising-rising.result c.deref.result.now) (identities t.trees)) c.self.view_is c.rising-rising.ensures.rises in
    let rises : Rises ids xs = subst (λ l. Rises l xs) whole (subst (λ l. Rises (take c.rising-rising.result l) xs) c.deref.ensures.value told) in
    sym (in-document-order ids ids c.args.self.now.trees c.facts.ensures.distinct (λ i there. refl) rises)

pub returns : goal.returns
returns c =
    let a = c.self.inside in
    let f = table_of a.rows in
    let h = c.self.invariant.table in
    let ts = trees_of f a.next in
    let w = place_of a.rows in
    let o = orders-of w f a.next ts h c.self.invariant.numbered in
    let v = c.in_ok-labelled.labelled.items in
    let there : All (λ x. 0 < count x.node ts) v = λ k d l. row-counts w f a.next ts h _ (c.in_ok-labelled.ensures.there k d l) in
    let sorted = by-labels-in-order w ts o (λ i. is_some (f i)) c.args.ids.items v c.sort.new.self.items (row-there w f a.next ts h) (c.in_ok-labelled.ensures.nodes ∙ ap (filter (λ i. is_some (f i))) c.deref-3.ensures.value)
    c.sort.ensures.permutation there c.in_ok-labelled.ensures.labels c.in_ok-sort.ensures.sorted in
    subst (λ l. IfOk c.nodes_of.result (λ ns. ns.items ≡ l))
    (ap (λ l. dedup eqb (map (λ x. x.node) l)) c.deref-4.ensures.value ∙ sym sorted ∙ ap (λ (t : ForestTerm). filter (λ i. is_in i c.args.ids.items) (identities t.trees)) c.self.view_is) c.nodes_of.ensures
