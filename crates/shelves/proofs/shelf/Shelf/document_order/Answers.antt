use Rattle.std.proofs.Common.{◌≡◌, ℕ, Bool, true, ◌++◌, filter, ap, sym, ◌∙◌, subst, IfOk, nat_le, nat_lt}
use Rattle.std.specs.List.{each_same, list_all}
use Rattle.data_model.specs.Order.{identities}
use Rattle.data_model.specs.Axes.{is_in}
use Rattle.shelves.specs.Shelf.{ShelfTerm, shelf_trees}
use Rattle.shelves.proofs.Shelves.{all-lent, all-own, parted-inside, passing-both, passing-lent}
use Rattle.shelves.proofs.shelf.Shelf.document_order.Goals as goal

pub returns-then-len-eq0 : goal.returns-then-len-eq0
returns-then-len-eq0 c =
    let a = c.self.inside in
    let p : ℕ → Bool = λ i. is_in i c.args.ids.items in
    subst (λ l. IfOk c.document_order.result (λ nodes. nodes.items ≡ l))
    (sym (passing-lent p a.lent.now.trees a.own.trees (sym c.len.ensures ∙ c.if-len-eq0.true)) ∙ ap (λ (s : ShelfTerm). filter p (identities (shelf_trees s))) c.self.view_is) c.document_order.ensures

-- the lent forest alone may have them
pub returns-then-are_below : goal.returns-then-are_below
returns-then-are_below c =
    let a = c.self.inside in
    let ids = c.args.ids.items in
    let parted = parted-inside a.lent.now a.own c.args.self.now c.self.view_is c.facts.ensures in
    let all : list_all (λ i. nat_lt i a.lent.now.next) ids ≡ true = ap (λ n. list_all (λ i. nat_lt i n) ids) (sym c.next-first.ensures) ∙ ap (list_all (λ i. nat_lt i c.next-first.result)) (sym c.deref.ensures.value) ∙ sym c.are_below.ensures ∙ c.if-are_below.true in
    subst (λ l. IfOk c.document_order-then-are_below.result (λ nodes. nodes.items ≡ l))
    (sym (all-lent a.lent.now.next a.lent.now.trees a.own.trees parted ids all) ∙ ap (λ (s : ShelfTerm). filter (λ i. is_in i ids) (identities (shelf_trees s))) c.self.view_is) c.document_order-then-are_below.ensures

-- the own forest alone may have them
pub returns-then-are_from : goal.returns-then-are_from
returns-then-are_from c =
    let a = c.self.inside in
    let ids = c.args.ids.items in
    let parted = parted-inside a.lent.now a.own c.args.self.now c.self.view_is c.facts.ensures in
    let all : list_all (λ i. nat_le a.lent.now.next i) ids ≡ true = ap (λ n. list_all (λ i. nat_le n i) ids) (sym c.next-first.ensures) ∙ ap (list_all (λ i. nat_le c.next-first.result i)) (sym c.deref-2.ensures.value) ∙ sym c.are_from.ensures ∙ c.if-are_from.true in
    subst (λ l. IfOk c.document_order-then-are_from.result (λ nodes. nodes.items ≡ l))
    (sym (all-own a.lent.now.next a.lent.now.trees a.own.trees parted ids all) ∙ ap (λ (s : ShelfTerm). filter (λ i. is_in i ids) (identities (shelf_trees s))) c.self.view_is) c.document_order-then-are_from.ensures

pub returns : goal.returns
returns c =
    let a = c.self.inside in
    let p : ℕ → Bool = λ i. is_in i c.args.ids.items in
    let own : c.in_ok-own.own.items ≡ filter p (identities a.own.trees) = c.in_ok-own.ensures ∙ ap (λ ids. filter (λ i. is_in i ids) (identities a.own.trees)) (each_same _ _ c.in_ok-clone.ensures.cases.0) in
    c.in_ok-append.ensures.items ∙ ap (λ l. l ++ c.in_ok-own.own.items) c.in_ok-nodes.ensures ∙ ap (λ l. filter p (identities a.lent.now.trees) ++ l) own ∙ sym (passing-both p a.lent.now.trees a.own.trees)
    ∙ ap (λ (s : ShelfTerm). filter p (identities (shelf_trees s))) c.self.view_is
