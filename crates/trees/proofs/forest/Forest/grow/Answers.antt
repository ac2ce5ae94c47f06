use Rattle.std.proofs.Common.{◌≡◌, ◌∙◌, ℕ, ◌+◌, ◌-◌, ◌≤◌, ◌<◌, [], None, ap, arith, subst}
use Rattle.data_model.specs.Trees.{Trees, Content, no_trees, tree, size, append}
use Rattle.copied_rows.specs.Copies.{grown, read_each}
use Rattle.trees.specs.Forest.{ForestTerm}
use Rattle.trees.specs.Grown.{picked}
use Rattle.node_table.specs.Flat.{Holds, IsTableOf, both}
use Rattle.node_table.specs.Rows.{table_of}
use Rattle.trees.specs.declared.forest.Forest.TheInside.{Inside}
use Rattle.data_model.proofs.Weights.{weigh-append}
use Rattle.forest_index.proofs.Sized.{no-sizes}
use Rattle.trees.proofs.Forests.{now-nodes, term-is, sound}
use Rattle.trees.proofs.Copied.{copy-standing, grown-copy, grown-holds, grown-table}
use Rattle.node_table.proofs.Copies.{size-renumbered}
use Rattle.trees.proofs.Numbered.{copy-numbered}
use Rattle.trees.proofs.Lent.{all-there, each-read, each-work}
use Rattle.trees.proofs.forest.Forest.grow.Goals as goal

pub grow-requires-clause-there : goal.grow-requires-clause-there
grow-requires-clause-there c =
    rw c.new-identity.ensures (all-there c.lent.inside c.self.inside c.args.lent.now c.args.self.now c.lent.view_is c.self.view_is c.lent.invariant c.self.invariant c.requires.later c.requires.apart c.args.nodes.now c.requires.stand)

pub invariant_of-self-2 : goal.invariant_of-self-2
invariant_of-self-2 c =
    let a = c.self.inside in
    let v = c.args.self.now in
    let ks = c.args.nodes.now in
    let us = picked ks (append c.args.lent.now.trees v.trees) in
    let g = table_of c.grow.new.rows in
    let n = c.in-Some.grown.next in
    let node : Content = record { identity = a.next; kind = c.args.kind; name = c.args.name.now; text = [] } in
    let read = each-read c.lent.inside a c.args.lent.now v c.lent.view_is c.self.view_is c.lent.invariant c.self.invariant c.requires.later c.requires.apart ks c.requires.stand in
    let first = c.new-identity.ensures in
    let moved : n ≡ a.next + 1 + size us = rw (c.in-Some.is, first, read) at c.in_ok-grown.ensures.next in
    let holds : Holds g None (grown node us) = grown-holds g c.args.kind c.new-identity.result a.next c.in_ok-name.name c.args.name.now (read_each c.new-identity.result (both (table_of c.lent.inside.rows) (table_of a.rows)) ks) us first c.in_ok-name.ensures (rw first read) (rw c.in-Some.is at c.in_ok-grown.ensures.grown) in
    let fresh : (j : ℕ) → n ≤ j → g j ≡ None = rw c.in-Some.is at c.in_ok-grown.ensures.fresh in
    let end : n ≤ c.args.limits.end = rw c.in-Some.is at c.in_ok-grown.ensures.end in
    let most = c.requires.end in
    let same = λ (j : ℕ) (l : j < a.next). c.grow.ensures.same j (omega arith) in
    let Q : Trees → Type 0 = λ t. IsTableOf g n (append v.trees t) in
    let whole : Q (grown node us) = rw moved (grown-table a v c.self.view_is c.self.invariant c.args.kind c.args.name.now us g same (λ j l. fresh j (omega arith)) holds) in
    let b : Inside = record { rows = c.grow.new.rows; documents = a.documents; next = n; nodes = a.nodes + (n - a.next); index = None; names = c.name.new.self } in
    let nodes = now-nodes a v c.self.view_is c.self.invariant in
    let more = weigh-append (λ _. 1) v.trees (grown node us) in
    let copied = size-renumbered (a.next + 1) us in
    let numbered = copy-numbered a v c.self.view_is c.self.invariant (tree node no_trees us no_trees) g n (subst Q (grown-copy node us) whole) in
    sound b (append v.trees (grown node us)) whole (omega arith) (rw c.grow.ensures.places numbered) (omega arith) (copy-standing a v c.self.view_is c.self.invariant g same) tt (no-sizes _)

pub returns-clause-made : goal.returns-clause-made
returns-clause-made c =
    let a = c.self.inside in
    let v = c.args.self.now in
    let ks = c.args.nodes.now in
    let us = picked ks (append c.args.lent.now.trees v.trees) in
    let g = table_of c.grow.new.rows in
    let n = c.in-Some.grown.next in
    let read = each-read c.lent.inside a c.args.lent.now v c.lent.view_is c.self.view_is c.lent.invariant c.self.invariant c.requires.later c.requires.apart ks c.requires.stand in
    let first = c.new-identity.ensures in
    let new : ℕ → Trees = λ i. grown (record { identity = i; kind = c.args.kind; name = c.args.name.now; text = [] }) us in
    let moved : n ≡ a.next + 1 + size us = rw (c.in-Some.is, first, read) at c.in_ok-grown.ensures.next in
    let holds : Holds g None (new a.next) = grown-holds g c.args.kind c.new-identity.result a.next c.in_ok-name.name c.args.name.now (read_each c.new-identity.result (both (table_of c.lent.inside.rows) (table_of a.rows)) ks) us first c.in_ok-name.ensures (rw first read) (rw c.in-Some.is at c.in_ok-grown.ensures.grown) in
    let fresh : (j : ℕ) → n ≤ j → g j ≡ None = rw c.in-Some.is at c.in_ok-grown.ensures.fresh in
    let whole = grown-table a v c.self.view_is c.self.invariant c.args.kind c.args.name.now us g (λ j l. c.grow.ensures.same j (omega arith)) (λ j l. fresh j (omega arith)) holds in
    let b : Inside = record { rows = c.grow.new.rows; documents = a.documents; next = n; nodes = a.nodes + (n - a.next); index = None; names = c.name.new.self } in
    let after : ForestTerm → ForestTerm = λ t. record t { trees = append v.trees (new t.next); next = t.next + 1 + size us } in
    term-is b (append v.trees (new a.next)) (rw moved whole) ∙ rw moved (ap after c.self.view_is)

pub returns-clause-work : goal.returns-clause-work
returns-clause-work c =
    let work = each-work c.lent.inside c.self.inside c.args.lent.now c.args.self.now c.lent.view_is c.self.view_is c.lent.invariant c.self.invariant c.requires.later c.requires.apart c.args.nodes.now c.requires.stand in
    rw (c.in-Some.is, c.new-identity.ensures, work) at c.in_ok-grown.ensures.work

pub returns-clause-high : goal.returns-clause-high
returns-clause-high c =
    let read = each-read c.lent.inside c.self.inside c.args.lent.now c.args.self.now c.lent.view_is c.self.view_is c.lent.invariant c.self.invariant c.requires.later c.requires.apart c.args.nodes.now c.requires.stand in
    rw (c.in-Some.is, c.new-identity.ensures, read) at c.in_ok-grown.ensures.high
