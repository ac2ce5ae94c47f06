-- A forest with a copy of a tree.
use Rattle.std.proofs.Common.{◌≡◌, ℕ, ◌+◌, ◌≤◌, ◌<◌, [], ◌∷◌, refl, sym, arith, ⊎_elim, List, Option, Some, None, IsSome, subst, leb, IsTrue, ◌-◌, ◌∙◌}
use Rattle.std.proofs.lemmas.Bool.{cases_lt}
use Rattle.std.proofs.lemmas.Bool.Decides.{nat_tests}
use Rattle.data_model.specs.Trees.{Trees, no_trees, tree, Content, append, roots, count, size, find}
use Rattle.data_model.specs.declared.node.Kind.{Kind}
use Rattle.data_model.specs.Changes.{renumbered, pick}
use Rattle.node_table.specs.Flat.{Entry, Table, Holds, read_trees, IsTableOf, IsDocumentEntry}
use Rattle.copied_rows.specs.Copies.{grown}
use Rattle.trees.specs.Forest.{ForestTerm}
use Rattle.node_table.specs.Rows.{table_of}
use Rattle.trees.specs.Inside.{term_of, AreStanding, IsSound}
use Rattle.trees.specs.declared.forest.Forest.TheInside.{Inside}
use Rattle.data_model.proofs.Weights.{weigh-pick}
use Rattle.trees.proofs.Forests.{now-entry, now-table, now-nodes, standing-kept}
use Rattle.node_table.proofs.Copies.{Copies, IsTableOf-copied, one-tree, picked-copies}

-- ---- the tree of a node of a forest
module _ (a : Inside) (v : ForestTerm) (is : term_of a ≡ v) (h : IsSound a) (k : ℕ) (stands : IsSome (find k v.trees)) where
  entry-k : (e : Entry) × (table_of a.rows k ≡ Some e)
  entry-k = now-entry a v is h k stands

  pub forest-copies : (b : Table) (m : ℕ) → a.next ≤ m → ((i : ℕ) → 0 < count i v.trees → b i ≡ table_of a.rows i) → Copies b m k (pick k v.trees)
  forest-copies b m le same = picked-copies (table_of a.rows) a.next v.trees k entry-k.0 (now-table a v is h) entry-k.1 b m le same

  pub own-read : read_trees a.next (table_of a.rows) (k ∷ []) ≡ pick k v.trees
  own-read = (forest-copies (table_of a.rows) a.next (omega arith) (λ i l. refl)).read

  -- one level more is no more
  pub deep-read : read_trees (a.next + 1) (table_of a.rows) (k ∷ []) ≡ pick k v.trees
  deep-read = (forest-copies (table_of a.rows) (a.next + 1) (omega arith) (λ i l. refl)).read

  pub stands-below : k < a.next
  stands-below = ⊎_elim (λ l. l) (λ l. (let none = (now-table a v is h).above k l in let e = entry-k.1 in absurd (let z : None ≡ Some entry-k.0 = sym none ∙ e in cc))) (cases_lt k a.next)

  pub own-root : roots (pick k v.trees) ≡ k ∷ []
  own-root = (forest-copies (table_of a.rows) a.next (omega arith) (λ i l. refl)).root

  pub copy-size : size (pick k v.trees) ≤ a.nodes
  copy-size = let s = weigh-pick (λ _. 1) k v.trees in let n = now-nodes a v is h in omega arith

-- ---- the forest with the copy
-- a new node with copies is a copy of that node with the trees below it
pub grown-copy : (c : Content) (us : Trees) → grown c us ≡ renumbered c.identity (tree c no_trees us no_trees)
grown-copy c us = let e : c.identity + 1 + 0 ≡ c.identity + 1 = omega arith in rw e refl

pub grown-holds : (g : Table) (k : Kind) (i n : ℕ) (x y : List ℕ) (ts us : Trees) → i ≡ n → x ≡ y → ts ≡ us
    → Holds g None (grown (record { identity = i; kind = k; name = x; text = [] }) ts) → Holds g None (grown (record { identity = n; kind = k; name = y; text = [] }) us)
grown-holds g k i n x y ts us number name trees holds =
    let P : ℕ → List ℕ → Trees → Type 0 = λ j z t. Holds g None (grown (record { identity = j; kind = k; name = z; text = [] }) t) in
    subst (P n y) trees (subst (λ z. P n z ts) name (subst (λ j. P j x ts) number holds))

module _ (a : Inside) (v : ForestTerm) (is : term_of a ≡ v) (h : IsSound a) where
  pub copy-table : (k : ℕ) (us : Trees) → roots us ≡ k ∷ [] → (g : Table) → ((j : ℕ) → j < a.next → g j ≡ table_of a.rows j) → ((j : ℕ) → a.next + size us ≤ j → g j ≡ None) → Holds g None (renumbered a.next us)
      → IsTableOf g (a.next + size us) (append v.trees (renumbered a.next us))
  copy-table k us root g same fresh holds =
      let one = one-tree us k root in
      let vs = tree one.content one.attributes one.children no_trees in
      let P : Trees → Type 0 = λ t. ((j : ℕ) → a.next + size t ≤ j → g j ≡ None) × Holds g None (renumbered a.next t) in
      let Q : Trees → Type 0 = λ t. IsTableOf g (a.next + size t) (append v.trees (renumbered a.next t)) in
      let z : P vs = subst P one.is (fresh, holds) in
      subst Q (sym one.is) (IsTableOf-copied (table_of a.rows) g a.next v.trees one.content one.attributes one.children (now-table a v is h) same z.0 z.1)

  -- the forest with a new node and copies below it
  pub grown-table : (k : Kind) (name : List ℕ) (us : Trees) (g : Table) → let node : Content = record { identity = a.next; kind = k; name = name; text = [] } in
      ((j : ℕ) → j < a.next → g j ≡ table_of a.rows j) → ((j : ℕ) → a.next + 1 + size us ≤ j → g j ≡ None) → Holds g None (grown node us) → IsTableOf g (a.next + 1 + size us) (append v.trees (grown node us))
  grown-table k name us g same fresh holds =
      let node : Content = record { identity = a.next; kind = k; name = name; text = [] } in
      let one = tree node no_trees us no_trees in
      let P : Trees → Type 0 = Holds g None in
      let Q : ℕ → Trees → Type 0 = λ n t. IsTableOf g n (append v.trees t) in
      let n : a.next + size one ≡ a.next + 1 + size us = omega arith in
      subst (λ t. Q (a.next + 1 + size us) t) (sym (grown-copy node us)) (subst (λ m. Q m (renumbered a.next one)) n (copy-table a.next one refl g same (λ j l. fresh j (omega arith)) (subst P (grown-copy node us) holds)))

  pub copy-standing : (g : Table) → ((j : ℕ) → j < a.next → g j ≡ table_of a.rows j) → AreStanding g a.documents.entries
  copy-standing g same =
      let P : Option Entry → Type 0 = IsDocumentEntry in
      standing-kept (table_of a.rows) g a.documents.entries
      (λ i d. subst P (sym (same i (⊎_elim (λ l. l) (λ l. absurd (let z : P None = subst P (h.table.above i l) d in z)) (cases_lt i a.next)))) d) h.standing

-- the tests of the numbers that are left
pub leb-test : (m k : ℕ) → (IsTrue (leb m k) → m ≤ k) × (m ≤ k → IsTrue (leb m k))
leb-test m k = (λ t. grind (arith, nat_tests), λ l. grind (arith, nat_tests))

pub room-test : (P : Type 0) (m n k : ℕ) → n ≤ k → (P → m ≤ k - n) × (m ≤ k - n → P) → (P → n + m ≤ k) × (n + m ≤ k → P)
room-test P m n k h t = (λ x. (let y = t.0 x in omega arith), λ l. t.1 (omega arith))

pub leb-yes : (m n : ℕ) → m ≤ n → IsTrue (leb m n)
leb-yes m n h = grind (arith, nat_tests)
