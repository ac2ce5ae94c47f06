-- Trees of their own, read from a table.
use Prim.Native.Nat.{suc}
use Rattle.std.proofs.Common.{◌≡◌, ℕ, ◌+◌, ◌<◌, List, [], ◌∷◌, ◌++◌, length, drop, get_or, ap, sym, ◌∙◌, Some, None, add-one}
use Rattle.std.proofs.Math.Seq.{drop-cons}
use Rattle.data_model.specs.Trees.{Trees, no_trees, tree, append}
use Rattle.data_model.specs.Tree.{TreeTerm, all_of, trees_of_tree}
use Rattle.node_table.specs.Flat.{Entry, Table, content_of, read_nodes}
use Rattle.data_model.proofs.Weights.{append-append, append-none}
use Rattle.data_model.proofs.Turns.{all_of-push}

-- one tree more is read
pub tree-turn : (f : Table) (below : List ℕ → Trees) (ids : List ℕ) (i x : ℕ) (e : Entry) (ts : List TreeTerm) (t : TreeTerm) (whole : Trees) → i < length ids → x ≡ get_or ids i x → f x ≡ Some e
    → trees_of_tree t ≡ tree (content_of x e) (below e.attributes) (below e.children) no_trees
    → append (all_of ts) (read_nodes f below (drop i ids)) ≡ whole → append (all_of (ts ++ t ∷ [])) (read_nodes f below (drop (i + 1) ids)) ≡ whole
tree-turn f below ids i x e ts t whole k item h is w =
    let y = rw (drop-cons ids i x, ← item, h) at w in
    rw (add-one, all_of-push, append-append) (ap (λ u. append (all_of ts) (append u (read_nodes f below (drop (suc i) ids)))) is ∙ y)

pub tree-stop : (f : Table) (below : List ℕ → Trees) (ids : List ℕ) (i x : ℕ) (ts : List TreeTerm) (whole : Trees) → i < length ids → x ≡ get_or ids i x → f x ≡ None → append (all_of ts) (read_nodes f below (drop i ids)) ≡ whole → all_of ts ≡ whole
tree-stop f below ids i x ts whole k item h w = let y = rw (drop-cons ids i x, ← item, h) at w in sym (append-none (all_of ts)) ∙ y
