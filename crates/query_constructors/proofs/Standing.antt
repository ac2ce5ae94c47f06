-- New trees among the others.
use Rattle.std.proofs.Common.{◌≡◌, ℕ, zero, suc, ◌<◌, ◌+◌, List, [], ◌∷◌, None, refl, sym, ap, ◌∙◌, subst, arith, Result, Ok, Err}
use Rattle.data_model.specs.Tree.{TreeTerm, trees_of_tree}
use Rattle.data_model.specs.Trees.{Trees, append, count}
use Rattle.data_model.proofs.Climbs.{find-present, there-counts}
use Rattle.data_model.proofs.Weights.{eqb-same, weigh-append}
use Rattle.values.specs.declared.atom.Item.{Item}
use Rattle.values.specs.declared.atom.Item.TheVariants as item
use Rattle.fault_codes.specs.declared.code.Code.{Code}
use Rattle.query_meaning.specs.Constructors.{rooted}
use Rattle.query_meaning.specs.Running.{Run, standing, trees_of}
use Rattle.evaluation.specs.Gives.{Gives, Grows, Stand}

-- the run in which a tree stands among the others
abbrev with_tree : Run → Trees → Run
with_tree run us = record run { shelf = record run.shelf { own = record run.shelf.own { trees = append run.shelf.own.trees us } } }

counts : (run : Run) (us : Trees) (i : ℕ) → count i (trees_of (with_tree run us)) ≡ count i (trees_of run) + count i us
counts run us i =
    let lent = run.shelf.lent.trees in
    let own = run.shelf.own.trees in
    let all : count i (append lent (append own us)) ≡ count i lent + count i (append own us) = weigh-append _ lent (append own us) in
    let some : count i (append own us) ≡ count i own + count i us = weigh-append _ own us in
    let before : count i (append lent own) ≡ count i lent + count i own = weigh-append _ lent own in
    omega arith

grows : (run : Run) (us : Trees) → Grows run (with_tree run us)
grows run us = record { kept = λ i there. find-present None i (trees_of (with_tree run us)) (let was = there-counts i (trees_of run) there in let all = counts run us i in omega arith) }

root_counts : (t : TreeTerm) → 0 < count t.content.identity (trees_of_tree t)
root_counts t = rw (eqb-same t.content.identity) (omega arith)

stands : (run : Run) (t : TreeTerm) → Stand (item.Node t.content.identity ∷ []) (with_tree run (trees_of_tree t))
stands run t zero d below =
    let i = t.content.identity in
    find-present None i (trees_of (with_tree run (trees_of_tree t))) (let here = root_counts t in let all = counts run (trees_of_tree t) i in omega arith)
stands run t (suc k) d below = absurd (omega (arith, below))

-- the run that is come to
abbrev run_in : Run → Result (Unit {0} × Run) Code → Run
run_in otherwise (Ok p) = p.1
run_in otherwise (Err code) = otherwise

pub rooted_gives : (t : TreeTerm) (root : ℕ) (old new : Run) (items : List Item) → root ≡ t.content.identity → standing (trees_of_tree t) old ≡ Ok (tt, new) → items ≡ item.Node root ∷ []
    → Gives (rooted t.content.identity (trees_of_tree t)) old (Ok items) new
rooted_gives t root old new items is stood given =
    let same : with_tree old (trees_of_tree t) ≡ new = ap (run_in old) stood in
    let found : item.Node t.content.identity ∷ [] ≡ items = sym (given ∙ ap (λ i. item.Node i ∷ []) is) in
    let P : Run → Type 0 = λ run. Gives (rooted t.content.identity (trees_of_tree t)) old (Ok items) run in
    let Q : List Item → Type 0 = λ xs. Gives (rooted t.content.identity (trees_of_tree t)) old (Ok xs) (with_tree old (trees_of_tree t)) in
    subst P same (subst Q found (refl, (grows old (trees_of_tree t), stands old t)))
