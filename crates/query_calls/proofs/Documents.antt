-- Documents by their names.
use Rattle.std.proofs.Common.{◌≡◌, ℕ, zero, suc, cond, List, [], ◌∷◌, Option, Some, None, IsSome, Ok, Err, refl, sym, ap, ◌∙◌, subst, arith}
use Rattle.std.specs.Map.{lookup}
use Rattle.std.specs.Str.{bytes_eq}
use Rattle.data_model.specs.Trees.{Place, Content, IsAt, find}
use Rattle.trees.specs.Forest.{IsDocument}
use Rattle.shelves.specs.Shelf.{ShelfTerm, shelf_trees}
use Rattle.fault_codes.specs.declared.code.Code.TheVariants.{FODC0002}
use Rattle.values.specs.Atoms.{or_fault}
use Rattle.values.specs.declared.atom.Item.{Item}
use Rattle.values.specs.declared.atom.Item.TheVariants as item
use Rattle.query_meaning.specs.Functions.{document, document_in}
use Rattle.query_meaning.specs.Running.{Run, and_then, come_to, pure, trees_of}
use Rattle.evaluation.specs.Gives.{GivesIn, Stand}
use Rattle.evaluation.proofs.Each.{grows_refl}

looked_up : (name : List ℕ) (ds : List (List ℕ × ℕ)) → lookup (λ key. bytes_eq name key) ds ≡ document_in name ds
looked_up name [] = refl
looked_up name (d ∷ ds) = ap (λ o. cond (bytes_eq name d.0) (Some d.1) o) (looked_up name ds)

is_in_shelf : (name : List ℕ) (run : Run) (s : ShelfTerm) (o : Option ℕ) → s ≡ run.shelf → o ≡ lookup (λ key. bytes_eq name key) s.lent.documents → document_in name run.shelf.lent.documents ≡ o
is_in_shelf name run s o same e = ap (λ (s : ShelfTerm). document_in name s.lent.documents) (sym same) ∙ sym (looked_up name s.lent.documents) ∙ sym e

pub not_found : (name : List ℕ) (run : Run) (s : ShelfTerm) → s ≡ run.shelf → None ≡ lookup (λ key. bytes_eq name key) s.lent.documents → document name run ≡ Err FODC0002
not_found name run s same e =
    ap (λ o. and_then (come_to (or_fault FODC0002 o) run) (λ i. pure (item.Node i ∷ []))) (is_in_shelf name run s None same e)

-- a node stands
there : (o : Option Place) (P : Content → Type 0) → IsAt o P → IsSome o
there None P h = absurd h
there (Some x) P h = refl

pub one_node : (i : ℕ) (run : Run) → IsSome (find i (trees_of run)) → Stand (item.Node i ∷ []) run
one_node i run h zero d below = h
one_node i run h (suc k) d below = absurd (omega (arith, below))

pub found : (name : List ℕ) (run : Run) (s : ShelfTerm) (i : ℕ) (items : List Item) → s ≡ run.shelf → Some i ≡ lookup (λ key. bytes_eq name key) s.lent.documents
    → IsDocument (shelf_trees s) i → items ≡ item.Node i ∷ [] → GivesIn Stand (document name) run (Ok items) run
found name run s i items same e standing is =
    let P : ShelfTerm → Type 0 = λ s. IsDocument (shelf_trees s) i in
    let Q : List Item → Type 0 = λ xs. Stand xs run in
    let at : IsDocument (trees_of run) i = subst P same standing in
    (ap (λ o. and_then (come_to (or_fault FODC0002 o) run) (λ i. pure (item.Node i ∷ []))) (is_in_shelf name run s (Some i) same e) ∙ ap (λ xs. Ok (xs, run)) (sym is), (grows_refl run, subst Q (sym is) (one_node i run (there (find i (trees_of run)) _ at.1))))
