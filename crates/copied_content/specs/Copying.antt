-- Content that is copied item by item.
use Rattle.std.specs.Prelude.{◌≡◌, ℕ, if◌then◌else◌, List, [], ◌∷◌, ◌++◌, Result, Ok, Err, refl}
use Rattle.std.specs.Coded.{Coded, code_by, coded×, coded_list}
use Rattle.data_model.specs.Changes.{renumbered}
use Rattle.data_model.specs.Tidy.{is_document}
use Rattle.data_model.specs.Tree.{TreeTerm, trees_of_tree}
use Rattle.data_model.specs.Trees.{Trees, IsAt, no_trees, coded_trees, append, attributes_of, find, size}
use Rattle.data_model.specs.declared.node.Kind.TheVariants.{Document}
use Rattle.values.specs.contracts.atom.Atom as of_atom
use Rattle.values.specs.declared.atom.Atom.{Atom}
use Rattle.values.specs.declared.atom.Item.{Item}
use Rattle.values.specs.declared.atom.Item.TheVariants as item
use Rattle.values.specs.declared.fault.ValueFault.{ValueFault}
use Rattle.query_meaning.specs.Running.{M, pure, ◌>>=◌, new_nodes, seen}
use Rattle.query_meaning.specs.Content.{copied, made, source_at, values as values_part}

-- trees whose nodes take the next identities, in preorder
abbrev pub numbered : Trees → M Trees
numbered us = new_nodes (size us) >>= (λ n. pure (renumbered n us))

-- a copy of a node, but for its work
abbrev pub copied_as_new : ℕ → M Trees
copied_as_new i = seen (λ ts. source_at i ts (find i ts)) >>= numbered

-- if the node is a document, it has no attributes
abbrev pub IsPlain : ℕ → Trees → Type 0
IsPlain i ts = IsAt (find i ts) (λ c. c.kind ≡ Document → attributes_of i ts ≡ [])

-- what of a tree is copied: itself, or a document's children
abbrev pub source_of : TreeTerm → Trees
source_of t = if is_document t.content.kind then t.children else trees_of_tree t

-- trees after others
abbrev pub after : Trees → M Trees → M Trees
after given m = m >>= (λ us. pure (append given us))

-- the state that is left, where there is no fault
abbrev pub leaving : {A B : Type 0} → Result B ValueFault → A → Result A ValueFault
leaving (Ok b) a = Ok a
leaving (Err f) a = Err f

-- copied content, and the atomic values after it
pub record Partial : Type 0 where
  pub trees : Trees
  pub values : List Atom

abbrev pub partial_code : Coded Partial
partial_code = code_by (Trees × List Atom) (coded× coded_trees (coded_list of_atom.the_row.coded)) (λ s. (s.trees, s.values)) (λ p. record { trees = p.0; values = p.1 }) (λ _. refl)

abbrev pub nothing : Partial
nothing = record { trees = no_trees; values = [] }

-- a text of values after content
abbrev pub and_text : Trees → List Atom → M Trees
and_text given [] = pure given
and_text given (a ∷ more) = after given (made (values_part (a ∷ more)))

-- where nothing more follows
abbrev pub closed : Partial → M Trees
closed s = and_text s.trees s.values

-- one item more
abbrev pub and_node : Partial → ℕ → M Partial
and_node s i = do
  given ← closed s
  us ← after given (copied i)
  pure (record { trees = us; values = [] })

abbrev pub and_item : Partial → Item → M Partial
and_item s (item.Node i) = and_node s i
and_item s (item.Atomic a) = pure (record s { values = s.values ++ a ∷ [] })
