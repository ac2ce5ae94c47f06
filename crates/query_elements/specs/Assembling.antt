-- How a node with parts comes to be.
use Rattle.std.specs.Prelude.{ℕ, ◌≤◌, ◌<◌, List, [], Option}
use Rattle.data_model.specs.Trees.{Trees, no_trees, tree, count}
use Rattle.data_model.specs.declared.node.Kind.{Kind}
use Rattle.data_model.specs.declared.node.Kind.TheVariants as kind
use Rattle.fault_codes.specs.declared.code.Code.{Code}
use Rattle.values.specs.declared.atom.Item.{Item}
use Rattle.query_meaning.specs.Running.{M, Run, ◌>>=◌, come_to}
use Rattle.query_meaning.specs.Content.{content, without_adjacent_texts, attributes, others, element_fault, document_fault, unless_fault}
use Rattle.query_meaning.specs.Constructors.{rooted}
use Rattle.query_elements.specs.declared.assembled.Parent.{Parent}
use Rattle.query_elements.specs.declared.assembled.Parent.TheVariants.{Document, Element}

abbrev pub kind_of : Parent → Kind
kind_of Document = kind.Document
kind_of Element = kind.Element

-- the code of its content, where there is one
abbrev pub fault_of : Parent → Trees → Option Code
fault_of Document = document_fault
fault_of Element = element_fault

-- copied content, merged
abbrev pub parts : List Item → M Trees
parts items = content items >>= (λ us. come_to (without_adjacent_texts us))

-- the node with these parts
abbrev pub tree_with : Parent → (name : List ℕ) → (identity : ℕ) → Trees → Trees
tree_with p name i us = tree (record { identity = i; kind = kind_of p; name = name; text = [] }) (attributes us) (others us) no_trees

abbrev pub closed : Parent → (name : List ℕ) → (identity : ℕ) → Trees → M (List Item)
closed p name i us = come_to (unless_fault (fault_of p us) (tree_with p name i us)) >>= rooted i

-- the identity and those of the parts come after all that stand, and have been taken
pub record IsBeside (i : ℕ) (us : Trees) (run : Run) : Type 0 where
  pub distinct : (j : ℕ) → count j us ≤ 1
  pub later : (j : ℕ) → 0 < count j us → i < j
  pub below : (j : ℕ) → 0 < count j us → j < run.shelf.own.next
  pub taken : i < run.shelf.own.next
  pub after : (j : ℕ) → 0 < count j run.shelf.own.trees → j < i
  pub lent : run.shelf.lent.next ≤ i
