-- Copied content, and what constructors make of it (XQuery 1.0, section 3.7.1.3).
use Rattle.std.specs.Prelude.{ℕ, ◌+◌, Bool, true, false, not, ◌&&◌, nat_le, if◌then◌else◌, List, [], ◌∷◌, length, Option, Some, None, Result, Ok, Err}
use Rattle.data_model.specs.Changes.{pick, renumbered}
use Rattle.data_model.specs.Tidy.{has_distinct_names, is_document}
use Rattle.data_model.specs.Trees.{Trees, no_trees, tree, leaf, Place, find, append, roots, size, height}
use Rattle.data_model.specs.declared.node.Kind.{Kind}
use Rattle.data_model.specs.declared.node.Kind.TheVariants as kind
use Rattle.pending.specs.Texts.{merged, without_empty_texts, texts_within}
use Rattle.fault_codes.specs.declared.code.Code.{Code}
use Rattle.fault_codes.specs.declared.code.Code.TheVariants.{XPTY0004, XQTY0024, XQDY0025, PXQ0002, PXQ0003}
use Rattle.values.specs.declared.atom.Atom.{Atom}
use Rattle.values.specs.declared.atom.Item.{Item}
use Rattle.values.specs.declared.atom.Item.TheVariants as item
use Rattle.data_model.specs.Limits.{most_bytes, most_listed, most_height}
use Rattle.values.specs.Work.{text_work}
use Rattle.query_meaning.specs.Running.{M, pure, ◌>>=◌, come_to, copying, seen, each, new_nodes, work}
use Rattle.query_meaning.specs.Strings.{spaced}

-- a part of the content: atomic values that stand next to each other, or a node
pub data Part : Type 0 where
  values : List Atom → Part
  node : ℕ → Part

abbrev pub with_value : Atom → List Part → List Part
with_value a (values more ∷ parts) = values (a ∷ more) ∷ parts
with_value a parts = values (a ∷ []) ∷ parts

abbrev pub parts_of : List Item → List Part
parts_of [] = []
parts_of (item.Node i ∷ xs) = node i ∷ parts_of xs
parts_of (item.Atomic a ∷ xs) = with_value a (parts_of xs)

-- a new text, which takes the work of it
abbrev pub text_node : List ℕ → ℕ → Trees
text_node text i = leaf (record { identity = i; kind = kind.Text; name = []; text = text })

abbrev pub new_text : List ℕ → M Trees
new_text text = do
  _ ← work (text_work text)
  i ← new_nodes 1
  pure (text_node text i)

-- what of a node is copied: its tree, or a document's children
abbrev pub source_at : ℕ → Trees → Option Place → Trees
source_at i ts None = no_trees
source_at i ts (Some x) = if is_document x.content.kind then x.children else pick i ts

-- the copies have new identities, in preorder
abbrev pub copied : ℕ → M Trees
copied i = do
  _ ← copying i
  us ← seen (λ ts. source_at i ts (find i ts))
  n ← new_nodes (size us)
  pure (renumbered n us)

-- a run of atomic values becomes a text, joined by single spaces
abbrev pub made : Part → M Trees
made (values more) = come_to (spaced more) >>= new_text
made (node i) = copied i

-- copied content, numbered from the left
abbrev pub content : List Item → M Trees
content xs = each (λ _ given p. made p >>= (λ us. pure (append given us))) 0 (parts_of xs) no_trees

-- attributes, and what isn't one
abbrev pub is_attribute : Kind → Bool
is_attribute kind.Attribute = true
is_attribute _ = false

abbrev pub is_other : Kind → Bool
is_other k = not (is_attribute k)

abbrev pub those : (Kind → Bool) → Trees → Trees
those f no_trees = no_trees
those f (tree c bs cs rest) = if f c.kind then tree c bs cs (those f rest) else those f rest

abbrev pub are_all : (Kind → Bool) → Trees → Bool
are_all f no_trees = true
are_all f (tree c bs cs rest) = f c.kind && are_all f rest

abbrev pub attributes : Trees → Trees
attributes = those is_attribute

abbrev pub others : Trees → Trees
others = those is_other

-- no attribute comes after what isn't one
abbrev pub has_attributes_first : Trees → Bool
has_attributes_first no_trees = true
has_attributes_first (tree c bs cs rest) = if is_attribute c.kind then has_attributes_first rest else are_all is_other rest

-- adjacent texts are merged, which may make them too long, and empty ones dropped
abbrev pub without_adjacent_texts : Trees → Result Trees Code
without_adjacent_texts ts = if texts_within most_bytes (merged ts) then Ok (without_empty_texts (merged ts)) else Err PXQ0002

-- a node with that content is within our own limits
abbrev pub has_room : Trees → Bool
has_room ts = nat_le (length (roots ts)) most_listed && nat_le (height ts + 1) most_height

-- the code of an element's content, where there is one
abbrev pub element_fault : Trees → Option Code
element_fault ts =
    if not (has_attributes_first ts) then Some XQTY0024
    else if not (has_distinct_names (attributes ts)) then Some XQDY0025
    else if not (has_room ts) then Some PXQ0003
    else None

-- the code of a document's
abbrev pub document_fault : Trees → Option Code
document_fault ts =
    if not (are_all is_other ts) then Some XPTY0004
    else if not (has_room ts) then Some PXQ0003
    else None

abbrev pub unless_fault : {A : Type 0} → Option Code → A → Result A Code
unless_fault None a = Ok a
unless_fault (Some code) a = Err code
