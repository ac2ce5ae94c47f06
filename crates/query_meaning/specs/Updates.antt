-- Updating expressions (XQuery Update Facility 1.0, section 2.4): each adds primitives, and gives no items. Operands are evaluated as written, and
-- each is judged as soon as it is evaluated (our own choice).
use Rattle.std.specs.Prelude.{ℕ, Bool, true, false, not, ◌||◌, if◌then◌else◌, List, [], ◌∷◌, Option, Some, None, is_some, Result, Ok, Err}
use Rattle.data_model.specs.Tidy.{is_document}
use Rattle.data_model.specs.Trees.{Trees, no_trees, tree, Content, Place as Standing, find}
use Rattle.data_model.specs.declared.node.Kind.{Kind}
use Rattle.data_model.specs.declared.node.Kind.TheVariants as kind
use Rattle.pending.specs.Primitives.{PrimitiveTerm, insert_before, insert_after, insert_into, insert_into_as_first, insert_into_as_last, insert_attributes, delete as delete_node, replace_node as replace_by, replace_value as replace_text, replace_element_content, rename as rename_to}
use Rattle.fault_codes.specs.declared.code.Code.{Code}
use Rattle.fault_codes.specs.declared.code.Code.TheVariants.{XUTY0004, XUTY0005, XUTY0006, XUTY0007, XUTY0008, XUTY0010, XUTY0011, XUTY0012, XUTY0022, XUDY0009, XUDY0027, XUDY0029, XUDY0030}
use Rattle.values.specs.declared.atom.Atom.{Atom}
use Rattle.values.specs.declared.atom.Item.{Item}
use Rattle.values.specs.declared.atom.Item.TheVariants as item
use Rattle.values.specs.Atoms.{or_fault}
use Rattle.query_grammar.specs.declared.ast.Place.{Place}
use Rattle.query_grammar.specs.declared.ast.Place.TheVariants as place
use Rattle.query_meaning.specs.Running.{M, pure, ◌>>=◌, come_to, seen, each, atoms, adding}
use Rattle.query_meaning.specs.Operators.{all_nodes}
use Rattle.query_meaning.specs.Sequences.{Meaning}
use Rattle.query_meaning.specs.Strings.{spaced}
use Rattle.query_meaning.specs.Content.{content, new_text, attributes, others, are_all, is_attribute, is_other, has_attributes_first}
use Rattle.query_meaning.specs.Constructors.{named, comment_text, instruction_text}

-- a code unless it is so
abbrev pub must : Bool → Code → M (Unit {0})
must true code = pure tt
must false code = come_to (Err code)

-- the target: one node of certain kinds
abbrev pub of_kinds : (Kind → Bool) → Code → Option Standing → Result Standing Code
of_kinds may code None = Err code
of_kinds may code (Some x) = if may x.content.kind then Ok x else Err code

abbrev pub target_of : (Kind → Bool) → Code → List Item → M Standing
target_of may code [] = come_to (Err XUDY0027)
target_of may code (item.Node i ∷ []) = seen (find i) >>= (λ o. come_to (of_kinds may code o))
target_of may code _ = come_to (Err code)

-- one primitive more, if there are trees for it
abbrev pub adding_trees : (Trees → PrimitiveTerm) → Trees → M (Unit {0})
adding_trees p no_trees = pure tt
adding_trees p (tree c bs cs rest) = adding (p (tree c bs cs rest))

abbrev pub is_none : Trees → Bool
is_none no_trees = true
is_none (tree c bs cs rest) = false

abbrev pub adding_insertions : (attributes_of : ℕ) → (Trees → PrimitiveTerm) → Trees → M (List Item)
adding_insertions i p us = do
  _ ← adding_trees (insert_attributes i) (attributes us)
  _ ← adding_trees p (others us)
  pure []

-- the kinds that a node may be inserted into, and beside
abbrev pub has_children : Kind → Bool
has_children kind.Document = true
has_children kind.Element = true
has_children _ = false

abbrev pub may_be_sibling : Kind → Bool
may_be_sibling kind.Document = false
may_be_sibling kind.Attribute = false
may_be_sibling _ = true

abbrev pub is_document_at : Option Standing → Bool
is_document_at None = false
is_document_at (Some x) = is_document x.content.kind

-- into the target
abbrev pub inserted_into : (ℕ → Trees → PrimitiveTerm) → Trees → List Item → M (List Item)
inserted_into p us items = do
  x ← target_of has_children XUTY0005 items
  _ ← must (is_none (attributes us) || not (is_document x.content.kind)) XUTY0022
  adding_insertions x.content.identity (p x.content.identity) us

-- beside the target, below its parent
abbrev pub inserted_beside : (ℕ → Trees → PrimitiveTerm) → Trees → List Item → M (List Item)
inserted_beside p us items = do
  x ← target_of may_be_sibling XUTY0006 items
  parent ← come_to (or_fault XUDY0029 x.parent)
  above ← seen (find parent)
  _ ← must (is_none (attributes us) || not (is_document_at above)) XUDY0030
  adding_insertions parent (p x.content.identity) us

abbrev pub inserted : Place → Trees → List Item → M (List Item)
inserted place.Into = inserted_into insert_into
inserted place.FirstInto = inserted_into insert_into_as_first
inserted place.LastInto = inserted_into insert_into_as_last
inserted place.Before = inserted_beside insert_before
inserted place.After = inserted_beside insert_after

-- `insert node a into b` (section 2.4.1): the source, then the target
abbrev pub insert : Meaning → Place → Meaning → Meaning
insert source p target = λ env. do
  items ← source env
  us ← content items
  _ ← must (has_attributes_first us) XUTY0004
  found ← target env
  inserted p us found

-- `delete node a` (section 2.4.2): one delete for each node, in order
abbrev pub delete : Meaning → Meaning
delete target = λ env. do
  items ← target env
  is ← come_to (all_nodes XUTY0007 items)
  each (λ _ given i. adding (delete_node i) >>= (λ _. pure given)) 0 is []

-- the kinds that may be replaced: all but documents
abbrev pub may_be_replaced : Kind → Bool
may_be_replaced k = not (is_document k)

-- what may take the place of an attribute, and of another node
abbrev pub replaces : Kind → Trees → M (Unit {0})
replaces kind.Attribute us = must (are_all is_attribute us) XUTY0011
replaces _ us = must (are_all is_other us) XUTY0010

-- `replace node a with b` (section 2.4.3.1): the target, then what takes its place
abbrev pub replace_node : Meaning → Meaning → Meaning
replace_node target source = λ env. do
  found ← target env
  x ← target_of may_be_replaced XUTY0008 found
  _ ← must (is_some x.parent) XUDY0009
  items ← source env
  us ← content items
  _ ← replaces x.content.kind us
  _ ← adding (replace_by x.content.identity us)
  pure []

-- the source's text, as a text constructor makes it: a node, or nothing
abbrev pub text_of_values : List Atom → M Trees
text_of_values [] = pure no_trees
text_of_values (a ∷ more) = come_to (spaced (a ∷ more)) >>= new_text

abbrev pub first_text : Trees → List ℕ
first_text no_trees = []
first_text (tree c bs cs rest) = c.text

-- a text that a node of that kind may have
abbrev pub text_for : Kind → List ℕ → Result (List ℕ) Code
text_for kind.Comment text = comment_text text
text_for kind.Instruction text = instruction_text text
text_for _ text = Ok text

abbrev pub value_replaced : Content → Trees → M (List Item)
value_replaced c us = do
  text ← come_to (text_for c.kind (first_text us))
  _ ← adding (replace_text c.identity text)
  pure []

abbrev pub content_replaced : Content → Trees → M (List Item)
content_replaced c us = do
  _ ← adding (replace_element_content c.identity us)
  pure []

abbrev pub text_replaced : Content → Trees → M (List Item)
text_replaced c us = if is_element c.kind then content_replaced c us else value_replaced c us
  where
    is_element : Kind → Bool
    is_element kind.Element = true
    is_element _ = false

-- `replace value of node a with b` (section 2.4.3.2)
abbrev pub replace_value : Meaning → Meaning → Meaning
replace_value target source = λ env. do
  found ← target env
  x ← target_of may_be_replaced XUTY0008 found
  items ← source env
  values ← atoms items
  us ← text_of_values values
  text_replaced x.content us

-- the kinds that have names
abbrev pub has_name : Kind → Bool
has_name kind.Element = true
has_name kind.Attribute = true
has_name kind.Instruction = true
has_name _ = false

-- `rename node a as b` (section 2.4.4)
abbrev pub rename : Meaning → Meaning → Meaning
rename target name = λ env. do
  found ← target env
  x ← target_of has_name XUTY0012 found
  given ← named x.content.kind name env
  _ ← adding (rename_to x.content.identity given)
  pure []
