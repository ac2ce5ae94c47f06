-- Steps, predicates, filters and paths (XQuery 1.0, sections 3.2 and 3.3.2).
use Rattle.std.specs.Prelude.{ℕ, ◌+◌, ◌==◌, pos, Bool, true, false, ◌&&◌, nat_le, if◌then◌else◌, List, [], ◌∷◌, ◌++◌, length, filter, reverse, map, Option, Some, None, Result, Ok, Err}
use Rattle.std.specs.Ordering.{is_eq, int_cmp}
use Rattle.std.specs.Str.{bytes_eq}
use Rattle.data_model.specs.Changes.{pick}
use Rattle.data_model.specs.Trees.{Trees, Place, Content, find, size}
use Rattle.data_model.specs.Axes.{on_axis, is_in}
use Rattle.data_model.specs.Order.{identities}
use Rattle.data_model.specs.declared.axis.Axis.{Axis}
use Rattle.data_model.specs.declared.axis.Axis.TheVariants as axis
use Rattle.data_model.specs.declared.node.Kind.{Kind}
use Rattle.data_model.specs.declared.node.Kind.TheVariants as kind
use Rattle.fault_codes.specs.declared.code.Code.{Code}
use Rattle.fault_codes.specs.declared.code.Code.TheVariants.{XPTY0018, XPTY0019, XPTY0020, PXQ0002}
use Rattle.values.specs.declared.atom.Atom.{Atom}
use Rattle.values.specs.declared.atom.Atom.TheVariants as atom
use Rattle.values.specs.declared.atom.Item.{Item}
use Rattle.values.specs.declared.atom.Item.TheVariants as item
use Rattle.values.specs.Atoms.{truth}
use Rattle.query_grammar.specs.declared.ast.KindTest.{KindTest}
use Rattle.query_grammar.specs.declared.ast.KindTest.TheVariants as test
use Rattle.query_grammar.specs.declared.ast.NodeTest.{NodeTest}
use Rattle.query_grammar.specs.declared.ast.NodeTest.TheVariants as node_test
use Rattle.query_meaning.specs.Running.{M, pure, ◌>>=◌, come_to, seen, turn, work, counted, within, each, most_items}
use Rattle.query_meaning.specs.Environment.{Environment, with_focus}
use Rattle.query_meaning.specs.Operators.{all_nodes, nodes, ordering}
use Rattle.query_meaning.specs.Sequences.{Meaning, focus_of}

-- A predicate (section 3.2.2): a single integer selects that position, any other value by its effective boolean value.
abbrev pub selects : (position : ℕ) → List Item → Result Bool Code
selects i (item.Atomic (atom.Integer z) ∷ []) = Ok (is_eq (int_cmp z (pos i)))
selects i items = truth items

abbrev pub and_if : Bool → List Item → Item → List Item
and_if true given x = given ++ x ∷ []
and_if false given x = given

-- each item takes a turn
abbrev pub kept : Meaning → Environment → (size : ℕ) → ℕ → List Item → Item → M (List Item)
kept m env n i given x = turn (do
  items ← m (with_focus x (i + 1) n env)
  b ← come_to (selects (i + 1) items)
  pure (and_if b given x))

abbrev pub filtered : Environment → List Item → Meaning → M (List Item)
filtered env items m = each (kept m env (length items)) 0 items []

abbrev pub predicates : List Meaning → Environment → List Item → M (List Item)
predicates ms env items = each (λ _. filtered env) 0 ms items

-- a filter expression (section 3.3.2): positions count forward
abbrev pub filter_of : Meaning → List Meaning → Meaning
filter_of m ms = λ env. m env >>= predicates ms env

-- A node test (section 3.2.1.2): a name is that of the axis's principal kind, attributes on the attribute axis and elements on the others.
abbrev pub is_element : Kind → Bool
is_element kind.Element = true
is_element _ = false

abbrev pub is_principal : Axis → Kind → Bool
is_principal axis.Attribute kind.Attribute = true
is_principal axis.Attribute _ = false
is_principal _ k = is_element k

abbrev pub is_of_kind : KindTest → Kind → Bool
is_of_kind test.AnyNode _ = true
is_of_kind test.Document kind.Document = true
is_of_kind test.Element kind.Element = true
is_of_kind test.Text kind.Text = true
is_of_kind test.Comment kind.Comment = true
is_of_kind test.Instruction kind.Instruction = true
is_of_kind _ _ = false

abbrev pub passes : Axis → NodeTest → Content → Bool
passes a (node_test.Name name) c = is_principal a c.kind && bytes_eq name c.name
passes a node_test.AnyName c = is_principal a c.kind
passes a (node_test.Kind k) c = is_of_kind k c.kind

abbrev pub passes_at : Axis → NodeTest → Option Place → Bool
passes_at a t None = false
passes_at a t (Some x) = passes a t x.content

-- the nodes of the axis that pass the test, in document order
abbrev pub tested_nodes : Axis → NodeTest → ℕ → Trees → List ℕ
tested_nodes a t i ts = filter (λ j. passes_at a t (find j ts)) (on_axis a ts i)

-- how many nodes a step looks at: those of the axis, and for descendants the whole tree
abbrev pub looked_at : Axis → ℕ → Trees → ℕ
looked_at axis.Descendant i ts = size (pick i ts)
looked_at axis.DescendantOrSelf i ts = size (pick i ts)
looked_at a i ts = length (on_axis a ts i)

-- the axes whose positions count backward (section 3.2.1.1)
abbrev pub is_reverse : Axis → Bool
is_reverse axis.Parent = true
is_reverse axis.Ancestor = true
is_reverse axis.PrecedingSibling = true
is_reverse _ = false

abbrev pub in_direction : Axis → List Item → List Item
in_direction a xs = if is_reverse a then reverse xs else xs

-- the context item as a node
abbrev pub node_of : Item → Result ℕ Code
node_of (item.Node i) = Ok i
node_of (item.Atomic a) = Err XPTY0020

-- An axis step: the listing filtered by the axis and the test, in the axis's direction for its predicates, and in document order again. To look
-- at a node is work. More items than there may be are judged after the predicates.
abbrev pub step : Axis → NodeTest → List Meaning → Meaning
step a t ms = λ env. do
  focus ← come_to (focus_of env)
  i ← come_to (node_of focus.item)
  _ ← seen (looked_at a i) >>= work
  is ← seen (tested_nodes a t i)
  left ← predicates ms env (in_direction a (nodes is))
  come_to (within (in_direction a left))

-- What a path has found: nodes without repeats, and atomic values.
pub record Found : Type 0 where
  pub nodes : List ℕ
  pub atoms : List Atom

abbrev pub and_found : Found → Item → Found
and_found f (item.Node i) = if is_in i f.nodes then f else record f { nodes = f.nodes ++ i ∷ [] }
and_found f (item.Atomic a) = record f { atoms = f.atoms ++ a ∷ [] }

abbrev pub found_within : Found → Result Found Code
found_within f = if nat_le (length f.nodes + length f.atoms) most_items then Ok f else Err PXQ0002

abbrev pub all_found : Found → List Item → M Found
all_found f xs = each (λ _ given x. come_to (found_within (and_found given x))) 0 xs f

-- nodes in document order, or atomic values in their order; both are a fault of this code
abbrev pub concluded : (mixed : Code) → List ℕ → List Atom → M (List Item)
concluded mixed is [] = do
  _ ← ordering (length is)
  seen (λ ts. nodes (filter (λ i. is_in i is) (identities ts)))
concluded mixed [] (a ∷ more) = pure (map (λ x. item.Atomic x) (a ∷ more))
concluded mixed (i ∷ is) (a ∷ more) = come_to (Err mixed)

-- `a/b` (section 3.2): b for each node that a gives, which takes a turn
abbrev pub segment : (mixed : Code) → Environment → List Item → Meaning → M (List Item)
segment mixed env items m = do
  _ ← come_to (all_nodes XPTY0019 items)
  found ← each (λ i f x. turn (m (with_focus x (i + 1) (length items) env) >>= all_found f)) 0 items (record { nodes = []; atoms = [] })
  concluded mixed found.nodes found.atoms

-- The code of a step, of so many, that gives nodes and atomic values: XPTY0018 is that of the last step; any other must not give an atomic value.
abbrev pub mixed_code : (steps before : ℕ) → Code
mixed_code steps before = if before + 1 == steps then XPTY0018 else XPTY0019

-- the work of each step is counted
abbrev pub path : Meaning → List Meaning → Meaning
path m ms = λ env. m env >>= each (λ i items n. counted (segment (mixed_code (length ms) i) env items n)) 0 ms
