-- Updating expressions (XQuery Update Facility 1.0, section 2.4) in parts: what comes once their target is found.
use Rattle.std.specs.Prelude.{ℕ, is_some, List, []}
use Rattle.fault_codes.specs.declared.code.Code.TheVariants.{XUTY0007, XUDY0009}
use Rattle.pending.specs.Primitives.{delete, rename, replace_node, replace_value}
use Rattle.values.specs.declared.atom.Atom.{Atom}
use Rattle.values.specs.declared.atom.Item.{Item}
use Rattle.query_meaning.specs.Constructors.{named}
use Rattle.query_meaning.specs.Content.{content}
use Rattle.query_meaning.specs.Environment.{Environment}
use Rattle.query_meaning.specs.Operators.{all_nodes}
use Rattle.query_meaning.specs.Running.{M, pure, ◌>>=◌, come_to, atoms, each, adding}
use Rattle.query_meaning.specs.Sequences.{Meaning}
use Rattle.query_meaning.specs.Updates.{content_replaced, must, replaces, text_for, text_of_values, text_replaced, value_replaced as text_replaced_by}
use Rattle.query_updates.specs.declared.targets.Target.{Target}
use Rattle.query_updates.specs.Targets.{content_of}

-- `delete`: one node more, all of them, and items that are nodes
abbrev pub deleted : List Item → ℕ → M (List Item)
deleted given i = adding (delete i) >>= (λ _. pure given)

abbrev pub all_deleted : List ℕ → M (List Item)
all_deleted is = each (λ _. deleted) 0 is []

abbrev pub items_deleted : List Item → M (List Item)
items_deleted items = come_to (all_nodes XUTY0007 items) >>= all_deleted

-- `rename`
abbrev pub renamed : Meaning → Environment → Target → M (List Item)
renamed name env t = do
  given ← named t.kind name env
  _ ← adding (rename t.identity given)
  pure []

-- `replace node`
abbrev pub node_replaced : Meaning → Environment → Target → M (List Item)
node_replaced source env t = do
  _ ← must (is_some t.parent) XUDY0009
  items ← source env
  us ← content items
  _ ← replaces t.kind us
  _ ← adding (replace_node t.identity us)
  pure []

-- `replace value`: by what is evaluated, by values of an element and of another node, and by a text
abbrev pub value_replaced : Meaning → Environment → Target → M (List Item)
value_replaced source env t = do
  items ← source env
  values ← atoms items
  us ← text_of_values values
  text_replaced (content_of t) us

abbrev pub content_set : Target → List Atom → M (List Item)
content_set t values = text_of_values values >>= content_replaced (content_of t)

abbrev pub value_set : Target → List Atom → M (List Item)
value_set t values = text_of_values values >>= text_replaced_by (content_of t)

abbrev pub text_set : Target → List ℕ → M (List Item)
text_set t given = do
  text ← come_to (text_for t.kind given)
  _ ← adding (replace_value t.identity text)
  pure []
