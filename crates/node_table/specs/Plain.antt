-- Values of nodes that stand in one text.
use Rattle.std.specs.Prelude.{◌≡◌, ℕ, ◌≤◌, List, [], ◌∷◌, true, cond, suc, Some}
use Rattle.data_model.specs.Trees.{Trees, find, is_inner, is_text, text_of, size, string_value_of, IsAt}
use Rattle.data_model.specs.Changes.{pick}
use Rattle.node_table.specs.Flat.{Entry, Table, read_trees}
use Rattle.node_table.specs.declared.plain.PlainValue.{PlainValue}
use Rattle.node_table.specs.declared.plain.TextBelow.{TextBelow}

-- v says of the node i what the trees say
pub record IsPlainValue (ts : Trees) (i : ℕ) (v : PlainValue) : Type 0 where
  pub kind : IsAt (find i ts) (λ c. v.kind ≡ c.kind)
  pub text : v.text.now ≡ string_value_of i ts
  pub size : v.size ≡ size (pick i ts)

-- the same of a table, whose trees are read n levels down
pub record IsPlain (f : Table) (n i : ℕ) (v : PlainValue) : Type 0 where
  pub entry : Entry
  pub there : f i ≡ Some entry
  pub kind : v.kind ≡ entry.kind
  pub text : v.text.now ≡ cond (is_inner entry.kind) (text_of (read_trees n f entry.children)) entry.text
  pub size : v.size ≡ size (read_trees (suc n) f (i ∷ []))

-- t has the string value of an entry, and how many nodes there are below its children, however many levels are read
pub record IsTextBelow (f : Table) (e : Entry) (t : TextBelow) : Type 0 where
  pub text : (n : ℕ) → 1 ≤ n → t.text.now ≡ cond (is_inner e.kind) (text_of (read_trees n f e.children)) e.text
  pub nodes : (n : ℕ) → 1 ≤ n → t.nodes ≡ size (read_trees n f e.children)

-- the node i is a text s with nothing below it
pub record IsLeafText (f : Table) (i : ℕ) (s : List ℕ) : Type 0 where
  pub entry : Entry
  pub there : f i ≡ Some entry
  pub kind : is_text entry.kind ≡ true
  pub text : entry.text ≡ s
  pub attributes : entry.attributes ≡ []
  pub children : entry.children ≡ []
