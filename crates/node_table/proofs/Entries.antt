-- What a table or the trees say of a node.
use Rattle.std.proofs.Common.{◌≡◌, ℕ, cond, refl, ap, sym, ◌∙◌, arith, Option, Some, None, option_map, IsSome, is_some}
use Rattle.data_model.specs.declared.node.Kind.TheVariants.{Document}
use Rattle.data_model.specs.Trees.{Trees, Place, find, children_at, children_of, attributes_at, parent_at, parent_of, IsAt}
use Rattle.node_table.specs.Flat.{Entry, entry_at, entry_in, IsDocumentEntry}

pub some-of : {A : Type 0} (o : Option A) → IsSome o → (x : A) × (o ≡ Some x)
some-of None h = cc
some-of (Some x) h = (x, refl)

pub document-some : (o : Option Entry) → IsDocumentEntry o → IsSome o
document-some None h = absurd h
document-some (Some e) h = refl

-- ---- what the trees say of a node
kind-at : (o : Option Place) (e : Entry) → option_map entry_at o ≡ Some e → IsAt o (λ c. e.kind ≡ c.kind)
kind-at None e h = cc
kind-at (Some x) e h = let k : entry_at x ≡ e = cc in ap (λ (z : Entry). z.kind) (sym k)

name-at : (o : Option Place) (e : Entry) → option_map entry_at o ≡ Some e → IsAt o (λ c. e.name ≡ c.name)
name-at None e h = cc
name-at (Some x) e h = let k : entry_at x ≡ e = cc in ap (λ (z : Entry). z.name) (sym k)

text-at : (o : Option Place) (e : Entry) → option_map entry_at o ≡ Some e → IsAt o (λ c. e.text ≡ c.text)
text-at None e h = cc
text-at (Some x) e h = let k : entry_at x ≡ e = cc in ap (λ (z : Entry). z.text) (sym k)

parent-at : (o : Option Place) (e : Entry) → option_map entry_at o ≡ Some e → parent_at o ≡ e.parent
parent-at None e h = cc
parent-at (Some x) e h = let k : entry_at x ≡ e = cc in ap (λ (z : Entry). z.parent) k

children-at : (o : Option Place) (e : Entry) → option_map entry_at o ≡ Some e → children_at o ≡ e.children
children-at None e h = cc
children-at (Some x) e h = let k : entry_at x ≡ e = cc in ap (λ (z : Entry). z.children) k

attributes-at : (o : Option Place) (e : Entry) → option_map entry_at o ≡ Some e → attributes_at o ≡ e.attributes
attributes-at None e h = cc
attributes-at (Some x) e h = let k : entry_at x ≡ e = cc in ap (λ (z : Entry). z.attributes) k

module _ (i : ℕ) (ts : Trees) (e : Entry) (is : entry_in i ts ≡ Some e) where
  pub kind-in : IsAt (find i ts) (λ c. e.kind ≡ c.kind)
  kind-in = kind-at (find i ts) e is

  pub name-in : IsAt (find i ts) (λ c. e.name ≡ c.name)
  name-in = name-at (find i ts) e is

  pub text-in : IsAt (find i ts) (λ c. e.text ≡ c.text)
  text-in = text-at (find i ts) e is

  pub parent-in : parent_of i ts ≡ e.parent
  parent-in = parent-at (find i ts) e is

  pub children-in : children_of i ts ≡ e.children
  children-in = children-at (find i ts) e is

  pub attributes-in : attributes_at (find i ts) ≡ e.attributes
  attributes-in = attributes-at (find i ts) e is

pub is_some-entry : (o : Option Place) → is_some (option_map entry_at o) ≡ is_some o
is_some-entry None = refl
is_some-entry (Some x) = refl

pub document-in : (o : Option Place) (y : Option Entry) → option_map entry_at o ≡ y → IsDocumentEntry y → (parent_at o ≡ None) × IsAt o (λ c. c.kind ≡ Document)
document-in None None e h = absurd h
document-in None (Some y) e h = cc
document-in (Some x) None e h = absurd h
document-in (Some x) (Some y) e h = let k : entry_at x ≡ y = cc in (ap (λ (z : Entry). z.parent) k ∙ h.0, ap (λ (z : Entry). z.kind) k ∙ h.1)

pub empty-entry : (o : Option Entry) → 0 ≡ cond {A = ℕ} (is_some o) 1 0 → o ≡ None
empty-entry None h = ap (λ _. None) h
empty-entry (Some x) h = absurd (omega arith)
