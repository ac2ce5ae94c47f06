-- `insert` (XQuery Update Facility 1.0, section 2.4.1) in parts: what comes once its source is copied, and once its target is found.
use Rattle.std.specs.Prelude.{ℕ, not, ◌||◌, List, []}
use Rattle.data_model.specs.Tidy.{is_document}
use Rattle.data_model.specs.Trees.{Trees, find}
use Rattle.fault_codes.specs.declared.code.Code.TheVariants.{XUTY0004, XUTY0022, XUDY0029, XUDY0030}
use Rattle.pending.specs.Primitives.{PrimitiveTerm, insert_before, insert_after, insert_attributes, insert_into, insert_into_as_first, insert_into_as_last}
use Rattle.values.specs.Atoms.{or_fault}
use Rattle.values.specs.declared.atom.Item.{Item}
use Rattle.query_grammar.specs.declared.ast.Place.{Place}
use Rattle.query_grammar.specs.declared.ast.Place.TheVariants.{Into, FirstInto, LastInto, After, Before}
use Rattle.query_meaning.specs.Content.{attributes, has_attributes_first}
use Rattle.query_meaning.specs.Environment.{Environment}
use Rattle.query_meaning.specs.Running.{M, pure, ◌>>=◌, come_to, seen}
use Rattle.query_meaning.specs.Sequences.{Meaning}
use Rattle.query_meaning.specs.Updates.{must, is_none, is_document_at, adding_insertions, adding_trees}
use Rattle.query_updates.specs.declared.targets.Role.{Role}
use Rattle.query_updates.specs.declared.targets.Role.TheVariants.{Parent, Sibling}
use Rattle.query_updates.specs.declared.targets.Target.{Target}
use Rattle.query_updates.specs.Targets.{target}

-- what the target is there for
abbrev pub role_at : Place → Role
role_at Into = Parent
role_at FirstInto = Parent
role_at LastInto = Parent
role_at Before = Sibling
role_at After = Sibling

-- the primitive
abbrev pub insertion : Place → (target : ℕ) → Trees → PrimitiveTerm
insertion Into = insert_into
insertion FirstInto = insert_into_as_first
insertion LastInto = insert_into_as_last
insertion Before = insert_before
insertion After = insert_after

-- the attributes and the others, as far as there are some
abbrev pub split_added : (element : ℕ) → (Trees → PrimitiveTerm) → (attributes others : Trees) → M (List Item)
split_added i p us vs = do
  _ ← adding_trees (insert_attributes i) us
  _ ← adding_trees p vs
  pure []

abbrev pub inserted_into : Place → Trees → Target → M (List Item)
inserted_into p us t = do
  _ ← must (is_none (attributes us) || not (is_document t.kind)) XUTY0022
  adding_insertions t.identity (insertion p t.identity) us

abbrev pub inserted_beside : Place → Trees → Target → M (List Item)
inserted_beside p us t = do
  parent ← come_to (or_fault XUDY0029 t.parent)
  above ← seen (find parent)
  _ ← must (is_none (attributes us) || not (is_document_at above)) XUDY0030
  adding_insertions parent (insertion p t.identity) us

-- once the target is found
abbrev pub inserted : Place → Trees → Target → M (List Item)
inserted Into = inserted_into Into
inserted FirstInto = inserted_into FirstInto
inserted LastInto = inserted_into LastInto
inserted Before = inserted_beside Before
inserted After = inserted_beside After

-- once the source is copied
abbrev pub placed : Place → Meaning → Environment → Trees → M (List Item)
placed p m env us = do
  _ ← must (has_attributes_first us) XUTY0004
  t ← target (role_at p) m env
  inserted p us t
