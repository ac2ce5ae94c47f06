-- Steps of `copy .. modify .. return` (XQuery Update Facility 1.0, section 2.4.5).
use Rattle.std.specs.Prelude.{ℕ, List}
use Rattle.pending.specs.Primitives.{PrimitiveTerm}
use Rattle.update_meaning.specs.Changed.{applied_to_copies}
use Rattle.values.specs.declared.atom.Item.{Item}
use Rattle.query_meaning.specs.Copies.{becoming, copy_of, modified, one_node, own_list}
use Rattle.query_meaning.specs.Running.{M, ◌>>=◌}

-- the root of a copy of the node that an expression gives
abbrev pub copied : M (List Item) → M ℕ
copied m = m >>= (λ items. one_node items >>= copy_of)

-- primitives change the copies with these roots, of which all targets are nodes
abbrev pub updated : List ℕ → List PrimitiveTerm → M (Unit {0})
updated is ps = λ run. becoming (applied_to_copies is ps run.shelf.own.next run.shelf.own) run

-- the primitives that an expression gives do
abbrev pub changed_by : M (List Item) → List ℕ → M (Unit {0})
changed_by m is = own_list m >>= modified is
