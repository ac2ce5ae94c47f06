-- What the fields of an evaluation stand for.
use Rattle.std.specs.Prelude.{◌≡◌, ◌≤◌, ◌+◌, ◌^◌, map}
use Rattle.pending.specs.Primitives.{primitive_term}
use Rattle.query_meaning.specs.Running.{Run, most_nodes, most_work}
use Rattle.evaluation.specs.declared.run.Evaluation.TheInside.{Inside}

abbrev pub run_of : Inside → Run
run_of a = record { shelf = a.shelf; turns = a.turns; work = a.work; primitives = map primitive_term a.primitives }

-- the next identity may rise by so many as there may be new nodes, and has room for them; no more work is left than there may be
pub record IsLimited (a : Inside) : Type 0 where
  pub most : a.most_next ≡ a.shelf.lent.next + most_nodes
  pub room : a.most_next ≤ 2 ^ 62
  pub work : a.work ≤ most_work
