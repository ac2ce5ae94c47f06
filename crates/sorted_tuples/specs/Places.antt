-- The environment of a tuple as it is held.
use Rattle.std.specs.Prelude.{[], ◌∷◌}
use Rattle.query_meaning.specs.Environment.{Environment, with_variable}
use Rattle.sorted_tuples.specs.declared.place.Placed.{Placed}
use Rattle.sorted_tuples.specs.declared.place.Placed.TheVariants.{Kept, Bound}

abbrev pub place_of : Placed → Environment
place_of (Kept env) = env
place_of (Bound binding item) = with_variable binding.value.variable (item ∷ []) binding.value.others
