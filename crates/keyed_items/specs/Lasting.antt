-- Laws of what is done at a tuple: what stands goes on standing, as long as no node is lost.
use Rattle.std.specs.Prelude.{ℕ, List, [], ◌∷◌}
use Rattle.query_meaning.specs.Running.{Run}
use Rattle.query_meaning.specs.Sequences.{Tuple}
use Rattle.evaluation.specs.Gives.{Grows}
use Rattle.item_expressions.specs.Lasting.{ready_on}
use Rattle.sorted_tuples.specs.Keys.{AreKept, AreReady}

all_ready_on : (ts : List Tuple) (old new : Run) → Grows old new → AreReady ts old → AreReady ts new
all_ready_on [] old new g h = tt
all_ready_on (t ∷ ts) old new g h = (ready_on t.environment old new g h.0, all_ready_on ts old new g h.1)

-- tuples that are kept
pub kept_grows : (n : ℕ) (ts : List Tuple) (old new : Run) → Grows old new → AreKept n ts old → AreKept n ts new
kept_grows n ts old new g h = record { widths = h.widths; ready = all_ready_on ts old new g h.ready }
