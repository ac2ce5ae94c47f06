-- What stands goes on standing, as long as no node is lost.
use Rattle.std.specs.Prelude.{List, Option}
use Rattle.std.specs.Option.{ForSome}
use Rattle.values.specs.Items.{IsThere}
use Rattle.values.specs.declared.atom.Item.{Item}
use Rattle.values.specs.declared.atom.Item.TheVariants as item
use Rattle.query_meaning.specs.Environment.{Environment, Focus}
use Rattle.query_meaning.specs.Running.{Run, trees_of}
use Rattle.evaluation.specs.Gives.{Grows, IsReady, Stand}

-- items
pub there_on : (x : Item) (old new : Run) → Grows old new → IsThere (trees_of old) x → IsThere (trees_of new) x
there_on (item.Atomic a) old new g h = tt
there_on (item.Node i) old new g h = g.kept i h

pub stand_on : (items : List Item) (old new : Run) → Grows old new → Stand items old → Stand items new
stand_on items old new g h = λ k d below. there_on _ old new g (h k d below)

-- environments
focus_on : (o : Option Focus) (old new : Run) → Grows old new → ForSome o (λ f. IsThere (trees_of old) f.item) → ForSome o (λ f. IsThere (trees_of new) f.item)
focus_on o old new g h = λ f is. there_on f.item old new g (h f is)

pub ready_on : (env : Environment) (old new : Run) → Grows old new → IsReady env old → IsReady env new
ready_on env old new g h = record { focus = focus_on env.focus old new g h.focus; variables = λ k d below. λ j e under. there_on _ old new g (h.variables k d below j e under) }
