-- What happens to a store, and what is seen of it.
use Rattle.std.specs.Prelude.{List, [], ◌∷◌}
use Rattle.ballots.specs.declared.value.Value.{Value}
use Rattle.paxos.specs.Lists.{Has}
use Rattle.published.specs.Stores.{Store, Keeps, Publishes}

-- A store was opened, and since then these lists were seen of it, the newest first: by boards, by notes and by readers, in whatever order and
-- in whatever threads that came.
pub data Happened : Store → (seen : List (List Value)) → Type 0 where
  -- some values are published at first, and nothing is pending
  Opens : (values : List Value) → Happened (record { published = values; pending = [] }) []
  -- values are handed on
  Hands : (old new : Store) (seen : List (List Value)) → Happened old seen → Keeps old new → Happened new seen
  -- what waited is shown
  Shows : (old new : Store) (seen : List (List Value)) → Happened old seen → Publishes old new → Happened new seen
  -- what is published is seen: a board is given, a reader is made, or a reader asks
  Sees : (store : Store) (seen : List (List Value)) → Happened store seen → Happened store (store.published ∷ seen)
  -- what was seen is seen again: a note is told of a board, a reader learns of a note, or it keeps what it had seen
  Passes : (sight : List Value) (store : Store) (seen : List (List Value)) → Happened store seen → Has seen sight → Happened store (sight ∷ seen)
