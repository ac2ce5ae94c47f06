-- What the primitives of later stages bring.
use Rattle.std.specs.Prelude.{◌≡◌, ℕ, ◌<◌, ◌≤◌, nat_le, List, filter}
use Rattle.data_model.specs.Trees.{append, count}
use Rattle.pending.specs.Primitives.{PrimitiveTerm}
use Rattle.chosen_drafts.specs.Terms.{ChosenTerm, hidden}
use Rattle.update_meaning.specs.Brought.{new_trees}
use Rattle.update_meaning.specs.Effects.{stage_of}

-- the primitives of a stage and of those after it
abbrev pub from_stage : ℕ → List PrimitiveTerm → List PrimitiveTerm
from_stage n ps = filter (λ p. nat_le n (stage_of p)) ps

-- What the primitives of a stage and of those after it bring has identities of its own, below the next one, which no hidden node has.
pub record IsReadyFor (n : ℕ) (ps : List PrimitiveTerm) (d : ChosenTerm) : Type 0 where
  pub distinct : (i : ℕ) → count i (append d.after (new_trees (from_stage n ps))) ≤ 1
  pub below : (i : ℕ) → 0 < count i (new_trees (from_stage n ps)) → i < d.next
  pub unseen : (i : ℕ) → 0 < count i (new_trees (from_stage n ps)) → count i (hidden d) ≡ 0
