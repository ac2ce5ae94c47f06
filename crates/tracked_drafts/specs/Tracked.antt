-- A draft of a forest, or of some trees of it, with the nodes that its changes touch.
use Rattle.std.specs.Prelude.{ℕ, List, refl}
use Rattle.std.specs.Coded.{Coded, code_by, coded×, coded_ℕ, coded_list}
use Rattle.chosen_drafts.specs.Terms.{ChosenTerm, chosen_code}

-- the draft, and the identities of the nodes that were touched, in the order in which they first were
pub record TrackedTerm : Type 0 where
  pub draft : ChosenTerm
  pub touched : List ℕ

abbrev pub tracked_code : Coded TrackedTerm
tracked_code = code_by (ChosenTerm × List ℕ) (coded× chosen_code (coded_list coded_ℕ)) (λ t. (t.draft, t.touched)) (λ p. record { draft = p.0; touched = p.1 }) (λ _. refl)
