-- What came of a line, of whom it was asked.
use Rattle.std.proofs.Common.{◌≡◌, ℕ, Bool, List, Result, Ok, Err, IfOk, refl, sym, ◌∙◌, ◌⊎◌, inl, inr}
use Rattle.ballots.specs.declared.request.RequestId.{RequestId}
use Rattle.paxq_local.specs.Members.{IsToldAs, IsToldByFirst}
use Rattle.paxq_local.specs.declared.answers.Told.{Told}
use Rattle.paxq_local.specs.declared.answers.Told.TheVariants.{Said, Differ, NoAnswer}
use Rattle.paxq_local.specs.declared.asked.Form.{Form}
use Rattle.paxq_local.specs.declared.asked.Form.TheVariants.{Submit, Ask, AskAt}
use Rattle.wires.specs.Wires.{Carried}

-- a request and a question with a floor are no questions without one
pub not-all : (form : Form) → (form ≡ Submit) ⊎ (form ≡ AskAt) → ¬ (form ≡ Ask)
not-all form (inl is) e = absurd (let same : Submit ≡ Ask = sym is ∙ e in cc)
not-all form (inr is) e = absurd (let same : AskAt ≡ Ask = sym is ∙ e in cc)

module _ {A : Type 0} (eq : A → A → Bool) (peers : List A) (xs : List (Carried A)) (members : ℕ) (id : RequestId) (floor next : ℕ) where
  first-told : (form : Form) (told : Told) → ¬ (form ≡ Ask) → IsToldByFirst eq peers xs form id floor next told → IsToldAs eq peers xs members form id floor next told
  first-told Submit (Said text) other h = h
  first-told Submit Differ other h = absurd h
  first-told Submit NoAnswer other h = tt
  first-told Ask told other h = absurd (other refl)
  first-told AskAt (Said text) other h = h
  first-told AskAt Differ other h = absurd h
  first-told AskAt NoAnswer other h = tt

  -- of the first member
  pub as-first : {E : Type 0} (form : Form) (r : Result Told E) → ¬ (form ≡ Ask) → IfOk r (IsToldByFirst eq peers xs form id floor next) → IfOk r (IsToldAs eq peers xs members form id floor next)
  as-first form (Ok told) other h = first-told form told other h
  as-first form (Err e) other h = tt
