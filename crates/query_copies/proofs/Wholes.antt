-- The form, by the copies that were made.
use Rattle.std.proofs.Common.{◌≡◌, ℕ, List, Ok, Result, subst, sym, ◌∙◌}
use Rattle.values.specs.declared.atom.Item.{Item}
use Rattle.values.specs.declared.fault.ValueFault.{ValueFault}
use Rattle.query_grammar.specs.declared.ast.Binding.{Binding}
use Rattle.query_meaning.specs.Copies.{Copy, copies, copy, roots_of, with_copies}
use Rattle.query_meaning.specs.Environment.{Environment}
use Rattle.query_meaning.specs.Running.{Run}
use Rattle.query_meaning.specs.Sequences.{Meaning}
use Rattle.evaluation.specs.Gives.{Fails, Gives, GivesIn, IsReady}
use Rattle.query_copies.specs.Kept.{AreCopies, Survive}
use Rattle.query_copies.specs.Steps.{changed_by}
use Rattle.query_copies.proofs.Forms.{change_fails, returned}
use Rattle.query_copies.proofs.Ready.{ready_made, ready_survived}

module _ (bs : List (Binding Meaning)) (env inside : Environment) (start mid : Run) (cs : List Copy) (is : List ℕ) (made : GivesIn (λ ds. AreCopies start (roots_of ds)) (copies bs env) start (Ok cs) mid) (roots : is ≡ roots_of cs)
    (bound : inside ≡ with_copies cs env) where
  pub are_copies : AreCopies start is mid
  are_copies = subst (λ (js : List ℕ). AreCopies start js mid) (sym roots) made.1.1

  pub ready_to_change : IsReady env start → IsReady inside mid
  ready_to_change ready = subst (λ (e : Environment). IsReady e mid) (sym bound) (ready_made mid start cs env ready made.1.0 made.1.1)

  module _ (late : Run) (kept : (s : Run) → AreCopies s is mid → Survive s is late) where
    survived : Survive start (roots_of cs) late
    survived = subst (λ (js : List ℕ). Survive start js late) roots (kept start are_copies)

    pub ready_to_return : IsReady env start → IsReady inside late
    ready_to_return ready = subst (λ (e : Environment). IsReady e late) (sym bound) (ready_survived late start cs env ready survived)

    pub gives_whole : (changes result : Meaning) (new : Run) (r : Result (List Item) ValueFault) → changed_by (changes inside) is mid ≡ Ok (tt, late) → Gives (result inside) late r new → Gives (copy bs changes result env) start r new
    gives_whole changes result new r c g =
        returned bs changes result env start mid cs made.0 late new r ((λ j. changed_by (changes (sym bound j)) (sym roots j) mid) ∙ c) survived.grown (subst (λ (e : Environment). Gives (result e) late r new) bound g)

  pub fails_in_change : (changes result : Meaning) (found : ValueFault) → Fails (changed_by (changes inside) is mid) found → Fails (copy bs changes result env start) found
  fails_in_change changes result found h =
      change_fails bs changes result env start mid cs made.0 found (subst (λ (js : List ℕ). Fails (changed_by (changes (with_copies cs env)) js mid) found) roots (subst (λ (e : Environment). Fails (changed_by (changes e) is mid) found) bound h))
