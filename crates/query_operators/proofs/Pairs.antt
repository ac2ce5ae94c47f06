-- Comparisons with one item, whose values need not be listed.
use Rattle.std.proofs.Common.{◌≡◌, ◌∙◌, Bool, List, [], ◌∷◌, Result, Ok, Err, refl, ap}
use Rattle.fault_codes.specs.declared.code.Code.{Code}
use Rattle.values.specs.Comparisons.{general_compared, pairs_compared, tried, tried_work}
use Rattle.values.specs.declared.atom.Atom.{Atom}
use Rattle.values.specs.declared.atom.Atom.TheVariants as atom
use Rattle.values.specs.declared.atom.Item.{Item}
use Rattle.values.specs.declared.compare.Comparison.{Comparison}
use Rattle.values.specs.declared.fault.ValueFault.{ValueFault}
use Rattle.values.specs.declared.fault.ValueFault.TheVariants as fault
use Rattle.query_meaning.specs.Operators.{between_atoms, compared_by_pairs}
use Rattle.query_meaning.specs.Running.{M, Run, and_then, ◌>>=◌, atom as atom_at, atoms, come_to, pure, turns, work}
use Rattle.query_meaning.specs.Sequences.{one}
use Rattle.evaluation.specs.Gives.{Any, Fails, Gives, GivesIn}
use Rattle.read_items.specs.Pairs.{compared, each_compared, items_compared}
use Rattle.evaluation.proofs.Alone.{item_atoms}
use Rattle.query_operators.proofs.Values.{atomic_alone}

module _ (op : Comparison) where
  abbrev boolean : Bool → M (List Item)
  boolean b = pure (one (atom.Boolean b))

  compared_given : (vs ws : List Atom) (run : Run) → compared_by_pairs op vs ws run ≡ and_then (compared op vs ws run) boolean
  compared_given vs ws run = over (general_compared op vs ws run.turns run.work)
    where
      last : (c : Bool) (r : Result (Unit {0} × Run) Code) → and_then r (λ _. boolean c) ≡ and_then (and_then r (λ _. pure c)) boolean
      last c (Ok p) = refl
      last c (Err code) = refl

      turned : (c : Bool) (r : Result (Unit {0} × Run) Code)
          → and_then r (λ _. work (tried_work op vs ws) >>= (λ _. boolean c)) ≡ and_then (and_then r (λ _. work (tried_work op vs ws) >>= (λ _. pure c))) boolean
      turned c (Ok p) = last c (work (tried_work op vs ws) p.1)
      turned c (Err code) = refl

      over : (o : Result Bool Code)
          → and_then (come_to o run) (λ c. turns (tried (pairs_compared op vs ws)) >>= (λ _. work (tried_work op vs ws) >>= (λ _. boolean c)))
          ≡ and_then (and_then (come_to o run) (λ c. turns (tried (pairs_compared op vs ws)) >>= (λ _. work (tried_work op vs ws) >>= (λ _. pure c)))) boolean
      over (Ok c) = turned c (turns (tried (pairs_compared op vs ws)) run)
      over (Err code) = refl

  other_given : (y : Item) (vs : List Atom) (run : Run) → (atoms (y ∷ []) >>= compared_by_pairs op vs) run ≡ and_then (and_then (atom_at y run) (λ w. compared op vs (w ∷ []))) boolean
  other_given y vs run = ap (λ r. and_then r (compared_by_pairs op vs)) (item_atoms y run) ∙ over (atom_at y run)
    where
      over : (r : Result (Atom × Run) Code) → and_then (and_then r (λ w. pure (w ∷ []))) (compared_by_pairs op vs) ≡ and_then (and_then r (λ w. compared op vs (w ∷ []))) boolean
      over (Ok p) = compared_given vs (p.0 ∷ []) p.1
      over (Err code) = refl

  each_given : (xs : List Item) (y : Item) (run : Run) → between_atoms (compared_by_pairs op) xs (y ∷ []) run ≡ and_then (each_compared op xs y run) boolean
  each_given xs y run = over (atoms xs run)
    where
      over : (r : Result (List Atom × Run) Code)
          → and_then r (λ vs. atoms (y ∷ []) >>= compared_by_pairs op vs) ≡ and_then (and_then r (λ vs. atom_at y >>= (λ w. compared op vs (w ∷ [])))) boolean
      over (Ok p) = other_given y p.0 p.1
      over (Err code) = refl

  items_given : (x y : Item) (run : Run) → between_atoms (compared_by_pairs op) (x ∷ []) (y ∷ []) run ≡ and_then (items_compared op x y run) boolean
  items_given x y run = ap (λ r. and_then r (λ vs. atoms (y ∷ []) >>= compared_by_pairs op vs)) (item_atoms x run) ∙ over (atom_at x run)
    where
      over : (r : Result (Atom × Run) Code)
          → and_then (and_then r (λ v. pure (v ∷ []))) (λ vs. atoms (y ∷ []) >>= compared_by_pairs op vs) ≡ and_then (and_then r (λ v. atom_at y >>= (λ w. compared op (v ∷ []) (w ∷ [])))) boolean
      over (Ok p) = other_given y (p.0 ∷ []) p.1
      over (Err code) = refl

  -- what comes to whether the comparison holds
  module _ (xs : List Item) (y : Item) (m : M Bool) (old : Run) (same : between_atoms (compared_by_pairs op) xs (y ∷ []) old ≡ and_then (m old) boolean) where
    gives : (new : Run) (b : Bool) → GivesIn Any m old (Ok b) new → Gives (between_atoms (compared_by_pairs op) xs (y ∷ [])) old (Ok (one (atom.Boolean b))) new
    gives new b g = (same ∙ ap (λ r. and_then r boolean) g.0, (g.1.0, atomic_alone (atom.Boolean b) new))

    fails : (found : ValueFault) → Fails (m old) found → Fails (between_atoms (compared_by_pairs op) xs (y ∷ []) old) found
    fails fault.Memory g = tt
    fails (fault.Code code) g = same ∙ ap (λ r. and_then r boolean) g

  pub items_give : (x y : Item) (old new : Run) (b : Bool) → GivesIn Any (items_compared op x y) old (Ok b) new → Gives (between_atoms (compared_by_pairs op) (x ∷ []) (y ∷ [])) old (Ok (one (atom.Boolean b))) new
  items_give x y old = gives (x ∷ []) y (items_compared op x y) old (items_given x y old)

  pub items_fail : (x y : Item) (old : Run) (found : ValueFault) → Fails (items_compared op x y old) found → Fails (between_atoms (compared_by_pairs op) (x ∷ []) (y ∷ []) old) found
  items_fail x y old = fails (x ∷ []) y (items_compared op x y) old (items_given x y old)

  pub each_give : (xs : List Item) (y : Item) (old new : Run) (b : Bool) → GivesIn Any (each_compared op xs y) old (Ok b) new → Gives (between_atoms (compared_by_pairs op) xs (y ∷ [])) old (Ok (one (atom.Boolean b))) new
  each_give xs y old = gives xs y (each_compared op xs y) old (each_given xs y old)

  pub each_fail : (xs : List Item) (y : Item) (old : Run) (found : ValueFault) → Fails (each_compared op xs y old) found → Fails (between_atoms (compared_by_pairs op) xs (y ∷ []) old) found
  each_fail xs y old = fails xs y (each_compared op xs y) old (each_given xs y old)
