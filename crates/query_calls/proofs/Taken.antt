-- Values of items that are taken for so much work in all.
use Rattle.std.proofs.Common.{◌≡◌, ◌∙◌, ℕ, suc, ◌+◌, List, [], ◌∷◌, ◌++◌, Ok, ap, sym, append-nil, append_assoc}
use Rattle.data_model.specs.Trees.{Trees}
use Rattle.values.specs.Atoms.{atom_of}
use Rattle.values.specs.Paid.{nodes_in}
use Rattle.values.specs.Work.{text_of, text_work}
use Rattle.values.specs.declared.atom.Atom.{Atom}
use Rattle.values.specs.declared.atom.Item.{Item}
use Rattle.query_meaning.specs.Running.{M, Run, and_then, ◌>>=◌, atom, each, pure, trees_of, work}
use Rattle.read_items.proofs.Taking.{atom_taken, no_work, then_same_after, together, works}

abbrev pub and_value : ℕ → List Atom → Item → M (List Atom)
and_value _ given x = atom x >>= (λ a. pure (given ++ a ∷ []))

-- those items have those values, for so much work
abbrev pub Taken : Trees → List Item → List Atom → ℕ → Type 0
Taken ts xs values paid = (n : ℕ) (before : List Atom) (run : Run) → trees_of run ≡ ts → each and_value n xs before run ≡ and_then (work paid run) (λ _. pure (before ++ values))

pub none_taken : (ts : Trees) → Taken ts [] [] 0
none_taken ts n before run here = sym (ap (λ r. and_then r (λ _. pure (before ++ []))) (no_work run) ∙ ap (λ xs. Ok (xs, run)) (append-nil before))

-- one more, with the work u of its text
module _ (ts : Trees) (x : Item) (xs : List Item) (a : Atom) (u : ℕ) (values : List Atom) (paid : ℕ) (found : atom_of ts x ≡ Ok a) (units : text_work (text_of a) ≡ u) (rest : Taken ts xs values paid) where
  abbrev here : ℕ
  here = nodes_in ts x + u

  pub more_taken : Taken ts (x ∷ xs) (a ∷ values) (here + paid)
  more_taken n before run same =
      ap (λ r. and_then (and_then r (λ a. pure (before ++ a ∷ []))) (each and_value (suc n) xs))
      (atom_taken x a (nodes_in ts x) u run (ap (λ ts. atom_of ts x) same ∙ found) units (ap (λ ts. nodes_in ts x) (sym same)))
      ∙ ap (λ r. and_then r (each and_value (suc n) xs)) (together (work here run) (λ _. pure a) (λ a. pure (before ++ a ∷ [])))
      ∙ together (work here run) (λ _. pure (before ++ a ∷ [])) (each and_value (suc n) xs)
      ∙ then_same_after here (each and_value (suc n) xs (before ++ a ∷ [])) (work paid >>= (λ _. pure (before ++ a ∷ values))) run
      (λ left. rest (suc n) (before ++ a ∷ []) (record run { work = left }) same ∙ ap (λ ys. and_then (work paid (record run { work = left })) (λ _. pure ys)) (append_assoc before (a ∷ []) values))
      ∙ sym (together (work here run) (λ _. work paid) (λ _. pure (before ++ a ∷ values))) ∙ ap (λ r. and_then r (λ _. pure (before ++ a ∷ values))) (works here paid run)
