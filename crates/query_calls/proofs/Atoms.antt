-- How many typed values there are.
use Rattle.std.proofs.Common.{◌≡◌, ℕ, suc, ◌+◌, ◌≤◌, Bool, true, false, cond, List, [], ◌∷◌, ◌++◌, length, sym, ap, subst, arith, Result, Ok, Err, length-append}
use Rattle.std.specs.List.{list_any}
use Rattle.fault_codes.specs.declared.code.Code.{Code}
use Rattle.values.specs.Comparisons.{as_string, same_type_cmp}
use Rattle.values.specs.declared.atom.Atom.{Atom}
use Rattle.values.specs.declared.atom.Item.{Item}
use Rattle.query_meaning.specs.Functions.{are_equal, distinct}
use Rattle.query_meaning.specs.Running.{Run, and_then, atom, atoms, each, most_items, pure}
use Rattle.evaluation.specs.Atoms.{and_atom}

-- how many values are come to
abbrev width_of : Result (List Atom × Run) Code → ℕ
width_of (Ok p) = length p.0
width_of (Err code) = 0

-- as many as there are items
width_then : (n : ℕ) (xs : List Item) (given vs : List Atom) (old new : Run) → each (λ _. and_atom) n xs given old ≡ Ok (vs, new) → length vs ≡ length given + length xs
width_then n [] given vs old new e = let as_many : length given ≡ length vs = ap width_of e in omega (arith, as_many)
width_then n (x ∷ xs) given vs old new e = first (atom x old) (λ a mid. width_then (suc n) xs (given ++ a ∷ []) vs mid new) e
  where
    first : (r : Result (Atom × Run) Code) → ((a : Atom) (mid : Run) → each (λ _. and_atom) (suc n) xs (given ++ a ∷ []) mid ≡ Ok (vs, new) → length vs ≡ length (given ++ a ∷ []) + length xs)
        → and_then (and_then r (λ a. pure (given ++ a ∷ []))) (each (λ _. and_atom) (suc n) xs) ≡ Ok (vs, new) → length vs ≡ length given + length (x ∷ xs)
    first (Ok p) rest e = let k = rest p.0 p.1 e in omega (arith, k, length-append given (p.0 ∷ []))
    first (Err code) rest e = cc

pub atoms_within : (xs : List Item) (vs : List Atom) (old new : Run) → atoms xs old ≡ Ok (vs, new) → length xs ≤ most_items → length vs ≤ most_items
atoms_within xs vs old new e h = let k = width_then 0 xs [] vs old new e in omega (arith, k, h)

-- those that are distinct are no more
pub distinct_width : (given xs : List Atom) → length (distinct given xs) ≤ length given + length xs
distinct_width given [] = omega arith
distinct_width given (x ∷ xs) = by (list_any (λ b. are_equal (same_type_cmp (as_string x) b)) given) (λ ys. distinct_width ys xs)
  where
    by : (b : Bool) → ((ys : List Atom) → length (distinct ys xs) ≤ length ys + length xs) → length (distinct (cond b given (given ++ as_string x ∷ [])) xs) ≤ length given + length (x ∷ xs)
    by true h = let k = h given in omega arith
    by false h = let k = h (given ++ as_string x ∷ []) in omega (arith, length-append given (as_string x ∷ []))

pub distinct_within : (made values seen : List Atom) → made ≡ distinct [] seen → seen ≡ values → length values ≤ most_items → length made ≤ most_items
distinct_within made values seen is same most =
    let P : List Atom → Type 0 = λ vs. length vs ≤ most_items in
    let Q : List Atom → Type 0 = λ vs. length (distinct [] vs) ≤ most_items in
    subst P (sym is) (subst Q (sym same) (let few = distinct_width [] values in omega (arith, few, most)))
