-- Copies, their variables and their roots, in the order in which they were made.
use Rattle.std.proofs.Common.{◌≡◌, List, [], ◌∷◌, ◌++◌, map, reverse, Result, Ok, Err, refl}
use Rattle.std.specs.Prelude.{IfOk}
use mathlib.Core.List.{reverse_aux}
use Rattle.query_meaning.specs.Copies.{Copy, bound_to, roots_of}
use Rattle.query_meaning.specs.Environment.{Bound}
use Rattle.query_copies.specs.Made.{copies_after, copy_in, variables_after}
use Rattle.query_copies.specs.declared.made.MadeCopy.{MadeCopy}

-- one more
pub pushed : (cs : List Copy) (xs : List MadeCopy) (x : MadeCopy) → copies_after cs (xs ++ x ∷ []) ≡ copy_in x ∷ copies_after cs xs
pushed cs [] x = refl
pushed cs (y ∷ xs) x = pushed (copy_in y ∷ cs) xs x

pub all_bound : (cs : List Copy) (bs : List Bound) (xs : List MadeCopy) → variables_after (map bound_to cs ++ bs) xs ≡ map bound_to (copies_after cs xs) ++ bs
all_bound cs bs [] = refl
all_bound cs bs (x ∷ xs) = all_bound (copy_in x ∷ cs) bs xs

-- the roots
turned : (cs : List Copy) (xs : List MadeCopy) → reverse_aux (map (λ (c : MadeCopy). c.root) xs) (roots_of cs) ≡ roots_of (copies_after cs xs)
turned cs [] = refl
turned cs (x ∷ xs) = turned (copy_in x ∷ cs) xs

pub roots_turned : (xs : List MadeCopy) → reverse (map (λ (c : MadeCopy). c.root) xs) ≡ roots_of (copies_after [] xs)
roots_turned xs = turned [] xs

pub if_ok : {A E : Type 0} (r : Result A E) (P Q : A → Type 0) → ((x : A) → P x → Q x) → IfOk r P → IfOk r Q
if_ok (Ok x) P Q f h = f x h
if_ok (Err e) P Q f h = tt
