-- What there may be of items.
use Rattle.std.proofs.Common.{◌≡◌, ◌<◌, ◌≤◌, ℕ, List, length, Result, Ok, Err, IsOk, Bool, true, false, nat_le, cond, arith, refl}
use Rattle.std.proofs.lemmas.Bool.Decides.{nat_tests}
use Rattle.std.proofs.lemmas.List.{length-map}
use Rattle.fault_codes.specs.declared.code.Code.TheVariants.{PXQ0002}
use Rattle.values.specs.declared.atom.Item.{Item}
use Rattle.values.specs.declared.atom.Item.TheVariants as item
use Rattle.values.specs.declared.fault.ValueFault.{ValueFault}
use Rattle.values.specs.declared.fault.ValueFault.TheVariants as fault
use Rattle.query_meaning.specs.Operators.{nodes}
use Rattle.query_meaning.specs.Running.{within, most_items}
use Rattle.evaluation.specs.Gives.{Judged}

-- items that are not too many are given
pub within_is : (xs ys : List Item) → within xs ≡ Ok ys → ys ≡ xs
within_is xs ys e = at (nat_le (length xs) most_items) e
  where
    at : (b : Bool) → cond b (Ok xs) (Err PXQ0002) ≡ Ok ys → ys ≡ xs
    at true e = cc
    at false e = cc

-- ---- the items that nodes are
pub too_many : (ids : List ℕ) → 10000 < length ids → within (nodes ids) ≡ Err PXQ0002
unfolding most_items
too_many ids many = let z : nat_le (length (nodes ids)) 10000 ≡ false = grind (arith, nat_tests, many, length-map ids (λ i. item.Node i)) in rw z refl

few_fit : (ids : List ℕ) → length ids ≤ 10000 → IsOk (within (nodes ids))
unfolding most_items
few_fit ids few = let z : nat_le (length (nodes ids)) 10000 ≡ true = grind (arith, nat_tests, few, length-map ids (λ i. item.Node i)) in rw z refl

pub few_judged : {B : Type 0} (ids : List ℕ) (r : Result B ValueFault) → length ids ≤ 10000 → Judged (within (nodes ids)) r
few_judged ids (Ok b) few = tt
few_judged ids (Err fault.Memory) few = few_fit ids few
few_judged ids (Err (fault.Code code)) few = tt
