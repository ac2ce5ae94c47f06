-- Ranges of integers.
use Rattle.std.proofs.Common.{◌≡◌, ℕ, ◌+◌, ◌<◌, ◌≤◌, ℤ, pos, ◌+ℤ◌, ◌-ℤ◌, Bool, true, false, cond, List, [], map, refl, sym, ap, ◌∙◌, subst, Result, Ok, Err, Some, arith}
use Rattle.std.specs.Prelude.{IsOk, int_lt, is_ok, nat_lt, unsigned_abs}
use Rattle.std.specs.List.{range_with_len}
use Rattle.std.proofs.lemmas.Bool.Decides.{nat_tests}
use Rattle.fault_codes.specs.declared.code.Code.{Code}
use Rattle.fault_codes.specs.declared.code.Code.TheVariants.{PXQ0002}
use Rattle.values.specs.declared.fault.ValueFault.{ValueFault}
use Rattle.values.specs.declared.fault.ValueFault.TheVariants as fault
use Rattle.values.specs.declared.atom.Atom.{Atom}
use Rattle.values.specs.declared.atom.Atom.TheVariants as atom
use Rattle.values.specs.declared.atom.Item.{Item}
use Rattle.values.specs.declared.atom.Item.TheVariants as item
use Rattle.values.specs.Arithmetic.{operands}
use Rattle.query_meaning.specs.Operators.{integers_to, many_from, ranged}
use Rattle.query_meaning.specs.Running.{Run, and_then, come_to, most_items}
use Rattle.evaluation.specs.Gives.{Gives, Judged, Says, Stand}
use Rattle.evaluation.proofs.Each.{grows_refl}
use Rattle.query_operators.proofs.Values.{atomic_stand}

-- so many from that number on
abbrev from : ℤ → ℕ → List Item
from x n = map (λ k. item.Atomic (atom.Integer (x +ℤ pos k))) (range_with_len 0 n)

pub too_many : (x y : ℤ) (n : ℕ) → int_lt y x ≡ false → n ≡ unsigned_abs (y -ℤ x) → most_items ≤ n → integers_to (Some (x, y)) ≡ Err PXQ0002
too_many x y n up is over =
    let more : nat_lt most_items (n + 1) ≡ true = grind (arith, nat_tests) in
    ap (λ b. cond b (Ok []) (many_from x (unsigned_abs (y -ℤ x) + 1))) up ∙ ap (λ k. many_from x (k + 1)) (sym is) ∙ ap (λ b. cond b (Err PXQ0002) (Ok (from x (n + 1)))) more

pub enough : (x y : ℤ) (n : ℕ) (items : List Item) → int_lt y x ≡ false → n ≡ unsigned_abs (y -ℤ x) → n < most_items
    → items ≡ from x (n + 1) → integers_to (Some (x, y)) ≡ Ok items
enough x y n items up is below same =
    let few : nat_lt most_items (n + 1) ≡ false = grind (arith, nat_tests) in
    ap (λ b. cond b (Ok []) (many_from x (unsigned_abs (y -ℤ x) + 1))) up ∙ ap (λ k. many_from x (k + 1)) (sym is) ∙ ap (λ b. cond b (Err PXQ0002) (Ok (from x (n + 1)))) few ∙ ap (λ is. Ok is) (sym same)

stands : (x : ℤ) (n : ℕ) (run : Run) (items : List Item) (a b : Bool) → cond a (Ok []) (cond b (Err PXQ0002) (Ok (from x n))) ≡ Ok items → Stand items run
stands x n run items true b e = let P : List Item → Type 0 = λ xs. Stand xs run in let same : [] ≡ items = cc in subst P same (λ k d below. absurd (omega (arith, below)))
stands x n run items false true e = cc
stands x n run items false false e = let P : List Item → Type 0 = λ xs. Stand xs run in let same : from x n ≡ items = cc in subst P same (atomic_stand (λ k. atom.Integer (x +ℤ pos k)) (range_with_len 0 n) run)

pub ranged_gives : (xs ys : List Atom) (x y : ℤ) (run : Run) (r : Result (List Item) ValueFault) → Ok (Some (x, y)) ≡ operands xs ys → Says (integers_to (Some (x, y))) r → Gives (ranged xs ys) run r run
ranged_gives xs ys x y run (Ok items) found h = (
  ap (λ o. and_then (come_to o run) (λ o. come_to (integers_to o))) (sym found) ∙ ap (λ r. come_to r run) h,
  (grows_refl run, stands x (unsigned_abs (y -ℤ x) + 1) run items (int_lt y x) (nat_lt most_items (unsigned_abs (y -ℤ x) + 1)) h),
)
ranged_gives xs ys x y run (Err fault.Memory) found h = tt
ranged_gives xs ys x y run (Err (fault.Code code)) found h =
    ap (λ o. and_then (come_to o run) (λ o. come_to (integers_to o))) (sym found) ∙ ap (λ r. come_to r run) h

pub ranged_judged : (xs ys : List Atom) (x y : ℤ) (run : Run) (r : Result (List Item) ValueFault) → Ok (Some (x, y)) ≡ operands xs ys → Judged (integers_to (Some (x, y))) r → Judged (ranged xs ys run) r
ranged_judged xs ys x y run (Ok items) found h = tt
ranged_judged xs ys x y run (Err (fault.Code code)) found h = tt
ranged_judged xs ys x y run (Err fault.Memory) found h = ap (λ o. is_ok (and_then (come_to o run) (λ o. come_to (integers_to o)))) (sym found) ∙ of (integers_to (Some (x, y))) h
  where
    of : (o : Result (List Item) Code) → IsOk o → is_ok (come_to o run) ≡ true
    of (Ok items) h = refl
    of (Err code) h = h
