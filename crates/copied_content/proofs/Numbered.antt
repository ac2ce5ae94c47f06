-- The identity that new nodes take first.
use Rattle.std.specs.Prelude.{nat_le}
use Rattle.std.proofs.Common.{◌≡◌, ℕ, ◌+◌, ◌≤◌, ◌^◌, Bool, true, false, if◌then◌else◌, Result, Ok, Err, ap, sym, arith}
use Rattle.fault_codes.specs.declared.code.Code.{Code}
use Rattle.fault_codes.specs.declared.code.Code.TheVariants.{PXQ0003}
use Rattle.query_meaning.specs.Running.{Run, new_nodes, most_nodes}

abbrev with_none : Run → Run
with_none old = record old { shelf = record old.shelf { own = record old.shelf.own { next = old.shelf.own.next + 0 } } }

abbrev Comes : Result (ℕ × Run) Code → ℕ × Run → Type 0
Comes r a = r ≡ Ok a

same_value : (a b : ℕ × Run) → Comes (Ok a) b → a ≡ b
same_value a b e = cc

no_value : (code : Code) (a : ℕ × Run) → Comes (Err code) a → ⊥
no_value code a e = cc

-- where no node is made, it is the next one
pub next_told : (i : ℕ) (old mid : Run) → new_nodes 0 old ≡ Ok (i, mid) → mid.shelf.own.next ≤ 2 ^ 62 → (i ≡ old.shelf.own.next) × (i ≤ 2 ^ 62)
next_told i old mid e bound = of (nat_le (old.shelf.own.next + 0) (old.shelf.lent.next + most_nodes)) e
  where
    of : (b : Bool) → Comes (if b then Ok (old.shelf.own.next, with_none old) else Err PXQ0003) (i, mid) → (i ≡ old.shelf.own.next) × (i ≤ 2 ^ 62)
    of true e =
        let same = same_value (old.shelf.own.next, with_none old) (i, mid) e in
        let first : old.shelf.own.next ≡ i = ap (λ (q : ℕ × Run). q.0) same in
        let next : old.shelf.own.next + 0 ≡ mid.shelf.own.next = ap (λ (q : ℕ × Run). q.1.shelf.own.next) same in
        (sym first, omega (arith, first, next, bound))
    of false e = absurd (no_value PXQ0003 (i, mid) e)
