-- Conjunctions that are true.
use Rattle.std.proofs.Common.{◌≡◌, Bool, true, false, not, ◌&&◌, refl}

pub and-left : (a b : Bool) → (a && b) ≡ true → a ≡ true
and-left true b e = refl
and-left false b e = e

pub and-right : (a b : Bool) → (a && b) ≡ true → b ≡ true
and-right true b e = e
and-right false b e = cc

pub and-both : (a b : Bool) → a ≡ true → b ≡ true → (a && b) ≡ true
and-both a b e f = rw e f

pub not-true : (a : Bool) → not a ≡ true → a ≡ false
not-true true e = cc
not-true false e = refl

-- where the one holds, the other doesn't
pub excluded : (a b : Bool) → not (a && b) ≡ true → a ≡ true → b ≡ false
excluded true b e h = not-true b e
excluded false b e h = cc

pub never : (a : Bool) → not (a && false) ≡ true
never true = refl
never false = refl

pub all-four : (a b c d : Bool) → a ≡ true → b ≡ true → c ≡ true → d ≡ true → (a && b && c && d) ≡ true
all-four a b c d e f g h = rw e (rw f (rw g h))

pub record Four (a b c d : Bool) : Type 0 where
  pub first : a ≡ true
  pub second : b ≡ true
  pub third : c ≡ true
  pub fourth : d ≡ true

pub four : (a b c d : Bool) → (a && b && c && d) ≡ true → Four a b c d
four true true true true e = record { first = refl; second = refl; third = refl; fourth = refl }
four true true true false e = cc
four true true false d e = cc
four true false c d e = cc
four false b c d e = cc
