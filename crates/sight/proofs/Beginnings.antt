-- Beginnings of one list.
use Rattle.std.proofs.lemmas.Bool.Decides.{nat_tests}
use lib.Dec.{leb}
use Rattle.std.specs.Prelude.{MatchBool}
use Rattle.std.proofs.Common.{◌≡◌, ◌≤◌, ◌<◌, Bool, true, false, List, [], ◌∷◌, ◌++◌, length, refl, ap, sym, ◌∙◌, arith, append-nil, append_assoc}
use mathlib.Core.List.{IsPrefix}

-- of two beginnings of one list the shorter begins the longer
pub begins_longer : {A : Type 0} (all one other : List A) → IsPrefix one all → IsPrefix other all → length one ≤ length other → IsPrefix one other
begins_longer all [] other p q le = (other, refl)
begins_longer all (x ∷ one) [] p q le = absurd (omega arith)
begins_longer [] (x ∷ one) (y ∷ other) p q le = absurd (cc (p.1))
begins_longer (z ∷ all) (x ∷ one) (y ∷ other) p q le =
    let more = begins_longer all one other (p.0, cc (p.1)) (q.0, cc (q.1)) (omega arith) in
    (more.0, cc (p.1, q.1, more.1))

-- two beginnings of one list that are equally long are one
pub same_length : {A : Type 0} (all one other : List A) → IsPrefix one all → IsPrefix other all → length one ≡ length other → one ≡ other
same_length all [] [] p q e = refl
same_length all [] (y ∷ other) p q e = absurd (omega (arith, e))
same_length all (x ∷ one) [] p q e = absurd (omega (arith, e))
same_length [] (x ∷ one) (y ∷ other) p q e = absurd (cc (p.1))
same_length (z ∷ all) (x ∷ one) (y ∷ other) p q e =
    let more = same_length all one other (p.0, cc (p.1)) (q.0, cc (q.1)) (omega (arith, e)) in
    cc (p.1, q.1, more)

pub begins_itself : {A : Type 0} (xs : List A) → IsPrefix xs xs
begins_itself xs = ([], append-nil xs)

pub begins_through : {A : Type 0} (one other all : List A) → IsPrefix one other → IsPrefix other all → IsPrefix one all
begins_through one other all p q = (p.0 ++ q.0, sym (append_assoc one p.0 q.0) ∙ ap (λ w. w ++ q.0) p.1 ∙ q.1)

-- one of two beginnings of one list begins the other
pub compared : {A : Type 0} (all one other : List A) → IsPrefix one all → IsPrefix other all → (b : Bool) → leb (length one) (length other) ≡ b → MatchBool b (IsPrefix one other) (IsPrefix other one × (length other < length one))
compared all one other p q true is = begins_longer all one other p q (grind (arith, nat_tests))
compared all one other p q false is = let less : length other < length one = grind (arith, nat_tests) in (begins_longer all other one q p (omega arith), less)
