-- Neither the order of primitives nor leaving some out makes a compatible list incompatible.
use Rattle.std.proofs.Common.{◌≡◌, ℕ, Bool, true, false, ◌||◌, ◌==◌, List, [], ◌∷◌, ◌++◌, Option, Some, None, filter_map, if◌then◌else◌, refl}
use Rattle.std.specs.List.{cons_option}
use Rattle.fault_codes.specs.declared.code.Code.{Code}
use Rattle.fault_codes.specs.declared.code.Code.TheVariants.{XUDY0015, XUDY0016, XUDY0017}
use Rattle.pending.specs.Compatible.{is_among, has_repeat, has_two, renamed, replaced, value_replaced, content_replaced, conflict}
use Rattle.pending.specs.Primitives.{PrimitiveTerm}
use Rattle.pending.proofs.Repeats.{turned, or-swapped}

-- the same numbers are among both, and both or neither have one twice
abbrev Same : List ℕ → List ℕ → Type 0
Same is js = (has_repeat is ≡ has_repeat js) × ((k : ℕ) → is_among is k ≡ is_among js k)

or-turned : (a b c : Bool) → (a || (b || c)) ≡ (b || (a || c))
or-turned true true c = refl
or-turned true false c = refl
or-turned false b c = refl

same-cons : (o : Option ℕ) (is js : List ℕ) → Same is js → Same (cons_option o is) (cons_option o js)
same-cons None is js h = h
same-cons (Some i) is js h = (λ x. h.1 i x || h.0 x, λ k x. (k == i) || h.1 k x)

same-swap : (o u : Option ℕ) (is : List ℕ) → Same (cons_option o (cons_option u is)) (cons_option u (cons_option o is))
same-swap None None is = (refl, λ k. refl)
same-swap None (Some j) is = (refl, λ k. refl)
same-swap (Some i) None is = (refl, λ k. refl)
same-swap (Some i) (Some j) is = (rw (turned i j) (or-swapped (j == i) (is_among is i) (is_among is j) (has_repeat is)), λ k. or-turned (k == i) (k == j) (is_among is k))

exchanged : (target : PrimitiveTerm → Option ℕ) (ps : List PrimitiveTerm) (p q : PrimitiveTerm) (qs : List PrimitiveTerm) → Same (filter_map target (ps ++ p ∷ q ∷ qs)) (filter_map target (ps ++ q ∷ p ∷ qs))
exchanged target [] p q qs = same-swap (target p) (target q) (filter_map target qs)
exchanged target (x ∷ ps) p q qs = same-cons (target x) (filter_map target (ps ++ p ∷ q ∷ qs)) (filter_map target (ps ++ q ∷ p ∷ qs)) (exchanged target ps p q qs)

-- neighbours change places, and the code stays
pub same-code : (ps : List PrimitiveTerm) (p q : PrimitiveTerm) (qs : List PrimitiveTerm) → conflict (ps ++ p ∷ q ∷ qs) ≡ conflict (ps ++ q ∷ p ∷ qs)
same-code ps p q qs = rw ((exchanged renamed ps p q qs).0) (rw ((exchanged replaced ps p q qs).0) (rw ((exchanged value_replaced ps p q qs).0) (rw ((exchanged content_replaced ps p q qs).0) refl)))

-- what is not among the first is not among the second, and where the first has none twice, nor has the second
abbrev Fewer : List ℕ → List ℕ → Type 0
Fewer is js = ((k : ℕ) → is_among is k ≡ false → is_among js k ≡ false) × (has_repeat is ≡ false → has_repeat js ≡ false)

neither : (a b : Bool) → (a || b) ≡ false → (a ≡ false) × (b ≡ false)
neither false b e = (refl, e)
neither true b e = cc

nor : (a b : Bool) → a ≡ false → b ≡ false → (a || b) ≡ false
nor a b e f = rw e f

fewer-cons : (o : Option ℕ) (is js : List ℕ) → Fewer is js → Fewer (cons_option o is) (cons_option o js)
fewer-cons None is js h = h
fewer-cons (Some i) is js h = (
  λ k e. nor (k == i) (is_among js k) ((neither (k == i) (is_among is k) e).0) (h.0 k ((neither (k == i) (is_among is k) e).1)),
  λ e. nor (is_among js i) (has_repeat js) (h.0 i ((neither (is_among is i) (has_repeat is) e).0)) (h.1 ((neither (is_among is i) (has_repeat is) e).1)),
)

fewer-one : (o : Option ℕ) (is : List ℕ) → Fewer (cons_option o is) is
fewer-one None is = (λ k e. e, λ e. e)
fewer-one (Some i) is = (λ k e. (neither (k == i) (is_among is k) e).1, λ e. (neither (is_among is i) (has_repeat is) e).1)

left-out : (target : PrimitiveTerm → Option ℕ) (ps : List PrimitiveTerm) (p : PrimitiveTerm) (qs : List PrimitiveTerm) → Fewer (filter_map target (ps ++ p ∷ qs)) (filter_map target (ps ++ qs))
left-out target [] p qs = fewer-one (target p) (filter_map target qs)
left-out target (x ∷ ps) p qs = fewer-cons (target x) (filter_map target (ps ++ p ∷ qs)) (filter_map target (ps ++ qs)) (left-out target ps p qs)

-- the code by which of the rules are broken
abbrev code_by_rules : (a b c d : Bool) → Option Code
code_by_rules a b c d = if a then Some XUDY0015 else (if b then Some XUDY0016 else (if c || d then Some XUDY0017 else None))

none-broken : (a b c d : Bool) → code_by_rules a b c d ≡ None → (a ≡ false) × ((b ≡ false) × ((c ≡ false) × (d ≡ false)))
none-broken true b c d e = cc
none-broken false true c d e = cc
none-broken false false true d e = cc
none-broken false false false true e = cc
none-broken false false false false e = (refl, (refl, (refl, refl)))

-- one is left out, and the list stays compatible
pub still-compatible : (ps : List PrimitiveTerm) (p : PrimitiveTerm) (qs : List PrimitiveTerm) → conflict (ps ++ p ∷ qs) ≡ None → conflict (ps ++ qs) ≡ None
still-compatible ps p qs e =
    rw ((left-out renamed ps p qs).1 rules.0)
    (rw ((left-out replaced ps p qs).1 rules.1.0)
    (rw ((left-out value_replaced ps p qs).1 rules.1.1.0)
    (rw ((left-out content_replaced ps p qs).1 rules.1.1.1) refl)))
  where
    all : List PrimitiveTerm
    all = ps ++ p ∷ qs

    rules : (has_two renamed all ≡ false) × ((has_two replaced all ≡ false) × ((has_two value_replaced all ≡ false) × (has_two content_replaced all ≡ false)))
    rules = none-broken (has_two renamed all) (has_two replaced all) (has_two value_replaced all) (has_two content_replaced all) e
