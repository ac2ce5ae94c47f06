-- Keys of one type: each of a position can be compared with the first that is there exactly where any two can be compared.
use Rattle.std.proofs.Common.{◌≡◌, ℕ, zero, suc, ◌<◌, ◌≤◌, Bool, true, false, List, [], ◌∷◌, length, slice_index_or, Option, Some, None, refl, sym, ap, ap₂, ◌∙◌, arith}
use Rattle.std.specs.Prelude.{◌&&◌}
use Rattle.std.specs.List.{list_all}
use Rattle.values.specs.declared.atom.Atom.{Atom}
use Rattle.values.specs.declared.atom.Atom.TheVariants as atom
use Rattle.query_meaning.specs.Sequences.{Tuple, are_comparable, all_comparable}
use Rattle.sorted_tuples.specs.Keys.{key_at, column, has_order, or_first, is_of_one_type, Each, IsWide}
use Rattle.sorted_tuples.proofs.Ranking.{heads, both}

-- values of one type can be compared with the same ones
through : (a b : Atom) (c : Atom) → has_order (Some a) (Some b) ≡ true → has_order (Some a) (Some c) ≡ has_order (Some b) (Some c)
through (atom.Boolean x) (atom.Boolean y) (atom.Boolean z) e = refl
through (atom.Boolean x) (atom.Boolean y) (atom.Integer z) e = refl
through (atom.Boolean x) (atom.Boolean y) (atom.String z) e = refl
through (atom.Boolean x) (atom.Boolean y) (atom.Untyped z) e = refl
through (atom.Boolean x) (atom.Integer y) c e = cc
through (atom.Boolean x) (atom.String y) c e = cc
through (atom.Boolean x) (atom.Untyped y) c e = cc
through (atom.Integer x) (atom.Boolean y) c e = cc
through (atom.Integer x) (atom.Integer y) (atom.Boolean z) e = refl
through (atom.Integer x) (atom.Integer y) (atom.Integer z) e = refl
through (atom.Integer x) (atom.Integer y) (atom.String z) e = refl
through (atom.Integer x) (atom.Integer y) (atom.Untyped z) e = refl
through (atom.Integer x) (atom.String y) c e = cc
through (atom.Integer x) (atom.Untyped y) c e = cc
through (atom.String x) (atom.Boolean y) c e = cc
through (atom.String x) (atom.Integer y) c e = cc
through (atom.String x) (atom.String y) (atom.Boolean z) e = refl
through (atom.String x) (atom.String y) (atom.Integer z) e = refl
through (atom.String x) (atom.String y) (atom.String z) e = refl
through (atom.String x) (atom.String y) (atom.Untyped z) e = refl
through (atom.String x) (atom.Untyped y) c e = cc
through (atom.Untyped x) (atom.Boolean y) c e = cc
through (atom.Untyped x) (atom.Integer y) c e = cc
through (atom.Untyped x) (atom.String y) c e = cc
through (atom.Untyped x) (atom.Untyped y) c e = cc

and_true : (b : Bool) → b ≡ (b && true)
and_true true = refl
and_true false = refl

and_same : (b c : Bool) → b ≡ c → b ≡ (b && c)
and_same true c e = e
and_same false c e = refl

and_assoc : (b c d : Bool) → ((b && c) && d) ≡ (b && (c && d))
and_assoc true c d = refl
and_assoc false c d = refl

and_swap : (p q r s : Bool) → ((p && q) && (r && s)) ≡ ((p && r) && (q && s))
and_swap true true r s = by r s
  where
    by : (r s : Bool) → (r && s) ≡ ((true && r) && (true && s))
    by r s = refl
and_swap true false true s = refl
and_swap true false false s = refl
and_swap false q r s = refl

none_first : (b : Option Atom) → has_order None b ≡ true
none_first None = refl
none_first (Some b) = refl

none_last : (a : Option Atom) → has_order a None ≡ true
none_last None = refl
none_last (Some a) = refl

meets : (a b c : Option Atom) → has_order a b ≡ true → has_order (or_first a b) c ≡ (has_order a c && has_order b c)
meets None b None e = refl
meets None b (Some c) e = refl
meets (Some a) None None e = refl
meets (Some a) None (Some c) e = and_true (has_order (Some a) (Some c))
meets (Some a) (Some b) None e = refl
meets (Some a) (Some b) (Some c) e = and_same _ _ (through a b c e)

all_meet : (a b : Option Atom) (ks : List (Option Atom)) → has_order a b ≡ true → list_all (has_order (or_first a b)) ks ≡ (list_all (has_order a) ks && list_all (has_order b) ks)
all_meet a b [] e = refl
all_meet a b (k ∷ ks) e = ap₂ ◌&&◌ (meets a b k e) (all_meet a b ks e) ∙ and_swap (has_order a k) (has_order b k) (list_all (has_order a) ks) (list_all (has_order b) ks)

-- whether any two can be compared
abbrev pairs : List (Option Atom) → Bool
pairs [] = true
pairs (k ∷ ks) = list_all (has_order k) ks && pairs ks

one_type_is : (a : Option Atom) (ks : List (Option Atom)) → is_of_one_type a ks ≡ (list_all (has_order a) ks && pairs ks)
one_type_is a [] = refl
one_type_is a (k ∷ ks) = by (has_order a k) refl (one_type_is (or_first a k) ks)
  where
    by : (b : Bool) → has_order a k ≡ b → is_of_one_type (or_first a k) ks ≡ (list_all (has_order (or_first a k)) ks && pairs ks)
        → (b && is_of_one_type (or_first a k) ks) ≡ ((b && list_all (has_order a) ks) && (list_all (has_order k) ks && pairs ks))
    by true e same = same ∙ ap (λ c. c && pairs ks) (all_meet a k ks e) ∙ and_assoc (list_all (has_order a) ks) (list_all (has_order k) ks) (pairs ks)
    by false e same = refl

all_none : (ks : List (Option Atom)) → list_all (has_order None) ks ≡ true
all_none [] = refl
all_none (k ∷ ks) = ap₂ ◌&&◌ (none_first k) (all_none ks)

of_pairs : (ks : List (Option Atom)) → is_of_one_type None ks ≡ pairs ks
of_pairs ks = one_type_is None ks ∙ ap (λ b. b && pairs ks) (all_none ks)

-- the keys at one position, where all can be compared
at_each : (k : ℕ) (xs ys : List (Option Atom)) → are_comparable xs ys ≡ true → has_order (key_at k xs) (key_at k ys) ≡ true
at_each k [] ys e = none_first (key_at k ys)
at_each k (a ∷ xs) [] e = none_last (key_at k (a ∷ xs))
at_each zero (a ∷ xs) (b ∷ ys) e = (both _ _ (sym (heads a b xs ys) ∙ e)).0
at_each (suc k) (a ∷ xs) (b ∷ ys) e = at_each k xs ys (both _ _ (sym (heads a b xs ys) ∙ e)).1

below_each : (k : ℕ) (t : Tuple) (us : List Tuple) → list_all (λ (u : Tuple). are_comparable t.keys u.keys) us ≡ true → list_all (has_order (key_at k t.keys)) (column k us) ≡ true
below_each k t [] e = refl
below_each k t (u ∷ us) e = let p = both _ _ e in ap₂ ◌&&◌ (at_each k t.keys u.keys p.0) (below_each k t us p.1)

column_pairs : (k : ℕ) (ts : List Tuple) → all_comparable ts ≡ true → pairs (column k ts) ≡ true
column_pairs k [] e = refl
column_pairs k (t ∷ ts) e = let p = both _ _ e in ap₂ ◌&&◌ (below_each k t ts p.0) (column_pairs k ts p.1)

-- and back
from_each : (xs ys : List (Option Atom)) → ((k : ℕ) → k < length xs → has_order (key_at k xs) (key_at k ys) ≡ true) → are_comparable xs ys ≡ true
from_each [] ys h = refl
from_each (a ∷ xs) [] h = refl
from_each (a ∷ xs) (b ∷ ys) h = heads a b xs ys ∙ ap₂ ◌&&◌ (h 0 (omega arith)) (from_each xs ys (λ k below. h (suc k) (omega (arith, below))))

from_below : (n : ℕ) (t : Tuple) (us : List Tuple) → IsWide n t → ((k : ℕ) → k < n → list_all (has_order (key_at k t.keys)) (column k us) ≡ true) → list_all (λ (u : Tuple). are_comparable t.keys u.keys) us ≡ true
from_below n t [] w h = refl
from_below n t (u ∷ us) w h =
    ap₂ ◌&&◌ (from_each t.keys u.keys (λ k below. (both _ _ (h k (omega (arith, below, w)))).0)) (from_below n t us w (λ k below. (both _ _ (h k below)).1))

from_columns : (n : ℕ) (ts : List Tuple) → Each (IsWide n) ts → ((k : ℕ) → k < n → pairs (column k ts) ≡ true) → all_comparable ts ≡ true
from_columns n [] w h = refl
from_columns n (t ∷ ts) w h =
    ap₂ ◌&&◌ (from_below n t ts w.0 (λ k below. (both _ _ (h k below)).0)) (from_columns n ts w.1 (λ k below. (both _ _ (h k below)).1))

pub all_of_one_type : (n : ℕ) (ts : List Tuple) → Each (IsWide n) ts → ((k : ℕ) → k < n → is_of_one_type None (column k ts) ≡ true) → all_comparable ts ≡ true
all_of_one_type n ts w h = from_columns n ts w (λ k below. sym (of_pairs (column k ts)) ∙ h k below)

pub not_of_one_type : (k : ℕ) (ts : List Tuple) → is_of_one_type None (column k ts) ≡ false → all_comparable ts ≡ false
not_of_one_type k ts e = by (all_comparable ts) refl
  where
    unlike : (b : Bool) → b ≡ true → b ≡ false → ⊥
    unlike b p q = cc (p, q)

    by : (b : Bool) → all_comparable ts ≡ b → b ≡ false
    by true same = absurd (unlike _ (of_pairs (column k ts) ∙ column_pairs k ts same) e)
    by false same = refl

-- the key at a position
pub key_there : (xs : List (Option Atom)) (k : ℕ) (a : Option Atom) → k < length xs → a ≡ slice_index_or xs k a → a ≡ key_at k xs
key_there [] k a below e = absurd (omega (arith, below))
key_there (x ∷ xs) zero a below e = e
key_there (x ∷ xs) (suc k) a below e = key_there xs k a (omega (arith, below)) e

pub key_past : (xs : List (Option Atom)) (k : ℕ) → length xs ≤ k → None ≡ key_at k xs
key_past [] k past = refl
key_past (x ∷ xs) zero past = absurd (omega (arith, past))
key_past (x ∷ xs) (suc k) past = key_past xs k (omega (arith, past))
