-- The order of keys in the definition beside one of all keys, and keys of one type.
use Rattle.std.proofs.Common.{◌≡◌, ℕ, zero, suc, ◌+◌, ◌<◌, ℤ, pos, Bool, true, false, cond, List, [], ◌∷◌, length, drop, map, Option, Some, None, Ok, Err, refl, sym, ap, ap₂, ◌∙◌, arith}
use Rattle.std.specs.Prelude.{◌&&◌}
use Rattle.std.specs.Cmp.{IsTotalOrder, IsStrictWeakOrder}
use Rattle.std.specs.Cmp.Lexicographic.{slice_cmp}
use Rattle.std.specs.List.{list_all}
use Rattle.std.specs.Ordering.{nat_cmp, int_cmp, bool_cmp, ordering_reverse, ordering_then, is_eq, is_lt, on, then_cmp, flip_args}
use Rattle.std.specs.Str.{chars}
use Rattle.std.specs.declared.cmp.Ordering.{Ordering}
use Rattle.std.specs.declared.cmp.Ordering.TheVariants.{Less, Equal, Greater}
use Rattle.std.proofs.lemmas.Cmp.{nat_cmp_total, int_cmp_total, nat_list_cmp_total, on_total, then_total, back_total}
use Rattle.std.proofs.lemmas.List.Sorted.{ranks_by}
use Rattle.values.specs.declared.atom.Atom.{Atom}
use Rattle.values.specs.declared.atom.Atom.TheVariants as atom
use Rattle.fault_codes.specs.declared.code.Code.TheVariants.{XPTY0004}
use Rattle.values.specs.Comparisons.{string_cmp}
use Rattle.query_grammar.specs.declared.ast.SortKey.{SortKey}
use Rattle.query_meaning.specs.Sequences.{Meaning, Tuple, key_cmp, keys_cmp, directed, are_comparable, all_comparable, sorted, in_sorted_order}
use Rattle.sorted_tuples.specs.Keys.{key_at, rank, ranked_cmp, turned, ranked, comes_first, has_order, Each, IsWide, inserted_each}
use Rattle.sorted_tuples.specs.Keys.{sort_key_of}
use Rattle.sorted_tuples.proofs.Sorting.{AnswerAlike, each_alike, tuples_inserted}

-- what of a key is compared: its type, its characters, its number
abbrev text_of : Option Atom → List ℕ
text_of None = []
text_of (Some (atom.Boolean b)) = []
text_of (Some (atom.Integer z)) = []
text_of (Some (atom.String t)) = chars t
text_of (Some (atom.Untyped t)) = chars t

abbrev number_of : Option Atom → ℤ
number_of None = pos 0
number_of (Some (atom.Boolean b)) = pos (cond b 1 0)
number_of (Some (atom.Integer z)) = z
number_of (Some (atom.String t)) = pos 0
number_of (Some (atom.Untyped t)) = pos 0

abbrev by_parts : Option Atom → Option Atom → Ordering
by_parts = then_cmp (on rank nat_cmp) (then_cmp (on text_of (slice_cmp nat_cmp)) (on number_of int_cmp))

pub then_equal : (o : Ordering) → o ≡ ordering_then o Equal
then_equal Less = refl
then_equal Equal = refl
then_equal Greater = refl

pub is_equal : (o : Ordering) → is_eq o ≡ true → o ≡ Equal
is_equal Less e = cc
is_equal Equal e = refl
is_equal Greater e = cc

bools : (a b : Bool) → bool_cmp a b ≡ int_cmp (pos (cond a 1 0)) (pos (cond b 1 0))
bools true true = refl
bools true false = refl
bools false true = refl
bools false false = refl

is_by_parts : (a b : Option Atom) → ranked_cmp a b ≡ by_parts a b
is_by_parts None None = refl
is_by_parts None (Some (atom.Boolean y)) = refl
is_by_parts None (Some (atom.Integer y)) = refl
is_by_parts None (Some (atom.String y)) = refl
is_by_parts None (Some (atom.Untyped y)) = refl
is_by_parts (Some (atom.Boolean x)) None = refl
is_by_parts (Some (atom.Boolean x)) (Some (atom.Boolean y)) = bools x y
is_by_parts (Some (atom.Boolean x)) (Some (atom.Integer y)) = refl
is_by_parts (Some (atom.Boolean x)) (Some (atom.String y)) = refl
is_by_parts (Some (atom.Boolean x)) (Some (atom.Untyped y)) = refl
is_by_parts (Some (atom.Integer x)) None = refl
is_by_parts (Some (atom.Integer x)) (Some (atom.Boolean y)) = refl
is_by_parts (Some (atom.Integer x)) (Some (atom.Integer y)) = refl
is_by_parts (Some (atom.Integer x)) (Some (atom.String y)) = refl
is_by_parts (Some (atom.Integer x)) (Some (atom.Untyped y)) = refl
is_by_parts (Some (atom.String x)) None = refl
is_by_parts (Some (atom.String x)) (Some (atom.Boolean y)) = refl
is_by_parts (Some (atom.String x)) (Some (atom.Integer y)) = refl
is_by_parts (Some (atom.String x)) (Some (atom.String y)) = then_equal (string_cmp x y)
is_by_parts (Some (atom.String x)) (Some (atom.Untyped y)) = refl
is_by_parts (Some (atom.Untyped x)) None = refl
is_by_parts (Some (atom.Untyped x)) (Some (atom.Boolean y)) = refl
is_by_parts (Some (atom.Untyped x)) (Some (atom.Integer y)) = refl
is_by_parts (Some (atom.Untyped x)) (Some (atom.String y)) = refl
is_by_parts (Some (atom.Untyped x)) (Some (atom.Untyped y)) = then_equal (string_cmp x y)

same_total : {K : Type 0} (R S : K → K → Ordering) → ((x y : K) → R x y ≡ S x y) → IsTotalOrder S → IsTotalOrder R
same_total R S same o = record {
  antisymm = λ x y. same x y ∙ o.antisymm x y ∙ ap ordering_reverse (sym (same y x));
  trans = λ x y z e f. same x z ∙ o.trans x y z (sym (same x y) ∙ e) (sym (same y z) ∙ f);
  congr = λ x y z e. same x z ∙ o.congr x y z (sym (same x y) ∙ e) ∙ sym (same y z);
}

pub ranked_cmp_total : IsTotalOrder ranked_cmp
ranked_cmp_total =
    same_total ranked_cmp by_parts is_by_parts (then_total (on_total rank nat_cmp_total) (then_total (on_total text_of nat_list_cmp_total) (on_total number_of int_cmp_total)))

turned_total : {K : Type 0} (b : Bool) (R : K → K → Ordering) → IsTotalOrder R → IsTotalOrder (λ x y. turned b (R x y))
turned_total false R o = o
turned_total true R o = same_total (λ x y. ordering_reverse (R x y)) (flip_args R) (λ x y. sym (o.antisymm y x)) (back_total o)

ranked_total : {A : Type 0} (keys : List (SortKey A)) (k : ℕ) → IsTotalOrder (ranked k keys)
ranked_total [] k = record { antisymm = λ x y. refl; trans = λ x y z e f. e; congr = λ x y z e. refl }
ranked_total (key ∷ keys) k =
    then_total (turned_total key.is_descending (on (key_at k) ranked_cmp) (on_total (key_at k) ranked_cmp_total)) (ranked_total keys (suc k))

pub comes_first_weak : {A : Type 0} (keys : List (SortKey A)) → IsStrictWeakOrder (comes_first keys)
comes_first_weak keys = ranks_by (ranked_total keys 0) (λ (t : Tuple). t.keys)

-- it is that of the definition where two keys can be compared
directed_is : (key : SortKey Meaning) (a b : Option Atom) → has_order b a ≡ true → directed key (key_cmp a b) ≡ turned key.is_descending (ranked_cmp a b)
directed_is key None None e = refl
directed_is key None (Some (atom.Boolean y)) e = refl
directed_is key None (Some (atom.Integer y)) e = refl
directed_is key None (Some (atom.String y)) e = refl
directed_is key None (Some (atom.Untyped y)) e = refl
directed_is key (Some (atom.Boolean x)) None e = refl
directed_is key (Some (atom.Boolean x)) (Some (atom.Boolean y)) e = refl
directed_is key (Some (atom.Boolean x)) (Some (atom.Integer y)) e = cc
directed_is key (Some (atom.Boolean x)) (Some (atom.String y)) e = cc
directed_is key (Some (atom.Boolean x)) (Some (atom.Untyped y)) e = cc
directed_is key (Some (atom.Integer x)) None e = refl
directed_is key (Some (atom.Integer x)) (Some (atom.Boolean y)) e = cc
directed_is key (Some (atom.Integer x)) (Some (atom.Integer y)) e = refl
directed_is key (Some (atom.Integer x)) (Some (atom.String y)) e = cc
directed_is key (Some (atom.Integer x)) (Some (atom.Untyped y)) e = cc
directed_is key (Some (atom.String x)) None e = refl
directed_is key (Some (atom.String x)) (Some (atom.Boolean y)) e = cc
directed_is key (Some (atom.String x)) (Some (atom.Integer y)) e = cc
directed_is key (Some (atom.String x)) (Some (atom.String y)) e = refl
directed_is key (Some (atom.String x)) (Some (atom.Untyped y)) e = cc
directed_is key (Some (atom.Untyped x)) None e = refl
directed_is key (Some (atom.Untyped x)) (Some (atom.Boolean y)) e = cc
directed_is key (Some (atom.Untyped x)) (Some (atom.Integer y)) e = cc
directed_is key (Some (atom.Untyped x)) (Some (atom.String y)) e = cc
directed_is key (Some (atom.Untyped x)) (Some (atom.Untyped y)) e = cc

pub heads : (a b : Option Atom) (more others : List (Option Atom)) → are_comparable (a ∷ more) (b ∷ others) ≡ (has_order a b && are_comparable more others)
heads None None more others = refl
heads None (Some b) more others = refl
heads (Some a) None more others = refl
heads (Some (atom.Boolean x)) (Some (atom.Boolean y)) more others = refl
heads (Some (atom.Boolean x)) (Some (atom.Integer y)) more others = refl
heads (Some (atom.Boolean x)) (Some (atom.String y)) more others = refl
heads (Some (atom.Boolean x)) (Some (atom.Untyped y)) more others = refl
heads (Some (atom.Integer x)) (Some (atom.Boolean y)) more others = refl
heads (Some (atom.Integer x)) (Some (atom.Integer y)) more others = refl
heads (Some (atom.Integer x)) (Some (atom.String y)) more others = refl
heads (Some (atom.Integer x)) (Some (atom.Untyped y)) more others = refl
heads (Some (atom.String x)) (Some (atom.Boolean y)) more others = refl
heads (Some (atom.String x)) (Some (atom.Integer y)) more others = refl
heads (Some (atom.String x)) (Some (atom.String y)) more others = refl
heads (Some (atom.String x)) (Some (atom.Untyped y)) more others = refl
heads (Some (atom.Untyped x)) (Some (atom.Boolean y)) more others = refl
heads (Some (atom.Untyped x)) (Some (atom.Integer y)) more others = refl
heads (Some (atom.Untyped x)) (Some (atom.String y)) more others = refl
heads (Some (atom.Untyped x)) (Some (atom.Untyped y)) more others = refl

pub both : (b c : Bool) → (b && c) ≡ true → (b ≡ true) × (c ≡ true)
both true c e = (refl, e)
both false c e = cc

nothing_ranked : {A : Type 0} (keys : List (SortKey A)) (k : ℕ) → ranked k keys [] [] ≡ Equal
nothing_ranked [] k = refl
nothing_ranked (key ∷ keys) k = by key.is_descending ∙ nothing_ranked keys (suc k)
  where
    by : (b : Bool) → ordering_then (turned b Equal) (ranked (suc k) keys [] []) ≡ ranked (suc k) keys [] []
    by true = refl
    by false = refl

ranked_rest : {A : Type 0} (keys : List (SortKey A)) (k : ℕ) (a b : Option Atom) (more others : List (Option Atom)) → ranked (suc k) keys (a ∷ more) (b ∷ others) ≡ ranked k keys more others
ranked_rest [] k a b more others = refl
ranked_rest (key ∷ keys) k a b more others =
    ap (ordering_then (turned key.is_descending (ranked_cmp (key_at k more) (key_at k others)))) (ranked_rest keys (suc k) a b more others)

-- where the keys at one position do not differ, those after it decide
ranked_next : {A : Type 0} (keys : List (SortKey A)) (i k : ℕ) (xs ys : List (Option Atom)) → i < length keys → ranked_cmp (key_at k xs) (key_at k ys) ≡ Equal
    → ranked k (drop i keys) xs ys ≡ ranked (suc k) (drop (suc i) keys) xs ys
ranked_next [] i k xs ys below e = absurd (omega (arith, below))
ranked_next (key ∷ keys) zero k xs ys below e = ap (λ o. ordering_then (turned key.is_descending o) (ranked (suc k) keys xs ys)) e ∙ by key.is_descending
  where
    by : (b : Bool) → ordering_then (turned b Equal) (ranked (suc k) keys xs ys) ≡ ranked (suc k) keys xs ys
    by true = refl
    by false = refl
ranked_next (key ∷ keys) (suc i) k xs ys below e = ranked_next keys i k xs ys (omega (arith, below)) e

pub ranked_after : {A : Type 0} (keys : List (SortKey A)) (k : ℕ) (xs ys : List (Option Atom)) → k < length keys → ranked_cmp (key_at k xs) (key_at k ys) ≡ Equal
    → ranked k (drop k keys) xs ys ≡ ranked (k + 1) (drop (k + 1) keys) xs ys
ranked_after keys k xs ys below e =
    let next : suc k ≡ k + 1 = omega arith in
    ranked_next keys k k xs ys below e ∙ ap (λ n. ranked n (drop n keys) xs ys) next

keys_compared : (keys : List (SortKey Meaning)) (xs ys : List (Option Atom)) → length xs ≡ length ys → are_comparable ys xs ≡ true → keys_cmp keys xs ys ≡ ranked 0 keys xs ys
keys_compared [] xs ys l e = refl
keys_compared (key ∷ keys) [] [] l e = sym (nothing_ranked (key ∷ keys) 0)
keys_compared (key ∷ keys) [] (b ∷ ys) l e = absurd (omega (arith, l))
keys_compared (key ∷ keys) (a ∷ xs) [] l e = absurd (omega (arith, l))
keys_compared (key ∷ keys) (a ∷ xs) (b ∷ ys) l e =
    let p = both _ _ (sym (heads b a ys xs) ∙ e) in
    ap₂ ordering_then (directed_is key a b p.0) (keys_compared keys xs ys (omega (arith, l)) p.1 ∙ sym (ranked_rest keys 0 a b xs ys))

each_compared : (keys : List (SortKey Meaning)) (n : ℕ) (t : Tuple) (us : List Tuple) → IsWide n t → Each (IsWide n) us → list_all (λ (u : Tuple). are_comparable t.keys u.keys) us ≡ true
    → Each (λ (u : Tuple). is_lt (keys_cmp keys u.keys t.keys) ≡ comes_first keys u t) us
each_compared keys n t [] w v e = tt
each_compared keys n t (u ∷ us) w v e =
    let p = both _ _ e in (ap is_lt (keys_compared keys u.keys t.keys (v.0 ∙ sym w) p.0), each_compared keys n t us w v.1 p.1)

answer_alike : (keys : List (SortKey Meaning)) (n : ℕ) (ts : List Tuple) → Each (IsWide n) ts → all_comparable ts ≡ true → AnswerAlike (λ u t. is_lt (keys_cmp keys u.keys t.keys)) (comes_first keys) ts
answer_alike keys n [] w e = tt
answer_alike keys n (t ∷ ts) w e = let p = both _ _ e in (each_compared keys n t ts w.0 w.1 p.0, answer_alike keys n ts w.1 p.1)

ranked_mapped : {A B : Type 0} (f : A → B) (keys : List (SortKey A)) (k : ℕ) (xs ys : List (Option Atom)) → ranked k (map (sort_key_of f) keys) xs ys ≡ ranked k keys xs ys
ranked_mapped f [] k xs ys = refl
ranked_mapped f (key ∷ keys) k xs ys = ap (ordering_then (turned key.is_descending (ranked_cmp (key_at k xs) (key_at k ys)))) (ranked_mapped f keys (suc k) xs ys)

mapped_alike : {A B : Type 0} (f : A → B) (keys : List (SortKey A)) (ts : List Tuple) → AnswerAlike (comes_first (map (sort_key_of f) keys)) (comes_first keys) ts
mapped_alike f keys [] = tt
mapped_alike f keys (t ∷ ts) = (each ts, mapped_alike f keys ts)
  where
    each : (us : List Tuple) → Each (λ (u : Tuple). comes_first (map (sort_key_of f) keys) u t ≡ comes_first keys u t) us
    each [] = tt
    each (u ∷ us) = (ap is_lt (ranked_mapped f keys 0 u.keys t.keys), each us)

-- so the definition's order of tuples is what a stable sort gives
pub sorted_is : {A : Type 0} (f : A → Meaning) (keys : List (SortKey A)) (n : ℕ) (ts : List Tuple) → Each (IsWide n) ts → all_comparable ts ≡ true
    → sorted (map (sort_key_of f) keys) ts ≡ inserted_each (comes_first keys) ts
sorted_is f keys n ts w e =
    tuples_inserted (map (sort_key_of f) keys) ts
    ∙ each_alike _ (comes_first (map (sort_key_of f) keys)) ts (answer_alike (map (sort_key_of f) keys) n ts w e)
    ∙ each_alike _ (comes_first keys) ts (mapped_alike f keys ts)

pub sorted_of : {A : Type 0} (f : A → Meaning) (keys : List (SortKey A)) (ts us : List Tuple) → Each (IsWide (length keys)) ts → all_comparable ts ≡ true → us ≡ inserted_each (comes_first keys) ts
    → in_sorted_order (map (sort_key_of f) keys) ts ≡ Ok us
sorted_of f keys ts us w e is =
    ap (λ b. cond b (Ok (sorted (map (sort_key_of f) keys) ts)) (Err XPTY0004)) e ∙ ap (λ vs. Ok vs) (sorted_is f keys (length keys) ts w e ∙ sym is)
