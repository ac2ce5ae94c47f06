-- Tuples that tie by their keys have one abbreviation, so that a stable sort by abbreviations leaves them in their order.
use Rattle.std.proofs.Common.{◌≡◌, ℕ, Bool, true, false, List, [], ◌∷◌, Option, Some, None, refl, ap, ◌∙◌}
use Rattle.std.specs.Prelude.{◌-◌, ◌^◌, not, ◌&&◌}
use Rattle.std.specs.List.Sorted.{IsStableByKey, ties}
use Rattle.std.specs.Ordering.{nat_cmp, ordering_reverse, ordering_then, is_lt}
use Rattle.std.specs.Str.{chars}
use Rattle.std.specs.declared.cmp.Ordering.{Ordering}
use Rattle.std.specs.declared.cmp.Ordering.TheVariants.{Less, Equal, Greater}
use Rattle.std.proofs.lemmas.Cmp.{nat_cmp_total}
use Rattle.std.proofs.lemmas.List.Sorted.{ranks_by}
use Rattle.std.proofs.lemmas.Map.Lookups.{exact_signed, exact_bytes}
use Rattle.values.specs.declared.atom.Atom.{Atom}
use Rattle.values.specs.declared.atom.Atom.TheVariants as atom
use Rattle.query_grammar.specs.declared.ast.SortKey.{SortKey}
use Rattle.query_meaning.specs.Sequences.{Tuple}
use Rattle.sorted_tuples.specs.Abbreviations.{abbreviation, directed, first_abbreviation, number_abbreviation, text_abbreviation}
use Rattle.sorted_tuples.specs.Keys.{key_at, ranked_cmp, turned, comes_first, inserted_each}
use Rattle.sorted_tuples.proofs.Ranking.{comes_first_weak, ranked_cmp_total}
use Rattle.sorted_tuples.proofs.Sorting.{inserted_after, tied_itself}

-- keys of one place in the order have one abbreviation
same_abbreviation : (n : ℕ) (a b : Option Atom) → ranked_cmp a b ≡ Equal → abbreviation n a ≡ abbreviation n b
same_abbreviation n None None e = refl
same_abbreviation n None (Some (atom.Boolean y)) e = cc
same_abbreviation n None (Some (atom.Integer y)) e = cc
same_abbreviation n None (Some (atom.String y)) e = cc
same_abbreviation n None (Some (atom.Untyped y)) e = cc
same_abbreviation n (Some (atom.Boolean x)) None e = cc
same_abbreviation n (Some (atom.Boolean true)) (Some (atom.Boolean true)) e = refl
same_abbreviation n (Some (atom.Boolean true)) (Some (atom.Boolean false)) e = cc
same_abbreviation n (Some (atom.Boolean false)) (Some (atom.Boolean true)) e = cc
same_abbreviation n (Some (atom.Boolean false)) (Some (atom.Boolean false)) e = refl
same_abbreviation n (Some (atom.Boolean x)) (Some (atom.Integer y)) e = cc
same_abbreviation n (Some (atom.Boolean x)) (Some (atom.String y)) e = cc
same_abbreviation n (Some (atom.Boolean x)) (Some (atom.Untyped y)) e = cc
same_abbreviation n (Some (atom.Integer x)) None e = cc
same_abbreviation n (Some (atom.Integer x)) (Some (atom.Boolean y)) e = cc
same_abbreviation n (Some (atom.Integer x)) (Some (atom.Integer y)) e = ap number_abbreviation (exact_signed x y e)
same_abbreviation n (Some (atom.Integer x)) (Some (atom.String y)) e = cc
same_abbreviation n (Some (atom.Integer x)) (Some (atom.Untyped y)) e = cc
same_abbreviation n (Some (atom.String x)) None e = cc
same_abbreviation n (Some (atom.String x)) (Some (atom.Boolean y)) e = cc
same_abbreviation n (Some (atom.String x)) (Some (atom.Integer y)) e = cc
same_abbreviation n (Some (atom.String x)) (Some (atom.String y)) e = ap (text_abbreviation n) (exact_bytes (chars x) (chars y) e)
same_abbreviation n (Some (atom.String x)) (Some (atom.Untyped y)) e = cc
same_abbreviation n (Some (atom.Untyped x)) None e = cc
same_abbreviation n (Some (atom.Untyped x)) (Some (atom.Boolean y)) e = cc
same_abbreviation n (Some (atom.Untyped x)) (Some (atom.Integer y)) e = cc
same_abbreviation n (Some (atom.Untyped x)) (Some (atom.String y)) e = cc
same_abbreviation n (Some (atom.Untyped x)) (Some (atom.Untyped y)) e = ap (text_abbreviation n) (exact_bytes (chars x) (chars y) e)

-- where neither of two tuples comes first, their first keys do not differ
first_ties : (b : Bool) (o p q r : Ordering) → o ≡ ordering_reverse p → (not (is_lt (ordering_then (turned b o) q)) && not (is_lt (ordering_then (turned b p) r))) ≡ true → o ≡ Equal
first_ties b Equal p q r e h = refl
first_ties false Less p q r e h = cc
first_ties true Less Less q r e h = cc
first_ties true Less Equal q r e h = cc
first_ties true Less Greater q r e h = cc
first_ties true Greater p q r e h = cc
first_ties false Greater Less q r e h = cc
first_ties false Greater Equal q r e h = cc
first_ties false Greater Greater q r e h = cc

directed_same : (d : Bool) (n : ℕ) (a b : Option Atom) → abbreviation n a ≡ abbreviation n b → directed d n a ≡ directed d n b
directed_same true n a b e = ap (λ m. 2 ^ 64 - 1 - m) e
directed_same false n a b e = e

abbrev tied_numbers : ℕ → ℕ → Bool
tied_numbers = ties (λ m n. is_lt (nat_cmp m n))

number_tied : (n : ℕ) → tied_numbers n n ≡ true
number_tied n = tied_itself (λ m k. is_lt (nat_cmp m k)) (ranks_by nat_cmp_total (λ k. k)) n

-- whether two tuples have one abbreviation
abbrev alike : {A : Type 0} → List (SortKey A) → ℕ → Tuple → Tuple → Bool
alike keys n t u = tied_numbers (first_abbreviation keys n t) (first_abbreviation keys n u)

alike_where_tied : {A : Type 0} (keys : List (SortKey A)) (n : ℕ) (t u : Tuple) → ties (comes_first keys) t u ≡ true → alike keys n t u ≡ true
alike_where_tied [] n t u e = refl
alike_where_tied (key ∷ keys) n t u e =
    let a = key_at 0 t.keys in
    let b = key_at 0 u.keys in
    let equal = first_ties key.is_descending (ranked_cmp a b) (ranked_cmp b a) _ _ (ranked_cmp_total.antisymm a b) e in
    let same = directed_same key.is_descending n a b (same_abbreviation n a b equal) in
    ap (λ m. tied_numbers m (first_abbreviation (key ∷ keys) n u)) same ∙ number_tied (first_abbreviation (key ∷ keys) n u)

-- so a sort by keys gives the same after one by abbreviations
pub sorted_after : {A : Type 0} (keys : List (SortKey A)) (n : ℕ) (ts us : List Tuple) → IsStableByKey (first_abbreviation keys n) nat_cmp ts us → inserted_each (comes_first keys) us ≡ inserted_each (comes_first keys) ts
sorted_after keys n ts us stable = inserted_after (comes_first keys) (comes_first_weak keys) (alike keys n) (alike_where_tied keys n) ts us stable
