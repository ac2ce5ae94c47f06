-- Keys of tuples: an order of all of them, whatever their types, and those that have one type.
use Rattle.std.specs.Prelude.{◌≡◌, ℕ, zero, suc, Bool, true, ◌&&◌, if◌then◌else◌, List, [], ◌∷◌, length, map, Option, Some, None, is_some, refl}
use Rattle.std.specs.Coded.{Coded, code_by, coded×, coded_list, coded_option}
use Rattle.std.specs.declared.cmp.Ordering.{Ordering}
use Rattle.std.specs.declared.cmp.Ordering.TheVariants.{Equal}
use Rattle.std.specs.Ordering.{nat_cmp, int_cmp, bool_cmp, ordering_reverse, ordering_then, is_lt, is_le, is_gt}
use Rattle.values.specs.contracts.atom.Atom as of_atom
use Rattle.values.specs.declared.atom.Atom.{Atom}
use Rattle.values.specs.declared.atom.Atom.TheVariants as atom
use Rattle.values.specs.Comparisons.{string_cmp}
use Rattle.query_grammar.specs.declared.ast.SortKey.{SortKey}
use Rattle.query_meaning.specs.Environment.{Environment, environment_code}
use Rattle.query_meaning.specs.Running.{Run}
use Rattle.query_meaning.specs.Sequences.{Tuple, key_cmp}
use Rattle.evaluation.specs.Gives.{IsReady}

abbrev pub tuple_code : Coded Tuple
tuple_code = code_by (Environment × List (Option Atom)) (coded× environment_code (coded_list (coded_option of_atom.the_row.coded))) (λ t. (t.environment, t.keys)) (λ p. record { environment = p.0; keys = p.1 }) (λ _. refl)

-- the key at a position; past the last it is empty
abbrev pub key_at : ℕ → List (Option Atom) → Option Atom
key_at k [] = None
key_at zero (a ∷ more) = a
key_at (suc k) (a ∷ more) = key_at k more

-- the keys at a position
abbrev pub column : ℕ → List Tuple → List (Option Atom)
column k ts = map (λ (t : Tuple). key_at k t.keys) ts

-- types in their order, the empty key first
abbrev pub rank : Option Atom → ℕ
rank None = 0
rank (Some (atom.Boolean b)) = 1
rank (Some (atom.Integer z)) = 2
rank (Some (atom.String text)) = 3
rank (Some (atom.Untyped text)) = 4

-- by type, then by value
abbrev pub ranked_cmp : Option Atom → Option Atom → Ordering
ranked_cmp (Some (atom.Boolean a)) (Some (atom.Boolean b)) = bool_cmp a b
ranked_cmp (Some (atom.Integer a)) (Some (atom.Integer b)) = int_cmp a b
ranked_cmp (Some (atom.String a)) (Some (atom.String b)) = string_cmp a b
ranked_cmp (Some (atom.Untyped a)) (Some (atom.Untyped b)) = string_cmp a b
ranked_cmp a b = nat_cmp (rank a) (rank b)

abbrev pub turned : Bool → Ordering → Ordering
turned b o = if b then ordering_reverse o else o

-- by the first key that differs, from a position on
abbrev pub ranked : {A : Type 0} → ℕ → List (SortKey A) → List (Option Atom) → List (Option Atom) → Ordering
ranked k [] xs ys = Equal
ranked k (key ∷ keys) xs ys = ordering_then (turned key.is_descending (ranked_cmp (key_at k xs) (key_at k ys))) (ranked (suc k) keys xs ys)

abbrev pub comes_first : {A : Type 0} → List (SortKey A) → Tuple → Tuple → Bool
comes_first keys t u = is_lt (ranked 0 keys t.keys u.keys)

-- what holds of neighbours in a run, which is in order, or strictly in the opposite one where it falls
abbrev pub in_run : {A : Type 0} → List (SortKey A) → (falls : Bool) → Tuple → Tuple → Bool → Type 0
in_run keys falls t u b = b ≡ (if falls then is_gt (ranked 0 keys t.keys u.keys) else is_le (ranked 0 keys t.keys u.keys))

-- whether two keys can be compared
abbrev pub has_order : Option Atom → Option Atom → Bool
has_order a b = is_some (key_cmp a b)

-- the first key that is there
abbrev pub or_first : Option Atom → Option Atom → Option Atom
or_first None b = b
or_first (Some a) b = Some a

-- whether the first key that is there can be compared with each that comes after it
abbrev pub is_of_one_type : Option Atom → List (Option Atom) → Bool
is_of_one_type a [] = true
is_of_one_type a (b ∷ more) = has_order a b && is_of_one_type (or_first a b) more

-- an element among sorted ones, before those that it is not greater than
abbrev pub inserted : {X : Type 0} → (X → X → Bool) → X → List X → List X
inserted lt x [] = x ∷ []
inserted lt x (y ∷ ys) = if lt y x then y ∷ inserted lt x ys else x ∷ y ∷ ys

abbrev pub inserted_each : {X : Type 0} → (X → X → Bool) → List X → List X
inserted_each lt [] = []
inserted_each lt (x ∷ xs) = inserted lt x (inserted_each lt xs)

-- P holds of each element
abbrev pub Each : {X : Type 0} → (X → Type 0) → List X → Type 0
Each P [] = Unit {0}
Each P (x ∷ xs) = P x × Each P xs

-- a tuple with so many keys
abbrev pub IsWide : ℕ → Tuple → Type 0
IsWide n t = length t.keys ≡ n

-- the nodes of each environment stand
abbrev pub AreReady : List Tuple → Run → Type 0
AreReady ts run = Each (λ (t : Tuple). IsReady t.environment run) ts

-- the same of tuples with so many keys
pub record AreKept (n : ℕ) (ts : List Tuple) (run : Run) : Type 0 where
  pub widths : Each (IsWide n) ts
  pub ready : AreReady ts run

-- a key by what its expression means
abbrev pub sort_key_of : {A B : Type 0} → (A → B) → SortKey A → SortKey B
sort_key_of f k = record { key = f k.key; is_descending = k.is_descending }
