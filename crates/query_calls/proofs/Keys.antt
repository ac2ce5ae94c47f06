-- What tells atomic values apart: keys are equal just where their values are.
use Rattle.std.proofs.Common.{◌≡◌, ℕ, Bool, true, false, not, cond, List, [], ◌∷◌, ◌++◌, map, refl, sym, ap, ap₂, ◌∙◌, subst}
use Rattle.std.specs.Prelude.{◌||◌}
use Rattle.std.specs.List.{list_any}
use Rattle.std.specs.Ordering.{is_eq}
use Rattle.std.specs.Str.{bytes_eq, chars, IsUtf8}
use lib.Utf8.{encodes}
use Rattle.std.proofs.lemmas.Bool.Decides.{same_from_decides}
use Rattle.std.proofs.lemmas.Map.Text.{is_eq-slice_cmp}
use Rattle.std.proofs.lemmas.Slice.Eq.{bytes_eq-Decides}
use Rattle.std.proofs.lemmas.Str.{encodes-chars}
use Rattle.values.specs.declared.atom.Atom.{Atom}
use Rattle.values.specs.Comparisons.{same_type_cmp, string_cmp}
use Rattle.query_meaning.specs.Functions.{and_distinct, are_equal}
use Rattle.query_calls.specs.declared.distinct.Key.{Key}
use Rattle.query_calls.specs.declared.distinct.Key.TheVariants.{Text, Boolean, Integer}
use Rattle.query_calls.specs.contracts.distinct.KeyPartialEq as keys
use Rattle.query_calls.specs.Distinct.{AreTexts}
use Rattle.query_calls.specs.Keys.{IsKey, IsText, value_of}

-- the test by which the set finds keys
abbrev pub key_eq : Key → Key → Bool
key_eq = keys.TheImpl.eq-value.it

-- texts of the same characters are the same
same_chars : (a b : List ℕ) → IsUtf8 a → IsUtf8 b → chars a ≡ chars b → a ≡ b
same_chars a b u v e = sym (encodes-chars a u) ∙ ap encodes e ∙ encodes-chars b v

equal_texts : (a b : List ℕ) → IsUtf8 a → IsUtf8 b → bytes_eq a b ≡ is_eq (string_cmp a b)
equal_texts a b u v =
    let D = bytes_eq-Decides (chars a) (chars b) in
    same_from_decides (bytes_eq a b) (bytes_eq (chars a) (chars b)) (bytes_eq-Decides a b) (λ t. same_chars a b u v (D.0 t), λ e. D.1 (ap chars e)) ∙ sym (is_eq-slice_cmp (chars a) (chars b))

equal : (k j : Key) → IsText k → IsText j → key_eq k j ≡ are_equal (same_type_cmp (value_of k) (value_of j))
equal (Text a) (Text b) u v = equal_texts a.now b.now u v
equal (Text a) (Boolean b) u v = refl
equal (Text a) (Integer z) u v = refl
equal (Boolean a) (Text b) u v = refl
equal (Boolean true) (Boolean true) u v = refl
equal (Boolean true) (Boolean false) u v = refl
equal (Boolean false) (Boolean true) u v = refl
equal (Boolean false) (Boolean false) u v = refl
equal (Boolean a) (Integer z) u v = refl
equal (Integer x) (Text b) u v = refl
equal (Integer x) (Boolean b) u v = refl
equal (Integer x) (Integer y) u v = refl

among : (k : Key) (ks : List Key) → IsText k → AreTexts ks → list_any (key_eq k) ks ≡ list_any (λ b. are_equal (same_type_cmp (value_of k) b)) (map value_of ks)
among k [] u all = refl
among k (j ∷ ks) u all = ap₂ (λ a b. a || b) (equal k j u all.0) (among k ks u all.1)

-- a value is among the others just where its key is
pub found_same : (ks : List Key) (vs : List Atom) (k : Key) (a : Atom) → map value_of ks ≡ vs → AreTexts ks → IsKey k a → list_any (key_eq k) ks ≡ list_any (λ b. are_equal (same_type_cmp a b)) vs
found_same ks vs k a are texts key =
    among k ks key.text texts ∙ ap₂ (λ a vs. list_any (λ b. are_equal (same_type_cmp a b)) vs) key.value are

not_true : (b r : Bool) → r ≡ not b → r ≡ false → b ≡ true
not_true true r e f = refl
not_true false r e f = cc

not_false : (b r : Bool) → r ≡ not b → r ≡ true → b ≡ false
not_false false r e f = refl
not_false true r e f = cc

-- it is among them
pub stays : (ks : List Key) (vs : List Atom) (k : Key) (a : Atom) (r : Bool) → map value_of ks ≡ vs → AreTexts ks → IsKey k a → r ≡ not (list_any (key_eq k) ks) → r ≡ false
    → vs ≡ and_distinct vs a
stays ks vs k a r are texts key added old =
    ap (λ b. cond b vs (vs ++ a ∷ [])) (sym (sym (found_same ks vs k a are texts key) ∙ not_true (list_any (key_eq k) ks) r added old))

-- it is not
pub grows : (ks : List Key) (vs : List Atom) (k : Key) (a : Atom) (r : Bool) → map value_of ks ≡ vs → AreTexts ks → IsKey k a → r ≡ not (list_any (key_eq k) ks) → r ≡ true
    → vs ++ a ∷ [] ≡ and_distinct vs a
grows ks vs k a r are texts key added fresh =
    ap (λ b. cond b vs (vs ++ a ∷ [])) (sym (sym (found_same ks vs k a are texts key) ∙ not_false (list_any (key_eq k) ks) r added fresh))

pub keys_grow : (ks new : List Key) (k : Key) (r : Bool) → new ≡ cond (list_any (key_eq k) ks) ks (ks ++ k ∷ []) → r ≡ not (list_any (key_eq k) ks) → r ≡ true → new ≡ ks ++ k ∷ []
keys_grow ks new k r is added fresh = is ∙ ap (λ b. cond b ks (ks ++ k ∷ [])) (not_false (list_any (key_eq k) ks) r added fresh)

pub one_more : (ks : List Key) (vs : List Atom) (k : Key) (a : Atom) → map value_of ks ≡ vs → IsKey k a → map value_of (ks ++ k ∷ []) ≡ vs ++ a ∷ []
one_more ks vs k a are key = map_one ks ∙ ap₂ (λ vs a. vs ++ a ∷ []) are key.value
  where
    map_one : (js : List Key) → map value_of (js ++ k ∷ []) ≡ map value_of js ++ value_of k ∷ []
    map_one [] = refl
    map_one (j ∷ js) = ap (λ xs. value_of j ∷ xs) (map_one js)

pub texts_more : (ks : List Key) (k : Key) → AreTexts ks → IsText k → AreTexts (ks ++ k ∷ [])
texts_more [] k all u = (u, tt)
texts_more (j ∷ ks) k all u = (all.0, texts_more ks k all.1 u)

pub texts_same : (ks new : List Key) → new ≡ ks → AreTexts ks → AreTexts new
texts_same ks new is all = subst AreTexts (sym is) all
