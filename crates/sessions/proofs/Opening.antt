-- The store before any request is one that an update may leave.
use Rattle.std.proofs.Common.{◌≡◌, ℕ, ◌+◌, ◌≤◌, Bool, true, ◌&&◌, nat_le, List, [], ◌∷◌, length, refl, arith}
use Rattle.std.proofs.lemmas.Bool.Decides.{nat_tests}
use Rattle.data_model.specs.Trees.{size, height}
use Rattle.trees.specs.Forest.{opening_trees}
use Rattle.update_meaning.specs.Results.{are_apart, are_filled, are_documents, has_distinct_attributes, is_within_limits, all_nodes, is_small, IsStored}
use Rattle.update_meaning.proofs.Tidying.{tidied-same}

apart : (n : ℕ) (names : List (List ℕ)) → are_apart (opening_trees n names) ≡ true
apart n [] = refl
apart n (x ∷ xs) = apart (n + 1) xs

filled : (n : ℕ) (names : List (List ℕ)) → are_filled (opening_trees n names) ≡ true
filled n [] = refl
filled n (x ∷ xs) = filled (n + 1) xs

documents : (n : ℕ) (names : List (List ℕ)) → are_documents (opening_trees n names) ≡ true
documents n [] = refl
documents n (x ∷ xs) = documents (n + 1) xs

distinct : (n : ℕ) (names : List (List ℕ)) → has_distinct_attributes (opening_trees n names) ≡ true
distinct n [] = refl
distinct n (x ∷ xs) = distinct (n + 1) xs

small : (n : ℕ) (names : List (List ℕ)) → all_nodes is_small (opening_trees n names) ≡ true
small n [] = refl
small n (x ∷ xs) = small (n + 1) xs

sizes : (n : ℕ) (names : List (List ℕ)) → size (opening_trees n names) ≡ length names
sizes n [] = refl
sizes n (x ∷ xs) = (let s = sizes (n + 1) xs in omega arith)

heights : (n : ℕ) (names : List (List ℕ)) → height (opening_trees n names) ≤ 1
heights n [] = omega arith
heights n (x ∷ xs) = (let h = heights (n + 1) xs in omega arith)

both : (a b c : Bool) → a ≡ true → b ≡ true → c ≡ true → (a && b && c) ≡ true
both a b c e f g = rw (e, f, g) refl

within : (n : ℕ) (names : List (List ℕ)) → length names ≤ 64 → is_within_limits (opening_trees n names) ≡ true
within n names few =
    let s = sizes n names in
    let h = heights n names in
    both (nat_le (size (opening_trees n names)) 100000) (nat_le (height (opening_trees n names)) 60) (all_nodes is_small (opening_trees n names)) (grind (arith, nat_tests)) (grind (arith, nat_tests)) (small n names)

pub opening-stored : (n : ℕ) (names : List (List ℕ)) → length names ≤ 64 → IsStored (opening_trees n names)
opening-stored n names few = rw (tidied-same (opening_trees n names) (apart n names) (filled n names) (documents n names)) (rw (distinct n names) (rw (within n names few) refl))
