-- What lists of primitives bring.
use Rattle.std.proofs.Common.{◌≡◌, ℕ, ◌+◌, ◌≤◌, ◌^◌, List, [], ◌∷◌, ◌++◌, map, Result, Ok, Err, ◌∙◌, ap, sym, refl, arith}
use Rattle.std.proofs.lemmas.List.{map-append}
use Rattle.data_model.specs.Trees.{Trees, append, count}
use Rattle.trees.specs.Forest.{ForestTerm, IsForest}
use Rattle.pending.specs.Primitives.{PrimitiveTerm, primitive_term}
use Rattle.pending.specs.declared.primitive.Primitive.{Primitive}
use Rattle.update_meaning.specs.Brought.{trees_of, new_trees}
use Rattle.fault_codes.specs.declared.code.Code.{Code}
use Rattle.update_meaning.specs.Results.{applied, updated, with_trees}
use Rattle.update_words.specs.New.{AreNew}
use Rattle.update_words.proofs.Counts.{counted, nodes_after, fewer, none_new}

-- the lists bring so many nodes of each identity
abbrev pub both : List Primitive → List Primitive → ℕ → ℕ
both ps qs = λ i. count i (new_trees (map primitive_term ps)) + count i (new_trees (map primitive_term qs))

joined : (i : ℕ) (ps qs : List PrimitiveTerm) → count i (new_trees (ps ++ qs)) ≡ count i (new_trees ps) + count i (new_trees qs)
joined i [] qs = omega arith
joined i (p ∷ ps) qs = (let a = counted i (trees_of p) (new_trees (ps ++ qs)) in let b = counted i (trees_of p) (new_trees ps) in let c = joined i ps qs in omega arith)

joined_lists : (i : ℕ) (ps qs rs : List Primitive) → rs ≡ ps ++ qs → count i (new_trees (map primitive_term rs)) ≡ count i (new_trees (map primitive_term ps)) + count i (new_trees (map primitive_term qs))
joined_lists i ps qs rs e = ap (λ (l : List Primitive). count i (new_trees (map primitive_term l))) e ∙ ap (λ (l : List PrimitiveTerm). count i (new_trees l)) (map-append primitive_term ps qs) ∙ joined i (map primitive_term ps) (map primitive_term qs)

one_list : (i : ℕ) (p : Primitive) → count i (new_trees (map primitive_term (p ∷ []))) ≡ count i (trees_of (primitive_term p))
one_list i p = (let a = counted i (trees_of (primitive_term p)) (new_trees []) in omega arith)

more : (i : ℕ) (ps rs : List Primitive) (p : Primitive) → rs ≡ ps ++ p ∷ [] → count i (new_trees (map primitive_term rs)) ≡ count i (new_trees (map primitive_term ps)) + count i (trees_of (primitive_term p))
more i ps rs p e = (let a = joined_lists i ps (p ∷ []) rs e in let b = one_list i p in omega arith)

pub first_pushed : (first n m : ℕ) (ps rs qs : List Primitive) (p : Primitive) → AreNew first (both ps qs) n → AreNew n (λ i. count i (trees_of (primitive_term p))) m → rs ≡ ps ++ p ∷ [] → AreNew first (both rs qs) m
first_pushed first n m ps rs qs p before brings e = nodes_after first n m (both ps qs) (λ i. count i (trees_of (primitive_term p))) (both rs qs) before brings (λ i. (let a = more i ps rs p e in omega arith))

pub other_pushed : (first n m : ℕ) (ps rs qs : List Primitive) (p : Primitive) → AreNew first (both qs ps) n → AreNew n (λ i. count i (trees_of (primitive_term p))) m → rs ≡ ps ++ p ∷ [] → AreNew first (both qs rs) m
other_pushed first n m ps rs qs p before brings e = nodes_after first n m (both qs ps) (λ i. count i (trees_of (primitive_term p))) (both qs rs) before brings (λ i. (let a = more i ps rs p e in omega arith))

pub merged : (first n : ℕ) (ps qs rs none : List Primitive) → AreNew first (both ps qs) n → rs ≡ ps ++ qs → none ≡ [] → AreNew first (both rs none) n
merged first n ps qs rs none before e z = fewer first n n (both ps qs) (both rs none) before (λ i. (let a = joined_lists i ps qs rs e in let b = ap (λ (l : List Primitive). count i (new_trees (map primitive_term l))) z in omega arith)) (omega arith) before.bound

pub not_merged : (first n : ℕ) (ps qs rs none : List Primitive) → AreNew first (both ps qs) n → rs ≡ ps → none ≡ [] → AreNew first (both rs none) n
not_merged first n ps qs rs none before e z = fewer first n n (both ps qs) (both rs none) before (λ i. (let a = ap (λ (l : List Primitive). count i (new_trees (map primitive_term l))) e in let b = ap (λ (l : List Primitive). count i (new_trees (map primitive_term l))) z in omega arith)) (omega arith) before.bound

pub later : (first n m : ℕ) (ps qs : List Primitive) → AreNew first (both ps qs) n → n ≤ m → m ≤ 2 ^ 62 → AreNew first (both ps qs) m
later first n m ps qs before after bound = fewer first n m (both ps qs) (both ps qs) before (λ i. omega arith) after bound

-- lists of no primitives bring nothing
pub no_lists : (first n : ℕ) (ps qs : List Primitive) → ps ≡ [] → qs ≡ [] → first ≤ n → n ≤ 2 ^ 62 → AreNew first (both ps qs) n
no_lists first n ps qs e z after bound = none_new first n (both ps qs) after bound (λ i. (let a = ap (λ (l : List Primitive). count i (new_trees (map primitive_term l))) e in let b = ap (λ (l : List Primitive). count i (new_trees (map primitive_term l))) z in omega arith))

-- what the list brings is apart from what stands in the store
pub beside_forest : (f : ForestTerm) (n : ℕ) (ps qs : List Primitive) → IsForest f → AreNew f.next (both ps qs) n → (i : ℕ) → count i (append f.trees (new_trees (map primitive_term ps))) ≤ 1
beside_forest f n ps qs facts brings i =
    let all = counted i f.trees (new_trees (map primitive_term ps)) in
    let a = facts.distinct i in
    let b = facts.below i in
    let c = brings.once i in
    let d = brings.least i in
    grind arith

abbrev next_of : ℕ → Result ForestTerm Code → ℕ
next_of n (Ok f) = f.next
next_of n (Err code) = n

next_given : (f : ForestTerm) (n : ℕ) (r : Result Trees Code) → next_of n (with_trees f n r) ≡ n
next_given f n (Ok ts) = refl
next_given f n (Err code) = refl

-- an update gives the next identity that it is told
pub next_after : (ps : List PrimitiveTerm) (n : ℕ) (f g : ForestTerm) → applied ps n f ≡ Ok g → g.next ≡ n
next_after ps n f g e = sym (ap (next_of n) e) ∙ next_given f n (updated ps f.trees)

pub appended : (ps rs qs us : List Primitive) → rs ≡ ps ++ qs → qs ≡ us → rs ≡ ps ++ us
appended ps rs qs us e z = e ∙ ap (λ (l : List Primitive). ps ++ l) z

-- ---- one list alone
pub pushed_alone : (first n m : ℕ) (ps rs : List Primitive) (p : Primitive) → AreNew first (λ i. count i (new_trees (map primitive_term ps))) n → AreNew n (λ i. count i (trees_of (primitive_term p))) m → rs ≡ ps ++ p ∷ [] → AreNew first (λ i. count i (new_trees (map primitive_term rs))) m
pushed_alone first n m ps rs p before brings e = nodes_after first n m (λ i. count i (new_trees (map primitive_term ps))) (λ i. count i (trees_of (primitive_term p))) (λ i. count i (new_trees (map primitive_term rs))) before brings (λ i. more i ps rs p e)

pub no_list : (first n : ℕ) (ps : List Primitive) → ps ≡ [] → first ≤ n → n ≤ 2 ^ 62 → AreNew first (λ i. count i (new_trees (map primitive_term ps))) n
no_list first n ps e after bound = none_new first n (λ i. count i (new_trees (map primitive_term ps))) after bound (λ i. ap (λ (l : List Primitive). count i (new_trees (map primitive_term l))) e)

pub beside_copies : (f : ForestTerm) (n : ℕ) (ps : List Primitive) → IsForest f → AreNew f.next (λ i. count i (new_trees (map primitive_term ps))) n → (i : ℕ) → count i (append f.trees (new_trees (map primitive_term ps))) ≤ 1
beside_copies f n ps facts brings i =
    let all = counted i f.trees (new_trees (map primitive_term ps)) in
    let a = facts.distinct i in
    let b = facts.below i in
    let c = brings.once i in
    let d = brings.least i in
    grind arith
