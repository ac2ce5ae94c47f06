-- The nodes of a list, one after the other.
use Rattle.std.proofs.Common.{◌≡◌, ◌≢◌, ℕ, ◌+◌, ◌<◌, ◌≤◌, List, [], ◌∷◌, ◌++◌, take, drop, length, get_or, cond, eqb, refl, ap, sym, ◌∙◌, arith, ⊎_elim, add-one, subst, Option, Some, None, IsSome}
use Prim.Native.Nat.{zero, suc}
use Rattle.std.specs.List.{sum_by}
use Rattle.std.proofs.lemmas.List.Sums.{sum_by-cons}
use Rattle.data_model.specs.Trees.{Trees, weigh}
use Rattle.data_model.proofs.Lists.{drop-turn}
use Rattle.node_table.specs.Flat.{read_nodes}
use Rattle.std.proofs.lemmas.Bool.Decides.{eqb_tells}
use Rattle.data_model.specs.Walks.{held}
use Rattle.data_model.proofs.Firsts.{held-append}
use Rattle.data_model.proofs.Weights.{eqb-same}
use Rattle.node_table.proofs.Numbers.{IsStepped}
use Rattle.node_table.specs.Flat.{Entry, Table}
use Rattle.node_table.specs.Labels.{AreListed, lists_in, parent_in}

pub held-none : (i : ℕ) (xs : List ℕ) → 0 < held i (take 0 xs) → ⊥
held-none i [] l = absurd (omega arith)
held-none i (x ∷ xs) l = absurd (omega arith)

pub item-held : (xs : List ℕ) (at x : ℕ) → at < length xs → x ≡ get_or xs at x → 0 < held x xs
item-held [] at x l e = absurd (omega arith)
item-held (y ∷ xs) zero x l e = rw (e, eqb-same y) (omega arith)
item-held (y ∷ xs) (suc at) x l e = (let z = item-held xs at x (omega arith) e in omega arith)

take-suc : (xs : List ℕ) (at x : ℕ) → at < length xs → x ≡ get_or xs at x → take (suc at) xs ≡ take at xs ++ x ∷ []
take-suc [] at x l e = absurd (omega arith)
take-suc (y ∷ []) zero x l e = ap (λ z. z ∷ []) (sym e)
take-suc (y ∷ z ∷ xs) zero x l e = ap (λ z. z ∷ []) (sym e)
take-suc (y ∷ xs) (suc at) x l e = ap (λ zs. y ∷ zs) (take-suc xs at x (omega arith) e)

pub take-item : (xs : List ℕ) (at x : ℕ) → at < length xs → x ≡ get_or xs at x → take (at + 1) xs ≡ take at xs ++ x ∷ []
take-item xs at x l e = rw add-one (take-suc xs at x l e)

pub held-item : (xs : List ℕ) (at x i : ℕ) → at < length xs → x ≡ get_or xs at x → held i (take (at + 1) xs) ≡ held i (take at xs) + cond (eqb i x) 1 0
held-item xs at x i l e = ap (held i) (take-item xs at x l e) ∙ held-append i (take at xs) (x ∷ []) ∙ omega arith

-- what is so of the first nodes and of the next is so of them all
pub held-turn : (xs : List ℕ) (at x : ℕ) → at < length xs → x ≡ get_or xs at x → (P : ℕ → Type 0) → P x → ((i : ℕ) → 0 < held i (take at xs) → P i) → (i : ℕ) → 0 < held i (take (at + 1) xs) → P i
held-turn xs at x l e P here before i h =
    let z = held-item xs at x i l e in
    ⊎_elim (λ t. subst P (sym t.1) here) (λ t. (let y = rw t.0 at z in before i (omega arith))) (eqb_tells i x)

-- those that are none of them
pub held-apart : (xs : List ℕ) (at x i : ℕ) → at < length xs → x ≡ get_or xs at x → held i (take (at + 1) xs) ≡ 0 → (held i (take at xs) ≡ 0) × (i ≢ x)
held-apart xs at x i l e h =
    let z = held-item xs at x i l e in
    ⊎_elim (λ t. (let y = rw t.0 at z in absurd (omega arith))) (λ t. (let y = rw t.0 at z in (omega arith, t.1))) (eqb_tells i x)

-- ---- sums
pub held-sum : (i : ℕ) (xs : List ℕ) → held i xs ≡ sum_by (λ j. cond (eqb i j) 1 0) xs
held-sum i [] = refl
held-sum i (x ∷ xs) = (let z = held-sum i xs in let y = sum_by-cons (λ (j : ℕ). cond {A = ℕ} (eqb i j) 1 0) x xs in omega arith)

pub length-sum : (xs : List ℕ) → length xs ≡ sum_by (λ _. 1) xs
length-sum [] = refl
length-sum (x ∷ xs) = (let z = length-sum xs in let y = sum_by-cons (λ (j : ℕ). 1) x xs in omega arith)

-- ---- what is read of a list
pub read-turn : (f : Table) (below : List ℕ → Trees) (ids : List ℕ) (at x : ℕ) (e : Entry) (w : ℕ → ℕ) → at < length ids → x ≡ get_or ids at x → f x ≡ Some e
    → weigh w (read_nodes f below (drop at ids)) ≡ w x + weigh w (below e.attributes) + weigh w (below e.children) + weigh w (read_nodes f below (drop (at + 1) ids))
read-turn f below ids at x e w l item h = ap (λ xs. weigh w (read_nodes f below xs)) (drop-turn ids at x l item) ∙ rw h refl

pub read-stop : (f : Table) (below : List ℕ → Trees) (ids : List ℕ) (at x : ℕ) (w : ℕ → ℕ) → at < length ids → x ≡ get_or ids at x → f x ≡ None → weigh w (read_nodes f below (drop at ids)) ≡ 0
read-stop f below ids at x w l item h = ap (λ xs. weigh w (read_nodes f below xs)) (drop-turn ids at x l item) ∙ rw h refl

-- ---- numbers
pub stepped-none : (w : ℕ → ℕ) (s : ℕ) (xs : List ℕ) → IsStepped w s 0 (take 0 xs)
stepped-none w s [] = tt
stepped-none w s (x ∷ xs) = tt

pub once-more : (xs : List ℕ) (at x : ℕ) → at < length xs → x ≡ get_or xs at x → held x (take at xs) + 1 ≤ held x xs
once-more [] at x l e = absurd (omega arith)
once-more (y ∷ xs) zero x l e = rw (e, eqb-same y) (omega arith)
once-more (y ∷ xs) (suc at) x l e = (let z = once-more xs at x (omega arith) e in omega arith)

parent-some : (o : Option Entry) (p : ℕ) → parent_in o ≡ Some p → IsSome o
parent-some None p h = cc
parent-some (Some e) p h = refl

-- what a node lists is there
pub listed-some : (f : Table) → AreListed f → (p i : ℕ) → 0 < held i (lists_in (f p)) → IsSome (f i)
listed-some f all p i l = parent-some (f i) p (all.below p i l)
