-- Sets of nodes, and what they come to.
use Prim.Native.Nat.{zero, suc}
use Rattle.std.proofs.Common.{◌≡◌, ℕ, ◌+◌, ◌≤◌, ◌<◌, Bool, true, false, not, ◌&&◌, ◌||◌, List, [], ◌∷◌, ◌++◌, filter, drop, length, slice_index_or, cond, eqb, refl, ap, sym, ◌∙◌, arith, ⊎_elim, None, IsSome, subst, append_assoc, append-nil, Result, Ok, Err}
use Rattle.std.specs.Prelude.{nat_le}
use Rattle.std.proofs.lemmas.Bool.Decides.{eqb_tells, nat_tests}
use Rattle.std.proofs.lemmas.List.{map-append}
use Rattle.std.proofs.lemmas.List.Folds.{list_any-append}
use Rattle.data_model.specs.Trees.{Trees, find}
use Rattle.data_model.specs.Order.{identities}
use Rattle.data_model.specs.Walks.{held}
use Rattle.data_model.specs.Axes.{is_in}
use Rattle.data_model.proofs.Climbs.{find-present}
use Rattle.data_model.proofs.Firsts.{held-identities}
use Rattle.data_model.proofs.Weights.{eqb-same}
use Rattle.node_table.proofs.Axes.{filter-same}
use Rattle.fault_codes.specs.declared.code.Code.{Code}
use Rattle.fault_codes.specs.declared.code.Code.TheVariants.{XPTY0004, PXQ0002}
use Rattle.values.specs.declared.atom.Item.{Item}
use Rattle.values.specs.declared.atom.Item.TheVariants as item
use Rattle.values.specs.declared.fault.ValueFault.{ValueFault}
use Rattle.values.specs.declared.fault.ValueFault.TheVariants as fault
use Rattle.values.specs.Items.{AreThere}
use Rattle.query_meaning.specs.Running.{M, Run, and_then, come_to, seen, trees_of, within, most_items, ◌>>=◌}
use Rattle.query_meaning.specs.Operators.{all_nodes, nodes, ordering, set_of}
use Rattle.evaluation.specs.Gives.{Any, Fails, Gives, GivesIn, Says, Stand}
use Rattle.evaluation.proofs.Each.{drop_item, drop_all, grows_refl, then_gives}
use Rattle.evaluation.proofs.Limits.{within_is}
use Rattle.query_steps.proofs.Lists.{in-filter, and-turned}
use Rattle.query_steps.specs.Sets.{in_order, is_as_wanted}

-- ---- items that are nodes
pub nodes-all : (code : Code) (is : List ℕ) → all_nodes code (nodes is) ≡ Ok is
nodes-all code [] = refl
nodes-all code (i ∷ is) = rw (nodes-all code is) refl

pub not-all : (code : Code) (xs : List Item) (k : ℕ) (x : Item) → k < length xs → x ≡ slice_index_or xs k x → all_nodes code (x ∷ []) ≡ Err code → all_nodes code xs ≡ Err code
not-all code [] k x h is e = absurd (omega (arith, h))
not-all code (item.Atomic a ∷ xs) k x h is e = refl
not-all code (item.Node i ∷ xs) zero x h is e = let z : Ok (i ∷ []) ≡ Err code = ap (λ y. all_nodes code (y ∷ [])) (sym is) ∙ e in cc
not-all code (item.Node i ∷ xs) (suc k) x h is e = rw (not-all code xs k x (omega (arith, h)) is e) refl

pub nodes-turn : (items : List Item) (k i : ℕ) (x : Item) (out more : List ℕ) → k < length items → x ≡ slice_index_or items k x → x ≡ item.Node i
    → nodes out ++ drop k items ≡ items → more ≡ out ++ i ∷ [] → nodes more ++ drop (k + 1) items ≡ items
nodes-turn items k i x out more less here node was added =
    ap (λ zs. nodes zs ++ drop (k + 1) items) added ∙ ap (λ zs. zs ++ drop (k + 1) items) (map-append (λ j. item.Node j) out (i ∷ []))
    ∙ append_assoc (nodes out) (item.Node i ∷ []) (drop (k + 1) items) ∙ ap (λ zs. nodes out ++ zs) (sym (drop_item items k x less here ∙ ap (λ y. y ∷ drop (suc k) items) node ∙ ap (λ n. item.Node i ∷ drop n items) (let e : suc k ≡ k + 1 = omega arith in e))) ∙ was

pub nodes-end : (code : Code) (items : List Item) (k : ℕ) (out : List ℕ) → length items ≤ k → nodes out ++ drop k items ≡ items → all_nodes code items ≡ Ok out
nodes-end code items k out past was =
    ap (all_nodes code) (sym was ∙ ap (λ zs. nodes out ++ zs) (drop_all items k past) ∙ append-nil (nodes out)) ∙ nodes-all code out

-- ---- members
pub in-added : (i n : ℕ) (set : List ℕ) → is_in i (cond (is_in n set) set (set ++ n ∷ [])) ≡ (is_in i set || eqb i n)
in-added i n set = by (is_in n set) refl
  where
    last : is_in i (set ++ n ∷ []) ≡ (is_in i set || eqb i n)
    last = list_any-append (λ j. eqb i j) set (n ∷ []) ∙ ap (λ b. is_in i set || b) (or-false (eqb i n))
      where
        or-false : (b : Bool) → (b || false) ≡ b
        or-false true = refl
        or-false false = refl

    by : (b : Bool) → is_in n set ≡ b → is_in i (cond b set (set ++ n ∷ [])) ≡ (is_in i set || eqb i n)
    by false e = last
    by true e = ⊎_elim (λ t. ap (λ j. is_in j set) t.1 ∙ e ∙ sym (rw (t.0, ap (λ j. is_in j set) t.1 ∙ e) refl)) (λ t. rw t.0 (keep (is_in i set))) (eqb_tells i n)
      where
        keep : (b : Bool) → b ≡ (b || false)
        keep true = refl
        keep false = refl

or-assoc : (x y z : Bool) → ((x || y) || z) ≡ (x || (y || z))
or-assoc true y z = refl
or-assoc false y z = refl

pub members-turn : (ids : List ℕ) (k n : ℕ) (set more : List ℕ) → k < length ids → n ≡ slice_index_or ids k n → ((i : ℕ) → (is_in i set || is_in i (drop k ids)) ≡ is_in i ids)
    → more ≡ cond (is_in n set) set (set ++ n ∷ []) → (i : ℕ) → (is_in i more || is_in i (drop (k + 1) ids)) ≡ is_in i ids
members-turn ids k n set more less here was added i =
    ap (λ zs. is_in i zs || is_in i (drop (k + 1) ids)) added ∙ ap (λ b. b || is_in i (drop (k + 1) ids)) (in-added i n set) ∙ or-assoc (is_in i set) (eqb i n) (is_in i (drop (k + 1) ids))
    ∙ ap (λ zs. is_in i set || is_in i zs) (sym (drop_item ids k n less here ∙ ap (λ m. n ∷ drop m ids) (let e : suc k ≡ k + 1 = omega arith in e))) ∙ was i

pub members-end : (ids : List ℕ) (k : ℕ) (set : List ℕ) → length ids ≤ k → ((i : ℕ) → (is_in i set || is_in i (drop k ids)) ≡ is_in i ids) → (i : ℕ) → is_in i set ≡ is_in i ids
members-end ids k set past was i = sym (or-false (is_in i set)) ∙ ap (λ zs. is_in i set || is_in i zs) (sym (drop_all ids k past)) ∙ was i
  where
    or-false : (b : Bool) → (b || false) ≡ b
    or-false true = refl
    or-false false = refl

pub wanted-same : (wanted : Bool) (set others nodes : List ℕ) → ((i : ℕ) → is_in i set ≡ is_in i others) → filter (is_as_wanted wanted set) nodes ≡ filter (is_as_wanted wanted others) nodes
wanted-same wanted set others nodes same = filter-same (is_as_wanted wanted set) (is_as_wanted wanted others) nodes (λ i _. ap (λ b. cond wanted b (not b)) (same i))

-- ---- nodes in order
none-there : (ts : Trees) → AreThere ts []
none-there ts k d below = absurd (omega (arith, below))

there-more : (ts : Trees) (i : ℕ) (xs : List Item) → IsSome (find i ts) → AreThere ts xs → AreThere ts (item.Node i ∷ xs)
there-more ts i xs h all zero d below = h
there-more ts i xs h all (suc k) d below = all k d (omega (arith, below))

-- what is filtered from nodes that stand
filtered-there : (p : ℕ → Bool) (ts : Trees) (is : List ℕ) → ((i : ℕ) → 0 < held i is → IsSome (find i ts)) → AreThere ts (nodes (filter p is))
filtered-there p ts [] all = none-there ts
filtered-there p ts (i ∷ is) all = by (p i) (filtered-there p ts is (λ j h. all j (omega (arith, h))))
  where
    by : (b : Bool) → AreThere ts (nodes (filter p is)) → AreThere ts (nodes (cond b (i ∷ filter p is) (filter p is)))
    by true rest = there-more ts i (nodes (filter p is)) (all i (rw (eqb-same i) (omega arith))) rest
    by false rest = rest

pub filtered-stand : (p : ℕ → Bool) (run : Run) → Stand (nodes (filter p (identities (trees_of run)))) run
filtered-stand p run = filtered-there p (trees_of run) (identities (trees_of run)) (λ i h. find-present None i (trees_of run) (let e = held-identities i (trees_of run) in omega arith))

pub in-order-gives : (ids ordered : List ℕ) (run : Run) (r : Result (List Item) ValueFault) → ordered ≡ filter (λ i. is_in i ids) (identities (trees_of run)) → Says (within (nodes ordered)) r → Gives (in_order ids) run r run
in-order-gives ids ordered run (Ok items) is says =
    let P : List Item → Type 0 = λ xs. Stand xs run in
    (ap (λ zs. come_to (within (nodes zs)) run) (sym is) ∙ ap (λ o. come_to o run) says, (grows_refl run, subst P (sym (within_is (nodes ordered) items says ∙ ap nodes is)) (filtered-stand (λ i. is_in i ids) run)))
in-order-gives ids ordered run (Err fault.Memory) is says = tt
in-order-gives ids ordered run (Err (fault.Code code)) is says = ap (λ zs. come_to (within (nodes zs)) run) (sym is) ∙ ap (λ o. come_to o run) says

-- one more item among a number that is not too many
pub not-too-many : (xs : List Item) (code : Code) → length xs ≤ 10000 → within xs ≡ Err code → ⊥
unfolding most_items
not-too-many xs code few h = by (nat_le (length xs) 10000) (grind (arith, nat_tests, few)) h
  where
    by : (b : Bool) → b ≡ true → cond b (Ok xs) (Err PXQ0002) ≡ Err code → ⊥
    by true e h = cc
    by false e h = cc

-- an operator between sets, whose nodes are put in order
abbrev set-listed : (Bool → Bool → Bool) → List ℕ → List ℕ → M (List Item)
set-listed belongs xs ys = seen (λ ts. filter (λ i. belongs (is_in i xs) (is_in i ys)) (identities ts)) >>= (λ is. come_to (within (nodes is)))

gives-same : (m n : M (List Item)) (run k new : Run) (r : Result (List Item) ValueFault) → m run ≡ n run → Gives n run r new → Gives m run r new
gives-same m n run k new (Ok items) e g = (e ∙ g.0, g.1)
gives-same m n run k new (Err fault.Memory) e g = tt
gives-same m n run k new (Err (fault.Code code)) e g = e ∙ g

pub set-gives : (belongs : Bool → Bool → Bool) (left right : List Item) (xs ys ids : List ℕ) (n : ℕ) (run mid new : Run) (u : Unit {0}) (r : Result (List Item) ValueFault)
    → all_nodes XPTY0004 left ≡ Ok xs → all_nodes XPTY0004 right ≡ Ok ys → n ≡ length xs + length ys → GivesIn Any (ordering n) run (Ok u) mid
    → ((i : ℕ) → is_in i ids ≡ belongs (is_in i xs) (is_in i ys)) → Gives (in_order ids) mid r new → Gives (set_of belongs left right) run r new
set-gives belongs left right xs ys ids n run mid new u r at_left at_right count ordered members g =
    let same : set-listed belongs xs ys mid ≡ in_order ids mid =
    ap (λ zs. come_to (within (nodes zs)) mid) (filter-same (λ i. belongs (is_in i xs) (is_in i ys)) (λ i. is_in i ids) (identities (trees_of mid)) (λ i _. sym (members i))) in
    let rest = gives-same (set-listed belongs xs ys) (in_order ids) mid mid new r same g in
    let paid = subst (λ k. GivesIn Any (ordering k) run (Ok u) mid) count ordered in
    let whole : set_of belongs left right run ≡ (ordering (length xs + length ys) >>= (λ _. set-listed belongs xs ys)) run = rw (at_left, at_right) refl in
    gives-same (set_of belongs left right) (ordering (length xs + length ys) >>= (λ _. set-listed belongs xs ys)) run run new r whole
    (then_gives Any Stand (ordering (length xs + length ys)) (λ _. set-listed belongs xs ys) run mid new u r paid rest)

-- no work is left for it
pub set-unpaid : (belongs : Bool → Bool → Bool) (left right : List Item) (xs ys : List ℕ) (n : ℕ) (run : Run) (e : ValueFault)
    → all_nodes XPTY0004 left ≡ Ok xs → all_nodes XPTY0004 right ≡ Ok ys → n ≡ length xs + length ys → Fails (ordering n run) e → Fails (set_of belongs left right run) e
set-unpaid belongs left right xs ys n run fault.Memory at_left at_right count h = tt
set-unpaid belongs left right xs ys n run (fault.Code code) at_left at_right count h =
    let whole : set_of belongs left right run ≡ (ordering (length xs + length ys) >>= (λ _. set-listed belongs xs ys)) run = rw (at_left, at_right) refl in
    whole ∙ ap (λ r. and_then r (λ (_ : Unit {0}). set-listed belongs xs ys)) (ap (λ k. ordering k run) (sym count) ∙ h)

-- the first operand that isn't of nodes
pub set-fails : (belongs : Bool → Bool → Bool) (left right : List Item) (run : Run) (e : ValueFault) → Fails (all_nodes XPTY0004 left) e → Fails (set_of belongs left right run) e
set-fails belongs left right run fault.Memory h = tt
set-fails belongs left right run (fault.Code code) h = rw h refl

pub set-fails-right : (belongs : Bool → Bool → Bool) (left right : List Item) (xs : List ℕ) (run : Run) (e : ValueFault) → all_nodes XPTY0004 left ≡ Ok xs → Fails (all_nodes XPTY0004 right) e → Fails (set_of belongs left right run) e
set-fails-right belongs left right xs run fault.Memory at h = tt
set-fails-right belongs left right xs run (fault.Code code) at h = rw (at, h) refl

-- ---- what is chosen by another side
pub chosen-both : (xs ys set seen ids : List ℕ) (i : ℕ) → seen ≡ xs → ids ≡ filter (is_as_wanted true set) seen → is_in i set ≡ is_in i ys → is_in i ids ≡ (is_in i xs && is_in i ys)
chosen-both xs ys set seen ids i same chosen others =
    ap (is_in i) (chosen ∙ ap (filter (is_as_wanted true set)) same) ∙ in-filter (is_as_wanted true set) i xs ∙ ap (λ b. b && is_in i xs) others ∙ and-turned (is_in i ys) (is_in i xs)

pub chosen-rest : (xs ys set seen ids : List ℕ) (i : ℕ) → seen ≡ xs → ids ≡ filter (is_as_wanted false set) seen → is_in i set ≡ is_in i ys → is_in i ids ≡ (is_in i xs && not (is_in i ys))
chosen-rest xs ys set seen ids i same chosen others =
    ap (is_in i) (chosen ∙ ap (filter (is_as_wanted false set)) same) ∙ in-filter (is_as_wanted false set) i xs ∙ ap (λ b. not b && is_in i xs) others ∙ and-turned (not (is_in i ys)) (is_in i xs)
