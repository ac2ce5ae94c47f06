-- What keeps the numbers of the rows rising.
use Prim.Native.Nat.{zero, suc}
use Rattle.std.proofs.Common.{◌≡◌, ◌≢◌, ℕ, ◌+◌, ◌*◌, ◌/◌, ◌≤◌, ◌<◌, Bool, true, false, not, List, [], ◌∷◌, ◌++◌, length, take, drop, filter, cond, eqb, ltb, refl, ap, sym, ◌∙◌, arith, ⊎_elim, ◌⊎◌, inl, inr, Option, Some, None, IfSome, IsSome, is_some, option_map, subst}
use Rattle.std.specs.List.{slice_get}
use Rattle.std.proofs.Math.Nat.{add-mul, mul-le-mul_left, mul_comm, mul-div-le, le-div_iff_mul-le}
use Rattle.std.proofs.lemmas.List.{take-append-drop, append_assoc, length-take-le, length-append}
use Rattle.std.proofs.lemmas.Bool.Decides.{eqb_tells}
use Rattle.data_model.specs.Trees.{Trees, no_trees, tree, append, roots, count, size}
use Rattle.data_model.specs.Changes.{renumbered, ranked}
use Rattle.data_model.specs.Walks.{held}
use Rattle.node_table.specs.Flat.{Entry, Table, Holds, IsTableOf, IsChangedAt, Puts, listed, with_child}
use Rattle.data_model.specs.declared.node.Part.{Part}
use Rattle.data_model.specs.declared.node.Part.TheVariants.{Attributes, Children}
use Rattle.node_table.specs.Labels.{AllAbove, Ascends, AreNumbered, AreRanked, HasNumbers, RisesBut, AreListed, lists_in, get_before, position_in, parent_in}
use Rattle.data_model.proofs.Weights.{eqb-same}
use Rattle.data_model.proofs.Climbs.{any-tells}
use Rattle.data_model.proofs.Firsts.{held-append}
use Rattle.node_table.proofs.Tables.{Sets}
use Rattle.node_table.proofs.Takes.{Takes}
use Rattle.node_table.proofs.Onces.{held-roots}
use Rattle.node_table.proofs.Labels.{Ascends-left, Ascends-right}

-- ---- what keeps numbers rising
abbrev pub EachBelow : (ℕ → ℕ) → ℕ → List ℕ → Type 0
EachBelow w n [] = Unit {0}
EachBelow w n (x ∷ xs) = (w x < n) × EachBelow w n xs

above-insert : (w : ℕ → ℕ) (n k : ℕ) (ls rs : List ℕ) → AllAbove w n (ls ++ rs) → n < w k → AllAbove w n (ls ++ k ∷ rs)
above-insert w n k [] rs h m = (m, h)
above-insert w n k (x ∷ ls) rs h m = (h.0, above-insert w n k ls rs h.1 m)

-- a number between those before and those after
pub ascends-between : (w : ℕ → ℕ) (k : ℕ) (ls rs : List ℕ) → Ascends w (ls ++ rs) → EachBelow w (w k) ls → AllAbove w (w k) rs → Ascends w (ls ++ k ∷ rs)
ascends-between w k [] rs h l r = (r, h)
ascends-between w k (x ∷ ls) rs h l r = (above-insert w (w x) k ls rs h.0 l.0, ascends-between w k ls rs h.1 l.1 r)

above-append : (w : ℕ → ℕ) (n : ℕ) (xs ys : List ℕ) → AllAbove w n xs → AllAbove w n ys → AllAbove w n (xs ++ ys)
above-append w n [] ys h k = k
above-append w n (x ∷ xs) ys h k = (h.0, above-append w n xs ys h.1 k)

above-more : (w : ℕ → ℕ) (m n : ℕ) (xs : List ℕ) → m ≤ n → AllAbove w n xs → AllAbove w m xs
above-more w m n [] l h = tt
above-more w m n (x ∷ xs) l h = (omega (arith, h.0), above-more w m n xs l h.1)

-- it is enough that it is above the last before it
last-above : (w : ℕ → ℕ) (x l : ℕ) (ls : List ℕ) (n : ℕ) → AllAbove w (w x) (ls ++ l ∷ []) → w l < n → w x < n
last-above w x l [] n h m = omega (arith, h.0)
last-above w x l (y ∷ ls) n h m = last-above w x l ls n h.1 m

pub below-last : (w : ℕ → ℕ) (n l : ℕ) (ls : List ℕ) → Ascends w (ls ++ l ∷ []) → w l < n → EachBelow w n (ls ++ l ∷ [])
below-last w n l [] h m = (m, tt)
below-last w n l (x ∷ ls) h m = (last-above w x l ls n h.0 m, below-last w n l ls h.1 m)

-- and below the first after it
pub above-first : (w : ℕ → ℕ) (n r : ℕ) (rs : List ℕ) → Ascends w (r ∷ rs) → n < w r → AllAbove w n (r ∷ rs)
above-first w n r rs h m = (m, above-more w n (w r) rs (omega arith) h.0)

above-same : (w v : ℕ → ℕ) (m n : ℕ) (xs : List ℕ) → m ≡ n → ((i : ℕ) → 0 < held i xs → v i ≡ w i) → AllAbove w m xs → AllAbove v n xs
above-same w v m n [] e s h = tt
above-same w v m n (x ∷ xs) e s h = ((let z = h.0 in let y = s x (rw (eqb-same x) (omega arith)) in omega arith), above-same w v m n xs e (λ i k. s i (omega arith)) h.1)

pub ascends-same : (w v : ℕ → ℕ) (xs : List ℕ) → ((i : ℕ) → 0 < held i xs → v i ≡ w i) → Ascends w xs → Ascends v xs
ascends-same w v [] s h = tt
ascends-same w v (x ∷ xs) s h =
    let own : v x ≡ w x = s x (rw (eqb-same x) (omega arith)) in
    (above-same w v (w x) (v x) xs (sym own) (λ i k. s i (omega arith)) h.0, ascends-same w v xs (λ i k. s i (omega arith)) h.1)

above-filter : (w : ℕ → ℕ) (n : ℕ) (q : ℕ → Bool) (xs ys : List ℕ) → AllAbove w n (xs ++ ys) → AllAbove w n (filter q xs ++ filter q ys)
above-filter w n q [] [] h = tt
above-filter w n q [] (y ∷ ys) h = elim (q y) as (λ v. AllAbove w n (cond v (y ∷ filter q ys) (filter q ys))) [ true ↦ (h.0, above-filter w n q [] ys h.1) | false ↦ above-filter w n q [] ys h.1 ]
above-filter w n q (x ∷ xs) ys h = elim (q x) as (λ v. AllAbove w n (cond v (x ∷ filter q xs) (filter q xs) ++ filter q ys)) [ true ↦ (h.0, above-filter w n q xs ys h.1) | false ↦ above-filter w n q xs ys h.1 ]

pub ascends-filter : (w : ℕ → ℕ) (q : ℕ → Bool) (xs ys : List ℕ) → Ascends w (xs ++ ys) → Ascends w (filter q xs ++ filter q ys)
ascends-filter w q [] [] h = tt
ascends-filter w q [] (y ∷ ys) h = elim (q y) as (λ v. Ascends w (cond v (y ∷ filter q ys) (filter q ys))) [ true ↦ (above-filter w (w y) q [] ys h.0, ascends-filter w q [] ys h.1) | false ↦ ascends-filter w q [] ys h.1 ]
ascends-filter w q (x ∷ xs) ys h = elim (q x) as (λ v. Ascends w (cond v (x ∷ filter q xs) (filter q xs) ++ filter q ys)) [ true ↦ (above-filter w (w x) q xs ys h.0, ascends-filter w q xs ys h.1) | false ↦ ascends-filter w q xs ys h.1 ]

-- two lists, of which the one ends before the other begins
pub ascends-join : (w : ℕ → ℕ) (m : ℕ) (xs ys : List ℕ) → Ascends w xs → Ascends w ys → EachBelow w (suc m) xs → AllAbove w m ys → Ascends w (xs ++ ys)
ascends-join w m [] ys h k l r = k
ascends-join w m (x ∷ xs) ys h k l r = (above-append w (w x) xs ys h.0 (above-more w (w x) m ys (omega (arith, l.0)) r), ascends-join w m xs ys h.1 k l.1 r)

-- a list that no longer has a node
pub numbers-take : (w : ℕ → ℕ) (f g : Table) (p k : ℕ) (dp dk : Entry) → f p ≡ Some dp → f k ≡ Some dk → Takes f g p k → HasNumbers w f → HasNumbers w g
numbers-take w f g p k dp dk at_p at_k t h = λ i.
    (let P : Option Entry → Type 0 = λ o. Ascends w (lists_in o) in
    ⊎_elim (λ x. subst P (sym (ap g x.1 ∙ t.moved dk at_k)) (subst P at_k (h k)))
    (λ x. ⊎_elim (λ y. subst P (sym (ap g y.1 ∙ t.shrunk dp at_p)) (ascends-filter w (λ j. not (eqb k j)) dp.attributes dp.children (subst P at_p (h p)))) (λ y. subst P (sym (t.apart i x.1 y.1)) (h i)) (eqb_tells i p)) (eqb_tells i k))

pub numbers-empty : (w : ℕ → ℕ) (f : Table) → ((i : ℕ) → f i ≡ None) → HasNumbers w f
numbers-empty w f none = λ i. (let P : Option Entry → Type 0 = λ o. Ascends w (lists_in o) in subst P (sym (none i)) tt)

-- a row that lists nothing yet
pub numbers-sets : (w : ℕ → ℕ) (f g : Table) (k : ℕ) (e : Entry) → Sets f g k e → Ascends w (lists_in (Some e)) → HasNumbers w f → HasNumbers w g
numbers-sets w f g k e s own h = λ i.
    (let P : Option Entry → Type 0 = λ o. Ascends w (lists_in o) in ⊎_elim (λ x. subst P (sym (ap g x.1 ∙ s.here)) own) (λ x. subst P (sym (s.apart i x.1)) (h i)) (eqb_tells i k))

some-is : (o : Option Entry) → IsSome o → (e : Entry) × (o ≡ Some e)
some-is None h = cc
some-is (Some e) h = (e, refl)

-- a row that lists what it listed
pub numbers-changed : (w v : ℕ → ℕ) (f g : Table) (k : ℕ) (step : Entry → Entry) → ((e : Entry) → lists_in (Some (step e)) ≡ lists_in (Some e)) → v ≡ w → IsChangedAt f g k step → IsSome (f k) → HasNumbers w f → HasNumbers v g
numbers-changed w v f g k step same e c there h = rw e (λ i.
    (let P : Option Entry → Type 0 = λ o. Ascends w (lists_in o) in
    let d = some-is (f k) there in
    ⊎_elim (λ x. subst P (sym (ap g x.1 ∙ c.here d.0 d.1)) (subst (Ascends w) (sym (same d.0)) (subst P d.1 (h k)))) (λ x. subst P (sym (c.apart i x.1)) (h i)) (eqb_tells i k)))

-- ---- a node more in a list
pub gap-child : (w : ℕ → ℕ) (part : Part) (m k : ℕ) (e : Entry) → m ≤ length (listed part e) → Ascends w (e.attributes ++ e.children) → RisesBut w (position_in part m (Some (with_child part m k e))) (lists_in (Some (with_child part m k e)))
gap-child w Attributes m k e within h = record {
  before = take m e.attributes;
  node = k;
  after = drop m e.attributes ++ e.children;
  is = append_assoc (take m e.attributes) (k ∷ drop m e.attributes) e.children;
  at_is = length-take-le m e.attributes within;
  rises = subst (Ascends w) (sym (sym (append_assoc (take m e.attributes) (drop m e.attributes) e.children) ∙ ap (λ xs. xs ++ e.children) (take-append-drop m e.attributes))) h;
}
gap-child w Children m k e within h = record {
  before = e.attributes ++ take m e.children;
  node = k;
  after = drop m e.children;
  is = sym (append_assoc e.attributes (take m e.children) (k ∷ drop m e.children));
  at_is = length-append e.attributes (take m e.children) ∙ ap (λ n. length e.attributes + n) (length-take-le m e.children within);
  rises = subst (Ascends w) (sym (append_assoc e.attributes (take m e.children) (drop m e.children) ∙ ap (λ xs. e.attributes ++ xs) (take-append-drop m e.children))) h;
}

-- the list of a node to which another was added has a gap there
pub gap-grown : (w : ℕ → ℕ) (f g : Table) (part : Part) (m p k : ℕ) (dp : Entry) → f p ≡ Some dp → g p ≡ Some (with_child part m k dp) → m ≤ length (listed part dp) → HasNumbers w f → RisesBut w (position_in part m (g p)) (lists_in (g p))
gap-grown w f g part m p k dp at_p now within h =
    let P : Option Entry → Type 0 = λ o. Ascends w (lists_in o) in
    let Q : Option Entry → Type 0 = λ o. RisesBut w (position_in part m o) (lists_in o) in
    subst Q (sym now) (gap-child w part m k dp within (subst P at_p (h p)))

-- the other lists are as they were
pub others-put : (w : ℕ → ℕ) (f g : Table) (part : Part) (m p k : ℕ) (dk : Entry) → f k ≡ Some dk → Puts f g part m p k → HasNumbers w f → (i : ℕ) → i ≢ p → Ascends w (lists_in (g i))
others-put w f g part m p k dk at_k puts h i ne =
    let P : Option Entry → Type 0 = λ o. Ascends w (lists_in o) in
    ⊎_elim (λ x. subst P (sym (ap g x.1 ∙ puts.moved dk at_k)) (subst P at_k (h k))) (λ x. subst P (sym (puts.apart i x.1 ne)) (h i)) (eqb_tells i k)

-- ---- where a list is read
pub at-here : (xs : List ℕ) (x : ℕ) (ys : List ℕ) → slice_get (xs ++ x ∷ ys) (length xs) ≡ Some x
at-here [] x ys = refl
at-here (y ∷ xs) x ys = at-here xs x ys

pub get-left : (xs ys : List ℕ) (i : ℕ) → i < length xs → slice_get (xs ++ ys) i ≡ slice_get xs i
get-left [] ys i h = absurd (omega arith)
get-left (x ∷ xs) ys zero h = refl
get-left (x ∷ xs) ys (suc i) h = get-left xs ys i (omega arith)

pub get-right : (xs ys : List ℕ) (i : ℕ) → slice_get (xs ++ ys) (length xs + i) ≡ slice_get ys i
get-right [] ys i = (let e : 0 + i ≡ i = omega arith in ap (slice_get ys) e)
get-right (x ∷ xs) ys i = (let e : suc (length xs) + i ≡ suc (length xs + i) = omega arith in ap (slice_get (x ∷ (xs ++ ys))) e ∙ get-right xs ys i)

abbrev Last : List ℕ → Type 0
Last xs = (xs ≡ []) ⊎ ((ys : List ℕ) × (y : ℕ) × (xs ≡ ys ++ y ∷ []))

last-of : (xs : List ℕ) → Last xs
last-of [] = inl refl
last-of (x ∷ xs) = ⊎_elim (λ t. inr ([], x, ap (λ l. x ∷ l) t)) (λ t. inr (x ∷ t.0, t.1, ap (λ l. x ∷ l) t.2)) (last-of xs)

length-end : (xs : List ℕ) (x : ℕ) → length (xs ++ x ∷ []) ≡ suc (length xs)
length-end [] x = refl
length-end (y ∷ xs) x = ap suc (length-end xs x)

low-each : (w v : ℕ → ℕ) (n : ℕ) (ls rs : List ℕ) → Ascends v ls → ((i : ℕ) → 0 < held i ls → v i ≡ w i) → IfSome (option_map w (get_before (ls ++ rs) (length ls))) (λ l. l < n) → EachBelow v n ls
low-each w v n ls rs up same low =
    ⊎_elim (λ t. (let P : List ℕ → Type 0 = EachBelow v n in subst P (sym t) tt))
    (λ t. (let ys = t.0 in
    let y = t.1 in
    let P : List ℕ → Type 0 = λ l. Ascends v l × IfSome (option_map w (get_before (l ++ rs) (length l))) (λ l. l < n) × (v y ≡ w y) in
    let own : v y ≡ w y = same y (rw t.2 (rw held-append (rw (eqb-same y) (omega arith)))) in
    let z : P (ys ++ y ∷ []) = subst P t.2 (up, low, own) in
    let at : get_before ((ys ++ y ∷ []) ++ rs) (length (ys ++ y ∷ [])) ≡ Some y = ap (get_before ((ys ++ y ∷ []) ++ rs)) (length-end ys y) ∙ ap (λ l. slice_get l (length ys)) (append_assoc ys (y ∷ []) rs) ∙ at-here ys y rs in
    let less : w y < n = rw at at z.1 in
    let Q : List ℕ → Type 0 = EachBelow v n in
    subst Q (sym t.2) (below-last v n y ys z.0 (let e = z.2 in omega arith)))) (last-of ls)

high-all : (w v : ℕ → ℕ) (n : ℕ) (rs : List ℕ) → Ascends v rs → ((i : ℕ) → 0 < held i rs → v i ≡ w i) → IfSome (option_map w (slice_get rs 0)) (λ h. n < h) → AllAbove v n rs
high-all w v n [] up same high = tt
high-all w v n (r ∷ rs) up same high = above-first v n r rs up (let e = same r (rw (eqb-same r) (omega arith)) in omega arith)

-- a number between its neighbours' fills the gap
pub gap-filled : (w v : ℕ → ℕ) (at : ℕ) (xs : List ℕ) (gap : RisesBut w at xs) → ((i : ℕ) → held i xs ≤ 1) → ((i : ℕ) → i ≢ gap.node → v i ≡ w i) → IfSome (option_map w (get_before xs at)) (λ l. l < v gap.node) → IfSome (option_map w (slice_get xs (suc at))) (λ h. v gap.node < h)
    → Ascends v xs
gap-filled w v at xs gap once same low high =
    let k = gap.node in
    let ls = gap.before in
    let rs = gap.after in
    let P : List ℕ → Type 0 = λ l. (i : ℕ) → held i l ≤ 1 in
    let one : P (ls ++ k ∷ rs) = subst P gap.is once in
    let none : (held k ls ≡ 0) × (held k rs ≡ 0) = (let z = rw (held-append k ls (k ∷ rs), eqb-same k) at (one k) in (omega arith, omega arith)) in
    let agree_l : (i : ℕ) → 0 < held i ls → v i ≡ w i = λ i h. same i (λ e. (let z : held i ls ≡ held k ls = ap (λ j. held j ls) e in let y = none.0 in absurd (omega arith))) in
    let agree_r : (i : ℕ) → 0 < held i rs → v i ≡ w i = λ i h. same i (λ e. (let z : held i rs ≡ held k rs = ap (λ j. held j rs) e in let y = none.1 in absurd (omega arith))) in
    let up : Ascends v (ls ++ rs) = ascends-same w v (ls ++ rs) (λ i h. (let z = rw (held-append i ls rs) at h in ⊎_elim (λ t. agree_l i t.1) (λ t. agree_r i (let y = t.1 in omega arith)) (any-tells (held i ls)))) gap.rises in
    let here : get_before xs at ≡ get_before (ls ++ k ∷ rs) (length ls) = ap (λ l. get_before l at) gap.is ∙ ap (get_before (ls ++ k ∷ rs)) (sym gap.at_is) in
    let next : slice_get xs (suc at) ≡ slice_get rs 0 = ap (λ l. slice_get l (suc at)) gap.is ∙ ap (λ n. slice_get (ls ++ k ∷ rs) (suc n)) (sym gap.at_is) ∙ ap (slice_get (ls ++ k ∷ rs)) (let e : suc (length ls) ≡ length ls + 1 = omega arith in e) ∙ get-right ls (k ∷ rs) 1 in
    let L : Option ℕ → Type 0 = λ o. IfSome (option_map w o) (λ l. l < v k) in
    let H : Option ℕ → Type 0 = λ o. IfSome (option_map w o) (λ h. v k < h) in
    let Q : List ℕ → Type 0 = Ascends v in
    subst Q (sym gap.is)
    (ascends-between v k ls rs up
    (low-each w v (v k) ls (k ∷ rs) (Ascends-left v ls rs up) agree_l (subst L here low))
    (high-all w v (v k) rs (Ascends-right v ls rs up) agree_r (subst H next high)))

-- ---- numbers at even steps
pub suc-mul : (n s : ℕ) → suc n * s ≡ n * s + s
suc-mul n s = (let e : suc n ≡ n + 1 = omega arith in rw (e, add-mul) (omega arith))

abbrev pub IsStepped : (ℕ → ℕ) → ℕ → ℕ → List ℕ → Type 0
IsStepped w s n [] = Unit {0}
IsStepped w s n (x ∷ xs) = (w x ≡ n + s) × IsStepped w s (n + s) xs

stepped-above : (w : ℕ → ℕ) (s n m : ℕ) (xs : List ℕ) → 0 < s → m ≤ n → IsStepped w s n xs → AllAbove w m xs
stepped-above w s n m [] some le h = tt
stepped-above w s n m (x ∷ xs) some le h = (let e = h.0 in omega arith, stepped-above w s (n + s) m xs some (omega arith) h.1)

pub stepped-rises : (w : ℕ → ℕ) (s n : ℕ) (xs : List ℕ) → 0 < s → IsStepped w s n xs → Ascends w xs
stepped-rises w s n [] some h = tt
stepped-rises w s n (x ∷ xs) some h = (stepped-above w s (n + s) (w x) xs some (let e = h.0 in omega arith) h.1, stepped-rises w s (n + s) xs some h.1)

pub stepped-last : (w : ℕ → ℕ) (s n x : ℕ) (xs : List ℕ) → IsStepped w s n xs → w x ≡ n + length xs * s + s → IsStepped w s n (xs ++ x ∷ [])
stepped-last w s n x [] h e = (omega arith, tt)
stepped-last w s n x (y ∷ xs) h e = (h.0, stepped-last w s (n + s) x xs h.1 (let m : suc (length xs) * s ≡ length xs * s + s = suc-mul (length xs) s in omega arith))

pub stepped-same : (w v : ℕ → ℕ) (s n : ℕ) (xs : List ℕ) → ((i : ℕ) → 0 < held i xs → v i ≡ w i) → IsStepped w s n xs → IsStepped v s n xs
stepped-same w v s n [] same h = tt
stepped-same w v s n (x ∷ xs) same h = (same x (rw (eqb-same x) (omega arith)) ∙ h.0, stepped-same w v s (n + s) xs (λ i k. same i (omega arith)) h.1)

-- as far apart as so many nodes let them be
pub step-fits : (at n s m : ℕ) → at < n → s ≤ m / (n + 1) → at * s + s ≤ m
step-fits at n s m less h =
    let one = mul-le-mul_left (n + 1) h in
    let two = mul-div-le m (n + 1) in
    let steps = mul-le-mul_left {m = suc at} {n = n + 1} s (omega arith) in
    let left = mul_comm s (suc at) in
    let right = mul_comm s (n + 1) in
    let more = suc-mul at s in
    omega arith

pub step-some : (n m : ℕ) → n < m → 0 < m / (n + 1)
step-some n m less = (let e = (le-div_iff_mul-le {k = n + 1} {x = 1} {y = m} (omega arith)).1 (omega arith) in omega arith)

-- ---- a list that is read
pub take-more : (xs : List ℕ) (i x : ℕ) → slice_get xs i ≡ Some x → take (suc i) xs ≡ take i xs ++ x ∷ []
take-more [] i x e = cc
take-more (y ∷ xs) zero x e = (let z : y ≡ x = cc in ap (λ k. k ∷ []) z)
take-more (y ∷ xs) (suc i) x e = ap (λ l. y ∷ l) (take-more xs i x e)

pub held-at : (xs : List ℕ) (i x : ℕ) → slice_get xs i ≡ Some x → held x (take i xs) + 1 ≤ held x xs
held-at [] i x e = cc
held-at (y ∷ xs) zero x e = (let z : y ≡ x = cc in rw (z, eqb-same x) (omega arith))
held-at (y ∷ xs) (suc i) x e = (let z = held-at xs i x e in omega arith)

pub held-more : (xs : List ℕ) (i x : ℕ) → slice_get xs i ≡ Some x → held x xs ≤ 1 → held x (take i xs) ≡ 0
held-more xs i x e once = (let z = held-at xs i x e in omega arith)

pub none-within : (xs : List ℕ) (i : ℕ) → i < length xs → slice_get xs i ≡ None → ⊥
none-within [] i h e = absurd (omega arith)
none-within (x ∷ xs) zero h e = cc
none-within (x ∷ xs) (suc i) h e = none-within xs i (omega arith) e

some-parent : (o : Option Entry) (p : ℕ) → parent_in o ≡ Some p → IsSome o
some-parent None p h = cc
some-parent (Some e) p h = refl

pub listed-there : (f : Table) (p i x : ℕ) → AreListed f → slice_get (lists_in (f p)) i ≡ Some x → IsSome (f x)
listed-there f p i x h e = some-parent (f x) p (h.below p x (let z = held-at (lists_in (f p)) i x e in omega arith))

-- what stands in the gap
pub gap-node : (w : ℕ → ℕ) (at : ℕ) (xs : List ℕ) (gap : RisesBut w at xs) (x : ℕ) → slice_get xs at ≡ Some x → x ≡ gap.node
gap-node w at xs gap x e =
    let there : slice_get xs at ≡ Some gap.node = ap (λ l. slice_get l at) gap.is ∙ ap (slice_get (gap.before ++ gap.node ∷ gap.after)) (sym gap.at_is) ∙ at-here gap.before gap.node gap.after in
    let z : Some x ≡ Some gap.node = sym e ∙ there in cc

-- other numbers for what a node lists, which rise there, leave those of other lists as they were
pub settled : (w v : ℕ → ℕ) (f : Table) (p : ℕ) → AreListed f → ((i : ℕ) → held i (lists_in (f p)) ≡ 0 → v i ≡ w i) → ((i : ℕ) → i ≢ p → Ascends w (lists_in (f i))) → Ascends v (lists_in (f p)) → HasNumbers v f
settled w v f p listed same others here = λ i.
    (let P : ℕ → Type 0 = λ j. Ascends v (lists_in (f j)) in
    ⊎_elim (λ x. subst P (sym x.1) here)
    (λ x. ascends-same w v (lists_in (f i)) (λ j h. same j (⊎_elim
    (λ t. (let a = listed.below i j h in let b = listed.below p j t.1 in let z : Some i ≡ Some p = sym a ∙ b in absurd (x.1 (let y : i ≡ p = cc in y))))
    (λ t. t.1) (any-tells (held j (lists_in (f p))))))
    (others i x.1))
    (eqb_tells i p))

-- ---- trees
pub AreNumbered-append : (w : ℕ → ℕ) (ts us : Trees) → AreNumbered w ts → AreNumbered w us → AreNumbered w (append ts us)
AreNumbered-append w no_trees us h k = k
AreNumbered-append w (tree c bs cs rest) us h k = (h.0, h.1, h.2, AreNumbered-append w rest us h.3 k)

pub AreNumbered-ranked : (w : ℕ → ℕ) (k : ℕ) (us ts : Trees) → AreNumbered w us → AreNumbered w ts → AreNumbered w (ranked k us ts)
AreNumbered-ranked w k us no_trees h y = h
AreNumbered-ranked w k us (tree c bs cs rest) h y =
    elim (ltb k c.identity) as (λ v. AreNumbered w (cond v (append us (tree c bs cs rest)) (tree c bs cs (ranked k us rest)))) [ true ↦ AreNumbered-append w us (tree c bs cs rest) h y | false ↦ (y.0, y.1, y.2, AreNumbered-ranked w k us rest h y.3) ]

pub AreNumbered-same : (w v : ℕ → ℕ) (ts : Trees) → ((i : ℕ) → 0 < count i ts → v i ≡ w i) → AreNumbered w ts → AreNumbered v ts
AreNumbered-same w v no_trees same h = tt
AreNumbered-same w v (tree c bs cs rest) same h = (
  ascends-same w v (roots bs ++ roots cs) (λ i k. same i (let z = rw (held-append i (roots bs) (roots cs)) at k in let b = held-roots i bs in let s = held-roots i cs in omega arith)) h.0,
  AreNumbered-same w v bs (λ i k. same i (omega arith)) h.1,
  AreNumbered-same w v cs (λ i k. same i (omega arith)) h.2,
  AreNumbered-same w v rest (λ i k. same i (omega arith)) h.3,
)

-- from the trees to the rows
rows-numbered : (w : ℕ → ℕ) (f : Table) (p : Option ℕ) (ts : Trees) (i : ℕ) → Holds f p ts → AreNumbered w ts → 0 < count i ts → Ascends w (lists_in (f i))
rows-numbered w f p no_trees i h n k = absurd (omega arith)
rows-numbered w f p (tree c bs cs rest) i h n k =
    let P : Option Entry → Type 0 = λ o. Ascends w (lists_in o) in
    ⊎_elim (λ t. subst P (sym (ap f t.1 ∙ h.0)) n.0)
    (λ t. (let z = rw t.0 at k in
    ⊎_elim (λ u. rows-numbered w f (Some c.identity) bs i h.1 n.1 u.1)
    (λ u. ⊎_elim (λ v. rows-numbered w f (Some c.identity) cs i h.2 n.2 v.1) (λ v. (let nb : count i bs ≡ 0 = u.1 in let nc : count i cs ≡ 0 = v.1 in rows-numbered w f p rest i h.3 n.3 (omega arith))) (any-tells (count i cs)))
    (any-tells (count i bs)))) (eqb_tells i c.identity)

no-entry : (o : Option Entry) (n : ℕ) → n ≡ cond {A = ℕ} (is_some o) 1 0 → n ≡ 0 → o ≡ None
no-entry None n e z = refl
no-entry (Some x) n e z = absurd (omega arith)

pub numbers-of : (w : ℕ → ℕ) (f : Table) (n : ℕ) (ts : Trees) → IsTableOf f n ts → AreNumbered w ts → HasNumbers w f
numbers-of w f n ts h up = λ i.
    (let P : Option Entry → Type 0 = λ o. Ascends w (lists_in o) in
    ⊎_elim (λ t. rows-numbered w f None ts i h.holds up t.1) (λ t. subst P (sym (no-entry (f i) (count i ts) (h.counted i) t.1)) tt) (any-tells (count i ts)))

-- ---- copies, whose numbers are their identities
module _ (w : ℕ → ℕ) (first : ℕ) (own : (i : ℕ) → first ≤ i → w i ≡ i) where
  copies-above : (n m : ℕ) (us : Trees) → first ≤ n → m < n → AllAbove w m (roots (renumbered n us))
  copies-above n m no_trees f l = tt
  copies-above n m (tree c bs cs rest) f l = ((let e = own n f in omega arith), copies-above (n + 1 + size bs + size cs) m rest (omega arith) (omega arith))

  copies-below : (n m : ℕ) (us : Trees) → first ≤ n → n + size us ≤ m → EachBelow w m (roots (renumbered n us))
  copies-below n m no_trees f l = tt
  copies-below n m (tree c bs cs rest) f l = ((let e = own n f in omega arith), copies-below (n + 1 + size bs + size cs) m rest (omega arith) (omega arith))

  copies-rise : (n : ℕ) (us : Trees) → first ≤ n → Ascends w (roots (renumbered n us))
  copies-rise n no_trees f = tt
  copies-rise n (tree c bs cs rest) f =
      (copies-above (n + 1 + size bs + size cs) (w n) rest (omega arith) (let e = own n f in omega arith), copies-rise (n + 1 + size bs + size cs) rest (omega arith))

  pub copies-numbered : (n : ℕ) (us : Trees) → first ≤ n → AreNumbered w (renumbered n us)
  copies-numbered n no_trees f = tt
  copies-numbered n (tree c bs cs rest) f = (
    ascends-join w (n + size bs) (roots (renumbered (n + 1) bs)) (roots (renumbered (n + 1 + size bs) cs)) (copies-rise (n + 1) bs (omega arith)) (copies-rise (n + 1 + size bs) cs (omega arith)) (copies-below (n + 1) (suc (n + size bs)) bs (omega arith) (omega arith))
        (copies-above (n + 1 + size bs) (n + size bs) cs (omega arith) (omega arith)),
    copies-numbered (n + 1) bs (omega arith),
    copies-numbered (n + 1 + size bs) cs (omega arith),
    copies-numbered (n + 1 + size bs + size cs) rest (omega arith),
  )

-- ---- planted trees, whose numbers are their places
ranks-above : (w : ℕ → ℕ) (n m : ℕ) (us : Trees) → m < n → AreRanked w n us → AllAbove w m (roots us)
ranks-above w n m no_trees l h = tt
ranks-above w n m (tree c bs cs rest) l h = ((let e = h.0 in omega arith), ranks-above w (n + 1) m rest (omega arith) h.3)

ranks-rise : (w : ℕ → ℕ) (n : ℕ) (us : Trees) → AreRanked w n us → Ascends w (roots us)
ranks-rise w n no_trees h = tt
ranks-rise w n (tree c bs cs rest) h = (ranks-above w (n + 1) (w c.identity) rest (let e = h.0 in omega arith) h.3, ranks-rise w (n + 1) rest h.3)

ranks-join : (w : ℕ → ℕ) (n : ℕ) (us : Trees) (ys : List ℕ) → Ascends w ys → ((m : ℕ) → m < n + length (roots us) → AllAbove w m ys) → AreRanked w n us → Ascends w (roots us ++ ys)
ranks-join w n no_trees ys up above h = up
ranks-join w n (tree c bs cs rest) ys up above h = (
  above-append w (w c.identity) (roots rest) ys (ranks-above w (n + 1) (w c.identity) rest (let e = h.0 in omega arith) h.3) (above (w c.identity) (let e = h.0 in omega arith)),
  ranks-join w (n + 1) rest ys up (λ m l. above m (omega arith)) h.3,
)

pub ranks-numbered : (w : ℕ → ℕ) (n : ℕ) (us : Trees) → AreRanked w n us → AreNumbered w us
ranks-numbered w n no_trees h = tt
ranks-numbered w n (tree c bs cs rest) h = (
  ranks-join w 0 bs (roots cs) (ranks-rise w (length (roots bs)) cs h.2) (λ m l. ranks-above w (length (roots bs)) m cs (omega arith) h.2) h.1,
  ranks-numbered w 0 bs h.1,
  ranks-numbered w (length (roots bs)) cs h.2,
  ranks-numbered w (n + 1) rest h.3,
)

pub AreRanked-append : (w : ℕ → ℕ) (n : ℕ) (ts us : Trees) → AreRanked w n ts → AreRanked w (n + length (roots ts)) us → AreRanked w n (append ts us)
AreRanked-append w n no_trees us h k = (let e : n + 0 ≡ n = omega arith in rw e at k)
AreRanked-append w n (tree c bs cs rest) us h k = (h.0, h.1, h.2, AreRanked-append w (n + 1) rest us h.3 (let e : n + suc (length (roots rest)) ≡ n + 1 + length (roots rest) = omega arith in rw e at k))

pub AreRanked-same : (w v : ℕ → ℕ) (n : ℕ) (ts : Trees) → ((i : ℕ) → 0 < count i ts → v i ≡ w i) → AreRanked w n ts → AreRanked v n ts
AreRanked-same w v n no_trees same h = tt
AreRanked-same w v n (tree c bs cs rest) same h = (
  same c.identity (rw (eqb-same c.identity) (omega arith)) ∙ h.0,
  AreRanked-same w v 0 bs (λ i k. same i (omega arith)) h.1,
  AreRanked-same w v (length (roots bs)) cs (λ i k. same i (omega arith)) h.2,
  AreRanked-same w v (n + 1) rest (λ i k. same i (omega arith)) h.3,
)
