-- A list below a node, of which a part becomes other trees.
use Rattle.std.proofs.Common.{◌≡◌, ◌≢◌, ℕ, ◌+◌, ◌-◌, ◌≤◌, ◌<◌, ◌^◌, List, [], ◌∷◌, ◌++◌, take, drop, length, Bool, cond, eqb, true, false, refl, ap, sym, ◌∙◌, arith, ⊎_elim, Option, Some, None, IfSome, IsSome, is_some, subst}
use Prim.Native.Nat.{zero, suc}
use Rattle.std.specs.List.{slice_get, sum_by}
use Rattle.std.proofs.lemmas.List.{append_assoc, take-append-drop, length-append}
use Rattle.std.proofs.lemmas.Bool.{cases_lt}
use Rattle.std.proofs.lemmas.Bool.Decides.{eqb_tells}
use Rattle.data_model.specs.Trees.{Trees, append, roots, weigh, count, size}
use Rattle.data_model.specs.Changes.{with_part}
use Rattle.data_model.specs.Walks.{held}
use Rattle.data_model.specs.declared.node.Part.{Part}
use Rattle.data_model.specs.declared.node.Part.TheVariants.{Attributes, Children}
use Rattle.data_model.proofs.Climbs.{any-tells}
use Rattle.data_model.proofs.Firsts.{held-append}
use Rattle.data_model.proofs.Weights.{weigh-append, roots-append, height-le, eqb-same}
use Rattle.node_table.specs.Flat.{Entry, Table, Holds, IsTableOf, IsDocumentEntry, entry_is_root, listed, read_trees}
use Rattle.node_table.specs.Labels.{AllAbove, Ascends, AreRanked, HasNumbers, lists_in, parent_in, position_in, get_before}
use Rattle.node_table.proofs.Tables.{read-holds, Holds-same, Holds-append, count-there, count-absent}
use Rattle.node_table.proofs.Copies.{Holds-there, Holds-inner}
use Rattle.node_table.proofs.Entries.{empty-entry, some-of}
use Rattle.node_table.proofs.Plants.{size-within-identities}
use Rattle.node_table.proofs.Relists as relists
use Rattle.node_table.proofs.Relists.{Relists, relisted, emptied, IsTableOf-relisted}
use Rattle.node_table.proofs.Listings.{listed-of, length-roots}
use Rattle.node_table.proofs.Labels.{Ascends-left, Ascends-right}
use Rattle.node_table.proofs.Numbers.{EachBelow, ascends-join, ascends-same, above-first, ranks-numbered}
use Rattle.node_plans.proofs.Ranks.{ranks-above, ranks-join, rows-numbered, weigh-one}
use Rattle.node_plans.specs.Splices.{first_of, rest_of, spliced, with_list, IsFree, Writes}
use Rattle.node_plans.proofs.Items.{held-sum, length-sum}
use Rattle.node_plans.proofs.Sites.{Site, site, weigh-cut, rest-rest, roots-first, roots-rest, Holds-first, Holds-rest}

same-list : (part : Part) (is : List ℕ) (e : Entry) → relists.with_list part is e ≡ with_list part is e
same-list Attributes is e = refl
same-list Children is e = refl

list-root : (part : Part) (is : List ℕ) (e : Entry) → entry_is_root (Some (with_list part is e)) ≡ entry_is_root (Some e)
list-root Attributes is e = refl
list-root Children is e = refl

list-document : (part : Part) (is : List ℕ) (e : Entry) → IsDocumentEntry (Some e) → IsDocumentEntry (Some (with_list part is e))
list-document Attributes is e h = h
list-document Children is e h = h

document-inner : (o : Option Entry) → IsDocumentEntry o → entry_is_root o ≡ false → ⊥
document-inner None doc inner = absurd doc
document-inner (Some e) doc inner = let root : entry_is_root (Some e) ≡ true = rw doc.0 refl in (let z : true ≡ false = sym root ∙ inner in cc)

most : (b : Bool) → cond {A = ℕ} b 1 0 ≤ 1
most true = omega arith
most false = omega arith

-- ---- lists that are cut
take-left : (xs ys : List ℕ) (n : ℕ) → n ≤ length xs → take n (xs ++ ys) ≡ take n xs
take-left [] [] zero l = refl
take-left [] (y ∷ ys) zero l = refl
take-left [] ys (suc n) l = absurd (omega arith)
take-left (x ∷ xs) ys zero l = refl
take-left (x ∷ xs) ys (suc n) l = ap (λ zs. x ∷ zs) (take-left xs ys n (omega arith))

drop-left : (xs ys : List ℕ) (n : ℕ) → n ≤ length xs → drop n (xs ++ ys) ≡ drop n xs ++ ys
drop-left [] [] zero l = refl
drop-left [] (y ∷ ys) zero l = refl
drop-left [] ys (suc n) l = absurd (omega arith)
drop-left (x ∷ xs) ys zero l = refl
drop-left (x ∷ xs) ys (suc n) l = drop-left xs ys n (omega arith)

take-right : (xs ys : List ℕ) (n : ℕ) → take (length xs + n) (xs ++ ys) ≡ xs ++ take n ys
take-right [] ys n = let e : 0 + n ≡ n = omega arith in rw e
take-right (x ∷ xs) ys n = let e : suc (length xs) + n ≡ suc (length xs + n) = omega arith in rw e (ap (λ zs. x ∷ zs) (take-right xs ys n))

drop-right : (xs ys : List ℕ) (n : ℕ) → drop (length xs + n) (xs ++ ys) ≡ drop n ys
drop-right [] ys n = let e : 0 + n ≡ n = omega arith in rw e
drop-right (x ∷ xs) ys n = let e : suc (length xs) + n ≡ suc (length xs + n) = omega arith in rw e (drop-right xs ys n)

-- what a node lists, with part of one list written over
joint : (part : Part) (from to : ℕ) (e : Entry) (ms : List ℕ) → from ≤ length (listed part e) → to ≤ length (listed part e)
    → lists_in (Some (with_list part (take from (listed part e) ++ ms ++ drop to (listed part e)) e)) ≡ take (position_in part from (Some e)) (lists_in (Some e)) ++ ms ++ drop (position_in part to (Some e)) (lists_in (Some e))
joint Attributes from to e ms l k = append_assoc (take from e.attributes ++ ms) (drop to e.attributes) e.children ∙ sym (rw (take-left e.attributes e.children from l, drop-left e.attributes e.children to k) refl)
joint Children from to e ms l k =
    sym (rw (take-right e.attributes e.children from, drop-right e.attributes e.children to) (ap (λ xs. xs ++ drop to e.children) (append_assoc e.attributes (take from e.children) ms) ∙ append_assoc e.attributes (take from e.children ++ ms) (drop to e.children)))

-- ---- numbers in a list that is cut
front-below : (w : ℕ → ℕ) (n k : ℕ) (xs : List ℕ) → Ascends w xs → k ≤ length xs → IfSome (get_before xs k) (λ l. w l < n) → EachBelow w n (take k xs)
front-below w n zero [] up le low = tt
front-below w n zero (x ∷ xs) up le low = tt
front-below w n (suc k) [] up le low = absurd (omega arith)
front-below w n (suc zero) (x ∷ []) up le low = (low, tt)
front-below w n (suc zero) (x ∷ y ∷ xs) up le low = (low, tt)
front-below w n (suc (suc k)) (x ∷ []) up le low = absurd (omega arith)
front-below w n (suc (suc k)) (x ∷ y ∷ xs) up le low = (let later = front-below w n (suc k) (y ∷ xs) up.1 (omega arith) low in let l = up.0.0 in let m = later.0 in (omega arith, later))

back-above : (w : ℕ → ℕ) (n k : ℕ) (xs : List ℕ) → Ascends w xs → IfSome (slice_get xs k) (λ r. n < w r) → AllAbove w n (drop k xs)
back-above w n zero [] up high = tt
back-above w n zero (x ∷ xs) up high = above-first w n x xs up high
back-above w n (suc k) [] up high = tt
back-above w n (suc k) (x ∷ xs) up high = back-above w n k xs up.1 high

weaker : (o : Option ℕ) (P Q : ℕ → Type 0) → ((x : ℕ) → P x → Q x) → IfSome o P → IfSome o Q
weaker None P Q f h = tt
weaker (Some x) P Q f h = f x h

below-same : (v w : ℕ → ℕ) (n : ℕ) (xs : List ℕ) → ((i : ℕ) → 0 < held i xs → w i ≡ v i) → EachBelow v n xs → EachBelow w n xs
below-same v w n [] same h = tt
below-same v w n (x ∷ xs) same h = ((let e = same x (rw (eqb-same x) (omega arith)) in let l = h.0 in omega arith), below-same v w n xs (λ i l. same i (omega arith)) h.1)

above-same : (v w : ℕ → ℕ) (n : ℕ) (xs : List ℕ) → ((i : ℕ) → 0 < held i xs → w i ≡ v i) → AllAbove v n xs → AllAbove w n xs
above-same v w n [] same h = tt
above-same v w n (x ∷ xs) same h = ((let e = same x (rw (eqb-same x) (omega arith)) in let l = h.0 in omega arith), above-same v w n xs (λ i l. same i (omega arith)) h.1)

above-both : (w : ℕ → ℕ) (n : ℕ) (xs ys : List ℕ) → AllAbove w n xs → AllAbove w n ys → AllAbove w n (xs ++ ys)
above-both w n [] ys h k = k
above-both w n (x ∷ xs) ys h k = (h.0, above-both w n xs ys h.1 k)

-- trees with numbers that are free between two places stand there
rises : (v w : ℕ → ℕ) (xs : List ℕ) (start end first : ℕ) (us : Trees) → Ascends v xs → start ≤ length xs → IsFree v xs start end (size us) first → AreRanked w first us → ((i : ℕ) → 0 < held i (take start xs) + held i (drop end xs) → w i ≡ v i) → Ascends w (take start xs ++ roots us ++ drop end xs)
rises v w xs start end first us up le free ranked same =
    let some = free.some in
    let is : suc (first - 1) ≡ first = omega arith in
    let P : List ℕ → Type 0 = Ascends v in
    let all : P (take start xs ++ drop start xs) = subst P (sym (take-append-drop start xs)) up in
    let all2 : P (take end xs ++ drop end xs) = subst P (sym (take-append-drop end xs)) up in
    let later : (m : ℕ) → m < first + length (roots us) → AllAbove w m (drop end xs) =
    λ m l. above-same v w m (drop end xs) (λ i k. same i (omega arith)) (back-above v m end xs up (weaker (slice_get xs end) _ _ (λ x h. (let few = length-roots us in omega arith)) free.high)) in
    let E : ℕ → Type 0 = λ k. EachBelow w k (take start xs) in
    subst (Ascends w) (sym (append_assoc (take start xs) (roots us) (drop end xs)))
    (ascends-join w (first - 1) (take start xs) (roots us ++ drop end xs) (ascends-same v w (take start xs) (λ i k. same i (omega arith)) (Ascends-left v (take start xs) (drop start xs) all))
    (ranks-join w first us (drop end xs) (ascends-same v w (drop end xs) (λ i k. same i (omega arith)) (Ascends-right v (take end xs) (drop end xs) all2)) later ranked)
    (subst E (sym is) (below-same v w first (take start xs) (λ i k. same i (omega arith)) (front-below v first start xs up le free.low)))
    (above-both w (first - 1) (roots us) (drop end xs) (ranks-above w first (first - 1) us (omega arith) ranked) (later (first - 1) (omega arith))))

-- ---- the table
-- g is f, but that p has the trees us in the place of those of `ws`, which stand in the list of that part
pub record Splices (f g : Table) (part : Part) (p from to : ℕ) (us ws : Trees) : Type 0 where
  pub here : (e : Entry) → f p ≡ Some e → g p ≡ Some (with_list part (take from (listed part e) ++ roots us ++ drop to (listed part e)) e)
  pub planted : Holds g (Some p) us
  pub gone : (i : ℕ) → 0 < count i ws → g i ≡ None
  pub kept : (i : ℕ) → count i ws ≡ 0 → count i us ≡ 0 → i ≢ p → g i ≡ f i

module _ (f g : Table) (n : ℕ) (part : Part) (p from to : ℕ) (ts us : Trees) (h : IsTableOf f n ts) (e : Entry) (at_p : f p ≡ Some e) (le : from ≤ to) (apart : (i : ℕ) → count i ts + count i us ≤ 1) (below : (i : ℕ) → 0 < count i us → i < n) where
  abbrev pub place : Site f part p ts
  place = site f p part None ts h.holds (count-there f n ts p e h at_p)

  abbrev front : Trees
  front = first_of from place.list

  -- the trees that go
  abbrev pub cut : Trees
  cut = first_of (to - from) (rest_of from place.list)

  abbrev back : Trees
  back = rest_of to place.list

  abbrev now : Trees
  now = spliced from to us place.list

  whole : (w : ℕ → ℕ) → weigh w ts ≡ weigh w (emptied part p ts) + (weigh w front + weigh w cut + weigh w back)
  whole w =
      let a = weigh-cut w from place.list in
      let b = weigh-cut w (to - from) (rest_of from place.list) in
      let end : from + (to - from) ≡ to = omega arith in
      let c = ap (weigh w) (rest-rest from (to - from) place.list ∙ ap (λ k. rest_of k place.list) end) in
      let d = place.weighs w in
      omega arith

  new : (w : ℕ → ℕ) → weigh w now ≡ weigh w front + weigh w us + weigh w back
  new w = let a = weigh-append w front (append us back) in let b = weigh-append w us back in omega arith

  -- p stands in none of these
  none-p : (count p front ≡ 0) × (count p cut ≡ 0) × (count p back ≡ 0) × (count p us ≡ 0)
  none-p =
      let o = place.own in
      let s = place.stands in
      let w = whole (λ j. cond (eqb p j) 1 0) in
      let one = count-there f n ts p e h at_p in
      let a = apart p in
      (omega arith, omega arith, omega arith, omega arith)

  apart-p : (i : ℕ) (xs : Trees) → count p xs ≡ 0 → 0 < count i xs → i ≢ p
  apart-p i xs z l same = (let y : count i xs ≡ count p xs = ap (λ j. count j xs) same in absurd (omega arith))

  roots-now : (d : Entry) → f p ≡ Some d → roots now ≡ take from (listed part d) ++ roots us ++ drop to (listed part d)
  roots-now d at =
      let fs : roots front ≡ take from (listed part d) = roots-first from place.list ∙ ap (take from) (sym (place.entry d at)) in
      let ls : roots back ≡ drop to (listed part d) = roots-rest to place.list ∙ ap (drop to) (sym (place.entry d at)) in
      let one = roots-append front (append us back) in
      let two = ap (λ xs. roots front ++ xs) (roots-append us back) in
      let three = sym (append_assoc (roots front) (roots us) (roots back)) in
      let four : roots front ++ roots us ++ roots back ≡ take from (listed part d) ++ roots us ++ drop to (listed part d) = λ i. fs i ++ roots us ++ ls i in
      one ∙ two ∙ three ∙ four

  pub cut-within : (i : ℕ) → count i cut ≤ count i ts
  cut-within i = let w = whole (λ j. cond (eqb i j) 1 0) in omega arith

  pub cut-apart : count p cut ≡ 0
  cut-apart = none-p.1

  -- they are what is read of that part of the list
  pub cut-read : read_trees n f (take (to - from) (drop from (listed part e))) ≡ cut
  cut-read =
      let is : take (to - from) (drop from (listed part e)) ≡ roots cut = sym (roots-first (to - from) (rest_of from place.list) ∙ ap (take (to - from)) (roots-rest from place.list ∙ ap (drop from) (sym (place.entry e at_p)))) in
      let small = whole (λ _. 1) in
      let fits = h.fits in
      let low = height-le cut in
      ap (read_trees n f) is ∙ read-holds f (Some p) cut n (Holds-first f (Some p) (to - from) (rest_of from place.list) (Holds-rest f (Some p) from place.list place.held)) (omega arith)

  module _ (s : Splices f g part p from to us cut) where
    same : (i : ℕ) → 0 < count i (emptied part p ts) + count i front + count i back → i ≢ p → g i ≡ f i
    same i l ne =
        let w = whole (λ j. cond (eqb i j) 1 0) in
        let a = apart i in
        s.kept i (omega arith) (omega arith) ne

    held-now : Holds g (Some p) now
    held-now =
        Holds-append g (Some p) front (append us back) (Holds-same f g (Some p) front (λ i l. same i (omega arith) (apart-p i front none-p.0 l)) (Holds-first f (Some p) from place.list place.held))
        (Holds-append g (Some p) us back s.planted (Holds-same f g (Some p) back (λ i l. same i (omega arith) (apart-p i back none-p.2 l)) (Holds-rest f (Some p) to place.list place.held)))

    counts-now : (i : ℕ) → count i (emptied part p ts) + count i now ≡ cond (is_some (g i)) 1 0
    counts-now i =
        let w = whole (λ j. cond (eqb i j) 1 0) in
        let x = new (λ j. cond (eqb i j) 1 0) in
        let a = apart i in
        ⊎_elim (λ t. (let l = t.1 in rw (s.gone i t.1) (omega arith)))
        (λ t. (let z : count i cut ≡ 0 = t.1 in
        ⊎_elim (λ u. (let l = u.1 in rw (Holds-there g (Some p) us i s.planted u.1) (omega arith)))
        (λ u. (let y : count i us ≡ 0 = u.1 in
        ⊎_elim
        (λ (v : (eqb i p ≡ true) × (i ≡ p)).
        (let there : is_some (g i) ≡ true = ap (λ j. is_some (g j)) v.1 ∙ ap is_some (s.here e at_p) in
        let one : count i ts ≡ 1 = ap (λ j. count j ts) v.1 ∙ count-there f n ts p e h at_p in
        rw there (omega arith)))
        (λ (v : (eqb i p ≡ false) × (i ≢ p)). (let was = h.counted i in rw (s.kept i z y v.1) (omega arith)))
        (eqb_tells i p)))
        (any-tells (count i us))))
        (any-tells (count i cut))

    roots-kept : (i : ℕ) → entry_is_root (g i) ≡ entry_is_root (f i)
    roots-kept i =
        let w = whole (λ j. cond (eqb i j) 1 0) in
        let x = place.weighs (λ j. cond (eqb i j) 1 0) in
        let a = apart i in
        ⊎_elim (λ t. (let l = t.1 in let in_list : 0 < count i place.list = (let c1 = weigh-cut (λ j. cond (eqb i j) 1 0) from place.list in let c2 = weigh-cut (λ j. cond (eqb i j) 1 0) (to - from) (rest_of from place.list) in omega arith) in ap entry_is_root (s.gone i t.1) ∙ sym (Holds-inner f p place.list i place.held in_list)))
        (λ t. (let z : count i cut ≡ 0 = t.1 in
        ⊎_elim (λ u. (let l = u.1 in let none : count i ts ≡ 0 = omega arith in Holds-inner g p us i s.planted u.1 ∙ sym (ap entry_is_root (empty-entry (f i) (sym none ∙ h.counted i)))))
        (λ u. (let y : count i us ≡ 0 = u.1 in
        ⊎_elim
        (λ (v : (eqb i p ≡ true) × (i ≡ p)). rw v.1 (ap entry_is_root (s.here e at_p) ∙ list-root part _ e ∙ sym (ap entry_is_root at_p)))
        (λ (v : (eqb i p ≡ false) × (i ≢ p)). ap entry_is_root (s.kept i z y v.1))
        (eqb_tells i p)))
        (any-tells (count i us))))
        (any-tells (count i cut))

    none-above : (i : ℕ) → n ≤ i → g i ≡ None
    none-above i l =
        let absent = h.above i l in
        let none = count-absent f n ts i h absent in
        let w = whole (λ j. cond (eqb i j) 1 0) in
        let no_us : count i us ≡ 0 = ⊎_elim (λ u. (let b = below i u.1 in absurd (omega arith))) (λ u. u.1) (any-tells (count i us)) in
        s.kept i (omega arith) no_us (λ same. (let z : Some e ≡ None = sym at_p ∙ ap f (sym same) ∙ absent in cc)) ∙ absent

    fits-now : size (emptied part p ts) + size now ≤ n
    fits-now =
        let total = weigh-one (λ _. 1) part p now ts place.stands in
        let small = size-within-identities n (relisted part p now ts)
        (λ i. (let c1 = weigh-one (λ j. cond (eqb i j) 1 0) part p now ts place.stands in let k = counts-now i in let m = most (is_some (g i)) in omega arith))
        (λ i l. (let c1 = weigh-one (λ j. cond (eqb i j) 1 0) part p now ts place.stands in let w = whole (λ j. cond (eqb i j) 1 0) in let x = new (λ j. cond (eqb i j) 1 0) in
        ⊎_elim (λ u. below i u.1) (λ u. (let y : count i us ≡ 0 = u.1 in ⊎_elim (λ k. k) (λ k. (let none = count-absent f n ts i h (h.above i k) in absurd (omega arith))) (cases_lt i n))) (any-tells (count i us)))) in
        omega arith

    is-relisted : Relists f g n part p now ts
    is-relisted = record {
      stands = place.stands;
      here = λ d at. s.here d at ∙ ap (λ xs. Some (with_list part xs d)) (sym (roots-now d at)) ∙ ap Some (sym (same-list part (roots now) d));
      held = held-now;
      kept = λ i l ne. same i (omega arith) ne;
      counts = counts-now;
      above = none-above;
      fits = fits-now;
      same_roots = roots-kept;
    }

    pub spliced-table : IsTableOf g n (with_part part p (spliced from to us) ts)
    spliced-table = let P : Trees → Type 0 = IsTableOf g n in subst P (sym (place.rewrites (spliced from to us))) (IsTableOf-relisted f g n n part p now ts (omega arith) h is-relisted)

    pub spliced-size : size (with_part part p (spliced from to us) ts) + size cut ≡ size ts + size us
    spliced-size =
        let is = ap size (place.rewrites (spliced from to us)) in
        let total = weigh-one (λ _. 1) part p now ts place.stands in
        let w = whole (λ _. 1) in
        let x = new (λ _. 1) in
        omega arith

    pub spliced-documents : (i : ℕ) → IsDocumentEntry (f i) → IsDocumentEntry (g i)
    spliced-documents i doc =
        let P : Option Entry → Type 0 = IsDocumentEntry in
        let a = apart i in
        ⊎_elim (λ t. (let l = t.1 in let in_list : 0 < count i place.list = (let c1 = weigh-cut (λ j. cond (eqb i j) 1 0) from place.list in let c2 = weigh-cut (λ j. cond (eqb i j) 1 0) (to - from) (rest_of from place.list) in omega arith) in absurd (document-inner (f i) doc (Holds-inner f p place.list i place.held in_list))))
        (λ t. (let z : count i cut ≡ 0 = t.1 in
        ⊎_elim (λ u. (let l = u.1 in let none : count i ts ≡ 0 = omega arith in absurd (subst P (empty-entry (f i) (sym none ∙ h.counted i)) doc)))
        (λ u. (let y : count i us ≡ 0 = u.1 in
        ⊎_elim
        (λ (v : (eqb i p ≡ true) × (i ≡ p)). subst P (sym (ap g v.1 ∙ s.here e at_p)) (list-document part _ e (subst P (ap f v.1 ∙ at_p) doc)))
        (λ (v : (eqb i p ≡ false) × (i ≢ p)). subst P (sym (s.kept i z y v.1)) doc)
        (eqb_tells i p)))
        (any-tells (count i us))))
        (any-tells (count i cut))

    module _ (bound : n ≤ 2 ^ 62) (within : to ≤ length (listed part e)) (v w : ℕ → ℕ) (up : HasNumbers v f) (kept : (i : ℕ) → count i cut ≡ 0 → count i us ≡ 0 → w i ≡ v i) (first : ℕ) (ranked : AreRanked w first us)
        (free : IsFree v (lists_in (Some e)) (position_in part from (Some e)) (position_in part to (Some e)) (size us) first) where
      -- what the rows of g list stays
      some-kept : (i j : ℕ) → 0 < held j (lists_in (g i)) → count j cut ≡ 0
      some-kept i j l =
          ⊎_elim (λ t. (let at = (listed-of g n (with_part part p (spliced from to us) ts) spliced-table bound).below i j l in let z : parent_in (g j) ≡ None = ap parent_in (s.gone j t.1) in let y : Some i ≡ None = sym at ∙ z in cc)) (λ t. t.1) (any-tells (count j cut))

      -- and what those of f list was there
      none-new : (i j : ℕ) → 0 < held j (lists_in (f i)) → count j us ≡ 0
      none-new i j l =
          ⊎_elim (λ t. (let some = t.1 in let a = apart j in let none : count j ts ≡ 0 = omega arith in
          let at = (listed-of f n ts h bound).below i j l in let z : parent_in (f j) ≡ None = ap parent_in (empty-entry (f j) (sym none ∙ h.counted j)) in let y : Some i ≡ None = sym at ∙ z in cc)) (λ t. t.1) (any-tells (count j us))

      abbrev all : List ℕ
      all = lists_in (Some e)

      lists-p : lists_in (g p) ≡ take (position_in part from (Some e)) all ++ roots us ++ drop (position_in part to (Some e)) all
      lists-p = ap lists_in (s.here e at_p) ∙ joint part from to e (roots us) (omega arith) within

      in-cut : (k j : ℕ) → held j (take k all) ≤ held j all
      in-cut k j = (let z = ap (held j) (take-append-drop k all) in let y = held-append j (take k all) (drop k all) in omega arith)

      in-left : (k j : ℕ) → held j (drop k all) ≤ held j all
      in-left k j = (let z = ap (held j) (take-append-drop k all) in let y = held-append j (take k all) (drop k all) in omega arith)

      same-p : (j : ℕ) → 0 < held j (take (position_in part from (Some e)) all) + held j (drop (position_in part to (Some e)) all) → w j ≡ v j
      same-p j l =
          let a = in-cut (position_in part from (Some e)) j in
          let b = in-left (position_in part to (Some e)) j in
          let c1 = held-append j (take (position_in part from (Some e)) all ++ roots us) (drop (position_in part to (Some e)) all) in
          let c2 = held-append j (take (position_in part from (Some e)) all) (roots us) in
          let d = ap (held j) lists-p in
          let o = ap (λ o. held j (lists_in o)) at_p in
          kept j (some-kept p j (omega arith)) (none-new p j (omega arith))

      start-within : (q : Part) (k : ℕ) → k ≤ length (listed q e) → position_in q k (Some e) ≤ length all
      start-within Attributes k l = omega (arith, length-append e.attributes e.children)
      start-within Children k l = omega (arith, length-append e.attributes e.children)

      rises-p : Ascends w (lists_in (g p))
      rises-p =
          let P : List ℕ → Type 0 = Ascends w in
          let Q : Option Entry → Type 0 = λ o. Ascends v (lists_in o) in
          subst P (sym lists-p) (rises v w all (position_in part from (Some e)) (position_in part to (Some e)) first us (subst Q at_p (up p)) (start-within part from (omega arith)) free ranked same-p)

      pub spliced-numbers : HasNumbers w g
      spliced-numbers i =
          let Q : Option Entry → Type 0 = λ o. Ascends w (lists_in o) in
          ⊎_elim (λ t. subst Q (sym (s.gone i t.1)) tt)
          (λ t. (let z : count i cut ≡ 0 = t.1 in
          ⊎_elim (λ u. rows-numbered w g (Some p) us i s.planted (ranks-numbered w first us ranked) u.1)
          (λ u. (let y : count i us ≡ 0 = u.1 in
          ⊎_elim
          (λ (x : (eqb i p ≡ true) × (i ≡ p)). (let P : ℕ → Type 0 = λ k. Ascends w (lists_in (g k)) in subst P (sym x.1) rises-p))
          (λ (x : (eqb i p ≡ false) × (i ≢ p)). (let same = s.kept i z y x.1 in
          let there : (j : ℕ) → held j (lists_in (g i)) ≡ held j (lists_in (f i)) = λ j. ap (λ o. held j (lists_in o)) same in
          subst Q (sym same) (ascends-same v w (lists_in (f i)) (λ j l. kept j (some-kept i j (let k = there j in omega arith)) (none-new i j l)) (up i))))
          (eqb_tells i p)))
          (any-tells (count i us))))
          (any-tells (count i cut))

-- ---- what is written, by what was outlined
module _ (f : Table) (n : ℕ) (v : ℕ → ℕ) (part : Part) (p from to first : ℕ) (list gone : List ℕ) (ts us : Trees) (h : IsTableOf f n ts) (bound : n ≤ 2 ^ 62) (up : HasNumbers v f) (has : IsSome (f p)) (le : from ≤ to) (within : (e : Entry) → f p ≡ Some e → to ≤ length (listed part e)) (apart : (i : ℕ) → count i ts + count i us ≤ 1)
    (below : (i : ℕ) → 0 < count i us → i < n)
    (free : (e : Entry) → f p ≡ Some e → IsFree v (lists_in (Some e)) (position_in part from (Some e)) (position_in part to (Some e)) (size us) first)
    (list_is : (e : Entry) → f p ≡ Some e → list ≡ take from (listed part e) ++ roots us ++ drop to (listed part e))
    (gone_is : (e : Entry) → f p ≡ Some e → (w : ℕ → ℕ) → sum_by w gone ≡ weigh w (read_trees n f (take (to - from) (drop from (listed part e))))) where
  own : (e : Entry) × (f p ≡ Some e)
  own = some-of (f p) has

  abbrev goes : Trees
  goes = cut f f n part p from to ts us h own.0 own.1 le apart below

  goes-is : (w : ℕ → ℕ) → sum_by w gone ≡ weigh w goes
  goes-is w = gone_is own.0 own.1 w ∙ ap (weigh w) (cut-read f f n part p from to ts us h own.0 own.1 le apart below)

  held-goes : (i : ℕ) → held i gone ≡ count i goes
  held-goes i = held-sum i gone ∙ goes-is (λ j. cond (eqb i j) 1 0)

  pub outlined-stays : held p gone ≡ 0
  outlined-stays = held-goes p ∙ cut-apart f f n part p from to ts us h own.0 own.1 le apart below

  pub outlined-fresh : (i : ℕ) → 0 < count i us → f i ≡ None
  outlined-fresh i l = (let a = apart i in let none : count i ts ≡ 0 = omega arith in empty-entry (f i) (sym none ∙ h.counted i))

  pub outlined-apart : (i : ℕ) → 0 < count i us → held i gone ≡ 0
  outlined-apart i l = (let a = apart i in let m = cut-within f f n part p from to ts us h own.0 own.1 le apart below i in let z = held-goes i in omega arith)

  pub outlined-fits : first + size us < 2 ^ 64
  outlined-fits = (free own.0 own.1).fits

  module _ (g : Table) (w : ℕ → ℕ) (wr : Writes f g v w part p first list gone us) where
    splices : Splices f g part p from to us goes
    splices = record {
      here = λ d at. wr.here d at ∙ ap (λ xs. Some (with_list part xs d)) (list_is d at);
      planted = wr.planted;
      gone = λ i l. wr.left i (let z = held-goes i in omega arith);
      kept = λ i z y ne. wr.kept i (held-goes i ∙ z) y ne;
    }

    pub written-table : IsTableOf g n (with_part part p (spliced from to us) ts)
    written-table = spliced-table f g n part p from to ts us h own.0 own.1 le apart below splices

    pub written-size : size (with_part part p (spliced from to us) ts) + length gone ≡ size ts + size us
    written-size =
        let s = spliced-size f g n part p from to ts us h own.0 own.1 le apart below splices in
        let l = length-sum gone ∙ goes-is (λ _. 1) in
        omega arith

    pub written-documents : (i : ℕ) → IsDocumentEntry (f i) → IsDocumentEntry (g i)
    written-documents = spliced-documents f g n part p from to ts us h own.0 own.1 le apart below splices

    pub written-numbers : HasNumbers w g
    written-numbers =
        spliced-numbers f g n part p from to ts us h own.0 own.1 le apart below splices bound (within own.0 own.1) v w up (λ i z y. wr.same i (held-goes i ∙ z) y) first wr.ranked (free own.0 own.1)
