-- A text in its list: what becomes of the trees where those after it are merged into it, and where it goes.
use Rattle.std.proofs.Common.{◌≡◌, ℕ, ◌+◌, ◌≤◌, ◌<◌, true, false, List, [], ◌∷◌, ◌++◌, length, take, drop, cond, eqb, refl, ap, sym, ◌∙◌, arith, ⊎_elim, Option, Some, None, IsSome, option_map, subst, append-nil}
use Prim.Native.Nat.{suc}
use Rattle.std.specs.List.{slice_get}
use Rattle.std.proofs.lemmas.Bool.{cases_Bool}
use Rattle.std.proofs.lemmas.Bool.Decides.{eqb_tells}
use Rattle.data_model.specs.Trees.{Trees, no_trees, tree, Content, Place, append, roots, weigh, count, first, find, find_below, is_text}
use Rattle.data_model.specs.Changes.{with_part, with_content, part_of}
use Rattle.data_model.specs.declared.node.Part.{Part}
use Rattle.data_model.specs.declared.node.Part.TheVariants.{Attributes, Children}
use Rattle.data_model.proofs.Weights.{eqb-same, weigh-append}
use Rattle.data_model.proofs.Climbs.{AreDistinct, find-absent, find-present, first-some, there-counts}
use Rattle.node_table.specs.Flat.{Entry, Table, Holds, entry_of, entry_at, entry_in, listed}
use Rattle.node_table.proofs.Entries.{some-of, attributes-in, children-in, is_some-entry}
use Rattle.node_table.proofs.Relists.{relisted, emptied, weigh-relisted}
use Rattle.node_table.proofs.Tables.{Holds-same}
use Rattle.node_plans.specs.Splices.{first_of, rest_of, spliced}
use Rattle.node_plans.proofs.Sites.{Site, site, weigh-cut, roots-rest, Holds-rest}
use Rattle.tracked_drafts.proofs.Tests.{first-rest}
use Rattle.tracked_drafts.specs.Tests.{all_but, is_apart, is_filled}
use Rattle.pending.specs.Texts.{is_empty_text}
use Rattle.apply.proofs.Leading.{leading, leading_text}
use Rattle.apply.specs.Texts.{is_text_at, text_at, first_texts, texts_of, merged_below, filled_below}
use Rattle.apply.proofs.Merges.{more, leading-ends, merged-leading, merged-append, merged-below-relisted, filled-append, filled-below-relisted, filled-without, rest-zero}
use Rattle.apply.proofs.Alls.{but-relisted, but-merged, but-left}
use Rattle.apply.proofs.Cuts.{cut-after, cut-at, content-relisted, content-at, part-same, get-drop, get-within}

-- ---- what is found says what the trees say
pub holds-found : (q : Option ℕ) (ts : Trees) → AreDistinct ts → Holds (λ i. option_map entry_at (find_below q i ts)) q ts
holds-found q no_trees d = tt
holds-found q (tree c bs cs rest) d =
    let f : Table = λ i. option_map entry_at (find_below q i (tree c bs cs rest)) in
    let p : Option ℕ = Some c.identity in
    let other : (i : ℕ) → 0 < count i bs + count i cs + count i rest → eqb i c.identity ≡ false = λ i h. ⊎_elim (λ t. (let z = rw t.0 at (d i) in absurd (omega arith))) (λ t. t.0) (eqb_tells i c.identity) in (
      rw (eqb-same c.identity) refl,
      Holds-same (λ i. option_map entry_at (find_below p i bs)) f p bs
          (λ i h. ap (option_map entry_at) (rw (other i (omega arith)) (first-some (find_below p i bs) (first (find_below p i cs) (find_below q i rest)) (find-present p i bs h))))
          (holds-found p bs (λ i. (let l = d i in omega arith))),
      Holds-same (λ i. option_map entry_at (find_below p i cs)) f p cs
          (λ i h. (let none : count i bs ≡ 0 = (let l = d i in omega arith) in
          ap (option_map entry_at) (rw (other i (omega arith), find-absent p i bs none) (first-some (find_below p i cs) (find_below q i rest) (find-present p i cs h)))))
          (holds-found p cs (λ i. (let l = d i in omega arith))),
      Holds-same (λ i. option_map entry_at (find_below q i rest)) f q rest
          (λ i h. (let nb : count i bs ≡ 0 = (let l = d i in omega arith) in
          let nc : count i cs ≡ 0 = (let l = d i in omega arith) in
          ap (option_map entry_at) (rw (other i (omega arith), find-absent p i bs nb, find-absent p i cs nc) refl)))
          (holds-found q rest (λ i. (let l = d i in omega arith))),
    )

-- ---- what is found of the nodes of a list
pub kind-of : (o : Option Place) (e : Entry) → option_map entry_at o ≡ Some e → (is_text_at o ≡ is_text e.kind) × (text_at o ≡ e.text)
kind-of None e h = cc
kind-of (Some x) e h = let k : entry_at x ≡ e = cc in (ap (λ (z : Entry). is_text z.kind) k, ap (λ (z : Entry). z.text) k)

pub first-is : (ts : Trees) (q : Option ℕ) (rs : Trees) → Holds (λ i. entry_in i ts) q rs → first_texts ts (roots rs) ≡ leading rs
first-is ts q no_trees h = refl
first-is ts q (tree c bs cs rest) h = rw ((kind-of (find c.identity ts) (entry_of c q (roots bs) (roots cs)) h.0).0, first-is ts q rest h.3) refl

pub texts-are : (ts : Trees) (q : Option ℕ) (rs : Trees) → Holds (λ i. entry_in i ts) q rs → texts_of ts (take (leading rs) (roots rs)) ≡ leading_text rs
texts-are ts q no_trees h = refl
texts-are ts q (tree c bs cs rest) h =
    ⊎_elim (λ e. rw e (rw (kind-of (find c.identity ts) (entry_of c q (roots bs) (roots cs)) h.0).1 (ap (λ s. c.text ++ s) (texts-are ts q rest h.3)))) (λ e. rw e refl) (cases_Bool (is_text c.kind))

leading-within : (rs : Trees) → leading rs ≤ length (roots rs)
leading-within no_trees = omega arith
leading-within (tree c bs cs rest) = ⊎_elim (λ e. rw e (omega (arith, leading-within rest))) (λ e. rw e (omega arith)) (cases_Bool (is_text c.kind))

-- where no text comes first, there is nothing to take in
none-first : (rs : Trees) → leading rs ≡ 0 → leading_text rs ≡ []
none-first no_trees h = refl
none-first (tree c bs cs rest) h = ⊎_elim (λ e. (let z = rw e at h in absurd (omega arith))) (λ e. rw e refl) (cases_Bool (is_text c.kind))

-- ---- the tree at a place of a list
record At (us : Trees) (k i : ℕ) : Type 0 where
  pub content : Content
  pub attributes : Trees
  pub children : Trees
  pub others : Trees
  pub is : rest_of k us ≡ tree content attributes children others
  pub identity : content.identity ≡ i

tree-at : (us : Trees) (k i : ℕ) (is : List ℕ) (vs : Trees) → rest_of k us ≡ vs → roots vs ≡ i ∷ is → At us k i
tree-at us k i is no_trees e h = cc
tree-at us k i is (tree c bs cs rest) e h = record { content = c; attributes = bs; children = cs; others = rest; is = e; identity = (let z : c.identity ≡ i = cc in z) }

-- the nodes after the place k of a list, with how many texts they begin, and what those say
abbrev pub after_place : Part → ℕ → ℕ → Trees → List ℕ
after_place part p k ts = drop (suc k) (part_of part p ts)

abbrev pub followers : Part → ℕ → ℕ → Trees → ℕ
followers part p k ts = first_texts ts (after_place part p k ts)

abbrev pub followers_text : Part → ℕ → ℕ → Trees → List ℕ
followers_text part p k ts = texts_of ts (take (followers part p k ts) (after_place part p k ts))

-- the trees without them, and those in which moreover the node i, at that place, says what they said
abbrev pub without_followers : Part → ℕ → ℕ → Trees → Trees
without_followers part p k ts = with_part part p (spliced (suc k) (suc k + followers part p k ts) no_trees) ts

abbrev pub with_followers : Part → ℕ → ℕ → ℕ → Trees → Trees
with_followers part p k i ts = with_content i (λ c. record c { text = text_at (find i ts) ++ followers_text part p k ts }) (without_followers part p k ts)

-- what becomes of the trees where the text i takes in the texts after it
pub record Merged (part : Part) (p k i : ℕ) (ts : Trees) : Type 0 where
  pub parent : IsSome (find p ts)
  pub within : suc k + followers part p k ts ≤ length (part_of part p ts)
  pub stays : IsSome (find i (without_followers part p k ts))
  pub same : merged_below (with_followers part p k i ts) ≡ merged_below ts
  pub apart : (is : List ℕ) → all_but (i ∷ is) is_apart 0 ts ≡ true → all_but is is_apart 0 (with_followers part p k i ts) ≡ true
  pub alone : followers part p k ts ≡ 0 → (is : List ℕ) → all_but (i ∷ is) is_apart 0 ts ≡ true → all_but is is_apart 0 ts ≡ true

-- what becomes of them where it goes, and is empty
pub record Left (part : Part) (p k i : ℕ) (ts : Trees) : Type 0 where
  pub parent : IsSome (find p ts)
  pub within : suc k ≤ length (part_of part p ts)
  pub same : filled_below (with_part part p (spliced k (suc k) no_trees) ts) ≡ filled_below ts
  pub filled : (is : List ℕ) → all_but (i ∷ is) is_filled 0 ts ≡ true → all_but is is_filled 0 (with_part part p (spliced k (suc k) no_trees) ts) ≡ true

parent-there : (part : Part) (p k i : ℕ) (ts : Trees) → slice_get (part_of part p ts) k ≡ Some i → IsSome (find p ts)
parent-there part p k i ts h = by part (find p ts) refl h
  where
    by : (part : Part) (o : Option Place) → find p ts ≡ o → slice_get (part_of part p ts) k ≡ Some i → IsSome o
    by Attributes None e h = (let z = rw e at h in cc)
    by Children None e h = (let z = rw e at h in cc)
    by part (Some x) e h = refl

ids-of : (part : Part) (p : ℕ) (ts : Trees) (e : Entry) → entry_in p ts ≡ Some e → part_of part p ts ≡ listed part e
ids-of Attributes p ts e is = attributes-in p ts e is
ids-of Children p ts e is = children-in p ts e is

-- with nothing to take in
more-none : (c : Content) (bs cs rs : Trees) → leading rs ≡ 0 → tree (more c (leading_text rs)) bs cs (rest_of (leading rs) rs) ≡ tree c bs cs rs
more-none c bs cs rs h = rw (h, none-first rs h) (rw (append-nil c.text, rest-zero rs) refl)

module _ (part : Part) (p k i : ℕ) (ts : Trees) (d : AreDistinct ts) (h : slice_get (part_of part p ts) k ≡ Some i) where
  there : IsSome (find p ts)
  there = parent-there part p k i ts h

  entry : (e : Entry) × (entry_in p ts ≡ Some e)
  entry = some-of (entry_in p ts) (is_some-entry (find p ts) ∙ there)

  place : Site (λ j. entry_in j ts) part p ts
  place = site (λ j. entry_in j ts) p part None ts (holds-found None ts d) (let l = d p in let m = there-counts p ts there in omega arith)

  abbrev ids : List ℕ
  ids = part_of part p ts

  abbrev us : Trees
  us = place.list

  ids-are : ids ≡ roots us
  ids-are = ids-of part p ts entry.0 entry.1 ∙ place.entry entry.0 entry.1

  from-here : roots (rest_of k us) ≡ i ∷ drop (suc k) ids
  from-here = roots-rest k us ∙ ap (drop k) (sym ids-are) ∙ get-drop k i ids h

  here : At us k i
  here = tree-at us k i (drop (suc k) ids) (rest_of k us) refl from-here

  abbrev c : Content
  c = here.content

  abbrev bs : Trees
  bs = here.attributes

  abbrev cs : Trees
  cs = here.children

  abbrev rs : Trees
  rs = here.others

  abbrev xs : Trees
  xs = first_of k us

  held : Holds (λ j. entry_in j ts) (Some p) (tree c bs cs rs)
  held = let P : Trees → Type 0 = Holds (λ j. entry_in j ts) (Some p) in subst P here.is (Holds-rest (λ j. entry_in j ts) (Some p) k us place.held)

  after-here : roots rs ≡ drop (suc k) ids
  after-here = let e : c.identity ∷ roots rs ≡ i ∷ drop (suc k) ids = sym (ap roots here.is) ∙ from-here in (let z : roots rs ≡ drop (suc k) ids = cc in z)

  -- how many texts come after it, and what they say
  n-is : followers part p k ts ≡ leading rs
  n-is = ap (first_texts ts) (sym after-here) ∙ first-is ts (Some p) rs held.3

  said-is : followers_text part p k ts ≡ leading_text rs
  said-is = (λ t. texts_of ts (take (n-is t) (sym after-here t))) ∙ texts-are ts (Some p) rs held.3

  kind-is : is_text_at (find c.identity ts) ≡ is_text c.kind
  kind-is = (kind-of (find c.identity ts) (entry_of c (Some p) (roots bs) (roots cs)) held.0).0

  text-is : text_at (find c.identity ts) ≡ c.text
  text-is = (kind-of (find c.identity ts) (entry_of c (Some p) (roots bs) (roots cs)) held.0).1

  -- it stands here alone
  abbrev w : ℕ → ℕ
  w j = cond (eqb c.identity j) 1 0

  alone-here : count c.identity (emptied part p ts) + count c.identity xs + count c.identity bs + count c.identity cs + count c.identity rs ≡ 0
  alone-here =
      let l = d c.identity in
      let whole = place.weighs w in
      let cut = weigh-cut w k us in
      let one : weigh w (rest_of k us) ≡ 1 + weigh w bs + weigh w cs + weigh w rs = ap (weigh w) here.is ∙ rw (eqb-same c.identity) refl in
      omega arith

  list-is : us ≡ append xs (tree c bs cs rs)
  list-is = sym (first-rest k us) ∙ ap (append xs) here.is

  trees-are : ts ≡ relisted part p (append xs (tree c bs cs rs)) ts
  trees-are = sym (part-same part p ts) ∙ place.rewrites (λ t. t) ∙ ap (λ v. relisted part p v ts) list-is

  -- ---- the texts after it go
  abbrev ws : Trees
  ws = append xs (tree c bs cs (rest_of (leading rs) rs))

  cut-is : without_followers part p k ts ≡ relisted part p ws ts
  cut-is = ap (λ m. with_part part p (spliced (suc k) (suc k + m) no_trees) ts) n-is ∙ place.rewrites (spliced (suc k) (suc k + leading rs) no_trees) ∙ ap (λ v. relisted part p v ts) (cut-after k (leading rs) us c bs cs rs here.is)

  stays : IsSome (find c.identity (without_followers part p k ts))
  stays =
      let sum = weigh-relisted w part p ws ts in
      let stands = place.stands in
      let some : 0 < weigh w ws = (let a = weigh-append w xs (tree c bs cs (rest_of (leading rs) rs)) in let one = eqb-same c.identity in let y : w c.identity ≡ 1 = rw one refl in omega arith) in
      let all : 0 < weigh w (relisted part p ws ts) = (let z = rw stands at sum in omega arith) in
      let P : Trees → Type 0 = λ t. IsSome (find c.identity t) in
      subst P (sym cut-is) (find-present None c.identity (relisted part p ws ts) all)

  -- ---- and it takes them in
  abbrev vs : Trees
  vs = append xs (tree (more c (leading_text rs)) bs cs (rest_of (leading rs) rs))

  after-is : with_followers part p k c.identity ts ≡ relisted part p vs ts
  after-is =
      let g : Content → Content = λ x. record x { text = c.text ++ leading_text rs } in
      let left = weigh-cut w (leading rs) rs in
      (λ t. with_content c.identity (λ x. record x { text = text-is t ++ said-is t }) (cut-is t))
      ∙ content-relisted c.identity g part p ws ts (let z = alone-here in omega arith)
      ∙ ap (λ v. relisted part p v ts) (content-at g xs c bs cs (rest_of (leading rs) rs) (let z = alone-here in omega arith))

  -- but for the node itself, texts are apart as they were
  apart-then : (is : List ℕ) → all_but (c.identity ∷ is) is_apart 0 ts ≡ true → all_but is is_apart 0 (relisted part p vs ts) ≡ true
  apart-then is a =
      let P : Trees → Type 0 = λ t. all_but (c.identity ∷ is) is_apart 0 t ≡ true in
      but-relisted c.identity is is_apart (λ m x ds es fs gs b. refl) p (append xs (tree c bs cs rs)) vs (λ m. but-merged is m (leading rs) xs c (leading_text rs) bs cs rs (let z = alone-here in omega arith) (leading-ends rs)) part 0 ts (let z = alone-here in omega arith)
      (subst P trees-are a)

  vs-alone : followers part p k ts ≡ 0 → relisted part p vs ts ≡ ts
  vs-alone z = ap (λ v. relisted part p (append xs v) ts) (more-none c bs cs rs (sym n-is ∙ z)) ∙ sym trees-are

  merged-here : is_text c.kind ≡ true → Merged part p k c.identity ts
  merged-here text = record {
    parent = there;
    within = (let few = leading-within rs in let e = n-is in let l = ap length after-here in let m = get-within k i ids h in omega arith);
    stays = stays;
    same = ap merged_below after-is ∙ merged-below-relisted part p vs (append xs (tree c bs cs rs)) ts (merged-append xs (tree (more c (leading_text rs)) bs cs (rest_of (leading rs) rs)) (tree c bs cs rs) (merged-leading c bs cs rs text)) ∙ sym (ap merged_below trees-are);
    apart = λ is a. (let P : Trees → Type 0 = λ t. all_but is is_apart 0 t ≡ true in subst P (sym after-is) (apart-then is a));
    alone = λ z is a. (let P : Trees → Type 0 = λ t. all_but is is_apart 0 t ≡ true in subst P (vs-alone z) (apart-then is a));
  }

  pub merged-at : is_text_at (find i ts) ≡ true → Merged part p k i ts
  merged-at text =
      let P : ℕ → Type 0 = λ j. Merged part p k j ts in
      let Q : ℕ → Type 0 = λ j. is_text_at (find j ts) ≡ true in
      subst P here.identity (merged-here (sym kind-is ∙ subst Q (sym here.identity) text))

  -- ---- it goes itself
  gone-is : with_part part p (spliced k (suc k) no_trees) ts ≡ relisted part p (append xs rs) ts
  gone-is = place.rewrites (spliced k (suc k) no_trees) ∙ ap (λ v. relisted part p v ts) (cut-at k us c bs cs rs here.is)

  left-here : is_empty_text c ≡ true → Left part p k c.identity ts
  left-here empty = record {
    parent = there;
    within = (let m = get-within k i ids h in omega arith);
    same = ap filled_below gone-is ∙ filled-below-relisted part p (append xs rs) (append xs (tree c bs cs rs)) ts (filled-append xs rs (tree c bs cs rs) (sym (filled-without c bs cs rs empty))) ∙ sym (ap filled_below trees-are);
    filled = λ is a. (
        let P : Trees → Type 0 = λ t. all_but is is_filled 0 t ≡ true in
        let Q : Trees → Type 0 = λ t. all_but (c.identity ∷ is) is_filled 0 t ≡ true in
        subst P (sym gone-is) (but-relisted c.identity is is_filled (λ m x ds es fs gs b. refl) p (append xs (tree c bs cs rs)) (append xs rs) (λ m. but-left is m xs c bs cs rs (let z = alone-here in omega arith)) part 0 ts (let z = alone-here in omega arith) (subst Q trees-are a)));
  }

  pub left-at : is_text_at (find i ts) ≡ true → text_at (find i ts) ≡ [] → Left part p k i ts
  left-at text empty =
      let P : ℕ → Type 0 = λ j. Left part p k j ts in
      let Q : ℕ → Type 0 = λ j. is_text_at (find j ts) ≡ true in
      let R : ℕ → Type 0 = λ j. text_at (find j ts) ≡ [] in
      let a : is_text c.kind ≡ true = sym kind-is ∙ subst Q (sym here.identity) text in
      let b : c.text ≡ [] = sym text-is ∙ subst R (sym here.identity) empty in
      subst P here.identity (left-here (rw (a, b) refl))
