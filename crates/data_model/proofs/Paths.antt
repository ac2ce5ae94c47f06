-- Paths grow by one node at each step down.
use Rattle.std.proofs.Common.{◌≡◌, ℕ, ◌+◌, ◌≤◌, ◌<◌, false, List, [], ◌∷◌, ◌++◌, length, eqb, refl, ap, sym, ◌∙◌, arith, ⊎_elim, ◌⊎◌, inl, inr, Option, Some, None, IsSome, subst}
use Rattle.std.proofs.lemmas.Bool.Decides.{eqb_tells}
use Rattle.data_model.specs.Trees.{Trees, no_trees, tree, Content, find, find_below, first, parent_at, parent_of, count, size}
use Rattle.data_model.specs.Walks.{depth_of}
use Rattle.data_model.specs.Paths.{path_of}
use Rattle.data_model.proofs.Weights.{eqb-same}
use Rattle.data_model.proofs.Climbs.{AreDistinct, any-tells, find-absent, find-present, first-some, there-counts}

pub length-last : (n : ℕ) (l : List ℕ) → length (l ++ n ∷ []) ≡ length l + 1
length-last n [] = refl
length-last n (x ∷ l) = omega (arith, length-last n l)

-- ---- the lengths of paths
pub path-length : (i : ℕ) (ts : Trees) → 0 < count i ts → length (path_of i ts) ≡ depth_of i ts + 1
path-length i no_trees h = absurd (omega arith)
path-length i (tree c bs cs rest) h =
    ⊎_elim (λ t. rw t.0 refl)
    (λ t. (let z = rw t.0 at h in
    ⊎_elim (λ v. rw (t.0, v.0) (omega (arith, path-length i bs v.1)))
    (λ v. ⊎_elim (λ x. rw (t.0, v.0, x.0) (omega (arith, path-length i cs x.1))) (λ x. rw (t.0, v.0, x.0) (path-length i rest (omega arith))) (any-tells (count i cs)))
    (any-tells (count i bs)))) (eqb_tells i c.identity)

pub depth-size : (i : ℕ) (ts : Trees) → depth_of i ts ≤ size ts
depth-size i no_trees = omega arith
depth-size i (tree c bs cs rest) =
    ⊎_elim (λ t. rw t.0 (omega arith))
    (λ t. ⊎_elim (λ v. rw (t.0, v.0) (omega (arith, depth-size i bs)))
    (λ v. ⊎_elim (λ x. rw (t.0, v.0, x.0) (omega (arith, depth-size i cs))) (λ x. rw (t.0, v.0, x.0) (omega (arith, depth-size i rest))) (any-tells (count i cs)))
    (any-tells (count i bs))) (eqb_tells i c.identity)

-- ---- one step up
pub record Under (o : Option ℕ) (i p : ℕ) (ts : Trees) : Type 0 where
  pub parent : parent_at (find_below o i ts) ≡ Some p
  pub there : 0 < count p ts
  pub path : path_of i ts ≡ path_of p ts ++ i ∷ []

abbrev pub PathSteps : Option ℕ → ℕ → Trees → Type 0
PathSteps o i ts = ((parent_at (find_below o i ts) ≡ o) × (path_of i ts ≡ i ∷ [])) ⊎ ((p : ℕ) × Under o i p ts)

module _ (c : Content) (bs cs rest : Trees) (d : AreDistinct (tree c bs cs rest)) where
  apart : (j : ℕ) → 0 < count j bs + count j cs + count j rest → eqb j c.identity ≡ false
  apart j h = ⊎_elim (λ t. (let z = rw t.0 at (d j) in absurd (omega arith))) (λ t. t.0) (eqb_tells j c.identity)

  head-path : path_of c.identity (tree c bs cs rest) ≡ c.identity ∷ []
  head-path = rw (eqb-same c.identity) refl

  bs-path : (j : ℕ) → 0 < count j bs → path_of j (tree c bs cs rest) ≡ c.identity ∷ path_of j bs
  bs-path j h = ⊎_elim (λ t. rw (apart j (omega arith), t.0) refl) (λ t. absurd (omega arith)) (any-tells (count j bs))

  cs-path : (j : ℕ) → 0 < count j cs → path_of j (tree c bs cs rest) ≡ c.identity ∷ path_of j cs
  cs-path j h =
      let none : count j bs ≡ 0 = (let z = d j in omega arith) in
      ⊎_elim (λ t. ⊎_elim (λ u. absurd (omega arith)) (λ u. rw (apart j (omega arith), u.0, t.0) refl) (any-tells (count j bs))) (λ t. absurd (omega arith)) (any-tells (count j cs))

  rest-path : (j : ℕ) → 0 < count j rest → path_of j (tree c bs cs rest) ≡ path_of j rest
  rest-path j h =
      let nb : count j bs ≡ 0 = (let z = d j in omega arith) in
      let nc : count j cs ≡ 0 = (let z = d j in omega arith) in
      ⊎_elim (λ t. absurd (omega arith)) (λ t. ⊎_elim (λ u. absurd (omega arith)) (λ u. rw (apart j (omega arith), u.0, t.0) refl) (any-tells (count j bs))) (any-tells (count j cs))

  head-there : 0 < count c.identity (tree c bs cs rest)
  head-there = rw (eqb-same c.identity) (omega arith)

  step-bs : (o : Option ℕ) (i : ℕ) → 0 < count i bs → PathSteps (Some c.identity) i bs → PathSteps o i (tree c bs cs rest)
  step-bs o i h r =
      let found : find_below o i (tree c bs cs rest) ≡ find_below (Some c.identity) i bs = rw (apart i (omega arith)) (first-some (find_below (Some c.identity) i bs) (first (find_below (Some c.identity) i cs) (find_below o i rest)) (find-present (Some c.identity) i bs h)) in
      ⊎_elim
      (λ l. inr (c.identity, record { parent = ap parent_at found ∙ l.0; there = head-there; path = bs-path i h ∙ ap (λ x. c.identity ∷ x) l.1 ∙ ap (λ x. x ++ i ∷ []) (sym head-path) }))
      (λ l. (let there = l.1.there in
      inr (l.0, record { parent = ap parent_at found ∙ l.1.parent; there = omega arith; path = bs-path i h ∙ ap (λ x. c.identity ∷ x) l.1.path ∙ ap (λ x. x ++ i ∷ []) (sym (bs-path l.0 there)) }))) r

  step-cs : (o : Option ℕ) (i : ℕ) → 0 < count i cs → PathSteps (Some c.identity) i cs → PathSteps o i (tree c bs cs rest)
  step-cs o i h r =
      let none : count i bs ≡ 0 = (let z = d i in omega arith) in
      let found : find_below o i (tree c bs cs rest) ≡ find_below (Some c.identity) i cs = rw (apart i (omega arith), find-absent (Some c.identity) i bs none) (first-some (find_below (Some c.identity) i cs) (find_below o i rest) (find-present (Some c.identity) i cs h)) in
      ⊎_elim
      (λ l. inr (c.identity, record { parent = ap parent_at found ∙ l.0; there = head-there; path = cs-path i h ∙ ap (λ x. c.identity ∷ x) l.1 ∙ ap (λ x. x ++ i ∷ []) (sym head-path) }))
      (λ l. (let there = l.1.there in
      inr (l.0, record { parent = ap parent_at found ∙ l.1.parent; there = omega arith; path = cs-path i h ∙ ap (λ x. c.identity ∷ x) l.1.path ∙ ap (λ x. x ++ i ∷ []) (sym (cs-path l.0 there)) }))) r

  step-rest : (o : Option ℕ) (i : ℕ) → 0 < count i rest → PathSteps o i rest → PathSteps o i (tree c bs cs rest)
  step-rest o i h r =
      let nb : count i bs ≡ 0 = (let z = d i in omega arith) in
      let nc : count i cs ≡ 0 = (let z = d i in omega arith) in
      let found : find_below o i (tree c bs cs rest) ≡ find_below o i rest = rw (apart i (omega arith), find-absent (Some c.identity) i bs nb, find-absent (Some c.identity) i cs nc) in
      ⊎_elim (λ l. inl (ap parent_at found ∙ l.0, rest-path i h ∙ l.1))
      (λ l. (let there = l.1.there in
      inr (l.0, record { parent = ap parent_at found ∙ l.1.parent; there = omega arith; path = rest-path i h ∙ l.1.path ∙ ap (λ x. x ++ i ∷ []) (sym (rest-path l.0 there)) }))) r

pub path-steps : (o : Option ℕ) (i : ℕ) (ts : Trees) → AreDistinct ts → 0 < count i ts → PathSteps o i ts
path-steps o i no_trees d h = absurd (omega arith)
path-steps o i (tree c bs cs rest) d h =
    ⊎_elim (λ t. inl (rw t.0 refl, rw t.0 (ap (λ x. x ∷ []) (sym t.1))))
    (λ t. (let z = rw t.0 at h in
    ⊎_elim (λ u. step-bs c bs cs rest d o i u.1 (path-steps (Some c.identity) i bs (λ j. let y = d j in omega arith) u.1))
    (λ u. ⊎_elim (λ v. step-cs c bs cs rest d o i v.1 (path-steps (Some c.identity) i cs (λ j. let y = d j in omega arith) v.1))
    (λ v. step-rest c bs cs rest d o i (omega arith) (path-steps o i rest (λ j. let y = d j in omega arith) (omega arith))) (any-tells (count i cs)))
    (any-tells (count i bs)))) (eqb_tells i c.identity)

pub path-up : (i p : ℕ) (ts : Trees) → AreDistinct ts → IsSome (find i ts) → parent_of i ts ≡ Some p → IsSome (find p ts) × (depth_of p ts + 1 ≡ depth_of i ts) × (path_of i ts ≡ path_of p ts ++ i ∷ [])
path-up i p ts d there is =
    ⊎_elim (λ l. (let z : None ≡ Some p = sym l.0 ∙ is in cc))
    (λ (r : (q : ℕ) × Under None i q ts). (let same : r.0 ≡ p = (let z : Some r.0 ≡ Some p = sym r.1.parent ∙ is in cc) in
    let here = path-length i ts (there-counts i ts there) in
    let up = path-length r.0 ts r.1.there in
    let more = ap length r.1.path ∙ length-last i (path_of r.0 ts) in
    let level : depth_of r.0 ts + 1 ≡ depth_of i ts = omega arith in
    let got : IsSome (find r.0 ts) × (depth_of r.0 ts + 1 ≡ depth_of i ts) × (path_of i ts ≡ path_of r.0 ts ++ i ∷ []) = (find-present None r.0 ts r.1.there, level, r.1.path) in
    subst (λ q. IsSome (find q ts) × (depth_of q ts + 1 ≡ depth_of i ts) × (path_of i ts ≡ path_of q ts ++ i ∷ [])) same got))
    (path-steps None i ts d (there-counts i ts there))

pub path-top : (i : ℕ) (ts : Trees) → AreDistinct ts → IsSome (find i ts) → parent_of i ts ≡ None → (path_of i ts ≡ i ∷ []) × (depth_of i ts ≡ 0)
path-top i ts d there is =
    ⊎_elim (λ l. (let here = path-length i ts (there-counts i ts there) in let one = ap length l.1 in (l.1, omega arith)))
    (λ (r : (q : ℕ) × Under None i q ts). (let z : None ≡ Some r.0 = sym is ∙ r.1.parent in cc)) (path-steps None i ts d (there-counts i ts there))
