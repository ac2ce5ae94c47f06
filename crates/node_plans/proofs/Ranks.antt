-- Numbers that trees carry, row by row.
use Rattle.std.proofs.Common.{◌≡◌, ℕ, ◌+◌, ◌<◌, List, [], ◌∷◌, ◌++◌, length, ap, sym, ◌∙◌, arith, ⊎_elim, Option, Some, subst}
use Rattle.std.proofs.lemmas.Bool.Decides.{eqb_tells}
use Rattle.data_model.specs.Trees.{Trees, no_trees, tree, roots, weigh, count}
use Rattle.data_model.specs.declared.node.Part.{Part}
use Rattle.data_model.proofs.Climbs.{any-tells}
use Rattle.node_table.specs.Flat.{Entry, Table, Holds}
use Rattle.node_table.specs.Labels.{AllAbove, Ascends, AreNumbered, AreRanked, lists_in}
use Rattle.node_table.proofs.Relists.{relisted, emptied, weigh-relisted}

pub weigh-one : (w : ℕ → ℕ) (part : Part) (p : ℕ) (us ts : Trees) → count p (emptied part p ts) ≡ 1 → weigh w (relisted part p us ts) ≡ weigh w (emptied part p ts) + weigh w us
weigh-one w part p us ts one = weigh-relisted w part p us ts ∙ rw one (omega arith)

above-append : (w : ℕ → ℕ) (n : ℕ) (xs ys : List ℕ) → AllAbove w n xs → AllAbove w n ys → AllAbove w n (xs ++ ys)
above-append w n [] ys h k = k
above-append w n (x ∷ xs) ys h k = (h.0, above-append w n xs ys h.1 k)

pub ranks-above : (w : ℕ → ℕ) (n m : ℕ) (us : Trees) → m < n → AreRanked w n us → AllAbove w m (roots us)
ranks-above w n m no_trees l h = tt
ranks-above w n m (tree c bs cs rest) l h = ((let e = h.0 in omega arith), ranks-above w (n + 1) m rest (omega arith) h.3)

pub ranks-join : (w : ℕ → ℕ) (n : ℕ) (us : Trees) (ys : List ℕ) → Ascends w ys → ((m : ℕ) → m < n + length (roots us) → AllAbove w m ys) → AreRanked w n us → Ascends w (roots us ++ ys)
ranks-join w n no_trees ys up above h = up
ranks-join w n (tree c bs cs rest) ys up above h = (
  above-append w (w c.identity) (roots rest) ys (ranks-above w (n + 1) (w c.identity) rest (let e = h.0 in omega arith) h.3) (above (w c.identity) (let e = h.0 in omega arith)),
  ranks-join w (n + 1) rest ys up (λ m l. above m (omega arith)) h.3,
)

pub rows-numbered : (w : ℕ → ℕ) (f : Table) (p : Option ℕ) (ts : Trees) (i : ℕ) → Holds f p ts → AreNumbered w ts → 0 < count i ts → Ascends w (lists_in (f i))
rows-numbered w f p no_trees i h n k = absurd (omega arith)
rows-numbered w f p (tree c bs cs rest) i h n k =
    let P : Option Entry → Type 0 = λ o. Ascends w (lists_in o) in
    ⊎_elim (λ t. subst P (sym (ap f t.1 ∙ h.0)) n.0)
    (λ t. (let z = rw t.0 at k in
    ⊎_elim (λ u. rows-numbered w f (Some c.identity) bs i h.1 n.1 u.1)
    (λ u. ⊎_elim (λ v. rows-numbered w f (Some c.identity) cs i h.2 n.2 v.1) (λ v. (let nb : count i bs ≡ 0 = u.1 in let nc : count i cs ≡ 0 = v.1 in rows-numbered w f p rest i h.3 n.3 (omega arith))) (any-tells (count i cs)))
    (any-tells (count i bs)))) (eqb_tells i c.identity)
