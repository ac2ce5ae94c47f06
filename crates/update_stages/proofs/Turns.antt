-- Turns of a stage: what was run, and what is still to be run.
use Rattle.std.proofs.Common.{◌≡◌, ◌≢◌, ℕ, ◌+◌, ◌*◌, ◌≤◌, ◌<◌, ◌==◌, List, [], ◌∷◌, true, cond, eqb, map, length, drop, get_or, refl, ap, sym, ◌∙◌, subst, arith, ⊎_elim}
use Rattle.std.proofs.lemmas.Bool.Decides.{eqb_tells, leb_tells}
use Rattle.std.proofs.lemmas.List.{drop_all}
use Rattle.data_model.specs.Trees.{Trees, append, count}
use Rattle.data_model.proofs.Climbs.{any-tells}
use Rattle.data_model.proofs.Weights.{weigh-append}
use Rattle.data_model.proofs.Lists.{drop-turn}
use Rattle.pending.specs.Primitives.{PrimitiveTerm, primitive_term}
use Rattle.pending.specs.declared.primitive.Primitive.{Primitive}
use Rattle.chosen_drafts.specs.Terms.{ChosenTerm, hidden}
use Rattle.update_meaning.specs.Effects.{effect, effects, stage_of, of_stage, target_of}
use Rattle.update_stages.specs.Brought.{from_stage, IsReadyFor}
use Rattle.update_meaning.specs.Brought.{trees_of, new_trees}
use Rattle.update_stages.proofs.Counts.{weigh-effect}

-- ---- how often an identity stands in trees
both : (i : ℕ) (ts us : Trees) → count i (append ts us) ≡ count i ts + count i us
both i ts us = weigh-append (λ k. cond (eqb i k) 1 0) ts us

at-most : (t m : ℕ) → t ≤ 1 → t * m ≤ m
at-most t m h = ⊎_elim (λ u. (let some = u.1 in let one : t ≡ 1 = omega arith in rw one (omega arith))) (λ u. rw u.1 (omega arith)) (any-tells t)

pub count-effect : (i : ℕ) (p : PrimitiveTerm) (ts : Trees) → count (target_of p) ts ≤ 1 → count i (effect p ts) ≤ count i ts + count i (trees_of p)
count-effect i p ts h = omega (arith, weigh-effect (λ k. cond (eqb i k) 1 0) p ts, at-most (count (target_of p) ts) (count i (trees_of p)) h)

-- ---- what a stage brings, and what those after it
abbrev brought : ℕ → List PrimitiveTerm → ℕ
brought i ps = count i (new_trees ps)

first-brought : (i : ℕ) (p : PrimitiveTerm) (ps : List PrimitiveTerm) → brought i (p ∷ ps) ≡ count i (trees_of p) + brought i ps
first-brought i p ps = both i (trees_of p) (new_trees ps)

pub stage-brought : (i n : ℕ) (ps : List PrimitiveTerm) → brought i (from_stage n ps) ≡ brought i (of_stage n ps) + brought i (from_stage (n + 1) ps)
stage-brought i n [] = omega arith
stage-brought i n (p ∷ ps) =
    let r = stage-brought i n ps in
    let here = first-brought i p (of_stage n ps) in
    let from = first-brought i p (from_stage n ps) in
    let after = first-brought i p (from_stage (n + 1) ps) in
    ⊎_elim
    (λ a. ⊎_elim
    (λ b. ⊎_elim (λ e. (let x = a.1 in let y = b.1 in let z = e.1 in absurd (omega arith))) (λ e. rw (a.0, b.0, e.0) (omega arith)) (eqb_tells n (stage_of p)))
    (λ b. ⊎_elim (λ e. rw (a.0, b.0, e.0) (omega arith)) (λ e. (let x = a.1 in let y = b.1 in let z = e.1 in absurd (z (omega arith)))) (eqb_tells n (stage_of p)))
    (leb_tells (n + 1) (stage_of p)))
    (λ a. ⊎_elim
    (λ b. (let x = a.1 in let y = b.1 in absurd (omega arith)))
    (λ b. ⊎_elim (λ e. (let x = a.1 in let z = e.1 in absurd (omega arith))) (λ e. rw (a.0, b.0, e.0) r) (eqb_tells n (stage_of p)))
    (leb_tells (n + 1) (stage_of p)))
    (leb_tells n (stage_of p))

pub all-brought : (i n : ℕ) (ps : List PrimitiveTerm) → brought i (from_stage n ps) ≤ brought i ps
all-brought i n [] = omega arith
all-brought i n (p ∷ ps) =
    let r = all-brought i n ps in
    let whole = first-brought i p ps in
    let from = first-brought i p (from_stage n ps) in
    ⊎_elim (λ a. rw a.0 (omega arith)) (λ a. rw a.0 (omega arith)) (leb_tells n (stage_of p))

-- ---- a stage, of whose primitives qs the last ones, `rest`, are still to be run, where the draft was `old` as it began
pub record Runs (stage : ℕ) (qs rest : List PrimitiveTerm) (old now : ChosenTerm) : Type 0 where
  pub runs : record now { after = effects (of_stage stage rest) now.after } ≡ record old { after = effects (of_stage stage qs) old.after }
  pub apart : (i : ℕ) → count i now.after + brought i (of_stage stage rest) + brought i (from_stage (stage + 1) qs) ≤ 1
  pub below : (i : ℕ) → 0 < brought i (of_stage stage rest) → i < now.next
  pub later : (i : ℕ) → 0 < brought i (from_stage (stage + 1) qs) → i < now.next
  pub unseen : (i : ℕ) → 0 < brought i (of_stage stage rest) → count i (hidden now) ≡ 0
  pub unseen_later : (i : ℕ) → 0 < brought i (from_stage (stage + 1) qs) → count i (hidden now) ≡ 0

pub begin : (stage : ℕ) (qs : List PrimitiveTerm) (d : ChosenTerm) → IsReadyFor stage qs d → Runs stage qs qs d d
begin stage qs d h =
    record {
      runs = refl;
      apart = λ i. omega (arith, h.distinct i, both i d.after (new_trees (from_stage stage qs)), stage-brought i stage qs);
      below = λ i l. h.below i (omega (arith, stage-brought i stage qs));
      later = λ i l. h.below i (omega (arith, stage-brought i stage qs));
      unseen = λ i l. h.unseen i (omega (arith, stage-brought i stage qs));
      unseen_later = λ i l. h.unseen i (omega (arith, stage-brought i stage qs));
    }

module _ (stage : ℕ) (qs rest : List PrimitiveTerm) (p : PrimitiveTerm) (old now : ChosenTerm) (h : Runs stage qs (p ∷ rest) old now) where
  -- the next primitive is of the stage
  module _ (s : stage ≡ stage_of p) where
    is-of : (stage == stage_of p) ≡ true
    is-of = ⊎_elim (λ t. t.0) (λ t. absurd (t.1 s)) (eqb_tells stage (stage_of p))

    here : of_stage stage (p ∷ rest) ≡ p ∷ of_stage stage rest
    here = rw is-of refl

    brings : (i : ℕ) → brought i (of_stage stage (p ∷ rest)) ≡ count i (trees_of p) + brought i (of_stage stage rest)
    brings i = ap (brought i) here ∙ first-brought i p (of_stage stage rest)

    pub run-distinct : (i : ℕ) → count i (append now.after (trees_of p)) ≤ 1
    run-distinct i = omega (arith, h.apart i, brings i, both i now.after (trees_of p))

    pub run-below : (i : ℕ) → 0 < count i (trees_of p) → i < now.next
    run-below i l = h.below i (omega (arith, brings i))

    pub run-unseen : (i : ℕ) → 0 < count i (trees_of p) → count i (hidden now) ≡ 0
    run-unseen i l = h.unseen i (omega (arith, brings i))

    pub turn-here : (new : ChosenTerm) → new ≡ record now { after = effect p now.after } → Runs stage qs rest old new
    turn-here new e =
        let once : count (target_of p) now.after ≤ 1 = omega (arith, h.apart (target_of p)) in
        let same : new.next ≡ now.next = ap (λ d. d.next) e in
        let same-hidden : (i : ℕ) → count i (hidden new) ≡ count i (hidden now) = λ i. ap (λ d. count i (hidden d)) e in
        let finish : ChosenTerm → ChosenTerm = λ d. record d { after = effects (of_stage stage rest) d.after } in
        let from : List PrimitiveTerm → ChosenTerm = λ ps. record now { after = effects ps now.after } in
        record {
          runs = ap finish e ∙ ap from (sym here) ∙ h.runs;
          apart = λ i. (let a : count i new.after ≡ count i (effect p now.after) = ap (λ d. count i d.after) e in omega (arith, h.apart i, brings i, count-effect i p now.after once));
          below = λ i l. (let b = h.below i (omega (arith, brings i)) in omega arith);
          later = λ i l. (let b = h.later i l in omega arith);
          unseen = λ i l. same-hidden i ∙ h.unseen i (omega (arith, brings i));
          unseen_later = λ i l. same-hidden i ∙ h.unseen_later i l;
        }

  -- it is of another
  pub turn-past : stage ≢ stage_of p → Runs stage qs rest old now
  turn-past s =
      let past : of_stage stage (p ∷ rest) ≡ of_stage stage rest = ⊎_elim (λ t. absurd (s t.1)) (λ t. rw t.0 refl) (eqb_tells stage (stage_of p)) in
      let from : List PrimitiveTerm → ChosenTerm = λ ps. record now { after = effects ps now.after } in
      record {
        runs = ap from (sym past) ∙ h.runs;
        apart = λ i. omega (arith, h.apart i, ap (brought i) past);
        below = λ i l. h.below i (omega (arith, ap (brought i) past));
        later = h.later;
        unseen = λ i l. h.unseen i (omega (arith, ap (brought i) past));
        unseen_later = h.unseen_later;
      }

module _ (stage : ℕ) (qs : List PrimitiveTerm) (old now : ChosenTerm) where
  pub turns-end : Runs stage qs [] old now → now ≡ record old { after = effects (of_stage stage qs) old.after }
  turns-end h = h.runs

  pub turns-ready : Runs stage qs [] old now → IsReadyFor (stage + 1) qs now
  turns-ready h =
      record {
        distinct = λ i. omega (arith, h.apart i, both i now.after (new_trees (from_stage (stage + 1) qs)));
        below = h.later;
        unseen = h.unseen_later;
      }

  pub kept-before : (rest : List PrimitiveTerm) → Runs stage qs rest old now → now.before ≡ old.before
  kept-before rest h = ap (λ d. d.before) h.runs

pub ready-first : (n : ℕ) (ps : List PrimitiveTerm) (d : ChosenTerm)
    → ((i : ℕ) → count i (append d.after (new_trees ps)) ≤ 1) → ((i : ℕ) → 0 < count i (new_trees ps) → i < d.next)
    → ((i : ℕ) → 0 < count i (new_trees ps) → count i (hidden d) ≡ 0) → IsReadyFor n ps d
ready-first n ps d apart below unseen =
    record {
      distinct = λ i. omega (arith, apart i, both i d.after (new_trees ps), both i d.after (new_trees (from_stage n ps)), all-brought i n ps);
      below = λ i l. below i (omega (arith, all-brought i n ps));
      unseen = λ i l. unseen i (omega (arith, all-brought i n ps));
    }

-- what is left of a slice, as a list and its first
module _ (stage : ℕ) (qs : List PrimitiveTerm) (ps : List Primitive) (at : ℕ) (old now : ChosenTerm) (h : Runs stage qs (map primitive_term (drop at ps)) old now) where
  pub next-turn : (p : Primitive) → at < length ps → p ≡ get_or ps at p → Runs stage qs (primitive_term p ∷ map primitive_term (drop (at + 1) ps)) old now
  next-turn p l e =
      let P : List PrimitiveTerm → Type 0 = λ rest. Runs stage qs rest old now in
      subst P (ap (map primitive_term) (drop-turn ps at p l e)) h

  pub no-turn : length ps ≤ at → Runs stage qs [] old now
  no-turn l =
      let P : List PrimitiveTerm → Type 0 = λ rest. Runs stage qs rest old now in
      subst P (ap (map primitive_term) (drop_all at ps l)) h
