-- What an update of copies leaves.
use Rattle.std.proofs.Common.{◌≡◌, ℕ, ◌+◌, ◌≤◌, ◌<◌, cond, eqb, List, Result, Ok, Err, Some, refl, sym, ◌∙◌, ap, arith}
use Rattle.data_model.specs.Trees.{Trees, append, count}
use Rattle.data_model.proofs.Weights.{weigh-append}
use Rattle.fault_codes.specs.declared.code.Code.{Code}
use Rattle.pending.specs.Primitives.{PrimitiveTerm}
use Rattle.trees.specs.Drafts.{DraftTerm, drafted_forest}
use Rattle.trees.specs.Forest.{ForestTerm}
use Rattle.update_meaning.specs.Changed.{rooted_at, chosen, in_places, changed, with_changed, or_code, applied_to_copies}
use Rattle.update_meaning.specs.Results.{judged, with_trees}
use Rattle.update_meaning.proofs.Each.{together, placed_each, by_identity, changes}
use Rattle.chosen_drafts.specs.Chosen.{others}
use Rattle.chosen_drafts.specs.Terms.{ChosenTerm}
use Rattle.chosen_drafts.proofs.Chosen.{counts-both}
use Rattle.apply.specs.Planned.{planned_draft}
use Rattle.apply.proofs.Stored.{judged-same}

both : (i : ℕ) (ts us : Trees) → count i (append ts us) ≡ count i ts + count i us
both i ts us = weigh-append (λ k. cond (eqb i k) 1 0) ts us

-- what is asked of the trees that are to be seen, and of the others
module _ (is : List ℕ) (ts new : Trees) (distinct : (i : ℕ) → count i (append ts new) ≤ 1) where
  pub seen-distinct : (i : ℕ) → count i (append (chosen (rooted_at is) ts) new) ≤ 1
  seen-distinct i = omega (arith, distinct i, both i ts new, both i (chosen (rooted_at is) ts) new, counts-both is i ts)

  pub hidden-apart : (i : ℕ) → 0 < count i new → count i (others is ts) ≡ 0
  hidden-apart i h = omega (arith, h, distinct i, both i ts new, counts-both is i ts)

-- what is planned of the copies is the update
module _ (is : List ℕ) (ps : List PrimitiveTerm) (next : ℕ) (f : ForestTerm) where
  abbrev pub draft : ChosenTerm
  draft = record { before = f; after = chosen (rooted_at is) f.trees; next = next; roots = Some is }

  abbrev after : Trees
  after = with_changed (rooted_at is) ps f.trees

  alone : chosen (rooted_at is) after ≡ changed ps (chosen (rooted_at is) f.trees)
  alone = together (rooted_at is) (by_identity is) (changed ps) (changes ps) f.trees

  placed : in_places (rooted_at is) f.trees (changed ps (chosen (rooted_at is) f.trees)) ≡ after
  placed = placed_each (rooted_at is) (changed ps) (changes ps) f.trees

  pub copies-settle : (p : DraftTerm) → planned_draft draft (judged (changed ps (chosen (rooted_at is) f.trees))) ≡ Ok p → applied_to_copies is ps next f ≡ Ok (drafted_forest p)
  copies-settle p e = by (judged (changed ps (chosen (rooted_at is) f.trees))) refl
    where
      by : (r : Result Trees Code) → judged (changed ps (chosen (rooted_at is) f.trees)) ≡ r → applied_to_copies is ps next f ≡ Ok (drafted_forest p)
      by (Ok us) g =
          let q : Ok (record { before = f; after = in_places (rooted_at is) f.trees us; next = next }) ≡ Ok p = ap (planned_draft draft) (sym g) ∙ e in
          let s : record { before = f; after = in_places (rooted_at is) f.trees us; next = next } ≡ p = cc in
          let same : in_places (rooted_at is) f.trees us ≡ after = ap (in_places (rooted_at is) f.trees) (sym (judged-same (changed ps (chosen (rooted_at is) f.trees)) us g)) ∙ placed in
          let left : ForestTerm → Result ForestTerm Code = λ g. Ok g in
          ap (λ r. with_trees f next (or_code r after)) (ap judged alone ∙ g) ∙ ap (λ (ts : Trees). left (record f { trees = ts; next = next })) (sym same) ∙ ap (λ d. left (drafted_forest d)) s
      by (Err code) g = (let q : Err code ≡ Ok p = ap (planned_draft draft) (sym g) ∙ e in cc)

  pub copies-refuse : (c : Code) → judged (changed ps (chosen (rooted_at is) f.trees)) ≡ Err c → applied_to_copies is ps next f ≡ Err c
  copies-refuse c e = ap (λ r. with_trees f next (or_code r after)) (ap judged alone ∙ e)
