-- What an update of a store leaves.
use Rattle.std.proofs.Common.{◌≡◌, ℕ, Bool, true, false, List, Result, Ok, Err, None, refl, sym, ◌∙◌, ap, subst}
use Rattle.data_model.specs.Trees.{Trees}
use Rattle.fault_codes.specs.declared.code.Code.{Code}
use Rattle.pending.specs.Primitives.{PrimitiveTerm}
use Rattle.trees.specs.Drafts.{DraftTerm, drafted_forest}
use Rattle.trees.specs.Forest.{ForestTerm}
use Rattle.update_meaning.specs.Changed.{changed}
use Rattle.update_meaning.specs.Effects.{staged}
use Rattle.update_meaning.specs.Results.{judged, tidied, updated, applied, with_trees, has_distinct_attributes, is_within_limits, are_documents, IsStored}
use Rattle.update_meaning.proofs.Stores.{whole_store}
use Rattle.update_meaning.proofs.Tidying.{tidied-again, tidied-documents}
use Rattle.chosen_drafts.specs.Terms.{ChosenTerm}
use Rattle.apply.specs.Planned.{planned_draft}

pub judged-same : (ts us : Trees) → judged ts ≡ Ok us → ts ≡ us
judged-same ts us e = by (has_distinct_attributes ts) refl (is_within_limits ts) refl
  where
    by : (a : Bool) → has_distinct_attributes ts ≡ a → (b : Bool) → is_within_limits ts ≡ b → ts ≡ us
    by true p true q = (let z : Ok ts ≡ Ok us = rw (p, q) at e in cc)
    by true p false q = (let z = rw (p, q) at e in cc)
    by false p b q = (let z = rw p at e in cc)

-- what an update leaves may be updated again
stored-again : (ps : List PrimitiveTerm) (ts us : Trees) → updated ps ts ≡ Ok us → IsStored us
stored-again ps ts us e = subst IsStored (judged-same (tidied (staged ps ts)) us e) (rw (tidied-again (staged ps ts)) (e ∙ ap (λ (v : Trees). Ok v) (sym (judged-same (tidied (staged ps ts)) us e))))

stored-documents : (ts : Trees) → IsStored ts → are_documents ts ≡ true
stored-documents ts h = subst (λ (us : Trees). are_documents us ≡ true) (judged-same (tidied ts) ts h) (tidied-documents ts)

-- what is planned of all trees is the update
module _ (ps : List PrimitiveTerm) (next : ℕ) (f : ForestTerm) (h : IsStored f.trees) where
  abbrev pub draft : ChosenTerm
  draft = record { before = f; after = f.trees; next = next; roots = None }

  is : updated ps f.trees ≡ judged (changed ps f.trees)
  is = whole_store ps f.trees (stored-documents f.trees h)

  -- the draft of a forest, by what it is to become
  pub record Settles (p : DraftTerm) : Type 0 where
    pub applied_is : applied ps next f ≡ Ok (drafted_forest p)
    pub stored : IsStored p.after
    pub before : p.before ≡ f

  pub settles : (p : DraftTerm) → planned_draft draft (judged (changed ps f.trees)) ≡ Ok p → Settles p
  settles p e = by (judged (changed ps f.trees)) refl
    where
      by : (r : Result Trees Code) → judged (changed ps f.trees) ≡ r → Settles p
      by (Ok us) g =
          let q : Ok (record { before = f; after = us; next = next }) ≡ Ok p = ap (planned_draft draft) (sym g) ∙ e in
          let s : record { before = f; after = us; next = next } ≡ p = cc in
          subst Settles s (record { applied_is = ap (with_trees f next) (is ∙ g); stored = stored-again ps f.trees us (is ∙ g); before = refl })
      by (Err code) g = (let q : Err code ≡ Ok p = ap (planned_draft draft) (sym g) ∙ e in cc)

  pub refuses : (c : Code) → judged (changed ps f.trees) ≡ Err c → applied ps next f ≡ Err c
  refuses c e = ap (with_trees f next) (is ∙ e)
