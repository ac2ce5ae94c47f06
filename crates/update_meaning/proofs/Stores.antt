-- A store's update is that of the trees of documents.
use Rattle.std.proofs.Common.{◌≡◌, ◌&&◌, Bool, true, false, cond, List, refl, ap, sym, ◌∙◌}
use Rattle.data_model.specs.Tidy.{is_document}
use Rattle.data_model.specs.Trees.{Trees, no_trees, tree, Content, append, is_text}
use Rattle.data_model.specs.declared.node.Kind.{Kind}
use Rattle.data_model.specs.declared.node.Kind.TheVariants.{Document, Element, Attribute, Text, Comment, Instruction}
use Rattle.pending.specs.Primitives.{PrimitiveTerm}
use Rattle.pending.specs.Texts.{before_merged, is_empty_text}
use Rattle.update_meaning.proofs.Booleans.{and-left, and-right}
use Rattle.update_meaning.proofs.Each.{KeepsRoot, Keeps, changes, together}
use Rattle.update_meaning.specs.Effects.{staged}
use Rattle.update_meaning.specs.Results.{all_merged, all_filled, stored, tidied, judged, updated, are_documents}
use Rattle.update_meaning.specs.Changed.{of_documents, chosen, each_chosen, tidied_below, changed, updated_store}

kept : (c : Content) (us vs : Trees) → KeepsRoot c us → (b : Bool) → is_document c.kind ≡ b → stored (append us vs) ≡ cond b (append us (stored vs)) (stored vs)
kept c us vs r true e = rw r.is (rw (ap is_document r.kind ∙ e) refl)
kept c us vs r false e = rw r.is (rw (ap is_document r.kind ∙ e) refl)

apart-text : (k : Kind) → is_document k ≡ true → is_text k ≡ false
apart-text Document e = refl
apart-text Element e = cc
apart-text Attribute e = cc
apart-text Text e = cc
apart-text Comment e = cc
apart-text Instruction e = cc

-- what is no text at the root of a list stays before what is rewritten after it
document-first : (c : Content) (bs cs rest : Trees) → is_text c.kind ≡ false → before_merged c bs cs rest ≡ tree c bs cs rest
document-first c bs cs no_trees e = refl
document-first c bs cs (tree d ds es rest) e = rw e refl

-- texts at the root go with what is under no document, merged or not
text-first : (c : Content) (bs cs rest : Trees) → is_document c.kind ≡ false → stored (all_filled (before_merged c bs cs rest)) ≡ stored (all_filled rest)
text-first c bs cs no_trees e = by (is_empty_text c) refl
  where
    by : (b : Bool) → is_empty_text c ≡ b → stored (all_filled (tree c bs cs no_trees)) ≡ no_trees
    by true f = rw f refl
    by false f = rw f (rw e refl)
text-first c bs cs (tree d ds es rest) e = by (is_text c.kind && is_text d.kind) refl
  where
    gone : (x : Content) (us vs ws : Trees) → is_document x.kind ≡ false → stored (all_filled (tree x us vs ws)) ≡ stored (all_filled ws)
    gone x us vs ws f = at (is_empty_text x) refl
      where
        at : (b : Bool) → is_empty_text x ≡ b → stored (all_filled (tree x us vs ws)) ≡ stored (all_filled ws)
        at true h = rw h refl
        at false h = rw h (rw f refl)

    no-document : (k : Kind) → is_text k ≡ true → is_document k ≡ false
    no-document Document h = cc
    no-document Element h = refl
    no-document Attribute h = refl
    no-document Text h = refl
    no-document Comment h = refl
    no-document Instruction h = refl

    by : (b : Bool) → (is_text c.kind && is_text d.kind) ≡ b → stored (all_filled (before_merged c bs cs (tree d ds es rest))) ≡ stored (all_filled (tree d ds es rest))
    by true p = rw p (gone (record c { text = _ }) bs cs rest e ∙ sym (gone d ds es rest (no-document d.kind (and-right (is_text c.kind) (is_text d.kind) p))))
    by false p = rw p (gone c bs cs (tree d ds es rest) e)

-- what tidying leaves of documents is what it leaves below them
pub stored-below : (ts : Trees) → stored (tidied_below ts) ≡ tidied ts
stored-below no_trees = refl
stored-below (tree c bs cs rest) = by (stored-below rest) (is_document c.kind) refl
  where
    no-empty : (x : Content) → is_text x.kind ≡ false → is_empty_text x ≡ false
    no-empty x h = rw h refl

    by : stored (tidied_below rest) ≡ tidied rest → (b : Bool) → is_document c.kind ≡ b → stored (tidied_below (tree c bs cs rest)) ≡ tidied (tree c bs cs rest)
    by h true e =
        rw (document-first c (all_merged bs) (all_merged cs) (all_merged rest) (apart-text c.kind e)) (rw (no-empty c (apart-text c.kind e)) (rw (e, h) refl))
    by h false e = rw (e, h) (sym (text-first c (all_merged bs) (all_merged cs) (all_merged rest) e))

pub documents-alone : (g : Trees → Trees) → Keeps g → (ts : Trees) → stored (each_chosen of_documents g ts) ≡ stored (g ts)
documents-alone g k no_trees = rw k.each.none refl
documents-alone g k (tree c bs cs rest) = by (documents-alone g k rest) (is_document c.kind) refl
  where
    by : stored (each_chosen of_documents g rest) ≡ stored (g rest) → (b : Bool) → is_document c.kind ≡ b → stored (each_chosen of_documents g (tree c bs cs rest)) ≡ stored (g (tree c bs cs rest))
    by h true e =
        rw (k.each.one c bs cs rest) (rw e (kept c (g (tree c bs cs no_trees)) (each_chosen of_documents g rest) (k.roots c bs cs) true e ∙ ap (append (g (tree c bs cs no_trees))) h
        ∙ sym (kept c (g (tree c bs cs no_trees)) (g rest) (k.roots c bs cs) true e)))
    by h false e =
        rw (k.each.one c bs cs rest) (rw e (rw e (h ∙ sym (kept c (g (tree c bs cs no_trees)) (g rest) (k.roots c bs cs) false e))))

chosen-stored : (ts : Trees) → chosen of_documents ts ≡ stored ts
chosen-stored no_trees = refl
chosen-stored (tree c bs cs rest) = rw (chosen-stored rest) refl

pub same_stores : (ps : List PrimitiveTerm) (ts : Trees) → updated_store ps ts ≡ updated ps ts
same_stores ps ts = ap judged (chosen-stored (each_chosen of_documents (changed ps) ts) ∙ documents-alone (changed ps) (changes ps) ts ∙ stored-below (staged ps ts))

-- ---- where all trees are those of documents, all are changed
all-chosen : (ts : Trees) → are_documents ts ≡ true → chosen of_documents ts ≡ ts
all-chosen no_trees h = refl
all-chosen (tree c bs cs rest) h = rw (and-left (is_document c.kind) (are_documents rest) h, all-chosen rest (and-right (is_document c.kind) (are_documents rest) h)) refl

pub whole_store : (ps : List PrimitiveTerm) (ts : Trees) → are_documents ts ≡ true → updated ps ts ≡ judged (changed ps ts)
whole_store ps ts h = sym (same_stores ps ts) ∙ ap judged (together of_documents (λ c d i k. ap is_document k) (changed ps) (changes ps) ts ∙ ap (changed ps) (all-chosen ts h))
