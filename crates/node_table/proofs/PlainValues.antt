-- Values that stand in one text, from a table to its trees.
use Rattle.std.proofs.Common.{◌≡◌, ℕ, ◌+◌, ◌≤◌, ◌<◌, ap, sym, ◌∙◌, refl, arith, subst, ⊎_elim, [], ◌∷◌, Option, Some, None, IfSome, IsSome, option_map}
use Rattle.std.proofs.lemmas.Bool.{cases_lt}
use Rattle.data_model.specs.Trees.{Trees, Place, find, size, IsAt}
use Rattle.data_model.specs.Changes.{pick}
use Rattle.data_model.specs.declared.node.Kind.{Kind}
use Rattle.data_model.proofs.Weights.{weigh-pick}
use Rattle.node_table.specs.Flat.{Entry, Table, IsTableOf, entry_at, read_trees}
use Rattle.node_table.specs.Plain.{IsPlain, IsPlainValue}
use Rattle.node_table.specs.declared.plain.PlainValue.{PlainValue}
use Rattle.node_table.proofs.Copies.{none-some, picked-copies}
use Rattle.node_table.proofs.Entries.{some-of}
use Rattle.node_table.proofs.InPlace.{plus-one}
use Rattle.node_table.proofs.Tables.{find-table}
use Rattle.node_table.proofs.Texts.{value-found}

entry-there : (o : Option Place) → IsSome o → IsSome (option_map entry_at o)
entry-there None h = cc
entry-there (Some x) h = refl

kind-at : (k : Kind) (e : Entry) (o : Option Place) → option_map entry_at o ≡ Some e → k ≡ e.kind → IsAt o (λ c. k ≡ c.kind)
kind-at k e None h is = cc
kind-at k e (Some x) h is = (let z : e ≡ entry_at x = cc in is ∙ ap (λ (y : Entry). y.kind) z)

module _ (f : Table) (n : ℕ) (ts : Trees) (h : IsTableOf f n ts) (i : ℕ) where
  pub plain-in : (v : PlainValue) → read_trees (n + 1) f (i ∷ []) ≡ pick i ts → IsPlain f n i v → IsPlainValue ts i v
  plain-in v read s =
      let at = find-table f n ts i h ∙ s.there in
      record {
        kind = kind-at v.kind s.entry (find i ts) at s.kind;
        text = s.text ∙ sym (value-found f n ts i s.entry h at);
        size = s.size ∙ ap (λ m. size (read_trees m f (i ∷ []))) (sym (plus-one n)) ∙ ap size read;
      }

  module _ (stands : IsSome (find i ts)) where
    entry : (e : Entry) × (f i ≡ Some e)
    entry = some-of (f i) (let P : Option Entry → Type 0 = IsSome in subst P (find-table f n ts i h) (entry-there (find i ts) stands))

    pub read-deep : read_trees (n + 1) f (i ∷ []) ≡ pick i ts
    read-deep = (picked-copies f n ts i entry.0 h entry.1 f (n + 1) (omega arith) (λ j l. refl)).read

    pub is-below : i < n
    is-below = ⊎_elim (λ l. l) (λ l. absurd (none-some (f i) entry.0 (h.above i l) entry.1)) (cases_lt i n)

    pub size-pick : size (pick i ts) ≤ n
    size-pick = let s = weigh-pick (λ _. 1) i ts in let k = h.fits in omega arith

-- what holds of what is there
pub if-some : {A : Type 0} (P Q : A → Type 0) (o : Option A) → ((x : A) → P x → Q x) → IfSome o P → IfSome o Q
if-some P Q None f h = tt
if-some P Q (Some x) f h = f x h
