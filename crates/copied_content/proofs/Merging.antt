-- Adjacent texts that are merged from the left.
use Rattle.std.proofs.Common.{◌≡◌, ℕ, ◌+◌, ◌-◌, ◌≤◌, Bool, true, false, ◌&&◌, ◌||◌, cond, if◌then◌else◌, nat_le, List, [], ◌∷◌, ◌++◌, length, Ok, Err, refl, ap, sym, ◌∙◌, arith, append_assoc, append-nil, length-append}
use Rattle.std.specs.Prelude.{filter, not}
use Rattle.std.specs.Str.{bytes_eq}
use Rattle.std.proofs.lemmas.Bool.Decides.{nat_tests}
use Rattle.data_model.specs.Tree.{TreeTerm, all_of, trees_of_tree}
use Rattle.data_model.specs.Trees.{Trees, no_trees, tree, Content, append, count, is_text}
use Rattle.data_model.proofs.Turns.{all_of-push}
use Rattle.pending.specs.Texts.{before_merged, merged, is_empty_text, without_empty_texts, texts_within}
use Rattle.fault_codes.specs.declared.code.Code.{Code}
use Rattle.fault_codes.specs.declared.code.Code.TheVariants.{PXQ0002}
use Rattle.data_model.specs.Limits.{most_bytes}
use Rattle.values.specs.declared.fault.ValueFault.{ValueFault}
use Rattle.values.specs.declared.fault.ValueFault.TheVariants as fault
use Rattle.query_meaning.specs.Content.{without_adjacent_texts}
use Rattle.evaluation.specs.Gives.{Fails}
use Rattle.copied_content.specs.Merging.{and_merged, are_apart, is_apart, within_bytes}

-- a tree before others, and one after them
ends : (c : Content) (bs cs : Trees) (ts : Trees) (t : TreeTerm) → before_merged c bs cs (and_merged ts t) ≡ and_merged (before_merged c bs cs ts) t
ends c bs cs no_trees t = refl
ends c bs cs (tree d ds es no_trees) t = of (is_text c.kind) (is_text d.kind) (is_text t.content.kind) refl refl refl
  where
    of : (p q r : Bool) → is_text c.kind ≡ p → is_text d.kind ≡ q → is_text t.content.kind ≡ r → before_merged c bs cs (and_merged (tree d ds es no_trees) t) ≡ and_merged (before_merged c bs cs (tree d ds es no_trees)) t
    of true true true e f g = simp (e, f, g) (ap (λ text. tree (record c { text = text }) bs cs no_trees) (sym (append_assoc c.text d.text t.content.text)))
    of true true false e f g = simp (e, f, g)
    of true false true e f g = simp (e, f, g)
    of true false false e f g = simp (e, f, g)
    of false true true e f g = simp (e, f, g)
    of false true false e f g = simp (e, f, g)
    of false false true e f g = simp (e, f, g)
    of false false false e f g = simp (e, f, g)
ends c bs cs (tree d ds es (tree e fs gs rest)) t = of (is_text c.kind && is_text d.kind)
  where
    of : (b : Bool)
        → (if b then tree (record c { text = c.text ++ d.text }) bs cs (and_merged (tree e fs gs rest) t) else tree c bs cs (tree d ds es (and_merged (tree e fs gs rest) t)))
        ≡ and_merged (if b then tree (record c { text = c.text ++ d.text }) bs cs (tree e fs gs rest) else tree c bs cs (tree d ds es (tree e fs gs rest))) t
    of true = refl
    of false = refl

-- trees that are merged one after the other are merged
pub merged_last : (ts : Trees) (t : TreeTerm) → merged (append ts (trees_of_tree t)) ≡ and_merged (merged ts) t
merged_last no_trees t = refl
merged_last (tree c bs cs rest) t = ap (before_merged c bs cs) (merged_last rest t) ∙ ends c bs cs (merged rest) t

-- the last of a list of trees
pub joins : (xs : List TreeTerm) (l t : TreeTerm) → is_text l.content.kind && is_text t.content.kind ≡ true
    → and_merged (all_of (xs ++ l ∷ [])) t ≡ all_of (xs ++ record l { content = record l.content { text = l.content.text ++ t.content.text } } ∷ [])
joins [] l t h = ap (λ b. if b then tree (record l.content { text = l.content.text ++ t.content.text }) l.attributes l.children no_trees else tree l.content l.attributes l.children (trees_of_tree t)) h
joins (x ∷ []) l t h = ap (tree x.content x.attributes x.children) (joins [] l t h)
joins (x ∷ y ∷ xs) l t h = ap (tree x.content x.attributes x.children) (joins (y ∷ xs) l t h)

pub stays_apart : (xs : List TreeTerm) (l t : TreeTerm) → is_text l.content.kind && is_text t.content.kind ≡ false → and_merged (all_of (xs ++ l ∷ [])) t ≡ all_of ((xs ++ l ∷ []) ++ t ∷ [])
stays_apart [] l t h = ap (λ b. if b then tree (record l.content { text = l.content.text ++ t.content.text }) l.attributes l.children no_trees else tree l.content l.attributes l.children (trees_of_tree t)) h
stays_apart (x ∷ []) l t h = ap (tree x.content x.attributes x.children) (stays_apart [] l t h)
stays_apart (x ∷ y ∷ xs) l t h = ap (tree x.content x.attributes x.children) (stays_apart (y ∷ xs) l t h)

-- how long the texts are

within_last : (m : ℕ) (xs : List TreeTerm) (t : TreeTerm) → texts_within m (all_of (xs ++ t ∷ [])) ≡ texts_within m (all_of xs) && nat_le (length t.content.text) m
within_last m [] t = of (nat_le (length t.content.text) m)
  where
    of : (b : Bool) → b && true ≡ true && b
    of true = refl
    of false = refl
within_last m (x ∷ xs) t = of (nat_le (length x.content.text) m) ∙ ap (λ b. nat_le (length x.content.text) m && b) (within_last m xs t) ∙ of_both (nat_le (length x.content.text) m)
  where
    of : (b : Bool) → b && texts_within m (all_of (xs ++ t ∷ [])) ≡ b && texts_within m (all_of (xs ++ t ∷ []))
    of b = refl

    of_both : (b : Bool) → b && (texts_within m (all_of xs) && nat_le (length t.content.text) m) ≡ (b && texts_within m (all_of xs)) && nat_le (length t.content.text) m
    of_both true = refl
    of_both false = refl

pub both : (b c : Bool) → b && c ≡ true → (b ≡ true) × (c ≡ true)
both true c e = (refl, e)
both false c e = cc

last_short : (m : ℕ) (xs : List TreeTerm) (l : TreeTerm) → texts_within m (all_of (xs ++ l ∷ [])) ≡ true → (texts_within m (all_of xs) ≡ true) × (nat_le (length l.content.text) m ≡ true)
last_short m xs l h = both (texts_within m (all_of xs)) (nat_le (length l.content.text) m) (sym (within_last m xs l) ∙ h)

pub last_within : (m : ℕ) (xs : List TreeTerm) (l : TreeTerm) → texts_within m (all_of (xs ++ l ∷ [])) ≡ true → length l.content.text ≤ m
last_within m xs l h = let short = (last_short m xs l h).1 in grind (arith, nat_tests)

-- with one tree more: its text is the last, or it is merged with the last
pub within_joined : (m : ℕ) (xs : List TreeTerm) (l t : TreeTerm) → texts_within m (all_of (xs ++ l ∷ [])) ≡ true → is_text l.content.kind && is_text t.content.kind ≡ true
    → texts_within m (and_merged (all_of (xs ++ l ∷ [])) t) ≡ nat_le (length l.content.text + length t.content.text) m
within_joined m xs l t h texts =
    ap (texts_within m) (joins xs l t texts) ∙ within_last m xs (record l { content = record l.content { text = l.content.text ++ t.content.text } })
    ∙ ap (λ b. b && nat_le (length (l.content.text ++ t.content.text)) m) (last_short m xs l h).0 ∙ ap (λ n. nat_le n m) (length-append l.content.text t.content.text)

pub within_apart : (m : ℕ) (xs : List TreeTerm) (l t : TreeTerm) → texts_within m (all_of (xs ++ l ∷ [])) ≡ true → is_text l.content.kind && is_text t.content.kind ≡ false
    → texts_within m (and_merged (all_of (xs ++ l ∷ [])) t) ≡ nat_le (length t.content.text) m
within_apart m xs l t h apart = ap (texts_within m) (stays_apart xs l t apart) ∙ within_last m (xs ++ l ∷ []) t ∙ ap (λ b. b && nat_le (length t.content.text) m) h

pub within_first : (m : ℕ) (xs : List TreeTerm) (t : TreeTerm) → length xs ≡ 0 → texts_within m (and_merged (all_of xs) t) ≡ nat_le (length t.content.text) m
within_first m [] t none = within_last m [] t
within_first m (x ∷ xs) t none = absurd (omega (arith, none))

-- beside a text of that length
pub fits_beside : (a b l n : ℕ) → a ≡ l → b ≡ n → l ≤ most_bytes → nat_le b (most_bytes - a) ≡ nat_le (l + n) most_bytes
fits_beside a b l n e f short = of (nat_le b (most_bytes - a)) (nat_le (l + n) most_bytes) refl refl
  where
    of : (p q : Bool) → nat_le b (most_bytes - a) ≡ p → nat_le (l + n) most_bytes ≡ q → p ≡ q
    of true true g h = refl
    of false false g h = refl
    of true false g h = absurd (grind (arith, nat_tests))
    of false true g h = absurd (grind (arith, nat_tests))

-- what is within
pub within_is : (ts us : Trees) → within_bytes ts ≡ Ok us → (us ≡ ts) × (texts_within most_bytes us ≡ true)
within_is ts us e = of (texts_within most_bytes ts) refl e
  where
    of : (b : Bool) → texts_within most_bytes ts ≡ b → (if b then Ok ts else Err PXQ0002) ≡ Ok us → (us ≡ ts) × (texts_within most_bytes us ≡ true)
    of true h e = let same : us ≡ ts = cc in (same, ap (texts_within most_bytes) same ∙ h)
    of false h e = cc

not_within : (ts : Trees) (code : Code) → within_bytes ts ≡ Err code → (texts_within most_bytes ts ≡ false) × (code ≡ PXQ0002)
not_within ts code e = of (texts_within most_bytes ts) refl e
  where
    of : (b : Bool) → texts_within most_bytes ts ≡ b → (if b then Ok ts else Err PXQ0002) ≡ Err code → (texts_within most_bytes ts ≡ false) × (code ≡ PXQ0002)
    of true h e = cc
    of false h e = (h, cc)

-- a tree more makes no text shorter
longer : (m : ℕ) (s t : List ℕ) → nat_le (length (s ++ t)) m ≡ true → nat_le (length s) m ≡ true
longer m s t h = grind (arith, nat_tests, length-append {A = ℕ})

before_last : (m : ℕ) (ts : Trees) (t : TreeTerm) → texts_within m (and_merged ts t) ≡ true → texts_within m ts ≡ true
before_last m no_trees t h = refl
before_last m (tree c bs cs no_trees) t h = of (is_text c.kind && is_text t.content.kind) h
  where
    of : (b : Bool) → texts_within m (if b then tree (record c { text = c.text ++ t.content.text }) bs cs no_trees else tree c bs cs (trees_of_tree t)) ≡ true → nat_le (length c.text) m && true ≡ true
    of true h = ap (λ b. b && true) (longer m c.text t.content.text (both (nat_le (length (c.text ++ t.content.text)) m) true h).0)
    of false h = ap (λ b. b && true) (both (nat_le (length c.text) m) (nat_le (length t.content.text) m && true) h).0
before_last m (tree c bs cs (tree d ds es rest)) t h =
    let e = both (nat_le (length c.text) m) (texts_within m (and_merged (tree d ds es rest) t)) h in
    ap (λ b. b && texts_within m (tree d ds es rest)) e.0 ∙ before_last m (tree d ds es rest) t e.1

-- one tree more
pub merged_more : (ts : List TreeTerm) (t : TreeTerm) → merged (all_of (ts ++ t ∷ [])) ≡ and_merged (merged (all_of ts)) t
merged_more ts t = ap merged (all_of-push ts t) ∙ merged_last (all_of ts) t

first_within : (m : ℕ) (ts us : List TreeTerm) → texts_within m (merged (all_of (ts ++ us))) ≡ true → texts_within m (merged (all_of ts)) ≡ true
first_within m ts [] h = ap (λ xs. texts_within m (merged (all_of xs))) (sym (append-nil ts)) ∙ h
first_within m ts (t ∷ us) h =
    let more : texts_within m (merged (all_of (ts ++ t ∷ []))) ≡ true = first_within m (ts ++ t ∷ []) us (ap (λ xs. texts_within m (merged (all_of xs))) (append_assoc ts (t ∷ []) us) ∙ h) in
    before_last m (merged (all_of ts)) t (ap (texts_within m) (sym (merged_more ts t)) ∙ more)

-- the first so many trees are merged
pub record IsMerged (all : Trees) (ts rest kept : List TreeTerm) : Type 0 where
  pub whole : all_of (ts ++ rest) ≡ all
  pub are : all_of kept ≡ merged (all_of ts)
  pub within : texts_within most_bytes (all_of kept) ≡ true

pub merges_on : (all : Trees) (ts rest left kept more : List TreeTerm) (t : TreeTerm) → IsMerged all ts rest kept → rest ≡ t ∷ left → within_bytes (and_merged (all_of kept) t) ≡ Ok (all_of more) → IsMerged all (ts ++ t ∷ []) left more
merges_on all ts rest left kept more t h is e =
    let w = within_is _ _ e in
    record {
      whole = ap all_of (append_assoc ts (t ∷ []) left) ∙ ap (λ us. all_of (ts ++ us)) (sym is) ∙ h.whole;
      are = w.0 ∙ ap (λ us. and_merged us t) h.are ∙ sym (merged_more ts t);
      within = w.1;
    }

fails_if : (ts : Trees) → texts_within most_bytes (merged ts) ≡ false → without_adjacent_texts ts ≡ Err PXQ0002
fails_if ts h = ap (λ b. if b then Ok (without_empty_texts (merged ts)) else Err PXQ0002) h

pub merges_not : (all : Trees) (ts rest left kept : List TreeTerm) (t : TreeTerm) (f : ValueFault) → IsMerged all ts rest kept → rest ≡ t ∷ left → Fails (within_bytes (and_merged (all_of kept) t)) f → Fails (without_adjacent_texts all) f
merges_not all ts rest left kept t fault.Memory h is e = tt
merges_not all ts rest left kept t (fault.Code code) h is e =
    let n = not_within (and_merged (all_of kept) t) code e in
    fails_if all (of (texts_within most_bytes (merged all)) refl n.0) ∙ ap Err (sym n.1)
  where
    of : (b : Bool) → texts_within most_bytes (merged all) ≡ b → texts_within most_bytes (and_merged (all_of kept) t) ≡ false → b ≡ false
    of false e n = refl
    of true e n = absurd (
        let whole : all_of (ts ++ t ∷ left) ≡ all = ap (λ us. all_of (ts ++ us)) (sym is) ∙ h.whole in
        let front : texts_within most_bytes (merged (all_of (ts ++ t ∷ []))) ≡ true =
        first_within most_bytes (ts ++ t ∷ []) left (ap (λ xs. texts_within most_bytes (merged (all_of xs))) (append_assoc ts (t ∷ []) left) ∙ ap (λ us. texts_within most_bytes (merged us)) whole ∙ e) in
        let same : texts_within most_bytes (and_merged (all_of kept) t) ≡ true = ap (λ us. texts_within most_bytes (and_merged us t)) h.are ∙ ap (texts_within most_bytes) (sym (merged_more ts t)) ∙ front in
        cc)

pub merges_all : (all : Trees) (ts rest kept left : List TreeTerm) → IsMerged all ts rest kept → length rest ≡ 0 → all_of left ≡ without_empty_texts (all_of kept) → without_adjacent_texts all ≡ Ok (all_of left)
merges_all all ts (t ∷ rest) kept left h none is = absurd (omega (arith, none))
merges_all all ts [] kept left h none is =
    let whole : all_of ts ≡ all = ap all_of (sym (append-nil ts)) ∙ h.whole in
    let same : all_of kept ≡ merged all = h.are ∙ ap merged whole in
    ap (λ b. if b then Ok (without_empty_texts (merged all)) else Err PXQ0002) (ap (texts_within most_bytes) (sym same) ∙ h.within) ∙ ap (λ us. Ok (without_empty_texts us)) (sym same) ∙ ap Ok (sym is)

-- without empty texts
pub emptied : (xs : List TreeTerm) → without_empty_texts (all_of xs) ≡ all_of (filter (λ (t : TreeTerm). not (is_empty_text t.content)) xs)
emptied [] = refl
emptied (x ∷ xs) = of (is_empty_text x.content) (emptied xs)
  where
    left : List TreeTerm
    left = filter (λ (t : TreeTerm). not (is_empty_text t.content)) xs

    of : (b : Bool) → without_empty_texts (all_of xs) ≡ all_of left
        → (if b then without_empty_texts (all_of xs) else tree x.content x.attributes x.children (without_empty_texts (all_of xs))) ≡ all_of (cond (not b) (x ∷ left) left)
    of true h = h
    of false h = ap (tree x.content x.attributes x.children) h

-- none is there more often
before_merged_few : (i : ℕ) (c : Content) (bs cs ts : Trees) → count i (before_merged c bs cs ts) ≤ count i (tree c bs cs ts)
before_merged_few i c bs cs no_trees = omega arith
before_merged_few i c bs cs (tree d ds es rest) = of (is_text c.kind && is_text d.kind)
  where
    of : (b : Bool) → count i (if b then tree (record c { text = c.text ++ d.text }) bs cs rest else tree c bs cs (tree d ds es rest)) ≤ count i (tree c bs cs (tree d ds es rest))
    of true = omega arith
    of false = omega arith

merged_few : (i : ℕ) (ts : Trees) → count i (merged ts) ≤ count i ts
merged_few i no_trees = omega arith
merged_few i (tree c bs cs rest) = let a = before_merged_few i c bs cs (merged rest) in let b = merged_few i rest in omega (arith, a, b)

without_empty_few : (i : ℕ) (ts : Trees) → count i (without_empty_texts ts) ≤ count i ts
without_empty_few i no_trees = omega arith
without_empty_few i (tree c bs cs rest) = of (is_empty_text c) (without_empty_few i rest)
  where
    of : (b : Bool) → count i (without_empty_texts rest) ≤ count i rest → count i (if b then without_empty_texts rest else tree c bs cs (without_empty_texts rest)) ≤ count i (tree c bs cs rest)
    of true h = omega (arith, h)
    of false h = omega (arith, h)

pub few : (ts us : Trees) → without_adjacent_texts ts ≡ Ok us → (i : ℕ) → count i us ≤ count i ts
few ts us e i = of (texts_within most_bytes (merged ts)) e
  where
    of : (b : Bool) → (if b then Ok (without_empty_texts (merged ts)) else Err PXQ0002) ≡ Ok us → count i us ≤ count i ts
    of true e =
        let same : without_empty_texts (merged ts) ≡ us = cc in
        let a = merged_few i ts in let b = without_empty_few i (merged ts) in let s = ap (count i) same in
        omega (arith, a, b, s)
    of false e = cc

-- ---- trees that have nothing to be merged
never_both : (w p e : Bool) → not (p && (w || e)) ≡ true → w && p ≡ false
never_both true true e h = cc
never_both true false e h = refl
never_both false p e h = refl

never_empty : (w p e : Bool) → not (p && (w || e)) ≡ true → p && e ≡ false
never_empty w false e h = refl
never_empty true true e h = cc
never_empty false true true h = cc
never_empty false true false h = refl

first_apart : (c : Content) (bs cs ts : Trees) → are_apart (is_text c.kind) ts ≡ true → before_merged c bs cs ts ≡ tree c bs cs ts
first_apart c bs cs no_trees h = refl
first_apart c bs cs (tree d ds es rest) h =
    let stays = both (is_apart (is_text c.kind) d) (are_apart (is_text d.kind) rest) h in
    let apart = both (nat_le (length d.text) most_bytes) (not (is_text d.kind && (is_text c.kind || bytes_eq d.text []))) stays.0 in
    ap (λ b. if b then tree (record c { text = c.text ++ d.text }) bs cs rest else tree c bs cs (tree d ds es rest)) (never_both (is_text c.kind) (is_text d.kind) (bytes_eq d.text []) apart.1)

all_apart : (w : Bool) (ts : Trees) → are_apart w ts ≡ true → (merged ts ≡ ts) × (texts_within most_bytes ts ≡ true) × (without_empty_texts ts ≡ ts)
all_apart w no_trees h = (refl, refl, refl)
all_apart w (tree c bs cs rest) h =
    let stays = both (is_apart w c) (are_apart (is_text c.kind) rest) h in
    let short = both (nat_le (length c.text) most_bytes) (not (is_text c.kind && (w || bytes_eq c.text []))) stays.0 in
    let others = all_apart (is_text c.kind) rest stays.1 in (
      ap (before_merged c bs cs) others.0 ∙ first_apart c bs cs rest stays.1,
      ap (λ b. b && texts_within most_bytes rest) short.0 ∙ others.1,
      ap (λ b. if b then without_empty_texts rest else tree c bs cs (without_empty_texts rest)) (never_empty w (is_text c.kind) (bytes_eq c.text []) short.1) ∙ ap (tree c bs cs) others.2,
    )

pub apart_stays : (ts : Trees) → are_apart false ts ≡ true → without_adjacent_texts ts ≡ Ok ts
apart_stays ts h =
    let all = all_apart false ts h in
    ap (λ us. if texts_within most_bytes us then Ok (without_empty_texts us) else Err PXQ0002) all.0 ∙ ap (λ b. if b then Ok (without_empty_texts ts) else Err PXQ0002) all.1 ∙ ap Ok all.2
