-- What tidying leaves, and that it leaves that alone.
use Rattle.std.proofs.Common.{◌≡◌, ℕ, Bool, true, false, not, ◌&&◌, List, [], refl}
use Rattle.std.specs.Str.{bytes_eq}
use Rattle.data_model.specs.Trees.{Trees, no_trees, tree, Content, is_text}
use Rattle.data_model.specs.Tidy.{is_document, begins_with_text, has_distinct_names, is_tidy_content, is_xml_text, are_tidy, may_be_attribute, may_be_child}
use Rattle.data_model.specs.declared.node.Kind.{Kind}
use Rattle.data_model.specs.declared.node.Kind.TheVariants.{Document, Element, Attribute, Text, Comment, Instruction}
use Rattle.pending.specs.Texts.{before_merged, is_empty_text}
use Rattle.update_meaning.specs.Results.{all_merged, all_filled, stored, tidied, are_apart, are_filled, are_documents, has_distinct_attributes}
use Rattle.update_meaning.proofs.Booleans.{and-left, and-right, and-both, not-true, excluded, never, all-four, Four, four}

pub record Parts (c : Content) (bs cs rest : Trees) : Type 0 where
  pub head : not (is_text c.kind && begins_with_text rest) ≡ true
  pub attributes : are_apart bs ≡ true
  pub children : are_apart cs ≡ true
  pub others : are_apart rest ≡ true

parts : (c : Content) (bs cs rest : Trees) → are_apart (tree c bs cs rest) ≡ true → Parts c bs cs rest
parts c bs cs rest h = let f = four (not (is_text c.kind && begins_with_text rest)) (are_apart bs) (are_apart cs) (are_apart rest) h in record { head = f.first; attributes = f.second; children = f.third; others = f.fourth }

whole : (c : Content) (bs cs rest : Trees) → not (is_text c.kind && begins_with_text rest) ≡ true → are_apart bs ≡ true → are_apart cs ≡ true → are_apart rest ≡ true → are_apart (tree c bs cs rest) ≡ true
whole c bs cs rest = all-four (not (is_text c.kind && begins_with_text rest)) (are_apart bs) (are_apart cs) (are_apart rest)

-- ---- merging
before-apart : (c : Content) (bs cs rest : Trees) → are_apart bs ≡ true → are_apart cs ≡ true → are_apart rest ≡ true → are_apart (before_merged c bs cs rest) ≡ true
before-apart c bs cs no_trees hb hc hr = whole c bs cs no_trees (never (is_text c.kind)) hb hc refl
before-apart c bs cs (tree d ds es rest) hb hc hr = pick (is_text c.kind && is_text d.kind) refl
  where
    p : Parts d ds es rest
    p = parts d ds es rest hr

    pick : (b : Bool) → (is_text c.kind && is_text d.kind) ≡ b → are_apart (before_merged c bs cs (tree d ds es rest)) ≡ true
    pick true e =
        let begins = excluded (is_text d.kind) (begins_with_text rest) p.head (and-right (is_text c.kind) (is_text d.kind) e) in
        rw e (all-four (not (is_text c.kind && begins_with_text rest)) (are_apart bs) (are_apart cs) (are_apart rest) (rw begins (never (is_text c.kind))) hb hc p.others)
    pick false e = rw e (all-four (not (is_text c.kind && is_text d.kind)) (are_apart bs) (are_apart cs) (are_apart (tree d ds es rest)) (rw e refl) hb hc hr)

merged-apart : (ts : Trees) → are_apart (all_merged ts) ≡ true
merged-apart no_trees = refl
merged-apart (tree c bs cs rest) = before-apart c (all_merged bs) (all_merged cs) (all_merged rest) (merged-apart bs) (merged-apart cs) (merged-apart rest)

-- ---- dropping empty texts
no-text-empty : (c : Content) → is_text c.kind ≡ false → is_empty_text c ≡ false
no-text-empty c h = rw h refl

begins-filled : (ts : Trees) → begins_with_text ts ≡ false → begins_with_text (all_filled ts) ≡ false
begins-filled no_trees h = refl
begins-filled (tree c bs cs rest) h = rw (no-text-empty c h) h

filled-head : (b : Bool) (rest : Trees) → not (b && begins_with_text rest) ≡ true → not (b && begins_with_text (all_filled rest)) ≡ true
filled-head true rest h = rw (begins-filled rest (not-true (begins_with_text rest) h)) refl
filled-head false rest h = refl

filled-apart-at : (c : Content) (bs cs rest : Trees) → Parts c bs cs rest → are_apart (all_filled bs) ≡ true → are_apart (all_filled cs) ≡ true → are_apart (all_filled rest) ≡ true
    → (e : Bool) → is_empty_text c ≡ e → are_apart (all_filled (tree c bs cs rest)) ≡ true
filled-apart-at c bs cs rest p b d r true e = rw e r
filled-apart-at c bs cs rest p b d r false e = rw e (whole c (all_filled bs) (all_filled cs) (all_filled rest) (filled-head (is_text c.kind) rest p.head) b d r)

filled-apart : (ts : Trees) → are_apart ts ≡ true → are_apart (all_filled ts) ≡ true
filled-apart no_trees h = refl
filled-apart (tree c bs cs rest) h =
    let p = parts c bs cs rest h in
    filled-apart-at c bs cs rest p (filled-apart bs p.attributes) (filled-apart cs p.children) (filled-apart rest p.others) (is_empty_text c) refl

filled-filled-at : (c : Content) (bs cs rest : Trees) → are_filled (all_filled bs) ≡ true → are_filled (all_filled cs) ≡ true → are_filled (all_filled rest) ≡ true
    → (e : Bool) → is_empty_text c ≡ e → are_filled (all_filled (tree c bs cs rest)) ≡ true
filled-filled-at c bs cs rest b d r true e = rw e r
filled-filled-at c bs cs rest b d r false e = rw e (all-four (not (is_empty_text c)) (are_filled (all_filled bs)) (are_filled (all_filled cs)) (are_filled (all_filled rest)) (rw e refl) b d r)

filled-filled : (ts : Trees) → are_filled (all_filled ts) ≡ true
filled-filled no_trees = refl
filled-filled (tree c bs cs rest) = filled-filled-at c bs cs rest (filled-filled bs) (filled-filled cs) (filled-filled rest) (is_empty_text c) refl

-- ---- dropping what is under no document
no-text : (k : Kind) → is_document k ≡ true → is_text k ≡ false
no-text Document h = refl
no-text Element h = cc
no-text Attribute h = cc
no-text Text h = cc
no-text Comment h = cc
no-text Instruction h = cc

no-text-head : (k : Kind) (b : Bool) → is_document k ≡ true → not (is_text k && b) ≡ true
no-text-head k b h = rw (no-text k h) refl

stored-apart-at : (c : Content) (bs cs rest : Trees) → Parts c bs cs rest → are_apart (stored rest) ≡ true → (e : Bool) → is_document c.kind ≡ e → are_apart (stored (tree c bs cs rest)) ≡ true
stored-apart-at c bs cs rest p r true e = rw e (whole c bs cs (stored rest) (no-text-head c.kind (begins_with_text (stored rest)) e) p.attributes p.children r)
stored-apart-at c bs cs rest p r false e = rw e r

stored-apart : (ts : Trees) → are_apart ts ≡ true → are_apart (stored ts) ≡ true
stored-apart no_trees h = refl
stored-apart (tree c bs cs rest) h = let p = parts c bs cs rest h in stored-apart-at c bs cs rest p (stored-apart rest p.others) (is_document c.kind) refl

stored-filled-at : (c : Content) (bs cs rest : Trees) → Four (not (is_empty_text c)) (are_filled bs) (are_filled cs) (are_filled rest) → are_filled (stored rest) ≡ true
    → (e : Bool) → is_document c.kind ≡ e → are_filled (stored (tree c bs cs rest)) ≡ true
stored-filled-at c bs cs rest f r true e = rw e (all-four (not (is_empty_text c)) (are_filled bs) (are_filled cs) (are_filled (stored rest)) f.first f.second f.third r)
stored-filled-at c bs cs rest f r false e = rw e r

stored-filled : (ts : Trees) → are_filled ts ≡ true → are_filled (stored ts) ≡ true
stored-filled no_trees h = refl
stored-filled (tree c bs cs rest) h =
    let f = four (not (is_empty_text c)) (are_filled bs) (are_filled cs) (are_filled rest) h in
    stored-filled-at c bs cs rest f (stored-filled rest f.fourth) (is_document c.kind) refl

stored-documents-at : (c : Content) (bs cs rest : Trees) → are_documents (stored rest) ≡ true → (e : Bool) → is_document c.kind ≡ e → are_documents (stored (tree c bs cs rest)) ≡ true
stored-documents-at c bs cs rest r true e = rw e (and-both (is_document c.kind) (are_documents (stored rest)) e r)
stored-documents-at c bs cs rest r false e = rw e r

stored-documents : (ts : Trees) → are_documents (stored ts) ≡ true
stored-documents no_trees = refl
stored-documents (tree c bs cs rest) = stored-documents-at c bs cs rest (stored-documents rest) (is_document c.kind) refl

-- ---- all of it
pub tidied-apart : (ts : Trees) → are_apart (tidied ts) ≡ true
tidied-apart ts = stored-apart (all_filled (all_merged ts)) (filled-apart (all_merged ts) (merged-apart ts))

pub tidied-filled : (ts : Trees) → are_filled (tidied ts) ≡ true
tidied-filled ts = stored-filled (all_filled (all_merged ts)) (filled-filled (all_merged ts))

pub tidied-documents : (ts : Trees) → are_documents (tidied ts) ≡ true
tidied-documents ts = stored-documents (all_filled (all_merged ts))

-- ---- what is so stays so
before-same : (c : Content) (bs cs rest : Trees) → not (is_text c.kind && begins_with_text rest) ≡ true → before_merged c bs cs rest ≡ tree c bs cs rest
before-same c bs cs no_trees h = refl
before-same c bs cs (tree d ds es rest) h = rw (not-true (is_text c.kind && is_text d.kind) h) refl

merged-same : (ts : Trees) → are_apart ts ≡ true → all_merged ts ≡ ts
merged-same no_trees h = refl
merged-same (tree c bs cs rest) h =
    let p = parts c bs cs rest h in
    rw (merged-same bs p.attributes, merged-same cs p.children, merged-same rest p.others) (before-same c bs cs rest p.head)

filled-same : (ts : Trees) → are_filled ts ≡ true → all_filled ts ≡ ts
filled-same no_trees h = refl
filled-same (tree c bs cs rest) h =
    let f = four (not (is_empty_text c)) (are_filled bs) (are_filled cs) (are_filled rest) h in
    rw (not-true (is_empty_text c) f.first, filled-same bs f.second, filled-same cs f.third, filled-same rest f.fourth) refl

stored-same : (ts : Trees) → are_documents ts ≡ true → stored ts ≡ ts
stored-same no_trees h = refl
stored-same (tree c bs cs rest) h = rw (and-left (is_document c.kind) (are_documents rest) h, stored-same rest (and-right (is_document c.kind) (are_documents rest) h)) refl

pub tidied-same : (ts : Trees) → are_apart ts ≡ true → are_filled ts ≡ true → are_documents ts ≡ true → tidied ts ≡ ts
tidied-same ts a f d = rw (merged-same ts a, filled-same ts f) (stored-same ts d)

pub tidied-again : (ts : Trees) → tidied (tidied ts) ≡ tidied ts
tidied-again ts = tidied-same (tidied ts) (tidied-apart ts) (tidied-filled ts) (tidied-documents ts)

-- ---- stored trees are so
not-empty : (k : Kind) (name text : List ℕ) → is_tidy_content k name text ≡ true → (is_text k && bytes_eq text []) ≡ false
not-empty Document name text h = refl
not-empty Element name text h = refl
not-empty Attribute name text h = refl
not-empty Text name text h = not-true (bytes_eq text []) (and-right (bytes_eq name [] && is_xml_text text) (not (bytes_eq text [])) h)
not-empty Comment name text h = refl
not-empty Instruction name text h = refl

-- what a tidy tree is, and its parts
record Tidy (may : Kind → Bool) (c : Content) (bs cs rest : Trees) : Type 0 where
  pub kind : may c.kind ≡ true
  pub content : is_tidy_content c.kind c.name c.text ≡ true
  pub head : not (is_text c.kind && begins_with_text rest) ≡ true
  pub names : has_distinct_names bs ≡ true
  pub attributes : are_tidy (may_be_attribute c.kind) bs ≡ true
  pub children : are_tidy (may_be_child c.kind) cs ≡ true
  pub others : are_tidy may rest ≡ true

seven : (a b c d e f g : Bool) → (a && b && c && d && e && f && g) ≡ true → (a ≡ true) × ((b ≡ true) × ((c ≡ true) × ((d ≡ true) × ((e ≡ true) × ((f ≡ true) × (g ≡ true))))))
seven true true true true true true true h = (refl, (refl, (refl, (refl, (refl, (refl, refl))))))
seven true true true true true true false h = cc
seven true true true true true false g h = cc
seven true true true true false f g h = cc
seven true true true false e f g h = cc
seven true true false d e f g h = cc
seven true false c d e f g h = cc
seven false b c d e f g h = cc

tidy-parts : (may : Kind → Bool) (c : Content) (bs cs rest : Trees) → are_tidy may (tree c bs cs rest) ≡ true → Tidy may c bs cs rest
tidy-parts may c bs cs rest h =
    let s = seven (may c.kind) (is_tidy_content c.kind c.name c.text) (not (is_text c.kind && begins_with_text rest)) (has_distinct_names bs) (are_tidy (may_be_attribute c.kind) bs) (are_tidy (may_be_child c.kind) cs) (are_tidy may rest) h in
    record { kind = s.0; content = s.1.0; head = s.1.1.0; names = s.1.1.1.0; attributes = s.1.1.1.1.0; children = s.1.1.1.1.1.0; others = s.1.1.1.1.1.1 }

pub tidy-apart : (may : Kind → Bool) (ts : Trees) → are_tidy may ts ≡ true → are_apart ts ≡ true
tidy-apart may no_trees h = refl
tidy-apart may (tree c bs cs rest) h =
    let t = tidy-parts may c bs cs rest h in
    whole c bs cs rest t.head (tidy-apart (may_be_attribute c.kind) bs t.attributes) (tidy-apart (may_be_child c.kind) cs t.children) (tidy-apart may rest t.others)

pub tidy-filled : (may : Kind → Bool) (ts : Trees) → are_tidy may ts ≡ true → are_filled ts ≡ true
tidy-filled may no_trees h = refl
tidy-filled may (tree c bs cs rest) h =
    let t = tidy-parts may c bs cs rest h in
    all-four (not (is_empty_text c)) (are_filled bs) (are_filled cs) (are_filled rest) (rw (not-empty c.kind c.name c.text t.content) refl)
    (tidy-filled (may_be_attribute c.kind) bs t.attributes) (tidy-filled (may_be_child c.kind) cs t.children) (tidy-filled may rest t.others)

pub tidy-names : (may : Kind → Bool) (ts : Trees) → are_tidy may ts ≡ true → has_distinct_attributes ts ≡ true
tidy-names may no_trees h = refl
tidy-names may (tree c bs cs rest) h =
    let t = tidy-parts may c bs cs rest h in
    all-four (has_distinct_names bs) (has_distinct_attributes bs) (has_distinct_attributes cs) (has_distinct_attributes rest) t.names
    (tidy-names (may_be_attribute c.kind) bs t.attributes) (tidy-names (may_be_child c.kind) cs t.children) (tidy-names may rest t.others)

pub tidy-documents : (ts : Trees) → are_tidy is_document ts ≡ true → are_documents ts ≡ true
tidy-documents no_trees h = refl
tidy-documents (tree c bs cs rest) h =
    let t = tidy-parts is_document c bs cs rest h in
    and-both (is_document c.kind) (are_documents rest) t.kind (tidy-documents rest t.others)
