-- What tidy trees with short texts have, a node at a time.
use Rattle.std.proofs.Common.{◌≡◌, ℕ, ◌≤◌, Bool, true, false, not, ◌&&◌, All, List, [], ◌∷◌, ◌++◌, length, refl}
use Rattle.std.proofs.lemmas.Bool.{and_parts, and_from, false≢true}
use Rattle.std.proofs.lemmas.List.Elements.{All-nil, All-cons, All-head, All-tail}
use Rattle.std.specs.Str.{bytes_eq}
use Rattle.data_model.specs.Tidy.{is_tidy_content, is_xml_text, are_tidy, may_be_attribute, may_be_child, has_distinct_names, begins_with_text, is_document}
use Rattle.data_model.specs.Trees.{Trees, no_trees, tree, Content, append, is_text, is_inner, listing}
use Rattle.data_model.specs.declared.node.Kind.{Kind}
use Rattle.data_model.specs.declared.node.Kind.TheVariants.{Document, Element, Attribute, Text}
use Rattle.data_model.specs.Limits.{most_bytes}
use Rattle.query_meaning.specs.Content.{are_all, is_attribute, is_other, has_room}
use Rattle.printed_trees.specs.Constructors.{IsPrintable, is_tidy_root}
use Rattle.printed_meaning.specs.Made.{have_room}

-- a node of tidy trees
pub record IsTidyNode (may : Kind → Bool) (c : Content) (bs cs rest : Trees) : Type 0 where
  pub allowed : may c.kind ≡ true
  pub content : is_tidy_content c.kind c.name c.text ≡ true
  pub apart : not (is_text c.kind && begins_with_text rest) ≡ true
  pub distinct : has_distinct_names bs ≡ true
  pub attributes : are_tidy (may_be_attribute c.kind) bs ≡ true
  pub children : are_tidy (may_be_child c.kind) cs ≡ true
  pub others : are_tidy may rest ≡ true

pub tidy_node : (may : Kind → Bool) (c : Content) (bs cs rest : Trees) → are_tidy may (tree c bs cs rest) ≡ true → IsTidyNode may c bs cs rest
tidy_node may c bs cs rest h =
    let content = may c.kind && is_tidy_content c.kind c.name c.text in
    let apart = content && not (is_text c.kind && begins_with_text rest) in
    let distinct = apart && has_distinct_names bs in
    let attributes = distinct && are_tidy (may_be_attribute c.kind) bs in
    let six = and_parts (attributes && are_tidy (may_be_child c.kind) cs) (are_tidy may rest) h in
    let five = and_parts attributes (are_tidy (may_be_child c.kind) cs) six.0 in
    let four = and_parts distinct (are_tidy (may_be_attribute c.kind) bs) five.0 in
    let three = and_parts apart (has_distinct_names bs) four.0 in
    let two = and_parts content (not (is_text c.kind && begins_with_text rest)) three.0 in
    let one = and_parts (may c.kind) (is_tidy_content c.kind c.name c.text) two.0 in
    record { allowed = one.0; content = one.1; apart = two.1; distinct = three.1; attributes = four.1; children = five.1; others = six.1 }

-- no text is too long
abbrev pub HaveShortTexts : Trees → Type 0
HaveShortTexts no_trees = Unit {0}
HaveShortTexts (tree c bs cs rest) = (length c.text ≤ most_bytes) × HaveShortTexts bs × HaveShortTexts cs × HaveShortTexts rest

-- what holds of the elements of two lists, one after the other
pub both_parts : {A : Type 0} (P : A → Type 0) (xs ys : List A) → All P (xs ++ ys) → All P xs × All P ys
both_parts P [] ys h = (All-nil P, h)
both_parts P (x ∷ xs) ys h =
    let r = both_parts P xs ys (All-tail P x (xs ++ ys) h) in (All-cons P x xs (All-head P x (xs ++ ys) h) r.0, r.1)

pub short_texts : (ts : Trees) → All (λ c. IsPrintable c.text) (listing ts) → HaveShortTexts ts
short_texts no_trees h = tt
short_texts (tree c bs cs rest) h =
    let P : Content → Type 0 = λ c. IsPrintable c.text in
    let front = both_parts P ((c ∷ listing bs) ++ listing cs) (listing rest) h in
    let node = both_parts P (c ∷ listing bs) (listing cs) front.0 in
    let one = All-head P c (listing bs) node.0 in
    (one.short, short_texts bs (All-tail P c (listing bs) node.0), short_texts cs node.1, short_texts rest front.1)

-- Kinds.

-- trees of the kinds that are allowed
pub tidy_all : (may f : Kind → Bool) → ((k : Kind) → may k ≡ true → f k ≡ true) → (ts : Trees) → are_tidy may ts ≡ true → are_all f ts ≡ true
tidy_all may f to no_trees h = refl
tidy_all may f to (tree c bs cs rest) h =
    let n = tidy_node may c bs cs rest h in and_from (f c.kind) (are_all f rest) (to c.kind n.allowed) (tidy_all may f to rest n.others)

pub attribute_allowed : (k j : Kind) → may_be_attribute k j ≡ true → is_attribute j ≡ true
attribute_allowed Element Attribute h = refl
attribute_allowed _ _ h = absurd (false≢true h)

pub no_document_among_attributes : (k j : Kind) → may_be_attribute k j ≡ true → not (is_document j) ≡ true
no_document_among_attributes Element Attribute h = refl
no_document_among_attributes _ _ h = absurd (false≢true h)

pub other_allowed : (k j : Kind) → may_be_child k j ≡ true → is_other j ≡ true
other_allowed k Attribute h = absurd (false≢true h)
other_allowed k _ h = refl

pub no_document_among_children : (k j : Kind) → may_be_child k j ≡ true → not (is_document j) ≡ true
no_document_among_children k Document h = absurd (false≢true h)
no_document_among_children k _ h = refl

-- only elements have attributes
pub without_attributes : (k : Kind) (bs : Trees) → ((j : Kind) → may_be_attribute k j ≡ false) → are_tidy (may_be_attribute k) bs ≡ true → bs ≡ no_trees
without_attributes k no_trees none h = refl
without_attributes k (tree c ds es rest) none h =
    let n = tidy_node (may_be_attribute k) c ds es rest h in let z : false ≡ true = cc (none c.kind, n.allowed) in absurd (false≢true z)

-- only documents and elements have children
childless : (k : Kind) → is_inner k ≡ false → (j : Kind) → may_be_child k j ≡ false
childless k h Document = refl
childless k h Attribute = refl
childless k h _ = h

pub without_children : (k : Kind) (cs : Trees) → is_inner k ≡ false → are_tidy (may_be_child k) cs ≡ true → cs ≡ no_trees
without_children k no_trees none h = refl
without_children k (tree c ds es rest) none h =
    let n = tidy_node (may_be_child k) c ds es rest h in let z : false ≡ true = cc (childless k none c.kind, n.allowed) in absurd (false≢true z)

-- what fits below a root fits as a root
pub fits_as_root : (kind : Kind) (name text : List ℕ) → is_tidy_content kind name text ≡ true → is_tidy_root kind name text ≡ true
fits_as_root Text name text h = (and_parts (bytes_eq name [] && is_xml_text text) _ h).0
fits_as_root _ name text h = h

-- Room at each node.
pub record HasRoomAt (bs cs rest : Trees) : Type 0 where
  pub here : has_room (append bs cs) ≡ true
  pub attributes : have_room bs ≡ true
  pub children : have_room cs ≡ true
  pub others : have_room rest ≡ true

pub room_at : (c : Content) (bs cs rest : Trees) → have_room (tree c bs cs rest) ≡ true → HasRoomAt bs cs rest
room_at c bs cs rest h =
    let three = and_parts (has_room (append bs cs) && have_room bs && have_room cs) (have_room rest) h in
    let two = and_parts (has_room (append bs cs) && have_room bs) (have_room cs) three.0 in
    let one = and_parts (has_room (append bs cs)) (have_room bs) two.0 in
    record { here = one.0; attributes = one.1; children = two.1; others = three.1 }
