-- The parts of a node of a tidy tree: content in which nothing is merged or dropped, and that has no fault.
use Rattle.std.proofs.Common.{◌≡◌, Bool, true, false, not, ◌&&◌, nat_le, if◌then◌else◌, [], List, ◌++◌, ℕ, length, Option, Some, None, Result, Ok, Err, refl, ap, ap₂, sym, ◌∙◌}
use Rattle.std.proofs.lemmas.Bool.{and_parts, and_from, false≢true, not-true, le-leb}
use Rattle.std.specs.Str.{bytes_eq}
use Rattle.data_model.specs.Tidy.{is_tidy_content, is_xml_text, are_tidy, may_be_attribute, may_be_child, has_distinct_names, begins_with_text, is_document}
use Rattle.data_model.specs.Trees.{Trees, no_trees, tree, Content, append, is_text}
use Rattle.data_model.specs.declared.node.Kind.{Kind}
use Rattle.data_model.specs.declared.node.Kind.TheVariants.{Attribute, Text}
use Rattle.data_model.proofs.Weights.{append-none}
use Rattle.pending.specs.Texts.{before_merged, merged, is_empty_text, without_empty_texts, texts_within}
use Rattle.fault_codes.specs.declared.code.Code.{Code}
use Rattle.fault_codes.specs.declared.code.Code.TheVariants.{XPTY0004, XQTY0024, XQDY0025, PXQ0002, PXQ0003}
use Rattle.data_model.specs.Limits.{most_bytes}
use Rattle.query_meaning.specs.Content.{those, are_all, is_attribute, is_other, attributes, others, has_attributes_first, has_room, without_adjacent_texts, element_fault, document_fault}
use Rattle.printed_meaning.specs.Made.{anonymous}
use Rattle.printed_meaning.proofs.Anonymous.{carried, carried_those, same_all, same_beginning, same_distinct, same_first, same_room}
use Rattle.printed_meaning.proofs.Tidy.{HaveShortTexts, tidy_node, tidy_all, attribute_allowed, no_document_among_attributes, other_allowed, no_document_among_children}

-- Texts.

-- no two texts stand next to each other, none is empty, and no text is too long
abbrev pub are_apart : Trees → Bool
are_apart no_trees = true
are_apart (tree c bs cs rest) = not (is_text c.kind && begins_with_text rest) && not (is_empty_text c) && nat_le (length c.text) most_bytes && are_apart rest

same_apart : (ts : Trees) → are_apart (anonymous ts) ≡ are_apart ts
same_apart no_trees = refl
same_apart (tree c bs cs rest) =
    ap₂ (λ a b. not (is_text c.kind && a) && not (is_empty_text c) && nat_le (length c.text) most_bytes && b) (same_beginning rest) (same_apart rest)

record IsApart (c : Content) (rest : Trees) : Type 0 where
  alone : not (is_text c.kind && begins_with_text rest) ≡ true
  filled : not (is_empty_text c) ≡ true
  short : nat_le (length c.text) most_bytes ≡ true
  others : are_apart rest ≡ true

apart_at : (c : Content) (bs cs rest : Trees) → are_apart (tree c bs cs rest) ≡ true → IsApart c rest
apart_at c bs cs rest h =
    let alone = not (is_text c.kind && begins_with_text rest) in
    let three = and_parts (alone && not (is_empty_text c) && nat_le (length c.text) most_bytes) (are_apart rest) h in
    let two = and_parts (alone && not (is_empty_text c)) (nat_le (length c.text) most_bytes) three.0 in
    let one = and_parts alone (not (is_empty_text c)) two.0 in
    record { alone = one.0; filled = one.1; short = two.1; others = three.1 }

apart_from : (c : Content) (bs cs rest : Trees) → IsApart c rest → are_apart (tree c bs cs rest) ≡ true
apart_from c bs cs rest h =
    let alone = not (is_text c.kind && begins_with_text rest) in
    and_from (alone && not (is_empty_text c) && nat_le (length c.text) most_bytes) (are_apart rest)
    (and_from (alone && not (is_empty_text c)) (nat_le (length c.text) most_bytes) (and_from alone (not (is_empty_text c)) h.alone h.filled) h.short) h.others

unmerged : (c : Content) (bs cs rest : Trees) → not (is_text c.kind && begins_with_text rest) ≡ true → before_merged c bs cs rest ≡ tree c bs cs rest
unmerged c bs cs no_trees h = refl
unmerged c bs cs (tree d ds es rest) h = of (is_text c.kind && is_text d.kind) h
  where
    of : (b : Bool) → not b ≡ true → (if b then tree (record c { text = c.text ++ d.text }) bs cs rest else tree c bs cs (tree d ds es rest)) ≡ tree c bs cs (tree d ds es rest)
    of true h = absurd (false≢true h)
    of false h = refl

all_unmerged : (ts : Trees) → are_apart ts ≡ true → merged ts ≡ ts
all_unmerged no_trees h = refl
all_unmerged (tree c bs cs rest) h =
    let n = apart_at c bs cs rest h in ap (before_merged c bs cs) (all_unmerged rest n.others) ∙ unmerged c bs cs rest n.alone

all_filled : (ts : Trees) → are_apart ts ≡ true → without_empty_texts ts ≡ ts
all_filled no_trees h = refl
all_filled (tree c bs cs rest) h =
    let n = apart_at c bs cs rest h in
    ap (λ b. if b then without_empty_texts rest else tree c bs cs (without_empty_texts rest)) (not-true (is_empty_text c) n.filled)
    ∙ ap (tree c bs cs) (all_filled rest n.others)

all_short : (ts : Trees) → are_apart ts ≡ true → texts_within most_bytes ts ≡ true
all_short no_trees h = refl
all_short (tree c bs cs rest) h =
    let n = apart_at c bs cs rest h in and_from (nat_le (length c.text) most_bytes) (texts_within most_bytes rest) n.short (all_short rest n.others)

abbrev if_short : Trees → Bool → Result Trees Code
if_short ts b = if b then Ok (without_empty_texts ts) else Err PXQ0002

pub nothing_merged : (ts : Trees) → are_apart ts ≡ true → without_adjacent_texts ts ≡ Ok ts
nothing_merged ts h =
    ap (λ us. if_short us (texts_within most_bytes us)) (all_unmerged ts h) ∙ ap (if_short ts) (all_short ts h) ∙ ap Ok (all_filled ts h)

not_empty : (kind : Kind) (name text : List ℕ) → is_tidy_content kind name text ≡ true → not (is_text kind && bytes_eq text []) ≡ true
not_empty Text name text h = (and_parts (bytes_eq name [] && is_xml_text text) (not (bytes_eq text [])) h).1
not_empty _ name text h = refl

tidy_apart : (may : Kind → Bool) (ts : Trees) → are_tidy may ts ≡ true → HaveShortTexts ts → are_apart ts ≡ true
tidy_apart may no_trees h s = refl
tidy_apart may (tree c bs cs rest) h s =
    let n = tidy_node may c bs cs rest h in
    apart_from c bs cs rest (record {
      alone = n.apart;
      filled = not_empty c.kind c.name c.text n.content;
      short = le-leb (length c.text) most_bytes s.0;
      others = tidy_apart may rest n.others s.3;
    })

attribute_alone : (kind : Kind) (b : Bool) → is_attribute kind ≡ true → not (is_text kind && b) ≡ true
attribute_alone Attribute b h = refl
attribute_alone _ b h = absurd (false≢true h)

-- attributes before what is apart
both_apart : (bs cs : Trees) → are_all is_attribute bs ≡ true → are_apart bs ≡ true → are_apart cs ≡ true → are_apart (append bs cs) ≡ true
both_apart no_trees cs all a b = b
both_apart (tree c ds es rest) cs all a b =
    let n = apart_at c ds es rest a in let k = and_parts (is_attribute c.kind) (are_all is_attribute rest) all in
    apart_from c ds es (append rest cs) (record {
      alone = attribute_alone c.kind (begins_with_text (append rest cs)) k.0;
      filled = n.filled;
      short = n.short;
      others = both_apart rest cs k.1 n.others b;
    })

-- Attributes and others.

all_append : (f : Kind → Bool) (ts us : Trees) → are_all f ts ≡ true → are_all f us ≡ true → are_all f (append ts us) ≡ true
all_append f no_trees us a b = b
all_append f (tree c bs cs rest) us a b =
    let k = and_parts (f c.kind) (are_all f rest) a in and_from (f c.kind) (are_all f (append rest us)) k.0 (all_append f rest us k.1 b)

those_all : (f : Kind → Bool) (ts us : Trees) → are_all f ts ≡ true → those f (append ts us) ≡ append ts (those f us)
those_all f no_trees us h = refl
those_all f (tree c bs cs rest) us h =
    let k = and_parts (f c.kind) (are_all f rest) h in
    ap (λ b. if b then tree c bs cs (those f (append rest us)) else those f (append rest us)) k.0 ∙ ap (tree c bs cs) (those_all f rest us k.1)

those_none : (f : Kind → Bool) (ts us : Trees) → are_all (λ k. not (f k)) ts ≡ true → those f (append ts us) ≡ those f us
those_none f no_trees us h = refl
those_none f (tree c bs cs rest) us h =
    let k = and_parts (not (f c.kind)) (are_all (λ k. not (f k)) rest) h in
    ap (λ b. if b then tree c bs cs (those f (append rest us)) else those f (append rest us)) (not-true (f c.kind) k.0) ∙ those_none f rest us k.1

first_of_others : (cs : Trees) → are_all is_other cs ≡ true → has_attributes_first cs ≡ true
first_of_others no_trees h = refl
first_of_others (tree c bs cs rest) h =
    let k = and_parts (is_other c.kind) (are_all is_other rest) h in
    ap (λ b. if b then has_attributes_first rest else are_all is_other rest) (not-true (is_attribute c.kind) k.0) ∙ k.1

attributes_come_first : (bs cs : Trees) → are_all is_attribute bs ≡ true → are_all is_other cs ≡ true → has_attributes_first (append bs cs) ≡ true
attributes_come_first no_trees cs a b = first_of_others cs b
attributes_come_first (tree c ds es rest) cs a b =
    let k = and_parts (is_attribute c.kind) (are_all is_attribute rest) a in
    ap (λ b. if b then has_attributes_first (append rest cs) else are_all is_other (append rest cs)) k.0 ∙ attributes_come_first rest cs k.1 b

-- Parts.

abbrev pub is_no_document : Kind → Bool
is_no_document k = not (is_document k)

pub record AreParts (bs cs : Trees) : Type 0 where
  pub apart : are_apart (append bs cs) ≡ true
  pub attributes_alone : are_all is_attribute bs ≡ true
  pub others_alone : are_all is_other cs ≡ true
  pub attributes_are : attributes (append bs cs) ≡ bs
  pub others_are : others (append bs cs) ≡ cs
  pub inner : are_all is_no_document (append bs cs) ≡ true

pub are_parts : (kind : Kind) (bs cs : Trees) → are_tidy (may_be_attribute kind) bs ≡ true → are_tidy (may_be_child kind) cs ≡ true → HaveShortTexts bs → HaveShortTexts cs → AreParts bs cs
are_parts kind bs cs b c sb sc =
    let all_attributes = tidy_all (may_be_attribute kind) is_attribute (attribute_allowed kind) bs b in
    let all_others = tidy_all (may_be_child kind) is_other (other_allowed kind) cs c in
    let no_others = tidy_all (may_be_attribute kind) (λ k. not (is_other k)) (λ k h. ap (λ b. not (not b)) (attribute_allowed kind k h)) bs b in
    record {
      apart = both_apart bs cs all_attributes (tidy_apart (may_be_attribute kind) bs b sb) (tidy_apart (may_be_child kind) cs c sc);
      attributes_alone = all_attributes;
      others_alone = all_others;
      attributes_are = those_all is_attribute bs cs all_attributes ∙ ap (append bs) (none_of_others cs all_others) ∙ append-none bs;
      others_are = those_none is_other bs cs no_others ∙ all_of_others cs all_others;
      inner = all_append is_no_document bs cs (tidy_all (may_be_attribute kind) is_no_document (no_document_among_attributes kind) bs b) (tidy_all (may_be_child kind) is_no_document (no_document_among_children kind) cs c);
    }
  where
    none_of_others : (cs : Trees) → are_all is_other cs ≡ true → attributes cs ≡ no_trees
    none_of_others cs h = ap attributes (sym (append-none cs)) ∙ those_none is_attribute cs no_trees h

    all_of_others : (cs : Trees) → are_all is_other cs ≡ true → others cs ≡ cs
    all_of_others cs h = ap others (sym (append-none cs)) ∙ those_all is_other cs no_trees h ∙ append-none cs

-- Trees that say the same as such parts.

module _ (bs cs ps : Trees) (parts : AreParts bs cs) (alike : anonymous ps ≡ anonymous (append bs cs)) where
  pub parts_stay : without_adjacent_texts ps ≡ Ok ps
  parts_stay = nothing_merged ps (carried are_apart same_apart ps (append bs cs) alike ∙ parts.apart)

  pub same_attributes : anonymous (attributes ps) ≡ anonymous bs
  same_attributes = carried_those is_attribute ps (append bs cs) alike ∙ ap anonymous parts.attributes_are

  pub same_others : anonymous (others ps) ≡ anonymous cs
  same_others = carried_those is_other ps (append bs cs) alike ∙ ap anonymous parts.others_are

  module _ (room : has_room (append bs cs) ≡ true) where
    roomy : has_room ps ≡ true
    roomy = carried has_room same_room ps (append bs cs) alike ∙ room

    abbrev fault_of : Bool → Bool → Bool → Option Code
    fault_of a b d = if not a then Some XQTY0024 else if not b then Some XQDY0025 else if not d then Some PXQ0003 else None

    pub element_faultless : has_distinct_names bs ≡ true → element_fault ps ≡ None
    element_faultless distinct =
        ap (λ a. fault_of a (has_distinct_names (attributes ps)) (has_room ps)) (carried has_attributes_first same_first ps (append bs cs) alike ∙ attributes_come_first bs cs parts.attributes_alone parts.others_alone)
        ∙ ap (λ b. fault_of true b (has_room ps)) (carried has_distinct_names same_distinct (attributes ps) bs same_attributes ∙ distinct)
        ∙ ap (λ d. fault_of true true d) roomy

    abbrev document_fault_of : Bool → Bool → Option Code
    document_fault_of a d = if not a then Some XPTY0004 else if not d then Some PXQ0003 else None

    pub document_faultless : are_all is_other (append bs cs) ≡ true → document_fault ps ≡ None
    document_faultless alone =
        ap (λ a. document_fault_of a (has_room ps)) (carried (are_all is_other) (same_all is_other) ps (append bs cs) alike ∙ alone) ∙ ap (λ d. document_fault_of true d) roomy
