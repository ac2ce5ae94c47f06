-- The printed text of an item is the text of its expression.
use Rattle.std.proofs.Common.{◌≡◌, ℕ, zero, suc, ◌≤◌, Bool, true, false, cond, not, ◌&&◌, All, List, [], ◌∷◌, ◌++◌, chars, eqb, Option, Some, None, IsSome, refl, ap, sym, ◌∙◌, subst, arith, append-nil, Ok, Err}
use Rattle.std.proofs.lemmas.Bool.{and_parts, and_from, cond-false, false≢true}
use Rattle.std.proofs.lemmas.List.Elements.{All-nil, All-cons, All-head, All-tail, All-append}
use Rattle.std.specs.Fmt.{signed_decimal}
use Rattle.std.specs.List.{AllZip}
use Rattle.std.specs.Str.{bytes_eq}
use Rattle.data_model.specs.Tidy.{is_tidy_content, is_xml_text, are_tidy, may_be_attribute, may_be_child, has_distinct_names, begins_with_text}
use Rattle.data_model.specs.Trees.{Trees, no_trees, tree, Content, Place, is_text, first, find_below, find, height, listing}
use Rattle.data_model.specs.declared.node.Kind.{Kind as NodeKind}
use Rattle.data_model.specs.declared.node.Kind.TheVariants as node
use Rattle.values.specs.Printing.{literal, constructor, tree_texts, place_text, atom_text, item_text}
use Rattle.values.specs.Items.{IsThere}
use Rattle.values.specs.declared.atom.Atom.{Atom}
use Rattle.values.specs.declared.atom.Atom.TheVariants as a
use Rattle.values.specs.declared.atom.Item.{Item}
use Rattle.values.specs.declared.atom.Item.TheVariants as item
use Rattle.fault_codes.specs.declared.code.Code.TheVariants.{XPST0008, XPST0017, XQST0089, PXQ0001}
use Rattle.query_tokens.specs.Lexing.{is_separated}
use Rattle.query_tokens.specs.declared.token.Token.{Token}
use Rattle.query_grammar.specs.declared.ast.Expr.{Expr}
use Rattle.query_grammar.specs.declared.ast.Expr.TheVariants as e
use Rattle.query_grammar.specs.Reader as reader
use Rattle.query_grammar.proofs.Forms.{complete_query}
use Rattle.static_checks.specs.Brackets.{most_open}
use Rattle.static_checks.specs.Functions.{has_unknown_call}
use Rattle.static_checks.specs.Variables.{binds_a_name_twice, has_unbound}
use Rattle.static_checks.specs.Static.{IsExpression, parsed, of_read, of_grammar, unless_fault}
use Rattle.printed_trees.specs.Constructors.{IsPrintable, is_tidy_root, IsPrintableTree, IsPrintableAtom, IsPrintableItem, tree_expressions, place_expression, atom_expression, item_expression}
use Rattle.printed_trees.proofs.Spelling.{string, node_spelling, tree_spellings, integer_spelling, atom_spelling}
use Rattle.printed_trees.proofs.Spelt.{IsSpelt, string_spelt, integer_spelt, boolean_spelt, constructor_spelt, trees_spelt, query}
use Rattle.printed_trees.proofs.Spelt as spelt
use Rattle.printed_trees.proofs.Nested as nested
use Rattle.printed_trees.proofs.Nested.{IsNested, AreNested, constructor_nested, string_nested, integer_nested, boolean_nested, weaker, shallow}
use Rattle.printed_trees.proofs.Faultless as faultless
use Rattle.printed_trees.proofs.Faultless.{IsPlain, plain_trees, plain_constructor, plain_string, plain_integer, plain_boolean, no_fault}
use Rattle.printed_trees.proofs.Turns.{Reads, whole}
use Rattle.printed_trees.proofs.Lexed as lexed
use Rattle.printed_trees.proofs.Lexed.{IsLexed, tree_characters, constructor_lexed, literal_lexed, boolean_lexed, integer_lexed}
use Rattle.printed_trees.proofs.Texts as texts
use Rattle.printed_trees.proofs.Texts.{IsText, characters, constructor_text, literal_text, boolean_text, integer_text}

-- what holds of the elements of two lists, one after the other
left : {A : Type 0} (P : A → Type 0) (xs ys : List A) → All P (xs ++ ys) → All P xs
left P [] ys h = All-nil P
left P (x ∷ xs) ys h = All-cons P x xs (All-head P x (xs ++ ys) h) (left P xs ys (All-tail P x (xs ++ ys) h))

right : {A : Type 0} (P : A → Type 0) (xs ys : List A) → All P (xs ++ ys) → All P ys
right P [] ys h = h
right P (x ∷ xs) ys h = right P xs ys (All-tail P x (xs ++ ys) h)

-- what fits below a root fits as a root
fits_as_root : (kind : NodeKind) (name text : List ℕ) → is_tidy_content kind name text ≡ true → is_tidy_root kind name text ≡ true
fits_as_root node.Document name text h = h
fits_as_root node.Element name text h = h
fits_as_root node.Attribute name text h = h
fits_as_root node.Text name text h = (and_parts (bytes_eq name [] && is_xml_text text) _ h).0
fits_as_root node.Comment name text h = h
fits_as_root node.Instruction name text h = h

-- trees whose nodes can be printed, each alone
pub record AreRuled (may : NodeKind → Bool) (ts : Trees) : Type 0 where
  pub tidy : are_tidy may ts ≡ true
  pub texts : All (λ c. IsPrintable c.text) (listing ts)

-- those of a first tree, and what it says of itself
record ArePartsRuled (may : NodeKind → Bool) (c : Content) (bs cs rest : Trees) : Type 0 where
  allowed : may c.kind ≡ true
  tidy : is_tidy_root c.kind c.name c.text ≡ true
  distinct : has_distinct_names bs ≡ true
  printable : IsPrintable c.text
  attributes : AreRuled (may_be_attribute c.kind) bs
  children : AreRuled (may_be_child c.kind) cs
  others : AreRuled may rest

parts_ruled : (may : NodeKind → Bool) (c : Content) (bs cs rest : Trees) → AreRuled may (tree c bs cs rest) → ArePartsRuled may c bs cs rest
parts_ruled may c bs cs rest h =
    let t = may c.kind && is_tidy_content c.kind c.name c.text && not (is_text c.kind && begins_with_text rest) && has_distinct_names bs in
    let six = and_parts (t && are_tidy (may_be_attribute c.kind) bs && are_tidy (may_be_child c.kind) cs) (are_tidy may rest) h.tidy in
    let five = and_parts (t && are_tidy (may_be_attribute c.kind) bs) (are_tidy (may_be_child c.kind) cs) six.0 in
    let four = and_parts t (are_tidy (may_be_attribute c.kind) bs) five.0 in
    let three = and_parts (may c.kind && is_tidy_content c.kind c.name c.text && not (is_text c.kind && begins_with_text rest)) (has_distinct_names bs) four.0 in
    let two = and_parts (may c.kind && is_tidy_content c.kind c.name c.text) (not (is_text c.kind && begins_with_text rest)) three.0 in
    let one = and_parts (may c.kind) (is_tidy_content c.kind c.name c.text) two.0 in
    let P : Content → Type 0 = λ c. IsPrintable c.text in
    let front = left P (c ∷ listing bs ++ listing cs) (listing rest) h.texts in
    let node = left P (c ∷ listing bs) (listing cs) front in
    record {
      allowed = one.0;
      tidy = fits_as_root c.kind c.name c.text one.1;
      distinct = three.1;
      printable = All-head P c (listing bs) node;
      attributes = record { tidy = four.1; texts = All-tail P c (listing bs) node };
      children = record { tidy = five.1; texts = right P (c ∷ listing bs) (listing cs) front };
      others = record { tidy = six.1; texts = right P (c ∷ listing bs ++ listing cs) (listing rest) h.texts };
    }

trees_lexed : (may : NodeKind → Bool) (ts : Trees) → AreRuled may ts → AllZip IsLexed (tree_characters ts) (tree_spellings ts)
trees_lexed may no_trees h = tt
trees_lexed may (tree c bs cs rest) h =
    let parts = parts_ruled may c bs cs rest h in
    let attributes = trees_lexed (may_be_attribute c.kind) bs parts.attributes in
    let children = trees_lexed (may_be_child c.kind) cs parts.children in (
      constructor_lexed c.kind c.name c.text (tree_characters bs ++ tree_characters cs) (tree_spellings bs ++ tree_spellings cs) parts.tidy parts.printable
          (lexed.both (tree_characters bs) (tree_characters cs) (tree_spellings bs) (tree_spellings cs) attributes children),
      trees_lexed may rest parts.others,
    )

trees_text : (may : NodeKind → Bool) (ts : Trees) → AreRuled may ts → AllZip IsText (tree_texts ts) (tree_characters ts)
trees_text may no_trees h = tt
trees_text may (tree c bs cs rest) h =
    let parts = parts_ruled may c bs cs rest h in
    let attributes = trees_text (may_be_attribute c.kind) bs parts.attributes in
    let children = trees_text (may_be_child c.kind) cs parts.children in (
      constructor_text c.kind c.name c.text (tree_texts bs ++ tree_texts cs) (tree_characters bs ++ tree_characters cs) parts.tidy parts.printable.utf8
          (texts.both (tree_texts bs) (tree_texts cs) (tree_characters bs) (tree_characters cs) attributes children),
      trees_text may rest parts.others,
    )

-- no document stands below a node
no_document_attribute : (kind : NodeKind) → may_be_attribute kind node.Document ≡ false
no_document_attribute node.Document = refl
no_document_attribute node.Element = refl
no_document_attribute node.Attribute = refl
no_document_attribute node.Text = refl
no_document_attribute node.Comment = refl
no_document_attribute node.Instruction = refl

trees_nested : (d : ℕ) (may : NodeKind → Bool) (ts : Trees) → may node.Document ≡ false → AreRuled may ts → height ts ≤ d → AreNested d (tree_spellings ts)
trees_nested d may no_trees none h l = tt
trees_nested zero may (tree c bs cs rest) none h l = absurd (omega (arith, l))
trees_nested (suc d) may (tree c bs cs rest) none h l =
    let parts = parts_ruled may c bs cs rest h in
    let attributes = trees_nested d (may_be_attribute c.kind) bs (no_document_attribute c.kind) parts.attributes (omega (arith, l)) in
    let children = trees_nested d (may_be_child c.kind) cs refl parts.children (omega (arith, l)) in
    let impossible : c.kind ≡ node.Document → 1 ≤ d = λ e. absurd (false≢true (sym none ∙ ap may (sym e) ∙ parts.allowed)) in (
      constructor_nested d c.kind c.name c.text (tree_spellings bs ++ tree_spellings cs) impossible (nested.both d (tree_spellings bs) (tree_spellings cs) attributes children),
      trees_nested (suc d) may rest none parts.others (omega (arith, l)),
    )

-- the text is printed, read and spelt as the expression
record IsPrinted (level : ℕ) (bytes : List ℕ) (x : Expr) : Type 0 where
  cs : List ℕ
  spelling : List Token
  depth : ℕ
  text : IsText bytes cs
  lexed : IsLexed cs spelling
  spelt : IsSpelt level depth spelling x
  nested : IsNested 200 spelling
  plain : IsPlain x

printed : (level : ℕ) (bytes : List ℕ) (x : Expr) → IsPrinted level bytes x → IsExpression level (chars bytes) x
printed level bytes x p =
    let same : p.cs ++ [] ≡ chars bytes = append-nil p.cs ∙ sym (characters bytes p.cs p.text) in
    let apart : is_separated (chars bytes) ≡ false = ap is_separated (sym same) ∙ p.lexed.begun [] refl in
    let reads : Reads (chars bytes) p.spelling [] = subst (λ t. Reads t p.spelling []) same (p.lexed.read [] refl) in
    record {
      spelling = p.spelling;
      read = whole (chars bytes) p.spelling apart reads;
      shallow = shallow 200 p.spelling (omega arith) p.nested;
      spelt = query level p.depth p.spelling x p.spelt;
      faultless = no_fault x p.plain;
    }

-- a node and the trees of its parts
record IsNodePrintable (x : Place) : Type 0 where
  tidy : is_tidy_root x.content.kind x.content.name x.content.text ≡ true
  printable : IsPrintable x.content.text
  attributes : AreRuled (may_be_attribute x.content.kind) x.attributes
  children : AreRuled (may_be_child x.content.kind) x.children
  attributes_low : height x.attributes ≤ 199
  children_low : height x.children ≤ 199

-- those of a tree that can be printed
of_tree : (x : Place) → IsPrintableTree x.content x.attributes x.children → IsNodePrintable x
of_tree x h =
    let c = x.content in
    let bs = x.attributes in
    let ds = x.children in
    let P : Content → Type 0 = λ d. IsPrintable d.text in
    let root = is_tidy_root c.kind c.name c.text in
    let three = and_parts (root && has_distinct_names bs && are_tidy (may_be_attribute c.kind) bs) (are_tidy (may_be_child c.kind) ds) h.tidy in
    let two = and_parts (root && has_distinct_names bs) (are_tidy (may_be_attribute c.kind) bs) three.0 in
    record {
      tidy = (and_parts root (has_distinct_names bs) two.0).0;
      printable = h.text;
      attributes = record { tidy = two.1; texts = left P (listing bs) (listing ds) h.texts };
      children = record { tidy = three.1; texts = right P (listing bs) (listing ds) h.texts };
      attributes_low = omega (arith, h.depth);
      children_low = omega (arith, h.depth);
    }

node_printed : (level : ℕ) (x : Place) → IsNodePrintable x → IsPrinted level (place_text (Some x)) (place_expression (Some x))
node_printed level x p =
    let c = x.content in
    let bs = x.attributes in
    let ds = x.children in
    record {
      cs = constructor c.kind c.name (chars c.text) (tree_characters bs ++ tree_characters ds);
      spelling = node_spelling c (tree_spellings bs ++ tree_spellings ds);
      depth = 201;
      text = constructor_text c.kind c.name c.text (tree_texts bs ++ tree_texts ds) (tree_characters bs ++ tree_characters ds) p.tidy p.printable.utf8
          (texts.both (tree_texts bs) (tree_texts ds) (tree_characters bs) (tree_characters ds) (trees_text (may_be_attribute c.kind) bs p.attributes) (trees_text (may_be_child c.kind) ds p.children));
      lexed = constructor_lexed c.kind c.name c.text (tree_characters bs ++ tree_characters ds) (tree_spellings bs ++ tree_spellings ds) p.tidy p.printable
          (lexed.both (tree_characters bs) (tree_characters ds) (tree_spellings bs) (tree_spellings ds) (trees_lexed (may_be_attribute c.kind) bs p.attributes) (trees_lexed (may_be_child c.kind) ds p.children));
      spelt = constructor_spelt level 199 c.kind c.name c.text (tree_spellings bs ++ tree_spellings ds) (tree_expressions bs ++ tree_expressions ds)
          (spelt.both level 200 (tree_spellings bs) (tree_spellings ds) (tree_expressions bs) (tree_expressions ds) (trees_spelt level 199 bs p.attributes_low) (trees_spelt level 199 ds p.children_low));
      nested = constructor_nested 199 c.kind c.name c.text (tree_spellings bs ++ tree_spellings ds) (λ _. omega arith)
          (nested.both 199 (tree_spellings bs) (tree_spellings ds) (trees_nested 199 (may_be_attribute c.kind) bs (no_document_attribute c.kind) p.attributes p.attributes_low)
          (trees_nested 199 (may_be_child c.kind) ds refl p.children p.children_low));
      plain = plain_constructor c.kind c.name c.text (tree_expressions bs ++ tree_expressions ds) (faultless.both (tree_expressions bs) (tree_expressions ds) (plain_trees bs) (plain_trees ds));
    }

-- what is found can be printed
abbrev OfPlace : Option Place → Type 0
OfPlace None = Unit {0}
OfPlace (Some x) = IsPrintableTree x.content x.attributes x.children

of_first : (x y : Option Place) → OfPlace x → OfPlace y → OfPlace (first x y)
of_first None y h g = g
of_first (Some x) y h g = h

of_cond : (t : Bool) (x y : Option Place) → OfPlace x → OfPlace y → OfPlace (cond t x y)
of_cond true x y h g = h
of_cond false x y h g = g

found : (may : NodeKind → Bool) (p : Option ℕ) (i : ℕ) (ts : Trees) → AreRuled may ts → height ts ≤ 200 → OfPlace (find_below p i ts)
found may p i no_trees h l = tt
found may p i (tree c bs cs rest) h l =
    let parts = parts_ruled may c bs cs rest h in
    let root = is_tidy_root c.kind c.name c.text in
    let here : IsPrintableTree c bs cs = record {
      tidy = and_from (root && has_distinct_names bs && are_tidy (may_be_attribute c.kind) bs) (are_tidy (may_be_child c.kind) cs)
          (and_from (root && has_distinct_names bs) (are_tidy (may_be_attribute c.kind) bs) (and_from root (has_distinct_names bs) parts.tidy parts.distinct) parts.attributes.tidy) parts.children.tidy;
      text = parts.printable;
      texts = All-append (λ d. IsPrintable d.text) (listing bs) (listing cs) parts.attributes.texts parts.children.texts;
      depth = omega (arith, l);
    } in
    of_cond (eqb i c.identity) (Some (record { parent = p; content = c; attributes = bs; children = cs })) _ here
    (of_first (find_below (Some c.identity) i bs) _ (found (may_be_attribute c.kind) (Some c.identity) i bs parts.attributes (omega (arith, l)))
    (of_first (find_below (Some c.identity) i cs) (find_below p i rest) (found (may_be_child c.kind) (Some c.identity) i cs parts.children (omega (arith, l))) (found may p i rest parts.others (omega (arith, l)))))

place_printable : (o : Option Place) → IsSome o → OfPlace o → (x : Place) × (o ≡ Some x) × IsPrintableTree x.content x.attributes x.children
place_printable None h g = absurd (false≢true h)
place_printable (Some x) h g = (x, refl, g)

-- each node of tidy trees, where literals can have its texts, and which nest no deeper than brackets may
pub nodes_are_printable : (may : NodeKind → Bool) (ts : Trees) → AreRuled may ts → height ts ≤ most_open → (i : ℕ) → IsThere ts (item.Node i) → IsPrintableItem ts (item.Node i)
nodes_are_printable may ts h l i there = place_printable (find i ts) there (found may None i ts h l)

string_printed : (level : ℕ) (text : List ℕ) → IsPrintable text → is_xml_text text ≡ true → IsPrinted level (literal text) (e.String text)
string_printed level text w x = record {
  cs = literal (chars text);
  spelling = string text ∷ [];
  depth = 1;
  text = literal_text text w.utf8;
  lexed = literal_lexed text w x;
  spelt = string_spelt level 0 text;
  nested = weaker 0 200 (string text ∷ []) (omega arith) (string_nested text);
  plain = plain_string text;
}

atom_printed : (level : ℕ) (x : Atom) → IsPrintableAtom x → IsPrinted level (atom_text x) (atom_expression x)
atom_printed level (a.String text) h = string_printed level text h.0 h.1
atom_printed level (a.Untyped text) h = string_printed level text h.0 h.1
atom_printed level (a.Boolean b) h = record {
  cs = atom_text (a.Boolean b);
  spelling = atom_spelling (a.Boolean b);
  depth = 1;
  text = boolean_text b;
  lexed = boolean_lexed b;
  spelt = boolean_spelt level 0 b;
  nested = weaker 1 200 (atom_spelling (a.Boolean b)) (omega arith) (boolean_nested b);
  plain = plain_boolean b;
}
atom_printed level (a.Integer z) h = record {
  cs = signed_decimal z;
  spelling = integer_spelling z;
  depth = 1;
  text = integer_text z h;
  lexed = integer_lexed z h;
  spelt = integer_spelt level 0 z;
  nested = weaker 0 200 (integer_spelling z) (omega arith) (integer_nested z);
  plain = plain_integer z;
}

pub item_is_expression : (level : ℕ) (ts : Trees) (i : Item) → IsPrintableItem ts i → IsExpression level (chars (item_text ts i)) (item_expression ts i)
item_is_expression level ts (item.Node i) h =
    let x = h.0 in
    subst (λ o. IsExpression level (chars (place_text o)) (place_expression o)) (sym h.1) (printed level (place_text (Some x)) (place_expression (Some x)) (node_printed level x (of_tree x h.2)))
item_is_expression level ts (item.Atomic x) h = printed level (atom_text x) (atom_expression x) (atom_printed level x h)

pub expression_is_parsed : (level : ℕ) (text : List ℕ) (x : Expr) → IsExpression level text x → parsed level text ≡ Ok x
expression_is_parsed level text x h =
    ap (of_read level) h.read ∙ ap (λ b. cond b (Err PXQ0001) (of_grammar (reader.query level h.spelling))) h.shallow ∙ ap of_grammar (complete_query level h.spelling x h.spelt)
    ∙ cond-false (has_unknown_call x) (Err XPST0017) _ h.faultless.functions
    ∙ cond-false (binds_a_name_twice x) (Err XQST0089) _ h.faultless.names
    ∙ cond-false (has_unbound x []) (Err XPST0008) _ h.faultless.variables
    ∙ ap (λ f. unless_fault f x) h.faultless.categories

pub item_is_parsed : (level : ℕ) (ts : Trees) (i : Item) → IsPrintableItem ts i → parsed level (chars (item_text ts i)) ≡ Ok (item_expression ts i)
item_is_parsed level ts i h = expression_is_parsed level (chars (item_text ts i)) (item_expression ts i) (item_is_expression level ts i h)
