-- Each updating expression gives no items, and its primitives bring new nodes alone.
use Rattle.std.proofs.Common.{◌≡◌, ◌≤◌, ℕ, ◌+◌, Bool, true, false, not, ◌||◌, if◌then◌else◌, List, [], ◌∷◌, is_some, Err}
use Rattle.std.proofs.Common.{refl, subst, sym, arith}
use Rattle.data_model.specs.Tidy.{is_document}
use Rattle.data_model.specs.Trees.{Trees, no_trees, tree, Place as Standing, Content, find, count}
use Rattle.data_model.specs.declared.node.Kind.{Kind}
use Rattle.data_model.specs.declared.node.Kind.TheVariants as kind
use Rattle.pending.specs.Primitives.{PrimitiveTerm, insert_before, insert_after, insert_into, insert_into_as_first, insert_into_as_last}
use Rattle.pending.specs.Primitives.{insert_attributes, delete as delete_node, replace_node as replace_by, replace_value as replace_text}
use Rattle.pending.specs.Primitives.{replace_element_content, rename as rename_to}
use Rattle.fault_codes.specs.declared.code.Code.{Code}
use Rattle.fault_codes.specs.declared.code.Code.TheVariants as code
use Rattle.values.specs.declared.atom.Atom.{Atom}
use Rattle.values.specs.declared.atom.Item.{Item}
use Rattle.values.specs.declared.atom.Item.TheVariants as item
use Rattle.values.specs.Atoms.{or_fault}
use Rattle.query_grammar.specs.declared.ast.Expr.{Expr}
use Rattle.query_grammar.specs.declared.ast.Place.{Place}
use Rattle.query_grammar.specs.declared.ast.Place.TheVariants as place
use Rattle.query_meaning.specs.Running.{Run, M, pure, ◌>>=◌, adding}
use Rattle.query_meaning.specs.Meaning.{mean}
use Rattle.query_meaning.specs.Sequences.{Meaning}
use Rattle.query_meaning.specs.Operators as operators
use Rattle.query_meaning.specs.Content as contents
use Rattle.query_meaning.specs.Updates as updates
use Rattle.query_meaning.specs.Strings.{spaced}
use Rattle.update_meaning.specs.Brought.{trees_of as brought_by}
use Rattle.meaning_laws.proofs.Expressions.{Forms}
use Rattle.meaning_laws.proofs.Expressions as expressions
use Rattle.meaning_laws.proofs.Nodes.{two_parts}
use Rattle.meaning_laws.proofs.Sound.{Passes, Holds, Any, pure_, come_any, see, follow, bind, loop, add, add_from, leave, Given, given_up}
use Rattle.meaning_laws.proofs.Sound.{no_items, up}
use Rattle.meaning_laws.proofs.Fresh.{content_made, text_made, none_made, makes_aside}
use Rattle.meaning_laws.proofs.Giving.{Good, knows_up, any_up, all_any, any_atoms, named}
use Rattle.meaning_laws.proofs.Giving as giving
use Rattle.meaning_laws.proofs.Copied as copied

nothing : {r : Run} → Holds r (List Item) Given (pure [])
nothing = pure_ [] (λ b k. no_items)

must : {r : Run} (b : Bool) (e : Code) → Holds r (Unit {0}) Any (updates.must b e)
must true e = pure_ tt (λ b k. tt)
must false e = come_any (Err e)

target_of : {r : Run} (may : Kind → Bool) (e : Code) (items : List Item) → Holds r Standing Any (updates.target_of may e items)
target_of may e [] = come_any (Err code.XUDY0027)
target_of may e (item.Node i ∷ []) = bind (see {Q = Any} (find i) (λ b s k. tt)) (λ b _ x _. come_any (updates.of_kinds may e x))
target_of may e (item.Node i ∷ x ∷ xs) = come_any (Err e)
target_of may e (item.Atomic a ∷ xs) = come_any (Err e)

-- new trees beside what else is aside
abbrev Beside : (ℕ → ℕ) → Trees → ℕ → ℕ
Beside aside us i = aside i + count i us

-- new trees are aside, and then a primitive brings them
abbrev BringsThem : Run → (ℕ → ℕ) → Trees → M (List Item) → Type 0
BringsThem r aside us m = Passes r (List Item) Given m (Beside aside us) (λ _. aside)

-- a primitive of trees brings them
abbrev IsOfTrees : (Trees → PrimitiveTerm) → Type 0
IsOfTrees g = (us : Trees) → brought_by (g us) ≡ us

adding_trees : {r : Run} (before after : ℕ → ℕ) (g : Trees → PrimitiveTerm) (us : Trees) → IsOfTrees g → ((i : ℕ) → after i + count i us ≤ before i)
    → Passes r (Unit {0}) Any (updates.adding_trees g us) before (λ _. after)
adding_trees before after g no_trees brings less = leave before after (λ i. omega (arith, less i))
adding_trees before after g (tree x bs cs rest) brings less =
    let us = tree x bs cs rest in
    add_from before after (g us) (λ i. subst (λ vs. after i + count i vs ≤ before i) (sym (brings us)) (less i))

-- the attributes, and then the others
adding_insertions : {r : Run} (aside : ℕ → ℕ) (i : ℕ) (g : Trees → PrimitiveTerm) (us : Trees) → IsOfTrees g
    → BringsThem r aside us (updates.adding_insertions i g us)
adding_insertions aside i g us brings =
    let others = Beside aside (contents.others us) in
    follow (adding_trees (Beside aside us) others (insert_attributes i) (contents.attributes us) (λ vs. refl)
    (λ j. omega (arith, two_parts j contents.is_attribute us))) (λ b _ _ _.
    follow (adding_trees others aside g (contents.others us) brings (λ j. omega arith)) (λ c _ _ _. nothing.holds aside))

inserted_into : {r : Run} (aside : ℕ → ℕ) (g : ℕ → Trees → PrimitiveTerm) (us : Trees) (items : List Item) → ((i : ℕ) → IsOfTrees (g i))
    → BringsThem r aside us (updates.inserted_into g us items)
inserted_into aside g us items brings =
    let all = Beside aside us in
    follow ((target_of updates.has_children code.XUTY0005 items).holds all) (λ b _ (x : Standing) _.
    follow ((must (updates.is_none (contents.attributes us) || not (is_document x.content.kind)) code.XUTY0022).holds all) (λ c _ _ _.
    adding_insertions aside x.content.identity (g x.content.identity) us (brings x.content.identity)))

inserted_beside : {r : Run} (aside : ℕ → ℕ) (g : ℕ → Trees → PrimitiveTerm) (us : Trees) (items : List Item) → ((i : ℕ) → IsOfTrees (g i))
    → BringsThem r aside us (updates.inserted_beside g us items)
inserted_beside aside g us items brings =
    let all = Beside aside us in
    follow ((target_of updates.may_be_sibling code.XUTY0006 items).holds all) (λ b _ (x : Standing) _.
    follow ((come_any (or_fault code.XUDY0029 x.parent)).holds all) (λ c _ parent _.
    follow ((see {Q = Any} (find parent) (λ d s k. tt)).holds all) (λ d _ above _.
    follow ((must (updates.is_none (contents.attributes us) || not (updates.is_document_at above)) code.XUDY0030).holds all) (λ e _ _ _.
    adding_insertions aside parent (g x.content.identity) us (brings x.content.identity)))))

inserted : {r : Run} (aside : ℕ → ℕ) (at : Place) (us : Trees) (items : List Item) → BringsThem r aside us (updates.inserted at us items)
inserted aside place.Into us items = inserted_into aside insert_into us items (λ i vs. refl)
inserted aside place.FirstInto us items = inserted_into aside insert_into_as_first us items (λ i vs. refl)
inserted aside place.LastInto us items = inserted_into aside insert_into_as_last us items (λ i vs. refl)
inserted aside place.Before us items = inserted_beside aside insert_before us items (λ i vs. refl)
inserted aside place.After us items = inserted_beside aside insert_after us items (λ i vs. refl)

-- while the target is evaluated the copies are aside
insert : (source : Meaning) (at : Place) (target : Meaning) → Good source → Good target → Good (updates.insert source at target)
insert source at target gs gt r env h = record {
  holds = λ aside.
      follow ((gs r env h).holds aside) (λ b k items _.
      follow (makes_aside aside (content_made items)) (λ c j us _.
      follow ((must (contents.has_attributes_first us) code.XUTY0004).holds (Beside aside us)) (λ d l _ _.
      follow ((gt d env (knows_up r d env (up k (up j l)) h)).holds (Beside aside us)) (λ e _ found _. inserted aside at us found))));
}

delete : (target : Meaning) → Good target → Good (updates.delete target)
delete target g r env h =
    bind (g r env h) (λ b k items _. bind (come_any (operators.all_nodes code.XUTY0007 items)) (λ c _ is _.
    loop {P = Any} {f = λ _ given i. adding (delete_node i) >>= (λ _. pure given)} any_up given_up (λ n d given i v _.
    bind (add (delete_node i) (λ j. omega arith)) (λ e j _ _. pure_ given (λ o l. given_up d o given (up j l) v))) 0 c is (all_any c is) [] no_items))

replaces : {r : Run} (kind : Kind) (us : Trees) → Holds r (Unit {0}) Any (updates.replaces kind us)
replaces kind.Attribute us = must (contents.are_all contents.is_attribute us) code.XUTY0011
replaces kind.Document us = must (contents.are_all contents.is_other us) code.XUTY0010
replaces kind.Element us = must (contents.are_all contents.is_other us) code.XUTY0010
replaces kind.Text us = must (contents.are_all contents.is_other us) code.XUTY0010
replaces kind.Comment us = must (contents.are_all contents.is_other us) code.XUTY0010
replaces kind.Instruction us = must (contents.are_all contents.is_other us) code.XUTY0010

abbrev with_copies : Content → List Item → M (List Item)
with_copies x items =
    contents.content items >>= (λ us. updates.replaces x.kind us >>= (λ _. adding (replace_by x.identity us) >>= (λ _. pure [])))

replaced_by : {r : Run} (x : Content) (items : List Item) → Holds r (List Item) Given (with_copies x items)
replaced_by x items = record {
  holds = λ aside.
      follow (makes_aside aside (content_made items)) (λ b _ us _.
      follow ((replaces x.kind us).holds (Beside aside us)) (λ c _ _ _.
      follow (add_from (Beside aside us) aside (replace_by x.identity us) (λ i. omega arith)) (λ d _ _ _. nothing.holds aside)));
}

replace_node : (target source : Meaning) → Good target → Good source → Good (updates.replace_node target source)
replace_node target source gt gs r env h =
    bind (gt r env h) (λ b k found _. bind (target_of updates.may_be_replaced code.XUTY0008 found) (λ c j (x : Standing) _.
    bind (must (is_some x.parent) code.XUDY0009) (λ d l _ _.
    bind (gs d env (knows_up r d env (up k (up j l)) h)) (λ e _ items _. replaced_by x.content items))))

text_made_of : {r : Run} (aside : ℕ → ℕ) (values : List Atom) → Passes r Trees Any (updates.text_of_values values) aside (Beside aside)
text_made_of aside [] = makes_aside aside none_made
text_made_of aside (a ∷ more) = follow ((come_any (spaced (a ∷ more))).holds aside) (λ b _ text _. makes_aside aside (text_made text))

-- of a text node that was made its text alone is used
value_replaced : {r : Run} (aside : ℕ → ℕ) (x : Content) (us : Trees) → BringsThem r aside us (updates.value_replaced x us)
value_replaced aside x us =
    follow ((come_any (updates.text_for x.kind (updates.first_text us))).holds (Beside aside us)) (λ b _ text _.
    follow (add_from (Beside aside us) aside (replace_text x.identity text) (λ i. omega arith)) (λ c _ _ _. nothing.holds aside))

content_replaced : {r : Run} (aside : ℕ → ℕ) (x : Content) (us : Trees) → BringsThem r aside us (updates.content_replaced x us)
content_replaced aside x us =
    follow (add_from (Beside aside us) aside (replace_element_content x.identity us) (λ i. omega arith)) (λ b _ _ _. nothing.holds aside)

either : {r : Run} (b : Bool) (aside : ℕ → ℕ) (x : Content) (us : Trees)
    → BringsThem r aside us (if b then updates.content_replaced x us else updates.value_replaced x us)
either true aside x us = content_replaced aside x us
either false aside x us = value_replaced aside x us

text_replaced : {r : Run} (x : Content) (values : List Atom) → Holds r (List Item) Given (updates.text_of_values values >>= updates.text_replaced x)
text_replaced x values = record { holds = λ aside. follow (text_made_of aside values) (λ b _ us _. either _ aside x us) }

replace_value : (target source : Meaning) → Good target → Good source → Good (updates.replace_value target source)
replace_value target source gt gs r env h =
    bind (gt r env h) (λ b k found _. bind (target_of updates.may_be_replaced code.XUTY0008 found) (λ c j (x : Standing) _.
    bind (gs c env (knows_up r c env (up k j) h)) (λ d _ items _. bind (any_atoms items) (λ e _ values _. text_replaced x.content values))))

rename : (target name : Meaning) → Good target → Good name → Good (updates.rename target name)
rename target name gt gn r env h =
    bind (gt r env h) (λ b k found _. bind (target_of updates.has_name code.XUTY0012 found) (λ c j (x : Standing) _.
    bind (named x.content.kind name gn env (knows_up r c env (up k j) h)) (λ d _ given _.
    bind (add (rename_to x.content.identity given) (λ i. omega arith)) (λ e _ _ _. nothing))))

forms : Forms Good
forms = record {
  counts = giving.counts;
  number = giving.number;
  string = giving.string;
  variable = giving.variable;
  context_item = giving.context_item;
  sequence = giving.sequence;
  call = giving.call;
  document_node = giving.document_node;
  element = giving.element;
  attribute = giving.attribute;
  text = giving.text;
  comment = giving.comment;
  instruction = giving.instruction;
  axis_step = giving.axis_step;
  filter_of = giving.filter_of;
  path = giving.path;
  signed = giving.signed;
  chain = giving.chain;
  conditional = giving.conditional;
  quantified = giving.quantified;
  flwor = giving.flwor;
  insert = insert;
  delete = delete;
  replace_node = replace_node;
  replace_value = replace_value;
  rename = rename;
  copy = copied.copy;
}

pub every : (x : Expr) → Good (mean x)
every = expressions.every Good forms
