-- Each updating expression keeps what its parts keep and what an update primitive more does.
use Rattle.std.proofs.Common.{ℕ, ◌≤◌, Bool, true, false, not, ◌||◌, if◌then◌else◌, List, [], ◌∷◌, is_some, Result, Err}
use Rattle.data_model.specs.Tidy.{is_document}
use Rattle.data_model.specs.Trees.{Trees, no_trees, tree, Place as Standing, Content, find}
use Rattle.data_model.specs.declared.node.Kind.{Kind}
use Rattle.data_model.specs.declared.node.Kind.TheVariants as kind
use Rattle.pending.specs.Primitives.{PrimitiveTerm, insert_before, insert_after, insert_into, insert_into_as_first, insert_into_as_last, insert_attributes}
use Rattle.pending.specs.Primitives.{delete as delete_node, replace_node as replace_by, replace_value as replace_text, replace_element_content, rename as rename_to}
use Rattle.fault_codes.specs.declared.code.Code.{Code}
use Rattle.fault_codes.specs.declared.code.Code.TheVariants as code
use Rattle.values.specs.declared.atom.Atom.{Atom}
use Rattle.values.specs.declared.atom.Item.{Item}
use Rattle.values.specs.declared.atom.Item.TheVariants as item
use Rattle.values.specs.Atoms.{or_fault}
use Rattle.query_grammar.specs.declared.ast.Binding.{Binding}
use Rattle.query_grammar.specs.declared.ast.Expr.{Expr}
use Rattle.query_grammar.specs.declared.ast.Place.{Place}
use Rattle.query_grammar.specs.declared.ast.Place.TheVariants as place
use Rattle.query_meaning.specs.Running.{Run, M, pure, ◌>>=◌, come_to, adding}
use Rattle.query_meaning.specs.Meaning.{mean}
use Rattle.query_meaning.specs.Sequences.{Meaning}
use Rattle.query_meaning.specs.Operators as operators
use Rattle.query_meaning.specs.Content as contents
use Rattle.query_meaning.specs.Copies as copies
use Rattle.query_meaning.specs.Updates as updates
use Rattle.query_meaning.specs.Strings.{spaced}
use Rattle.meaning_laws.proofs.Copying.{own_list_keeps, copy_keeps}
use Rattle.meaning_laws.proofs.Keeps.{Keeps, Each, IsSteady, pure_keeps, come_keeps, seen_keeps, atoms_keep, bind, each_keeps, adding_keeps}
use Rattle.meaning_laws.proofs.Expressions.{Forms}
use Rattle.meaning_laws.proofs.Expressions as expressions
use Rattle.meaning_laws.proofs.Forms as form
use Rattle.meaning_laws.proofs.Steady.{Onward, steady_onward}

module _ (R : Run → Run → Type 0) (s : IsSteady R) where
  abbrev K : {A : Type 0} → M A → Type 0
  K {A = A} m = Keeps R A m

  abbrev Good : Meaning → Type 0
  Good = form.Good R s.quiet

  pure_ : {A : Type 0} (a : A) → Keeps R A (pure a)
  pure_ = pure_keeps R s.quiet

  come : {A : Type 0} (r : Result A Code) → Keeps R A (come_to r)
  come = come_keeps R s.quiet

  step : {A B : Type 0} {m : M A} {g : A → M B} → Keeps R A m → ((a : A) → Keeps R B (g a)) → Keeps R B (m >>= g)
  step {A = A} {B = B} {m = m} {g = g} = bind R s.quiet {m = m} {f = g}

  must : (b : Bool) (e : Code) → K (updates.must b e)
  must true e = pure_ tt
  must false e = come (Err e)

  target_of : (may : Kind → Bool) (e : Code) (items : List Item) → K (updates.target_of may e items)
  target_of may e [] = come (Err code.XUDY0027)
  target_of may e (item.Node i ∷ []) = step (seen_keeps R s.quiet (find i)) (λ x. come (updates.of_kinds may e x))
  target_of may e (item.Node i ∷ x ∷ xs) = come (Err e)
  target_of may e (item.Atomic a ∷ xs) = come (Err e)

  adding_trees : (g : Trees → PrimitiveTerm) (us : Trees) → K (updates.adding_trees g us)
  adding_trees g no_trees = pure_ tt
  adding_trees g (tree x bs cs rest) = adding_keeps R s (g (tree x bs cs rest))

  adding_insertions : (i : ℕ) (g : Trees → PrimitiveTerm) (us : Trees) → K (updates.adding_insertions i g us)
  adding_insertions i g us = step (adding_trees (insert_attributes i) (contents.attributes us)) (λ _. step (adding_trees g (contents.others us)) (λ _. pure_ []))

  inserted_into : (g : ℕ → Trees → PrimitiveTerm) (us : Trees) (items : List Item) → K (updates.inserted_into g us items)
  inserted_into g us items =
      step (target_of updates.has_children code.XUTY0005 items) (λ (x : Standing).
      step (must (updates.is_none (contents.attributes us) || not (is_document x.content.kind)) code.XUTY0022) (λ _. adding_insertions x.content.identity (g x.content.identity) us))

  inserted_beside : (g : ℕ → Trees → PrimitiveTerm) (us : Trees) (items : List Item) → K (updates.inserted_beside g us items)
  inserted_beside g us items =
      step (target_of updates.may_be_sibling code.XUTY0006 items) (λ (x : Standing). step (come (or_fault code.XUDY0029 x.parent)) (λ parent. step (seen_keeps R s.quiet (find parent)) (λ above.
      step (must (updates.is_none (contents.attributes us) || not (updates.is_document_at above)) code.XUDY0030) (λ _. adding_insertions parent (g x.content.identity) us))))

  inserted : (at : Place) (us : Trees) (items : List Item) → K (updates.inserted at us items)
  inserted place.Into us items = inserted_into insert_into us items
  inserted place.FirstInto us items = inserted_into insert_into_as_first us items
  inserted place.LastInto us items = inserted_into insert_into_as_last us items
  inserted place.Before us items = inserted_beside insert_before us items
  inserted place.After us items = inserted_beside insert_after us items

  pub insert : (source : Meaning) (at : Place) (target : Meaning) → Good source → Good target → Good (updates.insert source at target)
  insert source at target gs gt env =
      step (gs env) (λ items. step (form.content R s.quiet items) (λ us. step (must (contents.has_attributes_first us) code.XUTY0004) (λ _. step (gt env) (λ found. inserted at us found))))

  pub delete : (target : Meaning) → Good target → Good (updates.delete target)
  delete target g env =
      step (g env) (λ items. step (come (operators.all_nodes code.XUTY0007 items))
      (λ is. each_keeps R s.quiet {f = λ _ given i. adding (delete_node i) >>= (λ _. pure given)} (λ n given i. step (adding_keeps R s (delete_node i)) (λ _. pure_ given)) 0 is []))

  replaces : (kind : Kind) (us : Trees) → K (updates.replaces kind us)
  replaces kind.Attribute us = must (contents.are_all contents.is_attribute us) code.XUTY0011
  replaces kind.Document us = must (contents.are_all contents.is_other us) code.XUTY0010
  replaces kind.Element us = must (contents.are_all contents.is_other us) code.XUTY0010
  replaces kind.Text us = must (contents.are_all contents.is_other us) code.XUTY0010
  replaces kind.Comment us = must (contents.are_all contents.is_other us) code.XUTY0010
  replaces kind.Instruction us = must (contents.are_all contents.is_other us) code.XUTY0010

  pub replace_node : (target source : Meaning) → Good target → Good source → Good (updates.replace_node target source)
  replace_node target source gt gs env =
      step (gt env) (λ found. step (target_of updates.may_be_replaced code.XUTY0008 found) (λ (x : Standing). step (must (is_some x.parent) code.XUDY0009) (λ _.
      step (gs env) (λ items. step (form.content R s.quiet items) (λ us. step (replaces x.content.kind us) (λ _. step (adding_keeps R s (replace_by x.content.identity us)) (λ _. pure_ [])))))))

  new_text_of : (values : List Atom) → K (updates.text_of_values values)
  new_text_of [] = pure_ no_trees
  new_text_of (a ∷ more) = step (come (spaced (a ∷ more))) (λ text. form.new_text R s.quiet text)

  value_replaced : (x : Content) (us : Trees) → K (updates.value_replaced x us)
  value_replaced x us = step (come (updates.text_for x.kind (updates.first_text us))) (λ text. step (adding_keeps R s (replace_text x.identity text)) (λ _. pure_ []))

  content_replaced : (x : Content) (us : Trees) → K (updates.content_replaced x us)
  content_replaced x us = step (adding_keeps R s (replace_element_content x.identity us)) (λ _. pure_ [])

  either : (b : Bool) (x : Content) (us : Trees) → K (if b then updates.content_replaced x us else updates.value_replaced x us)
  either true x us = content_replaced x us
  either false x us = value_replaced x us

  pub replace_value : (target source : Meaning) → Good target → Good source → Good (updates.replace_value target source)
  replace_value target source gt gs env =
      step (gt env) (λ found. step (target_of updates.may_be_replaced code.XUTY0008 found) (λ (x : Standing).
      step (gs env) (λ items. step (atoms_keep R s.quiet items) (λ values. step (new_text_of values) (λ us. either _ x.content us)))))

  pub rename : (target name : Meaning) → Good target → Good name → Good (updates.rename target name)
  rename target name gt gn env =
      step (gt env) (λ found. step (target_of updates.has_name code.XUTY0012 found) (λ (x : Standing).
      step (form.named R s.quiet x.content.kind name gn env) (λ given. step (adding_keeps R s (rename_to x.content.identity given)) (λ _. pure_ []))))

-- every form, where the next identity is none that was taken before
module _ (R : Run → Run → Type 0) (s : IsSteady R) (later : (a b : Run) → R a b → a.shelf.own.next ≤ b.shelf.own.next) where
  copy : (bs : List (Binding Meaning)) (changes result : Meaning) → Each (form.GoodBinding R s.quiet) bs → form.Good R s.quiet changes → form.Good R s.quiet result
      → form.Good R s.quiet (copies.copy bs changes result)
  copy bs changes result gs gc gr = copy_keeps R s.quiet later bs changes result gs (λ env. own_list_keeps R s (changes env) (gc env)) gr

  forms : Forms (form.Good R s.quiet)
  forms = record {
    counts = form.counts R s.quiet;
    number = form.number R s.quiet;
    string = form.string R s.quiet;
    variable = form.variable R s.quiet;
    context_item = form.context_item R s.quiet;
    sequence = form.sequence R s.quiet;
    call = form.call R s.quiet;
    document_node = form.document_node R s.quiet;
    element = form.element R s.quiet;
    attribute = form.attribute R s.quiet;
    text = form.text R s.quiet;
    comment = form.comment R s.quiet;
    instruction = form.instruction R s.quiet;
    axis_step = form.axis_step R s.quiet;
    filter_of = form.filter_of R s.quiet;
    path = form.path R s.quiet;
    signed = form.signed R s.quiet;
    chain = form.chain R s.quiet;
    conditional = form.conditional R s.quiet;
    quantified = form.quantified R s.quiet;
    flwor = form.flwor R s.quiet;
    insert = insert R s;
    delete = delete R s;
    replace_node = replace_node R s;
    replace_value = replace_value R s;
    rename = rename R s;
    copy = copy;
  }

  every_later : (x : Expr) → form.Good R s.quiet (mean x)
  every_later = expressions.every (form.Good R s.quiet) forms

pub every : (R : Run → Run → Type 0) (s : IsSteady R) (x : Expr) → form.Good R s.quiet (mean x)
every R s x env = record { kept = λ run p h. ((every_later (Onward R) (steady_onward R s) (λ a b k. k.0) x env).kept run p h).1 }
