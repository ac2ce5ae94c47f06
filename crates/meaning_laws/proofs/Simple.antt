-- What is neither updating nor misplaced adds no update primitives: it keeps whatever the quiet changes keep.
use Rattle.std.proofs.Common.{◌≡◌, ℕ, ◌≤◌, Bool, true, false, ◌||◌, if◌then◌else◌, List, [], ◌∷◌, ◌++◌, map, Some, None, refl, ap, subst, sym, ◌∙◌}
use Rattle.std.specs.List.{list_any}
use Rattle.query_grammar.specs.declared.ast.Binding.{Binding}
use Rattle.query_grammar.specs.declared.ast.Clause.{Clause}
use Rattle.query_grammar.specs.declared.ast.Clause.TheVariants as clause
use Rattle.query_grammar.specs.declared.ast.Expr.{Expr, map-Expr}
use Rattle.query_grammar.specs.declared.ast.Expr.TheOpen.{Expr-F}
use Rattle.query_grammar.specs.declared.ast.Expr.TheFolds.{fold-roll-Expr, ind-Expr}
use Rattle.query_grammar.specs.declared.ast.Expr.TheViews.{roll-Expr}
use Rattle.query_grammar.specs.declared.ast.Name.TheVariants.{Written, Computed}
use Rattle.query_grammar.specs.declared.ast.Operation.{Operation}
use Rattle.query_grammar.specs.declared.ast.SortKey.{SortKey}
use Rattle.static_checks.specs.Categories.{Form, Judged, judged, judged_form, form_of, outside, may_not_stand, is_faulty, is_updating, categories, joined}
use Rattle.static_checks.specs.Parts.{parts_alone, source_of, sources, operands, keys}
use Rattle.static_checks.specs.declared.categories.Category.{Category}
use Rattle.static_checks.specs.declared.categories.Category.TheVariants.{Updating}
use Rattle.static_checks.proofs.Folds.{parts_under, parts_of_bindings}
use Rattle.static_checks.proofs.Faults.{faulty_form}
use Rattle.static_checks.proofs.Forms.{map_form, form_mapped}
use Rattle.query_meaning.specs.Running.{Run}
use Rattle.query_meaning.specs.Sequences.{Meaning}
use Rattle.query_meaning.specs.Meaning.{form_of as form_meant, meaning_of, mean}
use Rattle.meaning_laws.proofs.Copying.{copy_keeps, own_list_quiet}
use Rattle.meaning_laws.proofs.Keeps.{IsQuiet, Each}
use Rattle.meaning_laws.proofs.Forms as form
use Rattle.meaning_laws.proofs.Steady.{Onward, quiet_onward, Whichever, steady_whichever}
use Rattle.meaning_laws.proofs.Updating.{every as of_any}

neither : (a b : Bool) → a || b ≡ false → (a ≡ false) × (b ≡ false)
neither true b h = absurd (let f : ⊥ = cc in f)
neither false b h = (refl, h)

first_not : (b : Bool) (c : Category) → is_updating (if b then Updating else c) ≡ false → b ≡ false
first_not true c h = absurd (let f : ⊥ = cc in f)
first_not false c h = refl

-- neither of the two tests finds one
none_of_both : (js : List Judged) → list_any is_updating (categories js) ≡ false → list_any is_faulty js ≡ false → list_any may_not_stand js ≡ false
none_of_both [] h g = refl
none_of_both (j ∷ js) h g =
    let c = neither (is_updating j.category) (list_any is_updating (categories js)) h in
    let m = neither (is_faulty j) (list_any is_faulty js) g in
    ap (λ b. (b || is_faulty j) || list_any may_not_stand js) c.0 ∙ ap (λ b. b || list_any may_not_stand js) m.0 ∙ none_of_both js c.1 m.1

module _ (R : Run → Run → Type 0) (s : IsQuiet R) (later : (a b : Run) → R a b → a.shelf.own.next ≤ b.shelf.own.next) where
  abbrev Fine : Judged → Type 0
  Fine j = may_not_stand j ≡ false

  abbrev Good : Expr → Type 0
  Good x = Fine (judged x) → form.Good R s (mean x)

  abbrev Proved : Type 0
  Proved = (x : Expr) × Good x

  abbrev expression : Proved → Expr
  expression y = y.0

  abbrev IsGood : Proved → Type 0
  IsGood y = form.Good R s (mean y.0)

  all_good : (ys : List Proved) → list_any may_not_stand (map judged (map expression ys)) ≡ false → Each IsGood ys
  all_good [] h = tt
  all_good (y ∷ ys) h = let both = neither (may_not_stand (judged y.0)) _ h in (y.1 both.0, all_good ys both.1)

  -- as a literal has them, and as a comma has them
  abbrev alone : List Proved → Form Proved
  alone ys = outside (form_of {A = Proved} Expr-F.Context).own ys

  abbrev made_of : (before inner : List Proved) → Form Proved
  made_of before inner = record { own = (form_of {A = Proved} (Expr-F.Sequence [])).own; before = before; inner = inner; after = [] }

  -- as what copies and changes them has them
  abbrev changed_by : (before inner after : List Proved) → Form Proved
  changed_by before inner after = record { own = (form_of {A = Proved} Expr-F.Context).own; before = before; inner = inner; after = after }

  abbrev form_in : Form Proved → Form Judged
  form_in f = map_form judged (map_form expression f)

  -- where the whole is made of none of its parts
  good_parts : (ys : List Proved) → Fine (judged_form (form_in (alone ys))) → Each IsGood ys
  good_parts ys h = all_good ys (neither (list_any may_not_stand (map judged (map expression ys))) _ (sym (faulty_form (form_in (alone ys))) ∙ h)).0

  -- where it is made of the inner ones
  good_results : (before inner : List Proved) → Fine (judged_form (form_in (made_of before inner))) → Each IsGood before × Each IsGood inner
  good_results before inner h =
      let js = map judged (map expression inner) in
      let whole = neither (is_updating (joined (categories js))) _ h in
      let front = neither (list_any may_not_stand (map judged (map expression before))) _ (sym (faulty_form (form_in (made_of before inner))) ∙ whole.1) in
      let middle = neither (list_any is_faulty js) _ front.1 in
      (all_good before front.0, all_good inner (none_of_both js (first_not (list_any is_updating (categories js)) _ whole.0) middle.0))

  -- where copies are changed by the inner ones, which may update
  good_around : (before inner after : List Proved) → Fine (judged_form (form_in (changed_by before inner after))) → Each IsGood before × Each IsGood after
  good_around before inner after h =
      let front = neither (list_any may_not_stand (map judged (map expression before))) _ (sym (faulty_form (form_in (changed_by before inner after))) ∙ h) in
      let middle = neither (list_any is_faulty (map judged (map expression inner))) _ front.1 in
      let back = neither (list_any may_not_stand (map judged (map expression after))) _ middle.1 in
      (all_good before front.0, all_good after back.0)

  abbrev mapped : Expr-F Proved → Expr-F Meaning
  mapped y = map-Expr Expr Meaning mean (map-Expr Proved Expr expression y)

  meanings : (ys : List Proved) → Each IsGood ys → Each (form.Good R s) (map mean (map expression ys))
  meanings [] g = tt
  meanings (y ∷ ys) g = (g.0, meanings ys g.1)

  -- of what holds an expression
  each_part : {X Y Z : Type 0} (Q : Z → Type 0) (f : Y → Z) (g : X → Y) (part : X → Proved) → ((x : X) → IsGood (part x) → Q (f (g x))) → (xs : List X) → Each IsGood (map part xs) → Each Q (map f (map g xs))
  each_part Q f g part holds [] k = tt
  each_part Q f g part holds (x ∷ xs) k = (holds x k.0, each_part Q f g part holds xs k.1)

  first_of : (xs ys : List Proved) → Each IsGood (xs ++ ys) → Each IsGood xs
  first_of [] ys k = tt
  first_of (x ∷ xs) ys k = (k.0, first_of xs ys k.1)

  rest_of : (xs ys : List Proved) → Each IsGood (xs ++ ys) → Each IsGood ys
  rest_of [] ys k = k
  rest_of (x ∷ xs) ys k = rest_of xs ys k.1

  abbrev IsClause : (Clause Expr → Clause Meaning) → (Clause Proved → Clause Expr) → Clause Proved → Type 0
  IsClause f g c = source_of (f (g c)) ≡ mean (source_of c).0

  clauses : (f : Clause Expr → Clause Meaning) (g : Clause Proved → Clause Expr) → ((b : Binding Proved) → IsClause f g (clause.For b)) → ((b : Binding Proved) (at : List ℕ) → IsClause f g (clause.ForAt b at))
      → ((b : Binding Proved) → IsClause f g (clause.Let b)) → (cs : List (Clause Proved)) → Each IsGood (map source_of cs) → Each (form.GoodClause R s) (map f (map g cs))
  clauses f g for at let_ = each_part (form.GoodClause R s) f g source_of (λ c k. subst (form.Good R s) (sym (is c)) k)
    where
      is : (c : Clause Proved) → IsClause f g c
      is (clause.For b) = for b
      is (clause.ForAt b x) = at b x
      is (clause.Let b) = let_ b

  abbrev AreGood : List Proved → Type 0
  AreGood ys = Each IsGood ys

  layer : (y : Expr-F Proved) → Fine (judged_form (form_in (form_of y))) → form.Good R s (form_meant (mapped y))
  layer (Expr-F.Integer n) h = form.number R s n
  layer (Expr-F.String text) h = form.string R s text
  layer (Expr-F.Variable x) h = form.variable R s x
  layer Expr-F.Context h = form.context_item R s
  layer (Expr-F.Sequence ys) h = form.sequence R s _ (meanings ys (good_results [] ys h).1)
  layer (Expr-F.Call f ys) h = form.call R s f _ (meanings ys (subst AreGood (parts_under [] ys) (good_parts (parts_alone (Expr-F.Call f ys)) h)))
  layer (Expr-F.Document y) h = form.document_node R s _ (good_parts (y ∷ []) h).0
  layer (Expr-F.Element (Written n) y) h = form.element R s (Written n) _ tt (good_parts (y ∷ []) h).0
  layer (Expr-F.Element (Computed x) y) h = let g = good_parts (x ∷ y ∷ []) h in form.element R s (Computed (mean x.0)) _ g.0 g.1.0
  layer (Expr-F.Attribute (Written n) y) h = form.attribute R s (Written n) _ tt (good_parts (y ∷ []) h).0
  layer (Expr-F.Attribute (Computed x) y) h = let g = good_parts (x ∷ y ∷ []) h in form.attribute R s (Computed (mean x.0)) _ g.0 g.1.0
  layer (Expr-F.Text y) h = form.text R s _ (good_parts (y ∷ []) h).0
  layer (Expr-F.Comment y) h = form.comment R s _ (good_parts (y ∷ []) h).0
  layer (Expr-F.Instruction (Written n) y) h = form.instruction R s (Written n) _ tt (good_parts (y ∷ []) h).0
  layer (Expr-F.Instruction (Computed x) y) h = let g = good_parts (x ∷ y ∷ []) h in form.instruction R s (Computed (mean x.0)) _ g.0 g.1.0
  layer (Expr-F.Step axis test ys) h = form.axis_step R s axis test _ (meanings ys (subst AreGood (parts_under [] ys) (good_parts (parts_alone (Expr-F.Step axis test ys)) h)))
  layer (Expr-F.Filter y ys) h = let g = good_parts (parts_alone (Expr-F.Filter y ys)) h in form.filter_of R s _ _ g.0 (meanings ys (subst AreGood (parts_under [] ys) g.1))
  layer (Expr-F.Path y ys) h = let g = good_parts (parts_alone (Expr-F.Path y ys)) h in form.path R s _ _ g.0 (meanings ys (subst AreGood (parts_under [] ys) g.1))
  layer (Expr-F.Signed signs y) h = form.signed R s signs _ (good_parts (y ∷ []) h).0
  layer (Expr-F.Chain y xs) h =
      let g = good_parts (parts_alone (Expr-F.Chain y xs)) h in
      form.chain R s _ _ g.0 (each_part (form.GoodOperation R s) _ _ (λ (x : Operation Proved). x.operand) (λ x k. k) xs (subst AreGood (parts_under [] (operands xs)) g.1))
  layer (Expr-F.If c x y) h = let g = good_results (c ∷ []) (x ∷ y ∷ []) h in form.conditional R s _ _ _ g.0.0 g.1.0 g.1.1.0
  layer (Expr-F.Quantified q bs y) h =
      let g = subst AreGood (parts_of_bindings [] bs (y ∷ [])) (good_parts (parts_alone (Expr-F.Quantified q bs y)) h) in
      form.quantified R s q _ _ (each_part (form.GoodBinding R s) _ _ (λ (b : Binding Proved). b.source) (λ b k. k) bs (first_of (sources bs) (y ∷ []) g)) (rest_of (sources bs) (y ∷ []) g).0
  layer (Expr-F.Flwor cs None ks y) h =
      let g = good_results (map source_of cs ++ ([] ++ keys ks)) (y ∷ []) h in
      form.flwor R s _ None _ _ (clauses _ _ (λ b. refl) (λ b at. refl) (λ b. refl) cs (first_of (map source_of cs) (keys ks) g.0)) tt
      (each_part (form.GoodKey R s) _ _ (λ (k : SortKey Proved). k.key) (λ k x. x) ks (rest_of (map source_of cs) (keys ks) g.0)) g.1.0
  layer (Expr-F.Flwor cs (Some t) ks y) h =
      let g = good_results (map source_of cs ++ (t ∷ keys ks)) (y ∷ []) h in
      let more = rest_of (map source_of cs) (t ∷ keys ks) g.0 in
      form.flwor R s _ (Some (mean t.0)) _ _ (clauses _ _ (λ b. refl) (λ b at. refl) (λ b. refl) cs (first_of (map source_of cs) (t ∷ keys ks) g.0)) more.0
      (each_part (form.GoodKey R s) _ _ (λ (k : SortKey Proved). k.key) (λ k x. x) ks more.1) g.1.0
  layer (Expr-F.Insert source place target) h = absurd (let f : ⊥ = cc in f)
  layer (Expr-F.Delete target) h = absurd (let f : ⊥ = cc in f)
  layer (Expr-F.ReplaceNode target source) h = absurd (let f : ⊥ = cc in f)
  layer (Expr-F.ReplaceValue target source) h = absurd (let f : ⊥ = cc in f)
  layer (Expr-F.Rename target name) h = absurd (let f : ⊥ = cc in f)
  layer (Expr-F.Copy bs changes y) h =
      let g = good_around (sources bs) (changes ∷ []) (y ∷ []) h in
      copy_keeps R s later _ (mean changes.0) (mean y.0) (each_part (form.GoodBinding R s) _ _ (λ (b : Binding Proved). b.source) (λ b k. k) bs g.0)
      (λ env. own_list_quiet R (mean changes.0 env) (of_any (Whichever R) (steady_whichever R s) changes.0 env)) g.1.0

  -- what is judged of a form is judged of its parts
  of_form : (y : Expr-F Proved) → Fine (judged (roll-Expr (map-Expr Proved Expr expression y))) → Fine (judged_form (form_in (form_of y)))
  unfolding judged
  of_form y h =
      let z = map-Expr Proved Expr expression y in
      let moved : judged (roll-Expr z) ≡ judged_form (form_in (form_of y)) =
      fold-roll-Expr Judged (λ x. judged_form (form_of x)) z ∙ ap judged_form (form_mapped judged z ∙ ap (map_form judged) (form_mapped expression y)) in
      subst Fine moved h

  every_later : (x : Expr) → Good x
  unfolding mean
  every_later = ind-Expr Good (λ x y is. subst (λ z. Good (roll-Expr z)) is
      (λ h. subst (form.Good R s) (sym (fold-roll-Expr Meaning meaning_of (map-Expr Proved Expr expression y))) (form.counts R s (form_meant (mapped y)) (layer y (of_form y h)))))

pub every : (R : Run → Run → Type 0) (s : IsQuiet R) (x : Expr) → may_not_stand (judged x) ≡ false → form.Good R s (mean x)
every R s x fine env = record { kept = λ run p h. ((every_later (Onward R) (quiet_onward R s) (λ a b k. k.0) x fine env).kept run p h).1 }
