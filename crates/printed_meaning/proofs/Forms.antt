-- The meanings of constructors, with a text.
use Rattle.std.proofs.Common.{◌≡◌, ℕ, ◌+◌, ◌-◌, ◌≤◌, Bool, true, false, not, ◌||◌, ◌==◌, if◌then◌else◌, List, [], ◌∷◌, ◌++◌, codes, length, map, Result, Ok, Err, refl, ap, ◌∙◌, rules, ⊎_elim, arith}
use Rattle.std.proofs.lemmas.Bool.{le-ltb, or_parts, or_from}
use Rattle.std.specs.Str.{bytes_eq, str_to_ascii_lowercase}
use Rattle.document_names.specs.Characters.{is_name}
use Rattle.data_model.specs.Tidy.{holds_text, ends_in_hyphen, begins_with_space}
use Rattle.data_model.specs.declared.node.Kind.TheVariants as kind
use Rattle.fault_codes.specs.declared.code.Code.{Code}
use Rattle.fault_codes.specs.declared.code.Code.TheVariants.{XQDY0026, XQDY0041, XQDY0064, XQDY0072, XQDY0074, PXQ0002}
use Rattle.data_model.specs.Limits.{most_bytes}
use Rattle.values.specs.declared.atom.Atom.{Atom}
use Rattle.values.specs.declared.atom.Atom.TheVariants as atom
use Rattle.values.specs.Readings.{is_space, after_spaces}
use Rattle.values.specs.Work.{text_work}
use Rattle.query_grammar.specs.declared.ast.Expr.{Expr, map-Expr, out-Expr}
use Rattle.query_grammar.specs.declared.ast.Expr.TheVariants as e
use Rattle.query_grammar.specs.declared.ast.Expr.TheOpen.{Expr-F}
use Rattle.query_grammar.specs.declared.ast.Expr.TheFolds.{fold_out-Expr}
use Rattle.query_grammar.specs.declared.ast.Expr.TheViews.{the_lemmas}
use Rattle.query_grammar.specs.declared.ast.Name.TheVariants.{Written}
use Rattle.query_meaning.specs.Constructors as constructors
use Rattle.query_meaning.specs.Constructors.{name_for, text_of, with_text, comment_text, instruction_text, assembled}
use Rattle.query_meaning.specs.Content.{element_fault}
use Rattle.query_meaning.specs.Environment.{Environment}
use Rattle.query_meaning.specs.Meaning.{mean, meaning_of}
use Rattle.query_meaning.specs.Running.{Run, M, and_then, pure, ◌>>=◌, come_to, each, work, atom as typed, atoms, counted}
use Rattle.query_meaning.specs.Sequences.{Meaning, one, string, sequence}
use Rattle.query_meaning.specs.Strings.{limited, spaced}
use Rattle.printed_meaning.proofs.Runs.{after, after_fault, comes, spent, HasWork, LacksWork, work_or_not, work_fails, counted_dear, work_comes, counted_comes}

-- its work is counted
abbrev pub counts : Meaning → Meaning
counts m = λ env. counted (m env)

-- an expression's meaning, by its form
mean_out : (x : Expr) → mean x ≡ meaning_of (map-Expr Expr Meaning mean (out-Expr x))
unfolding mean
mean_out x = fold_out-Expr Meaning meaning_of x

by_form : (x : Expr) (f : Expr-F Expr) → out-Expr x ≡ f → mean x ≡ meaning_of (map-Expr Expr Meaning mean f)
by_form x f is = mean_out x ∙ ap (λ g. meaning_of (map-Expr Expr Meaning mean g)) is

mean_string : (text : List ℕ) → mean (e.String text) ≡ counts (string text)
mean_string text = by_form (e.String text) (Expr-F.String text) (search (rules, the_lemmas))

pub mean_sequence : (xs : List Expr) → mean (e.Sequence xs) ≡ counts (sequence (map mean xs))
mean_sequence xs = by_form (e.Sequence xs) (Expr-F.Sequence xs) (search (rules, the_lemmas))

pub mean_document : (x : Expr) → mean (e.Document x) ≡ counts (constructors.document (mean x))
mean_document x = by_form (e.Document x) (Expr-F.Document x) (search (rules, the_lemmas))

pub mean_element : (name : List ℕ) (x : Expr) → mean (e.Element (Written name) x) ≡ counts (constructors.element (Written name) (mean x))
mean_element name x = by_form (e.Element (Written name) x) (Expr-F.Element (Written name) x) (search (rules, the_lemmas))

pub mean_attribute : (name text : List ℕ) → mean (e.Attribute (Written name) (e.String text)) ≡ counts (constructors.attribute (Written name) (counts (string text)))
mean_attribute name text = by_form (e.Attribute (Written name) (e.String text)) (Expr-F.Attribute (Written name) (e.String text)) (search (rules, the_lemmas)) ∙ ap (λ m. counts (constructors.attribute (Written name) m)) (mean_string text)

pub mean_text : (text : List ℕ) → mean (e.Text (e.String text)) ≡ counts (constructors.text (counts (string text)))
mean_text text = by_form (e.Text (e.String text)) (Expr-F.Text (e.String text)) (search (rules, the_lemmas)) ∙ ap (λ m. counts (constructors.text m)) (mean_string text)

pub mean_comment : (text : List ℕ) → mean (e.Comment (e.String text)) ≡ counts (constructors.comment (counts (string text)))
mean_comment text = by_form (e.Comment (e.String text)) (Expr-F.Comment (e.String text)) (search (rules, the_lemmas)) ∙ ap (λ m. counts (constructors.comment m)) (mean_string text)

pub mean_instruction : (name text : List ℕ) → mean (e.Instruction (Written name) (e.String text)) ≡ counts (constructors.instruction (Written name) (counts (string text)))
mean_instruction name text = by_form (e.Instruction (Written name) (e.String text)) (Expr-F.Instruction (Written name) (e.String text)) (search (rules, the_lemmas)) ∙ ap (λ m. counts (constructors.instruction (Written name) m)) (mean_string text)

-- Names and texts.

abbrev if_long : List ℕ → Bool → Result (List ℕ) Code
if_long text b = if b then Err PXQ0002 else Ok text

short : (text : List ℕ) → length text ≤ most_bytes → limited text ≡ Ok text
short text h = ap (if_long text) (le-ltb most_bytes (length text) h)

-- a literal, and its typed value
abbrev pub literal : List ℕ → Meaning
literal text = counts (string text)

abbrev pub literal_work : List ℕ → ℕ
literal_work text = 2 + text_work text

literal_comes : (text : List ℕ) (env : Environment) (run : Run) → HasWork run 2 → literal text env run ≡ Ok (one (atom.String text), spent run 2)
literal_comes text env run h = counted_comes (string text env) (one (atom.String text)) run run refl h

free : (run : Run) → work 0 run ≡ Ok (tt, run)
free run =
    work_comes 0 run (omega arith) ∙ ap (λ w. let r : Result (Unit {0} × Run) Code = Ok (tt, record run { work = w }) in r) (let same : run.work - 0 ≡ run.work = omega arith in same)

value_comes : (text : List ℕ) (run : Run) → HasWork run (text_work text) → atoms (one (atom.String text)) run ≡ Ok (atom.String text ∷ [], spent run (text_work text))
value_comes text run h =
    after (each (λ _ given x. typed x >>= (λ a. pure (given ++ a ∷ []))) 1 []) (after (λ a. pure (a ∷ []))
    (after (λ _. work (text_work text) >>= (λ _. pure (atom.String text))) (free run) ∙ after (λ _. pure (atom.String text)) (work_comes (text_work text) run h)))

-- what is made of the typed value of a literal
of_literal : {A : Type 0} (f : List Atom → M A) (text : List ℕ) (env : Environment) (run : Run) → HasWork run (literal_work text)
    → and_then (literal text env run) (λ items. atoms items >>= f) ≡ f (atom.String text ∷ []) (spent run (literal_work text))
of_literal f text env run h =
    after (λ items. atoms items >>= f) (literal_comes text env run (omega (arith, h))) ∙ after f (value_comes text (spent run 2) (omega (arith, h)))
    ∙ ap (λ w. f (atom.String text ∷ []) (record run { work = w })) (let same : run.work - 2 - text_work text ≡ run.work - literal_work text = omega arith in same)

-- for which there is no work
value_dear : (text : List ℕ) (run : Run) → LacksWork run (text_work text) → atoms (one (atom.String text)) run ≡ Err PXQ0002
value_dear text run h =
    after_fault (each (λ _ given x. typed x >>= (λ a. pure (given ++ a ∷ []))) 1 []) (after_fault (λ a. pure (a ∷ []))
    (after (λ _. work (text_work text) >>= (λ _. pure (atom.String text))) (free run) ∙ after_fault (λ _. pure (atom.String text)) (work_fails (text_work text) run h)))

of_literal_dear : {A : Type 0} (f : List Atom → M A) (text : List ℕ) (env : Environment) (run : Run) → LacksWork run (literal_work text)
    → and_then (literal text env run) (λ items. atoms items >>= f) ≡ Err PXQ0002
of_literal_dear f text env run h =
    ⊎_elim (λ lacking. after_fault (λ items. atoms items >>= f) (counted_dear (string text env) (one (atom.String text)) run run refl lacking))
    (λ enough. after (λ items. atoms items >>= f) (literal_comes text env run enough) ∙ after_fault f (value_dear text (spent run 2) (omega (arith, h, enough))))
    (work_or_not run 2)

text_dear : (text : List ℕ) (env : Environment) (run : Run) → LacksWork run (literal_work text) → text_of (literal text) env run ≡ Err PXQ0002
text_dear text env run h = of_literal_dear (λ values. come_to (spaced values)) text env run h

text_comes : (text : List ℕ) (env : Environment) (run : Run) → length text ≤ most_bytes → HasWork run (literal_work text)
    → text_of (literal text) env run ≡ Ok (text, spent run (literal_work text))
text_comes text env run fits h = of_literal (λ values. come_to (spaced values)) text env run h ∙ comes (spent run (literal_work text)) (short text fits)

abbrev if_name : List ℕ → Bool → Result (List ℕ) Code
if_name name b = if b then Ok name else Err XQDY0074

element_name : (name : List ℕ) → is_name name ≡ true → name_for kind.Element name ≡ Ok name
element_name name h = ap (if_name name) h

attribute_name : (name : List ℕ) → is_name name ≡ true → name_for kind.Attribute name ≡ Ok name
attribute_name name h = ap (if_name name) h

abbrev if_target : List ℕ → Bool → Bool → Result (List ℕ) Code
if_target name a b = if not a then Err XQDY0041 else if b then Err XQDY0064 else Ok name

instruction_name : (name : List ℕ) → is_name name ≡ true → bytes_eq (str_to_ascii_lowercase name) (codes "xml") ≡ false → name_for kind.Instruction name ≡ Ok name
instruction_name name h g = ap (λ a. if_target name a (bytes_eq (str_to_ascii_lowercase name) (codes "xml"))) h ∙ ap (if_target name true) g

abbrev if_comment : List ℕ → Bool → Bool → Result (List ℕ) Code
if_comment text a b = if a || b then Err XQDY0072 else Ok text

comment_stays : (text : List ℕ) → holds_text (codes "--") text ≡ false → ends_in_hyphen text ≡ false → comment_text text ≡ Ok text
comment_stays text a b = ap (λ x. if_comment text x (ends_in_hyphen text)) a ∙ ap (if_comment text false) b

no_space : (b : ℕ) → ((b == 9) || (b == 10) || (b == 13) || (b == 32)) ≡ false → is_space b ≡ false
no_space b h =
    let three = or_parts ((b == 9) || (b == 10) || (b == 13)) (b == 32) h in
    let two = or_parts ((b == 9) || (b == 10)) (b == 13) three.0 in
    let one = or_parts (b == 9) (b == 10) two.0 in
    or_from ((b == 32) || (b == 9) || (b == 10)) (b == 13) (or_from ((b == 32) || (b == 9)) (b == 10) (or_from (b == 32) (b == 9) three.1 one.0) one.1) two.1

no_spaces : (text : List ℕ) → begins_with_space text ≡ false → after_spaces text ≡ text
no_spaces [] h = refl
no_spaces (b ∷ bs) h = ap (λ x. if x then after_spaces bs else b ∷ bs) (no_space b h)

abbrev if_instruction : List ℕ → Bool → Result (List ℕ) Code
if_instruction text a = if a then Err XQDY0026 else Ok (after_spaces text)

instruction_stays : (text : List ℕ) → holds_text (codes "?>") text ≡ false → begins_with_space text ≡ false → instruction_text text ≡ Ok text
instruction_stays text a b = ap (if_instruction text) a ∙ ap Ok (no_spaces text b)

-- A constructor of a node with a text makes that node, once the text is taken.

module _ (env : Environment) (run : Run) where
  abbrev taken : List ℕ → Run
  taken text = spent run (literal_work text)

  pub attribute_means : (name text : List ℕ) → is_name name ≡ true → length text ≤ most_bytes → HasWork run (literal_work text)
      → constructors.attribute (Written name) (literal text) env run ≡ with_text kind.Attribute name text (taken text)
  attribute_means name text named fits room =
      after (λ given. text_of (literal text) env >>= with_text kind.Attribute given) (comes run (attribute_name name named))
      ∙ after (with_text kind.Attribute name) (text_comes text env run fits room)

  pub text_means : (text : List ℕ) → length text ≤ most_bytes → HasWork run (literal_work text)
      → constructors.text (literal text) env run ≡ with_text kind.Text [] text (taken text)
  text_means text fits room = of_literal constructors.text_of_values text env run room ∙ after (with_text kind.Text []) (comes (taken text) (short text fits))

  pub comment_means : (text : List ℕ) → length text ≤ most_bytes → holds_text (codes "--") text ≡ false → ends_in_hyphen text ≡ false → HasWork run (literal_work text)
      → constructors.comment (literal text) env run ≡ with_text kind.Comment [] text (taken text)
  comment_means text fits a b room =
      after (λ given. come_to (comment_text given) >>= with_text kind.Comment []) (text_comes text env run fits room)
      ∙ after (with_text kind.Comment []) (comes (taken text) (comment_stays text a b))

  pub instruction_means : (name text : List ℕ) → is_name name ≡ true → bytes_eq (str_to_ascii_lowercase name) (codes "xml") ≡ false → length text ≤ most_bytes
      → holds_text (codes "?>") text ≡ false → begins_with_space text ≡ false → HasWork run (literal_work text)
      → constructors.instruction (Written name) (literal text) env run ≡ with_text kind.Instruction name text (taken text)
  instruction_means name text named other fits a b room =
      after (λ target. text_of (literal text) env >>= (λ given. come_to (instruction_text given) >>= with_text kind.Instruction target)) (comes run (instruction_name name named other))
      ∙ after (λ given. come_to (instruction_text given) >>= with_text kind.Instruction name) (text_comes text env run fits room)
      ∙ after (with_text kind.Instruction name) (comes (taken text) (instruction_stays text a b))

  -- Where there is no work for the text, there is no node.

  pub attribute_dear : (name text : List ℕ) → is_name name ≡ true → LacksWork run (literal_work text) → constructors.attribute (Written name) (literal text) env run ≡ Err PXQ0002
  attribute_dear name text named lack =
      after (λ given. text_of (literal text) env >>= with_text kind.Attribute given) (comes run (attribute_name name named))
      ∙ after_fault (with_text kind.Attribute name) (text_dear text env run lack)

  pub text_node_dear : (text : List ℕ) → LacksWork run (literal_work text) → constructors.text (literal text) env run ≡ Err PXQ0002
  text_node_dear text lack = of_literal_dear constructors.text_of_values text env run lack

  pub comment_dear : (text : List ℕ) → LacksWork run (literal_work text) → constructors.comment (literal text) env run ≡ Err PXQ0002
  comment_dear text lack = after_fault (λ given. come_to (comment_text given) >>= with_text kind.Comment []) (text_dear text env run lack)

  pub instruction_dear : (name text : List ℕ) → is_name name ≡ true → bytes_eq (str_to_ascii_lowercase name) (codes "xml") ≡ false → LacksWork run (literal_work text)
      → constructors.instruction (Written name) (literal text) env run ≡ Err PXQ0002
  instruction_dear name text named other lack =
      after (λ target. text_of (literal text) env >>= (λ given. come_to (instruction_text given) >>= with_text kind.Instruction target)) (comes run (instruction_name name named other))
      ∙ after_fault (λ given. come_to (instruction_text given) >>= with_text kind.Instruction name) (text_dear text env run lack)

  pub element_means : (name : List ℕ) (m : Meaning) → is_name name ≡ true
      → constructors.element (Written name) m env run ≡ and_then (m env run) (assembled kind.Element name element_fault)
  element_means name m named = after (λ given. m env >>= assembled kind.Element given element_fault) (comes run (element_name name named))
