-- Which words `clap` takes at the command of this crate, and what it makes of them.
use Rattle.std.proofs.Common.{◌≡◌, ◌∙◌, ◌||◌, ◌⊎◌, ℕ, Bool, cond, not, true, false, refl, sym, ap, subst, List, [], ◌∷◌, Option, Some, None, inl, inr, true≢false, codes}
use Rattle.std.specs.List.{list_any}
use Rattle.std.specs.Str.{IsUtf8, bytes_eq}
use Rattle.std.proofs.lemmas.Slice.Eq.{bytes_eq-Decides}
use Rattle.clap.specs.Lexer.{long_of}
use Rattle.clap.specs.Faults.{entered_fault, fault_of, flag_word_fault, level_fault, step_fault, stray_fault, turn_fault, walk_fault}
use Rattle.clap.specs.declared.error.kind.ErrorKind.TheVariants as kind
use Rattle.clap.specs.Simple.{Shape, built, built_leaf, inherited, names_of, subcommand_of}
use Rattle.clap.specs.Walk.{Held, Names, Row, Step, Text, Walk, arg_by_index, idle, long_or_other, nothing_held, subcommand_met, value, walk, walk_from, walked}
use Rattle.clap.proofs.WalkLemmas.{walk_stopped}
use Rattle.clap.proofs.OnLiterals.{clap_on_literals}
use Rattle.command_line.specs.Words.{IsFormOf, file_in, form_shape, is_option, paxq_app}
use Rattle.command_line.proofs.Refusals.{HasNoOptions, IsFault, IsFault-first, IsFault-then, IsPlainWord, dashes, held, no_fault, option_refused, plain_word_is, refused_or_plain, some≢none}

-- ---- one word

-- the walk before a word, where nothing waits
abbrev before : List Row → Option (Text × List Text) → ℕ → Walk
before rows pending position = record { held = held rows pending; waiting = idle; position = position; is_trailing = false; stopped = None }

-- a stray word has a kind of error
stray_is : (s : Shape) → IsFault (stray_fault s)
stray_is s = go s.is_leaf
  where
    go : (b : Bool) → IsFault (cond b (kind.UnknownArgument ∷ []) (kind.UnknownArgument ∷ kind.InvalidSubcommand ∷ []))
    go true = tt
    go false = tt

-- a word that no positional takes is refused
stray_step : (s : Shape) (position : ℕ) (h : Held) (met : Held × Step) → met ≡ (h, value) → arg_by_index s.rules position ≡ None
    → IsFault (step_fault s position met.0 met.1)
stray_step s position h met e past = subst (λ m. IsFault (step_fault s position m.0 m.1)) (sym e) (rw past (stray_is s))

-- a word that names no subcommand is refused where no positional takes it
stray_refused : (s : Shape) (names : Names) (rows : List Row) (pending : Option (Text × List Text)) (position : ℕ) (word : Text)
    → HasNoOptions s.rules → subcommand_met names idle word ≡ None → arg_by_index s.rules position ≡ None → bytes_eq word dashes ≡ false
    → IsFault (turn_fault s names (before rows pending position) word)
stray_refused s names rows pending position word none new past other =
    rw (new, other) (elim (refused_or_plain s.rules s.args_override_self idle rows pending word none) [
      | inl h ↦ IsFault-first _ _ h
      | inr h ↦ IsFault-then _ _ (stray_step s position (held rows pending) _ h past)
    ])

-- ---- the command

-- the whole command as it is built
abbrev top : Shape
top = (built paxq_app).top

-- the names of its subcommands
abbrev top_names : Names
top_names = names_of (built paxq_app)

-- the name of a form: `run` or `sim`
abbrev pub name_of : Bool → Text
name_of true = codes "run"
name_of false = codes "sim"

-- the form as it is built
abbrev form : Bool → Shape
form k = built_leaf (inherited paxq_app.top (form_shape (name_of k)))

-- the whole command has no options
top_has_none : HasNoOptions top.rules
top_has_none = record { long = λ name. refl; short = λ x. refl }

-- a form has no options
form_has_none : (k : Bool) → HasNoOptions (form k).rules
form_has_none true = record { long = λ name. refl; short = λ x. refl }
form_has_none false = record { long = λ name. refl; short = λ x. refl }

-- it has one argument
form_has_one : (k : Bool) → arg_by_index (form k).rules 2 ≡ None
form_has_one true = refl
form_has_one false = refl

-- no words are refused
no_words : IsFault (fault_of paxq_app [])
unfolding clap_on_literals
no_words = tt

-- a form alone is refused
form_alone : (k : Bool) → IsFault (fault_of paxq_app (name_of k ∷ []))
unfolding clap_on_literals
form_alone true = tt
form_alone false = tt

-- ---- the first word

-- a first word that names no form is refused
first_refused : (word : Text) (rest : List Text) → bytes_eq (codes "run") word ≡ false → bytes_eq (codes "sim") word ≡ false → bytes_eq word dashes ≡ false → IsFault (fault_of paxq_app (word ∷ rest))
unfolding walk_fault
first_refused word rest run sim other =
    let no_sub : subcommand_met top_names idle word ≡ None = rw (run, sim) refl in
    IsFault-first _ _ (IsFault-first _ _ (stray_refused top top_names [] None 1 word top_has_none no_sub refl other))

-- the walk stops at the name of a form and leaves it the words that follow
stop_is : (k : Bool) (rest : List Text) → (walk top.rules top_names nothing_held (name_of k ∷ rest)).stopped ≡ Some (name_of k, rest)
unfolding walked
stop_is true rest = sym (ap (λ (w : Walk). w.stopped) (walk_stopped top.rules top_names (before [] None 1) (codes "run") [] rest))
stop_is false rest = sym (ap (λ (w : Walk). w.stopped) (walk_stopped top.rules top_names (before [] None 1) (codes "sim") [] rest))

-- ---- the words after the name of a form

-- what the form refuses is refused
form_refused : (k : Bool) (rest : List Text) → IsFault (level_fault (form k) [] nothing_held rest false []) → IsFault (fault_of paxq_app (name_of k ∷ rest))
form_refused true rest h =
    let below = subst (λ stop. IsFault (entered_fault (built paxq_app) stop)) (sym (stop_is true rest)) h in
    IsFault-then _ _ (IsFault-first _ _ below)
form_refused false rest h =
    let below = subst (λ stop. IsFault (entered_fault (built paxq_app) stop)) (sym (stop_is false rest)) h in
    IsFault-then _ _ (IsFault-first _ _ below)

-- the walk after the file
abbrev after_file : Text → Walk
after_file file = before [] (Some (codes "file", file ∷ [])) 2

-- the word goes to the positional
abbrev IsPlain : Bool → Text → Type 0
IsPlain k word = long_or_other (form k).rules idle word (long_of word) nothing_held ≡ (nothing_held, value)

-- the walk takes such a word as the file
file_walked : (k : Bool) (file : Text) → bytes_eq file dashes ≡ false → IsPlain k file → walked (form k).rules [] (walk_from nothing_held) file ≡ after_file file
unfolding walked
file_walked true file other plain = rw (other, plain) refl
file_walked false file other plain = rw (other, plain) refl

-- a word that is refused as an option is refused by the form
file_refused : (k : Bool) (file : Text) → bytes_eq file dashes ≡ false → IsFault (flag_word_fault (form k).rules false (long_of file) file nothing_held)
    → IsFault (turn_fault (form k) [] (walk_from nothing_held) file)
file_refused true file other h = rw other (IsFault-first _ _ h)
file_refused false file other h = rw other (IsFault-first _ _ h)

-- a word after the file is refused
third_refused : (k : Bool) (file third : Text) (more : List Text) → bytes_eq file dashes ≡ false → bytes_eq third dashes ≡ false
    → IsFault (walk_fault (form k) [] (walk_from nothing_held) (file ∷ third ∷ more))
unfolding walk_fault
third_refused k file third more other other' = elim (refused_or_plain (form k).rules false idle [] None file (form_has_none k)) [
  | inl h ↦ IsFault-first _ _ (file_refused k file other h)
  | inr h ↦ IsFault-then _ _ (subst (λ w. IsFault (walk_fault (form k) [] w (third ∷ more))) (sym (file_walked k file other h))
      (IsFault-first _ _ (stray_refused (form k) [] [] (Some (codes "file", file ∷ [])) 2 third (form_has_none k) refl (form_has_one k) other')))
]

-- ---- a form with one word

-- the form's name and a file
abbrev pub one_word : Bool → Text → List Text
one_word k file = name_of k ∷ file ∷ []

-- the same of the whole command
file_after_name : (k : Bool) (file : Text) → bytes_eq file dashes ≡ false → IsFault (flag_word_fault (form k).rules false (long_of file) file nothing_held)
    → IsFault (fault_of paxq_app (one_word k file))
unfolding walk_fault
file_after_name k file other h = form_refused k (file ∷ []) (IsFault-first _ _ (IsFault-first _ _ (file_refused k file other h)))

-- an option is no file, where it is text
option_after_name : (k : Bool) (file : Text) → is_option file ≡ true → bytes_eq file dashes ≡ false → IsUtf8 file → IsFault (fault_of paxq_app (one_word k file))
option_after_name k file option other text = file_after_name k file other (option_refused (form k).rules false [] None (form_has_none k) file option other text)

-- a file that is no option is taken
file_taken : (k : Bool) (file : Text) → IsPlainWord file → fault_of paxq_app (one_word k file) ≡ []
unfolding clap_on_literals
file_taken true file plain = rw (plain.dashes, plain.long, plain.short) refl
file_taken false file plain = rw (plain.dashes, plain.long, plain.short) refl

-- the matches hold the file
file_found : (k : Bool) (file : Text) → bytes_eq file dashes ≡ false → IsPlain k file → file_in (name_of k) (subcommand_of paxq_app (one_word k file)) ≡ Some file
unfolding clap_on_literals
file_found true file other plain = rw (other, plain) refl
file_found false file other plain = rw (other, plain) refl

-- and none of the other form
other_absent : (k : Bool) (file : Text) → bytes_eq file dashes ≡ false → IsPlain k file → file_in (name_of (not k)) (subcommand_of paxq_app (one_word k file)) ≡ None
unfolding clap_on_literals
other_absent true file other plain = refl
other_absent false file other plain = refl

-- ---- all words

-- the words have no `--`
abbrev pub HasNoDashes : List Text → Type 0
HasNoDashes words = list_any (λ word. bytes_eq word dashes) words ≡ false

-- neither holds
both_false : (a b : Bool) → (a || b) ≡ false → (a ≡ false) × (b ≡ false)
both_false true b e = absurd (true≢false e)
both_false false b e = (refl, e)

-- the words are the name of a form and one more, or are refused
abbrev IsFormOrRefused : List Text → Type 0
IsFormOrRefused words = ((k : Bool) × (file : Text) × (words ≡ one_word k file)) ⊎ IsFault (fault_of paxq_app words)

-- the words after the name are one, or are refused
after_name : (k : Bool) (rest : List Text) → HasNoDashes rest → IsFormOrRefused (name_of k ∷ rest)
after_name k [] e = inr (form_alone k)
after_name k (file ∷ []) e = inl (k, file, refl)
after_name k (file ∷ third ∷ more) e =
    let first = both_false _ _ e in
    let second = both_false _ _ first.1 in
    inr (form_refused k (file ∷ third ∷ more) (IsFault-first _ _ (third_refused k file third more first.0 second.0)))

-- all words are a form, or are refused
form_or_refused : (words : List Text) → HasNoDashes words → IsFormOrRefused words
form_or_refused [] e = inr no_words
form_or_refused (word ∷ rest) e = go (bytes_eq (codes "run") word) (bytes_eq (codes "sim") word) refl refl
  where
    parts : (bytes_eq word dashes ≡ false) × HasNoDashes rest
    parts = both_false _ _ e

    go : (a b : Bool) → bytes_eq (codes "run") word ≡ a → bytes_eq (codes "sim") word ≡ b → IsFormOrRefused (word ∷ rest)
    go true b run sim = subst (λ w. IsFormOrRefused (w ∷ rest)) ((bytes_eq-Decides (codes "run") word).0 run) (after_name true rest parts.1)
    go false true run sim = subst (λ w. IsFormOrRefused (w ∷ rest)) ((bytes_eq-Decides (codes "sim") word).0 sim) (after_name false rest parts.1)
    go false false run sim = inr (first_refused word rest run sim parts.0)

-- what the words are that `clap` takes
pub record IsTaken (words : List Text) (k : Bool) (file : Text) : Type 0 where
  pub are : words ≡ one_word k file
  pub found : file_in (name_of k) (subcommand_of paxq_app words) ≡ Some file
  pub other : file_in (name_of (not k)) (subcommand_of paxq_app words) ≡ None
  pub plain : IsUtf8 file → is_option file ≡ false

-- the file is not `--`
second_word : (k : Bool) (file : Text) → HasNoDashes (one_word k file) → bytes_eq file dashes ≡ false
second_word true file e = (both_false _ _ e).0
second_word false file e = (both_false _ _ e).0

-- a form, where it is taken
one_taken : (k : Bool) (file : Text) → bytes_eq file dashes ≡ false → fault_of paxq_app (one_word k file) ≡ [] → IsTaken (one_word k file) k file
one_taken k file other none = record { are = refl; found = met.0; other = met.1; plain = λ text. plain text (is_option file) refl }
  where
    plain : IsUtf8 file → (b : Bool) → is_option file ≡ b → is_option file ≡ false
    plain text true option = absurd (no_fault _ none (option_after_name k file option other text))
    plain text false e = e

    met : (file_in (name_of k) (subcommand_of paxq_app (one_word k file)) ≡ Some file) × (file_in (name_of (not k)) (subcommand_of paxq_app (one_word k file)) ≡ None)
    met = elim (refused_or_plain (form k).rules false idle [] None file (form_has_none k)) [
      | inl h ↦ absurd (no_fault _ none (file_after_name k file other h))
      | inr h ↦ (file_found k file other h, other_absent k file other h)
    ]

-- the words that are taken
pub taken_is_form : (words : List Text) → HasNoDashes words → fault_of paxq_app words ≡ [] → (k : Bool) × (file : Text) × IsTaken words k file
taken_is_form words e none = elim (form_or_refused words e) [
  | inl h ↦ (h.0, h.1, subst (λ ws. IsTaken ws h.0 h.1) (sym h.2) (one_taken h.0 h.1 (second_word h.0 h.1 (subst HasNoDashes h.2 e)) (subst (λ ws. fault_of paxq_app ws ≡ []) h.2 none)))
  | inr h ↦ absurd (no_fault _ none h)
]

-- a form is taken, where the file is no option
pub form_is_taken : (k : Bool) (words : List Text) (file : Text) → IsFormOf (name_of k) words file → fault_of paxq_app words ≡ []
form_is_taken k words file is = subst (λ ws. fault_of paxq_app ws ≡ []) (sym is.0) (file_taken k file (plain_word_is file is.1))

-- such words have no `--`
pub form_has_no_dashes : (k : Bool) (words : List Text) (file : Text) → IsFormOf (name_of k) words file → HasNoDashes words
form_has_no_dashes true words file is = subst HasNoDashes (sym is.0) (rw ((plain_word_is file is.1).dashes) refl)
form_has_no_dashes false words file is = subst HasNoDashes (sym is.0) (rw ((plain_word_is file is.1).dashes) refl)

-- the words ask for the file that was found
pub taken_asks : (words : List Text) (k : Bool) (found file : Text) → IsTaken words k found → file ≡ found → IsUtf8 file → IsFormOf (name_of k) words file
taken_asks words k found file taken e text = (taken.are ∙ ap (one_word k) (sym e), subst (λ s. is_option s ≡ false) (sym e) (taken.plain (subst IsUtf8 e text)))

-- of two forms the one whose file was found, or of which no file was
pub taken_as : (words : List Text) (k j : Bool) (file : Text) (o : Option Text) (x : Text) → IsTaken words k file → o ≡ file_in (name_of j) (subcommand_of paxq_app words) → o ≡ Some x → k ≡ j
taken_as words true true file o x t e h = refl
taken_as words false false file o x t e h = refl
taken_as words true false file o x t e h = absurd (some≢none x (sym h ∙ e ∙ t.other))
taken_as words false true file o x t e h = absurd (some≢none x (sym h ∙ e ∙ t.other))

pub taken_other : (words : List Text) (k j : Bool) (file : Text) (o : Option Text) → IsTaken words k file → o ≡ file_in (name_of j) (subcommand_of paxq_app words) → o ≡ None → k ≡ not j
taken_other words true true file o t e h = absurd (some≢none file (sym t.found ∙ sym e ∙ h))
taken_other words false false file o t e h = absurd (some≢none file (sym t.found ∙ sym e ∙ h))
taken_other words true false file o t e h = refl
taken_other words false true file o t e h = refl
