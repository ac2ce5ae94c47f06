-- Which words `clap` refuses, at the command of this crate.
use Rattle.std.proofs.Common.{◌≡◌, ◌==◌, ◌&&◌, ◌⊎◌, ℕ, Bool, cond, true, false, refl, sym, subst, arith, List, [], ◌∷◌, length, Option, Some, None, inl, inr, true≢false, eqb-true}
use Rattle.std.specs.Prelude.{⊤, option_and_then, slice_get}
use Rattle.std.specs.Option.{option_map_or}
use Rattle.std.specs.Str.{IsUtf8, bytes_eq, chars}
use Rattle.std.proofs.lemmas.Str.{IsCharBoundary-after_ascii, IsUtf8-drop, encodes-chars}
use Rattle.std.proofs.Math.Utf8.{encodes}
use Rattle.clap.specs.Lexer.{long_of, long_of_rest, name_and_value, short_of, short_of_rest, strip_byte}
use Rattle.clap.specs.Kinds.{Kinds, or_else}
use Rattle.clap.specs.Faults.{bundle_fault, bundle_step_fault, flag_word_fault, flags_fault, long_fault, short_fault}
use Rattle.clap.specs.Walk.{Held, Row, Rule, Text, Waiting, arg_by_long, arg_by_short, bundle_met, bundle_step, long_or_other, plain, plain_word}
use Rattle.command_line.specs.Words.{is_option}

-- ---- kinds of error

-- some kind of error is there
abbrev pub IsFault : Kinds → Type 0
IsFault [] = ⊥
IsFault (k ∷ ks) = ⊤

-- a step that fails
pub IsFault-first : (a b : Kinds) → IsFault a → IsFault (or_else a b)
IsFault-first (k ∷ ks) b h = tt
IsFault-first [] b h = absurd h

-- a later step that fails
pub IsFault-then : (a b : Kinds) → IsFault b → IsFault (or_else a b)
IsFault-then (k ∷ ks) b h = tt
IsFault-then [] b h = h

-- a list is not empty and empty
pub no_fault : (a : Kinds) → a ≡ [] → IsFault a → ⊥
no_fault a e h = subst IsFault e h

-- ---- words that look like options

-- `--`
abbrev pub dashes : Text
dashes = 45 ∷ 45 ∷ []

-- an option is not both
pub some≢none : {X : Type 0} (x : X) → Some x ≡ None → ⊥
some≢none x e = cc

-- what a word is that the lexer takes for no option
pub record IsPlainWord (word : Text) : Type 0 where
  pub long : long_of word ≡ None
  pub short : short_of word ≡ None
  pub dashes : bytes_eq word dashes ≡ false

-- a word that is no option is plain
pub plain_word_is : (word : Text) → is_option word ≡ false → IsPlainWord word
plain_word_is [] e = record { long = refl; short = refl; dashes = refl }
plain_word_is (x ∷ []) e = record { long = long (x == 45); short = short (x == 45); dashes = end (x == 45) }
  where
    long : (b : Bool) → option_and_then long_of_rest (option_and_then (strip_byte 45) (cond b (Some []) None)) ≡ None
    long true = refl
    long false = refl

    short : (b : Bool) → option_and_then short_of_rest (cond b (Some []) None) ≡ None
    short true = refl
    short false = refl

    end : (b : Bool) → (b && false) ≡ false
    end true = refl
    end false = refl
plain_word_is (x ∷ y ∷ rest) e = record { long = rw e refl; short = rw e refl; dashes = rw e refl }

-- no option of the command has a name
pub record HasNoOptions (c : List Rule) : Type 0 where
  pub long : (name : Text) → arg_by_long c name ≡ None
  pub short : (x : ℕ) → arg_by_short c x ≡ None

-- a long option that no argument has is refused
pub long_refused : (c : List Rule) (again : Bool) (o : Option Rule) (v : Option Text) (h : Held) → o ≡ None → IsFault (long_fault c again o v h)
long_refused c again None v h e = tt
long_refused c again (Some a) v h e = absurd (some≢none a e)

-- a short option that no argument has is refused
pub short_refused : (c : List Rule) (again : Bool) (o : Option Rule) (rest : Text) (h : Held) (next : Held → Kinds) → o ≡ None
    → IsFault (short_fault c again o rest h next)
short_refused c again None rest h next e = tt
short_refused c again (Some a) rest h next e = absurd (some≢none a e)

-- what is held between two words
abbrev pub held : List Row → Option (Text × List Text) → Held
held rows pending = record { rows = rows; pending = pending; skip = 0 }

-- a bundle of short options is refused, or spells no character and is no bundle
bundle_refused : (c : List Rule) (again : Bool) (k : ℕ) (flags : Text) (rows : List Row) (pending : Option (Text × List Text)) (first : Option ℕ) → HasNoOptions c
    → IsFault (bundle_step_fault c again first flags 0 (held rows pending) (flags_fault c again k))
    ⊎ (bundle_step c first flags 0 plain (held rows pending) (bundle_met c k) ≡ (held rows pending, plain))
bundle_refused c again k flags rows pending None none = inr refl
bundle_refused c again k flags rows pending (Some x) none = inl (short_refused c again (arg_by_short c x) _ _ _ (none.short x))

module _ (c : List Rule) (again : Bool) (waiting : Waiting) (rows : List Row) (pending : Option (Text × List Text)) (word : Text) where
  abbrev pub IsRefusedOrPlain : Option (Text × Option Text) → Type 0
  IsRefusedOrPlain long = IsFault (flag_word_fault c again long word (held rows pending))
      ⊎ (long_or_other c waiting word long (held rows pending) ≡ plain_word c waiting word (held rows pending))

  short_part : (flags : Option Text) → short_of word ≡ flags → HasNoOptions c → IsRefusedOrPlain None
  unfolding flags_fault bundle_met
  short_part None e none = inr (rw e refl)
  short_part (Some []) e none = inr (rw e refl)
  short_part (Some (y ∷ rest)) e none =
      rw e (elim (bundle_refused c again (length rest) (y ∷ rest) rows pending (slice_get (chars (y ∷ rest)) 0) none) [
        | inl h ↦ inl h
        | inr h ↦ inr (rw h refl)
      ])

  -- a word is refused as an option, or taken as no option
  pub refused_or_plain : HasNoOptions c → IsRefusedOrPlain (long_of word)
  refused_or_plain none = go (long_of word)
    where
      go : (long : Option (Text × Option Text)) → IsRefusedOrPlain long
      go None = short_part (short_of word) refl none
      go (Some p) = inl (long_refused c again (arg_by_long c p.0) p.1 _ (none.long p.0))

-- ---- options that are text

-- a list is not both
nil≢cons : (x : ℕ) (xs : List ℕ) → [] ≡ x ∷ xs → ⊥
nil≢cons x xs e = cc

-- a text that is not empty has a first character
some_char : (x : ℕ) (xs : List ℕ) → IsUtf8 (x ∷ xs) → (c : ℕ) × (slice_get (chars (x ∷ xs)) 0 ≡ Some c)
some_char x xs text = go (chars (x ∷ xs)) (encodes-chars (x ∷ xs) text)
  where
    go : (cs : List ℕ) → encodes cs ≡ x ∷ xs → (c : ℕ) × (slice_get cs 0 ≡ Some c)
    go [] e = absurd (nil≢cons x xs e)
    go (c ∷ cs) e = (c, refl)

-- a bundle with a first character is refused
bundle_of_text_refused : (c : List Rule) (again : Bool) (k : ℕ) (flags : Text) (h : Held) (first : Option ℕ) → HasNoOptions c → (x : ℕ) → first ≡ Some x
    → IsFault (bundle_step_fault c again first flags 0 h (flags_fault c again k))
bundle_of_text_refused c again k flags h None none x e = absurd (some≢none x (sym e))
bundle_of_text_refused c again k flags h (Some y) none x e = short_refused c again (arg_by_short c y) _ _ _ (none.short y)

module _ (c : List Rule) (again : Bool) (rows : List Row) (pending : Option (Text × List Text)) (none : HasNoOptions c) where
  abbrev IsRefusedOption : Text → Type 0
  IsRefusedOption word = IsFault (flag_word_fault c again (long_of word) word (held rows pending))

  long_option : (rest : Text) → bytes_eq (45 ∷ 45 ∷ rest) dashes ≡ false → IsRefusedOption (45 ∷ 45 ∷ rest)
  long_option [] other = absurd (true≢false other)
  long_option (x ∷ rest) other = long_refused c again (arg_by_long c (name_and_value (x ∷ rest)).0) _ _ (none.long _)

  bundle_word : (word flags : Text) → long_of word ≡ None → short_of word ≡ Some flags → IsFault (bundle_fault c again flags (held rows pending)) → IsRefusedOption word
  bundle_word word flags long short h = subst (λ o. IsFault (flag_word_fault c again o word (held rows pending))) (sym long)
      (subst (λ o. IsFault (option_map_or (λ bs. bundle_fault c again bs (held rows pending)) o [])) (sym short) h)

  short_option : (x : ℕ) (rest : Text) → (x == 45) ≡ false → IsUtf8 (45 ∷ x ∷ rest) → IsRefusedOption (45 ∷ x ∷ rest)
  unfolding flags_fault
  short_option x rest e text =
      let after = IsUtf8-drop (45 ∷ x ∷ rest) 1 text (IsCharBoundary-after_ascii (45 ∷ x ∷ rest) 0 text (omega arith) (omega arith)) in
      let first = some_char x rest after in
      bundle_word (45 ∷ x ∷ rest) (x ∷ rest) (rw e refl) (rw e refl)
      (bundle_of_text_refused c again (length rest) (x ∷ rest) (held rows pending) (slice_get (chars (x ∷ rest)) 0) none first.0 first.1)

  dashed : (x : ℕ) (rest : Text) (b : Bool) → (x == 45) ≡ b → bytes_eq (45 ∷ x ∷ rest) dashes ≡ false → IsUtf8 (45 ∷ x ∷ rest) → IsRefusedOption (45 ∷ x ∷ rest)
  dashed x rest true e other text =
      let is : 45 ≡ x = sym (eqb-true x 45 e) in
      subst (λ y. bytes_eq (45 ∷ y ∷ rest) dashes ≡ false → IsRefusedOption (45 ∷ y ∷ rest)) is (long_option rest) other
  dashed x rest false e other text = short_option x rest e text

  -- an option is refused, where it is text
  pub option_refused : (word : Text) → is_option word ≡ true → bytes_eq word dashes ≡ false → IsUtf8 word → IsRefusedOption word
  option_refused [] option other text = absurd (true≢false (sym option))
  option_refused (x ∷ []) option other text = absurd (true≢false (sym option))
  option_refused (x ∷ y ∷ rest) option other text =
      let is : 45 ≡ x = sym (eqb-true x 45 option) in
      subst (λ z. bytes_eq (z ∷ y ∷ rest) dashes ≡ false → IsUtf8 (z ∷ y ∷ rest) → IsRefusedOption (z ∷ y ∷ rest)) is (dashed y rest (y == 45) refl) other text
