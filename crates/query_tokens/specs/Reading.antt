-- Reading a text from the left: what it begins with, or the first fault. A text is the list of its characters (their code points).
use Rattle.std.specs.Prelude.{ℕ, zero, suc, Bool, ◌==◌, if◌then◌else◌, List, [], ◌∷◌, length, drop, Option, Some, None}
use Rattle.std.specs.List.{starts_with}
use Rattle.fault_codes.specs.declared.code.Code.{Code}
use Rattle.fault_codes.specs.declared.code.Code.TheVariants.{XPST0003}

-- something and the text after it, or the code of the first fault
pub data Read (A : Type 0) : Type 0 where
  Gives : (value : A) (rest : List ℕ) → Read A
  Fails : (code : Code) → Read A

abbrev pub Reader : Type 0 → Type 0
Reader A = List ℕ → Read A

-- the function on what was read and the text after it
abbrev pub on_read : {A B : Type 0} → Read A → (A → Reader B) → Read B
on_read (Gives a rest) f = f a rest
on_read (Fails code) f = Fails code

infixl 10 ◌>>=◌
-- the one, then the other on the text after it
abbrev pub ◌>>=◌ : {A B : Type 0} → Reader A → (A → Reader B) → Reader B
p >>= f = λ text. on_read (p text) f

infixl 10 ◌>>◌
abbrev pub ◌>>◌ : {A B : Type 0} → Reader A → Reader B → Reader B
p >> q = p >>= (λ _. q)

-- nothing is read
abbrev pub pure : {A : Type 0} → A → Reader A
pure a = λ text. Gives a text

abbrev pub fails : {A : Type 0} → Code → Reader A
fails code = λ text. Fails code

-- the text begins with these characters
abbrev pub begins : List ℕ → List ℕ → Bool
begins mark text = starts_with (λ a b. a == b) text mark

-- the first of these that the text begins with
abbrev pub first_of : {A : Type 0} → List (List ℕ × A) → List ℕ → Option (List ℕ × A)
first_of [] text = None
first_of (m ∷ ms) text = if begins m.0 text then Some m else first_of ms text

-- past so many characters
abbrev pub skip : ℕ → Reader (Unit {0})
skip n = λ text. Gives tt (drop n text)

-- past these characters, which must stand there
abbrev pub mark : List ℕ → Reader (Unit {0})
mark cs = λ text. if begins cs text then skip (length cs) text else Fails XPST0003

-- the next character, if it passes the test
abbrev pub such : (ℕ → Bool) → Reader ℕ
such p [] = Fails XPST0003
such p (c ∷ cs) = if p c then Gives c cs else Fails XPST0003

-- as long as the text goes on so, one step more. The number bounds the steps: each reads a character at least, so the count of the
-- characters is enough.
unfoldable pub rounds : {A : Type 0} → (goes : A → List ℕ → Bool) → (step : A → Reader A) → ℕ → A → Reader A
rounds goes step zero a text = Gives a text
rounds goes step (suc n) a text = if goes a text then on_read (step a text) (λ b rest. rounds goes step n b rest) else Gives a text

-- as many steps as the text has
abbrev pub repeat : {A : Type 0} → (goes : A → List ℕ → Bool) → (step : A → Reader A) → A → Reader A
repeat goes step a = λ text. rounds goes step (length text) a text
