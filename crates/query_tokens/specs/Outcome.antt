-- What reading a whole text answers.
use Rattle.std.specs.Prelude.{◌≡◌, ℕ, List, [], Result, Ok, Err}
use Rattle.query_tokens.specs.declared.fault.ParseFault.{ParseFault}
use Rattle.query_tokens.specs.declared.fault.ParseFault.TheVariants.{Memory, Static}
use Rattle.query_tokens.specs.Reading.{Read, Gives, Fails}

-- the code is that of the first fault; want of memory says nothing
abbrev pub IsFault : {A : Type 0} → Read A → ParseFault → Type 0
IsFault read Memory = Unit {0}
IsFault read (Static code) = read ≡ Fails code

-- the whole text was read, or its first fault is answered
abbrev pub IsRead : {A B : Type 0} → Read A → (B → A) → Result B ParseFault → Type 0
IsRead read view (Ok b) = read ≡ Gives (view b) []
IsRead read view (Err fault) = IsFault read fault

-- something was read and the text after it is left, or the first fault is answered
abbrev pub IsNext : {A B : Type 0} → Read A → (value : B → A) → (rest : B → List ℕ) → Result B ParseFault → Type 0
IsNext read value rest (Ok b) = read ≡ Gives (value b) (rest b)
IsNext read value rest (Err fault) = IsFault read fault
