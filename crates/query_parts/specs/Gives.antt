-- What a function that reads ensures: what the reader gives, unless memory is refused. What the reader refuses has the code of a
-- text that is no expression of the grammar (XQuery 1.0, section 2.1), and no other.
use Rattle.std.specs.Prelude.{◌≡◌, ◌<◌, List, length, Option, Some, None, Result, Ok, Err}
use Rattle.fault_codes.specs.declared.code.Code.TheVariants.{XPST0003}
use Rattle.query_tokens.specs.declared.fault.ParseFault.{ParseFault}
use Rattle.query_tokens.specs.declared.fault.ParseFault.TheVariants.{Memory, Static}
use Rattle.query_tokens.specs.declared.token.Token.{Token}

-- nothing was read; want of memory says nothing
abbrev pub Fails : {A : Type 0} → Option A → ParseFault → Type 0
Fails outcome Memory = Unit {0}
Fails outcome (Static code) = (code ≡ XPST0003) × (outcome ≡ None)

-- what was read and the tokens that are left
abbrev pub Gives : {A : Type 0} → Option (A × List Token) → Result A ParseFault → List Token → Type 0
Gives outcome (Ok a) left = outcome ≡ Some (a, left)
Gives outcome (Err fault) left = Fails outcome fault

-- the same of a value that stands for what was read
abbrev pub GivesAs : {A B : Type 0} → (B → A) → Option (A × List Token) → Result B ParseFault → List Token → Type 0
GivesAs view outcome (Ok b) left = outcome ≡ Some (view b, left)
GivesAs view outcome (Err fault) left = Fails outcome fault

-- this, if no token is left
abbrev pub GivesLast : {A : Type 0} → A → List Token → Result A ParseFault → Type 0
GivesLast a ts (Ok found) = (found ≡ a) × (length ts ≡ 0)
GivesLast a ts (Err fault) = (fault ≡ Static XPST0003) × (0 < length ts)
