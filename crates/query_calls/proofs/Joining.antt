-- Texts of values, one after the other.
use Rattle.std.proofs.Common.{ℕ, List, [], ◌∷◌, ◌++◌}
use Rattle.values.specs.declared.atom.Atom.{Atom}
use Rattle.query_meaning.specs.Running.{M, pure, ◌>>=◌, come_to}
use Rattle.query_meaning.specs.Strings.{text_in}

-- the text of one value more
abbrev pub and_text_in : ℕ → List (List ℕ) → Atom → M (List (List ℕ))
and_text_in _ given a = come_to (text_in a) >>= (λ text. pure (given ++ text ∷ []))
