-- Texts that are lent.
use Rattle.std.specs.Prelude.{ℕ, List}
use denote.Ref.{Bor}

abbrev pub text_at : Bor (List ℕ) → List ℕ
text_at t = t.now
