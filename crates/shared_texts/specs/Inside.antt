-- How a text is kept. No public clause cites this module.
use Rattle.std.specs.Prelude.{ℕ, List, string_bytes}
use Rattle.std.specs.Arc.{arc_value}
use Rattle.shared_texts.specs.declared.text.Kept.{Kept}
use Rattle.shared_texts.specs.declared.text.Kept.TheVariants.{Alone, Shared, Short}

-- its bytes
abbrev pub bytes_of : Kept → List ℕ
bytes_of (Alone text) = string_bytes text
bytes_of (Shared text) = string_bytes (arc_value text)
bytes_of (Short text) = text
