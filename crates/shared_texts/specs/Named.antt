-- How a name is kept. No public clause cites this module.
use Rattle.std.specs.Prelude.{ℕ, List, [], string_bytes}
use Rattle.std.specs.Arc.{arc_value}
use Rattle.shared_texts.specs.declared.name.Held.{Held}
use Rattle.shared_texts.specs.declared.name.Held.TheVariants.{Empty, Shared}

abbrev pub bytes_of : Held → List ℕ
bytes_of Empty = []
bytes_of (Shared text) = string_bytes (arc_value text)
