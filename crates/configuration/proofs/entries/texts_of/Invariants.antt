use Rattle.std.proofs.Common.{◌≡◌, ◌++◌, drop, map, string_bytes, option_map}
use Rattle.configuration.specs.Configuration.{texts_of}
use Rattle.toml.specs.View.{items_view}
use Rattle.configuration.proofs.entries.texts_of.Given as goal

abbrev pub invariant-items : goal.invariant-items
invariant-items l =
    option_map (λ rest. map string_bytes l.texts.items ++ rest) (texts_of (items_view (drop l.item-index l.item-items))) ≡ texts_of (items_view l.item-items)
