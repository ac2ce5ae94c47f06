use Rattle.std.proofs.Common.{◌≡◌}
use Rattle.configuration.specs.Configuration.{has_entries_alone}
use Rattle.toml.specs.View.{members_view}
use Rattle.configuration.proofs.entries.has_entries_alone.Given as goal

abbrev pub invariant-entries : goal.invariant-entries
invariant-entries l =
    goal.iterator-entries.can_next l.key-iterator ×
    goal.iterator-entries.is_finite l.key-iterator ×
    (has_entries_alone (members_view l.key-iterator) ≡ has_entries_alone (members_view l.table.entries))
