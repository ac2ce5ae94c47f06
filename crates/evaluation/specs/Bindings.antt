-- Bindings of variables, by what their sources mean or with the sources.
use Rattle.query_grammar.specs.declared.ast.Binding.{Binding}
use Rattle.query_meaning.specs.Sequences.{Meaning}

abbrev pub binding_of : {A : Type 0} → (A → Meaning) → Binding A → Binding Meaning
binding_of f b = record { variable = b.variable; source = f b.source }

abbrev pub bound_source : {A : Type 0} → Binding A → A
bound_source b = b.source
