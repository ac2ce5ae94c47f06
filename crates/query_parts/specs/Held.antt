-- What was read, while what follows it is read.
use Rattle.query_tokens.specs.declared.kind.Kind.{Kind}
use Rattle.query_grammar.specs.Reading.{Reader, pure, ◌>>◌, eat}

-- this, before a token of this kind
abbrev pub followed : {A : Type 0} → A → Kind → Reader A
followed a kind = eat kind >> pure a
