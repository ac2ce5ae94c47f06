-- Limits of trees (our own choice).
use Rattle.std.specs.Prelude.{ℕ}

-- the bytes that a string has at most: a literal, a value of an evaluation, the text of a node that is stored
abbrev pub most_bytes : ℕ
most_bytes = 65536

-- the attributes and children that a node has at most, together
abbrev pub most_listed : ℕ
most_listed = 10000

-- the nodes that a store has at most; an evaluation makes no more than so many either
abbrev pub most_nodes : ℕ
most_nodes = 100000

-- the nodes from a root to the deepest one, at most
abbrev pub most_height : ℕ
most_height = 60
