-- The check of the member's table.
use Rattle.std.specs.Prelude.{ℕ}
use Rattle.sqlite.specs.Collation.TheVariants.{Binary}
use Rattle.sqlite_sql.specs.declared.ops.BinaryOp.TheVariants.{Compare}
use Rattle.sqlite_sql.specs.declared.ops.CompareOp.TheVariants.{Eq}
use Rattle.sqlite_schema.specs.declared.code.Op.{Op}
use Rattle.sqlite_schema.specs.declared.code.Op.TheVariants.{Binary as Operation}

-- the node that compares those of two places for equality
abbrev pub Equal : (a b : ℕ) → Op
Equal a b = Operation (Compare Eq Binary) a b
