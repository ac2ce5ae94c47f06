-- What the code's own names of kinds mean.
use Rattle.std.specs.Prelude.{ℕ, Option}
use Rattle.pending.specs.Compatible.{renamed, replaced, value_replaced, content_replaced}
use Rattle.pending.specs.Primitives.{PrimitiveTerm}
use Rattle.pending.specs.declared.targets.Once.{Once}
use Rattle.pending.specs.declared.targets.Once.TheVariants.{Rename, ReplaceNode, ReplaceValue, ReplaceElementContent}

abbrev pub target_by : Once → PrimitiveTerm → Option ℕ
target_by Rename = renamed
target_by ReplaceNode = replaced
target_by ReplaceValue = value_replaced
target_by ReplaceElementContent = content_replaced
