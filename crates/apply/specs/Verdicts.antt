-- Verdicts on trees.
use Rattle.std.specs.Prelude.{Option, Some, None, Result, Ok, Err}
use Rattle.data_model.specs.Trees.{Trees}
use Rattle.fault_codes.specs.declared.code.Code.{Code}

-- the trees, or the code by which they are refused
abbrev pub by_verdict : Option Code → Trees → Result Trees Code
by_verdict None ts = Ok ts
by_verdict (Some code) ts = Err code
