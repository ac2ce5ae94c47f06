-- How items are atomized one by one.
use Rattle.std.proofs.Common.{List, ◌++◌, Result, Ok, Err}
use Rattle.fault_codes.specs.declared.code.Code.{Code}
use Rattle.values.specs.declared.atom.Atom.{Atom}

-- values, and then the others
abbrev pub after : List Atom → Result (List Atom) Code → Result (List Atom) Code
after xs (Ok rest) = Ok (xs ++ rest)
after xs (Err code) = Err code
