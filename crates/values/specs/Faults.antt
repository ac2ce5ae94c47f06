-- Why an evaluation makes no value.
use Rattle.trees.specs.declared.forest.MakeFault.{MakeFault}
use Rattle.trees.specs.declared.forest.MakeFault.TheVariants as made
use Rattle.fault_codes.specs.declared.code.Code.TheVariants.{PXQ0003}
use Rattle.values.specs.declared.fault.ValueFault.{ValueFault}
use Rattle.values.specs.declared.fault.ValueFault.TheVariants.{Memory, Code}

-- why no node was made: where no identities are left, there are too many nodes (our own choice)
abbrev pub of_making : MakeFault → ValueFault
of_making made.Memory = Memory
of_making made.Limit = Code PXQ0003
