use Rattle.level_laws.proofs.Faults.{only_misplaced}
use Rattle.level_laws.proofs.Spelt.{in_tokens}
use Rattle.level_laws.proofs.laws.faults_without_copies.Goals as goal

pub returns-clause-alone : goal.returns-clause-alone
returns-clause-alone c = only_misplaced

pub returns-clause-at_level_one : goal.returns-clause-at_level_one
returns-clause-at_level_one c = λ ts x code spelt fault. only_misplaced x code (in_tokens ts x spelt) fault
