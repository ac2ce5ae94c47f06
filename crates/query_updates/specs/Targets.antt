-- What is asked of a target, and what is read of one (XQuery Update Facility 1.0, section 2.4).
use Rattle.std.specs.Prelude.{Bool, List, [], Option, Result, Ok, Err}
use Rattle.data_model.specs.Trees.{Content, Place as Standing}
use Rattle.data_model.specs.declared.node.Kind.{Kind}
use Rattle.fault_codes.specs.declared.code.Code.{Code}
use Rattle.fault_codes.specs.declared.code.Code.TheVariants.{XUTY0005, XUTY0006, XUTY0008, XUTY0012}
use Rattle.values.specs.declared.atom.Item.{Item}
use Rattle.query_meaning.specs.Environment.{Environment}
use Rattle.query_meaning.specs.Running.{M, pure, ◌>>=◌}
use Rattle.query_meaning.specs.Sequences.{Meaning}
use Rattle.query_meaning.specs.Updates.{target_of, of_kinds, has_children, may_be_sibling, may_be_replaced, has_name}
use Rattle.query_updates.specs.declared.targets.Role.{Role}
use Rattle.query_updates.specs.declared.targets.Role.TheVariants.{Parent, Sibling, Replaced, Renamed}
use Rattle.query_updates.specs.declared.targets.Target.{Target}

-- the kinds that a target may be of
abbrev pub allows : Role → Kind → Bool
allows Parent = has_children
allows Sibling = may_be_sibling
allows Replaced = may_be_replaced
allows Renamed = has_name

-- the code where it is something else
abbrev pub refusal : Role → Code
refusal Parent = XUTY0005
refusal Sibling = XUTY0006
refusal Replaced = XUTY0008
refusal Renamed = XUTY0012

-- what is read of a target
abbrev pub read : Standing → Target
read x = record { identity = x.content.identity; kind = x.content.kind; parent = x.parent }

abbrev pub read_in : Result Standing Code → Result Target Code
read_in (Ok x) = Ok (read x)
read_in (Err code) = Err code

abbrev pub target_at : Role → Option Standing → Result Target Code
target_at r o = read_in (of_kinds (allows r) (refusal r) o)

-- the target that items are, and the one that is evaluated
abbrev pub target_in : Role → List Item → M Target
target_in r items = target_of (allows r) (refusal r) items >>= (λ x. pure (read x))

abbrev pub target : Role → Meaning → Environment → M Target
target r m env = m env >>= target_in r

-- what it says of itself but for name and text
abbrev pub content_of : Target → Content
content_of t = record { identity = t.identity; kind = t.kind; name = []; text = [] }
