-- `insert`, by what is read of its target.
use Rattle.std.proofs.Common.{◌≡◌, Bool, true, false, List, refl, Result, Ok, Err}
use Rattle.data_model.specs.Trees.{Trees}
use Rattle.fault_codes.specs.declared.code.Code.{Code}
use Rattle.fault_codes.specs.declared.code.Code.TheVariants.{XUTY0004}
use Rattle.values.specs.declared.fault.ValueFault.{ValueFault}
use Rattle.values.specs.declared.atom.Item.{Item}
use Rattle.query_grammar.specs.declared.ast.Place.{Place}
use Rattle.query_grammar.specs.declared.ast.Place.TheVariants.{Into, FirstInto, LastInto, After, Before}
use Rattle.query_meaning.specs.Content.{content, has_attributes_first}
use Rattle.query_meaning.specs.Environment.{Environment}
use Rattle.query_meaning.specs.Running.{M, Run, and_then, ◌>>=◌}
use Rattle.query_meaning.specs.Sequences.{Meaning}
use Rattle.query_meaning.specs.Updates as meaning
use Rattle.evaluation.specs.Gives.{Gives, GivesIn, Stand}
use Rattle.evaluation.proofs.Each.{then_gives}
use Rattle.query_updates.specs.declared.targets.Role.TheVariants.{Parent, Sibling}
use Rattle.query_updates.specs.Insertions.{inserted, inserted_into, inserted_beside, placed, role_at}
use Rattle.query_updates.specs.Targets.{target}
use Rattle.query_updates.proofs.Found.{target_first}
use Rattle.query_updates.proofs.Steps.{gives_same}

target_placed : (p : Place) (us : Trees) (m : Meaning) (env : Environment) (run : Run) → (m env >>= meaning.inserted p us) run ≡ (target (role_at p) m env >>= inserted p us) run
target_placed Into us m env run = target_first Parent (inserted_into Into us) m env run
target_placed FirstInto us m env run = target_first Parent (inserted_into FirstInto us) m env run
target_placed LastInto us m env run = target_first Parent (inserted_into LastInto us) m env run
target_placed Before us m env run = target_first Sibling (inserted_beside Before us) m env run
target_placed After us m env run = target_first Sibling (inserted_beside After us) m env run

module _ (p : Place) (m : Meaning) (env : Environment) where
  judged_then : (b : Bool) (us : Trees) (run : Run)
      → and_then (meaning.must b XUTY0004 run) (λ _. m env >>= meaning.inserted p us) ≡ and_then (meaning.must b XUTY0004 run) (λ _. target (role_at p) m env >>= inserted p us)
  judged_then true us run = target_placed p us m env run
  judged_then false us run = refl

  copied_then : (o : Result (Trees × Run) Code)
      → and_then o (λ us. meaning.must (has_attributes_first us) XUTY0004 >>= (λ _. m env >>= meaning.inserted p us)) ≡ and_then o (placed p m env)
  copied_then (Ok q) = judged_then (has_attributes_first q.0) q.0 q.1
  copied_then (Err code) = refl

  given_then : (o : Result (List Item × Run) Code)
      → and_then o (λ items. content items >>= (λ us. meaning.must (has_attributes_first us) XUTY0004 >>= (λ _. m env >>= meaning.inserted p us))) ≡ and_then o (λ items. content items >>= placed p m env)
  given_then (Ok q) = copied_then (content q.0 q.1)
  given_then (Err code) = refl

pub of_insert : (source : Meaning) (p : Place) (m : Meaning) (env : Environment) (run : Run) → meaning.insert source p m env run ≡ (source env >>= (λ items. content items >>= placed p m env)) run
of_insert source p m env run = given_then p m env (source env run)

pub insert_gives : (source : Meaning) (p : Place) (m : Meaning) (env : Environment) (P : Trees → Run → Type 0) (old mid late new : Run) (items : List Item) (us : Trees) (r : Result (List Item) ValueFault)
    → Gives (source env) old (Ok items) mid → GivesIn P (content items) mid (Ok us) late → Gives (placed p m env us) late r new → Gives (meaning.insert source p m env) old r new
insert_gives source p m env P old mid late new items us r g h k =
    let rest : List Item → M (List Item) = λ items. content items >>= placed p m env in
    let copied = then_gives P Stand (content items) (placed p m env) mid late new us r h k in
    gives_same Stand (meaning.insert source p m env) (source env >>= rest) old new r (of_insert source p m env old) (then_gives Stand Stand (source env) rest old mid new items r g copied)
