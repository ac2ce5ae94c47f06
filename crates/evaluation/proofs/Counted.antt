-- What is evaluated, once its work is counted.
use Rattle.std.proofs.Common.{◌≡◌, ◌+◌, ◌∙◌, List, length, Ok, Err, ap, sym, subst}
use Rattle.values.specs.declared.atom.Item.{Item}
use Rattle.values.specs.declared.fault.ValueFault.{ValueFault}
use Rattle.values.specs.declared.fault.ValueFault.TheVariants as fault
use Rattle.query_meaning.specs.Running.{M, Run, and_then, pure, work, counted, ◌>>=◌}
use Rattle.evaluation.specs.Gives.{Any, Fails, Gives, GivesIn, Grows, Stand}
use Rattle.evaluation.proofs.Each.{then_gives}

-- nothing is lost where nothing but the work that is left is another
pub grows_spent : (old new : Run) → new ≡ record old { work = new.work } → Grows old new
grows_spent old new same = subst (λ run. Grows old run) (sym same) (record { kept = λ i there. there })

pub stand_spent : (items : List Item) (mid new : Run) → new ≡ record mid { work = new.work } → Stand items mid → Stand items new
stand_spent items mid new same stand = subst (λ run. Stand items run) (sym same) stand

pub counted_gives : (m : M (List Item)) (old mid new : Run) (items : List Item) (u : Unit {0}) → Gives m old (Ok items) mid
    → GivesIn Any (work (1 + length items)) mid (Ok u) new → new ≡ record mid { work = new.work } → Gives (counted m) old (Ok items) new
counted_gives m old mid new items u given spent same =
    then_gives Stand Stand m (λ xs. work (1 + length xs) >>= (λ _. pure xs)) old mid new items (Ok items) given
    (rest, (spent.1.0, stand_spent items mid new same given.1.1))
  where
    rest : (work (1 + length items) >>= (λ _. pure items)) mid ≡ Ok (items, new)
    rest = ap (λ r. and_then r (λ _. pure items)) spent.0

pub counted_fails : (m : M (List Item)) (old mid new : Run) (items : List Item) (found : ValueFault) → Gives m old (Ok items) mid
    → GivesIn Any (work (1 + length items)) mid (Err found) new → Fails (counted m old) found
counted_fails m old mid new items fault.Memory given spent = tt
counted_fails m old mid new items (fault.Code code) given spent =
    ap (λ r. and_then r (λ xs. work (1 + length xs) >>= (λ _. pure xs))) given.0 ∙ ap (λ r. and_then r (λ _. pure items)) spent
