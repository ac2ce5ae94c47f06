-- What the fields of distinct values stand for.
use Rattle.std.specs.Prelude.{◌≡◌, List, [], ◌∷◌, map}
use Rattle.query_calls.specs.declared.distinct.Distinct.TheInside.{Inside}
use Rattle.query_calls.specs.declared.distinct.Key.{Key}
use Rattle.query_calls.specs.Keys.{value_of, IsText}

abbrev pub AreTexts : List Key → Type 0
AreTexts [] = Unit {0}
AreTexts (k ∷ ks) = IsText k × AreTexts ks

-- the keys are those of the values
pub record AreKeys (d : Inside) : Type 0 where
  pub values : map value_of d.keys.keys ≡ d.values.items
  pub texts : AreTexts d.keys.keys
