-- The empty list changes nothing.
use Rattle.std.proofs.Common.{◌≡◌, true, [], Ok, refl}
use Rattle.data_model.specs.Trees.{Trees}
use Rattle.data_model.specs.Tidy.{IsTidy, is_document}
use Rattle.update_meaning.specs.Results.{updated, is_within_limits}
use Rattle.update_meaning.proofs.Tidying.{tidied-same, tidy-apart, tidy-filled, tidy-names, tidy-documents}

pub unchanged : (ts : Trees) → IsTidy ts → is_within_limits ts ≡ true → updated [] ts ≡ Ok ts
unchanged ts t l = rw (tidied-same ts (tidy-apart is_document ts t) (tidy-filled is_document ts t) (tidy-documents ts t)) (rw (tidy-names is_document ts t) (rw l refl))
