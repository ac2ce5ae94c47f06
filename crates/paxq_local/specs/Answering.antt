-- The answers of all members to one question.
use Rattle.std.specs.Prelude.{◌≡◌, ◌⊎◌, ℕ, ◌<◌, length, Bool, true, false, Option, Some, None, slice_index_or, slice_set, string_bytes}
use Rattle.std.specs.List.{list_all}
use Rattle.std.specs.declared.alloc.Global.{Global}
use Rattle.std.specs.declared.string.String.{String}
use Rattle.paxq_local.specs.declared.answers.Answers.{Answers}
use Rattle.paxq_local.specs.declared.answers.Told.{Told}
use Rattle.paxq_local.specs.declared.answers.Told.TheVariants.{Said, Differ, NoAnswer}

-- whether the member has answered before which so many stand
abbrev pub has_answered : Answers → (before : ℕ) → Bool
has_answered answers before = slice_index_or answers.has.items before false

-- a text is held from now on, and it is the first, or the same as what was held
abbrev pub AreSame : Option (String Global) → (text : String Global) → Option (String Global) → Type 0
AreSame None text new = new ≡ Some text
AreSame (Some first) text new = (new ≡ Some first) × (string_bytes first ≡ string_bytes text)

-- it is another than what is held
abbrev pub IsAnother : Option (String Global) → (text : String Global) → Type 0
IsAnother None text = ⊥
IsAnother (Some first) text = ¬ (string_bytes first ≡ string_bytes text)

-- that member has answered, with this text
pub record IsAdded (old : Answers) (before : ℕ) (text : String Global) (new : Answers) : Type 0 where
  pub has : new.has.items ≡ slice_set old.has.items before true
  pub same : AreSame old.text text new.text

-- its text is noted, unless it has answered before or there is no such member
abbrev pub AreNoted : (old : Answers) → (before : ℕ) → (text : String Global) → (new : Answers) → Type 0
AreNoted old before text new = (new ≡ old) ⊎ ((before < length old.has.items) × IsAdded old before text new)

-- it had not answered, and its text is another than what is held
pub record Differs (old : Answers) (before : ℕ) (text : String Global) : Type 0 where
  pub is_in : before < length old.has.items
  pub is_new : has_answered old before ≡ false
  pub is_another : IsAnother old.text text

-- what came of the question, where it is said with its text: the text that all have answered, once it is noted, or that two differ
abbrev pub AreTold : (old : Answers) → (before : ℕ) → (text : String Global) → Told → Type 0
AreTold old before text (Said all) = (now : Answers) × AreNoted old before text now × (list_all (λ has. has) now.has.items ≡ true) × (now.text ≡ Some all)
AreTold old before text Differ = Differs old before text
AreTold old before text NoAnswer = Unit {0}
