-- What a run of the program writes, and how it ends.
use Rattle.std.specs.Prelude.{◌≡◌, ◌⊎◌, ℕ, List, [], ◌∷◌, ◌++◌, Option, codes}
use Rattle.std.specs.Io.KnownBytes.{Appends}

-- the end of a line
abbrev pub line_feed : List ℕ
line_feed = 10 ∷ []

-- the exit status, and what is written to standard output and to standard error
pub record Run : Type 0 where
  pub status : ℕ
  pub output : List ℕ
  pub errors : List ℕ

-- a file that cannot be read, or is no text in UTF-8
abbrev pub unreadable_run : List ℕ → Run
unreadable_run file = record { status = 1; output = []; errors = codes "paxq: cannot read " ++ file ++ line_feed }

-- a run wrote what it should, and ended with its status; the pairs are what the writers held before and after
pub record Wrote (output errors : Option (List ℕ) × Option (List ℕ)) (status : ℕ) (run : Run) : Type 0 where
  pub ended : status ≡ run.status
  pub printed : Appends output.0 output.1 run.output
  pub reported : Appends errors.0 errors.1 run.errors

-- a run stopped for want of memory, after a beginning of what it should write
pub record Stopped (output errors : Option (List ℕ) × Option (List ℕ)) (status : ℕ) (run : Run) : Type 0 where
  pub written : List ℕ
  pub left : List ℕ
  pub beginning : written ++ left ≡ run.output
  pub ended : status ≡ 4
  pub printed : Appends output.0 output.1 written
  pub reported : Appends errors.0 errors.1 (codes "paxq: no memory" ++ line_feed)

abbrev pub Ran : Option (List ℕ) × Option (List ℕ) → Option (List ℕ) × Option (List ℕ) → Run → ℕ → Type 0
Ran output errors run status = Wrote output errors status run ⊎ Stopped output errors status run
