-- A run, command by command.
use Rattle.std.proofs.Common.{◌≡◌, ℕ, Bool, true, false, List, [], ◌∷◌, ◌++◌, Option, Some, None, refl, ap, sym, ◌∙◌, subst, append_assoc, append-nil}
use Rattle.std.specs.Io.KnownBytes.{Appends}
use Rattle.ballots.specs.declared.value.Value.{Value}
use Rattle.sessions.specs.Session.{SessionTerm}
use Rattle.paxq_files.specs.Script.{Command}
use Rattle.program_reports.specs.Reports.{Run}
use Rattle.program_reports.proofs.Reported.{Appends-none}
use Rattle.paxos.specs.Records.{Record}
use Rattle.readers.specs.Handing.{Site}
use Rattle.paxq_run.specs.Play.{Turn, turn_of, after, commands_run, IsPlayed, IsCut}
use Rattle.paxq_run.specs.Sites.{Shows, HasTurned}

pub Appends-both : (a b c : Option (List ℕ)) (p q : List ℕ) → Appends a b p → Appends b c q → Appends a c (p ++ q)
Appends-both None b c p q h k = tt
Appends-both (Some xs) (Some ys) (Some zs) p q h k = k ∙ ap (λ x. x ++ q) h ∙ append_assoc xs p q
Appends-both (Some xs) None c p q h k = absurd h
Appends-both (Some xs) (Some ys) None p q h k = absurd k

-- some commands were run, and others are left
pub record Going (names : List (List ℕ)) (start : List Value) (s : Site Record SessionTerm) (sight : List Value) (old new : Option (List ℕ)) (all left : List Command) : Type 0 where
  pub values : List Value
  pub written : List ℕ
  pub shows : Shows names values s sight
  pub printed : Appends old new written
  pub rest : after written (commands_run names values left) ≡ commands_run names start all

pub Going-start : (names : List (List ℕ)) (start : List Value) (s : Site Record SessionTerm) (sight : List Value) (old : Option (List ℕ)) (all : List Command) → Shows names start s sight → Going names start s sight old old all all
Going-start names start s sight old all shows = record { values = start; written = []; shows = shows; printed = Appends-none old; rest = refl }

after-after : (p q : List ℕ) (r : Run) → after p (after q r) ≡ after (p ++ q) r
after-after p q r = λ i. record { status = r.status; output = sym (append_assoc p q r.output) i; errors = r.errors }

module _ (names : List (List ℕ)) (start : List Value) (s : Site Record SessionTerm) (sight : List Value) (old mid : Option (List ℕ)) (all : List Command) where
  pub Going-end : Going names start s sight old mid all [] → IsPlayed (commands_run names start all) 0 old mid
  Going-end g =
      record {
        ended = ap (λ (r : Run). r.status) g.rest;
        printed = let P : List ℕ → Type 0 = Appends old mid in subst P (sym (append-nil g.written) ∙ ap (λ (r : Run). r.output) g.rest) g.printed;
      }

  pub Going-cut : (left : List Command) → Going names start s sight old mid all left → IsCut (commands_run names start all) old mid
  Going-cut left g = record { written = g.written; left = (commands_run names g.values left).output; beginning = ap (λ (r : Run). r.output) g.rest; printed = g.printed }

  module _ (command : Command) (left : List Command) (g : Going names start s sight old mid all (command ∷ left)) (text : List ℕ) (goes_on : Bool) (next : Site Record SessionTerm) (seen : List Value) (new : Option (List ℕ))
      (took : (values : List Value) → Shows names values s sight → HasTurned names (turn_of names values command) text goes_on next seen) (wrote : Appends mid new text) where
    turn : Turn
    turn = turn_of names g.values command

    turned : HasTurned names (turn_of names g.values command) text goes_on next seen
    turned = took g.values g.shows

    both : Appends old new (g.written ++ (turn_of names g.values command).printed)
    both = let P : List ℕ → Type 0 = λ bs. Appends old new (g.written ++ bs) in subst P turned.is.text (Appends-both old mid new g.written text g.printed wrote)

    pub Going-turn : goes_on ≡ true → Going names start next seen old new all left
    Going-turn goes =
        let on : (turn_of names g.values command).goes_on ≡ true = sym turned.is.goes ∙ goes in
        let runs : commands_run names g.values (command ∷ left) ≡ after (turn_of names g.values command).printed (commands_run names (turn_of names g.values command).values left) = rw on refl in
        record {
          values = (turn_of names g.values command).values;
          written = g.written ++ (turn_of names g.values command).printed;
          shows = turned.shows;
          printed = both;
          rest = sym (after-after g.written (turn_of names g.values command).printed (commands_run names (turn_of names g.values command).values left)) ∙ ap (after g.written) (sym runs) ∙ g.rest;
        }

    pub Going-stops : goes_on ≡ false → IsPlayed (commands_run names start all) 3 old new
    Going-stops stops =
        let off : (turn_of names g.values command).goes_on ≡ false = sym turned.is.goes ∙ stops in
        let runs : commands_run names g.values (command ∷ left) ≡ record { status = 3; output = (turn_of names g.values command).printed; errors = [] } = rw off refl in
        let whole : after g.written (record { status = 3; output = (turn_of names g.values command).printed; errors = [] }) ≡ commands_run names start all = ap (after g.written) (sym runs) ∙ g.rest in
        record { ended = ap (λ (r : Run). r.status) whole; printed = (let P : List ℕ → Type 0 = Appends old new in subst P (ap (λ (r : Run). r.output) whole) both) }
