-- Why a statement fails that has nothing wrong with it.
use Rattle.std.proofs.Common.{◌≡◌, ◌≢◌, ◌⊎◌, inl, inr, ℕ, zero, suc, ◌≤◌, List, [], ◌∷◌, length, length-append, append-nil, Bool, true, false, ◌||◌, Option, None, Some, Ok, Err, Result, IsSome, All, refl, sym, ap, subst, subst₂, ◌∙◌, arith}
use Rattle.std.specs.Prelude.{IfErr}
use Rattle.std.specs.List.{AllByRecursion}
use Rattle.sqlite_disk.specs.Disk.{MoreFaults}
use Rattle.sqlite_trees.specs.declared.error.StoreError.{StoreError}
use Rattle.sqlite_trees.specs.declared.error.StoreError.TheVariants.{OutOfMemory, Io, Corrupt, Full, Broken, Unstorable}
use Rattle.sqlite.specs.declared.error.ErrorCode.TheVariants as code
use Rattle.sqlite.specs.declared.error.Error.{Error}
use Rattle.sqlite.specs.declared.error.Error.TheVariants.{SqliteFailure}
use Rattle.sqlite_schema.specs.declared.schema.Schema.{Schema}
use Rattle.sqlite_schema.specs.declared.schema.Keys.{Keys}
use Rattle.sqlite_schema.specs.declared.schema.Keys.TheVariants.{Enforced}
use Rattle.sqlite_schema.specs.declared.command.Command.{Command}
use Rattle.sqlite_rules.specs.declared.error.Refusal.{Refusal}
use Rattle.sqlite_rules.specs.Action.{Leads, Writes, works}
use Rattle.sqlite_rules.specs.Edit.{IsOversized, IsRefused, taken_by}
use Rattle.sqlite_rules.specs.Lists.{Has}
use Rattle.sqlite_resolve.specs.declared.compiled.Compiled.{Compiled}
use Rattle.sqlite_resolve.specs.declared.error.CompileError.{CompileError}
use Rattle.sqlite.specs.Calls.{IsWrite}
use Rattle.sqlite.specs.Clock.{timed}
use Rattle.sqlite.specs.Does.{Does}
use Rattle.sqlite.specs.Edit.{Edit}
use Rattle.sqlite.specs.Effect.{is_query}
use Rattle.sqlite.specs.Listing.{understood}
use Rattle.sqlite.specs.Order.{Row}
use Rattle.sqlite.specs.Steps.{FailsToCommit}
use Rattle.sqlite.specs.Tree.{Trees}
use Rattle.sqlite.specs.declared.run.Mode.{Mode}
use Rattle.sqlite.specs.State.{State, HasCleanDisk, Escapes, EndsScope, Executes, ExecutesIn, ExecutesInside, Fails, HasCause, IsMisplaced, IsNoStatement, IsNotRun, IsStatement, IsUnchanged, RunsAlone, RunsCommand, Survives, is_pragma, mode_of, shows_rows, store_error, text_of}
use Rattle.sqlite.proofs.Callers.{IsPlain, command_of, statement_of}
use Rattle.record_writes.specs.Faults.{StoreFailed}

-- it is the whole text, and has so many parameters
abbrev pub IsWhole : (bytes parameters : ℕ) → Result Compiled CompileError → Type 0
IsWhole n count (Ok c) = (n ≤ c.tail) × (count ≡ length c.names)
IsWhole n count (Err e) = ⊥

module _ (old new : State) where
  -- a failure for want of memory is told as that
  pub cause_of : {TooBig : Type 0} (big : TooBig → StoreFailed old new) (cause : StoreError) (e : Error) → e ≡ store_error cause → HasCause old new TooBig cause → e ≢ SqliteFailure code.OutOfMemory → StoreFailed old new
  cause_of big OutOfMemory e is h other = absurd (other is)
  cause_of big Io e is h other = inl h
  cause_of big Corrupt e is h other = inl h
  cause_of big Full e is h other = inl h
  cause_of big Broken e is h other = inr (inl h)
  cause_of big Unstorable e is h other = big h

  pub fails_by : {TooBig : Type 0} (big : TooBig → StoreFailed old new) (e : Error) → Fails old new TooBig e → e ≢ SqliteFailure code.OutOfMemory → StoreFailed old new
  fails_by big e h other = cause_of big h.0 e h.1 h.2 other

  pub commit_failed : old.in_transaction ≡ true → (e : Error) → FailsToCommit old new e → e ≢ SqliteFailure code.OutOfMemory → StoreFailed old new
  commit_failed mode e (inl f) other = fails_by (λ none. absurd none) e f other
  commit_failed mode e (inr f) other = absurd (let both : true ≡ false = sym mode ∙ f.1 in cc)

  module _ (sql : List ℕ) (params : Row) (before : Schema) (has : old.now.schema ≡ before) (plain : IsPlain (understood before sql)) (whole : IsWhole (length sql) (length params) (understood before sql)) where
    no_statement : (e : Error) → ¬ IsNoStatement old sql params e
    no_statement e (inl h) = subst IsPlain (sym (ap (λ s. understood s sql) has) ∙ h.1) plain
    no_statement e (inr h) =
        let known = sym (ap (λ s. understood s sql) has) ∙ h.1 in
        let p = subst IsPlain known plain in
        let w = subst (IsWhole (length sql) (length params)) known whole in
        elim h.2 [
          | inl k ↦ k.0 w.0
          | inr (inl k) ↦ k.0 w.1
          | inr (inr k) ↦ k.0 p.1
        ]

    pub not_run : (e : Error) → IsNotRun old new sql params e → e ≢ SqliteFailure code.OutOfMemory → StoreFailed old new
    unfolding IsNotRun
    not_run e (inl h) other = absurd (no_statement e h.0)
    not_run e (inr h) other = fails_by (λ none. absurd none) e h other

-- ---- from one call to the next

pub more_since : (a b c : ℕ) → a ≤ b → MoreFaults b c → MoreFaults a c
more_since a b c low more = grind (arith, low, more)

-- what fails later fails as well from where nothing had changed
pub since : (old mid new : State) (P : Trees → Type 0) → IsUnchanged old mid → Survives old mid P → StoreFailed mid new → StoreFailed old new
since old mid new P same kept (inl more) = inl (more_since old.faults mid.faults new.faults kept.counts more)
since old mid new P same kept (inr (inl shut)) = absurd (let up = same.0.is_open in cc)
since old mid new P same kept (inr (inr limit)) = inr (inr (subst IsSome kept.limit limit))

pub still_more : (a b c : ℕ) → MoreFaults a b → b ≤ c → MoreFaults a c
still_more a b c more low = grind (arith, more, low)

-- what fails later fails as well from before a call that survives
pub later : (old mid new : State) (P : Trees → Type 0) → HasCleanDisk mid → Survives old mid P → mid.faults ≤ new.faults → StoreFailed mid new → StoreFailed old new
later old mid new P clean kept grows (inl more) = inl (more_since old.faults mid.faults new.faults kept.counts more)
later old mid new P clean kept grows (inr (inl shut)) = by old.is_open refl
  where
    by : (b : Bool) → old.is_open ≡ b → StoreFailed old new
    by false closed = inr (inl closed)
    by true up = elim (kept.closes clean up) [ inl still ↦ absurd (let both : true ≡ false = sym still ∙ shut in cc) | inr more ↦ inl (still_more old.faults mid.faults new.faults more grows) ]
later old mid new P clean kept grows (inr (inr limit)) = inr (inr (subst IsSome kept.limit limit))

pub err_later : {V : Type 0} (old mid new : State) (P : Trees → Type 0) → HasCleanDisk mid → Survives old mid P → mid.faults ≤ new.faults → (r : Result V Error) → IfErr r (λ e. e ≢ SqliteFailure code.OutOfMemory → StoreFailed mid new)
    → IfErr r (λ e. e ≢ SqliteFailure code.OutOfMemory → StoreFailed old new)
err_later old mid new P clean kept grows (Ok v) h = tt
err_later old mid new P clean kept grows (Err e) h = λ other. later old mid new P clean kept grows (h other)

-- what has failed has still failed after another call
pub store_still : (old mid new : State) → mid.faults ≤ new.faults → StoreFailed old mid → StoreFailed old new
store_still old mid new grows (inl more) = inl (still_more old.faults mid.faults new.faults more grows)
store_still old mid new grows (inr rest) = inr rest

-- ---- a write

-- a part that stopped did so by itself, or by what follows it
pub halted : {B E R : Type 0} {stop : E} {Stops : E → Type 0} → ((at : E) × Stops at × (◌≡◌ {A = Result B E} (Err stop) (Err at))) ⊎ R → Stops stop ⊎ R
halted {Stops} (inl h) = inl (subst Stops (sym (let e = h.2 in cc)) h.1)
halted (inr on) = inr on

module _ (old new : State) (sql : List ℕ) (params : Row) (before : Schema) (has : old.now.schema ≡ before) (plain : IsPlain (understood before sql)) (whole : IsWhole (length sql) (length params) (understood before sql))
    (command : Command) (is : command_of (understood before sql) ≡ command) (write : IsWrite command) (silent : (is_query command || (is_pragma command || false)) ≡ false)
    (limited : (stop : Option Error) → Does old.step_limit (mode_of old) params (record old.now { schema = before }) (statement_of sql (understood before sql)) None command (Err stop) → IsSome old.step_limit) where
  -- a write is no command of transactions
  ends_nothing : (k : Command) → k ≡ command → ¬ Escapes 0 old k
  ends_nothing k same (inl (inl end)) = subst IsWrite (sym same ∙ end) write
  ends_nothing k same (inl (inr end)) = subst IsWrite (sym same ∙ end) write
  ends_nothing k same (inr h) = elim h.1 [
    | inl end ↦ subst IsWrite (sym same ∙ end) write
    | inr end ↦ subst IsWrite (sym same ∙ end) write
  ]

  is_placed : (k : Command) (e : Error) → k ≡ command → ¬ IsMisplaced old k e
  is_placed k e same (inl h) = elim h.1 [
    | inl begins ↦ subst IsWrite (sym same ∙ begins.0) write
    | inr ends ↦ elim ends.0 [ inl end ↦ subst IsWrite (sym same ∙ end) write | inr end ↦ subst IsWrite (sym same ∙ end) write ]
  ]
  is_placed k e same (inr h) = elim h.2 [
    | inl end ↦ subst IsWrite (sym same ∙ end) write
    | inr end ↦ subst IsWrite (sym same ∙ end) write
  ]

  module _ (c : Compiled) (it : IsStatement old sql params c) where
    known : Ok c ≡ understood before sql
    known = sym it.is ∙ ap (λ s. understood s sql) has

    bare : IsPlain (Ok c)
    bare = subst IsPlain (sym known) plain

    same : c.command ≡ command
    same = ap command_of known ∙ is

    does : (stop : Option Error) → Does old.step_limit (mode_of old) (timed params c.formats it.now) old.now (text_of sql c) c.returning c.command (Err stop) → IsSome old.step_limit
    does stop h =
        let plainly : Does old.step_limit (mode_of old) params old.now (text_of sql c) None c.command (Err stop) = rw (bare.0, bare.1, append-nil params) at h in
        let so : Does old.step_limit (mode_of old) params old.now (statement_of sql (understood before sql)) None command (Err stop) =
        subst₂ (λ k t. Does old.step_limit (mode_of old) params old.now t None k (Err stop)) same (ap (statement_of sql) known) plainly in
        limited stop (subst (λ s. Does old.step_limit (mode_of old) params (record old.now { schema = s }) (statement_of sql (understood before sql)) None command (Err stop)) has so)

    quiet : shows_rows false c ≡ false
    quiet = rw (bare.0, same) silent

    ran : (e : Error) → RunsAlone false old new sql c (timed params c.formats it.now) (Err e) → e ≢ SqliteFailure code.OutOfMemory → StoreFailed old new
    ran e h other =
        let commanded : RunsCommand old new sql c (timed params c.formats it.now) (Err e) = rw quiet at h in
        elim commanded [
          | inl refused ↦ elim refused.0 [ inl misplaced ↦ absurd (is_placed c.command e same misplaced) | inr did ↦ inr (inr (does (Some e) did.1)) ]
          | inr failed ↦ fails_by old new (λ big. inr (inr (does None big))) e failed other
        ]

  -- It fails for want of memory, since the store failed, or by the limit of its steps.
  pub failed : (r : Result ℕ Error) → Executes sql params old new r → IfErr r (λ e. e ≢ SqliteFailure code.OutOfMemory → StoreFailed old new)
  unfolding ExecutesIn
  failed (Ok count) h = tt
  failed (Err e) (inl refused) = λ other. not_run old new sql params before has plain whole e refused other
  failed (Err e) (inr runs) = λ other. ran runs.0 runs.1 e runs.2 other

  -- so inside a transaction
  pub inside_failed : (r : Result ℕ Error) → ExecutesInside 0 sql params old new r → IfErr r (λ e. e ≢ SqliteFailure code.OutOfMemory → StoreFailed old new)
  unfolding EndsScope
  inside_failed (Ok count) h = tt
  inside_failed (Err e) (inl h) = failed (Err e) h.0
  inside_failed (Err e) (inr h) = λ other. absurd (ends_nothing h.0.0.command (same h.0.0 h.0.1) h.0.2)

-- ---- the rows of a write

-- keys are tested, and none waits
abbrev pub our_mode : Mode
our_mode = record { keys = Enforced; in_doubt = false; may_wait = false }

-- no row refers to another, and no index asks for anything
pub no_keys : (rows : List Row) → AllByRecursion (λ row. true ≡ true) rows
no_keys [] = tt
no_keys (row ∷ rows) = (refl, no_keys rows)

pub each_at : {X : Type 0} (P : X → Type 0) (xs : List X) → AllByRecursion P xs → All P xs
each_at P [] h k d low = absurd (omega arith)
each_at P (x ∷ xs) h zero d low = h.0
each_at P (x ∷ xs) h (suc k) d low = each_at P xs h.1 k d (omega arith)

-- An edit is made where no rule refuses it, its rows can be stored, and no foreign key acts on it.
module _ (schema : Schema) (keys : Keys) (db : Trees) (edit : Edit) (alone : works schema keys 0 edit.table.tree (taken_by db edit) edit.news ≡ []) (allowed : (why : Refusal) → ¬ IsRefused schema keys db edit why)
    (small : (row : Row) → Has edit.news row → ¬ IsOversized schema edit.table row) where
  no_more : (n : ℕ) (next : Trees) (why : Option Refusal) → ¬ Leads schema keys n next [] (Err why)
  no_more zero next why h = absurd (let e = h.1 in cc)
  no_more (suc n) next why h = absurd (omega (arith, ap length h.2, length-append h.0 (h.1 ∷ [])))

  pub edit_made : (why : Option Refusal) → ¬ Writes schema keys db edit (Err why)
  edit_made why (inl refused) = allowed refused.0 refused.1
  edit_made why (inr (inl big)) = small big.0 big.1 big.2
  edit_made why (inr (inr went)) = no_more went.2.0 went.0 why (rw alone at went.2.1)
