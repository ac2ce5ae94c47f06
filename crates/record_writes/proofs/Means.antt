-- What the statements of writes mean.
use Rattle.std.proofs.Common.{◌≡◌, List, refl, [], ◌∷◌, Some, None, false, pos, negsuc}
use Rattle.sqlite.specs.declared.types.Value.TheVariants.{Null, Int}
use Rattle.sqlite.specs.Command.{Command}
use Rattle.sqlite.specs.Command.TheVariants.{Update, Insert, InsertOr}
use Rattle.sqlite.specs.Source.TheVariants.{Values}
use Rattle.sqlite_schema.specs.declared.command.Conflict.TheVariants.{Abort}
use Rattle.sqlite_sql.specs.declared.ops.BinaryOp.TheVariants.{Compare}
use Rattle.sqlite_sql.specs.declared.ops.CompareOp.TheVariants.{Eq}
use Rattle.sqlite.specs.Collation.TheVariants.{Binary}
use Rattle.sqlite.specs.Term.{Term, op2, lit, col}
use Rattle.sqlite.specs.Query.{Query, inner, end}
use Rattle.sqlite_tied.specs.Compute.{everything}
use Rattle.sqlite.proofs.Callers.{IsPlain, command_of}
use Rattle.sqlite.specs.Listing.{understood}
use Rattle.record_tables.specs.Texts.{schema, promise_text, vote_text, keep_text}

-- an UPDATE of each row of the member's table
abbrev pub meta_query : List Term → Query
meta_query terms = record {
  from = inner 0 end;
  filter = [];
  group = None;
  project = terms;
  distinct = false;
  collations = [];
  order = [];
  limit = lit (Int (negsuc 0));
  offset = lit (Int (pos 0));
}

abbrev pub promise_terms : List Term
promise_terms = col 1 0 ∷ col 1 0 ∷ lit Null ∷ col 1 2 ∷ col 1 3 ∷ col 1 4 ∷ col 1 5 ∷ col 1 6 ∷ col 0 0 ∷ col 0 1 ∷ []

abbrev pub promise_query : Query
promise_query = meta_query promise_terms

pub promise_is : command_of (understood schema promise_text) ≡ Update 0 (record { lets = []; body = promise_query })
unfolding understood everything
promise_is = refl

pub promise_plain : IsPlain (understood schema promise_text)
unfolding understood everything
promise_plain = (refl, refl)

abbrev pub upsert_query : Query
upsert_query = record {
  from = inner 1 end;
  filter = op2 (Compare Eq Binary) (col 1 0) (col 0 4) ∷ [];
  group = None;
  project = col 1 0 ∷ col 1 0 ∷ lit Null ∷ col 0 1 ∷ col 0 2 ∷ col 0 3 ∷ [];
  distinct = false;
  collations = [];
  order = [];
  limit = lit (Int (negsuc 0));
  offset = lit (Int (pos 0));
}

abbrev pub vote_command : Command
vote_command = InsertOr 1 Abort (Values (col 0 0 ∷ lit Null ∷ col 0 1 ∷ col 0 2 ∷ col 0 3 ∷ []) 5) (record { target = Some (0 ∷ []); update = Some (record { lets = []; body = upsert_query }) } ∷ [])

pub vote_is : command_of (understood schema vote_text) ≡ vote_command
unfolding understood everything
vote_is = refl

pub vote_plain : IsPlain (understood schema vote_text)
unfolding understood everything
vote_plain = (refl, refl)

abbrev pub keep_terms : List Term
keep_terms = col 0 0 ∷ lit Null ∷ col 0 1 ∷ []

abbrev pub keep_command : Command
keep_command = Insert 2 (Values keep_terms 3)

pub keep_is : command_of (understood schema keep_text) ≡ keep_command
unfolding understood everything
keep_is = refl

pub keep_plain : IsPlain (understood schema keep_text)
unfolding understood everything
keep_plain = (refl, refl)
