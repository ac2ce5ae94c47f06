-- The three kinds of lines of an event file: the first line, the writes that fail, and the commands.
use Rattle.std.specs.Prelude.{ℕ, ◌-◌, ◌^◌, Bool, true, false, ◌&&◌, nat_le, if◌then◌else◌, List, codes, Option, Some, None}
use Rattle.std.specs.List.{before_first, after_first, slice_split}
use Rattle.std.specs.Option.{option_map}
use Rattle.std.specs.Str.{bytes_eq, is_utf8}
use Rattle.document_names.specs.Names.{are_document_names}
use Rattle.ballots.specs.Ballot.{most_members}
use Rattle.line_parts.specs.Parts.{is_space, number_below, request_of, ◌>>=◌}
use Rattle.events.specs.declared.event.Event.TheVariants as event
use Rattle.events.specs.declared.event.Step.{Step}
use Rattle.events.specs.declared.event.Step.TheVariants as step
use Rattle.member.specs.declared.input.Tick.{Tick}
use Rattle.member.specs.declared.input.Tick.TheVariants as tick
use Rattle.event_files.specs.declared.command.Command.{Command}
use Rattle.event_files.specs.declared.command.Command.TheVariants.{Happens, DeliverAll}
use Rattle.event_files.specs.declared.first.Failure.{Failure}
use Rattle.event_files.specs.declared.first.Group.{Group}

-- a line's bytes, where they are UTF-8
unfoldable pub utf8_of : List ℕ → Option (List ℕ)
utf8_of line = if is_utf8 line then Some line else None

-- what stands before the first space, or all where there is none
abbrev pub part : List ℕ → List ℕ
part text = before_first is_space text

-- what stands after the first space, or nothing where there is none
abbrev pub after_part : List ℕ → List ℕ
after_part text = after_first is_space text

-- a number up to 2^64 - 1, in decimal and without a sign
abbrev pub number_of : List ℕ → Option ℕ
number_of digits = number_below (2 ^ 64) digits

-- such a number from 1 to the most
unfoldable pub number_to : (most : ℕ) → List ℕ → Option ℕ
number_to most digits = number_of digits >>= (λ n. if nat_le 1 n && nat_le n most then Some n else None)

-- `kept` or `lost`
unfoldable pub kept_of : List ℕ → Option Bool
kept_of word = if bytes_eq word (codes "kept") then Some true else if bytes_eq word (codes "lost") then Some false else None

-- so many members, with documents of these names
abbrev pub group_named : (members : ℕ) → List (List ℕ) → Option Group
group_named members names = if are_document_names names then Some (record { members = members; names = names }) else None

-- `N NAME ..`
unfoldable pub group_with : List ℕ → Option Group
group_with parts = do
  members ← number_to most_members (part parts)
  group_named members (slice_split is_space (after_part parts))

-- `members N NAME ..`
unfoldable pub group_of : List ℕ → Option Group
group_of line = do
  text ← utf8_of line
  if bytes_eq (part text) (codes "members") then group_with (after_part text) else None

-- `M W kept` or `M W lost`: a write of one of so many members fails, and leaves its record or the one before it
unfoldable pub failure_with : (members : ℕ) → List ℕ → Option Failure
failure_with members parts = do
  member ← number_to members (part parts)
  write ← number_to (2 ^ 64 - 1) (part (after_part parts))
  kept ← kept_of (after_part (after_part parts))
  Some (record { member = member; write = write; kept = kept })

-- `fail M W kept` or `fail M W lost`
unfoldable pub failure_of : (members : ℕ) → List ℕ → Option Failure
failure_of members line = do
  text ← utf8_of line
  if bytes_eq (part text) (codes "fail") then failure_with members (after_part text) else None

-- `M`: a tick comes to the member
abbrev pub tick_of : (members : ℕ) → Tick → List ℕ → Option Command
tick_of members t parts = option_map (λ member. Happens (event.Tick member t)) (number_to members parts)

-- `M CLIENT NUMBER TEXT`: a client sends the request, of that level, to the member
abbrev pub submit_of : (members level : ℕ) → List ℕ → Option Command
submit_of members level parts = do
  member ← number_to members (part parts)
  option_map (λ request. Happens (event.Submit member request)) (request_of level (after_part parts))

-- `all`, or the number of a message: it is delivered
abbrev pub deliver_of : List ℕ → Option Command
deliver_of parts = if bytes_eq parts (codes "all") then Some DeliverAll else option_map (λ message. Happens (event.Deliver message)) (number_of parts)

-- `deliver K`, `begin M` or `keep M`, in whose write a member stops
unfoldable pub step_of : (members : ℕ) → (word parts : List ℕ) → Option Step
step_of members word parts =
    if bytes_eq word (codes "deliver") then option_map (λ message. step.Deliver message) (number_of parts)
    else if bytes_eq word (codes "begin") then option_map (λ member. step.Begin member) (number_to members parts)
    else if bytes_eq word (codes "keep") then option_map (λ member. step.Keep member) (number_to members parts)
    else None

-- `deliver K`, `begin M` or `keep M`, and then `kept` or `lost`
abbrev pub stop_in_of : (members : ℕ) → List ℕ → Option Command
stop_in_of members parts = do
  stops ← step_of members (part parts) (part (after_part parts))
  option_map (λ kept. Happens (event.StopIn stops kept)) (kept_of (after_part (after_part parts)))

-- the command of that word
unfoldable pub command_with : (members : ℕ) → (word parts : List ℕ) → Option Command
command_with members word parts =
    if bytes_eq word (codes "begin") then tick_of members tick.Begin parts
    else if bytes_eq word (codes "resend") then tick_of members tick.Resend parts
    else if bytes_eq word (codes "catchup") then tick_of members tick.CatchUp parts
    else if bytes_eq word (codes "keep") then tick_of members tick.Keep parts
    else if bytes_eq word (codes "submit") then submit_of members 1 parts
    else if bytes_eq word (codes "submit2") then submit_of members 2 parts
    else if bytes_eq word (codes "deliver") then deliver_of parts
    else if bytes_eq word (codes "stopin") then stop_in_of members parts
    else if bytes_eq word (codes "stop") then option_map (λ member. Happens (event.Stop member)) (number_to members parts)
    else if bytes_eq word (codes "start") then option_map (λ member. Happens (event.Start member)) (number_to members parts)
    else None

-- a command to so many members
unfoldable pub command_of : (members : ℕ) → List ℕ → Option Command
command_of members line = do
  text ← utf8_of line
  command_with members (part text) (after_part text)
