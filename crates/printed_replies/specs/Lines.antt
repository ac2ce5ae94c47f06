-- What is printed of what a client gets.
use Rattle.std.specs.Prelude.{ℕ, ◌==◌, List, [], ◌∷◌, ◌++◌, codes}
use Rattle.std.specs.List.{slice_split, flat_map}
use Rattle.std.specs.Fmt.{decimal}
use Rattle.ballots.specs.declared.reply.Reply.{Reply}
use Rattle.ballots.specs.declared.reply.Reply.TheVariants.{Done, Fault}
use Rattle.ballots.specs.Replies.{Answered, text, fault}
use Rattle.fault_codes.specs.Codes.{code_name}
use Rattle.program_reports.specs.Reports.{line_feed}

-- `done P` or `fault CODE P`
abbrev pub reply_text : Reply → List ℕ
reply_text (Done position) = codes "done " ++ decimal position ++ line_feed
reply_text (Fault code position) = codes "fault " ++ code_name code ++ codes " " ++ decimal position ++ line_feed

-- each line after two spaces
abbrev pub indented : List ℕ → List ℕ
indented bytes = flat_map (λ line. codes "  " ++ line ++ line_feed) (slice_split (λ b. b == 10) bytes)

-- `at P` and the lines of the answer, none for an empty text, or `at P fault CODE`
abbrev pub answer_text : ℕ → Answered → List ℕ
answer_text position (text []) = codes "at " ++ decimal position ++ line_feed
answer_text position (text (b ∷ bs)) = codes "at " ++ decimal position ++ line_feed ++ indented (b ∷ bs)
answer_text position (fault code) = codes "at " ++ decimal position ++ codes " fault " ++ code_name code ++ line_feed

-- `behind P`
abbrev pub behind_text : ℕ → List ℕ
behind_text position = codes "behind " ++ decimal position ++ line_feed

-- `elsewhere M`
abbrev pub elsewhere_text : ℕ → List ℕ
elsewhere_text member = codes "elsewhere " ++ decimal member ++ line_feed
