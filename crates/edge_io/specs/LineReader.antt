-- What a contract sees of a `LineReader`, and what its calls answer.
use Rattle.std.specs.Prelude.{◌≡◌, ◌≢◌, ℕ, ◌+◌, ◌⊎◌, Bool, true, false, List, [], ◌∷◌, Option, None, Some, Result, Ok, Err, Contains, ⊤}
use Rattle.std.specs.Borrow.{Bor, MutBor}
use Rattle.device_log.specs.Streams.{SourceRead, CameToEnd}
use Rattle.edge_io.specs.Source.{Draws, ReadsSource, IsEnded, LastReadFailed, NoReadFailed}
use Rattle.edge_io.specs.Text.{text_after}
use Rattle.edge_io.specs.Lines.{IsTooLong, IsTooMany, GivesLine}
use Rattle.edge_io.specs.declared.reader.LineFault.{LineFault}
use Rattle.edge_io.specs.declared.reader.LineFault.TheVariants.{LineTooLong, TooManyLines, ReadFault}
use Rattle.edge_io.specs.declared.reader.LineReader.{LineReader}

-- what a call answers: a line, the end or a fault
abbrev pub Answer : Type 0
Answer = Result (Option (List ℕ)) LineFault

-- the answer with its line as a value
abbrev pub answer_of : Result (Option (Bor (List ℕ))) LineFault → Answer
answer_of (Ok (Some line)) = Ok (Some line.now)
answer_of (Ok None) = Ok None
answer_of (Err fault) = Err fault

-- the answer where it is told beside the line whether there is one
abbrev pub answer_so : List ℕ → Result Bool LineFault → Answer
answer_so line (Ok true) = Ok (Some line)
answer_so line (Ok false) = Ok None
answer_so line (Err fault) = Err fault

module _ {S : Type 0} where
  -- the borrow of the source
  abbrev pub source_of : LineReader S → MutBor S
  source_of reader = reader.source

  -- how many lines were given
  abbrev pub lines_given : LineReader S → ℕ
  lines_given reader = reader.given

  -- the bytes that were read and are in no line yet
  abbrev pub held : LineReader S → List ℕ
  held reader = reader.buffer.rest

-- one more where a line came
abbrev pub given_after : ℕ → Answer → ℕ
given_after given (Ok (Some line)) = given + 1
given_after given (Ok None) = given
given_after given (Err fault) = given

-- behind so many lines these bytes decide the next answer
abbrev pub IsDecided : ℕ → List ℕ → Type 0
IsDecided given bytes = Contains bytes 10 ⊎ (IsTooLong given bytes ⊎ IsTooMany given bytes)

-- each of these reads was made where the bytes that were in no line decided nothing
abbrev pub AreNeeded : (given : ℕ) (before : List ℕ) (reads : List SourceRead) → Type 0
AreNeeded given before [] = ⊤
AreNeeded given before (read ∷ older) =
    (IsDecided given (text_after before older) → ⊥) × AreNeeded given before older

-- When each answer comes, by the bytes that are in no line once these reads are made, and which of
-- them it leaves. Two cases never hold of the same bytes, but for a read fault.
abbrev pub Answers : (given : ℕ) (reads : List SourceRead) (old new : List ℕ) → Answer → Type 0
Answers given reads old new (Ok (Some line)) = GivesLine given old line new
Answers given reads old new (Ok None) = IsEnded reads × (old ≡ []) × (new ≡ [])
Answers given reads old new (Err (LineTooLong line)) =
    (line ≡ given + 1) × IsTooLong given old × (new ≡ old)
Answers given reads old new (Err TooManyLines) = IsTooMany given old × (new ≡ old)
Answers given reads old new (Err (ReadFault count)) = new ≡ old

-- which reads failed: with a read fault the last one alone, and else none
abbrev pub FailsAsRead : (old new : List SourceRead) → Answer → Type 0
FailsAsRead old new (Err (ReadFault count)) = LastReadFailed old new count
FailsAsRead old new (Err (LineTooLong line)) = NoReadFailed old new
FailsAsRead old new (Err TooManyLines) = NoReadFailed old new
FailsAsRead old new (Ok answer) = NoReadFailed old new

-- The source may have been read, but only where what was held does not decide.
pub record Waits {S : Type 0} (reads : S → List SourceRead) (left : S → Option (List ℕ))
    (old new : LineReader S) : Type 0 where
  pub same_source : (source_of new).ghost_name ≡ (source_of old).ghost_name
  pub draws : Draws reads left (source_of old).now (source_of new).now
  pub needed : AreNeeded (lines_given old) (held old) draws.more
  pub unfailed : NoReadFailed (reads (source_of old).now) (reads (source_of new).now)
  pub given : lines_given new ≡ lines_given old
  pub held_is : held new ≡ text_after (held old) draws.more
  pub held_stays : IsDecided (lines_given old) (held old) → held new ≡ held old
  pub idle : IsDecided (lines_given old) (held old) → (source_of new).now ≡ (source_of old).now

-- The source was read once, and came to its end.
pub record Ends {S : Type 0} (reads : S → List SourceRead) (left : S → Option (List ℕ))
    (old new : LineReader S) : Type 0 where
  pub same_source : (source_of new).ghost_name ≡ (source_of old).ghost_name
  pub read : ReadsSource reads left CameToEnd (source_of old).now (source_of new).now
  pub given : lines_given new ≡ lines_given old
  pub held_is : held new ≡ held old

-- whether there were bytes, which are the last line then
abbrev pub IsRest : {S : Type 0} → (old new : LineReader S) → (some : Bool) → Type 0
IsRest old new true =
    (held old ≢ []) × (new.buffer.line ≡ held old) × (lines_given new ≡ lines_given old + 1)
IsRest old new false = (held old ≡ []) × (lines_given new ≡ lines_given old)

-- All bytes were given as a line, or there were none.
pub record GivesRest {S : Type 0} (old new : LineReader S) (some : Bool) : Type 0 where
  pub same_source : (source_of new).ghost_name ≡ (source_of old).ghost_name
  pub same : (source_of new).now ≡ (source_of old).now
  pub rest : held new ≡ []
  pub is : IsRest old new some

-- What a call of `next_line` does and answers.
pub record GivesNextLine {S : Type 0} (reads : S → List SourceRead) (left : S → Option (List ℕ))
    (old new : LineReader S) (answer : Answer) : Type 0 where
  pub same_source : (source_of new).ghost_name ≡ (source_of old).ghost_name
  pub draws : Draws reads left (source_of old).now (source_of new).now
  -- the source is read only where what was read does not decide
  pub needed : AreNeeded (lines_given old) (held old) draws.more
  pub failed : FailsAsRead (reads (source_of old).now) (reads (source_of new).now) answer
  pub given : lines_given new ≡ given_after (lines_given old) answer
  pub answers : Answers (lines_given old) draws.more
      (text_after (held old) draws.more) (held new) answer
  -- that a line is too long, or one too many, is answered ever after
  pub too_long : IsTooLong (lines_given old) (held old)
      → (answer ≡ Err (LineTooLong (lines_given old + 1))) × (held new ≡ held old)
  pub too_many : IsTooMany (lines_given old) (held old)
      → (answer ≡ Err TooManyLines) × (held new ≡ held old)
  pub idle : IsDecided (lines_given old) (held old) → (source_of new).now ≡ (source_of old).now
