-- What the laws of `headline` say of the script, by each account that tells it: the put, the get and the removal, and the gets
-- that found nothing. And what they say of every account of these logs, and of every run of that text.
use Rattle.std.specs.Prelude.{◌≡◌, ◌≢◌, ◌⊎◌, ℕ, List, [], ◌++◌, take}
use Rattle.device_log.specs.Streams.{SourceRead, refused_writes, taken_by}
use Rattle.edge_io.specs.Source.{NoReadFailed}
use Rattle.edge_io.specs.Text.{spelled, text_read}
use Rattle.cache_model.specs.declared.cause.Cause.TheVariants as cause
use Rattle.script_grammar.specs.declared.answer.StepAnswer.TheVariants as answer
use Rattle.script_grammar.specs.declared.step.Step.TheVariants as step
use Rattle.script_run.specs.Run.{fresh}
use Rattle.script_run.specs.Takes.{run_after}
use Rattle.run_promise.specs.declared.status.Status.{Status}
use Rattle.run_promise.specs.declared.status.Status.TheVariants as status
use Rattle.run_promise.specs.Top.{ReadsFailed}
use Rattle.headline.specs.Account.{Account, HistoryTells, IsConcluded, RunLogs}
use Rattle.headline.specs.Answered.{RecordedPut, RecordedRemoval, WasCompleted}
use Rattle.headline.specs.Endings.{LostItsFormat}
use Rattle.headline.specs.Fixed.{AreSteady, GiveSame, BothDisplaced, SwitchesDiffer}
use Rattle.headline.specs.Misses.{HasEndedNone}
use Rattle.headline.specs.Readers.{IsReadToEnd}
use Rattle.headline.specs.Reads.{IsStoredPut, IsWholePut}
use Rattle.headline.specs.Standing.{IsListedPut, WasRemoved}
use Rattle.headline.specs.Verdicts.{MissIsCaused}
use Rattle.worked_runs.specs.History.{script_output}
use Rattle.worked_runs.specs.Script.{body_of_a, key_of_a, name_of_reader, script_lines, script_turns}
use Rattle.worked_runs.specs.Told.{TellsScript, script_logs}

-- the get behind the put gave all that the writer of put 1 took, which an earlier line opened under the key
abbrev pub TheGetIsWhole : Type 0
TheGetIsWhole = (a : Account script_logs) → TellsScript a → IsWholePut a.turns (take 6 script_lines) key_of_a [] 1 1 body_of_a

-- the reader's put is that one too, and its length is told
abbrev pub TheHitIsWhole : Type 0
TheHitIsWhole = (a : Account script_logs) → TellsScript a → IsStoredPut a.turns (take 3 script_lines) key_of_a [] 1 1

-- the pieces that the actor was told since it opened its reader are, joined, all that the writer of that put took
abbrev pub TheEndIsRead : Type 0
TheEndIsRead = (a : Account script_logs) → TellsScript a → IsReadToEnd a (take 5 script_lines) name_of_reader 1

-- an earlier line recorded that put 1 was completed, and was answered so; the key's live vector lists it
abbrev pub ThePutIsListed : Type 0
ThePutIsListed = (a : Account script_logs) → TellsScript a → IsListedPut a (take 6 script_lines) key_of_a [] 1

-- before the get that was answered never-put no line completed, gave up or removed a put of the key
abbrev pub NothingWasPut : Type 0
NothingWasPut = (a : Account script_logs) → TellsScript a → HasEndedNone a.turns (take 1 script_lines) key_of_a

-- and by the records of the lines before nothing of the key fits, for that cause
abbrev pub TheMissIsCaused : Type 0
TheMissIsCaused = (a : Account script_logs) → TellsScript a → MissIsCaused a.turns (take 1 script_lines) key_of_a [] cause.NeverPut

-- before the get that was answered removed a line recorded that, and was answered so
abbrev pub ItWasRemoved : Type 0
ItWasRemoved = (a : Account script_logs) → TellsScript a → WasRemoved a (take 8 script_lines) key_of_a

-- the line that recorded that put 1 was completed is a `put` of the key, and was answered so
abbrev pub ThePutWasAnswered : Type 0
ThePutWasAnswered = (a : Account script_logs) → TellsScript a
    → WasCompleted a (take 2 script_lines) (run_after fresh (take 2 script_lines) (take 2 script_turns)) key_of_a 1 1

-- and the one that recorded its removal is `remove` of it
abbrev pub TheRemovalWasAnswered : Type 0
TheRemovalWasAnswered = (a : Account script_logs) → TellsScript a
    → HistoryTells a (take 7 script_lines) (step.Remove key_of_a) (answer.Removed 1)

-- the other way round: the line that was answered put 1 recorded that it was completed, with one byte
abbrev pub ThePutWasCompleted : Type 0
ThePutWasCompleted = (a : Account script_logs) → TellsScript a
    → RecordedPut a (take 2 script_lines) (step.Put key_of_a body_of_a [] []) 1 1

-- and the one that was answered that put 1 was removed recorded that
abbrev pub TheRemovalWasRecorded : Type 0
TheRemovalWasRecorded = (a : Account script_logs) → TellsScript a → RecordedRemoval a (take 7 script_lines) (step.Remove key_of_a) 1

-- what the writer of put 1 took is the body of its line, up to the last line, so behind the removal too
abbrev pub ThePutTookItsBody : Type 0
ThePutTookItsBody = (a : Account script_logs) → TellsScript a
    → ((run_after fresh (take 8 script_lines) (take 8 script_turns)).streams 1).bytes ≡ body_of_a

-- in each legal history of whatever run that begins with these lines: where the put and the get behind it were answered with one
-- put, the get gave the body of the put, and as many bytes were told of both
abbrev pub TheGotIsTheBody : Type 0
TheGotIsTheBody = (m : RunLogs) (b : Account m) (put size fragments got : ℕ) (bytes : List ℕ)
    → HistoryTells b (take 2 script_lines) (step.Put key_of_a body_of_a [] []) (answer.Put put size fragments)
    → HistoryTells b (take 6 script_lines) (step.Get key_of_a []) (answer.Got put got bytes) → (bytes ≡ body_of_a) × (got ≡ size)

-- the device told its content to the end: each account of these logs has a legal history of all its lines
abbrev pub TheHistoryIsWhole : Type 0
TheHistoryIsWhole = (a : Account script_logs) → a.left ≡ []

-- each run that was read to its end, over a source that gave that text and steady devices, printed the same; or both displaced
-- a piece, or their switches differ
abbrev pub EachRunPrintsIt : Type 0
EachRunPrintsIt = (m : RunLogs) → IsConcluded m status.Done → (same : GiveSame script_logs m) → AreSteady m
    → (taken_by m.new ≡ taken_by m.old ++ script_output) ⊎ BothDisplaced script_logs m same ⊎ SwitchesDiffer script_logs m same

-- each run over that text, of which nothing was refused and whose memory sufficed, ends with the status Done, or for want of
-- the session whose format its device refused
abbrev pub EachRunIsDone : Type 0
EachRunIsDone = (m : RunLogs) (s : Status) → IsConcluded m s → ReadsFailed m.first m.read s → s ≢ status.Usage → s ≢ status.OutOfMemory
    → NoReadFailed m.first m.read → refused_writes m.new ≡ refused_writes m.old → m.bay.now ≡ m.bay.before
    → ((reads : List SourceRead) → m.read ≡ reads ++ m.first → text_read reads ≡ spelled script_lines) → (s ≡ status.Done) ⊎ LostItsFormat m s
