-- The text of each answer: one line, ended by a newline.
use Rattle.std.specs.Prelude.{ℕ, ◌==◌, nat_le, Bool, if◌then◌else◌, List, [], ◌∷◌, ◌++◌, length, codes, Option, Some, None}
use Rattle.std.specs.Fmt.{decimal}
use Rattle.sha2.specs.Sha256.{sha256}
use Rattle.hex.specs.Hex.{encode_lower}
use Rattle.tape_base.specs.declared.digests.Digest.{Digest}
use Rattle.cache_model.specs.declared.cause.Cause.{Cause}
use Rattle.cache_model.specs.declared.cause.Cause.TheVariants as cause
use Rattle.script_grammar.specs.declared.line.BadKind.{BadKind}
use Rattle.script_grammar.specs.declared.line.BadKind.TheVariants as kind
use Rattle.script_grammar.specs.declared.answer.Refused.{Refused}
use Rattle.script_grammar.specs.declared.answer.Refused.TheVariants as refused
use Rattle.script_grammar.specs.declared.answer.StepAnswer.{StepAnswer}
use Rattle.script_grammar.specs.declared.answer.StepAnswer.TheVariants as answer
use Rattle.script_grammar.specs.declared.last_line.LastLine.{LastLine}
use Rattle.script_grammar.specs.declared.last_line.LastLine.TheVariants as last

-- a line's newline
abbrev pub newline : List ℕ
newline = 10 ∷ []

-- ---- the parts of lines

-- bytes as an answer shows them: none, up to 64 in hex, or their SHA-256 (FIPS 180-4)
unfoldable pub shown : List ℕ → List ℕ
shown bytes =
    if length bytes == 0 then codes "-"
    else if nat_le (length bytes) 64 then encode_lower bytes
    else codes "sha256 " ++ encode_lower (sha256 bytes)

-- a word and a number
unfoldable pub numbered : List ℕ → ℕ → List ℕ
numbered word n = word ++ (codes " " ++ decimal n)

-- that a piece which was to be copied ahead was not
abbrev pub unsaved_text : Bool → List ℕ
unsaved_text unsaved = if unsaved then codes " unsaved" else []

-- the place at which the piece begins, the floor, and ` unsaved` behind them or not
unfoldable pub passed_text : ℕ → ℕ → Bool → List ℕ
passed_text place floor unsaved = codes "passed " ++ (decimal place ++ (codes " " ++ (decimal floor ++ unsaved_text unsaved)))

-- the segment of the directory, and how many live pieces it had before the purge
unfoldable pub displaced_text : ℕ → ℕ → List ℕ
displaced_text segment live = codes "displaced " ++ (decimal segment ++ (codes " " ++ decimal live))

-- the place, the digest that was kept and the one that was found, in lower-case hex
unfoldable pub damaged_text : ℕ → Digest → Digest → List ℕ
damaged_text place kept found =
    codes "damaged " ++ (decimal place ++ (codes " " ++ (encode_lower kept.0 ++ (codes " " ++ encode_lower found.0))))

-- a cause, as a miss, a broken reader or a refusal tells it
abbrev pub cause_text : Cause → List ℕ
cause_text cause.NeverPut = codes "never-put"
cause_text cause.Removed = codes "removed"
cause_text (cause.Passed place floor unsaved) = passed_text place floor unsaved
cause_text (cause.NoMatch count) = numbered (codes "no-match") count
cause_text (cause.Displaced segment live) = displaced_text segment live
cause_text (cause.Aborted writer) = numbered (codes "aborted") writer
cause_text (cause.DeviceFault count) = numbered (codes "device-fault") count
cause_text (cause.BeforeOpening serial) = numbered (codes "before-opening") serial
cause_text (cause.Unrecorded dropped) = numbered (codes "unrecorded") dropped
cause_text (cause.Damaged place kept found) = damaged_text place kept found

-- the index, from 1, of the fragment that is not live any more, and why
unfoldable pub lost_text : ℕ → Cause → List ℕ
lost_text index why = codes "lost " ++ (decimal index ++ (codes " " ++ cause_text why))

-- how many writers and readers are open
unfoldable pub open_text : ℕ → ℕ → List ℕ
open_text writers readers = codes "still-open " ++ (decimal writers ++ (codes " " ++ decimal readers))

-- why a step is refused, with its numbers where it has some
abbrev pub refusal_text : Refused → List ℕ
refusal_text (refused.Geometry number) = numbered (codes "geometry") number
refusal_text refused.TooManyWriters = codes "too-many-writers"
refusal_text refused.TooManyFragments = codes "too-many-fragments"
refusal_text (refused.VectorTooLarge bytes) = numbered (codes "vector-too-large") bytes
refusal_text (refused.Lost index why) = lost_text index why
refusal_text refused.Sealed = codes "sealed"
refusal_text refused.Exhausted = codes "exhausted"
refusal_text refused.Busy = codes "busy"
refusal_text refused.Idle = codes "idle"
refusal_text refused.NoSwitch = codes "no-switch"
refusal_text (refused.SyncRunning serial) = numbered (codes "sync-running") serial
refusal_text refused.NoSync = codes "no-sync"
refusal_text (refused.StillOpen writers readers) = open_text writers readers
refusal_text (refused.StillMoving blocks) = numbered (codes "still-moving") blocks

-- how many bytes were taken before, where that is told
abbrev pub took_text : Option ℕ → List ℕ
took_text None = []
took_text (Some count) = codes " took " ++ decimal count

-- the serial of the sync that ran, where one did
abbrev pub synced_text : Option ℕ → List ℕ
synced_text None = []
synced_text (Some serial) = codes " synced " ++ decimal serial

-- ---- the lines

-- a line of a word and a number
unfoldable pub number_line : List ℕ → ℕ → List ℕ
number_line word n = word ++ (codes " " ++ (decimal n ++ newline))

-- a session begins: its serial, where the first buffer begins, and the floor
unfoldable pub formatted_line : ℕ → ℕ → ℕ → List ℕ
formatted_line serial cursor floor =
    codes "formatted serial " ++ (decimal serial ++ (codes " cursor " ++ (decimal cursor ++ (codes " floor " ++ (decimal floor ++ newline)))))

-- a whole put: its number, how many bytes its body has, and in how many fragments
unfoldable pub put_line : ℕ → ℕ → ℕ → List ℕ
put_line put length fragments =
    codes "put " ++ (decimal put ++ (codes " length " ++ (decimal length ++ (codes " fragments " ++ (decimal fragments ++ newline)))))

-- a whole read: the put that was hit, how many bytes its body has, and these as they are shown
unfoldable pub got_line : ℕ → ℕ → List ℕ → List ℕ
got_line put length bytes =
    codes "got " ++ (decimal put ++ (codes " length " ++ (decimal length ++ (codes " " ++ (shown bytes ++ newline)))))

-- a reader that hit: the put, and how many bytes its whole body has
unfoldable pub hit_line : ℕ → ℕ → List ℕ
hit_line put length = codes "hit " ++ (decimal put ++ (codes " length " ++ (decimal length ++ newline)))

-- a fragment for a reader: its index from 1, how many bytes it has, and these as they are shown
unfoldable pub piece_line : ℕ → ℕ → List ℕ → List ℕ
piece_line index length bytes =
    codes "piece " ++ (decimal index ++ (codes " " ++ (decimal length ++ (codes " " ++ (shown bytes ++ newline)))))

-- a flush: how many blocks it wrote, cursor and floor behind it, and the serial of a sync where one ran
unfoldable pub flushed_line : ℕ → ℕ → ℕ → Option ℕ → List ℕ
flushed_line blocks cursor floor synced =
    codes "flushed " ++ (decimal blocks ++ (codes " cursor " ++ (decimal cursor ++ (codes " floor " ++ (decimal floor ++ (synced_text synced ++ newline))))))

-- a step that was not done, or of which only the bytes were taken that `took` counts
unfoldable pub refused_line : Refused → Option ℕ → List ℕ
refused_line why took = codes "refused " ++ (refusal_text why ++ (took_text took ++ newline))

-- a call that the device refused: its count of faults, and the bytes taken, where they are told
unfoldable pub fault_line : ℕ → Option ℕ → List ℕ
fault_line count took = codes "device-fault " ++ (decimal count ++ (took_text took ++ newline))

-- a word, and why there is nothing to give; a device's fault has a line of its own
unfoldable pub cause_line : List ℕ → Cause → List ℕ
cause_line word why = word ++ (codes " " ++ (cause_text why ++ newline))

-- a line of a word and a cause; a device's fault is the whole line
abbrev pub why_line : List ℕ → Cause → List ℕ
why_line word (cause.DeviceFault count) = fault_line count None
why_line word why = cause_line word why

-- a reader is closed
unfoldable pub done_line : List ℕ
done_line = codes "done" ++ newline

-- the switch was told which calls fail
unfoldable pub armed_line : List ℕ
armed_line = codes "armed" ++ newline

-- a bit was turned
unfoldable pub flipped_line : List ℕ
flipped_line = codes "flipped" ++ newline

-- the power was cut
unfoldable pub cut_line : List ℕ
cut_line = codes "cut" ++ newline

-- the line of an answer
abbrev pub answer_line : StepAnswer → List ℕ
answer_line (answer.Formatted serial cursor floor) = formatted_line serial cursor floor
answer_line (answer.Put put length fragments) = put_line put length fragments
answer_line (answer.Got put length bytes) = got_line put length bytes
answer_line (answer.Miss why) = why_line (codes "miss") why
answer_line (answer.Broken why) = why_line (codes "broken") why
answer_line (answer.Follow put) = number_line (codes "follow") put
answer_line (answer.Writer put) = number_line (codes "writer") put
answer_line (answer.Took count) = number_line (codes "took") count
answer_line (answer.Aborted put) = number_line (codes "aborted") put
answer_line (answer.Hit put length) = hit_line put length
answer_line (answer.Piece index length bytes) = piece_line index length bytes
answer_line (answer.End length) = number_line (codes "end") length
answer_line (answer.NotYet cut) = number_line (codes "notyet") cut
answer_line answer.Done = done_line
answer_line (answer.Removed put) = number_line (codes "removed") put
answer_line (answer.Absent why) = why_line (codes "absent") why
answer_line (answer.Flushed blocks cursor floor synced) = flushed_line blocks cursor floor synced
answer_line (answer.Now moment) = number_line (codes "now") moment
answer_line answer.Armed = armed_line
answer_line answer.Flipped = flipped_line
answer_line answer.Cut = cut_line
answer_line (answer.Refused why took) = refused_line why took
answer_line (answer.DeviceFault count took) = fault_line count took

-- ---- the last line of a run that ends early

-- what is wrong with the first word that does not fit
abbrev pub kind_word : BadKind → List ℕ
kind_word kind.Verb = codes "verb"
kind_word kind.Word = codes "word"
kind_word kind.Count = codes "count"
kind_word kind.Number = codes "number"
kind_word kind.Body = codes "body"
kind_word kind.Field = codes "field"

-- the words of the command are not `replay` alone, or one is not UTF-8
unfoldable pub usage_line : List ℕ
usage_line = codes "error usage" ++ newline

-- a line that is not in the grammar: its number and the column of the fault, both from 1, and what is wrong
unfoldable pub bad_script_line : ℕ → ℕ → BadKind → List ℕ
bad_script_line line column kind =
    codes "error bad-script line " ++ (decimal line ++ (codes " column " ++ (decimal column ++ (codes " " ++ (kind_word kind ++ newline)))))

-- the source of the script failed; at which line is not told
unfoldable pub read_fault_line : List ℕ
read_fault_line = codes "error read-fault" ++ newline

-- a device could not be attached; the line and the name are not told
unfoldable pub bay_fault_line : List ℕ
bay_fault_line = codes "error bay-fault" ++ newline

-- a line above 1,048,576 bytes, by its number from 1
unfoldable pub too_long_line : ℕ → List ℕ
too_long_line line = codes "error line-too-long line " ++ (decimal line ++ newline)

-- a byte stands behind line 16,777,216
unfoldable pub too_many_line : List ℕ
too_many_line = codes "error too-many-lines" ++ newline

-- a line, by its number from 1, that needs a session where nothing was formatted yet
unfoldable pub no_cache_line : ℕ → List ℕ
no_cache_line line = codes "error no-cache line " ++ (decimal line ++ newline)

-- the last line, by why the run ends; where the sink fails or memory is wanting there is none
abbrev pub last_line : LastLine → List ℕ
last_line last.Usage = usage_line
last_line (last.BadScript line fault) = bad_script_line line fault.column fault.kind
last_line last.ReadFault = read_fault_line
last_line last.BayFault = bay_fault_line
last_line (last.LineTooLong line) = too_long_line line
last_line last.TooManyLines = too_many_line
last_line (last.NoCache line) = no_cache_line line
