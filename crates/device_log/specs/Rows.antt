-- How the calls of a device stand as rows.
use Rattle.std.specs.Prelude.{ℕ, ◌==◌, if◌then◌else◌, List, [], ◌∷◌, slice_index}
use Rattle.device_log.specs.declared.choice.CutChoice.{CutChoice}
use Rattle.device_log.specs.declared.choice.CutChoice.TheVariants.{Lost, Kept, Torn, Junk}
use Rattle.device_log.specs.Row.{CallRow}
use Rattle.device_log.specs.Image.{blank, span}
use Rattle.device_log.specs.Calls.{ToRead, ToWrite, ToSync, Fail, StopAfter, Call, Read, Wrote, Synced, RefusedCall, Told, PowerCut, Flipped}
use Rattle.device_log.specs.Cuts.{left_by}

-- the number of a kind of cut
abbrev pub number_of : CutChoice → ℕ
number_of Lost = 0
number_of Kept = 1
number_of Torn = 2
number_of Junk = 3

-- the kind of cut of that number
abbrev pub choice_of : ℕ → CutChoice
choice_of n = if n == 0 then Lost else (if n == 1 then Kept else (if n == 2 then Torn else Junk))

-- The call of a row, by its first number. Of a cut the rows before tell what it left, on a device
-- of so many blocks that was blank at first.
abbrev pub call_of : List ℕ → List ℕ → List Call → Call
call_of numbers bytes older =
    let kind = slice_index numbers 0 in
    let at = slice_index numbers 1 in
    let more = slice_index numbers 2 in
    if kind == 0 then Read at bytes
    else (if kind == 1 then Wrote at bytes
    else (if kind == 2 then Synced
    else (if kind == 3 then RefusedCall (ToRead at more) (slice_index numbers 3)
    else (if kind == 4 then RefusedCall (ToWrite at more bytes) (slice_index numbers 3)
    else (if kind == 5 then RefusedCall ToSync at
    else (if kind == 6 then Told (Fail at)
    else (if kind == 7 then Told (StopAfter at)
    else (if kind == 8 then
    PowerCut (choice_of at) (span (left_by (choice_of at) blank older) 0 more)
    else Flipped at more))))))))

-- the calls of rows, both the newest first
unfoldable pub calls_of_rows : List CallRow → List Call
calls_of_rows [] = []
calls_of_rows (row ∷ rows) = call_of row.0 row.1 (calls_of_rows rows) ∷ calls_of_rows rows
