-- No reader is at a fragment before the first, whatever records follow.
use Rattle.std.proofs.Common.{ℕ, ◌+◌, ◌<◌, List, [], ◌∷◌, arith, Bool, true, false}
use Rattle.std.specs.Prelude.{if◌then◌else◌, ◌==◌}
use Rattle.std.specs.List.{AllByRecursion}
use Rattle.cache_model.specs.declared.answer.ReadAnswer.{ReadAnswer}
use Rattle.cache_model.specs.declared.answer.ReadAnswer.TheVariants as read
use Rattle.cache_model.specs.declared.record.Rec.{Rec}
use Rattle.cache_model.specs.declared.record.Rec.TheVariants as rec
use Rattle.cache_model.specs.State.{ReaderRow, State, after_all, change_reader, opened_reader, state_after}
use Rattle.tape_base.specs.declared.keys.Key.{Key}
use Rattle.alternate_vector.specs.Field.{Field}
use Rattle.cache_model.proofs.Steps.{all_append}
use Rattle.script_run.specs.Run.{Run}
use Rattle.script_run.specs.Turn.{Turn}
use Rattle.script_run.specs.Takes.{IsRun, run_after}
use Rattle.script_run.proofs.Lift.{lines_keep}
use Rattle.script_run.proofs.Carried.{all_filter}
use Rattle.line_laws.specs.Along.{StandsWhere}
use Rattle.line_laws.proofs.Stands.{stands_kept}

abbrev pub IsPlaced : ReaderRow → Type 0
IsPlaced r = 0 < r.next

abbrev pub ArePlaced : State → Type 0
ArePlaced s = AllByRecursion IsPlaced s.readers

-- ---- records

opened_placed : (s : State) (reader actor : ℕ) (key : Key) (request : List Field) (answer : ReadAnswer) → AllByRecursion IsPlaced (opened_reader s reader actor key request answer)
opened_placed s reader actor key request (read.Hit put) = (omega arith, tt)
opened_placed s reader actor key request (read.Follow put) = (omega arith, tt)
opened_placed s reader actor key request (read.Miss why) = tt

moved_by : (r : ReaderRow) (index : ℕ) (b : Bool) → IsPlaced r → IsPlaced (if b then record r { next = index + 1 } else r)
moved_by r index true h = omega arith
moved_by r index false h = h

moved_placed : (reader index : ℕ) (readers : List ReaderRow) → AllByRecursion IsPlaced readers → AllByRecursion IsPlaced (change_reader reader (index + 1) readers)
moved_placed reader index [] h = tt
moved_placed reader index (r ∷ readers) h = (moved_by r index (r.reader == reader) h.0, moved_placed reader index readers h.1)

record_places : (s : State) (r : Rec) → ArePlaced s → ArePlaced (state_after s r)
record_places s (rec.Formatted geometry) h = tt
record_places s (rec.Opened geometry serial cursor floor next_put clean list) h = tt
record_places s (rec.ReadOpened reader actor key request answer) h =
    all_append IsPlaced (opened_reader s reader actor.0 key request answer) s.readers (opened_placed s reader actor.0 key request answer) h
record_places s (rec.Gave reader index length) h = moved_placed reader index s.readers h
record_places s (rec.ReadClosed reader) h = all_filter IsPlaced _ s.readers h
record_places s _ h = h

pub records_place : (s : State) (recs : List Rec) → ArePlaced s → ArePlaced (after_all s recs)
records_place s [] h = h
records_place s (r ∷ recs) h = records_place (state_after s r) recs (record_places s r h)

-- ---- lines

abbrev pub PlacedIn : Run → Type 0
PlacedIn run = StandsWhere (λ x s. ArePlaced s) run run.state

pub lines_place : (lines : List (List ℕ)) (turns : List Turn) (run : Run) → IsRun run lines turns → PlacedIn run → PlacedIn (run_after run lines turns)
lines_place = lines_keep PlacedIn (stands_kept (λ x s. ArePlaced s) (λ run at s h. h) (λ run s turn asks takes h. records_place s turn.added h) (λ run name calls g. tt))
