-- What a reader is given, and what is recorded.
use Rattle.std.specs.Prelude.{ℕ, ◌≡◌, ◌⊎◌, ◌+◌, IfSome, List, [], ◌∷◌, ◌++◌, Option, Some, None, length, option_map, take, unwrap_or, Result, Ok, IfOk, OnErr}
use Rattle.std.specs.declared.alloc.AllocError.{AllocError}
use Rattle.tape_base.specs.declared.digests.Digest.{Digest}
use Rattle.logged_disk.specs.Device.{TellsAll}
use Rattle.logged_disk.specs.declared.device.Disk.{Ghosts as DiskGhosts}
use Rattle.dir_table.specs.declared.directory.Directory.{Ghosts as DirectoryGhosts}
use Rattle.cache_chronicle.specs.declared.chronicle.Chronicle.{Ghosts as ChronicleGhosts}
use Rattle.fragment_table.specs.Table.{TableRow}
use Rattle.cyclone.specs.Cyclone.{Seen}
use Rattle.cache_model.specs.declared.answer.NextAnswer.{NextAnswer}
use Rattle.cache_model.specs.declared.answer.NextAnswer.TheVariants as next
use Rattle.cache_model.specs.declared.record.Rec.{Rec}
use Rattle.cache_model.specs.State.{Row, State, live_row_of}
use Rattle.cache_model.specs.Kept.{with_records}
use Rattle.cache_model.specs.Verdict.{cause_of_piece, digest_in, next_piece, next_row}
use Rattle.cache_model.specs.Permit.{Done, Permit, ReadOn}
use Rattle.cache_model.specs.Legal.{Does, IsAsListed, IsUnlike, answer_record, live_next}
use Rattle.cache_model.specs.Contents.{Contents}
use Rattle.piece_answers.specs.Covers.{AllReadIsSeen, Covers}
use Rattle.cache_model.specs.Given.{IsDocumentOf}
use Rattle.cache_model.specs.Troubles.{cause_records}
use Rattle.piece_answers.specs.Standing.{AreStanding}
use Rattle.held_pieces.specs.Still.{IsStill}
use Rattle.stripe_core.specs.declared.stripe.Stripe.{Stripe}
use Rattle.stripe_core.specs.Between.{Between, IsResting, Proceeds}
use Rattle.stripe_core.specs.Stripe.{kept_in, seen_in, state_in}
use Rattle.stripe_read.specs.declared.reader.Reader.{Reader}
use Rattle.cache_answers.specs.declared.answers.NextPiece.{NextPiece}
use Rattle.cache_answers.specs.declared.answers.NextPiece.TheVariants as piece
use Rattle.stripe_read.specs.Troubles.{TroubleIsCounted}
use Rattle.cache_calls.specs.Actors.{IsOpenReader, IsReaderOf, as_row}
use Rattle.cache_calls.specs.Readers.{read_adds, IsGivenAs, IsOtherNext, IsBehindAnswer}
use Rattle.cache_calls.specs.Standing.{GivesPayload}
use Rattle.stripe_read.specs.Readers.{reading_as}

-- the row of the fragment that it takes next has this length and this digest
pub record HasNext (s : State) (r : Reader) (length : ℕ) (digest : Digest) : Type 0 where
  pub row : TableRow
  pub found : next_row s (as_row (reading_as r)) ≡ Some row
  pub length_is : row.length ≡ length
  pub digest_is : digest_in row ≡ digest

-- ---- what it is given

-- the cause for which it breaks is that of the records, or the trouble with the live fragment, or how its put ended
abbrev pub BreakIsCounted : ℕ → State → Reader → NextPiece → Type 0
BreakIsCounted faults s r (piece.Broken why) =
    (why ≡ cause_of_piece s (next_piece (as_row (reading_as r)))) ⊎ TroubleIsCounted faults (live_next s (as_row (reading_as r))) why
BreakIsCounted faults s r _ = Unit {0}

-- what was read is what is seen, and in any step that covers the call: it was read on as asked, where the
-- reader has the fragments of the records; and what it is given, where the device tells its content as it is told
pub record ReadsOn (s : State) (old new : Seen) (r : Reader) (answer : NextPiece) (into : List ℕ) : Type 0 where
  pub seen : AllReadIsSeen old.device new.device
  pub contents : TellsAll new.device → (contents : Contents) → AreStanding contents s old → GivesPayload contents (live_next s (as_row (reading_as r))) (Ok answer) into
  pub does : (p : Permit) → Covers p old.device.past new.device.past → IsReaderOf s (reading_as r) → Does p s (ReadOn r.reader) (read_adds s (reading_as r) answer) Done
  pub gives : (p : Permit) → Covers p old.device.past new.device.past → IsGivenAs p s (reading_as r) answer into
  pub counted : BreakIsCounted new.device.faults s r answer

-- ---- what a stripe makes of it

module _ {D R C : Type 0} {d : DiskGhosts D} {r : DirectoryGhosts R} {c : ChronicleGhosts C} where
  -- what reading the next fragment comes to, for a reader that was so and is so then
  pub record ReadsNextInStripe (old new : Stripe D R C d r c) (was now : Reader) (result : Result NextPiece AllocError) (into : List ℕ) : Type 0 where
    pub resting : IsResting new
    pub proceeds : Proceeds old new
    pub unharmed : Between old new ⊎ IsOtherNext (state_in old) (reading_as was)
    pub adds : IfOk result (λ answer. kept_in new ≡ with_records (kept_in old) (read_adds (state_in old) (reading_as was) answer))
    pub reads : IfOk result (λ answer. ReadsOn (state_in old) (seen_in old) (seen_in new) was answer into)
    pub goes : IfOk result (λ answer. IsBehindAnswer (reading_as was) answer (reading_as now))
    pub reader : IsOpenReader (state_in new) (reading_as now)
    pub keeps : IsReaderOf (state_in old) (reading_as was) → IsReaderOf (state_in new) (reading_as now)
    pub err : OnErr result (kept_in new ≡ kept_in old)
    pub same : OnErr result (now ≡ was)
    pub untouched : OnErr result (IsStill (seen_in old).device (seen_in new).device)
