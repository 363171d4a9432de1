-- What writers are answered, and what then stands in the records.
use Rattle.std.specs.Prelude.{ℕ, ◌≡◌, ◌+◌, ◌<◌, ◌≤◌, ◌⊎◌, ◌==◌, true, false, if◌then◌else◌, List, [], ◌∷◌, ◌++◌, length, Result, Ok, Err, IfErr, MatchBool}
use Rattle.std.specs.List.{AllByRecursion}
use Rattle.tape_base.specs.declared.actors.Actor.{Actor}
use Rattle.tape_base.specs.declared.geometries.Geometry.{Geometry}
use Rattle.tape_base.specs.declared.keys.Key.{Key}
use Rattle.tape_base.specs.declared.pieces.PieceId.{PieceId}
use Rattle.tape_base.specs.Blocks.{blocks_of}
use Rattle.tape_base.specs.Digest.{digest_of}
use Rattle.tape_base.specs.Geometry.{budget_of}
use Rattle.fragment_table.specs.Table.{total_length}
use Rattle.alternate_vector.specs.Field.{Field}
use Rattle.alternate_vector.specs.Alternates.{Stored, vector_size}
use Rattle.cache_model.specs.declared.record.Rec.{Rec}
use Rattle.cache_model.specs.declared.record.Rec.TheVariants as rec
use Rattle.cache_model.specs.State.{State, after_all, fragment_piece, most_fragments}
use Rattle.cache_model.specs.Verdict.{cause_of_piece, cuts_of}
use Rattle.cache_model.specs.Legal.{is_writing, most_writers, open_writers, vector_length}
use Rattle.cache_model.specs.Permit.{Permit, Setting}
use Rattle.cache_model.specs.Room.{MayDisplace, has_room, limit, placed_record}
use Rattle.cache_model.specs.Limits.{ReachesLimit}
use Rattle.cache_model.specs.Live.{LiveBefore}
use Rattle.call_laws.specs.Moments.{At, Facts}
use Rattle.cache_answers.specs.declared.answers.Receipt.{Receipt}
use Rattle.cache_answers.specs.declared.answers.Refusal.{Refusal}
use Rattle.cache_answers.specs.declared.answers.Refusal.TheVariants as refusal
use Rattle.cache_calls.specs.Actors.{IsWriterOf, WriterSeen}
use Rattle.cache_model.specs.Subjects.{IsOfFlush}
use Rattle.cache_calls.specs.Adds.{AddsAll, AddsFault, AddsOnly, IsAsItWas}
use Rattle.cache_calls.specs.Keeping.{state_at}
use Rattle.cache_calls.specs.Asked.{fills_fragment, gathered_with, next_payload, rows_at_close, taken_of}

-- ---- a writer opens

-- fewer writers are open than may be, and a number is left
pub record HasNumber (s : State) : Type 0 where
  pub few : open_writers s < most_writers
  pub below : s.next_put + 1 < limit

-- the record of a writer that opens, which has the next number
abbrev pub opened_writer_record : State → Actor → Key → List Field → List Field → ℕ → Rec
opened_writer_record s who key request response pin = rec.WriteOpened who s.next_put key request response pin

-- a put has begun, and this is its writer
pub record HasBegun (old new : At) (opened : Rec) (w : WriterSeen) : Type 0 where
  pub adds : AddsAll (opened ∷ []) old new
  pub put : w.put ≡ (state_at old).next_put
  pub empty : w.gathered ≡ []
  pub unsealed : w.sealed ≡ false
  pub writer : IsWriterOf (state_at new) w

-- why none has
abbrev pub OpensNone : State → Refusal → Type 0
OpensNone s refusal.TooManyWriters = most_writers ≤ open_writers s
OpensNone s (refusal.Exhausted number) = (number ≡ s.next_put + 1) × (limit ≤ number)
OpensNone s (refusal.Memory e) = HasNumber s
OpensNone s _ = ⊥

-- what came of the opening of a writer; the device was asked for nothing
abbrev pub OpensAs : {W : Type 0} → (W → WriterSeen) → (old new : At) → Rec → Result W Refusal → Type 0
OpensAs seen old new opened (Ok w) = HasBegun old new opened (seen w)
OpensAs seen old new opened (Err why) = IsAsItWas old new × OpensNone (state_at old) why

pub record OpensWriter {W : Type 0} (seen : W → WriterSeen) (old new : At) (opened : Rec) (result : Result W Refusal) : Type 0 where
  pub answers : OpensAs seen old new opened result
  pub still : new.device ≡ old.device

-- a call that stops at the limit, when a piece of so many bytes was to be placed, tells that number
abbrev pub StopsAtLimit : State → ℕ → Refusal → Type 0
StopsAtLimit t bytes (refusal.Exhausted number) = ReachesLimit t bytes number
StopsAtLimit t bytes _ = Unit {0}

-- ---- a writer takes bytes

-- the put is open, and its writer takes bytes
abbrev pub IsTaking : State → WriterSeen → Type 0
IsTaking s w = (is_writing s w.put ≡ true) × (w.sealed ≡ false)

-- with these bytes the next fragment has gathered, and there may be one more
pub record IsCutting (s : State) (w : WriterSeen) (bytes : List ℕ) : Type 0 where
  pub taking : IsTaking s w
  pub few : length w.cuts < most_fragments
  pub full : fills_fragment s.geometry w (taken_of s.geometry w bytes) ≡ true

-- the piece that is cut next
abbrev pub piece_cut_next : WriterSeen → PieceId
piece_cut_next w = fragment_piece w.key w.put (length w.cuts + 1)

-- what the entry of a piece displaces, in each step of such a cache
abbrev pub IsPushedOut : Setting → State → PieceId → List Rec → Type 0
IsPushedOut setting s id displaced = (p : Permit) → p.packed ≡ setting.packed → MayDisplace p s id displaced

-- the records of these bytes as the next fragment, which has room, with those of what its entry displaces
abbrev pub fragment_records : State → WriterSeen → List ℕ → (displaced : List Rec) → List Rec
fragment_records s w payload displaced =
    rec.Cut w.put (length w.cuts + 1) (length payload) (digest_of payload)
    ∷ (displaced ++ placed_record s (piece_cut_next w) w.pin (total_length w.cuts) (length payload) payload ∷ [])

-- they are cut and placed, behind the flush for which there was need
pub record CutsAs (old new : At) (w : WriterSeen) (payload : List ℕ) : Type 0 where
  pub room : List Rec
  pub displaced : List Rec
  pub kinds : AllByRecursion IsOfFlush room
  pub none : has_room (state_at old) (length payload) ≡ true → room ≡ []
  pub live : LiveBefore (state_at old) (after_all (state_at old) room)
  pub pushed : IsPushedOut old.setting (after_all (state_at old) room) (piece_cut_next w) displaced
  pub adds : AddsAll (room ++ fragment_records (after_all (state_at old) room) w payload displaced) old new

-- the device stopped a call, or the limit did: records of a flush alone
pub record StopsAs (old new : At) : Type 0 where
  pub flush : AddsOnly IsOfFlush old new
  pub live : LiveBefore (state_at old) (state_at new)

-- the device refused a call, which is recorded: its count then is told
pub record StopsByFault (count : ℕ) (old new : At) : Type 0 where
  pub count_is : count ≡ new.device.faults
  pub told : AddsFault count old new
  pub stops : StopsAs old new

-- so many bytes were taken: up to the next cut
pub record TakesBytes (old new : At) (w : WriterSeen) (bytes : List ℕ) (n : ℕ) : Type 0 where
  pub taking : IsTaking (state_at old) w
  pub count : n ≡ taken_of (state_at old).geometry w bytes
  pub few : 0 < length bytes → length w.cuts < most_fragments
  pub cuts : MatchBool (fills_fragment (state_at old).geometry w n) (CutsAs old new w (gathered_with w bytes n)) (IsAsItWas old new)

-- when each answer comes, and which records there are then
abbrev pub Writes : (old new : At) → WriterSeen → List ℕ → Result ℕ Refusal → Type 0
Writes old new w bytes (Ok n) = TakesBytes old new w bytes n
Writes old new w bytes (Err refusal.NoSuchWriter) = (is_writing (state_at old) w.put ≡ false) × IsAsItWas old new
Writes old new w bytes (Err refusal.Sealed) = (is_writing (state_at old) w.put ≡ true) × (w.sealed ≡ true) × IsAsItWas old new
Writes old new w bytes (Err refusal.TooManyFragments) =
    IsTaking (state_at old) w × (0 < length bytes) × (length w.cuts ≡ most_fragments) × AddsAll (rec.Aborted w.put w.key ∷ []) old new
Writes old new w bytes (Err (refusal.DeviceFault count)) =
    IsCutting (state_at old) w bytes × (has_room (state_at old) (length (next_payload (state_at old) w bytes)) ≡ false)
    × StopsByFault count old new
Writes old new w bytes (Err (refusal.Exhausted number)) =
    IsCutting (state_at old) w bytes × ReachesLimit (state_at new) (state_at old).geometry.fragment number × StopsAs old new
Writes old new w bytes (Err (refusal.Memory e)) = IsTaking (state_at old) w × IsAsItWas old new
Writes old new w bytes (Err _) = ⊥

-- a writer of the same put, behind the bytes that it took: none stay gathered behind a cut
pub record HasTaken (g : Geometry) (old : WriterSeen) (bytes : List ℕ) (n : ℕ) (new : WriterSeen) : Type 0 where
  pub put : new.put ≡ old.put
  pub gathered : new.gathered ≡ (if fills_fragment g old n then [] else gathered_with old bytes n)
  pub sealed : new.sealed ≡ old.sealed

-- behind a refusal it is as it was
abbrev pub GoesOnWriting : Geometry → (old : WriterSeen) → List ℕ → Result ℕ Refusal → (new : WriterSeen) → Type 0
GoesOnWriting g old bytes (Ok n) new = HasTaken g old bytes n new
GoesOnWriting g old bytes (Err why) new = new ≡ old

-- it is the writer of the records, gone on so
pub record WriterGoesOn (old : WriterSeen) (bytes : List ℕ) (result : Result ℕ Refusal) (s t : State) (new : WriterSeen) : Type 0 where
  pub goes : GoesOnWriting s.geometry old bytes result new
  pub writer : IsWriterOf t new

-- ---- a writer closes

-- the put is complete, of so many bytes and fragments
pub record TellsComplete (w : WriterSeen) (receipt : Receipt) : Type 0 where
  pub put : receipt.put ≡ w.put
  pub bytes : receipt.length ≡ total_length (rows_at_close w)
  pub fragments : receipt.fragments ≡ length (rows_at_close w)

-- the alternate that a put stands for when it closes
abbrev pub alternate_at_close : WriterSeen → Stored
alternate_at_close w = record {
  put = w.put;
  pin = w.pin;
  length = total_length (rows_at_close w);
  request = w.request;
  response = w.response;
  table = rows_at_close w;
}

-- the bytes of a vector of that alternate alone
abbrev pub size_at_close : WriterSeen → ℕ
size_at_close w = vector_size (alternate_at_close w ∷ [])

-- how each answer of an open put comes
abbrev pub ClosesOpen : (old new : At) → WriterSeen → Result Receipt Refusal → Type 0
ClosesOpen old new w (Ok receipt) = TellsComplete w receipt
ClosesOpen old new w (Err (refusal.VectorTooLarge bytes)) = (bytes ≡ size_at_close w) × (budget_of (state_at old).geometry < blocks_of bytes)
ClosesOpen old new w (Err (refusal.Lost index why)) = why ≡ cause_of_piece (state_at new) (fragment_piece w.key w.put index)
ClosesOpen old new w (Err (refusal.DeviceFault count)) = AddsFault count old new
ClosesOpen old new w (Err (refusal.Exhausted number)) = limit ≤ number
ClosesOpen old new w (Err (refusal.Memory e)) = Unit {0}
ClosesOpen old new w (Err _) = ⊥

-- the put was open; or it was not, and nothing was done
abbrev pub Closes : (old new : At) → WriterSeen → Result Receipt Refusal → Type 0
Closes old new w (Err refusal.NoSuchWriter) = (is_writing (state_at old) w.put ≡ false) × IsAsItWas old new
Closes old new w result = (is_writing (state_at old) w.put ≡ true) × ClosesOpen old new w result

-- how many bytes the piece has that is placed next: the vector, once all is cut, and else the rest
abbrev pub bytes_next : State → WriterSeen → ℕ
bytes_next t w = if length (cuts_of t w.put) == length (rows_at_close w) then vector_length t w.put else length w.gathered

-- at the end of the tape the number is that of this piece: known behind a close where no pair is shown
abbrev pub NumberAtClose : WriterSeen → Result Receipt Refusal → Facts
NumberAtClose w result t = IfErr result (StopsAtLimit t (bytes_next t w))

-- a writer that the device or the end of the tape refused takes no more bytes; for want of memory it is as before
abbrev pub SealsWhere : (old new : WriterSeen) → Result Receipt Refusal → Type 0
SealsWhere old new (Err (refusal.DeviceFault count)) = new.sealed ≡ true
SealsWhere old new (Err (refusal.Exhausted number)) = new.sealed ≡ true
SealsWhere old new (Err (refusal.Memory e)) = new.sealed ≡ old.sealed
SealsWhere old new _ = Unit {0}

-- it has what it had gathered and cut
pub record KeepsRest (old new : WriterSeen) : Type 0 where
  pub put : new.put ≡ old.put
  pub gathered : new.gathered ≡ old.gathered
  pub cuts : new.cuts ≡ old.cuts

-- or what it had gathered is cut too
pub record CutsRest (old new : WriterSeen) : Type 0 where
  pub put : new.put ≡ old.put
  pub empty : new.gathered ≡ []
  pub cuts : new.cuts ≡ rows_at_close old

-- what a close made of the writer
pub record WriterCloses (old : WriterSeen) (result : Result Receipt Refusal) (t : State) (new : WriterSeen) : Type 0 where
  pub seals : SealsWhere old new result
  pub rested : KeepsRest old new ⊎ CutsRest old new
  pub writer : IsWriterOf t new

-- ---- a writer is given up

-- its put was open, and is given up, or memory is wanting; or it was not open
abbrev pub GivesUp : (old new : At) → WriterSeen → Result ℕ Refusal → Type 0
GivesUp old new w (Ok number) = (number ≡ w.put) × (is_writing (state_at old) w.put ≡ true) × AddsAll (rec.Aborted w.put w.key ∷ []) old new
GivesUp old new w (Err refusal.NoSuchWriter) = (is_writing (state_at old) w.put ≡ false) × IsAsItWas old new
GivesUp old new w (Err (refusal.Memory e)) = (is_writing (state_at old) w.put ≡ true) × IsAsItWas old new
GivesUp old new w (Err _) = ⊥
