-- Where a piece goes: the flush that it needs before it, what its entry displaces, and the records of its place.
use Rattle.std.specs.Prelude.{ℕ, ◌≡◌, ◌+◌, ◌<◌, ◌≤◌, Bool, false, true, if◌then◌else◌, List, [], ◌∷◌, ◌++◌, length, None, Result, Ok, Err, IfErr, MatchBool, OnErr, OnOk}
use Rattle.tape_base.specs.declared.pieces.PieceId.{PieceId}
use Rattle.tape_base.specs.declared.digests.Digest.{Digest}
use Rattle.tape_base.specs.Blocks.{blocks_of}
use Rattle.tape_base.specs.Digest.{digest_of}
use Rattle.tape_base.specs.Geometry.{budget_of}
use Rattle.tape_base.specs.Piece.{is_vector}
use Rattle.fragment_table.specs.Table.{total_length}
use Rattle.cache_model.specs.declared.record.Rec.{Rec}
use Rattle.cache_model.specs.declared.record.Rec.TheVariants as rec
use Rattle.device_log.specs.Calls.{Call}
use Rattle.logged_disk.specs.Device.{DeviceState as Device, TellsAll}
use Rattle.cache_model.specs.State.{PutRow, State, after_all, list_of_put, place_now, row_of, vector_piece}
use Rattle.cache_model.specs.Kept.{Kept, state_of, with_records}
use Rattle.cache_model.specs.Verdict.{cuts_of}
use Rattle.cache_model.specs.Permit.{Done, End, Finish, Fragment, Permit, Stays}
use Rattle.cache_model.specs.Given.{effects_told}
use Rattle.cache_model.specs.Room.{greatest_pin, has_room, limit, placed_record}
use Rattle.cache_model.specs.Legal.{AreLiveTo, Does, IsCut, IsNext, IsWriting, MakesRoom, next_fragment_of, vector_length, vector_payload}
use Rattle.piece_answers.specs.declared.answer.Placed.{Placed}
use Rattle.piece_answers.specs.declared.answer.Stop.{Stop}
use Rattle.piece_answers.specs.declared.answer.Stop.TheVariants as stop
use Rattle.cache_model.specs.Displacing.{PushesOut}
use Rattle.piece_answers.specs.Faults.{HasEffects}
use Rattle.piece_answers.specs.Covers.{Covers, SpendsFirst}
use Rattle.cache_model.specs.Damage.{TellNoDamage}
use Rattle.cache_model.specs.Limits.{ReachesLimit}
use Rattle.cache_model.specs.Live.{LiveBefore}
use Rattle.piece_answers.specs.Flush.{AreOfFlush, StopsWith, stop_end}

-- ---- room

-- room is made: by a flush, where there is none
abbrev pub RoomIsMade : Permit → State → ℕ → List Rec → Result (Unit {0}) Stop → Type 0
RoomIsMade p s bytes added (Ok u) = MatchBool (has_room s bytes) (added ≡ []) (MakesRoom p s bytes added Stays)
RoomIsMade p s bytes added (Err why) = MakesRoom p s bytes added (stop_end why)

-- as `FlushesAsAsked`, of the flush that a piece of so many bytes needs
pub record RoomsAsAsked (now : ℕ) (old new : Kept) (before : List Call) (after : Device) (bytes : ℕ) (result : Result (Unit {0}) Stop) : Type 0 where
  pub added : List Rec
  pub adds : new ≡ with_records old added
  pub kinds : AreOfFlush added
  pub live : LiveBefore (state_of old) (state_of new)
  pub unharmed : TellsAll after → TellNoDamage added
  pub faults : HasEffects before after.past (effects_told added)
  pub does : (p : Permit) → p.now ≡ now → Covers p before after.past → RoomIsMade p (state_of old) bytes added result

-- what is answered then, between these two states: room is there, or there was none
pub record AnswersRoom (s t : State) (faults bytes : ℕ) (result : Result (Unit {0}) Stop) : Type 0 where
  pub room : OnOk result (has_room t bytes ≡ true)
  pub full : OnErr result (has_room s bytes ≡ false)
  pub stops : IfErr result (StopsWith s faults)

-- ---- a piece that has room

-- that a fragment was cut
abbrev pub cut_record_of : PieceId → ℕ → Digest → List Rec
cut_record_of id length digest = if is_vector id then [] else rec.Cut id.put id.index length digest ∷ []

-- that a fragment of these bytes was cut; a vector is none
abbrev pub cut_records : PieceId → List ℕ → List Rec
cut_records id payload = cut_record_of id (length payload) (digest_of payload)

-- the records of a piece that is placed: of a fragment, that it was cut; then what its entry displaces, and its place
pub record AreOfPlace (packed : Bool) (s : State) (id : PieceId) (pin start : ℕ) (payload : List ℕ) (added : List Rec) : Type 0 where
  pub displaced : List Rec
  pub pushed : PushesOut packed s id displaced
  pub is : added ≡ cut_records id payload ++ (displaced ++ placed_record s id pin start (length payload) payload ∷ [])

-- the place behind the piece
abbrev pub end_of : State → List ℕ → ℕ
end_of s payload = place_now s + blocks_of (length payload)

-- what is recorded of a piece that had room: nothing where it would end at the limit
abbrev pub PlaceAdds : Bool → State → PieceId → ℕ → ℕ → List ℕ → Result Placed Stop → List Rec → Type 0
PlaceAdds packed s id pin start payload (Ok placed) added = AreOfPlace packed s id pin start payload added
PlaceAdds packed s id pin start payload (Err why) added = added ≡ []

-- the piece stands behind those before it, or would end at the limit
abbrev pub PlacesAt : State → List ℕ → Result Placed Stop → Type 0
PlacesAt s payload (Ok placed) = (placed.place ≡ place_now s) × (placed.payload ≡ digest_of payload) × (end_of s payload < limit)
PlacesAt s payload (Err (stop.Exhausted number)) = (number ≡ end_of s payload) × (limit ≤ number)
PlacesAt s payload (Err (stop.DeviceFault count)) = ⊥

-- a piece is placed
pub record PutsIn (packed : Bool) (old new : Kept) (id : PieceId) (pin start : ℕ) (payload : List ℕ) : Type 0 where
  pub added : List Rec
  pub adds : new ≡ with_records old added
  pub are : AreOfPlace packed (state_of old) id pin start payload added

-- what came of a piece that had room
pub record PlacesIn (packed : Bool) (old new : Kept) (id : PieceId) (pin start : ℕ) (payload : List ℕ) (result : Result Placed Stop) : Type 0 where
  pub added : List Rec
  pub adds : new ≡ with_records old added
  pub are : PlaceAdds packed (state_of old) id pin start payload result added
  pub at : PlacesAt (state_of old) payload result

-- the piece is placed, or the tape stopped it
abbrev pub place_end : Result Placed Stop → End
place_end (Ok placed) = Done
place_end (Err why) = stop_end why

-- a piece that is new and small
pub record IsNewPiece (s : State) (id : PieceId) (payload : List ℕ) : Type 0 where
  pub nowhere : row_of s id ≡ None
  pub small : blocks_of (length payload) ≤ budget_of s.geometry

-- and one for which there is room
pub record HasBufferRoom (s : State) (id : PieceId) (payload : List ℕ) : Type 0 where
  pub new : IsNewPiece s id payload
  pub room : has_room s (length payload) ≡ true

-- ---- a fragment

-- the next fragment of an open put
pub record IsFragmentOf (s : State) (id : PieceId) (pin start : ℕ) (payload : List ℕ) : Type 0 where
  pub w : PutRow
  pub next : IsNext s id.put id.index payload w
  pub id_is : id ≡ next_fragment_of w
  pub pin_is : pin ≡ w.pin
  pub start_is : start ≡ total_length w.cuts

-- what is recorded of a fragment that was placed: the flush that it may need, the cut, what its entry displaces, and the place
pub record IsCutAs (packed : Bool) (s : State) (id : PieceId) (pin start : ℕ) (payload : List ℕ) (added : List Rec) (placed : Placed) : Type 0 where
  pub room : List Rec
  pub piece : List Rec
  pub kinds : AreOfFlush room
  pub none : has_room s (length payload) ≡ true → room ≡ []
  pub live : LiveBefore s (after_all s room)
  pub are : AreOfPlace packed (after_all s room) id pin start payload piece
  pub is : added ≡ room ++ piece
  pub place : placed.place ≡ place_now (after_all s room)
  pub payload_is : placed.payload ≡ digest_of payload

-- why a fragment was not placed, with its number, behind the flush that it may have needed
abbrev pub FragmentStopsBehind : State → State → ℕ → ℕ → Stop → Type 0
FragmentStopsBehind s t faults bytes (stop.DeviceFault count) = (count ≡ faults) × (has_room s bytes ≡ false)
FragmentStopsBehind s t faults bytes (stop.Exhausted number) = ReachesLimit t bytes number

-- what is recorded then: that flush alone
pub record IsStoppedAs (s : State) (faults : ℕ) (payload : List ℕ) (added : List Rec) (why : Stop) : Type 0 where
  pub kinds : AreOfFlush added
  pub live : LiveBefore s (after_all s added)
  pub why_is : FragmentStopsBehind s (after_all s added) faults (length payload) why

-- what is recorded of a fragment, placed or stopped
abbrev pub IsCutOrStoppedAs : Bool → State → ℕ → PieceId → ℕ → ℕ → List ℕ → List Rec → Result Placed Stop → Type 0
IsCutOrStoppedAs packed s faults id pin start payload added (Ok placed) = IsCutAs packed s id pin start payload added placed
IsCutOrStoppedAs packed s faults id pin start payload added (Err why) = IsStoppedAs s faults payload added why

-- as `FlushesAsAsked`, of a fragment that is cut
pub record CutsAsAsked (packed : Bool) (now : ℕ) (old new : Kept) (before : List Call) (after : Device) (id : PieceId) (pin start : ℕ) (payload : List ℕ) (result : Result Placed Stop) : Type 0 where
  pub added : List Rec
  pub adds : new ≡ with_records old added
  pub shape : IsCutOrStoppedAs packed (state_of old) after.faults id pin start payload added result
  pub unharmed : TellsAll after → TellNoDamage added
  pub faults : HasEffects before after.past (effects_told added)
  pub does : (p : Permit) → p.packed ≡ packed → p.now ≡ now → Covers p before after.past
      → SpendsFirst p (state_of old) (Fragment id.put id.index payload) added (place_end result)

-- ---- a vector

-- the vector of an open put, which is small, and there is room for it
pub record IsVectorFor (s : State) (id : PieceId) (start : ℕ) (payload : List ℕ) : Type 0 where
  pub w : PutRow
  pub writing : IsWriting s id.put w
  pub id_is : id ≡ vector_piece w.key id.put
  pub start_is : start ≡ 0
  pub small : blocks_of (length payload) ≤ budget_of s.geometry
  pub room : has_room s (length payload) ≡ true

-- the vector of a put whose fragments are all cut and live: it spells what the put's vector lists
pub record IsVectorOf (s : State) (id : PieceId) (pin start : ℕ) (payload : List ℕ) : Type 0 where
  pub w : PutRow
  pub cut : IsCut s id.put (length w.cuts) w
  pub whole : AreLiveTo s w (length w.cuts)
  pub id_is : id ≡ vector_piece w.key id.put
  pub pin_is : pin ≡ greatest_pin (list_of_put s id.put)
  pub start_is : start ≡ 0
  pub payload_is : payload ≡ vector_payload s id.put
  pub length_is : length payload ≡ vector_length s id.put
  pub room : has_room s (length payload) ≡ true

-- the records of such a vector finish the put
abbrev pub FinishesAsAsked : Bool → State → List Call → List Call → PieceId → ℕ → ℕ → List ℕ → ℕ → List Rec → Result Placed Stop → Type 0
FinishesAsAsked packed s before after id pin start payload fragments added result = IsVectorOf s id pin start payload
    → (p : Permit) → p.packed ≡ packed → Covers p before after → Does p s (Finish id.put fragments) added (place_end result)

-- ---- a piece of either kind

-- the piece may be placed: it is a vector that has room, or the next fragment
abbrev pub IsPlacing : State → PieceId → ℕ → ℕ → List ℕ → Type 0
IsPlacing s id pin start payload = MatchBool (is_vector id) (IsVectorFor s id start payload) (IsFragmentOf s id pin start payload)

-- as `CutsAsAsked`, of a vector, which needs no flush
pub record PlacesVector (packed : Bool) (old new : Kept) (before after : List Call) (id : PieceId) (pin start : ℕ) (payload : List ℕ) (result : Result Placed Stop) : Type 0 where
  pub places : PlacesIn packed old new id pin start payload result
  pub does : FinishesAsAsked packed (state_of old) before after id pin start payload (length (cuts_of (state_of old) id.put)) places.added result

-- as `PlacesVector` of a vector, and as `CutsAsAsked` of a fragment
abbrev pub PlacesAsAsked : Bool → ℕ → Kept → Kept → List Call → Device → PieceId → ℕ → ℕ → List ℕ → Result Placed Stop → Type 0
PlacesAsAsked packed now old new before after id pin start payload result = MatchBool (is_vector id)
    (PlacesVector packed old new before after.past id pin start payload result) (CutsAsAsked packed now old new before after id pin start payload result)
