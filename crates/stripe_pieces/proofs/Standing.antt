-- What is told of pieces goes on to stand: where the device goes on, where pieces go, where one is placed or copied, and where the
-- next buffer begins.
use Rattle.std.proofs.Common.{◌≡◌, ℕ, ◌+◌, ◌≤◌, List, [], ◌∷◌, refl, sym, ◌∙◌, ap, subst, arith, Bool, length}
use Rattle.std.specs.List.{AllByRecursion}
use Rattle.tape_base.specs.declared.keys.Key.{Key}
use Rattle.tape_base.specs.declared.pieces.PieceId.{PieceId}
use Rattle.tape_base.specs.declared.digests.Digest.{Digest}
use Rattle.tape_base.specs.Place.{block_of}
use Rattle.device_log.specs.Image.{Image, SameBut}
use Rattle.logged_disk.specs.Device.{DeviceState as Device, TellsAll, seen as content_of}
use Rattle.logged_disk.proofs.GoingOn.{told_before}
use Rattle.agg_buffer.specs.Buffer.{Buffer, bytes_at}
use Rattle.cyclone.specs.Cyclone.{BeginsNext, SameButRoom, SameButRows, Seen}
use Rattle.tape_base.specs.declared.geometries.Geometry.{Geometry}
use Rattle.alternate_vector.specs.Alternates.{Stored}
use Rattle.cache_model.specs.declared.record.Rec.TheVariants as rec
use Rattle.cache_model.specs.State.{Row, State, after_all, cursor_next, floor_next, last_vector, nothing_yet, place_now, state_after}
use Rattle.cache_model.specs.Tape.{AreRising}
use Rattle.cache_model.specs.Legal.{format_records}
use Rattle.cache_model.specs.Contents.{Contents, IsRecordedAs}
use Rattle.held_pieces.specs.Held.{IsBufferedWhereNew, IsHeld, IsIntactWhereWritten}
use Rattle.held_pieces.specs.Records.{IsAlike, IsWithout, IsWrittenOut, SparesPieces}
use Rattle.piece_answers.specs.Standing.{AreStanding, HasContent, StandsInBuffer, StandsOnDevice}
use Rattle.held_pieces.proofs.Beginning.{next_behind, none_new, was_intact}
use Rattle.held_pieces.proofs.Going.{all_left, spared_places}
use Rattle.held_pieces.proofs.Holding.{next_is}
use Rattle.held_pieces.proofs.Intact.{span_stays}
use Rattle.held_pieces.proofs.Takings.{all_committed, damaged_without}

-- ---- the device goes on

-- what stands on the device stands on one that changes no more than where the buffer is written
each_stays : (contents : Contents) (s : State) (filled : ℕ) (old new : Image) (rows : List Row) → filled ≤ s.geometry.agg
    → SameBut (block_of s.geometry s.cursor) filled old new → AllByRecursion (IsIntactWhereWritten s old) rows
    → AllByRecursion (StandsOnDevice contents s old) rows → AllByRecursion (StandsOnDevice contents s new) rows
each_stays contents s filled old new [] few same intact stands = tt
each_stays contents s filled old new (row ∷ rows) few same intact stands = (
  λ low below.
      subst (HasContent contents s.geometry row) (sym (span_stays s filled old new row few same low (intact.0 low below).ends))
      (stands.0 low below),
  each_stays contents s filled old new rows few same intact.1 stands.1,
)

-- one that shows what it showed, but where the buffer is written
pub standing_on : (contents : Contents) (s : State) (c new : Seen) → IsHeld s c → new.geometry ≡ c.geometry → new.buffer ≡ c.buffer → SparesPieces c new.device
    → AreStanding contents s c → AreStanding contents s new
standing_on contents s c new held geometry buffer spares stands = record {
  buffered = λ told.
      subst (λ b. AllByRecursion (StandsInBuffer contents s.geometry b) s.rows) (sym buffer)
      (stands.buffered (told_before c.device new.device spares.goes told));
  written = λ told.
      let before : TellsAll c.device = told_before c.device new.device spares.goes told in
      each_stays contents s s.filled (content_of c.device) (content_of new.device) s.rows held.sound.room
      (spared_places s c new.device held spares) (held.intact before) (stands.written before);
  recorded = λ told. stands.recorded (told_before c.device new.device spares.goes told);
}

-- so does one that makes room
pub standing_grown : (contents : Contents) (s : State) (c new : Seen) → IsHeld s c → SameButRoom c new → SparesPieces c new.device
    → AreStanding contents s c → AreStanding contents s new
standing_grown contents s c new held same spares stands =
    standing_on contents s c new held (ap (λ (y : Seen). y.geometry) same.same) (ap (λ (y : Seen). y.buffer) same.same) spares stands

-- ---- pieces go

-- records that leave the tape and the pieces
pub standing_still : (contents : Contents) (s t : State) (c : Seen) → t.geometry ≡ s.geometry → t.cursor ≡ s.cursor → t.least ≡ s.least
    → t.rows ≡ s.rows → AreStanding contents s c → AreStanding contents t c
standing_still contents s t c geometry cursor least rows stands = record {
  buffered = rw (geometry, rows) stands.buffered;
  written = rw (geometry, cursor, least, rows) stands.written;
  recorded = rw (geometry, rows) stands.recorded;
}

-- that a piece is not saved
pub standing_unsaved : (contents : Contents) (s : State) (c : Seen) (piece : PieceId) (place : ℕ) (fault : Bool) → AreStanding contents s c
    → AreStanding contents (state_after s (rec.Unsaved piece place fault)) c
standing_unsaved contents s c piece place fault stands =
    standing_still contents s (state_after s (rec.Unsaved piece place fault)) c refl refl refl refl stands

-- that the device refused a call
pub standing_fault : (contents : Contents) (s : State) (c : Seen) (count : ℕ) → AreStanding contents s c
    → AreStanding contents (state_after s (rec.Fault count)) c
standing_fault contents s c count stands =
    standing_still contents s (state_after s (rec.Fault count)) c refl refl refl refl stands

-- records that leave the tape, and a cyclone that changes in its rows alone, where all that is left was there
pub standing_left : (contents : Contents) (s t : State) (c new : Seen) → t.geometry ≡ s.geometry → t.cursor ≡ s.cursor → t.least ≡ s.least
    → ((P : Row → Type 0) → AllByRecursion P s.rows → AllByRecursion P t.rows) → SameButRows c new → AreStanding contents s c
    → AreStanding contents t new
standing_left contents s t c new geometry cursor least left same stands = record {
  buffered = rw (geometry, ap (λ (y : Seen). y.buffer) same.same, ap (λ (y : Seen). y.device) same.same)
      (λ told. left (StandsInBuffer contents s.geometry c.buffer) (stands.buffered told));
  written = rw (geometry, cursor, least, ap (λ (y : Seen). y.device) same.same)
      (λ told. left (StandsOnDevice contents s (content_of c.device)) (stands.written told));
  recorded = rw (geometry, ap (λ (y : Seen). y.device) same.same)
      (λ told. left (IsRecordedAs contents s.geometry) (stands.recorded told));
}

-- records that leave the pieces, and a cyclone that changes in its rows alone
pub standing_alike : (contents : Contents) (s t : State) (c new : Seen) → IsAlike s t → SameButRows c new → AreStanding contents s c → AreStanding contents t new
standing_alike contents s t c new alike same stands =
    standing_left contents s t c new alike.geometry alike.cursor alike.least
    (λ P all. subst (AllByRecursion P) (sym alike.rows) all) same stands

-- records that take one of them out
pub standing_without : (contents : Contents) (s t : State) (c new : Seen) (id : PieceId) → IsWithout s t id → SameButRows c new → AreStanding contents s c
    → AreStanding contents t new
standing_without contents s t c new id gone same stands =
    standing_left contents s t c new gone.geometry gone.cursor gone.least
    (λ P all. subst (AllByRecursion P) (sym gone.rows) (all_left P id s.rows all)) same stands

-- that a piece is damaged
pub standing_damaged : (contents : Contents) (s : State) (c new : Seen) (id : PieceId) (place : ℕ) (kept other : Digest) → IsHeld s c
    → SameButRows c new → AreStanding contents s c → AreStanding contents (state_after s (rec.Damaged id place kept other)) new
standing_damaged contents s c new id place kept other held same stands =
    standing_without contents s (state_after s (rec.Damaged id place kept other)) c new id
    (damaged_without s id place kept other held.sound) same stands

-- that a put is complete, whose key's vector before it goes
pub standing_committed : (contents : Contents) (s : State) (c new : Seen) (put length : ℕ) (key : Key) (list : List Stored)
    → SameButRows c new → AreStanding contents s c → AreStanding contents (state_after s (rec.Committed put key length list)) new
standing_committed contents s c new put length key list same stands =
    standing_left contents s (state_after s (rec.Committed put key length list)) c new refl refl refl
    (λ P all. all_committed P key put (last_vector s key) s.rows all) same stands

-- ---- a session begins

pub standing_fresh : (contents : Contents) (g : Geometry) (c : Seen) → AreStanding contents (after_all nothing_yet (format_records g)) c
standing_fresh contents g c = record { buffered = λ told. tt; written = λ told. tt; recorded = λ told. tt }

-- ---- the next buffer begins

-- what stood there, or in the buffer that was written, stands on the device
each_begun : (contents : Contents) (s : State) (c : Seen) (low : ℕ) (rows : List Row) → IsHeld s c → IsWrittenOut c
    → AreRising low rows (place_now s) → AllByRecursion (IsBufferedWhereNew c.buffer) rows
    → AllByRecursion (StandsInBuffer contents s.geometry c.buffer) rows → AllByRecursion (StandsOnDevice contents s (content_of c.device)) rows
    → AllByRecursion (StandsOnDevice contents (state_after s (rec.Began (cursor_next s) (floor_next s))) (content_of c.device)) rows
each_begun contents s c low [] held written rising filled buffered stands = tt
each_begun contents s c low (row ∷ rows) held written rising filled buffered stands = (
  λ from below. was_intact (HasContent contents s.geometry row) s c row held written rising.1 stands.0 filled.0 buffered.0 from,
  each_begun contents s c (row.place + 1) rows held written rising.3 filled.1 buffered.1 stands.1,
)

pub standing_begun : (contents : Contents) (s : State) (c new : Seen) → IsHeld s c → IsWrittenOut c → BeginsNext c new → AreStanding contents s c
    → AreStanding contents (state_after s (rec.Began (cursor_next s) (floor_next s))) new
standing_begun contents s c new held written begins stands = record {
  buffered = λ told.
      none_new (λ row. HasContent contents s.geometry row (bytes_at new.buffer row.place row.blocks)) new.buffer.cursor
      s.geometry.content (place_now s) s.rows held.sound.rising
      (let next = ap (λ (b : Buffer). b.cursor) begins.buffer ∙ next_is s c held in
      let behind = next_behind s c held in omega (arith, next, behind));
  written =
      let after : State = state_after s (rec.Began (cursor_next s) (floor_next s)) in
      subst (λ (d : Device). TellsAll d → AllByRecursion (StandsOnDevice contents after (content_of d)) s.rows) (sym begins.device)
      (λ told. each_begun contents s c s.geometry.content s.rows held written held.sound.rising held.buffered (stands.buffered told)
      (stands.written told));
  recorded =
      subst (λ (d : Device). TellsAll d → AllByRecursion (IsRecordedAs contents s.geometry) s.rows) (sym begins.device) stands.recorded;
}
