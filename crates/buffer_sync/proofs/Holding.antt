-- What a cyclone holds of the pieces is held behind a write of its buffer and behind a sync.
use Rattle.std.proofs.Common.{◌≡◌, ℕ, ◌+◌, ◌*◌, ◌/◌, ◌<◌, ◌≤◌, ◌⊎◌, List, [], ◌∷◌, Result, Ok, Err, inl, inr, length, drop, sym, ◌∙◌, ap, subst, arith}
use Rattle.std.specs.List.{AllByRecursion}
use Rattle.std.proofs.lemmas.List.{length-drop}
use Rattle.edge_io.specs.declared.source.Failed.{Failed}
use Rattle.tape_base.specs.Place.{block_of, content_block_of}
use Rattle.device_log.specs.Faults.{faults_of}
use Rattle.device_log.specs.Image.{Image, SameBut}
use Rattle.device_log.specs.Seen.{seen_of}
use Rattle.device_log.proofs.Spans.{span_same}
use Rattle.doc_header.specs.Reading.{document_digest}
use Rattle.agg_buffer.specs.Buffer.{filled_of}
use Rattle.stripe_header.specs.declared.states.CopyState.{CopyState}
use Rattle.logged_disk.specs.Device.{DeviceState as Device, IsAfter, TellsAll, seen as content_of}
use Rattle.logged_disk.proofs.GoingOn.{told_before}
use Rattle.logged_disk.proofs.Moments.{write_others}
use Rattle.stripe_copies.specs.declared.copies.SyncStop.{SyncStop}
use Rattle.stripe_copies.specs.Copies.{CopiesState}
use Rattle.cyclone.specs.Cyclone.{IsTurning, SameTape, Seen}
use Rattle.cyclone.specs.Syncing.{MaySync, SyncsCopy, WritesRest}
use Rattle.cache_model.specs.State.{Row, State}
use Rattle.held_pieces.specs.Held.{IsHeld, IsIntact, IsIntactWhereWritten, rows_in_range, times}
use Rattle.held_pieces.specs.Records.{SparesPieces}
use Rattle.held_pieces.proofs.Going.{device_may_change}
use Rattle.buffer_sync.proofs.Buffered.{either_side, rest_goes}
use Rattle.buffer_sync.proofs.Last.{faults_rise}
use Rattle.buffer_sync.proofs.Writing.{stopped_stays, went_stays}

-- ---- a write

module _ (durable : ℕ) (old new : Seen) (result : Result (Unit {0}) Failed) (wrote : WritesRest durable old new result) where
  abbrev at : ℕ
  at = block_of old.geometry old.buffer.cursor

  others : SameBut at (filled_of old.buffer) (content_of old.device) (content_of new.device)
  others = elim (either_side durable (filled_of old.buffer)) [
    | inl some ↦ λ j out.
        write_others result old.device new.device (at + durable) (drop (512 * durable) old.buffer.bytes) wrote.keeps.first (wrote.logs some) j
        (λ low high. out (omega (arith, low)) (omega (arith, high, some, length-drop (512 * durable) old.buffer.bytes)))
    | inr none ↦ λ j out. ap (λ (d : Device). content_of d j) (wrote.none none).1
  ]

  pub rest_spares : SparesPieces old new.device
  rest_spares = record { later = wrote.cause.later; goes = rest_goes durable old new result wrote; others = others }

  pub rest_held : (s : State) → SameTape old new → IsTurning new → IsHeld s old → IsHeld s new
  rest_held s same turning held = device_may_change s old new held same turning rest_spares

-- ---- a sync

shown : (s : State) (old new : Image) (row : Row) → ((j : ℕ) → content_block_of s.geometry ≤ j → new j ≡ old j) → IsIntactWhereWritten s old row → IsIntactWhereWritten s new row
shown s old new row same h = λ low below.
    let i : IsIntact s old row = h low below in
    record {
      ends = i.ends;
      digest = ap document_digest (span_same new old (block_of s.geometry row.place) row.blocks (λ j from to. same j (omega (arith, from)))) ∙ i.digest;
    }

all_shown : (s : State) (old new : Image) (rows : List Row) → ((j : ℕ) → content_block_of s.geometry ≤ j → new j ≡ old j) → AllByRecursion (IsIntactWhereWritten s old) rows
    → AllByRecursion (IsIntactWhereWritten s new) rows
all_shown s old new [] same all = tt
all_shown s old new (row ∷ rows) same all = (shown s old new row same all.0, all_shown s old new rows same all.1)

-- what is seen of the content stays
pub sync_shows : (k after : CopiesState) (s : CopyState) (old new : Seen) (result : Result ℕ SyncStop) → MaySync old k s → SyncsCopy k after s old new result
    → (j : ℕ) → content_block_of old.geometry ≤ j → content_of new.device j ≡ content_of old.device j
sync_shows k after s old new (Ok serial) may syncs j above =
    let low = ap content_block_of may.geometry in
    ap (λ (first : Image). seen_of first new.device.past j) syncs.keeps.first
    ∙ went_stays k s old.stored old.device.first old.device new.device j may.directory (omega (arith, low, above)) syncs.went.1
sync_shows k after s old new (Err stop) may syncs j above =
    let low = ap content_block_of may.geometry in
    ap (λ (first : Image). seen_of first new.device.past j) syncs.keeps.first
    ∙ stopped_stays k s old.stored stop after.shut old.device.first old.device new.device j may.directory (omega (arith, low, above)) syncs.stopped

-- the count of faults does not fall
pub later_by : (old new : Device) → old.faults ≡ faults_of old.past → new.faults ≡ faults_of new.past → IsAfter old new → old.faults ≤ new.faults
later_by old new was is goes =
    let rise = faults_rise goes.made old.past in
    let past = ap faults_of goes.past in
    omega (arith, was, is, rise, past)

pub sync_held : (k after : CopiesState) (state : CopyState) (s : State) (old new : Seen) (result : Result ℕ SyncStop) → MaySync old k state → SyncsCopy k after state old new result
    → SameTape old new → IsTurning new → old.device.faults ≤ new.device.faults → IsHeld s old → IsHeld s new
sync_held k after state s old new result may syncs same turning later held =
    let content = ap content_block_of held.geometry in
    record {
      turning = turning;
      sound = held.sound;
      geometry = ap (λ (y : Seen). y.geometry) same ∙ held.geometry;
      cursor = ap (λ (y : Seen). y.buffer.cursor) same ∙ held.cursor;
      filled = ap (λ (y : Seen). filled_of y.buffer) same ∙ held.filled;
      entered = λ x. ap (λ (y : Seen). times x (rows_in_range y)) same ∙ held.entered x;
      buffered = rw (ap (λ (y : Seen). y.buffer) same) held.buffered;
      intact = λ told.
          all_shown s (content_of old.device) (content_of new.device) s.rows (λ j above. sync_shows k after state old new result may syncs j (omega (arith, content, above)))
          (held.intact (told_before old.device new.device syncs.goes told));
      laps = held.laps;
      faults = let low : s.fault ≤ old.device.faults = held.faults in omega (arith, low, later);
      least = ap (λ (y : Seen). y.least) same ∙ held.least;
    }
