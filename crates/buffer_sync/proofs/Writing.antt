-- A sync writes nothing of the content.
use Rattle.std.proofs.Common.{◌≡◌, ℕ, ◌+◌, ◌*◌, ◌≤◌, Bool, true, false, List, length, refl, sym, ◌∙◌, ap, arith}
use Rattle.std.specs.List.{AllByRecursion}
use Rattle.device_log.specs.Calls.{Wrote}
use Rattle.device_log.specs.Image.{Image}
use Rattle.device_log.specs.Seen.{seen_of}
use Rattle.tape_base.specs.Place.{content_block_of, directory_blocks_of}
use Rattle.stripe_header.specs.declared.area.Area.{Area}
use Rattle.stripe_header.specs.declared.area.Side.{Side}
use Rattle.stripe_header.specs.declared.area.Side.TheVariants as sides
use Rattle.stripe_header.specs.declared.states.CopyState.{CopyState}
use Rattle.stripe_header.specs.Layout.{body_blocks, body_of, gate_of}
use Rattle.stripe_header.specs.Spelling.{numbers_of}
use Rattle.dir_table.specs.declared.rows.StoredRow.{StoredRow}
use Rattle.logged_disk.specs.Device.{DeviceState as Device}
use Rattle.dir_sync.specs.SyncCalls.{open_block, shut_block}
use Rattle.dir_sync.proofs.Stages.{open_length}
use Rattle.stripe_copies.specs.declared.copies.SyncStop.{SyncStop}
use Rattle.stripe_copies.specs.Copies.{CopiesState, IsBodyOf, IsBrokenOff, IsSynced, sync_calls, target_of}
use Rattle.stripe_copies.proofs.Calls.{stops_all}
use Rattle.stripe_copies.proofs.Copy.{body_length}
use Rattle.cache_model.specs.Given.{written_of}
use Rattle.buffer_sync.proofs.Last.{EndsBy, stopped_ends, stopped_shows, went_ends, went_shows}

shut_length : length shut_block ≡ 512
unfolding shut_block
shut_length = refl

module _ (a : Area) (side : Side) (body : List ℕ) (whole : length body ≡ 512 * body_blocks a) where
  abbrev low : ℕ
  low = 7 + 2 * a.directory

  gate_ends : (side : Side) (block : List ℕ) → length block ≡ 512 → EndsBy low (Wrote (gate_of side) block)
  gate_ends sides.A block size = omega (arith, size)
  gate_ends sides.B block size = omega (arith, size)

  body_ends : (side : Side) → EndsBy low (Wrote (body_of a side) body)
  body_ends sides.A = omega (arith, whole)
  body_ends sides.B = omega (arith, whole)

  pub sync_ends : (shut : Bool) → AllByRecursion (EndsBy low) (sync_calls a side shut body)
  sync_ends true = (tt, (body_ends side, (tt, (gate_ends side open_block open_length, (tt, tt)))))
  sync_ends false = (gate_ends side shut_block shut_length, (tt, (body_ends side, (tt, (gate_ends side open_block open_length, (tt, tt))))))

-- the body of a copy is that of its area
body_whole : (a : Area) (s : CopyState) (rows : List StoredRow) (body : List ℕ) → a.directory ≡ directory_blocks_of a.geometry → IsBodyOf a.geometry s rows body
    → length body ≡ 512 * body_blocks a
body_whole a s rows body is of =
    ap length of.copy.spelled ∙ body_length (numbers_of a.geometry) s of.image a.directory (of.of.whole ∙ ap (λ n. 512 * n) (sym is))

pub went_leaves : (k : CopiesState) (s : CopyState) (rows : List StoredRow) (old new : Device) (j : ℕ) → k.area.directory ≡ directory_blocks_of k.area.geometry
    → content_block_of k.area.geometry ≤ j → IsSynced k s rows old new → written_of new.past j ≡ written_of old.past j
went_leaves k s rows old new j is above synced =
    went_ends (7 + 2 * k.area.directory) j (sync_calls k.area (target_of k) k.shut synced.body) old.past new.past
    (sync_ends k.area (target_of k) synced.body (body_whole k.area s rows synced.body is synced.of) k.shut) synced.made.went (omega (arith, is, above))

pub stopped_leaves : (k : CopiesState) (s : CopyState) (rows : List StoredRow) (stop : SyncStop) (shut : Bool) (old new : Device) (j : ℕ)
    → k.area.directory ≡ directory_blocks_of k.area.geometry
    → content_block_of k.area.geometry ≤ j → IsBrokenOff k s rows stop shut old new → written_of new.past j ≡ written_of old.past j
stopped_leaves k s rows stop shut old new j is above broken =
    stopped_ends (7 + 2 * k.area.directory) j stop.count (sync_calls k.area (target_of k) k.shut broken.body) old.past new.past
    (sync_ends k.area (target_of k) broken.body (body_whole k.area s rows broken.body is broken.of) k.shut)
    (stops_all k.area (target_of k) k.shut broken.body stop shut old.past new.past broken.stopped) (omega (arith, is, above))

-- what is seen of the content stays too
pub went_stays : (k : CopiesState) (s : CopyState) (rows : List StoredRow) (first : Image) (old new : Device) (j : ℕ) → k.area.directory ≡ directory_blocks_of k.area.geometry
    → content_block_of k.area.geometry ≤ j → IsSynced k s rows old new → seen_of first new.past j ≡ seen_of first old.past j
went_stays k s rows first old new j is above synced =
    went_shows first (7 + 2 * k.area.directory) j (sync_calls k.area (target_of k) k.shut synced.body) old.past new.past
    (sync_ends k.area (target_of k) synced.body (body_whole k.area s rows synced.body is synced.of) k.shut) synced.made.went (omega (arith, is, above))

pub stopped_stays : (k : CopiesState) (s : CopyState) (rows : List StoredRow) (stop : SyncStop) (shut : Bool) (first : Image) (old new : Device) (j : ℕ)
    → k.area.directory ≡ directory_blocks_of k.area.geometry
    → content_block_of k.area.geometry ≤ j → IsBrokenOff k s rows stop shut old new → seen_of first new.past j ≡ seen_of first old.past j
stopped_stays k s rows stop shut first old new j is above broken =
    stopped_shows first (7 + 2 * k.area.directory) j stop.count (sync_calls k.area (target_of k) k.shut broken.body) old.past new.past
    (sync_ends k.area (target_of k) broken.body (body_whole k.area s rows broken.body is broken.of) k.shut)
    (stops_all k.area (target_of k) k.shut broken.body stop shut old.past new.past broken.stopped) (omega (arith, is, above))
