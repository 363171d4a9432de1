-- What is known of a buffer on its device behind a write of it and behind a sync.
use Rattle.std.proofs.Common.{◌≡◌, ℕ, ◌+◌, ◌<◌, ◌≤◌, ◌⊎◌, List, Result, Ok, Err, inl, inr, refl, sym, ◌∙◌, ap, subst, arith}
use Rattle.edge_io.specs.declared.source.Failed.{Failed}
use Rattle.tape_base.specs.Place.{block_of, content_block_of}
use Rattle.agg_buffer.specs.Buffer.{filled_of}
use Rattle.device_log.specs.Calls.{Call}
use Rattle.stripe_header.specs.declared.states.CopyState.{CopyState}
use Rattle.logged_disk.specs.Device.{DeviceState as Device, IsAfter, TellsAll}
use Rattle.logged_disk.proofs.GoingOn.{goes_by_write, stays_as, told_before}
use Rattle.stripe_copies.specs.declared.copies.SyncStop.{SyncStop}
use Rattle.stripe_copies.specs.Copies.{CopiesState}
use Rattle.cyclone.specs.Cyclone.{HasBuffer, SameTape, Seen}
use Rattle.cyclone.specs.Syncing.{HasFront, MaySync, SyncsCopy, WritesRest}
use Rattle.cache_model.specs.Given.{written_of}
use Rattle.buffer_sync.specs.declared.buffer.BufferOnDevice.{BufferOnDevice}
use Rattle.buffer_sync.specs.OnDevice.{IsOnDevice, WroteLast}
use Rattle.buffer_sync.proofs.Last.{all_told, refused_rest, written_rest}
use Rattle.buffer_sync.proofs.Writing.{stopped_leaves, went_leaves}

pub either_side : (a b : ℕ) → ((a < b) ⊎ (b ≤ a))
either_side a b = grind arith

-- ---- a write

module _ (durable : ℕ) (old new : Seen) (result : Result (Unit {0}) Failed) (wrote : WritesRest durable old new result) where
  pub rest_goes : IsAfter old.device new.device
  rest_goes = elim (either_side durable (filled_of old.buffer)) [
    | inl some ↦ goes_by_write 1 _ old.device new.device wrote.keeps result _ _ (wrote.logs some)
    | inr none ↦ stays_as old.device new.device (wrote.none none).1
  ]

-- the front is seen where the device tells its content
pub front_told : (on : BufferOnDevice) (c : Seen) → IsOnDevice on c → TellsAll c.device → HasFront on.durable c
front_told on c is told =
    all_told c.device.first c.device.past (block_of c.geometry c.buffer.cursor) on.durable c.buffer.bytes told.unturned
    (λ i within. is.last i (let few = is.durable in omega (arith, within, few)))

module _ (on : BufferOnDevice) (old new : Seen) (is : IsOnDevice on old) (same : SameTape old new) where
  abbrev at : ℕ
  at = block_of old.geometry old.buffer.cursor

  front : WroteLast old.device.past at on.durable old.buffer.bytes
  front i within = is.last i (let few = is.durable in omega (arith, within, few))

  few : on.durable ≤ filled_of old.buffer
  few = omega (arith, is.durable, is.written)

  by_past : (past : List Call) (n : ℕ) → new.device.past ≡ past → WroteLast past at n old.buffer.bytes → WroteLast new.device.past at n old.buffer.bytes
  by_past past n is last = subst (λ p. WroteLast p at n old.buffer.bytes) (sym is) last

  wrote_all : WritesRest on.durable old new (Ok tt) → WroteLast new.device.past at (filled_of old.buffer) old.buffer.bytes
  wrote_all wrote = elim (either_side on.durable (filled_of old.buffer)) [
    | inl some ↦ by_past _ (filled_of old.buffer) (wrote.logs some).past (written_rest at on.durable (filled_of old.buffer) old.buffer.bytes refl few old.device.past front)
    | inr none ↦ by_past old.device.past (filled_of old.buffer) (ap (λ (d : Device). d.past) (wrote.none none).1) (λ i within. front i (omega (arith, within, none)))
  ]

  wrote_front : (e : Failed) → WritesRest on.durable old new (Err e) → WroteLast new.device.past at on.durable old.buffer.bytes
  wrote_front e wrote = elim (either_side on.durable (filled_of old.buffer)) [
    | inl some ↦ refused_rest at on.durable (filled_of old.buffer) old.buffer.bytes refl few old.device.past front new.device.faults new.device.past (wrote.logs some).0
    | inr none ↦ by_past old.device.past on.durable (ap (λ (d : Device). d.past) (wrote.none none).1) front
  ]

  pub on_written : (now : BufferOnDevice) → WritesRest on.durable old new (Ok tt) → now.written ≡ filled_of old.buffer → now.durable ≡ on.durable → IsOnDevice now new
  on_written now wrote written durable = subst (IsOnDevice now) (sym same) (record {
    durable = omega (arith, written, durable, few);
    written = omega (arith, written);
    last = subst (λ n. WroteLast new.device.past at n old.buffer.bytes) (sym written) (wrote_all wrote);
  })

  pub on_refused : (now : BufferOnDevice) (e : Failed) → WritesRest on.durable old new (Err e) → now.written ≡ on.durable → now.durable ≡ on.durable → IsOnDevice now new
  on_refused now e wrote written durable = subst (IsOnDevice now) (sym same) (record {
    durable = omega (arith, written, durable);
    written = omega (arith, written, few);
    last = subst (λ n. WroteLast new.device.past at n old.buffer.bytes) (sym written) (wrote_front e wrote);
  })

-- ---- a sync

-- the content was not written
pub sync_leaves : (k then : CopiesState) (s : CopyState) (old new : Seen) (result : Result ℕ SyncStop) → MaySync old k s → SyncsCopy k then s old new result
    → (j : ℕ) → content_block_of old.geometry ≤ j → written_of new.device.past j ≡ written_of old.device.past j
sync_leaves k then s old new (Ok serial) may syncs j above =
    let low = ap content_block_of may.geometry in
    went_leaves k s old.stored old.device new.device j may.directory (omega (arith, low, above)) syncs.went.1
sync_leaves k then s old new (Err stop) may syncs j above =
    let low = ap content_block_of may.geometry in
    stopped_leaves k s old.stored stop then.shut old.device new.device j may.directory (omega (arith, low, above)) syncs.stopped

pub on_synced : (k then : CopiesState) (s : CopyState) (on now : BufferOnDevice) (old new : Seen) (result : Result ℕ SyncStop) → IsOnDevice on old → SameTape old new
    → MaySync old k s → SyncsCopy k then s old new result → now.written ≡ on.written → now.durable ≤ on.written → IsOnDevice now new
on_synced k then s on now old new result is same may syncs written few = subst (IsOnDevice now) (sym same) (record {
  durable = omega (arith, written, few);
  written = omega (arith, written, is.written);
  last = λ i within.
      sync_leaves k then s old new result may syncs (block_of old.geometry old.buffer.cursor + i) (omega arith) ∙ is.last i (omega (arith, within, written));
})

-- where the whole buffer was written, a sync behind it leaves it there
pub still_whole : (b now : BufferOnDevice) (mid new : Seen) → IsOnDevice b mid → IsOnDevice now new → b.written ≡ filled_of mid.buffer → now.written ≡ filled_of mid.buffer
    → SameTape mid new → IsAfter mid.device new.device → (TellsAll mid.device → HasBuffer mid) → TellsAll new.device → HasBuffer new
still_whole b now mid new was is whole full same goes has told =
    let before = told_before mid.device new.device goes told in
    let at = block_of mid.geometry mid.buffer.cursor in
    let bytes = mid.buffer.bytes in
    let last : WroteLast new.device.past at (filled_of mid.buffer) bytes =
    subst (λ n. WroteLast new.device.past at n bytes) full
    (subst (λ (y : Seen). WroteLast new.device.past (block_of y.geometry y.buffer.cursor) now.written y.buffer.bytes) same is.last) in
    let earlier : WroteLast mid.device.past at (filled_of mid.buffer) bytes = subst (λ n. WroteLast mid.device.past at n bytes) whole was.last in
    subst HasBuffer (sym same)
    (all_told new.device.first new.device.past at (filled_of mid.buffer) bytes told.unturned last
    ∙ (sym (all_told mid.device.first mid.device.past at (filled_of mid.buffer) bytes before.unturned earlier) ∙ has before))
