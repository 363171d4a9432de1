-- What is known of the two copies of a stripe; which sync is due; and what a sync leaves.
use Rattle.std.specs.List.{AllByRecursion}
use Rattle.std.specs.Prelude.{◌≡◌, ◌≢◌, ◌≤◌, ◌<◌, ◌+◌, ◌++◌, ◌^◌, ℕ, Bool, true, false, if◌then◌else◌, IsTrue, List, []}
use Rattle.device_log.specs.Image.{Image, IsImage, put}
use Rattle.device_log.specs.Calls.{Call}
use Rattle.device_log.specs.Faults.{IsLog}
use Rattle.device_log.specs.Along.{AllLeft}
use Rattle.logged_disk.specs.Device.{DeviceState as Device, Elapses, IsAfter, seen}
use Rattle.tape_base.specs.declared.geometries.Geometry.{Geometry}
use Rattle.tape_base.specs.declared.pieces.PieceId.{PieceId}
use Rattle.tape_base.specs.Place.{directory_blocks_of, reach_of}
use Rattle.stripe_header.specs.declared.area.Area.{Area}
use Rattle.stripe_header.specs.declared.area.Side.{Side}
use Rattle.stripe_header.specs.declared.states.CopyState.{CopyState}
use Rattle.stripe_header.specs.Layout.{block_of_place, body_of, gate_of}
use Rattle.stripe_header.specs.Spelling.{may_say}
use Rattle.dir_table.specs.declared.rows.StoredRow.{StoredRow}
use Rattle.dir_table.specs.Wrap.{stored_from}
use Rattle.dir_sync.specs.SyncCalls.{open_block}
use Rattle.stripe_copies.specs.declared.copies.SyncStop.{SyncStop}
use Rattle.stripe_copies.specs.Copies.{CopiesState, IsBrokenOff, IsSynced, broken_off, first_copies, target_of, turned}
use Rattle.cache_model.specs.Contents.{Content}
use Rattle.cache_model.specs.Permit.{IsAmong}
use Rattle.cache_model.specs.State.{Mark, Row}
use Rattle.cache_model.specs.Tape.{AreRising}
use Rattle.reopening.specs.declared.newest.Newest.{Newest}
use Rattle.reopening.specs.Newest.{bound_of}
use Rattle.reopening.specs.Tests.{has_put, is_entered, is_inside, lists_puts}
use Rattle.reopening.specs.Found.{StandsRecorded}
use Rattle.reopening.specs.Alike.{has_place}
use Rattle.reopening.specs.Guards.{AreGuarded, HeldCopy, IsNoHarm, OpensToOne, OtherNext, OtherOld, OtherShut, held_at_rest}
use Rattle.reopening.specs.Lasting.{TakesUpOne}
use Rattle.reopening.specs.Stages.{StaysIn}
use Rattle.reopening.specs.Named.{AreNotAtOdds, TellsMark, is_row_at}
use Rattle.format_laws.specs.Laid.{IsAreaLaidOut, behind_format, first_copy}

-- what is known of the copies: to the code; which syncs may be found; the newest copy; and from which place on content may
-- be written
pub record KnownCopies : Type 0 where
  pub copies : CopiesState
  pub marks : List Mark
  pub newest : HeldCopy
  pub clear : ℕ

-- the place up to which content may be written behind a copy
abbrev pub spared_to : Geometry → CopyState → ℕ
spared_to g told = if told.clean then told.cursor + g.agg else reach_of g told.cursor

-- content from one place up to another does not touch what a copy names
pub record IsClear (a : Area) (from to : ℕ) (h : HeldCopy) : Type 0 where
  pub says : IsTrue (may_say a.geometry h.copy.told)
  pub ends : h.end ≤ from
  pub reach : to ≤ spared_to a.geometry h.copy.told

-- the gate of the other copy is known to be shut just where guards rest on it, and content is clear of a later copy
abbrev pub IsKnownBeside : (a : Area) (marks : List Mark) (newest : HeldCopy) (shut : Bool) (clear : ℕ)
    (settled : Bool) (first : Image) (past : List Call)
    → IsNoHarm a (TakesUpOne marks) newest settled first past → Type 0
IsKnownBeside a marks newest shut clear settled first past (OtherShut is) = shut ≡ true
IsKnownBeside a marks newest shut clear settled first past (OtherOld is) = shut ≡ false
IsKnownBeside a marks newest shut clear settled first past (OtherNext h side later kept) =
    (shut ≡ false) × IsClear a clear (spared_to a.geometry newest.copy.told) h

-- what is known stands on the device: the newest copy is guarded, and content is clear of it
pub record CopiesHold (w : KnownCopies) (settled : Bool) (first : Image) (past : List Call) : Type 0 where
  pub directory : w.copies.area.directory ≡ directory_blocks_of w.copies.area.geometry
  pub begun : w.copies.finished ≤ w.copies.begun
  pub side : w.newest.copy.side ≡ w.copies.newest
  pub serial : w.newest.copy.told.serial ≡ w.copies.finished
  pub cursor : w.newest.copy.told.cursor ≡ w.copies.synced
  pub guards : AreGuarded w.copies.area (TakesUpOne w.marks) w.newest settled first past
  pub own : IsClear w.copies.area w.clear (spared_to w.copies.area.geometry w.newest.copy.told) w.newest
  pub beside : IsKnownBeside w.copies.area w.marks w.newest w.copies.shut w.clear settled first past guards.other

abbrev pub CopiesHoldOn : KnownCopies → Device → Type 0
CopiesHoldOn w d = CopiesHold w d.settled d.first d.past

-- an image with the body of a copy in its place, behind an open gate
abbrev pub with_copy : Area → Side → List ℕ → Image → Image
with_copy a side body c = put (gate_of side) open_block (put (body_of a side) body c)

-- the copy that a sync writes
abbrev pub copy_to_come : CopiesState → CopyState → Newest
copy_to_come k s = record { side = target_of k; told = s }

-- that copy with this body, on what is seen before the sync
abbrev pub held_to_come : CopiesState → CopyState → ℕ → List ℕ → Image → HeldCopy
held_to_come k s end body c =
    record { copy = copy_to_come k s; end = end; image = with_copy k.area (target_of k) body c }

-- the elements of a directory at which an opening of a copy that says this looks
abbrev pub elements_of : Geometry → CopyState → List StoredRow → List StoredRow
elements_of g s stored = stored_from (bound_of g s) stored

-- what is seen has the piece of a row as the records have it, and a copy that says this, with these elements, names it
pub record IsNamed (a : Area) (s : CopyState) (stored : List StoredRow) (c : Image) (row : Row) (x : Content)
    : Type 0 where
  pub from : a.geometry.content ≤ row.place
  pub stands : StandsRecorded a c row x
  pub inside : is_inside a.geometry s.cursor row.place row.blocks ≡ true
  pub entered : is_entered a.geometry (elements_of a.geometry s stored) row.place row.id ≡ true
  pub put : has_put s.next_put row.id ≡ true
  pub lists : lists_puts s.next_put row.id x.payload ≡ true

-- A sync with this mark is due: a copy with these elements names just the pieces of the mark, and what is seen has them.
-- They may be pending.
pub record IsDue (w : KnownCopies) (s : CopyState) (stored : List StoredRow) (m : Mark) (content : PieceId → Content)
    (c : Image) : Type 0 where
  pub serial : s.serial ≡ w.copies.begun + 1
  pub among : IsAmong m w.marks
  pub tells : TellsMark w.copies.area (copy_to_come w.copies s) m
  pub rising : AreRising m.low m.rows m.end
  pub below : m.end ≤ m.cursor
  pub clear : w.clear ≤ m.end
  pub onward : spared_to w.copies.area.geometry w.newest.copy.told ≤ spared_to w.copies.area.geometry s
  pub each : AllByRecursion (λ (row : Row). IsNamed w.copies.area s stored c row (content row.id)) m.rows
  pub no_more : (p : ℕ) → has_place p (elements_of w.copies.area.geometry s stored) ≡ true → is_row_at m.rows p ≡ true
  pub even : AreNotAtOdds m.rows

-- what is known where a sync with this mark and body went: the copy that it wrote is the newest
abbrev pub known_turned : KnownCopies → CopyState → Mark → List ℕ → Image → KnownCopies
known_turned w s m body c =
    record {
      copies = turned w.copies s;
      marks = w.marks;
      newest = held_to_come w.copies s m.end body c;
      clear = m.end;
    }

-- and where it was broken off: the newest copy is the one that was
abbrev pub known_broken_off : KnownCopies → CopyState → Mark → SyncStop → Bool → KnownCopies
known_broken_off w s m stop shut =
    record w { copies = broken_off w.copies s shut; clear = if stop.durable then m.end else w.clear }

-- each image opens to one of the syncs, and to none that is older than the last that finished
abbrev pub OpensToKnown : KnownCopies → Image → Type 0
OpensToKnown w = OpensToOne w.copies.area (TakesUpOne w.marks) w.copies.finished

-- behind each call all that a cut may leave opens so, and behind the last one this stands
pub record PassesTo (w v : KnownCopies) (old new : Device) : Type 0 where
  pub moments : Elapses (OpensToKnown w) old new
  pub known : CopiesHoldOn v new

-- the calls of a sync were made on this device
pub record AreCalls (old new : Device) : Type 0 where
  pub image : IsImage old.first
  pub log : IsLog new.past
  pub after : IsAfter old new

-- so it is of a sync that went
abbrev pub SyncsTurn : Type 0
SyncsTurn = (w : KnownCopies) (s : CopyState) (stored : List StoredRow) (m : Mark) (content : PieceId → Content) (old new : Device)
    → AreCalls old new → CopiesHoldOn w old → IsDue w s stored m content (seen old)
    → (went : IsSynced w.copies s stored old new) → PassesTo w (known_turned w s m went.body (seen old)) old new

-- and of one that was broken off
abbrev pub SyncsBreakOff : Type 0
SyncsBreakOff = (w : KnownCopies) (s : CopyState) (stored : List StoredRow) (m : Mark) (content : PieceId → Content)
    (stop : SyncStop) (shut : Bool) (old new : Device)
    → AreCalls old new → CopiesHoldOn w old → IsDue w s stored m content (seen old)
    → IsBrokenOff w.copies s stored stop shut old new → PassesTo w (known_broken_off w s m stop shut) old new

-- what is known behind a format
abbrev pub known_first : Area → Device → KnownCopies
known_first a d =
    record {
      copies = first_copies a;
      marks = (behind_format a.geometry).marks;
      newest = held_at_rest (first_copy a.geometry) d.first d.past;
      clear = a.geometry.content;
    }

-- it stands there
abbrev pub FormatHolds : Type 0
FormatHolds = (a : Area) (old new : Device) → IsAreaLaidOut a old new → a.geometry.generation < 2 ^ 64
    → IsImage new.first → IsLog new.past → CopiesHoldOn (known_first a new) new

-- while that stands, all that a cut may leave opens so
abbrev pub CopiesOpen : Type 0
CopiesOpen = (w : KnownCopies) (settled : Bool) (first : Image) (past : List Call)
    → CopiesHold w settled first past → AllLeft (OpensToKnown w) settled first past

-- it outlives calls that write content alone, from the clear place up to where the newest copy spares it
abbrev pub CopiesStay : Type 0
CopiesStay = (w : KnownCopies) (settled : Bool) (first : Image) (old new : List Call)
    → CopiesHold w settled first old
    → ((j : ℕ) → ((q : ℕ) → w.clear ≤ q → q < spared_to w.copies.area.geometry w.newest.copy.told
    → j ≢ block_of_place w.copies.area q) → StaysIn settled first old new j)
    → CopiesHold w settled first new

-- also where a sync is begun, and where the clear place rises
abbrev pub CopiesWiden : Type 0
CopiesWiden = (w : KnownCopies) (added : List Mark) (clear : ℕ) (settled : Bool) (first : Image) (past : List Call)
    → w.clear ≤ clear → CopiesHold w settled first past
    → CopiesHold (record w { marks = added ++ w.marks; clear = clear }) settled first past

-- the sync of a stripe without a piece is due, where its copy tells the mark
abbrev pub EmptyIsDue : Type 0
EmptyIsDue = (w : KnownCopies) (s : CopyState) (m : Mark) (content : PieceId → Content) (c : Image)
    → s.serial ≡ w.copies.begun + 1 → IsAmong m w.marks → TellsMark w.copies.area (copy_to_come w.copies s) m
    → m.rows ≡ [] → m.low ≤ m.end → m.end ≤ m.cursor → w.clear ≤ m.end
    → spared_to w.copies.area.geometry w.newest.copy.told ≤ spared_to w.copies.area.geometry s
    → IsDue w s [] m content c

-- a copy that is not clean spares content at least as far as one with an earlier cursor
abbrev pub LaterSparesMore : Type 0
LaterSparesMore = (g : Geometry) (t u : CopyState) → IsTrue (may_say g t) → u.clean ≡ false → t.cursor ≤ u.cursor
    → spared_to g t ≤ spared_to g u
