-- What was looked at before a flush can be told and copied, and what that adds is what was asked.
use Rattle.std.proofs.Common.{◌≡◌, ℕ, ◌+◌, ◌-◌, ◌*◌, ◌/◌, ◌<◌, ◌≤◌, Bool, true, false, List, [], ◌∷◌, ◌++◌, refl, sym, ◌∙◌, ap, subst, arith, length, take, drop, Result, Ok, Err}
use Rattle.std.specs.Prelude.{nat_lt, ◌&&◌}
use Rattle.std.specs.List.{AllByRecursion}
use Rattle.std.proofs.lemmas.Bool.{and_parts, ltb-true}
use Rattle.device_log.specs.Causes.{Rose}
use Rattle.edge_io.specs.declared.source.Failed.{Failed}
use Rattle.device_log.specs.Calls.{Call, RefusedCall, ToWrite, Wrote}
use Rattle.doc_header.specs.Reading.{document_digest}
use Rattle.agg_buffer.specs.Buffer.{Buffer, filled_of}
use Rattle.tape_base.specs.Place.{block_of}
use Rattle.cyclone.specs.Cyclone.{SameTape, Seen, WritesBuffer}
use Rattle.tape_base.specs.Geometry.{budget_of}
use Rattle.logged_disk.specs.Device.{DeviceState as Device, IsAfter, IsAsked, TellsAll, seen as content_of}
use Rattle.logged_disk.proofs.GoingOn.{goes_further, told_before}
use Rattle.cyclone.proofs.Calls.{write_goes_on}
use Rattle.power_cuts.specs.Surviving.{LeaveCopies}
use Rattle.power_cuts.proofs.Surviving.{leave_further}
use Rattle.piece_answers.proofs.Leaving.{write_leaves_copies}
use Rattle.cache_model.specs.declared.record.Rec.{Rec}
use Rattle.cache_model.specs.declared.record.Rec.TheVariants as rec
use Rattle.cache_model.specs.State.{Row, State, after_all, cursor_next, floor_next, live_rows, state_after}
use Rattle.cache_model.specs.Kept.{Kept, state_of, with_records}
use Rattle.cache_model.specs.Permit.{IsAmong, Permit}
use Rattle.cache_model.specs.Due.{due_pieces, is_due}
use Rattle.cache_model.specs.Given.{CountsWrite, Denied, Took, bytes_from, effects_told}
use Rattle.cache_model.specs.Legal
use Rattle.cache_model.specs.Legal.{CanFlush}
use Rattle.cache_model.specs.Outcomes.{AreOutcomes, Copied, NoRoom, Outcome, ReadRefused, Spoiled, began_record, copies_of, flush_records, flush_tail, front_of, moved_record, moved_records, records_of, stopped_front_of, stopped_records, stopped_records_of, Copy}
use Rattle.cache_model.specs.Slots.{AllFit}
use Rattle.cache_model.specs.Tape.{AreApart, IsSound}
use Rattle.cache_model.proofs.Copies.{AreReady, blocks_of_copies, rows_of}
use Rattle.cache_model.proofs.Lesser.{IsLesser, all_lesser, along_parts, lesser_self, tail_less}
use Rattle.cache_model.proofs.Live.{due_are_live}
use Rattle.cache_model.proofs.Rows.{apart-part}
use Rattle.cache_model.proofs.Sound.{buffer_left, later_began, least_left}
use Rattle.cache_model.proofs.SoundFlush.{copies_part, copies_ready, due_part, flush_is_sound, front_leaves, part_ready, stopped_aside}
use Rattle.cache_model.proofs.Aside.{AllAside, IsAside, aside_leaves}
use Rattle.cache_model.proofs.Walks.{all_among}
use Rattle.cache_model.proofs.Written.{passes}
use Rattle.cache_model.proofs.Steps.{all_append, all_parts}
use Rattle.cache_model.specs.Due.{most_passed}
use Rattle.piece_answers.specs.declared.ahead.Ahead.{Ahead}
use Rattle.cache_answers.specs.declared.answers.Flushed.{Flushed}
use Rattle.piece_answers.specs.declared.answer.Stop.TheVariants as stop
use Rattle.piece_answers.specs.Ahead.{LooksAhead}
use Rattle.stripe_pieces.specs.Copying.{AreCopyable, AreTellable, AreToldCopied, begun_behind, copied_of, copies_among, done_records, told_of_pieces}
use Rattle.piece_answers.specs.Covers.{Covers, Uses}
use Rattle.piece_answers.specs.Faults.{HasEffects, effects_among, effects_of}
use Rattle.held_pieces.specs.Held.{IsBufferedWhereNew, IsHeld}
use Rattle.cache_model.specs.Contents.{Contents}
use Rattle.piece_answers.specs.Standing.{StandsOnDevice}
use Rattle.piece_answers.specs.declared.ahead.Fate.{Fate}
use Rattle.piece_answers.proofs.Effects.{effects_then, told_append}
use Rattle.piece_answers.proofs.Covering.{covers_first, own_covers, own_permit}
use Rattle.stripe_pieces.proofs.Findings.{lower_rose}
use Rattle.piece_answers.proofs.OneMore.{counted_later}
use Rattle.cache_model.specs.Damage.{TellNoDamage, tells_damage}
use Rattle.cache_model.specs.Live.{LiveBefore}
use Rattle.piece_answers.specs.Flush.{FlushesAsAsked}
use Rattle.piece_answers.proofs.RecordsAdded.{state_of-with_records}
use Rattle.stripe_pieces.proofs.LiveBehind.{flush_before, flush_kinds, stopped_before, stopped_kinds}
use Rattle.stripe_pieces.proofs.Readied.{IsPassed, are_copyable, copied_is, copies_within, few_copies}
use Rattle.stripe_pieces.proofs.ToldCopies.{are_told_copied, due_told}
use Rattle.stripe_pieces.proofs.Told.{AllCame, none, more, all_came, are_tellable, few_told, last_fault, stopped_is, told_is}

-- ---- the faults among the records

one_count : (row : Row) (o : Outcome) → effects_told (records_of row o) ≡ effects_of o
one_count row NoRoom = refl
one_count row (Copied bytes) = refl
one_count row (Spoiled found) = refl
one_count row (ReadRefused count) = refl

stopped_count : (row : Row) (o : Outcome) → effects_told (stopped_records_of row o) ≡ effects_of o
stopped_count row NoRoom = refl
stopped_count row (Copied bytes) = refl
stopped_count row (Spoiled found) = refl
stopped_count row (ReadRefused count) = refl

front_counts : {rows : List Row} {outcomes : List Outcome} {fates : List Fate} → AllCame rows outcomes fates → effects_told (front_of rows outcomes) ≡ effects_among outcomes
front_counts none = refl
front_counts (more {o = o} {rows = rows} {outcomes = outcomes} row came rest) =
    told_append (records_of row o) (front_of rows outcomes)
    ∙ (ap (λ counts. counts ++ effects_told (front_of rows outcomes)) (one_count row o) ∙ ap (λ counts. effects_of o ++ counts) (front_counts rest))

stopped_front_counts : {rows : List Row} {outcomes : List Outcome} {fates : List Fate} → AllCame rows outcomes fates
    → effects_told (stopped_front_of rows outcomes) ≡ effects_among outcomes
stopped_front_counts none = refl
stopped_front_counts (more {o = o} {rows = rows} {outcomes = outcomes} row came rest) =
    told_append (stopped_records_of row o) (stopped_front_of rows outcomes)
    ∙ (ap (λ counts. counts ++ effects_told (stopped_front_of rows outcomes)) (stopped_count row o) ∙ ap (λ counts. effects_of o ++ counts) (stopped_front_counts rest))

moved_counts : (u : State) (copies : List Copy) → effects_told (moved_records u copies) ≡ []
moved_counts u [] = refl
moved_counts u (c ∷ copies) = moved_counts (state_after u (moved_record u c)) copies

-- ---- what is due is passed by the next floor

due_are_passed : (s : State) (now : ℕ) → AllByRecursion (λ (row : Row). row.place < floor_next s) (due_pieces s now)
due_are_passed s now = all_among (λ (row : Row). row.place < floor_next s) (due_pieces s now) (λ row m.
    let test : (nat_lt row.place (floor_next s) && is_due s now row) ≡ true = passes (λ r. nat_lt r.place (floor_next s) && is_due s now r) (live_rows s) row m in
    ltb-true row.place (floor_next s) (and_parts (nat_lt row.place (floor_next s)) (is_due s now row) test).0)

-- ---- what was looked at

module _ (now : ℕ) (s : State) (before mid : Device) (a : Ahead) (sound : IsSound s) (looks : LooksAhead now s before mid a) where
  abbrev due_rows : List Row
  due_rows = due_pieces s now

  abbrev permit : Permit
  permit = own_permit now before.past mid.past

  are : AreOutcomes permit s (budget_of s.geometry) due_rows looks.outcomes
  are = looks.are permit (own_covers now before.past mid.past)

  all : AllCame due_rows looks.outcomes a.fates.items
  all = all_came due_rows looks.outcomes a.fates.items looks.fates

  apart : AreApart due_rows
  apart = apart-part (due_part s now) sound.apart

  pub tellable : (done : Bool) (faults : ℕ) → mid.faults ≤ faults → AreTellable done s faults a.due.items a.fates.items
  tellable done faults few =
      subst (λ cs. AreTellable done s faults cs a.fates.items) (sym looks.due)
      (are_tellable done s faults all (counted_later mid.faults faults looks.outcomes few looks.counted) apart (due_are_live s now sound))

  told_front : told_of_pieces true a.due.items a.fates.items ≡ front_of due_rows looks.outcomes
  told_front = ap (λ cs. told_of_pieces true cs a.fates.items) looks.due ∙ told_is all

  stopped_front : told_of_pieces false a.due.items a.fates.items ≡ stopped_front_of due_rows looks.outcomes
  stopped_front = ap (λ cs. told_of_pieces false cs a.fates.items) looks.due ∙ stopped_is all

  abbrev mid_state : State
  mid_state = after_all s (front_of due_rows looks.outcomes)

  abbrev begun : State
  begun = state_after mid_state (began_record s)

  ready : AreReady begun.rows (rows_of (copies_of due_rows looks.outcomes))
  ready = copies_ready s due_rows looks.outcomes apart (part_ready s due_rows sound (due_part s now))

  buffer : (mid_state.geometry ≡ s.geometry) × (mid_state.cursor ≡ s.cursor) × (mid_state.filled ≡ s.filled)
  buffer = buffer_left s (front_of due_rows looks.outcomes) (front_leaves due_rows looks.outcomes)

  passed : AllByRecursion (IsPassed begun) due_rows
  passed = rw (buffer.0, least_left s (front_of due_rows looks.outcomes) (front_leaves due_rows looks.outcomes)) (due_are_passed s now)

  sum : blocks_of_copies (copies_of due_rows looks.outcomes) ≤ budget_of s.geometry
  sum = copies_within permit s (budget_of s.geometry) all are

  -- and no more is live than before the flush
  begun_lesser : IsLesser s begun
  begun_lesser =
      let parts = along_parts s s (front_of due_rows looks.outcomes) (flush_tail s due_rows looks.outcomes)
      (tail_less s (front_of due_rows looks.outcomes) now looks.outcomes sound (front_leaves due_rows looks.outcomes)) in
      all_lesser s mid_state (began_record s ∷ []) (parts.1.0, tt) (all_lesser s s (front_of due_rows looks.outcomes) parts.0 (lesser_self s sound))

  pub copyable : (packed : Bool) → (packed ≡ true → AllFit s) → length a.bytes.items ≡ 512 * budget_of s.geometry
      → AreCopyable packed (begun_behind s (told_of_pieces true a.due.items a.fates.items)) 0 a.due.items a.fates.items a.bytes.items
  copyable packed fit sized =
      subst (λ told. AreCopyable packed (begun_behind s told) 0 a.due.items a.fates.items a.bytes.items) (sym told_front)
      (subst (λ cs. AreCopyable packed begun 0 cs a.fates.items a.bytes.items) (sym looks.due)
      (are_copyable packed s fit permit s begun (budget_of s.geometry) 0 a.bytes.items all are looks.stand (omega (arith, sized))
      (apart-part (copies_part due_rows looks.outcomes) apart) ready passed (rw buffer.0 (omega (arith, sum))) (due_are_live s now sound) begun_lesser))

  -- what is copied is what is told of the pieces, where they stand on a device that tells its content
  pub told_copied : (contents : Contents) → TellsAll mid → AllByRecursion (StandsOnDevice contents s (content_of before)) s.rows
      → AreToldCopied contents (begun_behind s (told_of_pieces true a.due.items a.fates.items)) 0 a.due.items a.fates.items a.bytes.items
  told_copied contents tells stands =
      subst (λ told. AreToldCopied contents (begun_behind s told) 0 a.due.items a.fates.items a.bytes.items) (sym told_front)
      (subst (λ cs. AreToldCopied contents begun 0 cs a.fates.items a.bytes.items) (sym looks.due)
      (are_told_copied contents s.geometry begun 0 a.bytes.items all looks.stand (apart-part (copies_part due_rows looks.outcomes) apart) ready buffer.0
      (due_told contents s (content_of before) stands now looks.outcomes sound (looks.exact tells))))

  done_is : done_records s a.due.items a.fates.items a.bytes.items ≡ flush_records s due_rows looks.outcomes
  done_is =
      ap (λ told. told ++ rec.Began (cursor_next s) (floor_next s) ∷ copied_of (begun_behind s told) 0 a.due.items a.fates.items a.bytes.items) told_front
      ∙ ap (λ recs. front_of due_rows looks.outcomes ++ began_record s ∷ recs)
      (ap (λ cs. copied_of begun 0 cs a.fates.items a.bytes.items) looks.due ∙ copied_is begun 0 a.bytes.items all looks.stand)

  -- ---- how many records and copies they are

  pub few_records : (done : Bool) → length (told_of_pieces done a.due.items a.fates.items) + copies_among a.fates.items ≤ 2 * most_passed s.geometry
  few_records done =
      let counts = few_told done s mid.faults a.due.items a.fates.items (tellable done mid.faults (omega arith)) in
      omega (arith, counts, looks.few)

  pub few_entries : copies_among a.fates.items ≤ budget_of s.geometry
  few_entries = omega (arith, few_copies begun.rows all ready, sum)

  -- ---- the room behind them

  pub half_is_free : (after_all s (done_records s a.due.items a.fates.items a.bytes.items)).filled ≤ budget_of s.geometry
  half_is_free = rw done_is (flush_is_sound permit s now looks.outcomes sound are).2

  -- ---- the last fault among them

  fault_low : s.fault ≤ mid.faults → (after_all s (stopped_front_of due_rows looks.outcomes)).fault ≤ mid.faults
  fault_low low =
      subst (λ told. (after_all s told).fault ≤ mid.faults) stopped_front (last_fault false s mid.faults a.due.items a.fates.items (tellable false mid.faults (omega arith)) low)

  -- ---- the calls that were refused among them

  flush_counts : effects_told (flush_records s due_rows looks.outcomes) ≡ effects_among looks.outcomes ++ Took ∷ []
  flush_counts =
      told_append (front_of due_rows looks.outcomes) (began_record s ∷ moved_records begun (copies_of due_rows looks.outcomes))
      ∙ (ap (λ effects. effects ++ Took ∷ effects_told (moved_records begun (copies_of due_rows looks.outcomes))) (front_counts all)
      ∙ ap (λ effects. effects_among looks.outcomes ++ Took ∷ effects) (moved_counts begun (copies_of due_rows looks.outcomes)))

  stopped_counts : (count : ℕ) → effects_told (stopped_records due_rows looks.outcomes count) ≡ effects_among looks.outcomes ++ Denied count ∷ []
  stopped_counts count =
      told_append (stopped_front_of due_rows looks.outcomes) (rec.Fault count ∷ [])
      ∙ ap (λ effects. effects ++ Denied count ∷ []) (stopped_front_counts all)

-- ---- damage among the records

moved_unharmed : (u : State) (copies : List Copy) → TellNoDamage (moved_records u copies)
moved_unharmed u [] = tt
moved_unharmed u (c ∷ copies) = (refl, moved_unharmed (state_after u (moved_record u c)) copies)

flush_unharmed : (s : State) (rows : List Row) (outcomes : List Outcome) → TellNoDamage (front_of rows outcomes) → TellNoDamage (flush_records s rows outcomes)
flush_unharmed s rows outcomes h =
    all_append (λ r. tells_damage r ≡ false) (front_of rows outcomes) _ h (refl, moved_unharmed (state_after (after_all s (front_of rows outcomes)) (began_record s)) (copies_of rows outcomes))

front_unharmed : (rows : List Row) (outcomes : List Outcome) → TellNoDamage (front_of rows outcomes) → TellNoDamage (stopped_front_of rows outcomes)
front_unharmed [] outcomes h = tt
front_unharmed (row ∷ rows) [] h = tt
front_unharmed (row ∷ rows) (NoRoom ∷ outcomes) h = front_unharmed rows outcomes h.1
front_unharmed (row ∷ rows) (Copied bytes ∷ outcomes) h = front_unharmed rows outcomes h
front_unharmed (row ∷ rows) (Spoiled found ∷ outcomes) h = (h.0, front_unharmed rows outcomes h.1)
front_unharmed (row ∷ rows) (ReadRefused count ∷ outcomes) h = (refl, front_unharmed rows outcomes h.1.1)

stopped_unharmed : (rows : List Row) (outcomes : List Outcome) (count : ℕ) → TellNoDamage (front_of rows outcomes) → TellNoDamage (stopped_records rows outcomes count)
stopped_unharmed rows outcomes count h = all_append (λ r. tells_damage r ≡ false) (stopped_front_of rows outcomes) (rec.Fault count ∷ []) (front_unharmed rows outcomes h) (refl, tt)

-- ---- what was asked

-- the bytes of the buffer, and the block to which they go
pub record GoesOut (s : State) (at : ℕ) (bytes : List ℕ) : Type 0 where
  pub at_is : at ≡ block_of s.geometry s.cursor
  pub whole : length bytes / 512 ≡ s.filled
  pub holds : AllByRecursion (λ (row : Row). s.cursor ≤ row.place → document_digest (bytes_from s bytes row) ≡ row.digest) s.rows

all_hold : (s : State) (b : Buffer) (rows : List Row) → b.cursor ≡ s.cursor → AllByRecursion (IsBufferedWhereNew b) rows
    → AllByRecursion (λ (row : Row). s.cursor ≤ row.place → document_digest (bytes_from s b.bytes row) ≡ row.digest) rows
all_hold s b [] same h = tt
all_hold s b (row ∷ rows) same h = (
  λ from.
      ap (λ n. document_digest (take (512 * row.blocks) (drop (512 * (row.place - n)) b.bytes))) (sym same)
      ∙ (h.0 (let above : s.cursor ≤ row.place = from in omega (arith, same, above))).digest,
  all_hold s b rows same h.1,
)

pub goes_out : (s : State) (c : Seen) → IsHeld s c → GoesOut s (block_of c.geometry c.buffer.cursor) c.buffer.bytes
goes_out s c held = record {
  at_is = ap (λ g. block_of g c.buffer.cursor) held.geometry ∙ ap (block_of s.geometry) held.cursor;
  whole = held.filled;
  holds = all_hold s c.buffer s.rows held.cursor held.buffered;
}

-- the device took it, and did nothing else
pub record IsTaken (s : State) (mid after : Device) : Type 0 where
  pub at : ℕ
  pub bytes : List ℕ
  pub buffer : GoesOut s at bytes
  pub wrote : after.past ≡ Wrote at bytes ∷ mid.past
  pub goes : IsAfter mid after

-- or refused it
pub record IsLeft (s : State) (mid after : Device) : Type 0 where
  pub at : ℕ
  pub bytes : List ℕ
  pub left : List ℕ
  pub buffer : GoesOut s at bytes
  pub refused : after.past ≡ RefusedCall (ToWrite at (length bytes / 512) left) after.faults ∷ mid.past
  pub goes : IsAfter mid after

pub taken_by_write : (s : State) (c mid out : Seen) (device : Device) → IsHeld s c → SameTape c mid → WritesBuffer mid out (Ok tt) → device ≡ out.device → IsTaken s mid.device device
taken_by_write s c mid out device held same wrote is = record {
  at = block_of mid.geometry mid.buffer.cursor;
  bytes = mid.buffer.bytes;
  buffer = rw (ap (λ (y : Seen). y.geometry) same, ap (λ (y : Seen). y.buffer) same) (goes_out s c held);
  wrote = ap (λ (d : Device). d.past) is ∙ wrote.logs.past;
  goes = subst (λ d. IsAfter mid.device d) (sym is) (write_goes_on mid out (Ok tt) wrote);
}

pub left_by_write : (s : State) (c mid out : Seen) (device : Device) (e : Failed) → IsHeld s c → SameTape c mid → WritesBuffer mid out (Err e) → device ≡ out.device → IsLeft s mid.device device
left_by_write s c mid out device e held same wrote is = record {
  at = block_of mid.geometry mid.buffer.cursor;
  bytes = mid.buffer.bytes;
  left = wrote.logs.0.0;
  buffer = rw (ap (λ (y : Seen). y.geometry) same, ap (λ (y : Seen). y.buffer) same) (goes_out s c held);
  refused = ap (λ (d : Device). d.past) is
      ∙ (wrote.logs.0.1 ∙ ap (λ n. RefusedCall (ToWrite (block_of mid.geometry mid.buffer.cursor) (length mid.buffer.bytes / 512) wrote.logs.0.0) n ∷ mid.device.past) (sym (ap (λ (d : Device). d.faults) is)));
  goes = subst (λ d. IsAfter mid.device d) (sym is) (write_goes_on mid out (Err e) wrote);
}

pub flush_asked : (now : ℕ) (old new : Kept) (before mid after : Device) (a : Ahead) (flushed : Flushed) → IsSound (state_of old) → CanFlush (state_of old)
    → LooksAhead now (state_of old) before mid a → IsTaken (state_of old) mid after → new ≡ with_records old (done_records (state_of old) a.due.items a.fates.items a.bytes.items)
    → FlushesAsAsked now old new before.past after (Ok flushed)
flush_asked now old new before mid after a flushed sound able looks taken is =
    let s : State = state_of old in
    let records : done_records s a.due.items a.fates.items a.bytes.items ≡ flush_records s (due_pieces s now) looks.outcomes = done_is now s before mid a sound looks in
    let added : List Rec = flush_records s (due_pieces s now) looks.outcomes in
    let adds : new ≡ with_records old added = is ∙ ap (with_records old) records in
    let made : List Call = Wrote taken.at taken.bytes ∷ looks.faults.made in
    let past : after.past ≡ made ++ before.past = taken.wrote ∙ ap (λ calls. Wrote taken.at taken.bytes ∷ calls) looks.faults.past in
    let one : HasEffects mid.past after.past (Took ∷ []) = record { made = Wrote taken.at taken.bytes ∷ []; past = taken.wrote; are = refl } in
    record {
      added = added;
      adds = adds;
      kinds = flush_kinds s (due_pieces s now) looks.outcomes;
      live = subst (LiveBefore s) (sym (ap state_of adds ∙ state_of-with_records old added)) (flush_before s now looks.outcomes sound (later_began s sound).floor);
      unharmed = λ told. flush_unharmed s (due_pieces s now) looks.outcomes (looks.unharmed (told_before mid after taken.goes told));
      faults = subst (HasEffects before.past after.past) (sym (flush_counts now s before mid a sound looks))
          (effects_then before.past mid.past after.past (effects_among looks.outcomes) (Took ∷ []) looks.faults one);
      does = λ p moment covers. Legal.DoesFlush.flushes (record {
        unsynced = covers.unsynced;
        outcomes = looks.outcomes;
        can = able;
        takes = record {
          bytes = taken.bytes;
          written = subst (λ at. IsAmong (Wrote at taken.bytes) p.events) taken.buffer.at_is (covers.knows made past).0;
          whole = taken.buffer.whole;
          holds = taken.buffer.holds;
        };
        are = subst (λ n. AreOutcomes p s (budget_of s.geometry) (due_pieces s n) looks.outcomes) (sym moment)
            (looks.are p (covers_first p before.past mid.past after.past (Wrote taken.at taken.bytes ∷ []) taken.wrote covers));
        is = ap (λ n. flush_records s (due_pieces s n) looks.outcomes) (sym moment);
      });
    }

-- the device refused to take the buffer, in a state that has it still
counts_write : (p : Permit) (s t : State) (before mid after : Device) (made : List Call) (left : IsLeft s mid after)
    → (t.geometry ≡ s.geometry) × (t.cursor ≡ s.cursor) × (t.filled ≡ s.filled) → after.past ≡ (RefusedCall (ToWrite left.at (length left.bytes / 512) left.left) after.faults ∷ made) ++ before.past
    → t.fault ≤ mid.faults → Rose mid.faults after.faults → Covers p before.past after.past → CountsWrite p t after.faults
counts_write p s t before mid after made left same past low rose covers =
    let at : left.at ≡ block_of t.geometry t.cursor =
    left.buffer.at_is ∙ (ap (λ g. block_of g s.cursor) (sym same.0) ∙ ap (block_of t.geometry) (sym same.1)) in
    record {
      left = left.left;
      counts = record {
        rose = lower_rose t.fault mid.faults after.faults low rose;
        refused = subst (λ call. IsAmong call p.events)
            (ap (λ k. RefusedCall (ToWrite k (length left.bytes / 512) left.left) after.faults) at
            ∙ ap (λ n. RefusedCall (ToWrite (block_of t.geometry t.cursor) n left.left) after.faults) (left.buffer.whole ∙ sym same.2))
            (covers.knows (RefusedCall (ToWrite left.at (length left.bytes / 512) left.left) after.faults ∷ made) past).0;
      };
    }

pub stop_asked : (now : ℕ) (old new : Kept) (before mid after : Device) (a : Ahead) → IsSound (state_of old) → CanFlush (state_of old) → (state_of old).fault ≤ before.faults → before.faults ≤ mid.faults
    → LooksAhead now (state_of old) before mid a → IsLeft (state_of old) mid after → Rose mid.faults after.faults
    → new ≡ with_records old (told_of_pieces false a.due.items a.fates.items ++ rec.Fault after.faults ∷ [])
    → FlushesAsAsked now old new before.past after (Err (stop.DeviceFault after.faults))
stop_asked now old new before mid after a sound able low first looks left rose is =
    let s : State = state_of old in
    let count : ℕ = after.faults in
    let added : List Rec = stopped_records (due_pieces s now) looks.outcomes count in
    let adds : new ≡ with_records old added = is ∙ ap (λ told. with_records old (told ++ rec.Fault count ∷ [])) (stopped_front now s before mid a sound looks) in
    let front : List Rec = stopped_front_of (due_pieces s now) looks.outcomes in
    let last : (after_all s front).fault ≤ mid.faults = fault_low now s before mid a sound looks (omega (arith, low, first)) in
    let aside : AllAside front = (all_parts IsAside front (rec.Fault count ∷ []) (stopped_aside (due_pieces s now) looks.outcomes count)).0 in
    let call : Call = RefusedCall (ToWrite left.at (length left.bytes / 512) left.left) count in
    let past : after.past ≡ (call ∷ looks.faults.made) ++ before.past = left.refused ∙ ap (λ calls. call ∷ calls) looks.faults.past in
    let one : HasEffects mid.past after.past (Denied count ∷ []) = record { made = call ∷ []; past = left.refused; are = refl } in
    record {
      added = added;
      adds = adds;
      kinds = stopped_kinds (due_pieces s now) looks.outcomes count;
      live = subst (LiveBefore s) (sym (ap state_of adds ∙ state_of-with_records old added)) (stopped_before s (due_pieces s now) looks.outcomes count);
      unharmed = λ told. stopped_unharmed (due_pieces s now) looks.outcomes count (looks.unharmed (told_before mid after left.goes told));
      faults = subst (HasEffects before.past after.past) (sym (stopped_counts now s before mid a sound looks count))
          (effects_then before.past mid.past after.past (effects_among looks.outcomes) (Denied count ∷ []) looks.faults one);
      does = λ p moment covers. Legal.DoesFlush.stops count (record {
        unsynced = covers.unsynced;
        outcomes = looks.outcomes;
        can = able;
        are = subst (λ n. AreOutcomes p s (budget_of s.geometry) (due_pieces s n) looks.outcomes) (sym moment)
            (looks.are p (covers_first p before.past mid.past after.past (call ∷ []) left.refused covers));
        counts = subst (λ n. CountsWrite p (after_all s (stopped_front_of (due_pieces s n) looks.outcomes)) count) (sym moment)
            (counts_write p s (after_all s front) before mid after looks.faults.made left (buffer_left s front (aside_leaves front aside)) past last rose covers);
        is = ap (λ n. stopped_records (due_pieces s n) looks.outcomes count) (sym moment);
      });
    }

-- ---- what it uses up

pub flush_uses : (n e records entries room left : ℕ) (c mid out new : Seen) (result : Result (Unit {0}) Failed) → SameTape c mid → IsAsked c.device mid.device
    → LeaveCopies c.geometry c.device.past mid.device.past → SameTape mid out → WritesBuffer mid out result → filled_of c.buffer ≤ c.geometry.agg → Uses n e 0 0 room left out new → n ≤ records → e ≤ entries
    → Uses records entries 1 c.geometry.agg room left c new
flush_uses n e records entries room left c mid out new result first asked leaves second wrote few uses fits enters =
    let read = asked.keeps in
    let still : mid.geometry ≡ c.geometry = ap (λ (y : Seen). y.geometry) first in
    let geometry : out.geometry ≡ c.geometry = ap (λ (y : Seen). y.geometry) second ∙ still in
    let spare : out.spare ≡ c.spare = ap (λ (y : Seen). y.spare) second ∙ ap (λ (y : Seen). y.spare) first in
    let filled : filled_of mid.buffer ≡ filled_of c.buffer = ap (λ (y : Seen). filled_of y.buffer) first in
    record {
      same = uses.same ∙ geometry;
      of_records = omega (arith, uses.of_records, fits);
      of_entries = omega (arith, uses.of_entries, enters, spare);
      device = record {
        size = uses.device.size ∙ (wrote.keeps.size ∙ read.size);
        trust = omega (arith, uses.device.trust, wrote.keeps.trust, read.trust);
        number = uses.device.number ∙ (wrote.keeps.number ∙ read.number);
        switch = uses.device.switch ∙ (wrote.keeps.switch ∙ read.switch);
        settled = uses.device.settled ∙ (wrote.keeps.settled ∙ read.settled);
        first = uses.device.first ∙ (wrote.keeps.first ∙ read.first);
        calls = omega (arith, uses.device.calls, wrote.keeps.calls, read.calls);
        blocks = omega (arith, uses.device.blocks, wrote.keeps.blocks, read.blocks, filled, few);
      };
      goes = goes_further c.device mid.device new.device asked.goes (goes_further mid.device out.device new.device (write_goes_on mid out result wrote) uses.goes);
      leaves = leave_further c.geometry c.device.past mid.device.past new.device.past leaves
          (leave_further c.geometry mid.device.past out.device.past new.device.past
          (subst (λ g. LeaveCopies g mid.device.past out.device.past) still (write_leaves_copies mid out result wrote))
          (subst (λ g. LeaveCopies g out.device.past new.device.past) geometry uses.leaves));
      later = omega (arith, uses.later, wrote.cause.later, asked.later);
    }
