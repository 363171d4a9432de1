-- What each record makes of what stands.
use Rattle.std.proofs.Common.{◌≡◌, ℕ, ◌+◌, ◌≤◌, List, [], ◌∷◌, length, refl, sym, ◌∙◌, ap, subst, arith, inl, inr, Bool, true, false}
use Rattle.std.specs.Prelude.{Some, if◌then◌else◌, find, ◌==◌}
use Rattle.std.specs.List.{AllByRecursion}
use Rattle.tape_base.specs.declared.geometries.Geometry.{Geometry}
use Rattle.fragment_table.specs.Table.{total_length}
use Rattle.cache_model.specs.declared.record.Rec.{Rec}
use Rattle.cache_model.specs.declared.record.Rec.TheVariants as rec
use Rattle.cache_model.specs.State.{State, PutRow, ReaderRow, Open, Closed, GivenUp, change_reader, put_of, state_after, vector_piece, with_writing, without_reader}
use Rattle.cache_model.specs.Legal.{IsQuiet, IsWriting}
use Rattle.cache_model.proofs.Found.{none_is, number_of, same_some}
use Rattle.cache_model.proofs.Rows.{part_all, part-filter}
use Rattle.cache_model.proofs.Syncing.{resynced}
use Rattle.script_run.specs.Run.{Stream}
use Rattle.script_run.specs.Own.{AreOwnPuts, IsComplete, IsOwnPut, IsOwnReader}
use Rattle.script_run.proofs.Saying.{IsRow, Kind, Stands, stands_alike, rows_carried}
use Rattle.script_run.proofs.Carried.{AreAlike, Carries, GoesOn, StaysWhole, all_filter, put_stays, puts_stay, readers_carried, same_carries}
use Rattle.script_run.proofs.Changed.{Changes, Was, changed, changed_from, changed_to, either, found_as, other_stays}

-- a put whose vector was placed last has cut all that its writer took
abbrev pub IsPendingWhole : State → (ℕ → Stream) → Type 0
IsPendingWhole s streams = (put : ℕ) (w : PutRow) → put_of s put ≡ Some w → s.pending ≡ Some (vector_piece w.key put) → total_length w.cuts ≡ length (streams w.put).bytes

-- what holds before and behind each group of records
pub record IsHeld (kind : Kind) (g : Geometry) (streams : ℕ → Stream) (s : State) : Type 0 where
  pub geometry : s.geometry ≡ g
  pub stands : Stands kind s streams
  pub displaced : s.displaced ≡ []
  pub pending : IsPendingWhole s streams

pub quiet_whole : (s : State) (streams : ℕ → Stream) → IsQuiet s → IsPendingWhole s streams
quiet_whole s streams quiet put w found waits = none_is (sym quiet ∙ waits)

-- ---- states alike

pub held_alike : (kind : Kind) (g : Geometry) (streams : ℕ → Stream) (s t : State) → AreAlike s t → t.displaced ≡ [] → IsHeld kind g streams s → IsHeld kind g streams t
held_alike kind g streams s t a none h = record {
  geometry = a.geometry ∙ h.geometry;
  stands = stands_alike kind s t streams a h.stands;
  displaced = none;
  pending = λ put w found waits. h.pending put w (ap (find (λ (p : PutRow). p.put == put)) (sym a.puts) ∙ found) (sym a.pending ∙ waits);
}

-- readers that have gone on or were closed
pub held_readers : (kind : Kind) (g : Geometry) (streams : ℕ → Stream) (s : State) (readers : List ReaderRow) (next : ℕ) → s.next_reader ≤ next
    → (let t : State = record s { readers = readers; next_reader = next } in AllByRecursion (IsOwnReader t) readers)
    → IsHeld kind g streams s → IsHeld kind g streams (record s { readers = readers; next_reader = next })
held_readers kind g streams s readers next on each h =
    let t : State = record s { readers = readers; next_reader = next } in
    let c : Carries s t = same_carries s t refl refl refl in
    record {
      geometry = h.geometry;
      stands = record {
        puts = puts_stay s t streams refl refl refl h.stands.puts;
        rows = rows_carried kind s t c streams s.rows h.stands.rows;
        readers = each;
      };
      displaced = h.displaced;
      pending = h.pending;
    }

moved_by : (s : State) (r : ReaderRow) (next : ℕ) (b : Bool) → IsOwnReader s r → IsOwnReader s (if b then record r { next = next } else r)
moved_by s r next true own = record { begun = own.begun; table = own.table }
moved_by s r next false own = own

pub readers_moved : (s : State) (reader next : ℕ) (readers : List ReaderRow) → AllByRecursion (IsOwnReader s) readers → AllByRecursion (IsOwnReader s) (change_reader reader next readers)
readers_moved s reader next [] each = tt
readers_moved s reader next (r ∷ readers) each = (moved_by s r next (r.reader == reader) each.0, readers_moved s reader next readers each.1)

-- the record changes no put, places nothing, opens nothing and commits nothing
abbrev pub IsPlain : Rec → Type 0
IsPlain (rec.Began cursor floor) = Unit {0}
IsPlain (rec.Unsaved piece place fault) = Unit {0}
IsPlain (rec.Damaged piece place kept found) = Unit {0}
IsPlain (rec.Removed put key) = Unit {0}
IsPlain (rec.Gave reader index length) = Unit {0}
IsPlain (rec.Ended reader length) = Unit {0}
IsPlain (rec.Waited reader cut) = Unit {0}
IsPlain (rec.Broke reader why) = Unit {0}
IsPlain (rec.ReadClosed reader) = Unit {0}
IsPlain (rec.Fault count) = Unit {0}
IsPlain (rec.SyncBegun serial cursor clean in_parts) = Unit {0}
IsPlain (rec.SyncDone serial) = Unit {0}
IsPlain _ = ⊥

alike_with : (s t : State) → t.geometry ≡ s.geometry → t.next_put ≡ s.next_put → t.puts ≡ s.puts → t.pending ≡ s.pending → Rattle.cache_model.proofs.Rows.ArePart t.rows s.rows → t.readers ≡ s.readers → t.next_reader ≡ s.next_reader → AreAlike s t
alike_with s t g n p q r d m = record { geometry = g; next_put = n; puts = p; pending = q; rows = r; readers = d; next_reader = m }

pub held_plain : (kind : Kind) (g : Geometry) (streams : ℕ → Stream) (s : State) (r : Rec) → IsPlain r → IsHeld kind g streams s → IsHeld kind g streams (state_after s r)
held_plain kind g streams s (rec.Began cursor floor) p h = held_alike kind g streams s _ (alike_with s _ refl refl refl refl (part_all s.rows) refl refl) h.displaced h
held_plain kind g streams s (rec.Unsaved piece place fault) p h = held_alike kind g streams s _ (alike_with s _ refl refl refl refl (part_all s.rows) refl refl) h.displaced h
held_plain kind g streams s (rec.Damaged piece place kept found) p h = held_alike kind g streams s _ (alike_with s _ refl refl refl refl (part-filter _ s.rows) refl refl) h.displaced h
held_plain kind g streams s (rec.Removed put key) p h = held_alike kind g streams s _ (alike_with s _ refl refl refl refl (part-filter _ s.rows) refl refl) h.displaced h
held_plain kind g streams s (rec.Gave reader index length) p h =
    let t : State = state_after s (rec.Gave reader index length) in
    held_readers kind g streams s (change_reader reader (index + 1) s.readers) s.next_reader (omega arith)
    (readers_moved t reader (index + 1) s.readers (readers_carried s t (same_carries s t refl refl refl) (omega arith) s.readers h.stands.readers)) h
held_plain kind g streams s (rec.Ended reader length) p h = h
held_plain kind g streams s (rec.Waited reader cut) p h = h
held_plain kind g streams s (rec.Broke reader why) p h = h
held_plain kind g streams s (rec.ReadClosed reader) p h =
    let t : State = state_after s (rec.ReadClosed reader) in
    held_readers kind g streams s (without_reader reader s.readers) s.next_reader (omega arith)
    (all_filter (IsOwnReader t) _ s.readers (readers_carried s t (same_carries s t refl refl refl) (omega arith) s.readers h.stands.readers)) h
held_plain kind g streams s (rec.Fault count) p h = held_alike kind g streams s _ (alike_with s _ refl refl refl refl (part_all s.rows) refl refl) h.displaced h
held_plain kind g streams s (rec.SyncBegun serial cursor clean in_parts) p h = held_alike kind g streams s _ (alike_with s _ refl refl refl refl (part_all s.rows) refl refl) h.displaced h
held_plain kind g streams s (rec.SyncDone serial) p h = held_alike kind g streams s _ (alike_with s _ refl refl refl refl (part_all s.rows) refl refl) h.displaced h
held_plain kind g streams s _ p h = absurd p

-- whatever is known of syncs
pub held_resynced : (kind : Kind) (g : Geometry) (streams : ℕ → Stream) (u s : State) → IsHeld kind g streams s → IsHeld kind g streams (resynced u s)
held_resynced kind g streams u s h = held_alike kind g streams s (resynced u s) (alike_with s _ refl refl refl refl (part_all s.rows) refl refl) h.displaced h

-- ---- a put changes

-- the put that is open is changed, and cuts nothing less
pub record IsChange (s : State) (put : ℕ) (f : PutRow → PutRow) (w : PutRow) : Type 0 where
  pub number : (p : PutRow) → (f p).put ≡ p.put
  pub more : (p : PutRow) → length p.cuts ≤ length (f p).cuts
  pub writing : IsWriting s put w

module _ (s t : State) (put : ℕ) (f : PutRow → PutRow) (w : PutRow) (ch : IsChange s put f w) (c : Changes s t put f) where
  goes_on : (n : ℕ) (x : PutRow) → put_of s n ≡ Some x → GoesOn t n x
  goes_on n x found = record {
    now = changed put f x;
    found = changed_to s t put f n x c found;
    more = either (λ (y : PutRow). length x.cuts ≤ length y.cuts) put f x (λ e. ch.more x) (omega arith);
  }

  -- what is complete is another put
  other_complete : (n : ℕ) (x : PutRow) → put_of s n ≡ Some x → x.writing ≡ Closed → x.put ≡ put → ⊥
  other_complete n x found closed here =
      let same : x ≡ w = same_some x w (put_of s put) (found_as s n put x found here) ch.writing.found in
      let is_open : x.writing ≡ Open = ap (λ (p : PutRow). p.writing) same ∙ ch.writing.is_open in
      cc

  whole_stays : (n : ℕ) (x : PutRow) → put_of s n ≡ Some x → IsComplete s n x → StaysWhole t n x
  whole_stays n x found complete = elim complete [
    | inl closed ↦ (
        let stays : changed put f x ≡ x = other_stays put f x (other_complete n x found closed) in
        record { now = x; found = changed_to s t put f n x c found ∙ ap Some stays; key = refl; stands_for = refl; complete = inl closed })
    | inr waits ↦ none_is (sym ch.writing.quiet ∙ waits)
  ]

  pub change_carries : t.geometry ≡ s.geometry → Carries s t
  change_carries geometry = record { geometry = geometry; whole = whole_stays; puts = goes_on }

  pub change_puts : (streams : ℕ → Stream) → t.geometry ≡ s.geometry → s.next_put ≤ t.next_put → IsOwnPut t streams (f w) → AreOwnPuts s streams → AreOwnPuts t streams
  change_puts streams geometry next new own n x found =
      let was : Was (put_of s n) (changed put f) x = changed_from s t put f n x c found in
      let old : IsOwnPut t streams was.old = put_stays s t streams was.old geometry next (own n was.old was.found) in
      subst (IsOwnPut t streams) (sym was.is)
      (either (IsOwnPut t streams) put f was.old
      (λ here. subst (λ (p : PutRow). IsOwnPut t streams (f p)) (same_some w was.old (put_of s put) ch.writing.found (found_as s n put was.old was.found here)) new) old)

  -- where nothing else is changed
  pub change_stands : (kind : Kind) (streams : ℕ → Stream) → t.geometry ≡ s.geometry → t.next_put ≡ s.next_put → t.rows ≡ s.rows → t.readers ≡ s.readers → t.next_reader ≡ s.next_reader
      → IsOwnPut t streams (f w) → Stands kind s streams → Stands kind t streams
  change_stands kind streams geometry next rows readers next_reader new own =
      let k : Carries s t = change_carries geometry in
      record {
        puts = change_puts streams geometry (omega (arith, next)) new own.puts;
        rows = subst (AllByRecursion (IsRow kind t streams)) (sym rows) (rows_carried kind s t k streams s.rows own.rows);
        readers = subst (AllByRecursion (IsOwnReader t)) (sym readers) (readers_carried s t k (omega (arith, next_reader)) s.readers own.readers);
      }

-- an open put is given up
pub held_aborted : (kind : Kind) (g : Geometry) (streams : ℕ → Stream) (s : State) (put : ℕ) (w : PutRow) → IsWriting s put w → IsHeld kind g streams s → IsHeld kind g streams (state_after s (rec.Aborted w.put w.key))
held_aborted kind g streams s put w writing h =
    let t : State = state_after s (rec.Aborted w.put w.key) in
    let number : w.put ≡ put = number_of s put w writing.found in
    let here : IsWriting s w.put w = subst (λ n. IsWriting s n w) (sym number) writing in
    let p : IsOwnPut s streams w = h.stands.puts put w writing.found in
    let new : IsOwnPut t streams (with_writing GivenUp w) = record {
      begun = p.begun;
      cuts = p.cuts;
      whole = λ closed. absurd cc;
      full = λ is_open unsealed. absurd cc;
    } in
    record {
      geometry = h.geometry;
      stands = change_stands s t w.put (with_writing GivenUp) w (record { number = λ p. refl; more = λ p. omega arith; writing = here }) (record { puts = refl; keeps = λ p. refl }) kind streams refl refl refl refl refl new h.stands;
      displaced = h.displaced;
      pending = quiet_whole t streams writing.quiet;
    }
