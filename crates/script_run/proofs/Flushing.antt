-- A flush leaves what stands to what writers took, or shows two documents of one SHA-256.
use Rattle.std.proofs.Common.{◌≡◌, ℕ, ◌-◌, List, [], ◌∷◌, refl, sym, ◌∙◌, ap, subst, arith, inl, ◌⊎◌, Bool, true, false}
use Rattle.std.specs.Prelude.{find, ◌==◌}
use Rattle.std.specs.List.{AllByRecursion}
use Rattle.alternate_vector.proofs.Loops.{each_push}
use Rattle.tape_base.specs.declared.digests.Digest.{Digest}
use Rattle.tape_base.specs.declared.geometries.Geometry.{Geometry}
use Rattle.doc_header.specs.Moving.{moved_to}
use Rattle.doc_header.specs.Reading.{document_digest}
use Rattle.cache_model.specs.declared.record.Rec.{Rec}
use Rattle.cache_model.specs.declared.record.Rec.TheVariants as rec
use Rattle.cache_model.specs.State.{State, Row, PutRow, after_all, place_now, state_after, without}
use Rattle.cache_model.specs.Pair.{IsCopyPair, IsPairOf}
use Rattle.cache_model.specs.Permit.{Permit}
use Rattle.cache_model.specs.Tape.{AreApart, IsSound}
use Rattle.cache_model.specs.Due.{due_pieces}
use Rattle.cache_model.specs.ToRead
use Rattle.cache_model.specs.ToRead.{ComesTo}
use Rattle.cache_model.specs.Outcomes.{AreOutcomes, Copied, Copy, NoRoom, Outcome, ReadRefused, Spoiled, began_record, copies_of, flush_records, front_of, moved_record, moved_records, records_of, stopped_front_of, stopped_records, stopped_records_of}
use Rattle.cache_model.proofs.Rows.{ArePart, apart-part, part-filter, part-trans, part_all, each_part}
use Rattle.cache_model.proofs.Steps.{after_all-append}
use Rattle.cache_model.proofs.Copies.{AreReady, IsReady, copied_is, others_stand, rows_of, still_ready}
use Rattle.cache_model.proofs.SoundFlush.{copies_part, copies_ready, due_part, part_ready}
use Rattle.cache_model.proofs.Live.{IsFound, due_are_live}
use Rattle.step_laws.proofs.ToldFlush.{LeadsTo, as_shown, go_on, moved}
use Rattle.step_laws.proofs.Alike.{ReadsAlike, given_alike, reads_back, reads_self}
use Rattle.script_run.specs.Run.{Stream}
use Rattle.script_run.specs.Own.{AreOwnPuts, IsOwnReader}
use Rattle.script_run.proofs.Saying.{IsCopied, IsRow, Kind, Stands, rows_carried}
use Rattle.script_run.proofs.Carried.{AreAlike, Carries, puts_stay, readers_carried, same_carries}
use Rattle.script_run.proofs.Held.{IsHeld, IsPendingWhole, held_alike}

-- ---- what no record of a flush changes

pub record SameBooks (s t : State) : Type 0 where
  pub geometry : t.geometry ≡ s.geometry
  pub next_put : t.next_put ≡ s.next_put
  pub puts : t.puts ≡ s.puts
  pub pending : t.pending ≡ s.pending
  pub displaced : t.displaced ≡ s.displaced
  pub readers : t.readers ≡ s.readers
  pub next_reader : t.next_reader ≡ s.next_reader

books_self : (s : State) → SameBooks s s
books_self s = record { geometry = refl; next_put = refl; puts = refl; pending = refl; displaced = refl; readers = refl; next_reader = refl }

books_trans : (s t u : State) → SameBooks s t → SameBooks t u → SameBooks s u
books_trans s t u a b = record {
  geometry = b.geometry ∙ a.geometry;
  next_put = b.next_put ∙ a.next_put;
  puts = b.puts ∙ a.puts;
  pending = b.pending ∙ a.pending;
  displaced = b.displaced ∙ a.displaced;
  readers = b.readers ∙ a.readers;
  next_reader = b.next_reader ∙ a.next_reader;
}

-- and no piece is new
pub record OnlyLoses (s t : State) : Type 0 where
  pub books : SameBooks s t
  pub rows : ArePart t.rows s.rows

loses_self : (s : State) → OnlyLoses s s
loses_self s = record { books = books_self s; rows = part_all s.rows }

loses_trans : (s t u : State) → OnlyLoses s t → OnlyLoses t u → OnlyLoses s u
loses_trans s t u a b = record { books = books_trans s t u a.books b.books; rows = part-trans b.rows a.rows }

unsaved_loses : (s : State) (row : Row) (fault : Bool) → OnlyLoses s (state_after s (rec.Unsaved row.id row.place fault))
unsaved_loses s row fault =
    record { books = record { geometry = refl; next_put = refl; puts = refl; pending = refl; displaced = refl; readers = refl; next_reader = refl }; rows = part_all s.rows }

damaged_loses : (s : State) (row : Row) (kept found : Digest) → OnlyLoses s (state_after s (rec.Damaged row.id row.place kept found))
damaged_loses s row kept found =
    record { books = record { geometry = refl; next_put = refl; puts = refl; pending = refl; displaced = refl; readers = refl; next_reader = refl }; rows = part-filter _ s.rows }

fault_loses : (s : State) (count : ℕ) → OnlyLoses s (state_after s (rec.Fault count))
fault_loses s count =
    record { books = record { geometry = refl; next_put = refl; puts = refl; pending = refl; displaced = refl; readers = refl; next_reader = refl }; rows = part_all s.rows }

loses_of : (s : State) (row : Row) (o : Outcome) → OnlyLoses s (after_all s (records_of row o))
loses_of s row NoRoom = unsaved_loses s row false
loses_of s row (Copied bytes) = loses_self s
loses_of s row (Spoiled found) = damaged_loses s row row.digest found
loses_of s row (ReadRefused count) =
    let t : State = state_after s (rec.Fault count) in
    loses_trans s t (after_all s (records_of row (ReadRefused count))) (fault_loses s count) (unsaved_loses t row true)

-- behind the records of what is not copied
front_loses : (s : State) (rows : List Row) (outcomes : List Outcome) → OnlyLoses s (after_all s (front_of rows outcomes))
front_loses s [] outcomes = loses_self s
front_loses s (row ∷ rows) [] = loses_self s
front_loses s (row ∷ rows) (o ∷ outcomes) =
    let t : State = after_all s (records_of row o) in
    subst (OnlyLoses s) (sym (after_all-append s (records_of row o) (front_of rows outcomes)))
    (loses_trans s t (after_all t (front_of rows outcomes)) (loses_of s row o) (front_loses t rows outcomes))

stopped_loses_of : (s : State) (row : Row) (o : Outcome) → OnlyLoses s (after_all s (stopped_records_of row o))
stopped_loses_of s row NoRoom = loses_self s
stopped_loses_of s row (Copied bytes) = loses_self s
stopped_loses_of s row (Spoiled found) = damaged_loses s row row.digest found
stopped_loses_of s row (ReadRefused count) = fault_loses s count

stopped_front_loses : (s : State) (rows : List Row) (outcomes : List Outcome) → OnlyLoses s (after_all s (stopped_front_of rows outcomes))
stopped_front_loses s [] outcomes = loses_self s
stopped_front_loses s (row ∷ rows) [] = loses_self s
stopped_front_loses s (row ∷ rows) (o ∷ outcomes) =
    let t : State = after_all s (stopped_records_of row o) in
    subst (OnlyLoses s) (sym (after_all-append s (stopped_records_of row o) (stopped_front_of rows outcomes)))
    (loses_trans s t (after_all t (stopped_front_of rows outcomes)) (stopped_loses_of s row o) (stopped_front_loses t rows outcomes))

pub stopped_loses : (s : State) (rows : List Row) (outcomes : List Outcome) (count : ℕ) → OnlyLoses s (after_all s (stopped_records rows outcomes count))
stopped_loses s rows outcomes count =
    let t : State = after_all s (stopped_front_of rows outcomes) in
    subst (OnlyLoses s) (sym (after_all-append s (stopped_front_of rows outcomes) (rec.Fault count ∷ [])))
    (loses_trans s t (state_after t (rec.Fault count)) (stopped_front_loses s rows outcomes) (fault_loses t count))

moved_books : (u : State) (copies : List Copy) → SameBooks u (after_all u (moved_records u copies))
moved_books u [] = books_self u
moved_books u (c ∷ copies) =
    let t : State = state_after u (moved_record u c) in
    books_trans u t (after_all t (moved_records t copies))
    (record { geometry = refl; next_put = refl; puts = refl; pending = refl; displaced = refl; readers = refl; next_reader = refl }) (moved_books t copies)

-- behind the front the next buffer begins
began_loses : (s m : State) → OnlyLoses m (state_after m (began_record s))
began_loses s m =
    record { books = record { geometry = refl; next_put = refl; puts = refl; pending = refl; displaced = refl; readers = refl; next_reader = refl }; rows = part_all m.rows }

-- where the copies go
abbrev pub opened_buffer : State → List Rec → State
opened_buffer s front = state_after (after_all s front) (began_record s)

opened_loses : (s : State) (rows : List Row) (outcomes : List Outcome) → OnlyLoses s (opened_buffer s (front_of rows outcomes))
opened_loses s rows outcomes =
    let m : State = after_all s (front_of rows outcomes) in
    loses_trans s m (opened_buffer s (front_of rows outcomes)) (front_loses s rows outcomes) (began_loses s m)

flush_is : (s : State) (rows : List Row) (outcomes : List Outcome) (P : State → Type 0)
    → (let u : State = opened_buffer s (front_of rows outcomes) in P (after_all u (moved_records u (copies_of rows outcomes)))) → P (after_all s (flush_records s rows outcomes))
flush_is s rows outcomes P h =
    let front : List Rec = front_of rows outcomes in
    subst P (sym (after_all-append s front (began_record s ∷ moved_records (opened_buffer s front) (copies_of rows outcomes)))) h

pub flush_books : (s : State) (rows : List Row) (outcomes : List Outcome) → SameBooks s (after_all s (flush_records s rows outcomes))
flush_books s rows outcomes =
    let u : State = opened_buffer s (front_of rows outcomes) in
    flush_is s rows outcomes (SameBooks s)
    (books_trans s u (after_all u (moved_records u (copies_of rows outcomes))) (opened_loses s rows outcomes).books (moved_books u (copies_of rows outcomes)))

-- ---- a flush that stops

pub loses_alike : (s t : State) → OnlyLoses s t → AreAlike s t
loses_alike s t l = record {
  geometry = l.books.geometry;
  next_put = l.books.next_put;
  puts = l.books.puts;
  pending = l.books.pending;
  rows = l.rows;
  readers = l.books.readers;
  next_reader = l.books.next_reader;
}

-- ---- what is copied

-- the flush came to it, it belongs to what its writer took, and was given
record IsSaved (kind : Kind) (p : Permit) (s : State) (streams : ℕ → Stream) (now left : ℕ) (c : Copy) : Type 0 where
  comes : ComesTo p c.row s left (due_pieces s now)
  own : IsRow kind s streams c.row
  copied : IsCopied p s c

-- it was given behind the records of others, which leave where the buffer begins
are_saved : (kind : Kind) (p : Permit) (s t : State) (streams : ℕ → Stream) (now left behind : ℕ) (rows : List Row) (outcomes : List Outcome) → ReadsAlike s t → LeadsTo p s now left t behind rows
    → AllByRecursion (IsRow kind s streams) rows → AllByRecursion (IsFound s) rows → AreOutcomes p t behind rows outcomes → AllByRecursion (IsSaved kind p s streams now left) (copies_of rows outcomes)
are_saved kind p s t streams now left behind [] outcomes same leads own live h = tt
are_saved kind p s t streams now left behind (row ∷ rows) [] same leads own live h = tt
are_saved kind p s t streams now left behind (row ∷ rows) (NoRoom ∷ outcomes) same leads own live h =
    are_saved kind p s (after_all t (records_of row NoRoom)) streams now left behind rows outcomes same (λ piece c. leads piece (ToRead.ComesTo.behind NoRoom h.0 c)) own.1 live.1 h.1
are_saved kind p s t streams now left behind (row ∷ rows) (Copied bytes ∷ outcomes) same leads own live h = (
  record { comes = leads row (ToRead.ComesTo.here h.0.0); own = own.0; copied = record { live = live.0; given = given_alike p t s row bytes (reads_back s t same) h.0.1; digest = h.0.2 } },
  are_saved kind p s t streams now left (behind - row.blocks) rows outcomes same (λ piece c. leads piece (ToRead.ComesTo.behind (Copied bytes) h.0 c)) own.1 live.1 h.1,
)
are_saved kind p s t streams now left behind (row ∷ rows) (Spoiled found ∷ outcomes) same leads own live h =
    are_saved kind p s (after_all t (records_of row (Spoiled found))) streams now left (behind - row.blocks) rows outcomes same (λ piece c. leads piece (ToRead.ComesTo.behind (Spoiled found) h.0 c)) own.1 live.1 h.1
are_saved kind p s t streams now left behind (row ∷ rows) (ReadRefused count ∷ outcomes) same leads own live h =
    are_saved kind p s (after_all t (records_of row (ReadRefused count))) streams now left (behind - row.blocks) rows outcomes same (λ piece c. leads piece (ToRead.ComesTo.behind (ReadRefused count) h.0 c)) own.1 live.1 h.1

-- the pair of a copied piece is of one to which the flush came
copy_pair : (kind : Kind) (p : Permit) (s : State) (streams : ℕ → Stream) (now left : ℕ) (c : Copy) → IsSaved kind p s streams now left c → IsPairOf (kind.documents streams) p s c.row → IsCopyPair (kind.documents streams) p s now left
copy_pair kind p s streams now left c saved pair = record { row = c.row; copied = record { written = saved.copied.given.written; comes = saved.comes }; pair = pair }

moved_own : (kind : Kind) (p : Permit) (s : State) (streams : ℕ → Stream) (now left place : ℕ) (c : Copy) → AreOwnPuts s streams → IsSaved kind p s streams now left c
    → IsRow kind s streams (moved place c) ⊎ IsCopyPair (kind.documents streams) p s now left
moved_own kind p s streams now left place c puts saved =
    go_on (as_shown (copy_pair kind p s streams now left c saved) (kind.copied p s streams place c puts saved.copied saved.own.0)) (λ says. inl (says, saved.own.1))

rows_moved : (kind : Kind) (s u : State) (streams : ℕ → Stream) (c : Copy) → IsReady u.rows c.row → IsRow kind s streams (moved (place_now u) c) → AllByRecursion (IsRow kind s streams) u.rows
    → AllByRecursion (IsRow kind s streams) (state_after u (moved_record u c)).rows
rows_moved kind s u streams c ready own each =
    let digest : Digest = document_digest (moved_to (place_now u) c.bytes) in
    let before : AllByRecursion (IsRow kind s streams) (without c.row.id u.rows) = each_part (IsRow kind s streams) (part-filter _ u.rows) each in
    subst (λ (t : State). AllByRecursion (IsRow kind s streams) t.rows) (sym (copied_is u c.row c.row.place digest ready.0))
    (each_push (IsRow kind s streams) (without c.row.id u.rows) (moved (place_now u) c) before own)

-- ---- copy after copy

all_moved : (kind : Kind) (p : Permit) (s u : State) (streams : ℕ → Stream) (now left : ℕ) (copies : List Copy) → AreOwnPuts s streams → AreApart (rows_of copies) → AreReady u.rows (rows_of copies) → AllByRecursion (IsSaved kind p s streams now left) copies
    → AllByRecursion (IsRow kind s streams) u.rows → AllByRecursion (IsRow kind s streams) (after_all u (moved_records u copies)).rows ⊎ IsCopyPair (kind.documents streams) p s now left
all_moved kind p s u streams now left [] puts apart ready saved each = inl each
all_moved kind p s u streams now left (c ∷ copies) puts apart ready saved each =
    let t : State = state_after u (moved_record u c) in
    go_on (moved_own kind p s streams now left (place_now u) c puts saved.0) (λ own.
    all_moved kind p s t streams now left copies puts apart.1 (still_ready u.rows t.rows c.row.id (others_stand u c) (rows_of copies) apart.0 ready.1) saved.1 (rows_moved kind s u streams c ready.0 own each))

flush_rows : (kind : Kind) (p : Permit) (s : State) (streams : ℕ → Stream) (now left : ℕ) (outcomes : List Outcome) → IsSound s → Stands kind s streams → AreOutcomes p s left (due_pieces s now) outcomes
    → AllByRecursion (IsRow kind s streams) (after_all s (flush_records s (due_pieces s now) outcomes)).rows ⊎ IsCopyPair (kind.documents streams) p s now left
flush_rows kind p s streams now left outcomes h own o =
    let rows : List Row = due_pieces s now in
    let copies : List Copy = copies_of rows outcomes in
    let u : State = opened_buffer s (front_of rows outcomes) in
    let apart : AreApart rows = apart-part (due_part s now) h.apart in
    let saved : AllByRecursion (IsSaved kind p s streams now left) copies =
    are_saved kind p s s streams now left left rows outcomes (reads_self s) (λ row c. c) (each_part (IsRow kind s streams) (due_part s now) own.rows) (due_are_live s now h) o in
    let ready : AreReady u.rows (rows_of copies) = copies_ready s rows outcomes apart (part_ready s rows h (due_part s now)) in
    let each : AllByRecursion (IsRow kind s streams) u.rows = each_part (IsRow kind s streams) (opened_loses s rows outcomes).rows own.rows in
    flush_is s rows outcomes (λ (t : State). AllByRecursion (IsRow kind s streams) t.rows ⊎ IsCopyPair (kind.documents streams) p s now left)
    (all_moved kind p s u streams now left copies own.puts (apart-part (copies_part rows outcomes) apart) ready saved each)

-- where the books are the same, what stands is own where its rows are
stands_by_rows : (kind : Kind) (s t : State) (streams : ℕ → Stream) → SameBooks s t → Stands kind s streams → AllByRecursion (IsRow kind s streams) t.rows → Stands kind t streams
stands_by_rows kind s t streams b own rows =
    let c : Carries s t = same_carries s t b.geometry b.puts b.pending in
    record {
      puts = puts_stay s t streams b.geometry b.next_put b.puts own.puts;
      rows = rows_carried kind s t c streams t.rows rows;
      readers = subst (AllByRecursion (IsOwnReader t)) (sym b.readers) (readers_carried s t c (omega (arith, b.next_reader)) s.readers own.readers);
    }

pub stands_flushed : (kind : Kind) (p : Permit) (s : State) (streams : ℕ → Stream) (now left : ℕ) (outcomes : List Outcome) → IsSound s → Stands kind s streams → AreOutcomes p s left (due_pieces s now) outcomes
    → Stands kind (after_all s (flush_records s (due_pieces s now) outcomes)) streams ⊎ IsCopyPair (kind.documents streams) p s now left
stands_flushed kind p s streams now left outcomes h own o =
    let t : State = after_all s (flush_records s (due_pieces s now) outcomes) in
    go_on (flush_rows kind p s streams now left outcomes h own o) (λ rows. inl (stands_by_rows kind s t streams (flush_books s (due_pieces s now) outcomes) own rows))

-- ---- what is held

-- a pending vector's put is as it was
pending_same : (s t : State) (streams : ℕ → Stream) → SameBooks s t → IsPendingWhole s streams → IsPendingWhole t streams
pending_same s t streams b whole put w found waits =
    whole put w (ap (find (λ (p : PutRow). p.put == put)) (sym b.puts) ∙ found) (sym b.pending ∙ waits)

pub held_stopped : (kind : Kind) (g : Geometry) (streams : ℕ → Stream) (s : State) (rows : List Row) (outcomes : List Outcome) (count : ℕ) → IsHeld kind g streams s
    → IsHeld kind g streams (after_all s (stopped_records rows outcomes count))
held_stopped kind g streams s rows outcomes count h =
    let t : State = after_all s (stopped_records rows outcomes count) in
    let l : OnlyLoses s t = stopped_loses s rows outcomes count in
    held_alike kind g streams s t (loses_alike s t l) (l.books.displaced ∙ h.displaced) h

pub held_flushed : (kind : Kind) (g : Geometry) (streams : ℕ → Stream) (p : Permit) (s : State) (now left : ℕ) (outcomes : List Outcome) → IsSound s → IsHeld kind g streams s
    → AreOutcomes p s left (due_pieces s now) outcomes → IsHeld kind g streams (after_all s (flush_records s (due_pieces s now) outcomes)) ⊎ IsCopyPair (kind.documents streams) p s now left
held_flushed kind g streams p s now left outcomes sound h o =
    let t : State = after_all s (flush_records s (due_pieces s now) outcomes) in
    let b : SameBooks s t = flush_books s (due_pieces s now) outcomes in
    go_on (stands_flushed kind p s streams now left outcomes sound h.stands o) (λ stands. inl (record {
      geometry = b.geometry ∙ h.geometry;
      stands = stands;
      displaced = b.displaced ∙ h.displaced;
      pending = pending_same s t streams b h.pending;
    }))
