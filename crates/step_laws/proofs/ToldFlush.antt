-- A flush leaves vectors that list their alternates, or shows two documents of one SHA-256.
use Rattle.std.proofs.Common.{◌≡◌, ℕ, ◌-◌, ◌^◌, ◌<◌, ◌≤◌, ◌⊎◌, List, [], ◌∷◌, length, refl, sym, ◌∙◌, subst, arith, Bool, true, false, inl, inr}
use Rattle.std.specs.List.{AllByRecursion}
use Rattle.tape_base.specs.declared.digests.Digest.{Digest}
use Rattle.tape_base.specs.declared.geometries.Geometry.{Geometry}
use Rattle.tape_base.specs.Blocks.{blocks_of}
use Rattle.tape_base.specs.Geometry.{budget_of}
use Rattle.tape_base.specs.Piece.{is_vector}
use Rattle.doc_header.specs.Moving.{moved_to}
use Rattle.doc_header.specs.Reading.{document_digest}
use Rattle.doc_header.proofs.MovingLaws.{moved_is_same_lem}
use Rattle.alternate_vector.specs.Alternates.{Stored}
use Rattle.alternate_vector.specs.Spelling.{vector_bytes}
use Rattle.alternate_vector.proofs.Bytes.{vector_small}
use Rattle.alternate_vector.proofs.Loops.{each_push}
use Rattle.cache_model.specs.declared.record.Rec.{Rec}
use Rattle.cache_model.specs.State.{State, Row, after_all, moved_row, place_now, state_after, without}
use Rattle.cache_model.specs.Pair.{IsCopyPair, IsPairOf}
use Rattle.cache_model.specs.Permit.{Permit}
use Rattle.cache_model.specs.Given.{IsGiven}
use Rattle.cache_model.specs.Tape.{AreApart, IsSound}
use Rattle.cache_model.specs.Vectors.{AreTold, IsListed, IsVectorAs, IsVectorRow, vector_doc, vector_document}
use Rattle.cache_model.proofs.Found.{no_truth}
use Rattle.cache_model.proofs.Rows.{apart-part, part-filter, part_all, each_part}
use Rattle.cache_model.proofs.Sound.{buffer_left}
use Rattle.cache_model.proofs.Steps.{after_all-append, all_as}
use Rattle.cache_model.specs.Due.{due_pieces}
use Rattle.cache_model.specs.ToRead
use Rattle.cache_model.specs.ToRead.{ComesTo}
use Rattle.cache_model.specs.Outcomes.{AreOutcomes, Copied, Copy, NoRoom, Outcome, ReadRefused, Spoiled, began_record, copies_of, flush_records, front_of, moved_record, moved_records, records_of, stopped_records}
use Rattle.step_laws.proofs.Alike.{ReadsAlike, given_alike, reads_back, reads_self}
use Rattle.cache_model.proofs.Copies.{AreReady, IsReady, copied, copied_is, others_stand, rows_of, still_ready}
use Rattle.cache_model.proofs.SoundFlush.{copies_part, copies_ready, due_part, front_aside, front_leaves, part_ready, stopped_aside}
use Rattle.step_laws.proofs.Told.{listed_stays, told_aside, told_left, vectors_part}
use Rattle.cache_model.proofs.Live.{IsFound, due_are_live}

-- ---- a flush that stops

pub stopped_tells : (s : State) (rows : List Row) (outcomes : List Outcome) (count : ℕ) → AreTold s → AreTold (after_all s (stopped_records rows outcomes count))
stopped_tells s rows outcomes count told = told_aside s (stopped_records rows outcomes count) (stopped_aside rows outcomes count) told

-- ---- what is copied

-- the flush came to the piece, which is live, lists its alternates where it is a vector, and its document was given
pub record IsSaved (p : Permit) (s : State) (now left : ℕ) (c : Copy) : Type 0 where
  pub comes : ComesTo p c.row s left (due_pieces s now)
  pub listed : IsListed s c.row
  pub live : IsFound s c.row
  pub given : IsGiven p s c.row c.bytes
  pub digest : c.row.digest ≡ document_digest c.bytes

-- what the rest of a walk comes to, the whole walk comes to
abbrev pub LeadsTo : Permit → State → ℕ → ℕ → State → ℕ → List Row → Type 0
LeadsTo p s now left t behind rows = (row : Row) → ComesTo p row t behind rows → ComesTo p row s left (due_pieces s now)

are_saved : (p : Permit) (s t : State) (now left behind : ℕ) (rows : List Row) (outcomes : List Outcome) → ReadsAlike s t → LeadsTo p s now left t behind rows → AllByRecursion (IsListed s) rows → AllByRecursion (IsFound s) rows
    → AreOutcomes p t behind rows outcomes → AllByRecursion (IsSaved p s now left) (copies_of rows outcomes)
are_saved p s t now left behind [] outcomes same leads listed live h = tt
are_saved p s t now left behind (row ∷ rows) [] same leads listed live h = tt
are_saved p s t now left behind (row ∷ rows) (NoRoom ∷ outcomes) same leads listed live h =
    are_saved p s (after_all t (records_of row NoRoom)) now left behind rows outcomes same (λ piece c. leads piece (ToRead.ComesTo.behind NoRoom h.0 c)) listed.1 live.1 h.1
are_saved p s t now left behind (row ∷ rows) (Copied bytes ∷ outcomes) same leads listed live h = (
  record { comes = leads row (ToRead.ComesTo.here h.0.0); listed = listed.0; live = live.0; given = given_alike p t s row bytes (reads_back s t same) h.0.1; digest = h.0.2 },
  are_saved p s t now left (behind - row.blocks) rows outcomes same (λ piece c. leads piece (ToRead.ComesTo.behind (Copied bytes) h.0 c)) listed.1 live.1 h.1,
)
are_saved p s t now left behind (row ∷ rows) (Spoiled found ∷ outcomes) same leads listed live h =
    are_saved p s (after_all t (records_of row (Spoiled found))) now left (behind - row.blocks) rows outcomes same (λ piece c. leads piece (ToRead.ComesTo.behind (Spoiled found) h.0 c)) listed.1 live.1 h.1
are_saved p s t now left behind (row ∷ rows) (ReadRefused count ∷ outcomes) same leads listed live h =
    are_saved p s (after_all t (records_of row (ReadRefused count))) now left (behind - row.blocks) rows outcomes same (λ piece c. leads piece (ToRead.ComesTo.behind (ReadRefused count) h.0 c)) listed.1 live.1 h.1

-- a payload within half a buffer
short_enough : (g : Geometry) (bytes : ℕ) → blocks_of bytes ≤ budget_of g → bytes < 2 ^ 32
short_enough g bytes fits = omega (arith, fits, g.accepted.agg_fits.1)

abbrev pub moved : ℕ → Copy → Row
moved place c = moved_row place (document_digest (moved_to place c.bytes)) c.row

moved_vector : (p : Permit) (s : State) (now left place : ℕ) (c : Copy) (list : List Stored) → is_vector c.row.id ≡ true → IsVectorRow s c.row list → IsSaved p s now left c
    → IsVectorRow s (moved place c) list ⊎ IsPairOf IsVectorAs p s c.row
moved_vector p s now left place c list vector v saved =
    let fits : length (vector_bytes list) < 2 ^ 32 = short_enough s.geometry (length (vector_bytes list)) (let small = v.small in let blocks = v.blocks in omega (arith, small, blocks)) in
    elim (moved_is_same_lem place c.bytes (vector_doc s c.row v.start) (vector_bytes list) saved.given.of_bytes (vector_small list v.spelled.stored) fits (sym saved.digest ∙ v.digest)) [
      | inl same ↦ inl (record { start = v.start; lists = v.lists; spelled = v.spelled; digest = same; blocks = v.blocks; small = v.small })
      | inr collide ↦ inr (record {
        document = vector_document s c.row v.start list;
        bytes = c.bytes;
        live = saved.live;
        placed = record { list = list; vector = vector; lists = v; is = refl };
        given = λ written. saved.given;
        collide = collide;
      })
    ]

-- a copy that is a vector lists its alternates too
moved_listed : (p : Permit) (s : State) (now left place : ℕ) (c : Copy) (b : Bool) → is_vector c.row.id ≡ b → IsSaved p s now left c → IsListed s (moved place c) ⊎ IsPairOf IsVectorAs p s c.row
moved_listed p s now left place c false e saved = inl (λ vector. no_truth (sym vector ∙ e))
moved_listed p s now left place c true e saved =
    let l : (list : List Stored) × IsVectorRow s c.row list = saved.listed e in
    elim (moved_vector p s now left place c l.0 e l.1 saved) [ inl listed ↦ inl (λ vector. (l.0, listed)) | inr other ↦ inr other ]

told_moved : (u : State) (c : Copy) → IsReady u.rows c.row → IsListed u (moved (place_now u) c) → AreTold u → AreTold (state_after u (moved_record u c))
told_moved u c ready listed told =
    let digest : Digest = document_digest (moved_to (place_now u) c.bytes) in
    let t : State = copied u c.row digest in
    let before : AllByRecursion (IsListed u) (without c.row.id u.rows) = each_part (IsListed u) (part-filter _ u.rows) told.vectors in
    subst AreTold (sym (copied_is u c.row c.row.place digest ready.0)) (record {
      vectors = all_as (IsListed u) (IsListed t) (listed_stays u t refl) t.rows (each_push (IsListed u) (without c.row.id u.rows) (moved (place_now u) c) before listed);
      puts = told.puts;
      displaced = told.displaced;
    })

-- ---- copy after copy

pub go_on : {X Y Z : Type 0} → X ⊎ Y → (X → Z ⊎ Y) → Z ⊎ Y
go_on (inl x) f = f x
go_on (inr y) f = inr y

-- the pair of a copied piece is of one to which the flush came
copy_pair : (p : Permit) (s : State) (now left : ℕ) (c : Copy) → IsSaved p s now left c → IsPairOf IsVectorAs p s c.row → IsCopyPair IsVectorAs p s now left
copy_pair p s now left c saved pair = record { row = c.row; copied = record { written = saved.given.written; comes = saved.comes }; pair = pair }

pub as_shown : {X Y Z : Type 0} → (Y → Z) → X ⊎ Y → X ⊎ Z
as_shown f (inl x) = inl x
as_shown f (inr y) = inr (f y)

all_told : (p : Permit) (s u : State) (now left : ℕ) (copies : List Copy) → u.geometry ≡ s.geometry → AreApart (rows_of copies) → AreReady u.rows (rows_of copies) → AllByRecursion (IsSaved p s now left) copies → AreTold u
    → AreTold (after_all u (moved_records u copies)) ⊎ IsCopyPair IsVectorAs p s now left
all_told p s u now left [] same apart ready saved told = inl told
all_told p s u now left (c ∷ copies) same apart ready saved told =
    let t : State = state_after u (moved_record u c) in
    go_on (as_shown (copy_pair p s now left c saved.0) (moved_listed p s now left (place_now u) c (is_vector c.row.id) refl saved.0)) (λ listed.
    all_told p s t now left copies same apart.1 (still_ready u.rows t.rows c.row.id (others_stand u c) (rows_of copies) apart.0 ready.1) saved.1
    (told_moved u c ready.0 (listed_stays s u same (moved (place_now u) c) listed) told))

pub flush_tells : (p : Permit) (s : State) (now left : ℕ) (outcomes : List Outcome) → IsSound s → AreTold s → AreOutcomes p s left (due_pieces s now) outcomes
    → AreTold (after_all s (flush_records s (due_pieces s now) outcomes)) ⊎ IsCopyPair IsVectorAs p s now left
flush_tells p s now left outcomes h told o =
    let rows : List Row = due_pieces s now in
    let front : List Rec = front_of rows outcomes in
    let copies : List Copy = copies_of rows outcomes in
    let m : State = after_all s front in
    let u : State = state_after m (began_record s) in
    let before : AreTold m = told_aside s front (front_aside rows outcomes) told in
    let opened : AreTold u = told_left m (began_record s) tt (vectors_part m u refl (part_all m.rows) before.vectors) before in
    let same : u.geometry ≡ s.geometry = (buffer_left s front (front_leaves rows outcomes)).0 in
    let apart : AreApart rows = apart-part (due_part s now) h.apart in
    let saved : AllByRecursion (IsSaved p s now left) copies = are_saved p s s now left left rows outcomes (reads_self s) (λ row c. c) (each_part (IsListed s) (due_part s now) told.vectors) (due_are_live s now h) o in
    let ready : AreReady u.rows (rows_of copies) = copies_ready s rows outcomes apart (part_ready s rows h (due_part s now)) in
    subst (λ t. AreTold t ⊎ IsCopyPair IsVectorAs p s now left) (sym (after_all-append s front (began_record s ∷ moved_records u copies)))
    (all_told p s u now left copies same (apart-part (copies_part rows outcomes) apart) ready saved opened)
