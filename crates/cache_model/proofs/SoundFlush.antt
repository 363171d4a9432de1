-- A flush that copies pieces ahead leaves a sound tape.
use Rattle.std.proofs.Common.{◌≡◌, ℕ, ◌+◌, ◌-◌, ◌<◌, ◌≤◌, List, [], ◌∷◌, refl, sym, ◌∙◌, ap, subst, arith, Bool, true, false, inl, inr}
use Rattle.std.specs.Prelude.{max, if◌then◌else◌, None}
use Rattle.tape_base.specs.declared.pieces.PieceId.{PieceId}
use Rattle.tape_base.specs.declared.geometries.Geometry.{Geometry}
use Rattle.tape_base.specs.Piece.{same_piece}
use Rattle.tape_base.specs.Geometry.{budget_of}
use Rattle.tape_base.specs.Place.{floor_of, next_cursor_of}
use Rattle.tape_base.proofs.NameLaws.{same_piece-true, same_piece-same}
use Rattle.cache_model.specs.declared.record.Rec.{Rec}
use Rattle.cache_model.specs.declared.record.Rec.TheVariants as rec
use Rattle.cache_model.specs.State.{State, Row, after_all, floor_now, place_now, row_in, state_after}
use Rattle.cache_model.specs.Permit.{Permit, IsAmong}
use Rattle.cache_model.specs.Tape.{AreApart, AreRising, IsSound, NotAmong}
use Rattle.cache_model.proofs.Found.{no_truth}
use Rattle.cache_model.proofs.Lists.{row_in-without}
use Rattle.cache_model.proofs.Rows.{ArePart, done, keep, skip, apart-part, part-filter, part-trans}
use Rattle.cache_model.proofs.Steps.{after_all-append, all_append}
use Rattle.cache_model.proofs.Aside.{AllAside, IsAside, aside_leaves, one_aside}
use Rattle.cache_model.proofs.Sound.{AllLeaveTape, IsLater, buffer_left, least_left, later_began, later_leaves, later_trans}
use Rattle.cache_model.specs.Due.{due_pieces}
use Rattle.cache_model.specs.Outcomes.{AreOutcomes, Copied, Copy, NoRoom, Outcome, ReadRefused, Spoiled, began_record, copies_of, flush_records, front_of, moved_records, records_of, stopped_front_of, stopped_records, stopped_records_of}
use Rattle.cache_model.proofs.Walks.{all_among, among_found}
use Rattle.cache_model.proofs.Copies.{AreReady, IsFilled, IsReady, all_copied, blocks_of_copies, rows_of, still_ready}

-- ---- the records of what is not copied

pub aside_of : (row : Row) (o : Outcome) → AllAside (records_of row o)
aside_of row NoRoom = one_aside
aside_of row (Copied bytes) = tt
aside_of row (Spoiled found) = one_aside
aside_of row (ReadRefused count) = ((tt, tt), one_aside)

pub front_aside : (rows : List Row) (outcomes : List Outcome) → AllAside (front_of rows outcomes)
front_aside [] outcomes = tt
front_aside (row ∷ rows) [] = tt
front_aside (row ∷ rows) (o ∷ outcomes) = all_append IsAside (records_of row o) (front_of rows outcomes) (aside_of row o) (front_aside rows outcomes)

pub front_leaves : (rows : List Row) (outcomes : List Outcome) → AllLeaveTape (front_of rows outcomes)
front_leaves rows outcomes = aside_leaves (front_of rows outcomes) (front_aside rows outcomes)

-- they leave the other pieces as they were
others_left : (s : State) (row : Row) (o : Outcome) (x : PieceId) → same_piece row.id x ≡ false → row_in (after_all s (records_of row o)).rows x ≡ row_in s.rows x
others_left s row NoRoom x h = refl
others_left s row (Copied bytes) x h = refl
others_left s row (Spoiled found) x h = row_in-without row.id x s.rows ∙ ap (λ b. if b then None else row_in s.rows x) h
others_left s row (ReadRefused count) x h = refl

differ_back : (a b : PieceId) (t : Bool) → same_piece b a ≡ t → same_piece a b ≡ false → t ≡ false
differ_back a b false e h = refl
differ_back a b true e h = no_truth (sym (same_piece-same a) ∙ (ap (same_piece a) (sym (same_piece-true b a e)) ∙ h))

front_keeps : (s : State) (x : PieceId) (rows : List Row) (outcomes : List Outcome) → NotAmong x rows → row_in (after_all s (front_of rows outcomes)).rows x ≡ row_in s.rows x
front_keeps s x [] outcomes n = refl
front_keeps s x (row ∷ rows) [] n = refl
front_keeps s x (row ∷ rows) (o ∷ outcomes) n =
    ap (λ (t : State). row_in t.rows x) (after_all-append s (records_of row o) (front_of rows outcomes))
    ∙ (front_keeps (after_all s (records_of row o)) x rows outcomes n.1
    ∙ others_left s row o x (differ_back x row.id (same_piece row.id x) refl n.0))

-- ---- the copies

-- behind those records each piece that is copied stands as it did
pub copies_ready : (s : State) (rows : List Row) (outcomes : List Outcome) → AreApart rows → AreReady s.rows rows → AreReady (after_all s (front_of rows outcomes)).rows (rows_of (copies_of rows outcomes))
copies_ready s [] outcomes apart ready = tt
copies_ready s (row ∷ rows) [] apart ready = tt
copies_ready s (row ∷ rows) (Copied bytes ∷ outcomes) apart ready =
    ((front_keeps s row.id rows outcomes apart.0 ∙ ready.0.0, ready.0.1), copies_ready s rows outcomes apart.1 ready.1)
copies_ready s (row ∷ rows) (NoRoom ∷ outcomes) apart ready =
    copies_ready (after_all s (records_of row NoRoom)) rows outcomes apart.1 ready.1
copies_ready s (row ∷ rows) (Spoiled found ∷ outcomes) apart ready =
    copies_ready (after_all s (records_of row (Spoiled found))) rows outcomes apart.1
    (still_ready s.rows (after_all s (records_of row (Spoiled found))).rows row.id (others_left s row (Spoiled found)) rows apart.0 ready.1)
copies_ready s (row ∷ rows) (ReadRefused count ∷ outcomes) apart ready =
    copies_ready (after_all s (records_of row (ReadRefused count))) rows outcomes apart.1 ready.1

pub copies_part : (rows : List Row) (outcomes : List Outcome) → ArePart (rows_of (copies_of rows outcomes)) rows
copies_part [] outcomes = done
copies_part (row ∷ rows) [] = none_part (row ∷ rows)
  where
    none_part : (all : List Row) → ArePart [] all
    none_part [] = done
    none_part (x ∷ all) = skip (none_part all)
copies_part (row ∷ rows) (Copied bytes ∷ outcomes) = keep (copies_part rows outcomes)
copies_part (row ∷ rows) (NoRoom ∷ outcomes) = skip (copies_part rows outcomes)
copies_part (row ∷ rows) (Spoiled found ∷ outcomes) = skip (copies_part rows outcomes)
copies_part (row ∷ rows) (ReadRefused count ∷ outcomes) = skip (copies_part rows outcomes)

pub copies_within : (p : Permit) (s : State) (left : ℕ) (rows : List Row) (outcomes : List Outcome) → AreOutcomes p s left rows outcomes → blocks_of_copies (copies_of rows outcomes) ≤ left
copies_within p s left [] outcomes h = omega arith
copies_within p s left (row ∷ rows) [] h = absurd h
copies_within p s left (row ∷ rows) (NoRoom ∷ outcomes) h = copies_within p (after_all s (records_of row NoRoom)) left rows outcomes h.1
copies_within p s left (row ∷ rows) (Copied bytes ∷ outcomes) h =
    let rest : blocks_of_copies (copies_of rows outcomes) ≤ left - row.blocks = copies_within p s (left - row.blocks) rows outcomes h.1 in
    let here : row.blocks ≤ left = h.0.0 in
    omega arith
copies_within p s left (row ∷ rows) (Spoiled found ∷ outcomes) h =
    let rest : blocks_of_copies (copies_of rows outcomes) ≤ left - row.blocks = copies_within p (after_all s (records_of row (Spoiled found))) (left - row.blocks) rows outcomes h.1 in
    omega arith
copies_within p s left (row ∷ rows) (ReadRefused count ∷ outcomes) h =
    let rest : blocks_of_copies (copies_of rows outcomes) ≤ left - row.blocks = copies_within p (after_all s (records_of row (ReadRefused count))) (left - row.blocks) rows outcomes h.1 in
    omega arith

-- ---- the flush

pub among_part : (row : Row) {some all : List Row} → ArePart some all → IsAmong row some → IsAmong row all
among_part row done m = m
among_part row (keep p) m = elim m [ inl e ↦ inl e | inr k ↦ inr (among_part row p k) ]
among_part row (skip p) m = inr (among_part row p m)

not_empty : (low : ℕ) (rows : List Row) (high : ℕ) (row : Row) → AreRising low rows high → IsAmong row rows → 0 < row.blocks
not_empty low [] high row r m = absurd m
not_empty low (x ∷ rows) high row r m = elim m [
  | inl e ↦ subst (λ (y : Row). 0 < y.blocks) (sym e) r.1
  | inr k ↦ not_empty (x.place + 1) rows high row r.3 k
]

pub part_ready : (s : State) (rows : List Row) → IsSound s → ArePart rows s.rows → AreReady s.rows rows
part_ready s rows h p = all_among (IsReady s.rows) rows (λ row m.
    (among_found s.rows row h.apart (among_part row p m), not_empty s.geometry.content s.rows (place_now s) row h.rising (among_part row p m)))

pub due_part : (s : State) (now : ℕ) → ArePart (due_pieces s now) s.rows
due_part s now = part-trans (part-filter _ _) (part-filter _ s.rows)

abbrev began_of : ℕ → Geometry → ℕ → ℕ → Rec
began_of least g cursor filled = rec.Began (next_cursor_of g cursor filled) (max least (floor_of g (next_cursor_of g cursor filled)))

same_began : (s m : State) → m.least ≡ s.least → (m.geometry ≡ s.geometry) × (m.cursor ≡ s.cursor) × (m.filled ≡ s.filled) → began_record m ≡ began_record s
same_began s m least h =
    ap (λ n. began_of n m.geometry m.cursor m.filled) least
    ∙ (ap (λ g. began_of s.least g m.cursor m.filled) h.0 ∙ (ap (λ c. began_of s.least s.geometry c m.filled) h.1 ∙ ap (λ f. began_of s.least s.geometry s.cursor f) h.2))

-- the state behind a flush of these rows
pub record IsFlushed (s t : State) : Type 0 where
  pub later : IsLater s t
  pub filled : t.filled ≤ budget_of s.geometry

behind_front : (p : Permit) (s : State) (rows : List Row) (outcomes : List Outcome) → IsSound s → ArePart rows s.rows → AreOutcomes p s (budget_of s.geometry) rows outcomes
    → IsFlushed s (after_all (after_all s (front_of rows outcomes)) (began_record s ∷ moved_records (state_after (after_all s (front_of rows outcomes)) (began_record s)) (copies_of rows outcomes)))
behind_front p s rows outcomes h part o =
    let front : List Rec = front_of rows outcomes in
    let copies : List Copy = copies_of rows outcomes in
    let m : State = after_all s front in
    let u : State = state_after m (began_record s) in
    let apart : AreApart rows = apart-part part h.apart in
    let first : IsLater s m = later_leaves s front (front_leaves rows outcomes) h in
    let began : IsLater m u = subst (λ r. IsLater m (state_after m r)) (same_began s m (least_left s front (front_leaves rows outcomes)) (buffer_left s front (front_leaves rows outcomes))) (later_began m first.sound) in
    let opened : IsLater s u = later_trans s m u first began in
    let geometry : u.geometry ≡ s.geometry = opened.geometry in
    let sum : blocks_of_copies copies ≤ budget_of s.geometry = copies_within p s (budget_of s.geometry) rows outcomes o in
    let room : 0 + blocks_of_copies copies ≤ u.geometry.agg = rw geometry (omega arith) in
    let last : IsFilled u (after_all u (moved_records u copies)) (0 + blocks_of_copies copies) =
    all_copied u copies began.sound (apart-part (copies_part rows outcomes) apart) (copies_ready s rows outcomes apart (part_ready s rows h part)) room in
    record {
      later = later_trans s u (after_all u (moved_records u copies)) opened last.later;
      filled = let all = last.filled in omega arith;
    }

pub flush_is_later : (p : Permit) (s : State) (now : ℕ) (outcomes : List Outcome) → IsSound s → AreOutcomes p s (budget_of s.geometry) (due_pieces s now) outcomes
    → IsFlushed s (after_all s (flush_records s (due_pieces s now) outcomes))
flush_is_later p s now outcomes h o =
    let front : List Rec = front_of (due_pieces s now) outcomes in
    let behind : List Rec = began_record s ∷ moved_records (state_after (after_all s front) (began_record s)) (copies_of (due_pieces s now) outcomes) in
    subst (IsFlushed s) (sym (after_all-append s front behind)) (behind_front p s (due_pieces s now) outcomes h (due_part s now) o)

pub flush_is_sound : (p : Permit) (s : State) (now : ℕ) (outcomes : List Outcome) → IsSound s → AreOutcomes p s (budget_of s.geometry) (due_pieces s now) outcomes
    → (let t : State = after_all s (flush_records s (due_pieces s now) outcomes) in
    IsSound t × (floor_now s ≤ floor_now t) × (t.filled ≤ budget_of s.geometry))
flush_is_sound p s now outcomes h o = let f = flush_is_later p s now outcomes h o in (f.later.sound, f.later.floor, f.filled)

-- ---- a flush that stops

stopped_aside_of : (row : Row) (o : Outcome) → AllAside (stopped_records_of row o)
stopped_aside_of row NoRoom = tt
stopped_aside_of row (Copied bytes) = tt
stopped_aside_of row (Spoiled found) = one_aside
stopped_aside_of row (ReadRefused count) = one_aside

pub stopped_front_aside : (rows : List Row) (outcomes : List Outcome) → AllAside (stopped_front_of rows outcomes)
stopped_front_aside [] outcomes = tt
stopped_front_aside (row ∷ rows) [] = tt
stopped_front_aside (row ∷ rows) (o ∷ outcomes) =
    all_append IsAside (stopped_records_of row o) (stopped_front_of rows outcomes) (stopped_aside_of row o) (stopped_front_aside rows outcomes)

pub stopped_aside : (rows : List Row) (outcomes : List Outcome) (count : ℕ) → AllAside (stopped_records rows outcomes count)
stopped_aside rows outcomes count = all_append IsAside (stopped_front_of rows outcomes) (rec.Fault count ∷ []) (stopped_front_aside rows outcomes) one_aside

pub stopped_is_sound : (s : State) (rows : List Row) (outcomes : List Outcome) (count : ℕ) → IsSound s
    → (let t : State = after_all s (stopped_records rows outcomes count) in
    IsSound t × (t.cursor ≡ s.cursor) × (t.filled ≡ s.filled))
stopped_is_sound s rows outcomes count h =
    let recs : List Rec = stopped_records rows outcomes count in
    let leave : AllLeaveTape recs = aside_leaves recs (stopped_aside rows outcomes count) in
    let later : IsLater s (after_all s recs) = later_leaves s recs leave h in
    let buffer = buffer_left s recs leave in
    (later.sound, buffer.1, buffer.2)
