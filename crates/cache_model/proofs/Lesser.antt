-- A state of which no more is live than of another: records that make no piece live leave the slots that there were.
use Rattle.std.proofs.Common.{◌≡◌, ℕ, ◌≤◌, List, [], ◌∷◌, ◌++◌, refl, sym, ◌∙◌, ap, subst, arith, Bool, true, false, append_assoc, append-nil}
use Rattle.std.specs.Prelude.{max, map, Option, Some, None, if◌then◌else◌, option_map, option_to_list}
use Rattle.std.specs.List.{AllByRecursion}
use Rattle.std.proofs.lemmas.Bool.{leb-true, le-leb}
use Rattle.tape_base.specs.declared.pieces.PieceId.{PieceId}
use Rattle.tape_base.specs.declared.digests.Digest.{Digest}
use Rattle.tape_base.specs.Piece.{same_piece}
use Rattle.tape_base.specs.Place.{floor_of}
use Rattle.tape_base.proofs.NameLaws.{same_piece-true}
use Rattle.cache_model.specs.declared.record.Rec.{Rec}
use Rattle.cache_model.specs.declared.record.Rec.TheVariants as rec
use Rattle.cache_model.specs.State.{State, Row, after_all, cursor_next, floor_now, moved_row, row_in, row_of, state_after, without}
use Rattle.cache_model.specs.Permit.{Permit, IsAmong}
use Rattle.cache_model.specs.Due.{due_pieces}
use Rattle.cache_model.specs.Outcomes.{Copy, Outcome, began_record, copies_of, flush_tail, front_of, moved_record, moved_records}
use Rattle.cache_model.specs.Syncing.{MaySyncBehind, Syncing, at_first, behind_records, first_records}
use Rattle.cache_model.specs.Legal.{MayFlush}
use Rattle.cache_model.specs.Tape.{AreApart, IsSound}
use Rattle.cache_model.proofs.Aside.{AllAside, IsAside, aside_leaves}
use Rattle.cache_model.proofs.Copies.{rows_of}
use Rattle.cache_model.proofs.Lists.{own_piece, row_in-copied}
use Rattle.cache_model.proofs.Live.{IsFound, due_are_live}
use Rattle.cache_model.proofs.Rows.{ArePart, apart-part, apart-placed, each_part, part-filter, part_all}
use Rattle.cache_model.proofs.Sound.{AllLeaveTape, LeavesTape, SameTape, buffer_left, later_began, least_left, leaves_one}
use Rattle.cache_model.proofs.SoundFlush.{among_part, copies_part, front_aside}
use Rattle.cache_model.proofs.Steps.{along_append, all_append}
use Rattle.cache_model.proofs.Syncing.{behind_of, first_of, syncs_aside}
use Rattle.cache_model.proofs.Walks.{among_found}
use Rattle.cache_model.proofs.FewerRows.{less_fits, live_stands, row_among, stands_live}
use Rattle.cache_model.specs.Slots.{AllFit, HasNoMoreLive, IsLivePiece}
use Rattle.cache_model.specs.State.{AllAlong}

-- ---- a state of which no more is live

-- no two rows are of one piece, and each piece that is live in u is live in s
pub record IsLesser (s u : State) : Type 0 where
  pub geometry : u.geometry ≡ s.geometry
  pub apart : AreApart u.rows
  pub live : HasNoMoreLive s u

pub lesser_self : (s : State) → IsSound s → IsLesser s s
lesser_self s h = record { geometry = refl; apart = h.apart; live = λ id live. live }

pub lesser_fits : (s u : State) → IsLesser s u → AllFit s → AllFit u
lesser_fits s u k fit = less_fits s u k.apart k.geometry k.live fit

-- where rows go and the floor rises no piece becomes live
still_live : (u t : State) (id : PieceId) → ArePart t.rows u.rows → AreApart u.rows → floor_now u ≤ floor_now t → IsLivePiece t id → IsLivePiece u id
still_live u t id part apart floor live =
    let row : Row = live.0 in
    let stands = live_stands t id row live.1 in
    let among : IsAmong row u.rows = among_part row part (row_among id t.rows row stands.0) in
    let found : row_in u.rows id ≡ Some row = subst (λ i. row_in u.rows i ≡ Some row) (own_piece id t.rows row stands.0) (among_found u.rows row apart among) in
    let low : floor_now t ≤ row.place = leb-true (floor_now t) row.place stands.1 in
    (row, stands_live u id row (found, le-leb (floor_now u) row.place (omega (arith, low, floor))))

part_lesser : (s u t : State) → t.geometry ≡ u.geometry → ArePart t.rows u.rows → floor_now u ≤ floor_now t → IsLesser s u → IsLesser s t
part_lesser s u t geometry part floor k = record {
  geometry = geometry ∙ k.geometry;
  apart = apart-part part k.apart;
  live = λ id live. k.live id (still_live u t id part k.apart floor live);
}

same_floor : (u t : State) → SameTape u t → floor_now u ≤ floor_now t
same_floor u t same = rw (same.geometry, same.cursor, same.least) (omega arith)

tape_lesser : (s u t : State) → SameTape u t → IsLesser s u → IsLesser s t
tape_lesser s u t same k = part_lesser s u t same.geometry same.rows (same_floor u t same) k

-- ---- a piece that comes back

module _ (s u : State) (piece : PieceId) (from place : ℕ) (digest : Digest) where
  abbrev back : State
  back = state_after u (rec.Moved piece from place digest)

  apart_by : (o : Option Row) → row_of u piece ≡ o → AreApart u.rows → AreApart (without piece u.rows ++ map (moved_row place digest) (option_to_list o))
  apart_by None e apart = subst AreApart (sym (append-nil (without piece u.rows))) (apart-part (part-filter _ u.rows) apart)
  apart_by (Some row) e apart =
      subst (λ i. AreApart (without i u.rows ++ moved_row place digest row ∷ [])) (own_piece piece u.rows row e) (apart-placed u.rows (moved_row place digest row) apart)

  live_by : (id : PieceId) (t : Bool) → same_piece piece id ≡ t → IsLivePiece s piece → (IsLivePiece u id → IsLivePiece s id) → IsLivePiece back id → IsLivePiece s id
  live_by id true e live rest h = subst (IsLivePiece s) (same_piece-true piece id e) live
  live_by id false e live rest h =
      let stands = live_stands back id h.0 h.1 in
      let same : row_in back.rows id ≡ row_in u.rows id =
      row_in-copied piece id u.rows place digest ∙ ap (λ b. if b then option_map (moved_row place digest) (row_in u.rows id) else row_in u.rows id) e in
      rest (h.0, stands_live u id h.0 (sym same ∙ stands.0, stands.1))

  moved_lesser : IsLivePiece s piece → IsLesser s u → IsLesser s back
  moved_lesser live k = record {
    geometry = k.geometry;
    apart = apart_by (row_of u piece) refl k.apart;
    live = λ id h. live_by id (same_piece piece id) refl live (k.live id) h;
  }

-- ---- record by record

-- the record makes no piece live that is not live in s
abbrev pub IsLess : State → State → Rec → Type 0
IsLess s u (rec.Began cursor floor) = floor_now u ≤ floor_now (state_after u (rec.Began cursor floor))
IsLess s u (rec.Moved piece from place digest) = IsLivePiece s piece
IsLess s u r = LeavesTape r

one_lesser : (s u : State) (r : Rec) → IsLess s u r → IsLesser s u → IsLesser s (state_after u r)
one_lesser s u (rec.Formatted geometry) h k = absurd h
one_lesser s u (rec.Opened geometry serial cursor floor next_put clean list) h k = absurd h
one_lesser s u (rec.Placed piece place blocks digest pin) h k = absurd h
one_lesser s u (rec.Began cursor floor) h k = part_lesser s u (state_after u (rec.Began cursor floor)) refl (part_all u.rows) h k
one_lesser s u (rec.Moved piece from place digest) h k = moved_lesser s u piece from place digest h k
one_lesser s u r h k = tape_lesser s u (state_after u r) (leaves_one u r h) k

pub all_lesser : (s u : State) (recs : List Rec) → AllAlong (IsLess s) u recs → IsLesser s u → IsLesser s (after_all u recs)
all_lesser s u [] h k = k
all_lesser s u (r ∷ recs) h k = all_lesser s (state_after u r) recs h.1 (one_lesser s u r h.0 k)

pub along_parts : (s u : State) (a b : List Rec) → AllAlong (IsLess s) u (a ++ b) → AllAlong (IsLess s) u a × AllAlong (IsLess s) (after_all u a) b
along_parts s u [] b h = (tt, h)
along_parts s u (r ∷ a) b h = let rest = along_parts s (state_after u r) a b h.1 in ((h.0, rest.0), rest.1)

leaves_less : (s u : State) (r : Rec) → LeavesTape r → IsLess s u r
leaves_less s u (rec.Began cursor floor) h = absurd h
leaves_less s u (rec.Moved piece from place digest) h = absurd h
leaves_less s u r h = h

pub all_leave_less : (s u : State) (recs : List Rec) → AllLeaveTape recs → AllAlong (IsLess s) u recs
all_leave_less s u [] h = tt
all_leave_less s u (r ∷ recs) h = (leaves_less s u r h.0, all_leave_less s (state_after u r) recs h.1)

pub along_fits : (s : State) (added : List Rec) → IsSound s → AllFit s → AllAlong (IsLess s) s added → AllFit (after_all s added)
along_fits s added h fit along = lesser_fits s (after_all s added) (all_lesser s s added along (lesser_self s h)) fit

-- ---- a flush

floors_by : (s m : State) (next : ℕ) → m.least ≡ s.least → m.geometry ≡ s.geometry → m.cursor ≡ s.cursor
    → max s.least (floor_of s.geometry s.cursor) ≤ max s.least (floor_of s.geometry next) → max m.least (floor_of m.geometry m.cursor) ≤ max m.least (floor_of m.geometry next)
floors_by s m next least geometry cursor h = rw (least, geometry, cursor) h

moved_less : (s u w : State) (copies : List Copy) → AllByRecursion (IsFound s) (rows_of copies) → AllAlong (IsLess s) u (moved_records w copies)
moved_less s u w [] each = tt
moved_less s u w (c ∷ copies) each = ((c.row, each.0), moved_less s (state_after u (moved_record w c)) (state_after w (moved_record w c)) copies each.1)

-- behind records that leave the tape the next buffer begins, and what is due comes back
pub tail_less : (s : State) (before : List Rec) (now : ℕ) (outcomes : List Outcome) → IsSound s → AllLeaveTape before
    → AllAlong (IsLess s) s (before ++ flush_tail s (due_pieces s now) outcomes)
tail_less s before now outcomes h leave =
    let m : State = after_all s before in
    let rows : List Row = due_pieces s now in
    let buffer = buffer_left s before leave in
    let floor : floor_now m ≤ floor_now (state_after m (began_record s)) = floors_by s m (cursor_next s) (least_left s before leave) buffer.0 buffer.1 (later_began s h).floor in
    let each : AllByRecursion (IsFound s) (rows_of (copies_of rows outcomes)) = each_part (IsFound s) (copies_part rows outcomes) (due_are_live s now h) in
    along_append (IsLess s) s before (flush_tail s rows outcomes) (all_leave_less s s before leave)
    (floor, moved_less s (state_after m (began_record s)) (state_after (after_all s (front_of rows outcomes)) (began_record s)) (copies_of rows outcomes) each)

pub flush_less : (p : Permit) (s : State) (added : List Rec) → MayFlush p s added → IsSound s → AllAlong (IsLess s) s added
flush_less p s added m h =
    let rows : List Row = due_pieces s p.now in
    subst (AllAlong (IsLess s) s) (sym m.is) (tail_less s (front_of rows m.outcomes) p.now m.outcomes h (aside_leaves (front_of rows m.outcomes) (front_aside rows m.outcomes)))

pub goes_less : (p : Permit) (k : Syncing) (s : State) (added : List Rec) → MaySyncBehind p k s added → IsSound s → AllAlong (IsLess s) s added
goes_less p k s added m h =
    let rows : List Row = due_pieces s p.now in
    let first : List Rec = first_records k s in
    let front : List Rec = front_of rows m.outcomes in
    let behind : List Rec = behind_records k (at_first k s) in
    let tail : List Rec = flush_tail s rows m.outcomes in
    let aside : AllAside ((first ++ front) ++ behind) =
    all_append IsAside (first ++ front) behind (all_append IsAside first front (syncs_aside first (first_of k s)) (front_aside rows m.outcomes)) (syncs_aside behind (behind_of k (at_first k s))) in
    let split : ((first ++ front) ++ behind) ++ tail ≡ added = append_assoc (first ++ front) behind tail ∙ (append_assoc first front (behind ++ tail) ∙ sym m.is) in
    subst (AllAlong (IsLess s) s) split (tail_less s ((first ++ front) ++ behind) p.now m.outcomes h (aside_leaves ((first ++ front) ++ behind) aside))
