-- Copies that stand one behind the other in a new buffer.
use Rattle.std.proofs.Common.{◌≡◌, ℕ, ◌+◌, ◌<◌, ◌≤◌, List, [], ◌∷◌, ◌++◌, refl, sym, ◌∙◌, ap, subst, arith, false}
use Rattle.std.specs.Prelude.{◌==◌, map, Option, Some, if◌then◌else◌, option_map, option_to_list}
use Rattle.std.specs.List.{AllByRecursion}
use Rattle.std.specs.Map.{lookup}
use Rattle.std.proofs.lemmas.Bool.{eq-eqb}
use Rattle.tape_base.specs.declared.pieces.PieceId.{PieceId}
use Rattle.tape_base.specs.declared.digests.Digest.{Digest}
use Rattle.tape_base.specs.Piece.{same_piece}
use Rattle.doc_header.specs.Reading.{document_digest}
use Rattle.doc_header.specs.Moving.{moved_to}
use Rattle.cache_model.specs.declared.record.Rec.TheVariants as rec
use Rattle.cache_model.specs.State.{State, Row, after_all, blocks_of_row, moved_row, place_now, row_in, row_of, state_after, without}
use Rattle.cache_model.specs.Tape.{AreApart, AreKnown, AreRising, IsSound, NotAmong}
use Rattle.cache_model.proofs.Lists.{row_in-copied}
use Rattle.cache_model.proofs.Rows.{part-filter, rising-part, rising-append, apart-placed, known-part, known-more, known-append}
use Rattle.cache_model.proofs.Sound.{IsLater, later_self, later_trans}
use Rattle.cache_model.specs.Outcomes.{Copy, moved_record, moved_records}

-- the row stands, and is of a piece that is not empty
abbrev pub IsReady : List Row → Row → Type 0
IsReady rows row = (row_in rows row.id ≡ Some row) × (0 < row.blocks)

abbrev pub AreReady : List Row → List Row → Type 0
AreReady rows some = AllByRecursion (IsReady rows) some

-- what leaves the other pieces as they were leaves them ready
pub still_ready : (rows after : List Row) (id : PieceId) → ((x : PieceId) → same_piece id x ≡ false → row_in after x ≡ row_in rows x)
    → (some : List Row) → NotAmong id some → AreReady rows some → AreReady after some
still_ready rows after id same [] n h = tt
still_ready rows after id same (row ∷ some) n h = ((same row.id n.0 ∙ h.0.0, h.0.1), still_ready rows after id same some n.1 h.1)

-- ---- a row that is copied to the end

abbrev pub copied_by : State → PieceId → ℕ → Digest → Option Row → State
copied_by u piece place digest row = record u {
  filled = u.filled + blocks_of_row row;
  rows = without piece u.rows ++ map (moved_row place digest) (option_to_list row);
  places = (place, piece) ∷ u.places;
}

abbrev pub copied : State → Row → Digest → State
copied u row digest = copied_by u row.id (place_now u) digest (Some row)

pub copied_is : (u : State) (row : Row) (from : ℕ) (digest : Digest) → row_of u row.id ≡ Some row
    → state_after u (rec.Moved row.id from (place_now u) digest) ≡ copied u row digest
copied_is u row from digest h = ap (copied_by u row.id (place_now u) digest) h

later_copied : (u : State) (row : Row) (digest : Digest) → 0 < row.blocks → u.filled + row.blocks ≤ u.geometry.agg → IsSound u → IsLater u (copied u row digest)
later_copied u row digest some room h =
    let low : AreRising u.geometry.content (without row.id u.rows) (place_now u) = rising-part u.geometry.content (place_now u) (part-filter _ u.rows) h.rising in
    let known : AreKnown u.places (without row.id u.rows) = known-part u.places (part-filter _ u.rows) h.known in
    let here : lookup (λ p. p == place_now u) ((place_now u, row.id) ∷ u.places) ≡ Some row.id = rw (eq-eqb (place_now u) (place_now u) refl) refl in
    record {
      sound = record {
        from = h.from;
        least = h.least;
        lap = h.lap;
        room = room;
        rising = rising-append u.geometry.content (without row.id u.rows) (place_now u) (moved_row (place_now u) digest row) (u.cursor + (u.filled + row.blocks)) (omega arith) some (omega arith) low;
        apart = apart-placed u.rows (moved_row (place_now u) digest row) h.apart;
        known = known-append ((place_now u, row.id) ∷ u.places) (without row.id u.rows) (moved_row (place_now u) digest row) (known-more u.places (place_now u) row.id u.geometry.content (without row.id u.rows) low known) here;
      };
      geometry = refl;
      floor = omega arith;
    }

-- ---- copy after copy

abbrev pub rows_of : List Copy → List Row
rows_of copies = map (λ (c : Copy). c.row) copies

abbrev pub blocks_of_copies : List Copy → ℕ
blocks_of_copies [] = 0
blocks_of_copies (c ∷ copies) = c.row.blocks + blocks_of_copies copies

-- t comes later than u, and its buffer has so many blocks
pub record IsFilled (u t : State) (blocks : ℕ) : Type 0 where
  pub later : IsLater u t
  pub filled : t.filled ≡ blocks

one_copied : (u : State) (c : Copy) → IsSound u → IsReady u.rows c.row → u.filled + c.row.blocks ≤ u.geometry.agg
    → IsFilled u (state_after u (moved_record u c)) (u.filled + c.row.blocks)
one_copied u c h ready room =
    let digest : Digest = document_digest (moved_to (place_now u) c.bytes) in
    subst (λ t. IsFilled u t (u.filled + c.row.blocks)) (sym (copied_is u c.row c.row.place digest ready.0))
    (record { later = later_copied u c.row digest ready.1 room h; filled = refl })

pub others_stand : (u : State) (c : Copy) (x : PieceId) → same_piece c.row.id x ≡ false → row_in (state_after u (moved_record u c)).rows x ≡ row_in u.rows x
others_stand u c x h =
    let digest : Digest = document_digest (moved_to (place_now u) c.bytes) in
    row_in-copied c.row.id x u.rows (place_now u) digest
    ∙ ap (λ b. if b then option_map (moved_row (place_now u) digest) (row_in u.rows x) else row_in u.rows x) h

pub all_copied : (u : State) (copies : List Copy) → IsSound u → AreApart (rows_of copies) → AreReady u.rows (rows_of copies) → u.filled + blocks_of_copies copies ≤ u.geometry.agg
    → IsFilled u (after_all u (moved_records u copies)) (u.filled + blocks_of_copies copies)
all_copied u [] h apart ready room = record { later = later_self u h; filled = omega arith }
all_copied u (c ∷ copies) h apart ready room =
    let t : State = state_after u (moved_record u c) in
    let one : IsFilled u t (u.filled + c.row.blocks) = one_copied u c h ready.0 (omega arith) in
    let geometry : t.geometry ≡ u.geometry = one.later.geometry in
    let left : t.filled + blocks_of_copies copies ≤ t.geometry.agg = rw (one.filled, geometry) (omega arith) in
    let rest : IsFilled t (after_all t (moved_records t copies)) (t.filled + blocks_of_copies copies) =
    all_copied t copies one.later.sound apart.1 (still_ready u.rows t.rows c.row.id (others_stand u c) (rows_of copies) apart.0 ready.1) left in
    record {
      later = later_trans u t (after_all t (moved_records t copies)) one.later rest.later;
      filled = let sum = rest.filled in let first = one.filled in omega arith;
    }
