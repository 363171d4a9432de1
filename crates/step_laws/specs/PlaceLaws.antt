-- Where a piece stands, and which vector is a key's last: the definitions in the subject's sentences.
use Rattle.std.specs.Prelude.{ℕ, max, map, ◌≡◌, ◌<◌, ◌==◌, Bool, true, false, not, ◌&&◌, if◌then◌else◌, List, [], ◌∷◌, Option, Some, None, option_map}
use Rattle.std.specs.List.{AllByRecursion, flat_map}
use Rattle.std.specs.Map.{lookup}
use Rattle.tape_base.specs.declared.geometries.Geometry.{Geometry}
use Rattle.alternate_vector.specs.Alternates.{Stored}
use Rattle.cache_model.specs.declared.findings.FoundRow.{FoundRow}
use Rattle.cache_model.specs.Opening.{Opening}
use Rattle.cache_model.specs.Openings.{opened_record}
use Rattle.tape_base.specs.declared.keys.Key.{Key}
use Rattle.tape_base.specs.declared.pieces.PieceId.{PieceId}
use Rattle.tape_base.specs.declared.digests.Digest.{Digest}
use Rattle.tape_base.specs.Key.{same_key}
use Rattle.tape_base.specs.Piece.{is_vector, same_piece}
use Rattle.tape_base.specs.Place.{floor_of}
use Rattle.cache_model.specs.declared.record.Rec.{Rec}
use Rattle.cache_model.specs.declared.record.Rec.TheVariants as rec
use Rattle.cache_model.specs.State.{State, Row, LastVector, Complete, TakenOut, after_all, state_after, floor_now, last_vector, live_row_of, place_of, row_in, row_of, row_of_found, vector_of_found, vector_piece}

-- the key's last vector is this piece, and the commit is that of another put
abbrev pub is_replaced : Option LastVector → Key → ℕ → PieceId → Bool
is_replaced (Some (Complete old)) key put id = not (old == put) && same_piece id (vector_piece key old)
is_replaced _ key put id = false

-- where an opening found a piece
abbrev pub place_found : List FoundRow → PieceId → Option ℕ
place_found found id = option_map (λ (row : Row). row.place) (row_in (map row_of_found found) id)

-- what one record makes of the place of one piece
abbrev pub place_after : State → Rec → PieceId → Option ℕ → Option ℕ
place_after s (rec.Formatted geometry) id before = None
place_after s (rec.Opened geometry serial cursor floor next_put clean list) id before = place_found list id
place_after s (rec.Placed piece place blocks digest pin) id before = if same_piece piece id then Some place else before
place_after s (rec.Moved piece from place digest) id before = if same_piece piece id then option_map (λ old. place) before else before
place_after s (rec.Displaced piece segment live) id before = if same_piece piece id then None else before
place_after s (rec.Damaged piece place kept found) id before = if same_piece piece id then None else before
place_after s (rec.Committed put key length list) id before = if is_replaced (last_vector s key) key put id then None else before
place_after s (rec.Removed put key) id before = if same_piece id (vector_piece key put) then None else before
place_after s _ id before = before

-- each record makes that of the place of each piece
abbrev pub PlaceFollows : Type 0
PlaceFollows = (s : State) (r : Rec) (id : PieceId) → place_of (state_after s r) id ≡ place_after s r id (place_of s id)

-- the record may change where a piece stands: it begins a session, places, moves, displaces or damages the
-- piece, or, of a vector, commits another put of its key or removes its key
abbrev pub may_move : PieceId → Rec → Bool
may_move id (rec.Formatted geometry) = true
may_move id (rec.Opened geometry serial cursor floor next_put clean list) = true
may_move id (rec.Placed piece place blocks digest pin) = same_piece piece id
may_move id (rec.Moved piece from place digest) = same_piece piece id
may_move id (rec.Displaced piece segment live) = same_piece piece id
may_move id (rec.Damaged piece place kept found) = same_piece piece id
may_move id (rec.Committed put key length list) = is_vector id && (same_key id.first key && not (id.put == put))
may_move id (rec.Removed put key) = is_vector id && same_key id.first key
may_move id _ = false

-- the record is none of these, so the piece stands where it stood before
abbrev pub LeavesPiece : PieceId → Rec → Type 0
LeavesPiece id r = may_move id r ≡ false

-- a piece stands where it was placed last, with none of these records behind that
abbrev pub PlaceIsLast : Type 0
PlaceIsLast = (s : State) (id : PieceId) (place blocks pin : ℕ) (digest : Digest) (behind : List Rec)
    → AllByRecursion (LeavesPiece id) behind
    → place_of (after_all s (rec.Placed id place blocks digest pin ∷ behind)) id ≡ Some place

-- a piece that stands somewhere stands where it was moved last
abbrev pub MovedIsThere : Type 0
MovedIsThere = (s : State) (id : PieceId) (before from place : ℕ) (digest : Digest) (behind : List Rec) → place_of s id ≡ Some before → AllByRecursion (LeavesPiece id) behind
    → place_of (after_all s (rec.Moved id from place digest ∷ behind)) id ≡ Some place

-- a piece stands where the opening found it, with none of these records behind that
abbrev pub FoundIsThere : Type 0
FoundIsThere = (s : State) (id : PieceId) (geometry : Geometry) (o : Opening) (behind : List Rec) → AllByRecursion (LeavesPiece id) behind
    → place_of (after_all s (opened_record geometry o ∷ behind)) id ≡ place_found o.found id

-- the record takes a piece away
abbrev pub takes_away : PieceId → Rec → Bool
takes_away id (rec.Displaced piece segment live) = same_piece piece id
takes_away id (rec.Damaged piece place kept found) = same_piece piece id
takes_away id (rec.Removed put key) = same_piece id (vector_piece key put)
takes_away id _ = false

-- a piece that was taken away stands nowhere
abbrev pub TakenIsNowhere : Type 0
TakenIsNowhere = (s : State) (id : PieceId) (gone : Rec) (behind : List Rec) → takes_away id gone ≡ true
    → AllByRecursion (LeavesPiece id) behind
    → place_of (after_all s (gone ∷ behind)) id ≡ None

-- nor does a key's vector once another put of the key was committed
abbrev pub ReplacedIsNowhere : Type 0
ReplacedIsNowhere = (s : State) (key : Key) (old put length : ℕ) (list : List Stored)
    → last_vector s key ≡ Some (Complete old) → (old == put) ≡ false
    → place_of (after_all s (rec.Committed put key length list ∷ [])) (vector_piece key old) ≡ None

-- a piece that begins below the floor is not live, wherever it ends
abbrev pub PassedIsNotLive : Type 0
PassedIsNotLive = (s : State) (id : PieceId) (row : Row) → row_of s id ≡ Some row → row.place < floor_now s → live_row_of s id ≡ None

-- the record says something of the key's vector
abbrev pub is_about : Key → Rec → Bool
is_about key (rec.Formatted geometry) = true
is_about key (rec.Opened geometry serial cursor floor next_put clean list) = true
is_about key (rec.Committed put k length list) = same_key k key
is_about key (rec.Removed put k) = same_key k key
is_about key _ = false

-- the key's vector that an opening found
abbrev pub vector_found : List FoundRow → Key → Option LastVector
vector_found found key = lookup (λ k. same_key k key) (flat_map vector_of_found found)

-- what an opening, a commit or a removal makes of the key's last vector
abbrev pub vector_said : Key → Rec → Option LastVector
vector_said key (rec.Opened geometry serial cursor floor next_put clean list) = vector_found list key
vector_said key (rec.Committed put k length list) = Some (Complete put)
vector_said key (rec.Removed put k) = Some (TakenOut put)
vector_said key _ = None

-- the record begins no session, and is no commit or removal of the key, whose last vector stays
abbrev pub NotAbout : Key → Rec → Type 0
NotAbout key r = is_about key r ≡ false

-- the vector of a key is the last of what was found, its commits and its removals
abbrev pub VectorIsLast : Type 0
VectorIsLast = (s : State) (key : Key) (said : Rec) (behind : List Rec) → is_about key said ≡ true → AllByRecursion (NotAbout key) behind
    → last_vector (after_all s (said ∷ behind)) key ≡ vector_said key said

-- the record begins a buffer
abbrev pub begins_buffer : Rec → Bool
begins_buffer (rec.Formatted geometry) = true
begins_buffer (rec.Opened geometry serial cursor floor next_put clean list) = true
begins_buffer (rec.Began cursor floor) = true
begins_buffer _ = false

-- the record begins none, so the floor stays
abbrev pub NoBuffer : Rec → Type 0
NoBuffer r = begins_buffer r ≡ false

-- the floor is that of the buffer that began last, or that of the opening where that is greater
abbrev pub FloorIsLast : Type 0
FloorIsLast = (s : State) (cursor floor : ℕ) (behind : List Rec) → AllByRecursion NoBuffer behind
    → floor_now (after_all s (rec.Began cursor floor ∷ behind)) ≡ max s.least (floor_of s.geometry cursor)
