-- What a record makes of the place of one piece, and records that leave it.
use Rattle.std.proofs.Common.{◌≡◌, ℕ, ◌<◌, ◌≤◌, List, [], ◌∷◌, ◌++◌, Bool, true, false, Option, Some, None, refl, sym, ◌∙◌, ap, arith}
use Rattle.std.specs.Prelude.{max, not, ◌&&◌, ◌==◌, if◌then◌else◌, map, option_map, option_to_list}
use Rattle.std.specs.List.{AllByRecursion}
use Rattle.tape_base.specs.declared.keys.Key.{Key}
use Rattle.tape_base.specs.declared.pieces.PieceId.{PieceId}
use Rattle.tape_base.specs.declared.digests.Digest.{Digest}
use Rattle.tape_base.specs.Key.{same_key}
use Rattle.tape_base.specs.Piece.{same_piece, is_vector}
use Rattle.std.proofs.lemmas.Bool.{leb-true}
use Rattle.tape_base.proofs.NameLaws.{same_piece-true, same_piece-same, same_key-same}
use Rattle.cache_model.specs.declared.record.Rec.{Rec}
use Rattle.cache_model.specs.declared.record.Rec.TheVariants as rec
use Rattle.alternate_vector.specs.Alternates.{Stored}
use Rattle.cache_model.specs.State.{State, Row, LastVector, Complete, TakenOut, after_all, state_after, last_vector, place_of, row_in, row_of, without, without_earlier, vector_piece, placed_row, moved_row, is_live, only_live, live_row_of, floor_now}
use Rattle.tape_base.specs.declared.geometries.Geometry.{Geometry}
use Rattle.cache_model.specs.Opening.{Opening}
use Rattle.cache_model.specs.Openings.{opened_record}
use Rattle.step_laws.specs.PlaceLaws.{place_after, place_found, is_replaced, LeavesPiece, takes_away, is_about, NotAbout, vector_said, begins_buffer, NoBuffer}
use Rattle.tape_base.specs.Place.{floor_of}
use Rattle.cache_model.proofs.Lists.{row_in-without, row_in-placed, row_in-copied}
use Rattle.cache_model.proofs.Found.{no_truth}

abbrev place_in : Option Row → Option ℕ
place_in row = option_map (λ (r : Row). r.place) row

placed_at : (b : Bool) (row : Row) (before : Option Row) → place_in (if b then Some row else before) ≡ (if b then Some row.place else place_in before)
placed_at true row before = refl
placed_at false row before = refl

taken : (b : Bool) (before : Option Row) → place_in (if b then None else before) ≡ (if b then None else place_in before)
taken true before = refl
taken false before = refl

same_piece-sym_by : (a b : PieceId) (t u : Bool) → same_piece a b ≡ t → same_piece b a ≡ u → t ≡ u
same_piece-sym_by a b true true h k = refl
same_piece-sym_by a b false false h k = refl
same_piece-sym_by a b true false h k = sym (ap (λ x. same_piece x a) (sym (same_piece-true a b h)) ∙ same_piece-same a) ∙ k
same_piece-sym_by a b false true h k = sym (sym (ap (λ x. same_piece x b) (sym (same_piece-true b a k)) ∙ same_piece-same b) ∙ h)

pub same_piece-sym : (a b : PieceId) → same_piece a b ≡ same_piece b a
same_piece-sym a b = same_piece-sym_by a b (same_piece a b) (same_piece b a) refl refl

without_at : (rows : List Row) (piece id : PieceId) → place_in (row_in (without piece rows) id) ≡ (if same_piece piece id then None else place_in (row_in rows id))
without_at rows piece id = ap place_in (row_in-without piece id rows) ∙ taken (same_piece piece id) (row_in rows id)

earlier_by : (rows : List Row) (key : Key) (put old : ℕ) (id : PieceId) (b : Bool) → (old == put) ≡ b
    → place_in (row_in (if b then rows else without (vector_piece key old) rows) id)
    ≡ (if not b && same_piece id (vector_piece key old) then None else place_in (row_in rows id))
earlier_by rows key put old id true e = refl
earlier_by rows key put old id false e = rw (same_piece-sym id (vector_piece key old)) (without_at rows (vector_piece key old) id)

earlier_at : (rows : List Row) (key : Key) (put : ℕ) (last : Option LastVector) (id : PieceId)
    → place_in (row_in (without_earlier key put last rows) id) ≡ (if is_replaced last key put id then None else place_in (row_in rows id))
earlier_at rows key put (Some (Complete old)) id = earlier_by rows key put old id (old == put) refl
earlier_at rows key put (Some (TakenOut old)) id = refl
earlier_at rows key put None id = refl

copied_at : (b : Bool) (place : ℕ) (digest : Digest) (before : Option Row)
    → place_in (if b then option_map (moved_row place digest) before else before) ≡ (if b then option_map (λ (old : ℕ). place) (place_in before) else place_in before)
copied_at true place digest (Some row) = refl
copied_at true place digest None = refl
copied_at false place digest before = refl

moved_at : (rows : List Row) (piece : PieceId) (place : ℕ) (digest : Digest) (id : PieceId)
    → place_in (row_in (without piece rows ++ map (moved_row place digest) (option_to_list (row_in rows piece))) id)
    ≡ (if same_piece piece id then option_map (λ (old : ℕ). place) (place_in (row_in rows id)) else place_in (row_in rows id))
moved_at rows piece place digest id = ap place_in (row_in-copied piece id rows place digest) ∙ copied_at (same_piece piece id) place digest (row_in rows id)

pub place_follows : (s : State) (r : Rec) (id : PieceId) → place_of (state_after s r) id ≡ place_after s r id (place_of s id)
place_follows s (rec.Placed piece place blocks digest pin) id =
    ap place_in (row_in-placed id s.rows (placed_row s piece place blocks digest pin)) ∙ placed_at (same_piece piece id) _ (row_of s id)
place_follows s (rec.Displaced piece segment live) id = without_at s.rows piece id
place_follows s (rec.Damaged piece place kept found) id = without_at s.rows piece id
place_follows s (rec.Moved piece from place digest) id = moved_at s.rows piece place digest id
place_follows s (rec.Committed put key length list) id = earlier_at s.rows key put (last_vector s key) id
place_follows s (rec.Removed put key) id = rw (same_piece-sym id (vector_piece key put)) (without_at s.rows (vector_piece key put) id)
place_follows s _ id = refl

-- ---- records that leave a piece

removal_leaves : (key : Key) (put : ℕ) (id : PieceId) (b : Bool) → same_piece id (vector_piece key put) ≡ b → (is_vector id && same_key id.first key) ≡ false → b ≡ false
removal_leaves key put id false e h = refl
removal_leaves key put id true e h =
    let same : id ≡ vector_piece key put = same_piece-true id (vector_piece key put) e in
    let about : (is_vector id && same_key id.first key) ≡ true = ap (λ i. is_vector i && same_key i.first key) same ∙ same_key-same key in
    no_truth (sym about ∙ h)

commit_leaves_by : (key : Key) (put old : ℕ) (id : PieceId) (b c : Bool) → (old == put) ≡ b → same_piece id (vector_piece key old) ≡ c
    → (is_vector id && (same_key id.first key && not (id.put == put))) ≡ false → (not b && c) ≡ false
commit_leaves_by key put old id true c e f h = refl
commit_leaves_by key put old id false false e f h = refl
commit_leaves_by key put old id false true e f h =
    let same : id ≡ vector_piece key old = same_piece-true id (vector_piece key old) f in
    let about : (is_vector id && (same_key id.first key && not (id.put == put))) ≡ (same_key key key && not (old == put)) =
    ap (λ i. is_vector i && (same_key i.first key && not (i.put == put))) same in
    let there : (same_key key key && not (old == put)) ≡ true = rw (same_key-same key, e) refl in
    no_truth (sym (about ∙ there) ∙ h)

commit_leaves : (last : Option LastVector) (key : Key) (put : ℕ) (id : PieceId) → (is_vector id && (same_key id.first key && not (id.put == put))) ≡ false
    → is_replaced last key put id ≡ false
commit_leaves (Some (Complete old)) key put id h = commit_leaves_by key put old id (old == put) (same_piece id (vector_piece key old)) refl refl h
commit_leaves (Some (TakenOut old)) key put id h = refl
commit_leaves None key put id h = refl

record_leaves : (s : State) (r : Rec) (id : PieceId) (before : Option ℕ) → LeavesPiece id r → place_after s r id before ≡ before
record_leaves s (rec.Formatted geometry) id before h = no_truth h
record_leaves s (rec.Opened geometry serial cursor floor next_put clean list) id before h = no_truth h
record_leaves s (rec.Placed piece place blocks digest pin) id before h = rw h refl
record_leaves s (rec.Displaced piece segment live) id before h = rw h refl
record_leaves s (rec.Damaged piece place kept found) id before h = rw h refl
record_leaves s (rec.Moved piece from place digest) id before h = rw h refl
record_leaves s (rec.Committed put key length list) id before h = rw (commit_leaves (last_vector s key) key put id h) refl
record_leaves s (rec.Removed put key) id before h = rw (removal_leaves key put id (same_piece id (vector_piece key put)) refl h) refl
record_leaves s _ id before h = refl

-- records that leave a piece leave its place
pub place-left : (s : State) (id : PieceId) (recs : List Rec) → AllByRecursion (LeavesPiece id) recs → place_of (after_all s recs) id ≡ place_of s id
place-left s id [] h = refl
place-left s id (r ∷ recs) h = place-left (state_after s r) id recs h.1 ∙ (place_follows s r id ∙ record_leaves s r id (place_of s id) h.0)

pub place_is_last : (s : State) (id : PieceId) (place blocks pin : ℕ) (digest : Digest) (behind : List Rec) → AllByRecursion (LeavesPiece id) behind
    → place_of (after_all s (rec.Placed id place blocks digest pin ∷ behind)) id ≡ Some place
place_is_last s id place blocks pin digest behind h =
    place-left (state_after s (rec.Placed id place blocks digest pin)) id behind h
    ∙ (place_follows s (rec.Placed id place blocks digest pin) id ∙ rw (same_piece-same id) refl)

pub moved_is_there : (s : State) (id : PieceId) (before from place : ℕ) (digest : Digest) (behind : List Rec) → place_of s id ≡ Some before → AllByRecursion (LeavesPiece id) behind
    → place_of (after_all s (rec.Moved id from place digest ∷ behind)) id ≡ Some place
moved_is_there s id before from place digest behind there h =
    place-left (state_after s (rec.Moved id from place digest)) id behind h
    ∙ (place_follows s (rec.Moved id from place digest) id ∙ rw (same_piece-same id, there) refl)

pub found_is_there : (s : State) (id : PieceId) (geometry : Geometry) (o : Opening) (behind : List Rec)
    → AllByRecursion (LeavesPiece id) behind
    → place_of (after_all s (opened_record geometry o ∷ behind)) id ≡ place_found o.found id
found_is_there s id geometry o behind h = place-left (state_after s (opened_record geometry o)) id behind h

gone_at : (s : State) (id : PieceId) (gone : Rec) → takes_away id gone ≡ true → place_of (state_after s gone) id ≡ None
gone_at s id (rec.Displaced piece segment live) h = place_follows s (rec.Displaced piece segment live) id ∙ rw h refl
gone_at s id (rec.Damaged piece place kept found) h = place_follows s (rec.Damaged piece place kept found) id ∙ rw h refl
gone_at s id (rec.Removed put key) h = place_follows s (rec.Removed put key) id ∙ rw h refl
gone_at s id _ h = cc

pub taken_is_nowhere : (s : State) (id : PieceId) (gone : Rec) (behind : List Rec) → takes_away id gone ≡ true → AllByRecursion (LeavesPiece id) behind
    → place_of (after_all s (gone ∷ behind)) id ≡ None
taken_is_nowhere s id gone behind h k = place-left (state_after s gone) id behind k ∙ gone_at s id gone h

pub replaced_is_nowhere : (s : State) (key : Key) (old put length : ℕ) (list : List Stored) → last_vector s key ≡ Some (Complete old) → (old == put) ≡ false
    → place_of (after_all s (rec.Committed put key length list ∷ [])) (vector_piece key old) ≡ None
replaced_is_nowhere s key old put length list h e =
    place_follows s (rec.Committed put key length list) (vector_piece key old) ∙ rw (h, e, same_piece-same (vector_piece key old)) refl

-- ---- what stands below the floor, and what stands last

below_by : (s : State) (row : Row) (b : Bool) → is_live s row ≡ b → row.place < floor_now s → only_live s row ≡ None
below_by s row false e h = rw e refl
below_by s row true e h = let above : floor_now s ≤ row.place = leb-true (floor_now s) row.place e in absurd (omega arith)

pub passed_is_not_live : (s : State) (id : PieceId) (row : Row) → row_of s id ≡ Some row → row.place < floor_now s → live_row_of s id ≡ None
passed_is_not_live s id row e h = rw e (below_by s row (is_live s row) refl h)

vector_stays : (s : State) (key : Key) (r : Rec) → is_about key r ≡ false → last_vector (state_after s r) key ≡ last_vector s key
vector_stays s key (rec.Formatted geometry) h = no_truth h
vector_stays s key (rec.Opened geometry serial cursor floor next_put clean list) h = no_truth h
vector_stays s key (rec.Committed put k length list) h = rw h refl
vector_stays s key (rec.Removed put k) h = rw h refl
vector_stays s key _ h = refl

pub vector-left : (s : State) (key : Key) (recs : List Rec) → AllByRecursion (NotAbout key) recs → last_vector (after_all s recs) key ≡ last_vector s key
vector-left s key [] h = refl
vector-left s key (r ∷ recs) h = vector-left (state_after s r) key recs h.1 ∙ vector_stays s key r h.0

vector_is : (s : State) (key : Key) (said : Rec) → is_about key said ≡ true → last_vector (state_after s said) key ≡ vector_said key said
vector_is s key (rec.Formatted geometry) h = refl
vector_is s key (rec.Opened geometry serial cursor floor next_put clean list) h = refl
vector_is s key (rec.Committed put k length list) h = rw h refl
vector_is s key (rec.Removed put k) h = rw h refl
vector_is s key _ h = cc

pub vector_is_last : (s : State) (key : Key) (said : Rec) (behind : List Rec) → is_about key said ≡ true → AllByRecursion (NotAbout key) behind
    → last_vector (after_all s (said ∷ behind)) key ≡ vector_said key said
vector_is_last s key said behind h k = vector-left (state_after s said) key behind k ∙ vector_is s key said h

floor_stays : (s : State) (r : Rec) → begins_buffer r ≡ false → floor_now (state_after s r) ≡ floor_now s
floor_stays s (rec.Formatted geometry) h = no_truth h
floor_stays s (rec.Opened geometry serial cursor floor next_put clean list) h = no_truth h
floor_stays s (rec.Began cursor floor) h = no_truth h
floor_stays s _ h = refl

pub floor-left : (s : State) (recs : List Rec) → AllByRecursion NoBuffer recs → floor_now (after_all s recs) ≡ floor_now s
floor-left s [] h = refl
floor-left s (r ∷ recs) h = floor-left (state_after s r) recs h.1 ∙ floor_stays s r h.0

pub floor_is_last : (s : State) (cursor floor : ℕ) (behind : List Rec) → AllByRecursion NoBuffer behind
    → floor_now (after_all s (rec.Began cursor floor ∷ behind)) ≡ max s.least (floor_of s.geometry cursor)
floor_is_last s cursor floor behind h = floor-left (state_after s (rec.Began cursor floor)) behind h
