-- No insert goes on between calls: only the record of a displacement tells of one, and the piece that is placed behind it ends it.
use Rattle.std.proofs.Common.{◌≡◌, ℕ, List, [], ◌∷◌, ◌++◌, refl, ◌∙◌, ap, Bool, false, true, length}
use Rattle.std.specs.Prelude.{Option, Some, None}
use Rattle.std.specs.List.{AllByRecursion}
use Rattle.tape_base.specs.declared.pieces.PieceId.{PieceId}
use Rattle.tape_base.specs.Piece.{is_vector}
use Rattle.cache_model.specs.declared.answer.NextAnswer.{NextAnswer}
use Rattle.cache_model.specs.declared.answer.NextAnswer.TheVariants as next
use Rattle.cache_model.specs.declared.cause.Cause.{Cause}
use Rattle.cache_model.specs.declared.cause.Cause.TheVariants as cause
use Rattle.cache_model.specs.declared.record.Rec.{Rec}
use Rattle.cache_model.specs.declared.record.Rec.TheVariants as rec
use Rattle.cache_model.specs.State.{Row, State, after_all, live_row_of, state_after}
use Rattle.cache_model.specs.Kept.{Kept, state_of, with_records}
use Rattle.cache_model.specs.Legal.{answer_record}
use Rattle.cache_model.specs.Room.{placed_record}
use Rattle.cache_model.proofs.Steps.{after_all-append}
use Rattle.cache_model.specs.Contents.{IsToldAs, contents_of_vectors}
use Rattle.piece_answers.specs.declared.answer.Found.{Found}
use Rattle.piece_answers.specs.declared.answer.Found.TheVariants as found
use Rattle.cache_model.specs.Troubles.{cause_records}
use Rattle.piece_answers.specs.Find.{find_adds, found_records}
use Rattle.cache_model.specs.Subjects.{IsOfFlush}
use Rattle.piece_answers.specs.Flush.{AreOfFlush}
use Rattle.piece_answers.specs.Place.{AreOfPlace, cut_records}
use Rattle.piece_answers.proofs.RecordsAdded.{state_of-with_records}

-- ---- records that displace nothing

-- the record tells that a piece was displaced
abbrev pub displaces : Rec → Bool
displaces (rec.Displaced piece segment live) = true
displaces _ = false

none_after : (s : State) (r : Rec) → displaces r ≡ false → s.displaced ≡ [] → (state_after s r).displaced ≡ []
none_after s (rec.Formatted geometry) h none = refl
none_after s (rec.Opened geometry serial cursor floor next_put clean list) h none = refl
none_after s (rec.Placed piece place blocks digest pin) h none = refl
none_after s (rec.Displaced piece segment live) h none = cc
none_after s _ h none = none

abbrev pub DisplaceNone : List Rec → Type 0
DisplaceNone recs = AllByRecursion (λ r. displaces r ≡ false) recs

none_along : (s : State) (recs : List Rec) → DisplaceNone recs → s.displaced ≡ [] → (after_all s recs).displaced ≡ []
none_along s [] all none = none
none_along s (r ∷ recs) all none = none_along (state_after s r) recs all.1 (none_after s r all.0 none)

-- behind such records no insert goes on
pub none_with : (k new : Kept) (recs : List Rec) → new ≡ with_records k recs → DisplaceNone recs → (state_of k).displaced ≡ []
    → (state_of new).displaced ≡ []
none_with k new recs is all none =
    ap (λ (t : State). t.displaced) (ap state_of is ∙ state_of-with_records k recs) ∙ none_along (state_of k) recs all none

-- and behind one
pub none_behind : (k new : Kept) (r : Rec) → new ≡ with_records k (r ∷ []) → displaces r ≡ false → (state_of k).displaced ≡ []
    → (state_of new).displaced ≡ []
none_behind k new r is one none = none_with k new (r ∷ []) is (one, tt) none

-- ---- which these are

of_flush : (r : Rec) → IsOfFlush r → displaces r ≡ false
of_flush (rec.Displaced piece segment live) h = absurd h
of_flush _ h = refl

pub flush_displaces : (recs : List Rec) → AreOfFlush recs → DisplaceNone recs
flush_displaces [] all = tt
flush_displaces (r ∷ recs) all = (of_flush r all.0, flush_displaces recs all.1)

cause_displaces : (row : Row) (why : Cause) → DisplaceNone (cause_records row why)
cause_displaces row (cause.DeviceFault count) = (refl, tt)
cause_displaces row (cause.Damaged place kept other) = (refl, tt)
cause_displaces row _ = tt

found_displaces : (o : Option Row) (answer : Found) → DisplaceNone (found_records o answer)
found_displaces None answer = tt
found_displaces (Some row) (found.Found size) = tt
found_displaces (Some row) (found.Missing why) = cause_displaces row why

pub find_displaces : (s : State) (id : PieceId) (answer : Found) → DisplaceNone (find_adds s id answer)
find_displaces s id answer = found_displaces (live_row_of s id) answer

pub answer_displaces : (reader : ℕ) (answer : NextAnswer) → displaces (answer_record reader answer) ≡ false
answer_displaces reader (next.Gave index length) = refl
answer_displaces reader (next.Ended length) = refl
answer_displaces reader (next.Waited cut) = refl
answer_displaces reader (next.Broke why) = refl

-- ---- a piece that is placed

-- its place is recorded last, and ends its insert
pub none_placed : (packed : Bool) (s : State) (id : PieceId) (pin start : ℕ) (payload : List ℕ) (added : List Rec)
    → AreOfPlace packed s id pin start payload added → (after_all s added).displaced ≡ []
none_placed packed s id pin start payload added a =
    let cut = cut_records id payload in
    let place = placed_record s id pin start (length payload) payload ∷ [] in
    ap (λ (t : State). t.displaced)
    (ap (after_all s) a.is ∙ (after_all-append s cut (a.displaced ++ place) ∙ after_all-append (after_all s cut) a.displaced place))

-- ---- what is told of it

-- of vectors alone anything is told: nothing of a fragment, which lists none
pub told_fragment : (s : State) (id : PieceId) (start : ℕ) (payload : List ℕ) → is_vector id ≡ false
    → IsToldAs contents_of_vectors s id start payload
told_fragment s id start payload kind = record { content = rw kind tt; spelled = rw kind tt }
