-- The records of a call of the pieces are none of a sync.
use Rattle.std.proofs.Common.{◌≡◌, ℕ, List, [], ◌∷◌, ◌++◌, Bool, true, false, Result, Ok, Err, length, refl, sym, subst}
use Rattle.std.specs.Prelude.{if◌then◌else◌, Option, Some, None}
use Rattle.tape_base.specs.declared.pieces.PieceId.{PieceId}
use Rattle.tape_base.specs.Digest.{digest_of}
use Rattle.tape_base.specs.Piece.{is_vector}
use Rattle.cache_model.specs.declared.answer.NextAnswer.{NextAnswer}
use Rattle.cache_model.specs.declared.answer.NextAnswer.TheVariants as next
use Rattle.cache_model.specs.declared.cause.Cause.{Cause}
use Rattle.cache_model.specs.declared.cause.Cause.TheVariants as cause
use Rattle.cache_model.specs.declared.record.Rec.{Rec}
use Rattle.cache_model.specs.declared.record.Rec.TheVariants as rec
use Rattle.cache_model.specs.Displacing.{AreOfDisplacement}
use Rattle.cache_model.specs.Legal.{answer_record}
use Rattle.cache_model.specs.State.{Row, State, after_all, live_row_of}
use Rattle.cache_model.specs.Subjects.{IsOfFlush}
use Rattle.cache_model.specs.Troubles.{cause_records}
use Rattle.cache_model.proofs.Steps.{all_append}
use Rattle.power_cuts.specs.Surviving.{AllLeaveSyncs, leaves_syncs}
use Rattle.piece_answers.specs.declared.answer.Found.{Found}
use Rattle.piece_answers.specs.declared.answer.Found.TheVariants as found
use Rattle.piece_answers.specs.declared.answer.Placed.{Placed}
use Rattle.piece_answers.specs.declared.answer.Stop.{Stop}
use Rattle.piece_answers.specs.Find.{find_adds, found_records}
use Rattle.piece_answers.specs.Flush.{AreOfFlush}
use Rattle.piece_answers.specs.Place.{AreOfPlace, IsCutOrStoppedAs, PlaceAdds, cut_records}
use Rattle.piece_answers.proofs.Displacing.{pushed_kinds}

causes_left : (row : Row) (why : Cause) → AllLeaveSyncs (cause_records row why)
causes_left row (cause.DeviceFault count) = (refl, tt)
causes_left row (cause.Damaged place kept other) = (refl, tt)
causes_left row _ = tt

found_left : (o : Option Row) (answer : Found) → AllLeaveSyncs (found_records o answer)
found_left None answer = tt
found_left (Some row) (found.Found size) = tt
found_left (Some row) (found.Missing why) = causes_left row why

pub find_left : (s : State) (id : PieceId) (answer : Found) → AllLeaveSyncs (find_adds s id answer)
find_left s id answer = found_left (live_row_of s id) answer

of_flush : (r : Rec) → IsOfFlush r → leaves_syncs r ≡ true
of_flush (rec.Began cursor floor) h = refl
of_flush (rec.Moved piece from place digest) h = refl
of_flush (rec.Unsaved piece place fault) h = refl
of_flush (rec.Damaged piece place kept found) h = refl
of_flush (rec.Fault count) h = refl
of_flush _ h = absurd h

pub flush_left : (recs : List Rec) → AreOfFlush recs → AllLeaveSyncs recs
flush_left [] all = tt
flush_left (r ∷ recs) all = (of_flush r all.0, flush_left recs all.1)

displaced_left : (recs : List Rec) → AreOfDisplacement recs → AllLeaveSyncs recs
displaced_left [] all = tt
displaced_left (rec.Displaced piece segment live ∷ recs) all = (refl, displaced_left recs all.1)
displaced_left (_ ∷ recs) all = absurd all.0

pub answer_left : (reader : ℕ) (answer : NextAnswer) → leaves_syncs (answer_record reader answer) ≡ true
answer_left reader (next.Gave index length) = refl
answer_left reader (next.Ended length) = refl
answer_left reader (next.Waited cut) = refl
answer_left reader (next.Broke why) = refl

cut_left : (id : PieceId) (payload : List ℕ) → AllLeaveSyncs (cut_records id payload)
cut_left id payload = by (is_vector id) where
  by : (b : Bool) → AllLeaveSyncs (if b then [] else rec.Cut id.put id.index (length payload) (digest_of payload) ∷ [])
  by true = tt
  by false = (refl, tt)

placed_left : (packed : Bool) (s : State) (id : PieceId) (pin start : ℕ) (payload : List ℕ) (added : List Rec) → AreOfPlace packed s id pin start payload added
    → AllLeaveSyncs added
placed_left packed s id pin start payload added a =
    let gone = displaced_left a.displaced (pushed_kinds packed s id a.displaced a.pushed) in
    subst AllLeaveSyncs (sym a.is)
    (all_append (λ r. leaves_syncs r ≡ true) (cut_records id payload) _ (cut_left id payload)
    (all_append (λ r. leaves_syncs r ≡ true) a.displaced _ gone (refl, tt)))

pub place_left : (packed : Bool) (s : State) (id : PieceId) (pin start : ℕ) (payload : List ℕ) (result : Result Placed Stop) (added : List Rec)
    → PlaceAdds packed s id pin start payload result added → AllLeaveSyncs added
place_left packed s id pin start payload (Ok placed) added a = placed_left packed s id pin start payload added a
place_left packed s id pin start payload (Err why) added a = subst AllLeaveSyncs (sym a) tt

pub cut_or_stop_left : (packed : Bool) (s : State) (faults : ℕ) (id : PieceId) (pin start : ℕ) (payload : List ℕ) (added : List Rec) (result : Result Placed Stop)
    → IsCutOrStoppedAs packed s faults id pin start payload added result → AllLeaveSyncs added
cut_or_stop_left packed s faults id pin start payload added (Ok placed) a =
    subst AllLeaveSyncs (sym a.is)
    (all_append (λ r. leaves_syncs r ≡ true) a.room a.piece (flush_left a.room a.kinds) (placed_left packed (after_all s a.room) id pin start payload a.piece a.are))
cut_or_stop_left packed s faults id pin start payload added (Err why) a = flush_left added a.kinds
