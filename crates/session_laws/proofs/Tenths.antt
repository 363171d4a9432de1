-- A full segment loses a tenth of its slots, each by another record, and one that is not full loses none.
use Rattle.std.proofs.Common.{◌≡◌, ℕ, suc, List, [], ◌∷◌, length, refl, sym, ◌∙◌, ap, subst, arith, true, false}
use Rattle.std.specs.Prelude.{◌≢◌, map, AllPairs, Contains}
use Rattle.std.specs.List.{AllByRecursion}
use Rattle.std.proofs.lemmas.List.{length-map}
use Rattle.std.proofs.lemmas.List.Elements.{All-map, recursion_from_All}
use Rattle.std.proofs.lemmas.List.Kept.{AllPairs-cons}
use Rattle.tape_base.specs.declared.pieces.PieceId.{PieceId}
use Rattle.cache_model.specs.declared.record.Rec.{Rec}
use Rattle.cache_model.specs.declared.record.Rec.TheVariants as rec
use Rattle.cache_model.specs.State.{State, Row}
use Rattle.cache_model.specs.Permit.{Permit}
use Rattle.cache_model.specs.Room.{MayDisplace, displaced_record, displaces, rows_of_segment, segment_of_piece}
use Rattle.model_laws.specs.RoomLaws.{IsTenth, TellsDisplaced}

each_told : (s : State) (segment : ℕ) (gone : List Row) → AllByRecursion (Contains (rows_of_segment s segment)) gone
    → AllByRecursion (TellsDisplaced s segment) (map (displaced_record segment (length (rows_of_segment s segment))) gone)
each_told s segment [] h = tt
each_told s segment (row ∷ gone) h = ((row, h.0, refl), each_told s segment gone h.1)

other_told : (segment live : ℕ) (a b : PieceId) → a ≢ b → rec.Displaced a segment live ≢ rec.Displaced b segment live
other_told segment live a b differ same = let id : a ≡ b = cc in differ id

apart_told : (segment live : ℕ) (gone : List Row) → AllPairs (λ (a b : Row). a.id ≢ b.id) gone
    → AllPairs (λ (a b : Rec). a ≢ b) (map (displaced_record segment live) gone)
apart_told segment live [] h = λ i j d less within. absurd (omega arith)
apart_told segment live (row ∷ gone) h =
    AllPairs-cons (λ (a b : Rec). a ≢ b) (displaced_record segment live row) (map (displaced_record segment live) gone)
    (All-map (λ (b : Rec). displaced_record segment live row ≢ b) (displaced_record segment live) gone
    (λ k d within. other_told segment live row.id _ (h 0 (suc k) d (omega arith) (omega (arith, within)))))
    (apart_told segment live gone (λ i j d less within. h (suc i) (suc j) d (omega (arith, less)) (omega (arith, within))))

pub tenth_is_displaced : (p : Permit) (s : State) (piece : PieceId) (added : List Rec) → MayDisplace p s piece added → displaces p s piece ≡ true
    → IsTenth s (segment_of_piece s piece) added
tenth_is_displaced p s piece added m full =
    let segment : ℕ = segment_of_piece s piece in
    let rows : List Row = rows_of_segment s segment in
    let purge = m.full full in
    record {
      count = ap (λ (recs : List Rec). length recs) m.is ∙ (length-map m.purged (displaced_record segment (length rows)) ∙ purge.tenth);
      each = subst (AllByRecursion (TellsDisplaced s segment)) (sym m.is) (each_told s segment m.purged (recursion_from_All (Contains rows) m.purged purge.each));
      apart = subst (AllPairs (λ (a b : Rec). a ≢ b)) (sym m.is) (apart_told segment (length rows) m.purged purge.apart);
    }

pub nothing_is_displaced : (p : Permit) (s : State) (piece : PieceId) (added : List Rec) → MayDisplace p s piece added → displaces p s piece ≡ false
    → added ≡ []
nothing_is_displaced p s piece added m free =
    m.is ∙ ap (map (displaced_record (segment_of_piece s piece) (length (rows_of_segment s (segment_of_piece s piece))))) (m.free free)
