-- Which pieces a pair may be of.
use Rattle.std.proofs.Common.{◌≡◌, ℕ, ◌≤◌, List, [], ◌∷◌, refl, sym, ◌∙◌, arith, false, inl, inr}
use Rattle.std.specs.Prelude.{Some, None, option_and_then}
use Rattle.tape_base.specs.declared.keys.Key.{Key}
use Rattle.alternate_vector.specs.Field.{Field}
use Rattle.cache_model.specs.State.{State, Row, after_all, reader_of}
use Rattle.cache_model.specs.Verdict.{live_vector_of}
use Rattle.cache_model.specs.Permit.{Intent, IsAmong, Look, Permit, ReadOn}
use Rattle.cache_model.specs.Outcomes.{Copied, NoRoom, Outcome, ReadRefused, Spoiled, left_behind, records_of}
use Rattle.cache_model.specs.Legal.{live_next}
use Rattle.cache_model.specs.ToRead
use Rattle.cache_model.specs.ToRead.{ComesTo, IsToRead, flushes_first, to_read}
use Rattle.cache_model.proofs.Found.{no_truth, none_is}

pub none_reads : (p : Permit) (s : State) (i : Intent) (row : Row) → to_read s i ≡ None → flushes_first s i ≡ false → IsToRead p s i row → ⊥
none_reads p s i row none still (ToRead.IsToRead.asked_for found) = none_is (sym none ∙ found)
none_reads p s i row none still (ToRead.IsToRead.copied first can came) = no_truth (sym first ∙ still)

pub lookup_reads : (p : Permit) (s : State) (actor : ℕ) (key : Key) (request : List Field) (row : Row) → IsToRead p s (Look actor key request) row → live_vector_of s key ≡ Some row
lookup_reads p s actor key request row (ToRead.IsToRead.asked_for found) = found
lookup_reads p s actor key request row (ToRead.IsToRead.copied first can came) = no_truth (sym first)

pub reader_reads : (p : Permit) (s : State) (reader : ℕ) (row : Row) → IsToRead p s (ReadOn reader) row → option_and_then (live_next s) (reader_of s reader) ≡ Some row
reader_reads p s reader row (ToRead.IsToRead.asked_for found) = found
reader_reads p s reader row (ToRead.IsToRead.copied first can came) = no_truth (sym first)

-- a piece leaves no more of the budget than there was
left_less : (left : ℕ) (row : Row) (o : Outcome) → left_behind left row o ≤ left
left_less left row NoRoom = omega arith
left_less left row (Copied bytes) = omega arith
left_less left row (Spoiled found) = omega arith
left_less left row (ReadRefused count) = omega arith

pub copied_fits : (p : Permit) (piece : Row) (s : State) (left : ℕ) (rows : List Row) → ComesTo p piece s left rows → IsAmong piece rows × (piece.blocks ≤ left)
copied_fits p piece s left [] came = elim came [ ]
copied_fits p piece s left (row ∷ rows) (ToRead.ComesTo.here fits) = (inl refl, fits)
copied_fits p piece s left (row ∷ rows) (ToRead.ComesTo.behind o out rest) =
    let before = copied_fits p piece (after_all s (records_of row o)) (left_behind left row o) rows rest in
    let less = left_less left row o in
    (inr before.0, omega (arith, before.1, less))
