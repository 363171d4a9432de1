-- The number that reaches the limit.
use Rattle.std.proofs.Common.{◌≡◌, ℕ, ◌+◌, ◌<◌, List, [], ◌∷◌, ◌++◌, refl, sym, ◌∙◌, ap, subst, arith, Bool, true, false, length, Result, Ok, Err}
use Rattle.std.specs.Prelude.{◌==◌, if◌then◌else◌, IfErr}
use Rattle.std.proofs.lemmas.Bool.{eq-eqb, eqb-true}
use Rattle.std.proofs.lemmas.List.{length-append}
use Rattle.tape_base.specs.Blocks.{blocks_of}
use Rattle.fragment_table.specs.Table.{TableRow}
use Rattle.cache_model.specs.State.{State, place_now}
use Rattle.cache_model.specs.Verdict.{cuts_of}
use Rattle.cache_model.specs.Legal.{vector_length}
use Rattle.cache_model.specs.Room.{copies_end, has_room}
use Rattle.cache_answers.specs.declared.answers.Refusal.{Refusal}
use Rattle.cache_answers.specs.declared.answers.Refusal.TheVariants as refusal
use Rattle.piece_answers.specs.declared.answer.Stop.TheVariants as stop
use Rattle.piece_answers.specs.Flush.{StopsWith}
use Rattle.cache_model.specs.Limits.{ReachesLimit, number_over}
use Rattle.piece_answers.specs.Place.{PlacesAt}
use Rattle.cache_answers.specs.declared.answers.Receipt.{Receipt}
use Rattle.stripe_write.specs.declared.writer.Writer.{Writer}
use Rattle.stripe_write.specs.Finishing.{VectorStops}
use Rattle.stripe_answers.specs.Numbers.{StopsExhausted}
use Rattle.cache_calls.specs.Asked.{rest_rows, rows_at_close}
use Rattle.cache_calls.specs.Writers.{bytes_next}
use Rattle.stripe_write.specs.Writers.{written_as}

-- ---- a piece with room, and one without

over_place : (s : State) (bytes : ℕ) → has_room s bytes ≡ true → number_over s bytes ≡ place_now s + blocks_of bytes
over_place s bytes room = ap (λ b. if b then place_now s + blocks_of bytes else copies_end s) room

over_flush : (s : State) (bytes : ℕ) → has_room s bytes ≡ false → number_over s bytes ≡ copies_end s
over_flush s bytes full = ap (λ b. if b then place_now s + blocks_of bytes else copies_end s) full

pub place_reaches : (s : State) (payload : List ℕ) (number : ℕ) → has_room s (length payload) ≡ true → PlacesAt s payload (Err (stop.Exhausted number)) → ReachesLimit s (length payload) number
place_reaches s payload number room at = (at.0 ∙ sym (over_place s (length payload) room), at.1)

pub flush_reaches : (s : State) (bytes faults number : ℕ) → has_room s bytes ≡ false → StopsWith s faults (stop.Exhausted number) → ReachesLimit s bytes number
flush_reaches s bytes faults number full stops = (stops.0 ∙ sym (over_flush s bytes full), stops.1)

-- ---- the piece that is placed next when a put closes

-- the vector, once all is cut
vector_next : (t : State) (w : Writer) → length (cuts_of t w.put) ≡ length (rows_at_close (written_as w)) → bytes_next t (written_as w) ≡ vector_length t w.put
vector_next t w cut = ap (λ b. if b then vector_length t w.put else length w.gathered.items) (eq-eqb (length (cuts_of t w.put)) (length (rows_at_close (written_as w))) cut)

-- the rest, while there is one that is not cut
rest_by : (t : State) (w : Writer) (bytes : List ℕ) (b : Bool) → (length w.table.rows == length (w.table.rows ++ rest_rows bytes)) ≡ b → 0 < length bytes → b ≡ false
rest_by t w bytes false e some = refl
rest_by t w [] true e some = absurd (omega (arith, some))
rest_by t w (byte ∷ bytes) true e some =
    let same : length w.table.rows ≡ length (w.table.rows ++ rest_rows (byte ∷ bytes)) = eqb-true (length w.table.rows) (length (w.table.rows ++ rest_rows (byte ∷ bytes))) e in
    let more : length (w.table.rows ++ rest_rows (byte ∷ bytes)) ≡ length w.table.rows + 1 = length-append w.table.rows (rest_rows (byte ∷ bytes)) in
    absurd (omega (arith, same, more))

rest_next : (t : State) (w : Writer) → cuts_of t w.put ≡ w.table.rows → 0 < length w.gathered.items → bytes_next t (written_as w) ≡ length w.gathered.items
rest_next t w cut some =
    ap (λ (rows : List TableRow). if length rows == length (rows_at_close (written_as w)) then vector_length t w.put else length w.gathered.items) cut
    ∙ ap (λ b. if b then vector_length t w.put else length w.gathered.items) (rest_by t w w.gathered.items (length w.table.rows == length (rows_at_close (written_as w))) refl some)

pub rest_stops : (t : State) (w : Writer) (number : ℕ) → cuts_of t w.put ≡ w.table.rows → 0 < length w.gathered.items → ReachesLimit t (length w.gathered.items) number → ReachesLimit t (bytes_next t (written_as w)) number
rest_stops t w number cut some reaches = subst (λ n. ReachesLimit t n number) (sym (rest_next t w cut some)) reaches

-- what is told of the vector of the writer that cut its rest is told of the one that closes
vector_stops : (t : State) (w cut : Writer) (why : Refusal) → cut.put ≡ w.put → cut.table.rows ≡ rows_at_close (written_as w) → VectorStops t cut why → StopsExhausted t (bytes_next t (written_as w)) why
vector_stops t w cut (refusal.Exhausted number) put rows stops =
    let whole : cuts_of t w.put ≡ rows_at_close (written_as w) = ap (cuts_of t) (sym put) ∙ (stops.0 ∙ rows) in
    subst (λ n. ReachesLimit t n number) (sym (vector_next t w (ap length whole))) (subst (λ n. ReachesLimit t (vector_length t n) number) put stops.1)
vector_stops t w cut _ put rows stops = tt

pub finished_stops : (t : State) (w cut : Writer) (result : Result Receipt Refusal) → cut.put ≡ w.put → cut.table.rows ≡ rows_at_close (written_as w) → IfErr result (VectorStops t cut) → IfErr result (StopsExhausted t (bytes_next t (written_as w)))
finished_stops t w cut (Ok receipt) put rows stops = tt
finished_stops t w cut (Err why) put rows stops = vector_stops t w cut why put rows stops
