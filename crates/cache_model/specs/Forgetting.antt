-- What a session may forget: all that it knows of puts of which nothing can be read, or found behind it, any more.
use Rattle.std.specs.Prelude.{ℕ, ◌+◌, ◌==◌, nat_le, Bool, false, not, ◌&&◌, ◌||◌, List, [], ◌∷◌, ◌++◌, length, map, filter, fold, drop, option_map, unwrap_or, if◌then◌else◌}
use Rattle.std.specs.List.{list_any}
use Rattle.std.specs.Map.{lookup}
use Rattle.tape_base.specs.declared.keys.Key.{Key}
use Rattle.tape_base.specs.declared.pieces.PieceId.{PieceId}
use Rattle.alternate_vector.specs.Alternates.{Stored}
use Rattle.cache_model.specs.declared.cause.Cause.{Cause}
use Rattle.cache_model.specs.State.{State, Mark, Row, PutRow, ReaderRow, LastVector, Complete, TakenOut, last_vector, live_rows}
use Rattle.cache_model.specs.Verdict.{is_open}

-- ---- puts of which nothing is left

-- the put is still written
abbrev pub has_writer : State → ℕ → Bool
has_writer s put = list_any (λ (p : PutRow). p.put == put && is_open p) s.puts

-- an open reader hit it, or follows it
abbrev pub has_reader : State → ℕ → Bool
has_reader s put = list_any (λ (r : ReaderRow). r.put == put) s.readers

-- one of these pieces is the put's
abbrev pub has_piece : List Row → ℕ → Bool
has_piece rows put = list_any (λ (row : Row). row.id.put == put) rows

-- an opening behind the session may find this sync, and it names one of the put's pieces
abbrev pub may_name : State → ℕ → Mark → Bool
may_name s put m = nat_le s.finished m.serial && has_piece m.rows put

-- some sync may be found that names one of them
abbrev pub is_named : State → ℕ → Bool
is_named s put = list_any (may_name s put) s.marks

-- these alternates have the put's
abbrev pub has_alternate : List Stored → ℕ → Bool
has_alternate alternates put = list_any (λ (a : Stored). a.put == put) alternates

-- a live vector lists it
abbrev pub is_listed : State → ℕ → Bool
is_listed s put = list_any (λ (row : Row). has_alternate (unwrap_or row.alternates []) put) (live_rows s)

-- the put is neither written nor read, none of its pieces is live or may be found, and no live vector lists it
abbrev pub is_dead : State → ℕ → Bool
is_dead s put = not (has_writer s put || (has_reader s put || (has_piece (live_rows s) put || (is_named s put || is_listed s put))))

-- ---- the puts that are forgotten

-- the put whose vector was committed or removed last
abbrev pub put_of_last : LastVector → ℕ
put_of_last (Complete put) = put
put_of_last (TakenOut put) = put

-- the puts of which something is known, each as often as there is something; the syncs count for nothing
abbrev pub puts_told : State → List ℕ
puts_told s =
    map (λ (p : PutRow). p.put) s.puts
    ++ map (λ (row : Row). row.id.put) s.rows
    ++ map (λ (p : ℕ × PieceId). p.1.put) s.places
    ++ map (λ (l : PieceId × Cause). l.0.put) s.lost
    ++ map (λ (v : Key × LastVector). put_of_last v.1) s.vectors
    ++ map (λ (a : Key × ℕ). a.1) s.aborts

-- a number in its place in a list that falls, once
abbrev pub with_number : ℕ → List ℕ → List ℕ
with_number n [] = n ∷ []
with_number n (m ∷ ms) = if n == m then m ∷ ms else if nat_le m n then n ∷ m ∷ ms else m ∷ with_number n ms

-- the puts of which something is known, each once, the greatest number first
abbrev pub known_puts : State → List ℕ
known_puts s = fold (λ numbers n. with_number n numbers) [] (puts_told s)

-- the puts of which nothing is left but what is known of them, but the `cap` of greatest numbers
abbrev pub forgotten_puts : ℕ → State → List ℕ
forgotten_puts cap s = drop cap (filter (is_dead s) (known_puts s))

-- the put is one of these
abbrev pub is_among_puts : List ℕ → ℕ → Bool
is_among_puts puts put = list_any (λ n. n == put) puts

-- the put is forgotten
abbrev pub is_forgotten : ℕ → State → ℕ → Bool
is_forgotten cap s put = is_among_puts (forgotten_puts cap s) put

-- ---- what is left

-- the key's last vector is that of one of these puts
abbrev pub is_last_of : List ℕ → State → Key → Bool
is_last_of puts s key = unwrap_or (option_map (λ last. is_among_puts puts (put_of_last last)) (last_vector s key)) false

-- the piece that was placed last at a place is that of one of these puts
abbrev pub is_place_of : List ℕ → State → ℕ → Bool
is_place_of puts s place = unwrap_or (option_map (λ (id : PieceId). is_among_puts puts id.put) (lookup (λ p. p == place) s.places)) false

-- without these puts. Of a key whose last vector was theirs no vector is left, as an earlier one would count as the last
abbrev pub without_puts : List ℕ → State → State
without_puts puts s = record s {
  rows = filter (λ (row : Row). not (is_among_puts puts row.id.put)) s.rows;
  places = filter (λ (p : ℕ × PieceId). not (is_among_puts puts p.1.put)) s.places;
  unsaved = filter (λ place. not (is_place_of puts s place)) s.unsaved;
  lost = filter (λ (l : PieceId × Cause). not (is_among_puts puts l.0.put)) s.lost;
  vectors = filter (λ (v : Key × LastVector). not (is_last_of puts s v.0 || is_among_puts puts (put_of_last v.1))) s.vectors;
  counts = filter (λ (c : PieceId × ℕ). not (is_among_puts puts c.0.put)) s.counts;
  puts = filter (λ (p : PutRow). not (is_among_puts puts p.put)) s.puts;
  aborts = filter (λ (a : Key × ℕ). not (is_among_puts puts a.1)) s.aborts;
  dropped = s.dropped + length puts;
}

-- what a session is that keeps `cap` of the puts of which nothing is left
abbrev pub forget : ℕ → State → State
forget cap s = without_puts (forgotten_puts cap s) s
