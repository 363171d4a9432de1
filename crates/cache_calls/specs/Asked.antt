-- What the calls of a cache are asked, and what becomes of that by each answer.
use Rattle.std.specs.Prelude.{ℕ, ◌+◌, ◌-◌, ◌==◌, ◌&&◌, min, nat_lt, Bool, not, if◌then◌else◌, List, [], ◌∷◌, ◌++◌, length, take, Result, Err}
use Rattle.tape_base.specs.declared.geometries.Geometry.{Geometry}
use Rattle.tape_base.specs.Digest.{digest_of}
use Rattle.fragment_table.specs.Table.{TableRow, made_row}
use Rattle.cache_model.specs.State.{State, most_fragments}
use Rattle.cache_model.specs.Permit.{Commit, Exhausted, Faulted, Finish, Fragment, GiveUp, Intent, Lost, ManyFragments, ManyWriters, Overflow, TooLarge, Weigh}
use Rattle.cache_model.specs.Legal.{is_writing}
use Rattle.call_laws.specs.Progress.{AllDone, Leaves, Progress, Stops, progress_by}
use Rattle.cache_answers.specs.declared.answers.Refusal.{Refusal}
use Rattle.cache_answers.specs.declared.answers.Refusal.TheVariants as refusal
use Rattle.cache_calls.specs.Actors.{WriterSeen}

-- ---- writers

-- how many bytes are taken: up to the next cut
abbrev pub taken_of : Geometry → WriterSeen → List ℕ → ℕ
taken_of g w bytes = min (length bytes) (g.fragment - length w.gathered)

-- the bytes that are gathered then
abbrev pub gathered_with : WriterSeen → List ℕ → ℕ → List ℕ
gathered_with w bytes n = w.gathered ++ take n bytes

-- as many as a fragment has
abbrev pub fills_fragment : Geometry → WriterSeen → ℕ → Bool
fills_fragment g w n = length w.gathered + n == g.fragment

-- the bytes of the next fragment, where it has gathered
abbrev pub next_payload : State → WriterSeen → List ℕ → List ℕ
next_payload s w bytes = gathered_with w bytes (taken_of s.geometry w bytes)

-- to cut these bytes as the next fragment
abbrev pub cuts_next : WriterSeen → List ℕ → Intent
cuts_next w payload = Fragment w.put (length w.cuts + 1) payload

-- there are bytes behind the last fragment that a put may have
abbrev pub is_overflow : WriterSeen → List ℕ → Bool
is_overflow w bytes = nat_lt 0 (length bytes) && length w.cuts == most_fragments

-- a writer that takes bytes is asked for a fragment once one has gathered, where it may have one more
abbrev pub fed_asks : State → WriterSeen → List ℕ → List Intent
fed_asks s w bytes =
    if is_overflow w bytes then Overflow w.put ∷ []
    else if fills_fragment s.geometry w (taken_of s.geometry w bytes) then cuts_next w (next_payload s w bytes) ∷ []
    else []

-- one that takes none is asked for nothing
abbrev pub write_asks : State → WriterSeen → List ℕ → List Intent
write_asks s w bytes = if is_writing s w.put && not w.sealed then fed_asks s w bytes else []

-- the row of the last fragment, where there is a rest
abbrev pub rest_rows : List ℕ → List TableRow
rest_rows [] = []
rest_rows (byte ∷ bytes) = made_row (length (byte ∷ bytes)) (digest_of (byte ∷ bytes)).0 ∷ []

-- the fragments of a put when it closes
abbrev pub rows_at_close : WriterSeen → List TableRow
rows_at_close w = w.cuts ++ rest_rows w.gathered

-- to cut the rest, where there is one
abbrev pub rest_asks : WriterSeen → List ℕ → List Intent
rest_asks w [] = []
rest_asks w (byte ∷ bytes) = cuts_next w (byte ∷ bytes) ∷ []

-- to weigh the vector, cut the rest, place the vector, and commit
abbrev pub ending_asks : WriterSeen → List Intent
ending_asks w =
    Weigh w.put (length w.gathered)
    ∷ (rest_asks w w.gathered ++ Finish w.put (length (rows_at_close w)) ∷ Commit w.put ∷ [])

-- where the put is not open it is asked for nothing
abbrev pub close_asks : State → WriterSeen → List Intent
close_asks s w = if is_writing s w.put then ending_asks w else []

-- ---- what becomes of it

-- Of what was asked for a put, by a refusal. All of it is left where memory is wanting, and where no writer takes it.
abbrev pub refused_at : ℕ → List Intent → Refusal → Progress
refused_at put asked refusal.TooManyWriters = Stops ManyWriters
refused_at put asked refusal.TooManyFragments = Stops (ManyFragments put)
refused_at put asked (refusal.VectorTooLarge bytes) = Stops (TooLarge put bytes)
refused_at put asked (refusal.Lost index why) = Stops (Lost put index)
refused_at put asked (refusal.DeviceFault count) = Stops (Faulted count)
refused_at put asked refusal.Sealed = Leaves asked
refused_at put asked (refusal.Exhausted number) = Stops Exhausted
refused_at put asked refusal.NoSuchWriter = Leaves asked
refused_at put asked (refusal.Memory e) = Leaves asked

-- by an answer: all is done, or it is refused
abbrev pub progress_at : {X : Type 0} → ℕ → List Intent → Result X Refusal → Progress
progress_at put asked result = progress_by (refused_at put asked) result

-- a put that is not open needs no giving up
abbrev pub given_up_at : {X : Type 0} → ℕ → Result X Refusal → Progress
given_up_at put (Err refusal.NoSuchWriter) = AllDone
given_up_at put result = progress_at put (GiveUp put ∷ []) result

-- of a call that is refused for want of memory alone
abbrev pub unless_wanting : {X E : Type 0} → List Intent → Result X E → Progress
unless_wanting asked result = progress_by (λ e. Leaves asked) result
