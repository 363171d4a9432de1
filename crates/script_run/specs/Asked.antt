-- What a step is asked to do.
use Rattle.std.specs.Prelude.{ℕ, zero, suc, ◌+◌, ◌==◌, nat_le, if◌then◌else◌, List, [], ◌∷◌, ◌++◌, length, take, drop, Option, Some, None}
use Rattle.script_grammar.specs.declared.step.Step.{Step}
use Rattle.script_grammar.specs.declared.step.Step.TheVariants as step
use Rattle.tape_base.specs.declared.keys.Key.{Key}
use Rattle.alternate_vector.specs.Field.{Field}
use Rattle.cache_model.specs.State.{State, most_fragments}
use Rattle.cache_model.specs.Verdict.{cuts_of}
use Rattle.cache_model.specs.Permit.{Intent, Flush, Write, Fragment, Overflow, Weigh, Finish, Commit, GiveUp, Remove, Look, ReadOn, ReadAll, StopReading}
use Rattle.actor_table.specs.Table.{number_of_name}
use Rattle.script_run.specs.Run.{Run, Holding, held_by, put_written_by, reader_by, gathered_of}

-- ---- bytes of a put

-- Bytes that are gathered behind so many fragments of a put are cut into whole fragments of so many
-- bytes; where bytes are left behind the last fragment that a put may have, there is one too many.
-- The first number bounds the fragments: as many as there are bytes are enough.
abbrev pub cut_intents : ℕ → ℕ → ℕ → ℕ → List ℕ → List Intent
cut_intents zero fragment put cut bytes = []
cut_intents (suc most) fragment put cut [] = []
cut_intents (suc most) fragment put cut (byte ∷ bytes) =
    if cut == most_fragments then Overflow put ∷ []
    else if nat_le fragment (length (byte ∷ bytes))
    then Fragment put (cut + 1) (take fragment (byte ∷ bytes)) ∷ cut_intents most fragment put (cut + 1) (drop fragment (byte ∷ bytes))
    else []

-- the same with a bound that is enough
abbrev pub feed_intents : ℕ → ℕ → ℕ → List ℕ → List Intent
feed_intents fragment put cut bytes = cut_intents (length bytes) fragment put cut bytes

-- how many whole fragments bytes have, counted up to a bound
abbrev pub whole_among : ℕ → ℕ → List ℕ → ℕ
whole_among zero fragment bytes = 0
whole_among (suc most) fragment bytes = if nat_le fragment (length bytes) then whole_among most fragment (drop fragment bytes) + 1 else 0

-- all of them, since no fragment is empty
abbrev pub whole_fragments : ℕ → List ℕ → ℕ
whole_fragments fragment bytes = whole_among (length bytes) fragment bytes

-- what is left behind them
abbrev pub rest_among : ℕ → ℕ → List ℕ → List ℕ
rest_among zero fragment bytes = bytes
rest_among (suc most) fragment bytes = if nat_le fragment (length bytes) then rest_among most fragment (drop fragment bytes) else bytes

-- behind all of them: less than a whole fragment
abbrev pub rest_behind : ℕ → List ℕ → List ℕ
rest_behind fragment bytes = rest_among (length bytes) fragment bytes

-- the rest is cut, where there is one
abbrev pub rest_intents : ℕ → ℕ → List ℕ → List Intent
rest_intents put cut [] = []
rest_intents put cut (byte ∷ bytes) = Fragment put (cut + 1) (byte ∷ bytes) ∷ []

-- how many fragments a put has once the rest is cut
abbrev pub count_with : ℕ → List ℕ → ℕ
count_with cut [] = cut
count_with cut (byte ∷ bytes) = cut + 1

-- a put closes that has so many fragments, and these bytes in none
abbrev pub close_intents : ℕ → ℕ → List ℕ → List Intent
close_intents put cut rest = Weigh put (length rest) ∷ (rest_intents put cut rest ++ Finish put (count_with cut rest) ∷ Commit put ∷ [])

-- all of a body is put
abbrev pub body_intents : ℕ → ℕ → List ℕ → List Intent
body_intents fragment put body =
    feed_intents fragment put 0 body ++ close_intents put (whole_fragments fragment body) (rest_behind fragment body)

-- ---- lines

-- a whole put by no actor, with no pin; it ends in any case
abbrev pub put_intents : State → Key → List ℕ → List Field → List Field → List Intent
put_intents s key body request response =
    Write 0 key request response 0 ∷ (body_intents s.geometry.fragment s.next_put body ++ GiveUp s.next_put ∷ [])

-- a whole read by no actor
abbrev pub get_intents : State → Key → List Field → List Intent
get_intents s key request = Look 0 key request ∷ ReadAll s.next_reader ∷ StopReading s.next_reader ∷ []

-- what only an actor that has nothing may ask
abbrev pub asks_if_free : Option Holding → List Intent → List Intent
asks_if_free None asked = asked
asks_if_free (Some holding) asked = []

-- what only one may ask that has what it needs
abbrev pub asks_if_has : Option ℕ → (ℕ → List Intent) → List Intent
asks_if_has None asked = []
asks_if_has (Some n) asked = asked n

-- a sealed writer is asked nothing
abbrev pub feeding : Run → State → List ℕ → ℕ → List Intent
feeding run s body put =
    if (run.streams put).sealed then []
    else feed_intents s.geometry.fragment put (length (cuts_of s put)) (gathered_of run s put ++ body)

-- a writer closes, sealed or not, with what it gathered and has not cut
abbrev pub closing : Run → State → ℕ → List Intent
closing run s put = close_intents put (length (cuts_of s put)) (gathered_of run s put)

-- what a step is asked, where there is a session
abbrev pub asked : Run → State → Step → List Intent
asked run s (step.Format name segments buckets content agg reach fragment generation alternates) = []
asked run s (step.Put key body request response) = put_intents s key body request response
asked run s (step.Get key request) = get_intents s key request
asked run s (step.OpenWrite actor key pin request response) = asks_if_free (held_by run actor) (Write (number_of_name run.actors actor) key request response pin ∷ [])
asked run s (step.Feed actor body) = asks_if_has (put_written_by run actor) (feeding run s body)
asked run s (step.Close actor) = asks_if_has (put_written_by run actor) (closing run s)
asked run s (step.Abort actor) = asks_if_has (put_written_by run actor) (λ put. GiveUp put ∷ [])
asked run s (step.OpenRead actor key request) = asks_if_free (held_by run actor) (Look (number_of_name run.actors actor) key request ∷ [])
asked run s (step.Next actor) = asks_if_has (reader_by run actor) (λ reader. ReadOn reader ∷ [])
asked run s (step.Done actor) = asks_if_has (reader_by run actor) (λ reader. StopReading reader ∷ [])
asked run s (step.Remove key) = Remove key ∷ []
asked run s step.Flush = Flush ∷ []
asked run s (step.Now moment) = []
asked run s (step.Fail nth) = []
asked run s (step.StopAfter calls) = []
asked run s (step.Flip place byte) = []
asked run s (step.Cut choice) = []
