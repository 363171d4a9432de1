-- Each line of the script is a step of its session, under any key.
use Rattle.std.specs.Prelude.{◌≡◌, List, [], ◌∷◌, ◌++◌, None, Some}
use Rattle.tape_base.specs.declared.keys.Key.{Key}
use Rattle.cache_model.specs.declared.cause.Cause.TheVariants as cause
use Rattle.cache_model.specs.declared.record.Rec.{Rec}
use Rattle.cache_model.specs.Legal.{IsStep, format_records}
use Rattle.cache_model.specs.Permit.{Look, ReadOn, Remove}
use Rattle.cache_model.specs.State.{State, Row, Closed, Complete, after_all, fragment_piece, nothing_yet, vector_piece}
use Rattle.script_run.specs.Asked.{get_intents, put_intents}
use Rattle.worked_runs.specs.Script.{alternate_of_a, body_of_a, end_records, fragment_digest, get_records, hit_records, miss_records, piece_records, put_records, removal_records, row_of_a, script_geometry, silent, vector_digest}

-- behind the format, and these records
abbrev pub behind_script : List Rec → State
behind_script added = after_all nothing_yet (format_records script_geometry ++ added)

-- the state behind the get that finds nothing
abbrev pub state_of_miss : Key → State
state_of_miss key = behind_script (miss_records 1 key cause.NeverPut)

-- behind the put
abbrev pub state_of_put : Key → State
state_of_put key = after_all (state_of_miss key) (put_records key)

-- the fragment of the put, in the first block of the buffer
abbrev pub fragment_row : Key → Row
fragment_row key = record {
  id = fragment_piece key 1 1;
  place = 64;
  blocks = 1;
  digest = fragment_digest key;
  payload = Some row_of_a;
  pin = 0;
  alternates = None;
}

-- its vector, in the next one
abbrev pub vector_row : Key → Row
vector_row key = record {
  id = vector_piece key 1;
  place = 65;
  blocks = 1;
  digest = vector_digest key;
  payload = None;
  pin = 0;
  alternates = Some (alternate_of_a ∷ []);
}

-- what the records of the put stand for, written out
abbrev pub held_state : Key → State
held_state key = record (state_of_miss key) {
  filled = 2;
  rows = fragment_row key ∷ vector_row key ∷ [];
  places = (65, vector_piece key 1) ∷ (64, fragment_piece key 1 1) ∷ [];
  vectors = (key, Complete 1) ∷ [];
  counts = (vector_piece key 1, 1) ∷ [];
  puts = record { actor = 0; put = 1; key = key; request = []; response = []; pin = 0; cuts = row_of_a ∷ []; writing = Closed } ∷ [];
  last_cut = Some row_of_a;
  next_put = 2;
}

-- so it is, whatever number the key has
abbrev pub ThePutHolds : Type 0
ThePutHolds = (key : Key) → state_of_put key ≡ held_state key

-- behind the line that opens a reader
abbrev pub state_of_hit : Key → State
state_of_hit key = after_all (state_of_put key) (hit_records key)

-- behind the one that reads the fragment
abbrev pub state_of_piece : Key → State
state_of_piece key = after_all (state_of_hit key) piece_records

-- behind the one that comes to the end
abbrev pub state_of_end : Key → State
state_of_end key = after_all (state_of_piece key) end_records

-- behind the get of what was put
abbrev pub state_of_get : Key → State
state_of_get key = after_all (state_of_end key) (get_records key)

-- behind the removal
abbrev pub state_of_removal : Key → State
state_of_removal key = after_all (state_of_get key) (removal_records key)

-- a lookup is a step that finds nothing, since nothing was put yet
abbrev pub AMissIsAStep : Type 0
AMissIsAStep = (key : Key)
    → IsStep silent (behind_script []) (get_intents (behind_script []) key []) (miss_records 1 key cause.NeverPut) None

-- a body of one byte is put
abbrev pub APutIsAStep : Type 0
APutIsAStep = (key : Key) → IsStep silent (state_of_miss key) (put_intents (state_of_miss key) key body_of_a [] []) (put_records key) None

-- the first actor opens a reader of it
abbrev pub AHitIsAStep : Type 0
AHitIsAStep = (key : Key) → IsStep silent (state_of_put key) (Look 1 key [] ∷ []) (hit_records key) None

-- and is given the fragment
abbrev pub APieceIsAStep : Type 0
APieceIsAStep = (key : Key) → IsStep silent (state_of_hit key) (ReadOn 2 ∷ []) piece_records None

-- and comes to the end
abbrev pub AnEndIsAStep : Type 0
AnEndIsAStep = (key : Key) → IsStep silent (state_of_piece key) (ReadOn 2 ∷ []) end_records None

-- it is found and given whole
abbrev pub AGetIsAStep : Type 0
AGetIsAStep = (key : Key) → IsStep silent (state_of_end key) (get_intents (state_of_end key) key []) (get_records key) None

-- it is removed
abbrev pub ARemovalIsAStep : Type 0
ARemovalIsAStep = (key : Key) → IsStep silent (state_of_get key) (Remove key ∷ []) (removal_records key) None

-- and not found any more
abbrev pub AMissBehindItIsAStep : Type 0
AMissBehindItIsAStep = (key : Key)
    → IsStep silent (state_of_removal key) (get_intents (state_of_removal key) key []) (miss_records 4 key cause.Removed) None
