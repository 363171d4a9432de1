-- What was put is given, and removed: steps over the states as they are written out.
use Rattle.std.proofs.Common.{◌≡◌, ◌∙◌, ℕ, ◌+◌, List, [], ◌∷◌, refl, sym, ap, subst, lit≤, Some, None}
use Rattle.tape_base.specs.declared.keys.Key.{Key}
use Rattle.tape_base.specs.declared.actors.Actor.{Actor}
use Rattle.tape_base.proofs.NameLaws.{same_key-same}
use Rattle.cache_model.specs.declared.answer.ReadAnswer.{ReadAnswer}
use Rattle.cache_model.specs.declared.answer.ReadAnswer.TheVariants as read
use Rattle.cache_model.specs.declared.answer.NextAnswer.{NextAnswer}
use Rattle.cache_model.specs.declared.answer.NextAnswer.TheVariants as next
use Rattle.cache_model.specs.declared.cause.Cause.TheVariants as cause
use Rattle.cache_model.specs.declared.record.Rec.TheVariants as rec
use Rattle.cache_model.specs.Given
use Rattle.cache_model.specs.Given.{IsReadWhereLive}
use Rattle.cache_model.specs.Legal
use Rattle.cache_model.specs.Legal.{IsLookup, IsNextAsListed, IsReading, IsStep, MayGrow, more, nothing}
use Rattle.cache_model.specs.Permit.{Done, Look, ReadAll, ReadOn, Remove, Stays, StopReading}
use Rattle.cache_model.specs.State.{ReaderRow, Row, State, after_all, fragment_piece, live_row_of}
use Rattle.cache_model.specs.Verdict.{digest_in, live_vector_of, lookup_verdict, reader_verdict}
use Rattle.script_run.specs.Asked.{get_intents}
use Rattle.worked_runs.specs.Script.{end_records, get_records, hit_records, miss_records, piece_records, removal_records, row_of_a, silent}
use Rattle.worked_runs.specs.Steps.{AGetIsAStep, AHitIsAStep, AMissBehindItIsAStep, APieceIsAStep, AnEndIsAStep, ARemovalIsAStep, ThePutHolds, fragment_row, held_state, state_of_end, state_of_get, state_of_hit, state_of_piece, vector_row}

pub put_holds : ThePutHolds
put_holds key = rw (same_key-same key) refl

-- ---- readers

-- behind the put, with these readers
abbrev with_readers : Key → List ReaderRow → ℕ → State
with_readers key readers next_reader = record (held_state key) { readers = readers; next_reader = next_reader }

-- a reader that hit the put, and the index that it takes next
abbrev reader_at : Key → (actor reader index : ℕ) → ReaderRow
reader_at key actor reader index = record { actor = actor; reader = reader; key = key; put = 1; table = Some (row_of_a ∷ []); next = index }

module _ (key : Key) (readers : List ReaderRow) (number : ℕ) where
  vector_is_live : live_vector_of (with_readers key readers number) key ≡ Some (vector_row key)
  vector_is_live = simp (same_key-same key)

  is_found : lookup_verdict (with_readers key readers number) key [] ≡ read.Hit 1
  is_found = simp (same_key-same key)

  looks_up : IsLookup silent (with_readers key readers number) key [] [] (read.Hit 1)
  looks_up =
      let s : State = with_readers key readers number in
      let live : IsReadWhereLive silent s (live_vector_of s key) = rw vector_is_live (Given.IsRead.buffered (lit≤ tt)) in
      subst (λ (answer : ReadAnswer). IsLookup silent s key [] [] answer) is_found (Legal.IsLookup.verdict live)

  is_reading : (actor : Actor) → after_all (with_readers key readers number) (rec.ReadOpened number actor key [] (read.Hit 1) ∷ [])
      ≡ with_readers key (reader_at key actor.0 number 1 ∷ readers) (number + 1)
  is_reading actor = simp (same_key-same key)

  fragment_is_live : live_row_of (with_readers key readers number) (fragment_piece key 1 1) ≡ Some (fragment_row key)
  fragment_is_live = simp (same_key-same key)

  module _ (actor reader : ℕ) where
    is_given : reader_verdict (with_readers key readers number) (reader_at key actor reader 1) ≡ next.Gave 1 1
    is_given = simp (same_key-same key)

    is_as_listed : IsNextAsListed (with_readers key readers number) (reader_at key actor reader 1)
    is_as_listed entry row listed live payload has =
        let same : fragment_row key ≡ row = cc fragment_is_live in
        let paid : Some row_of_a ≡ Some payload = ap (λ (r : Row). r.payload) same ∙ has in
        let first : row_of_a ≡ payload = cc in
        let second : row_of_a ≡ entry = cc in
        ap digest_in (sym first ∙ second)

    gives : IsReading silent (with_readers key readers number) (reader_at key actor reader 1) [] (next.Gave 1 1)
    gives =
        let s : State = with_readers key readers number in
        let live : IsReadWhereLive silent s (live_row_of s (fragment_piece key 1 1)) =
        rw fragment_is_live (Given.IsRead.buffered (lit≤ tt)) in
        subst (λ (answer : NextAnswer). IsReading silent s (reader_at key actor reader 1) [] answer) is_given
        (Legal.IsReading.verdict live is_as_listed)

    ends : IsReading silent (with_readers key readers number) (reader_at key actor reader 2) [] (next.Ended 1)
    ends = Legal.IsReading.verdict tt (λ entry row listed live. absurd cc)

-- ---- the reader of the actor

hit_leaves : (key : Key) → state_of_hit key ≡ with_readers key (reader_at key 1 2 1 ∷ []) 3
hit_leaves key = ap (λ (s : State). after_all s (hit_records key)) (put_holds key) ∙ is_reading key [] 2 (record { 0 = 1 })

piece_leaves : (key : Key) → state_of_piece key ≡ with_readers key (reader_at key 1 2 2 ∷ []) 3
piece_leaves key = ap (λ (s : State). after_all s piece_records) (hit_leaves key)

end_leaves : (key : Key) → state_of_end key ≡ with_readers key (reader_at key 1 2 2 ∷ []) 3
end_leaves key = piece_leaves key

pub hit_is_a_step : AHitIsAStep
hit_is_a_step key = subst (λ (s : State). IsStep silent s (Look 1 key [] ∷ []) (hit_records key) None) (sym (put_holds key)) (record {
  grows = more (_ ∷ []) _ (
    Done,
    Legal.DoesLook.looks
        (record { who = record { 0 = 1 }; before = []; answer = _; number = refl; quiet = refl; right = looks_up key [] 2; is = refl }),
    refl,
  ) nothing;
  quiet = refl;
  faults = refl;
  effects = λ off. refl;
})

pub piece_is_a_step : APieceIsAStep
piece_is_a_step key = subst (λ (s : State). IsStep silent s (ReadOn 2 ∷ []) piece_records None) (sym (hit_leaves key)) (record {
  grows = more (_ ∷ []) _ (
    Done,
    Legal.DoesReadOn.reads_on (next.Gave 1 1)
        (record { r = _; before = []; quiet = refl; reading = refl; right = gives key (reader_at key 1 2 1 ∷ []) 3 1 2; is = refl }),
    refl,
  ) nothing;
  quiet = refl;
  faults = refl;
  effects = λ off. refl;
})

pub end_is_a_step : AnEndIsAStep
end_is_a_step key = subst (λ (s : State). IsStep silent s (ReadOn 2 ∷ []) end_records None) (sym (piece_leaves key)) (record {
  grows = more (_ ∷ []) _ (
    Done,
    Legal.DoesReadOn.reads_on (next.Ended 1)
        (record { r = _; before = []; quiet = refl; reading = refl; right = ends key (reader_at key 1 2 2 ∷ []) 3 1 2; is = refl }),
    refl,
  ) nothing;
  quiet = refl;
  faults = refl;
  effects = λ off. refl;
})

-- ---- the get

abbrev readers_of_get : Key → (index : ℕ) → List ReaderRow
readers_of_get key index = reader_at key 0 3 index ∷ reader_at key 1 2 2 ∷ []

abbrev ReadsAllFrom : State → Type 0
ReadsAllFrom s = MayGrow silent s (record { intents = ReadAll 3 ∷ StopReading 3 ∷ []; refused = None })
    (rec.Gave 3 1 1 ∷ rec.Ended 3 1 ∷ rec.ReadClosed 3 ∷ []) (record { intents = []; refused = None })

reads_on : (key : Key) → ReadsAllFrom (with_readers key (readers_of_get key 1) 4)
reads_on key =
    more (_ ∷ []) _ (
      Stays,
      Legal.DoesReadAll.reads_on (next.Gave 1 1) refl
          (record { r = _; before = []; quiet = refl; reading = refl; right = gives key (readers_of_get key 1) 4 0 3; is = refl }) refl,
      refl,
    )
    (more (_ ∷ []) _ (
      Done,
      Legal.DoesReadAll.reads_on (next.Ended 1) refl
          (record { r = _; before = []; quiet = refl; reading = refl; right = ends key (readers_of_get key 2) 4 0 3; is = refl }) refl,
      refl,
    )
    (more (_ ∷ []) _ (Done, Legal.DoesStopReading.closes _ refl refl refl, refl) nothing))

abbrev GetsFrom : Key → State → Type 0
GetsFrom key s = IsStep silent s (get_intents s key []) (get_records key) None

pub get_is_a_step : AGetIsAStep
get_is_a_step key = subst (GetsFrom key) (sym (end_leaves key)) (record {
  grows = more (_ ∷ []) _ (
    Done,
    Legal.DoesLook.looks
        (record {
          who = record { 0 = 0 };
          before = [];
          answer = _;
          number = refl;
          quiet = refl;
          right = looks_up key (reader_at key 1 2 2 ∷ []) 3;
          is = refl;
        }),
    refl,
  )
      (subst ReadsAllFrom (sym (is_reading key (reader_at key 1 2 2 ∷ []) 3 (record { 0 = 0 }))) (reads_on key));
  quiet = refl;
  faults = refl;
  effects = λ off. refl;
})

-- ---- the removal

abbrev given_state : Key → State
given_state key = with_readers key (reader_at key 1 2 2 ∷ []) 4

get_leaves : (key : Key) → state_of_get key ≡ given_state key
get_leaves key = ap (λ (s : State). after_all s (get_records key)) (end_leaves key)

vector_stands : (key : Key) → live_vector_of (given_state key) key ≡ Some (vector_row key)
vector_stands key = simp (same_key-same key)

pub removal_is_a_step : ARemovalIsAStep
removal_is_a_step key = subst (λ (s : State). IsStep silent s (Remove key ∷ []) (removal_records key) None) (sym (get_leaves key)) (record {
  grows = more (_ ∷ []) _ (Done, Legal.DoesRemove.removes (vector_row key) refl (vector_stands key) refl, refl) nothing;
  quiet = refl;
  faults = refl;
  effects = λ off. refl;
})

-- ---- the get behind it

none_is_live : (key : Key) → live_vector_of (after_all (given_state key) (removal_records key)) key ≡ None
none_is_live key = simp (same_key-same key)

is_missed : (key : Key) → lookup_verdict (after_all (given_state key) (removal_records key)) key [] ≡ read.Miss cause.Removed
is_missed key = simp (same_key-same key)

looks_behind : (key : Key) → IsLookup silent (after_all (given_state key) (removal_records key)) key [] [] (read.Miss cause.Removed)
looks_behind key =
    let s : State = after_all (given_state key) (removal_records key) in
    let live : IsReadWhereLive silent s (live_vector_of s key) = rw (none_is_live key) tt in
    subst (λ (answer : ReadAnswer). IsLookup silent s key [] [] answer) (is_missed key) (Legal.IsLookup.verdict live)

abbrev MissesFrom : Key → State → Type 0
MissesFrom key s = IsStep silent s (get_intents s key []) (miss_records 4 key cause.Removed) None

pub last_is_a_step : AMissBehindItIsAStep
last_is_a_step key = subst (λ (s : State). MissesFrom key (after_all s (removal_records key))) (sym (get_leaves key)) (record {
  grows = more (_ ∷ []) _ (
    Done,
    Legal.DoesLook.looks
        (record { who = record { 0 = 0 }; before = []; answer = _; number = refl; quiet = refl; right = looks_behind key; is = refl }),
    refl,
  )
      (more [] _ (Done, Legal.DoesReadAll.has_none refl refl refl refl, refl)
      (more [] _ (Done, Legal.DoesStopReading.closed refl refl refl, refl) nothing));
  quiet = refl;
  faults = refl;
  effects = λ off. refl;
})
