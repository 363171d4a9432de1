-- What a lookup finds.
use Rattle.std.proofs.Common.{◌≡◌, ℕ, ◌<◌, ◌≤◌, List, [], refl, sym, ◌∙◌, ap, subst, inl, inr, ◌⊎◌, Bool, true, false}
use Rattle.std.specs.Prelude.{Option, Some, None, if◌then◌else◌, option_and_then, option_map, unwrap_or, IsSome}
use Rattle.std.proofs.lemmas.List.{append-nil}
use Rattle.tape_base.specs.declared.keys.Key.{Key}
use Rattle.tape_base.specs.declared.pieces.PieceId.{PieceId}
use Rattle.logged_disk.specs.Device.{DeviceState as Device}
use Rattle.alternate_vector.specs.Field.{Field}
use Rattle.alternate_vector.specs.Alternates.{Stored}
use Rattle.open_directory.specs.Directory.{put_followed as followed_put}
use Rattle.cache_model.specs.declared.cause.Cause.{Cause}
use Rattle.cache_model.specs.declared.answer.ReadAnswer.{ReadAnswer}
use Rattle.cache_model.specs.declared.answer.ReadAnswer.TheVariants as read
use Rattle.cache_model.specs.State.{Complete, LastVector, PutRow, Row, State, TakenOut, alternates_of, is_live, last_match, last_vector, list_of_last, list_of_row, live_row_of, only_live, row_in, vector_piece}
use Rattle.cache_model.specs.Kept.{Kept, state_of, with_records}
use Rattle.cache_model.specs.Verdict.{cause_of_last, cause_of_miss, cause_of_piece, cause_without_vector, follow_answer, followed, hit, hit_answer, live_vector_of, lookup_verdict, no_match, vector_of_last}
use Rattle.cache_model.specs.Permit.{Permit}
use Rattle.cache_model.specs.Given.{IsRead, IsReadWhereLive}
use Rattle.cache_model.specs.Legal.{IsLookup}
use Rattle.cache_model.specs.Pair.{Documents, IsKeyPair}
use Rattle.cache_model.specs.Vectors.{AreVectors, IsVectorAs}
use Rattle.call_laws.specs.Untold.{Untold}
use Rattle.call_laws.proofs.Kept.{tells_or_not}
use Rattle.stripe_answers.specs.Counts.{CauseIsCounted}
use Rattle.stripe_actors.specs.Actors.{ActorsSeen, AreActors}
use Rattle.stripe_actors.specs.ActorLaws.{number_in}
use Rattle.stripe_actors.proofs.Telling.{followed_same}
use Rattle.stripe_vectors.specs.declared.reading.KeyVector.TheVariants as vector
use Rattle.stripe_vectors.specs.Reading.{FindsVector, IsVectorFound, ReadIsListed, VectorIsReadAs, trouble_records, vector_adds}
use Rattle.stripe_read.specs.declared.opening.Chosen.{Chosen}
use Rattle.stripe_read.specs.declared.opening.Looked.{Looked}
use Rattle.stripe_read.specs.declared.opening.Looked.TheVariants as looked
use Rattle.stripe_read.specs.Lookups.{HasTable, IsChosen, IsFound, LooksUp, MissIsCounted, answer_of_looked, lookup_adds, otherwise}
use Rattle.stripe_read.proofs.Comparing.{either}
use Rattle.stripe_read.proofs.Counted.{of_live}
use Rattle.piece_answers.proofs.Covering.{own_covers, own_permit}
use Rattle.cache_calls.specs.Readers.{vector_trouble}

-- ---- the writer to follow, or the cause

followed_by : (s : State) (key : Key) (o : Option PutRow) (put : ℕ) → option_map number_in o ≡ Some put → read.Follow put ≡ unwrap_or (option_map follow_answer o) (read.Miss (cause_of_miss s key))
followed_by s key None put h = cc
followed_by s key (Some row) put h = let same : row.put ≡ put = cc in ap read.Follow (sym same)

pub followed_is : (s : State) (a : ActorsSeen) (key : Key) (request : List Field) (put : ℕ) → AreActors s a → followed_put key request a.held.writers ≡ Some put → read.Follow put ≡ otherwise s key request
followed_is s a key request put actors h = followed_by s key (followed s key request) put (sym (followed_same s a actors key request) ∙ h)

missed_by : (s : State) (key : Key) (o : Option PutRow) → option_map number_in o ≡ None → read.Miss (cause_of_miss s key) ≡ unwrap_or (option_map follow_answer o) (read.Miss (cause_of_miss s key))
missed_by s key None h = refl
missed_by s key (Some row) h = cc

pub missed_is : (s : State) (a : ActorsSeen) (key : Key) (request : List Field) → AreActors s a → followed_put key request a.held.writers ≡ None → read.Miss (cause_of_miss s key) ≡ otherwise s key request
missed_is s a key request actors h = missed_by s key (followed s key request) (sym (followed_same s a actors key request) ∙ h)

-- ---- a key without a live vector has no alternates, and one that has is missed for no match

no_list : (s : State) (row : Row) (b : Bool) → is_live s row ≡ b → only_live s row ≡ None → list_of_row s row ≡ []
no_list s row false e h = ap (λ x. if x then unwrap_or row.alternates [] else []) e
no_list s row true e h = let live : Some row ≡ None = sym (ap (λ x. if x then Some row else None) e) ∙ h in cc

no_alternates_in : (s : State) (o : Option Row) → option_and_then (only_live s) o ≡ None → unwrap_or (option_map (list_of_row s) o) [] ≡ []
no_alternates_in s None h = refl
no_alternates_in s (Some row) h = no_list s row (is_live s row) refl h

no_alternates_of : (s : State) (key : Key) (o : Option LastVector) → option_and_then (live_row_of s) (option_and_then (vector_of_last key) o) ≡ None → unwrap_or (option_map (list_of_last s s.rows key) o) [] ≡ []
no_alternates_of s key None h = refl
no_alternates_of s key (Some (TakenOut put)) h = refl
no_alternates_of s key (Some (Complete put)) h = no_alternates_in s (row_in s.rows (vector_piece key put)) h

pub no_alternates : (s : State) (key : Key) → live_vector_of s key ≡ None → alternates_of s key ≡ []
no_alternates s key h = no_alternates_of s key (last_vector s key) h

no_match_by : (s : State) (key : Key) (o : Option LastVector) (row : Row) → option_and_then (live_row_of s) (option_and_then (vector_of_last key) o) ≡ Some row
    → (id : PieceId) × (unwrap_or (option_map (cause_of_last s key) o) (cause_without_vector s key) ≡ no_match s id)
no_match_by s key None row h = cc
no_match_by s key (Some (TakenOut put)) row h = cc
no_match_by s key (Some (Complete put)) row h =
    (vector_piece key put, ap (λ o. unwrap_or (option_map (λ (r : Row). no_match s (vector_piece key put)) o) (cause_of_piece s (vector_piece key put))) h)

live_is_no_match : (s : State) (key : Key) (row : Row) → live_vector_of s key ≡ Some row → (id : PieceId) × (cause_of_miss s key ≡ no_match s id)
live_is_no_match s key row h = no_match_by s key (last_vector s key) row h

-- what is answered there is no hit, so it has no fragments
table_by : (s : State) (key : Key) (request : List Field) (found : Looked) (o : Option PutRow)
    → answer_of_looked found ≡ unwrap_or (option_map follow_answer o) (read.Miss (cause_of_miss s key)) → HasTable s key request found
table_by s key request (looked.Hit chosen) None is = cc
table_by s key request (looked.Hit chosen) (Some row) is = cc
table_by s key request (looked.Follow put) o is = tt
table_by s key request (looked.Miss why) o is = tt

otherwise_table : (s : State) (key : Key) (request : List Field) (found : Looked) → answer_of_looked found ≡ otherwise s key request
    → HasTable s key request found
otherwise_table s key request found is = table_by s key request found (followed s key request) is

-- ---- what is recorded

otherwise_by : (s : State) (key : Key) (o : Option Row) (f : Option PutRow) → live_vector_of s key ≡ o → vector_trouble o (unwrap_or (option_map follow_answer f) (read.Miss (cause_of_miss s key))) ≡ []
otherwise_by s key None f e = refl
otherwise_by s key (Some row) (Some put) e = refl
otherwise_by s key (Some row) None e = ap (λ why. vector_trouble (Some row) (read.Miss why)) (live_is_no_match s key row e).1

-- where nothing kept the vector from being read, that adds nothing
pub otherwise_adds : (s : State) (key : Key) (request : List Field) → lookup_adds s key (otherwise s key request) ≡ []
otherwise_adds s key request = otherwise_by s key (live_vector_of s key) (followed s key request) refl

hit_by : (o : Option Row) (put : ℕ) → vector_trouble o (read.Hit put) ≡ []
hit_by None put = refl
hit_by (Some row) put = refl

pub hit_adds : (s : State) (key : Key) (put : ℕ) → lookup_adds s key (read.Hit put) ≡ []
hit_adds s key put = hit_by (live_vector_of s key) put

pub nothing_recorded : (k new : Kept) → new ≡ with_records k [] → new ≡ k
nothing_recorded k new is = is ∙ ap (λ recs. let x : Kept = record { told = k.told; base = k.base; since = recs } in x) (append-nil k.since)

absent_by : (k new : Kept) (o : Option Row) → new ≡ with_records k (trouble_records o vector.Absent) → new ≡ k
absent_by k new None is = nothing_recorded k new is
absent_by k new (Some row) is = nothing_recorded k new is

pub absent_same : (k new : Kept) (key : Key) → new ≡ with_records k (trouble_records (live_vector_of (state_of k) key) vector.Absent) → new ≡ k
absent_same k new key is = absent_by k new (live_vector_of (state_of k) key) is

read_by : (k new : Kept) (o : Option Row) (list : List Stored) → new ≡ with_records k (trouble_records o (vector.Read list)) → new ≡ k
read_by k new None list is = nothing_recorded k new is
read_by k new (Some row) list is = nothing_recorded k new is

pub read_same : (k new : Kept) (key : Key) (list : List Stored) → new ≡ with_records k (trouble_records (live_vector_of (state_of k) key) (vector.Read list)) → new ≡ k
read_same k new key list is = read_by k new (live_vector_of (state_of k) key) list is

pub same_adds : (k new : Kept) (key : Key) (request : List Field) (found : Looked) → new ≡ k → answer_of_looked found ≡ otherwise (state_of k) key request → new ≡ with_records k (lookup_adds (state_of k) key (answer_of_looked found))
same_adds k new key request found same is =
    same ∙ (sym (nothing_recorded k (with_records k []) refl) ∙ ap (with_records k) (sym (ap (lookup_adds (state_of k) key) is ∙ otherwise_adds (state_of k) key request)))

-- a vector in trouble
trouble_by : (o : Option Row) (why : Cause) → trouble_records o (vector.Trouble why) ≡ vector_trouble o (read.Miss why)
trouble_by None why = refl
trouble_by (Some row) why = refl

pub trouble_adds : (s : State) (key : Key) (why : Cause) → vector_adds s key (vector.Trouble why) ≡ lookup_adds s key (read.Miss why)
trouble_adds s key why = trouble_by (live_vector_of s key) why

-- an alternate that is hit
pub matched_adds : (k new : Kept) (key : Key) (put : ℕ) → new ≡ k → new ≡ with_records k (lookup_adds (state_of k) key (read.Hit put))
matched_adds k new key put same =
    same ∙ (sym (nothing_recorded k (with_records k []) refl) ∙ ap (with_records k) (sym (hit_adds (state_of k) key put)))

-- ---- the verdict

verdict_hit : (s : State) (key : Key) (request : List Field) (a : Stored) → hit s key request ≡ Some a → lookup_verdict s key request ≡ read.Hit a.put
verdict_hit s key request a h = ap (λ o. unwrap_or (option_map hit_answer o) (otherwise s key request)) h

verdict_otherwise : (s : State) (key : Key) (request : List Field) → hit s key request ≡ None → lookup_verdict s key request ≡ otherwise s key request
verdict_otherwise s key request h = ap (λ o. unwrap_or (option_map hit_answer o) (otherwise s key request)) h

vector_is_read : (p : Permit) (s : State) (row : Row) (list : List Stored) → VectorIsReadAs p s row list → IsRead p s row
vector_is_read p s row list h = by (either s.cursor row.place)
  where
    by : ((s.cursor ≤ row.place) ⊎ (row.place < s.cursor)) → IsRead p s row
    by (inl above) = IsRead.buffered above
    by (inr below) = IsRead.given h.bytes (h.given below) h.digest

-- the verdict that was found, with the vector read where it is live
verdict_found : (p : Permit) (s : State) (key : Key) (request : List Field) (found : Looked) → IsReadWhereLive p s (live_vector_of s key) → lookup_verdict s key request ≡ answer_of_looked found → lookup_adds s key (answer_of_looked found) ≡ []
    → HasTable s key request found → IsFound p s key request found
verdict_found p s key request found was is adds table = record {
  right = subst (λ recs. IsLookup p s key request recs (answer_of_looked found)) (sym adds) (subst (IsLookup p s key request []) is (IsLookup.verdict was));
  table = table;
}

-- ---- a vector that was read

-- what is answered where no alternate is hit is no count of the device
otherwise_counted : (faults : ℕ) (s : State) (key : Key) (request : List Field) (answer : ReadAnswer) → answer ≡ otherwise s key request → MissIsCounted faults s key answer
otherwise_counted faults s key request answer is = by (followed s key request) is
  where
    by : (o : Option PutRow) → answer ≡ unwrap_or (option_map follow_answer o) (read.Miss (cause_of_miss s key)) → MissIsCounted faults s key answer
    by (Some w) h = subst (MissIsCounted faults s key) (sym h) tt
    by None h = subst (MissIsCounted faults s key) (sym h) (inl refl)

-- a pair of some documents is one of more
pub key_pair_wider : (P Q : Documents) → ((s : State) (row : Row) (document : List ℕ) → P s row document → Q s row document)
    → (p : Permit) (s : State) (key : Key)
    → IsKeyPair P p s key → IsKeyPair Q p s key
key_pair_wider P Q wider p s key h = record {
  row = h.row;
  vector = h.vector;
  pair = record {
    document = h.pair.document;
    bytes = h.pair.bytes;
    live = h.pair.live;
    placed = wider s h.row h.pair.document h.pair.placed;
    given = h.pair.given;
    collide = h.pair.collide;
  };
}

module _ (s : State) (old new : Device) (key : Key) (request : List Field) where
  -- what was read is what the key has, or two documents of one SHA-256 are shown on a device that did not tell its content
  read_listed : ReadIsListed → (list : List Stored) → FindsVector s old new key (vector.Read list) → (p : Permit) → AreVectors s → (row : Row)
      → live_vector_of s key ≡ Some row → VectorIsReadAs p s row list
      → (list ≡ alternates_of s key) ⊎ IsKeyPair (Untold new IsVectorAs) p s key
  read_listed law list f p each row live read = elim (tells_or_not new) [
    | inl tells ↦ inl (f.exact tells)
    | inr n ↦ elim (law p s key row list each live read) [
      | inl same ↦ inl same
      | inr collide ↦ inr (key_pair_wider IsVectorAs (Untold new IsVectorAs) (λ t x document h. (h, n)) p s key collide)
    ]
  ]

  -- there is none
  absent_in : (p : Permit) (found : Looked) → answer_of_looked found ≡ otherwise s key request → HasTable s key request found
      → (o : Option Row)
      → live_vector_of s key ≡ o → IsVectorFound p s o vector.Absent
      → IsFound p s key request found ⊎ IsKeyPair (Untold new IsVectorAs) p s key
  absent_in p found is table (Some row) live h = absurd h
  absent_in p found is table None live h =
      inl (verdict_found p s key request found (subst (IsReadWhereLive p s) (sym live) tt) (verdict_otherwise s key request (ap (last_match request) (no_alternates s key live)) ∙ sym is)
      (ap (lookup_adds s key) is ∙ otherwise_adds s key request) table)

  pub absent_looks : (found : Looked) → answer_of_looked found ≡ otherwise s key request → FindsVector s old new key vector.Absent
      → LooksUp s old new key request found
  absent_looks found is f = record {
    seen = f.seen;
    answers =
        λ p covers each. absent_in p found is (otherwise_table s key request found is) (live_vector_of s key) refl (f.answers p covers);
    counted = otherwise_counted new.faults s key request (answer_of_looked found) is;
  }

  -- it cannot be read
  trouble_in : (p : Permit) (why : Cause) (o : Option Row) → live_vector_of s key ≡ o → IsVectorFound p s o (vector.Trouble why)
      → IsFound p s key request (looked.Miss why) ⊎ IsKeyPair (Untold new IsVectorAs) p s key
  trouble_in p why None live h = absurd h
  trouble_in p why (Some row) live h = inl (record {
    right = subst (λ o. IsLookup p s key request (vector_trouble o (read.Miss why)) (read.Miss why)) (sym live) (IsLookup.trouble row (Rattle.cache_model.specs.Troubles.cause_records row why) why live h);
    table = tt;
  })

  troubled_live : (p : Permit) (why : Cause) (o : Option Row) → IsVectorFound p s o (vector.Trouble why) → IsSome o
  troubled_live p why None h = absurd h
  troubled_live p why (Some row) h = refl

  pub trouble_looks : (why : Cause) → CauseIsCounted new.faults why → FindsVector s old new key (vector.Trouble why) → LooksUp s old new key request (looked.Miss why)
  trouble_looks why counts f = record {
    seen = f.seen;
    answers = λ p covers each. trouble_in p why (live_vector_of s key) refl (f.answers p covers);
    counted =
        inr (of_live new.faults (live_vector_of s key) why counts
        (troubled_live (own_permit 0 old.past new.past) why (live_vector_of s key) (f.answers (own_permit 0 old.past new.past) (own_covers 0 old.past new.past))));
  }

  -- it was read, and nothing in it answers
  unmatched_in : (p : Permit) (found : Looked) (list : List Stored) → answer_of_looked found ≡ otherwise s key request → HasTable s key request found
      → last_match request list ≡ None → (o : Option Row) → live_vector_of s key ≡ o → IsVectorFound p s o (vector.Read list)
      → ((row : Row) → o ≡ Some row → VectorIsReadAs p s row list
      → (list ≡ alternates_of s key) ⊎ IsKeyPair (Untold new IsVectorAs) p s key)
      → IsFound p s key request found ⊎ IsKeyPair (Untold new IsVectorAs) p s key
  unmatched_in p found list is table none None live h law = absurd h
  unmatched_in p found list is table none (Some row) live h law = elim (law row refl h) [
    | inl same ↦ inl (verdict_found p s key request found (subst (IsReadWhereLive p s) (sym live) (vector_is_read p s row list h)) (verdict_otherwise s key request (ap (last_match request) (sym same) ∙ none) ∙ sym is)
        (ap (lookup_adds s key) is ∙ otherwise_adds s key request) table)
    | inr collide ↦ inr collide
  ]

  pub unmatched_looks : ReadIsListed → (found : Looked) (list : List Stored) → answer_of_looked found ≡ otherwise s key request
      → IsChosen (last_match request list) None
      → FindsVector s old new key (vector.Read list) → LooksUp s old new key request found
  unmatched_looks law found list is none f = record {
    seen = f.seen;
    answers = λ p covers each.
        unmatched_in p found list is (otherwise_table s key request found is) (no_choice (last_match request list) none)
        (live_vector_of s key) refl (f.answers p covers)
        (read_listed law list f p each);
    counted = otherwise_counted new.faults s key request (answer_of_looked found) is;
  }
    where
      no_choice : (o : Option Stored) → IsChosen o None → o ≡ None
      no_choice None h = refl
      no_choice (Some a) h = absurd h

  -- it was read, and this answers
  matched_by : (p : Permit) (chosen : Chosen) (list : List Stored) (o : Option Stored) → last_match request list ≡ o → IsChosen o (Some chosen) → list ≡ alternates_of s key → IsReadWhereLive p s (live_vector_of s key)
      → IsFound p s key request (looked.Hit chosen)
  matched_by p chosen list None e h same was = absurd h
  matched_by p chosen list (Some a) e h same was =
      let there : hit s key request ≡ Some a = ap (last_match request) (sym same) ∙ e in
      verdict_found p s key request (looked.Hit chosen) was (verdict_hit s key request a there ∙ ap read.Hit (sym h.0)) (hit_adds s key chosen.put)
      (h.1 ∙ sym (ap (λ o. unwrap_or (option_map (λ (x : Stored). x.table) o) []) there))

  matched_in : (p : Permit) (chosen : Chosen) (list : List Stored) → IsChosen (last_match request list) (Some chosen) → (o : Option Row)
      → live_vector_of s key ≡ o → IsVectorFound p s o (vector.Read list)
      → ((row : Row) → o ≡ Some row → VectorIsReadAs p s row list
      → (list ≡ alternates_of s key) ⊎ IsKeyPair (Untold new IsVectorAs) p s key)
      → IsFound p s key request (looked.Hit chosen) ⊎ IsKeyPair (Untold new IsVectorAs) p s key
  matched_in p chosen list is None live h law = absurd h
  matched_in p chosen list is (Some row) live h law = elim (law row refl h) [
    | inl same ↦ inl (matched_by p chosen list (last_match request list) refl is same (subst (IsReadWhereLive p s) (sym live) (vector_is_read p s row list h)))
    | inr collide ↦ inr collide
  ]

  pub matched_looks : ReadIsListed → (chosen : Chosen) (list : List Stored) → IsChosen (last_match request list) (Some chosen) → FindsVector s old new key (vector.Read list) → LooksUp s old new key request (looked.Hit chosen)
  matched_looks law chosen list is f = record {
    seen = f.seen;
    answers = λ p covers each. matched_in p chosen list is (live_vector_of s key) refl (f.answers p covers) (read_listed law list f p each);
    counted = tt;
  }
