-- What was found of a live vector.
use Rattle.std.proofs.Common.{◌≡◌, ℕ, List, refl, sym, ◌∙◌, ap, subst, arith, ◌≤◌, length, take}
use Rattle.std.proofs.lemmas.List.{append-nil, length-take}
use Rattle.std.specs.Prelude.{IfSome, min, Option, Some, None, IsSome, option_and_then, option_map}
use Rattle.tape_base.specs.declared.keys.Key.{Key}
use Rattle.tape_base.specs.declared.pieces.PieceId.{PieceId}
use Rattle.logged_disk.specs.Device.{TellsAll}
use Rattle.alternate_vector.specs.Alternates.{Stored}
use Rattle.alternate_vector.specs.Spelling.{vector_bytes}
use Rattle.alternate_vector.proofs.Again.{vector_again}
use Rattle.cyclone.specs.Cyclone.{Seen}
use Rattle.cache_model.specs.declared.cause.Cause.{Cause}
use Rattle.cache_model.specs.State.{Row, State, alternates_of, live_row_of}
use Rattle.cache_model.specs.Kept.{Kept, state_of, with_records}
use Rattle.cache_model.specs.Vectors.{AreVectors}
use Rattle.cache_model.proofs.VectorLaws.{live_vector_is_listed}
use Rattle.cache_model.specs.Contents.{contents_of_vectors, spelled_content}
use Rattle.cache_model.specs.Verdict.{live_vector_of, vector_of}
use Rattle.cache_model.specs.Permit.{Permit}
use Rattle.piece_answers.specs.Covers.{Covers}
use Rattle.piece_answers.specs.declared.answer.Found.TheVariants as found
use Rattle.piece_answers.specs.Find.{Finds, HasPayload, IsFoundAs, find_adds, found_records}
use Rattle.piece_answers.specs.Standing.{AreStanding}
use Rattle.cache_model.specs.Given.{IsDocumentOf}
use Rattle.piece_answers.proofs.Covering.{own_covers, own_permit}
use Rattle.stripe_vectors.specs.declared.reading.KeyVector.TheVariants as answer
use Rattle.stripe_vectors.specs.Reading.{FindsVector, IsVectorFound, VectorIsReadAs, alternates_spelled, spelled_in, trouble_records, vector_adds}

-- ---- a piece that is live

pub live_row : (o : Option Row) → IsSome o → (row : Row) × (o ≡ Some row)
live_row (Some row) h = (row, refl)
live_row None h = cc

module _ (s : State) (old new : Seen) (id : PieceId) (row : Row) (size : ℕ) (into : List ℕ) (live : live_row_of s id ≡ Some row) (finds : Finds s old new id (found.Found size) into) where
  document : (p : Permit) → Covers p old.device.past new.device.past → IsDocumentOf p s row size into
  document p covers = subst (λ o. IsFoundAs p s id o (found.Found size) into) live (finds.answers p covers)

  pub found_taken : size ≡ length (take size into)
  found_taken = let d = document (own_permit 0 old.device.past new.device.past) (own_covers 0 old.device.past new.device.past) in d.size_is ∙ ap length (sym d.payload)

  pub found_fits : size ≤ length into
  found_fits = let cut : length (take size into) ≡ min size (length into) = length-take size into in omega (arith, found_taken, cut)

  -- the payload is the one that the vector spells, by its contents
  payload_of_list : (alternates : Option (List Stored)) (list : List Stored) → alternates ≡ Some list
      → IfSome (option_map spelled_content alternates) (λ c. (size ≡ length c.payload) × (take size into ≡ c.payload)) → take size into ≡ vector_bytes list
  payload_of_list None list is h = cc
  payload_of_list (Some other) list is h = h.1 ∙ ap vector_bytes (cc is)

  -- so what is read are the key's alternates, where the device tells its content and each vector stood as it lists
  is_listed : (key : Key) (list : List Stored) → live_vector_of s key ≡ Some row → list ≡ alternates_spelled (take size into) → AreVectors s
      → HasPayload contents_of_vectors (live_row_of s id) (found.Found size) into → list ≡ alternates_of s key
  is_listed key list there spelled vectors has =
      let l = live_vector_is_listed s key row vectors there in
      let told = subst (λ o. HasPayload contents_of_vectors o (found.Found size) into) live has in
      spelled ∙ (ap alternates_spelled (payload_of_list row.alternates l.0 l.1.lists told)
      ∙ (ap spelled_in (vector_again l.0 l.1.spelled.some l.1.spelled.stored) ∙ sym l.2))

  pub found_vector : (key : Key) (list : List Stored) → vector_of s key ≡ Some id → list ≡ alternates_spelled (take size into)
      → (TellsAll new.device → AreVectors s) → AreStanding contents_of_vectors s old → FindsVector s old.device new.device key (answer.Read list)
  found_vector key list vector spelled vectors stands =
      let there : live_vector_of s key ≡ Some row = ap (option_and_then (live_row_of s)) vector ∙ live in
      record {
        seen = finds.seen;
        exact = λ tells. is_listed key list there spelled (vectors tells) (finds.contents tells contents_of_vectors stands);
        answers = λ p covers.
            let d = document p covers in
            let read : VectorIsReadAs p s row list = record { bytes = d.bytes; whole = d.whole; of_bytes = d.of_bytes; digest = d.digest; given = d.given; spelled = spelled ∙ ap alternates_spelled d.payload } in
            subst (λ o. IsVectorFound p s o (answer.Read list)) (sym there) read;
      }

pub missed_vector : (s : State) (old new : Seen) (id : PieceId) (row : Row) (why : Cause) (into : List ℕ) (key : Key) → live_row_of s id ≡ Some row → vector_of s key ≡ Some id
    → Finds s old new id (found.Missing why) into → FindsVector s old.device new.device key (answer.Trouble why)
missed_vector s old new id row why into key live vector finds =
    let there : live_vector_of s key ≡ Some row = ap (option_and_then (live_row_of s)) vector ∙ live in
    record {
      seen = finds.seen;
      exact = λ tells. tt;
      answers = λ p covers. subst (λ o. IsVectorFound p s o (answer.Trouble why)) (sym there) (subst (λ o. IsFoundAs p s id o (found.Missing why) into) live (finds.answers p covers));
    }

-- ---- what is recorded

read_records : (o u : Option Row) (size : ℕ) (list : List Stored)
    → found_records o (found.Found size) ≡ trouble_records u (answer.Read list)
read_records None None size list = refl
read_records None (Some row) size list = refl
read_records (Some row) None size list = refl
read_records (Some row) (Some other) size list = refl

pub read_adds : (s : State) (id : PieceId) (size : ℕ) (key : Key) (list : List Stored)
    → find_adds s id (found.Found size) ≡ vector_adds s key (answer.Read list)
read_adds s id size key list = read_records (live_row_of s id) (live_vector_of s key) size list

missed_records : (o : Option Row) (why : Cause) → found_records o (found.Missing why) ≡ trouble_records o (answer.Trouble why)
missed_records None why = refl
missed_records (Some row) why = refl

pub missed_adds : (s : State) (id : PieceId) (why : Cause) (key : Key) → vector_of s key ≡ Some id
    → find_adds s id (found.Missing why) ≡ vector_adds s key (answer.Trouble why)
missed_adds s id why key vector =
    missed_records (live_row_of s id) why
    ∙ ap (λ o. trouble_records o (answer.Trouble why)) (sym (ap (option_and_then (live_row_of s)) vector))

-- what was found is not recorded
pub found_same : (k k1 : Kept) (o : Option Row) (size : ℕ) → k1 ≡ with_records k (found_records o (found.Found size)) → k1 ≡ k
found_same k k1 None size is =
    is ∙ ap (λ recs. let new : Kept = record { told = k.told; base = k.base; since = recs } in new) (append-nil k.since)
found_same k k1 (Some row) size is =
    is ∙ ap (λ recs. let new : Kept = record { told = k.told; base = k.base; since = recs } in new) (append-nil k.since)

pub nothing_read : (k k1 : Kept) (id : PieceId) (size : ℕ) → k1 ≡ with_records k (find_adds (state_of k) id (found.Found size)) → k1 ≡ k
nothing_read k k1 id size is = found_same k k1 (live_row_of (state_of k) id) size is
