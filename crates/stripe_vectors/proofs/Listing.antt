-- What was read of a live vector is what the records say that it lists.
use Rattle.std.proofs.Common.{◌≡◌, List, refl, sym, ◌∙◌, ap, inl, inr, ◌⊎◌}
use Rattle.std.specs.Prelude.{Some}
use Rattle.tape_base.specs.declared.keys.Key.{Key}
use Rattle.alternate_vector.specs.Alternates.{Stored}
use Rattle.alternate_vector.proofs.Again.{vector_again}
use Rattle.cache_model.specs.State.{Row, State, alternates_of}
use Rattle.cache_model.specs.Verdict.{live_vector_of}
use Rattle.cache_model.specs.Permit.{Permit}
use Rattle.cache_model.specs.Pair.{IsKeyPair}
use Rattle.cache_model.specs.Vectors.{AreVectors, IsVectorAs, LiveVectorIsListed, VectorIsReadBack, vector_document}
use Rattle.cache_model.proofs.VectorLaws.{IsLiveVector, live_vector_stands}
use Rattle.stripe_vectors.specs.Reading.{VectorIsReadAs, alternates_spelled, spelled_in}

pub read_is_listed : LiveVectorIsListed → VectorIsReadBack → (p : Permit) (s : State) (key : Key) (row : Row) (list : List Stored) → AreVectors s → live_vector_of s key ≡ Some row → VectorIsReadAs p s row list
    → (list ≡ alternates_of s key) ⊎ IsKeyPair IsVectorAs p s key
read_is_listed listed back p s key row list each live read =
    let l = listed s key row each live in
    let stands : IsLiveVector s row = live_vector_stands s key row live in
    elim (back s row l.0 read.bytes l.1 read.of_bytes read.digest) [
      | inl same ↦ inl (read.spelled ∙ (ap alternates_spelled same ∙ (ap spelled_in (vector_again l.0 l.1.spelled.some l.1.spelled.stored) ∙ sym l.2)))
      | inr collide ↦ inr (record {
        row = row;
        vector = live;
        pair = record {
          document = vector_document s row l.1.start l.0;
          bytes = read.bytes;
          live = stands.live;
          placed = record { list = l.0; vector = stands.vector; lists = l.1; is = refl };
          given = read.given;
          collide = collide;
        };
      })
    ]
