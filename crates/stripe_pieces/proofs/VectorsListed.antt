-- On a device that tells its content each vector lists what the records say.
use Rattle.std.proofs.Common.{◌≡◌, ◌≤◌, List, [], ◌∷◌, refl}
use Rattle.std.specs.Prelude.{IfSome, IsSome, Option, Some, None, option_map}
use Rattle.std.specs.List.{AllByRecursion}
use Rattle.tape_base.specs.Geometry.{budget_of}
use Rattle.logged_disk.specs.Device.{TellsAll}
use Rattle.alternate_vector.specs.Alternates.{Stored}
use Rattle.alternate_vector.specs.Spelling.{IsSpelling, vector_bytes}
use Rattle.cyclone.specs.Cyclone.{Seen}
use Rattle.cache_model.specs.State.{Row, State}
use Rattle.cache_model.specs.Vectors.{AreVectors, IsListed, IsVectorRow}
use Rattle.cache_model.specs.Contents.{IsRecordedAs, IsRecordedWith, contents_of_vectors, spelled_content}
use Rattle.held_pieces.specs.Held.{IsHeld, IsInLap}
use Rattle.piece_answers.specs.Standing.{AreStanding}

vector_listed : (s : State) (row : Row) → row.blocks ≤ budget_of s.geometry → IsRecordedAs contents_of_vectors s.geometry row → IsListed s row
vector_listed s row small h = λ vector. by row.alternates refl (h.lists vector) h.content h.spelled where
  by : (o : Option (List Stored)) → row.alternates ≡ o → IsSome o → IfSome (option_map spelled_content o) (IsRecordedWith s.geometry row)
      → IfSome o (λ list. IsSpelling (vector_bytes list) list) → (list : List Stored) × IsVectorRow s row list
  by None is some content spelled = cc some
  by (Some list) is some content spelled =
      (list, record { start = content.start; lists = is; spelled = spelled; digest = content.document.digest; blocks = content.document.blocks; small = small })

each_listed : (s : State) (rows : List Row) → AllByRecursion (IsInLap s.geometry) rows → AllByRecursion (IsRecordedAs contents_of_vectors s.geometry) rows
    → AllByRecursion (IsListed s) rows
each_listed s [] laps h = tt
each_listed s (row ∷ rows) laps h = (vector_listed s row laps.0.small h.0, each_listed s rows laps.1 h.1)

pub are_listed : (s : State) (c : Seen) → IsHeld s c → AreStanding contents_of_vectors s c → TellsAll c.device → AreVectors s
are_listed s c held stands tells = each_listed s s.rows held.laps (stands.recorded tells)
