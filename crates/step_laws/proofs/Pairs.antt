-- Pairs of documents that are known in another way, and of more that is asked.
use Rattle.std.proofs.Common.{ℕ, List, [], ◌∷◌}
use Rattle.cache_model.specs.declared.record.Rec.{Rec}
use Rattle.cache_model.specs.State.{State, Row, after_all}
use Rattle.cache_model.specs.Permit.{Intent, Permit, Work}
use Rattle.cache_model.specs.Pair.{Documents, IsPair, IsPairNext, IsPairOf, ShowsFrom}

-- what each document of one kind is, of another kind
abbrev pub AreAlso : Documents → Documents → Type 0
AreAlso One Other = (s : State) (row : Row) (document : List ℕ) → One s row document → Other s row document

pub also_pair_of : (One Other : Documents) → AreAlso One Other → (p : Permit) (s : State) (row : Row) → IsPairOf One p s row → IsPairOf Other p s row
also_pair_of One Other also p s row pair = record {
  document = pair.document;
  bytes = pair.bytes;
  live = pair.live;
  placed = also s row pair.document pair.placed;
  given = pair.given;
  collide = pair.collide;
}

pub also_pair : (One Other : Documents) → AreAlso One Other → (p : Permit) (s : State) (i : Intent) → IsPair One p s i → IsPair Other p s i
also_pair One Other also p s i pair = record { row = pair.row; read = pair.read; pair = also_pair_of One Other also p s pair.row pair.pair }

pub also_next : (One Other : Documents) → AreAlso One Other → (p : Permit) (s : State) (intents : List Intent) → IsPairNext One p s intents → IsPairNext Other p s intents
also_next One Other also p s [] pair = pair
also_next One Other also p s (i ∷ intents) pair = also_pair One Other also p s i pair

pub also_shows : (One Other : Documents) → AreAlso One Other → (p : Permit) (s : State) (work : Work) (added : List Rec) → ShowsFrom One p s work added → ShowsFrom Other p s work added
also_shows One Other also p s work added shows = record {
  before = shows.before;
  rest = shows.rest;
  left = shows.left;
  is = shows.is;
  grows = shows.grows;
  pair = also_next One Other also p (after_all s shows.before) shows.left.intents shows.pair;
}
