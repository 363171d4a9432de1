-- The records of what an entry of the directory displaced: of the piece that was placed last at each place that it tells.
use Rattle.std.specs.Prelude.{ℕ, ◌==◌, List, [], ◌∷◌, ◌++◌, map, Option, option_to_list}
use Rattle.std.specs.Map.{lookup}
use Rattle.tape_base.specs.declared.pieces.PieceId.{PieceId}
use Rattle.dir_table.specs.Displacement.{Displacement}
use Rattle.cache_model.specs.declared.record.Rec.{Rec}
use Rattle.cache_model.specs.declared.record.Rec.TheVariants as rec
use Rattle.cache_model.specs.State.{State}

-- the piece that was placed at a place last
abbrev pub last_at : State → ℕ → Option PieceId
last_at s place = lookup (λ p. p == place) s.places

-- the record that a piece was displaced, where there is one
abbrev pub displaced_piece : Displacement → Option PieceId → List Rec
displaced_piece d found = map (λ id. rec.Displaced id d.segment d.live) (option_to_list found)

-- of the piece at each of these places
abbrev pub displaced_from : (ℕ → Option PieceId) → Displacement → List ℕ → List Rec
displaced_from at d [] = []
displaced_from at d (place ∷ places) = displaced_piece d (at place) ++ displaced_from at d places

-- of all places that an entry told
abbrev pub displaced_of : State → Displacement → List Rec
displaced_of s d = displaced_from (last_at s) d d.places
