-- What a chronicle keeps of a piece, and what it tells of a live one.
use Rattle.std.specs.Prelude.{ℕ, ◌==◌, if◌then◌else◌, Option, Some, None, option_map, option_and_then}
use Rattle.std.specs.Map.{lookup}
use Rattle.tape_base.specs.declared.pieces.PieceId.{PieceId}
use Rattle.fragment_table.specs.Table.{TableRow}
use Rattle.cache_model.specs.State.{State, Row, live_row_of}
use Rattle.cache_model.specs.Verdict.{digest_in}
use Rattle.cache_chronicle.specs.declared.payloads.Payload.{Payload}
use Rattle.cache_chronicle.specs.declared.pieces.KeptPiece.{KeptPiece}

-- a payload as it is kept
abbrev pub kept_payload : TableRow → Payload
kept_payload entry = record { length = entry.length; digest = digest_in entry }

-- what is kept of a row: all beside its name but the alternates that it lists
abbrev pub kept_piece : Row → KeptPiece
kept_piece row = record {
  place = row.place;
  blocks = row.blocks;
  digest = row.digest;
  payload = option_map kept_payload row.payload;
  pin = row.pin;
}

-- a piece and what is kept of its row, where it stands at this place
abbrev pub kept_if_at : ℕ → PieceId → Row → Option (PieceId × KeptPiece)
kept_if_at place id row = if row.place == place then Some (id, kept_piece row) else None

-- the same, where it is live
abbrev pub kept_still_at : State → ℕ → PieceId → Option (PieceId × KeptPiece)
kept_still_at s place id = option_and_then (kept_if_at place id) (live_row_of s id)

-- the live piece that begins at a place, and what is kept of it
abbrev pub kept_live_at : State → ℕ → Option (PieceId × KeptPiece)
kept_live_at s place = option_and_then (kept_still_at s place) (lookup (λ p. p == place) s.places)
