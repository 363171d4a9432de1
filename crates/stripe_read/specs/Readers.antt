-- A reader, and what the records say of it.
use Rattle.std.specs.Prelude.{ℕ, ◌≡◌, ◌≤◌, List, [], ◌∷◌, Option, Some, is_some, option_map, Result, IfErr, OnOk}
use Rattle.std.specs.declared.alloc.AllocError.{AllocError}
use Rattle.logged_disk.specs.declared.device.Disk.{Ghosts as DiskGhosts}
use Rattle.dir_table.specs.declared.directory.Directory.{Ghosts as DirectoryGhosts}
use Rattle.cache_chronicle.specs.declared.chronicle.Chronicle.{Ghosts as ChronicleGhosts}
use Rattle.fragment_table.specs.Table.{Table, TableRow}
use Rattle.cache_model.specs.declared.record.Rec.TheVariants as rec
use Rattle.cache_model.specs.State.{ReaderRow, State, reader_of}
use Rattle.cache_model.specs.Permit.{Done, Permit, StopReading}
use Rattle.cache_model.specs.Kept.{with_records}
use Rattle.cache_model.specs.Legal.{Does}
use Rattle.held_pieces.specs.Still.{IsStill}
use Rattle.stripe_core.specs.declared.stripe.Stripe.{Stripe}
use Rattle.stripe_core.specs.Stripe.{kept_in, seen_in, state_in}
use Rattle.stripe_core.specs.Between.{IsResting, Rests}
use Rattle.stripe_read.specs.declared.reader.Reader.{Reader}
use Rattle.cache_calls.specs.Actors.{IsOpenReader, ReaderSeen}

-- the fragments of what it hit
abbrev pub rows_hit : Reader → Option (List TableRow)
rows_hit r = option_map (λ (t : Table). t.rows) r.table

-- a reader as a cache's
abbrev pub reading_as : Reader → ReaderSeen
reading_as r = record { reader = r.reader; key = r.key; put = r.put; table = rows_hit r; next = r.next }

-- it is closed as it was asked
abbrev pub ReaderClosesAsAsked : State → Reader → Type 0
ReaderClosesAsAsked s r = (p : Permit) → Does p s (StopReading r.reader) (rec.ReadClosed r.reader ∷ []) Done

-- ---- a stripe and a reader

module _ {D R C : Type 0} {d : DiskGhosts D} {r : DirectoryGhosts R} {c : ChronicleGhosts C} where
  -- a stripe between calls, and a reader that is open
  pub record HasOpenReader (t : Stripe D R C d r c) (own : Reader) : Type 0 where
    pub resting : IsResting t
    pub reader : IsOpenReader (state_in t) (reading_as own)

  -- what closing a reader comes to; where memory is wanting it is given back
  pub record ClosesReaderInStripe (own : Reader) (old new : Stripe D R C d r c) (result : Result (Unit {0}) (AllocError × Reader)) : Type 0 where
    pub rests : Rests old new
    pub adds : OnOk result (kept_in new ≡ with_records (kept_in old) (rec.ReadClosed own.reader ∷ []))
    pub does : ReaderClosesAsAsked (state_in old) own
    pub err : IfErr result (λ e. kept_in new ≡ kept_in old)
    pub back : IfErr result (λ e. e.1 ≡ own)
    pub still : IsStill (seen_in old).device (seen_in new).device
