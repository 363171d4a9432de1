-- What is read of the fragment that a reader takes next.
use Rattle.std.specs.Prelude.{ℕ, ◌≡◌, ◌≢◌, ◌+◌, ◌≤◌, ◌⊎◌, List, Option, Some, None, Result, IfOk, OnErr}
use Rattle.std.specs.declared.alloc.AllocError.{AllocError}
use Rattle.tape_base.specs.declared.digests.Digest.{Digest}
use Rattle.tape_base.specs.declared.pieces.PieceId.{PieceId}
use Rattle.logged_disk.specs.Device.{TellsAll}
use Rattle.logged_disk.specs.declared.device.Disk.{Ghosts as DiskGhosts}
use Rattle.dir_table.specs.declared.directory.Directory.{Ghosts as DirectoryGhosts}
use Rattle.cache_chronicle.specs.declared.chronicle.Chronicle.{Ghosts as ChronicleGhosts}
use Rattle.fragment_table.specs.Table.{TableRow}
use Rattle.cyclone.specs.Cyclone.{Seen}
use Rattle.cache_model.specs.declared.cause.Cause.TheVariants as cause
use Rattle.cache_model.specs.State.{Row, State, live_row_of}
use Rattle.cache_model.specs.Kept.{with_records}
use Rattle.cache_model.specs.Verdict.{cause_of_piece, digest_in, payload_of_piece}
use Rattle.cache_model.specs.Permit.{Permit}
use Rattle.cache_model.specs.Given.{IsDocumentOf}
use Rattle.cache_model.specs.Legal.{IsAsListed, ReadTrouble}
use Rattle.cache_model.specs.Contents.{Contents}
use Rattle.piece_answers.specs.declared.answer.Found.{Found}
use Rattle.piece_answers.specs.declared.answer.Found.TheVariants as found
use Rattle.piece_answers.specs.Covers.{AllReadIsSeen, Covers}
use Rattle.cache_model.specs.Troubles.{cause_records}
use Rattle.piece_answers.specs.Find.{HasPayload, find_adds}
use Rattle.piece_answers.specs.Standing.{AreStanding}
use Rattle.held_pieces.specs.Still.{IsStill}
use Rattle.held_pieces.specs.Whereabouts.{live_place_of}
use Rattle.stripe_core.specs.declared.stripe.Stripe.{Stripe}
use Rattle.stripe_core.specs.Between.{Between, Proceeds}
use Rattle.stripe_core.specs.Stripe.{IsStripe, kept_in, seen_in, state_in, units_in}
use Rattle.stripe_read.specs.declared.fetching.Unlike.{Unlike}

-- where the records tell the digest of a live piece's payload, it is the one that is listed
abbrev pub IsPieceAsListed : State → PieceId → Digest → Type 0
IsPieceAsListed s id listed = (found : Digest) → payload_of_piece s id ≡ Some found → found ≡ listed

-- they tell one, and it is another
pub record IsOtherPiece (s : State) (id : PieceId) (listed : Digest) : Type 0 where
  pub found : Digest
  pub payload : payload_of_piece s id ≡ Some found
  pub differ : listed ≢ found

-- they tell this one, which is another, of a piece that stands at this place
pub record IsUnlikePiece (s : State) (id : PieceId) (listed : Digest) (u : Unlike) : Type 0 where
  pub place : live_place_of s id ≡ Some u.place
  pub payload : payload_of_piece s id ≡ Some u.found
  pub differ : listed ≢ u.found

-- the piece is given where its payload is the one that is listed, and else is damaged
abbrev pub IsCompared : State → PieceId → Digest → ℕ → Found → Type 0
IsCompared s id listed size (found.Found n) = (n ≡ size) × IsPieceAsListed s id listed
IsCompared s id listed size (found.Missing why) = (u : Unlike) × (why ≡ cause.Damaged u.place listed u.found) × IsUnlikePiece s id listed u

-- of a piece that is not live the cause; of a live one its payload, which is the one that is listed, or why it cannot be
-- given
abbrev pub IsFetched : Permit → State → PieceId → Option Row → TableRow → Found → List ℕ → Type 0
IsFetched p s id None entry answer into = answer ≡ found.Missing (cause_of_piece s id)
IsFetched p s id (Some row) entry (found.Found size) into = IsDocumentOf p s row size into × IsAsListed row entry
IsFetched p s id (Some row) entry (found.Missing why) into = ReadTrouble p s row entry (cause_records row why) why

-- what was read is what is seen, and what came of it in any step that covers the call, for each row of a table that
-- lists this digest; where the device tells its content a payload is the one that is told
pub record Fetches (s : State) (old new : Seen) (id : PieceId) (listed : Digest) (answer : Found) (into : List ℕ) : Type 0 where
  pub seen : AllReadIsSeen old.device new.device
  pub contents : TellsAll new.device → (contents : Contents) → AreStanding contents s old → HasPayload contents (live_row_of s id) answer into
  pub answers : (p : Permit) (entry : TableRow) → Covers p old.device.past new.device.past → digest_in entry ≡ listed
      → IsFetched p s id (live_row_of s id) entry answer into

-- ---- what a stripe makes of it

module _ {D R C : Type 0} {d : DiskGhosts D} {r : DirectoryGhosts R} {c : ChronicleGhosts C} where
  -- what fetching a piece comes to
  pub record FetchesPiece (id : PieceId) (listed : Digest) (old new : Stripe D R C d r c) (result : Result Found AllocError) (into : List ℕ) : Type 0 where
    pub stripe : IsStripe new
    pub proceeds : Proceeds old new
    pub unharmed : Between old new ⊎ IsOtherPiece (state_in old) id listed
    pub adds : IfOk result (λ answer. kept_in new ≡ with_records (kept_in old) (find_adds (state_in old) id answer))
    pub fetches : IfOk result (λ answer. Fetches (state_in old) (seen_in old) (seen_in new) id listed answer into)
    pub err : OnErr result (kept_in new ≡ kept_in old)
    pub untouched : OnErr result (IsStill (seen_in old).device (seen_in new).device)
    pub unit : units_in old ≤ units_in new + 2

  -- what comparing a piece that was found with the digest that is listed comes to; the device is not asked
  pub record ComparesPiece (id : PieceId) (listed : Digest) (size : ℕ) (old new : Stripe D R C d r c) (answer : Found) : Type 0 where
    pub stripe : IsStripe new
    pub proceeds : Proceeds old new
    pub unharmed : Between old new ⊎ IsOtherPiece (state_in old) id listed
    pub adds : kept_in new ≡ with_records (kept_in old) (find_adds (state_in old) id answer)
    pub compares : IsCompared (state_in old) id listed size answer
    pub still : (seen_in new).device ≡ (seen_in old).device
    pub unit : units_in old ≤ units_in new + 1
