-- The calls of a block device as its log has them, the newest first.
use Rattle.std.specs.Prelude.{ℕ, List, []}
use Rattle.device_log.specs.declared.choice.CutChoice.{CutChoice}

-- what was asked of a call that failed
pub data Asked : Type 0 where
  -- so many blocks from one on
  ToRead : (at blocks : ℕ) → Asked
  -- Behind it these bytes are seen from the first block on, as far as they and the range go.
  ToWrite : (at blocks : ℕ) (left : List ℕ) → Asked
  ToSync : Asked

-- what a device's switch is told of calls to come
pub data Act : Type 0 where
  -- the nth read, write or sync from now on fails
  Fail : (nth : ℕ) → Act
  -- so many of them pass, and all later ones fail until a cut
  StopAfter : (calls : ℕ) → Act

-- one call of a device, as it went
pub data Call : Type 0 where
  -- gave these bytes
  Read : (at : ℕ) (bytes : List ℕ) → Call
  Wrote : (at : ℕ) (bytes : List ℕ) → Call
  Synced : Call
  -- failed; the count of faults behind it
  RefusedCall : (what : Asked) (count : ℕ) → Call
  Told : (act : Act) → Call
  -- the power was cut, and these bytes are there from the first block of all on
  PowerCut : (choice : CutChoice) (left : List ℕ) → Call
  -- the lowest bit of one byte of a block was turned
  Flipped : (at byte : ℕ) → Call

-- the bytes of a call, read, written or left
abbrev pub bytes_of : Call → List ℕ
bytes_of (Read at bytes) = bytes
bytes_of (Wrote at bytes) = bytes
bytes_of Synced = []
bytes_of (RefusedCall (ToRead at blocks) count) = []
bytes_of (RefusedCall (ToWrite at blocks left) count) = left
bytes_of (RefusedCall ToSync count) = []
bytes_of (Told act) = []
bytes_of (PowerCut choice left) = left
bytes_of (Flipped at byte) = []
