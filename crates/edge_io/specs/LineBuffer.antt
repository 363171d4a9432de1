-- What a contract sees of a `LineBuffer`, and where its bytes have a newline.
use Rattle.std.specs.Prelude.{◌≡◌, ◌≢◌, ℕ, ◌<◌, List, length, slice_index}

-- the line that was given last, the bytes behind it that were read, and how many more may be read behind them
pub record Shown : Type 0 where
  pub line : List ℕ
  pub rest : List ℕ
  pub room : ℕ

-- none of the first n bytes is a newline
pub record IsClear (bytes : List ℕ) (n : ℕ) : Type 0 where
  pub clear : (k : ℕ) → k < n → slice_index bytes k ≢ 10

-- the first newline stands here
pub record IsNewline (bytes : List ℕ) (place : ℕ) : Type 0 where
  pub within : place < length bytes
  pub here : slice_index bytes place ≡ 10
  pub before : IsClear bytes place
