-- Two documents of one SHA-256: the one as which a live piece was placed, and other bytes for it. What a
-- promise loses where SHA-256 fails, it loses by such a pair alone.
use Rattle.std.specs.Prelude.{ℕ, ◌≡◌, ◌++◌, List, [], ◌∷◌, take, Some}
use Rattle.tape_base.specs.declared.keys.Key.{Key}
use Rattle.tape_base.specs.Digest.{Collide}
use Rattle.doc_header.specs.Reading.{extent_of}
use Rattle.cache_model.specs.declared.record.Rec.{Rec}
use Rattle.cache_model.specs.State.{State, Row, after_all, live_row_of}
use Rattle.cache_model.specs.Verdict.{live_vector_of}
use Rattle.cache_model.specs.Permit.{Intent, Permit, Work, to_do}
use Rattle.cache_model.specs.Given.{IsGiven, IsWritten}
use Rattle.cache_model.specs.Legal.{MayGrow}
use Rattle.cache_model.specs.ToRead.{IsCopied, IsToRead}

-- which documents a row may have been placed as
abbrev pub Documents : Type 1
Documents = State → Row → List ℕ → Type 0

-- a live piece was placed as a document, and other bytes for it have the document's SHA-256: of a piece that was
-- written out the device gave them in the step; of one in the buffer nothing more is said of them
pub record IsPairOf (IsPlaced : Documents) (p : Permit) (s : State) (row : Row) : Type 0 where
  pub document : List ℕ
  pub bytes : List ℕ
  pub live : live_row_of s row.id ≡ Some row
  pub placed : IsPlaced s row document
  pub given : IsWritten s row → IsGiven p s row bytes
  pub collide : Collide (take (extent_of bytes) bytes) document

-- such a piece is the vector of a key
pub record IsKeyPair (IsPlaced : Documents) (p : Permit) (s : State) (key : Key) : Type 0 where
  pub row : Row
  pub vector : live_vector_of s key ≡ Some row
  pub pair : IsPairOf IsPlaced p s row

-- or one to which a flush at this moment comes, with so much of its budget left
pub record IsCopyPair (IsPlaced : Documents) (p : Permit) (s : State) (now left : ℕ) : Type 0 where
  pub row : Row
  pub copied : IsCopied p s now left row
  pub pair : IsPairOf IsPlaced p s row

-- a pair of a piece that is read for what is asked
pub record IsPair (IsPlaced : Documents) (p : Permit) (s : State) (i : Intent) : Type 0 where
  pub row : Row
  pub read : IsToRead p s i row
  pub pair : IsPairOf IsPlaced p s row

-- the same of what is asked next; where nothing is asked there is none
abbrev pub IsPairNext : Documents → Permit → State → List Intent → Type 0
IsPairNext IsPlaced p s [] = ⊥
IsPairNext IsPlaced p s (i ∷ intents) = IsPair IsPlaced p s i

-- some way into the records of a step, from some work on, such a pair is shown
pub record ShowsFrom (IsPlaced : Documents) (p : Permit) (s : State) (work : Work) (added : List Rec) : Type 0 where
  pub before : List Rec
  pub rest : List Rec
  pub left : Work
  pub is : added ≡ before ++ rest
  pub grows : MayGrow p s work before left
  pub pair : IsPairNext IsPlaced p (after_all s before) left.intents

-- and so it is from the step's beginning on
abbrev pub ShowsPair : Documents → Permit → State → List Intent → List Rec → Type 0
ShowsPair IsPlaced p s intents added = ShowsFrom IsPlaced p s (to_do intents) added

-- ---- laws
