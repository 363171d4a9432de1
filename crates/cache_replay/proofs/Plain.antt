-- A line without an actor, on a session.
use Rattle.std.proofs.Common.{◌≡◌, ℕ}
use Rattle.std.specs.Prelude.{Option, Some, None}
use Rattle.cache_model.specs.State.{State}
use Rattle.cache_model.specs.Vectors.{AreTold}
use Rattle.script_run.specs.Run.{Run}
use Rattle.script_run.specs.Own.{AreOwn}
use Rattle.cache_replay.specs.Session.{AreHeld, HoldingSeen, LeavesBut, ReaderHeld, WriterHeld}
use Rattle.cache_replay.specs.Plays.{PlaysIn}
use Rattle.cache_replay.proofs.Frames.{IsElse, SameStreams, as_one, held_as_stays, held_one, held_stays}

-- ---- no actor has anything to do with it

-- what all actors have is neither the writer of that put, nor that reader
abbrev pub AllElse : (ℕ → Option HoldingSeen) → Option ℕ → Option ℕ → Type 0
AllElse slots put reader = (m : ℕ) (h : HoldingSeen) → slots m ≡ Some h → IsElse put reader h

pub none_else : (slots : ℕ → Option HoldingSeen) → AllElse slots None None
none_else slots m (WriterHeld w) is = λ no. cc no
none_else slots m (ReaderHeld r) is = λ no. cc no

pub still_held : (put reader : Option ℕ) (s t : State) (slots : ℕ → Option HoldingSeen) → LeavesBut put reader s t → AllElse slots put reader → AreHeld s slots → AreHeld t slots
still_held put reader s t slots leaves others held = λ m. held_one s t (slots m) (λ h is own. held_stays put reader s t h leaves (others m h is) own) (held m)

-- the run goes on with what its actors have
pub still_plays : (put reader : Option ℕ) (run new : Run) (s t : State) (slots : ℕ → Option HoldingSeen) → LeavesBut put reader s t → AllElse slots put reader
    → SameStreams put run new
    → ((m : ℕ) → new.held m ≡ run.held m) → new.state ≡ Some t → AreTold t → AreOwn t new.streams → PlaysIn run s slots → PlaysIn new t slots
still_plays put reader run new s t slots leaves others streams held state told own plays = record {
  state = state;
  told = told;
  own = own;
  held = λ m. as_one run new s t m (slots m) (held m) (λ h is own. held_as_stays put reader run new s t m h leaves streams (held m) (others m h is) own) (plays.held m);
}
