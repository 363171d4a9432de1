-- Lines one of which shows two documents of one SHA-256 in its turn.
use Rattle.std.proofs.Common.{ℕ, List, [], ◌∷◌, ◌++◌, append_assoc, refl, ◌∙◌, ap}
use Rattle.script_run.specs.Run.{Run}
use Rattle.script_run.specs.Turn.{Turn}
use Rattle.script_run.specs.Behind.{after_line}
use Rattle.script_run.specs.Takes.{IsRun, LineShows, LineTakes, run_after}
use Rattle.line_laws.specs.Along.{ShowsAlong}

-- the first of them does
pub shown_here : (run : Run) (turn : Turn) (bytes : List ℕ) (lines : List (List ℕ)) (turns : List Turn) → LineShows run turn bytes → ShowsAlong run (bytes ∷ lines) (turn ∷ turns)
shown_here run turn bytes lines turns shows =
    record { before = []; earlier = []; bytes = bytes; turn = turn; later = lines; rest = turns; lines_are = refl; turns_are = refl; legal = tt; shows = shows }

-- or one behind it
pub shown_later : (run : Run) (turn : Turn) (bytes : List ℕ) (lines : List (List ℕ)) (turns : List Turn) → LineTakes run turn bytes → ShowsAlong (after_line run turn bytes) lines turns
    → ShowsAlong run (bytes ∷ lines) (turn ∷ turns)
shown_later run turn bytes lines turns takes v = record {
  before = bytes ∷ v.before;
  earlier = turn ∷ v.earlier;
  bytes = v.bytes;
  turn = v.turn;
  later = v.later;
  rest = v.rest;
  lines_are = ap (λ (xs : List (List ℕ)). bytes ∷ xs) v.lines_are;
  turns_are = ap (λ (xs : List Turn). turn ∷ xs) v.turns_are;
  legal = (takes, v.legal);
  shows = v.shows;
}

-- so it is where more lines follow
pub shown_front : (run : Run) (lines more : List (List ℕ)) (turns others : List Turn) → ShowsAlong run lines turns → ShowsAlong run (lines ++ more) (turns ++ others)
shown_front run lines more turns others v = record {
  before = v.before;
  earlier = v.earlier;
  bytes = v.bytes;
  turn = v.turn;
  later = v.later ++ more;
  rest = v.rest ++ others;
  lines_are = ap (λ (xs : List (List ℕ)). xs ++ more) v.lines_are ∙ append_assoc v.before (v.bytes ∷ v.later) more;
  turns_are = ap (λ (xs : List Turn). xs ++ others) v.turns_are ∙ append_assoc v.earlier (v.turn ∷ v.rest) others;
  legal = v.legal;
  shows = v.shows;
}

-- and where legal lines come before
pub shown_behind : (run : Run) (before lines : List (List ℕ)) (earlier turns : List Turn) → IsRun run before earlier → ShowsAlong (run_after run before earlier) lines turns
    → ShowsAlong run (before ++ lines) (earlier ++ turns)
shown_behind run [] lines [] turns legal v = v
shown_behind run [] lines (turn ∷ earlier) turns legal v = absurd legal
shown_behind run (bytes ∷ before) lines [] turns legal v = absurd legal
shown_behind run (bytes ∷ before) lines (turn ∷ earlier) turns legal v =
    shown_later run turn bytes (before ++ lines) (earlier ++ turns) legal.0 (shown_behind (after_line run turn bytes) before lines earlier turns legal.1 v)
