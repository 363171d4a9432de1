-- What workers make of a session.
use Rattle.std.specs.Prelude.{◌≡◌, ℕ, suc, true, List, [], ◌∷◌, Ok, ⊤}
use Rattle.cache_calls.specs.declared.calls.Calls.{Ghosts as CallsGhosts}
use Rattle.cache_replay.specs.declared.session.Session.{Session}
use Rattle.cache_replay.specs.OneLine.{AnswersLine}
use Rattle.shared_session.specs.Steps.{is_on_session}
use Rattle.job_lines.specs.Lanes.{Lane}
use Rattle.work_script.specs.Turns.{WorkTurn, jobs_under}

module _ {S W R : Type 0} {c : CallsGhosts S W R} where
  -- each turn answered its step from where the one before it left the session
  abbrev pub TakesTurns : (old : Session S W R c) → List WorkTurn → (new : Session S W R c) → Type 0
  TakesTurns old [] new = old ≡ new
  TakesTurns old (t ∷ turns) new = (mid : Session S W R c) × (is_on_session t.step ≡ true) × AnswersLine t.step old mid (Ok t.said) × TakesTurns mid turns new

-- the workers from this one on have these jobs among the turns
abbrev pub AreUnder : ℕ → List Lane → List WorkTurn → Type 0
AreUnder worker [] turns = ⊤
AreUnder worker (lane ∷ lanes) turns = (jobs_under worker turns ≡ lane) × AreUnder (suc worker) lanes turns
