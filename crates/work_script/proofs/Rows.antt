-- Rows one by one.
use Rattle.std.proofs.Common.{◌≡◌, ℕ, zero, suc, ◌+◌, ◌<◌, List, [], ◌∷◌, length, take, drop, get_or, refl, sym, ◌∙◌, ap, subst, arith}
use Rattle.script_grammar.specs.declared.answer.StepAnswer.{StepAnswer}
use Rattle.cache_replay.specs.declared.stop.Stop.{Stop}
use Rattle.shared_steps.specs.declared.shared.StepRow.{StepRow}
use Rattle.shared_steps.specs.declared.shared.Taken.{Taken}
use Rattle.shared_steps.specs.declared.shared.Taken.TheVariants.{Said, Stopped, Left}
use Rattle.shared_session.specs.declared.step.JobStep.{JobStep}
use Rattle.work_script.specs.Turns.{AreSaid, IsSaid, WorkTurn, turn_in, turns_in}

abbrev pub Row : Type 0
Row = StepRow JobStep StepAnswer Stop

-- the turn of an answered row
abbrev pub turn_of_row : Row → StepAnswer → WorkTurn
turn_of_row r said = record { worker = r.worker + 1; job = r.job; step = r.step.value.step; said = said }

turn_behind : (rows : List Row) (place : ℕ) (row : Row) (said : StepAnswer) → place < length rows → row ≡ get_or rows place row → row.taken ≡ Said said
    → turns_in (drop place rows) ≡ turn_of_row row said ∷ turns_in (drop (suc place) rows)
turn_behind [] place row said within at is = absurd (omega arith)
turn_behind (r ∷ rows) zero row said within at is =
    subst (λ (s : Row). turn_in s.worker s.job s.step.value.step s.taken (turns_in rows) ≡ turn_of_row row said ∷ turns_in rows) at
    (ap (λ (t : Taken StepAnswer Stop). turn_in row.worker row.job row.step.value.step t (turns_in rows)) is)
turn_behind (r ∷ rows) (suc place) row said within at is = turn_behind rows place row said (omega arith) at is

pub next_turn : (rows : List Row) (place : ℕ) (row : Row) (said : StepAnswer) → place < length rows → row ≡ get_or rows place row → row.taken ≡ Said said
    → turns_in (drop place rows) ≡ turn_of_row row said ∷ turns_in (drop (place + 1) rows)
next_turn rows place row said within at is =
    let same : suc place ≡ place + 1 = omega arith in
    turn_behind rows place row said within at is ∙ ap (λ (n : ℕ). turn_of_row row said ∷ turns_in (drop n rows)) same

pub said_at : (rows : List Row) (place : ℕ) (row : Row) → place < length rows → row ≡ get_or rows place row → AreSaid rows → IsSaid row.taken
said_at [] place row within at all = absurd (omega arith)
said_at (r ∷ rows) zero row within at all = subst (λ (s : Row). IsSaid s.taken) (sym at) all.0
said_at (r ∷ rows) (suc place) row within at all = said_at rows place row (omega arith) at all.1

pub not_said : (taken : Taken StepAnswer Stop) → IsSaid taken → ((said : StepAnswer) → taken ≡ Said said → ⊥) → ⊥
not_said (Said said) is other = other said refl
not_said (Stopped why) is other = is
not_said Left is other = is

pub is_said : (taken : Taken StepAnswer Stop) (said : StepAnswer) → taken ≡ Said said → IsSaid taken
is_said taken said e = subst IsSaid (sym e) tt

said_behind : (rows : List Row) (place : ℕ) (row : Row) → place < length rows → row ≡ get_or rows place row → IsSaid row.taken → AreSaid (take place rows) → AreSaid (take (suc place) rows)
said_behind [] place row within at is all = absurd (omega arith)
said_behind (r ∷ rows) zero row within at is all = (subst (λ (s : Row). IsSaid s.taken) at is, tt)
said_behind (r ∷ rows) (suc place) row within at is all = (all.0, said_behind rows place row (omega arith) at is all.1)

pub said_more : (rows : List Row) (place : ℕ) (row : Row) → place < length rows → row ≡ get_or rows place row → IsSaid row.taken → AreSaid (take place rows) → AreSaid (take (place + 1) rows)
said_more rows place row within at is all =
    let same : suc place ≡ place + 1 = omega arith in
    subst (λ (n : ℕ). AreSaid (take n rows)) same (said_behind rows place row within at is all)
