-- The line of a whole read, on a part.
use Rattle.std.proofs.Common.{◌≡◌, ℕ, ◌+◌, ◌-◌, ◌*◌, min, List, [], ◌++◌, arith, drop, length, length-append}
use Rattle.std.proofs.Common.{length-drop, length-take, take, refl, sym, ◌∙◌, ap, subst, true, false, ◌⊎◌, inl, inr}
use Rattle.std.specs.Prelude.{None}
use Rattle.logged_disk.specs.Device.{IsAfter}
use Rattle.tape_base.specs.declared.geometries.Geometry.{Geometry}
use Rattle.tape_base.specs.declared.keys.Key.{Key}
use Rattle.tape_base.specs.Geometry.{budget_of}
use Rattle.alternate_vector.specs.Field.{Field}
use Rattle.cache_model.specs.State.{after_all}
use Rattle.cache_model.specs.Legal.{IsQuiet}
use Rattle.cache_model.specs.Permit.{Intent, Setting}
use Rattle.cache_model.specs.Vectors.{AreTold}
use Rattle.call_laws.specs.Moments.{At, permit_of}
use Rattle.call_laws.proofs.Joined.{state_behind}
use Rattle.cache_calls.specs.declared.calls.Calls.{Ghosts as CallsGhosts}
use Rattle.cache_model.specs.Subjects.{IsOfReader}
use Rattle.cache_calls.specs.Adds.{AddsOnly}
use Rattle.cache_calls.specs.Keeping.{IsAtRest, StaysUnharmed, plain_setting, state_at}
use Rattle.call_laws.proofs.Whole.{encloses_own}
use Rattle.cache_calls.proofs.Others.{reads_leave_others}
use Rattle.script_grammar.specs.declared.answer.StepAnswer.{StepAnswer}
use Rattle.script_grammar.specs.declared.step.Step.TheVariants as step
use Rattle.script_run.specs.Run.{Run}
use Rattle.script_run.specs.Asked.{get_intents}
use Rattle.script_run.specs.Own.{AreOwn}
use Rattle.cache_replay.specs.Getting.{GetIsAnswered, StaysSound}
use Rattle.line_calls.specs.Moves.{MovesOrShows, ShowsIn}
use Rattle.line_calls.specs.Standing.{OwnStands}
use Rattle.line_calls.proofs.Whole.{left_by, shows_line, turn_by}

module _ {S W R : Type 0} (c : CallsGhosts S W R) (run : Run) (now : ℕ) (a b : S) (key : Key) (request : List Field) (plain : (c.at a).setting ≡ plain_setting)
    (moment : run.now ≡ now) (rest : IsAtRest (c.at a)) (told : AreTold (state_at (c.at a))) (own : AreOwn (state_at (c.at a)) run.streams)
    (standing : OwnStands run.streams (state_at (c.at a)) (c.stands a)) where
  abbrev asks : List Intent
  asks = get_intents (state_at (c.at a)) key request

  -- it answers with all that it was asked, or such a pair is shown
  pub line_gets : (given : List ℕ) (said : StepAnswer) → IsQuiet (state_at (c.at b)) → GetIsAnswered c a b asks [] given said
      → MovesOrShows run (step.Get key request) (c.at a) (c.at b) said
  line_gets given said quiet answered =
      let call = answered now run in
      let there : state_at (c.at b) ≡ after_all (state_at (c.at a)) call.added = state_behind (c.at a).kept (c.at b).kept call.added call.happens.adds in
      elim (call.does (permit_of now (c.at a) call.calls) [] (encloses_own now (c.at a) call.calls)
      (record { told = told; own = own }) standing) [
        | inr pair ↦ inr (shows_line run (step.Get key request) (c.at a) (c.at b) now plain moment asks call.calls call.added refl refl call.happens.past
            (left_by run (step.Get key request) (c.at a) (c.at b) now plain moment call.calls call.added call.happens) pair)
        | inl way ↦ inl (record {
          turn = turn_by run (step.Get key request) (c.at a) (c.at b) now plain moment call.added None call.calls given;
          takes = record {
            packs = ap (λ (setting : Setting). setting.packed) plain;
            unsynced = ap (λ (setting : Setting). setting.syncs) plain;
            moment = sym moment;
            past = refl;
            legal = record {
              grows = way.grows;
              quiet = subst IsQuiet there quiet;
              faults = call.happens.faults;
              effects = call.happens.effects;
            };
            own = way.body;
            switch = refl;
          };
          calls = call.happens.past;
          state = there;
          says = way.says;
        })
      ]

  -- and it harms nothing, or such a pair is shown
  pub line_stays : IsAfter (c.at a).device (c.at b).device → StaysSound c a a b asks
      → StaysUnharmed (c.at a) (c.at b) ⊎ ShowsIn run (step.Get key request) (c.at a) (c.at b)
  line_stays goes sound =
      elim (sound now run (permit_of now (c.at a) goes.made) (record { told = told; own = own }) standing
      (record { calls = goes.made; past = goes.past; step = encloses_own now (c.at a) goes.made })) [
        | inl kept ↦ inl kept
        | inr shows ↦ inr (shows_line run (step.Get key request) (c.at a) (c.at b) now plain moment asks goes.made shows.added refl refl goes.past
            (record { untold = goes.untold; uncut = goes.uncut; unturned = goes.unturned }) shows.shows)
      ]

-- ---- the page

-- what was written over a list leaves it as long as it was
refilled : (n : ℕ) (xs ws : List ℕ) → length xs ≡ n → length (take n (ws ++ drop (length ws) xs)) ≡ length xs
refilled n xs ws h =
    let rest : List ℕ = drop (length ws) xs in
    let taken : length (take n (ws ++ rest)) ≡ min n (length (ws ++ rest)) = length-take n (ws ++ rest) in
    let both : length (ws ++ rest) ≡ length ws + length rest = length-append ws rest in
    let dropped : length rest ≡ length xs - length ws = length-drop (length ws) xs in
    omega (arith, taken, both, dropped, h)

-- so it still takes any piece
pub page_refilled : (n : ℕ) (xs ws : List ℕ) (reader : ℕ) (a b : At) → length xs ≡ n → AddsOnly (IsOfReader reader) a b
    → length xs ≡ 512 * budget_of (state_at a).geometry → length (take n (ws ++ drop (length ws) xs)) ≡ 512 * budget_of (state_at b).geometry
page_refilled n xs ws reader a b size own fits =
    refilled n xs ws size ∙ (fits ∙ ap (λ (g : Geometry). 512 * budget_of g) (sym (reads_leave_others reader a b own).geometry))
