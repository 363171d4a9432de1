-- What a session wrote itself is as its readers have it listed, so that a whole read harms nothing.
use Rattle.std.proofs.Common.{◌≡◌, ℕ, ◌≤◌, ◌⊎◌, List, [], ◌++◌, sym, ◌∙◌, ap, subst, append_assoc, inl, inr}
use Rattle.std.proofs.lemmas.List.{append_cancel_right}
use Rattle.device_log.specs.Calls.{Call}
use Rattle.logged_disk.specs.Device.{IsAfter}
use Rattle.cache_model.specs.State.{State}
use Rattle.cache_model.specs.Permit.{Intent, Permit}
use Rattle.call_laws.specs.Moments.{At, Encloses}
use Rattle.call_laws.proofs.Joined.{encloses_first, state_behind}
use Rattle.cache_calls.specs.declared.calls.Calls.{Ghosts as CallsGhosts}
use Rattle.cache_calls.specs.Actors.{IsReaderOf, ReaderSeen, row_by}
use Rattle.cache_calls.specs.Keeping.{StaysUnharmed, state_at}
use Rattle.cache_calls.specs.Readers.{IsOtherNext}
use Rattle.script_run.specs.Run.{Run, Stream}
use Rattle.script_run.specs.Own.{AreOwn}
use Rattle.script_run.proofs.Fragments.{own_is_kept}
use Rattle.script_run.proofs.Others.{none_is_unlike}
use Rattle.cache_replay.specs.Getting.{HasCalls, IsUnderway, ShowsBy, StaysSound}
use Rattle.line_calls.proofs.Whole.{later_shows}

-- ---- a reader that reads on

none_other : (s : State) (streams : ℕ → Stream) (r : ReaderSeen) → 1 ≤ r.next → AreOwn s streams → IsReaderOf s r → IsOtherNext s r → ⊥
none_other s streams r first owned reader other =
    none_is_unlike s streams r.reader (row_by reader.actor r) other.entry other.row other.found (own_is_kept s streams owned)
    first reader.found other.cut other.live other.unlike

-- what holds unless the fragment that it takes next is another one than is listed
pub next_stays : {X : Type 0} (s : State) (r : ReaderSeen) → 1 ≤ r.next → X ⊎ IsOtherNext s r → (streams : ℕ → Stream) → AreOwn s streams → IsReaderOf s r → X
next_stays s r first (inl stays) streams owned reader = stays
next_stays s r first (inr other) streams owned reader = absurd (none_other s streams r first owned reader other)

-- ---- one call behind another

-- the step has the calls up to the first of them
first_step : (now : ℕ) (first mid new : At) (p : Permit) → IsAfter mid.device new.device → (calls : List Call) → mid.device.past ≡ calls ++ first.device.past
    → HasCalls now first new p → Encloses now first p [] calls
first_step now first mid new p goes calls past has =
    let same : has.calls ≡ goes.made ++ calls =
    append_cancel_right has.calls (goes.made ++ calls) first.device.past
    (sym has.past ∙ (goes.past ∙ (ap (λ xs. goes.made ++ xs) past ∙ sym (append_assoc goes.made calls first.device.past)))) in
    encloses_first calls goes.made (subst (λ made. Encloses now first p [] made) same has.step)

pub has_first : (now : ℕ) (first mid new : At) (p : Permit) → IsAfter mid.device new.device → (calls : List Call) → mid.device.past ≡ calls ++ first.device.past
    → HasCalls now first new p → HasCalls now first mid p
has_first now first mid new p goes calls past has = record { calls = calls; past = past; step = first_step now first mid new p goes calls past has }

module _ {S W R : Type 0} (c : CallsGhosts S W R) where
  -- nothing was done
  pub sound_still : (origin a : S) (asks : List Intent) → StaysSound c origin a a asks
  sound_still origin a asks = λ now run p known stands has. inl (λ unharmed. unharmed)

  -- what is done keeps it so
  pub sound_kept : (origin old new : S) (asks : List Intent) → StaysUnharmed (c.at old) (c.at new) → StaysSound c origin old new asks
  sound_kept origin old new asks stays = λ now run p known stands has. inl stays

  -- what stays unharmed by the first, where it does behind that
  pub sound_before : (origin old mid new : S) (asks : List Intent) → StaysUnharmed (c.at old) (c.at mid) → StaysSound c origin mid new asks → StaysSound c origin old new asks
  sound_before origin old mid new asks stays sound = λ now run p known stands has. elim (sound now run p known stands has) [
    | inl kept ↦ inl (λ unharmed. kept (stays unharmed))
    | inr shows ↦ inr shows
  ]

  -- a pair on a device that did not tell its content up to a moment is one up to a later one
  shows_later : (mid new : S) (run : Run) (p : Permit) (s : State) (asks : List Intent) → IsAfter (c.at mid).device (c.at new).device
      → ShowsBy run (c.at mid).device p s asks → ShowsBy run (c.at new).device p s asks
  shows_later mid new run p s asks goes shows = record {
    added = shows.added;
    shows = later_shows run.streams (c.at mid).device (c.at new).device goes p s asks shows.added shows.shows;
  }

  -- behind it a call that reads on some way into a whole read
  pub way_sound : (origin old mid new : S) (asks : List Intent) (r : ReaderSeen) (body : List ℕ) → IsAfter (c.at mid).device (c.at new).device
      → ((streams : ℕ → Stream) → AreOwn (state_at (c.at mid)) streams → IsReaderOf (state_at (c.at mid)) r → StaysUnharmed (c.at mid) (c.at new))
      → IsUnderway c origin mid asks r body → StaysSound c origin old mid asks → StaysSound c origin old new asks
  way_sound origin old mid new asks r body goes stays under sound = λ now run p known stands has.
      let first : At = c.at origin in
      let call = under.comes now run in
      elim (call.does p [] (first_step now first (c.at mid) (c.at new) p goes call.calls call.happens.past has) known stands) [
        | inr pair ↦ inr (shows_later mid new run p (state_at first) asks goes (record { added = call.added; shows = pair }))
        | inl way ↦ elim (sound now run p known stands (has_first now first (c.at mid) (c.at new) p goes call.calls call.happens.past has)) [
          | inr shows ↦ inr (shows_later mid new run p (state_at first) asks goes shows)
          | inl kept ↦
              let there = state_behind first.kept (c.at mid).kept call.added call.happens.adds in
              inl (λ unharmed. stays run.streams (subst (λ u. AreOwn u run.streams) (sym there) way.known.own) (subst (λ u. IsReaderOf u r) (sym there) way.reader) (kept unharmed))
        ]
      ]

  -- and where the second closes the reader of a whole read
  pub sound_closed : (origin old mid new : S) (asks : List Intent) (r : ReaderSeen) (body : List ℕ) → IsAfter (c.at old).device (c.at mid).device
      → IsAfter (c.at mid).device (c.at new).device
      → IsUnderway c origin old asks r body → StaysSound c origin old mid asks → StaysUnharmed (c.at mid) (c.at new) → StaysSound c origin old new asks
  sound_closed origin old mid new asks r body goes more under sound stays = λ now run p known stands has.
      let first : At = c.at origin in
      let call = under.comes now run in
      let past : (c.at mid).device.past ≡ (goes.made ++ call.calls) ++ first.device.past =
      goes.past ∙ (ap (λ xs. goes.made ++ xs) call.happens.past ∙ sym (append_assoc goes.made call.calls first.device.past)) in
      elim (sound now run p known stands (has_first now first (c.at mid) (c.at new) p more (goes.made ++ call.calls) past has)) [
        | inl kept ↦ inl (λ unharmed. stays (kept unharmed))
        | inr shows ↦ inr (shows_later mid new run p (state_at first) asks more shows)
      ]
