-- A session that a format began.
use Rattle.std.proofs.Common.{◌≡◌, ℕ, ◌*◌, List, [], ◌∷◌, ◌++◌, refl, sym, ◌∙◌, ap, subst, arith, length}
use Rattle.std.specs.Prelude.{Option, Some, None, IfSome}
use Rattle.std.proofs.lemmas.List.{append-nil}
use Rattle.tape_base.specs.declared.geometries.Geometry.{Geometry}
use Rattle.tape_base.specs.Geometry.{budget_of}
use Rattle.logged_disk.specs.Device.{DeviceState as Device}
use Rattle.logged_disk.specs.declared.device.Disk.{Ghosts as DiskGhosts}
use Rattle.cache_model.specs.State.{State, after_all, nothing_yet}
use Rattle.cache_model.specs.Kept.{state_of}
use Rattle.cache_model.specs.Legal.{format_records}
use Rattle.cache_model.specs.Vectors.{AreTold}
use Rattle.step_laws.proofs.ToldGroups.{told_format}
use Rattle.cache_calls.specs.declared.calls.Calls.{Ghosts as CallsGhosts}
use Rattle.cache_calls.specs.Begins.{Begins}
use Rattle.cache_calls.specs.Keeping.{IsAtRest, IsUnharmed}
use Rattle.device_log.specs.Calls.{Call}
use Rattle.script_run.specs.Run.{Run, loosened, no_harm}
use Rattle.script_run.specs.Behind.{with_format, without_session}
use Rattle.script_run.specs.Ledger.{AreReached}
use Rattle.script_run.specs.Losses.{NoLossIsAFault}
use Rattle.script_run.specs.Own.{AreOwn}
use Rattle.script_run.proofs.Losses.{formats_lose_none}
use Rattle.script_run.proofs.Reading.{formats_own}
use Rattle.cache_replay.specs.declared.session.Part.{Part}
use Rattle.cache_replay.specs.declared.session.Replay.{Replay}
use Rattle.cache_replay.specs.Session.{ActorsAreApart, AreHeld, HoldingSeen, IsAt, IsHeldByActor, IsPart, at_in, return_of, slots_in, state_in_part}
use Rattle.cache_replay.specs.Plays.{CallsAt, IsHeldAs, IsUnharmedAt, OwnStandsAt, PlaysAt, PlaysIn}
use Rattle.cache_replay.specs.Replay.{IsAlone, IsBareAs, IsReplay, PlaysOn, actors_in, bare_return, returns_in}

-- ---- no actor has anything

module _ (slots : ℕ → Option HoldingSeen) (none : (n : ℕ) → slots n ≡ None) where
  none_held : (s : State) → AreHeld s slots
  none_held s = λ n. subst (λ o. IfSome o (IsHeldByActor s)) (sym (none n)) tt

  none_apart : ActorsAreApart slots
  none_apart = λ m n a b other is too. let no : None ≡ Some a = sym (none m) ∙ is in cc no

  none_held_as : (run : Run) (s : State) → ((n : ℕ) → run.held n ≡ None) → (n : ℕ) → IsHeldAs run s n (slots n)
  none_held_as run s nothing = λ n. subst (IsHeldAs run s n) (sym (none n)) (nothing n)

module _ {S W R : Type 0} {c : CallsGhosts S W R} (geometry : Geometry) (device : Device) (part : Part S W R c)
    (begins : Begins c.at c.holds c.stands geometry device part.cache) where
  -- ---- a part

  begun_state : state_in_part part ≡ after_all nothing_yet (format_records geometry)
  begun_state = ap state_of begins.kept

  begun_part : IsAtRest (at_in part) → length part.page.items ≡ 512 * budget_of geometry → IsPart part
  begun_part rest page = record {
    holds = begins.holds_first;
    rest = rest;
    plain = begins.setting;
    losses = subst NoLossIsAFault (sym begun_state) (formats_lose_none nothing_yet geometry);
    page = page ∙ ap (λ (s : State). 512 * budget_of s.geometry) (sym begun_state);
  }

  -- nothing was told of its device
  begun_reached : AreReached (loosened no_harm ∷ []) (return_of (Some part))
  begun_reached =
      (record { made = record { later = (at_in part).device.past; is = sym (append-nil (at_in part).device.past) }; all = λ no. cc; counted = omega arith; unharmed = λ trusted. refl; switched = tt }, tt)

  begun_plays : (run : Run) (name : List ℕ) (calls : List Call) (slots : ℕ → Option HoldingSeen) → ((n : ℕ) → slots n ≡ None)
      → PlaysIn (with_format run name calls (format_records geometry)) (state_in_part part) slots
  begun_plays run name calls slots none =
      let later : Run = with_format run name calls (format_records geometry) in
      record {
        state = ap Some (sym begun_state);
        told = subst AreTold (sym begun_state) (told_format nothing_yet geometry);
        own = subst (λ s. AreOwn s later.streams) (sym begun_state) (formats_own nothing_yet geometry later.streams);
        held = none_held_as slots none later (state_in_part part) (λ n. refl);
      }

  begun_unharmed : IsUnharmed (at_in part)
  begun_unharmed = record { unharmed = λ tells. ap Rattle.cache_model.specs.Damage.has_damage begun_state }

-- ---- a session

none_beside : {D S W R : Type 0} (d : DiskGhosts D) {c : CallsGhosts S W R} (part : Option (Part S W R c)) → IsAlone {d = d} part None
none_beside d None = tt
none_beside d (Some part) = tt

module _ {D S W R : Type 0} {d : DiskGhosts D} {c : CallsGhosts S W R} (geometry : Geometry) (device : Device) (part : Part S W R c)
    (begins : Begins c.at c.holds c.stands geometry device part.cache) (new : Replay D S W R d c) (is : new.session.part ≡ Some part) (lone : new.bare ≡ None)
    (none : (n : ℕ) → slots_in new.session n ≡ None) where
  pub session_begins : IsAtRest (at_in part) → length part.page.items ≡ 512 * budget_of geometry → IsReplay new
  session_begins rest page = record {
    session = subst (λ p. IsAt p (slots_in new.session)) (sym is) (record {
      part_is = begun_part geometry device part begins rest page;
      held = none_held (slots_in new.session) none (state_in_part part);
      apart = none_apart (slots_in new.session) none;
    });
    alone = subst (IsAlone new.session.part) (sym lone) (none_beside d new.session.part);
  }

  pub session_returns : returns_in new ≡ (at_in part).device ∷ []
  session_returns = ap (λ p. return_of p ++ bare_return new.bare) is ∙ ap (λ b. (at_in part).device ∷ bare_return b) lone

  pub session_reached : AreReached (loosened no_harm ∷ []) (returns_in new)
  session_reached = subst (AreReached (loosened no_harm ∷ [])) (sym session_returns) (begun_reached geometry device part begins)

  pub session_plays : (old : Replay D S W R d c) (run : Run) (name : List ℕ) → actors_in new ≡ actors_in old → new.session.now ≡ old.session.now
      → PlaysOn run old → PlaysOn (with_format run name (at_in part).device.past (format_records geometry)) new
  session_plays old run name names now plays =
      let later : Run = with_format run name (at_in part).device.past (format_records geometry) in
      record {
        session = record {
          names = plays.session.names ∙ sym names;
          now = plays.session.now ∙ sym now;
          at = subst (λ p. PlaysAt later p (slots_in new.session)) (sym is) (begun_plays geometry device part begins run name (at_in part).device.past (slots_in new.session) none);
          unharmed = subst (λ p. IsUnharmedAt p) (sym is) (begun_unharmed geometry device part begins);
          stands = subst (λ p. OwnStandsAt later p) (sym is) (λ contents told. begins.contents contents);
          calls = subst (λ p. CallsAt later p) (sym is) refl;
        };
        bare = subst (IsBareAs later.calls None) (sym lone) tt;
      }

-- ---- no session, since the device refused a call of its format

module _ {D S W R : Type 0} {d : DiskGhosts D} {c : CallsGhosts S W R} (new : Replay D S W R d c) (is : new.session.part ≡ None) (lone : new.bare ≡ None)
    (none : (n : ℕ) → slots_in new.session n ≡ None) where
  pub none_begins : IsReplay new
  none_begins = record { session = subst (λ p. IsAt p (slots_in new.session)) (sym is) none; alone = subst (IsAlone new.session.part) (sym lone) (none_beside d new.session.part) }

  pub none_returns : returns_in new ≡ []
  none_returns = ap (λ p. return_of p ++ bare_return new.bare) is ∙ ap bare_return lone

  pub none_plays : (old : Replay D S W R d c) (run : Run) (name : List ℕ) (calls : List Call) (count : ℕ) → actors_in new ≡ actors_in old → new.session.now ≡ old.session.now
      → PlaysOn run old → PlaysOn (without_session run name calls count) new
  none_plays old run name calls count names now plays =
      let later : Run = without_session run name calls count in
      record {
        session = record {
          names = plays.session.names ∙ sym names;
          now = plays.session.now ∙ sym now;
          at = subst (λ p. PlaysAt later p (slots_in new.session)) (sym is) (record { state = refl; held = λ n. refl });
          unharmed = subst (λ p. IsUnharmedAt p) (sym is) tt;
          stands = subst (λ p. OwnStandsAt later p) (sym is) tt;
          calls = subst (λ p. CallsAt later p) (sym is) tt;
        };
        bare = subst (IsBareAs later.calls None) (sym lone) tt;
      }
