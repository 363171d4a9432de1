-- The calls of a run that is finished at once are those of a whole sync.
use Rattle.std.proofs.Common.{◌≡◌, ℕ, ◌+◌, ◌-◌, ◌*◌, if◌then◌else◌, Bool, true, false, List, [], ◌∷◌, ◌++◌, length, inl, inr, refl, sym, ◌∙◌, ap, subst, arith}
use Rattle.std.specs.Prelude.{IsTrue}
use Rattle.std.specs.List.{AllByRecursion}
use Rattle.std.proofs.lemmas.List.{take_all}
use Rattle.device_log.specs.Calls.{Call, Wrote, Synced}
use Rattle.device_log.specs.Along.{Stopped, Went}
use Rattle.device_log.specs.Faults.{faults_of}
use Rattle.stripe_header.specs.declared.area.Area.{Area}
use Rattle.stripe_header.specs.declared.area.Side.{Side}
use Rattle.stripe_header.specs.declared.states.CopyState.{CopyState}
use Rattle.stripe_header.specs.Layout.{body_blocks, body_of}
use Rattle.stripe_header.specs.Spelling.{may_say}
use Rattle.dir_table.specs.declared.rows.StoredRow.{StoredRow}
use Rattle.logged_disk.specs.Device.{DeviceState as Device}
use Rattle.dir_sync.specs.Laws.{Halts, begun_pass, past_done}
use Rattle.dir_sync.specs.RunState.{RunState}
use Rattle.dir_sync.specs.Runs.{IsBegun, directory_in, spelled_body}
use Rattle.dir_sync.specs.SyncCalls.{body_calls, is_last, last_calls, opening_calls, part_of, past_behind, shutting_calls}
use Rattle.stripe_copies.specs.declared.copies.SyncStop.{SyncStop}
use Rattle.stripe_copies.specs.Format.{Goes}
use Rattle.stripe_copies.specs.Copies.{CopiesState, IsBodyOf, IsBrokenOff, IsImageOf, IsSynced, Opening, Shutting, StopsAt, Writing, sync_calls, target_of, writing_calls}
use Rattle.stripe_copies.proofs.Going.{IsWriting, stopped_behind, stopped_counts, stopped_more}

-- ---- calls that went

pub behind_went : (calls old new : List Call) → new ≡ past_behind calls old → Went calls old new
behind_went [] old new is = is
behind_went (call ∷ calls) old new is = behind_went calls (call ∷ old) new is

pub behind_both : (calls more old : List Call) → past_behind (calls ++ more) old ≡ past_behind more (past_behind calls old)
behind_both [] more old = refl
behind_both (call ∷ calls) more old = behind_both calls more (call ∷ old)

-- none of them is counted
pub none_failed : (calls old : List Call) → AllByRecursion IsWriting calls → faults_of (past_behind calls old) ≡ faults_of old
unfolding faults_of
none_failed [] old all = refl
none_failed (Wrote at bytes ∷ calls) old all = none_failed calls (Wrote at bytes ∷ old) all.1
none_failed (Synced ∷ calls) old all = none_failed calls (Synced ∷ old) all.1
none_failed (_ ∷ calls) old all = absurd all.0

pub all_writing : (a : Area) (side : Side) (shut : Bool) (body : List ℕ) → AllByRecursion IsWriting (sync_calls a side shut body)
all_writing a side true body = (tt, (tt, (tt, (tt, (tt, tt)))))
all_writing a side false body = (tt, (tt, (tt, (tt, (tt, (tt, tt))))))

-- ---- a whole body

module _ (a : Area) (side : Side) (body : List ℕ) (whole : length body ≡ 512 * body_blocks a) where
  abbrev n : ℕ
  n = body_blocks a - 0

  last : is_last a begun_pass n ≡ true
  last = grind arith

  part : part_of body 0 n ≡ body
  part = take_all (512 * n) body (omega (arith, whole))

  body_whole : body_calls a side body begun_pass n ≡ writing_calls a side body
  body_whole =
      let at : body_of a side + 0 ≡ body_of a side = omega arith in
      ap (λ b. Wrote (body_of a side + 0) (part_of body 0 n) ∷ (if b then Synced ∷ [] else [])) last
      ∙ (ap (λ k. Wrote k (part_of body 0 n) ∷ Synced ∷ []) at
      ∙ ap (λ l. Wrote (body_of a side) l ∷ Synced ∷ []) part)

  last_whole : last_calls a side begun_pass n ≡ opening_calls side
  last_whole = ap (λ b. if b then opening_calls side else []) last

  done_whole : (mid : List Call) → past_done a side body begun_pass n mid ≡ past_behind (opening_calls side) (past_behind (writing_calls a side body) mid)
  done_whole mid =
      ap (λ calls. past_behind calls (past_behind (body_calls a side body begun_pass n) mid)) last_whole
      ∙ ap (λ calls. past_behind (opening_calls side) (past_behind calls mid)) body_whole

  module _ (shut : Bool) (old mid : List Call) (begun : mid ≡ past_behind (shutting_calls side shut) old) where
    pub done_all : past_done a side body begun_pass n mid ≡ past_behind (sync_calls a side shut body) old
    done_all =
        done_whole mid
        ∙ (ap (λ l. past_behind (opening_calls side) (past_behind (writing_calls a side body) l)) begun
        ∙ sym (behind_both (shutting_calls side shut) (writing_calls a side body ++ opening_calls side) old))

    pub stops_somewhere : (stop : SyncStop) (known : Bool) (new : List Call) → stop.durable ≡ true
        → Halts a side body begun_pass n stop.count known mid new → StopsAt a side shut body stop known old new
    stops_somewhere stop known new durable (inl stopped) = absurd stopped.0
    stops_somewhere stop known new durable (inr (inl stopped)) =
        Writing (subst (λ l. Stopped (writing_calls a side body) stop.count l new) begun
        (subst (λ calls. Stopped calls stop.count mid new) body_whole stopped.0)) durable stopped.1
    stops_somewhere stop known new durable (inr (inr stopped)) =
        let there : past_behind (body_calls a side body begun_pass n) mid ≡ past_behind (shutting_calls side shut ++ writing_calls a side body) old =
        ap (λ calls. past_behind calls mid) body_whole
        ∙ (ap (past_behind (writing_calls a side body)) begun ∙ sym (behind_both (shutting_calls side shut) (writing_calls a side body) old)) in
        Opening (subst (λ l. Stopped (opening_calls side) stop.count l new) there
        (subst (λ calls. Stopped calls stop.count (past_behind (body_calls a side body begun_pass n) mid) new) last_whole stopped.0)) durable stopped.1

-- ---- a run that was begun

-- the run that was begun
abbrev pub run_begun : Area → Side → CopyState → List ℕ → RunState
run_begun a side s body = record { area = a; side = side; state = s; body = spelled_body a s body; progress = begun_pass }

pub begun_is : (a : Area) (side : Side) (s : CopyState) (body : List ℕ) (run : RunState) → IsBegun a side s body run → run ≡ run_begun a side s body
begun_is a side s body run is = λ i. record {
  area = is.area i;
  side = is.side i;
  state = is.state i;
  body = is.spelled i;
  progress = is.progress i;
}

-- ---- a sync that was broken off

pub stops_all : (a : Area) (side : Side) (shut : Bool) (body : List ℕ) (stop : SyncStop) (known : Bool) (old new : List Call)
    → StopsAt a side shut body stop known old new → Stopped (sync_calls a side shut body) stop.count old new
stops_all a side shut body stop known old new (Shutting stopped durable same) =
    stopped_more (shutting_calls side shut) (writing_calls a side body ++ opening_calls side) stop.count old new stopped
stops_all a side shut body stop known old new (Writing stopped durable same) =
    let one = shutting_calls side shut in
    stopped_behind one (writing_calls a side body ++ opening_calls side) stop.count old (past_behind one old) new
    (behind_went one old (past_behind one old) refl)
    (stopped_more (writing_calls a side body) (opening_calls side) stop.count (past_behind one old) new stopped)
stops_all a side shut body stop known old new (Opening stopped durable same) =
    let one = shutting_calls side shut in
    let two = writing_calls a side body in
    let mid = past_behind one old in
    stopped_behind one (two ++ opening_calls side) stop.count old mid new (behind_went one old mid refl)
    (stopped_behind two (opening_calls side) stop.count mid (past_behind two mid) new (behind_went two mid (past_behind two mid) refl)
    (subst (λ l. Stopped (opening_calls side) stop.count l new) (behind_both one two old) stopped))

-- a body that was spelled around the image of a directory
spelled_of : (a : Area) (s : CopyState) (rows : List StoredRow) (body : List ℕ) → IsTrue (may_say a.geometry s)
    → IsImageOf a.geometry s.cursor rows (directory_in body) → IsBodyOf a.geometry s rows (spelled_body a s body)
spelled_of a s rows body says image = record {
  image = directory_in body;
  of = image;
  copy = record { says = says; of_version = inl refl; spelled = refl };
}

module _ (k : CopiesState) (s : CopyState) (rows : List StoredRow) (body : List ℕ) (says : IsTrue (may_say k.area.geometry s))
    (image : IsImageOf k.area.geometry s.cursor rows (directory_in body)) (target : Side) (is : target ≡ target_of k) (old new : Device) where
  pub was_synced : Goes (sync_calls k.area target k.shut (spelled_body k.area s body)) old new → IsSynced k s rows old new
  was_synced made = record {
    body = spelled_body k.area s body;
    of = spelled_of k.area s rows body says image;
    made = subst (λ (x : Side). Goes (sync_calls k.area x k.shut (spelled_body k.area s body)) old new) is made;
  }

  module _ (stop : SyncStop) (shut : Bool) (stopped : StopsAt k.area target k.shut (spelled_body k.area s body) stop shut old.past new.past) where
    all_stopped : Stopped (sync_calls k.area target k.shut (spelled_body k.area s body)) stop.count old.past new.past
    all_stopped = stops_all k.area target k.shut (spelled_body k.area s body) stop shut old.past new.past stopped

    pub was_broken_off : stop.count ≡ new.faults → new.faults ≡ faults_of new.past → IsBrokenOff k s rows stop shut old new
    was_broken_off counted faults =
        let some = stopped_counts (sync_calls k.area target k.shut (spelled_body k.area s body)) stop.count old.past new.past
        (all_writing k.area target k.shut (spelled_body k.area s body)) all_stopped in
        record {
          body = spelled_body k.area s body;
          of = spelled_of k.area s rows body says image;
          stopped = subst (λ (x : Side). StopsAt k.area x k.shut (spelled_body k.area s body) stop shut old.past new.past) is stopped;
          counted = counted;
          some = omega (arith, some, counted, faults);
        }
