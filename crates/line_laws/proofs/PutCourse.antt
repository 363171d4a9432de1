-- How what is asked of a put goes: it is completed, it is given up for a reason, or it stays open.
use Rattle.std.proofs.Common.{◌≡◌, ℕ, zero, suc, ◌+◌, Bool, true, false, length, take, drop, List, [], ◌∷◌, ◌++◌, refl, sym, ◌∙◌, ap, subst}
use Rattle.std.specs.Prelude.{Option, Some, None, filter, if◌then◌else◌, nat_le, ◌==◌}
use Rattle.std.specs.List.{AllByRecursion}
use Rattle.tape_base.specs.declared.keys.Key.{Key}
use Rattle.fragment_table.specs.Table.{made_row, total_length}
use Rattle.alternate_vector.specs.Alternates.{Stored}
use Rattle.cache_model.specs.declared.record.Rec.{Rec}
use Rattle.cache_model.specs.declared.record.Rec.TheVariants as rec
use Rattle.cache_model.specs.State.{State, PutRow, list_of_piece, most_fragments, vector_piece, Closed, GivenUp, Open, after_all, put_of, state_after, with_cut, with_writing}
use Rattle.cache_model.specs.Verdict.{cuts_of}
use Rattle.cache_model.specs.Permit.{Permit, Intent, Write, Fragment, Overflow, Weigh, Finish, Commit, GiveUp, End, Stays, Done, Fails, Work, Reason, Exhausted, Faulted, Lost, ManyFragments, TooLarge, is_cleanup, to_do, work_after}
use Rattle.cache_model.specs.Syncing
use Rattle.cache_model.specs.Syncing.{DoesSync, Unmarks, WhereDue}
use Rattle.cache_model.specs.Legal
use Rattle.cache_model.specs.Legal.{IsStep, Advances, Does, MayGrow, nothing, more, aborted_record}
use Rattle.cache_model.proofs.Found.{cuts_found, no_truth, none_is, number_of, same_some}
use Rattle.cache_model.proofs.Steps.{after_all-append, all_append, all_as}
use Rattle.script_run.specs.Asked.{close_intents, cut_intents}
use Rattle.script_run.proofs.Carried.{all_filter}
use Rattle.script_run.proofs.Changed.{Changes, Was, changed, changed_from, changed_to, either, itself}
use Rattle.script_run.proofs.Ended.{IsNotOpen}
use Rattle.line_laws.proofs.PutEnds.{AbortsBy, CommitsBy, EndsBy, OpensBy, group_ends}

-- of this put, whose key is such; more bytes than fit may be asked (O), a close (C), and that it is given up in any case (G)
module _ (n : ℕ) (Q : Key → Type 0) (O C G : Type 0) where
  -- ---- what is asked

  -- it is given up, and nothing else is asked
  abbrev pub IsGivingUp : Intent → Type 0
  IsGivingUp (GiveUp m) = (m ≡ n) × G
  IsGivingUp _ = ⊥

  abbrev pub AreGivingUp : List Intent → Type 0
  AreGivingUp is = AllByRecursion IsGivingUp is

  abbrev pub Asks : List Intent → Type 0
  Asks [] = Unit {0}
  Asks (Fragment m index payload ∷ is) = Asks is
  Asks (Overflow m ∷ is) = (m ≡ n) × (O × Asks is)
  Asks (Weigh m rest ∷ is) = (m ≡ n) × (C × Asks is)
  Asks (Finish m fragments ∷ is) = (m ≡ n) × (C × Asks is)
  Asks (Commit m ∷ is) = (m ≡ n) × (C × AreGivingUp is)
  Asks (_ ∷ is) = ⊥

  -- what a refusal leaves of it
  pub left_over : (is : List Intent) → Asks is → AreGivingUp (filter is_cleanup is)
  left_over [] a = tt
  left_over (Fragment m index payload ∷ is) a = left_over is a
  left_over (Overflow m ∷ is) a = left_over is a.1.1
  left_over (Weigh m rest ∷ is) a = left_over is a.1.1
  left_over (Finish m fragments ∷ is) a = left_over is a.1.1
  left_over (Commit m ∷ is) a = all_filter IsGivingUp is_cleanup is a.1.1
  left_over (_ ∷ is) a = absurd a

  -- ---- reasons

  -- why it may be refused
  abbrev IsReason : Reason → Type 0
  IsReason (ManyFragments m) = O
  IsReason (TooLarge m bytes) = C
  IsReason (Lost m index) = C
  IsReason Exhausted = Unit {0}
  IsReason (Faulted count) = Unit {0}
  IsReason _ = ⊥

  -- why it may be given up
  abbrev pub IsWhy : Reason → Type 0
  IsWhy (ManyFragments m) = O
  IsWhy (TooLarge m bytes) = C
  IsWhy (Lost m index) = C
  IsWhy Exhausted = G
  IsWhy (Faulted count) = G
  IsWhy _ = ⊥

  given_for : (why : Reason) → IsReason why → G → IsWhy why
  given_for (ManyFragments m) r g = r
  given_for (TooLarge m bytes) r g = r
  given_for (Lost m index) r g = r
  given_for Exhausted r g = g
  given_for (Faulted count) r g = g
  given_for _ r g = absurd r

  abbrev FailsSo : End → Type 0
  FailsSo (Fails why) = IsReason why
  FailsSo _ = Unit {0}

  synced_fails : (p : Permit) (s : State) (added : List Rec) (e : End) → DoesSync p WhereDue s added e → FailsSo (Legal.stays_behind e)
  synced_fails p s added e (Syncing.DoesSync.goes m) = tt
  synced_fails p s added e (Syncing.DoesSync.stops count m) = tt
  synced_fails p s added e (Syncing.DoesSync.empty m) = tt
  synced_fails p s added e (Syncing.DoesSync.empty_stops count m) = tt
  synced_fails p s added e (Syncing.DoesSync.stays count can first c) = tt
  synced_fails p s added e (Syncing.DoesSync.exhausted may high is) = tt
  synced_fails p s added e (Syncing.DoesSync.runs serial on quiet parts runs is) = no_truth (sym parts)

  unmarked_fails : (p : Permit) (s : State) (added : List Rec) (e : End) → Unmarks p s added e → FailsSo e
  unmarked_fails p s added e (Syncing.Unmarks.unmarks must below is) = tt
  unmarked_fails p s added e (Syncing.Unmarks.stays count must below c) = tt
  unmarked_fails p s added e (Syncing.Unmarks.stops count must below marked c is) = tt
  unmarked_fails p s added e (Syncing.Unmarks.exhausted must high is) = tt

  roomed_fails : (p : Permit) (s : State) (bytes : ℕ) (added : List Rec) (e : End) → Legal.MakesRoom p s bytes added e → FailsSo e
  roomed_fails p s bytes added e (Legal.MakesRoom.flushes x m) = tt
  roomed_fails p s bytes added e (Legal.MakesRoom.stops count x m) = tt
  roomed_fails p s bytes added e (Legal.MakesRoom.exhausted x q is) = tt
  roomed_fails p s bytes added e (Legal.MakesRoom.syncs end x d is) = subst FailsSo (sym is) (synced_fails p s added end d)

  group_fails : (p : Permit) (s : State) (i : Intent) (is : List Intent) (added : List Rec) (e : End) → Asks (i ∷ is) → Does p s i added e → FailsSo e
  group_fails p s (Fragment m index payload) is added e a (Legal.DoesFragment.places d x) = subst FailsSo (sym d) tt
  group_fails p s (Fragment m index payload) is added e a (Legal.DoesFragment.unmarks w x q u) = unmarked_fails p s added e u
  group_fails p s (Fragment m index payload) is added e a (Legal.DoesFragment.rooms w x r) = roomed_fails p s _ added e r
  group_fails p s (Fragment m index payload) is added e a (Legal.DoesFragment.exhausted w d x q) = subst FailsSo (sym d) tt
  group_fails p s (Overflow m) is added e a (Legal.DoesOverflow.aborts w q l x) = a.1.0
  group_fails p s (Weigh m rest) is added e a (Legal.DoesWeigh.weighs w q r f x) = tt
  group_fails p s (Weigh m rest) is added e a (Legal.DoesWeigh.too_large w q r f x) = a.1.0
  group_fails p s (Weigh m rest) is added e a (Legal.DoesWeigh.damaged w row found q live d x) = tt
  group_fails p s (Weigh m rest) is added e a (Legal.DoesWeigh.faulted w row count q live r c x) = tt
  group_fails p s (Finish m fragments) is added e a (Legal.DoesFinish.places d x) = subst FailsSo (sym d) tt
  group_fails p s (Finish m fragments) is added e a (Legal.DoesFinish.unmarks w c l q u) = unmarked_fails p s added e u
  group_fails p s (Finish m fragments) is added e a (Legal.DoesFinish.rooms w c r) = roomed_fails p s _ added e r
  group_fails p s (Finish m fragments) is added e a (Legal.DoesFinish.loses w index d l x) = subst FailsSo (sym d) a.1.0
  group_fails p s (Finish m fragments) is added e a (Legal.DoesFinish.exhausted w d c l q) = subst FailsSo (sym d) tt
  group_fails p s (Commit m) is added e a (Legal.DoesCommit.commits w f o q x) = tt
  group_fails p s _ is added e a does = absurd a

  -- ---- the put's key

  abbrev pub IsKeyed : State → Type 0
  IsKeyed s = (w : PutRow) → put_of s n ≡ Some w → Q w.key

  abbrev OpensNone : Rec → Type 0
  OpensNone (rec.WriteOpened who put key request response pin) = ⊥
  OpensNone _ = Unit {0}

  keyed_changed : (s t : State) (m : ℕ) (f : PutRow → PutRow) → Changes s t m f → ((p : PutRow) → (f p).key ≡ p.key) → IsKeyed s → IsKeyed t
  keyed_changed s t m f c same keyed w found =
      let was : Was (put_of s n) (changed m f) w = changed_from s t m f n w c found in
      let key : w.key ≡ was.old.key = ap (λ (p : PutRow). p.key) was.is ∙ either (λ (p : PutRow). p.key ≡ was.old.key) m f was.old (λ e. same was.old) refl in
      subst Q (sym key) (keyed was.old was.found)

  keyed_one : (s : State) (r : Rec) → OpensNone r → IsKeyed s → IsKeyed (state_after s r)
  keyed_one s (rec.Formatted geometry) none keyed = λ w found. none_is found
  keyed_one s (rec.Opened geometry serial cursor floor next_put clean list) none keyed = λ w found. none_is found
  keyed_one s (rec.WriteOpened who put key request response pin) none keyed = absurd none
  keyed_one s (rec.Cut put index length digest) none keyed =
      keyed_changed s (state_after s (rec.Cut put index length digest)) put (with_cut (made_row length digest.0)) (record { puts = refl; keeps = λ p. refl }) (λ p. refl) keyed
  keyed_one s (rec.Committed put key bytes list) none keyed =
      keyed_changed s (state_after s (rec.Committed put key bytes list)) put (with_writing Closed) (record { puts = refl; keeps = λ p. refl }) (λ p. refl) keyed
  keyed_one s (rec.Aborted put key) none keyed =
      keyed_changed s (state_after s (rec.Aborted put key)) put (with_writing GivenUp) (record { puts = refl; keeps = λ p. refl }) (λ p. refl) keyed
  keyed_one s _ none keyed = keyed

  keyed_all : (s : State) (recs : List Rec) → AllByRecursion OpensNone recs → IsKeyed s → IsKeyed (after_all s recs)
  keyed_all s [] none keyed = keyed
  keyed_all s (r ∷ recs) none keyed = keyed_all (state_after s r) recs none.1 (keyed_one s r none.0 keyed)

  -- ---- what records tell

  pub record Completed (t : State) (why : Option Reason) (put : ℕ) (key : Key) (size : ℕ) : Type 0 where
    pub closes : C
    pub put_is : put ≡ n
    pub keyed : Q key
    pub allowed : why ≡ None
    pub sized : total_length (cuts_of t n) ≡ size

  pub record GivenUpFor (why : Option Reason) (put : ℕ) (key : Key) : Type 0 where
    pub put_is : put ≡ n
    pub keyed : Q key
    pub reason : Reason
    pub is : why ≡ Some reason
    pub fits : IsWhy reason

  abbrev pub Told : State → Option Reason → Rec → Type 0
  Told t why (rec.Committed put key size list) = Completed t why put key size
  Told t why (rec.Aborted put key) = GivenUpFor why put key
  Told t why _ = Unit {0}

  -- a group that does not complete it gives it up at most, as it is refused
  abbrev IsOf : End → Rec → Type 0
  IsOf e (rec.WriteOpened who put key request response pin) = ⊥
  IsOf e (rec.Committed put key size list) = ⊥
  IsOf e (rec.Aborted put key) = (put ≡ n) × (Q key × ((reason : Reason) × ((e ≡ Fails reason) × IsWhy reason)))
  IsOf e _ = Unit {0}

  opens_none : (e : End) (r : Rec) → IsOf e r → OpensNone r
  opens_none e (rec.WriteOpened who put key request response pin) h = h
  opens_none e _ h = tt

  told_of : (t : State) (why : Option Reason) (e : End) (r : Rec) → ((reason : Reason) → e ≡ Fails reason → why ≡ Some reason) → IsOf e r → Told t why r
  told_of t why e (rec.WriteOpened who put key request response pin) f h = tt
  told_of t why e (rec.Committed put key size list) f h = absurd h
  told_of t why e (rec.Aborted put key) f h = record { put_is = h.0; keyed = h.1.0; reason = h.1.1.0; is = f h.1.1.0 h.1.1.1.0; fits = h.1.1.1.1 }
  told_of t why e _ f h = tt

  -- ---- what only gives up

  abbrev pub IsGivenUp : Rec → Type 0
  IsGivenUp (rec.WriteOpened who put key request response pin) = ⊥
  IsGivenUp (rec.Committed put key size list) = ⊥
  IsGivenUp (rec.Aborted put key) = (put ≡ n) × (Q key × G)
  IsGivenUp _ = Unit {0}

  given_opens_none : (r : Rec) → IsGivenUp r → OpensNone r
  given_opens_none (rec.WriteOpened who put key request response pin) h = h
  given_opens_none _ h = tt

  told_given : (t : State) (why : Reason) (r : Rec) → IsReason why → IsGivenUp r → Told t (Some why) r
  told_given t why (rec.WriteOpened who put key request response pin) reason h = tt
  told_given t why (rec.Committed put key size list) reason h = absurd h
  told_given t why (rec.Aborted put key) reason h = record { put_is = h.0; keyed = h.1.0; reason = why; is = refl; fits = given_for why reason h.1.1 }
  told_given t why _ reason h = tt

  gives_up : (p : Permit) (s : State) (i : Intent) (added : List Rec) (e : End) → IsGivingUp i → IsKeyed s → Does p s i added e → (e ≡ Done) × AllByRecursion IsGivenUp added
  gives_up p s (GiveUp m) added e g keyed (Legal.DoesGiveUp.aborts w q is) =
      let found : put_of s n ≡ Some w = subst (λ k. put_of s k ≡ Some w) g.0 q.found in
      (refl, subst (AllByRecursion IsGivenUp) (sym is) ((number_of s n w found, (keyed w found, g.1)), tt))
  gives_up p s (GiveUp m) added e g keyed (Legal.DoesGiveUp.over q o is) = (refl, subst (AllByRecursion IsGivenUp) (sym is) tt)
  gives_up p s _ added e g keyed does = absurd g

  -- it stays refused as it was
  record GoesOn (added : List Rec) (why : Option Reason) (between : Work) : Type 0 where
    given : AllByRecursion IsGivenUp added
    refused : between.refused ≡ why
    left : AreGivingUp between.intents

  gives_first : (p : Permit) (s : State) (is : List Intent) (why : Option Reason) (added : List Rec) (between : Work) → AreGivingUp is → IsKeyed s → Advances p s is why added between → GoesOn added why between
  gives_first p s [] why added between g keyed a = absurd a
  gives_first p s (i ∷ is) why added between g keyed a =
      let one = gives_up p s i added a.0 g.0 keyed a.1 in
      let behind : between ≡ record { intents = is; refused = why } = a.2 ∙ ap (work_after i is why) one.0 in
      record { given = one.1; refused = ap (λ (w : Work). w.refused) behind; left = subst (λ (w : Work). AreGivingUp w.intents) (sym behind) g.1 }

  pub all_given : {p : Permit} {s : State} {w after : Work} {recs : List Rec} → AreGivingUp w.intents → IsKeyed s → MayGrow p s w recs after
      → (after.refused ≡ w.refused) × AllByRecursion IsGivenUp recs
  all_given g keyed nothing = (refl, tt)
  all_given {p} {s} {w} g keyed (more {rest = tail} added between one others) =
      let first : GoesOn added w.refused between = gives_first p s w.intents w.refused added between g keyed one in
      let rest = all_given first.left (keyed_all s added (all_as IsGivenUp OpensNone given_opens_none added first.given) keyed) others in
      (rest.0 ∙ first.refused, all_append IsGivenUp added tail first.given rest.1)

  -- a put that is not open is left
  left_alone : (p : Permit) (s : State) (i : Intent) (added : List Rec) (e : End) → IsGivingUp i → IsNotOpen s n → Does p s i added e → (e ≡ Done) × (added ≡ [])
  left_alone p s (GiveUp m) added e g not (Legal.DoesGiveUp.aborts w q is) = absurd (not w (subst (λ k. put_of s k ≡ Some w) g.0 q.found) q.is_open)
  left_alone p s (GiveUp m) added e g not (Legal.DoesGiveUp.over q o is) = (refl, is)
  left_alone p s _ added e g not does = absurd g

  record GoesOnSo (added : List Rec) (why : Option Reason) (between : Work) : Type 0 where
    none : added ≡ []
    refused : between.refused ≡ why
    left : AreGivingUp between.intents

  left_first : (p : Permit) (s : State) (is : List Intent) (why : Option Reason) (added : List Rec) (between : Work) → AreGivingUp is → IsNotOpen s n → Advances p s is why added between → GoesOnSo added why between
  left_first p s [] why added between g not a = absurd a
  left_first p s (i ∷ is) why added between g not a =
      let one = left_alone p s i added a.0 g.0 not a.1 in
      let behind : between ≡ record { intents = is; refused = why } = a.2 ∙ ap (work_after i is why) one.0 in
      record { none = one.1; refused = ap (λ (w : Work). w.refused) behind; left = subst (λ (w : Work). AreGivingUp w.intents) (sym behind) g.1 }

  pub none_given : {p : Permit} {s : State} {w after : Work} {recs : List Rec} → AreGivingUp w.intents → IsNotOpen s n → MayGrow p s w recs after → (after.refused ≡ w.refused) × (recs ≡ [])
  none_given g not nothing = (refl, refl)
  none_given {p} {s} {w} g not (more {rest = tail} added between one others) =
      let first : GoesOnSo added w.refused between = left_first p s w.intents w.refused added between g not one in
      let rest = none_given first.left (subst (λ recs. IsNotOpen (after_all s recs) n) (sym first.none) not) others in
      (rest.0 ∙ first.refused, ap (λ recs. recs ++ tail) first.none ∙ rest.1)

  -- ---- each group

  -- what a group leaves: more is asked, it was refused, or the put is completed
  data Next (s : State) (added : List Rec) (between : Work) : Type 0 where
    goes : (e : End) → ((reason : Reason) → e ≡ Fails reason → ⊥) → AllByRecursion (IsOf e) added → between.refused ≡ None → Asks between.intents → Next s added between
    stops : (why : Reason) → IsReason why → AllByRecursion (IsOf (Fails why)) added → between.refused ≡ Some why → AreGivingUp between.intents → Next s added between
    commits : (key : Key) (size : ℕ) (list : List Stored) → C → Q key → added ≡ rec.Committed n key size list ∷ [] → total_length (cuts_of (after_all s added) n) ≡ size
        → IsNotOpen (after_all s added) n → between.refused ≡ None → AreGivingUp between.intents → Next s added between

  pub completes : (s : State) (w : PutRow) (size : ℕ) (list : List Stored) → put_of s n ≡ Some w
      → (total_length (cuts_of (state_after s (rec.Committed n w.key size list)) n) ≡ total_length w.cuts) × IsNotOpen (state_after s (rec.Committed n w.key size list)) n
  completes s w size list found =
      let f : PutRow → PutRow = with_writing Closed in
      let t : State = state_after s (rec.Committed n w.key size list) in
      let now : put_of t n ≡ Some (f w) = changed_to s t n f n w (record { puts = refl; keeps = λ p. refl }) found ∙ ap Some (itself n f w (number_of s n w found)) in (
        ap total_length (cuts_found t n (f w) now),
        λ x there is_open. let both : f w ≡ x = same_some (f w) x (put_of t n) now there in let other : Closed ≡ Open = ap (λ (y : PutRow). y.writing) both ∙ is_open in cc,
      )

  abbrev IsNoCommit : Intent → Type 0
  IsNoCommit (Commit m) = ⊥
  IsNoCommit _ = Unit {0}

  asks_rest : (i : Intent) (is : List Intent) → IsNoCommit i → Asks (i ∷ is) → Asks is
  asks_rest (Fragment m index payload) is none a = a
  asks_rest (Overflow m) is none a = a.1.1
  asks_rest (Weigh m rest) is none a = a.1.1
  asks_rest (Finish m fragments) is none a = a.1.1
  asks_rest (Commit m) is none a = absurd none
  asks_rest _ is none a = absurd a

  opens_never : (key : Key) (i : Intent) (is : List Intent) → Asks (i ∷ is) → OpensBy key i → ⊥
  opens_never key (Write actor k request response pin) is a by = a
  opens_never key _ is a by = by

  commits_never : (put : ℕ) (i : Intent) → IsNoCommit i → CommitsBy put i → ⊥
  commits_never put (Commit m) none by = none
  commits_never put _ none by = by

  aborts_for : (put : ℕ) (i : Intent) (is : List Intent) (e : End) → Asks (i ∷ is) → AbortsBy put i e → (put ≡ n) × ((reason : Reason) × ((e ≡ Fails reason) × IsWhy reason))
  aborts_for put (Overflow m) is e a by = (sym by.0 ∙ a.0, (ManyFragments m, (by.1, a.1.0)))
  aborts_for put (Weigh m rest) is e a by = (sym by.0 ∙ a.0, (TooLarge m by.1.0, (by.1.1, a.1.0)))
  aborts_for put (Finish m fragments) is e a by = (sym by.0 ∙ a.0, (Lost m by.1.0, (by.1.1, a.1.0)))
  aborts_for put (GiveUp m) is e a by = absurd a
  aborts_for put _ is e a by = absurd by

  is_of : (s : State) (i : Intent) (is : List Intent) (e : End) (r : Rec) → IsNoCommit i → Asks (i ∷ is) → IsKeyed s → EndsBy s i e r → IsOf e r
  is_of s i is e (rec.WriteOpened who put key request response pin) none a keyed by = opens_never key i is a by
  is_of s i is e (rec.Committed put key size list) none a keyed by = commits_never put i none by.0
  is_of s i is e (rec.Aborted put key) none a keyed by =
      let h = aborts_for put i is e a by.0 in
      (h.0, (subst Q by.1.2 (keyed by.1.0 (subst (λ k. put_of s k ≡ Some by.1.0) h.0 by.1.1)), h.1))
  is_of s i is e _ none a keyed by = tt

  behind_group : (s : State) (i : Intent) (is : List Intent) (added : List Rec) (e : End) → IsNoCommit i → Asks (i ∷ is) → FailsSo e → AllByRecursion (IsOf e) added → Next s added (work_after i is None e)
  behind_group s i is added Stays none a fails of = goes Stays (λ reason h. cc) of refl a
  behind_group s i is added Done none a fails of = goes Done (λ reason h. cc) of refl (asks_rest i is none a)
  behind_group s i is added (Fails why) none a fails of = stops why fails of refl (left_over is (asks_rest i is none a))

  behind_commit : (s : State) (m : ℕ) (is : List Intent) (added : List Rec) (e : End) → Asks (Commit m ∷ is) → IsKeyed s → Legal.DoesCommit s m added e → Next s added (work_after (Commit m) is None e)
  behind_commit s m is added e a keyed (Legal.DoesCommit.commits w f o q x) =
      let found : put_of s n ≡ Some w = subst (λ k. put_of s k ≡ Some w) a.0 f in
      let list : List Stored = list_of_piece s (vector_piece w.key m) in
      let size : ℕ = total_length w.cuts in
      let adds : added ≡ rec.Committed n w.key size list ∷ [] = x ∙ ap (λ k. rec.Committed k w.key size list ∷ []) a.0 in
      let all = completes s w size list found in
      commits w.key size list a.1.0 (keyed w found) adds (subst (λ recs. total_length (cuts_of (after_all s recs) n) ≡ size) (sym adds) all.0)
      (subst (λ recs. IsNotOpen (after_all s recs) n) (sym adds) all.1) refl a.1.1

  next_of : (p : Permit) (s : State) (i : Intent) (is : List Intent) (added : List Rec) (e : End) → Asks (i ∷ is) → IsKeyed s → Does p s i added e → Next s added (work_after i is None e)
  next_of p s (Commit m) is added e a keyed does = behind_commit s m is added e a keyed does
  next_of p s i is added e a keyed does =
      behind_group s i is added e tt a (group_fails p s i is added e a does) (all_as (EndsBy s i e) (IsOf e) (λ r by. is_of s i is e r tt a keyed by) added (group_ends p s i added e does))

  next_first : (p : Permit) (s : State) (is : List Intent) (added : List Rec) (between : Work) → Asks is → IsKeyed s → Advances p s is None added between → Next s added between
  next_first p s [] added between a keyed one = absurd one
  next_first p s (i ∷ is) added between a keyed one = subst (Next s added) (sym one.2) (next_of p s i is added one.0 a keyed one.1)

  -- ---- along a step

  along : {p : Permit} {s : State} {w after : Work} {recs : List Rec} → w.refused ≡ None → Asks w.intents → IsKeyed s → MayGrow p s w recs after → AllByRecursion (Told (after_all s recs) after.refused) recs
  along r a keyed nothing = tt
  along {p} {s} {w} {after} r a keyed (more {rest = tail} added between one others) =
      let t : State = after_all s (added ++ tail) in
      let why : Option Reason = after.refused in
      let same : t ≡ after_all (after_all s added) tail = after_all-append s added tail in
      elim (next_first p s w.intents added between a keyed (subst (λ x. Advances p s w.intents x added between) r one)) [
        | goes e not of refused asks ↦
            all_append (Told t why) added tail
            (all_as (IsOf e) (Told t why) (λ x h. told_of t why e x (λ reason k. absurd (not reason k)) h) added of)
            (subst (λ x. AllByRecursion (Told x why) tail) (sym same) (along refused asks (keyed_all s added (all_as (IsOf e) OpensNone (opens_none e) added of) keyed) others))
        | stops reason is of refused giving ↦
            let rest = all_given giving (keyed_all s added (all_as (IsOf (Fails reason)) OpensNone (opens_none (Fails reason)) added of) keyed) others in
            let final : why ≡ Some reason = rest.0 ∙ refused in
            all_append (Told t why) added tail
            (all_as (IsOf (Fails reason)) (Told t why) (λ x h. told_of t why (Fails reason) x (λ other k. let here : reason ≡ other = cc in final ∙ ap Some here) h) added of)
            (subst (λ x. AllByRecursion (Told t x) tail) (sym final) (all_as IsGivenUp (Told t (Some reason)) (λ x h. told_given t reason x is h) tail rest.1))
        | commits key size list c q is sized not refused giving ↦
            let rest = none_given giving not others in
            let here : t ≡ after_all s added = same ∙ ap (after_all (after_all s added)) rest.1 in
            all_append (Told t why) added tail
            (subst (AllByRecursion (Told t why)) (sym is)
            (record { closes = c; put_is = refl; keyed = q; allowed = rest.0 ∙ refused; sized = subst (λ x. total_length (cuts_of x n) ≡ size) (sym here) sized }, tt))
            (subst (AllByRecursion (Told t why)) (sym rest.1) tt)
      ]

  -- what is recorded of the put, by why the step was refused
  pub course : {p : Permit} {s : State} {is : List Intent} {recs : List Rec} {why : Option Reason} → Asks is → IsKeyed s → MayGrow p s (to_do is) recs (record { intents = []; refused = why })
      → AllByRecursion (Told (after_all s recs) why) recs
  course a keyed grows = along refl a keyed grows

  -- ---- what lines ask

  cut_by : (cut : ℕ) (payload : List ℕ) (rest last : List Intent) (over whole : Bool) → O → Asks last → Asks (rest ++ last)
      → Asks ((if over then Overflow n ∷ [] else if whole then Fragment n (cut + 1) payload ∷ rest else []) ++ last)
  cut_by cut payload rest last true whole o h k = (refl, (o, h))
  cut_by cut payload rest last false true o h k = k
  cut_by cut payload rest last false false o h k = h

  pub cuts_asked : (most fragment cut : ℕ) (bytes : List ℕ) (last : List Intent) → O → Asks last → Asks (cut_intents most fragment n cut bytes ++ last)
  cuts_asked zero fragment cut bytes last o h = h
  cuts_asked (suc most) fragment cut [] last o h = h
  cuts_asked (suc most) fragment cut (byte ∷ bytes) last o h =
      cut_by cut (take fragment (byte ∷ bytes)) (cut_intents most fragment n (cut + 1) (drop fragment (byte ∷ bytes))) last
      (cut == most_fragments) (nat_le fragment (length (byte ∷ bytes))) o h (cuts_asked most fragment (cut + 1) (drop fragment (byte ∷ bytes)) last o h)

  pub close_asked : (cut : ℕ) (rest : List ℕ) (last : List Intent) → C → AreGivingUp last → Asks (close_intents n cut rest ++ last)
  close_asked cut [] last c g = (refl, (c, (refl, (c, (refl, (c, g))))))
  close_asked cut (byte ∷ bytes) last c g = (refl, (c, (refl, (c, (refl, (c, g))))))
