-- What is told of a put that is complete: the bytes that its writer took, and the fragments that hold them.
use Rattle.std.proofs.Common.{◌≡◌, ℕ, ◌-◌, ◌*◌, ◌<◌, ◌≤◌, List, [], ◌∷◌, ◌++◌, length, refl, sym, ◌∙◌, ap, subst, arith, inl, inr, ◌⊎◌}
use Rattle.std.specs.Prelude.{min, Option, Some, None}
use Rattle.tape_base.specs.declared.keys.Key.{Key}
use Rattle.fragment_table.specs.Table.{TableRow, total_length}
use Rattle.alternate_vector.specs.Field.{Field}
use Rattle.cache_model.specs.declared.record.Rec.{Rec}
use Rattle.cache_model.specs.declared.record.Rec.TheVariants as rec
use Rattle.cache_model.specs.State.{State, PutRow, Open, Closed, after_all, list_of_piece, put_of, state_after, vector_piece, with_writing}
use Rattle.cache_model.specs.Verdict.{cuts_of}
use Rattle.cache_model.specs.Permit.{Commit, Done, End, Exhausted, Fails, Faulted, GiveUp, Intent, Lost, ManyFragments, ManyWriters, NoSync, Permit, Reason, Stays, StillMoving, StillOpen, SyncRuns, TooLarge, Work, to_do, work_after}
use Rattle.cache_model.specs.Legal
use Rattle.cache_model.specs.Legal.{Advances, Does, IsStep, MayGrow, nothing, more}
use Rattle.cache_model.proofs.Found.{cuts_found, none_is, number_of, same_some}
use Rattle.cache_model.proofs.Steps.{after_all-append, alone, none_left}
use Rattle.script_grammar.specs.declared.answer.StepAnswer.TheVariants as answer
use Rattle.script_grammar.specs.declared.line.LineAnswer.TheVariants as line
use Rattle.script_grammar.specs.declared.step.Step.{Step}
use Rattle.script_grammar.specs.declared.step.Step.TheVariants as step
use Rattle.script_run.specs.Run.{Run, fresh, gathered_of, put_written_by}
use Rattle.script_run.specs.Asked
use Rattle.script_run.specs.Asked.{body_intents, close_intents, closing, feed_intents, put_intents, rest_behind, rest_intents, whole_fragments}
use Rattle.script_run.specs.Turn.{Turn}
use Rattle.script_run.specs.Answers.{if_has, put_said, refusal_said, said, step_said}
use Rattle.script_run.specs.Behind.{after_step, behind, in_session}
use Rattle.script_run.specs.Own.{AreCuts, ArePayloadsOwn, IsOwnPut, piece_of}
use Rattle.script_run.specs.Takes.{IsRun, StepTakes, Takes, run_after}
use Rattle.script_run.proofs.Changed.{changed_to, itself}
use Rattle.script_run.proofs.Cuts.{length-piece, total_cuts}
use Rattle.line_laws.specs.Laws
use Rattle.line_laws.specs.Laws.{AnswersPutComplete, IsMeasured}
use Rattle.line_laws.proofs.Standing.{KeepsIn, OfKept, keeps_after, reading_keeps}

-- ---- where nothing is refused, all that is asked is done

-- behind some others this is asked, and then these
abbrev Leads : Intent → List Intent → List Intent → Type 0
Leads i last [] = ⊥
Leads i last (j ∷ is) = ((j ≡ i) × (is ≡ last)) ⊎ Leads i last is

leads_behind : (i : Intent) (last before is : List Intent) → Leads i last is → Leads i last (before ++ is)
leads_behind i last [] is h = h
leads_behind i last (j ∷ before) is h = inr (leads_behind i last before is h)

leads_on : (i : Intent) (last is further : List Intent) → Leads i last is → Leads i (last ++ further) (is ++ further)
leads_on i last [] further h = absurd h
leads_on i last (j ∷ is) further (inl here) = inl (here.0, ap (λ (xs : List Intent). xs ++ further) here.1)
leads_on i last (j ∷ is) further (inr h) = inr (leads_on i last is further h)

-- what was refused stays so
allowed_by : (i : Intent) (is : List Intent) (why : Option Reason) (e : End) → (work_after i is why e).refused ≡ None → why ≡ None
allowed_by i is why Stays h = h
allowed_by i is why Done h = h
allowed_by i is why (Fails reason) h = none_is (sym h)

allowed_first : (p : Permit) (s : State) (is : List Intent) (why : Option Reason) (added : List Rec) (between : Work) → Advances p s is why added between → between.refused ≡ None → why ≡ None
allowed_first p s [] why added between one h = absurd one
allowed_first p s (i ∷ is) why added between one h = allowed_by i is why one.0 (ap (λ (w : Work). w.refused) (sym one.2) ∙ h)

allowed_before : {p : Permit} {s : State} {w after : Work} {recs : List Rec} → MayGrow p s w recs after → after.refused ≡ None → w.refused ≡ None
allowed_before nothing h = h
allowed_before {p} {s} {w} (more added between one others) h = allowed_first p s w.intents w.refused added between one (allowed_before others h)

-- it was done, and then what was asked behind it
record IsDone (p : Permit) (s : State) (i : Intent) (last : List Intent) (recs : List Rec) : Type 0 where
  at : State
  added : List Rec
  rest : List Rec
  does : Does p at i added Done
  grows : MayGrow p (after_all at added) (to_do last) rest (to_do [])
  is : after_all s recs ≡ after_all (after_all at added) rest

-- a group leaves it to do, or has done it
abbrev IsNearer : Permit → State → Intent → List Intent → List Rec → Work → Type 0
IsNearer p s i last added between = Leads i last between.intents ⊎ (Does p s i added Done × (between ≡ to_do last))

nearer_by : (p : Permit) (s : State) (i : Intent) (last : List Intent) (j : Intent) (is : List Intent) (why : Option Reason) (added : List Rec) (e : End) (between : Work) → Leads i last (j ∷ is)
    → Does p s j added e → between ≡ work_after j is why e → between.refused ≡ None → IsNearer p s i last added between
nearer_by p s i last j is why added Stays between leads does left allowed = inl (subst (λ (w : Work). Leads i last w.intents) (sym left) leads)
nearer_by p s i last j is why added Done between (inr leads) does left allowed = inl (subst (λ (w : Work). Leads i last w.intents) (sym left) leads)
nearer_by p s i last j is why added Done between (inl here) does left allowed =
    let none : why ≡ None = sym (ap (λ (w : Work). w.refused) left) ∙ allowed in
    inr (subst (λ (k : Intent). Does p s k added Done) here.0 does, left ∙ rw (here.1, none) refl)
nearer_by p s i last j is why added (Fails reason) between leads does left allowed = none_is (sym allowed ∙ ap (λ (w : Work). w.refused) left)

nearer : (p : Permit) (s : State) (i : Intent) (last is : List Intent) (why : Option Reason) (added : List Rec) (between : Work) → Leads i last is → Advances p s is why added between
    → between.refused ≡ None → IsNearer p s i last added between
nearer p s i last [] why added between leads one allowed = absurd leads
nearer p s i last (j ∷ is) why added between leads one allowed = nearer_by p s i last j is why added one.0 between leads one.1 one.2 allowed

done_later : (p : Permit) (s : State) (i : Intent) (last : List Intent) (added tail : List Rec) → IsDone p (after_all s added) i last tail → IsDone p s i last (added ++ tail)
done_later p s i last added tail d = record { at = d.at; added = d.added; rest = d.rest; does = d.does; grows = d.grows; is = after_all-append s added tail ∙ d.is }

all_done : (i : Intent) (last : List Intent) {p : Permit} {s : State} {w after : Work} {recs : List Rec} → Leads i last w.intents → after ≡ to_do [] → MayGrow p s w recs after → IsDone p s i last recs
all_done i last leads ended nothing = absurd (subst (λ (w : Work). Leads i last w.intents) ended leads)
all_done i last {p} {s} {w} {after} leads ended (more {rest = tail} added between one others) =
    elim (nearer p s i last w.intents w.refused added between leads one (allowed_before others (ap (λ (x : Work). x.refused) ended))) [
      | inl on ↦ done_later p s i last added tail (all_done i last on ended others)
      | inr here ↦ record {
        at = s;
        added = added;
        rest = tail;
        does = here.0;
        grows = subst (MayGrow p (after_all s added) (to_do last) tail) ended (subst (λ (x : Work). MayGrow p (after_all s added) x tail after) here.1 others);
        is = after_all-append s added tail;
      }
    ]

-- ---- so a put is complete

-- the row of a put that is complete
record IsFoundClosed (t : State) (put : ℕ) : Type 0 where
  w : PutRow
  found : put_of t put ≡ Some w
  closed : w.writing ≡ Closed

commit_closes : (s : State) (put : ℕ) (added : List Rec) (e : End) → Legal.DoesCommit s put added e → IsFoundClosed (after_all s added) put
commit_closes s put added e (Legal.DoesCommit.commits w f o q is) =
    let t : State = state_after s (rec.Committed put w.key (total_length w.cuts) (list_of_piece s (vector_piece w.key put))) in
    subst (λ recs. IsFoundClosed (after_all s recs) put) (sym is) (record {
      w = with_writing Closed w;
      found = changed_to s t put (with_writing Closed) put w (record { puts = refl; keeps = λ p. refl }) f ∙ ap Some (itself put (with_writing Closed) w (number_of s put w f));
      closed = refl;
    })

-- a put is given up at once
stays_never : (s : State) (put : ℕ) (added : List Rec) (e : End) → Legal.DoesGiveUp s put added e → e ≡ Stays → ⊥
stays_never s put added e (Legal.DoesGiveUp.aborts w q is) h = cc
stays_never s put added e (Legal.DoesGiveUp.over q o is) h = cc

-- one that is complete is not
given_up_none : (s : State) (put : ℕ) (added : List Rec) (e : End) → IsFoundClosed s put → Legal.DoesGiveUp s put added e → added ≡ []
given_up_none s put added e c (Legal.DoesGiveUp.aborts w q is) =
    let both : Open ≡ Closed = sym q.is_open ∙ (ap (λ (x : PutRow). x.writing) (same_some w c.w (put_of s put) q.found c.found) ∙ c.closed) in
    absurd cc
given_up_none s put added e c (Legal.DoesGiveUp.over q o is) = is

-- what is asked behind the commit adds nothing
abbrev AddsNone : Permit → ℕ → List Intent → Type 0
AddsNone p put last = (s : State) (recs : List Rec) → IsFoundClosed s put → MayGrow p s (to_do last) recs (to_do []) → recs ≡ []

none_asked : (p : Permit) (put : ℕ) → AddsNone p put []
none_asked p put s recs c grows = (none_left p s None recs (to_do []) grows).0

give_up_asked : (p : Permit) (put : ℕ) → AddsNone p put (GiveUp put ∷ [])
give_up_asked p put s recs c grows =
    let does = alone p s (GiveUp put) recs None (stays_never s put) grows in
    given_up_none s put recs does.0 c does.1

closed_behind : (p : Permit) (s : State) (put : ℕ) (last is : List Intent) (recs : List Rec) → Leads (Commit put) last is → AddsNone p put last → MayGrow p s (to_do is) recs (to_do [])
    → IsFoundClosed (after_all s recs) put
closed_behind p s put last is recs leads none grows =
    let d : IsDone p s (Commit put) last recs = all_done (Commit put) last leads refl grows in
    let t : State = after_all d.at d.added in
    let c : IsFoundClosed t put = commit_closes d.at put d.added Done d.does in
    subst (λ x. IsFoundClosed x put) (sym (d.is ∙ ap (after_all t) (none t d.rest c d.grows))) c

close_leads : (put cut : ℕ) (rest : List ℕ) → Leads (Commit put) [] (close_intents put cut rest)
close_leads put cut rest = inr (leads_behind (Commit put) [] (rest_intents put cut rest) _ (inr (inl (refl, refl))))

put_leads : (s : State) (key : Key) (body : List ℕ) (request response : List Field) → Leads (Commit s.next_put) (GiveUp s.next_put ∷ []) (put_intents s key body request response)
put_leads s key body request response =
    let fragment : ℕ = s.geometry.fragment in
    let put : ℕ = s.next_put in
    inr (leads_on (Commit put) [] (body_intents fragment put body) (GiveUp put ∷ [])
    (leads_behind (Commit put) [] (feed_intents fragment put 0 body) _ (close_leads put (whole_fragments fragment body) (rest_behind fragment body))))

-- ---- its fragments

most_by : (total most size : ℕ) → total ≡ min most size → total ≡ size → total ≤ most
most_by total most size least whole = omega (arith, least, whole)

last_by : (at fragment size piece : ℕ) → piece ≡ min fragment (size - at) → 0 < piece → at < size
last_by at fragment size piece is some = omega (arith, is, some)

measured : (run : Run) (t : State) (put : ℕ) → run.state ≡ Some t → ArePayloadsOwn t run.streams → IsFoundClosed t put → IsMeasured run put (total_length (cuts_of t put)) (length (cuts_of t put))
measured run t put state kept c =
    let w : PutRow = c.w in
    let fragment : ℕ = t.geometry.fragment in
    let body : List ℕ = (run.streams put).bytes in
    let p : IsOwnPut t run.streams w = kept.puts put w c.found in
    let number : w.put ≡ put = number_of t put w c.found in
    let cuts : AreCuts fragment body w.cuts = subst (λ n. AreCuts fragment (run.streams n).bytes w.cuts) number p.cuts in
    let whole : total_length w.cuts ≡ length body = p.whole c.closed ∙ ap (λ n. length (run.streams n).bytes) number in
    let rows : cuts_of t put ≡ w.cuts = cuts_found t put w c.found in
    subst (λ (xs : List TableRow). IsMeasured run put (total_length xs) (length xs)) (sym rows) (record {
      s = t;
      state = state;
      told = whole;
      enough = most_by (total_length w.cuts) (length w.cuts * fragment) (length body) (total_cuts fragment body w.cuts cuts) whole;
      needed = λ some. subst (λ size. (length w.cuts - 1) * fragment < size) (sym whole)
          (last_by ((length w.cuts - 1) * fragment) fragment (length body) (length (piece_of fragment body (length w.cuts))) (length-piece fragment body (length w.cuts))
          (cuts.none_empty (length w.cuts) some (omega arith)));
    })

-- ---- lines

-- nothing is refused where a put is told
record IsTold (t : State) (n : ℕ) (why : Option Reason) (put size fragments : ℕ) : Type 0 where
  allowed : why ≡ None
  put_is : n ≡ put
  size_is : total_length (cuts_of t n) ≡ size
  count_is : length (cuts_of t n) ≡ fragments

refusal_puts_none : (t : State) (why : Reason) (put size fragments : ℕ) → refusal_said t None why ≡ answer.Put put size fragments → ⊥
refusal_puts_none t ManyWriters put size fragments h = cc
refusal_puts_none t Exhausted put size fragments h = cc
refusal_puts_none t (ManyFragments n) put size fragments h = cc
refusal_puts_none t (TooLarge n bytes) put size fragments h = cc
refusal_puts_none t (Lost n index) put size fragments h = cc
refusal_puts_none t (Faulted count) put size fragments h = cc
refusal_puts_none t (SyncRuns serial) put size fragments h = cc
refusal_puts_none t NoSync put size fragments h = cc
refusal_puts_none t (StillOpen writers readers) put size fragments h = cc
refusal_puts_none t (StillMoving blocks) put size fragments h = cc

told_by : (t : State) (n : ℕ) (why : Option Reason) (put size fragments : ℕ) → said t None why (put_said t n) ≡ answer.Put put size fragments → IsTold t n why put size fragments
told_by t n None put size fragments h = record { allowed = refl; put_is = cc; size_is = cc; count_is = cc }
told_by t n (Some why) put size fragments h = absurd (refusal_puts_none t why put size fragments h)

module _ (run : Run) (turn : Turn) (put size fragments : ℕ) where
  told_measured : (s : State) (after : Run) (n : ℕ) (last is : List Intent) → after.state ≡ Some (after_all s turn.added) → ArePayloadsOwn (after_all s turn.added) after.streams
      → Leads (Commit n) last is → AddsNone turn.device n last → IsStep turn.device s is turn.added turn.refused
      → said (after_all s turn.added) None turn.refused (put_said (after_all s turn.added) n) ≡ answer.Put put size fragments → IsMeasured after put size fragments
  told_measured s after n last is state kept leads none legal says =
      let t : State = after_all s turn.added in
      let told : IsTold t n turn.refused put size fragments = told_by t n turn.refused put size fragments says in
      let grows : MayGrow turn.device s (to_do is) turn.added (to_do []) =
      subst (λ (why : Option Reason). MayGrow turn.device s (to_do is) turn.added (record { intents = []; refused = why })) told.allowed legal.grows in
      let m = measured after t n state kept (closed_behind turn.device s n last is turn.added leads none grows) in
      subst (λ k. IsMeasured after put size k) told.count_is
      (subst (λ k. IsMeasured after put k (length (cuts_of t n))) told.size_is
      (subst (λ k. IsMeasured after k (total_length (cuts_of t n)) (length (cuts_of t n))) told.put_is m))

  put_measured : (key : Key) (body : List ℕ) (request response : List Field) (o : Option State) → (let st : Step = step.Put key body request response in
      KeepsIn (behind run turn o st) → Takes run turn o st → step_said run turn o st ≡ answer.Put put size fragments → IsMeasured (behind run turn o st) put size fragments)
  put_measured key body request response None keeps takes says = absurd takes
  put_measured key body request response (Some s) keeps takes says =
      told_measured s (in_session run s (after_all s turn.added) turn (step.Put key body request response)) s.next_put (GiveUp s.next_put ∷ []) (put_intents s key body request response)
      refl keeps.kept (put_leads s key body request response) (give_up_asked turn.device s.next_put) takes.legal says

  close_by : (s : State) (after : Run) (o : Option ℕ) → after.state ≡ Some (after_all s turn.added) → ArePayloadsOwn (after_all s turn.added) after.streams
      → IsStep turn.device s (Asked.asks_if_has o (closing run s)) turn.added turn.refused
      → if_has o (λ n. said (after_all s turn.added) None turn.refused (put_said (after_all s turn.added) n)) ≡ answer.Put put size fragments → IsMeasured after put size fragments
  close_by s after None state kept legal says = absurd cc
  close_by s after (Some n) state kept legal says =
      told_measured s after n [] (closing run s n) state kept (close_leads n (length (cuts_of s n)) (gathered_of run s n)) (none_asked turn.device n) legal says

  close_measured : (actor : List ℕ) (o : Option State) → (let st : Step = step.Close actor in
      KeepsIn (behind run turn o st) → Takes run turn o st → step_said run turn o st ≡ answer.Put put size fragments → IsMeasured (behind run turn o st) put size fragments)
  close_measured actor None keeps takes says = absurd takes
  close_measured actor (Some s) keeps takes says =
      close_by s (in_session run s (after_all s turn.added) turn (step.Close actor)) (put_written_by run actor) refl keeps.kept
      takes.legal says

  step_measured : {asks : Step} → KeepsIn (after_step run turn asks) → StepTakes run turn asks → AnswersPutComplete run turn put size fragments asks → IsMeasured (after_step run turn asks) put size fragments
  step_measured keeps takes (Laws.AnswersPutComplete.puts key body request response says) = put_measured key body request response run.state keeps takes says
  step_measured keeps takes (Laws.AnswersPutComplete.closes actor says) = close_measured actor run.state keeps takes says

pub put_is_measured : (laws : OfKept) (lines : List (List ℕ)) (turns : List Turn) (turn : Turn) (asks : Step) (put size fragments : ℕ) → IsRun fresh lines turns
    → StepTakes (run_after fresh lines turns) turn asks → AnswersPutComplete (run_after fresh lines turns) turn put size fragments asks
    → IsMeasured (after_step (run_after fresh lines turns) turn asks) put size fragments
put_is_measured laws lines turns turn asks put size fragments legal takes says =
    let run : Run = run_after fresh lines turns in
    step_measured run turn put size fragments (reading_keeps laws run turn (line.Step asks) takes (keeps_after laws lines turns fresh legal tt)) takes says
