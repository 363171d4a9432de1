-- What a line is answered that it hit or follows was put under the key that it asks for, by a put whose lines fit.
use Rattle.std.proofs.Common.{◌≡◌, ℕ, List, [], ◌∷◌, ◌++◌, refl, sym, ◌∙◌, ap, subst, inl, inr, true, ◌&&◌, append-nil}
use Rattle.std.specs.Prelude.{Option, Some, None}
use Rattle.std.proofs.lemmas.Bool.{and_parts}
use Rattle.std.proofs.lemmas.Option.{same_Some}
use Rattle.tape_base.specs.declared.actors.Actor.{Actor}
use Rattle.tape_base.specs.declared.keys.Key.{Key}
use Rattle.tape_base.specs.Key.{same_key}
use Rattle.tape_base.proofs.NameLaws.{same_key-true}
use Rattle.fragment_table.specs.Table.{TableRow}
use Rattle.alternate_vector.specs.Field.{Field}
use Rattle.alternate_vector.specs.Vary.{request_matches}
use Rattle.cache_model.specs.declared.answer.ReadAnswer.{ReadAnswer}
use Rattle.cache_model.specs.declared.answer.ReadAnswer.TheVariants as read
use Rattle.cache_model.specs.declared.cause.Cause.{Cause}
use Rattle.cache_model.specs.declared.cause.Cause.TheVariants as cause
use Rattle.cache_model.specs.declared.record.Rec.{Rec}
use Rattle.cache_model.specs.declared.record.Rec.TheVariants as rec
use Rattle.cache_model.specs.State.{State, PutRow, ReaderRow, after_all, reader_of, state_after, table_of_hit}
use Rattle.cache_model.specs.Verdict.{followed, hit, is_open, lookup_verdict, may_follow}
use Rattle.cache_model.specs.Permit.{End, Intent, Look, Permit, Reason}
use Rattle.cache_model.specs.Given
use Rattle.cache_model.specs.Legal
use Rattle.cache_model.specs.Legal.{IsStep}
use Rattle.step_laws.specs.StepLaws.{OneGroup}
use Rattle.cache_model.proofs.Found.{none_is, same_some}
use Rattle.script_grammar.specs.declared.answer.StepAnswer.{StepAnswer}
use Rattle.script_grammar.specs.declared.answer.StepAnswer.TheVariants as answer
use Rattle.script_grammar.specs.declared.step.Step.{Step}
use Rattle.script_grammar.specs.declared.step.Step.TheVariants as step
use Rattle.actor_table.specs.Table.{number_of_name as number_in}
use Rattle.script_run.specs.Run.{Holding, Run, fresh, held_by}
use Rattle.script_run.specs.Asked
use Rattle.script_run.specs.Turn.{Turn, lookup_in, told_in}
use Rattle.script_run.specs.Answers.{broken_said, end_said, get_said, hit_length, if_free, lookup_said, miss_said, step_answer, step_said}
use Rattle.script_run.specs.Laws.{HitIsPut, IsPutFor}
use Rattle.script_run.specs.Takes.{IsBody, IsRun, SessionTakes, StepTakes, Takes, run_after}
use Rattle.line_laws.specs.Along.{OpenedAlong, StandsWhere}
use Rattle.line_laws.specs.Laws
use Rattle.line_laws.specs.Laws.{AnswersFollow, AnswersHit, WasPutFor}
use Rattle.script_run.proofs.Finding.{found_true}
use Rattle.script_run.proofs.Hitting.{step_answers}
use Rattle.script_run.proofs.Values.{value_here}
use Rattle.reader_laws.proofs.Opening.{follow_by}
use Rattle.reader_laws.proofs.Origins.{found_opened, put_opened}
use Rattle.line_laws.proofs.Standing.{Keeps, KeepsIn, OfKept, keeps_after}

-- ---- what the words of an answer tell

-- which put is got, hit or followed
abbrev named : StepAnswer → Option ℕ
named (answer.Got put size bytes) = Some put
named (answer.Hit put size) = Some put
named (answer.Follow put) = Some put
named _ = None

-- none by a miss or by a break
miss_names_none : (why : Cause) → named (miss_said why) ≡ None
miss_names_none cause.NeverPut = refl
miss_names_none cause.Removed = refl
miss_names_none (cause.Passed place floor unsaved) = refl
miss_names_none (cause.NoMatch count) = refl
miss_names_none (cause.Displaced segment live) = refl
miss_names_none (cause.Aborted writer) = refl
miss_names_none (cause.BeforeOpening serial) = refl
miss_names_none (cause.Unrecorded dropped) = refl
miss_names_none (cause.DeviceFault count) = refl
miss_names_none (cause.Damaged place kept found) = refl

broken_names_none : (why : Cause) → named (broken_said why) ≡ None
broken_names_none cause.NeverPut = refl
broken_names_none cause.Removed = refl
broken_names_none (cause.Passed place floor unsaved) = refl
broken_names_none (cause.NoMatch count) = refl
broken_names_none (cause.Displaced segment live) = refl
broken_names_none (cause.Aborted writer) = refl
broken_names_none (cause.BeforeOpening serial) = refl
broken_names_none (cause.Unrecorded dropped) = refl
broken_names_none (cause.DeviceFault count) = refl
broken_names_none (cause.Damaged place kept found) = refl

not_named : {X : Type 0} (said whole : StepAnswer) (put : ℕ) → named said ≡ None → named whole ≡ Some put → said ≡ whole → X
not_named said whole put none some h = none_is (sym none ∙ (ap named h ∙ some))

-- what a put that is read to its end is answered
data EndSays (put : ℕ) (given : List ℕ) : Option Rec → StepAnswer → Type 0 where
  ends : (reader last : ℕ) → EndSays put given (Some (rec.Ended reader last)) (answer.Got put last given)
  names_none : {told : Option Rec} {said : StepAnswer} → named said ≡ None → EndSays put given told said

end_says : (put : ℕ) (given : List ℕ) (told : Option Rec) → EndSays put given told (end_said put given told)
end_says put given None = names_none refl
end_says put given (Some (rec.Ended reader last)) = ends reader last
end_says put given (Some (rec.Broke reader why)) = names_none (broken_names_none why)
end_says put given (Some (rec.Formatted geometry)) = names_none refl
end_says put given (Some (rec.Opened geometry serial cursor floor next_put clean list)) = names_none refl
end_says put given (Some (rec.Began cursor floor)) = names_none refl
end_says put given (Some (rec.Placed piece place blocks digest pin)) = names_none refl
end_says put given (Some (rec.Moved piece from place digest)) = names_none refl
end_says put given (Some (rec.Unsaved piece place fault)) = names_none refl
end_says put given (Some (rec.Displaced piece segment live)) = names_none refl
end_says put given (Some (rec.Damaged piece place kept found)) = names_none refl
end_says put given (Some (rec.WriteOpened who w key request response pin)) = names_none refl
end_says put given (Some (rec.Cut w index length digest)) = names_none refl
end_says put given (Some (rec.Committed w key length listed)) = names_none refl
end_says put given (Some (rec.Aborted w key)) = names_none refl
end_says put given (Some (rec.Removed w key)) = names_none refl
end_says put given (Some (rec.ReadOpened reader actor key request found)) = names_none refl
end_says put given (Some (rec.Gave reader index length)) = names_none refl
end_says put given (Some (rec.Waited reader cut)) = names_none refl
end_says put given (Some (rec.ReadClosed reader)) = names_none refl
end_says put given (Some (rec.SyncBegun serial cursor clean in_parts)) = names_none refl
end_says put given (Some (rec.SyncDone serial)) = names_none refl
end_says put given (Some (rec.Fault count)) = names_none refl

-- a whole read hit the put, and was told the end
pub record IsGot (given : List ℕ) (told : Option Rec) (lookup : Option ReadAnswer) (put size : ℕ) (bytes : List ℕ) : Type 0 where
  pub reader : ℕ
  pub hit : lookup ≡ Some (read.Hit put)
  pub ended : told ≡ Some (rec.Ended reader size)
  pub all : given ≡ bytes

ended_by : (hit : ℕ) (given : List ℕ) (put size : ℕ) (bytes : List ℕ) {told : Option Rec} {said : StepAnswer} → EndSays hit given told said → said ≡ answer.Got put size bytes
    → IsGot given told (Some (read.Hit hit)) put size bytes
ended_by hit given put size bytes (ends reader last) h =
    let same : hit ≡ put = cc in
    let told : last ≡ size = cc in
    let all : given ≡ bytes = cc in
    record { reader = reader; hit = ap (λ n. Some (read.Hit n)) same; ended = ap (λ n. Some (rec.Ended reader n)) told; all = all }
ended_by hit given put size bytes {said = said} (names_none none) h = not_named said (answer.Got put size bytes) put none refl h

ended_follows_none : {X : Type 0} (hit : ℕ) (given : List ℕ) (put : ℕ) {told : Option Rec} {said : StepAnswer} → EndSays hit given told said → said ≡ answer.Follow put → X
ended_follows_none hit given put (ends reader last) h = absurd cc
ended_follows_none hit given put {said = said} (names_none none) h = not_named said (answer.Follow put) put none refl h

pub got_by : (given : List ℕ) (told : Option Rec) (lookup : Option ReadAnswer) (put size : ℕ) (bytes : List ℕ) → get_said given told lookup ≡ answer.Got put size bytes → IsGot given told lookup put size bytes
got_by given told None put size bytes h = absurd cc
got_by given told (Some (read.Hit hit)) put size bytes h = ended_by hit given put size bytes (end_says hit given told) h
got_by given told (Some (read.Follow writer)) put size bytes h = absurd cc
got_by given told (Some (read.Miss why)) put size bytes h = not_named (miss_said why) (answer.Got put size bytes) put (miss_names_none why) refl h

hit_by : (t : State) (reader : ℕ) (lookup : Option ReadAnswer) (put size : ℕ) → lookup_said t reader lookup ≡ answer.Hit put size
    → (lookup ≡ Some (read.Hit put)) × (hit_length t reader ≡ size)
hit_by t reader None put size h = absurd cc
hit_by t reader (Some (read.Hit hit)) put size h = let same : hit ≡ put = cc in (ap (λ n. Some (read.Hit n)) same, cc)
hit_by t reader (Some (read.Follow writer)) put size h = absurd cc
hit_by t reader (Some (read.Miss why)) put size h = not_named (miss_said why) (answer.Hit put size) put (miss_names_none why) refl h

get_follows : (given : List ℕ) (told : Option Rec) (lookup : Option ReadAnswer) (put : ℕ) → get_said given told lookup ≡ answer.Follow put → lookup ≡ Some (read.Follow put)
get_follows given told None put h = absurd cc
get_follows given told (Some (read.Hit hit)) put h = ended_follows_none hit given put (end_says hit given told) h
get_follows given told (Some (read.Follow writer)) put h = let same : writer ≡ put = cc in ap (λ n. Some (read.Follow n)) same
get_follows given told (Some (read.Miss why)) put h = not_named (miss_said why) (answer.Follow put) put (miss_names_none why) refl h

open_follows : (t : State) (reader : ℕ) (lookup : Option ReadAnswer) (put : ℕ) → lookup_said t reader lookup ≡ answer.Follow put → lookup ≡ Some (read.Follow put)
open_follows t reader None put h = absurd cc
open_follows t reader (Some (read.Hit hit)) put h = absurd cc
open_follows t reader (Some (read.Follow writer)) put h = let same : writer ≡ put = cc in ap (λ n. Some (read.Follow n)) same
open_follows t reader (Some (read.Miss why)) put h = not_named (miss_said why) (answer.Follow put) put (miss_names_none why) refl h

-- ---- the put of the state before the line

abbrev PutWhere : Option State → Key → List Field → ℕ → Type 0
PutWhere None key request put = ⊥
PutWhere (Some s) key request put = IsPutFor s key request put

module _ (law : HitIsPut) (run : Run) (turn : Turn) (key : Key) (request : List Field) (put size : ℕ) where
  got_put : (bytes : List ℕ) (o : Option State) → StandsWhere Keeps run o → Takes run turn o (step.Get key request)
      → step_said run turn o (step.Get key request) ≡ answer.Got put size bytes → PutWhere o key request put
  got_put bytes None keeps takes said = takes
  got_put bytes (Some s) keeps takes said =
      law turn.device s run.streams 0 key request _ turn.added turn.refused put keeps.kept takes.legal (got_by turn.given (told_in turn.added) (lookup_in turn.added) put size bytes said).hit

  opens_by : (s : State) (t : State) (actor : ℕ) (o : Option Holding) → Keeps run s → IsStep turn.device s (Asked.asks_if_free o (Look actor key request ∷ [])) turn.added turn.refused
      → if_free o (lookup_said t s.next_reader (lookup_in turn.added)) ≡ answer.Hit put size → IsPutFor s key request put
  opens_by s t actor None keeps legal said = law turn.device s run.streams actor key request [] turn.added turn.refused put keeps.kept legal (hit_by t s.next_reader (lookup_in turn.added) put size said).0
  opens_by s t actor (Some holding) keeps legal said = absurd cc

  opens_put : (actor : List ℕ) (o : Option State) → StandsWhere Keeps run o → Takes run turn o (step.OpenRead actor key request)
      → step_said run turn o (step.OpenRead actor key request) ≡ answer.Hit put size → PutWhere o key request put
  opens_put actor None keeps takes said = takes
  opens_put actor (Some s) keeps takes said = opens_by s (after_all s turn.added) (number_in run.actors actor) (held_by run actor) keeps takes.legal said

  put_where : {asks : Step} → KeepsIn run → StepTakes run turn asks → AnswersHit run turn key request put size asks → PutWhere run.state key request put
  put_where keeps takes (Laws.AnswersHit.got bytes said) = got_put bytes run.state keeps takes said
  put_where keeps takes (Laws.AnswersHit.opens actor said) = opens_put actor run.state keeps takes said

-- ---- the line that opened it

was_put : (lines : List (List ℕ)) (turns : List Turn) (key : Key) (request : List Field) (put : ℕ) (o : Option State) → IsRun fresh lines turns → (run_after fresh lines turns).state ≡ o
    → PutWhere o key request put → WasPutFor lines turns key request put
was_put lines turns key request put None legal state h = absurd h
was_put lines turns key request put (Some s) legal state h = record {
  asked = h.w.request;
  response = h.w.response;
  pin = h.w.pin;
  opened = subst (λ k. OpenedAlong fresh lines turns put k h.w.request h.w.response h.w.pin) h.key_is (put_opened lines turns s put h.w legal state h.found);
  fits = h.fits;
}

pub hit_is_asked : (laws : OfKept) (law : HitIsPut) (lines : List (List ℕ)) (turns : List Turn) (turn : Turn) (asks : Step) (key : Key) (request : List Field) (put size : ℕ) → IsRun fresh lines turns
    → StepTakes (run_after fresh lines turns) turn asks → AnswersHit (run_after fresh lines turns) turn key request put size asks → WasPutFor lines turns key request put
hit_is_asked laws law lines turns turn asks key request put size legal takes said =
    let run : Run = run_after fresh lines turns in
    was_put lines turns key request put run.state legal refl (put_where law run turn key request put size (keeps_after laws lines turns fresh legal tt) takes said)

-- ---- a put that is followed

-- the put of the state before the line that is followed
record IsFollowed (s : State) (key : Key) (request : List Field) (put : ℕ) : Type 0 where
  w : PutRow
  found : followed s key request ≡ Some w
  put_is : w.put ≡ put
  key_is : w.key ≡ key
  fits : request_matches request w.request w.response ≡ true

verdict_follows : (s : State) (key : Key) (request : List Field) (put : ℕ) → lookup_verdict s key request ≡ read.Follow put → IsFollowed s key request put
verdict_follows s key request put verdict =
    let f = follow_by s key request put (hit s key request) (followed s key request) verdict in
    let w : PutRow = f.0 in
    let passes = and_parts (is_open w) (same_key w.key key && request_matches request w.request w.response) (found_true (may_follow key request) s.puts w f.1.0) in
    let fits = and_parts (same_key w.key key) (request_matches request w.request w.response) passes.1 in
    record { w = w; found = f.1.0; put_is = f.1.1; key_is = same_key-true w.key key fits.0; fits = fits.1 }

step_follows : (p : Permit) (s : State) (actor : ℕ) (key : Key) (request : List Field) (more : List Intent) (added : List Rec) (why : Option Reason) (put : ℕ)
    → IsStep p s (Look actor key request ∷ more) added why → lookup_in added ≡ Some (read.Follow put) → IsFollowed s key request put
step_follows p s actor key request more added why put legal told = elim (step_answers p s actor key request more added why (read.Follow put) legal told) [
  | inl verdict ↦ verdict_follows s key request put verdict
  | inr miss ↦ (let no : read.Follow put ≡ read.Miss miss.0 = miss.1 in absurd cc)
]

abbrev FollowedWhere : Option State → Key → List Field → ℕ → Type 0
FollowedWhere None key request put = ⊥
FollowedWhere (Some s) key request put = IsFollowed s key request put

module _ (run : Run) (turn : Turn) (key : Key) (request : List Field) (put : ℕ) where
  get_followed : (o : Option State) → Takes run turn o (step.Get key request) → step_said run turn o (step.Get key request) ≡ answer.Follow put → FollowedWhere o key request put
  get_followed None takes said = takes
  get_followed (Some s) takes said =
      step_follows turn.device s 0 key request _ turn.added turn.refused put takes.legal (get_follows turn.given (told_in turn.added) (lookup_in turn.added) put said)

  free_followed : (s t : State) (actor : ℕ) (o : Option Holding) → IsStep turn.device s (Asked.asks_if_free o (Look actor key request ∷ [])) turn.added turn.refused
      → if_free o (lookup_said t s.next_reader (lookup_in turn.added)) ≡ answer.Follow put → IsFollowed s key request put
  free_followed s t actor None legal said = step_follows turn.device s actor key request [] turn.added turn.refused put legal (open_follows t s.next_reader (lookup_in turn.added) put said)
  free_followed s t actor (Some holding) legal said = absurd cc

  open_followed : (actor : List ℕ) (o : Option State) → Takes run turn o (step.OpenRead actor key request) → step_said run turn o (step.OpenRead actor key request) ≡ answer.Follow put → FollowedWhere o key request put
  open_followed actor None takes said = takes
  open_followed actor (Some s) takes said = free_followed s (after_all s turn.added) (number_in run.actors actor) (held_by run actor) takes.legal said

  followed_where : {asks : Step} → StepTakes run turn asks → AnswersFollow run turn key request put asks → FollowedWhere run.state key request put
  followed_where takes (Laws.AnswersFollow.gets said) = get_followed run.state takes said
  followed_where takes (Laws.AnswersFollow.opens actor said) = open_followed actor run.state takes said

was_followed : (lines : List (List ℕ)) (turns : List Turn) (key : Key) (request : List Field) (put : ℕ) (o : Option State) → IsRun fresh lines turns → (run_after fresh lines turns).state ≡ o
    → FollowedWhere o key request put → WasPutFor lines turns key request put
was_followed lines turns key request put None legal state h = absurd h
was_followed lines turns key request put (Some s) legal state h = record {
  asked = h.w.request;
  response = h.w.response;
  pin = h.w.pin;
  opened = subst (λ k. OpenedAlong fresh lines turns put k h.w.request h.w.response h.w.pin) h.key_is
      (subst (λ n. OpenedAlong fresh lines turns n h.w.key h.w.request h.w.response h.w.pin) h.put_is (found_opened lines turns s (may_follow key request) h.w legal state h.found));
  fits = h.fits;
}

pub follow_is_asked : (lines : List (List ℕ)) (turns : List Turn) (turn : Turn) (asks : Step) (key : Key) (request : List Field) (put : ℕ) → IsRun fresh lines turns
    → StepTakes (run_after fresh lines turns) turn asks → AnswersFollow (run_after fresh lines turns) turn key request put asks → WasPutFor lines turns key request put
follow_is_asked lines turns turn asks key request put legal takes said =
    let run : Run = run_after fresh lines turns in
    was_followed lines turns key request put run.state legal refl (followed_where run turn key request put takes said)

-- ---- the reader that opens

-- it reads the put that is hit, and has a table
pub record OpensHit (t : State) (n put : ℕ) : Type 0 where
  pub r : ReaderRow
  pub found : reader_of t n ≡ Some r
  pub put_is : r.put ≡ put
  pub table : List TableRow
  pub hit : r.table ≡ Some table

opened_hit : (s : State) (who : Actor) (key : Key) (request : List Field) (answer : ReadAnswer) (put : ℕ) → answer ≡ read.Hit put
    → OpensHit (state_after s (rec.ReadOpened s.next_reader who key request answer)) s.next_reader put
opened_hit s who key request answer put is =
    let r : ReaderRow = record { actor = who.0; reader = s.next_reader; key = key; put = put; table = Some (table_of_hit s key request); next = 1 } in
    subst (λ (a : ReadAnswer). OpensHit (state_after s (rec.ReadOpened s.next_reader who key request a)) s.next_reader put) (sym is)
    (record { r = r; found = value_here (Some r) (reader_of s s.next_reader) s.next_reader s.next_reader refl; put_is = refl; table = table_of_hit s key request; hit = refl })

looked_hit : (p : Permit) (s : State) (who : Actor) (key : Key) (request : List Field) (before : List Rec) (answer : ReadAnswer) (rest : List Rec) (put : ℕ) → Legal.IsLookup p s key request before answer
    → (let added : List Rec = before ++ rec.ReadOpened s.next_reader who key request answer ∷ [] in
    lookup_in (added ++ rest) ≡ Some (read.Hit put) → OpensHit (after_all s added) s.next_reader put)
looked_hit p s who key request before answer rest put (Legal.IsLookup.verdict x) told =
    opened_hit s who key request (lookup_verdict s key request) put (same_Some (lookup_verdict s key request) (read.Hit put) told)
looked_hit p s who key request before answer rest put (Legal.IsLookup.trouble row b why live (Given.Trouble.faulted count w m)) told = absurd cc
looked_hit p s who key request before answer rest put (Legal.IsLookup.trouble row b why live (Given.Trouble.damaged other d)) told = absurd cc

pub look_hit : (p : Permit) (s : State) (actor : ℕ) (key : Key) (request : List Field) (added rest : List Rec) (e : End) (put : ℕ) → Legal.DoesLook p s actor key request added e
    → lookup_in (added ++ rest) ≡ Some (read.Hit put) → OpensHit (after_all s added) s.next_reader put
look_hit p s actor key request added rest e put (Legal.DoesLook.looks m) told =
    subst (λ recs. OpensHit (after_all s recs) s.next_reader put) (sym m.is)
    (looked_hit p s m.who key request m.before m.answer rest put m.right (ap (λ recs. lookup_in (recs ++ rest)) (sym m.is) ∙ told))

module _ (one : OneGroup) (run : Run) (s : State) (turn : Turn) (key : Key) (request : List Field) (put size : ℕ) where
  pub free_hit : (actor : ℕ) (o : Option Holding) → IsStep turn.device s (Asked.asks_if_free o (Look actor key request ∷ [])) turn.added turn.refused
      → if_free o (lookup_said (after_all s turn.added) s.next_reader (lookup_in turn.added)) ≡ answer.Hit put size
      → OpensHit (after_all s turn.added) s.next_reader put × (hit_length (after_all s turn.added) s.next_reader ≡ size)
  free_hit actor None legal said =
      let does = one turn.device s (Look actor key request) turn.added turn.refused refl legal in
      let h = hit_by (after_all s turn.added) s.next_reader (lookup_in turn.added) put size said in
      (look_hit turn.device s actor key request turn.added [] does.0 put does.1 (ap lookup_in (append-nil turn.added) ∙ h.0), h.1)
  free_hit actor (Some holding) legal said = absurd cc

  pub hit_opens : (r : ReaderRow) (actor : List ℕ) → run.state ≡ Some s → StepTakes run turn (step.OpenRead actor key request) → step_answer run turn (step.OpenRead actor key request) ≡ answer.Hit put size
      → reader_of (after_all s turn.added) s.next_reader ≡ Some r → r.put ≡ put
  hit_opens r actor state takes said found =
      let here : SessionTakes run s turn (step.OpenRead actor key request) = subst (λ (o : Option State). Takes run turn o (step.OpenRead actor key request)) state takes in
      let there = subst (λ (o : Option State). step_said run turn o (step.OpenRead actor key request) ≡ answer.Hit put size) state said in
      let h : OpensHit (after_all s turn.added) s.next_reader put = (free_hit (number_in run.actors actor) (held_by run actor) here.legal there).0 in
      ap (λ (x : ReaderRow). x.put) (same_some r h.r (reader_of (after_all s turn.added) s.next_reader) found h.found) ∙ h.put_is

-- ---- the bytes

got_all : (run : Run) (turn : Turn) (key : Key) (request : List Field) (put size : ℕ) (bytes : List ℕ) (o : Option State) → Takes run turn o (step.Get key request)
    → step_said run turn o (step.Get key request) ≡ answer.Got put size bytes → bytes ≡ (run.streams put).bytes
got_all run turn key request put size bytes None takes said = absurd takes
got_all run turn key request put size bytes (Some s) takes said =
    let g : IsGot turn.given (told_in turn.added) (lookup_in turn.added) put size bytes = got_by turn.given (told_in turn.added) (lookup_in turn.added) put size bytes said in
    let own : IsBody run turn.given (Some (rec.Ended g.reader size)) (Some (read.Hit put)) =
    subst (λ (l : Option ReadAnswer). IsBody run turn.given (Some (rec.Ended g.reader size)) l) g.hit
    (subst (λ (told : Option Rec). IsBody run turn.given told (lookup_in turn.added)) g.ended takes.own) in
    sym g.all ∙ own

pub got_is_put : (run : Run) (turn : Turn) (key : Key) (request : List Field) (put size : ℕ) (bytes : List ℕ) → StepTakes run turn (step.Get key request)
    → step_answer run turn (step.Get key request) ≡ answer.Got put size bytes → bytes ≡ (run.streams put).bytes
got_is_put run turn key request put size bytes takes said = got_all run turn key request put size bytes run.state takes said
