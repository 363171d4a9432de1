-- What a lookup hits is a put of the asked key, whose lines fit the request.
use Rattle.std.proofs.Common.{◌≡◌, ℕ, List, [], ◌∷◌, ◌++◌, sym, ◌∙◌, ap, subst, refl, inl, inr, ◌⊎◌}
use Rattle.std.specs.Prelude.{Option, Some, None, option_map, unwrap_or}
use Rattle.std.specs.List.{AllByRecursion}
use Rattle.std.proofs.lemmas.Option.{same_Some}
use Rattle.tape_base.specs.declared.actors.Actor.{Actor}
use Rattle.tape_base.specs.declared.keys.Key.{Key}
use Rattle.alternate_vector.specs.Field.{Field}
use Rattle.alternate_vector.specs.Alternates.{Stored, is_match}
use Rattle.cache_model.specs.declared.cause.Cause.{Cause}
use Rattle.cache_model.specs.declared.cause.Cause.TheVariants as cause
use Rattle.cache_model.specs.declared.answer.ReadAnswer.{ReadAnswer}
use Rattle.cache_model.specs.declared.answer.ReadAnswer.TheVariants as read
use Rattle.cache_model.specs.declared.record.Rec.{Rec}
use Rattle.cache_model.specs.declared.record.Rec.TheVariants as rec
use Rattle.cache_model.specs.State.{State, PutRow, alternates_of, put_of}
use Rattle.cache_model.specs.Verdict.{cause_of_miss, follow_answer, followed, hit, hit_answer, lookup_verdict}
use Rattle.cache_model.specs.Permit.{End, Intent, Look, Permit, Reason}
use Rattle.cache_model.specs.Given
use Rattle.cache_model.specs.Legal
use Rattle.cache_model.specs.Legal.{IsStep}
use Rattle.step_laws.proofs.Answered.{hit_matches}
use Rattle.cache_model.proofs.Steps.{First, first_of}
use Rattle.script_run.specs.Run.{Stream}
use Rattle.script_run.specs.Turn.{lookup_in}
use Rattle.script_run.specs.Own.{AreAlternates, ArePayloadsOwn, IsComplete, IsListedOf}
use Rattle.script_run.specs.Laws.{IsPutFor}
use Rattle.script_run.proofs.Listed.{is_among, listed_among}

-- ---- the alternate

pub record IsHitOf (s : State) (key : Key) (request : List Field) (put : ℕ) : Type 0 where
  pub a : Stored
  pub found : hit s key request ≡ Some a
  pub put_is : a.put ≡ put

no_hit : (s : State) (key : Key) (put : ℕ) (o : Option PutRow) → unwrap_or (option_map follow_answer o) (read.Miss (cause_of_miss s key)) ≡ read.Hit put → ⊥
no_hit s key put None h = cc
no_hit s key put (Some w) h = cc

hit_by : (s : State) (key : Key) (request : List Field) (put : ℕ) (o : Option Stored) → hit s key request ≡ o
    → unwrap_or (option_map hit_answer o) (unwrap_or (option_map follow_answer (followed s key request)) (read.Miss (cause_of_miss s key))) ≡ read.Hit put → IsHitOf s key request put
hit_by s key request put None none h = absurd (no_hit s key put (followed s key request) h)
hit_by s key request put (Some a) found h = record { a = a; found = found; put_is = cc }

pub hit_of : (s : State) (key : Key) (request : List Field) (put : ℕ) → lookup_verdict s key request ≡ read.Hit put → IsHitOf s key request put
hit_of s key request put verdict = hit_by s key request put (hit s key request) refl verdict

-- it is one that the key's vector lists
pub hit_listed : (s : State) (key : Key) (request : List Field) (put : ℕ) → AllByRecursion (AreAlternates s) s.rows → (h : IsHitOf s key request put) → IsListedOf s key h.a
hit_listed s key request put rows h = is_among (IsListedOf s key) h.a (alternates_of s key) (listed_among s s.rows key rows) (hit_matches s key request h.a h.found).0

-- ---- its put

verdict_put : (s : State) (key : Key) (request : List Field) (put : ℕ) → AllByRecursion (AreAlternates s) s.rows → lookup_verdict s key request ≡ read.Hit put → IsPutFor s key request put
verdict_put s key request put rows verdict =
    let h : IsHitOf s key request put = hit_of s key request put verdict in
    let l : IsListedOf s key h.a = hit_listed s key request put rows h in
    record {
      w = l.w;
      found = subst (λ n. put_of s n ≡ Some l.w) h.put_is l.found;
      key_is = l.key_is;
      fits = ap (is_match request) l.stands_for ∙ (hit_matches s key request h.a h.found).1;
      complete = subst (λ n. IsComplete s n l.w) h.put_is l.complete;
    }

-- ---- what a lookup was answered

-- the verdict of the state before it, or a miss
abbrev pub IsAnswer : State → Key → List Field → ReadAnswer → Type 0
IsAnswer s key request answer = (lookup_verdict s key request ≡ answer) ⊎ ((why : Cause) × (answer ≡ read.Miss why))

looked : (p : Permit) (s : State) (who : Actor) (key : Key) (request : List Field) (before : List Rec) (answer told : ReadAnswer) (rest : List Rec) → Legal.IsLookup p s key request before answer
    → lookup_in ((before ++ rec.ReadOpened s.next_reader who key request answer ∷ []) ++ rest) ≡ Some told → IsAnswer s key request told
looked p s who key request before answer told rest (Legal.IsLookup.verdict r) h = inl (same_Some (lookup_verdict s key request) told h)
looked p s who key request before answer told rest (Legal.IsLookup.trouble row b why live (Given.Trouble.faulted count w m)) h = inr (_, sym (same_Some (read.Miss (cause.DeviceFault count)) told h))
looked p s who key request before answer told rest (Legal.IsLookup.trouble row b why live (Given.Trouble.damaged found d)) h =
    inr (_, sym (same_Some (read.Miss (Given.damage_cause row row.digest found)) told h))

look : (p : Permit) (s : State) (actor : ℕ) (key : Key) (request : List Field) (added rest : List Rec) (e : End) (told : ReadAnswer) → Legal.DoesLook p s actor key request added e
    → lookup_in (added ++ rest) ≡ Some told → IsAnswer s key request told
look p s actor key request added rest e told (Legal.DoesLook.looks m) h =
    looked p s m.who key request m.before m.answer told rest m.right (ap (λ recs. lookup_in (recs ++ rest)) (sym m.is) ∙ h)

pub step_answers : (p : Permit) (s : State) (actor : ℕ) (key : Key) (request : List Field) (more : List Intent) (added : List Rec) (why : Option Reason) (told : ReadAnswer)
    → IsStep p s (Look actor key request ∷ more) added why → lookup_in added ≡ Some told → IsAnswer s key request told
step_answers p s actor key request more added why told step h =
    let f : First p s (Look actor key request) more None added why = first_of p s (Look actor key request) more None why added step.grows in
    look p s actor key request f.added f.rest f.end told f.does (ap lookup_in (sym f.split) ∙ h)

pub hit_is_put : (p : Permit) (s : State) (streams : ℕ → Stream) (actor : ℕ) (key : Key) (request : List Field) (more : List Intent) (added : List Rec) (why : Option Reason) (put : ℕ) → ArePayloadsOwn s streams
    → IsStep p s (Look actor key request ∷ more) added why → lookup_in added ≡ Some (read.Hit put) → IsPutFor s key request put
hit_is_put p s streams actor key request more added why put kept step told = elim (step_answers p s actor key request more added why (read.Hit put) step told) [
  | inl verdict ↦ verdict_put s key request put kept.alternates verdict
  | inr miss ↦ (let no : read.Hit put ≡ read.Miss miss.0 = miss.1 in absurd cc)
]
