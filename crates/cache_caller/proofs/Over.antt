-- A put that is refused is not left open.
use Rattle.std.proofs.Common.{◌≡◌, ℕ, ◌≤◌, List, [], ◌∷◌, Err, IfErr, Ok, Result, refl, ◌∙◌, ap, arith, Bool, true, false, cond}
use Rattle.std.specs.Prelude.{Option, Some, None, ◌==◌, find, map, option_map, unwrap_or}
use Rattle.std.proofs.lemmas.Bool.{eq-eqb, eqb-true}
use Rattle.cache_model.specs.declared.record.Rec.TheVariants as rec
use Rattle.cache_model.specs.State.{GivenUp, PutRow, State, change_put, put_of, with_writing}
use Rattle.cache_model.specs.Kept.{state_of}
use Rattle.cache_model.specs.Verdict.{is_open}
use Rattle.cache_model.specs.Legal.{is_writing}
use Rattle.cache_model.proofs.ByNumber.{find-changed}
use Rattle.call_laws.specs.Moments.{At}
use Rattle.call_laws.proofs.Joined.{state_behind}
use Rattle.cache_answers.specs.declared.answers.Refusal.{Refusal}
use Rattle.cache_answers.specs.declared.answers.Refusal.TheVariants as refusal
use Rattle.cache_calls.specs.Actors.{WriterSeen}
use Rattle.cache_calls.specs.Adds.{IsAsItWas}
use Rattle.cache_calls.specs.Keeping.{FallBelow, IsAtRest, state_at}
use Rattle.cache_calls.specs.Writers.{GivesUp}
use Rattle.cache_caller.specs.Refused.{RefusedIsOver}

pub is_over : (t : State) (put : ℕ) (why : Refusal) → is_writing t put ≡ false → RefusedIsOver t put why
is_over t put (refusal.Memory e) over = tt
is_over t put refusal.TooManyWriters over = over
is_over t put refusal.TooManyFragments over = over
is_over t put (refusal.VectorTooLarge bytes) over = over
is_over t put (refusal.Lost index why) over = over
is_over t put (refusal.DeviceFault count) over = over
is_over t put refusal.Sealed over = over
is_over t put (refusal.Exhausted number) over = over
is_over t put refusal.NoSuchWriter over = over

pub refused_over : {X : Type 0} (t : State) (put : ℕ) (result : Result X Refusal) → is_writing t put ≡ false
    → IfErr result (RefusedIsOver t put)
refused_over t put (Ok x) over = tt
refused_over t put (Err why) over = is_over t put why over

-- ---- none has begun

-- no row has a number above theirs
none_above : (high q : ℕ) (rows : List PutRow) → FallBelow high (map (λ (w : PutRow). w.put) rows) → high ≤ q → find (λ (w : PutRow). w.put == q) rows ≡ None
none_above high q [] fall above = refl
none_above high q (row ∷ rows) fall above =
    by (row.put == q) refl (none_above row.put q rows fall.1 (omega (arith, fall.0, above)))
  where
    by : (b : Bool) → (row.put == q) ≡ b → find (λ (w : PutRow). w.put == q) rows ≡ None → cond b (Some row) (find (λ (w : PutRow). w.put == q) rows) ≡ None
    by true e none = let same : row.put ≡ q = eqb-true row.put q e in absurd (omega (arith, same, fall.0, above))
    by false e none = none

pub not_begun : (old new : At) → IsAtRest old → IsAsItWas old new → is_writing (state_at new) (state_at old).next_put ≡ false
not_begun old new rest same =
    ap (λ k. is_writing (state_of k) next) same
    ∙ ap (λ (o : Option PutRow). unwrap_or (option_map is_open o) false) (none_above next next (state_at old).puts rest.puts (omega arith))
  where
    next : ℕ
    next = (state_at old).next_put

-- ---- it is given up

given_up : (s : State) (put : ℕ) → unwrap_or (option_map is_open (find (λ (p : PutRow). p.put == put) (change_put put (with_writing GivenUp) s.puts))) false ≡ false
given_up s put =
    ap (λ (o : Option PutRow). unwrap_or (option_map is_open o) false)
    (find-changed (λ (p : PutRow). p.put) (with_writing GivenUp) (λ x. refl) put put s.puts
    ∙ ap (λ (b : Bool). cond b (option_map (with_writing GivenUp) (put_of s put)) (put_of s put)) (eq-eqb put put refl))
    ∙ by (put_of s put)
  where
    by : (o : Option PutRow) → unwrap_or (option_map is_open (option_map (with_writing GivenUp) o)) false ≡ false
    by None = refl
    by (Some row) = refl

pub gives_over : (old new : At) (w : WriterSeen) (number : ℕ) → GivesUp old new w (Ok number) → is_writing (state_at new) w.put ≡ false
gives_over old new w number h =
    ap (λ (x : State). is_writing x w.put) (state_behind old.kept new.kept (rec.Aborted w.put w.key ∷ []) h.2) ∙ given_up (state_at old) w.put
