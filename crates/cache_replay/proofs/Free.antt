-- The next put and the next reader have no row yet, so no actor has them.
use Rattle.std.proofs.Common.{◌≡◌, ℕ, ◌<◌, ◌≤◌, List, [], ◌∷◌, refl, sym, ◌∙◌, ap, subst, arith, Bool, true, false, cond}
use Rattle.std.specs.Prelude.{Option, Some, None, IfSome, ◌==◌, find, map, option_map, unwrap_or}
use Rattle.std.proofs.lemmas.Bool.{eqb-true}
use Rattle.cache_model.specs.State.{PutRow, ReaderRow, State, put_of, reader_of}
use Rattle.cache_model.specs.Verdict.{is_open}
use Rattle.cache_model.specs.Legal.{is_writing}
use Rattle.call_laws.specs.Moments.{At}
use Rattle.cache_calls.specs.Keeping.{FallBelow, IsAtRest, state_at}
use Rattle.cache_replay.specs.Session.{AreHeld, HoldingSeen, IsHeldByActor, ReaderHeld, WriterHeld}
use Rattle.cache_replay.proofs.Frames.{IsElse, OthersElse}
use Rattle.cache_replay.proofs.Plain.{AllElse}

-- ---- a number above all others

below_is_other : (m q : ℕ) → m < q → (m == q) ≡ false
below_is_other m q less = by (m == q) refl
  where
    by : (b : Bool) → (m == q) ≡ b → b ≡ false
    by true e = let same : m ≡ q = eqb-true m q e in absurd (omega (arith, same, less))
    by false e = refl

unheard_by : {X : Type 0} (b : Bool) (row : X) (rest : Option X) → b ≡ false → rest ≡ None → cond b (Some row) rest ≡ None
unheard_by true row rest free none = let clash : true ≡ false = free in cc
unheard_by false row rest free none = none

pub unheard : {X : Type 0} (number : X → ℕ) (high q : ℕ) (rows : List X) → FallBelow high (map number rows) → high ≤ q → find (λ x. number x == q) rows ≡ None
unheard number high q [] fall above = refl
unheard number high q (row ∷ rows) fall above =
    unheard_by (number row == q) row (find (λ x. number x == q) rows) (below_is_other (number row) q (omega (arith, fall.0, above)))
    (unheard number (number row) q rows fall.1 (omega (arith, fall.0, above)))

module _ (a : At) (rest : IsAtRest a) where
  pub no_next_put : put_of (state_at a) (state_at a).next_put ≡ None
  no_next_put = unheard (λ (w : PutRow). w.put) (state_at a).next_put (state_at a).next_put (state_at a).puts rest.puts (omega arith)

  pub no_next_reader : reader_of (state_at a) (state_at a).next_reader ≡ None
  no_next_reader = unheard (λ (r : ReaderRow). r.reader) (state_at a).next_reader (state_at a).next_reader (state_at a).readers rest.readers (omega arith)

  pub next_is_free : is_writing (state_at a) (state_at a).next_put ≡ false
  next_is_free = ap (λ (o : Option PutRow). unwrap_or (option_map is_open o) false) no_next_put

-- ---- what actors have is none of them

not_next_put : (s : State) (h : HoldingSeen) → is_writing s s.next_put ≡ false → IsHeldByActor s h → IsElse (Some s.next_put) None h
not_next_put s (WriterHeld w) free held = λ same.
    let is : s.next_put ≡ w.put = cc in
    let clash : true ≡ false = sym held.writing ∙ (ap (is_writing s) (sym is) ∙ free) in cc
not_next_put s (ReaderHeld r) free held = λ same. cc

not_next_reader : (s : State) (h : HoldingSeen) → reader_of s s.next_reader ≡ None → IsHeldByActor s h → IsElse None (Some s.next_reader) h
not_next_reader s (WriterHeld w) free held = λ same. cc
not_next_reader s (ReaderHeld r) free held = λ same.
    let is : s.next_reader ≡ r.reader = cc in
    let clash : None ≡ Some held.row = sym free ∙ (ap (reader_of s) is ∙ held.found) in cc

held_some : (s : State) (o : Option HoldingSeen) (h : HoldingSeen) → o ≡ Some h → IfSome o (IsHeldByActor s) → IsHeldByActor s h
held_some s o h is held = subst (λ x. IfSome x (IsHeldByActor s)) is held

module _ (a : At) (rest : IsAtRest a) (slots : ℕ → Option HoldingSeen) (held : AreHeld (state_at a) slots) where
  pub none_writes_next : AllElse slots (Some (state_at a).next_put) None
  none_writes_next = λ m h is. not_next_put (state_at a) h (next_is_free a rest) (held_some (state_at a) (slots m) h is (held m))

  pub none_reads_next : AllElse slots None (Some (state_at a).next_reader)
  none_reads_next = λ m h is. not_next_reader (state_at a) h (no_next_reader a rest) (held_some (state_at a) (slots m) h is (held m))

  -- nor have the others beside one actor
  pub others_write_older : (n : ℕ) → OthersElse slots n (Some (state_at a).next_put) None
  others_write_older n = λ m h other is. none_writes_next m h is

  pub others_read_older : (n : ℕ) → OthersElse slots n None (Some (state_at a).next_reader)
  others_read_older n = λ m h other is. none_reads_next m h is
