-- Puts that are open or given up, and objects that are not there.
use Rattle.std.proofs.Common.{◌≡◌, ℕ, [], refl, sym, ◌∙◌, ap, subst, arith, inr, true, false, cond, Bool, List, length, ◌∷◌}
use Rattle.std.specs.Prelude.{Option, Some, None, is_some, option_map, unwrap_or, find, ◌==◌}
use Rattle.std.proofs.lemmas.Bool.{eq-eqb, eqb-true}
use Rattle.tape_base.specs.declared.actors.Actor.{Actor}
use Rattle.tape_base.specs.declared.keys.Key.{Key}
use Rattle.alternate_vector.specs.Field.{Field}
use Rattle.cache_model.specs.declared.record.Rec.TheVariants as rec
use Rattle.cache_model.specs.State.{Closed, GivenUp, Open, PutRow, Row, State, opened_put, put_of, state_after, with_writing, most_fragments}
use Rattle.cache_model.specs.Verdict.{is_open, live_vector_of}
use Rattle.cache_model.specs.Permit.{Done, Fails, GiveUp, ManyFragments, Overflow, Permit, Remove}
use Rattle.cache_model.specs.Legal.{Does, DoesGiveUp, DoesOverflow, DoesRemove, IsQuiet, is_writing}
use Rattle.cache_model.proofs.ByNumber.{find-changed}
use Rattle.stripe_answers.specs.Acts.{IsGivingUp, write_opened_record}
use Rattle.stripe_write.specs.declared.writer.Writer.{Writer}
use Rattle.cache_calls.specs.Actors.{IsWriterOf, IsAtHand}
use Rattle.stripe_write.specs.Writers.{written_as}

open_row : (p : PutRow) → is_open p ≡ true → p.writing ≡ Open
open_row p h = by p.writing refl
  where
    by : (w : Rattle.cache_model.specs.State.Writing) → p.writing ≡ w → p.writing ≡ Open
    by Open e = e
    by Closed e = let clash : true ≡ false = sym h ∙ ap (λ (x : Rattle.cache_model.specs.State.Writing). elim x [ Open ↦ true | Closed ↦ false | GivenUp ↦ false ]) e in cc
    by GivenUp e = let clash : true ≡ false = sym h ∙ ap (λ (x : Rattle.cache_model.specs.State.Writing). elim x [ Open ↦ true | Closed ↦ false | GivenUp ↦ false ]) e in cc

pub open_put : (o : Option PutRow) → unwrap_or (option_map is_open o) false ≡ true → (row : PutRow) × (o ≡ Some row) × (row.writing ≡ Open)
open_put None h = cc
open_put (Some row) h = (row, refl, open_row row h)

pub giving_up : (s : State) (w : Writer) → IsQuiet s → is_writing s w.put ≡ true → IsWriterOf s (written_as w) → IsGivingUp s w.put w.key
giving_up s w quiet writing own =
    let o = open_put (put_of s w.put) writing in
    record { w = o.0; writing = record { quiet = quiet; found = o.1; is_open = o.2 }; key_is = (own o.0 o.1 o.2).key_is }

pub over : (p : Permit) (s : State) (put : ℕ) → IsQuiet s → is_writing s put ≡ false → Does p s (GiveUp put) [] Done
over p s put quiet none = DoesGiveUp.over quiet none refl

given_up : (o : Option PutRow) (row : PutRow) → option_map (with_writing GivenUp) o ≡ Some row → row.writing ≡ Open → ⊥
given_up None row h o = cc
given_up (Some first) row h o = let same : with_writing GivenUp first ≡ row = cc in let clash : GivenUp ≡ Open = ap (λ (p : PutRow). p.writing) same ∙ o in cc

-- a put that was given up is not open
pub no_writer : (s : State) (w : Writer) (key : Key) → IsWriterOf (state_after s (rec.Aborted w.put key)) (written_as w)
no_writer s w key = λ row found o.
    absurd (given_up (put_of s w.put) row
    (sym (find-changed (λ (p : PutRow). p.put) (with_writing GivenUp) (λ p. refl) w.put w.put s.puts ∙ ap (λ b. cond b (option_map (with_writing GivenUp) (put_of s w.put)) (put_of s w.put)) (eq-eqb w.put w.put refl)) ∙ found) o)

-- the writer of a put that opens
pub new_writer : (s : State) (who : Actor) (key : Key) (request response : List Field) (pin : ℕ) (w : Writer) → w.put ≡ s.next_put → w.key ≡ key → w.request ≡ request → w.response ≡ response → w.pin ≡ pin → w.table.rows ≡ [] → w.gathered.items ≡ []
    → IsWriterOf (state_after s (write_opened_record s who key request response pin)) (written_as w)
new_writer s who key request response pin w put key_is request_is response_is pin_is rows gathered = λ row found o.
    let own : PutRow = opened_put who.0 s.next_put key request response pin in
    let t : State = state_after s (write_opened_record s who key request response pin) in
    let first : put_of t s.next_put ≡ Some own = ap (λ b. cond b (Some own) (find (λ (p : PutRow). p.put == s.next_put) s.puts)) (eq-eqb s.next_put s.next_put refl) in
    let same : Some row ≡ Some own = sym found ∙ (ap (put_of t) put ∙ first) in
    let row_is : row ≡ own = cc in
    subst (λ (x : PutRow). IsAtHand t.geometry x (written_as w)) (sym row_is) (record {
      key_is = sym key_is;
      request_is = sym request_is;
      response_is = sym response_is;
      pin_is = sym pin_is;
      cuts_are = sym rows;
      whole = inr (omega arith);
      few = rw gathered s.geometry.accepted.fragment_fits.0;
      more = λ some. let none : length w.gathered.items ≡ 0 = ap length gathered in absurd (omega (arith, some, none));
    })

none_of : (o : Option Row) → is_some o ≡ false → o ≡ None
none_of None h = refl
none_of (Some row) h = cc

pub absent : (p : Permit) (s : State) (key : Key) → IsQuiet s → is_some (live_vector_of s key) ≡ false → Does p s (Remove key) [] Done
absent p s key quiet none = DoesRemove.absent quiet (none_of (live_vector_of s key) none) refl

own_number_by : (put : ℕ) (first w : PutRow) (rest : Option PutRow) (b : Bool) → (first.put == put) ≡ b → (rest ≡ Some w → w.put ≡ put) → cond b (Some first) rest ≡ Some w → w.put ≡ put
own_number_by put first w rest true e later h = let same : first ≡ w = cc in ap (λ (p : PutRow). p.put) (sym same) ∙ eqb-true first.put put e
own_number_by put first w rest false e later h = later h

-- a row that is found is that of the put
pub own_number : (put : ℕ) (puts : List PutRow) (w : PutRow) → find (λ p. p.put == put) puts ≡ Some w → w.put ≡ put
own_number put [] w h = cc
own_number put (first ∷ puts) w h = own_number_by put first w (find (λ p. p.put == put) puts) (first.put == put) refl (own_number put puts w) h

pub overflows : (p : Permit) (s : State) (w : Writer) → IsQuiet s → is_writing s w.put ≡ true → IsWriterOf s (written_as w) → length w.table.rows ≡ most_fragments
    → Does p s (Overflow w.put) (rec.Aborted w.put w.key ∷ []) (Fails (ManyFragments w.put))
overflows p s w quiet writing own full =
    let o = open_put (put_of s w.put) writing in
    let here : IsAtHand s.geometry o.0 (written_as w) = own o.0 o.1 o.2 in
    DoesOverflow.aborts o.0 (record { quiet = quiet; found = o.1; is_open = o.2 }) (ap length here.cuts_are ∙ full)
    (ap (λ n. rec.Aborted n w.key ∷ []) (sym (own_number w.put s.puts o.0 o.1)) ∙ ap (λ k. rec.Aborted o.0.put k ∷ []) (sym here.key_is))
