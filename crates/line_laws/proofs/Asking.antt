-- Of which readers and puts lines ask.
use Rattle.std.proofs.Common.{◌≡◌, ℕ, zero, suc, ◌+◌, List, [], ◌∷◌, ◌++◌, length, take, drop, refl, Bool, true, false}
use Rattle.std.specs.Prelude.{Option, Some, None, if◌then◌else◌, nat_le, ◌==◌}
use Rattle.tape_base.specs.declared.keys.Key.{Key}
use Rattle.alternate_vector.specs.Field.{Field}
use Rattle.cache_model.specs.State.{State, most_fragments}
use Rattle.cache_model.specs.Verdict.{cuts_of}
use Rattle.cache_model.specs.Permit.{Intent, Fragment, Overflow}
use Rattle.cache_model.proofs.Steps.{all_append}
use Rattle.script_run.specs.Run.{Holding, Run, gathered_of}
use Rattle.script_run.specs.Asked.{asks_if_free, asks_if_has, body_intents, close_intents, closing, cut_intents, feed_intents, feeding, get_intents, put_intents, rest_behind, whole_fragments}
use Rattle.line_laws.proofs.Beside.{AllOther, IsOther}

module _ (R P : ℕ → Type 0) where
  cut_by : (put cut : ℕ) (payload : List ℕ) (rest : List Intent) (over whole : Bool) → P put → AllOther R P rest
      → AllOther R P (if over then Overflow put ∷ [] else if whole then Fragment put (cut + 1) payload ∷ rest else [])
  cut_by put cut payload rest true whole of h = (of, tt)
  cut_by put cut payload rest false true of h = (tt, h)
  cut_by put cut payload rest false false of h = tt

  cuts_other : (most fragment put cut : ℕ) (bytes : List ℕ) → P put → AllOther R P (cut_intents most fragment put cut bytes)
  cuts_other zero fragment put cut bytes of = tt
  cuts_other (suc most) fragment put cut [] of = tt
  cuts_other (suc most) fragment put cut (byte ∷ bytes) of =
      cut_by put cut (take fragment (byte ∷ bytes)) (cut_intents most fragment put (cut + 1) (drop fragment (byte ∷ bytes)))
      (cut == most_fragments) (nat_le fragment (length (byte ∷ bytes))) of (cuts_other most fragment put (cut + 1) (drop fragment (byte ∷ bytes)) of)

  closing_other : (put cut : ℕ) (rest : List ℕ) → P put → AllOther R P (close_intents put cut rest)
  closing_other put cut [] of = (of, (of, (of, tt)))
  closing_other put cut (byte ∷ bytes) of = (of, (tt, (of, (of, tt))))

  body_other : (fragment put : ℕ) (body : List ℕ) → P put → AllOther R P (body_intents fragment put body)
  body_other fragment put body of =
      all_append (IsOther R P) (feed_intents fragment put 0 body) (close_intents put (whole_fragments fragment body) (rest_behind fragment body))
      (cuts_other (length body) fragment put 0 body of) (closing_other put (whole_fragments fragment body) (rest_behind fragment body) of)

  -- ---- lines

  pub put_other : (s : State) (key : Key) (body : List ℕ) (request response : List Field) → P s.next_put → AllOther R P (put_intents s key body request response)
  put_other s key body request response of =
      (tt, all_append (IsOther R P) (body_intents s.geometry.fragment s.next_put body) _ (body_other s.geometry.fragment s.next_put body of) (of, tt))

  pub get_other : (s : State) (key : Key) (request : List Field) → R s.next_reader → AllOther R P (get_intents s key request)
  get_other s key request of = (tt, (of, (of, tt)))

  pub free_other : (o : Option Holding) (i : Intent) → IsOther R P i → AllOther R P (asks_if_free o (i ∷ []))
  free_other None i h = (h, tt)
  free_other (Some holding) i h = tt

  pub has_other : (o : Option ℕ) (i : ℕ → Intent) → ((k : ℕ) → o ≡ Some k → IsOther R P (i k))
      → AllOther R P (asks_if_has o (λ k. i k ∷ []))
  has_other None i h = tt
  has_other (Some k) i h = (h k refl, tt)

  fed_by : (b : Bool) (is : List Intent) → AllOther R P is → AllOther R P (if b then [] else is)
  fed_by true is h = tt
  fed_by false is h = h

  pub feeding_other : (run : Run) (s : State) (body : List ℕ) (o : Option ℕ) → ((put : ℕ) → o ≡ Some put → P put) → AllOther R P (asks_if_has o (feeding run s body))
  feeding_other run s body None of = tt
  feeding_other run s body (Some put) of =
      fed_by (run.streams put).sealed _ (cuts_other (length (gathered_of run s put ++ body)) s.geometry.fragment put (length (cuts_of s put)) (gathered_of run s put ++ body) (of put refl))

  pub close_other : (run : Run) (s : State) (o : Option ℕ) → ((put : ℕ) → o ≡ Some put → P put)
      → AllOther R P (asks_if_has o (closing run s))
  close_other run s None of = tt
  close_other run s (Some put) of = closing_other put (length (cuts_of s put)) (gathered_of run s put) (of put refl)
