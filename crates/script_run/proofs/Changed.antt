-- Puts that changed in a list of puts.
use Rattle.std.proofs.Common.{◌≡◌, ℕ, List, [], ◌∷◌, Bool, true, false, refl, sym, ◌∙◌, ap, subst}
use Rattle.std.specs.Prelude.{Option, Some, None, if◌then◌else◌, find, cond, option_map, ◌==◌}
use Rattle.cache_model.specs.State.{State, PutRow, change_put, put_of}
use Rattle.cache_model.proofs.Found.{none_is, number_of, same_some}
use Rattle.script_run.proofs.Values.{other_than, value_by, value_here}

-- a put, or what it was changed to
abbrev pub changed : ℕ → (PutRow → PutRow) → PutRow → PutRow
changed put f p = if p.put == put then f p else p

module _ (put : ℕ) (f : PutRow → PutRow) (keeps : (p : PutRow) → (f p).put ≡ p.put) where
  found_by : (n : ℕ) (p q : PutRow) (other after : Option PutRow) (c : Bool) → (p.put == n) ≡ c → q ≡ changed put f p → after ≡ option_map (changed put f) other
      → cond c (Some q) after ≡ option_map (changed put f) (cond c (Some p) other)
  found_by n p q other after true e is rest = ap Some is
  found_by n p q other after false e is rest = rest

  -- a put that is looked for is the one that was found before, changed
  pub found_changed : (n : ℕ) (puts : List PutRow) → find (λ q. q.put == n) (change_put put f puts) ≡ option_map (changed put f) (find (λ q. q.put == n) puts)
  found_changed n [] = refl
  found_changed n (p ∷ puts) =
      let q : PutRow = changed put f p in
      let after : Option PutRow = find (λ q. q.put == n) (change_put put f puts) in
      ap (λ m. cond (m == n) (Some q) after) (value_by (λ (x : PutRow). x.put ≡ p.put) (f p) p p.put put (λ e. keeps p) (λ e. refl))
      ∙ found_by n p q (find (λ q. q.put == n) puts) after (p.put == n) refl refl (found_changed n puts)

-- what was there before a change
pub record Was (o : Option PutRow) (g : PutRow → PutRow) (x : PutRow) : Type 0 where
  pub old : PutRow
  pub found : o ≡ Some old
  pub is : x ≡ g old

pub was_in : (o : Option PutRow) (g : PutRow → PutRow) (x : PutRow) → option_map g o ≡ Some x → Was o g x
was_in None g x h = none_is h
was_in (Some old) g x h = record { old = old; found = refl; is = same_some x (g old) (Some x) refl (sym h) }

-- ---- in a state

-- the puts of t are those of s, where that of one number is changed
pub record Changes (s t : State) (put : ℕ) (f : PutRow → PutRow) : Type 0 where
  pub puts : t.puts ≡ change_put put f s.puts
  pub keeps : (p : PutRow) → (f p).put ≡ p.put

found_after : (s t : State) (put : ℕ) (f : PutRow → PutRow) (n : ℕ) → Changes s t put f → put_of t n ≡ option_map (changed put f) (put_of s n)
found_after s t put f n c = ap (find (λ (q : PutRow). q.put == n)) c.puts ∙ found_changed put f c.keeps n s.puts

pub changed_to : (s t : State) (put : ℕ) (f : PutRow → PutRow) (n : ℕ) (w : PutRow) → Changes s t put f → put_of s n ≡ Some w → put_of t n ≡ Some (changed put f w)
changed_to s t put f n w c found = found_after s t put f n c ∙ ap (option_map (changed put f)) found

pub changed_from : (s t : State) (put : ℕ) (f : PutRow → PutRow) (n : ℕ) (x : PutRow) → Changes s t put f → put_of t n ≡ Some x → Was (put_of s n) (changed put f) x
changed_from s t put f n x c found = was_in (put_of s n) (changed put f) x (sym (found_after s t put f n c) ∙ found)

-- ---- which put it was

pub other_stays : (put : ℕ) (f : PutRow → PutRow) (w : PutRow) → (w.put ≡ put → ⊥) → changed put f w ≡ w
other_stays put f w other = other_than (f w) w w.put put other

-- what holds of a put that was changed, and of one that was not
pub either : (P : PutRow → Type 0) (put : ℕ) (f : PutRow → PutRow) (w : PutRow) → (w.put ≡ put → P (f w)) → P w → P (changed put f w)
either P put f w here there = value_by P (f w) w w.put put here (λ e. there)

-- the put of a number was found
pub found_as : (s : State) (n put : ℕ) (w : PutRow) → put_of s n ≡ Some w → w.put ≡ put → put_of s put ≡ Some w
found_as s n put w found is = subst (λ m. put_of s m ≡ Some w) (sym (number_of s n w found) ∙ is) found

pub itself : (put : ℕ) (f : PutRow → PutRow) (w : PutRow) → w.put ≡ put → changed put f w ≡ f w
itself put f w same = value_here (f w) w w.put put same
