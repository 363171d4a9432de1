-- Histories that grow, and the places of the turns under a number.
use Rattle.std.proofs.Common.{◌≡◌, ◌≢◌, ℕ, zero, suc, ◌+◌, ◌-◌, ◌<◌, ◌≤◌, Bool, true, false, cond, eqb, ltb, ne_eqb, eq-eqb, List, [], ◌∷◌, ◌++◌, length, sym, refl, ap, ◌∙◌, subst, inl, inr, ⊎_elim, arith, append-nil, append_assoc, length-append}
use Rattle.std.proofs.lemmas.Bool.Decides.{nat_tests}
use mathlib.Core.Logic.{dite}
use mathlib.Core.List.{IsPrefix, drop_last, drop_last-prefix}
use native.Mathlib.Decide.{ℕ_discrete}
use Rattle.stripe_lock.specs.declared.view.StripeTurn.{StripeTurn}
use Rattle.stripe_lock.specs.declared.view.PassTurns.{PassTurns}
use Rattle.stripe_lock.specs.History.{places_from, places_of, HasJust, with_places, OwnsNumber, AreUnder, AreBelow, unused, longer, first_number, first_places}
use Rattle.stripe_lock.specs.Rule.{LockCourse, Owns}

abbrev Turns : Type 0 → Type 0
Turns R = List (StripeTurn R)

cond-append : (b : Bool) (k : ℕ) (xs ys : List ℕ) → cond b (k ∷ xs ++ ys) (xs ++ ys) ≡ cond b (k ∷ xs) xs ++ ys
cond-append true k xs ys = refl
cond-append false k xs ys = refl

length-drop_last : {A : Type 0} (l : List A) → length (drop_last l) ≡ length l - 1
length-drop_last [] = refl
length-drop_last (x ∷ []) = refl
length-drop_last (x ∷ y ∷ l) = let h = length-drop_last (y ∷ l) in omega arith

module _ {R : Type 0} where
  places_from-snoc : (p k : ℕ) (log : Turns R) (t : StripeTurn R) → places_from p k (log ++ t ∷ []) ≡ places_from p k log ++ cond (eqb t.worker p) ((k + length log) ∷ []) []
  places_from-snoc p k [] t = ap (λ (n : ℕ). cond (eqb t.worker p) (n ∷ []) []) (omega arith)
  places_from-snoc p k (u ∷ log) t =
      ap (λ l. cond (eqb u.worker p) (k ∷ l) l) (places_from-snoc p (suc k) log t)
      ∙ (cond-append (eqb u.worker p) k (places_from p (suc k) log) (cond (eqb t.worker p) ((suc k + length log) ∷ []) [])
      ∙ ap (λ (n : ℕ). cond (eqb u.worker p) (k ∷ places_from p (suc k) log) (places_from p (suc k) log) ++ cond (eqb t.worker p) (n ∷ []) []) (omega arith))

  places_from-append : (p k : ℕ) (a b : Turns R) → places_from p k (a ++ b) ≡ places_from p k a ++ places_from p (k + length a) b
  places_from-append p k [] b = ap (λ (n : ℕ). places_from p n b) (omega arith)
  places_from-append p k (u ∷ a) b = ap (λ l. cond (eqb u.worker p) (k ∷ l) l) (places_from-append p (suc k) a b)
      ∙ (cond-append (eqb u.worker p) k (places_from p (suc k) a) (places_from p (suc k + length a) b)
      ∙ ap (λ (n : ℕ). cond (eqb u.worker p) (k ∷ places_from p (suc k) a) (places_from p (suc k) a) ++ places_from p n b) (omega arith))

  -- where two histories have the same places, so has one between them
  places_between : (p : ℕ) (a b log : Turns R) → IsPrefix a b → IsPrefix b log → places_of p a ≡ places_of p log → places_of p a ≡ places_of p b
  places_between p a b log h m same = let x = places_from p (0 + length a) h.0 in let y = places_from p (0 + length b) m.0 in
      let one : places_of p b ≡ places_of p a ++ x = ap (places_of p) (sym h.1) ∙ places_from-append p 0 a h.0 in
      let two : places_of p log ≡ places_of p b ++ y = ap (places_of p) (sym m.1) ∙ places_from-append p 0 b m.0 in
      let none : length x ≡ 0 = let i = ap length one in let j = ap length two in let s = ap length same in omega (arith, length-append (places_of p a) x, length-append (places_of p b) y) in
      sym (one ∙ (ap (λ l. places_of p a ++ l) (empty x none) ∙ append-nil (places_of p a)))
    where
      empty : (l : List ℕ) → length l ≡ 0 → l ≡ []
      empty [] e = refl
      empty (z ∷ l) e = absurd (omega arith)

  -- what is known of a history holds of one between it and a longer one of which it holds too
  pub just_between : (a b log : Turns R) (ks : List PassTurns) → IsPrefix a b → IsPrefix b log → HasJust a ks → HasJust log ks → HasJust b ks
  just_between a b log [] h m f g = tt
  just_between a b log (k ∷ ks) h m f g = (f.0 ∙ places_between k.number a b log h m (sym f.0 ∙ g.0), just_between a b log ks h m f.1 g.1)

  -- of the numbers of two passes
  pub just_both : (a a' b log : Turns R) (ks ls : List PassTurns) → IsPrefix a b → IsPrefix a' b → IsPrefix b log → HasJust a ks → HasJust a' ls → HasJust log (ks ++ ls) → HasJust b (ks ++ ls)
  just_both a a' b log [] ls h h' m f f' g = just_between a' b log ls h' m f' g
  just_both a a' b log (k ∷ ks) ls h h' m f f' g = (f.0 ∙ places_between k.number a b log h m (sym f.0 ∙ g.0), just_both a a' b log ks ls h h' m f.1 f' g.1)

  -- a turn under another number
  pub places-other : (p : ℕ) (log : Turns R) (t : StripeTurn R) → t.worker ≢ p → places_of p (log ++ t ∷ []) ≡ places_of p log
  places-other p log t other = places_from-snoc p 0 log t ∙ (ap (λ b. places_of p log ++ cond b ((0 + length log) ∷ []) []) (ne_eqb t.worker p other) ∙ append-nil (places_of p log))

  -- a turn under this number
  pub places-own : (p : ℕ) (log : Turns R) (t : StripeTurn R) → t.worker ≡ p → places_of p (log ++ t ∷ []) ≡ places_of p log ++ length log ∷ []
  places-own p log t own = places_from-snoc p 0 log t ∙ (ap (λ b. places_of p log ++ cond b ((0 + length log) ∷ []) []) (eq-eqb t.worker p own) ∙ ap (λ (n : ℕ). places_of p log ++ n ∷ []) (omega arith))

  pub below-snoc : (seats : ℕ) (log : Turns R) (t : StripeTurn R) → AreBelow seats log → t.worker < seats → AreBelow seats (log ++ t ∷ [])
  below-snoc seats [] t b h = (h, tt)
  below-snoc seats (u ∷ log) t b h = (b.0, below-snoc seats log t b.1 h)

  pub prefix_same : (log : Turns R) → IsPrefix log log
  prefix_same log = ([], append-nil log)

  pub prefix_more : (seen log log' : Turns R) → IsPrefix seen log → IsPrefix log log' → IsPrefix seen log'
  prefix_more seen log log' h m = (h.0 ++ m.0, sym (append_assoc seen h.0 m.0) ∙ (ap (λ (l : Turns R). l ++ m.0) h.1 ∙ m.1))

  -- of two beginnings of one list the shorter begins the longer
  prefix_of : (a b r s : Turns R) → a ++ r ≡ b ++ s → length a ≤ length b → IsPrefix a b
  prefix_of [] b r s e l = (b, refl)
  prefix_of (x ∷ a) [] r s e l = absurd (omega arith)
  prefix_of (x ∷ a) (y ∷ b) r s e l = let head : x ≡ y = cc in let tail : a ++ r ≡ b ++ s = cc in let h = prefix_of a b r s tail (omega arith) in (h.0, λ i. head i ∷ h.1 i)

  -- of two beginnings, of which one is at most a turn shorter, that one begins with all but the last turn of the other
  pub but_last : (seen log told : Turns R) → IsPrefix seen log → IsPrefix told log → length log ≤ length told + 1 → IsPrefix (drop_last seen) told
  but_last seen log told h m near = let p = prefix_more (drop_last seen) seen log (drop_last-prefix seen) h in
      let short : length (drop_last seen) ≤ length told = let all = ap length h.1 in let sum = length-append seen h.0 in omega (arith, length-drop_last seen) in prefix_of (drop_last seen) told p.0 m.0 (p.1 ∙ sym m.1) short

  pub longer_begins : (log a b : Turns R) → IsPrefix a log → IsPrefix b log → IsPrefix (longer a b) log
  longer_begins log a b h k = go (ltb (length a) (length b))
    where
      go : (t : Bool) → IsPrefix (cond t b a) log
      go true = k
      go false = h

  pub both_begin : (log a b : Turns R) → IsPrefix a log → IsPrefix b log → IsPrefix a (longer a b) × IsPrefix b (longer a b)
  both_begin log a b h k = go (ltb (length a) (length b)) refl
    where
      go : (t : Bool) → ltb (length a) (length b) ≡ t → IsPrefix a (cond t b a) × IsPrefix b (cond t b a)
      go true e = let l : length a ≤ length b = grind (arith, nat_tests) in (prefix_of a b h.0 k.0 (h.1 ∙ sym k.1) l, prefix_same b)
      go false e = let l : length b ≤ length a = grind (arith, nat_tests) in (prefix_same a, prefix_of b a k.0 h.0 (k.1 ∙ sym h.1) l)

  -- what a view owns, where the course and the view are other
  pub owns_moved : (seats : ℕ) (c c' : LockCourse R) (j j' : ℕ) (ks : List PassTurns) → ((p : ℕ) → OwnsNumber ks p → c.owner p ≡ j → (c'.owner p ≡ j') × (places_of p c.log ≡ places_of p c'.log)) → Owns seats c j ks → Owns seats c' j' ks
  owns_moved seats c c' j j' [] f o = tt
  owns_moved seats c c' j j' (k ∷ ks) f o = let h = f k.number (inl refl) o.1 in (o.0, h.0, o.2 ∙ h.1, owns_moved seats c c' j j' ks (λ p has. f p (inr has)) o.3)

  -- with the places of another history
  pub owns_noted : (seats : ℕ) (c c' : LockCourse R) (j : ℕ) (ks : List PassTurns) → c'.owner ≡ c.owner → Owns seats c j ks → Owns seats c' j (with_places c'.log ks)
  owns_noted seats c c' j [] same o = tt
  owns_noted seats c c' j (k ∷ ks) same o = (o.0, ap (λ (f : ℕ → ℕ). f k.number) same ∙ o.1, refl, owns_noted seats c c' j ks same o.3)

  pub owns_owner : (seats : ℕ) (c : LockCourse R) (j p : ℕ) (ks : List PassTurns) → Owns seats c j ks → OwnsNumber ks p → (p < seats) × (c.owner p ≡ j)
  owns_owner seats c j p [] o h = absurd h
  owns_owner seats c j p (k ∷ ks) o h = ⊎_elim (λ (e : k.number ≡ p). (subst (λ n. n < seats) e o.0, ap c.owner (sym e) ∙ o.1)) (owns_owner seats c j p ks o.3) h

  pub owns_just : (seats : ℕ) (c : LockCourse R) (j : ℕ) (ks : List PassTurns) → Owns seats c j ks → HasJust c.log ks
  owns_just seats c j [] o = tt
  owns_just seats c j (k ∷ ks) o = (o.2, owns_just seats c j ks o.3)

  pub owns-append : (seats : ℕ) (c : LockCourse R) (j : ℕ) (ks ls : List PassTurns) → Owns seats c j ks → Owns seats c j ls → Owns seats c j (ks ++ ls)
  owns-append seats c j [] ls o q = q
  owns-append seats c j (k ∷ ks) ls o q = (o.0, o.1, o.2, owns-append seats c j ks ls o.3 q)

  pub owns_unused : (seats k n : ℕ) (c : LockCourse R) → c.log ≡ [] → c.owner ≡ (λ _. 0) → k + n ≤ seats → Owns seats c 0 (unused k n)
  owns_unused seats k zero c blank one l = tt
  owns_unused seats k (suc n) c blank one l = (omega arith, ap (λ (f : ℕ → ℕ). f k) one, ap (places_of k) (sym blank), owns_unused seats (suc k) n c blank one (omega arith))

  pub under_all : (seats : ℕ) (ks : List PassTurns) (log : Turns R) → ((p : ℕ) → p < seats → OwnsNumber ks p) → AreBelow seats log → AreUnder ks log
  under_all seats ks [] h b = tt
  under_all seats ks (t ∷ ts) h b = (h t.worker b.0, under_all seats ks ts h b.1)

  pub has_noted : (log : Turns R) (p : ℕ) (ks : List PassTurns) → OwnsNumber ks p → OwnsNumber (with_places log ks) p
  has_noted log p [] h = absurd h
  has_noted log p (k ∷ ks) h = ⊎_elim inl (λ (r : OwnsNumber ks p). inr (has_noted log p ks r)) h

  pub length-noted : (log : Turns R) (ks : List PassTurns) → length (with_places log ks) ≡ length ks
  length-noted log [] = refl
  length-noted log (k ∷ ks) = ap suc (length-noted log ks)

  pub first_number-noted : (log : Turns R) (ks : List PassTurns) → first_number (with_places log ks) ≡ first_number ks
  first_number-noted log [] = refl
  first_number-noted log (k ∷ ks) = refl

  pub noted_same : (log : Turns R) (ks : List PassTurns) → HasJust log ks → with_places log ks ≡ ks
  noted_same log [] f = refl
  noted_same log (k ∷ ks) f = λ i. record { number = k.number; places = sym f.0 i } ∷ noted_same log ks f.1 i

  pub just_noted : (log : Turns R) (ks : List PassTurns) → HasJust log (with_places log ks)
  just_noted log [] = tt
  just_noted log (k ∷ ks) = (refl, just_noted log ks)

  pub first_places-noted : (log : Turns R) (t : StripeTurn R) (ks : List PassTurns) → 0 < length ks → t.worker ≡ first_number ks → HasJust log ks
      → first_places (with_places (log ++ t ∷ []) ks) ≡ first_places ks ++ length log ∷ []
  first_places-noted log t [] h e f = absurd (omega arith)
  first_places-noted log t (k ∷ ks) h e f = places-own k.number log t e ∙ ap (λ l. l ++ length log ∷ []) (sym f.0)

pub has_first : (ks : List PassTurns) → 0 < length ks → OwnsNumber ks (first_number ks)
has_first [] h = absurd (omega arith)
has_first (k ∷ ks) h = inl refl

pub has_some : (p : ℕ) (ks : List PassTurns) → OwnsNumber ks p → 0 < length ks
has_some p [] h = absurd h
has_some p (k ∷ ks) h = omega arith

pub has_left : (p : ℕ) (ks ls : List PassTurns) → OwnsNumber ks p → OwnsNumber (ks ++ ls) p
has_left p [] ls h = absurd h
has_left p (k ∷ ks) ls h = ⊎_elim inl (λ (r : OwnsNumber ks p). inr (has_left p ks ls r)) h

pub has_right : (p : ℕ) (ks ls : List PassTurns) → OwnsNumber ls p → OwnsNumber (ks ++ ls) p
has_right p [] ls h = h
has_right p (k ∷ ks) ls h = inr (has_right p ks ls h)

pub has_unused : (p k n : ℕ) → k ≤ p → p < k + n → OwnsNumber (unused k n) p
has_unused p k zero l h = absurd (omega arith)
has_unused p k (suc n) l h = dite (ℕ_discrete k p) inl (λ ne. inr (has_unused p (suc k) n (omega arith) (omega arith)))

pub unused_above : (p k n : ℕ) → OwnsNumber (unused k n) p → k ≤ p
unused_above p k zero h = absurd h
unused_above p k (suc n) h = ⊎_elim (λ (e : k ≡ p). omega arith) (λ (r : OwnsNumber (unused (suc k) n) p). let l = unused_above p (suc k) n r in omega arith) h

pub length-unused : (k n : ℕ) → length (unused k n) ≡ n
length-unused k zero = refl
length-unused k (suc n) = ap suc (length-unused (suc k) n)

pub some_more : (ks ls : List PassTurns) → 0 < length ks → 0 < length (ks ++ ls)
some_more ks ls h = omega (arith, length-append ks ls)
