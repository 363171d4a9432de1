-- The puts that are known, each once, and what is forgotten of them twice.
use Rattle.std.proofs.Common.{◌≡◌, ℕ, ◌+◌, ◌<◌, ◌≤◌, zero, suc, List, [], ◌∷◌, ◌++◌, refl, sym, ◌∙◌, ap, arith, inl, inr, Bool, true, false, cond, length-take}
use Rattle.std.specs.Prelude.{◌≢◌, Option, Some, None, if◌then◌else◌, filter, map, fold, drop, take, length, not, ◌==◌, ◌&&◌, ◌||◌, nat_le, min, option_map, unwrap_or}
use Rattle.std.specs.List.{list_any}
use Rattle.std.specs.Map.{lookup}
use Rattle.std.proofs.lemmas.Bool.{eqb-true, eqb-false, eq-eqb, leb-true, leb-false, and_parts, or_cases, or_left, or_right}
use Rattle.std.proofs.lemmas.List.Folds.{list_any-append}
use Rattle.std.proofs.lemmas.Map.Views.{any-filter_same}
use Rattle.tape_base.specs.declared.keys.Key.{Key}
use Rattle.tape_base.specs.declared.pieces.PieceId.{PieceId}
use Rattle.cache_model.specs.declared.cause.Cause.{Cause}
use Rattle.cache_model.specs.State.{State, Row, PutRow, LastVector, last_vector, live_rows}
use Rattle.cache_model.specs.Verdict.{is_open}
use Rattle.cache_model.specs.Forgetting.{forget, forgotten_puts, has_alternate, has_piece, has_reader, has_writer, is_among_puts, is_dead, is_last_of, is_named, known_puts, put_of_last, puts_told, with_number, without_puts}
use Rattle.cache_model.proofs.Found.{no_truth}
use Rattle.session_laws.specs.ForgetLaws.{AreFalling}
use Rattle.session_laws.proofs.Forgetting.{AreDead, any_dropped, dead_found, forgotten_is_dead, keeps_put, rows_stay}

-- ---- the numbers of the puts that are known

falling-bound : (low high : ℕ) (ns : List ℕ) → low ≤ high → AreFalling low ns → AreFalling high ns
falling-bound low high [] h f = tt
falling-bound low high (n ∷ ns) h f = let below : n < low = f.0 in (omega (arith, below), f.1)

falling_by : (n m bound : ℕ) (ms : List ℕ) (b c : Bool) → (n == m) ≡ b → nat_le m n ≡ c → n < bound → m < bound → AreFalling m ms → (n < m → AreFalling m (with_number n ms))
    → AreFalling bound (if b then m ∷ ms else if c then n ∷ m ∷ ms else m ∷ with_number n ms)
falling_by n m bound ms true c e k h j f rest = (j, f)
falling_by n m bound ms false true e k h j f rest =
    let from : m ≤ n = leb-true m n k in
    let other : n ≢ m = eqb-false n m e in
    (h, (omega (arith, from, other), f))
falling_by n m bound ms false false e k h j f rest = (j, rest (leb-false m n k))

falling_with : (n bound : ℕ) (ns : List ℕ) → n < bound → AreFalling bound ns → AreFalling bound (with_number n ns)
falling_with n bound [] h f = (h, tt)
falling_with n bound (m ∷ ms) h f = falling_by n m bound ms (n == m) (nat_le m n) refl refl h f.0 f.1 (λ less. falling_with n m ms less f.1)

falling_all : (numbers ns : List ℕ) (bound : ℕ) → AreFalling bound numbers → (top : ℕ) × AreFalling top (fold (λ known n. with_number n known) numbers ns)
falling_all numbers [] bound f = (bound, f)
falling_all numbers (n ∷ ns) bound f =
    falling_all (with_number n numbers) ns (n + bound + 1) (falling_with n (n + bound + 1) numbers (omega arith) (falling-bound bound (n + bound + 1) numbers (omega arith) f))

pub known_are_falling : (s : State) → (bound : ℕ) × AreFalling bound (known_puts s)
known_are_falling s = falling_all [] (puts_told s) 0 tt

-- ---- lists that fall

past : (y z : ℕ) (ys : List ℕ) → z < y → is_among_puts (y ∷ ys) z ≡ true → is_among_puts ys z ≡ true
past y z ys less m = elim (or_cases (y == z) (is_among_puts ys z) m) [
  | inl here ↦ let same : y ≡ z = eqb-true y z here in absurd (omega (arith, less, same))
  | inr there ↦ there
]

below_head : (top z : ℕ) (ns : List ℕ) → AreFalling top ns → is_among_puts ns z ≡ true → z < top
below_head top z [] f m = no_truth (sym m)
below_head top z (n ∷ ns) f m = elim (or_cases (n == z) (is_among_puts ns z) m) [
  | inl here ↦ let same : n ≡ z = eqb-true n z here in let under : n < top = f.0 in omega (arith, same, under)
  | inr there ↦ let under : n < top = f.0 in let less : z < n = below_head n z ns f.1 there in omega (arith, under, less)
]

abbrev AreWithin : List ℕ → List ℕ → Type 0
AreWithin xs ys = (z : ℕ) → is_among_puts xs z ≡ true → is_among_puts ys z ≡ true

head_within : (x : ℕ) (xs ys : List ℕ) → AreWithin (x ∷ xs) ys → is_among_puts ys x ≡ true
head_within x xs ys within = within x (or_left (x == x) (is_among_puts xs x) (eq-eqb x x refl))

at_most_head : (x z : ℕ) (xs : List ℕ) → AreFalling x xs → is_among_puts (x ∷ xs) z ≡ true → z ≤ x
at_most_head x z xs f m = elim (or_cases (x == z) (is_among_puts xs z) m) [
  | inl here ↦ let same : x ≡ z = eqb-true x z here in omega (arith, same)
  | inr there ↦ let less : z < x = below_head x z xs f there in omega (arith, less)
]

tail_within : (x y : ℕ) (xs ys : List ℕ) → AreFalling x xs → y ≡ x → AreWithin (x ∷ xs) (y ∷ ys) → AreWithin xs ys
tail_within x y xs ys f same within z m =
    let less : z < x = below_head x z xs f m in
    past y z ys (omega (arith, less, same)) (within z (or_right (x == z) (is_among_puts xs z) m))

all_within : (x y : ℕ) (xs ys : List ℕ) → AreFalling x xs → x < y → AreWithin (x ∷ xs) (y ∷ ys) → AreWithin (x ∷ xs) ys
all_within x y xs ys f less within z m =
    let most : z ≤ x = at_most_head x z xs f m in
    past y z ys (omega (arith, less, most)) (within z m)

-- a list that falls is no longer than another one that has all of it
no_longer : (xs ys : List ℕ) (a b : ℕ) → AreFalling a xs → AreFalling b ys → AreWithin xs ys → length xs ≤ length ys
no_longer [] ys a b f g within = omega arith
no_longer (x ∷ xs) [] a b f g within = no_truth (sym (head_within x xs [] within))
no_longer (x ∷ xs) (y ∷ ys) a b f g within = elim (or_cases (y == x) (is_among_puts ys x) (head_within x xs (y ∷ ys) within)) [
  | inl here ↦
      let fewer : length xs ≤ length ys = no_longer xs ys x y f.1 g.1 (tail_within x y xs ys f.1 (eqb-true y x here) within) in
      omega (arith, fewer)
  | inr there ↦
      let less : x < y = below_head y x ys g.1 there in
      let fewer : length (x ∷ xs) ≤ length ys = no_longer (x ∷ xs) ys a y f g.1 (all_within x y xs ys f.1 less within) in
      omega (arith, fewer)
]

module _ (dead : ℕ → Bool) where
  filtered_by : (top n : ℕ) (ns : List ℕ) (b : Bool) → n < top → AreFalling n (filter dead ns) → AreFalling top (cond b (n ∷ filter dead ns) (filter dead ns))
  filtered_by top n ns true h f = (h, f)
  filtered_by top n ns false h f = falling-bound n top (filter dead ns) (omega (arith, h)) f

  falling-filter : (top : ℕ) (ns : List ℕ) → AreFalling top ns → AreFalling top (filter dead ns)
  falling-filter top [] f = tt
  falling-filter top (n ∷ ns) f = filtered_by top n ns (dead n) f.0 (falling-filter n ns f.1)

falling-take : (k top : ℕ) (ns : List ℕ) → AreFalling top ns → AreFalling top (take k ns)
falling-take zero top ns f = tt
falling-take (suc k) top [] f = tt
falling-take (suc k) top (n ∷ ns) f = (f.0, falling-take k n ns f.1)

-- what is in a list and not behind its first ones is one of these
among_first : (k z : ℕ) (ns : List ℕ) → is_among_puts ns z ≡ true → is_among_puts (drop k ns) z ≡ false → is_among_puts (take k ns) z ≡ true
among_first zero z ns m h = no_truth (sym m ∙ h)
among_first (suc k) z [] m h = m
among_first (suc k) z (n ∷ ns) m h = elim (or_cases (n == z) (is_among_puts ns z) m) [
  | inl here ↦ or_left (n == z) (is_among_puts (take k ns) z) here
  | inr there ↦ or_right (n == z) (is_among_puts (take k ns) z) (among_first k z ns there h)
]

few_dropped : (k : ℕ) (ns : List ℕ) → length ns ≤ k → drop k ns ≡ []
few_dropped zero [] h = refl
few_dropped zero (n ∷ ns) h = absurd (omega (arith, h))
few_dropped (suc k) [] h = refl
few_dropped (suc k) (n ∷ ns) h = few_dropped k ns (omega (arith, h))

-- ---- what is in the list of the puts that are known

same_twice : (b c : Bool) → (b || c) ≡ (b || (b || c))
same_twice true c = refl
same_twice false c = refl

swapped : (a b c : Bool) → (a || (b || c)) ≡ (b || (a || c))
swapped true true c = refl
swapped true false c = refl
swapped false b c = refl

turned : (a b c : Bool) → (a || (b || c)) ≡ ((b || a) || c)
turned true true c = refl
turned true false c = refl
turned false true c = refl
turned false false c = refl

or_none : (b : Bool) → (b || false) ≡ b
or_none true = refl
or_none false = refl

module _ (z : ℕ) where
  with_by : (n m : ℕ) (ms : List ℕ) (b c : Bool) → (n == m) ≡ b → is_among_puts (with_number n ms) z ≡ (n == z || is_among_puts ms z)
      → is_among_puts (if b then m ∷ ms else if c then n ∷ m ∷ ms else m ∷ with_number n ms) z ≡ (n == z || (m == z || is_among_puts ms z))
  with_by n m ms true c e rest =
      let same : n ≡ m = eqb-true n m e in
      same_twice (m == z) (is_among_puts ms z) ∙ ap (λ k. k == z || (m == z || is_among_puts ms z)) (sym same)
  with_by n m ms false true e rest = refl
  with_by n m ms false false e rest = ap (λ b. m == z || b) rest ∙ swapped (m == z) (n == z) (is_among_puts ms z)

  among_with : (n : ℕ) (ns : List ℕ) → is_among_puts (with_number n ns) z ≡ (n == z || is_among_puts ns z)
  among_with n [] = refl
  among_with n (m ∷ ms) = with_by n m ms (n == m) (nat_le m n) refl (among_with n ms)

  among_all : (numbers ns : List ℕ)
      → is_among_puts (fold (λ known n. with_number n known) numbers ns) z ≡ (is_among_puts ns z || is_among_puts numbers z)
  among_all numbers [] = refl
  among_all numbers (n ∷ ns) =
      among_all (with_number n numbers) ns
      ∙ (ap (λ b. is_among_puts ns z || b) (among_with n numbers) ∙ turned (is_among_puts ns z) (n == z) (is_among_puts numbers z))

  -- they are those that are told
  known_are_told : (s : State) → is_among_puts (known_puts s) z ≡ is_among_puts (puts_told s) z
  known_are_told s = among_all [] (puts_told s) ∙ or_none (is_among_puts (puts_told s) z)

-- ---- what is told behind forgetting

-- all of them are told, and none of them is one of these puts
abbrev AreOthers : List ℕ → List ℕ → List ℕ → Type 0
AreOthers puts xs ys = (z : ℕ) → is_among_puts xs z ≡ true → (is_among_puts ys z ≡ true) × (is_among_puts puts z ≡ false)

others_append : (puts xs ys vs ws : List ℕ) → AreOthers puts xs vs → AreOthers puts ys ws → AreOthers puts (xs ++ ys) (vs ++ ws)
others_append puts xs ys vs ws f g z m =
    elim (or_cases (is_among_puts xs z) (is_among_puts ys z) (sym (list_any-append (λ n. n == z) xs ys) ∙ m)) [
      | inl here ↦ let h = f z here in (list_any-append (λ n. n == z) vs ws ∙ or_left (is_among_puts vs z) (is_among_puts ws z) h.0, h.1)
      | inr there ↦ let h = g z there in (list_any-append (λ n. n == z) vs ws ∙ or_right (is_among_puts vs z) (is_among_puts ws z) h.0, h.1)
    ]

module _ {X : Type 0} (puts : List ℕ) (number : X → ℕ) (keep : X → Bool) (kept : (x : X) → keep x ≡ true → is_among_puts puts (number x) ≡ false) where
  others_by : (z : ℕ) (x : X) (xs : List X) (b : Bool) → keep x ≡ b → (is_among_puts (map number (filter keep xs)) z ≡ true → (is_among_puts (map number xs) z ≡ true) × (is_among_puts puts z ≡ false))
      → is_among_puts (map number (cond b (x ∷ filter keep xs) (filter keep xs))) z ≡ true → ((number x == z || is_among_puts (map number xs) z) ≡ true) × (is_among_puts puts z ≡ false)
  others_by z x xs true e rest m = elim (or_cases (number x == z) (is_among_puts (map number (filter keep xs)) z) m) [
    | inl here ↦ (or_left (number x == z) (is_among_puts (map number xs) z) here, ap (is_among_puts puts) (sym (eqb-true (number x) z here)) ∙ kept x e)
    | inr there ↦ let h = rest there in (or_right (number x == z) (is_among_puts (map number xs) z) h.0, h.1)
  ]
  others_by z x xs false e rest m = let h = rest m in (or_right (number x == z) (is_among_puts (map number xs) z) h.0, h.1)

  others_part : (xs : List X) → AreOthers puts (map number (filter keep xs)) (map number xs)
  others_part [] z m = no_truth (sym m)
  others_part (x ∷ xs) z m = others_by z x xs (keep x) refl (others_part xs z) m

not_either : (a b : Bool) → not (a || b) ≡ true → b ≡ false
not_either true b h = no_truth (sym h)
not_either false true h = no_truth (sym h)
not_either false false h = refl

was_not : (b : Bool) → not b ≡ true → b ≡ false
was_not true h = no_truth (sym h)
was_not false h = refl

told_are_others : (puts : List ℕ) (s : State) → AreOthers puts (puts_told (without_puts puts s)) (puts_told s)
told_are_others puts s =
    others_append puts _ _ _ _
    (others_append puts _ _ _ _
    (others_append puts _ _ _ _
    (others_append puts _ _ _ _
    (others_append puts _ _ _ _ (others_part puts (λ (p : PutRow). p.put) _ (λ p. was_not (is_among_puts puts p.put)) s.puts)
    (others_part puts (λ (row : Row). row.id.put) _ (λ row. was_not (is_among_puts puts row.id.put)) s.rows))
    (others_part puts (λ (p : ℕ × PieceId). p.1.put) _ (λ p. was_not (is_among_puts puts p.1.put)) s.places))
    (others_part puts (λ (l : PieceId × Cause). l.0.put) _ (λ l. was_not (is_among_puts puts l.0.put)) s.lost))
    (others_part puts (λ (v : Key × LastVector). put_of_last v.1) _ (λ v. not_either (is_last_of puts s v.0) (is_among_puts puts (put_of_last v.1))) s.vectors))
    (others_part puts (λ (a : Key × ℕ). a.1) _ (λ a. was_not (is_among_puts puts a.1)) s.aborts)

-- ---- what is dead behind forgetting was dead

module _ (s : State) (puts : List ℕ) (dead : AreDead s puts) (z : ℕ) (k : is_among_puts puts z ≡ false) where
  abbrev dead_by : Bool → List Row → Bool
  dead_by writes rows =
      not (writes || (has_reader s z || (has_piece rows z || (is_named s z || list_any (λ (row : Row). has_alternate (unwrap_or row.alternates []) z) rows))))

  writer_stays : has_writer (without_puts puts s) z ≡ has_writer s z
  writer_stays = any-filter_same (λ (p : PutRow). p.put == z && is_open p) (keeps_put s puts dead) true (λ p is.
      ap not (ap (is_among_puts puts) (eqb-true p.put z (and_parts (p.put == z) (is_open p) is).0) ∙ k)) s.puts

  dead_stays : is_dead (without_puts puts s) z ≡ is_dead s z
  dead_stays = ap (λ b. dead_by b (live_rows (without_puts puts s))) writer_stays ∙ ap (dead_by (has_writer s z)) (rows_stay s puts dead)

module _ (dead : ℕ → Bool) (z : ℕ) where
  among_filter_by : (n : ℕ) (ns : List ℕ) (b : Bool) → dead n ≡ b → dead z ≡ true → (n == z || is_among_puts ns z) ≡ true → (is_among_puts ns z ≡ true → is_among_puts (filter dead ns) z ≡ true)
      → is_among_puts (cond b (n ∷ filter dead ns) (filter dead ns)) z ≡ true
  among_filter_by n ns true e h m rest = elim (or_cases (n == z) (is_among_puts ns z) m) [
    | inl here ↦ or_left (n == z) (is_among_puts (filter dead ns) z) here
    | inr there ↦ or_right (n == z) (is_among_puts (filter dead ns) z) (rest there)
  ]
  among_filter_by n ns false e h m rest = elim (or_cases (n == z) (is_among_puts ns z) m) [
    | inl here ↦ no_truth (sym h ∙ (ap dead (sym (eqb-true n z here)) ∙ e))
    | inr there ↦ rest there
  ]

  among_filter : (ns : List ℕ) → dead z ≡ true → is_among_puts ns z ≡ true → is_among_puts (filter dead ns) z ≡ true
  among_filter [] h m = no_truth (sym m)
  among_filter (n ∷ ns) h m = among_filter_by n ns (dead n) refl h m (among_filter ns h)

  filter_among_by : (n : ℕ) (ns : List ℕ) (b : Bool) → (is_among_puts (filter dead ns) z ≡ true → is_among_puts ns z ≡ true)
      → is_among_puts (cond b (n ∷ filter dead ns) (filter dead ns)) z ≡ true → (n == z || is_among_puts ns z) ≡ true
  filter_among_by n ns true rest m = elim (or_cases (n == z) (is_among_puts (filter dead ns) z) m) [
    | inl here ↦ or_left (n == z) (is_among_puts ns z) here
    | inr there ↦ or_right (n == z) (is_among_puts ns z) (rest there)
  ]
  filter_among_by n ns false rest m = or_right (n == z) (is_among_puts ns z) (rest m)

  filter_among : (ns : List ℕ) → is_among_puts (filter dead ns) z ≡ true → is_among_puts ns z ≡ true
  filter_among [] m = m
  filter_among (n ∷ ns) m = filter_among_by n ns (dead n) (filter_among ns) m

module _ (cap : ℕ) (s : State) where
  abbrev gone : List ℕ
  gone = forgotten_puts cap s

  abbrev dead_before : List ℕ
  dead_before = filter (is_dead s) (known_puts s)

  abbrev dead_behind : List ℕ
  dead_behind = filter (is_dead (forget cap s)) (known_puts (forget cap s))

  behind_by : (z : ℕ) → is_dead (forget cap s) z ≡ true → (is_among_puts (puts_told s) z ≡ true) × (is_among_puts gone z ≡ false) → is_among_puts (take cap dead_before) z ≡ true
  behind_by z d m = among_first cap z dead_before
      (among_filter (is_dead s) z (known_puts s) (sym (dead_stays s gone (forgotten_is_dead cap s) z m.1) ∙ d) (known_are_told z s ∙ m.0)) m.1

  -- what is dead behind it was one of those that were kept
  behind_within : AreWithin dead_behind (take cap dead_before)
  behind_within z m = behind_by z (dead_found (is_dead (forget cap s)) z (known_puts (forget cap s)) m)
      (told_are_others gone s z (sym (known_are_told z (forget cap s)) ∙ filter_among (is_dead (forget cap s)) z (known_puts (forget cap s)) m))

  pub few_are_dead : length dead_behind ≤ cap
  few_are_dead =
      let before = known_are_falling s in
      let behind = known_are_falling (forget cap s) in
      let fewer : length dead_behind ≤ length (take cap dead_before) =
      no_longer dead_behind (take cap dead_before) behind.0 before.0 (falling-filter (is_dead (forget cap s)) behind.0 (known_puts (forget cap s)) behind.1)
      (falling-take cap before.0 dead_before (falling-filter (is_dead s) before.0 (known_puts s) before.1)) behind_within in
      let most : length (take cap dead_before) ≡ min cap (length dead_before) = length-take cap dead_before in
      omega (arith, fewer, most)

  none_behind : forgotten_puts cap (forget cap s) ≡ []
  none_behind = few_dropped cap dead_behind few_are_dead

filter_all : {X : Type 0} (keep : X → Bool) (xs : List X) → ((x : X) → keep x ≡ true) → filter keep xs ≡ xs
filter_all keep [] h = refl
filter_all keep (x ∷ xs) h = rw (h x) (ap (λ ys. x ∷ ys) (filter_all keep xs h))

no_place : (o : Option PieceId) → not (unwrap_or (option_map (λ (id : PieceId). is_among_puts [] id.put) o) false) ≡ true
no_place (Some id) = refl
no_place None = refl

no_last : (o : Option LastVector) → not (unwrap_or (option_map (λ last. is_among_puts [] (put_of_last last)) o) false || false) ≡ true
no_last (Some last) = refl
no_last None = refl

-- where no put is forgotten all is as before
nothing_goes : (s : State) → without_puts [] s ≡ s
nothing_goes s =
    let rows : (without_puts [] s).rows ≡ s.rows = filter_all _ s.rows (λ row. refl) in
    let places : (without_puts [] s).places ≡ s.places = filter_all _ s.places (λ p. refl) in
    let unsaved : (without_puts [] s).unsaved ≡ s.unsaved = filter_all _ s.unsaved (λ place. no_place (lookup (λ p. p == place) s.places)) in
    let lost : (without_puts [] s).lost ≡ s.lost = filter_all _ s.lost (λ l. refl) in
    let vectors : (without_puts [] s).vectors ≡ s.vectors = filter_all _ s.vectors (λ v. no_last (last_vector s v.0)) in
    let counts : (without_puts [] s).counts ≡ s.counts = filter_all _ s.counts (λ c. refl) in
    let puts : (without_puts [] s).puts ≡ s.puts = filter_all _ s.puts (λ p. refl) in
    let aborts : (without_puts [] s).aborts ≡ s.aborts = filter_all _ s.aborts (λ a. refl) in
    let dropped : s.dropped + 0 ≡ s.dropped = omega arith in
    λ i. record s {
      rows = rows i;
      places = places i;
      unsaved = unsaved i;
      lost = lost i;
      vectors = vectors i;
      counts = counts i;
      puts = puts i;
      aborts = aborts i;
      dropped = dropped i;
    }

pub forgetting_twice : (cap : ℕ) (s : State) → forget cap (forget cap s) ≡ forget cap s
forgetting_twice cap s = ap (λ puts. without_puts puts (forget cap s)) (none_behind cap s) ∙ nothing_goes (forget cap s)

above_by : (a b n top : ℕ) (first rest : List ℕ) → (n == a || is_among_puts first a) ≡ true → AreFalling n rest → is_among_puts rest b ≡ true → (is_among_puts first a ≡ true → b < a) → b < a
above_by a b n top first rest m f h later = elim (or_cases (n == a) (is_among_puts first a) m) [
  | inl here ↦ let same : n ≡ a = eqb-true n a here in let less : b < n = below_head n b rest f h in omega (arith, same, less)
  | inr there ↦ later there
]

-- the first ones of a list that falls are above those behind them
first_above : (k a b top : ℕ) (ns : List ℕ) → AreFalling top ns → is_among_puts (take k ns) a ≡ true
    → is_among_puts (drop k ns) b ≡ true → b < a
first_above zero a b top ns f m h = no_truth (sym m)
first_above (suc k) a b top [] f m h = no_truth (sym m)
first_above (suc k) a b top (n ∷ ns) f m h =
    above_by a b n top (take k ns) ns m f.1 (any_dropped (λ x. x == b) k ns h) (λ there. first_above k a b n ns f.1 there h)

pub greatest_are_kept : (cap : ℕ) (s : State) (kept gone : ℕ) → is_among_puts (known_puts s) kept ≡ true → is_dead s kept ≡ true
    → is_among_puts (forgotten_puts cap s) kept ≡ false → is_among_puts (forgotten_puts cap s) gone ≡ true → gone < kept
greatest_are_kept cap s kept gone m d k g =
    let known = known_are_falling s in
    let first : is_among_puts (take cap (filter (is_dead s) (known_puts s))) kept ≡ true =
    among_first cap kept (filter (is_dead s) (known_puts s)) (among_filter (is_dead s) kept (known_puts s) d m) k in
    first_above cap kept gone known.0 (filter (is_dead s) (known_puts s)) (falling-filter (is_dead s) known.0 (known_puts s) known.1) first g
