-- What holds while a switch counts its calls down.
use Rattle.std.proofs.Common.{◌≡◌, ℕ, ◌+◌, ◌-◌, ◌<◌, ◌≤◌, ◌==◌, ◌||◌, Bool, true, false, if◌then◌else◌, List, [], ◌∷◌, ◌++◌, take, drop, length, slice_index, slice_index_or, slice_set, Option, None, Some, refl, sym, ◌∙◌, ap, arith, append-nil}
use Rattle.std.specs.Prelude.{nat_le}
use Rattle.std.proofs.lemmas.List.{take_more, take_more_set, drop-set-lt, get_or-drop, drop-drop, length-set, get_or_default}
use Rattle.std.proofs.lemmas.List.Folds.{list_any-append}
use Rattle.logged_disk.specs.Counting.{is_among, counted_down, is_past, one_less, least}

-- so many numbers were looked at, and those that are left stand in front
pub record IsCounted (old now : List ℕ) (i kept : ℕ) (due : Bool) : Type 0 where
  pub size : length now ≡ length old
  pub behind : kept ≤ i
  pub rest : drop i now ≡ drop i old
  pub front : take kept now ≡ counted_down (take i old)
  pub seen : due ≡ is_among (take i old) 1

down_push : (numbers : List ℕ) (n : ℕ) → counted_down (numbers ++ n ∷ []) ≡ counted_down numbers ++ (if n == 1 then [] else (n - 1) ∷ [])
unfolding counted_down
down_push [] n = refl
down_push (m ∷ numbers) n =
    elim (m == 1) as (λ b. (if b then counted_down (numbers ++ n ∷ []) else (m - 1) ∷ counted_down (numbers ++ n ∷ []))
    ≡ (if b then counted_down numbers else (m - 1) ∷ counted_down numbers) ++ (if n == 1 then [] else (n - 1) ∷ [])) [
      | true ↦ down_push numbers n
      | false ↦ ap (λ l. (m - 1) ∷ l) (down_push numbers n)
    ]

or_none : (b : Bool) → (b || false) ≡ b
or_none true = refl
or_none false = refl

or_one : (b : Bool) → (b || true) ≡ true
or_one true = refl
or_one false = refl

among_push : (numbers : List ℕ) (n k : ℕ) → is_among (numbers ++ n ∷ []) k ≡ (is_among numbers k || n == k)
among_push numbers n k = list_any-append (λ m. m == k) numbers (n ∷ []) ∙ ap (λ b. is_among numbers k || b) (or_none (n == k))

-- a number that was read is the one that stood there
read_number : (old now : List ℕ) (i left : ℕ) → i < length old → length now ≡ length old → drop i now ≡ drop i old → left ≡ slice_index_or now i left → slice_index old i ≡ left
read_number old now i left low size is read =
    let here : i + 0 ≡ i = omega arith in
    let same : slice_index now i ≡ slice_index old i =
    sym (get_or-drop i now 0 0 ∙ ap (λ k. slice_index now k) here) ∙ (ap (λ l. slice_index l 0) is ∙ (get_or-drop i old 0 0 ∙ ap (λ k. slice_index old k) here)) in
    sym same ∙ (get_or_default now i 0 left (omega (arith, low, size)) ∙ sym read)

drop_next : (old now : List ℕ) (i : ℕ) → drop i now ≡ drop i old → drop (i + 1) now ≡ drop (i + 1) old
drop_next old now i is = sym (drop-drop 1 i now) ∙ (ap (drop 1) is ∙ drop-drop 1 i old)

pub none_counted : (old : List ℕ) → IsCounted old old 0 0 false
unfolding counted_down
none_counted old = record { size = refl; behind = omega arith; rest = refl; front = refl; seen = refl }

-- a call that is due is taken out
pub one_due : (old now : List ℕ) (i kept left : ℕ) (due : Bool) → i < length old → IsCounted old now i kept due
    → left ≡ slice_index_or now i left → left ≡ 1 → IsCounted old now (i + 1) kept true
one_due old now i kept left due low so_far is one =
    let n = slice_index old i in
    let is_one : (n == 1) ≡ true = ap (λ m. m == 1) (read_number old now i left low so_far.size so_far.rest is ∙ one) in
    let more = take_more old i 0 low in
    record {
      size = so_far.size;
      behind = omega (arith, so_far.behind);
      rest = drop_next old now i so_far.rest;
      front = so_far.front ∙ sym (ap counted_down more ∙ (down_push (take i old) n
          ∙ (ap (λ b. counted_down (take i old) ++ (if b then [] else (n - 1) ∷ [])) is_one ∙ append-nil (counted_down (take i old)))));
      seen = sym (ap (λ l. is_among l 1) more ∙ (among_push (take i old) n 1 ∙ (ap (λ b. is_among (take i old) 1 || b) is_one ∙ or_one (is_among (take i old) 1))));
    }

-- and else one fewer of it stays
pub one_stays : (old now : List ℕ) (i kept left less : ℕ) (due : Bool) → i < length old → IsCounted old now i kept due
    → left ≡ slice_index_or now i left → (left ≡ 1 → ⊥) → less ≡ left - 1 → IsCounted old (slice_set now kept less) (i + 1) (kept + 1) due
one_stays old now i kept left less due low so_far is other one_less =
    let n = slice_index old i in
    let same = read_number old now i left low so_far.size so_far.rest is in
    let not_one : (n == 1) ≡ false = grind (arith, same, other) in
    let more = take_more old i 0 low in
    record {
      size = length-set now kept less ∙ so_far.size;
      behind = omega (arith, so_far.behind);
      rest = drop-set-lt (i + 1) now kept less (omega (arith, so_far.behind)) ∙ drop_next old now i so_far.rest;
      front = take_more_set now kept less (omega (arith, so_far.behind, so_far.size, low))
          ∙ (ap (λ l. l ++ less ∷ []) so_far.front
          ∙ (ap (λ m. counted_down (take i old) ++ m ∷ []) (one_less ∙ ap (λ m. m - 1) (sym same))
          ∙ sym (ap counted_down more ∙ (down_push (take i old) n ∙ ap (λ b. counted_down (take i old) ++ (if b then [] else (n - 1) ∷ [])) not_one))));
      seen = so_far.seen ∙ sym (ap (λ l. is_among l 1) more ∙ (among_push (take i old) n 1 ∙ (ap (λ b. is_among (take i old) 1 || b) not_one ∙ or_none (is_among (take i old) 1))));
    }

-- Membership one call later.
pub among_later : (numbers : List ℕ) (k : ℕ) → is_among (counted_down numbers) (k + 1) ≡ is_among numbers (k + 2)
unfolding counted_down
among_later [] k = refl
among_later (n ∷ numbers) k =
    elim (n == 1) as (λ b. (n == 1) ≡ b → is_among (if b then counted_down numbers else (n - 1) ∷ counted_down numbers) (k + 1) ≡ (n == k + 2 || is_among numbers (k + 2))) [
      | true ↦ λ one. let no : (n == k + 2) ≡ false = grind (arith, one) in among_later numbers k ∙ sym (ap (λ b. b || is_among numbers (k + 2)) no)
      | false ↦ λ other. let same : (n - 1 == k + 1) ≡ (n == k + 2) = grind (arith, other) in
          ap (λ b. b || is_among (counted_down numbers) (k + 1)) same ∙ ap (λ b. n == k + 2 || b) (among_later numbers k)
    ] refl

pub past_later : (stop : Option ℕ) (k : ℕ) → is_past (one_less stop) k ≡ is_past stop (k + 1)
past_later None k = refl
past_later (Some passing) k = grind arith

pub among_pushed : (numbers : List ℕ) (n k : ℕ) → is_among (numbers ++ n ∷ []) k ≡ (n == k || is_among numbers k)
among_pushed numbers n k = among_push numbers n k ∙ elim (n == k) as (λ b. (is_among numbers k || b) ≡ (b || is_among numbers k)) [
  | true ↦ or_one (is_among numbers k)
  | false ↦ or_none (is_among numbers k)
]

pub past_least : (calls : ℕ) (stop : Option ℕ) (k : ℕ) → is_past (Some (least calls stop)) k ≡ (nat_le calls k || is_past stop k)
past_least calls None k = sym (or_none (nat_le calls k))
past_least calls (Some passing) k = grind arith
