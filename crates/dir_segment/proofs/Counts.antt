-- How often a slot stands in the lists, before and after a chain is replaced.
use Rattle.std.proofs.Common.{◌≡◌, ◌≢◌, ℕ, zero, suc, ◌+◌, ◌*◌, ◌<◌, ◌≤◌, Bool, true, false, cond, eqb, List, [], ◌∷◌, ◌++◌, length, get_or, set, map, refl, sym, ap, subst, arith, length-append}
use Rattle.std.proofs.lemmas.Bool.{eqb-false}
use Rattle.std.proofs.lemmas.List.{length-map}
use Rattle.dir_segment.specs.Lists.{SlotRow, entry_count}
use Rattle.dir_segment.specs.Links.{followers, lines, slot_hits, occurrences}

abbrev as_number : Bool → ℕ
as_number b = cond b 1 0

missed_by : (b : Bool) (x y : ℕ) → eqb x y ≡ b → as_number b ≡ 0 → x ≢ y
missed_by true x y e h = absurd (omega (arith, h))
missed_by false x y e h = eqb-false x y e

-- a slot that is not hit is another
pub missed : (x y : ℕ) → slot_hits x y ≡ 0 → x ≢ y
missed x y h = missed_by (eqb x y) x y refl h

pub occurrences-append : (x : ℕ) (xs ys : List ℕ) → occurrences x (xs ++ ys) ≡ occurrences x xs + occurrences x ys
occurrences-append x [] ys = omega arith
occurrences-append x (y ∷ xs) ys = omega (arith, occurrences-append x xs ys)

-- the slots of one chain are among those of all
pub line_le : (x b : ℕ) (cs : List (List SlotRow)) (j : ℕ) → j < length cs
    → slot_hits (4 * (b + j)) x + occurrences x (followers (get_or cs j [])) ≤ occurrences x (lines b cs)
line_le x b [] j lt = absurd (omega arith)
line_le x b (c ∷ cs) zero lt =
    let e : b + 0 ≡ b = omega arith in
    subst (λ n. slot_hits (4 * n) x + occurrences x (followers c) ≤ slot_hits (4 * b) x + occurrences x (followers c ++ lines (suc b) cs)) (sym e) (omega (arith, occurrences-append x (followers c) (lines (suc b) cs)))
line_le x b (c ∷ cs) (suc j) lt =
    let e : suc b + j ≡ b + suc j = omega arith in
    let rest : slot_hits (4 * (b + suc j)) x + occurrences x (followers (get_or cs j [])) ≤ occurrences x (lines (suc b) cs) =
    subst (λ n. slot_hits (4 * n) x + occurrences x (followers (get_or cs j [])) ≤ occurrences x (lines (suc b) cs)) e (line_le x (suc b) cs j (omega arith)) in
    omega (arith, rest, occurrences-append x (followers c) (lines (suc b) cs))

-- the slots of two chains are
pub lines_le : (x b : ℕ) (cs : List (List SlotRow)) (j k : ℕ) → j ≢ k → j < length cs → k < length cs
    → slot_hits (4 * (b + j)) x + occurrences x (followers (get_or cs j [])) + (slot_hits (4 * (b + k)) x + occurrences x (followers (get_or cs k []))) ≤ occurrences x (lines b cs)
lines_le x b [] j k ne lt lt' = absurd (omega arith)
lines_le x b (c ∷ cs) zero zero ne lt lt' = absurd (ne refl)
lines_le x b (c ∷ cs) zero (suc k) ne lt lt' =
    let e : b + 0 ≡ b = omega arith in
    let e' : suc b + k ≡ b + suc k = omega arith in
    let rest : slot_hits (4 * (b + suc k)) x + occurrences x (followers (get_or cs k [])) ≤ occurrences x (lines (suc b) cs) =
    subst (λ n. slot_hits (4 * n) x + occurrences x (followers (get_or cs k [])) ≤ occurrences x (lines (suc b) cs)) e' (line_le x (suc b) cs k (omega arith)) in
    let first : slot_hits (4 * (b + 0)) x ≡ slot_hits (4 * b) x = ap (λ n. slot_hits (4 * n) x) e in
    omega (arith, rest, first, occurrences-append x (followers c) (lines (suc b) cs))
lines_le x b (c ∷ cs) (suc j) zero ne lt lt' =
    let e : b + 0 ≡ b = omega arith in
    let e' : suc b + j ≡ b + suc j = omega arith in
    let rest : slot_hits (4 * (b + suc j)) x + occurrences x (followers (get_or cs j [])) ≤ occurrences x (lines (suc b) cs) =
    subst (λ n. slot_hits (4 * n) x + occurrences x (followers (get_or cs j [])) ≤ occurrences x (lines (suc b) cs)) e' (line_le x (suc b) cs j (omega arith)) in
    let first : slot_hits (4 * (b + 0)) x ≡ slot_hits (4 * b) x = ap (λ n. slot_hits (4 * n) x) e in
    omega (arith, rest, first, occurrences-append x (followers c) (lines (suc b) cs))
lines_le x b (c ∷ cs) (suc j) (suc k) ne lt lt' =
    let e : suc b + j ≡ b + suc j = omega arith in
    let e' : suc b + k ≡ b + suc k = omega arith in
    let rest = lines_le x (suc b) cs j k (λ q. ne (ap suc q)) (omega arith) (omega arith) in
    let first : slot_hits (4 * (suc b + j)) x ≡ slot_hits (4 * (b + suc j)) x = ap (λ n. slot_hits (4 * n) x) e in
    let second : slot_hits (4 * (suc b + k)) x ≡ slot_hits (4 * (b + suc k)) x = ap (λ n. slot_hits (4 * n) x) e' in
    omega (arith, rest, first, second, occurrences-append x (followers c) (lines (suc b) cs))

pub lines-set : (x b : ℕ) (cs : List (List SlotRow)) (j : ℕ) (c : List SlotRow) → j < length cs
    → occurrences x (lines b (set cs j c)) + occurrences x (followers (get_or cs j [])) ≡ occurrences x (lines b cs) + occurrences x (followers c)
lines-set x b [] j c lt = absurd (omega arith)
lines-set x b (d ∷ cs) zero c lt =
    omega (arith, occurrences-append x (followers c) (lines (suc b) cs), occurrences-append x (followers d) (lines (suc b) cs))
lines-set x b (d ∷ cs) (suc j) c lt =
    omega (arith, lines-set x (suc b) cs j c (omega arith), occurrences-append x (followers d) (lines (suc b) cs), occurrences-append x (followers d) (lines (suc b) (set cs j c)))

pub length-lines-set : (b : ℕ) (cs : List (List SlotRow)) (j : ℕ) (c : List SlotRow) → j < length cs
    → length (lines b (set cs j c)) + length (followers (get_or cs j [])) ≡ length (lines b cs) + length (followers c)
length-lines-set b [] j c lt = absurd (omega arith)
length-lines-set b (d ∷ cs) zero c lt =
    omega (arith, length-append (followers c) (lines (suc b) cs), length-append (followers d) (lines (suc b) cs))
length-lines-set b (d ∷ cs) (suc j) c lt =
    omega (arith, length-lines-set (suc b) cs j c (omega arith), length-append (followers d) (lines (suc b) cs), length-append (followers d) (lines (suc b) (set cs j c)))

pub length-line_le : (b : ℕ) (cs : List (List SlotRow)) (j : ℕ) → j < length cs → suc (length (followers (get_or cs j []))) ≤ length (lines b cs)
length-line_le b [] j lt = absurd (omega arith)
length-line_le b (c ∷ cs) zero lt = omega (arith, length-append (followers c) (lines (suc b) cs))
length-line_le b (c ∷ cs) (suc j) lt = omega (arith, length-line_le (suc b) cs j (omega arith), length-append (followers c) (lines (suc b) cs))

pub entry_count-set : (cs : List (List SlotRow)) (j : ℕ) (c : List SlotRow) → j < length cs → entry_count (set cs j c) + length (get_or cs j []) ≡ entry_count cs + length c
entry_count-set [] j c lt = absurd (omega arith)
entry_count-set (d ∷ cs) zero c lt = omega arith
entry_count-set (d ∷ cs) (suc j) c lt = omega (arith, entry_count-set cs j c (omega arith))

pub entry_count_le : (b : ℕ) (cs : List (List SlotRow)) → entry_count cs ≤ length (lines b cs)
entry_count_le b [] = omega arith
entry_count_le b ([] ∷ cs) = omega (arith, entry_count_le (suc b) cs)
entry_count_le b ((r ∷ c) ∷ cs) = omega (arith, entry_count_le (suc b) cs, length-append (map (λ (q : SlotRow). q.slot) c) (lines (suc b) cs), length-map c (λ (q : SlotRow). q.slot))

pub entry_count_at : (cs : List (List SlotRow)) (j : ℕ) → j < length cs → length (get_or cs j []) ≤ entry_count cs
entry_count_at [] j lt = absurd (omega arith)
entry_count_at (c ∷ cs) zero lt = omega arith
entry_count_at (c ∷ cs) (suc j) lt = omega (arith, entry_count_at cs j (omega arith))
