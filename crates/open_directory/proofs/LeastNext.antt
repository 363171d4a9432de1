-- The least next index, and who is there.
use Rattle.std.proofs.Common.{◌≡◌, ℕ, ◌/◌, ◌%◌, ◌+◌, ◌*◌, ◌≤◌, true, false, cond, List, [], ◌∷◌, Option, Some, None, min, ◌⊎◌, inl, inr, refl, sym, ap, ◌∙◌, subst, fold, arith}
use Rattle.std.specs.Prelude.{◌==◌, if◌then◌else◌}
use Rattle.std.specs.Map.{lookup, values_of}
use Rattle.std.proofs.lemmas.Bool.{cases_lt}
use Rattle.open_directory.specs.declared.kept.Reader.{Reader}
use Rattle.open_directory.specs.Directory.{is_number, least_next, min_with}
use Rattle.open_directory.specs.Readers.{Rises}
use Rattle.open_directory.proofs.Followers.{is_number_self, same_number}
use Rattle.open_directory.proofs.Rising.{absent_below}
use Rattle.open_directory.specs.declared.nexts.Nexts.{Nexts}
use Rattle.open_directory.specs.declared.nexts.Nexts.TheVariants.{Nobody, One, Fork'}
use Rattle.open_directory.specs.Nexts.{HasLeast, least_of, lesser, next_at, next_for}

lesser_none : (a b : Option ℕ) → lesser a b ≡ None → (a ≡ None) × (b ≡ None)
lesser_none None b h = (refl, h)
lesser_none (Some a) None h = absurd (cc)
lesser_none (Some a) (Some b) h = absurd (cc)

pub nobody_there : (nexts : Nexts) → HasLeast nexts → least_of nexts ≡ None → (q : ℕ) → next_at q nexts ≡ None
nobody_there Nobody h none q = refl
nobody_there (One reader next) h none q = absurd (cc)
nobody_there (Fork' least p even r odd) h none q =
    let both = lesser_none (least_of even) (least_of odd) (sym h.0 ∙ none) in
    elim (q % 2 == 0) as (λ b. (if b then next_at (q / 2) even else next_at (q / 2) odd) ≡ None) [
      | true ↦ nobody_there even h.1 both.0 (q / 2)
      | false ↦ nobody_there odd h.2 both.1 (q / 2)
    ]

-- the least of the numbers of which P holds, or none where it holds of none
abbrev IsLeast : Option ℕ → (ℕ → Type 0) → Type 0
IsLeast None P = (n : ℕ) → P n → ⊥
IsLeast (Some m) P = P m × ((n : ℕ) → P n → m ≤ n)

least_alone : (a b : Option ℕ) (P Q : ℕ → Type 0) → ((n : ℕ) → P n → Q n) → ((n : ℕ) → Q n → P n) → IsLeast a P → IsLeast b Q → a ≡ b
least_alone None None P Q to from l r = refl
least_alone None (Some m) P Q to from l r = absurd (l m (from m r.0))
least_alone (Some m) None P Q to from l r = absurd (r m (to m l.0))
least_alone (Some m) (Some n) P Q to from l r =
    let below = l.1 n (from n r.0) in
    let above = r.1 m (to m l.0) in
    let same : m ≡ n = omega (arith, below, above) in
    ap (λ k. Some k) same

-- the least of two sides
least_of_both : (a b : Option ℕ) (P Q R : ℕ → Type 0) → ((n : ℕ) → R n → P n ⊎ Q n) → ((n : ℕ) → P n → R n) → ((n : ℕ) → Q n → R n) → IsLeast a P → IsLeast b Q → IsLeast (lesser a b) R
least_of_both None None P Q R apart left right l r = λ n h. elim (apart n h) [ inl x ↦ l n x | inr y ↦ r n y ]
least_of_both None (Some m) P Q R apart left right l r = (right m r.0, λ n h. elim (apart n h) [ inl x ↦ absurd (l n x) | inr y ↦ r.1 n y ])
least_of_both (Some m) None P Q R apart left right l r = (left m l.0, λ n h. elim (apart n h) [ inl x ↦ l.1 n x | inr y ↦ absurd (r n y) ])
least_of_both (Some a) (Some b) P Q R apart left right l r = (lower a b refl refl, λ n h. elim (apart n h) [ inl x ↦ (let k = l.1 n x in omega (arith, k)) | inr y ↦ (let k = r.1 n y in omega (arith, k)) ])
  where
    lower : (x y : ℕ) → x ≡ a → y ≡ b → R (min a b)
    lower x y p q = elim (cases_lt a b) [
      | inl k ↦ let is : a ≡ min a b = omega (arith, k) in subst R is (left a l.0)
      | inr k ↦ let is : b ≡ min a b = omega (arith, k) in subst R is (right b r.0)
    ]

-- someone in the tree has this next index
abbrev HasNext : Nexts → ℕ → Type 0
HasNext nexts n = (q : ℕ) × (next_at q nexts ≡ Some n)

one_least : (reader next n q : ℕ) → next_at q (One reader next) ≡ Some n → next ≡ n
one_least reader next n q h = grind arith

half_of_twice : (q : ℕ) → (2 * q) / 2 ≡ q
half_of_twice q = omega arith

half_of_odd : (q : ℕ) → (2 * q + 1) / 2 ≡ q
half_of_odd q = omega arith

twice_even : (q : ℕ) → ((2 * q) % 2 == 0) ≡ true
twice_even q = let zero : (2 * q) % 2 ≡ 0 = omega arith in ap (λ k. k == 0) zero

twice_odd : (q : ℕ) → ((2 * q + 1) % 2 == 0) ≡ false
twice_odd q = let one : (2 * q + 1) % 2 ≡ 1 = omega arith in ap (λ k. k == 0) one

least_in_tree : (nexts : Nexts) → HasLeast nexts → IsLeast (least_of nexts) (HasNext nexts)
least_in_tree Nobody h = λ n k. absurd (let e = k.1 in cc e)
least_in_tree (One reader next) h = ((reader, grind arith), λ n k. let same = one_least reader next n k.0 k.1 in omega (arith, same))
least_in_tree (Fork' least p even r odd) h =
    let both = least_of_both (least_of even) (least_of odd) (HasNext even) (HasNext odd) (HasNext (Fork' least p even r odd))
    (λ n k. side n k.0 k.1) (λ n k. (2 * k.0, from_even n k.0 k.1)) (λ n k. (2 * k.0 + 1, from_odd n k.0 k.1)) (least_in_tree even h.1) (least_in_tree odd h.2) in
    let P : Option ℕ → Type 0 = λ o. IsLeast o (HasNext (Fork' least p even r odd)) in
    subst P (sym h.0) both
  where
    side : (n q : ℕ) → next_at q (Fork' least p even r odd) ≡ Some n → HasNext even n ⊎ HasNext odd n
    side n q k = elim (q % 2 == 0) as (λ b. (if b then next_at (q / 2) even else next_at (q / 2) odd) ≡ Some n → HasNext even n ⊎ HasNext odd n) [ true ↦ λ e. inl (q / 2, e) | false ↦ λ e. inr (q / 2, e) ] k

    from_even : (n q : ℕ) → next_at q even ≡ Some n → next_at (2 * q) (Fork' least p even r odd) ≡ Some n
    from_even n q k = ap (λ b. if b then next_at ((2 * q) / 2) even else next_at ((2 * q) / 2) odd) (twice_even q) ∙ ap (λ h. next_at h even) (half_of_twice q) ∙ k

    from_odd : (n q : ℕ) → next_at q odd ≡ Some n → next_at (2 * q + 1) (Fork' least p even r odd) ≡ Some n
    from_odd n q k = ap (λ b. if b then next_at ((2 * q + 1) / 2) even else next_at ((2 * q + 1) / 2) odd) (twice_odd q) ∙ ap (λ h. next_at h odd) (half_of_odd q) ∙ k

-- a reader of the put has this next index
abbrev HasReader : ℕ → List (ℕ × Reader) → ℕ → Type 0
HasReader put readers n = (q : ℕ) × (next_for put (lookup (is_number q) readers) ≡ Some n)

abbrev least_right : ℕ → List (ℕ × Reader) → Option ℕ
least_right put [] = None
least_right put (e ∷ es) = lesser (next_for put (Some e.1)) (least_right put es)

lesser_of_three : (a b c : Option ℕ) → lesser (lesser a b) c ≡ lesser a (lesser b c)
lesser_of_three None b c = refl
lesser_of_three (Some a) None c = refl
lesser_of_three (Some a) (Some b) None = refl
lesser_of_three (Some a) (Some b) (Some c) = grind arith

min_lesser : (n : ℕ) (o : Option ℕ) → min_with n o ≡ lesser o (Some n)
min_lesser n None = refl
min_lesser n (Some m) = grind arith

lesser_any : (o : Option ℕ) → lesser o None ≡ o
lesser_any None = refl
lesser_any (Some m) = refl

folded : (put : ℕ) (least : Option ℕ) (es : List (ℕ × Reader)) → fold (λ least r. if r.put == put then min_with r.next least else least) least (values_of es) ≡ lesser least (least_right put es)
folded put least [] = sym (lesser_any least)
folded put least (e ∷ es) =
    folded put (if e.1.put == put then min_with e.1.next least else least) es
    ∙ ap (λ o. lesser o (least_right put es)) step
    ∙ lesser_of_three least (next_for put (Some e.1)) (least_right put es)
  where
    step : (if e.1.put == put then min_with e.1.next least else least) ≡ lesser least (next_for put (Some e.1))
    step = elim (e.1.put == put) as (λ b. (if b then min_with e.1.next least else least) ≡ lesser least (if b then Some e.1.next else None)) [ true ↦ min_lesser e.1.next least | false ↦ sym (lesser_any least) ]

first_least : (put : ℕ) (o : Option Reader) → IsLeast (next_for put o) (λ n. next_for put o ≡ Some n)
first_least put o = alone (next_for put o)
  where
    alone : (found : Option ℕ) → IsLeast found (λ n. found ≡ Some n)
    alone None = λ n h. absurd (cc h)
    alone (Some m) = (refl, λ n h. above m n h)
      where
        above : (m n : ℕ) → Some m ≡ Some n → m ≤ n
        above m n h = grind arith

least_in_list : (put low : ℕ) (es : List (ℕ × Reader)) → Rises low es → IsLeast (least_right put es) (HasReader put es)
least_in_list put low [] h = λ n k. absurd (let e = k.1 in cc e)
least_in_list put low (e ∷ es) h =
    least_of_both (next_for put (Some e.1)) (least_right put es) (λ n. next_for put (Some e.1) ≡ Some n) (HasReader put es) (HasReader put (e ∷ es))
    (λ n k. side n k.0 k.1) (λ n k. (e.0, first n k)) (λ n k. (k.0, behind n k.0 k.1)) (first_least put (Some e.1)) (least_in_list put (e.0 + 1) es h.1)
  where
    side : (n q : ℕ) → next_for put (lookup (is_number q) (e ∷ es)) ≡ Some n → (next_for put (Some e.1) ≡ Some n) ⊎ HasReader put es n
    side n q k = elim (is_number q e.0) as (λ b. next_for put (cond b (Some e.1) (lookup (is_number q) es)) ≡ Some n → (next_for put (Some e.1) ≡ Some n) ⊎ HasReader put es n) [ true ↦ λ x. inl x | false ↦ λ x. inr (q, x) ] k

    first : (n : ℕ) → next_for put (Some e.1) ≡ Some n → next_for put (lookup (is_number e.0) (e ∷ es)) ≡ Some n
    first n k = ap (λ b. next_for put (cond b (Some e.1) (lookup (is_number e.0) es))) (is_number_self e.0) ∙ k

    behind : (n q : ℕ) → next_for put (lookup (is_number q) es) ≡ Some n → next_for put (lookup (is_number q) (e ∷ es)) ≡ Some n
    behind n q k =
        elim (is_number q e.0) as (λ b. is_number q e.0 ≡ b → next_for put (cond b (Some e.1) (lookup (is_number q) es)) ≡ Some n) [
          | true ↦ λ t.
              let P : ℕ → Type 0 = λ m. lookup (is_number m) es ≡ None in
              let gone : lookup (is_number q) es ≡ None = subst P (sym (same_number q e.0 t)) (absent_below e.0 (e.0 + 1) es (omega arith) h.1) in
              absurd (let none = ap (next_for put) gone in cc (none, k))
          | false ↦ λ t. k
        ] refl

-- the least that the tree of a put has at hand is the least of its readers
pub least_is : (put : ℕ) (nexts : Nexts) (es : List (ℕ × Reader)) → HasLeast nexts → ((q : ℕ) → next_at q nexts ≡ next_for put (lookup (is_number q) es)) → Rises 0 es
    → least_of nexts ≡ least_next put (values_of es)
least_is put nexts es right same rise =
    least_alone (least_of nexts) (least_right put es) (HasNext nexts) (HasReader put es) (λ n k. (k.0, sym (same k.0) ∙ k.1)) (λ n k. (k.0, same k.0 ∙ k.1)) (least_in_tree nexts right) (least_in_list put 0 es rise)
    ∙ sym (folded put None es)
