-- Rows below a number, as rows are added and taken out.
use Rattle.std.proofs.Common.{ℕ, zero, suc, ◌+◌, ◌≡◌, ◌<◌, ◌≤◌, true, false, cond, not, List, [], ◌∷◌, Option, Some, None, refl, sym, ap, ◌∙◌, nat_eq, nat_lt, ◌⊎◌, inl, inr, ◌||◌, subst, is_some, IfSome, arith}
use Rattle.std.proofs.lemmas.Bool.Decides.{nat_tests}
use Rattle.dir_table.specs.declared.rows.DirRow.{DirRow}
use Rattle.dir_table.specs.declared.rows.StoredRow.{StoredRow}
use Rattle.dir_table.specs.declared.rows.Spot.{Spot}
use Rattle.std.specs.List.{AllByRecursion}
use Rattle.dir_table.specs.Rows.{plain_row, plain_rows, spot_of, same_row, has_row}
use Rattle.dir_table.specs.Links.{stands_at, entries_below, with_entry, first_at, links_without, rows_of}

pub some_is : {X : Type 0} (a b : X) → Some a ≡ Some b → a ≡ b
some_is a b h = grind arith

pub eq_self : (n : ℕ) → nat_eq n n ≡ true
eq_self n = grind (arith, nat_tests)

pub eq_is : (m n : ℕ) → nat_eq m n ≡ true → m ≡ n
eq_is m n h = grind (arith, nat_tests)

pub less_is_other : (m n : ℕ) → n < m → nat_eq m n ≡ false
less_is_other m n h = grind (arith, nat_tests)

pub nat_order : (m n : ℕ) → (m < n) ⊎ ((m ≡ n) ⊎ (n < m))
nat_order m n =
    elim (nat_lt m n) as (λ b. nat_lt m n ≡ b → (m < n) ⊎ ((m ≡ n) ⊎ (n < m))) [
      | true ↦ λ t. inl (grind (arith, nat_tests))
      | false ↦ λ t. elim (nat_eq m n) as (λ b. nat_eq m n ≡ b → (m < n) ⊎ ((m ≡ n) ⊎ (n < m))) [
        | true ↦ λ e. inr (inl (eq_is m n e))
        | false ↦ λ e. inr (inr (grind (arith, nat_tests)))
      ] refl
    ] refl

-- the same rows below a number
pub same_below : (at at' : ℕ → Option StoredRow) (n : ℕ) → ((k : ℕ) → k < n → at k ≡ at' k) → entries_below at n ≡ entries_below at' n
same_below at at' zero same = refl
same_below at at' (suc n) same =
    ap (λ o. with_entry n o (entries_below at n)) (same n (omega arith))
    ∙ ap (λ es. with_entry n (at' n) es) (same_below at at' n (λ k h. same k (omega arith)))

-- a spot's first row stands below the number
pub first_below : (s : Spot) (at : ℕ → Option StoredRow) (n k : ℕ) → first_at s (entries_below at n) ≡ Some k → k < n
first_below s at zero k h = absurd (cc)
first_below s at (suc n) k h =
    elim (at n) as (λ o. first_at s (with_entry n o (entries_below at n)) ≡ Some k → k < suc n) [
      | None ↦ λ rest. let below = first_below s at n k rest in omega arith
      | Some r ↦ elim (stands_at s r) as (λ b. cond b (Some n) (first_at s (entries_below at n)) ≡ Some k → k < suc n) [
        | true ↦ λ here. let same : n ≡ k = some_is n k here in omega arith
        | false ↦ λ rest. let below = first_below s at n k rest in omega arith
      ]
    ] h

-- a row of the spot stands under this number
pub record Stands (at : ℕ → Option StoredRow) (s : Spot) (k : ℕ) : Type 0 where
  pub row : StoredRow
  pub here : at k ≡ Some row
  pub fits : stands_at s row ≡ true

pub first_stands : (s : Spot) (at : ℕ → Option StoredRow) (n k : ℕ) → first_at s (entries_below at n) ≡ Some k → Stands at s k
first_stands s at zero k h = absurd (cc)
first_stands s at (suc n) k h =
    elim (at n) as (λ o. at n ≡ o → first_at s (with_entry n o (entries_below at n)) ≡ Some k → Stands at s k) [
      | None ↦ λ e rest. first_stands s at n k rest
      | Some r ↦ λ e. elim (stands_at s r) as (λ b. stands_at s r ≡ b → cond b (Some n) (first_at s (entries_below at n)) ≡ Some k → Stands at s k) [
        | true ↦ λ t here. record { row = r; here = ap at (sym (some_is n k here)) ∙ e; fits = t }
        | false ↦ λ t rest. first_stands s at n k rest
      ] refl
    ] refl h

-- the first row of a spot is at or above each of them
pub record Reaches (s : Spot) (at : ℕ → Option StoredRow) (n k : ℕ) : Type 0 where
  pub number : ℕ
  pub first : first_at s (entries_below at n) ≡ Some number
  pub above : k ≤ number

pub first_reaches : (s : Spot) (at : ℕ → Option StoredRow) (n k : ℕ) → Stands at s k → k < n → Reaches s at n k
first_reaches s at zero k stands h = absurd (omega arith)
first_reaches s at (suc n) k stands h =
    elim (nat_eq n k) as (λ b. nat_eq n k ≡ b → Reaches s at (suc n) k) [
      | true ↦ λ t. let same : n ≡ k = eq_is n k t in record {
        number = n;
        first = ap (λ o. first_at s (with_entry n o (entries_below at n))) (ap at same ∙ stands.here) ∙ ap (λ b. cond b (Some n) (first_at s (entries_below at n))) stands.fits;
        above = omega arith;
      }
      | false ↦ λ t. let less : k < n = grind (arith, nat_tests) in let rest = first_reaches s at n k stands less in
          elim (at n) as (λ o. at n ≡ o → Reaches s at (suc n) k) [
            | None ↦ λ e. record { number = rest.number; first = ap (λ o. first_at s (with_entry n o (entries_below at n))) e ∙ rest.first; above = rest.above }
            | Some r ↦ λ e. elim (stands_at s r) as (λ b. stands_at s r ≡ b → Reaches s at (suc n) k) [
              | true ↦ λ f. record {
                number = n;
                first = ap (λ o. first_at s (with_entry n o (entries_below at n))) e ∙ ap (λ b. cond b (Some n) (first_at s (entries_below at n))) f;
                above = omega arith;
              }
              | false ↦ λ f. record {
                number = rest.number;
                first = ap (λ o. first_at s (with_entry n o (entries_below at n))) e ∙ ap (λ b. cond b (Some n) (first_at s (entries_below at n))) f ∙ rest.first;
                above = rest.above;
              }
            ] refl
          ] refl
    ] refl

-- two rows of a spot do not both lead to the same one
pub one_leads : (s : Spot) (at : ℕ → Option StoredRow) (d k n : ℕ) → Stands at s k → k < n → first_at s (entries_below at n) ≡ Some d → first_at s (entries_below at k) ≡ Some d → ⊥
one_leads s at d k n stands less over under =
    let reach = first_reaches s at n k stands less in
    let same : reach.number ≡ d = some_is reach.number d (sym reach.first ∙ over) in
    let above = reach.above in
    let below = first_below s at k d under in
    absurd (omega arith)

-- up to the row of a number
abbrev pub up_to : (ℕ → Option StoredRow) → Option ℕ → List (ℕ × StoredRow)
up_to at None = []
up_to at (Some k) = entries_below at (suc k)

-- what looks at the rows of a spot alone begins at the first of them
pub to_first : {X : Type 0} (F : List (ℕ × StoredRow) → X) (s : Spot) → ((k : ℕ) (r : StoredRow) (es : List (ℕ × StoredRow)) → stands_at s r ≡ false → F ((k, r) ∷ es) ≡ F es)
    → (at : ℕ → Option StoredRow) (n : ℕ) → F (entries_below at n) ≡ F (up_to at (first_at s (entries_below at n)))
to_first F s skips at zero = refl
to_first F s skips at (suc n) =
    elim (at n) as (λ o. at n ≡ o → F (with_entry n o (entries_below at n)) ≡ F (up_to at (first_at s (with_entry n o (entries_below at n))))) [
      | None ↦ λ e. to_first F s skips at n
      | Some r ↦ λ e. elim (stands_at s r) as (λ b. stands_at s r ≡ b → F ((n, r) ∷ entries_below at n) ≡ F (up_to at (cond b (Some n) (first_at s (entries_below at n))))) [
        | true ↦ λ t. ap (λ o. F (with_entry n o (entries_below at n))) (sym e)
        | false ↦ λ t. skips n r (entries_below at n) t ∙ to_first F s skips at n
      ] refl
    ] refl

-- without one row
abbrev pub at_but : ℕ → (ℕ → Option StoredRow) → ℕ → Option StoredRow
at_but d at k = cond (nat_eq d k) None (at k)

pub entries_but : (d : ℕ) (at : ℕ → Option StoredRow) (n : ℕ) → entries_below (at_but d at) n ≡ links_without d (entries_below at n)
entries_but d at zero = refl
entries_but d at (suc n) =
    let rest = entries_but d at n in
    elim (at n) as (λ o. with_entry n (cond (nat_eq d n) None o) (entries_below (at_but d at) n) ≡ links_without d (with_entry n o (entries_below at n))) [
      | None ↦ elim (nat_eq d n) as (λ b. with_entry n (cond b None None) (entries_below (at_but d at) n) ≡ links_without d (entries_below at n)) [ true ↦ rest | false ↦ rest ]
      | Some r ↦ elim (nat_eq d n) as (λ b. with_entry n (cond b None (Some r)) (entries_below (at_but d at) n) ≡ cond (not b) ((n, r) ∷ links_without d (entries_below at n)) (links_without d (entries_below at n))) [
        | true ↦ rest
        | false ↦ ap (λ es. (n, r) ∷ es) rest
      ]
    ]

pub below_but : (d : ℕ) (at : ℕ → Option StoredRow) (n : ℕ) → n ≤ d → entries_below (at_but d at) n ≡ entries_below at n
below_but d at n h = same_below (at_but d at) at n (λ k less. ap (λ b. cond b None (at k)) (less_is_other d k (omega arith)))

-- the first row of a spot without one: where it was the first, the next one
abbrev pub skipped : ℕ → Option ℕ → Option ℕ → Option ℕ
skipped d next None = None
skipped d next (Some k) = cond (nat_eq d k) next (Some k)

pub skipped_it : (d : ℕ) (next first : Option ℕ) → first ≡ Some d → skipped d next first ≡ next
skipped_it d next first h = ap (skipped d next) h ∙ ap (λ b. cond b next (Some d)) (eq_self d)

pub skipped_none : (d : ℕ) (next first : Option ℕ) → (first ≡ Some d → ⊥) → skipped d next first ≡ first
skipped_none d next None h = refl
skipped_none d next (Some k) h =
    elim (nat_eq d k) as (λ b. nat_eq d k ≡ b → cond b next (Some k) ≡ Some k) [
      | true ↦ λ t. absurd (h (ap (λ n. Some n) (sym (eq_is d k t))))
      | false ↦ λ t. refl
    ] refl

pub first_but : (s : Spot) (d : ℕ) (at : ℕ → Option StoredRow) (r : StoredRow) → at d ≡ Some r → stands_at s r ≡ true → (n : ℕ)
    → first_at s (entries_below (at_but d at) n) ≡ skipped d (first_at s (entries_below at d)) (first_at s (entries_below at n))
first_but s d at r here fits zero = refl
first_but s d at r here fits (suc n) =
    let rest = first_but s d at r here fits n in
    let next = first_at s (entries_below at d) in
    elim (nat_eq d n) as (λ b. nat_eq d n ≡ b → first_at s (with_entry n (cond b None (at n)) (entries_below (at_but d at) n)) ≡ skipped d next (first_at s (with_entry n (at n) (entries_below at n)))) [
      | true ↦ λ t.
          let same : d ≡ n = eq_is d n t in
          let first : first_at s (with_entry n (at n) (entries_below at n)) ≡ Some d =
          ap (λ o. first_at s (with_entry n o (entries_below at n))) (ap at (sym same) ∙ here) ∙ ap (λ b. cond b (Some n) (first_at s (entries_below at n))) fits ∙ ap (λ k. Some k) (sym same) in
          ap (first_at s) (below_but d at n (omega arith)) ∙ ap (λ k. first_at s (entries_below at k)) (sym same) ∙ sym (skipped_it d next (first_at s (with_entry n (at n) (entries_below at n))) first)
      | false ↦ λ t. elim (at n) as (λ o. first_at s (with_entry n o (entries_below (at_but d at) n)) ≡ skipped d next (first_at s (with_entry n o (entries_below at n)))) [
        | None ↦ rest
        | Some x ↦ elim (stands_at s x) as (λ b. cond b (Some n) (first_at s (entries_below (at_but d at) n)) ≡ skipped d next (cond b (Some n) (first_at s (entries_below at n)))) [
          | true ↦ sym (ap (λ b. cond b next (Some n)) t)
          | false ↦ rest
        ]
      ]
    ] refl

-- the first row of another spot stays
pub first_stays : (s : Spot) (d : ℕ) (at : ℕ → Option StoredRow) (r : StoredRow) → at d ≡ Some r → stands_at s r ≡ false → (n : ℕ)
    → first_at s (entries_below (at_but d at) n) ≡ first_at s (entries_below at n)
first_stays s d at r here fits zero = refl
first_stays s d at r here fits (suc n) =
    let rest = first_stays s d at r here fits n in
    elim (nat_eq d n) as (λ b. nat_eq d n ≡ b → first_at s (with_entry n (cond b None (at n)) (entries_below (at_but d at) n)) ≡ first_at s (with_entry n (at n) (entries_below at n))) [
      | true ↦ λ t.
          let same : d ≡ n = eq_is d n t in
          rest ∙ sym (ap (λ o. first_at s (with_entry n o (entries_below at n))) (ap at (sym same) ∙ here) ∙ ap (λ b. cond b (Some n) (first_at s (entries_below at n))) fits)
      | false ↦ λ t. elim (at n) as (λ o. first_at s (with_entry n o (entries_below (at_but d at) n)) ≡ first_at s (with_entry n o (entries_below at n))) [
        | None ↦ rest
        | Some x ↦ ap (λ o. cond (stands_at s x) (Some n) o) rest
      ]
    ] refl

-- where a walk stands: nowhere, or at a row of the spot
abbrev pub Meets : (ℕ → Option StoredRow) → Spot → Option ℕ → Type 0
Meets at s None = Unit {0}
Meets at s (Some k) = Stands at s k

-- a measure of what is left below
abbrev pub height : Option ℕ → ℕ
height None = 0
height (Some k) = k + 1

-- the numbers that a link looks below
abbrev pub bound_of : ℕ → Option ℕ → ℕ
bound_of next None = next
bound_of next (Some k) = k

pub first_meets : (s : Spot) (at : ℕ → Option StoredRow) (n : ℕ) (o : Option ℕ) → o ≡ first_at s (entries_below at n) → Meets at s o
first_meets s at n None h = tt
first_meets s at n (Some k) h = first_stands s at n k (sym h)

pub height_first : (s : Spot) (at : ℕ → Option StoredRow) (n : ℕ) (o : Option ℕ) → o ≡ first_at s (entries_below at n) → height o ≤ n
height_first s at n None h = omega arith
height_first s at n (Some k) h = let below = first_below s at n k (sym h) in omega arith

pub stands_of : (at : ℕ → Option StoredRow) (s : Spot) (k : ℕ) → IfSome (at k) (λ r. stands_at s r ≡ true) → is_some (at k) ≡ true → Stands at s k
stands_of at s k fits some =
    elim (at k) as (λ o. at k ≡ o → IfSome o (λ r. stands_at s r ≡ true) → is_some o ≡ true → Stands at s k) [
      | None ↦ λ e f none. absurd (cc)
      | Some r ↦ λ e f h. record { row = r; here = e; fits = f }
    ] refl fits some

-- ---- whether a row is there
other_row : (row : DirRow) (r : StoredRow) → stands_at (spot_of row) r ≡ false → same_row row (plain_row r) ≡ false
other_row row r h = grind (arith, nat_tests)

pub has_first : (row : DirRow) (at : ℕ → Option StoredRow) (n : ℕ) (o : Option ℕ) → o ≡ first_at (spot_of row) (entries_below at n)
    → has_row row (plain_rows (rows_of (entries_below at n))) ≡ has_row row (plain_rows (rows_of (up_to at o)))
has_first row at n o h =
    to_first (λ es. has_row row (plain_rows (rows_of es))) (spot_of row) (λ k r es other. ap (λ b. b || has_row row (plain_rows (rows_of es))) (other_row row r other)) at n
    ∙ ap (λ o. has_row row (plain_rows (rows_of (up_to at o)))) (sym h)

pub has_next : (row : DirRow) (at : ℕ → Option StoredRow) (k : ℕ) (r : StoredRow) (o : Option ℕ) → at k ≡ Some r → same_row row (plain_row r) ≡ false → o ≡ first_at (spot_of row) (entries_below at k)
    → has_row row (plain_rows (rows_of (up_to at (Some k)))) ≡ has_row row (plain_rows (rows_of (up_to at o)))
has_next row at k r o here other h =
    ap (λ x. has_row row (plain_rows (rows_of (with_entry k x (entries_below at k))))) here
    ∙ ap (λ b. b || has_row row (plain_rows (rows_of (entries_below at k)))) other
    ∙ has_first row at k o h

-- what holds of all rows holds of the row of each number
drop_entry : (P : StoredRow → Type 0) (n : ℕ) (o : Option StoredRow) (es : List (ℕ × StoredRow)) → AllByRecursion P (rows_of (with_entry n o es)) → AllByRecursion P (rows_of es)
drop_entry P n None es all = all
drop_entry P n (Some r) es all = all.1

pub all_stand : (P : StoredRow → Type 0) (at : ℕ → Option StoredRow) (n : ℕ) → AllByRecursion P (rows_of (entries_below at n)) → (k : ℕ) (r : StoredRow) → k < n → at k ≡ Some r → P r
all_stand P at zero all k r less here = absurd (omega arith)
all_stand P at (suc n) all k r less here =
    elim (nat_eq n k) as (λ b. nat_eq n k ≡ b → P r) [
      | true ↦ λ t.
          let Q : Option StoredRow → Type 0 = λ o. AllByRecursion P (rows_of (with_entry n o (entries_below at n))) in
          let it : Q (Some r) = subst Q (ap at (eq_is n k t) ∙ here) all in
          it.0
      | false ↦ λ t. let below : k < n = grind (arith, nat_tests) in all_stand P at n (drop_entry P n (at n) (entries_below at n) all) k r below here
    ] refl
