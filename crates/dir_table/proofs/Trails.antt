-- What a walk over numbered rows has left.
use Rattle.std.proofs.Common.{ℕ, zero, suc, ◌+◌, ◌≡◌, ◌<◌, ◌≤◌, true, false, cond, List, ◌∷◌, filter, Option, Some, None, refl, sym, ap, ◌∙◌, ◌||◌, ◌&&◌, nat_eq, nat_le, arith}
use Rattle.std.proofs.lemmas.Bool.Decides.{nat_tests}
use Rattle.dir_table.specs.declared.rows.StoredRow.{StoredRow}
use Rattle.dir_table.specs.declared.rows.Spot.{Spot}
use Rattle.dir_table.specs.Links.{stands_at, entries_below, with_entry, first_at, rows_of}
use Rattle.dir_table.specs.Trail.{rows_down, is_there}
use Rattle.dir_table.proofs.Numbers.{Stands, first_below, first_stands, to_first, up_to, eq_is}

abbrev down : ℕ → List (ℕ × StoredRow) → List (ℕ × StoredRow)
down k es = filter (λ e. nat_le e.0 k) es

down_all : (k : ℕ) (at : ℕ → Option StoredRow) (n : ℕ) → n ≤ k + 1 → down k (entries_below at n) ≡ entries_below at n
down_all k at zero h = refl
down_all k at (suc n) h =
    let rest = down_all k at n (omega arith) in
    let in_it : nat_le n k ≡ true = grind (arith, nat_tests) in
    elim (at n) as (λ o. down k (with_entry n o (entries_below at n)) ≡ with_entry n o (entries_below at n)) [
      | None ↦ rest
      | Some r ↦ ap (λ b. cond b ((n, r) ∷ down k (entries_below at n)) (down k (entries_below at n))) in_it ∙ ap (λ es. (n, r) ∷ es) rest
    ]

-- from a number down, the rows are those up to it
down_to : (k : ℕ) (at : ℕ → Option StoredRow) (n : ℕ) → k < n → down k (entries_below at n) ≡ entries_below at (suc k)
down_to k at zero h = absurd (omega arith)
down_to k at (suc n) h =
    elim (nat_le n k) as (λ b. nat_le n k ≡ b → down k (entries_below at (suc n)) ≡ entries_below at (suc k)) [
      | true ↦ λ t.
          let least : n ≤ k = grind (arith, nat_tests) in
          let same : n ≡ k = omega arith in
          down_all k at (suc n) (omega arith) ∙ ap (λ m. entries_below at (suc m)) same
      | false ↦ λ t.
          let less : k < n = grind (arith, nat_tests) in
          let rest = down_to k at n less in
          elim (at n) as (λ o. down k (with_entry n o (entries_below at n)) ≡ entries_below at (suc k)) [
            | None ↦ rest
            | Some r ↦ ap (λ b. cond b ((n, r) ∷ down k (entries_below at n)) (down k (entries_below at n))) t ∙ rest
          ]
    ] refl

-- a walk that begins at the first row of a spot has all of them left
pub down_first : (s : Spot) (at : ℕ → Option StoredRow) (n next : ℕ) (o : Option ℕ) → o ≡ first_at s (entries_below at n) → n ≤ next
    → rows_down s o (entries_below at next) ≡ filter (stands_at s) (rows_of (entries_below at n))
down_first s at n next o h le =
    let begins = to_first (λ es. filter (stands_at s) (rows_of es)) s (λ k r es other. ap (λ b. cond b (r ∷ filter (stands_at s) (rows_of es)) (filter (stands_at s) (rows_of es))) other) at n in
    sym (begins ∙ ap (λ x. filter (stands_at s) (rows_of (up_to at x))) (sym h)
    ∙ (elim o as (λ x. x ≡ first_at s (entries_below at n) → filter (stands_at s) (rows_of (up_to at x)) ≡ rows_down s x (entries_below at next)) [
      | None ↦ λ e. refl
      | Some k ↦ λ e. let less = first_below s at n k (sym e) in ap (λ es. filter (stands_at s) (rows_of es)) (sym (down_to k at next (omega arith)))
    ] h))

-- one row is passed
pub down_next : (s : Spot) (at : ℕ → Option StoredRow) (k next : ℕ) (r : StoredRow) (o : Option ℕ) → k < next → at k ≡ Some r → stands_at s r ≡ true → o ≡ first_at s (entries_below at k)
    → rows_down s (Some k) (entries_below at next) ≡ r ∷ rows_down s o (entries_below at next)
down_next s at k next r o less here fits h =
    ap (λ es. filter (stands_at s) (rows_of es)) (down_to k at next less)
    ∙ ap (λ x. filter (stands_at s) (rows_of (with_entry k x (entries_below at k)))) here
    ∙ ap (λ b. cond b (r ∷ filter (stands_at s) (rows_of (entries_below at k))) (filter (stands_at s) (rows_of (entries_below at k)))) fits
    ∙ ap (λ rs. r ∷ rs) (sym (down_first s at k next o h (omega arith)))

-- a walk stands at a row of its spot
pub record There (at : ℕ → Option StoredRow) (s : Spot) (k n : ℕ) : Type 0 where
  pub stands : Stands at s k
  pub below : k < n

pub there_stands : (s : Spot) (at : ℕ → Option StoredRow) (n k : ℕ) → is_there s (Some k) (entries_below at n) ≡ true → There at s k n
there_stands s at zero k h = absurd (cc)
there_stands s at (suc n) k h =
    elim (at n) as (λ o. at n ≡ o → is_there s (Some k) (with_entry n o (entries_below at n)) ≡ true → There at s k (suc n)) [
      | None ↦ λ e rest. let it = there_stands s at n k rest in let less = it.below in record { stands = it.stands; below = omega arith }
      | Some r ↦ λ e. elim (nat_eq k n) as (λ b. nat_eq k n ≡ b → (b && stands_at s r) || is_there s (Some k) (entries_below at n) ≡ true → There at s k (suc n)) [
        | true ↦ λ t. let same : k ≡ n = eq_is k n t in elim (stands_at s r) as (λ b. stands_at s r ≡ b → b || is_there s (Some k) (entries_below at n) ≡ true → There at s k (suc n)) [
          | true ↦ λ f h. record { stands = record { row = r; here = ap at same ∙ e; fits = f }; below = omega arith }
          | false ↦ λ f rest. let it = there_stands s at n k rest in let less = it.below in record { stands = it.stands; below = omega arith }
        ] refl
        | false ↦ λ t rest. let it = there_stands s at n k rest in let less = it.below in record { stands = it.stands; below = omega arith }
      ] refl
    ] refl h

pub stands_there : (s : Spot) (at : ℕ → Option StoredRow) (n k : ℕ) → Stands at s k → k < n → is_there s (Some k) (entries_below at n) ≡ true
stands_there s at zero k stands h = absurd (omega arith)
stands_there s at (suc n) k stands h =
    elim (nat_eq k n) as (λ b. nat_eq k n ≡ b → is_there s (Some k) (with_entry n (at n) (entries_below at n)) ≡ true) [
      | true ↦ λ t.
          ap (λ o. is_there s (Some k) (with_entry n o (entries_below at n))) (sym (ap at (eq_is k n t)) ∙ stands.here)
          ∙ ap (λ b. (b && stands_at s stands.row) || is_there s (Some k) (entries_below at n)) t
          ∙ ap (λ b. b || is_there s (Some k) (entries_below at n)) stands.fits
      | false ↦ λ t.
          let less : k < n = grind (arith, nat_tests) in
          let rest = stands_there s at n k stands less in
          elim (at n) as (λ o. is_there s (Some k) (with_entry n o (entries_below at n)) ≡ true) [
            | None ↦ rest
            | Some r ↦ ap (λ b. (b && stands_at s r) || is_there s (Some k) (entries_below at n)) t ∙ rest
          ]
    ] refl

pub first_there : (s : Spot) (at : ℕ → Option StoredRow) (n next : ℕ) (o : Option ℕ) → o ≡ first_at s (entries_below at n) → n ≤ next → is_there s o (entries_below at next) ≡ true
first_there s at n next None h le = refl
first_there s at n next (Some k) h le =
    let less = first_below s at n k (sym h) in
    stands_there s at next k (first_stands s at n k (sym h)) (omega arith)
