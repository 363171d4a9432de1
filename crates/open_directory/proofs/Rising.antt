-- Entries in the order of their numbers: what is found among them, and that equal finds give equal entries.
use Rattle.std.proofs.Common.{◌≡◌, ℕ, ◌+◌, ◌<◌, ◌≤◌, true, false, cond, List, [], ◌∷◌, length, Option, Some, None, refl, sym, ap, subst, ◌∙◌, arith}
use Rattle.std.specs.Prelude.{Bool, nat_eq}
use Rattle.std.specs.declared.cmp.Ordering.{Ordering}
use Rattle.std.specs.declared.cmp.Ordering.TheVariants.{Less, Equal, Greater}
use Rattle.std.specs.Ordering.{nat_cmp, match_ordering, MatchOrdering}
use Rattle.std.specs.Cmp.{ranks}
use Rattle.std.specs.BTreeMap.{insert_entry}
use Rattle.std.specs.Map.{lookup, remove_entry}
use Rattle.open_directory.specs.declared.kept.Reader.{Reader}
use Rattle.open_directory.specs.Directory.{changed, is_number}
use Rattle.open_directory.specs.Readers.{Rises, SetsEntry, by_number}
use Rattle.open_directory.proofs.Entries.{some_is}
use Rattle.open_directory.proofs.Followers.{is_number_self, same_number}
use Rattle.open_directory.proofs.Indexed.{found_changed}
use Rattle.open_directory.proofs.Standing.{eq_number, number_flip}

-- ---- one entry more

pub found_inserted : {X : Type 0} (q n : ℕ) (v : X) (es : List (ℕ × X)) → lookup (is_number q) (insert_entry nat_cmp es n v) ≡ cond (is_number n q) (Some v) (lookup (is_number q) es)
found_inserted q n v [] = ap (λ b. cond b (Some v) None) (number_flip q n)
found_inserted {X} q n v (e ∷ es) =
    elim (nat_cmp n e.0) as (λ (o : Ordering). MatchOrdering o (n < e.0) (n ≡ e.0) (e.0 < n)
    → lookup (is_number q) (match_ordering o ((n, v) ∷ e ∷ es) ((e.0, v) ∷ es) (e ∷ insert_entry nat_cmp es n v)) ≡ cond (is_number n q) (Some v) (lookup (is_number q) (e ∷ es))) [
      | Less ↦ λ lt. ap (λ b. cond b (Some v) (lookup (is_number q) (e ∷ es))) (number_flip q n)
      | Equal ↦ λ same. here (number_flip n q ∙ ap (λ k. is_number q k) same)
      | Greater ↦ λ gt. behind gt (found_inserted q n v es)
    ] (ranks n e.0)
  where
    here : is_number n q ≡ is_number q e.0 → cond (is_number q e.0) (Some v) (lookup (is_number q) es) ≡ cond (is_number n q) (Some v) (cond (is_number q e.0) (Some e.1) (lookup (is_number q) es))
    here same =
        elim (is_number q e.0) as (λ (b : Bool). is_number n q ≡ b → cond b (Some v) (lookup (is_number q) es) ≡ cond (is_number n q) (Some v) (cond b (Some e.1) (lookup (is_number q) es))) [
          | true ↦ λ t. sym (ap (λ b. cond b (Some v) (Some e.1)) t)
          | false ↦ λ t. sym (ap (λ b. cond b (Some v) (lookup (is_number q) es)) t)
        ] same

    other : e.0 < n → is_number q e.0 ≡ true → is_number n q ≡ false
    other gt t =
        let same : q ≡ e.0 = same_number q e.0 t in
        elim (is_number n q) as (λ (b : Bool). is_number n q ≡ b → b ≡ false) [
          | true ↦ λ u. let also : n ≡ q = same_number n q u in absurd (omega (arith, gt, same, also))
          | false ↦ λ u. refl
        ] refl

    behind : e.0 < n → lookup (is_number q) (insert_entry nat_cmp es n v) ≡ cond (is_number n q) (Some v) (lookup (is_number q) es)
        → cond (is_number q e.0) (Some e.1) (lookup (is_number q) (insert_entry nat_cmp es n v)) ≡ cond (is_number n q) (Some v) (cond (is_number q e.0) (Some e.1) (lookup (is_number q) es))
    behind gt rest =
        elim (is_number q e.0) as (λ (b : Bool). is_number q e.0 ≡ b → cond b (Some e.1) (lookup (is_number q) (insert_entry nat_cmp es n v)) ≡ cond (is_number n q) (Some v) (cond b (Some e.1) (lookup (is_number q) es))) [
          | true ↦ λ t. sym (ap (λ b. cond b (Some v) (Some e.1)) (other gt t))
          | false ↦ λ t. rest
        ] refl

rises_inserted : {X : Type 0} (n low : ℕ) (v : X) (es : List (ℕ × X)) → low ≤ n → Rises low es → Rises low (insert_entry nat_cmp es n v)
rises_inserted n low v [] le h = (le, tt)
rises_inserted n low v (e ∷ es) le h =
    elim (nat_cmp n e.0) as (λ (o : Ordering). MatchOrdering o (n < e.0) (n ≡ e.0) (e.0 < n) → Rises low (match_ordering o ((n, v) ∷ e ∷ es) ((e.0, v) ∷ es) (e ∷ insert_entry nat_cmp es n v))) [
      | Less ↦ λ lt. (le, (omega (arith, lt), h.1))
      | Equal ↦ λ same. h
      | Greater ↦ λ gt. (h.0, rises_inserted n (e.0 + 1) v es (omega (arith, gt)) h.1)
    ] (ranks n e.0)

-- ---- in order

pub rises_by_number : {X : Type 0} (es : List (ℕ × X)) → Rises 0 (by_number es)
rises_by_number [] = tt
rises_by_number (e ∷ es) = rises_inserted e.0 0 e.1 (by_number es) (omega arith) (rises_by_number es)

pub found_by_number : {X : Type 0} (q : ℕ) (es : List (ℕ × X)) → lookup (is_number q) (by_number es) ≡ lookup (nat_eq q) es
found_by_number q [] = refl
found_by_number q (e ∷ es) =
    found_inserted q e.0 e.1 (by_number es)
    ∙ ap (λ b. cond b (Some e.1) (lookup (is_number q) (by_number es))) (number_flip e.0 q ∙ sym (eq_number q e.0))
    ∙ ap (λ found. cond (nat_eq q e.0) (Some e.1) found) (found_by_number q es)

length_inserted : {X : Type 0} (n : ℕ) (v : X) (es : List (ℕ × X)) → length (insert_entry nat_cmp es n v) ≤ 1 + length es
length_inserted n v [] = omega arith
length_inserted n v (e ∷ es) =
    let rest = length_inserted n v es in
    elim (nat_cmp n e.0) as (λ (o : Ordering). length (match_ordering o ((n, v) ∷ e ∷ es) ((e.0, v) ∷ es) (e ∷ insert_entry nat_cmp es n v)) ≤ 1 + length (e ∷ es)) [
      | Less ↦ omega arith
      | Equal ↦ omega arith
      | Greater ↦ omega (arith, rest)
    ]

pub length_by_number : {X : Type 0} (es : List (ℕ × X)) → length (by_number es) ≤ length es
length_by_number [] = omega arith
length_by_number (e ∷ es) = let one = length_inserted e.0 e.1 (by_number es) in let rest = length_by_number es in omega (arith, one, rest)

-- ---- equal finds

pub absent_below : {X : Type 0} (q low : ℕ) (es : List (ℕ × X)) → q < low → Rises low es → lookup (is_number q) es ≡ None
absent_below q low [] lt h = refl
absent_below q low (e ∷ es) lt h =
    let first : low ≤ e.0 = h.0 in
    let rest = absent_below q (e.0 + 1) es (omega (arith, lt, first)) h.1 in
    elim (is_number q e.0) as (λ b. is_number q e.0 ≡ b → cond b (Some e.1) (lookup (is_number q) es) ≡ None) [
      | true ↦ λ t. let same : q ≡ e.0 = same_number q e.0 t in absurd (omega (arith, lt, first, same))
      | false ↦ λ t. rest
    ] refl

found_first : {X : Type 0} (e : ℕ × X) (es : List (ℕ × X)) → lookup (is_number e.0) (e ∷ es) ≡ Some e.1
found_first e es = ap (λ b. cond b (Some e.1) (lookup (is_number e.0) es)) (is_number_self e.0)

not_none : {X : Type 0} (v : X) → Some v ≡ None → ⊥
not_none v h = cc h

pub rises_same : {X : Type 0} (low : ℕ) (es fs : List (ℕ × X)) → Rises low es → Rises low fs → ((q : ℕ) → lookup (is_number q) es ≡ lookup (is_number q) fs) → es ≡ fs
rises_same low [] [] r s h = refl
rises_same low [] (f ∷ fs) r s h = absurd (not_none f.1 (sym (found_first f fs) ∙ sym (h f.0)))
rises_same low (e ∷ es) [] r s h = absurd (not_none e.1 (sym (found_first e es) ∙ h e.0))
rises_same {X} low (e ∷ es) (f ∷ fs) r s h =
    elim (nat_cmp e.0 f.0) as (λ (o : Ordering). MatchOrdering o (e.0 < f.0) (e.0 ≡ f.0) (f.0 < e.0) → e ∷ es ≡ f ∷ fs) [
      | Less ↦ λ lt. absurd (not_none e.1 (sym (found_first e es) ∙ h e.0 ∙ absent_below e.0 f.0 (f ∷ fs) lt (omega arith, s.1)))
      | Equal ↦ λ same. alike same (rises_same (e.0 + 1) es fs r.1 (subst (λ k. Rises (k + 1) fs) (sym same) s.1) (tails same))
      | Greater ↦ λ gt. absurd (not_none f.1 (sym (found_first f fs) ∙ sym (h f.0) ∙ absent_below f.0 e.0 (e ∷ es) gt (omega arith, r.1)))
    ] (ranks e.0 f.0)
  where
    tails : e.0 ≡ f.0 → (q : ℕ) → lookup (is_number q) es ≡ lookup (is_number q) fs
    tails same q =
        elim (is_number q e.0) as (λ (b : Bool). is_number q e.0 ≡ b → lookup (is_number q) es ≡ lookup (is_number q) fs) [
          | true ↦ λ t.
              let at : q ≡ e.0 = same_number q e.0 t in
              absent_below q (e.0 + 1) es (omega (arith, at)) r.1 ∙ sym (absent_below q (f.0 + 1) fs (omega (arith, at, same)) s.1)
          | false ↦ λ t.
              let u : is_number q f.0 ≡ false = ap (λ k. is_number q k) (sym same) ∙ t in
              sym (ap (λ b. cond b (Some e.1) (lookup (is_number q) es)) t) ∙ h q ∙ ap (λ b. cond b (Some f.1) (lookup (is_number q) fs)) u
        ] refl

    alike : e.0 ≡ f.0 → es ≡ fs → e ∷ es ≡ f ∷ fs
    alike same rest =
        let value : e.1 ≡ f.1 = some_is e.1 f.1 (sym (found_first e es) ∙ h e.0 ∙ ap (λ b. cond b (Some f.1) (lookup (is_number e.0) fs)) (ap (λ k. is_number e.0 k) (sym same) ∙ is_number_self e.0)) in
        λ i. (same i, value i) ∷ rest i

-- ---- what a hash map does with its entries, in order

pub same_in_order : {X : Type 0} (es es' : List (ℕ × X)) → ((q : ℕ) → lookup (nat_eq q) es' ≡ lookup (nat_eq q) es) → by_number es' ≡ by_number es
same_in_order es es' h = rises_same 0 (by_number es') (by_number es) (rises_by_number es') (rises_by_number es) (λ q. found_by_number q es' ∙ h q ∙ sym (found_by_number q es))

pub set_in_order : {X : Type 0} (n : ℕ) (w : Option X) (es es' : List (ℕ × X)) → ((q : ℕ) → lookup (nat_eq q) es' ≡ cond (nat_eq n q) w (lookup (nat_eq q) es)) → SetsEntry n w (by_number es) (by_number es')
set_in_order n w es es' h q =
    found_by_number q es' ∙ h q
    ∙ ap (λ b. cond b w (lookup (nat_eq q) es)) (eq_number n q)
    ∙ ap (λ found. cond (is_number n q) w found) (sym (found_by_number q es))

pub added_in_order : {X : Type 0} (n : ℕ) (v : X) (es es' : List (ℕ × X)) → ((q : ℕ) → lookup (nat_eq q) es' ≡ cond (nat_eq n q) (Some v) (lookup (nat_eq q) es)) → by_number es' ≡ insert_entry nat_cmp (by_number es) n v
added_in_order n v es es' h =
    rises_same 0 (by_number es') (insert_entry nat_cmp (by_number es) n v) (rises_by_number es') (rises_inserted n 0 v (by_number es) (omega arith) (rises_by_number es))
    (λ q. set_in_order n (Some v) es es' h q ∙ sym (found_inserted q n v (by_number es)))

rises_changed : {X : Type 0} (f : X → X) (n low : ℕ) (es : List (ℕ × X)) → Rises low es → Rises low (changed f n es)
rises_changed f n low [] h = h
rises_changed f n low (e ∷ es) h =
    elim (is_number n e.0) as (λ b. Rises low (cond b ((e.0, f e.1) ∷ es) (e ∷ changed f n es))) [ true ↦ h | false ↦ (h.0, rises_changed f n (e.0 + 1) es h.1) ]

pub changed_in_order : (f : Reader → Reader) (n : ℕ) (v w : Reader) (es es' : List (ℕ × Reader)) → lookup (nat_eq n) es ≡ Some v → w ≡ f v
    → ((q : ℕ) → lookup (nat_eq q) es' ≡ cond (nat_eq n q) (Some w) (lookup (nat_eq q) es)) → by_number es' ≡ changed f n (by_number es)
changed_in_order f n v w es es' found is h =
    rises_same 0 (by_number es') (changed f n (by_number es)) (rises_by_number es') (rises_changed f n 0 (by_number es) (rises_by_number es))
    (λ q. set_in_order n (Some w) es es' h q ∙ ap (λ x. cond (is_number n q) (Some x) (lookup (is_number q) (by_number es))) is ∙ sym (found_changed f n (by_number es) v (found_by_number n es ∙ found) q))

rises_from : {X : Type 0} (low from : ℕ) (es : List (ℕ × X)) → low ≤ from → Rises from es → Rises low es
rises_from low from [] le h = tt
rises_from low from (e ∷ es) le h = let k : from ≤ e.0 = h.0 in (omega (arith, le, k), h.1)

rises_removed : {X : Type 0} (n low : ℕ) (es : List (ℕ × X)) → Rises low es → Rises low (remove_entry (is_number n) es)
rises_removed n low [] h = h
rises_removed n low (e ∷ es) h =
    let first : low ≤ e.0 = h.0 in
    elim (is_number n e.0) as (λ b. Rises low (cond b es (e ∷ remove_entry (is_number n) es))) [
      | true ↦ rises_from low (e.0 + 1) es (omega (arith, first)) h.1
      | false ↦ (h.0, rises_removed n (e.0 + 1) es h.1)
    ]

pub found_removed : {X : Type 0} (n q low : ℕ) (es : List (ℕ × X)) → Rises low es → lookup (is_number q) (remove_entry (is_number n) es) ≡ cond (is_number n q) None (lookup (is_number q) es)
found_removed {X} n q low [] h = let none : Option X = None in elim (is_number n q) as (λ b. none ≡ cond b none none) [ true ↦ refl | false ↦ refl ]
found_removed {X} n q low (e ∷ es) h =
    elim (is_number n e.0) as (λ (b : Bool). is_number n e.0 ≡ b → lookup (is_number q) (cond b es (e ∷ remove_entry (is_number n) es)) ≡ cond (is_number n q) None (lookup (is_number q) (e ∷ es))) [
      | true ↦ λ t. here (same_number n e.0 t)
      | false ↦ λ t. behind t (found_removed n q (e.0 + 1) es h.1)
    ] refl
  where
    here : n ≡ e.0 → lookup (is_number q) es ≡ cond (is_number n q) None (cond (is_number q e.0) (Some e.1) (lookup (is_number q) es))
    here same =
        elim (is_number n q) as (λ (b : Bool). is_number n q ≡ b → lookup (is_number q) es ≡ cond b None (cond (is_number q e.0) (Some e.1) (lookup (is_number q) es))) [
          | true ↦ λ t. let at : n ≡ q = same_number n q t in absent_below q (e.0 + 1) es (omega (arith, at, same)) h.1
          | false ↦ λ t. sym (ap (λ b. cond b (Some e.1) (lookup (is_number q) es)) (ap (λ k. is_number q k) (sym same) ∙ number_flip q n ∙ t))
        ] refl

    behind : is_number n e.0 ≡ false → lookup (is_number q) (remove_entry (is_number n) es) ≡ cond (is_number n q) None (lookup (is_number q) es)
        → cond (is_number q e.0) (Some e.1) (lookup (is_number q) (remove_entry (is_number n) es)) ≡ cond (is_number n q) None (cond (is_number q e.0) (Some e.1) (lookup (is_number q) es))
    behind t rest =
        elim (is_number q e.0) as (λ (b : Bool). is_number q e.0 ≡ b → cond b (Some e.1) (lookup (is_number q) (remove_entry (is_number n) es)) ≡ cond (is_number n q) None (cond b (Some e.1) (lookup (is_number q) es))) [
          | true ↦ λ u.
              let at : q ≡ e.0 = same_number q e.0 u in
              sym (ap (λ b. cond b None (Some e.1)) (ap (λ k. is_number n k) at ∙ t))
          | false ↦ λ u. rest
        ] refl

pub removed_in_order : {X : Type 0} (n : ℕ) (es es' : List (ℕ × X)) → ((q : ℕ) → lookup (nat_eq q) es' ≡ cond (nat_eq n q) None (lookup (nat_eq q) es)) → by_number es' ≡ remove_entry (is_number n) (by_number es)
removed_in_order n es es' h =
    rises_same 0 (by_number es') (remove_entry (is_number n) (by_number es)) (rises_by_number es') (rises_removed n 0 (by_number es) (rises_by_number es))
    (λ q. set_in_order n None es es' h q ∙ sym (found_removed n q 0 (by_number es) (rises_by_number es)))
