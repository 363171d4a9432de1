-- Entries whose numbers rise, as they come, change and go.
use Rattle.std.proofs.Common.{◌≡◌, ℕ, ◌+◌, ◌<◌, ◌≤◌, true, false, cond, List, [], ◌∷◌, Option, Some, None, refl, sym, ap, subst, ◌∙◌, arith}
use Rattle.std.specs.declared.cmp.Ordering.{Ordering}
use Rattle.std.specs.declared.cmp.Ordering.TheVariants.{Greater}
use Rattle.std.specs.Ordering.{nat_cmp, match_ordering}
use Rattle.std.specs.Cmp.{nat_cmp_is}
use Rattle.std.specs.Prelude.{Bool, option_map}
use Rattle.std.specs.BTreeMap.{insert_entry}
use Rattle.std.specs.Map.{lookup, remove_entry}
use Rattle.open_directory.specs.declared.kept.KeptPut.{KeptPut}
use Rattle.open_directory.specs.Directory.{changed, is_done_put, is_number, kept_put, unless_done, without_done}
use Rattle.open_directory.specs.Readers.{Rises}
use Rattle.open_directory.proofs.Followers.{same_number}
use Rattle.open_directory.proofs.Rising.{found_removed}
use Rattle.open_directory.proofs.Standing.{number_flip}
use Rattle.stripe_actors.specs.Actors.{RiseWithin}

-- ---- the test for a number

number_at : (a b c : ℕ) → is_number a c ≡ true → is_number b a ≡ is_number b c
number_at a b c t = ap (λ (m : ℕ). is_number b m) (same_number a c t)

-- ---- numbers that rise

pub rise_bounds : {X : Type 0} (low high : ℕ) (es : List (ℕ × X)) → RiseWithin low high es → low ≤ high
rise_bounds low high [] h = h
rise_bounds low high (e ∷ es) h = let rest : e.0 + 1 ≤ high = rise_bounds (e.0 + 1) high es h.1 in let first : low ≤ e.0 = h.0 in omega arith

pub rises_within : {X : Type 0} (low high : ℕ) (es : List (ℕ × X)) → RiseWithin low high es → Rises low es
rises_within low high [] h = tt
rises_within low high (e ∷ es) h = (h.0, rises_within (e.0 + 1) high es h.1)

pub rise_from : {X : Type 0} (low from high : ℕ) (es : List (ℕ × X)) → low ≤ from → RiseWithin from high es → RiseWithin low high es
rise_from low from high [] le h = let k : from ≤ high = h in omega arith
rise_from low from high (e ∷ es) le h = let k : from ≤ e.0 = h.0 in (omega arith, h.1)

pub rise_changed : {X : Type 0} (f : X → X) (n low high : ℕ) (es : List (ℕ × X)) → RiseWithin low high es → RiseWithin low high (changed f n es)
rise_changed f n low high [] h = h
rise_changed f n low high (e ∷ es) h =
    elim (is_number n e.0) as (λ b. RiseWithin low high (cond b ((e.0, f e.1) ∷ es) (e ∷ changed f n es))) [ true ↦ h | false ↦ (h.0, rise_changed f n (e.0 + 1) high es h.1) ]

pub rise_removed : {X : Type 0} (n low high : ℕ) (es : List (ℕ × X)) → RiseWithin low high es → RiseWithin low high (remove_entry (is_number n) es)
rise_removed n low high [] h = h
rise_removed n low high (e ∷ es) h =
    let first : low ≤ e.0 = h.0 in
    elim (is_number n e.0) as (λ b. RiseWithin low high (cond b es (e ∷ remove_entry (is_number n) es))) [
      | true ↦ rise_from low (e.0 + 1) high es (omega arith) h.1
      | false ↦ (h.0, rise_removed n (e.0 + 1) high es h.1)
    ]

pub rise_unless_done : (n low high : ℕ) (puts : List (ℕ × KeptPut)) → RiseWithin low high puts → RiseWithin low high (without_done n puts)
rise_unless_done n low high puts h =
    elim (is_done_put (kept_put n puts)) as (λ b. RiseWithin low high (cond b (remove_entry (is_number n) puts) puts)) [ true ↦ rise_removed n low high puts h | false ↦ h ]

-- ---- one entry more, behind the others

greater : (e n : ℕ) → e < n → Greater ≡ nat_cmp n e
greater e n lt = nat_cmp_is n e Greater lt

pub rise_inserted : {X : Type 0} (n low : ℕ) (v : X) (es : List (ℕ × X)) → RiseWithin low n es → RiseWithin low (n + 1) (insert_entry nat_cmp es n v)
rise_inserted n low v [] h = (h, omega arith)
rise_inserted n low v (e ∷ es) h =
    let below : e.0 + 1 ≤ n = rise_bounds (e.0 + 1) n es h.1 in
    subst (λ (o : Ordering). RiseWithin low (n + 1) (match_ordering o ((n, v) ∷ e ∷ es) ((e.0, v) ∷ es) (e ∷ insert_entry nat_cmp es n v)))
    (greater e.0 n (omega arith))
    (h.0, rise_inserted n (e.0 + 1) v es h.1)

-- ---- what is found

pub absent_above : {X : Type 0} (n low high : ℕ) (es : List (ℕ × X)) → high ≤ n → RiseWithin low high es → lookup (is_number n) es ≡ None
absent_above n low high [] le h = refl
absent_above n low high (e ∷ es) le h =
    let below : e.0 + 1 ≤ high = rise_bounds (e.0 + 1) high es h.1 in
    let rest = absent_above n (e.0 + 1) high es le h.1 in
    elim (is_number n e.0) as (λ b. is_number n e.0 ≡ b → cond b (Some e.1) (lookup (is_number n) es) ≡ None) [
      | true ↦ λ t. let same : n ≡ e.0 = same_number n e.0 t in absurd (omega arith)
      | false ↦ λ t. rest
    ] refl

-- a number that is changed is found changed, and the others as they were
pub found_changed : {X : Type 0} (f : X → X) (n q : ℕ) (es : List (ℕ × X))
    → lookup (is_number q) (changed f n es) ≡ cond (is_number n q) (option_map f (lookup (is_number q) es)) (lookup (is_number q) es)
found_changed {X} f n q [] = let none : Option X = None in elim (is_number n q) as (λ b. none ≡ cond b none none) [ true ↦ refl | false ↦ refl ]
found_changed {X} f n q (e ∷ es) = by_changed (found_changed f n q es) (is_number n e.0) refl (is_number q e.0) refl
  where
    by_changed : lookup (is_number q) (changed f n es) ≡ cond (is_number n q) (option_map f (lookup (is_number q) es)) (lookup (is_number q) es)
        → (b : Bool) → is_number n e.0 ≡ b → (w : Bool) → is_number q e.0 ≡ w
        → lookup (is_number q) (cond b ((e.0, f e.1) ∷ es) (e ∷ changed f n es))
        ≡ cond (is_number n q) (option_map f (lookup (is_number q) (e ∷ es))) (lookup (is_number q) (e ∷ es))
    by_changed rest true t true w =
        let here : is_number n q ≡ true = number_at q n e.0 w ∙ t in
        rw (here, w) refl
    by_changed rest true t false w =
        let there : is_number n q ≡ false = number_flip n q ∙ number_at n q e.0 t ∙ w in
        rw (there, w) refl
    by_changed rest false t true w =
        let there : is_number n q ≡ false = number_at q n e.0 w ∙ t in
        rw (there, w) refl
    by_changed rest false t false w = rw w rest

-- a put that is done is not found, and the others are as they were
pub found_unless_done : (n q low high : ℕ) (puts : List (ℕ × KeptPut)) → RiseWithin low high puts
    → kept_put q (without_done n puts) ≡ cond (is_number n q) (unless_done (kept_put q puts)) (kept_put q puts)
found_unless_done n q low high puts h = by_test (is_number n q) refl (is_done_put (kept_put n puts)) refl
  where
    by_test : (b : Bool) → is_number n q ≡ b → (done : Bool) → is_done_put (kept_put n puts) ≡ done
        → kept_put q (cond done (remove_entry (is_number n) puts) puts) ≡ cond b (unless_done (kept_put q puts)) (kept_put q puts)
    by_test true b true d =
        let same : is_done_put (kept_put q puts) ≡ true = ap (λ (m : ℕ). is_done_put (kept_put m puts)) (sym (same_number n q b)) ∙ d in
        found_removed n q low puts (rises_within low high puts h) ∙ ap (λ (c : Bool). cond c None (kept_put q puts)) b ∙ sym (ap (λ (c : Bool). cond c None (kept_put q puts)) same)
    by_test true b false d =
        let same : is_done_put (kept_put q puts) ≡ false = ap (λ (m : ℕ). is_done_put (kept_put m puts)) (sym (same_number n q b)) ∙ d in
        sym (ap (λ (c : Bool). cond c None (kept_put q puts)) same)
    by_test false b true d = found_removed n q low puts (rises_within low high puts h) ∙ ap (λ (c : Bool). cond c None (kept_put q puts)) b
    by_test false b false d = refl
