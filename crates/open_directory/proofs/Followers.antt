-- The readers of a put, counted as readers come and go.
use Rattle.std.proofs.Common.{◌≡◌, ℕ, ◌+◌, ◌≤◌, true, false, cond, List, [], ◌∷◌, length, Option, Some, None, refl, sym, ap, subst, ◌∙◌, arith}
use Rattle.std.specs.declared.cmp.Ordering.{Ordering}
use Rattle.std.specs.declared.cmp.Ordering.TheVariants.{Less, Equal, Greater}
use Rattle.std.specs.Ordering.{nat_cmp, match_ordering, is_eq}
use Rattle.std.specs.BTreeMap.{insert_entry}
use Rattle.std.specs.Prelude.{◌&&◌}
use Rattle.std.specs.Map.{lookup, remove_entry}
use Rattle.std.proofs.lemmas.Map.Lookups.{exact_unsigned}
use Rattle.open_directory.specs.declared.kept.KeptPut.{KeptPut}
use Rattle.open_directory.specs.declared.kept.Reader.{Reader}
use Rattle.open_directory.specs.Directory.{changed, followers_kept, followers_of, is_done_put, is_follower, is_number, kept_put}

abbrev one : ℕ → Reader → ℕ
one put reader = cond (is_follower put reader) 1 0

abbrev followers_some : ℕ → Option Reader → ℕ
followers_some put None = 0
followers_some put (Some reader) = one put reader

pub followers_added : (put n : ℕ) (r : Reader) (es : List (ℕ × Reader)) → lookup (is_number n) es ≡ None
    → followers_of put (insert_entry nat_cmp es n r) ≡ cond (is_follower put r) 1 0 + followers_of put es
followers_added put n r [] h = refl
followers_added put n r (e ∷ es) h =
    elim (nat_cmp n e.0) as (λ (o : Ordering). cond (is_eq o) (Some e.1) (lookup (is_number n) es) ≡ None
    → followers_of put (match_ordering o ((n, r) ∷ e ∷ es) ((e.0, r) ∷ es) (e ∷ insert_entry nat_cmp es n r)) ≡ one put r + (one put e.1 + followers_of put es)) [
      | Less ↦ λ none. refl
      | Equal ↦ λ some. absurd (cc)
      | Greater ↦ λ none. let more = followers_added put n r es none in omega (arith, more)
    ] h

pub followers_removed : (put n : ℕ) (r : Reader) (es : List (ℕ × Reader)) → lookup (is_number n) es ≡ Some r
    → followers_of put es ≡ cond (is_follower put r) 1 0 + followers_of put (remove_entry (is_number n) es)
followers_removed put n r [] h = absurd (cc)
followers_removed put n r (e ∷ es) h =
    elim (is_number n e.0) as (λ b. cond b (Some e.1) (lookup (is_number n) es) ≡ Some r
    → one put e.1 + followers_of put es ≡ one put r + followers_of put (cond b es (e ∷ remove_entry (is_number n) es))) [
      | true ↦ λ found. ap (λ o. followers_some put o + followers_of put es) found
      | false ↦ λ rest. let fewer = followers_removed put n r es rest in omega (arith, fewer)
    ] h

pub followers_moved : (put n : ℕ) (next : ℕ) (es : List (ℕ × Reader))
    → followers_of put (changed (λ r. record r { next = next }) n es) ≡ followers_of put es
followers_moved put n next [] = refl
followers_moved put n next (e ∷ es) =
    elim (is_number n e.0) as (λ b. followers_of put (cond b ((e.0, record e.1 { next = next }) ∷ es) (e ∷ changed (λ r. record r { next = next }) n es)) ≡ one put e.1 + followers_of put es) [
      | true ↦ refl
      | false ↦ ap (λ k. one put e.1 + k) (followers_moved put n next es)
    ]

pub followers_few : (put : ℕ) (es : List (ℕ × Reader)) → followers_of put es ≤ length es
followers_few put [] = omega arith
followers_few put (e ∷ es) =
    let rest = followers_few put es in
    elim (is_follower put e.1) as (λ b. cond b 1 0 + followers_of put es ≤ length (e ∷ es)) [ true ↦ omega (arith, rest) | false ↦ omega (arith, rest) ]

pub same_number : (a b : ℕ) → is_number a b ≡ true → a ≡ b
same_number a b h =
    exact_unsigned a b (elim (nat_cmp a b) as (λ (o : Ordering). is_eq o ≡ true → o ≡ Equal) [
      | Less ↦ λ e. absurd (cc)
      | Equal ↦ λ e. refl
      | Greater ↦ λ e. absurd (cc)
    ] h)

-- a change that keeps the count
pub followers_changed : (f : KeptPut → KeptPut) → ((kept : KeptPut) → (f kept).followers ≡ kept.followers) → (q n : ℕ) (es : List (ℕ × KeptPut))
    → followers_kept (kept_put q (changed f n es)) ≡ followers_kept (kept_put q es)
followers_changed f keeps q n [] = refl
followers_changed f keeps q n (e ∷ es) =
    elim (is_number n e.0) as (λ b. followers_kept (kept_put q (cond b ((e.0, f e.1) ∷ es) (e ∷ changed f n es))) ≡ followers_kept (kept_put q (e ∷ es))) [
      | true ↦ elim (is_number q e.0) as (λ b. followers_kept (cond b (Some (f e.1)) (kept_put q es)) ≡ followers_kept (cond b (Some e.1) (kept_put q es))) [ true ↦ keeps e.1 | false ↦ refl ]
      | false ↦ elim (is_number q e.0) as (λ b. followers_kept (cond b (Some e.1) (kept_put q (changed f n es))) ≡ followers_kept (cond b (Some e.1) (kept_put q es))) [ true ↦ refl | false ↦ followers_changed f keeps q n es ]
    ]

pub at_number : (n q : ℕ) (es : List (ℕ × KeptPut)) (found : Option KeptPut) → kept_put n es ≡ found → is_number n q ≡ true → kept_put q es ≡ found
at_number n q es found is t = let P : ℕ → Type 0 = λ k. kept_put k es ≡ found in subst P (same_number n q t) is

-- a done put has no followers, so without it the counts are the same
none_done : (o : Option KeptPut) → is_done_put o ≡ true → followers_kept o ≡ 0
none_done None h = refl
none_done (Some kept) h = grind arith

pub followers_forgotten : (q n : ℕ) (es es' : List (ℕ × KeptPut)) → is_done_put (kept_put n es) ≡ true → kept_put q es' ≡ cond (is_number n q) None (kept_put q es)
    → followers_kept (kept_put q es') ≡ followers_kept (kept_put q es)
followers_forgotten q n es es' done is =
    ap followers_kept is ∙
    elim (is_number n q) as (λ b. is_number n q ≡ b → followers_kept (cond b None (kept_put q es)) ≡ followers_kept (kept_put q es)) [
      | true ↦ λ t. sym (ap followers_kept (at_number n q es (kept_put n es) refl t) ∙ none_done (kept_put n es) done)
      | false ↦ λ t. refl
    ] refl

-- one follower more, or one fewer, of the put that is written
pub followers_more : (q n : ℕ) (es es' : List (ℕ × KeptPut)) (v w : KeptPut) → kept_put n es ≡ Some v → kept_put q es' ≡ cond (is_number n q) (Some w) (kept_put q es) → w.followers ≡ 1 + v.followers
    → followers_kept (kept_put q es') ≡ cond (is_number n q) 1 0 + followers_kept (kept_put q es)
followers_more q n es es' v w found is more =
    ap followers_kept is ∙
    elim (is_number n q) as (λ b. is_number n q ≡ b → followers_kept (cond b (Some w) (kept_put q es)) ≡ cond b 1 0 + followers_kept (kept_put q es)) [
      | true ↦ λ t. more ∙ ap (λ k. 1 + k) (sym (ap followers_kept (at_number n q es (Some v) found t)))
      | false ↦ λ t. omega arith
    ] refl

pub followers_fewer : (q n : ℕ) (es es' : List (ℕ × KeptPut)) (v w : KeptPut) → kept_put n es ≡ Some v → kept_put q es' ≡ cond (is_number n q) (Some w) (kept_put q es) → v.followers ≡ 1 + w.followers
    → followers_kept (kept_put q es) ≡ cond (is_number n q) 1 0 + followers_kept (kept_put q es')
followers_fewer q n es es' v w found is fewer =
    let now = ap followers_kept is in
    ap (λ k. k) (elim (is_number n q) as (λ b. is_number n q ≡ b → followers_kept (kept_put q es) ≡ cond b 1 0 + followers_kept (cond b (Some w) (kept_put q es))) [
      | true ↦ λ t. ap followers_kept (at_number n q es (Some v) found t) ∙ fewer
      | false ↦ λ t. omega arith
    ] refl) ∙ ap (λ k. cond (is_number n q) 1 0 + k) (sym now)

pub is_follower_so : (put : ℕ) (reader : Reader) → reader.follows ≡ true → is_follower put reader ≡ is_number reader.put put
is_follower_so put reader h = ap (λ b. b && is_number reader.put put) h

pub is_no_follower : (put : ℕ) (reader : Reader) → reader.follows ≡ false → is_follower put reader ≡ false
is_no_follower put reader h = ap (λ b. b && is_number reader.put put) h

pub is_number_self : (n : ℕ) → is_number n n ≡ true
is_number_self n = grind arith

pub is_follower_self : (reader : Reader) → reader.follows ≡ true → is_follower reader.put reader ≡ true
is_follower_self reader h = is_follower_so reader.put reader h ∙ is_number_self reader.put
