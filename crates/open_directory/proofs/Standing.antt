-- Which puts are open and which are done, as puts and writers come and go.
use Rattle.std.proofs.Common.{◌≡◌, ℕ, ◌+◌, true, false, cond, List, [], ◌∷◌, ◌++◌, Option, Some, None, refl, sym, ap, subst, ◌∙◌, zero-add, IfSome, arith}
use Rattle.std.specs.Prelude.{◌&&◌, ◌==◌, not, option_map, if◌then◌else◌}
use Rattle.open_directory.specs.declared.kept.KeptPut.{KeptPut}
use Rattle.open_directory.specs.declared.kept.Writer.{Writer}
use Rattle.open_directory.specs.declared.kept.Phase.{Phase}
use Rattle.open_directory.specs.declared.kept.Phase.TheVariants.{Writing, Closed, GivenUp}
use Rattle.open_directory.specs.Directory.{Forgets, changed, put_followed, followers_kept, is_follow, is_kept_open, is_done_put, is_number, is_open_put, is_writing_phase, kept_put, put_state_of, unless_done, with_followers, with_phase, writers_but, writers_of}
use Rattle.std.specs.List.{fold}
use Rattle.alternate_vector.specs.Field.{Field}
use Rattle.tape_base.specs.declared.keys.Key.{Key}
use Rattle.open_directory.proofs.Followers.{is_number_self, same_number}

-- what is seen of a put and is kept by a change
pub seen_changed : {X : Type 0} (see : Option KeptPut → X) (f : KeptPut → KeptPut) → ((kept : KeptPut) → see (Some (f kept)) ≡ see (Some kept)) → (q n : ℕ) (es : List (ℕ × KeptPut))
    → see (kept_put q (changed f n es)) ≡ see (kept_put q es)
seen_changed see f keeps q n [] = refl
seen_changed see f keeps q n (e ∷ es) =
    elim (is_number n e.0) as (λ b. see (kept_put q (cond b ((e.0, f e.1) ∷ es) (e ∷ changed f n es))) ≡ see (kept_put q (e ∷ es))) [
      | true ↦ elim (is_number q e.0) as (λ b. see (cond b (Some (f e.1)) (kept_put q es)) ≡ see (cond b (Some e.1) (kept_put q es))) [ true ↦ keeps e.1 | false ↦ refl ]
      | false ↦ elim (is_number q e.0) as (λ b. see (cond b (Some e.1) (kept_put q (changed f n es))) ≡ see (cond b (Some e.1) (kept_put q es))) [ true ↦ refl | false ↦ seen_changed see f keeps q n es ]
    ]

-- the put that is changed
pub kept_changed : (f : KeptPut → KeptPut) (n : ℕ) (es : List (ℕ × KeptPut)) → kept_put n (changed f n es) ≡ option_map f (kept_put n es)
kept_changed f n [] = refl
kept_changed f n (e ∷ es) =
    elim (is_number n e.0) as (λ b. is_number n e.0 ≡ b → kept_put n (cond b ((e.0, f e.1) ∷ es) (e ∷ changed f n es)) ≡ option_map f (cond b (Some e.1) (kept_put n es))) [
      | true ↦ λ t. rw t refl
      | false ↦ λ t. rw t (kept_changed f n es)
    ] refl

-- the puts that are not changed
pub kept_other : (f : KeptPut → KeptPut) (q n : ℕ) (es : List (ℕ × KeptPut)) → is_number n q ≡ false → kept_put q (changed f n es) ≡ kept_put q es
kept_other f q n [] h = refl
kept_other f q n (e ∷ es) h =
    elim (is_number n e.0) as (λ b. is_number n e.0 ≡ b → kept_put q (cond b ((e.0, f e.1) ∷ es) (e ∷ changed f n es)) ≡ kept_put q (e ∷ es)) [
      | true ↦ λ t. elim (is_number q e.0) as (λ b. is_number q e.0 ≡ b → cond b (Some (f e.1)) (kept_put q es) ≡ cond b (Some e.1) (kept_put q es)) [
        | true ↦ λ u. absurd (other n q e.0 t u h)
        | false ↦ λ u. refl
      ] refl
      | false ↦ λ t. elim (is_number q e.0) as (λ b. cond b (Some e.1) (kept_put q (changed f n es)) ≡ cond b (Some e.1) (kept_put q es)) [ true ↦ refl | false ↦ kept_other f q n es h ]
    ] refl
  where
    other : (n q k : ℕ) → is_number n k ≡ true → is_number q k ≡ true → is_number n q ≡ false → ⊥
    other n q k t u h =
        let same : n ≡ q = same_number n k t ∙ sym (same_number q k u) in
        let P : ℕ → Type 0 = λ m. is_number n m ≡ true in
        let yes : is_number n q ≡ true = subst P same (is_number_self n) in
        cc (yes, h)

pub eq_number : (a b : ℕ) → (a == b) ≡ is_number a b
eq_number a b = grind arith

pub number_flip : (a b : ℕ) → is_number a b ≡ is_number b a
number_flip a b = grind arith

-- a put that is forgotten was not open
unless_done_opens : (o : Option KeptPut) → is_open_put (unless_done o) ≡ is_open_put o
unless_done_opens None = refl
unless_done_opens (Some kept) = by_phase kept.phase kept.followers kept refl refl
  where
    by_phase : (phase : Phase) (followers : ℕ) (kept : KeptPut) → kept.phase ≡ phase → kept.followers ≡ followers → is_open_put (unless_done (Some kept)) ≡ is_open_put (Some kept)
    by_phase Writing followers kept p n = grind arith
    by_phase Closed followers kept p n = grind arith
    by_phase GivenUp followers kept p n = grind arith

unless_done_ends : (o : Option KeptPut) → is_done_put (unless_done o) ≡ false
unless_done_ends o = elim (is_done_put o) as (λ b. is_done_put o ≡ b → is_done_put (cond b None o) ≡ false) [ true ↦ λ t. refl | false ↦ λ t. t ] refl

pub forgets_open : (n : ℕ) (before after : List (ℕ × KeptPut)) → Forgets n before after → (q : ℕ) → is_open_put (kept_put q after) ≡ is_open_put (kept_put q before)
forgets_open n before after forgets q =
    ap is_open_put (forgets q) ∙
    elim (is_number n q) as (λ b. is_open_put (cond b (unless_done (kept_put q before)) (kept_put q before)) ≡ is_open_put (kept_put q before)) [ true ↦ unless_done_opens (kept_put q before) | false ↦ refl ]

pub forgets_done : (n : ℕ) (before after : List (ℕ × KeptPut)) → Forgets n before after → ((q : ℕ) → is_number n q ≡ false → is_done_put (kept_put q before) ≡ false) → (q : ℕ) → is_done_put (kept_put q after) ≡ false
forgets_done n before after forgets others q =
    ap is_done_put (forgets q) ∙
    elim (is_number n q) as (λ b. is_number n q ≡ b → is_done_put (cond b (unless_done (kept_put q before)) (kept_put q before)) ≡ false) [ true ↦ λ t. unless_done_ends (kept_put q before) | false ↦ λ t. others q t ] refl

-- a put that is ended is not open
pub open_ended : (phase : Phase) → is_writing_phase phase ≡ false → (n q : ℕ) (es : List (ℕ × KeptPut)) → is_open_put (kept_put q (changed (with_phase phase) n es)) ≡ cond (is_number n q) false (is_open_put (kept_put q es))
open_ended phase h n q es =
    elim (is_number n q) as (λ b. is_number n q ≡ b → is_open_put (kept_put q (changed (with_phase phase) n es)) ≡ cond b false (is_open_put (kept_put q es))) [
      | true ↦ λ t. let P : ℕ → Type 0 = λ k. is_open_put (kept_put k (changed (with_phase phase) n es)) ≡ false in
          subst P (same_number n q t) (ap is_open_put (kept_changed (with_phase phase) n es) ∙ ended_put (kept_put n es))
      | false ↦ λ t. ap is_open_put (kept_other (with_phase phase) q n es t)
    ] refl
  where
    ended_put : (o : Option KeptPut) → is_open_put (option_map (with_phase phase) o) ≡ false
    ended_put None = refl
    ended_put (Some kept) = h

-- the writers of a put, as one comes and as those of a put go
pub writers_added : (q : ℕ) (w : Writer) (ws : List Writer) → writers_of q (ws ++ w ∷ []) ≡ cond (w.put == q) 1 0 + writers_of q ws
writers_added q w [] = refl
writers_added q w (v ∷ ws) = let more = writers_added q w ws in omega (arith, more)

pub writers_gone : (n q : ℕ) (ws : List Writer) → writers_of q (writers_but n ws) ≡ cond (is_number n q) 0 (writers_of q ws)
writers_gone n q [] = elim (is_number n q) as (λ b. writers_of q [] ≡ cond b 0 (writers_of q [])) [ true ↦ refl | false ↦ refl ]
writers_gone n q (w ∷ ws) =
    let rest = writers_gone n q ws in
    elim (w.put == n) as (λ b. (w.put == n) ≡ b → writers_of q (cond (not b) (w ∷ writers_but n ws) (writers_but n ws)) ≡ cond (is_number n q) 0 (cond (w.put == q) 1 0 + writers_of q ws)) [
      | true ↦ λ t. grind (arith, rest)
      | false ↦ λ t. grind (arith, rest)
    ] refl

-- with a follower more of one put no other put is done
pub more_is_not_done : (q n : ℕ) (es : List (ℕ × KeptPut)) → is_done_put (kept_put q es) ≡ false → is_done_put (kept_put q (changed (λ kept. with_followers (kept.followers + 1) kept) n es)) ≡ false
more_is_not_done q n es h =
    elim (is_number n q) as (λ b. is_number n q ≡ b → is_done_put (kept_put q (changed (λ kept. with_followers (kept.followers + 1) kept) n es)) ≡ false) [
      | true ↦ λ t. let P : ℕ → Type 0 = λ k. is_done_put (kept_put k (changed (λ kept. with_followers (kept.followers + 1) kept) n es)) ≡ false in
          subst P (same_number n q t) (ap is_done_put (kept_changed (λ kept. with_followers (kept.followers + 1) kept) n es) ∙ followed (kept_put n es))
      | false ↦ λ t. ap is_done_put (kept_other (λ kept. with_followers (kept.followers + 1) kept) q n es t) ∙ h
    ] refl
  where
    followed : (o : Option KeptPut) → is_done_put (option_map (λ (kept : KeptPut). with_followers (kept.followers + 1) kept) o) ≡ false
    followed None = refl
    followed (Some kept) = grind arith

-- a new put is open, and no writer of it was
pub opened_writing : (w : Writer) (ws : List Writer) (before after : List (ℕ × KeptPut)) (kept : KeptPut) → kept.phase ≡ Writing → kept_put w.put before ≡ None
    → ((q : ℕ) → kept_put q after ≡ cond (is_number w.put q) (Some kept) (kept_put q before)) → ((q : ℕ) → writers_of q ws ≡ cond (is_open_put (kept_put q before)) 1 0)
    → (q : ℕ) → writers_of q (ws ++ w ∷ []) ≡ cond (is_open_put (kept_put q after)) 1 0
opened_writing w ws before after kept phase none is held q =
    writers_added q w ws ∙ ap (λ b. cond b 1 0 + writers_of q ws) (eq_number w.put q)
    ∙ elim (is_number w.put q) as (λ b. is_number w.put q ≡ b → cond b 1 0 + writers_of q ws ≡ cond (is_open_put (cond b (Some kept) (kept_put q before))) 1 0) [
      | true ↦ λ t.
          let P : ℕ → Type 0 = λ k. kept_put k before ≡ None in
          let absent : kept_put q before ≡ None = subst P (same_number w.put q t) none in
          let no_writer : writers_of q ws ≡ 0 = held q ∙ ap (λ o. cond (is_open_put o) 1 0) absent in
          ap (λ k. 1 + k) no_writer ∙ sym (ap (λ p. cond (is_writing_phase p) 1 0) phase)
      | false ↦ λ t. zero-add (writers_of q ws) ∙ held q
    ] refl
    ∙ sym (ap (λ o. cond (is_open_put o) 1 0) (is q))

pub opened_followed : (n : ℕ) (before after : List (ℕ × KeptPut)) (kept : KeptPut) → kept.phase ≡ Writing
    → ((q : ℕ) → kept_put q after ≡ cond (is_number n q) (Some kept) (kept_put q before)) → ((q : ℕ) → is_done_put (kept_put q before) ≡ false)
    → (q : ℕ) → is_done_put (kept_put q after) ≡ false
opened_followed n before after kept phase is held q =
    ap is_done_put (is q) ∙ elim (is_number n q) as (λ b. is_done_put (cond b (Some kept) (kept_put q before)) ≡ false) [ true ↦ ap (λ p. not (is_writing_phase p) && kept.followers == 0) phase | false ↦ held q ]

pub opened_followers : (n : ℕ) (before after : List (ℕ × KeptPut)) (kept : KeptPut) → kept.followers ≡ 0 → kept_put n before ≡ None
    → ((q : ℕ) → kept_put q after ≡ cond (is_number n q) (Some kept) (kept_put q before)) → (q : ℕ) → followers_kept (kept_put q after) ≡ followers_kept (kept_put q before)
opened_followers n before after kept zero none is q =
    ap followers_kept (is q) ∙ elim (is_number n q) as (λ b. is_number n q ≡ b → followers_kept (cond b (Some kept) (kept_put q before)) ≡ followers_kept (kept_put q before)) [
      | true ↦ λ t. let P : ℕ → Type 0 = λ k. kept_put k before ≡ None in zero ∙ sym (ap followers_kept (subst P (same_number n q t) none))
      | false ↦ λ t. refl
    ] refl

pub absent_state : (o : Option KeptPut) → option_map put_state_of o ≡ None → o ≡ None
absent_state None h = refl
absent_state (Some kept) h = absurd (cc)

-- the put that is followed has an open writer
followed_last : (key : Key) (request : List Field) (ws : List Writer) (last : Option ℕ) → (p : ℕ) → fold (λ last w. if is_follow key request w then Some w.put else last) last ws ≡ Some p → writers_of p ws ≡ 0 → last ≡ Some p
followed_last key request [] last p h none = h
followed_last key request (w ∷ ws) last p h none =
    elim (is_follow key request w) as (λ b. fold (λ last w. if is_follow key request w then Some w.put else last) (if b then Some w.put else last) ws ≡ Some p → last ≡ Some p) [
      | true ↦ λ rest. let here = followed_last key request ws (Some w.put) p rest (omega (arith, none)) in absurd (mine w.put p (writers_of p ws) here none)
      | false ↦ λ rest. followed_last key request ws last p rest (omega (arith, none))
    ] h
  where
    mine : (a p k : ℕ) → Some a ≡ Some p → (if a == p then 1 else 0) + k ≡ 0 → ⊥
    mine a p k here none = grind arith

pub followed_opens : (key : Key) (request : List Field) (ws : List Writer) (puts : List (ℕ × KeptPut)) → ((q : ℕ) → writers_of q ws ≡ (if is_kept_open q puts then 1 else 0))
    → IfSome (put_followed key request ws) (λ p. is_kept_open p puts ≡ true)
followed_opens key request ws puts held = at_some (put_followed key request ws) refl
  where
    at_some : (o : Option ℕ) → put_followed key request ws ≡ o → IfSome o (λ p. is_kept_open p puts ≡ true)
    at_some None h = tt
    at_some (Some p) h =
        elim (is_kept_open p puts) as (λ b. is_kept_open p puts ≡ b → b ≡ true) [
          | true ↦ λ t. refl
          | false ↦ λ t. let last = followed_last key request ws None p h (held p ∙ ap (λ b. if b then 1 else 0) t) in absurd (cc)
        ] refl
