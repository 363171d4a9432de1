-- The readers at hand, as readers come, move and go.
use Rattle.std.proofs.Common.{◌≡◌, ℕ, true, false, cond, List, [], ◌∷◌, Option, Some, None, refl, sym, ap, ◌∙◌, subst, arith}
use Rattle.std.specs.Prelude.{◌==◌, ◌&&◌, if◌then◌else◌, option_map}
use Rattle.std.specs.Map.{lookup}
use Rattle.open_directory.specs.declared.kept.Reader.{Reader}
use Rattle.open_directory.specs.declared.nexts.Nexts.{Nexts}
use Rattle.open_directory.specs.Directory.{changed, is_number}
use Rattle.open_directory.specs.Nexts.{AllLeast, IsIndexOfReaders, SetsIndex, next_for, next_of}
use Rattle.open_directory.proofs.Followers.{same_number}
use Rattle.open_directory.proofs.Standing.{eq_number, number_flip}

number_eq : (q n : ℕ) → (q == n) ≡ is_number n q
number_eq q n = grind arith

-- one reader is set or gone in both
pub indexed : (put reader : ℕ) (next : Option ℕ) (new : Option Reader) (index index' : List (ℕ × Nexts)) (readers readers' : List (ℕ × Reader))
    → IsIndexOfReaders index readers → AllLeast index' → SetsIndex put reader next index index'
    → ((q : ℕ) → lookup (is_number q) readers' ≡ cond (is_number reader q) new (lookup (is_number q) readers))
    → ((p : ℕ) → next_for p new ≡ cond (is_number put p) next None)
    → ((p : ℕ) → is_number put p ≡ false → next_for p (lookup (is_number reader) readers) ≡ None)
    → IsIndexOfReaders index' readers'
indexed put reader next new index index' readers readers' before least sets finds gives none = record {
  least = least;
  nexts = λ p q.
      sets p q
      ∙ ap (λ b. if b && q == reader then next else next_of p q index) (eq_number put p)
      ∙ ap (λ b. if is_number put p && b then next else next_of p q index) (number_eq q reader)
      ∙ elim (is_number reader q) as (λ b. is_number reader q ≡ b → (if is_number put p && b then next else next_of p q index) ≡ next_for p (cond b new (lookup (is_number q) readers))) [
        | true ↦ λ t. elim (is_number put p) as (λ b. is_number put p ≡ b → (if b && true then next else next_of p q index) ≡ next_for p new) [
          | true ↦ λ u. sym (gives p ∙ ap (λ b. cond b next None) u)
          | false ↦ λ u.
              let P : ℕ → Type 0 = λ k. next_for p (lookup (is_number k) readers) ≡ None in
              before.nexts p q ∙ subst P (same_number reader q t) (none p u) ∙ sym (gives p ∙ ap (λ b. cond b next None) u)
        ] refl
        | false ↦ λ t. elim (is_number put p) as (λ b. (if b && false then next else next_of p q index) ≡ next_for p (lookup (is_number q) readers)) [ true ↦ before.nexts p q | false ↦ before.nexts p q ]
      ] refl
      ∙ sym (ap (next_for p) (finds q));
}

pub next_for_some : (p : ℕ) (reader : Reader) → next_for p (Some reader) ≡ cond (is_number reader.put p) (Some reader.next) None
next_for_some p reader = ap (λ b. cond b (Some reader.next) None) (eq_number reader.put p)

pub next_for_other : (reader : Reader) (readers : List (ℕ × Reader)) (n : ℕ) → lookup (is_number n) readers ≡ Some reader → (p : ℕ) → is_number reader.put p ≡ false → next_for p (lookup (is_number n) readers) ≡ None
next_for_other reader readers n found p h = ap (next_for p) found ∙ next_for_some p reader ∙ ap (λ b. cond b (Some reader.next) None) h

pub none_for_none : (put p : ℕ) → next_for p None ≡ cond (is_number put p) None None
none_for_none put p = elim (is_number put p) as (λ b. next_for p None ≡ cond b None None) [ true ↦ refl | false ↦ refl ]

-- the readers, where one moves
pub found_changed : (f : Reader → Reader) (n : ℕ) (es : List (ℕ × Reader)) (v : Reader) → lookup (is_number n) es ≡ Some v → (q : ℕ) → lookup (is_number q) (changed f n es) ≡ cond (is_number n q) (Some (f v)) (lookup (is_number q) es)
found_changed f n [] v h q = absurd (cc)
found_changed f n (e ∷ es) v h q =
    elim (is_number n e.0) as (λ b. is_number n e.0 ≡ b → cond b (Some e.1) (lookup (is_number n) es) ≡ Some v → lookup (is_number q) (cond b ((e.0, f e.1) ∷ es) (e ∷ changed f n es)) ≡ cond (is_number n q) (Some (f v)) (cond (is_number q e.0) (Some e.1) (lookup (is_number q) es))) [
      | true ↦ λ t found. let P : ℕ → Type 0 = λ k. cond (is_number q k) (Some (f e.1)) (lookup (is_number q) es) ≡ cond (is_number n q) (Some (f v)) (cond (is_number q k) (Some e.1) (lookup (is_number q) es)) in
          subst P (same_number n e.0 t) (here found)
      | false ↦ λ t found. behind t (found_changed f n es v found q)
    ] refl h
  where
    here : Some e.1 ≡ Some v → cond (is_number q n) (Some (f e.1)) (lookup (is_number q) es) ≡ cond (is_number n q) (Some (f v)) (cond (is_number q n) (Some e.1) (lookup (is_number q) es))
    here found = rw (number_flip q n) (elim (is_number n q) as (λ b. cond b (Some (f e.1)) (lookup (is_number q) es) ≡ cond b (Some (f v)) (cond b (Some e.1) (lookup (is_number q) es))) [ true ↦ cc found | false ↦ refl ])

    behind : is_number n e.0 ≡ false → lookup (is_number q) (changed f n es) ≡ cond (is_number n q) (Some (f v)) (lookup (is_number q) es)
        → cond (is_number q e.0) (Some e.1) (lookup (is_number q) (changed f n es)) ≡ cond (is_number n q) (Some (f v)) (cond (is_number q e.0) (Some e.1) (lookup (is_number q) es))
    behind t rest =
        elim (is_number q e.0) as (λ b. is_number q e.0 ≡ b → cond b (Some e.1) (lookup (is_number q) (changed f n es)) ≡ cond (is_number n q) (Some (f v)) (cond b (Some e.1) (lookup (is_number q) es))) [
          | true ↦ λ u. let P : ℕ → Type 0 = λ k. is_number n k ≡ false in let other = subst P (sym (same_number q e.0 u)) t in sym (ap (λ b. cond b (Some (f v)) (Some e.1)) other)
          | false ↦ λ u. rest
        ] refl

-- a reader that moves
pub indexed_moved : (put reader next : ℕ) (index index' : List (ℕ × Nexts)) (readers readers' : List (ℕ × Reader))
    → IsIndexOfReaders index readers → AllLeast index' → SetsIndex put reader (Some next) index index' → Some put ≡ option_map (λ (r : Reader). r.put) (lookup (is_number reader) readers)
    → readers' ≡ changed (λ (r : Reader). record r { next = next }) reader readers → IsIndexOfReaders index' readers'
indexed_moved put reader next index index' readers readers' before least sets found moves = at_some (lookup (is_number reader) readers) refl
  where
    at_some : (o : Option Reader) → lookup (is_number reader) readers ≡ o → IsIndexOfReaders index' readers'
    at_some None is = absurd (let no = found ∙ ap (option_map (λ (r : Reader). r.put)) is in cc no)
    at_some (Some v) is =
        let yes : Some put ≡ Some v.put = found ∙ ap (option_map (λ (r : Reader). r.put)) is in
        let same : put ≡ v.put = grind arith in
        let moved : Reader = record v { next = next } in
        indexed put reader (Some next) (Some moved) index index' readers readers' before least sets
        (λ q. ap (lookup (is_number q)) moves ∙ found_changed (λ (r : Reader). record r { next = next }) reader readers v is q)
        (λ p. next_for_some p moved ∙ ap (λ k. cond (is_number k p) (Some next) None) (sym same))
        (λ p h. next_for_other v readers reader is p (ap (λ k. is_number k p) (sym same) ∙ h))

-- a reader that comes
pub indexed_added : (reader : ℕ) (new : Reader) (index index' : List (ℕ × Nexts)) (readers readers' : List (ℕ × Reader))
    → IsIndexOfReaders index readers → AllLeast index' → SetsIndex new.put reader (Some new.next) index index' → lookup (is_number reader) readers ≡ None
    → ((q : ℕ) → lookup (is_number q) readers' ≡ cond (is_number reader q) (Some new) (lookup (is_number q) readers)) → IsIndexOfReaders index' readers'
indexed_added reader new index index' readers readers' before least sets none finds =
    indexed new.put reader (Some new.next) (Some new) index index' readers readers' before least sets finds (λ p. next_for_some p new) (λ p h. ap (next_for p) none)

-- a reader that goes
pub indexed_removed : (reader : ℕ) (gone : Reader) (index index' : List (ℕ × Nexts)) (readers readers' : List (ℕ × Reader))
    → IsIndexOfReaders index readers → AllLeast index' → SetsIndex gone.put reader None index index'
    → lookup (is_number reader) readers ≡ Some gone
    → ((q : ℕ) → lookup (is_number q) readers' ≡ cond (is_number reader q) None (lookup (is_number q) readers))
    → IsIndexOfReaders index' readers'
indexed_removed reader gone index index' readers readers' before least sets found finds =
    indexed gone.put reader None None index index' readers readers' before least sets finds (none_for_none gone.put) (next_for_other gone readers reader found)
