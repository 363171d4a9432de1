-- The rows of the records, as they change and go: what is found by a number, who writes, and that numbers fall.
use Rattle.std.proofs.Common.{◌≡◌, ℕ, ◌+◌, ◌<◌, ◌≤◌, true, false, cond, List, [], ◌∷◌, ◌++◌, length, Option, Some, None, refl, sym, ap, ◌∙◌, fold, arith, length-append}
use Rattle.std.specs.Prelude.{Bool, not, ◌==◌, ◌&&◌, if◌then◌else◌, option_map, map, filter, find}
use Rattle.std.specs.List.{count_by}
use Rattle.std.proofs.lemmas.List.Elements.{filter-append}
use Rattle.std.proofs.lemmas.List.Sums.{fold-append}
use Rattle.std.proofs.lemmas.List.Recursion.{is_count_by}
use Rattle.tape_base.specs.declared.keys.Key.{Key}
use Rattle.tape_base.specs.Key.{same_key}
use Rattle.alternate_vector.specs.Field.{Field}
use Rattle.alternate_vector.specs.Vary.{request_matches}
use Rattle.fragment_table.specs.Table.{TableRow}
use Rattle.open_directory.specs.declared.kept.Writer.{Writer}
use Rattle.open_directory.specs.Directory.{is_follow, put_followed, writers_but}
use Rattle.cache_model.specs.State.{PutRow, Writing, change_put, with_cut, with_writing}
use Rattle.cache_model.specs.Verdict.{is_open, may_follow}
use Rattle.cache_model.proofs.ByNumber.{change, has}
use Rattle.stripe_actors.specs.Actors.{NumbersFallBelow, writer_of_row, writer_where_open, writers_in}

-- ---- numbers

module _ {X : Type 0} (number : X → ℕ) where
  pub numbers-changed : (f : X → X) → ((x : X) → number (f x) ≡ number x) → (n : ℕ) (xs : List X) → map number (change number n f xs) ≡ map number xs
  numbers-changed f keeps n [] = refl
  numbers-changed f keeps n (x ∷ xs) =
      elim (has number n x) as (λ b. number (cond b (f x) x) ∷ map number (change number n f xs) ≡ number x ∷ map number xs) [
        | true ↦ ap (λ (i : ℕ). i ∷ map number (change number n f xs)) (keeps x) ∙ ap (λ (ns : List ℕ). number x ∷ ns) (numbers-changed f keeps n xs)
        | false ↦ ap (λ (ns : List ℕ). number x ∷ ns) (numbers-changed f keeps n xs)
      ]

-- numbers that fall from lower down
pub fall_from : (low high : ℕ) (ns : List ℕ) → low ≤ high → NumbersFallBelow low ns → NumbersFallBelow high ns
fall_from low high [] le h = let k : 1 ≤ low = h in omega arith
fall_from low high (n ∷ ns) le h = let k : n < low = h.0 in (omega arith, h.1)

pub fall_without : {X : Type 0} (number : X → ℕ) (p : X → Bool) (high : ℕ) (xs : List X) → NumbersFallBelow high (map number xs) → NumbersFallBelow high (map number (filter p xs))
fall_without number p high [] h = h
fall_without number p high (x ∷ xs) h =
    let k : number x < high = h.0 in
    elim (p x) as (λ b. NumbersFallBelow high (map number (cond b (x ∷ filter p xs) (filter p xs)))) [
      | true ↦ (h.0, fall_without number p (number x) xs h.1)
      | false ↦ fall_from (number x) high (map number (filter p xs)) (omega arith) (fall_without number p (number x) xs h.1)
    ]

-- ---- who writes

pub writers-cut : (put : ℕ) (row : TableRow) (puts : List PutRow) → writers_in (change_put put (with_cut row) puts) ≡ writers_in puts
writers-cut put row [] = refl
writers-cut put row (p ∷ ps) =
    elim (p.put == put) as (λ b. writers_in (change_put put (with_cut row) ps) ++ writer_where_open (cond b (with_cut row p) p) ≡ writers_in ps ++ writer_where_open p) [
      | true ↦ ap (λ (ws : List Writer). ws ++ writer_where_open p) (writers-cut put row ps)
      | false ↦ ap (λ (ws : List Writer). ws ++ writer_where_open p) (writers-cut put row ps)
    ]

-- the writer of a put that ends goes
writer_ended : (writing : Writing) → ((p : PutRow) → is_open (with_writing writing p) ≡ false) → (put : ℕ) (p : PutRow) (here opens : Bool) → (p.put == put) ≡ here → is_open p ≡ opens
    → writer_where_open (cond here (with_writing writing p) p) ≡ writers_but put (writer_where_open p)
writer_ended writing ends put p true true h o = let e : is_open (with_writing writing p) ≡ false = ends p in rw (e, o, h) refl
writer_ended writing ends put p true false h o = let e : is_open (with_writing writing p) ≡ false = ends p in rw (e, o) refl
writer_ended writing ends put p false true h o = rw (o, h) refl
writer_ended writing ends put p false false h o = rw o refl

pub writers-ended : (writing : Writing) → ((p : PutRow) → is_open (with_writing writing p) ≡ false) → (put : ℕ) (puts : List PutRow)
    → writers_in (change_put put (with_writing writing) puts) ≡ writers_but put (writers_in puts)
writers-ended writing ends put [] = refl
writers-ended writing ends put (p ∷ ps) =
    ap (λ (ws : List Writer). ws ++ writer_where_open (cond (p.put == put) (with_writing writing p) p)) (writers-ended writing ends put ps)
    ∙ ap (λ (ws : List Writer). writers_but put (writers_in ps) ++ ws) (writer_ended writing ends put p (p.put == put) (is_open p) refl refl)
    ∙ sym (filter-append (λ (w : Writer). not (w.put == put)) (writers_in ps) (writer_where_open p))

length-one_more : (p : PutRow) (ps : List PutRow) → length (writers_in (p ∷ ps)) ≡ cond (is_open p) (1 + length (writers_in ps)) (length (writers_in ps))
length-one_more p ps = length-append (writers_in ps) (writer_where_open p) ∙ by_test (is_open p)
  where
    by_test : (b : Bool) → length (writers_in ps) + length (cond b (writer_of_row p ∷ []) []) ≡ cond b (1 + length (writers_in ps)) (length (writers_in ps))
    by_test true = omega arith
    by_test false = omega arith

pub length-writers : (puts : List PutRow) → length (writers_in puts) ≡ count_by is_open puts
length-writers puts = is_count_by (λ ps. length (writers_in ps)) is_open refl length-one_more puts

followed_one_more : (key : Key) (request : List Field) (p : PutRow) (ps : List PutRow)
    → put_followed key request (writers_in ps) ≡ option_map (λ (p : PutRow). p.put) (find (may_follow key request) ps)
    → put_followed key request (writers_in (p ∷ ps)) ≡ option_map (λ (p : PutRow). p.put) (find (may_follow key request) (p ∷ ps))
followed_one_more key request p ps rest =
    fold-append (λ (last : Option ℕ) (w : Writer). if is_follow key request w then Some w.put else last) None (writers_in ps) (writer_where_open p)
    ∙ by_open (is_open p)
  where
    by_match : (b : Bool) → cond b (Some p.put) (put_followed key request (writers_in ps)) ≡ option_map (λ (p : PutRow). p.put) (cond b (Some p) (find (may_follow key request) ps))
    by_match true = refl
    by_match false = rest

    by_open : (b : Bool) → fold (λ (last : Option ℕ) (w : Writer). if is_follow key request w then Some w.put else last) (put_followed key request (writers_in ps)) (cond b (writer_of_row p ∷ []) [])
        ≡ option_map (λ (p : PutRow). p.put) (cond (b && (same_key p.key key && request_matches request p.request p.response)) (Some p) (find (may_follow key request) ps))
    by_open true = by_match (same_key p.key key && request_matches request p.request p.response)
    by_open false = rest

-- the last writer that can be followed is that of the put that is found first
pub followed-writers : (key : Key) (request : List Field) (puts : List PutRow)
    → put_followed key request (writers_in puts) ≡ option_map (λ (p : PutRow). p.put) (find (may_follow key request) puts)
followed-writers key request [] = refl
followed-writers key request (p ∷ ps) = followed_one_more key request p ps (followed-writers key request ps)
