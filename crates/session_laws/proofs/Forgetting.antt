-- What is left where puts are forgotten of which nothing is left but what is known of them.
use Rattle.std.proofs.Common.{◌≡◌, ℕ, zero, suc, List, [], ◌∷◌, refl, sym, ◌∙◌, ap, subst, inl, inr, ◌⊎◌, Bool, true, false, cond}
use Rattle.std.specs.Prelude.{Option, Some, None, if◌then◌else◌, find, filter, drop, not, ◌==◌, ◌&&◌, ◌||◌, option_map, option_and_then, unwrap_or}
use Rattle.std.specs.List.{list_any}
use Rattle.std.specs.Map.{lookup}
use Rattle.std.proofs.lemmas.Bool.{eqb-true, eq-eqb, le-leb, and_parts, or_left, or_right}
use Rattle.std.specs.Cmp.Derive.{both_true}
use Rattle.std.proofs.lemmas.Map.Views.{any-filter_same}
use Rattle.std.proofs.lemmas.Map.Entries.{lookup-filter-keys}
use Rattle.tape_base.specs.declared.keys.Key.{Key}
use Rattle.tape_base.specs.declared.pieces.PieceId.{PieceId}
use Rattle.tape_base.specs.Key.{same_key}
use Rattle.tape_base.specs.Piece.{same_piece}
use Rattle.tape_base.proofs.NameLaws.{same_key-true, same_piece-true}
use Rattle.alternate_vector.specs.Field.{Field}
use Rattle.cache_model.specs.declared.cause.Cause.TheVariants as cause
use Rattle.cache_model.specs.State
use Rattle.cache_model.specs.State.{State, Mark, Row, PutRow, ReaderRow, LastVector, Complete, TakenOut, Writing, Open, Closed, GivenUp, alternates_of, count_of_vector, is_live, last_abort, last_match, last_vector, list_of_last, list_of_row, live_row_of, live_rows, only_live, put_of, reader_of, row_in, row_of, vector_piece}
use Rattle.cache_model.specs.Verdict
use Rattle.cache_model.specs.Verdict.{cause_of_last, cause_of_loss, cause_of_miss, cause_of_piece, cuts_of, follow_answer, followed, hit, hit_answer, is_open, is_unsaved, lookup_verdict, may_follow, next_piece, next_row, no_match, no_record, passed, piece_at, reader_verdict, table_of}
use Rattle.cache_model.specs.Permit.{IsAmong}
use Rattle.cache_model.specs.Syncs.{IsAllowed}
use Rattle.cache_model.specs.Tape.{AreKnown, IsSound}
use Rattle.cache_model.specs.Vectors.{AreTold}
use Rattle.cache_model.specs.Forgetting.{forget, forgotten_puts, has_piece, has_reader, has_writer, is_among_puts, is_dead, is_forgotten, is_last_of, is_listed, is_named, is_place_of, known_puts, may_name, put_of_last, without_puts}
use Rattle.cache_model.proofs.Found.{found_passes, no_truth, none_is, same_some}
use Rattle.cache_model.proofs.Known.{found_is_known, live_place_is_known}
use Rattle.cache_model.proofs.Lists.{own_piece}
use Rattle.cache_model.proofs.Rows.{apart-part, part-filter, rising-part}
use Rattle.step_laws.proofs.Told.{vectors_part}
use Rattle.session_laws.specs.ForgetLaws.{IsLeft, IsLeftSound}

-- ---- tests of lists

-- a test that is not true
pub not_true : (b : Bool) → (b ≡ true → ⊥) → b ≡ false
not_true true h = absurd (h refl)
not_true false h = refl

module _ {X : Type 0} (test keep : X → Bool) where
  find_by : (x : X) (xs : List X) (b c : Bool) → test x ≡ b → keep x ≡ c → ((y : X) → cond b (Some x) (find test xs) ≡ Some y → keep y ≡ true)
      → (((y : X) → find test xs ≡ Some y → keep y ≡ true) → find test (filter keep xs) ≡ find test xs)
      → find test (cond c (x ∷ filter keep xs) (filter keep xs)) ≡ cond b (Some x) (find test xs)
  find_by x xs true true e k h rest = rw e refl
  find_by x xs true false e k h rest = no_truth (sym (h x refl) ∙ k)
  find_by x xs false true e k h rest = rw e (rest h)
  find_by x xs false false e k h rest = rest h

  -- what is found is still found where it is kept
  find_kept : (xs : List X) → ((x : X) → find test xs ≡ Some x → keep x ≡ true) → find test (filter keep xs) ≡ find test xs
  find_kept [] h = refl
  find_kept (x ∷ xs) h = find_by x xs (test x) (keep x) refl refl h (find_kept xs)

  gone_by : (x : X) (xs : List X) (b c : Bool) → test x ≡ b → keep x ≡ c → (b ≡ true → c ≡ false) → find test (filter keep xs) ≡ None
      → find test (cond c (x ∷ filter keep xs) (filter keep xs)) ≡ None
  gone_by x xs true true e k h rest = no_truth (h refl)
  gone_by x xs b false e k h rest = rest
  gone_by x xs false true e k h rest = rw e rest

  -- where none that passes is kept nothing is found
  find_gone : (xs : List X) → ((x : X) → test x ≡ true → keep x ≡ false) → find test (filter keep xs) ≡ None
  find_gone [] h = refl
  find_gone (x ∷ xs) h = gone_by x xs (test x) (keep x) refl refl (h x) (find_gone xs h)

  any_by : (x y : X) (xs : List X) (b : Bool) → test x ≡ b → cond b (Some x) (find test xs) ≡ Some y → keep y ≡ true
      → (find test xs ≡ Some y → list_any keep xs ≡ true) → (keep x || list_any keep xs) ≡ true
  any_by x y xs true e h k rest = let same : x ≡ y = cc in or_left (keep x) (list_any keep xs) (ap keep same ∙ k)
  any_by x y xs false e h k rest = or_right (keep x) (list_any keep xs) (rest h)

  -- what is found passes another test
  pub any_found : (xs : List X) (y : X) → find test xs ≡ Some y → keep y ≡ true → list_any keep xs ≡ true
  any_found [] y h k = none_is h
  any_found (x ∷ xs) y h k = any_by x y xs (test x) refl h k (λ f. any_found xs y f k)

  filter_by : (x : X) (xs : List X) (b c : Bool) → test x ≡ b → keep x ≡ c → (b ≡ true → c ≡ true) → filter test (filter keep xs) ≡ filter test xs
      → filter test (cond c (x ∷ filter keep xs) (filter keep xs)) ≡ cond b (x ∷ filter test xs) (filter test xs)
  filter_by x xs true true e k h rest = rw e (ap (λ ys. x ∷ ys) rest)
  filter_by x xs true false e k h rest = no_truth (sym (h refl))
  filter_by x xs false true e k h rest = rw e rest
  filter_by x xs false false e k h rest = rest

  -- what passes is as before where all of it is kept
  filter_kept : (xs : List X) → ((x : X) → IsAmong x xs → test x ≡ true → keep x ≡ true) → filter test (filter keep xs) ≡ filter test xs
  filter_kept [] h = refl
  filter_kept (x ∷ xs) h = filter_by x xs (test x) (keep x) refl refl (h x (inl refl)) (filter_kept xs (λ y m. h y (inr m)))

  passing_by : (x y : X) (xs : List X) (b : Bool) → test x ≡ b → (x ≡ y → b ≡ true) → keep y ≡ true → (y ≡ x) ⊎ (list_any keep (filter test xs) ≡ true)
      → list_any keep (cond b (x ∷ filter test xs) (filter test xs)) ≡ true
  passing_by x y xs true e live k m = elim m [
    | inl same ↦ or_left (keep x) (list_any keep (filter test xs)) (ap keep (sym same) ∙ k)
    | inr there ↦ or_right (keep x) (list_any keep (filter test xs)) there
  ]
  passing_by x y xs false e live k m = elim m [ inl same ↦ no_truth (sym (live (sym same))) | inr there ↦ there ]

  -- one that passes both
  any_passing : (xs : List X) (y : X) → IsAmong y xs → test y ≡ true → keep y ≡ true → list_any keep (filter test xs) ≡ true
  any_passing [] y m t k = absurd m
  any_passing (x ∷ xs) y m t k =
      passing_by x y xs (test x) refl (λ same. ap test same ∙ t) k (elim m [ inl same ↦ inl same | inr there ↦ inr (any_passing xs y there t k) ])

module _ {X : Type 0} (test : X → Bool) where
  among_by : (x y : X) (xs : List X) (b : Bool) → cond b (Some x) (find test xs) ≡ Some y → (find test xs ≡ Some y → IsAmong y xs) → (y ≡ x) ⊎ IsAmong y xs
  among_by x y xs true h rest = let same : y ≡ x = cc in inl same
  among_by x y xs false h rest = inr (rest h)

  -- what is found is one of them
  found_among : (xs : List X) (y : X) → find test xs ≡ Some y → IsAmong y xs
  found_among [] y h = none_is h
  found_among (x ∷ xs) y h = among_by x y xs (test x) h (found_among xs y)

  any_among : (xs : List X) (y : X) → IsAmong y xs → test y ≡ true → list_any test xs ≡ true
  any_among [] y m t = absurd m
  any_among (x ∷ xs) y m t = elim m [
    | inl same ↦ or_left (test x) (list_any test xs) (ap test (sym same) ∙ t)
    | inr there ↦ or_right (test x) (list_any test xs) (any_among xs y there t)
  ]

  pub any_dropped : (n : ℕ) (xs : List X) → list_any test (drop n xs) ≡ true → list_any test xs ≡ true
  any_dropped zero xs h = h
  any_dropped (suc n) [] h = h
  any_dropped (suc n) (x ∷ xs) h = or_right (test x) (list_any test xs) (any_dropped n xs h)

module _ {K X : Type 0} (test : K → Bool) (keep : K × X → Bool) where
  lookup_by : (e : K × X) (es : List (K × X)) (b c : Bool) → test e.0 ≡ b → keep e ≡ c → ((f : K × X) → test f.0 ≡ true → cond b (Some e.1) (lookup test es) ≡ Some f.1 → keep f ≡ true)
      → (((f : K × X) → test f.0 ≡ true → lookup test es ≡ Some f.1 → keep f ≡ true) → lookup test (filter keep es) ≡ lookup test es)
      → lookup test (cond c (e ∷ filter keep es) (filter keep es)) ≡ cond b (Some e.1) (lookup test es)
  lookup_by e es true true t k h rest = rw t refl
  lookup_by e es true false t k h rest = no_truth (sym (h e t refl) ∙ k)
  lookup_by e es false true t k h rest = rw t (rest h)
  lookup_by e es false false t k h rest = rest h

  -- so it is of entries
  pub lookup_kept : (es : List (K × X)) → ((e : K × X) → test e.0 ≡ true → lookup test es ≡ Some e.1 → keep e ≡ true) → lookup test (filter keep es) ≡ lookup test es
  lookup_kept [] h = refl
  lookup_kept (e ∷ es) h = lookup_by e es (test e.0) (keep e) refl refl h (lookup_kept es)

  lost_by : (e : K × X) (es : List (K × X)) (b c : Bool) → test e.0 ≡ b → keep e ≡ c → (b ≡ true → c ≡ false) → lookup test (filter keep es) ≡ None
      → lookup test (cond c (e ∷ filter keep es) (filter keep es)) ≡ None
  lost_by e es true true t k h rest = no_truth (h refl)
  lost_by e es b false t k h rest = rest
  lost_by e es false true t k h rest = rw t rest

  lookup_gone : (es : List (K × X)) → ((e : K × X) → test e.0 ≡ true → keep e ≡ false) → lookup test (filter keep es) ≡ None
  lookup_gone [] h = refl
  lookup_gone (e ∷ es) h = lost_by e es (test e.0) (keep e) refl refl (h e) (lookup_gone es h)

-- ---- puts that are not dead

-- all of these puts are dead
abbrev pub AreDead : State → List ℕ → Type 0
AreDead s puts = (put : ℕ) → is_among_puts puts put ≡ true → is_dead s put ≡ true

-- what is left of a list by a test passes it
pub dead_found : (dead : ℕ → Bool) (put : ℕ) (ns : List ℕ) → list_any (λ n. n == put) (filter dead ns) ≡ true → dead put ≡ true
dead_found dead put [] h = no_truth (sym h)
dead_found dead put (n ∷ ns) h = by (dead n) (n == put) refl refl (dead_found dead put ns) h
  where
    by : (b c : Bool) → dead n ≡ b → (n == put) ≡ c → (list_any (λ m. m == put) (filter dead ns) ≡ true → dead put ≡ true)
        → list_any (λ m. m == put) (cond b (n ∷ filter dead ns) (filter dead ns)) ≡ true → dead put ≡ true
    by true true d e rest h = ap dead (sym (eqb-true n put e)) ∙ d
    by true false d e rest h = rest (rw e at h)
    by false c d e rest h = rest h

pub forgotten_is_dead : (cap : ℕ) (s : State) (put : ℕ) → is_forgotten cap s put ≡ true → is_dead s put ≡ true
forgotten_is_dead cap s put h =
    dead_found (is_dead s) put (known_puts s) (any_dropped (λ n. n == put) cap (filter (is_dead s) (known_puts s)) h)

alive : (a b c d e : Bool) → (a || (b || (c || (d || e)))) ≡ true → not (a || (b || (c || (d || e)))) ≡ true → ⊥
alive a b c d e h k = no_truth (sym k ∙ ap not h)

module _ (s : State) (put : ℕ) where
  abbrev rest_named : Bool
  rest_named = is_named s put || is_listed s put

  abbrev rest_live : Bool
  rest_live = has_piece (live_rows s) put || rest_named

  abbrev rest_read : Bool
  rest_read = has_reader s put || rest_live

  some_left : (has_writer s put || rest_read) ≡ true → is_dead s put ≡ true → ⊥
  some_left h k = no_truth (sym k ∙ ap not h)

  with_writer : has_writer s put ≡ true → is_dead s put ≡ true → ⊥
  with_writer h = some_left (or_left (has_writer s put) rest_read h)

  pub with_reader : has_reader s put ≡ true → is_dead s put ≡ true → ⊥
  with_reader h = some_left (or_right (has_writer s put) rest_read (or_left (has_reader s put) rest_live h))

  with_piece : has_piece (live_rows s) put ≡ true → is_dead s put ≡ true → ⊥
  with_piece h = some_left (or_right (has_writer s put) rest_read (or_right (has_reader s put) rest_live (or_left (has_piece (live_rows s) put) rest_named h)))

  with_name : is_named s put ≡ true → is_dead s put ≡ true → ⊥
  with_name h = some_left
      (or_right (has_writer s put) rest_read
      (or_right (has_reader s put) rest_live
      (or_right (has_piece (live_rows s) put) rest_named (or_left (is_named s put) (is_listed s put) h))))

  with_list : is_listed s put ≡ true → is_dead s put ≡ true → ⊥
  with_list h = some_left
      (or_right (has_writer s put) rest_read
      (or_right (has_reader s put) rest_live
      (or_right (has_piece (live_rows s) put) rest_named (or_right (is_named s put) (is_listed s put) h))))

-- ---- what is left

module _ (s : State) (puts : List ℕ) (dead : AreDead s puts) where
  abbrev t : State
  t = without_puts puts s

  pub kept_if : (put : ℕ) → (is_dead s put ≡ true → ⊥) → is_among_puts puts put ≡ false
  kept_if put h = not_true (is_among_puts puts put) (λ m. h (dead put m))

  abbrev keeps_row : Row → Bool
  keeps_row row = not (is_among_puts puts row.id.put)

  live_kept : (row : Row) → IsAmong row s.rows → is_live s row ≡ true → is_among_puts puts row.id.put ≡ false
  live_kept row m live =
      kept_if row.id.put (with_piece s row.id.put (any_passing (is_live s) (λ (r : Row). r.id.put == row.id.put) s.rows row m live (eq-eqb row.id.put row.id.put refl)))

  pub rows_stay : live_rows t ≡ live_rows s
  rows_stay = filter_kept (is_live s) keeps_row s.rows (λ row m live. ap not (live_kept row m live))

  pub row_kept : (id : PieceId) → is_among_puts puts id.put ≡ false → row_of t id ≡ row_of s id
  row_kept id k = find_kept (λ (row : Row). same_piece row.id id) keeps_row s.rows (λ row found. ap not (ap (λ (i : PieceId). is_among_puts puts i.put) (own_piece id s.rows row found) ∙ k))

  row_gone : (id : PieceId) → is_among_puts puts id.put ≡ true → row_of t id ≡ None
  row_gone id k = find_gone (λ (row : Row). same_piece row.id id) keeps_row s.rows (λ row is. ap not (ap (λ (i : PieceId). is_among_puts puts i.put) (same_piece-true row.id id is) ∙ k))

  passed_by : (id : PieceId) (row : Row) → is_among_puts puts id.put ≡ true → row_of s id ≡ Some row → is_live s row ≡ false
  passed_by id row k found = not_true (is_live s row) (λ live.
      no_truth
      (sym k
      ∙ (ap (λ (i : PieceId). is_among_puts puts i.put) (sym (own_piece id s.rows row found))
      ∙ live_kept row (found_among (λ (r : Row). same_piece r.id id) s.rows row found) live)))

  not_live_by : (id : PieceId) (o : Option Row) → row_of s id ≡ o → is_among_puts puts id.put ≡ true
      → option_and_then (only_live s) o ≡ None
  not_live_by id None h k = refl
  not_live_by id (Some row) h k = rw (passed_by id row k h) refl

  not_live : (id : PieceId) → is_among_puts puts id.put ≡ true → live_row_of s id ≡ None
  not_live id k = not_live_by id (row_of s id) refl k

  piece_by : (id : PieceId) (b : Bool) → is_among_puts puts id.put ≡ b → live_row_of t id ≡ live_row_of s id
  piece_by id true k = ap (option_and_then (only_live s)) (row_gone id k) ∙ sym (not_live id k)
  piece_by id false k = ap (option_and_then (only_live s)) (row_kept id k)

  pub piece_stays : (id : PieceId) → live_row_of t id ≡ live_row_of s id
  piece_stays id = piece_by id (is_among_puts puts id.put) refl

  -- ---- keys

  abbrev keeps_vector : Key × LastVector → Bool
  keeps_vector v = not (is_last_of puts s v.0 || is_among_puts puts (put_of_last v.1))

  key_is : (key : Key) (v : Key × LastVector) (b : Bool) → same_key v.0 key ≡ true → is_last_of puts s key ≡ b → is_last_of puts s v.0 ≡ b
  key_is key v b is h = ap (is_last_of puts s) (same_key-true v.0 key is) ∙ h

  last_is : (key : Key) (last : LastVector) (b : Bool) → last_vector s key ≡ Some last → is_among_puts puts (put_of_last last) ≡ b → is_last_of puts s key ≡ b
  last_is key last b h k = rw h k

  pub vector_kept : (key : Key) (last : LastVector) → last_vector s key ≡ Some last → is_among_puts puts (put_of_last last) ≡ false → last_vector t key ≡ last_vector s key
  vector_kept key last h k = lookup_kept (λ (q : Key). same_key q key) keeps_vector s.vectors (λ v is found.
      let same : v.1 ≡ last = same_some v.1 last (last_vector s key) found h in
      rw (key_is key v false is (last_is key last false h k)) (ap not (ap (λ l. is_among_puts puts (put_of_last l)) same ∙ k)))

  pub vector_gone : (key : Key) (last : LastVector) → last_vector s key ≡ Some last → is_among_puts puts (put_of_last last) ≡ true → last_vector t key ≡ None
  vector_gone key last h k = lookup_gone (λ (q : Key). same_key q key) keeps_vector s.vectors (λ v is.
      rw (key_is key v true is (last_is key last true h k)) refl)

  pub vector_none : (key : Key) → last_vector s key ≡ None → last_vector t key ≡ None
  vector_none key h = lookup_kept (λ (q : Key). same_key q key) keeps_vector s.vectors (λ v is found. none_is (sym h ∙ found)) ∙ h

  lists_none : (key : Key) (put : ℕ) (o : Option Row) → is_among_puts puts put ≡ true → row_of s (vector_piece key put) ≡ o → unwrap_or (option_map (list_of_row s) o) [] ≡ []
  lists_none key put None k h = refl
  lists_none key put (Some row) k h = rw (passed_by (vector_piece key put) row k h) refl

  list_gone : (key : Key) (last : LastVector) → is_among_puts puts (put_of_last last) ≡ true → list_of_last s s.rows key last ≡ []
  list_gone key (Complete put) k = lists_none key put (row_of s (vector_piece key put)) k refl
  list_gone key (TakenOut put) k = refl

  list_kept : (key : Key) (last : LastVector) → is_among_puts puts (put_of_last last) ≡ false → list_of_last t t.rows key last ≡ list_of_last s s.rows key last
  list_kept key (Complete put) k = ap (λ o. unwrap_or (option_map (list_of_row s) o) []) (row_kept (vector_piece key put) k)
  list_kept key (TakenOut put) k = refl

  list_by : (key : Key) (o : Option LastVector) (b : Bool) → last_vector s key ≡ o → unwrap_or (option_map (λ last. is_among_puts puts (put_of_last last)) o) false ≡ b
      → alternates_of t key ≡ unwrap_or (option_map (list_of_last s s.rows key) o) []
  list_by key None b h k = rw (vector_none key h) refl
  list_by key (Some last) true h k = rw (vector_gone key last h k) (sym (list_gone key last k))
  list_by key (Some last) false h k = rw (vector_kept key last h k ∙ h) (list_kept key last k)

  lists_stay : (key : Key) → alternates_of t key ≡ alternates_of s key
  lists_stay key = list_by key (last_vector s key) (is_last_of puts s key) refl refl

  -- ---- puts

  abbrev pub keeps_put : PutRow → Bool
  keeps_put p = not (is_among_puts puts p.put)

  open_kept : (p : PutRow) → IsAmong p s.puts → is_open p ≡ true → is_among_puts puts p.put ≡ false
  open_kept p m writes =
      kept_if p.put (with_writer s p.put (any_among (λ (q : PutRow). q.put == p.put && is_open q) s.puts p m (both_true (eq-eqb p.put p.put refl) writes)))

  followed_stays : (key : Key) (request : List Field) → followed t key request ≡ followed s key request
  followed_stays key request = find_kept (may_follow key request) keeps_put s.puts (λ p found.
      ap not
      (open_kept p (found_among (may_follow key request) s.puts p found)
      (and_parts (is_open p) _ (found_passes (may_follow key request) s.puts p found)).0))

  pub put_kept : (put : ℕ) → is_among_puts puts put ≡ false → put_of t put ≡ put_of s put
  put_kept put k = find_kept (λ (p : PutRow). p.put == put) keeps_put s.puts (λ p found.
      ap not (ap (is_among_puts puts) (eqb-true p.put put (found_passes (λ q. q.put == put) s.puts p found)) ∙ k))

  pub put_gone : (put : ℕ) → is_among_puts puts put ≡ true → put_of t put ≡ None
  put_gone put k = find_gone (λ (p : PutRow). p.put == put) keeps_put s.puts (λ p is. ap not (ap (is_among_puts puts) (eqb-true p.put put is) ∙ k))

  left : IsLeft s t
  left = record {
    geometry = refl;
    floor = refl;
    cursor = refl;
    place = refl;
    rows = rows_stay;
    pieces = piece_stays;
    lists = lists_stay;
    follows = followed_stays;
    pending = refl;
    next_put = refl;
    readers = refl;
    next_reader = refl;
    fault = refl;
    marks = refl;
    finished = refl;
    running = refl;
    marked = refl;
  }

pub forgetting_leaves : (cap : ℕ) (s : State) → IsLeft s (forget cap s)
forgetting_leaves cap s = left s (forgotten_puts cap s) (forgotten_is_dead cap s)

-- ---- what may be found behind it, and writers

pub named_is_kept : (cap : ℕ) (s : State) (m : Mark) (row : Row) → IsAllowed s m → IsAmong row m.rows → is_forgotten cap s row.id.put ≡ false
named_is_kept cap s m row allowed among =
    let put : ℕ = row.id.put in
    let has : has_piece m.rows put ≡ true = any_among (λ (r : Row). r.id.put == put) m.rows row among (eq-eqb put put refl) in
    let named : is_named s put ≡ true = any_among (may_name s put) s.marks m allowed.0 (both_true (le-leb s.finished m.serial allowed.1) has) in
    kept_if s (forgotten_puts cap s) (forgotten_is_dead cap s) put (with_name s put named)

open_is : (w : PutRow) → w.writing ≡ Open → is_open w ≡ true
open_is w h = rw h refl

pub written_is_kept : (cap : ℕ) (s : State) (put : ℕ) (w : PutRow) → put_of s put ≡ Some w → w.writing ≡ Open → put_of (forget cap s) put ≡ Some w
written_is_kept cap s put w found writes =
    let puts : List ℕ = forgotten_puts cap s in
    let dead : AreDead s puts = forgotten_is_dead cap s in
    let same : w.put ≡ put = eqb-true w.put put (found_passes (λ (p : PutRow). p.put == put) s.puts w found) in
    let kept : is_among_puts puts put ≡ false =
    ap (is_among_puts puts) (sym same) ∙ open_kept s puts dead w (found_among (λ (p : PutRow). p.put == put) s.puts w found) (open_is w writes) in
    put_kept s puts dead put kept ∙ found

-- ---- the tape, and the vectors

module _ (s : State) (puts : List ℕ) (dead : AreDead s puts) where
  abbrev keeps_place : ℕ × PieceId → Bool
  keeps_place p = not (is_among_puts puts p.1.put)

  place_known : (row : Row) → lookup (λ p. p == row.place) s.places ≡ Some row.id → is_among_puts puts row.id.put ≡ false
      → lookup (λ p. p == row.place) (without_puts puts s).places ≡ Some row.id
  place_known row known k = lookup_kept (λ p. p == row.place) keeps_place s.places (λ e is found.
      let same : e.1 ≡ row.id = same_some e.1 row.id (lookup (λ p. p == row.place) s.places) found known in
      ap not (ap (λ (i : PieceId). is_among_puts puts i.put) same ∙ k)) ∙ known

  known_by : (row : Row) (rows : List Row) (b : Bool) → is_among_puts puts row.id.put ≡ b
      → lookup (λ p. p == row.place) s.places ≡ Some row.id
      → AreKnown (without_puts puts s).places (filter (keeps_row s puts dead) rows)
      → AreKnown (without_puts puts s).places (cond (not b) (row ∷ filter (keeps_row s puts dead) rows) (filter (keeps_row s puts dead) rows))
  known_by row rows true k known rest = rest
  known_by row rows false k known rest = (place_known row known k, rest)

  known_stay : (rows : List Row) → AreKnown s.places rows → AreKnown (without_puts puts s).places (filter (keeps_row s puts dead) rows)
  known_stay [] known = tt
  known_stay (row ∷ rows) known = known_by row rows (is_among_puts puts row.id.put) refl known.0 (known_stay rows known.1)

  sound_left : IsSound s → IsSound (without_puts puts s)
  sound_left h = record {
    from = h.from;
    least = h.least;
    lap = h.lap;
    room = h.room;
    rising = rising-part s.geometry.content (State.place_now s) (part-filter (keeps_row s puts dead) s.rows) h.rising;
    apart = apart-part (part-filter (keeps_row s puts dead) s.rows) h.apart;
    known = known_stay s.rows h.known;
  }

  pub puts_by : (put : ℕ) (w : PutRow) (b : Bool) → is_among_puts puts put ≡ b → put_of (without_puts puts s) put ≡ Some w → put_of s put ≡ Some w
  puts_by put w true k found = none_is (sym (put_gone s puts dead put k) ∙ found)
  puts_by put w false k found = sym (put_kept s puts dead put k) ∙ found

  told_left : AreTold s → AreTold (without_puts puts s)
  told_left h = record {
    vectors = vectors_part s (without_puts puts s) refl (part-filter (keeps_row s puts dead) s.rows) h.vectors;
    puts = λ put w found. h.puts put w (puts_by put w (is_among_puts puts put) refl found);
    displaced = h.displaced;
  }

  -- ---- causes

  unsaved_stay : IsSound s → (id : PieceId) (row : Row) → row_of s id ≡ Some row → is_among_puts puts id.put ≡ false → is_unsaved (without_puts puts s) row.place ≡ is_unsaved s row.place
  unsaved_stay h id row found k =
      let known : lookup (λ p. p == row.place) s.places ≡ Some id = found_is_known s.places id s.rows row h.known found in
      let here : is_place_of puts s row.place ≡ false = rw known k in
      any-filter_same (λ p. p == row.place) (λ place. not (is_place_of puts s place)) true (λ place is. ap not (ap (is_place_of puts s) (eqb-true place row.place is) ∙ here)) s.unsaved

  passed_by_piece : IsSound s → (id : PieceId) (o : Option Row) → row_of s id ≡ o → is_among_puts puts id.put ≡ false
      → option_map (passed (without_puts puts s)) o ≡ option_map (passed s) o
  passed_by_piece h id None found k = refl
  passed_by_piece h id (Some row) found k = ap (λ b. Some (cause.Passed row.place (State.floor_now s) b)) (unsaved_stay h id row found k)

  pub passed_stays : IsSound s → (id : PieceId) → is_among_puts puts id.put ≡ false
      → option_map (passed (without_puts puts s)) (row_of (without_puts puts s) id) ≡ option_map (passed s) (row_of s id)
  passed_stays h id k = ap (option_map (passed (without_puts puts s))) (row_kept s puts dead id k) ∙ passed_by_piece h id (row_of s id) refl k

  pub loss_stays : (id : PieceId) → is_among_puts puts id.put ≡ false → cause_of_loss (without_puts puts s) id ≡ cause_of_loss s id
  loss_stays id k = lookup-filter-keys (λ (l : PieceId). same_piece l id) (λ (l : PieceId). not (is_among_puts puts l.put)) true
      (λ l is. ap not (ap (λ (i : PieceId). is_among_puts puts i.put) (same_piece-true l id is) ∙ k)) s.lost

module _ (s : State) (puts : List ℕ) where
  -- and as many alternates of a vector are told
  pub count_stays : (id : PieceId) → is_among_puts puts id.put ≡ false → count_of_vector (without_puts puts s) id ≡ count_of_vector s id
  count_stays id k = ap (λ o. unwrap_or o 0) (lookup-filter-keys (λ (l : PieceId). same_piece l id) (λ (l : PieceId). not (is_among_puts puts l.put)) true
      (λ l is. ap not (ap (λ (i : PieceId). is_among_puts puts i.put) (same_piece-true l id is) ∙ k)) s.counts)

pub forgetting_tells : (cap : ℕ) (s : State) → AreTold s → AreTold (forget cap s)
forgetting_tells cap s = told_left s (forgotten_puts cap s) (forgotten_is_dead cap s)

-- ---- the live piece at a place

module _ (s : State) (puts : List ℕ) (dead : AreDead s puts) (h : IsSound s) (place : ℕ) where
  abbrev known_at : List (ℕ × PieceId) → Option PieceId
  known_at places = lookup (λ p. p == place) places

  -- a live piece at the place is the last one that was placed there
  is_there : (id : PieceId) (row : Row) → live_row_of s id ≡ Some row → row.place ≡ place → known_at s.places ≡ Some id
  is_there id row live same = subst (λ p. lookup (λ q. q == p) s.places ≡ Some id) same (live_place_is_known s id row h live)

  none_by : (id other : PieceId) (row : Row) (b : Bool) → known_at s.places ≡ Some id → is_among_puts puts id.put ≡ true → live_row_of s other ≡ Some row → (row.place == place) ≡ b
      → (if b then Some other else None) ≡ None
  none_by id other row true known k live e =
      let same : other ≡ id = same_some other id (known_at s.places) (is_there other row live (eqb-true row.place place e)) known in
      none_is (sym (not_live s puts dead id k) ∙ (ap (live_row_of s) (sym same) ∙ live))
  none_by id other row false known k live e = refl

  none_live : (id other : PieceId) (o : Option Row) → known_at s.places ≡ Some id → is_among_puts puts id.put ≡ true
      → live_row_of s other ≡ o
      → option_and_then (Verdict.if_at place other) o ≡ None
  none_live id other None known k live = refl
  none_live id other (Some row) known k live = none_by id other row (row.place == place) known k live refl

  none_there : (id : PieceId) (o : Option PieceId) → known_at s.places ≡ Some id → is_among_puts puts id.put ≡ true → option_and_then (Verdict.if_still_at s place) o ≡ None
  none_there id None known k = refl
  none_there id (Some other) known k = none_live id other (live_row_of s other) known k refl

  same_there : (o : Option PieceId) → option_and_then (Verdict.if_still_at (without_puts puts s) place) o ≡ option_and_then (Verdict.if_still_at s place) o
  same_there None = refl
  same_there (Some id) = ap (option_and_then (Verdict.if_at place id)) (piece_stays s puts dead id)

  at_by : (o : Option PieceId) (b : Bool) → known_at s.places ≡ o → unwrap_or (option_map (λ (id : PieceId). is_among_puts puts id.put) o) false ≡ b
      → piece_at (without_puts puts s) place ≡ piece_at s place
  at_by None b known k =
      let none : known_at (without_puts puts s).places ≡ known_at s.places =
      lookup_kept (λ p. p == place) (keeps_place s puts dead) s.places (λ e is found. none_is (sym known ∙ found)) in
      ap (option_and_then (Verdict.if_still_at (without_puts puts s) place)) none ∙ same_there (known_at s.places)
  at_by (Some id) true known k =
      same_there (known_at (without_puts puts s).places)
      ∙ (none_there id (known_at (without_puts puts s).places) known k
      ∙ sym (ap (option_and_then (Verdict.if_still_at s place)) known ∙ none_there id (Some id) known k))
  at_by (Some id) false known k =
      let still : known_at (without_puts puts s).places ≡ known_at s.places =
      lookup_kept (λ p. p == place) (keeps_place s puts dead) s.places (λ e is found.
      ap not (ap (λ (i : PieceId). is_among_puts puts i.put) (same_some e.1 id (known_at s.places) found known) ∙ k)) in
      ap (option_and_then (Verdict.if_still_at (without_puts puts s) place)) still ∙ same_there (known_at s.places)

  found_stays : piece_at (without_puts puts s) place ≡ piece_at s place
  found_stays = at_by (known_at s.places) (is_place_of puts s place) refl refl

pub forgetting_is_sound : (cap : ℕ) (s : State) → IsSound s → IsLeftSound s (forget cap s)
forgetting_is_sound cap s h = record {
  sound = sound_left s (forgotten_puts cap s) (forgotten_is_dead cap s) h;
  found = found_stays s (forgotten_puts cap s) (forgotten_is_dead cap s) h;
}
