-- The buckets of a segment that are in use, as pieces go.
use Rattle.std.proofs.Common.{◌≡◌, ℕ, zero, suc, ◌+◌, ◌<◌, ◌≤◌, List, [], ◌∷◌, length, refl, sym, ◌∙◌, ap, subst, arith, inl, inr, ◌⊎◌, Bool, true, false, cond}
use Rattle.std.specs.Prelude.{◌≢◌, not, filter, ◌==◌, ◌||◌}
use Rattle.std.specs.List.{range_with_len}
use Rattle.std.proofs.lemmas.Bool.{eqb-false, eqb-true, eq-eqb, or_cases, or_left, or_right}
use Rattle.std.proofs.lemmas.List.Sums.{length-filter}
use Rattle.std.proofs.lemmas.Nat.{mod_below}
use Rattle.tape_base.specs.declared.pieces.PieceId.{PieceId}
use Rattle.tape_base.specs.Piece.{same_piece}
use Rattle.tape_base.proofs.NameLaws.{same_piece-same, same_piece-true}
use Rattle.cache_model.specs.State.{State, Row, without}
use Rattle.cache_model.specs.Permit.{IsAmong}
use Rattle.cache_model.specs.Room.{bucket_of_piece, is_bucket_used, rows_left, used_buckets}
use Rattle.cache_model.specs.Tape.{AreApart, NotAmong}
use Rattle.cache_model.proofs.Found.{no_truth}
use Rattle.cache_model.proofs.Walks.{differs}

-- ---- how many of some numbers pass

module _ (p q : ℕ → Bool) where
  fewer_by : (a n : ℕ) (b c : Bool) → (b ≡ true → c ≡ true) → length (filter p (range_with_len (a + 1) n)) ≤ length (filter q (range_with_len (a + 1) n))
      → length (cond b (a ∷ filter p (range_with_len (a + 1) n)) (filter p (range_with_len (a + 1) n)))
      ≤ length (cond c (a ∷ filter q (range_with_len (a + 1) n)) (filter q (range_with_len (a + 1) n)))
  fewer_by a n true true h rest = omega (arith, rest)
  fewer_by a n true false h rest = no_truth (sym (h refl))
  fewer_by a n false true h rest = omega (arith, rest)
  fewer_by a n false false h rest = rest

  pub fewer : (a n : ℕ) → ((b : ℕ) → a ≤ b → p b ≡ true → q b ≡ true) → length (filter p (range_with_len a n)) ≤ length (filter q (range_with_len a n))
  fewer a zero h = omega arith
  fewer a (suc n) h = fewer_by a n (p a) (q a) (h a (omega arith)) (fewer (a + 1) n (λ b from. h b (omega (arith, from))))

at_most_one : (b c : Bool) (a : ℕ) (xs ys : List ℕ) → length xs ≤ length ys → length (cond b (a ∷ xs) xs) ≤ length (cond c (a ∷ ys) ys) + 1
at_most_one true true a xs ys h = omega (arith, h)
at_most_one true false a xs ys h = omega (arith, h)
at_most_one false true a xs ys h = omega (arith, h)
at_most_one false false a xs ys h = omega (arith, h)

still_one : (b c : Bool) (a : ℕ) (xs ys : List ℕ) → (b ≡ true → c ≡ true) → length xs ≤ length ys + 1 → length (cond b (a ∷ xs) xs) ≤ length (cond c (a ∷ ys) ys) + 1
still_one true true a xs ys k h = omega (arith, h)
still_one true false a xs ys k h = no_truth (sym (k refl))
still_one false true a xs ys k h = omega (arith, h)
still_one false false a xs ys k h = h

more_by : (b c : Bool) (a : ℕ) (xs ys : List ℕ) → (b ≡ true → c ≡ true) → length xs + 1 ≤ length ys → length (cond b (a ∷ xs) xs) + 1 ≤ length (cond c (a ∷ ys) ys)
more_by true true a xs ys k h = omega (arith, h)
more_by true false a xs ys k h = no_truth (sym (k refl))
more_by false true a xs ys k h = omega (arith, h)
more_by false false a xs ys k h = h

more_here : (b c : Bool) (a : ℕ) (xs ys : List ℕ) → b ≡ false → c ≡ true → length xs ≤ length ys → length (cond b (a ∷ xs) xs) + 1 ≤ length (cond c (a ∷ ys) ys)
more_here true c a xs ys e k h = no_truth e
more_here false true a xs ys e k h = omega (arith, h)
more_here false false a xs ys e k h = no_truth (sym k)

differ : (k b : ℕ) → k < b → (k == b) ≡ false
differ k b less = by (k == b) refl
  where
    by : (c : Bool) → (k == b) ≡ c → c ≡ false
    by false e = refl
    by true e = let same : k ≡ b = eqb-true k b e in absurd (omega (arith, less, same))

module _ (p q : ℕ → Bool) (k : ℕ) where
  one_by : (a n : ℕ) (here : Bool) → (k == a) ≡ here → ((b : ℕ) → q b ≡ true → ((k == b) ≡ true) ⊎ (p b ≡ true))
      → length (filter q (range_with_len (a + 1) n)) ≤ length (filter p (range_with_len (a + 1) n)) + 1
      → length (filter q (range_with_len a (suc n))) ≤ length (filter p (range_with_len a (suc n))) + 1
  one_by a n true e h rest =
      let same : k ≡ a = eqb-true k a e in
      at_most_one (q a) (p a) a (filter q (range_with_len (a + 1) n)) (filter p (range_with_len (a + 1) n))
      (fewer q p (a + 1) n (λ b from is. elim (h b is) [
        | inl there ↦ no_truth (sym there ∙ differ k b (omega (arith, same, from)))
        | inr there ↦ there
      ]))
  one_by a n false e h rest =
      still_one (q a) (p a) a (filter q (range_with_len (a + 1) n)) (filter p (range_with_len (a + 1) n))
      (λ is. elim (h a is) [ inl there ↦ no_truth (sym there ∙ e) | inr there ↦ there ]) rest

  -- all but one of those that pass a test pass another one
  all_but_one : (a n : ℕ) → ((b : ℕ) → q b ≡ true → ((k == b) ≡ true) ⊎ (p b ≡ true)) → length (filter q (range_with_len a n)) ≤ length (filter p (range_with_len a n)) + 1
  all_but_one a zero h = omega arith
  all_but_one a (suc n) h = one_by a n (k == a) refl h (all_but_one (a + 1) n h)

  more_at : (a n : ℕ) (here : Bool) → (k == a) ≡ here → k < a + suc n → a ≤ k → p k ≡ false → q k ≡ true → ((b : ℕ) → p b ≡ true → q b ≡ true)
      → (k < a + 1 + n → a + 1 ≤ k → length (filter p (range_with_len (a + 1) n)) + 1 ≤ length (filter q (range_with_len (a + 1) n)))
      → length (filter p (range_with_len a (suc n))) + 1 ≤ length (filter q (range_with_len a (suc n)))
  more_at a n true e high low none is all rest =
      let same : k ≡ a = eqb-true k a e in
      more_here (p a) (q a) a (filter p (range_with_len (a + 1) n)) (filter q (range_with_len (a + 1) n)) (ap p (sym same) ∙ none) (ap q (sym same) ∙ is)
      (fewer p q (a + 1) n (λ b from. all b))
  more_at a n false e high low none is all rest =
      let other : k ≢ a = eqb-false k a e in
      more_by (p a) (q a) a (filter p (range_with_len (a + 1) n)) (filter q (range_with_len (a + 1) n)) (all a) (rest (omega (arith, high)) (omega (arith, low, other)))

  -- one more passes another test
  pub one_more : (a n : ℕ) → k < a + n → a ≤ k → p k ≡ false → q k ≡ true → ((b : ℕ) → p b ≡ true → q b ≡ true)
      → length (filter p (range_with_len a n)) + 1 ≤ length (filter q (range_with_len a n))
  one_more a zero high low none is all = absurd (omega (arith, high, low))
  one_more a (suc n) high low none is all = more_at a n (k == a) refl high low none is all (λ h l. one_more (a + 1) n h l none is all)

-- ---- rows that are taken out

keeps_others : (id : PieceId) (rows : List Row) → NotAmong id rows → without id rows ≡ rows
keeps_others id [] h = refl
keeps_others id (x ∷ rows) h = by (same_piece x.id id) refl (keeps_others id rows h.1)
  where
    by : (b : Bool) → same_piece x.id id ≡ b → without id rows ≡ rows → cond (not b) (x ∷ without id rows) (without id rows) ≡ x ∷ rows
    by true e rest =
        let same : x.id ≡ id = same_piece-true x.id id e in
        no_truth (sym (same_piece-same id) ∙ (ap (same_piece id) (sym same) ∙ h.0))
    by false e rest = ap (λ ys. x ∷ ys) rest

module _ (s : State) where
  abbrev bucket_is : Row → ℕ → Bool
  bucket_is row bucket = bucket_of_piece s row.id == bucket

  abbrev pub used : List Row → ℕ
  used rows = length (filter (is_bucket_used s rows) (range_with_len 0 s.geometry.buckets))

  pub used_is : (rows : List Row) → used_buckets s rows ≡ used rows
  used_is rows = sym (length-filter (is_bucket_used s rows) (range_with_len 0 s.geometry.buckets))

  -- each bucket in use but that of the piece is still in use
  left_by : (id : PieceId) (x : Row) (rows : List Row) (b : ℕ) (gone : Bool) → same_piece x.id id ≡ gone
      → (is_bucket_used s rows b ≡ true → ((bucket_of_piece s id == b) ≡ true) ⊎ (is_bucket_used s (without id rows) b ≡ true))
      → (bucket_is x b || is_bucket_used s rows b) ≡ true
      → ((bucket_of_piece s id == b) ≡ true) ⊎ (is_bucket_used s (cond (not gone) (x ∷ without id rows) (without id rows)) b ≡ true)
  left_by id x rows b true e rest m = elim (or_cases (bucket_is x b) (is_bucket_used s rows b) m) [
    | inl here ↦ inl (ap (λ i. bucket_of_piece s i == b) (sym (same_piece-true x.id id e)) ∙ here)
    | inr there ↦ rest there
  ]
  left_by id x rows b false e rest m = elim (or_cases (bucket_is x b) (is_bucket_used s rows b) m) [
    | inl here ↦ inr (or_left (bucket_is x b) (is_bucket_used s (without id rows) b) here)
    | inr there ↦ elim (rest there) [ inl own ↦ inl own | inr left ↦ inr (or_right (bucket_is x b) (is_bucket_used s (without id rows) b) left) ]
  ]

  left_used : (id : PieceId) (rows : List Row) (b : ℕ) → is_bucket_used s rows b ≡ true
      → ((bucket_of_piece s id == b) ≡ true) ⊎ (is_bucket_used s (without id rows) b ≡ true)
  left_used id [] b m = no_truth (sym m)
  left_used id (x ∷ rows) b m = left_by id x rows b (same_piece x.id id) refl (left_used id rows b) m

  -- a piece that goes leaves all but one
  pub used_less : (id : PieceId) (rows : List Row) → used rows ≤ used (without id rows) + 1
  used_less id rows = all_but_one (is_bucket_used s (without id rows)) (is_bucket_used s rows) (bucket_of_piece s id) 0 s.geometry.buckets (left_used id rows)

  -- pieces that go leave all but as many
  pub used_left : (gone rows : List Row) → used rows ≤ used (rows_left gone rows) + length gone
  used_left [] rows = omega arith
  used_left (row ∷ gone) rows =
      let one : used rows ≤ used (without row.id rows) + 1 = used_less row.id rows in
      let rest : used (without row.id rows) ≤ used (rows_left gone (without row.id rows)) + length gone = used_left gone (without row.id rows) in
      omega (arith, one, rest)

-- ---- a piece whose bucket has another one

-- it is one of these, and without it each bucket in use still is
pub record IsTwin (s : State) (rows : List Row) (row : Row) : Type 0 where
  pub among : IsAmong row rows
  pub rest : (b : ℕ) → is_bucket_used s rows b ≡ true → is_bucket_used s (without row.id rows) b ≡ true

module _ (s : State) where
  twin_behind : (x row : Row) (rows : List Row) → NotAmong x.id rows → IsTwin s rows row → IsTwin s (x ∷ rows) row
  twin_behind x row rows h twin =
      let other : same_piece x.id row.id ≡ false = differs x.id rows row h twin.among in
      record {
        among = inr twin.among;
        rest = λ b m. rw other (elim (or_cases (bucket_is s x b) (is_bucket_used s rows b) m) [
          | inl here ↦ or_left (bucket_is s x b) (is_bucket_used s (without row.id rows) b) here
          | inr there ↦ or_right (bucket_is s x b) (is_bucket_used s (without row.id rows) b) (twin.rest b there)
        ]);
      }

  twin_here : (x : Row) (rows : List Row) → NotAmong x.id rows → is_bucket_used s rows (bucket_of_piece s x.id) ≡ true → IsTwin s (x ∷ rows) x
  twin_here x rows h shared = record {
    among = inl refl;
    rest = λ b m. rw (same_piece-same x.id, keeps_others x.id rows h) (elim (or_cases (bucket_is s x b) (is_bucket_used s rows b) m) [
      | inl here ↦ subst (λ k. is_bucket_used s rows k ≡ true) (eqb-true (bucket_of_piece s x.id) b here) shared
      | inr there ↦ there
    ]);
  }

  pub bucket_below : (id : PieceId) → bucket_of_piece s id < s.geometry.buckets
  bucket_below id = mod_below _ s.geometry.buckets (omega (arith, s.geometry.accepted.buckets_fit.0))

  alone_by : (x : Row) (rows : List Row) (b : Bool) → is_bucket_used s rows (bucket_of_piece s x.id) ≡ b → NotAmong x.id rows → length rows ≤ used s rows
      → ((row : Row) × IsTwin s (x ∷ rows) row) ⊎ (length (x ∷ rows) ≤ used s (x ∷ rows))
  alone_by x rows true shared h few = inl (x, twin_here x rows h shared)
  alone_by x rows false none h few =
      let more : used s rows + 1 ≤ used s (x ∷ rows) =
      one_more (is_bucket_used s rows) (is_bucket_used s (x ∷ rows)) (bucket_of_piece s x.id) 0 s.geometry.buckets (omega (arith, bucket_below x.id)) (omega arith) none
      (or_left (bucket_is s x (bucket_of_piece s x.id)) (is_bucket_used s rows (bucket_of_piece s x.id)) (eq-eqb (bucket_of_piece s x.id) (bucket_of_piece s x.id) refl))
      (λ b there. or_right (bucket_is s x b) (is_bucket_used s rows b) there) in
      inr (omega (arith, few, more))

  -- there is one, or there are no more pieces than buckets in use
  twin_or_few : (rows : List Row) → AreApart rows → ((row : Row) × IsTwin s rows row) ⊎ (length rows ≤ used s rows)
  twin_or_few [] h = inr (omega arith)
  twin_or_few (x ∷ rows) h = elim (twin_or_few rows h.1) [
    | inl twin ↦ inl (twin.0, twin_behind x twin.0 rows h.0 twin.1)
    | inr few ↦ alone_by x rows (is_bucket_used s rows (bucket_of_piece s x.id)) refl h.0 few
  ]

  pub twin_of : (rows : List Row) → AreApart rows → used s rows < length rows → (row : Row) × IsTwin s rows row
  twin_of rows h more = elim (twin_or_few rows h) [ inl twin ↦ twin | inr few ↦ absurd (omega (arith, more, few)) ]

  -- without it as many buckets are in use
  pub twin_used : (rows : List Row) (row : Row) → IsTwin s rows row → used s rows ≤ used s (without row.id rows)
  twin_used rows row twin = fewer (is_bucket_used s rows) (is_bucket_used s (without row.id rows)) 0 s.geometry.buckets (λ b from. twin.rest b)

-- ---- how many are left

pub length-without : (id : PieceId) (rows : List Row) → length (without id rows) ≤ length rows
length-without id [] = omega arith
length-without id (x ∷ rows) = by (same_piece x.id id) (length-without id rows)
  where
    by : (b : Bool) → length (without id rows) ≤ length rows → length (cond (not b) (x ∷ without id rows) (without id rows)) ≤ length (x ∷ rows)
    by true h = omega (arith, h)
    by false h = omega (arith, h)

pub length-taken : (row : Row) (rows : List Row) → IsAmong row rows → length (without row.id rows) + 1 ≤ length rows
length-taken row [] m = absurd m
length-taken row (x ∷ rows) m = by (same_piece x.id row.id) refl (elim m [ inl same ↦ inl same | inr there ↦ inr (length-taken row rows there) ])
  where
    by : (b : Bool) → same_piece x.id row.id ≡ b → (row ≡ x) ⊎ (length (without row.id rows) + 1 ≤ length rows)
        → length (cond (not b) (x ∷ without row.id rows) (without row.id rows)) + 1 ≤ length (x ∷ rows)
    by true e h = let less : length (without row.id rows) ≤ length rows = length-without row.id rows in omega (arith, less)
    by false e h = elim h [
      | inl same ↦ no_truth (sym (same_piece-same row.id) ∙ (ap (λ (r : Row). same_piece r.id row.id) same ∙ e))
      | inr less ↦ omega (arith, less)
    ]

-- of pieces that differ no more than one goes
pub length-kept : (id : PieceId) (rows : List Row) → AreApart rows → length rows ≤ length (without id rows) + 1
length-kept id [] h = omega arith
length-kept id (x ∷ rows) h = by (same_piece x.id id) refl (length-kept id rows h.1)
  where
    by : (b : Bool) → same_piece x.id id ≡ b → length rows ≤ length (without id rows) + 1
        → length (x ∷ rows) ≤ length (cond (not b) (x ∷ without id rows) (without id rows)) + 1
    by true e rest =
        let same : without id rows ≡ rows = ap (λ i. without i rows) (sym (same_piece-true x.id id e)) ∙ keeps_others x.id rows h.0 in
        let all : length (without id rows) ≡ length rows = ap (λ (rs : List Row). length rs) same in
        omega (arith, all)
    by false e rest = omega (arith, rest)

among_left : (id : PieceId) (row : Row) (rows : List Row) → same_piece row.id id ≡ false → IsAmong row rows → IsAmong row (without id rows)
among_left id row [] e m = absurd m
among_left id row (x ∷ rows) e m = by (same_piece x.id id) refl (elim m [ inl same ↦ inl same | inr there ↦ inr (among_left id row rows e there) ])
  where
    by : (b : Bool) → same_piece x.id id ≡ b → (row ≡ x) ⊎ IsAmong row (without id rows) → IsAmong row (cond (not b) (x ∷ without id rows) (without id rows))
    by true f h = elim h [ inl same ↦ no_truth (sym f ∙ (ap (λ (r : Row). same_piece r.id id) (sym same) ∙ e)) | inr there ↦ there ]
    by false f h = h

-- these are all among those
abbrev pub AreAmong : List Row → List Row → Type 0
AreAmong gone rows = (row : Row) → IsAmong row gone → IsAmong row rows

turned_round : (x row : Row) (b : Bool) → same_piece row.id x.id ≡ b → same_piece x.id row.id ≡ false → b ≡ false
turned_round x row false e h = refl
turned_round x row true e h =
    no_truth (sym (same_piece-same x.id) ∙ (ap (same_piece x.id) (sym (same_piece-true row.id x.id e)) ∙ h))

pub length-left : (gone rows : List Row) → AreApart gone → AreAmong gone rows → length (rows_left gone rows) + length gone ≤ length rows
length-left [] rows h all = omega arith
length-left (row ∷ gone) rows h all =
    let one : length (without row.id rows) + 1 ≤ length rows = length-taken row rows (all row (inl refl)) in
    let rest : length (rows_left gone (without row.id rows)) + length gone ≤ length (without row.id rows) =
    length-left gone (without row.id rows) h.1 (λ x m.
    among_left row.id x rows (turned_round row x (same_piece x.id row.id) refl (differs row.id gone x h.0 m)) (all x (inr m))) in
    omega (arith, one, rest)
