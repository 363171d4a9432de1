-- Fragments of a body, and what a put has cut of it.
use Rattle.std.proofs.Common.{◌≡◌, ℕ, zero, suc, ◌+◌, ◌-◌, ◌*◌, ◌<◌, ◌≤◌, List, [], ◌∷◌, ◌++◌, length, take, drop, refl, sym, ◌∙◌, ap, subst, arith, inl, inr, ◌⊎◌, length-append}
use Rattle.std.specs.Prelude.{min}
use Rattle.std.proofs.Math.Nat.{mul-le-mul_left, mul_comm}
use Rattle.std.proofs.lemmas.Bool.{cases_lt}
use Rattle.std.proofs.lemmas.List.{length-drop, length-take, take-append-le, take-take, take_all}
use Rattle.std.proofs.lemmas.List.Sums.{sum_by-cons, sum_by_push}
use Rattle.hex.specs.Hex.{IsBytes}
use Rattle.tape_base.specs.Digest.{digest_of}
use Rattle.doc_header.proofs.Stands.{part_in_front}
use Rattle.fragment_table.specs.Table.{TableRow, made_row, total_length}
use Rattle.script_run.specs.Own.{AreCuts, piece_of, row_of_part, rows_of_parts}

-- ---- places of fragments

next_at : (k fragment : ℕ) → (k + 1) * fragment ≡ k * fragment + fragment
next_at k fragment = omega arith

-- the next fragment begins where this one ends
pub at_next : (index fragment : ℕ) → 0 < index → (index + 1 - 1) * fragment ≡ (index - 1) * fragment + fragment
at_next index fragment some = let e : index + 1 - 1 ≡ (index - 1) + 1 = omega arith in ap (λ k. k * fragment) e ∙ next_at (index - 1) fragment

-- a fragment ends where all of them do, or before that
pub ends_within : (index n fragment : ℕ) → 0 < index → index ≤ n → (index - 1) * fragment + fragment ≤ n * fragment
ends_within index n fragment some within =
    let e : (index - 1) + 1 ≡ index = omega arith in
    let at : index * fragment ≡ (index - 1) * fragment + fragment = ap (λ k. k * fragment) (sym e) ∙ next_at (index - 1) fragment in
    let below : fragment * index ≤ fragment * n = mul-le-mul_left fragment within in
    omega (arith, at, below, mul_comm fragment index, mul_comm fragment n)

pub length-piece : (fragment : ℕ) (body : List ℕ) (index : ℕ) → length (piece_of fragment body index) ≡ min fragment (length body - (index - 1) * fragment)
length-piece fragment body index = length-take fragment (drop ((index - 1) * fragment) body) ∙ ap (min fragment) (length-drop ((index - 1) * fragment) body)

-- ---- rows of fragments

sums : (n fragment size at : ℕ) → min fragment (size - at) + min (n * fragment) (size - (at + fragment)) ≡ min (suc n * fragment) (size - at)
sums n fragment size at = omega arith

total_from : (fragment : ℕ) (body : List ℕ) (index n : ℕ) → 0 < index → total_length (rows_of_parts fragment body index n) ≡ min (n * fragment) (length body - (index - 1) * fragment)
total_from fragment body index zero some = omega arith
total_from fragment body index (suc n) some =
    let rest : total_length (rows_of_parts fragment body (index + 1) n) ≡ min (n * fragment) (length body - ((index - 1) * fragment + fragment)) =
    total_from fragment body (index + 1) n (omega arith) ∙ ap (λ at. min (n * fragment) (length body - at)) (at_next index fragment some) in
    sum_by-cons {X = TableRow} (λ row. row.length) (row_of_part fragment body index) (rows_of_parts fragment body (index + 1) n)
    ∙ (ap (λ m. length (piece_of fragment body index) + m) rest
    ∙ (ap (λ m. m + min (n * fragment) (length body - ((index - 1) * fragment + fragment))) (length-piece fragment body index)
    ∙ sums n fragment (length body) ((index - 1) * fragment)))

-- the first fragments of a body have its bytes, or as many as they may have
pub total_rows : (fragment : ℕ) (body : List ℕ) (n : ℕ) → total_length (rows_of_parts fragment body 1 n) ≡ min (n * fragment) (length body)
total_rows fragment body n = total_from fragment body 1 n (omega arith) ∙ omega arith

pub total_cuts : (fragment : ℕ) (body : List ℕ) (cuts : List TableRow) → AreCuts fragment body cuts → total_length cuts ≡ min (length cuts * fragment) (length body)
total_cuts fragment body cuts c = ap total_length c.rows ∙ total_rows fragment body (length cuts)

-- bodies that have the same fragments have the same rows
rows_same : (fragment : ℕ) (a b : List ℕ) (index n : ℕ) → ((i : ℕ) → index ≤ i → i < index + n → piece_of fragment a i ≡ piece_of fragment b i)
    → rows_of_parts fragment a index n ≡ rows_of_parts fragment b index n
rows_same fragment a b index zero same = refl
rows_same fragment a b index (suc n) same =
    ap (λ (piece : List ℕ). made_row (length piece) (digest_of piece).0 ∷ rows_of_parts fragment a (index + 1) n) (same index (omega arith) (omega arith))
    ∙ ap (λ rows. row_of_part fragment b index ∷ rows)
    (rows_same fragment a b (index + 1) n (λ i low high. same i (omega arith) (omega arith)))

-- one fragment more
rows_more : (fragment : ℕ) (body : List ℕ) (index n : ℕ) → rows_of_parts fragment body index (suc n) ≡ rows_of_parts fragment body index n ++ row_of_part fragment body (index + n) ∷ []
rows_more fragment body index zero = let e : index ≡ index + 0 = omega arith in ap (λ i. row_of_part fragment body i ∷ []) e
rows_more fragment body index (suc n) =
    let e : index + 1 + n ≡ index + suc n = omega arith in
    ap (λ rows. row_of_part fragment body index ∷ rows)
    (rows_more fragment body (index + 1) n ∙ ap (λ i. rows_of_parts fragment body (index + 1) n ++ row_of_part fragment body i ∷ []) e)

-- ---- what a put has cut

pub no_cuts : (fragment : ℕ) (body : List ℕ) → AreCuts fragment body []
no_cuts fragment body = record { rows = refl; within = omega arith; of_bytes = λ index some within. absurd (omega (arith, some, within)); none_empty = λ index some within. absurd (omega (arith, some, within)) }

whole_before : (n fragment size total : ℕ) → total ≡ n * fragment → total ≤ size → total + min fragment (size - n * fragment) ≤ size
whole_before n fragment size total full within = omega arith

-- what holds of the last fragment and of those before it holds of each
each_more : (P : List ℕ → Type 0) (fragment : ℕ) (body : List ℕ) (n index : ℕ) → P (piece_of fragment body (n + 1))
    → (0 < index → index ≤ n → P (piece_of fragment body index)) → (index ≤ n) ⊎ (index ≡ n + 1) → 0 < index → P (piece_of fragment body index)
each_more P fragment body n index last before (inl earlier) positive = before positive earlier
each_more P fragment body n index last before (inr is) positive = subst (λ i. P (piece_of fragment body i)) (sym is) last

earlier_or_last : (index n m : ℕ) → index ≤ m → m ≡ n + 1 → (index ≤ n) ⊎ (index ≡ n + 1)
earlier_or_last index n m within is = elim (cases_lt index (n + 1)) [ inl below ↦ inl (omega arith) | inr above ↦ inr (omega arith) ]

-- a put that has cut whole fragments alone cuts the next one
pub cuts_more : (fragment : ℕ) (body : List ℕ) (cuts : List TableRow) (payload : List ℕ) → AreCuts fragment body cuts → total_length cuts ≡ length cuts * fragment
    → payload ≡ piece_of fragment body (length cuts + 1) → 0 < length payload → IsBytes payload → AreCuts fragment body (cuts ++ made_row (length payload) (digest_of payload).0 ∷ [])
cuts_more fragment body cuts payload c full is some small =
    let n : ℕ = length cuts in
    let new : TableRow = made_row (length payload) (digest_of payload).0 in
    let count : length (cuts ++ new ∷ []) ≡ n + 1 = length-append cuts (new ∷ []) in
    let next : n + 1 ≡ suc n = omega arith in
    let place : 1 + n ≡ n + 1 = omega arith in
    let made : row_of_part fragment body (n + 1) ≡ new = ap (λ (piece : List ℕ). made_row (length piece) (digest_of piece).0) (sym is) in
    let some_last : 0 < length (piece_of fragment body (n + 1)) = subst (λ (piece : List ℕ). 0 < length piece) is some in
    let index : (n + 1 - 1) * fragment ≡ n * fragment = let e : n + 1 - 1 ≡ n = omega arith in ap (λ k. k * fragment) e in
    let size : length payload ≡ min fragment (length body - n * fragment) =
    ap length is ∙ (length-piece fragment body (n + 1) ∙ ap (λ at. min fragment (length body - at)) index) in
    let total : total_length (cuts ++ new ∷ []) ≡ total_length cuts + length payload = sum_by_push {X = TableRow} (λ row. row.length) cuts new in
    record {
      rows = ap (λ rows. rows ++ new ∷ []) c.rows
          ∙ (ap (λ row. rows_of_parts fragment body 1 n ++ row ∷ []) (sym made ∙ ap (row_of_part fragment body) (sym place))
          ∙ (sym (rows_more fragment body 1 n) ∙ ap (rows_of_parts fragment body 1) (sym (count ∙ next))));
      within = let all = whole_before n fragment (length body) (total_length cuts) full c.within in omega (arith, total, size, all);
      of_bytes = λ i positive within. each_more IsBytes fragment body n i (subst IsBytes is small) (c.of_bytes i) (earlier_or_last i n (length (cuts ++ new ∷ [])) within count) positive;
      none_empty = λ i positive within. each_more (λ piece. 0 < length piece) fragment body n i some_last (c.none_empty i) (earlier_or_last i n (length (cuts ++ new ∷ [])) within count) positive;
    }

-- ---- another body

-- bodies that have the fragments in common that were cut
pub record HaveCut (fragment n : ℕ) (a b : List ℕ) : Type 0 where
  pub pieces : (index : ℕ) → 0 < index → index ≤ n → piece_of fragment a index ≡ piece_of fragment b index

pub have_same : (fragment n : ℕ) (a : List ℕ) → HaveCut fragment n a a
have_same fragment n a = record { pieces = λ index some within. refl }

pub cuts_of_other : (fragment : ℕ) (a b : List ℕ) (cuts : List TableRow) → AreCuts fragment a cuts → HaveCut fragment (length cuts) a b → total_length cuts ≤ length b → AreCuts fragment b cuts
cuts_of_other fragment a b cuts c have within = record {
  rows = c.rows ∙ rows_same fragment a b 1 (length cuts) (λ i low high. have.pieces i (omega arith) (omega arith));
  within = within;
  of_bytes = λ index some here. subst IsBytes (have.pieces index some here) (c.of_bytes index some here);
  none_empty = λ index some here. subst (λ (piece : List ℕ). 0 < length piece) (have.pieces index some here) (c.none_empty index some here);
}

-- what stands before a place tells the fragments that end there
have_front : (fragment n : ℕ) (a b : List ℕ) → take (n * fragment) a ≡ take (n * fragment) b → HaveCut fragment n a b
have_front fragment n a b same = record { pieces = λ index some within. part_in_front (n * fragment) ((index - 1) * fragment) fragment a b (ends_within index n fragment some within) same }

-- whole fragments stay where a body goes on
pub have_longer : (fragment n : ℕ) (a more : List ℕ) → n * fragment ≤ length a → HaveCut fragment n a (a ++ more)
have_longer fragment n a more within = have_front fragment n a (a ++ more) (sym (take-append-le (n * fragment) a more within))

-- and where it loses what was not cut
pub have_shorter : (fragment : ℕ) (a : List ℕ) (cuts : List TableRow) (size : ℕ) → AreCuts fragment a cuts → total_length cuts ≤ size → HaveCut fragment (length cuts) a (take size a)
have_shorter fragment a cuts size c within =
    let total : total_length cuts ≡ min (length cuts * fragment) (length a) = total_cuts fragment a cuts c in
    elim (cases_lt (length a) (length cuts * fragment)) [
      | inl short ↦ have_all (omega (arith, total, within, short))
      | inr whole ↦ have_front fragment (length cuts) a (take size a) (sym (take-take (length cuts * fragment) size a (omega (arith, total, within, whole))))
    ]
  where
    have_all : length a ≤ size → HaveCut fragment (length cuts) a (take size a)
    have_all all = subst (λ b. HaveCut fragment (length cuts) a b) (sym (take_all size a all)) (have_same fragment (length cuts) a)
