-- What stands behind a slot of a chain.
use Rattle.std.proofs.Common.{◌≡◌, ◌≢◌, ℕ, ◌+◌, ◌*◌, ◌<◌, Bool, true, false, cond, eqb, List, [], ◌∷◌, length, get_or, map, refl, sym, ap, subst, ◌∙◌, arith}
use Rattle.std.specs.Prelude.{◌||◌}
use Rattle.std.proofs.lemmas.Bool.{eqb-true, eq-eqb}
use Rattle.dir_entry.specs.declared.entry.Entry.{Entry}
use Rattle.dir_segment.specs.Lists.{SlotRow, Lists, row, has_slot, behind_slot}
use Rattle.dir_segment.specs.Links.{at, IsChain, IsBucket, IsSegment, followers, occurrences}
use Rattle.dir_segment.proofs.Moves.{chain_within}
use Rattle.dir_segment.proofs.Inserting.{chain_used}

-- links lead through one list only
pub same_chain : (slots : List Entry) (s : ℕ) (xs ys : List SlotRow) → IsChain slots s xs → IsChain slots s ys → xs ≡ ys
same_chain slots s [] [] h k = refl
same_chain slots s [] (y ∷ ys) h k = absurd (omega (arith, h, k.0))
same_chain slots s (x ∷ xs) [] h k = absurd (omega (arith, h.0, k))
same_chain slots s (x ∷ xs) (y ∷ ys) h k =
    let first : x ≡ y = h.2 ∙ sym k.2 in
    let rest : xs ≡ ys = same_chain slots _ xs ys h.3 k.3 in
    λ i. first i ∷ rest i

-- what a slot of a chain links to is the rest of that chain
pub chain_behind : (slots : List Entry) (s x : ℕ) (rows : List SlotRow) → IsChain slots s rows → has_slot x rows ≡ true → IsChain slots (at slots x).next (behind_slot x rows)
chain_behind slots s x [] h has = absurd cc
chain_behind slots s x (r ∷ rows) h has =
    elim (eqb r.slot x) as (λ t. eqb r.slot x ≡ t → (t || has_slot x rows) ≡ true → IsChain slots (at slots x).next (cond t rows (behind_slot x rows))) [
      | true ↦ λ e has'.
          let same : s ≡ x = sym (ap (λ (q : SlotRow). q.slot) h.2) ∙ eqb-true r.slot x e in
          subst (λ k. IsChain slots (at slots k).next rows) same h.3
      | false ↦ λ e has'. chain_behind slots (at slots s).next x rows h.3 has'
    ] refl has

pub bucket_behind : (slots : List Entry) (b x : ℕ) (rows : List SlotRow) → IsBucket slots b rows → has_slot x rows ≡ true → IsChain slots (at slots x).next (behind_slot x rows)
bucket_behind slots b x [] h has = absurd cc
bucket_behind slots b x (r ∷ rows) h has = go (eqb r.slot x) refl has where
  go : (t : Bool) → eqb r.slot x ≡ t → (t || has_slot x rows) ≡ true → IsChain slots (at slots x).next (cond t rows (behind_slot x rows))
  go true e has' =
      let same : 4 * b ≡ x = sym (ap (λ (q : SlotRow). q.slot) h.1) ∙ eqb-true r.slot x e in
      subst (λ k. IsChain slots (at slots k).next rows) same h.2
  go false e has' = chain_behind slots (at slots (4 * b)).next x rows h.2 has'

pub or_right : (a b : Bool) → b ≡ true → (a || b) ≡ true
or_right true b h = refl
or_right false b h = h

pub has_behind : (x y : ℕ) (rows : List SlotRow) → has_slot y (behind_slot x rows) ≡ true → has_slot y rows ≡ true
has_behind x y [] h = absurd cc
has_behind x y (r ∷ rows) h =
    elim (eqb r.slot x) as (λ t. has_slot y (cond t rows (behind_slot x rows)) ≡ true → (eqb r.slot y || has_slot y rows) ≡ true) [
      | true ↦ λ k. or_right (eqb r.slot y) (has_slot y rows) k
      | false ↦ λ k. or_right (eqb r.slot y) (has_slot y rows) (has_behind x y rows k)
    ] h

pub has_occurs : (x : ℕ) (rows : List SlotRow) → has_slot x rows ≡ true → 0 < occurrences x (map (λ (q : SlotRow). q.slot) rows)
has_occurs x [] h = absurd cc
has_occurs x (r ∷ rows) h =
    elim (eqb r.slot x) as (λ t. (t || has_slot x rows) ≡ true → 0 < cond t 1 0 + occurrences x (map (λ (q : SlotRow). q.slot) rows)) [
      | true ↦ λ k. omega arith
      | false ↦ λ k. omega (arith, has_occurs x rows k)
    ] h

pub has_first : (x : ℕ) (e : Entry) (rows : List SlotRow) → has_slot x (row x e ∷ rows) ≡ true
has_first x e rows = rw (eq-eqb x x refl) refl

pub chain_some : (x : ℕ) (rows : List SlotRow) → behind_slot x rows ≢ [] → rows ≢ []
chain_some x [] some e = some refl
chain_some x (r ∷ rows) some e = absurd (cc e)

module _ (slots : List Entry) (head spare taken buckets : ℕ) (lists : Lists) (h : IsSegment slots head spare taken buckets lists) (b : ℕ) (lt : b < buckets) where
  -- a slot of a chain is in range
  pub slot_within : (x : ℕ) → has_slot x (get_or lists.chains b []) ≡ true → x < length slots
  slot_within x has = go (get_or lists.chains b []) refl (h.chains b lt) has where
    go : (c : List SlotRow) → get_or lists.chains b [] ≡ c → IsBucket slots b c → has_slot x c ≡ true → x < length slots
    go [] e k has' = absurd cc
    go (r ∷ rows) e k has' = by (eqb r.slot x) refl has' where
      by : (t : Bool) → eqb r.slot x ≡ t → (t || has_slot x rows) ≡ true → x < length slots
      by true is has'' =
          let same : 4 * b ≡ x = sym (ap (λ (q : SlotRow). q.slot) k.1) ∙ eqb-true r.slot x is in
          omega (arith, same, h.size)
      by false is has'' =
          let some : 0 < occurrences x (followers (get_or lists.chains b [])) = rw e (has_occurs x rows has'') in
          omega (arith, chain_within slots head spare taken buckets lists h x b lt some, h.size)

  pub first_row : (p : ℕ) → p ≡ 4 * b → (root : Entry) → root ≡ at slots p → root.offset ≢ 0
      → (get_or lists.chains b [] ≡ row p root ∷ behind_slot p (get_or lists.chains b [])) × (has_slot p (get_or lists.chains b []) ≡ true)
  first_row p place root found used =
      let root-is : root ≡ at slots (4 * b) = found ∙ ap (at slots) place in
      let chain = chain_used slots head spare taken buckets lists h b lt (rw (← root-is) (omega (arith, used))) in
      go chain.0 (chain.1 ∙ (λ i. row (sym place i) (sym root-is i) ∷ chain.0)) where
        go : (rows : List SlotRow) → get_or lists.chains b [] ≡ row p root ∷ rows → (get_or lists.chains b [] ≡ row p root ∷ behind_slot p (get_or lists.chains b [])) × (has_slot p (get_or lists.chains b []) ≡ true)
        go rows is =
            let rest : behind_slot p (get_or lists.chains b []) ≡ rows = rw (is, eq-eqb p p refl) refl in
            (rw rest is, rw is (has_first p root rows))

  pub last_row : (x : ℕ) → has_slot x (get_or lists.chains b []) ≡ true → (at slots x).next ≡ 0 → behind_slot x (get_or lists.chains b []) ≡ []
  last_row x has none = go (behind_slot x (get_or lists.chains b [])) (bucket_behind slots b x (get_or lists.chains b []) (h.chains b lt) has) where
    go : (c : List SlotRow) → IsChain slots (at slots x).next c → c ≡ []
    go [] k = refl
    go (r ∷ rows) k = absurd (omega (arith, k.0, none))

  pub next_row : (x : ℕ) → has_slot x (get_or lists.chains b []) ≡ true → (n : ℕ) → n ≡ (at slots x).next → n ≢ 0
      → (behind_slot x (get_or lists.chains b []) ≡ row n (at slots n) ∷ behind_slot n (get_or lists.chains b [])) × (has_slot n (get_or lists.chains b []) ≡ true)
  next_row x has n is some = go (behind_slot x c) refl (subst (λ k. IsChain slots k (behind_slot x c)) (sym is) (bucket_behind slots b x c (h.chains b lt) has)) where
    c : List SlotRow
    c = get_or lists.chains b []

    go : (d : List SlotRow) → behind_slot x c ≡ d → IsChain slots n d → (behind_slot x c ≡ row n (at slots n) ∷ behind_slot n c) × (has_slot n c ≡ true)
    go [] e k = absurd (some k)
    go (r ∷ rows) e k =
        let e' : behind_slot x c ≡ row n (at slots n) ∷ rows = e ∙ ap (λ (q : SlotRow). q ∷ rows) k.2 in
        let here : has_slot n (behind_slot x c) ≡ true = rw e' (has_first n (at slots n) rows) in
        let has' : has_slot n c ≡ true = has_behind x n c here in
        let rest : rows ≡ behind_slot n c = same_chain slots (at slots n).next rows (behind_slot n c) k.3 (bucket_behind slots b n c (h.chains b lt) has') in
        (e' ∙ ap (λ (qs : List SlotRow). row n (at slots n) ∷ qs) rest, has')

  pub next_used : (x : ℕ) → has_slot x (get_or lists.chains b []) ≡ true → (n : ℕ) → n ≡ (at slots x).next → n ≢ 0 → 0 < (at slots n).offset
  next_used x has n is some = go (behind_slot x c) (subst (λ k. IsChain slots k (behind_slot x c)) (sym is) (bucket_behind slots b x c (h.chains b lt) has)) where
    c : List SlotRow
    c = get_or lists.chains b []

    go : (d : List SlotRow) → IsChain slots n d → 0 < (at slots n).offset
    go [] k = absurd (some k)
    go (r ∷ rows) k = k.1
