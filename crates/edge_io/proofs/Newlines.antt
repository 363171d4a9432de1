-- Where the first newline is, by a search that begins behind a clear front.
use Rattle.std.proofs.Common.{◌≡◌, ℕ, ◌+◌, ◌-◌, ◌<◌, ◌≤◌, ◌==◌, true, List, length, get_or, slice_index, take, drop, Contains, inl, inr, sym, ◌∙◌, ap, arith, length-drop, get_or-take, get_or-drop}
use Rattle.std.proofs.lemmas.Bool.{cases_lt, eqb-true, eq-eqb}
use Rattle.std.proofs.lemmas.List.{get_or_default}
use Rattle.edge_io.specs.LineBuffer.{IsClear, IsNewline}

-- a byte behind the front, as the search sees it
behind : (xs : List ℕ) (from k : ℕ) → from ≤ k → get_or (drop from xs) (k - from) 0 ≡ get_or xs k 0
behind xs from k order =
    let place : from + (k - from) ≡ k = omega arith in
    get_or-drop from xs (k - from) 0 ∙ ap (λ i. get_or xs i 0) place

-- clear up to a place behind the front, where the search found nothing up to it
pub clear_more : (xs : List ℕ) (from n : ℕ) → IsClear xs from → ((j : ℕ) → j < n → (slice_index (drop from xs) j == 10) ≡ true → ⊥) → IsClear xs (from + n)
clear_more xs from n front none = record {
  clear = λ k below is_ten. elim (cases_lt k from) [
    | inl low ↦ front.clear k low is_ten
    | inr high ↦ none (k - from) (omega arith) (eq-eqb _ 10 (behind xs from k high ∙ is_ten))
  ];
}

pub newline_more : (xs : List ℕ) (from place : ℕ) → from ≤ length xs → IsClear xs from → place < length (drop from xs) → (slice_index (drop from xs) place == 10) ≡ true
    → ((j : ℕ) → j < place → (slice_index (drop from xs) j == 10) ≡ true → ⊥) → IsNewline xs (from + place)
newline_more xs from place order front within found none =
    let far : place < length xs - from = rw length-drop at within in
    record {
      within = omega arith;
      here = sym (get_or-drop from xs place 0) ∙ eqb-true _ 10 found;
      before = clear_more xs from place front none;
    }

-- the front stays clear as bytes come behind it
pub clear_longer : (old new : List ℕ) → take (length old) new ≡ old → IsClear old (length old) → IsClear new (length old)
clear_longer old new same clear = record {
  clear = λ k below is_ten. clear.clear k below (ap (λ l. get_or l k 0) (sym same) ∙ (get_or-take (length old) new k 0 below ∙ is_ten));
}

pub clear_apart : (xs : List ℕ) → IsClear xs (length xs) → Contains xs 10 → ⊥
clear_apart xs clear has = clear.clear has.0 has.1 (get_or_default xs has.0 0 10 has.1 ∙ has.2)

-- no byte stands before the first
pub clear_none : (xs : List ℕ) → IsClear xs 0
clear_none xs = record { clear = λ k below is_ten. absurd (omega arith) }
