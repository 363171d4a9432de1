-- The first pass is cut into passes.
use Rattle.std.proofs.Common.{◌≡◌, ℕ, zero, suc, ◌+◌, All, List, [], ◌∷◌, ◌++◌, sym, refl, ap, ◌∙◌, arith}
use Rattle.atomic_table.specs.Seated.{TableId}
use Rattle.stripe_lock.specs.declared.view.View.{View}
use Rattle.stripe_lock.specs.History.{unused}
use Rattle.stripe_lock.specs.Rule.{outside}
use Rattle.stripe_lock.specs.Steps.{whole_sight, left_view}
use Rattle.stripe_lock.specs.Passes.{PassState, pass_of, view_of, dealt}

module _ {R : Type 0} where
  -- it has n numbers left, from k on
  abbrev pub dealer : List R → ℕ → ℕ → ℕ → View R
  dealer chronicle floor k n = record { sight = whole_sight chronicle [] floor; other = whole_sight chronicle [] floor; owned = unused k n; looks = []; peak = floor; stage = outside; ticket = 0 }

  -- the pass with the number k
  abbrev pub fresh_pass : TableId → List R → ℕ → ℕ → PassState R
  fresh_pass lock chronicle floor k = pass_of lock (dealer chronicle floor k 1)

  dealt-snoc : (lock : TableId) (chronicle : List R) (floor k n : ℕ) → dealt lock chronicle floor k (n + 1) ≡ dealt lock chronicle floor k n ++ fresh_pass lock chronicle floor (k + n) ∷ []
  dealt-snoc lock chronicle floor k zero = ap (λ (m : ℕ). fresh_pass lock chronicle floor m ∷ []) (omega arith)
  dealt-snoc lock chronicle floor k (suc n) = let one : suc n + 1 ≡ suc (n + 1) = omega arith in let at : suc k + n ≡ k + suc n = omega arith in
      ap (dealt lock chronicle floor k) one ∙ (ap (λ (l : List (PassState R)). fresh_pass lock chronicle floor k ∷ l) (dealt-snoc lock chronicle floor (suc k) n)
      ∙ ap (λ (m : ℕ). fresh_pass lock chronicle floor k ∷ dealt lock chronicle floor (suc k) n ++ fresh_pass lock chronicle floor m ∷ []) at)

  pub left_view-dealer : (chronicle : List R) (floor k n : ℕ) → left_view (dealer chronicle floor k (suc n)) ≡ dealer chronicle floor (k + 1) n
  left_view-dealer chronicle floor k n = ap (λ (m : ℕ). dealer chronicle floor m n) (omega arith)

  pub dealt_more : (lock : TableId) (chronicle : List R) (floor k : ℕ) (items items' : List (PassState R)) (p : PassState R) → items ≡ dealt lock chronicle floor 0 k → items' ≡ items ++ p ∷ [] → p ≡ fresh_pass lock chronicle floor k
      → items' ≡ dealt lock chronicle floor 0 (k + 1)
  dealt_more lock chronicle floor k items items' p a b c = let zero_k : 0 + k ≡ k = omega arith in
      b ∙ ((λ i. a i ++ c i ∷ []) ∙ (ap (λ (m : ℕ). dealt lock chronicle floor 0 k ++ fresh_pass lock chronicle floor m ∷ []) (sym zero_k) ∙ sym (dealt-snoc lock chronicle floor 0 k)))

  pub is_fresh : (lock lock' : TableId) (chronicle : List R) (floor k : ℕ) (views : List (View R)) → lock' ≡ lock → views ≡ dealer chronicle floor k 1 ∷ [] → pass_of lock' (view_of views) ≡ fresh_pass lock chronicle floor k
  is_fresh lock lock' chronicle floor k views a b = λ i. pass_of (a i) (view_of (b i))

  pub all_dealt : (lock : TableId) (chronicle : List R) (floor k n : ℕ) → All (λ (p : PassState R). p.lock ≡ lock) (dealt lock chronicle floor k n)
  all_dealt lock chronicle floor k zero i d l = absurd (omega arith)
  all_dealt lock chronicle floor k (suc n) zero d l = refl
  all_dealt lock chronicle floor k (suc n) (suc i) d l = all_dealt lock chronicle floor (suc k) n i d (omega arith)
