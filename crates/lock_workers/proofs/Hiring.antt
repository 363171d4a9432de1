-- Passes are dealt to workers, and each worker goes through its jobs.
use Rattle.std.proofs.Common.{◌≡◌, ℕ, zero, suc, ◌+◌, ◌-◌, ◌<◌, Bool, false, List, [], ◌∷◌, ◌++◌, length, map, take, drop, get_or, slice_index_or, All, sym, refl, ap, ◌∙◌, subst, arith}
use Rattle.std.specs.List.{remove}
use Rattle.std.proofs.lemmas.List.{take_more, drop-drop, get_or-drop}
use Rattle.std.proofs.Math.ListN.{get_or-map}
use Rattle.std.proofs.Math.Seq.{take-append_seam}
use Rattle.atomic_table.specs.Seated.{TableId}
use Rattle.stripe_lock.specs.declared.view.StripeTurn.{StripeTurn}
use Rattle.stripe_lock.specs.History.{first_number, places_of}
use Rattle.stripe_lock.specs.Passes.{PassState, dealt}
use Rattle.lock_workers.specs.declared.worker.Worker.{Worker}
use Rattle.lock_workers.specs.Jobs.{AreJobsUnder, DidFront, HasDone}
use Rattle.lock_workers.proofs.Joining.{knows_one}
use Rattle.lock_workers.specs.Workers.{IsHired, AreHired, MayBegin, Works, AllWork, IsThrough, AreThrough, Gathers, jobs_of}

module _ {X : Type 0} where
  -- the first is taken out
  pub without_first : (x : X) (xs ys : List X) → ys ≡ x ∷ xs → remove ys 0 ≡ xs
  without_first x xs ys e = ap (λ (l : List X). remove l 0) e

  pub first_of : (x d : X) (xs ys : List X) → ys ≡ x ∷ xs → d ≡ slice_index_or ys 0 d → d ≡ x
  first_of x d xs ys e is = is ∙ ap (λ (l : List X). slice_index_or l 0 d) e

module _ {X : Type 0} where
  -- the first of those that are left is taken out
  pub removed_drop : (i : ℕ) (xs ys : List X) → ys ≡ drop i xs → remove ys 0 ≡ drop (i + 1) xs
  removed_drop i xs ys e = ap (drop 1) e ∙ drop-drop 1 i xs

  -- the next one, as a part of it stands in the list of these parts
  pub next_part : {Y : Type 0} (f : X → Y) (i : ℕ) (xs ys : List X) (x : X) → ys ≡ drop i xs → x ≡ slice_index_or ys 0 x → f x ≡ get_or (map f xs) i (f x)
  next_part f i xs ys x e is =
      let here : i + 0 ≡ i = omega arith in
      ap f (is ∙ ap (λ (l : List X). get_or l 0 x) e ∙ get_or-drop i xs 0 x ∙ ap (λ (n : ℕ). get_or xs n x) here) ∙ sym (get_or-map f xs i x)

  -- what holds of each still does
  pub all_removed : (P : X → Type 0) (xs : List X) → All P xs → All P (remove xs 0)
  all_removed P [] all k d l = absurd (omega arith)
  all_removed P (x ∷ xs) all k d l = all (suc k) d (omega arith)

  -- what is written through a slice of all
  pub through_slice : (n : ℕ) (news olds : List X) → n ≡ length news → take n (news ++ drop (length news) olds) ≡ news
  through_slice n news olds e = ap (λ (m : ℕ). take m (news ++ drop (length news) olds)) e ∙ take-append_seam news (drop (length news) olds)

pub dealt_length : {R : Type 0} (lock : TableId) (chronicle : List R) (floor k n : ℕ) → length (dealt lock chronicle floor k n) ≡ n
dealt_length lock chronicle floor k zero = refl
dealt_length lock chronicle floor k (suc n) = ap suc (dealt_length lock chronicle floor (suc k) n)

module _ {R J : Type 0} (lock : TableId) (chronicle : List R) where
  -- the jobs of workers that were hired for them
  pub hired_jobs : (n : ℕ) (ws : List (Worker R J)) (jobs : List (List J)) → AreHired lock chronicle n ws jobs → jobs_of ws ≡ jobs
  hired_jobs n [] [] all = refl
  hired_jobs n [] (js ∷ jobs) all = absurd all
  hired_jobs n (w ∷ ws) [] all = absurd all
  hired_jobs n (w ∷ ws) (js ∷ jobs) all = (λ i. all.0.jobs_are i ∷ hired_jobs (suc n) ws jobs all.1 i)

  pub hired_length : (n : ℕ) (ws : List (Worker R J)) (jobs : List (List J)) → AreHired lock chronicle n ws jobs → length ws ≡ length jobs
  hired_length n [] [] all = refl
  hired_length n [] (js ∷ jobs) all = absurd all
  hired_length n (w ∷ ws) [] all = absurd all
  hired_length n (w ∷ ws) (js ∷ jobs) all = ap suc (hired_length (suc n) ws jobs all.1)

  hired-snoc : (n m : ℕ) (ws : List (Worker R J)) (jobs : List (List J)) (w : Worker R J) (js : List J) → m ≡ n + length ws → AreHired lock chronicle n ws jobs → IsHired lock chronicle m js w
      → AreHired lock chronicle n (ws ++ w ∷ []) (jobs ++ js ∷ [])
  hired-snoc n m [] [] w js e all is = let same : m ≡ n = omega arith in (subst (λ (i : ℕ). IsHired lock chronicle i js w) same is, tt)
  hired-snoc n m [] (ks ∷ jobs) w js e all is = absurd all
  hired-snoc n m (v ∷ ws) [] w js e all is = absurd all
  hired-snoc n m (v ∷ ws) (ks ∷ jobs) w js e all is = (all.0, hired-snoc (suc n) m ws jobs w js (omega arith) all.1 is)

  module _ (floor n at : ℕ) (passes : List (PassState R)) (jobs : List (List J)) (workers : List (Worker R J)) (w : Worker R J) (below : at < n)
      (dealt_is : passes ≡ dealt lock chronicle floor at (n + 1 - at)) where
    abbrev fresh : PassState R
    fresh = record { lock = lock; chronicle = chronicle; seen = []; owned = record { number = at; places = [] } ∷ []; looks = []; told = []; floor = floor }

    next : passes ≡ fresh ∷ dealt lock chronicle floor (suc at) (n - at)
    next = let many : n + 1 - at ≡ suc (n - at) = omega arith in dealt_is ∙ ap (λ (m : ℕ). dealt lock chronicle floor at m) many

    pub passes_left : remove passes 0 ≡ dealt lock chronicle floor (at + 1) (n + 1 - (at + 1))
    passes_left = let one : suc at ≡ at + 1 = omega arith in let many : n - at ≡ n + 1 - (at + 1) = omega arith in
        without_first fresh _ passes next ∙ ap (λ (m : ℕ). dealt lock chronicle floor m (n - at)) one ∙ ap (λ (m : ℕ). dealt lock chronicle floor (at + 1) m) many

    pub hired_more : at < length jobs → w.pass ≡ slice_index_or passes 0 w.pass → w.jobs.items ≡ get_or jobs at w.jobs.items → length workers ≡ at → AreHired lock chronicle 0 workers (take at jobs)
        → AreHired lock chronicle 0 (workers ++ w ∷ []) (take (at + 1) jobs)
    hired_more within pass_is jobs_is counted all =
        let is : w.pass ≡ fresh = first_of fresh w.pass _ passes next pass_is in
        let hired : IsHired lock chronicle at (w.jobs.items) w = record {
          lock_is = ap (λ (p : PassState R). p.lock) is;
          chronicle_is = ap (λ (p : PassState R). p.chronicle) is;
          seen = ap (λ (p : PassState R). p.seen) is;
          owned = ap (λ (p : PassState R). p.owned) is;
          jobs_are = refl;
        } in
        subst (λ (l : List (List J)). AreHired lock chronicle 0 (workers ++ w ∷ []) l) (sym (take_more jobs at w.jobs.items within ∙ ap (λ (js : List J). take at jobs ++ js ∷ []) (sym jobs_is)))
        (hired-snoc 0 at workers (take at jobs) w w.jobs.items (omega arith) all hired)

module _ {J R A : Type 0} (number : J → ℕ) (fits : J → J → List R → List (StripeTurn R) → StripeTurn R → A → Type 0) where
  -- a pass that has made no turn and seen none has done no job
  pub fresh_done : (n : ℕ) (p : PassState R) → p.seen ≡ [] → p.owned ≡ record { number = n; places = [] } ∷ [] → HasDone number fits n [] p
  fresh_done n p seen owned = record {
    places = [];
    owned = owned;
    known = ap (places_of n) (sym seen);
    jobs_are = subst (λ (l : List (StripeTurn R)). AreJobsUnder number fits p.chronicle l n []) (sym seen) tt;
  }

  pub may_begin : (lock : TableId) (chronicle : List R) (n : ℕ) (ws : List (Worker R J)) (jobs : List (List J)) → AreHired lock chronicle n ws jobs
      → (i : ℕ) (d : Worker R J) → i < length ws → MayBegin number fits lock (slice_index_or ws i d)
  may_begin lock chronicle n [] jobs all i d l = absurd (omega arith)
  may_begin lock chronicle n (w ∷ ws) [] all i d l = absurd all
  may_begin lock chronicle n (w ∷ ws) (js ∷ jobs) all zero d l =
      record {
        lock_is = all.0.lock_is;
        fresh = fresh_done (first_number w.pass.owned) w.pass all.0.seen (all.0.owned ∙ ap (λ (m : ℕ). record { number = m; places = [] } ∷ []) (sym (ap first_number all.0.owned)));
      }
  may_begin lock chronicle n (w ∷ ws) (js ∷ jobs) all (suc i) d l = may_begin lock chronicle (suc n) ws jobs all.1 i d (omega arith)

  through_one : (lock : TableId) (chronicle : List R) (n : ℕ) (js : List J) (old new : Worker R J) → IsHired lock chronicle n js old → Works number fits lock old new → IsThrough number fits lock chronicle n js new
  through_one lock chronicle n js old new h w = record {
    lock_is = w.lock_is;
    chronicle_is = w.chronicle_is ∙ h.chronicle_is;
    did = subst (λ (l : List J). DidFront number fits n l new.pass new.short) h.jobs_are
        (subst (λ (m : ℕ). DidFront number fits m old.jobs.items new.pass new.short) (ap first_number h.owned) w.did);
  }

  pub all_through : (lock : TableId) (chronicle : List R) (n : ℕ) (olds news : List (Worker R J)) (jobs : List (List J)) → length news ≡ length olds → AreHired lock chronicle n olds jobs → AllWork number fits lock olds news
      → AreThrough number fits lock chronicle n news jobs
  all_through lock chronicle n [] [] [] e h all = tt
  all_through lock chronicle n [] [] (js ∷ jobs) e h all = absurd h
  all_through lock chronicle n [] (w ∷ news) jobs e h all = absurd (omega arith)
  all_through lock chronicle n (v ∷ olds) [] jobs e h all = absurd (omega arith)
  all_through lock chronicle n (v ∷ olds) (w ∷ news) [] e h all = absurd h
  all_through lock chronicle n (v ∷ olds) (w ∷ news) (js ∷ jobs) e h all =
      (through_one lock chronicle n js v w h.0 (all 0 w (omega arith)), all_through lock chronicle (suc n) olds news jobs (omega arith) h.1 (λ i d l. all (suc i) d (omega arith)))

  -- none of them is taken in yet
  pub gathers_none : (lock : TableId) (own : ℕ) (jobs : List (List J)) (pass : PassState R) (workers : List (Worker R J)) → pass.lock ≡ lock → pass.seen ≡ [] → pass.owned ≡ record { number = own; places = [] } ∷ []
      → AreThrough number fits lock pass.chronicle 0 workers jobs → Gathers number fits lock pass.chronicle own jobs pass workers false
  gathers_none lock own jobs pass workers is seen owned through = record {
    lock_is = is;
    chronicle_is = refl;
    before = [];
    after = jobs;
    split = refl;
    dones = [];
    fronts = tt;
    through = through;
    knows = knows_one number fits own [] pass (fresh_done own pass seen owned);
  }

  -- all of them are taken in
  pub all_gathered : (lock : TableId) (own : ℕ) (pass new : PassState R) (olds news written : List (Worker R J)) (short : Bool) → pass.lock ≡ lock → pass.seen ≡ [] → pass.owned ≡ record { number = own; places = [] } ∷ []
      → AreHired lock pass.chronicle 0 olds (jobs_of olds) → AllWork number fits lock olds news → length news ≡ length olds → written ≡ news
      → (Gathers number fits lock pass.chronicle own (jobs_of olds) pass written false → Gathers number fits lock pass.chronicle own (jobs_of olds) new [] short)
      → Gathers number fits lock pass.chronicle own (jobs_of olds) new [] short
  all_gathered lock own pass new olds news written short is seen owned hired work many written_is gathers =
      gathers (gathers_none lock own (jobs_of olds) pass written is seen owned
      (subst (λ (l : List (Worker R J)). AreThrough number fits lock pass.chronicle 0 l (jobs_of olds)) (sym written_is) (all_through lock pass.chronicle 0 olds news (jobs_of olds) many hired work)))
