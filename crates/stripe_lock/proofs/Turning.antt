-- What the parts of a turn tell of the whole.
use Rattle.std.proofs.Common.{◌≡◌, ℕ, ◌%◌, ◌<◌, ◌≤◌, max, List, [], ◌∷◌, length, sym, refl, ap, ◌∙◌, subst, arith}
use mathlib.Core.List.{IsPrefix}
use mathlib.Core.Option.{none}
use Rattle.atomic_table.specs.Table.{Me, step}
use Rattle.atomic_table.specs.Seated.{TableId}
use Rattle.stripe_lock.specs.declared.kept.KeptState.{Ghosts}
use Rattle.stripe_lock.specs.declared.view.StripeTurn.{StripeTurn}
use Rattle.stripe_lock.specs.declared.view.PassTurns.{PassTurns}
use Rattle.stripe_lock.specs.declared.view.View.{View}
use Rattle.stripe_lock.specs.History.{HasJust, with_places, longer, first_number, first_places}
use Rattle.stripe_lock.specs.Rule.{floor_word, outside, called, holding, weight}
use Rattle.stripe_lock.specs.Steps.{at_stage, with_sight, whole_sight, joined_view, took, settled}
use Rattle.stripe_lock.specs.Passes.{pass_of, PassRests, IsPassResting}
use Rattle.stripe_lock.specs.Turns.{Turned, Joins}
use Rattle.stripe_lock.specs.Working.{published, InHand, Works}
use Rattle.stripe_lock.proofs.Histories.{just_both, some_more, length-noted, just_noted, first_number-noted, first_places-noted}

module _ {T R : Type 0} (k : Ghosts T R) where
  -- the view with the state x in hand
  abbrev holder : View R → T → ℕ → View R
  holder v x ticket = let floor = k.floor_of (k.chronicle x) (k.turns x) in record v { sight = whole_sight (k.chronicle x) (k.turns x) floor; peak = max v.peak floor; stage = holding; ticket = ticket }

  pub in_hand : (v u : View R) (ticket : ℕ) (m : Me T (View R)) → u ≡ record v { stage = called; ticket = ticket } → took k (step 0 0 0 0 none) (u, []) 0 m → (x : T) × InHand k v m x
  in_hand v u ticket m u_is t = let x = t.0 in let view : m.0 ≡ holder v x ticket = t.2 ∙ ap (λ (z : View R). at_stage holding (with_sight (whole_sight (k.chronicle x) (k.turns x) (k.floor_of (k.chronicle x) (k.turns x))) z)) u_is in (
    x,
    record {
      carried = t.1;
      view = view ∙ ap (holder v x) (sym (ap (λ (z : View R). z.ticket) view));
      chronicle = t.3 ∙ ap (λ (z : View R). z.sight.chronicle) u_is;
      seen = subst (λ (z : View R). IsPrefix z.sight.seen (k.turns x)) u_is t.4;
      told = subst (λ (z : View R). IsPrefix z.sight.told (k.turns x)) u_is t.5;
      higher = subst (λ (z : View R). z.sight.floor ≤ k.floor_of (k.chronicle x) (k.turns x)) u_is t.6;
      known = subst (λ (z : View R). HasJust (k.turns x) z.owned) u_is t.7;
      sound = t.8;
    },
  )

  -- a pass that took in another and looked at the floor
  module _ (slots n : ℕ) (v w : View R) (carried : List (ℕ × T)) (m : Me T (View R)) where
    pub joined : (l l' l'' : TableId) → l'' ≡ l → HasJust v.sight.seen v.owned → HasJust w.sight.seen w.owned → settled k (step slots floor_word 0 0 none) (joined_view v w, carried) n m
        → Joins k (pass_of l v) (pass_of l' w) (pass_of l'' m.0)
    joined l l' l'' same mine theirs h = subst (λ (z : TableId × Me T (View R)). Joins k (pass_of l v) (pass_of l' w) (pass_of z.0 z.1.0)) (λ i. (sym same i, sym h.1 i)) record {
      same = refl;
      looked = refl;
      chronicle = h.3;
      seen = (h.4, h.5);
      known = just_both v.sight.seen w.sight.seen (longer v.sight.seen w.sight.seen) h.10.0 v.owned w.owned h.4 h.5 h.10.1 mine theirs h.10.2;
      told = (h.6, h.7);
      floor_is = h.2;
      higher = (h.8, h.9);
    }

    pub joined_rests : (views : List (View R)) → views ≡ m.0 ∷ [] → v.stage ≡ outside → 0 < weight v → HasJust m.0.sight.seen m.0.owned → settled k (step slots floor_word 0 0 none) (joined_view v w, carried) n m
        → IsPassResting views
    joined_rests views one idle some_weight known h = subst IsPassResting (sym one) record {
      one = refl;
      idle = ap (λ (z : Me T (View R)). z.0.stage) h.1 ∙ idle;
      some_weight = subst (λ (z : Me T (View R)). 0 < weight z.0) (sym h.1) (some_more v.owned w.owned some_weight);
      known = known;
    }

  module _ {A : Type 0} (job : ℕ) (fits : List R → List (StripeTurn R) → StripeTurn R → A → Type 0) (number : ℕ) (v : View R) (m m' : Me T (View R)) (x y : T) (answer : A) (count floor : ℕ) where
    pub turned : (w : View R) (l l' : TableId) → InHand k v m x → w ≡ at_stage outside (published (k.turns y) floor m.0) → l' ≡ l → number ≡ first_number v.owned → 0 < weight v → Works k job fits number x y answer count floor
        → Turned k job fits (pass_of l v) (pass_of l' w) answer count
    turned w l l' h now same own some_weight d = let seen : w.sight.seen ≡ k.turns y = ap (λ (z : View R). z.sight.seen) now in let told : w.sight.told ≡ k.turns y = ap (λ (z : View R). z.sight.told) now in
        let chronicle : w.sight.chronicle ≡ v.sight.chronicle = ap (λ (z : View R). z.sight.chronicle) now ∙ (ap (λ (z : View R). z.sight.chronicle) h.view ∙ h.chronicle) in
        let owned : w.owned ≡ with_places (k.turns y) v.owned = ap (λ (z : View R). z.owned) now ∙ ap (λ (z : View R). with_places (k.turns y) z.owned) h.view in
        let low : w.sight.floor ≡ floor = ap (λ (z : View R). z.sight.floor) now in let up = d.higher in let from = h.higher in let is = d.floor_is in
        let kept : k.chronicle y ≡ w.sight.chronicle = d.chronicle ∙ (h.chronicle ∙ sym chronicle) in record {
          lock = same;
          chronicle = chronicle;
          before = k.turns x;
          later = h.seen;
          known = h.known;
          turn = record {
            turn = d.turn.turn;
            added = seen ∙ d.turn.added;
            worker_is = d.turn.worker_is ∙ own;
            job_is = d.turn.job_is;
            turn_fits = subst (λ (c : List R). fits c (k.turns x) d.turn.turn answer) h.chronicle d.turn.turn_fits;
          };
          legal = subst (λ (z : List R × List (StripeTurn R)). k.is_legal z.0 z.1) (λ i. (kept i, sym seen i)) d.legal;
          counted = d.counted ∙ ap length (sym seen);
          owned = owned ∙ ap (λ (z : List (StripeTurn R)). with_places z v.owned) (sym seen);
          mine = ap first_places (owned ∙ ap (λ (z : List (StripeTurn R)). with_places z v.owned) d.turn.added) ∙ first_places-noted (k.turns x) d.turn.turn v.owned some_weight (d.turn.worker_is ∙ own) h.known;
          looks = ap (λ (z : View R). z.looks) now ∙ ap (λ (z : View R). z.looks) h.view;
          told = told ∙ sym seen;
          higher = (h.told, omega arith);
          floor = low ∙ (d.floor_is ∙ (λ i. k.floor_of (kept i) (sym told i)));
        }

    pub rests : (w : View R) → InHand k v m x → w ≡ at_stage outside (published (k.turns y) floor m.0) → number ≡ first_number v.owned → 0 < weight v → PassRests number (weight v % 4294967296) (w ∷ [])
    rests w h now own some_weight = let owned : w.owned ≡ with_places (k.turns y) v.owned = ap (λ (z : View R). z.owned) now ∙ ap (λ (z : View R). with_places (k.turns y) z.owned) h.view in
        let seen : w.sight.seen ≡ k.turns y = ap (λ (z : View R). z.sight.seen) now in
        let heavy : length v.owned ≡ length w.owned = sym (length-noted (k.turns y) v.owned) ∙ ap length (sym owned) in record {
          one = refl;
          idle = ap (λ (z : View R). z.stage) now;
          number_is = own ∙ (sym (first_number-noted (k.turns y) v.owned) ∙ ap first_number (sym owned));
          weight_is = ap (λ (n : ℕ). n % 4294967296) heavy;
          some_weight = subst (λ (n : ℕ). 0 < n) heavy some_weight;
          known = subst (λ (z : List (StripeTurn R) × List PassTurns). HasJust z.0 z.1) (λ i. (sym seen i, sym owned i)) (just_noted (k.turns y) v.owned);
        }
