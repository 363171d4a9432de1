-- What is asked is spent in order.
use Rattle.std.proofs.Common.{◌≡◌, List, [], ◌∷◌, ◌++◌, refl, sym, ◌∙◌, ap, subst}
use Rattle.std.proofs.lemmas.List.{append-nil, append_assoc}
use Rattle.cache_model.specs.declared.record.Rec.{Rec}
use Rattle.cache_model.specs.State.{State, after_all}
use Rattle.cache_model.specs.Kept.{Kept, state_of, with_records}
use Rattle.cache_model.specs.Permit.{Done, End, Intent, Permit}
use Rattle.cache_model.specs.Legal.{Does, IsQuiet}
use Rattle.cache_model.proofs.Steps.{after_all-append, grows_by, grows_on}
use Rattle.piece_answers.specs.Covers.{SpendsFirst}
use Rattle.stripe_write.specs.Closing.{SpendsAll}

-- one group of records
pub one_group : (p : Permit) (s : State) (i : Intent) (added : List Rec) (e : End) → Does p s i added e → SpendsFirst p s i added e
one_group p s i added e d = λ rest why. grows_by p s (record { intents = i ∷ rest; refused = why }) _ added (e, d, refl)

-- the first is done, and then the others
pub then_all : (p : Permit) (s : State) (i : Intent) (is : List Intent) (a b : List Rec) (e : End) → SpendsFirst p s i a Done → SpendsAll p (after_all s a) is b e → SpendsAll p s (i ∷ is) (a ++ b) e
then_all p s i is a b e first others = λ rest why. grows_on (first (is ++ rest) why) (others rest why)

-- the last is done
pub last_done : (p : Permit) (s : State) (i : Intent) (a : List Rec) → SpendsFirst p s i a Done → SpendsAll p s (i ∷ []) a Done
last_done p s i a h = λ rest why. h rest why

-- ---- records that are kept

pub nothing_more : (k : Kept) → with_records k [] ≡ k
nothing_more k = ap (λ recs. let x : Kept = record { told = k.told; base = k.base; since = recs } in x) (append-nil k.since)

-- one behind the other
pub then_more : (old mid new : Kept) (a b : List Rec) → mid ≡ with_records old a → new ≡ with_records mid b → new ≡ with_records old (a ++ b)
then_more old mid new a b first last = last ∙ (ap (λ k. with_records k b) first ∙ ap (λ recs. let k : Kept = record { told = old.told; base = old.base; since = recs } in k) (append_assoc old.since a b))

pub state_behind : (kept new : Kept) (recs : List Rec) → new ≡ with_records kept recs → state_of new ≡ after_all (state_of kept) recs
state_behind kept new recs is = ap state_of is ∙ after_all-append kept.base kept.since recs

-- records behind which no vector waits
pub quiet_behind : (kept new : Kept) (recs : List Rec) → new ≡ with_records kept recs → IsQuiet (after_all (state_of kept) recs)
    → IsQuiet (state_of new)
quiet_behind kept new recs is quiet = subst IsQuiet (sym (state_behind kept new recs is)) quiet
