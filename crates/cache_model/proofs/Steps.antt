-- A step, read from its first group on.
use Rattle.std.proofs.Common.{◌≡◌, List, [], ◌∷◌, ◌++◌, refl, sym, ◌∙◌, ap, subst, inl, inr, ◌⊎◌, append_assoc, append-nil}
use Rattle.std.specs.Prelude.{Option, Some, None}
use Rattle.std.specs.List.{AllByRecursion}
use Rattle.std.proofs.lemmas.List.Sums.{fold-append}
use Rattle.cache_model.specs.declared.record.Rec.{Rec}
use Rattle.cache_model.specs.State.{State, AllAlong, state_after, after_all}
use Rattle.cache_model.specs.Permit.{Permit, Work, Intent, End, Stays, Done, Fails, Reason, work_after}
use Rattle.cache_model.specs.Legal.{Does, Advances, MayGrow, nothing, more}

-- ---- lists

-- what holds of each element of two lists together holds of each element of either, and the other way round
pub all_parts : {X : Type 0} (P : X → Type 0) (xs ys : List X) → AllByRecursion P (xs ++ ys) → AllByRecursion P xs × AllByRecursion P ys
all_parts P [] ys h = (tt, h)
all_parts P (x ∷ xs) ys h = let rest = all_parts P xs ys h.1 in ((h.0, rest.0), rest.1)

pub all_append : {X : Type 0} (P : X → Type 0) (xs ys : List X) → AllByRecursion P xs → AllByRecursion P ys → AllByRecursion P (xs ++ ys)
all_append P [] ys front back = back
all_append P (x ∷ xs) ys front back = (front.0, all_append P xs ys front.1 back)

-- what holds of each element holds of it as another
pub all_as : {X : Type 0} (P Q : X → Type 0) → ((x : X) → P x → Q x) → (xs : List X) → AllByRecursion P xs → AllByRecursion Q xs
all_as P Q f [] each = tt
all_as P Q f (x ∷ xs) each = (f x each.0, all_as P Q f xs each.1)

-- ---- steps

pub after_all-append : (s : State) (a b : List Rec) → after_all s (a ++ b) ≡ after_all (after_all s a) b
after_all-append s a b = fold-append state_after s a b

-- a step goes on
pub grows_on : {p : Permit} {s : State} {w between after : Work} {a b : List Rec} → MayGrow p s w a between → MayGrow p (after_all s a) between b after → MayGrow p s w (a ++ b) after
grows_on nothing h = h
grows_on {p} {s} {w} {between = last} {after = after} {b = b} (more {rest = rest} added mid one others) h =
    subst (λ rs. MayGrow p s w rs after) (sym (append_assoc added rest b)) (more added mid one (grows_on others (subst (λ t. MayGrow p t last b after) (after_all-append s added rest) h)))

-- one group
pub grows_by : (p : Permit) (s : State) (w after : Work) (added : List Rec) → Advances p s w.intents w.refused added after → MayGrow p s w added after
grows_by p s w after added h = subst (λ rs. MayGrow p s w rs after) (append-nil added) (more added after h nothing)

-- ---- backward

-- a first group, and the others
pub record Goes (p : Permit) (s : State) (w : Work) (recs : List Rec) (after : Work) : Type 0 where
  pub added : List Rec
  pub rest : List Rec
  pub between : Work
  pub is : recs ≡ added ++ rest
  pub first : Advances p s w.intents w.refused added between
  pub behind : MayGrow p (after_all s added) between rest after

pub seen : {p : Permit} {s : State} {w after : Work} {recs : List Rec} → MayGrow p s w recs after → ((recs ≡ []) × (w ≡ after)) ⊎ Goes p s w recs after
seen nothing = inl (refl, refl)
seen (more {rest = tail} added between one others) = inr (record { added = added; rest = tail; between = between; is = refl; first = one; behind = others })

clash : {A B : Type 0} {x : A} {xs : List A} → [] ≡ x ∷ xs → B
clash h = cc

pub record First (p : Permit) (s : State) (i : Intent) (is : List Intent) (why : Option Reason) (recs : List Rec) (after : Option Reason) : Type 0 where
  pub added : List Rec
  pub rest : List Rec
  pub end : End
  pub split : recs ≡ added ++ rest
  pub does : Does p s i added end
  pub behind : MayGrow p (after_all s added) (work_after i is why end) rest (record { intents = []; refused = after })

-- where something is asked, a group for it comes first
pub first_of : (p : Permit) (s : State) (i : Intent) (is : List Intent) (why after : Option Reason) (recs : List Rec)
    → MayGrow p s (record { intents = i ∷ is; refused = why }) recs (record { intents = []; refused = after }) → First p s i is why recs after
first_of p s i is why after recs h = elim (seen h) [
  | inl e ↦ clash (sym (ap (λ (w : Work). w.intents) e.1))
  | inr v ↦ record { added = v.added; rest = v.rest; end = v.first.0; split = v.is; does = v.first.1; behind = subst (λ w. MayGrow p (after_all s v.added) w v.rest (record { intents = []; refused = after })) v.first.2 v.behind }
]

-- where nothing is asked, nothing comes
pub none_left : (p : Permit) (s : State) (why : Option Reason) (recs : List Rec) (after : Work) → MayGrow p s (record { intents = []; refused = why }) recs after
    → (recs ≡ []) × (why ≡ after.refused)
none_left p s why recs after h = elim (seen h) [ inl e ↦ (e.0, ap (λ (w : Work). w.refused) e.1) | inr v ↦ absurd v.first ]

-- where one thing is left and its group does not leave it, nothing follows
rest_of : (p : Permit) (s : State) (i : Intent) (e : End) (rest : List Rec) (after : Work) → (e ≡ Stays → ⊥) → MayGrow p s (work_after i [] None e) rest after → rest ≡ []
rest_of p s i Stays rest after n h = absurd (n refl)
rest_of p s i Done rest after n h = (none_left p s None rest after h).0
rest_of p s i (Fails why) rest after n h = (none_left p s (Some why) rest after h).0

-- its group is all that the step added
pub alone : (p : Permit) (s : State) (i : Intent) (recs : List Rec) (why : Option Reason) → ((added : List Rec) (e : End) → Does p s i added e → e ≡ Stays → ⊥)
    → MayGrow p s (record { intents = i ∷ []; refused = None }) recs (record { intents = []; refused = why }) → (e : End) × Does p s i recs e
alone p s i recs why n h =
    let f : First p s i [] None recs why = first_of p s i [] None why recs h in
    let q : f.rest ≡ [] = rest_of p (after_all s f.added) i f.end f.rest _ (n f.added f.end f.does) f.behind in
    let r : recs ≡ f.added = f.split ∙ (ap (λ xs. f.added ++ xs) q ∙ append-nil f.added) in
    (f.end, subst (λ xs. Does p s i xs f.end) (sym r) f.does)

-- what holds of each record of two lists along the way holds of both together
pub along_append : (Holds : State → Rec → Type 0) (s : State) (a b : List Rec) → AllAlong Holds s a → AllAlong Holds (after_all s a) b → AllAlong Holds s (a ++ b)
along_append Holds s [] b h k = k
along_append Holds s (r ∷ a) b h k = (h.0, along_append Holds (state_after s r) a b h.1 k)
