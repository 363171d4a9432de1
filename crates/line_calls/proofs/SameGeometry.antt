-- No group of records begins a session: so whatever is done, the geometry stays, be the tape sound or not.
use Rattle.std.proofs.Common.{◌≡◌, List, [], ◌∷◌, ◌++◌, refl, ◌∙◌, ap, inl, inr, ◌⊎◌}
use Rattle.std.specs.Prelude.{Option}
use Rattle.std.specs.List.{AllByRecursion}
use Rattle.cache_model.specs.declared.record.Rec.{Rec}
use Rattle.cache_model.specs.declared.record.Rec.TheVariants as rec
use Rattle.cache_model.specs.State.{Row, State, after_all, state_after}
use Rattle.cache_model.specs.Due.{due_pieces}
use Rattle.cache_model.specs.Outcomes.{flush_tail, front_of}
use Rattle.cache_model.specs.Permit.{End, Intent, Permit, Reason, Work}
use Rattle.cache_model.specs.Legal.{Advances, MayGrow, more, nothing}
use Rattle.cache_model.specs.Syncing.{MaySyncBehind, Syncing}
use Rattle.cache_model.proofs.Aside.{AllAside, aside_leaves}
use Rattle.cache_model.proofs.Sound.{buffer_left}
use Rattle.cache_model.proofs.Steps.{after_all-append, all_append, all_as}
use Rattle.cache_model.proofs.Syncing.{LeavesSyncs, clean_aside, flush_among_syncs, front_leaves_syncs, sync_splits, tail_leaves_syncs, unmark_aside}
use Rattle.step_laws.proofs.Grouped.{Grouped, IsEnding, IsOfInsert, IsPlain, grouped}

-- ---- records

-- the record begins none
abbrev pub BeginsNone : Rec → Type 0
BeginsNone (rec.Formatted geometry) = ⊥
BeginsNone (rec.Opened geometry serial cursor floor next_put clean list) = ⊥
BeginsNone _ = Unit {0}

pub one_same : (s : State) (r : Rec) → BeginsNone r → (state_after s r).geometry ≡ s.geometry
one_same s (rec.Formatted geometry) h = absurd h
one_same s (rec.Opened geometry serial cursor floor next_put clean list) h = absurd h
one_same s _ h = refl

all_same : (s : State) (recs : List Rec) → AllByRecursion BeginsNone recs → (after_all s recs).geometry ≡ s.geometry
all_same s [] h = refl
all_same s (r ∷ recs) h = all_same (state_after s r) recs h.1 ∙ one_same s r h.0

of_no_sync : (r : Rec) → LeavesSyncs r → BeginsNone r
of_no_sync (rec.Formatted geometry) h = h
of_no_sync (rec.Opened geometry serial cursor floor next_put clean list) h = h
of_no_sync _ h = tt

of_plain : (r : Rec) → IsPlain r → BeginsNone r
of_plain r h = of_no_sync r h.1

of_insert : (r : Rec) → IsOfInsert r → BeginsNone r
of_insert (rec.Formatted geometry) h = h
of_insert (rec.Opened geometry serial cursor floor next_put clean list) h = h
of_insert _ h = tt

of_ending : (r : Rec) → IsEnding r → BeginsNone r
of_ending (rec.Formatted geometry) h = h
of_ending (rec.Opened geometry serial cursor floor next_put clean list) h = h
of_ending _ h = tt

-- ---- groups

aside_same : (s : State) (added : List Rec) → AllAside added → (after_all s added).geometry ≡ s.geometry
aside_same s added h = (buffer_left s added (aside_leaves added h)).0

split_same : (p : Permit) (k : Syncing) (s : State) (added : List Rec) → MaySyncBehind p k s added ⊎ AllAside added → (after_all s added).geometry ≡ s.geometry
split_same p k s added (inr h) = aside_same s added h
split_same p k s added (inl m) =
    let rows : List Row = due_pieces s p.now in
    let front : List Rec = front_of rows m.outcomes in
    let tail : List Rec = flush_tail s rows m.outcomes in
    ap (λ (t : State). t.geometry) (flush_among_syncs p k s added m).1
    ∙ all_same s (front ++ tail) (all_as LeavesSyncs BeginsNone of_no_sync (front ++ tail)
    (all_append LeavesSyncs front tail (front_leaves_syncs rows m.outcomes) (tail_leaves_syncs s rows m.outcomes)))

by_kind : (p : Permit) (s : State) (i : Intent) (added : List Rec) (e : End) → Grouped p s i added e → (after_all s added).geometry ≡ s.geometry
by_kind p s i added e (Grouped.plain h) = all_same s added (all_as IsPlain BeginsNone of_plain added h)
by_kind p s i added e (Grouped.inserts none h) = all_same s added (all_as IsOfInsert BeginsNone of_insert added h)
by_kind p s i added e (Grouped.flushes off h) = all_same s added (all_as LeavesSyncs BeginsNone of_no_sync added h)
by_kind p s i added e (Grouped.syncs f first some d) = split_same p _ s added (sync_splits p _ s added f d)
by_kind p s i added e (Grouped.ends on h why) = all_same s added (all_as IsEnding BeginsNone of_ending added h)
by_kind p s i added e (Grouped.cleans is d) = aside_same s added (clean_aside p s added e d)
by_kind p s i added e (Grouped.unmarks is d) = aside_same s added (unmark_aside p s added e d)

advanced_same : (p : Permit) (s : State) (is : List Intent) (why : Option Reason) (added : List Rec) (after : Work) → Advances p s is why added after
    → (after_all s added).geometry ≡ s.geometry
advanced_same p s [] why added after h = absurd h
advanced_same p s (i ∷ is) why added after h = by_kind p s i added h.0 (grouped p s i added h.0 h.1)

-- what was done of some work leaves the geometry
pub grown_same : {p : Permit} {s : State} {w after : Work} {added : List Rec} → MayGrow p s w added after → (after_all s added).geometry ≡ s.geometry
grown_same nothing = refl
grown_same {p} {s} {w} (more {rest = rest} added between one others) =
    ap (λ (t : State). t.geometry) (after_all-append s added rest) ∙ (grown_same others ∙ advanced_same p s w.intents w.refused added between one)
