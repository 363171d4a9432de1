-- What a call does not speak of stays.
use Rattle.std.proofs.Common.{◌≡◌, ℕ, ◌+◌, ◌*◌, List, ◌++◌, length, refl, sym, ◌∙◌, ap, subst, arith, Bool, true, false, ◌⊎◌, inl, inr}
use Rattle.std.specs.Prelude.{Option, Some, None, IfSome, ◌==◌, if◌then◌else◌, find, option_map, unwrap_or}
use Rattle.std.proofs.ByRecursion.{All-append}
use Rattle.std.proofs.lemmas.Bool.{eqb-true}
use Rattle.std.proofs.lemmas.List.{append_assoc, append_cancel_left}
use Rattle.tape_base.specs.Geometry.{budget_of}
use Rattle.cache_model.specs.declared.record.Rec.{Rec}
use Rattle.cache_model.specs.State.{PutRow, ReaderRow, State, put_of, reader_of}
use Rattle.cache_model.specs.Kept.{Kept, with_records}
use Rattle.cache_model.specs.Verdict.{is_open}
use Rattle.cache_model.specs.Legal.{is_writing}
use Rattle.call_laws.specs.Moments.{At}
use Rattle.call_laws.proofs.Joined.{state_behind}
use Rattle.cache_calls.specs.declared.calls.Calls.{Ghosts as CallsGhosts}
use Rattle.cache_calls.specs.Actors.{IsAtHand, IsWriterOf, WriterSeen}
use Rattle.cache_model.specs.Subjects.{IsOfPut, IsOfReader}
use Rattle.cache_calls.specs.Adds.{AddsAll, AddsOnly}
use Rattle.cache_calls.specs.Keeping.{Goes, IsAtRest, state_at}
use Rattle.cache_calls.specs.Others.{LeavesOtherReaders, LeavesOthers}
use Rattle.cache_calls.proofs.Others.{others_stay, readers_stay, reads_leave_others}
use Rattle.script_run.specs.Losses.{NoLossIsAFault}
use Rattle.script_run.proofs.Losses.{losses_stay}
use Rattle.script_run.specs.Run.{Run}
use Rattle.cache_replay.specs.declared.session.Part.{Part}
use Rattle.cache_replay.specs.Session.{ActorsAreApart, AreHeld, Differ, HoldingSeen, IsHeldByActor, IsPart, LeavesBut, ReaderHeld, WriterHeld, at_in, state_in_part}
use Rattle.cache_replay.specs.Plays.{IsHeldAs, IsStreamOf}

-- ---- what is there

pub some_is : {X : Type 0} (x y : X) → Some x ≡ Some y → x ≡ y
some_is x y e = cc

-- ---- what is added

-- records of one kind, and then others
pub adds_then : (P : Rec → Type 0) (a b c : At) → AddsOnly P a b → AddsOnly P b c → AddsOnly P a c
adds_then P a b c f l = record {
  added = f.added ++ l.added;
  adds = l.adds ∙ (ap (λ k. with_records k l.added) f.adds
      ∙ ap (λ recs. let k : Kept = record { told = a.kept.told; base = a.kept.base; since = recs } in k) (append_assoc a.kept.since f.added l.added));
  own = All-append P f.added l.added f.own l.own;
}

-- ---- what the calls of one actor leave

-- the calls of a put leave all others
pub leaves_but_put : (put : ℕ) (s t : State) → LeavesOthers put s t → (NoLossIsAFault s → NoLossIsAFault t) → LeavesBut (Some put) None s t
leaves_but_put put s t leaves losses = record {
  puts = λ q other. leaves.puts q (λ same. other (ap (λ (n : ℕ). Some n) (sym same)));
  readers = λ n other. ap (find (λ (x : ReaderRow). x.reader == n)) leaves.readers;
  geometry = leaves.geometry;
  losses = losses;
}

-- and those of a reader
pub leaves_but_reader : (reader : ℕ) (s t : State) → LeavesOtherReaders reader s t → (NoLossIsAFault s → NoLossIsAFault t) → LeavesBut None (Some reader) s t
leaves_but_reader reader s t leaves losses = record {
  puts = λ q other. ap (find (λ (x : PutRow). x.put == q)) leaves.puts;
  readers = λ n other. leaves.readers n (λ same. other (ap (λ (n : ℕ). Some n) (sym same)));
  geometry = leaves.geometry;
  losses = losses;
}

-- two calls that leave so much
pub leaves_then : (put reader : Option ℕ) (s t u : State) → LeavesBut put reader s t → LeavesBut put reader t u → LeavesBut put reader s u
leaves_then put reader s t u a b = record {
  puts = λ q h. b.puts q h ∙ a.puts q h;
  readers = λ n h. b.readers n h ∙ a.readers n h;
  geometry = b.geometry ∙ a.geometry;
  losses = λ none. b.losses (a.losses none);
}

-- whatever records are added, no piece is lost by a fault
pub losses_kept : (old new : At) (added : List Rec) → AddsAll added old new → NoLossIsAFault (state_at old) → NoLossIsAFault (state_at new)
losses_kept old new added adds none =
    subst NoLossIsAFault (sym (state_behind old.kept new.kept added adds)) (losses_stay (state_at old) added none)

-- the records that were added between two moments are these alone
pub same_added : (k l : Kept) (a b : List Rec) → l ≡ with_records k a → l ≡ with_records k b → a ≡ b
same_added k l a b first second = append_cancel_left k.since a b (ap (λ (j : Kept). j.since) (sym first ∙ second))

-- records of one put
pub put_leaves : (put : ℕ) (old new : At) → AddsOnly (IsOfPut put) old new → LeavesBut (Some put) None (state_at old) (state_at new)
put_leaves put old new h = leaves_but_put put (state_at old) (state_at new) (others_stay put old new h) (losses_kept old new h.added h.adds)

-- records of one reader
pub reader_leaves : (reader : ℕ) (old new : At) → AddsOnly (IsOfReader reader) old new → LeavesBut None (Some reader) (state_at old) (state_at new)
reader_leaves reader old new h = leaves_but_reader reader (state_at old) (state_at new) (reads_leave_others reader old new h) (losses_kept old new h.added h.adds)

-- records that are of any put leave all puts, and all readers
pub any_leaves : (old new : At) → ((put : ℕ) → AddsOnly (IsOfPut put) old new) → LeavesBut None None (state_at old) (state_at new)
any_leaves old new adds = record {
  puts = λ q other. (put_leaves (q + 1) old new (adds (q + 1))).puts q (λ same. next_is_other q (some_is (q + 1) q same));
  readers = λ n other. (put_leaves 0 old new (adds 0)).readers n (λ same. cc);
  geometry = (put_leaves 0 old new (adds 0)).geometry;
  losses = (put_leaves 0 old new (adds 0)).losses;
}
  where
    next_is_other : (q : ℕ) → q + 1 ≡ q → ⊥
    next_is_other q same = omega (arith, same)

-- where nothing was recorded all stays
pub leaves_all : (put reader : Option ℕ) (s t : State) → t ≡ s → LeavesBut put reader s t
leaves_all put reader s t same = record {
  puts = λ q other. ap (λ (u : State). put_of u q) same;
  readers = λ n other. ap (λ (u : State). reader_of u n) same;
  geometry = ap (λ (u : State). u.geometry) same;
  losses = λ h. subst NoLossIsAFault (sym same) h;
}

-- ---- one writer, one reader

pub writing_stays : (s t : State) (put : ℕ) → put_of t put ≡ put_of s put → is_writing t put ≡ is_writing s put
writing_stays s t put same = ap (λ p. unwrap_or (option_map is_open p) false) same

pub writer_stays : (s t : State) (w : WriterSeen) → put_of t w.put ≡ put_of s w.put → t.geometry ≡ s.geometry → IsWriterOf s w → IsWriterOf t w
writer_stays s t w same geometry own = λ row found o. subst (λ g. IsAtHand g row w) (sym geometry) (own row (sym same ∙ found) o)

-- ---- what an actor has

-- it is not the writer of that put, nor that reader
abbrev pub IsElse : Option ℕ → Option ℕ → HoldingSeen → Type 0
IsElse put reader (WriterHeld w) = put ≡ Some w.put → ⊥
IsElse put reader (ReaderHeld r) = reader ≡ Some r.reader → ⊥

pub held_stays : (put reader : Option ℕ) (s t : State) (h : HoldingSeen) → LeavesBut put reader s t → IsElse put reader h → IsHeldByActor s h → IsHeldByActor t h
held_stays put reader s t (WriterHeld w) leaves other own = record {
  writing = writing_stays s t w.put (leaves.puts w.put other) ∙ own.writing;
  writer = writer_stays s t w (leaves.puts w.put other) leaves.geometry own.writer;
}
held_stays put reader s t (ReaderHeld r) leaves other own = (readers_stay s t r (leaves.readers r.reader other)).0 own

-- of the streams only that of this put may be another
abbrev pub SameStreams : Option ℕ → Run → Run → Type 0
SameStreams put run new = (q : ℕ) → (put ≡ Some q → ⊥) → new.streams q ≡ run.streams q

pub held_as_stays : (put reader : Option ℕ) (run new : Run) (s t : State) (n : ℕ) (h : HoldingSeen) → LeavesBut put reader s t → SameStreams put run new → new.held n ≡ run.held n
    → IsElse put reader h → IsHeldAs run s n (Some h) → IsHeldAs new t n (Some h)
held_as_stays put reader run new s t n (WriterHeld w) leaves streams held other own =
    (held ∙ own.0, subst (λ stream. IsStreamOf stream w) (sym (streams w.put other)) own.1)
held_as_stays put reader run new s t n (ReaderHeld r) leaves streams held other own =
    (held ∙ own.0, (readers_stay s t r (leaves.readers r.reader other)).1 own.1)

-- ---- what all actors have

-- one actor has this, and the others what they had
abbrev pub Changed : (slots new : ℕ → Option HoldingSeen) → ℕ → Option HoldingSeen → Type 0
Changed slots new n x = (m : ℕ) → new m ≡ (if m == n then x else slots m)

-- no other actor has that writer or that reader
abbrev pub OthersElse : (ℕ → Option HoldingSeen) → ℕ → Option ℕ → Option ℕ → Type 0
OthersElse slots n put reader = (m : ℕ) (h : HoldingSeen) → (m == n) ≡ false → slots m ≡ Some h → IsElse put reader h

if_same : (P : HoldingSeen → Type 0) (a b : Option HoldingSeen) → a ≡ b → IfSome b P → IfSome a P
if_same P a b e p = subst (λ o. IfSome o P) (sym e) p

pub held_one : (s t : State) (o : Option HoldingSeen) → ((h : HoldingSeen) → o ≡ Some h → IsHeldByActor s h → IsHeldByActor t h) → IfSome o (IsHeldByActor s) → IfSome o (IsHeldByActor t)
held_one s t None f own = own
held_one s t (Some h) f own = f h refl own

held_at : (b : Bool) (s t : State) (x o : Option HoldingSeen) → (b ≡ false → (h : HoldingSeen) → o ≡ Some h → IsHeldByActor s h → IsHeldByActor t h) → IfSome x (IsHeldByActor t)
    → IfSome o (IsHeldByActor s) → IfSome (if b then x else o) (IsHeldByActor t)
held_at true s t x o f mine own = mine
held_at false s t x o f mine own = held_one s t o (f refl) own

-- what each has is open behind the call, if that of the one actor is
pub all_held : (put reader : Option ℕ) (s t : State) (slots new : ℕ → Option HoldingSeen) (n : ℕ) (x : Option HoldingSeen) → LeavesBut put reader s t → Changed slots new n x
    → OthersElse slots n put reader
    → AreHeld s slots → IfSome x (IsHeldByActor t) → AreHeld t new
all_held put reader s t slots new n x leaves changed others held mine = λ m.
    if_same (IsHeldByActor t) (new m) (if m == n then x else slots m) (changed m)
    (held_at (m == n) s t x (slots m) (λ no h is own. held_stays put reader s t h leaves (others m h no is) own) mine (held m))

as_at : (b : Bool) (run new : Run) (s t : State) (m : ℕ) (x o : Option HoldingSeen) → (b ≡ true → IsHeldAs new t m x) → (b ≡ false → IsHeldAs new t m o)
    → IsHeldAs new t m (if b then x else o)
as_at true run new s t m x o mine others = mine refl
as_at false run new s t m x o mine others = others refl

pub as_one : (run new : Run) (s t : State) (m : ℕ) (o : Option HoldingSeen) → new.held m ≡ run.held m
    → ((h : HoldingSeen) → o ≡ Some h → IsHeldAs run s m (Some h) → IsHeldAs new t m (Some h)) → IsHeldAs run s m o → IsHeldAs new t m o
as_one run new s t m None same f own = same ∙ own
as_one run new s t m (Some h) same f own = f h refl own

-- and each has what the run says behind the line, if that actor does
pub all_held_as : (put reader : Option ℕ) (run later : Run) (s t : State) (slots new : ℕ → Option HoldingSeen) (n : ℕ) (x : Option HoldingSeen) → LeavesBut put reader s t
    → SameStreams put run later
    → ((m : ℕ) → (m == n) ≡ false → later.held m ≡ run.held m) → Changed slots new n x → OthersElse slots n put reader → ((m : ℕ) → IsHeldAs run s m (slots m))
    → IsHeldAs later t n x
    → (m : ℕ) → IsHeldAs later t m (new m)
all_held_as put reader run later s t slots new n x leaves streams held changed others own mine = λ m.
    subst (IsHeldAs later t m) (sym (changed m))
    (as_at (m == n) run later s t m x (slots m) (λ yes. subst (λ k. IsHeldAs later t k x) (sym (eqb-true m n yes)) mine)
    (λ no. as_one run later s t m (slots m) (held m no) (λ h is own. held_as_stays put reader run later s t m h leaves streams (held m no) (others m h no is) own) (own m)))

-- ---- no two actors have the same

-- it is the writer of that put, or that reader
abbrev pub IsMine : Option ℕ → Option ℕ → HoldingSeen → Type 0
IsMine put reader (WriterHeld w) = put ≡ Some w.put
IsMine put reader (ReaderHeld r) = reader ≡ Some r.reader

differs : (put reader : Option ℕ) (a b : HoldingSeen) → IsMine put reader a → IsElse put reader b → Differ a b
differs put reader (WriterHeld w) (WriterHeld v) mine other = λ same. other (mine ∙ ap (λ (n : ℕ). Some n) same)
differs put reader (ReaderHeld r) (ReaderHeld q) mine other = λ same. other (mine ∙ ap (λ (n : ℕ). Some n) same)
differs put reader (WriterHeld w) (ReaderHeld r) mine other = tt
differs put reader (ReaderHeld r) (WriterHeld w) mine other = tt

swapped : (a b : HoldingSeen) → Differ a b → Differ b a
swapped (WriterHeld w) (WriterHeld v) d = λ same. d (sym same)
swapped (ReaderHeld r) (ReaderHeld q) d = λ same. d (sym same)
swapped (WriterHeld w) (ReaderHeld r) d = tt
swapped (ReaderHeld r) (WriterHeld w) d = tt

-- a number of its own, or that one
abbrev StandsAt : (slots : ℕ → Option HoldingSeen) → ℕ → ℕ → Option HoldingSeen → HoldingSeen → Type 0
StandsAt slots n m x a = ((m ≡ n) × (x ≡ Some a)) ⊎ (((m == n) ≡ false) × (slots m ≡ Some a))

at_by : (slots : ℕ → Option HoldingSeen) (n m : ℕ) (x : Option HoldingSeen) (a : HoldingSeen) (b : Bool) → (m == n) ≡ b → (if b then x else slots m) ≡ Some a
    → StandsAt slots n m x a
at_by slots n m x a true e is = inl (eqb-true m n e, is)
at_by slots n m x a false e is = inr (e, is)

apart_by : (put reader : Option ℕ) (slots : ℕ → Option HoldingSeen) (n m k : ℕ) (x : Option HoldingSeen) (a b : HoldingSeen) → OthersElse slots n put reader
    → ((h : HoldingSeen) → x ≡ Some h → IsMine put reader h) → ActorsAreApart slots
    → (m ≡ k → ⊥) → StandsAt slots n m x a → StandsAt slots n k x b → Differ a b
apart_by put reader slots n m k x a b others mine apart differ (inl at) (inl too) = absurd (differ (at.0 ∙ sym too.0))
apart_by put reader slots n m k x a b others mine apart differ (inl at) (inr too) = differs put reader a b (mine a at.1) (others k b too.0 too.1)
apart_by put reader slots n m k x a b others mine apart differ (inr at) (inl too) = swapped b a (differs put reader b a (mine b too.1) (others m a at.0 at.1))
apart_by put reader slots n m k x a b others mine apart differ (inr at) (inr too) = apart m k a b differ at.1 too.1

-- no two actors have the same behind a line, where the one has nothing that another has
pub all_apart : (put reader : Option ℕ) (slots new : ℕ → Option HoldingSeen) (n : ℕ) (x : Option HoldingSeen) → Changed slots new n x → OthersElse slots n put reader
    → ((h : HoldingSeen) → x ≡ Some h → IsMine put reader h) → ActorsAreApart slots → ActorsAreApart new
all_apart put reader slots new n x changed others mine apart = λ m k a b differ at too.
    apart_by put reader slots n m k x a b others mine apart differ (at_by slots n m x a (m == n) refl (sym (changed m) ∙ at))
    (at_by slots n k x b (k == n) refl (sym (changed k) ∙ too))

-- ---- the part

module _ {S W R : Type 0} {c : CallsGhosts S W R} where
  -- behind a call
  pub part_behind : (old new : Part S W R c) → IsPart old → Goes c.at c.holds old.cache new.cache → IsAtRest (at_in new)
      → length new.page.items ≡ length old.page.items → (put reader : Option ℕ) → LeavesBut put reader (state_in_part old) (state_in_part new) → IsPart new
  part_behind old new part goes rest page put reader leaves = record {
    holds = goes.holds_then;
    rest = rest;
    plain = goes.setting ∙ part.plain;
    losses = leaves.losses part.losses;
    page = page ∙ (part.page ∙ ap (λ g. 512 * budget_of g) (sym leaves.geometry));
  }
