-- Each put of a session goes on from what it had cut, whatever its calls record.
use Rattle.std.proofs.Common.{◌≡◌, ℕ, ◌+◌, ◌≤◌, List, [], ◌∷◌, ◌++◌, refl, sym, ◌∙◌, ap, subst, arith, Bool, true, false, cond, length}
use Rattle.std.specs.Prelude.{Some, None, IfSome, find, map, option_map, ◌==◌}
use Rattle.std.specs.List.{AllByRecursion}
use Rattle.std.proofs.lemmas.Bool.{eqb-true}
use Rattle.std.proofs.lemmas.List.{length-append}
use Rattle.tape_base.specs.declared.geometries.Geometry.{Geometry}
use Rattle.tape_base.specs.declared.keys.Key.{Key}
use Rattle.fragment_table.specs.Table.{TableRow, made_row}
use Rattle.cache_model.specs.declared.record.Rec.{Rec}
use Rattle.cache_model.specs.declared.record.Rec.TheVariants as rec
use Rattle.cache_model.specs.State.{Closed, GivenUp, PutRow, State, after_all, change_put, fragment_piece, opened_put, put_of, state_after, with_cut, with_writing}
use Rattle.cache_model.proofs.ByNumber.{find-changed}
use Rattle.cache_model.proofs.Found.{none_is}
use Rattle.cache_model.proofs.Steps.{all_as}
use Rattle.cache_model.specs.Contents.{Contents}
use Rattle.call_laws.specs.Moments.{At}
use Rattle.call_laws.proofs.Joined.{state_behind}
use Rattle.cache_model.specs.Subjects.{IsOfPut}
use Rattle.cache_calls.specs.Adds.{AddsAll, AddsOnly}
use Rattle.cache_calls.specs.Keeping.{FallBelow, IsAtRest, state_at}
use Rattle.line_calls.specs.Standing.{TellsPut, piece_content}
use Rattle.cache_replay.proofs.Free.{unheard}
use Rattle.line_calls.proofs.SameGeometry.{BeginsNone, one_same}

-- ---- one put

-- it has the same key, and has cut no less
pub record HasGrown (t : State) (put : ℕ) (row : PutRow) : Type 0 where
  pub now : PutRow
  pub found : put_of t put ≡ Some now
  pub key : now.key ≡ row.key
  pub more : length row.cuts ≤ length now.cuts

-- so it is where it had begun, and the geometry is the same
pub record GrowsFrom (s t : State) (put : ℕ) : Type 0 where
  pub geometry : t.geometry ≡ s.geometry
  pub grown : (row : PutRow) → put_of s put ≡ Some row → HasGrown t put row

pub grows_still : (s : State) (put : ℕ) → GrowsFrom s s put
grows_still s put = record { geometry = refl; grown = λ row found. record { now = row; found = found; key = refl; more = omega arith } }

grows_then : (s t u : State) (put : ℕ) → GrowsFrom s t put → GrowsFrom t u put → GrowsFrom s u put
grows_then s t u put first next = record {
  geometry = next.geometry ∙ first.geometry;
  grown = λ row found.
      let one = first.grown row found in
      let other = next.grown one.now one.found in
      record { now = other.now; found = other.found; key = other.key ∙ one.key; more = omega (arith, one.more, other.more) };
}

-- a put that is as it was, if it was there
pub grows_same : (s t : State) (put : ℕ) → ((row : PutRow) → put_of s put ≡ Some row → put_of t put ≡ put_of s put) → t.geometry ≡ s.geometry
    → GrowsFrom s t put
grows_same s t put same geometry = record {
  geometry = geometry;
  grown = λ row found. record { now = row; found = same row found ∙ found; key = refl; more = omega arith };
}

-- what is told of all that it has cut then is told of what it had cut before
pub told_grown : (s t : State) (put : ℕ) (body : List ℕ) (contents : Contents) → GrowsFrom s t put → TellsPut t put body contents
    → TellsPut s put body contents
told_grown s t put body contents g told row found index some within =
    let grown = g.grown row found in
    let f : ℕ = t.geometry.fragment in
    subst (λ (geometry : Geometry). IfSome (contents (fragment_piece row.key put index) None) (λ c. c ≡ piece_content geometry.fragment body index)) g.geometry
    (subst (λ (key : Key). IfSome (contents (fragment_piece key put index) None) (λ c. c ≡ piece_content f body index)) grown.key
    (told grown.now grown.found index some (omega (arith, within, grown.more))))

-- ---- one record

-- the numbers of puts fall
record Falls (s : State) : Type 0 where
  high : ℕ
  fall : FallBelow high (map (λ (w : PutRow). w.put) s.puts)

numbers_changed_by : (b : Bool) (f : PutRow → PutRow) (w : PutRow) → ((x : PutRow) → (f x).put ≡ x.put) → (cond b (f w) w).put ≡ w.put
numbers_changed_by true f w keeps = keeps w
numbers_changed_by false f w keeps = refl

numbers_changed : (n : ℕ) (f : PutRow → PutRow) (ws : List PutRow) → ((x : PutRow) → (f x).put ≡ x.put)
    → map (λ (w : PutRow). w.put) (change_put n f ws) ≡ map (λ (w : PutRow). w.put) ws
numbers_changed n f [] keeps = refl
numbers_changed n f (w ∷ ws) keeps =
    ap (λ m. m ∷ map (λ (w : PutRow). w.put) (change_put n f ws)) (numbers_changed_by (w.put == n) f w keeps)
    ∙ ap (λ ms. w.put ∷ ms) (numbers_changed n f ws keeps)

module _ (s : State) where
  fell_as : (t : State) → t.puts ≡ s.puts → Falls t → Falls s
  fell_as t same h = record { high = h.high; fall = subst (λ ws. FallBelow h.high (map (λ (w : PutRow). w.put) ws)) same h.fall }

  fell_changed : (t : State) (n : ℕ) (f : PutRow → PutRow) → ((x : PutRow) → (f x).put ≡ x.put) → t.puts ≡ change_put n f s.puts → Falls t → Falls s
  fell_changed t n f keeps is h = record {
    high = h.high;
    fall = subst (FallBelow h.high) (ap (map (λ (w : PutRow). w.put)) is ∙ numbers_changed n f s.puts keeps) h.fall;
  }

  -- so they did before a record
  fell : (r : Rec) → BeginsNone r → Falls (state_after s r) → Falls s
  fell (rec.Formatted geometry) none h = absurd none
  fell (rec.Opened geometry serial cursor floor next_put clean list) none h = absurd none
  fell (rec.WriteOpened actor n key request response pin) none h = record { high = n; fall = h.fall.1 }
  fell (rec.Cut n index size digest) none h = fell_changed _ n (with_cut _) (λ x. refl) refl h
  fell (rec.Committed n key size list) none h = fell_changed _ n (with_writing Closed) (λ x. refl) refl h
  fell (rec.Aborted n key) none h = fell_changed _ n (with_writing GivenUp) (λ x. refl) refl h
  fell _ none h = fell_as _ refl h

  module _ (put : ℕ) (row : PutRow) (found : put_of s put ≡ Some row) where
    as_it_was : (t : State) → t.puts ≡ s.puts → HasGrown t put row
    as_it_was t same = record { now = row; found = ap (find (λ (w : PutRow). w.put == put)) same ∙ found; key = refl; more = omega arith }

    changed_by : (t : State) (f : PutRow → PutRow) (b : Bool) → put_of t put ≡ cond b (option_map f (put_of s put)) (put_of s put) → (f row).key ≡ row.key
        → length row.cuts ≤ length (f row).cuts → HasGrown t put row
    changed_by t f true is key more = record { now = f row; found = is ∙ ap (option_map f) found; key = key; more = more }
    changed_by t f false is key more = record { now = row; found = is ∙ found; key = refl; more = omega arith }

    changed : (t : State) (n : ℕ) (f : PutRow → PutRow) → ((x : PutRow) → (f x).put ≡ x.put) → t.puts ≡ change_put n f s.puts → (f row).key ≡ row.key
        → length row.cuts ≤ length (f row).cuts → HasGrown t put row
    changed t n f keeps is key more =
        changed_by t f (n == put) (ap (find (λ (w : PutRow). w.put == put)) is ∙ find-changed (λ (w : PutRow). w.put) f keeps n put s.puts) key more

    -- a put of that number does not begin once more
    begun_by : (t : State) (n : ℕ) (new : PutRow) (b : Bool) → (n == put) ≡ b → put_of t put ≡ cond b (Some new) (put_of s put)
        → FallBelow n (map (λ (w : PutRow). w.put) s.puts) → HasGrown t put row
    begun_by t n new true e is fall =
        let same : n ≡ put = eqb-true n put e in
        none_is (sym (unheard (λ (w : PutRow). w.put) n put s.puts fall (omega (arith, same))) ∙ found)
    begun_by t n new false e is fall = record { now = row; found = is ∙ found; key = refl; more = omega arith }

    one_more : (x : TableRow) → length row.cuts ≤ length (with_cut x row).cuts
    one_more x = let size : length (row.cuts ++ x ∷ []) ≡ length row.cuts + 1 = length-append row.cuts (x ∷ []) in omega (arith, size)

    grows : (r : Rec) → BeginsNone r → Falls (state_after s r) → HasGrown (state_after s r) put row
    grows (rec.Formatted geometry) none h = absurd none
    grows (rec.Opened geometry serial cursor floor next_put clean list) none h = absurd none
    grows (rec.WriteOpened actor n key request response pin) none h = begun_by _ n (opened_put actor.0 n key request response pin) (n == put) refl refl h.fall.1
    grows (rec.Cut n index size digest) none h = changed _ n (with_cut (made_row size digest.0)) (λ x. refl) refl refl (one_more (made_row size digest.0))
    grows (rec.Committed n key size list) none h = changed _ n (with_writing Closed) (λ x. refl) refl refl (omega arith)
    grows (rec.Aborted n key) none h = changed _ n (with_writing GivenUp) (λ x. refl) refl refl (omega arith)
    grows _ none h = as_it_was _ refl

-- ---- all records

all_fell : (s : State) (recs : List Rec) → AllByRecursion BeginsNone recs → Falls (after_all s recs) → Falls s
all_fell s [] none h = h
all_fell s (r ∷ recs) none h = fell s r none.0 (all_fell (state_after s r) recs none.1 h)

all_grow : (s : State) (recs : List Rec) (put : ℕ) → AllByRecursion BeginsNone recs → Falls (after_all s recs) → GrowsFrom s (after_all s recs) put
all_grow s [] put none h = grows_still s put
all_grow s (r ∷ recs) put none h =
    grows_then s (state_after s r) (after_all (state_after s r) recs) put
    (record { geometry = one_same s r none.0; grown = λ row found. grows s put row found r none.0 (all_fell (state_after s r) recs none.1 h) })
    (all_grow (state_after s r) recs put none.1 h)

module _ (old new : At) (rest : IsAtRest new) (put : ℕ) where
  -- whatever was recorded between two moments of a session
  puts_grow : (recs : List Rec) → AllByRecursion BeginsNone recs → AddsAll recs old new → GrowsFrom (state_at old) (state_at new) put
  puts_grow recs none adds =
      let high : ℕ = (state_at new).next_put in
      let is : state_at new ≡ after_all (state_at old) recs = state_behind old.kept new.kept recs adds in
      subst (λ t. GrowsFrom (state_at old) t put) (sym is) (all_grow (state_at old) recs put none
      (record { high = high; fall = subst (λ (t : State). FallBelow high (map (λ (w : PutRow). w.put) t.puts)) is rest.puts }))

  none_of_put : (n : ℕ) (r : Rec) → IsOfPut n r → BeginsNone r
  none_of_put n (rec.Formatted geometry) h = h
  none_of_put n (rec.Opened geometry serial cursor floor next_put clean list) h = h
  none_of_put n _ h = tt

  -- records of a put
  pub put_grows : (n : ℕ) → AddsOnly (IsOfPut n) old new → GrowsFrom (state_at old) (state_at new) put
  put_grows n h = puts_grow h.added (all_as (IsOfPut n) BeginsNone (none_of_put n) h.added h.own) h.adds
