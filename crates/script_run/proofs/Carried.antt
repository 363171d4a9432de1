-- What stands stays what its writer took where the puts that it stands for stay or go on.
use Rattle.std.proofs.Common.{◌≡◌, ℕ, ◌≤◌, List, length, refl, sym, ◌∙◌, ap, arith, inl, inr, Bool}
use Rattle.std.specs.Prelude.{Option, Some, None, find, ◌==◌}
use Rattle.std.specs.List.{AllByRecursion, filter}
use Rattle.std.proofs.lemmas.List.Elements.{All-filter, All-from_recursion, recursion_from_All}
use Rattle.tape_base.specs.declared.keys.Key.{Key}
use Rattle.fragment_table.specs.Table.{TableRow}
use Rattle.alternate_vector.specs.Alternates.{Stored}
use Rattle.cache_model.specs.State.{State, Row, PutRow, ReaderRow, alternate_of, put_of}
use Rattle.cache_model.proofs.Rows.{ArePart}
use Rattle.cache_model.proofs.Steps.{all_as}
use Rattle.script_run.specs.Run.{Stream}
use Rattle.script_run.specs.Own.{AreListedOf, AreOwnPuts, IsComplete, IsCutFragment, IsListedOf, IsOwnFragment, IsOwnPut, IsOwnReader, IsTableOf, IsTableOfHit}

pub all_filter : {X : Type 0} (P : X → Type 0) (test : X → Bool) (xs : List X) → AllByRecursion P xs → AllByRecursion P (filter test xs)
all_filter P test xs each = recursion_from_All P (filter test xs) (All-filter test P xs (All-from_recursion P xs each))

-- ---- from one state to another

-- the put goes on from what it had cut
pub record GoesOn (t : State) (put : ℕ) (w : PutRow) : Type 0 where
  pub now : PutRow
  pub found : put_of t put ≡ Some now
  pub more : length w.cuts ≤ length now.cuts

-- the put is complete, with the key and the alternate of w
pub record StaysWhole (t : State) (put : ℕ) (w : PutRow) : Type 0 where
  pub now : PutRow
  pub found : put_of t put ≡ Some now
  pub key : now.key ≡ w.key
  pub stands_for : alternate_of now ≡ alternate_of w
  pub complete : IsComplete t put now

-- complete puts stay what they are, and each put goes on
pub record Carries (s t : State) : Type 0 where
  pub geometry : t.geometry ≡ s.geometry
  pub whole : (put : ℕ) (w : PutRow) → put_of s put ≡ Some w → IsComplete s put w → StaysWhole t put w
  pub puts : (put : ℕ) (w : PutRow) → put_of s put ≡ Some w → GoesOn t put w

module _ (s t : State) (c : Carries s t) where
  pub table_carried : (put : ℕ) (table : List TableRow) → IsTableOf s put table → IsTableOf t put table
  table_carried put table h =
      let x : StaysWhole t put h.w = c.whole put h.w h.found h.complete in
      record { w = x.now; found = x.found; cuts = ap (λ (a : Stored). a.table) x.stands_for ∙ h.cuts; complete = x.complete }

  pub alternate_carried : (key : Key) (a : Stored) → IsListedOf s key a → IsListedOf t key a
  alternate_carried key a h =
      let x : StaysWhole t a.put h.w = c.whole a.put h.w h.found h.complete in
      record { w = x.now; found = x.found; key_is = x.key ∙ h.key_is; stands_for = x.stands_for ∙ h.stands_for; complete = x.complete }

  pub listed_carried : (key : Key) (o : Option (List Stored)) → AreListedOf s key o → AreListedOf t key o
  listed_carried key None listed = tt
  listed_carried key (Some list) listed = all_as (IsListedOf s key) (IsListedOf t key) (alternate_carried key) list listed

  pub fragment_carried : (streams : ℕ → Stream) (row : Row) → IsOwnFragment s streams row → IsOwnFragment t streams row
  fragment_carried streams row f =
      let on : GoesOn t row.id.put f.w = c.puts row.id.put f.w f.found in
      record { w = on.now; found = on.found; cut = omega (arith, f.cut, on.more); payload = rw c.geometry f.payload; digest = rw c.geometry f.digest }

  pub cut_carried : (streams : ℕ → Stream) (row : Row) → IsCutFragment s streams row → IsCutFragment t streams row
  cut_carried streams row f =
      let on : GoesOn t row.id.put f.w = c.puts row.id.put f.w f.found in
      record { w = on.now; found = on.found; cut = omega (arith, f.cut, on.more); payload = rw c.geometry f.payload }

  hit_carried : (r : ReaderRow) (o : Option (List TableRow)) → IsTableOfHit s r o → IsTableOfHit t r o
  hit_carried r None h = tt
  hit_carried r (Some table) h = table_carried r.put table h

  pub reader_carried : s.next_reader ≤ t.next_reader → (r : ReaderRow) → IsOwnReader s r → IsOwnReader t r
  reader_carried on r own = record { begun = omega (arith, own.begun, on); table = hit_carried r r.table own.table }

  pub readers_carried : s.next_reader ≤ t.next_reader → (readers : List ReaderRow) → AllByRecursion (IsOwnReader s) readers → AllByRecursion (IsOwnReader t) readers
  readers_carried on readers each = all_as (IsOwnReader s) (IsOwnReader t) (reader_carried on) readers each

-- a put stays as it was
pub put_stays : (s t : State) (streams : ℕ → Stream) (w : PutRow) → t.geometry ≡ s.geometry → s.next_put ≤ t.next_put → IsOwnPut s streams w → IsOwnPut t streams w
put_stays s t streams w same on p = record {
  begun = omega (arith, p.begun, on);
  cuts = rw same p.cuts;
  whole = p.whole;
  full = λ is_open unsealed. rw same (p.full is_open unsealed);
}

-- ---- states that differ in nothing that puts, tables and readers stand for

pub record AreAlike (s t : State) : Type 0 where
  pub geometry : t.geometry ≡ s.geometry
  pub next_put : t.next_put ≡ s.next_put
  pub puts : t.puts ≡ s.puts
  pub pending : t.pending ≡ s.pending
  pub rows : ArePart t.rows s.rows
  pub readers : t.readers ≡ s.readers
  pub next_reader : t.next_reader ≡ s.next_reader

found_alike : (s t : State) (put : ℕ) (w : PutRow) → t.puts ≡ s.puts → put_of s put ≡ Some w → put_of t put ≡ Some w
found_alike s t put w same found = ap (find (λ (p : PutRow). p.put == put)) same ∙ found

whole_alike : (s t : State) → t.puts ≡ s.puts → t.pending ≡ s.pending → (put : ℕ) (w : PutRow) → put_of s put ≡ Some w → IsComplete s put w → StaysWhole t put w
whole_alike s t puts pending put w found complete = record {
  now = w;
  found = found_alike s t put w puts found;
  key = refl;
  stands_for = refl;
  complete = elim complete [ inl closed ↦ inl closed | inr waits ↦ inr (pending ∙ waits) ];
}

pub same_carries : (s t : State) → t.geometry ≡ s.geometry → t.puts ≡ s.puts → t.pending ≡ s.pending → Carries s t
same_carries s t geometry puts pending = record {
  geometry = geometry;
  whole = whole_alike s t puts pending;
  puts = λ put w found. record { now = w; found = found_alike s t put w puts found; more = omega arith };
}

pub alike_carries : (s t : State) → AreAlike s t → Carries s t
alike_carries s t a = same_carries s t a.geometry a.puts a.pending

pub puts_stay : (s t : State) (streams : ℕ → Stream) → t.geometry ≡ s.geometry → t.next_put ≡ s.next_put → t.puts ≡ s.puts → AreOwnPuts s streams → AreOwnPuts t streams
puts_stay s t streams geometry next puts own put w found =
    put_stays s t streams w geometry (omega (arith, next)) (own put w (found_alike t s put w (sym puts) found))
