-- What two devices make of what is asked: where neither is in trouble the same records, but for the digests of copies.
use Rattle.std.specs.Prelude.{◌≡◌, Bool, true, false, List, [], map, Option}
use Rattle.std.specs.List.{AllByRecursion}
use Rattle.cache_model.specs.declared.record.Rec.{Rec}
use Rattle.cache_model.specs.declared.record.Rec.TheVariants as rec
use Rattle.cache_model.specs.State.{State, Mark, Row, after_all}
use Rattle.cache_model.specs.Permit.{End, Intent, Permit, Reason}
use Rattle.cache_model.specs.Legal.{Does, IsStep}

-- the record of a call that the device refused, of bytes that are not those of a digest, or of a piece that was displaced
abbrev pub is_trouble : Rec → Bool
is_trouble (rec.Fault count) = true
is_trouble (rec.Damaged piece place kept found) = true
is_trouble (rec.Displaced piece segment live) = true
is_trouble _ = false

-- none of these records does
abbrev pub IsUntroubled : List Rec → Type 0
IsUntroubled added = AllByRecursion (λ (r : Rec). is_trouble r ≡ false) added

-- neither stripe syncs, and pins are weighed by one moment; of their directories, areas and calls nothing is said
pub record AreLike (p q : Permit) : Type 0 where
  pub unsynced : p.syncs ≡ false
  pub other_unsynced : q.syncs ≡ false
  pub moment : p.now ≡ q.now

-- ---- digests of documents

-- a piece but for the digest of its document
abbrev pub without_digest : Row → Row
without_digest row = record row { digest = record { 0 = [] } }

-- what a sync holds but for these
abbrev pub without_mark_digests : Mark → Mark
without_mark_digests m = record m { rows = map without_digest m.rows }

-- a session but for the digests of its documents; its records, and the payloads and tables that it knows, keep theirs
abbrev pub without_digests : State → State
without_digests s = record s {
  rows = map without_digest s.rows;
  displaced = map without_digest s.displaced;
  marks = map without_mark_digests s.marks;
}

-- a record but for the digest of a copy
abbrev pub without_copy_digest : Rec → Rec
without_copy_digest (rec.Moved piece from place digest) = rec.Moved piece from place (record { 0 = [] })
without_copy_digest r = r

-- two sessions hold the same but for the digests of their documents
abbrev pub HoldTheSame : State → State → Type 0
HoldTheSame s t = without_digests s ≡ without_digests t

-- records tell the same but for the digests of copies
abbrev pub TellTheSame : List Rec → List Rec → Type 0
TellTheSame one other = map without_copy_digest one ≡ map without_copy_digest other

-- ---- laws

-- two groups that tell no trouble, for what is asked in states that hold the same of like devices, tell the same and end
-- alike, whatever else the devices gave and refused
abbrev pub GroupsAgree : Type 0
GroupsAgree = (p q : Permit) (s t : State) (i : Intent) (one other : List Rec) (e f : End)
    → AreLike p q → HoldTheSame s t → IsUntroubled one → IsUntroubled other
    → Does p s i one e → Does q t i other f → TellTheSame one other × (e ≡ f)

-- and so do whole steps, which leave what holds the same, and do less for the same reason
abbrev pub StepsAgree : Type 0
StepsAgree = (p q : Permit) (s t : State) (intents : List Intent) (one other : List Rec) (why because : Option Reason)
    → AreLike p q → HoldTheSame s t
    → IsUntroubled one → IsUntroubled other → IsStep p s intents one why → IsStep q t intents other because
    → TellTheSame one other × HoldTheSame (after_all s one) (after_all t other) × (why ≡ because)
