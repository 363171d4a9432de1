-- A put that is not open any more was closed, or given up, by a record.
use Rattle.std.proofs.Common.{◌≡◌, ℕ, Bool, true, false, refl, sym, ◌∙◌, ap, inl, inr, ◌⊎◌, eqb-true}
use Rattle.std.specs.Prelude.{Some, cond, if◌then◌else◌, ◌==◌}
use Rattle.fragment_table.specs.Table.{made_row}
use Rattle.cache_model.specs.declared.record.Rec.{Rec}
use Rattle.cache_model.specs.declared.record.Rec.TheVariants as rec
use Rattle.cache_model.specs.State.{State, PutRow, Writing, Open, Closed, GivenUp, opened_put, put_of, state_after, with_cut, with_writing}
use Rattle.cache_model.specs.Permit.{Permit}
use Rattle.cache_model.proofs.Found.{number_of, same_some}
use Rattle.script_run.proofs.Changed.{Was, changed, changed_from}
use Rattle.script_laws.proofs.Groups.{IsKept}

writing_by : (f : PutRow → PutRow) (p : PutRow) (b : Bool) → ((q : PutRow) → (f q).writing ≡ q.writing) → (if b then f p else p).writing ≡ p.writing
writing_by f p true keeps = keeps p
writing_by f p false keeps = refl

module _ (put : ℕ) (writing : Writing) where
  abbrev pub IsWrittenSo : State → Type 0
  IsWrittenSo s = (w : PutRow) × (put_of s put ≡ Some w) × (w.writing ≡ writing)

  -- the record makes it so
  abbrev pub WritesSo : Rec → Type 0
  WritesSo (rec.Committed n key bytes list) = (n ≡ put) × (Closed ≡ writing)
  WritesSo (rec.Aborted n key) = (n ≡ put) × (GivenUp ≡ writing)
  WritesSo _ = ⊥

  changed_by : (s : State) (n : ℕ) (now : Writing) (old : PutRow) (b : Bool) → put_of s put ≡ Some old → (old.put == n) ≡ b → (if b then with_writing now old else old).writing ≡ writing
      → IsWrittenSo s ⊎ ((n ≡ put) × (now ≡ writing))
  changed_by s n now old true found e ended = inr (sym (eqb-true old.put n e) ∙ number_of s put old found, ended)
  changed_by s n now old false found e ended = inl (old, found, ended)

  module _ (shut : writing ≡ Open → ⊥) where
    opened_by : (s : State) (new w : PutRow) (b : Bool) → new.writing ≡ Open → cond b (Some new) (put_of s put) ≡ Some w → w.writing ≡ writing → IsWrittenSo s
    opened_by s new w true begins found ended =
        let same : new ≡ w = same_some new w (Some new) refl found in
        absurd (shut (sym ended ∙ (sym (ap (λ (p : PutRow). p.writing) same) ∙ begins)))
    opened_by s new w false begins found ended = (w, found, ended)

    pub written_by : (p : Permit) (s : State) (r : Rec) → IsKept p r → IsWrittenSo (state_after s r) → IsWrittenSo s ⊎ WritesSo r
    written_by p s (rec.Formatted geometry) kept h = absurd kept
    written_by p s (rec.Opened geometry serial cursor floor next_put clean list) kept h = absurd kept
    written_by p s (rec.WriteOpened actor n key request response pin) kept h = inl (opened_by s (opened_put actor.0 n key request response pin) h.0 (n == put) refl h.1 h.2)
    written_by p s (rec.Cut n index length digest) kept h =
        let f : PutRow → PutRow = with_cut (made_row length digest.0) in
        let was : Was (put_of s put) (changed n f) h.0 = changed_from s (state_after s (rec.Cut n index length digest)) n f put h.0 (record { puts = refl; keeps = λ q. refl }) h.1 in
        inl (was.old, was.found, sym (writing_by f was.old (was.old.put == n) (λ q. refl)) ∙ (ap (λ (q : PutRow). q.writing) (sym was.is) ∙ h.2))
    written_by p s (rec.Committed n key bytes list) kept h =
        let f : PutRow → PutRow = with_writing Closed in
        let was : Was (put_of s put) (changed n f) h.0 = changed_from s (state_after s (rec.Committed n key bytes list)) n f put h.0 (record { puts = refl; keeps = λ q. refl }) h.1 in
        changed_by s n Closed was.old (was.old.put == n) was.found refl (ap (λ (q : PutRow). q.writing) (sym was.is) ∙ h.2)
    written_by p s (rec.Aborted n key) kept h =
        let f : PutRow → PutRow = with_writing GivenUp in
        let was : Was (put_of s put) (changed n f) h.0 = changed_from s (state_after s (rec.Aborted n key)) n f put h.0 (record { puts = refl; keeps = λ q. refl }) h.1 in
        changed_by s n GivenUp was.old (was.old.put == n) was.found refl (ap (λ (q : PutRow). q.writing) (sym was.is) ∙ h.2)
    written_by p s _ kept h = inl h
