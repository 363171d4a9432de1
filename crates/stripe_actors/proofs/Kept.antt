-- What is kept of a put and of a reader, as both sides change.
use Rattle.std.proofs.Common.{◌≡◌, true, false, cond, Option, Some, None, refl, sym, ap, subst, ◌∙◌}
use Rattle.std.specs.Prelude.{Bool, not, ◌==◌, ◌&&◌, option_map, unwrap_or}
use Rattle.open_directory.specs.declared.kept.KeptPut.{KeptPut}
use Rattle.open_directory.specs.declared.kept.Reader.{Reader}
use Rattle.open_directory.specs.Directory.{is_done_put, is_open_put, is_writing_phase, unless_done}
use Rattle.cache_model.specs.State.{PutRow, ReaderRow, Open, Closed, GivenUp}
use Rattle.cache_model.specs.Verdict.{is_open}
use Rattle.stripe_actors.specs.Actors.{IsKeptAs, IsPutOf, IsReaderAs, IsReaderOfRow, phase_of_put}

-- ---- puts

pub kept_along : (x y : Option PutRow) (k l : Option KeptPut) → y ≡ x → l ≡ k → IsKeptAs x k → IsKeptAs y l
kept_along x y k l e f h =
    let first : IsKeptAs y k = subst (λ (o : Option PutRow). IsKeptAs o k) (sym e) h in
    subst (λ (o : Option KeptPut). IsKeptAs y o) (sym f) first

pub kept_either : (b : Bool) (x y : Option PutRow) (k l : Option KeptPut) → IsKeptAs x k → IsKeptAs y l → IsKeptAs (cond b x y) (cond b k l)
kept_either true x y k l h g = h
kept_either false x y k l h g = g

pub kept_or : (b : Bool) (x : Option PutRow) (k l : Option KeptPut) → IsKeptAs x k → IsKeptAs x l → IsKeptAs x (cond b k l)
kept_or true x k l h g = h
kept_or false x k l h g = g

pub writing_as : (p : PutRow) → is_writing_phase (phase_of_put p.writing) ≡ is_open p
writing_as p = elim p.writing as (λ w. is_writing_phase (phase_of_put w) ≡ elim w [ Open ↦ true | Closed ↦ false | GivenUp ↦ false ]) [ Open ↦ refl | Closed ↦ refl | GivenUp ↦ refl ]

pub open_as : (x : Option PutRow) (k : Option KeptPut) → IsKeptAs x k → is_open_put k ≡ unwrap_or (option_map is_open x) false
open_as None None h = refl
open_as None (Some kept) h = absurd h
open_as (Some p) None h = sym h
open_as (Some p) (Some kept) h = ap is_writing_phase h.standing ∙ writing_as p

-- a put that is changed alike on both sides
pub kept_mapped : (g : PutRow → PutRow) (f : KeptPut → KeptPut) → ((p : PutRow) → is_open p ≡ false → is_open (g p) ≡ false) → ((p : PutRow) (kept : KeptPut) → IsPutOf p kept → IsPutOf (g p) (f kept))
    → (x : Option PutRow) (k : Option KeptPut) → IsKeptAs x k → IsKeptAs (option_map g x) (option_map f k)
kept_mapped g f ended same None None h = tt
kept_mapped g f ended same None (Some kept) h = absurd h
kept_mapped g f ended same (Some p) None h = ended p h
kept_mapped g f ended same (Some p) (Some kept) h = same p kept h

-- a put that changes only in what the records do not say
pub kept_anew : (f : KeptPut → KeptPut) → ((p : PutRow) (kept : KeptPut) → IsPutOf p kept → IsPutOf p (f kept))
    → (x : Option PutRow) (k : Option KeptPut) → IsKeptAs x k → IsKeptAs x (option_map f k)
kept_anew f same None None h = tt
kept_anew f same None (Some kept) h = absurd h
kept_anew f same (Some p) None h = h
kept_anew f same (Some p) (Some kept) h = same p kept h

done_is_ended : (writing others : Bool) → (not writing && others) ≡ true → writing ≡ false
done_is_ended true others h = absurd (cc)
done_is_ended false others h = refl

-- a put that is done may be forgotten
pub kept_unless_done : (x : Option PutRow) (k : Option KeptPut) → IsKeptAs x k → IsKeptAs x (unless_done k)
kept_unless_done x None h = h
kept_unless_done None (Some kept) h = absurd h
kept_unless_done (Some p) (Some kept) h = by_done (is_done_put (Some kept)) refl
  where
    by_done : (b : Bool) → is_done_put (Some kept) ≡ b → IsKeptAs (Some p) (cond b None (Some kept))
    by_done true d = sym (writing_as p) ∙ sym (ap is_writing_phase h.standing)
        ∙ done_is_ended (is_writing_phase kept.phase) (kept.followers == 0) d
    by_done false d = h

-- ---- readers

pub reader_along : (x y : Option ReaderRow) (r q : Option Reader) → y ≡ x → q ≡ r → IsReaderAs x r → IsReaderAs y q
reader_along x y r q e f h =
    let first : IsReaderAs y r = subst (λ (o : Option ReaderRow). IsReaderAs o r) (sym e) h in
    subst (λ (o : Option Reader). IsReaderAs y o) (sym f) first

pub reader_either : (b : Bool) (x y : Option ReaderRow) (r q : Option Reader) → IsReaderAs x r → IsReaderAs y q → IsReaderAs (cond b x y) (cond b r q)
reader_either true x y r q h g = h
reader_either false x y r q h g = g

pub reader_mapped : (g : ReaderRow → ReaderRow) (f : Reader → Reader) → ((row : ReaderRow) (reader : Reader) → IsReaderOfRow row reader → IsReaderOfRow (g row) (f reader))
    → (x : Option ReaderRow) (r : Option Reader) → IsReaderAs x r → IsReaderAs (option_map g x) (option_map f r)
reader_mapped g f same None None h = tt
reader_mapped g f same None (Some reader) h = absurd h
reader_mapped g f same (Some row) None h = absurd h
reader_mapped g f same (Some row) (Some reader) h = same row reader h
