-- The payload of the fragment that a reader takes next, as the records tell it.
use Rattle.std.proofs.Common.{◌≡◌, sym, ◌∙◌, ap, subst}
use Rattle.std.specs.Prelude.{Some, None, option_and_then, option_map}
use Rattle.tape_base.specs.declared.digests.Digest.{Digest}
use Rattle.tape_base.specs.declared.pieces.PieceId.{PieceId}
use Rattle.fragment_table.specs.Table.{TableRow}
use Rattle.cache_model.specs.State.{State, Row, ReaderRow, live_row_of}
use Rattle.cache_model.specs.Verdict.{digest_in, next_piece, next_row, payload_of_piece}
use Rattle.cache_model.specs.Legal.{IsAsListed, IsNextAsListed, IsUnlike}
use Rattle.cache_model.proofs.Found.{none_is, same_some}
use Rattle.cache_model.proofs.Lists.{own_piece}
use Rattle.cache_model.proofs.FewerRows.{live_stands}

-- where nothing comes next, nothing else than what is listed does
pub none_next : (s : State) (r : ReaderRow) → next_row s r ≡ None → IsNextAsListed s r
none_next s r none entry row next live = none_is (sym none ∙ next)

-- the payload that is listed comes next
pub listed_by : (s : State) (r : ReaderRow) (entry : TableRow) (row : Row) → next_row s r ≡ Some entry → live_row_of s (next_piece r) ≡ Some row → IsAsListed row entry
    → IsNextAsListed s r
listed_by s r entry row next live listed other x has stands =
    subst (IsAsListed x) (same_some entry other (next_row s r) next has) (subst (λ y. IsAsListed y entry) (same_some row x (live_row_of s (next_piece r)) live stands) listed)

pub own_is_listed : (row : Row) (entry : TableRow) → row.payload ≡ Some entry → IsAsListed row entry
own_is_listed row entry own payload has = ap digest_in (same_some payload entry row.payload has own)

-- the live piece tells the digest of its payload
pub payload_told : (s : State) (id : PieceId) (row : Row) (entry : TableRow) (found : Digest) → live_row_of s id ≡ Some row → IsUnlike row entry found
    → payload_of_piece s id ≡ Some found
payload_told s id row entry found live m =
    ap (λ o. option_map digest_in (option_and_then (λ (x : Row). x.payload) o)) live ∙ (ap (option_map digest_in) m.has ∙ ap Some (sym m.found_is))

-- under the name that its own row has
pub live_by_row : (s : State) (id : PieceId) (row : Row) → live_row_of s id ≡ Some row → live_row_of s row.id ≡ Some row
live_by_row s id row live = subst (λ i. live_row_of s i ≡ Some row) (sym (own_piece id s.rows row (live_stands s id row live).0)) live
