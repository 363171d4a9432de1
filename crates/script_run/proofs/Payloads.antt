-- Each fragment has the payload that its put has cut: a copy keeps that, whatever it brings to the fragment's place.
use Rattle.std.proofs.Common.{◌≡◌, ◌∙◌, ℕ, List, [], ◌∷◌, length, ◌<◌, ◌≤◌, ap, subst, inl}
use Rattle.std.specs.Prelude.{Some}
use Rattle.std.specs.List.{AllByRecursion}
use Rattle.tape_base.specs.Digest.{digest_of}
use Rattle.fragment_table.specs.Table.{made_row}
use Rattle.cache_model.specs.State.{State, Row, PutRow, put_of}
use Rattle.cache_model.proofs.Found.{number_of}
use Rattle.cache_model.proofs.Steps.{all_as}
use Rattle.script_run.specs.Run.{Stream}
use Rattle.script_run.specs.Own.{AreAlternates, ArePayloadsOwn, HasCutPayload, IsCutFragment, piece_of}
use Rattle.script_run.proofs.Carried.{cut_carried}
use Rattle.script_run.proofs.Saying.{AllTellAlike, IsRow, Kind, Stands, TellAlike, alternates_of_rows}

-- what was cut is told alike
pub piece_told : (s : State) (a b : ℕ → Stream) (row : Row) (w : PutRow) → AllTellAlike s a b → put_of s row.id.put ≡ Some w → 0 < row.id.index → row.id.index ≤ length w.cuts
    → piece_of s.geometry.fragment (a row.id.put).bytes row.id.index ≡ piece_of s.geometry.fragment (b row.id.put).bytes row.id.index
piece_told s a b row w told found some cut =
    let t : TellAlike s.geometry.fragment w (a w.put) (b w.put) = told row.id.put w found in
    subst (λ n. piece_of s.geometry.fragment (a n).bytes row.id.index ≡ piece_of s.geometry.fragment (b n).bytes row.id.index) (number_of s row.id.put w found) (t.cut.pieces row.id.index some cut)

pub cut_told : (s : State) (a b : ℕ → Stream) (row : Row) → AllTellAlike s a b → HasCutPayload s a row → HasCutPayload s b row
cut_told s a b row told is some =
    let f : IsCutFragment s a row = is some in
    record {
      w = f.w;
      found = f.found;
      cut = f.cut;
      payload = f.payload ∙ ap (λ (piece : List ℕ). Some (made_row (length piece) (digest_of piece).0)) (piece_told s a b row f.w told f.found some f.cut);
    }

-- ---- what is said

abbrev pub kept_kind : Kind
kept_kind = record {
  says = HasCutPayload;
  documents = λ streams s row document. ⊥;
  own = λ s streams row is some. let f = is some in record { w = f.w; found = f.found; cut = f.cut; payload = f.payload };
  carried = λ s t c streams row is some. cut_carried s t c streams row (is some);
  told = cut_told;
  copied = λ p s streams place c puts copied is. inl (λ some. let f = is some in record { w = f.w; found = f.found; cut = f.cut; payload = f.payload });
  alike = λ a b same s row document none. none;
}

-- what is said of each piece, and the alternates that it lists
each_both : (s : State) (streams : ℕ → Stream) (rows : List Row) → AllByRecursion (HasCutPayload s streams) rows → AllByRecursion (AreAlternates s) rows → AllByRecursion (IsRow kept_kind s streams) rows
each_both s streams [] payloads listed = tt
each_both s streams (row ∷ rows) payloads listed = ((payloads.0, listed.0), each_both s streams rows payloads.1 listed.1)

pub stands_kept : (s : State) (streams : ℕ → Stream) → ArePayloadsOwn s streams → Stands kept_kind s streams
stands_kept s streams kept = record { puts = kept.puts; rows = each_both s streams s.rows kept.payloads kept.alternates; readers = kept.readers }

pub kept_stands : (s : State) (streams : ℕ → Stream) → Stands kept_kind s streams → ArePayloadsOwn s streams
kept_stands s streams own = record {
  puts = own.puts;
  payloads = all_as (IsRow kept_kind s streams) (HasCutPayload s streams) (λ row is. is.0) s.rows own.rows;
  alternates = alternates_of_rows kept_kind s streams s.rows own.rows;
  readers = own.readers;
}
