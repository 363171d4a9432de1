-- What is told of the pieces of a session, by what its writers took.
use Rattle.std.specs.Prelude.{ℕ, ◌≡◌, ◌-◌, ◌*◌, ◌<◌, ◌≤◌, ◌++◌, if◌then◌else◌, IfSome, List, [], Option, Some, None, length, option_map}
use Rattle.tape_base.specs.Piece.{is_vector}
use Rattle.cache_model.specs.State.{PutRow, State, fragment_piece, put_of}
use Rattle.cache_model.specs.Contents.{Content, Contents, TellsVectors, spelled_content}
use Rattle.cache_calls.specs.Actors.{WriterSeen}
use Rattle.script_grammar.specs.declared.step.Step.{Step}
use Rattle.script_grammar.specs.declared.step.Step.TheVariants as step
use Rattle.script_run.specs.Own.{piece_of}
use Rattle.script_run.specs.Run.{Stream}

-- ---- what stands

-- the fragment of this index, from 1, of a body
abbrev pub piece_content : ℕ → List ℕ → ℕ → Content
piece_content fragment body index = record { start = (index - 1) * fragment; payload = piece_of fragment body index }

-- of the fragments that a put has cut it is told that they are those of a body
abbrev pub TellsPut : State → ℕ → List ℕ → Contents → Type 0
TellsPut s put body contents = (w : PutRow) → put_of s put ≡ Some w → (index : ℕ) → 0 < index → index ≤ length w.cuts
    → IfSome (contents (fragment_piece w.key put index) None) (λ c. c ≡ piece_content s.geometry.fragment body index)

-- so it is of each put, by what its writer took; and of each vector it is told that it spells what it lists
pub record TellsOwn (streams : ℕ → Stream) (s : State) (contents : Contents) : Type 0 where
  pub vectors : TellsVectors contents
  pub puts : (put : ℕ) → TellsPut s put (streams put).bytes contents

-- whatever is told so stands
abbrev pub OwnStands : (ℕ → Stream) → State → (stands : Contents → Type 0) → Type 0
OwnStands streams s stands = (contents : Contents) → TellsOwn streams s contents → stands contents

-- that is told by what all writers took
abbrev pub own_contents : ℕ → (ℕ → Stream) → Contents
own_contents fragment streams id alternates =
    if is_vector id then option_map spelled_content alternates else Some (piece_content fragment (streams id.put).bytes id.index)

-- ---- what is placed

-- the body that a line puts whole
abbrev pub body_of_step : Step → List ℕ
body_of_step (step.Put key body request response) = body
body_of_step _ = []

-- of the put of a line, where it has one, it is told that it cuts that body
pub record IsToldPlainly (t : State) (put : Option ℕ) (step : Step) (contents : Contents) : Type 0 where
  pub vectors : TellsVectors contents
  pub cut : IfSome put (λ n. TellsPut t n (body_of_step step) contents)

-- of the fragments that a writer has cut since then it is told that they are those of what it had gathered and took
pub record IsToldFrom (t : State) (w : WriterSeen) (bytes : List ℕ) (contents : Contents) : Type 0 where
  pub vectors : TellsVectors contents
  pub cut : (row : PutRow) → put_of t w.put ≡ Some row → (index : ℕ) → length w.cuts < index → index ≤ length row.cuts
      → IfSome (contents (fragment_piece row.key w.put index) None) (λ c. c ≡ record {
        start = (index - 1) * t.geometry.fragment;
        payload = piece_of t.geometry.fragment (w.gathered ++ bytes) (index - length w.cuts);
      })
