-- What a subcommand makes of the words behind it: as many parameters as it has rules.
use Rattle.std.proofs.Common.{◌≡◌, ◌∙◌, Bool, true, false, refl, sym, subst, ap, ap₂, List, [], ◌∷◌, Option, Some, None, codes}
use Rattle.std.specs.Prelude.{if◌then◌else◌, fold, option_map, option_and_then}
use Rattle.clap.specs.Walk.{Held, Row, Rule, Text, Walk, finished, nothing_held, reading_by, settled, walk_from, walked}
use Rattle.clap.specs.Simple.{Shape, filled_from, new_shape}
use Rattle.clap.specs.Kinds.{Kinds, or_else}
use Rattle.clap.specs.Faults.{check_fault, defaults_fault, settle_fault, turn_fault, walk_fault}
use Rattle.clap.specs.declared.parser.matches.ValueSource.TheVariants.{CommandLine}
use Rattle.clap.proofs.OnLiterals.{clap_on_literals}
use Rattle.command_words.specs.Words.{is_dashes, is_flag, params}
use Rattle.command_words.specs.Line.{given, is_taken}
use Rattle.command_words.proofs.Turns.{AreTexts, Look, at, flag_turn, look, mark, option, plain, value_turn, value_walk}

-- a subcommand as it is built
abbrev pub leaf : Text → List Rule → Shape
leaf name rules = record (new_shape name) {
  rules = filled_from 1 rules;
  no_binary_name = true;
  disable_help_flag = true;
  disable_help_subcommand = true;
  is_built = true;
}

abbrev row : Text → Text → Row
row id text = record { id = id; values = text ∷ []; count = None; source = Some CommandLine; reading = reading_by (given id) }

-- ---- the end of a walk from here

abbrev pub ending : Shape → Held → Kinds
ending s end = or_else (settle_fault s.rules s.args_override_self end)
    (or_else (defaults_fault (settled s.rules end).rows s.rules) (check_fault s (finished s.rules end) false))

-- the rows, where neither these kinds nor the rest of the walk has a fault
abbrev from : Shape → Kinds → Walk → List Text → Option (List Row)
from s k w ws =
    let end = (fold (walked s.rules []) w ws).held in
    if is_taken (or_else (or_else k (walk_fault s [] w ws)) (ending s end)) then Some (finished s.rules end) else None

abbrev pub rows_from : Shape → Walk → List Text → Option (List Row)
rows_from s w ws = from s [] w ws

-- where a walk over all the words ends
abbrev pub end_of : Shape → List Text → Held
end_of s ws = (fold (walked s.rules []) (walk_from nothing_held) ws).held

-- one word more
step : (s : Shape) (w next : Walk) (word : Text) (ws : List Text) (k : Kinds) → turn_fault s [] w word ≡ k → walked s.rules [] w word ≡ next
    → rows_from s w (word ∷ ws) ≡ from s k next ws
unfolding walk_fault
step s w next word ws k fault is = ap₂ (λ (k : Kinds) (x : Walk). from s k x ws) fault is

-- the parameters from a word on that is a value
value_params : (w : Text) (ws : List Text) → is_dashes w ≡ false → is_flag w ≡ false → params (w ∷ ws) ≡ option_map (λ ps. w ∷ ps) (params ws)
value_params w ws nd pl = ap (λ (b : Bool). if b then Some ws else (if is_flag w then None else option_map (λ ps. w ∷ ps) (params ws))) nd
    ∙ ap (λ (b : Bool). if b then None else option_map (λ ps. w ∷ ps) (params ws)) pl

flag_params : (w : Text) (ws : List Text) → is_dashes w ≡ false → is_flag w ≡ true → params (w ∷ ws) ≡ None
flag_params w ws nd is = ap (λ (b : Bool). if b then Some ws else (if is_flag w then None else option_map (λ ps. w ∷ ps) (params ws))) nd
    ∙ ap (λ (b : Bool). if b then None else option_map (λ ps. w ∷ ps) (params ws)) is

-- ---- no parameter

abbrev pub no_rows : List Text → Option (List Row)
no_rows [] = Some []
no_rows (p ∷ ps) = None

abbrev pub one_row : List Text → Option (List Row)
one_row [] = None
one_row (p ∷ []) = Some (row (codes "parameter") p ∷ [])
one_row (p ∷ q ∷ ps) = None

-- what rows come of further parameters
abbrev Then : (List Text → Option (List Row)) → Option (List Text) → Option (List Row)
Then rows o = option_and_then rows o

-- one parameter more stands before the others
more : (rows : List Text → Option (List Row)) (w : Text) (o : Option (List Text)) → Then rows (option_map (λ ps. w ∷ ps) o) ≡ Then (λ ps. rows (w ∷ ps)) o
more rows w None = refl
more rows w (Some ps) = refl

nothing : (rows : List Text → Option (List Row)) → ((ps : List Text) → rows ps ≡ None) → (o : Option (List Text)) → None ≡ Then rows o
nothing rows never None = refl
nothing rows never (Some ps) = sym (never ps)

at_value : (rows : List Text → Option (List Row)) (w : Text) (ws : List Text) → is_dashes w ≡ false → is_flag w ≡ false → Then (λ ps. rows (w ∷ ps)) (params ws) ≡ Then rows (params (w ∷ ws))
at_value rows w ws nd is = sym (ap (Then rows) (value_params w ws nd is) ∙ more rows w (params ws))

at_flag : (rows : List Text → Option (List Row)) (w : Text) (ws : List Text) → is_dashes w ≡ false → is_flag w ≡ true → None ≡ Then rows (params (w ∷ ws))
at_flag rows w ws nd is = sym (ap (Then rows) (flag_params w ws nd is))

module _ (name : Text) where
  abbrev pub none : Shape
  none = leaf name []

  none_behind : (ws : List Text) → rows_from none (at nothing_held 1 true) ws ≡ no_rows ws
  unfolding clap_on_literals
  none_behind [] = refl
  none_behind (w ∷ ws) = refl

  none_word : (w : Text) (ws : List Text) → Look w → rows_from none (at nothing_held 1 false) (w ∷ ws) ≡ Then no_rows (params (w ∷ ws))
  unfolding clap_on_literals
  none_word w ws (mark is) = subst (λ (y : Text). rows_from none (at nothing_held 1 false) (y ∷ ws) ≡ Then no_rows (params (y ∷ ws))) (sym is) (none_behind ws)
  none_word w ws (option nd is f) = step none (at nothing_held 1 false) (walked none.rules [] (at nothing_held 1 false) w) w ws _ (flag_turn none [] [] None 1 (λ n. refl) (λ x. refl) w refl f) refl ∙ at_flag no_rows w ws nd is
  none_word w ws (plain nd is v) =
      step none (at nothing_held 1 false) _ w ws _ (value_turn none [] [] None 1 w refl v) (value_walk none [] [] None 1 w refl v)
      ∙ nothing (λ ps. no_rows (w ∷ ps)) (λ ps. refl) (params ws) ∙ at_value no_rows w ws nd is

  pub none_rows : (ws : List Text) → AreTexts ws → rows_from none (walk_from nothing_held) ws ≡ Then no_rows (params ws)
  unfolding clap_on_literals
  none_rows [] u = refl
  none_rows (w ∷ ws) u = none_word w ws (look w u.0)

  -- ---- one parameter

  abbrev pub one : Shape
  one = leaf name (given (codes "parameter") ∷ [])

  abbrev named : Text → Held
  named v = record { rows = []; pending = Some (codes "parameter", v ∷ []); skip = 0 }

  one_behind_more : (v : Text) (ws : List Text) → rows_from one (at (named v) 2 true) ws ≡ one_row (v ∷ ws)
  unfolding clap_on_literals
  one_behind_more v [] = refl
  one_behind_more v (w ∷ ws) = refl

  one_behind : (ws : List Text) → rows_from one (at nothing_held 1 true) ws ≡ one_row ws
  unfolding clap_on_literals
  one_behind [] = refl
  one_behind (w ∷ ws) = one_behind_more w ws

  one_more_word : (v w : Text) (ws : List Text) → Look w → rows_from one (at (named v) 2 false) (w ∷ ws) ≡ Then (λ ps. one_row (v ∷ ps)) (params (w ∷ ws))
  unfolding clap_on_literals
  one_more_word v w ws (mark is) = subst (λ (y : Text). rows_from one (at (named v) 2 false) (y ∷ ws) ≡ Then (λ ps. one_row (v ∷ ps)) (params (y ∷ ws))) (sym is) (one_behind_more v ws)
  one_more_word v w ws (option nd is f) =
      step one (at (named v) 2 false) (walked one.rules [] (at (named v) 2 false) w) w ws _ (flag_turn one [] [] (named v).pending 2 (λ n. refl) (λ x. refl) w refl f) refl ∙ at_flag (λ ps. one_row (v ∷ ps)) w ws nd is
  one_more_word v w ws (plain nd is x) =
      step one (at (named v) 2 false) _ w ws _ (value_turn one [] [] (named v).pending 2 w refl x) (value_walk one [] [] (named v).pending 2 w refl x)
      ∙ nothing (λ ps. one_row (v ∷ w ∷ ps)) (λ ps. refl) (params ws) ∙ at_value (λ ps. one_row (v ∷ ps)) w ws nd is

  one_more : (v : Text) (ws : List Text) → AreTexts ws → rows_from one (at (named v) 2 false) ws ≡ Then (λ ps. one_row (v ∷ ps)) (params ws)
  unfolding clap_on_literals
  one_more v [] u = refl
  one_more v (w ∷ ws) u = one_more_word v w ws (look w u.0)

  one_word : (w : Text) (ws : List Text) → AreTexts ws → Look w → rows_from one (at nothing_held 1 false) (w ∷ ws) ≡ Then one_row (params (w ∷ ws))
  unfolding clap_on_literals
  one_word w ws u (mark is) = subst (λ (y : Text). rows_from one (at nothing_held 1 false) (y ∷ ws) ≡ Then one_row (params (y ∷ ws))) (sym is) (one_behind ws)
  one_word w ws u (option nd is f) = step one (at nothing_held 1 false) (walked one.rules [] (at nothing_held 1 false) w) w ws _ (flag_turn one [] [] None 1 (λ n. refl) (λ x. refl) w refl f) refl ∙ at_flag one_row w ws nd is
  one_word w ws u (plain nd is x) =
      step one (at nothing_held 1 false) _ w ws _ (value_turn one [] [] None 1 w refl x) (value_walk one [] [] None 1 w refl x)
      ∙ one_more w ws u ∙ at_value one_row w ws nd is

  pub one_rows : (ws : List Text) → AreTexts ws → rows_from one (walk_from nothing_held) ws ≡ Then one_row (params ws)
  unfolding clap_on_literals
  one_rows [] u = refl
  one_rows (w ∷ ws) u = one_word w ws u.1 (look w u.0)
