-- What `clap` makes of all the words.
use Rattle.std.proofs.Common.{◌≡◌, ◌∙◌, Bool, true, false, refl, sym, subst, ap, ap₂, List, [], ◌∷◌, ◌++◌, append_assoc, append-nil, Option, Some, None, codes}
use Rattle.std.specs.Prelude.{if◌then◌else◌, fold, is_some, option_map, option_and_then}
use Rattle.std.specs.Str.{IsUtf8, bytes_eq}
use Rattle.std.specs.Cmp.Lexicographic.{other_text, same_text}
use Rattle.clap.specs.Walk.{Names, Row, Text, Walk, finished, idle, nothing_held, settled, subcommand_met, walk_from, walked}
use Rattle.clap.specs.Simple.{Shape, built, entered, names_of}
use Rattle.clap.specs.Kinds.{Kinds, or_else}
use Rattle.clap.specs.Faults.{check_fault, defaults_fault, entered_fault, settle_fault, turn_fault, walk_fault}
use Rattle.clap.proofs.OnLiterals.{clap_on_literals}
use Rattle.command_words.specs.Words.{Wish, checks, command_of, command_verb, inspects, params, replays, wish_by, works}
use Rattle.command_words.specs.Line.{is_taken, command_app, told_by_clap, wish_in}
use Rattle.command_words.proofs.Turns.{AreTexts, Look, flag_turn, look, mark, option, plain, value_turn}
use Rattle.command_words.proofs.Leaves.{end_of, ending, no_rows, none, none_rows, one, one_row, one_rows, rows_from}

abbrev top : Shape
top = (built command_app).top

abbrev names : Names
names = names_of (built command_app)

-- ---- behind a command's word the walk only gathers

abbrev stopped_at : Text → List Text → Walk
stopped_at name words = record { held = nothing_held; waiting = idle; position = 1; is_trailing = false; stopped = Some (name, words) }

gathers : (name : Text) (before ws : List Text) → fold (walked top.rules names) (stopped_at name before) ws ≡ stopped_at name (before ++ ws)
unfolding walked
gathers name before [] = ap (stopped_at name) (sym (append-nil before))
gathers name before (w ∷ ws) = gathers name (before ++ w ∷ []) ws ∙ ap (stopped_at name) (append_assoc before (w ∷ []) ws)

no_fault : (name : Text) (before ws : List Text) → walk_fault top names (stopped_at name before) ws ≡ []
unfolding walked walk_fault
no_fault name before [] = refl
no_fault name before (w ∷ ws) = no_fault name (before ++ w ∷ []) ws

-- ---- the whole, by the faults of the walk and its end

abbrev faults_after : Kinds → Walk → Kinds
faults_after k w = or_else k (or_else (entered_fault (built command_app) w.stopped) (or_else (settle_fault top.rules top.args_override_self w.held)
    (or_else (defaults_fault (settled top.rules w.held).rows top.rules) (check_fault top (finished top.rules w.held) (is_some (entered (built command_app) w.stopped))))))

abbrev top_told : Kinds → Walk → Option (Option (Text × List Row))
top_told k w = if is_taken (faults_after k w) then Some (entered (built command_app) w.stopped) else None

told_is : (ws : List Text) → told_by_clap ws ≡ top_told (walk_fault top names (walk_from nothing_held) ws) (fold (walked top.rules names) (walk_from nothing_held) ws)
told_is ws = refl

-- ---- a command's word

abbrev entered_as : Text → List Row → Option (Option (Text × List Row))
entered_as name rows = Some (Some (name, rows))

entered_told : (name : Text) (rows : List Row) (k e : Kinds)
    → (if is_taken (or_else (or_else k (or_else [] e)) []) then entered_as name rows else None)
    ≡ option_map (λ (r : List Row). Some (name, r)) (if is_taken (or_else (or_else [] k) e) then Some rows else None)
entered_told name rows [] [] = refl
entered_told name rows [] (x ∷ xs) = refl
entered_told name rows (x ∷ xs) e = refl

abbrev pub asks : Option (Option (Text × List Row)) → Option Wish
asks o = option_and_then (λ s. option_and_then wish_in s) o

abbrev named_told : Text → Option (List Row) → Option (Option (Text × List Row))
named_told name o = option_map (λ (r : List Row). Some (name, r)) o

gathered : (name : Text) (w : Text) (ws : List Text) → turn_fault top names (walk_from nothing_held) w ≡ [] → walked top.rules names (walk_from nothing_held) w ≡ stopped_at name []
    → told_by_clap (w ∷ ws) ≡ top_told [] (stopped_at name ws)
unfolding walk_fault
gathered name w ws fault is =
    ap₂ (λ (k : Kinds) (x : Walk). top_told (or_else k (walk_fault top names x ws)) (fold (walked top.rules names) x ws)) fault is
    ∙ ap₂ top_told (no_fault name [] ws) (gathers name [] ws)

replay_told : (ws : List Text) → told_by_clap (codes "replay" ∷ ws) ≡ named_told (codes "replay") (rows_from (none (codes "replay")) (walk_from nothing_held) ws)
unfolding clap_on_literals
replay_told ws = gathered (codes "replay") (codes "replay") ws refl refl
    ∙ entered_told (codes "replay") (finished (none (codes "replay")).rules (end_of (none (codes "replay")) ws)) (walk_fault (none (codes "replay")) [] (walk_from nothing_held) ws) (ending (none (codes "replay")) (end_of (none (codes "replay")) ws))

work_told : (ws : List Text) → told_by_clap (codes "work" ∷ ws) ≡ named_told (codes "work") (rows_from (one (codes "work")) (walk_from nothing_held) ws)
unfolding clap_on_literals
work_told ws = gathered (codes "work") (codes "work") ws refl refl
    ∙ entered_told (codes "work") (finished (one (codes "work")).rules (end_of (one (codes "work")) ws)) (walk_fault (one (codes "work")) [] (walk_from nothing_held) ws) (ending (one (codes "work")) (end_of (one (codes "work")) ws))

inspect_told : (ws : List Text) → told_by_clap (codes "inspect" ∷ ws) ≡ named_told (codes "inspect") (rows_from (one (codes "inspect")) (walk_from nothing_held) ws)
unfolding clap_on_literals
inspect_told ws = gathered (codes "inspect") (codes "inspect") ws refl refl
    ∙ entered_told (codes "inspect") (finished (one (codes "inspect")).rules (end_of (one (codes "inspect")) ws)) (walk_fault (one (codes "inspect")) [] (walk_from nothing_held) ws) (ending (one (codes "inspect")) (end_of (one (codes "inspect")) ws))

check_told : (ws : List Text) → told_by_clap (codes "check" ∷ ws) ≡ named_told (codes "check") (rows_from (one (codes "check")) (walk_from nothing_held) ws)
unfolding clap_on_literals
check_told ws = gathered (codes "check") (codes "check") ws refl refl
    ∙ entered_told (codes "check") (finished (one (codes "check")).rules (end_of (one (codes "check")) ws)) (walk_fault (one (codes "check")) [] (walk_from nothing_held) ws) (ending (one (codes "check")) (end_of (one (codes "check")) ws))

-- ---- what these ask for

replay_asks : (o : Option (List Text)) → asks (named_told (codes "replay") (option_and_then no_rows o)) ≡ option_and_then (wish_by replays) o
replay_asks None = refl
replay_asks (Some []) = refl
replay_asks (Some (p ∷ [])) = refl
replay_asks (Some (p ∷ q ∷ ps)) = refl

work_asks : (o : Option (List Text)) → asks (named_told (codes "work") (option_and_then one_row o)) ≡ option_and_then (wish_by works) o
work_asks None = refl
work_asks (Some []) = refl
work_asks (Some (p ∷ [])) = refl
work_asks (Some (p ∷ q ∷ ps)) = refl

inspect_asks : (o : Option (List Text)) → asks (named_told (codes "inspect") (option_and_then one_row o)) ≡ option_and_then (wish_by inspects) o
inspect_asks None = refl
inspect_asks (Some []) = refl
inspect_asks (Some (p ∷ [])) = refl
inspect_asks (Some (p ∷ q ∷ ps)) = refl

check_asks : (o : Option (List Text)) → asks (named_told (codes "check") (option_and_then one_row o)) ≡ option_and_then (wish_by checks) o
check_asks None = refl
check_asks (Some []) = refl
check_asks (Some (p ∷ [])) = refl
check_asks (Some (p ∷ q ∷ ps)) = refl

-- ---- any other first word

record IsNone (w : Text) : Type 0 where
  replay : bytes_eq w (codes "replay") ≡ false
  work : bytes_eq w (codes "work") ≡ false
  inspect : bytes_eq w (codes "inspect") ≡ false
  check : bytes_eq w (codes "check") ≡ false

flip : (x y : Text) → bytes_eq x y ≡ false → bytes_eq y x ≡ false
flip x y e = go (bytes_eq y x) refl
  where
    go : (b : Bool) → b ≡ bytes_eq y x → bytes_eq y x ≡ false
    go true t = absurd (other_text x y (sym e) (sym (same_text y x t)))
    go false t = sym t

not_met : (w : Text) → IsNone w → subcommand_met names idle w ≡ None
not_met w n = rw (flip w (codes "replay") n.replay, flip w (codes "work") n.work, flip w (codes "inspect") n.inspect, flip w (codes "check") n.check) refl

no_verb : (w : Text) → IsNone w → command_verb w ≡ None
no_verb w n = rw (n.replay, n.work, n.inspect, n.check) refl

behind_mark : (ws : List Text) → told_by_clap (codes "--" ∷ ws) ≡ None
unfolding clap_on_literals
behind_mark [] = refl
behind_mark (w ∷ ws) = refl

none_told : (w : Text) (ws : List Text) → IsNone w → Look w → told_by_clap (w ∷ ws) ≡ None
unfolding clap_on_literals
none_told w ws n (mark is) = subst (λ (y : Text). told_by_clap (y ∷ ws) ≡ None) (sym is) (behind_mark ws)
none_told w ws n (option nd is f) =
    ap (λ (k : Kinds). top_told (or_else k (walk_fault top names (walked top.rules names (walk_from nothing_held) w) ws)) (fold (walked top.rules names) (walk_from nothing_held) (w ∷ ws)))
    (flag_turn top names [] None 1 (λ n. refl) (λ x. refl) w (not_met w n) f)
none_told w ws n (plain nd is v) =
    ap (λ (k : Kinds). top_told (or_else k (walk_fault top names (walked top.rules names (walk_from nothing_held) w) ws)) (fold (walked top.rules names) (walk_from nothing_held) (w ∷ ws)))
    (value_turn top names [] None 1 w (not_met w n) v)

-- ---- together

abbrev Tells : Text → List Text → Type 0
Tells w ws = asks (told_by_clap (w ∷ ws)) ≡ command_of (w ∷ ws)

module _ (w : Text) (ws : List Text) (u : IsUtf8 w) (us : AreTexts ws) where
  by_check : (b : Bool) → b ≡ bytes_eq w (codes "check") → bytes_eq w (codes "replay") ≡ false → bytes_eq w (codes "work") ≡ false → bytes_eq w (codes "inspect") ≡ false → Tells w ws
  by_check true e r k i = subst (λ (x : Text). Tells x ws) (sym (same_text w (codes "check") e)) (ap asks (check_told ws ∙ ap (named_told (codes "check")) (one_rows (codes "check") ws us)) ∙ check_asks (params ws))
  by_check false e r k i =
      let n : IsNone w = record { replay = r; work = k; inspect = i; check = sym e } in
      ap asks (none_told w ws n (look w u)) ∙ sym (ap (λ o. option_and_then (λ verb. option_and_then (wish_by verb) (params ws)) o) (no_verb w n))

  by_inspect : (b : Bool) → b ≡ bytes_eq w (codes "inspect") → bytes_eq w (codes "replay") ≡ false → bytes_eq w (codes "work") ≡ false → Tells w ws
  by_inspect true e r k = subst (λ (x : Text). Tells x ws) (sym (same_text w (codes "inspect") e)) (ap asks (inspect_told ws ∙ ap (named_told (codes "inspect")) (one_rows (codes "inspect") ws us)) ∙ inspect_asks (params ws))
  by_inspect false e r k = by_check (bytes_eq w (codes "check")) refl r k (sym e)

  by_work : (b : Bool) → b ≡ bytes_eq w (codes "work") → bytes_eq w (codes "replay") ≡ false → Tells w ws
  by_work true e r = subst (λ (x : Text). Tells x ws) (sym (same_text w (codes "work") e)) (ap asks (work_told ws ∙ ap (named_told (codes "work")) (one_rows (codes "work") ws us)) ∙ work_asks (params ws))
  by_work false e r = by_inspect (bytes_eq w (codes "inspect")) refl r (sym e)

  by_replay : (b : Bool) → b ≡ bytes_eq w (codes "replay") → Tells w ws
  by_replay true e = subst (λ (x : Text). Tells x ws) (sym (same_text w (codes "replay") e)) (ap asks (replay_told ws ∙ ap (named_told (codes "replay")) (none_rows (codes "replay") ws us)) ∙ replay_asks (params ws))
  by_replay false e = by_work (bytes_eq w (codes "work")) refl (sym e)

pub tells : (ws : List Text) → AreTexts ws → asks (told_by_clap ws) ≡ command_of ws
unfolding clap_on_literals
tells [] u = refl
tells (w ∷ ws) u = by_replay w ws u.0 u.1 (bytes_eq w (codes "replay")) refl
