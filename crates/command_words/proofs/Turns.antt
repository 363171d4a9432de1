-- One word of a walk over parameters alone: a flag is refused, `--` is passed over, and any other word is a value.
use Rattle.std.proofs.Common.{◌≡◌, ◌∙◌, ℕ, Bool, true, false, zero, suc, refl, sym, ap, ap₂, subst, arith, List, [], ◌∷◌, ◌++◌, length, Option, Some, None, codes, drop, eqb-true}
use Rattle.std.specs.Prelude.{◌==◌, map, string_bytes, if◌then◌else◌, slice_get}
use Rattle.std.specs.Option.{option_map_or}
use Rattle.std.specs.Str.{IsUtf8, bytes_eq, chars}
use Rattle.std.specs.Char.{encode_utf8}
use Rattle.std.specs.declared.string.String.{String}
use lib.Utf8.{encodes}
use Rattle.std.proofs.lemmas.Str.{IsUtf8-past_char, IsUtf8-string_bytes, encodes-chars, encode_ascii}
use Rattle.clap.specs.Lexer.{long_of, name_and_value, short_of}
use Rattle.clap.specs.Walk.{Held, Names, Row, Step, Text, Walk, after_step, arg_by_index, arg_by_long, arg_by_short, idle, long_or_other, short_or_plain, subcommand_met, subcommand_or_other, to_positional, trailing, value, walked, word_met}
use Rattle.clap.specs.Simple.{Shape}
use Rattle.clap.specs.Kinds.{Kinds, or_else}
use Rattle.clap.specs.Faults.{bundle_fault, bundle_step_fault, flag_word_fault, flags_fault, long_fault, other_fault, short_fault, step_fault, turn_fault, word_fault}
use Rattle.clap.specs.declared.error.kind.ErrorKind.TheVariants as kind
use Rattle.command_words.specs.Words.{is_dashes, is_flag}

-- the words are texts
abbrev pub AreTexts : List Text → Type 0
AreTexts [] = Unit {0}
AreTexts (w ∷ ws) = IsUtf8 w × AreTexts ws

pub are_texts : {A : Type 0} (words : List (String A)) → AreTexts (map string_bytes words)
are_texts [] = tt
are_texts (w ∷ ws) = (IsUtf8-string_bytes w, are_texts ws)

-- ---- what a word looks like

-- the word is not `--`, and clap reads it as a flag or an option
pub data Flag : Text → Type 0 where
  long_flag : {w : Text} (p : Text × Option Text) → bytes_eq w (codes "--") ≡ false → long_of w ≡ Some p → Flag w
  short_flag : {w : Text} (x c : ℕ) (cs : Text) → bytes_eq w (codes "--") ≡ false → long_of w ≡ None → short_of w ≡ Some (c ∷ cs) → slice_get (chars (c ∷ cs)) 0 ≡ Some x → Flag w

-- it reads it as a value
pub record IsValue (w : Text) : Type 0 where
  pub dashes : bytes_eq w (codes "--") ≡ false
  pub long : long_of w ≡ None
  pub short : short_of w ≡ None

some_char : (c : ℕ) (cs : Text) (xs : List ℕ) → encodes xs ≡ c ∷ cs → (x : ℕ) × (slice_get xs 0 ≡ Some x)
some_char c cs [] e = let bad : 0 ≡ length (c ∷ cs) = ap length e in absurd (omega (arith, bad))
some_char c cs (x ∷ xs) e = (x, refl)

-- some flags of a text have a first character
first_char : (c : ℕ) (cs : Text) → IsUtf8 (45 ∷ c ∷ cs) → (x : ℕ) × (slice_get (chars (c ∷ cs)) 0 ≡ Some x)
first_char c cs u =
    let rest : IsUtf8 (c ∷ cs) = IsUtf8-past_char (45 ∷ c ∷ cs) (c ∷ cs) 45 u (ap (λ l. l ++ (c ∷ cs)) (sym (encode_ascii 45 (omega arith)))) in
    some_char c cs (chars (c ∷ cs)) (encodes-chars (c ∷ cs) rest)

-- what a word is, by the two tests of a parameter
pub data Look (w : Text) : Type 0 where
  mark : w ≡ codes "--" → Look w
  option : is_dashes w ≡ false → is_flag w ≡ true → Flag w → Look w
  plain : is_dashes w ≡ false → is_flag w ≡ false → IsValue w → Look w

-- one that begins with `-`
dashed : (d : ℕ) (rest : Text) → IsUtf8 (45 ∷ d ∷ rest) → (b : Bool) → b ≡ (d == 45) → Look (45 ∷ d ∷ rest)
dashed d [] u true e = mark (ap (λ x. 45 ∷ x ∷ []) (eqb-true d 45 (sym e)))
dashed d (r ∷ rs) u true e = option (rw (← e) refl) refl (long_flag (name_and_value (r ∷ rs)) (rw (← e) refl) (rw (← e) refl))
dashed d rest u false e =
    let first = first_char d rest u in
    option (rw (← e) refl) refl (short_flag first.0 d rest (rw (← e) refl) (rw (← e) refl) (rw (← e) refl) first.1)

longer : (c d : ℕ) (rest : Text) → IsUtf8 (c ∷ d ∷ rest) → (b : Bool) → b ≡ (c == 45) → Look (c ∷ d ∷ rest)
longer c d rest u true e =
    let is : c ≡ 45 = eqb-true c 45 (sym e) in
    subst (λ x. Look (x ∷ d ∷ rest)) (sym is) (dashed d rest (subst (λ x. IsUtf8 (x ∷ d ∷ rest)) is u) (d == 45) refl)
longer c d rest u false e = plain (rw (← e) refl) (sym e) (record { dashes = rw (← e) refl; long = rw (← e) refl; short = rw (← e) refl })

single : (c : ℕ) (b : Bool) → b ≡ (c == 45) → Look (c ∷ [])
single c true e = plain (rw (← e) refl) refl (record { dashes = rw (← e) refl; long = rw (← e) refl; short = rw (← e) refl })
single c false e = plain (rw (← e) refl) refl (record { dashes = rw (← e) refl; long = rw (← e) refl; short = rw (← e) refl })

pub look : (w : Text) → IsUtf8 w → Look w
look [] u = plain refl refl (record { dashes = refl; long = refl; short = refl })
look (c ∷ []) u = single c (c == 45) refl
look (c ∷ d ∷ rest) u = longer c d rest u (c == 45) refl

-- ---- one turn, over rules that nd flag names, where nothing waits

abbrev pub at : Held → ℕ → Bool → Walk
at h position t = record { held = h; waiting = idle; position = position; is_trailing = t; stopped = None }

module _ (s : Shape) (names : Names) (rows : List Row) (pending : Option (Text × List Text)) (position : ℕ) where
  abbrev h : Held
  h = record { rows = rows; pending = pending; skip = 0 }

  value_met : (w : Text) → subcommand_met names idle w ≡ None → IsValue w → word_met s.rules names false idle position w h ≡ (h, value)
  value_met w none v =
      ap (λ o. subcommand_or_other s.rules o idle position w h) none
      ∙ ap (λ (b : Bool). if b then (h, trailing position) else long_or_other s.rules idle w (long_of w) h) v.dashes
      ∙ ap (λ o. long_or_other s.rules idle w o h) v.long
      ∙ ap (λ o. short_or_plain s.rules idle w o h) v.short

  value_fault : (w : Text) → subcommand_met names idle w ≡ None → IsValue w → word_fault s names false idle w h ≡ []
  value_fault w none v =
      ap (λ o. other_fault s o w h) none
      ∙ ap (λ (b : Bool). if b then [] else flag_word_fault s.rules s.args_override_self (long_of w) w h) v.dashes
      ∙ ap (λ o. flag_word_fault s.rules s.args_override_self o w h) v.long
      ∙ ap (λ o. option_map_or (λ flags. bundle_fault s.rules s.args_override_self flags h) o []) v.short

  pub value_turn : (w : Text) → subcommand_met names idle w ≡ None → IsValue w → turn_fault s names (at h position false) w ≡ step_fault s position h value
  value_turn w none v =
      ap₂ (λ (k : Kinds) (m : Held × Step). or_else k (step_fault s position m.0 m.1)) (value_fault w none v) (value_met w none v)

  pub value_walk : (w : Text) → subcommand_met names idle w ≡ None → IsValue w
      → walked s.rules names (at h position false) w ≡ to_positional s.rules (arg_by_index s.rules position) w (at h position false) h
  unfolding walked
  value_walk w none v = ap (λ (m : Held × Step). after_step s.rules w (at h position false) m.0 m.1) (value_met w none v)

  module _ (no_long : (name : Text) → arg_by_long s.rules name ≡ None) (no_short : (x : ℕ) → arg_by_short s.rules x ≡ None) where
    flags_refused : (x c : ℕ) (cs : Text) → slice_get (chars (c ∷ cs)) 0 ≡ Some x → (k : ℕ) → k ≡ length (c ∷ cs)
        → flags_fault s.rules s.args_override_self k (c ∷ cs) 0 h ≡ kind.UnknownArgument ∷ []
    unfolding flags_fault
    flags_refused x c cs first zero e = absurd (omega (arith, e))
    flags_refused x c cs first (suc k) e =
        ap (λ o. bundle_step_fault s.rules s.args_override_self o (c ∷ cs) 0 h (flags_fault s.rules s.args_override_self k)) first
        ∙ ap (λ o. short_fault s.rules s.args_override_self o (drop (length (encode_utf8 x)) (c ∷ cs)) h (flags_fault s.rules s.args_override_self k (drop (length (encode_utf8 x)) (c ∷ cs)) 0)) (no_short x)

    flag_refused : (w : Text) → Flag w → flag_word_fault s.rules s.args_override_self (long_of w) w h ≡ kind.UnknownArgument ∷ []
    flag_refused w (long_flag p nd is) =
        ap (λ o. flag_word_fault s.rules s.args_override_self o w h) is ∙ ap (λ o. long_fault s.rules s.args_override_self o p.1 h) (no_long p.0)
    flag_refused w (short_flag x c cs nd is flags first) =
        ap (λ o. flag_word_fault s.rules s.args_override_self o w h) is
        ∙ ap (λ o. option_map_or (λ flags. bundle_fault s.rules s.args_override_self flags h) o []) flags
        ∙ flags_refused x c cs first (length (c ∷ cs)) refl

    not_dashes : (w : Text) → Flag w → bytes_eq w (codes "--") ≡ false
    not_dashes w (long_flag p nd is) = nd
    not_dashes w (short_flag x c cs nd is flags first) = nd

    pub flag_turn : (w : Text) → subcommand_met names idle w ≡ None → Flag w → turn_fault s names (at h position false) w ≡ kind.UnknownArgument ∷ []
    flag_turn w none f =
        let word : word_fault s names false idle w h ≡ kind.UnknownArgument ∷ [] =
        ap (λ o. other_fault s o w h) none
        ∙ ap (λ (b : Bool). if b then [] else flag_word_fault s.rules s.args_override_self (long_of w) w h) (not_dashes w f)
        ∙ flag_refused w f in
        let met = word_met s.rules names false idle position w h in
        ap (λ (k : Kinds). or_else k (step_fault s position met.0 met.1)) word
