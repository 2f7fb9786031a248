-- Where clap finds no fault in the words, the command takes them.
use Rattle.std.proofs.Common.{◌≡◌, ◌∙◌, ◌&&◌, ◌||◌, ℕ, Bool, true, false, not, cond, zero, suc, refl, sym, arith, List, [], ◌∷◌, length, drop, min, nat_le, Option, Some, None, is_some, true≢false}
use Rattle.std.specs.Prelude.{◌==◌, ◌+◌, nat_lt, encode_utf8, slice_get, codes}
use Rattle.std.specs.List.{list_all, list_any}
use Rattle.std.specs.Option.{option_map_or}
use Rattle.std.specs.Str.{bytes_eq, chars}
use Rattle.clap.specs.Lexer.{long_of, short_of}
use Rattle.clap.specs.Facts.{explicit_source, parser_of_value, unwrap_or_range}
use Rattle.clap.specs.Kinds.{Kinds, or_else, range_kinds, value_kinds}
use Rattle.clap.specs.Values.{refused_kind}
use Rattle.clap.specs.ValueTests.{accepts}
use Rattle.clap.specs.Matches.{count_text}
use Rattle.clap.specs.Walk.{count_of, Held, Names, Row, Rule, Step, Text, Waiting, Walk, action_of, arg_by_id, arg_by_index, arg_by_long, arg_by_short}
use Rattle.clap.specs.Walk.{attached_value, finished, has_row, is_pending, most_values, next, nothing_held, reacted, settled, subcommand, subcommand_met}
use Rattle.clap.specs.Walk.{takes_several, takes_values, trailing, value, values_or_missing, walk, walk_from, walked, word_met}
use Rattle.clap.specs.Simple.{App, Shape, argument_words, built, is_simple}
use Rattle.clap.specs.Takes.{action_passes, count_passes, bundle_step_passes, default_passes, flag_word_passes, flags_pass, is_given, is_valid, level_passes}
use Rattle.clap.specs.Takes.{long_passes, option_passes, other_passes, positional_passes, react_passes, set_passes, settle_passes, short_passes, step_passes}
use Rattle.clap.specs.Takes.{takes, turn_passes, use_passes, values_pass, walk_passes, word_passes}
use Rattle.clap.specs.Faults.{action_fault, count_fault, defaults_fault, bundle_step_fault, check_fault, fault_of, flag_word_fault, flags_fault, level_fault}
use Rattle.clap.specs.Faults.{long_fault, option_fault, other_fault, positional_fault, react_fault, set_fault, settle_fault, short_fault, step_fault}
use Rattle.clap.specs.Faults.{stray_fault, turn_fault, use_fault, values_fault, walk_fault, word_fault}
use Rattle.clap.specs.declared.builder.action.ArgAction.{ArgAction}
use Rattle.clap.specs.declared.builder.action.ArgAction.TheVariants as action
use Rattle.clap.proofs.TakesLemmas.{leaf_takes}
use Rattle.clap.proofs.FaultLemmas.{leaf_fault}
use Rattle.std.proofs.lemmas.Bool.Decides.{nat_tests}
use Rattle.clap.specs.declared.builder.value_parser.ValueParser.{ValueParser}
use Rattle.clap.specs.declared.error.kind.ErrorKind.{ErrorKind}
use Rattle.clap.specs.declared.error.kind.ErrorKind.TheVariants as kind

-- where neither of two steps has a kind
no_first : (a b : Kinds) → or_else a b ≡ [] → a ≡ []
no_first [] b none = refl
no_first (k ∷ ks) b none = none

no_second : (a b : Kinds) → or_else a b ≡ [] → b ≡ []
no_second [] b none = none
no_second (k ∷ ks) b none = absurd (cc none)

and : (a b : Bool) → a ≡ true → b ≡ true → (a && b) ≡ true
and true b p q = q
and false b p q = absurd (true≢false (sym p))

-- a test that has kinds failed, and what is next has none
first_not : (b : Bool) (k : ErrorKind) (ks rest : Kinds) → cond b (k ∷ ks) rest ≡ [] → (b ≡ false) × (rest ≡ [])
first_not true k ks rest none = absurd (cc none)
first_not false k ks rest none = (refl, none)

only_where : (b : Bool) (k : ErrorKind) (ks : Kinds) → cond b [] (k ∷ ks) ≡ [] → b ≡ true
only_where true k ks none = refl
only_where false k ks none = absurd (cc none)

or_fine : (b : Bool) (ks : Kinds) (p : Bool) → (ks ≡ [] → p ≡ true) → cond b [] ks ≡ [] → (b || p) ≡ true
or_fine true ks p fine none = refl
or_fine false ks p fine none = fine none

option_fine : {X : Type 0} (o : Option X) (f : X → Kinds) (g : X → Bool) → ((x : X) → f x ≡ [] → g x ≡ true) → option_map_or f o [] ≡ [] → option_map_or g o true ≡ true
option_fine None f g fine none = refl
option_fine (Some x) f g fine none = fine x none

-- ---- values

value_is_fine : (ignore : Bool) (parser : ValueParser) (text : Text) → value_kinds ignore parser text ≡ [] → accepts ignore parser text ≡ true
value_is_fine ignore parser text none = only_where (accepts ignore parser text) (refused_kind parser) [] none

values_are_fine : (a : Rule) (values : List Text) → values_fault a values ≡ [] → values_pass a values ≡ true
values_are_fine a [] none = refl
values_are_fine a (v ∷ vs) none =
    and _ _ (value_is_fine a.ignore_case (parser_of_value a.parser) v (no_first _ _ none)) (values_are_fine a vs (no_second _ _ none))

range_is_fine : (least most n : ℕ) (same : Bool) → (least == most) ≡ same
    → cond same (cond (least == n) [] (kind.WrongNumberOfValues ∷ [])) (cond (nat_lt n least) (kind.TooFewValues ∷ []) (cond (nat_lt most n) (kind.TooManyValues ∷ []) [])) ≡ []
    → (nat_le least n ≡ true) × (nat_le n most ≡ true)
range_is_fine least most n true same none =
    let fits = only_where (least == n) kind.WrongNumberOfValues [] none in
    (grind (arith, nat_tests), grind (arith, nat_tests))
range_is_fine least most n false same none =
    let few = first_not (nat_lt n least) kind.TooFewValues [] _ none in
    let many = first_not (nat_lt most n) kind.TooManyValues [] _ few.1 in
    (grind (arith, nat_tests), grind (arith, nat_tests))

is_within : (least most n : ℕ) → range_kinds least most n ≡ [] → (nat_le least n ≡ true) × (nat_le n most ≡ true)
is_within least most n none = range_is_fine least most n (least == most) refl (first_not _ kind.InvalidValue [] _ none).1

-- ---- one use of an argument

not_both : (a b : Bool) → (a && not b) ≡ false → (not a || b) ≡ true
not_both true true h = refl
not_both true false h = absurd (true≢false h)
not_both false b h = refl

set_is_fine : (again : Bool) (a : Rule) (values : List Text) (rows : List Row) → set_fault again a values rows ≡ [] → set_passes again a values rows ≡ true
set_is_fine again a values rows none =
    and _ _ (not_both (has_row a.id rows) again (first_not _ kind.ArgumentConflict [] [] (no_first _ _ none)).0) (values_are_fine a values (no_second _ _ none))

count_is_fine : (a : Rule) (values : List Text) (rows : List Row) → count_fault a values rows ≡ [] → count_passes a values rows ≡ true
count_is_fine a [] rows none = value_is_fine a.ignore_case (parser_of_value a.parser) (count_text (min (count_of a.id rows + 1) 255)) none
count_is_fine a (v ∷ vs) rows none = values_are_fine a (v ∷ vs) none

action_is_fine : (x : ArgAction) (again : Bool) (a : Rule) (values : List Text) (rows : List Row) → action_fault x again a values rows ≡ []
    → action_passes x again a values rows ≡ true
action_is_fine action.Set again a values rows none = set_is_fine again a values rows none
action_is_fine action.SetTrue again a values rows none = set_is_fine again a values rows none
action_is_fine action.SetFalse again a values rows none = set_is_fine again a values rows none
action_is_fine action.Append again a values rows none = values_are_fine a values none
action_is_fine action.Count again a values rows none = count_is_fine a values rows none
action_is_fine action.Help again a values rows none = absurd (cc none)
action_is_fine action.HelpShort again a values rows none = absurd (cc none)
action_is_fine action.HelpLong again a values rows none = absurd (cc none)
action_is_fine action.Version again a values rows none = absurd (cc none)

use_is_fine : (again : Bool) (a : Rule) (values : List Text) (rows : List Row) → use_fault again a values rows ≡ [] → use_passes again a values rows ≡ true
use_is_fine again a values rows none =
    let within = is_within (unwrap_or_range a.range).start_inclusive (most_values a) (length values) (no_first _ _ none) in
    and _ _ within.0 (and _ _ within.1 (action_is_fine (action_of a) again a (values_or_missing a values) rows (no_second _ _ none)))

-- ---- the walk

module _ (c : List Rule) (again : Bool) where
  settle_is_fine : (h : Held) → settle_fault c again h ≡ [] → settle_passes c again h ≡ true
  settle_is_fine h none = option_fine h.pending _ _ (λ p. option_fine (arg_by_id c p.0) _ _ (λ a. use_is_fine again a p.1 h.rows)) none

  react_is_fine : (a : Rule) (values : List Text) (h : Held) → react_fault c again a values h ≡ [] → react_passes c again a values h ≡ true
  react_is_fine a values h none =
      and _ _ (settle_is_fine h (no_first _ _ none)) (use_is_fine again a values (settled c h).rows (no_second _ _ none))

  option_is_fine : (a : Rule) (v : Option Text) (h : Held) → option_fault c again a v h ≡ [] → option_passes c again a v h ≡ true
  option_is_fine a (Some v) h none = react_is_fine a (v ∷ []) h none
  option_is_fine a None h none = settle_is_fine h none

  not_some : (b p : Bool) → b ≡ false → p ≡ true → (not b && p) ≡ true
  not_some true p e q = absurd (true≢false e)
  not_some false p e q = q

  long_is_fine : (found : Option Rule) (v : Option Text) (h : Held) → long_fault c again found v h ≡ [] → long_passes c again found v h ≡ true
  long_is_fine None v h none = absurd (cc none)
  long_is_fine (Some a) v h none = go (takes_values a) none
    where
      go : (takes : Bool) → cond takes (option_fault c again a v h) (cond (is_some v) (kind.TooManyValues ∷ []) (react_fault c again a [] h)) ≡ []
          → cond takes (option_passes c again a v h) (not (is_some v) && react_passes c again a [] h) ≡ true
      go true e = option_is_fine a v h e
      go false e =
          let alone = first_not (is_some v) kind.TooManyValues [] _ e in
          not_some (is_some v) _ alone.0 (react_is_fine a [] h alone.1)

  short_is_fine : (found : Option Rule) (rest : Text) (h : Held) (fault : Held → Kinds) (passes : Held → Bool) → ((k : Held) → fault k ≡ [] → passes k ≡ true)
      → short_fault c again found rest h fault ≡ [] → short_passes c again found rest h passes ≡ true
  short_is_fine None rest h fault passes fine none = absurd (cc none)
  short_is_fine (Some a) rest h fault passes fine none = go (takes_values a) none
    where
      go : (takes : Bool) → cond takes (option_fault c again a (attached_value rest) h) (or_else (react_fault c again a [] h) (fault (reacted c a [] h))) ≡ []
          → cond takes (option_passes c again a (attached_value rest) h) (react_passes c again a [] h && passes (reacted c a [] h)) ≡ true
      go true e = option_is_fine a (attached_value rest) h e
      go false e = and _ _ (react_is_fine a [] h (no_first _ _ e)) (fine (reacted c a [] h) (no_second _ _ e))

  bundle_step_is_fine : (first : Option ℕ) (flags : Text) (skip : ℕ) (h : Held) (fault : Text → ℕ → Held → Kinds) (passes : Text → ℕ → Held → Bool)
      → ((t : Text) (n : ℕ) (k : Held) → fault t n k ≡ [] → passes t n k ≡ true)
      → bundle_step_fault c again first flags skip h fault ≡ [] → bundle_step_passes c again first flags skip h passes ≡ true
  bundle_step_is_fine None flags skip h fault passes fine none = refl
  bundle_step_is_fine (Some x) flags zero h fault passes fine none =
      let rest = drop (length (encode_utf8 x)) flags in
      short_is_fine (arg_by_short c x) rest h (fault rest 0) (passes rest 0) (fine rest 0) none
  bundle_step_is_fine (Some x) flags (suc skip) h fault passes fine none = fine _ skip h none

  flags_are_fine : (k : ℕ) (flags : Text) (skip : ℕ) (h : Held) → flags_fault c again k flags skip h ≡ [] → flags_pass c again k flags skip h ≡ true
  unfolding flags_fault flags_pass
  flags_are_fine zero flags skip h none = refl
  flags_are_fine (suc k) flags skip h none =
      bundle_step_is_fine (slice_get (chars flags) 0) flags skip h (flags_fault c again k) (flags_pass c again k) (flags_are_fine k) none

  flag_word_is_fine : (long : Option (Text × Option Text)) (word : Text) (h : Held) → flag_word_fault c again long word h ≡ [] → flag_word_passes c again long word h ≡ true
  flag_word_is_fine (Some p) word h none = long_is_fine (arg_by_long c p.0) p.1 h none
  flag_word_is_fine None word h none =
      option_fine (short_of word) _ _ (λ flags. flags_are_fine (length flags) flags h.skip (record h { skip = 0 })) none

  positional_is_fine : (a : Rule) (h : Held) → positional_fault c again a h ≡ [] → positional_passes c again a h ≡ true
  positional_is_fine a h none = or_fine (is_pending a h.pending && takes_several a) _ _ (settle_is_fine h) none

module _ (s : Shape) (names : Names) where
  other_is_fine : (met : Option Text) (word : Text) (h : Held) → other_fault s met word h ≡ [] → other_passes s met word h ≡ true
  other_is_fine (Some name) word h none =
      not_both (bytes_eq name (codes "help")) s.disable_help_subcommand (first_not _ kind.DisplayHelp (kind.InvalidSubcommand ∷ []) [] none).0
  other_is_fine None word h none =
      or_fine (bytes_eq word (45 ∷ 45 ∷ [])) _ _ (flag_word_is_fine s.rules s.args_override_self (long_of word) word h) none

  word_is_fine : (is_trailing : Bool) (waiting : Waiting) (word : Text) (h : Held) → word_fault s names is_trailing waiting word h ≡ []
      → word_passes s names is_trailing waiting word h ≡ true
  word_is_fine is_trailing waiting word h none = or_fine is_trailing _ _ (other_is_fine (subcommand_met names waiting word) word h) none

  stray : (b : Bool) → cond b (kind.UnknownArgument ∷ []) (kind.UnknownArgument ∷ kind.InvalidSubcommand ∷ []) ≡ [] → ⊥
  stray true none = absurd (cc none)
  stray false none = absurd (cc none)

  found_is_fine : (found : Option Rule) (h : Held) → option_map_or (λ a. positional_fault s.rules s.args_override_self a h) found (stray_fault s) ≡ []
      → option_map_or (λ a. positional_passes s.rules s.args_override_self a h) found false ≡ true
  found_is_fine None h none = absurd (stray s.is_leaf none)
  found_is_fine (Some a) h none = positional_is_fine s.rules s.args_override_self a h none

  step_is_fine : (position : ℕ) (h : Held) (step : Step) → step_fault s position h step ≡ [] → step_passes s position h step ≡ true
  step_is_fine position h value none = found_is_fine (arg_by_index s.rules position) h none
  step_is_fine position h (next waiting) none = refl
  step_is_fine position h (trailing n) none = refl
  step_is_fine position h (subcommand name) none = refl

  turn_is_fine : (w : Walk) (word : Text) → turn_fault s names w word ≡ [] → turn_passes s names w word ≡ true
  turn_is_fine w word none =
      let met = word_met s.rules names w.is_trailing w.waiting w.position word w.held in
      or_fine (is_some w.stopped) _ _
      (λ fine. and _ _ (word_is_fine w.is_trailing w.waiting word w.held (no_first _ _ fine)) (step_is_fine w.position met.0 met.1 (no_second _ _ fine))) none

  walk_is_fine : (w : Walk) (words : List Text) → walk_fault s names w words ≡ [] → walk_passes s names w words ≡ true
  unfolding walk_fault walk_passes
  walk_is_fine w [] none = refl
  walk_is_fine w (word ∷ rest) none =
      and _ _ (turn_is_fine w word (no_first _ _ none)) (walk_is_fine (walked s.rules names w word) rest (no_second _ _ none))

-- ---- after the walk

helped : (has asked any : Bool) → (not has && (asked && not any)) ≡ false → (not asked || (has || any)) ≡ true
helped true true any h = refl
helped true false any h = refl
helped false true true h = refl
helped false true false h = absurd (true≢false h)
helped false false any h = refl

wanted : (has asked : Bool) → (not has && asked) ≡ false → (not asked || has) ≡ true
wanted true true h = refl
wanted true false h = refl
wanted false true h = absurd (true≢false h)
wanted false false h = refl

unless : (excused missing all : Bool) → (missing ≡ false → all ≡ true) → (not excused && missing) ≡ false → (excused || all) ≡ true
unless true missing all fine h = refl
unless false missing all fine h = fine h

or_not : (a b : Bool) → (a || b) ≡ false → (a ≡ false) × (b ≡ false)
or_not true b h = absurd (true≢false h)
or_not false b h = (refl, h)

none_missing : (rows : List Row) (rules : List Rule) → list_any (λ a. a.required && not (is_given a.id rows)) rules ≡ false
    → list_all (λ a. not a.required || is_given a.id rows) rules ≡ true
none_missing rows [] h = refl
none_missing rows (a ∷ rest) h =
    let p = or_not _ _ h in
    and _ _ (not_both a.required (is_given a.id rows) p.0) (none_missing rows rest p.1)

check_is_fine : (s : Shape) (rows : List Row) (has : Bool) → list_all (λ a. a.is_free) s.rules ≡ true → check_fault s rows has ≡ [] → is_valid s rows has ≡ true
check_is_fine s rows has free none =
    let p = first_not _ kind.DisplayHelpOnMissingArgumentOrSubcommand [] _ none in
    let q = first_not _ kind.MissingSubcommand [] _ p.1 in
    let r = first_not _ kind.MissingRequiredArgument [] _ q.1 in
    and _ _ (helped has s.arg_required_else_help (list_any (λ x. explicit_source x.source) rows) p.0)
    (and _ _ (wanted has s.subcommand_required q.0)
    (and _ _ free (unless (s.subcommand_negates_reqs && has) _ _ (none_missing rows s.rules) r.0)))

level_is_fine : (s : Shape) (names : Names) (h : Held) (words : List Text) (has : Bool) → list_all default_passes s.rules ≡ true
    → list_all (λ a. a.is_free) s.rules ≡ true → level_fault s names h words has [] ≡ [] → level_passes s names h words has ≡ true
level_is_fine s names h words has defaults free none =
    let end = (walk s.rules names h words).held in
    let walks = walk_fault s names (walk_from h) words in
    let settles = settle_fault s.rules s.args_override_self end in
    let defaults_of = defaults_fault (settled s.rules end).rows s.rules in
    let checks = check_fault s (finished s.rules end) has in
    let after : or_else settles (or_else defaults_of checks) ≡ [] = no_second walks (or_else settles (or_else defaults_of checks)) none in
    let last : or_else defaults_of checks ≡ [] = no_second settles (or_else defaults_of checks) after in
    and _ _ (walk_is_fine s names (walk_from h) words (no_first walks (or_else settles (or_else defaults_of checks)) none))
    (and _ _ (settle_is_fine s.rules s.args_override_self end (no_first settles (or_else defaults_of checks) after))
    (and _ _ defaults (check_is_fine s (finished s.rules end) has free (no_second defaults_of checks last))))

-- a command that has no subcommand and no default takes the words in which it finds no fault
pub taken : (a : App) (words : List Text) → is_simple a ≡ true → (built a).subs ≡ [] → list_all default_passes (built a).top.rules ≡ true
    → list_all (λ r. r.is_free) (built a).top.rules ≡ true → fault_of a words ≡ [] → takes a words ≡ true
taken a words simple leaf defaults free none =
    let fault = sym (leaf_fault (built a) nothing_held (argument_words a words) leaf) ∙ none in
    and _ _ simple (leaf_takes (built a) nothing_held (argument_words a words) leaf
    (level_is_fine (built a).top [] nothing_held (argument_words a words) false defaults free fault))
