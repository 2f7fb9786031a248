-- Commands that are generated and played, one after another.
use Rattle.std.proofs.Common.{◌≡◌, ◌∙◌, ℕ, zero, suc, ◌+◌, Option, Some, None, Result, Ok, Err, Bool, true, false, List, [], ◌∷◌, ◌++◌, length, cond, refl, sym, ap, subst, arith, length-append}
use Rattle.std.specs.Prelude.{codes, count_by, is_err, ◌^◌, ◌/◌, ◌*◌, ◌%◌}
use Rattle.std.specs.Result.{result_unwrap_or}
use Rattle.std.proofs.lemmas.List.{map-append, append-nil}
use Rattle.std.proofs.lemmas.List.Sums.{sum_by-append}
use Rattle.script_text.specs.ScriptGrammar.{Line, count, text_of}
use Rattle.erst_client.specs.declared.errors.ClientError.{ClientError}
use Rattle.erst_machine.specs.Shown.{changes_of}
use Rattle.apei_script.specs.Players.{PlayerState}
use Rattle.apei_script.specs.Words.{reply_at, words_of_write, words_of_read, words_of_clear, words_of_count, words_of_next, text_of_replies}
use Rattle.apei_script.specs.Plays.{IsOwnLine, one_reply}
use Rattle.apei_script.specs.Sessions.{CommandPlayed}
use Rattle.script_laws.specs.History.{Played, AreOwnLines, blocks_of}
use Rattle.script_lines.specs.Streams.{stream_of}
use Rattle.apei_cli.specs.declared.generate.command.Command.{Command}
use Rattle.apei_cli.specs.declared.generate.command.Command.TheVariants.{Write, Clear, Read, Next}
use Rattle.apei_cli.specs.declared.generate.tally.Tally.{Tally}
use Rattle.apei_cli.specs.Commands.{command_of, line_for, generated_lines}
use Rattle.apei_cli.specs.Tallies.{counted_kind, counted_refusal}
use Rattle.apei_cli.specs.Generated.{begins, tally_of, IsRefusedIf, PlaysCommands}
use Rattle.apei_cli.specs.Summaries.{WritesText, summary_of, IsGenerated}
use Rattle.apei_cli.proofs.Terms.{line_at, is_refusal}
use Rattle.apei_cli.proofs.RunLemmas.{AreCounted-push, Follows-push, blocks_of-push, counts_after}
use Rattle.apei_script.specs.Bridged.{changes_in}

-- the number behind another in the sequence of a seed
abbrev pub number_behind : ℕ → ℕ
number_behind x = (x * 6364136223846793005 + 1442695040888963407) % 2 ^ 64

-- the number that so many numbers behind one end in
abbrev pub number_after : ℕ → ℕ → ℕ
number_after x zero = x
number_after x (suc n) = number_after (number_behind x) n

number_after-suc : (x n : ℕ) → number_after x (suc n) ≡ number_behind (number_after x n)
number_after-suc x zero = refl
number_after-suc x (suc n) = number_after-suc (number_behind x) n

lines-push : (seed n : ℕ) → generated_lines seed (suc n) ≡ generated_lines seed n ++ line_at (number_after seed (suc n)) ∷ []
lines-push seed zero = refl
lines-push seed (suc n) = ap (λ (lines : List Line). line_at (number_behind seed) ∷ lines) (lines-push (number_behind seed) n)

AreOwnLines-push : (some : List Played) (one : Played) → AreOwnLines some → IsOwnLine one.line → AreOwnLines (some ++ one ∷ [])
AreOwnLines-push [] one before is = (is, tt)
AreOwnLines-push (first ∷ rest) one before is = (before.0, AreOwnLines-push rest one before.1 is)

no_blocks-push : (some : List Played) (line : Line) (words : List ℕ) (new : PlayerState) → blocks_of some ≡ [] → blocks_of (some ++ one_reply line words new ∷ []) ≡ []
no_blocks-push some line words new none = blocks_of-push some (one_reply line words new) ∙ ap (λ (blocks : List (List ℕ)). blocks ++ []) none

own_line : (command : Command) → IsOwnLine (line_for command)
own_line (Write id size) = tt
own_line (Clear id) = tt
own_line (Read id) = tt
own_line Next = tt

-- the reply to the line
reply-as : (line : Line) (words : List ℕ) (new : PlayerState) → (text_of_replies (one_reply line words new).said) ≡ reply_at (changes_in new.machine) words
reply-as line words new = append-nil (reply_at (changes_in new.machine) words)

-- a reply is a refusal where the command was refused
pub write_refused : (bytes : List ℕ) (result : Result (Unit {0}) ClientError) (step : ℕ) → is_err result ≡ is_refusal (reply_at step (words_of_write bytes result))
write_refused bytes (Ok done) step = refl
write_refused bytes (Err error) step = refl

pub read_refused : (bytes : List ℕ) (result : Result ℕ ClientError) (step : ℕ) → is_err result ≡ is_refusal (reply_at step (words_of_read bytes result))
read_refused bytes (Ok len) step = refl
read_refused bytes (Err error) step = refl

pub clear_refused : (id : ℕ) (result : Result (Unit {0}) ClientError) (step : ℕ) → is_err result ≡ is_refusal (reply_at step (words_of_clear id result))
clear_refused id (Ok done) step = refl
clear_refused id (Err error) step = refl

pub next_refused : (result : Result (Option ℕ) ClientError) (step : ℕ) → is_err result ≡ is_refusal (reply_at step (words_of_next result))
next_refused (Ok (Some id)) step = refl
next_refused (Ok None) step = refl
next_refused (Err error) step = refl

-- one more that passes a test or does not
abbrev bumped : Bool → ℕ → ℕ
bumped true n = n + 1
bumped false n = n

count-push : (test : Played → Bool) (some : List Played) (one : Played) (passes : Bool) → test one ≡ passes → count_by test (some ++ one ∷ []) ≡ bumped passes (count_by test some)
count-push test some one passes is = by passes (whole ∙ ap (λ (b : Bool). count_by test some + (0 + cond {A = ℕ} b 1 0)) is)
  where
    whole : count_by test (some ++ one ∷ []) ≡ count_by test some + (0 + cond {A = ℕ} (test one) 1 0)
    whole = sum_by-append (λ (p : Played). cond (test p) 1 0) some (one ∷ [])

    by : (b : Bool) → count_by test (some ++ one ∷ []) ≡ count_by test some + (0 + cond {A = ℕ} b 1 0) → count_by test (some ++ one ∷ []) ≡ bumped b (count_by test some)
    by true sum = let more : count_by test (some ++ one ∷ []) ≡ count_by test some + (0 + 1) = sum in omega arith
    by false sum = let same : count_by test (some ++ one ∷ []) ≡ count_by test some + (0 + 0) = sum in omega arith

tally-as : (a b c d f a_now b_now c_now d_now f_now : ℕ) → a ≡ a_now → b ≡ b_now → c ≡ c_now → d ≡ d_now → f ≡ f_now
    → ◌≡◌ {A = Tally} (record { writes = a; clears = b; reads = c; nexts = d; refused = f }) (record { writes = a_now; clears = b_now; reads = c_now; nexts = d_now; refused = f_now })
tally-as a b c d f a_now b_now c_now d_now f_now is_a is_b is_c is_d is_f =
    ap (λ (x : ℕ). let t : Tally = record { writes = x; clears = b; reads = c; nexts = d; refused = f } in t) is_a
    ∙ ap (λ (x : ℕ). let t : Tally = record { writes = a_now; clears = x; reads = c; nexts = d; refused = f } in t) is_b
    ∙ ap (λ (x : ℕ). let t : Tally = record { writes = a_now; clears = b_now; reads = x; nexts = d; refused = f } in t) is_c
    ∙ ap (λ (x : ℕ). let t : Tally = record { writes = a_now; clears = b_now; reads = c_now; nexts = x; refused = f } in t) is_d
    ∙ ap (λ (x : ℕ). let t : Tally = record { writes = a_now; clears = b_now; reads = c_now; nexts = d_now; refused = x } in t) is_f

-- a tally of another count of refusals
abbrev refusing : ℕ → Tally → Tally
refusing f tally = record tally { refused = f }

abbrev is_kind : List ℕ → Line → Bool
is_kind word line = begins word (text_of line)

-- the kind of one more command
kind-bumped : (command : Command) (tally : Tally)
    → ◌≡◌ {A = Tally} (record {
      writes = bumped (is_kind (codes "write") (line_for command)) tally.writes;
      clears = bumped (is_kind (codes "clear") (line_for command)) tally.clears;
      reads = bumped (is_kind (codes "read") (line_for command)) tally.reads;
      nexts = bumped (is_kind (codes "next") (line_for command)) tally.nexts;
      refused = tally.refused;
    }) (counted_kind command tally)
kind-bumped (Write id size) tally = refl
kind-bumped (Clear id) tally = refl
kind-bumped (Read id) tally = refl
kind-bumped Next tally = refl

kind-push : (some : List Played) (one : Played) (command : Command) (f : ℕ) → one.line ≡ line_for command
    → refusing f (tally_of (some ++ one ∷ [])) ≡ counted_kind command (refusing f (tally_of some))
kind-push some one command f is =
    tally-as _ _ _ _ _ _ _ _ _ _ (pushed (is_kind (codes "write"))) (pushed (is_kind (codes "clear"))) (pushed (is_kind (codes "read"))) (pushed (is_kind (codes "next"))) refl
    ∙ kind-bumped command (refusing f (tally_of some))
  where
    pushed : (test : Line → Bool) → count_by (λ (p : Played). test p.line) (some ++ one ∷ []) ≡ bumped (test (line_for command)) (count_by (λ (p : Played). test p.line) some)
    pushed test = count-push (λ (p : Played). test p.line) some one (test (line_for command)) (ap test is)

kind-refused : (command : Command) (tally : Tally) → counted_kind command (refusing (tally.refused + 1) tally) ≡ counted_refusal true (counted_kind command tally)
kind-refused (Write id size) tally = refl
kind-refused (Clear id) tally = refl
kind-refused (Read id) tally = refl
kind-refused Next tally = refl

abbrev refused_in : Played → Bool
refused_in one = is_refusal (text_of_replies one.said)

tally-push : (some : List Played) (one : Played) (command : Command) (refused : Bool) → one.line ≡ line_for command → refused_in one ≡ refused
    → tally_of (some ++ one ∷ []) ≡ counted_refusal refused (counted_kind command (tally_of some))
tally-push some one command true line is =
    kind-push some one command (count_by refused_in (some ++ one ∷ [])) line
    ∙ ap (λ (f : ℕ). counted_kind command (refusing f (tally_of some))) (count-push refused_in some one true is)
    ∙ kind-refused command (tally_of some)
tally-push some one command false line is =
    kind-push some one command (count_by refused_in (some ++ one ∷ [])) line
    ∙ ap (λ (f : ℕ). counted_kind command (refusing f (tally_of some))) (count-push refused_in some one false is)

-- the commands so far
pub record SoFar (tells : Type 0) (old : PlayerState) (seed n : ℕ) (now : PlayerState) (number : ℕ) (tally : Tally) : Type 0 where
  pub so_far : PlaysCommands tells old seed n now tally
  pub size : length so_far.played ≡ n
  pub number_is : number ≡ number_after seed n

pub SoFar-start : (tells : Type 0) (old : PlayerState) (seed : ℕ) (tally : Tally) → tally ≡ tally_of [] → SoFar tells old seed 0 old seed tally
SoFar-start tells old seed tally is = record {
  so_far = record { played = []; lines = refl; history = λ wants counts. refl; counted = λ told. tt; own = tt; blocks = refl; tallied = is };
  size = refl;
  number_is = refl;
}

next_so_far : (tells : Type 0) (old : PlayerState) (seed n : ℕ) (mid new : PlayerState) (number : ℕ) (tally tally_now : Tally) (command : Command) (refused : Bool)
    → SoFar tells old seed n mid number tally → command ≡ command_of ((number_behind number) / 2 ^ 33) → IsRefusedIf refused tells mid (line_for command) new →
    (tells → changes_of new.machine ≡ (changes_in new.machine))
    → tally_now ≡ counted_refusal refused (counted_kind command tally) → SoFar tells old seed (suc n) new (number_behind number) tally_now
next_so_far tells old seed n mid new number tally tally_now command refused sofar made asked counted counts =
    let before = sofar.so_far in
    let one = one_reply (line_for command) asked.words new in
    let number_now : number_behind number ≡ number_after seed (suc n) = ap number_behind sofar.number_is ∙ sym (number_after-suc seed n) in
    let line_is : line_for command ≡ line_at (number_after seed (suc n)) = ap line_for made ∙ ap line_at number_now in
    record {
      so_far = record {
        played = before.played ++ one ∷ [];
        lines =
            map-append (λ (p : Played). p.line) before.played (one ∷ [])
            ∙ ap (λ (ls : List Line). ls ++ line_for command ∷ []) before.lines
            ∙ ap (λ (l : Line). generated_lines seed n ++ l ∷ []) line_is
            ∙ sym (lines-push seed n);
        history = λ wants counts. Follows-push tells wants counts old before.played mid one (before.history wants counts) (asked.played (counts_after wants before.played counts));
        counted = λ told. AreCounted-push before.played one (before.counted told) (counted told);
        own = AreOwnLines-push before.played one before.own (own_line command);
        blocks = no_blocks-push before.played (line_for command) asked.words new before.blocks;
        tallied =
            counts
            ∙ ap (λ (t : Tally). counted_refusal refused (counted_kind command t)) before.tallied
            ∙ sym (tally-push before.played one command refused refl (ap is_refusal (reply-as (line_for command) asked.words new) ∙ sym asked.refused_is));
      };
      size = length-append before.played (one ∷ []) ∙ omega (arith, sofar.size);
      number_is = number_now;
    }

pub SoFar-next : (tells : Type 0) (old : PlayerState) (seed n : ℕ) (mid new : PlayerState) (number : ℕ) (tally tally_now : Tally) (command : Command) (refused : Bool)
    → SoFar tells old seed n mid number tally → command ≡ command_of ((number_behind number) / 2 ^ 33) → IsRefusedIf refused tells mid (line_for command) new →
    (tells → changes_of new.machine ≡ (changes_in new.machine))
    → tally_now ≡ counted_refusal refused (counted_kind command tally) → SoFar tells old seed (n + 1) new (number_behind number) tally_now
SoFar-next tells old seed n mid new number tally tally_now command refused sofar made asked counted counts =
    subst (λ (k : ℕ). SoFar tells old seed k new (number_behind number) tally_now) (omega arith)
    (next_so_far tells old seed n mid new number tally tally_now command refused sofar made asked counted counts)

-- the commands, and a count of the records behind them
pub generated : {E : Type 0} (tells told_sink : Type 0) (old : PlayerState) (seed commands : ℕ) (mid new : PlayerState) (tally : Tally) (answer : Result ℕ ClientError) (live step : ℕ)
    (written written_now : List ℕ) (result : Result (Unit {0}) E) → PlaysCommands tells old seed commands mid tally → CommandPlayed tells mid count new (words_of_count answer)
    → (tells → changes_of new.machine ≡ (changes_in new.machine)) → live ≡ result_unwrap_or answer 0 → step ≡ (changes_in new.machine)
    → (told_sink → WritesText (summary_of commands tally live step) written written_now result)
    → IsGenerated tells (stream_of told_sink written written_now) old (record { seed = seed; count = commands }) new result
generated tells told_sink old seed commands mid new tally answer live step written written_now result are asked counted is at text =
    let words = words_of_count answer in
    let last = one_reply count words new in
    record {
      played = are.played;
      last = last;
      lines = are.lines;
      asked = refl;
      history = λ wants counts. Follows-push tells wants counts old are.played mid last (are.history wants counts) (asked (counts_after wants are.played counts));
      counted = λ told. AreCounted-push are.played last (are.counted told) (counted told);
      own = AreOwnLines-push are.played last are.own tt;
      blocks = no_blocks-push are.played count words new are.blocks;
      answer = answer;
      said = refl;
      text = λ told.
          subst (λ (n : ℕ). WritesText (summary_of commands (tally_of are.played) n (changes_in new.machine)) written written_now result) is
          (subst (λ (t : Tally). WritesText (summary_of commands t live (changes_in new.machine)) written written_now result) are.tallied
          (subst (λ (s : ℕ). WritesText (summary_of commands tally live s) written written_now result) at (text told)));
    }
