-- The numbers of a command that is read are in their ranges.
use Rattle.std.proofs.Common.{◌≡◌, ℕ, ◌^◌, ◌≤◌, Bool, true, false, cond, ◌&&◌, List, [], ◌∷◌, Option, Some, None, refl, subst, ap, ◌∙◌, arith}
use Rattle.std.specs.Prelude.{nat_le, codes, bytes_eq, option_map, unwrap_or, IfSome}
use Rattle.std.proofs.lemmas.Bool.Decides.{nat_tests}
use Rattle.std.specs.Str.Parse.{digits_value}
use Rattle.clap.specs.Walk.{Row, first_of}
use Rattle.clap.specs.Simple.{App}
use Rattle.wt_params.specs.Machine.{InRange}
use Rattle.wwt_words.specs.declared.command.Command.{Command}
use Rattle.wwt_words.specs.declared.command.Command.TheVariants as commands
use Rattle.wwt_words.specs.Numbers.{is_numeral, number_of, option_number_of}
use Rattle.wwt_words.specs.Declarations.{run_command, check_command, load_command, dis_command, flat_command, is_read, rows_read}
use Rattle.wwt_words.specs.Words.{is_set, workers_of, budget_of, run_of, check_of, load_of, dis_of, flat_of, read_by, command_named, command_of, ◌>>=◌}
use Rattle.wwt_case.specs.Case.{AreWorkers, HasRanges}

-- what is read, if anything is, is in its ranges
abbrev IsGood : Option Command → Type 0
IsGood found = (command : Command) → found ≡ Some command → HasRanges command

none_good : IsGood None
none_good command is = cc

either_good : (test : Bool) (one other : Option Command) → IsGood one → IsGood other → IsGood (cond test one other)
either_good true one other first second = first
either_good false one other first second = second

within : (test : Bool) (number found least greatest : ℕ) → test ≡ true → (nat_le least number && nat_le number greatest) ≡ test → number ≡ found → InRange least greatest found
within test number found least greatest is tests same = record { at_least = grind (arith, nat_tests); at_most = grind (arith, nat_tests) }

numbered : (numeral test : Bool) (number found : ℕ) → cond (numeral && test) (Some number) None ≡ Some found → (test ≡ true) × (number ≡ found)
numbered true true number found e = (refl, cc)
numbered true false number found e = cc
numbered false test number found e = cc

in_range : (least greatest : ℕ) (text : List ℕ) (found : ℕ) → number_of least greatest text ≡ Some found → InRange least greatest found
in_range least greatest text found e =
    let n = numbered (is_numeral text) (nat_le least (digits_value 10 text) && nat_le (digits_value 10 text) greatest) (digits_value 10 text) found e in
    within (nat_le least (digits_value 10 text) && nat_le (digits_value 10 text) greatest) (digits_value 10 text) found least greatest n.0 refl n.1

some_number : (least greatest : ℕ) (text : List ℕ) (o : Option ℕ) → number_of least greatest text ≡ o → (found : Option ℕ) → option_map Some o ≡ Some found → IfSome found (InRange least greatest)
some_number least greatest text None is found e = cc
some_number least greatest text (Some number) is None e = tt
some_number least greatest text (Some number) is (Some found) e =
    let same : number ≡ found = cc in in_range least greatest text found (is ∙ ap Some same)

option_number : (least greatest : ℕ) (text : Option (List ℕ)) (found : Option ℕ) → option_number_of least greatest text ≡ Some found → IfSome found (InRange least greatest)
option_number least greatest None None e = tt
option_number least greatest None (Some found) e = cc
option_number least greatest (Some text) found e = some_number least greatest text (number_of least greatest text) refl found e

-- the workers of an option, or the one where nothing is said
some_workers : (found : Option (Option ℕ)) → ((number : Option ℕ) → found ≡ Some number → IfSome number AreWorkers) → (workers : ℕ) → option_map (λ number. unwrap_or number 1) found ≡ Some workers → AreWorkers workers
some_workers None good workers e = cc
some_workers (Some None) good workers e = let one : 1 ≡ workers = cc in record { at_least = omega arith; at_most = omega arith }
some_workers (Some (Some number)) good workers e = let same : number ≡ workers = cc in subst AreWorkers same (good (Some number) refl)

good_workers : (rows : List Row) (workers : ℕ) → workers_of rows ≡ Some workers → AreWorkers workers
good_workers rows = some_workers (option_number_of 1 16 (first_of (codes "workers") rows)) (λ number is. option_number 1 16 (first_of (codes "workers") rows) number is)

run_good : (rows : List Row) → IsGood (run_of rows)
run_good rows = by (workers_of rows) refl (budget_of rows) refl (first_of (codes "machine") rows)
  where
    by : (workers : Option ℕ) → workers_of rows ≡ workers → (budget : Option (Option ℕ)) → budget_of rows ≡ budget → (machine : Option (List ℕ)) →
        IsGood (workers >>= λ w. budget >>= λ b. machine >>= λ m. Some (commands.Run w (is_set (codes "trace") rows) (is_set (codes "memory") rows) b m))
    by None many budget is machine command e = cc
    by (Some workers) many None is machine command e = cc
    by (Some workers) many (Some budget) is None command e = cc
    by (Some workers) many (Some budget) is (Some machine) command e =
        let same : commands.Run workers (is_set (codes "trace") rows) (is_set (codes "memory") rows) budget machine ≡ command = cc in
        subst HasRanges same (good_workers rows workers many, option_number 1 (2 ^ 40) (first_of (codes "budget") rows) budget is)

load_good : (rows : List Row) → IsGood (load_of rows)
load_good rows = by (first_of (codes "number") rows)
  where
    with_number : (number : Option ℕ) → ((n : ℕ) → number ≡ Some n → n ≤ 9999) → (workers : Option ℕ) → workers_of rows ≡ workers → IsGood (number >>= λ n. workers >>= λ w. Some (commands.Load n w))
    with_number None few workers many command e = cc
    with_number (Some number) few None many command e = cc
    with_number (Some number) few (Some workers) many command e =
        let same : commands.Load number workers ≡ command = cc in subst HasRanges same (few number refl, good_workers rows workers many)

    by : (text : Option (List ℕ)) → IsGood (text >>= λ t. number_of 0 9999 t >>= λ n. workers_of rows >>= λ w. Some (commands.Load n w))
    by None command e = cc
    by (Some text) command e =
        with_number (number_of 0 9999 text) (λ n e. (in_range 0 9999 text n e).at_most) (workers_of rows) refl command e

plain_good : (made : List ℕ → Command) → ((text : List ℕ) → HasRanges (made text)) → (text : Option (List ℕ)) → IsGood (option_map made text)
plain_good made good None command e = cc
plain_good made good (Some text) command e = let same : made text ≡ command = cc in subst HasRanges same (good text)

flat_good : (rows : List Row) → IsGood (flat_of rows)
flat_good rows command e = let same : commands.Flat ≡ command = cc in subst HasRanges same tt

read_good : (app : App) (made : List Row → Option Command) (words : List (List ℕ)) → ((rows : List Row) → IsGood (made rows)) → IsGood (read_by app made words)
read_good app made words good = either_good (is_read app words) (made (rows_read app words)) None (good (rows_read app words)) none_good

named_good : (name : List ℕ) (words : List (List ℕ)) → IsGood (command_named name words)
named_good name words =
    either_good (bytes_eq name (codes "run")) _ _ (read_good run_command run_of words run_good)
    (either_good (bytes_eq name (codes "check")) _ _ (read_good check_command check_of words (λ rows. plain_good commands.Check (λ text. tt) (first_of (codes "machine") rows)))
    (either_good (bytes_eq name (codes "load")) _ _ (read_good load_command load_of words load_good)
    (either_good (bytes_eq name (codes "dis")) _ _ (read_good dis_command dis_of words (λ rows. plain_good commands.Dis (λ text. tt) (first_of (codes "image") rows)))
    (either_good (bytes_eq name (codes "flat")) _ _ (read_good flat_command flat_of words flat_good) none_good))))

pub in_their_ranges : (words : List (List ℕ)) (command : Command) → command_of words ≡ Some command → HasRanges command
unfolding command_of
in_their_ranges [] command e = cc
in_their_ranges (name ∷ words) command e = named_good name words command e
