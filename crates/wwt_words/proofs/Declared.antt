-- Each declaration is one of which `clap` says exactly what it reads.
use Rattle.std.proofs.Common.{◌≡◌, refl, true, false, [], ◌∷◌}
use Rattle.clap.specs.Faults.{is_simple_and_free}
use Rattle.clap.specs.Kinds.{Kinds, IsAmong}
use Rattle.clap.specs.declared.error.kind.ErrorKind.{ErrorKind}
use Rattle.clap.specs.Matches.{first_value}
use Rattle.clap.specs.Walk.{Text, first_of, rows_of}
use Rattle.clap.specs.declared.parser.matches.Found.{Found}
use Rattle.clap.proofs.OnLiterals.{clap_on_literals}
use Rattle.clap.proofs.WalkLemmas.{first_value-rows}
use Rattle.wwt_words.specs.Declarations.{run_command, check_command, load_command, dis_command, flat_command, is_faultless}

pub run_is_simple : is_simple_and_free run_command ≡ true
unfolding run_command clap_on_literals
run_is_simple = refl

pub check_is_simple : is_simple_and_free check_command ≡ true
unfolding check_command clap_on_literals
check_is_simple = refl

pub load_is_simple : is_simple_and_free load_command ≡ true
unfolding load_command clap_on_literals
load_is_simple = refl

pub dis_is_simple : is_simple_and_free dis_command ≡ true
unfolding dis_command clap_on_literals
dis_is_simple = refl

pub flat_is_simple : is_simple_and_free flat_command ≡ true
unfolding flat_command clap_on_literals
flat_is_simple = refl

-- the first value of an id is that of its row
pub text_of_row : (f : Found) (id : Text) → first_value f id ≡ first_of id (rows_of f)
text_of_row = first_value-rows

-- where a kind of error may come, the words aren't read
pub some_kind : (kinds : Kinds) (kind : ErrorKind) → IsAmong kind kinds → is_faultless kinds ≡ false
some_kind [] kind h = elim h [ ]
some_kind (k ∷ ks) kind h = refl
