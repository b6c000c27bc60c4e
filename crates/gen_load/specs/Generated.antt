-- The machines that numbers below 10000 stand for, each with a program for all of its nodes. Own.
use Rattle.std.specs.Prelude.{ℕ, ◌+◌, ◌/◌, ◌%◌, ◌==◌, if◌then◌else◌, List, [], ◌∷◌}
use Rattle.wt_params.specs.declared.parts.MachineParts.{MachineParts}
use Rattle.machine_json.specs.declared.description.Description.{Description}
use Rattle.machine_json.specs.declared.description.ImageSpec.TheVariants.{Bytes}
use Rattle.machine_json.specs.Numbers.{default_parts_of}
use Rattle.gen_load.specs.declared.line.Line.{Line}
use Rattle.gen_load.specs.Assembly.{assembled}
use Rattle.gen_load.specs.Listings.{stencil, counter, all_to_all}

-- how many nodes there are, how often the program repeats its work, and the number that a stencil begins with
abbrev pub nodes_of : ℕ → ℕ
nodes_of number = 2 + number / 3 % 31

abbrev pub rounds_of : ℕ → ℕ
rounds_of number = 4 + number % 8

abbrev pub seed_of : ℕ → ℕ
seed_of number = number % 1000

-- the machine, all else by default
unfoldable pub machine_of : ℕ → MachineParts
machine_of number = record (default_parts_of (nodes_of number)) {
  private_bytes = 65536;
  block_bytes = 64;
  blocks = 1024;
  sets = 16;
  ways = 2;
}

-- the program, of one of three kinds
unfoldable pub listing_of : ℕ → List Line
listing_of number =
    if number % 3 == 0 then stencil (rounds_of number) (seed_of number)
    else if number % 3 == 1 then counter (rounds_of number)
    else all_to_all (rounds_of number)

-- the machine with one flat image at 0, which serves every node
unfoldable pub generated : ℕ → Description
generated number = record {
  machine = machine_of number;
  images = Bytes 0 (assembled (listing_of number)) ∷ [];
  version = 1;
}
