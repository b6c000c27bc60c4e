-- What a proof unfolds to compute a line of text that is written out.
use Rattle.std.specs.Prelude.{⊤}
use Rattle.hex.specs.Hex.{encode_with}
use Rattle.wt_text.specs.Text.{counter_of}

unfoldable pub text_on_literals : ⊤
unfolding encode_with counter_of
text_on_literals = tt
