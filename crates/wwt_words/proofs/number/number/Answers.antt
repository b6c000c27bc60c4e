use Rattle.std.proofs.Common.{sym}
use Rattle.wwt_words.proofs.NumberLemmas.{too_great}
use Rattle.wwt_words.proofs.number.number.Goals as goal

pub returns-in-Err-clause-value : goal.returns-in-Err-clause-value
returns-in-Err-clause-value c =
    sym (too_great c.args.least c.args.greatest c.args.text.now c.in-Err.ensures.value.0 (sym c.if-not-is_numeral.ensures) c.ranges.greatest.fits)
