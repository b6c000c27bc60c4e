use Rattle.std.proofs.Common.{◌++◌, codes, append_assoc, ap, sym, ◌∙◌}
use Rattle.std.proofs.lemmas.Result.{on_ok_weaker}
use Rattle.wt_text.specs.Text.{hex_of}
use Rattle.wt_trace.specs.EventLine.{deed_text}
use Rattle.wt_trace.proofs.event_line.deed.Goals as goal

pub returns-in_ok-entry_hex-in-Loaded : goal.returns-in_ok-entry_hex-in-Loaded
returns-in_ok-entry_hex-in-Loaded c =
    let address = codes " load " ++ hex_of c.in-Loaded.address in
    let value = codes " " ++ hex_of c.in-Loaded.value in
    on_ok_weaker c.entry_hex-in-Loaded.result
    (λ second. second
    ∙ ap (λ line. line ++ value) c.in_ok-entry_hex-in-Loaded.ensures
    ∙ append_assoc c.args.line.now address value
    ∙ ap (λ text. c.args.line.now ++ text) (sym (append_assoc address (codes " ") (hex_of c.in-Loaded.value)))
    ∙ ap (λ deed. c.args.line.now ++ deed_text deed) (sym c.in-Loaded.is))
    c.entry_hex-in-Loaded.ensures
