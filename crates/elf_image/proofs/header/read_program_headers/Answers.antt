use Rattle.std.proofs.Common.{◌≡◌, ℕ, ◌+◌, ◌*◌, List, ◌∷◌, [], ◌++◌, map, drop, sym, ap, ◌∙◌, arith}
use Rattle.std.specs.List.{range_with_len}
use Rattle.std.proofs.lemmas.List.{take_rest}
use Rattle.std.proofs.lemmas.List.FromFn.{map-range_with_len_more}
use Rattle.elf_image.specs.declared.program.ProgramHeader.{ProgramHeader}
use Rattle.elf_image.specs.Elf.{header_at, field_of, e_phoff, program_header}
use Rattle.elf_image.proofs.header.read_program_headers.Goals as goal

one_more : (bytes : List ℕ) (first k : ℕ) (read : ProgramHeader) (old new : List ProgramHeader) →
    first ≡ field_of bytes e_phoff → read ≡ program_header (drop (first + 32 * k) bytes) →
    old ≡ map (header_at bytes) (range_with_len 0 k) → new ≡ old ++ read ∷ [] →
    new ≡ map (header_at bytes) (range_with_len 0 (k + 1))
one_more bytes first k read old new at is before pushed =
    let here : read ≡ header_at bytes k = is ∙ ap (λ place. program_header (drop (place + 32 * k) bytes)) at in
    pushed ∙ ap (λ r. old ++ r ∷ []) here ∙ ap (λ hs. hs ++ header_at bytes k ∷ []) before
    ∙ sym (map-range_with_len_more (header_at bytes) 0 k k (omega arith))

pub loop-k-preserved : goal.loop-k-preserved
loop-k-preserved c =
    one_more c.args.bytes.now c.word-first.result c.loop-k.k c.read.result c.loop-k.headers.items _ c.word-first.ensures (c.read.ensures ∙ ap program_header (take_rest c.args.bytes.now _)) c.loop-k.invariant c.in_ok-push.ensures.items
