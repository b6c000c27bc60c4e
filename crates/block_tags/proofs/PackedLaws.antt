-- What the packed tags of a table are, and what a byte with another tag holds.
use Rattle.std.proofs.Common.{◌≡◌, ◌≢◌, ◌⊎◌, ℕ, zero, suc, ◌/◌, ◌%◌, ◌<◌, List, length, get_or, set, replicate, refl, ap, sym, ◌∙◌, subst, inl, inr, arith}
use Rattle.std.proofs.lemmas.Bool.{cases_eq}
use Rattle.std.proofs.lemmas.List.{length-set, get_or-set_same, get_or-set_other, get_or-replicate, length-replicate, get_or_default}
use Rattle.std.proofs.lemmas.List.FromFn.{length-map-range_with_len, get_or-map-range_with_len, fill_by_all}
use Rattle.block_tags.specs.declared.tag.Tag.{Tag}
use Rattle.block_tags.specs.declared.tag.Tag.TheVariants.{Invalid, ReadOnly, Writable}
use Rattle.block_tags.specs.Packed.{code_of, tag_of, worth_of, code_in, with_code, tag_in, tags_in, bytes_for}

-- ---- a byte

-- the four places
by_place : (Is : ℕ → Type 0) → Is 0 → Is 1 → Is 2 → Is 3 → (place : ℕ) → place < 4 → Is place
by_place Is a b c d zero few = a
by_place Is a b c d (suc zero) few = b
by_place Is a b c d (suc (suc zero)) few = c
by_place Is a b c d (suc (suc (suc zero))) few = d
by_place Is a b c d (suc (suc (suc (suc place)))) few = absurd (omega arith)

-- Of the four numbers in a byte one is another now.
pub same_place : (byte code place : ℕ) → code < 4 → place < 4 → code_in (with_code place code byte) place ≡ code
same_place byte code place fits few =
    by_place (λ p. code_in (with_code p code byte) p ≡ code) (omega arith) (omega arith) (omega arith) (omega arith) place few

pub other_place : (byte code place other : ℕ) → code < 4 → place < 4 → other < 4 → (other ≢ place) → code_in (with_code place code byte) other ≡ code_in byte other
other_place byte code place other fits few few_too apart = by_place (λ p. (o : ℕ) → o < 4 → (o ≢ p) → code_in (with_code p code byte) o ≡ code_in byte o)
    (by_place (λ o. (o ≢ 0) → code_in (with_code 0 code byte) o ≡ code_in byte o) (λ differ. absurd (differ refl)) (λ differ. omega arith) (λ differ. omega arith) (λ differ. omega arith))
    (by_place (λ o. (o ≢ 1) → code_in (with_code 1 code byte) o ≡ code_in byte o) (λ differ. omega arith) (λ differ. absurd (differ refl)) (λ differ. omega arith) (λ differ. omega arith))
    (by_place (λ o. (o ≢ 2) → code_in (with_code 2 code byte) o ≡ code_in byte o) (λ differ. omega arith) (λ differ. omega arith) (λ differ. absurd (differ refl)) (λ differ. omega arith))
    (by_place (λ o. (o ≢ 3) → code_in (with_code 3 code byte) o ≡ code_in byte o) (λ differ. omega arith) (λ differ. omega arith) (λ differ. omega arith) (λ differ. absurd (differ refl)))
    place few other few_too apart

pub code_small : (tag : Tag) → code_of tag < 3
code_small Invalid = omega arith
code_small ReadOnly = omega arith
code_small Writable = omega arith

tag_of_code : (tag : Tag) → tag_of (code_of tag) ≡ tag
tag_of_code Invalid = refl
tag_of_code ReadOnly = refl
tag_of_code Writable = refl

-- ---- tables

pub tags_count : (blocks : ℕ) (bytes : List ℕ) → length (tags_in blocks bytes) ≡ blocks
tags_count blocks bytes = length-map-range_with_len (tag_in bytes) 0 blocks

pub tag_at : (blocks block : ℕ) (bytes : List ℕ) → block < blocks → get_or (tags_in blocks bytes) block Invalid ≡ tag_in bytes block
tag_at blocks block bytes there = get_or-map-range_with_len (tag_in bytes) 0 blocks block block Invalid there (omega arith)

-- zeros are tags of blocks that aren't held
pub none_held : (blocks count : ℕ) → count ≡ bytes_for blocks → tags_in blocks (replicate count 0) ≡ replicate blocks Invalid
none_held blocks count is =
    sym (fill_by_all (tag_in (replicate count 0)) (replicate blocks Invalid) blocks Invalid (length-replicate blocks Invalid)
    (λ k below. get_or-replicate blocks k Invalid Invalid below ∙ sym (zero_tag k below)))
  where
    zero_tag : (k : ℕ) → k < blocks → tag_in (replicate count 0) k ≡ Invalid
    zero_tag k below = ap (λ (byte : ℕ). tag_of (code_in byte (k % 4))) (get_or-replicate count (k / 4) 0 0 (omega (arith, is))) ∙ by_place (λ p. tag_of (code_in 0 p) ≡ Invalid) refl refl refl refl (k % 4) (omega arith)

-- The tag of one block is another now.
pub tag_set : (blocks block : ℕ) (bytes : List ℕ) (tag : Tag) (byte new : ℕ) → length bytes ≡ bytes_for blocks → block < blocks → byte ≡ get_or bytes (block / 4) 0 →
    new ≡ with_code (block % 4) (code_of tag) byte → tags_in blocks (set bytes (block / 4) new) ≡ set (tags_in blocks bytes) block tag
tag_set blocks block bytes tag byte new count there was is =
    sym (fill_by_all (tag_in after) (set (tags_in blocks bytes) block tag) blocks Invalid (length-set (tags_in blocks bytes) block tag ∙ tags_count blocks bytes) each)
  where
    after : List ℕ
    after = set bytes (block / 4) new

    changed : get_or (set bytes (block / 4) new) (block / 4) 0 ≡ with_code (block % 4) (code_of tag) byte
    changed = get_or-set_same bytes (block / 4) new 0 (omega (arith, count)) ∙ is

    each : (k : ℕ) → k < blocks → get_or (set (tags_in blocks bytes) block tag) k Invalid ≡ tag_in (set bytes (block / 4) new) k
    each k below = elim (cases_eq k block) [
      | inl same ↦ subst (λ (b : ℕ). get_or (set (tags_in blocks bytes) block tag) b Invalid ≡ tag_in (set bytes (block / 4) new) b) (sym same)
          (get_or-set_same (tags_in blocks bytes) block tag Invalid (omega (arith, tags_count blocks bytes))
          ∙ sym (ap (λ (b : ℕ). tag_of (code_in b (block % 4))) changed
          ∙ ap tag_of (same_place byte (code_of tag) (block % 4) (omega (arith, code_small tag)) (omega arith)) ∙ tag_of_code tag))
      | inr apart ↦ get_or-set_other (tags_in blocks bytes) block k tag Invalid apart ∙ tag_at blocks k bytes below ∙ sym (beside k apart (cases_eq (k / 4) (block / 4)))
    ]
      where
        beside : (k : ℕ) → (k ≢ block) → (k / 4 ≡ block / 4) ⊎ (k / 4 ≢ block / 4) → tag_in (set bytes (block / 4) new) k ≡ tag_in bytes k
        beside k apart (inl same) =
            ap (λ (at : ℕ). tag_of (code_in (get_or (set bytes (block / 4) new) at 0) (k % 4))) same
            ∙ ap (λ (b : ℕ). tag_of (code_in b (k % 4))) changed
            ∙ ap tag_of (other_place byte (code_of tag) (block % 4) (k % 4) (omega (arith, code_small tag)) (omega arith) (omega arith) (λ e. apart (omega (arith, e, same))))
            ∙ ap (λ (b : ℕ). tag_of (code_in b (k % 4))) was
            ∙ ap (λ (at : ℕ). tag_of (code_in (get_or bytes at 0) (k % 4))) (sym same)
        beside k apart (inr differ) = ap (λ (b : ℕ). tag_of (code_in b (k % 4))) (get_or-set_other bytes (block / 4) (k / 4) new 0 differ)

-- ---- what the code does with a table

-- the byte of a block's tag
pub has_byte : (blocks block : ℕ) (bytes : List ℕ) (tags : List Tag) → tags_in blocks bytes ≡ tags → length bytes ≡ bytes_for blocks → block < length tags →
    (block < blocks) × (block / 4 < length bytes)
has_byte blocks block bytes tags is count there =
    let long : length tags ≡ blocks = ap length (sym is) ∙ tags_count blocks bytes in
    (omega arith, omega arith)

pub tag_read : (blocks block byte : ℕ) (bytes : List ℕ) (tags : List Tag) → tags_in blocks bytes ≡ tags → length bytes ≡ bytes_for blocks → block < length tags → byte ≡ get_or bytes (block / 4) byte →
    tag_of (byte / worth_of (block % 4) % 4) ≡ get_or tags block Invalid
tag_read blocks block byte bytes tags is count there found =
    let has = has_byte blocks block bytes tags is count there in
    ap (λ (b : ℕ). tag_of (code_in b (block % 4))) (found ∙ get_or_default bytes (block / 4) byte 0 has.1)
    ∙ sym (tag_at blocks block bytes has.0) ∙ ap (λ (t : List Tag). get_or t block Invalid) is

pub tag_written : (blocks block byte new : ℕ) (bytes : List ℕ) (tags : List Tag) (tag : Tag) → tags_in blocks bytes ≡ tags → length bytes ≡ bytes_for blocks → block < length tags → byte ≡ get_or bytes (block / 4) byte →
    new ≡ with_code (block % 4) (code_of tag) byte → tags_in blocks (set bytes (block / 4) new) ≡ set tags block tag
tag_written blocks block byte new bytes tags tag is count there found written =
    let has = has_byte blocks block bytes tags is count there in
    tag_set blocks block bytes tag byte new count has.0 (found ∙ get_or_default bytes (block / 4) byte 0 has.1) written
    ∙ ap (λ (t : List Tag). set t block tag) is
