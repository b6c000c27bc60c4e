-- Where an access lies in its block.
use Rattle.std.proofs.Common.{◌≡◌, ℕ, ◌+◌, ◌*◌, ◌-◌, ◌/◌, ◌%◌, ◌<◌, ◌≤◌, Bool, true, false, cond, List, [], ◌∷◌, length, mod-lt, Option, Some, None, refl, inl, inr, arith, subst, ap, ◌∙◌, sym}
use Rattle.std.specs.Prelude.{⊤, All, slice_get, nat_le, nat_lt, ◌&&◌}
use Rattle.std.proofs.lemmas.Bool.{cases_eq}
use Rattle.std.proofs.lemmas.Bool.Decides.{nat_tests}
use Rattle.wt_params.specs.declared.parts.MachineParts.{MachineParts}
use Rattle.wt_params.specs.Machine.{IsMachine, IsBlockSize, shared_block, shared_base, block_address}
use Rattle.priv_mem.specs.Memory.{IsWidth}
use Rattle.block_tags.specs.declared.tag.Tag.TheVariants.{Invalid}
use Rattle.target_cache.specs.declared.line.Line.{Line}
use Rattle.target_cache.specs.Lines.{tag_by, number_in, replaced_in}
use Rattle.target_cache.specs.Cached.{Cached, IsAccess, tag_of, line_of, read_of, write_of, drop_of, replaced_of, install_of, lines_of, set_of, LineFits}
use Rattle.target_cache.proofs.CacheLaws.{cached_after_drop, cached_after_write, cached_after_install, machine_after_install, none_after_drop, others_after_drop, machine_after_write, machine_after_drop, line_is_of_block}
use Rattle.node.specs.SharedAccess.{offset_of}
use Rattle.node.specs.Sound.{CacheFits}

-- an aligned access doesn't cross the end of its block
pub in_block : (size address width : ℕ) → IsBlockSize size → IsWidth width → address % width ≡ 0 → (address % size % width ≡ 0) × (address % size + width ≤ size)
in_block size address width (inl is_16) (inl is_1) aligned = (grind arith, grind arith)
in_block size address width (inl is_16) (inr (inl is_2)) aligned = (grind arith, grind arith)
in_block size address width (inl is_16) (inr (inr is_4)) aligned = (grind arith, grind arith)
in_block size address width (inr (inl is_32)) (inl is_1) aligned = (grind arith, grind arith)
in_block size address width (inr (inl is_32)) (inr (inl is_2)) aligned = (grind arith, grind arith)
in_block size address width (inr (inl is_32)) (inr (inr is_4)) aligned = (grind arith, grind arith)
in_block size address width (inr (inr (inl is_64))) (inl is_1) aligned = (grind arith, grind arith)
in_block size address width (inr (inr (inl is_64))) (inr (inl is_2)) aligned = (grind arith, grind arith)
in_block size address width (inr (inr (inl is_64))) (inr (inr is_4)) aligned = (grind arith, grind arith)
in_block size address width (inr (inr (inr is_128))) (inl is_1) aligned = (grind arith, grind arith)
in_block size address width (inr (inr (inr is_128))) (inr (inl is_2)) aligned = (grind arith, grind arith)
in_block size address width (inr (inr (inr is_128))) (inr (inr is_4)) aligned = (grind arith, grind arith)

pub is_access : (machine : MachineParts) (address width : ℕ) → IsBlockSize machine.block_bytes → IsWidth width → address % width ≡ 0 → IsAccess machine (offset_of machine address) width
is_access machine address width size bytes aligned = record {
  bytes = bytes;
  aligned = (in_block machine.block_bytes address width size bytes aligned).0;
  inside = (in_block machine.block_bytes address width size bytes aligned).1;
}

below : (size blocks address : ℕ) → IsBlockSize size → (nat_le shared_base address && nat_lt address (shared_base + blocks * size)) ≡ true → (address - shared_base) / size < blocks
below size blocks address (inl is) e = grind (arith, nat_tests)
below size blocks address (inr (inl is)) e = grind (arith, nat_tests)
below size blocks address (inr (inr (inl is))) e = grind (arith, nat_tests)
below size blocks address (inr (inr (inr is))) e = grind (arith, nat_tests)

-- the block of an address exists
pub block_exists : (machine : MachineParts) (address block : ℕ) → IsBlockSize machine.block_bytes → shared_block machine address ≡ Some block → block < machine.blocks
block_exists machine address block size is = by (nat_le shared_base address && nat_lt address (block_address machine machine.blocks)) refl
  where
    by : (b : Bool) → (nat_le shared_base address && nat_lt address (block_address machine machine.blocks)) ≡ b → block < machine.blocks
    by true e =
        let f : Some ((address - shared_base) / machine.block_bytes) ≡ Some block = rw e at is in
        let at : (address - shared_base) / machine.block_bytes ≡ block = cc in
        subst (λ (b : ℕ). b < machine.blocks) at (below machine.block_bytes machine.blocks address size e)
    by false e = absurd (let f : None ≡ Some block = rw e at is in cc)

-- a machine has sets
pub some_sets : (machine : MachineParts) (cache : Cached) → IsMachine machine → CacheFits machine cache → 1 ≤ cache.machine.sets
some_sets machine cache is fits = subst (λ (m : MachineParts). 1 ≤ m.sets) (sym fits.machine_is) is.sets.at_least

-- a cache of the machine stays one
pub dropped_fits : (machine : MachineParts) (cache : Cached) (block : ℕ) → IsMachine machine → CacheFits machine cache → CacheFits machine (drop_of block cache)
dropped_fits machine cache block is fits = record {
  machine_is = machine_after_drop cache block ∙ fits.machine_is;
  sound = cached_after_drop cache block fits.sound (some_sets machine cache is fits);
}

pub written_fits : (machine : MachineParts) (cache : Cached) (block address width value : ℕ) → IsMachine machine → CacheFits machine cache → IsWidth width → address % width ≡ 0 →
    CacheFits machine (write_of block (offset_of machine address) width value cache)
written_fits machine cache block address width value is fits bytes aligned = record {
  machine_is = machine_after_write cache block (offset_of machine address) width value ∙ fits.machine_is;
  sound = cached_after_write cache block (offset_of machine address) width value fits.sound (some_sets machine cache is fits)
      (subst (λ (m : MachineParts). offset_of machine address + width ≤ m.block_bytes) (sym fits.machine_is) (in_block machine.block_bytes address width is.block_bytes bytes aligned).1);
}

-- a dropped block is absent, and another that was absent stays so
pub absent_after_drop : (machine : MachineParts) (cache : Cached) (block : ℕ) → IsMachine machine → CacheFits machine cache → tag_of (drop_of block cache) block ≡ Invalid
absent_after_drop machine cache block is fits = ap tag_by (none_after_drop cache block fits.sound (some_sets machine cache is fits))

pub still_absent : (machine : MachineParts) (cache : Cached) (block other : ℕ) → IsMachine machine → CacheFits machine cache → tag_of cache other ≡ Invalid → tag_of (drop_of block cache) other ≡ Invalid
still_absent machine cache block other is fits absent = elim (cases_eq other block) [
  | inl same ↦ subst (λ (b : ℕ). tag_of (drop_of block cache) b ≡ Invalid) (sym same) (absent_after_drop machine cache block is fits)
  | inr apart ↦ ap tag_by (others_after_drop cache block other fits.sound (some_sets machine cache is fits) apart) ∙ absent
]

-- a block that can't be read is absent
pub unread_absent : (cache : Cached) (block offset width : ℕ) → read_of cache block offset width ≡ None → tag_of cache block ≡ Invalid
unread_absent cache block offset width is = by (line_of cache block) refl
  where
    by : (line : Option Line) → line_of cache block ≡ line → tag_of cache block ≡ Invalid
    by None held = ap tag_by held
    by (Some line) held = absurd (let e : Some (number_in offset width line) ≡ None = rw held at is in cc)

-- a line, where there is one, of a block that exists, with the bytes of a block
abbrev pub LineFitsOpt : MachineParts → Option Line → Type 0
LineFitsOpt machine None = ⊤
LineFitsOpt machine (Some line) = (line.block < machine.blocks) × (length line.bytes ≡ machine.block_bytes)

pub held_line_fits : (machine : MachineParts) (cache : Cached) (block : ℕ) → IsMachine machine → CacheFits machine cache → block < machine.blocks → LineFitsOpt machine (line_of cache block)
held_line_fits machine cache block is fits exists = by (line_of cache block) refl
  where
    by : (line : Option Line) → line_of cache block ≡ line → LineFitsOpt machine line
    by None held = tt
    by (Some line) held =
        let of = line_is_of_block cache block line fits.sound (some_sets machine cache is fits) held in
        (subst (λ (b : ℕ). b < machine.blocks) (sym of.0) exists, of.1 ∙ ap (λ (m : MachineParts). m.block_bytes) fits.machine_is)

-- an installed line is one of the machine, and so is the one that it replaces
pub installed_fits : (machine : MachineParts) (cache : Cached) (line : Line) → IsMachine machine → CacheFits machine cache → line.block < machine.blocks → length line.bytes ≡ machine.block_bytes → tag_of cache line.block ≡ Invalid →
    CacheFits machine (install_of line cache)
installed_fits machine cache line is fits exists size absent = record {
  machine_is = machine_after_install cache line ∙ fits.machine_is;
  sound = cached_after_install cache line fits.sound (some_sets machine cache is fits) (subst (λ (m : MachineParts). 1 ≤ m.ways) (sym fits.machine_is) is.ways.at_least)
      (subst (λ (m : MachineParts). line.block < m.blocks) (sym fits.machine_is) exists) (size ∙ ap (λ (m : MachineParts). m.block_bytes) (sym fits.machine_is)) absent;
}

first_fits : (machine : MachineParts) (set : ℕ) (lines : List Line) (line : Line) → All (LineFits machine set) lines → slice_get lines 0 ≡ Some line → (line.block < machine.blocks) × (length line.bytes ≡ machine.block_bytes)
first_fits machine set [] line fit is = absurd (let e : None ≡ Some line = is in cc)
first_fits machine set (first ∷ rest) line fit is =
    let e : Some first ≡ Some line = is in
    let same : first ≡ line = cc in
    let fits : LineFits machine set first = fit 0 first (omega arith) in
    (subst (λ (l : Line). l.block < machine.blocks) same fits.exists, subst (λ (l : Line). length l.bytes ≡ machine.block_bytes) same fits.size)

pub replaced_fits : (machine : MachineParts) (cache : Cached) (line : Line) → IsMachine machine → CacheFits machine cache → LineFitsOpt machine (replaced_of line cache)
unfolding replaced_of replaced_in
replaced_fits machine cache line is fits = by (nat_lt (length (lines_of cache line.block)) cache.machine.ways)
  where
    first : (found : Option Line) → slice_get (lines_of cache line.block) 0 ≡ found → LineFitsOpt machine found
    first None held = tt
    first (Some old) held =
        let are = fits.sound.lines (set_of cache.machine line.block) (mod-lt line.block (some_sets machine cache is fits)) in
        subst (λ (m : MachineParts). (old.block < m.blocks) × (length old.bytes ≡ m.block_bytes)) fits.machine_is (first_fits cache.machine (set_of cache.machine line.block) (lines_of cache line.block) old are.fit held)

    by : (free : Bool) → LineFitsOpt machine (cond {A = Option Line} free None (slice_get (lines_of cache line.block) 0))
    by true = tt
    by false = first (slice_get (lines_of cache line.block) 0) refl
