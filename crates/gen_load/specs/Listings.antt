-- The programs of generated machines, by kind. A node begins with its own number in x10 and the number of nodes in x11;
-- shared memory begins at 0x80000000, and a block has 64 bytes. Own.
use Rattle.std.specs.Prelude.{ℕ, List, [], ◌∷◌, ◌++◌}
use Rattle.gen_load.specs.declared.line.Line.{Line}
use Rattle.gen_load.specs.declared.line.Label.TheVariants.{Right, Loop, Turn, Outer, Send, Seek, Found, Take}
use Rattle.gen_load.specs.Lines.{x0, x5, x6, x8, x9, x10, x11, x17, x18, x19, x20, x21, x22, x23, x24, here, lui, addi, addi_minus_1, slli, add, lw, sw, check_out_x, check_in, beq, bne, jal, ecall}

-- waits for all nodes
abbrev pub barrier : List Line
barrier =
    addi x17 x0 5 ∷
    ecall ∷
    []

-- puts out the byte in a register, and exits with 0
abbrev pub end_with : ℕ → List Line
end_with register =
    addi x10 register 0 ∷
    addi x17 x0 1 ∷
    ecall ∷
    addi x10 x0 0 ∷
    addi x17 x0 93 ∷
    ecall ∷
    []

-- Kind 0, a stencil: in each round every node adds the number of its right neighbour to its own. The numbers stand in a
-- block for each node.
abbrev pub stencil : ℕ → ℕ → List Line
stencil rounds seed =
    lui x8 0x80000 ∷
    addi x18 x10 0 ∷
    addi x19 x11 0 ∷
    slli x5 x18 6 ∷
    add x9 x8 x5 ∷
    addi x20 x18 1 ∷
    bne x20 x19 Right ∷
    addi x20 x0 0 ∷
    here Right ∷
    slli x5 x20 6 ∷
    add x20 x8 x5 ∷
    addi x5 x18 seed ∷
    sw x5 0 x9 ∷
    addi x21 x0 rounds ∷
    here Loop ∷
    barrier ++
    lw x5 0 x9 ∷
    lw x6 0 x20 ∷
    add x22 x5 x6 ∷
    barrier ++
    sw x22 0 x9 ∷
    addi_minus_1 x21 x21 ∷
    bne x21 x0 Loop ∷
    end_with x22

-- Kind 1, a shared counter by turns: a node waits for its turn, checks the counter out, adds 1, and checks it in.
abbrev pub counter : ℕ → List Line
counter rounds =
    lui x8 0x80000 ∷
    addi x18 x10 0 ∷
    addi x20 x18 1 ∷
    bne x20 x11 Turn ∷
    addi x20 x0 0 ∷
    here Turn ∷
    addi x21 x0 rounds ∷
    here Loop ∷
    lw x5 0 x8 ∷
    bne x5 x18 Loop ∷
    check_out_x 64 x8 ∷
    lw x6 64 x8 ∷
    addi x6 x6 1 ∷
    sw x6 64 x8 ∷
    check_in 64 x8 ∷
    sw x20 0 x8 ∷
    addi_minus_1 x21 x21 ∷
    bne x21 x0 Loop ∷
    end_with x6

-- Kind 2, all to all: in each round every node writes a number for each node, and then adds up those for itself. A block
-- for each pair of nodes.
abbrev pub all_to_all : ℕ → List Line
all_to_all rounds =
    lui x8 0x80000 ∷
    addi x18 x10 0 ∷
    addi x19 x11 0 ∷
    addi x21 x0 rounds ∷
    addi x23 x0 0 ∷
    slli x24 x19 6 ∷
    here Outer ∷
    slli x5 x18 6 ∷
    add x9 x8 x5 ∷
    addi x20 x0 0 ∷
    here Send ∷
    add x6 x18 x20 ∷
    sw x6 0 x9 ∷
    add x9 x9 x24 ∷
    addi x20 x20 1 ∷
    bne x20 x19 Send ∷
    barrier ++
    addi x9 x8 0 ∷
    addi x20 x0 0 ∷
    here Seek ∷
    beq x20 x18 Found ∷
    add x9 x9 x24 ∷
    addi x20 x20 1 ∷
    jal x0 Seek ∷
    here Found ∷
    addi x20 x0 0 ∷
    here Take ∷
    lw x6 0 x9 ∷
    add x23 x23 x6 ∷
    addi x9 x9 64 ∷
    addi x20 x20 1 ∷
    bne x20 x19 Take ∷
    barrier ++
    addi_minus_1 x21 x21 ∷
    bne x21 x0 Outer ∷
    end_with x23
