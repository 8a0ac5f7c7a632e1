-- Instructions run on an Intel processor: what stood before and after each. What no process can run, SYSCALL and UNDEF, is told by the
-- words of the Intel 64 manual, volume 2. The flags that are free are those of the manual, and after a shift or a rotation also
-- carry, which the manual tells further.
use Rattle.std.specs.Prelude.{ℕ, pos, negsuc, true, false, List, [], ◌∷◌, Some, None, codes}
use Prim.Native.String.{String}
use Rattle.machine_effect.specs.declared.next.Next.TheVariants as next
use Rattle.machine_effect.specs.Witness.{Seen, Run}
use Rattle.amd64_table.specs.declared.condition.Cc.TheVariants as code
use Rattle.amd64_table.specs.declared.reg.Reg.TheVariants.{Ax, Cx, Dx, Bx, Sp, Bp, Si, Di, R8, R9, R10, R11, R12, R13, R14, R15}
use Rattle.amd64_table.specs.declared.xmm.Xmm.TheVariants.{X2, X8, X10, X13, X15}
use Rattle.amd64_table.specs.declared.width.Width.TheVariants.{Q, L}
use Rattle.amd64_table.specs.declared.memory.Scale.TheVariants.{One, Two, Four, Eight}
use Rattle.amd64_table.specs.declared.memory.Mem.TheVariants as memory
use Rattle.amd64_table.specs.declared.memory.Rm.TheVariants as rm
use Rattle.amd64_table.specs.declared.op.Arithmetic.TheVariants as arithmetic
use Rattle.amd64_table.specs.declared.op.RegRm.TheVariants as reg_rm
use Rattle.amd64_table.specs.declared.op.MemReg.TheVariants as mem_reg
use Rattle.amd64_table.specs.declared.op.StoreSize.TheVariants as size
use Rattle.amd64_table.specs.declared.op.Extend.TheVariants as extend
use Rattle.amd64_table.specs.declared.op.Unary.TheVariants as unary
use Rattle.amd64_table.specs.declared.op.MulDiv.TheVariants as mul_div
use Rattle.amd64_table.specs.declared.op.RmReg.TheVariants as rm_reg
use Rattle.amd64_table.specs.declared.op.ShiftOp.TheVariants as shifts
use Rattle.amd64_table.specs.declared.op.Stack.TheVariants as stack
use Rattle.amd64_table.specs.declared.op.Atomic.TheVariants as atomic
use Rattle.amd64_table.specs.declared.op.Near.TheVariants as near
use Rattle.amd64_table.specs.declared.op.Indirect.TheVariants as indirect
use Rattle.amd64_table.specs.declared.op.Plain.TheVariants as plain
use Rattle.amd64_table.specs.declared.instr.Instr.{Instr}
use Rattle.amd64_table.specs.declared.instr.Instr.TheVariants as instr
use Rattle.amd64_table.specs.Effects.{effect_at}

abbrev seen : List (ℕ × ℕ) → ℕ → String → Seen
seen regs bytes flags = record { regs = regs; wide = []; bytes = bytes; flags = codes flags }

abbrev wide_seen : List (ℕ × ℕ) → List (ℕ × ℕ) → ℕ → String → Seen
wide_seen regs wide bytes flags = record { regs = regs; wide = wide; bytes = bytes; flags = codes flags }

-- the instruction ends at 0x10000100, and the sixteen bytes stand at 0x20000100
abbrev run : Instr → Seen → Seen → Run
run instr before after = record {
  effect = effect_at instr 0x1000_0100;
  past = 0x1000_0100;
  at = 0x2000_0100;
  before = before;
  after = after;
  free = [];
  goes = next.Fall;
}

abbrev mixed : ℕ
mixed = 0xfedc_ba98_7654_3210_8f9e_adbc_cbda_e9f8

-- a call pushes its return address, and RET pops it, by the step of a machine: these runs leave the stack pointer out
abbrev pub runs : List Run
runs =
    run (instr.RegRm reg_rm.Mov Q Bx (rm.Reg R9))
    (seen ((3, 0x1234_5678_9abc_def0) ∷ (9, 0xffff_ffff_8000_0001) ∷ []) 0 "c-s-p") (seen ((9, 0x1234_5678_9abc_def0) ∷ []) 0 "c-s-p") ∷
    run (instr.RegRm reg_rm.Mov L Bx (rm.Reg R9)) (seen ((3, 0x1234_5678_9abc_def0) ∷ (9, 0xffff_ffff_8000_0001) ∷ []) 0 "-z-o-") (seen ((9, 0x9abc_def0) ∷ []) 0 "-z-o-") ∷
    run (instr.RegRm reg_rm.Mov L Sp (rm.Reg Sp)) (seen ((4, 0x1234_5678_9abc_def0) ∷ []) 0 "-----") (seen ((4, 0x9abc_def0) ∷ []) 0 "-----") ∷
    run (instr.RegRm reg_rm.Mov Q Bx (rm.Mem (memory.Base R12 (pos 8))))
    (seen ((3, 0x1234_5678_9abc_def0) ∷ (12, 0x2000_0100) ∷ []) mixed "-----") (seen [] 0x1234_5678_9abc_def0_8f9e_adbc_cbda_e9f8 "-----") ∷
    run (instr.RegRm reg_rm.Mov L R9 (rm.Mem (memory.Indexed Bp Ax Two (negsuc 127))))
    (seen ((0, 3) ∷ (5, 0x2000_017c) ∷ (9, 0xffff_ffff_8000_0001) ∷ []) mixed "-----") (seen [] 0xfedc_ba98_7654_3210_8f9e_8000_0001_e9f8 "-----") ∷
    run (instr.MemReg mem_reg.Mov Q (memory.Symbol (pos 268435457)) R14) (seen ((14, 5) ∷ []) mixed "czsop") (seen ((14, 0x108f_9ead_bccb_dae9) ∷ []) mixed "czsop") ∷
    run (instr.MemReg mem_reg.Mov L (memory.Indexed Sp R13 Eight (pos 2147483647)) Sp)
    (seen ((4, 0xffff_ffff_a000_00ed) ∷ (13, 3) ∷ []) mixed "-----") (seen ((4, 0x8f9e_adbc) ∷ []) mixed "-----") ∷
    run (instr.StoreLow size.Byte Si (memory.Base Bp (pos 0)))
    (seen ((5, 0x2000_0100) ∷ (6, 0x1234_5678_9abc_def0) ∷ []) mixed "-z---") (seen [] 0xfedc_ba98_7654_3210_8f9e_adbc_cbda_e9f0 "-z---") ∷
    run (instr.StoreLow size.Word R8 (memory.Base Sp (negsuc 8)))
    (seen ((4, 0x2000_010e) ∷ (8, 0xffff_ffff_8000_0001) ∷ []) mixed "-----") (seen [] 0xfedc_ba98_7654_3210_8f00_01bc_cbda_e9f8 "-----") ∷
    run (instr.Extend extend.ByteZero (rm.Reg Di) R10) (seen ((7, 0x1234_5678_9abc_def0) ∷ (10, 0x7fff_ffff_ffff_ffff) ∷ []) 0 "-----") (seen ((10, 0xf0) ∷ []) 0 "-----") ∷
    run (instr.Extend extend.ByteZero (rm.Mem (memory.Base Cx (pos 1))) Dx)
    (seen ((1, 0x2000_00ff) ∷ (2, 0xffff_ffff_8000_0001) ∷ []) mixed "-----") (seen ((2, 0xf8) ∷ []) mixed "-----") ∷
    run (instr.Extend extend.WordZero (rm.Reg Sp) Sp) (seen ((4, 0x1234_5678_9abc_def0) ∷ []) 0 "-----") (seen ((4, 0xdef0) ∷ []) 0 "-----") ∷
    run (instr.Extend extend.WordZero (rm.Mem (memory.Symbol (pos 268435459))) Si)
    (seen ((6, 0x7fff_ffff_ffff_ffff) ∷ []) mixed "-----") (seen ((6, 0xbccb) ∷ []) mixed "-----") ∷
    run (instr.Extend extend.ByteSign (rm.Reg Sp) R13)
    (seen ((4, 0x1234_5678_9abc_def0) ∷ (13, 0x7fff_ffff_ffff_ffff) ∷ []) 0 "-z-o-") (seen ((13, 0xffff_ffff_ffff_fff0) ∷ []) 0 "-z-o-") ∷
    run (instr.Extend extend.ByteSign (rm.Mem (memory.Base Ax (pos 2))) Ax)
    (seen ((0, 0x2000_0105) ∷ []) mixed "-----") (seen ((0, 0xffff_ffff_ffff_ff8f) ∷ []) mixed "-----") ∷
    run (instr.Extend extend.WordSign (rm.Reg Dx) Cx) (seen ((1, 0x7fff_ffff_ffff_ffff) ∷ (2, 0x1_2345) ∷ []) 0 "-----") (seen ((1, 0x2345) ∷ []) 0 "-----") ∷
    run (instr.Extend extend.WordSign (rm.Mem (memory.Indexed R8 R9 Four (pos 0))) Bx)
    (seen ((3, 5) ∷ (8, 0x2000_00fa) ∷ (9, 3) ∷ []) mixed "-----") (seen ((3, 0xffff_ffff_ffff_8f9e) ∷ []) mixed "-----") ∷
    run (instr.Extend extend.LongSign (rm.Reg R11) Bp) (seen ((5, 7) ∷ (11, 0x1234_5678_9abc_def0) ∷ []) 0 "-----") (seen ((5, 0xffff_ffff_9abc_def0) ∷ []) 0 "-----") ∷
    run (instr.Extend extend.LongSign (rm.Mem (memory.Base R13 (pos 0))) R15)
    (seen ((13, 0x2000_0108) ∷ (15, 7) ∷ []) mixed "-----") (seen ((15, 0x7654_3210) ∷ []) mixed "-----") ∷
    run (instr.LoadLong 0xf000_000f Dx) (seen ((2, 0x1234_5678_9abc_def0) ∷ []) 0 "c---p") (seen ((2, 0xf000_000f) ∷ []) 0 "c---p") ∷
    run (instr.LoadQuad (negsuc 2147483647) R12) (seen ((12, 0x1234_5678_9abc_def0) ∷ []) 0 "-----") (seen ((12, 0xffff_ffff_8000_0000) ∷ []) 0 "-----") ∷
    run (instr.LoadQuad (pos 0x1234_5678_9abc) Sp) (seen ((4, 0x1234_5678_9abc_def0) ∷ []) 0 "-----") (seen ((4, 0x1234_5678_9abc) ∷ []) 0 "-----") ∷
    run (instr.StoreConst Q (negsuc 1) (memory.Base Si (negsuc 15)))
    (seen ((6, 0x2000_0113) ∷ []) mixed "--s--") (seen [] 0xfedc_ba98_76ff_ffff_ffff_ffff_feda_e9f8 "--s--") ∷
    run (instr.StoreConst L (pos 305419896) (memory.Symbol (pos 268435456))) (seen [] mixed "-----") (seen [] 0xfedc_ba98_7654_3210_8f9e_adbc_1234_5678 "-----") ∷
    run (instr.StoreByte (negsuc 127) (memory.Base Di (pos 0))) (seen ((7, 0x2000_010f) ∷ []) mixed "-----") (seen [] 0x80dc_ba98_7654_3210_8f9e_adbc_cbda_e9f8 "-----") ∷
    run (instr.Lea (memory.Base Bx (negsuc 2147483647)) Bx) (seen ((3, 3) ∷ []) 0 "czsop") (seen ((3, 0xffff_ffff_8000_0003) ∷ []) 0 "czsop") ∷
    run (instr.Lea (memory.Indexed R15 Dx Eight (pos 127)) Sp)
    (seen ((2, 0x1234_5678_9abc_def0) ∷ (15, 0xffff_ffff_8000_0001) ∷ []) 0 "-----") (seen ((4, 0x91a2_b3c4_55e6_f800) ∷ []) 0 "-----") ∷
    run (instr.Lea (memory.Symbol (pos 268435460)) R9) (seen ((9, 0x1234_5678_9abc_def0) ∷ []) 0 "-----") (seen ((9, 0x2000_0104) ∷ []) 0 "-----") ∷
    run (instr.MoveCc code.Carry Q (rm.Reg R8) Cx)
    (seen ((1, 0xffff_ffff_8000_0001) ∷ (8, 0x1234_5678_9abc_def0) ∷ []) 0 "c----") (seen ((1, 0x1234_5678_9abc_def0) ∷ []) 0 "c----") ∷
    run (instr.MoveCc code.NeitherCarryNorZero Q (rm.Reg R8) Cx)
    (seen ((1, 0xffff_ffff_8000_0001) ∷ (8, 0x1234_5678_9abc_def0) ∷ []) 0 "-----") (seen ((1, 0x1234_5678_9abc_def0) ∷ []) 0 "-----") ∷
    run (instr.MoveCc code.Greater Q (rm.Reg R8) Cx)
    (seen ((1, 0xffff_ffff_8000_0001) ∷ (8, 0x1234_5678_9abc_def0) ∷ []) 0 "--so-") (seen ((1, 0x1234_5678_9abc_def0) ∷ []) 0 "--so-") ∷
    run (instr.MoveCc code.ParityOdd L (rm.Reg R8) Cx)
    (seen ((1, 0xffff_ffff_8000_0001) ∷ (8, 0x1234_5678_9abc_def0) ∷ []) 0 "----p") (seen ((1, 0x8000_0001) ∷ []) 0 "----p") ∷
    run (instr.MoveCc code.Less L (rm.Mem (memory.Base R14 (pos 0))) R14) (seen ((14, 0x2000_0104) ∷ []) mixed "--s--") (seen ((14, 0x8f9e_adbc) ∷ []) mixed "--s--") ∷
    run (instr.MoveCc code.LessOrEqual Q (rm.Mem (memory.Symbol (pos 268435461))) Bp) (seen ((5, 0x1234_5678_9abc_def0) ∷ []) mixed "--so-") (seen [] mixed "--so-") ∷
    run (instr.LoadWide (memory.Base R9 (pos 0)) X13) (wide_seen ((9, 0x2000_0100) ∷ []) ((13, 7) ∷ []) mixed "-z-o-") (wide_seen [] ((13, mixed) ∷ []) mixed "-z-o-") ∷
    run (instr.StoreWide X10 (memory.Base R12 (negsuc 7))) (wide_seen ((12, 0x2000_0108) ∷ []) ((10, mixed) ∷ []) 5 "-----") (wide_seen [] [] mixed "-----") ∷
    run (instr.LoadTls R11) (seen ((11, 3) ∷ (16, 0x2000_0109) ∷ []) mixed "-----") (seen ((11, 0x108f_9ead_bccb_dae9) ∷ []) mixed "-----") ∷
    run (instr.ArithmeticReg arithmetic.Add false L Si (rm.Reg R9))
    (seen ((6, 0xffff_ffff_7fff_ffff) ∷ (9, 0x1_0000_0001) ∷ []) 0 "-zs-p") (seen ((9, 0x8000_0000) ∷ []) 0 "--sop") ∷
    run (instr.ArithmeticReg arithmetic.Or false Q Si (rm.Reg R9))
    (seen ((6, 0x1234_0000_0000_00f0) ∷ (9, 0x8000_0000_0000_000f) ∷ []) 0 "czsop") (seen ((9, 0x9234_0000_0000_00ff) ∷ []) 0 "--s-p") ∷
    run (instr.ArithmeticReg arithmetic.Adc false Q Si (rm.Reg R9))
    (seen ((6, 0x7fff_ffff_ffff_ffff) ∷ (9, 0) ∷ []) 0 "c----") (seen ((9, 0x8000_0000_0000_0000) ∷ []) 0 "--sop") ∷
    run (instr.ArithmeticReg arithmetic.Sbb false L Si (rm.Reg R9)) (seen ((6, 5) ∷ (9, 0xffff_ffff_0000_0005) ∷ []) 0 "c---p") (seen ((9, 0xffff_ffff) ∷ []) 0 "c-s-p") ∷
    run (instr.ArithmeticReg arithmetic.And false Q Si (rm.Reg R9)) (seen ((6, 0x1234_5678_9abc_def0) ∷ (9, 0xf0) ∷ []) 0 "c--o-") (seen [] 0 "----p") ∷
    run (instr.ArithmeticReg arithmetic.Sub false Q Si (rm.Reg R9))
    (seen ((6, 5) ∷ (9, 0x8000_0000_0000_0000) ∷ []) 0 "cz--p") (seen ((9, 0x7fff_ffff_ffff_fffb) ∷ []) 0 "---o-") ∷
    run (instr.ArithmeticReg arithmetic.Xor false L Si (rm.Reg R9))
    (seen ((6, 0xffff_ffff_8000_0001) ∷ (9, 0x1234_5678_9abc_def0) ∷ []) 0 "c-so-") (seen ((9, 0x1abc_def1) ∷ []) 0 "-----") ∷
    run (instr.ArithmeticReg arithmetic.Add true Q Bx (rm.Mem (memory.Base Dx (pos 1))))
    (seen ((2, 0x2000_00ff) ∷ (3, 0x7fff_ffff_ffff_ffff) ∷ []) mixed "c----") (seen [] 0xfedc_ba98_7654_3210_0f9e_adbc_cbda_e9f7 "c----") ∷
    run (instr.ArithmeticReg arithmetic.Or true L Bx (rm.Mem (memory.Indexed R10 R11 One (pos 0))))
    (seen ((3, 0x1234_5678_9abc_def0) ∷ (10, 0x2000_00fe) ∷ (11, 3) ∷ []) mixed "-----") (seen [] 0xfedc_ba98_7654_3210_8f9e_adbe_ffde_f9f8 "--s-p") ∷
    run (instr.ArithmeticReg arithmetic.Adc true Q Bx (rm.Mem (memory.Symbol (pos 268435456))))
    (seen ((3, 0xffff_ffff_8000_0001) ∷ []) mixed "c----") (seen [] 0xfedc_ba98_7654_3210_8f9e_adbc_4bda_e9fa "c-s-p") ∷
    run (instr.ArithmeticReg arithmetic.Sbb true L Bx (rm.Mem (memory.Base R8 (negsuc 2))))
    (seen ((3, 0x7fff_ffff_ffff_ffff) ∷ (8, 0x2000_0106) ∷ []) mixed "-----") (seen [] 0xfedc_ba98_7654_3210_8f9e_adbc_ccda_e9f8 "c-s-p") ∷
    run (instr.ArithmeticReg arithmetic.And true Q Bx (rm.Mem (memory.Indexed Di R8 Four (pos 64))))
    (seen ((3, 0x1234_5678_9abc_def0) ∷ (7, 0x2000_00b8) ∷ (8, 3) ∷ []) mixed "c----") (seen [] 0xfedc_ba98_1214_1210_8a9c_8cb0_cbda_e9f8 "-----") ∷
    run (instr.ArithmeticReg arithmetic.Sub true L Bx (rm.Mem (memory.Symbol (pos 268435463))))
    (seen ((3, 0xffff_ffff_8000_0001) ∷ []) mixed "-----") (seen [] 0xfedc_ba98_76d4_3210_8e9e_adbc_cbda_e9f8 "c-sop") ∷
    run (instr.ArithmeticReg arithmetic.Xor true Q Bx (rm.Mem (memory.Base Sp (pos 8))))
    (seen ((3, 0x7fff_ffff_ffff_ffff) ∷ (4, 0x2000_00fe) ∷ []) mixed "c----") (seen [] 0xfedc_c567_89ab_cdef_7061_adbc_cbda_e9f8 "--s--") ∷
    run (instr.ArithmeticConst arithmetic.Add false L (negsuc 2139217049) (rm.Reg Sp))
    (seen ((4, 0x8000_0000_0000_0000) ∷ []) 0 "cz---") (seen ((4, 0x807e_2366) ∷ []) 0 "--s-p") ∷
    run (instr.ArithmeticConst arithmetic.Or false Q (pos 32767) (rm.Reg Sp))
    (seen ((4, 0x1234_5678_9abc_def0) ∷ []) 0 "---op") (seen ((4, 0x1234_5678_9abc_ffff) ∷ []) 0 "----p") ∷
    run (instr.ArithmeticConst arithmetic.Adc false L (negsuc 0) (rm.Mem (memory.Base Ax (pos 0)))) (seen ((0, 0x2000_0102) ∷ []) mixed "c-s--") (seen [] mixed "c-s--") ∷
    run (instr.ArithmeticConst arithmetic.Sbb false Q (pos 0) (rm.Reg Sp)) (seen ((4, 0x8000_0000_0000_0000) ∷ []) 0 "---op") (seen [] 0 "--s-p") ∷
    run (instr.ArithmeticConst arithmetic.And false L (negsuc 127) (rm.Reg Sp))
    (seen ((4, 0x1234_5678_9abc_def0) ∷ []) 0 "cz---") (seen ((4, 0x9abc_de80) ∷ []) 0 "--s--") ∷
    run (instr.ArithmeticConst arithmetic.Sub false Q (pos 24) (rm.Mem (memory.Base Ax (pos 0))))
    (seen ((0, 0x2000_0105) ∷ []) mixed "c-s--") (seen [] 0xfedc_ba98_7654_3210_8f9e_95bc_cbda_e9f8 "--s-p") ∷
    run (instr.ArithmeticConst arithmetic.Xor false L (pos 2147483647) (rm.Reg Sp))
    (seen ((4, 0x8000_0000_0000_0000) ∷ []) 0 "cz---") (seen ((4, 0x7fff_ffff) ∷ []) 0 "----p") ∷
    run (instr.MemReg (mem_reg.Arithmetic arithmetic.Add) Q (memory.Base Cx (pos 4)) R13)
    (seen ((1, 0x2000_00ff) ∷ (13, 0xffff_ffff_8000_0001) ∷ []) mixed "c-s--") (seen ((13, 0x5432_108f_1ead_bccc) ∷ []) mixed "c---p") ∷
    run (instr.MemReg (mem_reg.Arithmetic arithmetic.Or) L (memory.Symbol (pos 268435458)) R13)
    (seen ((13, 0x7fff_ffff_ffff_ffff) ∷ []) mixed "-z-o-") (seen ((13, 0xffff_ffff) ∷ []) mixed "--s-p") ∷
    run (instr.MemReg (mem_reg.Arithmetic arithmetic.Adc) Q (memory.Base Cx (pos 4)) R13)
    (seen ((1, 0x2000_00ff) ∷ (13, 0x1234_5678_9abc_def0) ∷ []) mixed "c-s--") (seen ((13, 0x6666_6708_396a_9bbc) ∷ []) mixed "-----") ∷
    run (instr.MemReg (mem_reg.Arithmetic arithmetic.Sbb) L (memory.Symbol (pos 268435458)) R13)
    (seen ((13, 0xffff_ffff_8000_0001) ∷ []) mixed "-z-o-") (seen ((13, 0xd243_3427) ∷ []) mixed "c-s-p") ∷
    run (instr.MemReg (mem_reg.Arithmetic arithmetic.And) Q (memory.Base Cx (pos 4)) R13)
    (seen ((1, 0x2000_00ff) ∷ (13, 0x7fff_ffff_ffff_ffff) ∷ []) mixed "c-s--") (seen ((13, 0x5432_108f_9ead_bccb) ∷ []) mixed "-----") ∷
    run (instr.MemReg (mem_reg.Arithmetic arithmetic.Sub) L (memory.Symbol (pos 268435458)) R13)
    (seen ((13, 0x1234_5678_9abc_def0) ∷ []) mixed "-z-o-") (seen ((13, 0xed00_1316) ∷ []) mixed "c-s--") ∷
    run (instr.MemReg (mem_reg.Arithmetic arithmetic.Xor) Q (memory.Base Cx (pos 4)) R13)
    (seen ((1, 0x2000_00ff) ∷ (13, 0xffff_ffff_8000_0001) ∷ []) mixed "c-s--") (seen ((13, 0xabcd_ef70_1ead_bcca) ∷ []) mixed "--s-p") ∷
    run (instr.RegRm reg_rm.Cmp Q Dx (rm.Reg Ax)) (seen ((0, 0x8000_0000_0000_0000) ∷ (2, 1) ∷ []) 0 "c---p") (seen [] 0 "---op") ∷
    run (instr.RegRm reg_rm.Cmp L Dx (rm.Reg Ax)) (seen ((0, 0x1_8000_0001) ∷ (2, 0xffff_ffff_8000_0001) ∷ []) 0 "c-so-") (seen [] 0 "-z--p") ∷
    run (instr.RegRm reg_rm.Cmp L Dx (rm.Mem (memory.Base Bx (pos 0)))) (seen ((2, 0x1234_5678_9abc_def0) ∷ (3, 0x2000_0100) ∷ []) mixed "-zsop") (seen [] mixed "-----") ∷
    run (instr.MemReg mem_reg.Cmp Q (memory.Symbol (pos 268435464)) R12) (seen ((12, 0x1234_5678_9abc_def0) ∷ []) mixed "-z---") (seen [] mixed "c----") ∷
    run (instr.MemReg mem_reg.Cmp L (memory.Symbol (pos 268435460)) R12) (seen ((12, 0x1234_5678_9abc_def0) ∷ []) mixed "-z---") (seen [] mixed "-----") ∷
    run (instr.RegRm reg_rm.Test Q Dx (rm.Reg R9)) (seen ((2, 0x8000_0000_0000_0000) ∷ (9, 0xffff_ffff_8000_0001) ∷ []) 0 "cz-op") (seen [] 0 "--s-p") ∷
    run (instr.RegRm reg_rm.Test L Dx (rm.Mem (memory.Base Bp (pos 1)))) (seen ((2, 0x1_0000_0000) ∷ (5, 0x2000_00ff) ∷ []) mixed "c-so-") (seen [] mixed "-z--p") ∷
    run (instr.CompareConst Q (rm.Reg Sp) (negsuc 0)) (seen ((4, 0xffff_ffff_ffff_ffff) ∷ []) 0 "c-so-") (seen [] 0 "-z--p") ∷
    run (instr.CompareConst L (rm.Mem (memory.Indexed Ax Bx Eight (pos 2147483647))) (pos 4))
    (seen ((0, 0xffff_ffff_a000_00ea) ∷ (3, 3) ∷ []) mixed "c---p") (seen [] mixed "--s--") ∷
    run (instr.Unary unary.Inc false Q (rm.Reg R8)) (seen ((8, 0x7fff_ffff_ffff_ffff) ∷ []) 0 "c-s--") (seen ((8, 0x8000_0000_0000_0000) ∷ []) 0 "c-sop") ∷
    run (instr.Unary unary.Inc false L (rm.Reg Bp)) (seen ((5, 0xffff_ffff_ffff_ffff) ∷ []) 0 "-----") (seen ((5, 0) ∷ []) 0 "-z--p") ∷
    run (instr.Unary unary.Inc true L (rm.Mem (memory.Base Si (pos 3))))
    (seen ((6, 0x2000_00fe) ∷ []) mixed "czsop") (seen [] 0xfedc_ba98_7654_3210_8f9e_adbc_cbda_eaf8 "c-s--") ∷
    run (instr.Unary unary.Dec false Q (rm.Reg R8)) (seen ((8, 0x8000_0000_0000_0000) ∷ []) 0 "-z--p") (seen ((8, 0x7fff_ffff_ffff_ffff) ∷ []) 0 "---op") ∷
    run (instr.Unary unary.Dec false L (rm.Reg Bp)) (seen ((5, 0x1234_5678_9abc_def0) ∷ []) 0 "c----") (seen ((5, 0x9abc_deef) ∷ []) 0 "c-s--") ∷
    run (instr.Unary unary.Dec true Q (rm.Mem (memory.Symbol (pos 268435458)))) (seen [] mixed "czsop") (seen [] 0xfedc_ba98_7654_3210_8f9e_adbc_cbd9_e9f8 "c----") ∷
    run (instr.Unary unary.Not false Q (rm.Reg R8)) (seen ((8, 0x1234_5678_9abc_def0) ∷ []) 0 "cz---") (seen ((8, 0xedcb_a987_6543_210f) ∷ []) 0 "cz---") ∷
    run (instr.Unary unary.Not false L (rm.Reg Bp)) (seen ((5, 0xffff_ffff_8000_0001) ∷ []) 0 "-----") (seen ((5, 0x7fff_fffe) ∷ []) 0 "-----") ∷
    run (instr.Unary unary.Not true L (rm.Mem (memory.Base Si (pos 3))))
    (seen ((6, 0x2000_00fe) ∷ []) mixed "czsop") (seen [] 0xfedc_ba98_7654_3210_8f9e_ad43_3425_16f8 "czsop") ∷
    run (instr.Unary unary.Neg false Q (rm.Reg R8)) (seen ((8, 0x8000_0000_0000_0000) ∷ []) 0 "-z---") (seen [] 0 "c-sop") ∷
    run (instr.Unary unary.Neg false L (rm.Reg Bp)) (seen ((5, 0) ∷ []) 0 "c-s--") (seen [] 0 "-z--p") ∷
    run (instr.Unary unary.Neg true Q (rm.Mem (memory.Symbol (pos 268435458)))) (seen [] mixed "czsop") (seen [] 0xfedc_ba98_7654_cdef_7061_5243_3426_e9f8 "c-s--") ∷
    run (instr.MulDiv mul_div.Mul Q (rm.Reg R9))
    (seen ((0, 0xffff_ffff_8000_0001) ∷ (2, 5) ∷ (9, 0x1234_5678_9abc_def0) ∷ []) 0 "-----") (seen ((0, 0xc4d5_e700_9abc_def0) ∷ (2, 0x1234_5678_91a2_b3b3) ∷ []) 0 "c??o?") ∷
    run (instr.MulDiv mul_div.Mul L (rm.Reg Cx))
    (seen ((0, 0x1_0000_0007) ∷ (1, 3) ∷ (2, 0x1234_5678_9abc_def0) ∷ []) 0 "czsop") (seen ((0, 0x15) ∷ (2, 0) ∷ []) 0 "-??-?") ∷
    run (instr.MulDiv mul_div.Mul L (rm.Mem (memory.Symbol (pos 268435456))))
    (seen ((0, 0x1234_5678_9abc_def0) ∷ (2, 5) ∷ []) mixed "-----") (seen ((0, 0xf640_6880) ∷ (2, 0x7b38_1709) ∷ []) mixed "c??o?") ∷
    run (instr.MulDiv mul_div.Div Q (rm.Reg Si))
    (seen ((0, 0xffff_ffff_8000_0001) ∷ (2, 0x1234) ∷ (6, 0x1234_5678_9abc_def0) ∷ []) 0 "-----") (seen ((0, 0x1_0009) ∷ (2, 0x5b0_5b05_306c_2991) ∷ []) 0 "?????") ∷
    run (instr.MulDiv mul_div.Div L (rm.Mem (memory.Base Bx (pos 0))))
    (seen ((0, 0x1234_5678_9abc_def0) ∷ (2, 0x7_0000_0009) ∷ (3, 0x2000_0108) ∷ []) mixed "-----") (seen ((0, 0x14) ∷ (2, 0x5c28_f5b0) ∷ []) mixed "?????") ∷
    run (instr.MulDiv mul_div.Idiv Q (rm.Reg Si))
    (seen ((0, 0x64) ∷ (2, 0) ∷ (6, 0xffff_ffff_ffff_fff9) ∷ []) 0 "-----") (seen ((0, 0xffff_ffff_ffff_fff2) ∷ (2, 2) ∷ []) 0 "?????") ∷
    run (instr.MulDiv mul_div.Idiv L (rm.Reg Bp)) (seen ((0, 0xffff_ff9c) ∷ (2, 0xffff_ffff) ∷ (5, 9) ∷ []) 0 "-----") (seen ((0, 0xffff_fff5) ∷ []) 0 "?????") ∷
    run (instr.RmReg rm_reg.Imul Q (rm.Reg R9) Dx) (seen ((2, 5) ∷ (9, 0xffff_ffff_ffff_fffd) ∷ []) 0 "czsop") (seen ((2, 0xffff_ffff_ffff_fff1) ∷ []) 0 "-??-?") ∷
    run (instr.RmReg rm_reg.Imul L (rm.Mem (memory.Symbol (pos 268435456))) Dx)
    (seen ((2, 0x1234_5678_9abc_def0) ∷ []) mixed "-----") (seen ((2, 0xf640_6880) ∷ []) mixed "c??o?") ∷
    run (instr.RmReg rm_reg.Bsf Q (rm.Reg R9) Dx) (seen ((2, 5) ∷ (9, 0x1_0000_0000) ∷ []) 0 "-z---") (seen ((2, 0x20) ∷ []) 0 "?-???") ∷
    run (instr.RmReg rm_reg.Bsf L (rm.Mem (memory.Base Cx (pos 0))) Cx) (seen ((1, 0x2000_0100) ∷ []) mixed "-----") (seen ((1, 3) ∷ []) mixed "?-???") ∷
    record (run (instr.RmReg rm_reg.Bsf Q (rm.Reg R9) Dx) (seen ((2, 5) ∷ []) 0 "-----") (seen ((2, 5) ∷ []) 0 "?z???")) { free = 2 ∷ [] } ∷
    record (run (instr.RmReg rm_reg.Bsr L (rm.Reg R9) Dx) (seen ((2, 5) ∷ (9, 0x1_0000_0000) ∷ []) 0 "-----") (seen ((2, 5) ∷ []) 0 "?z???")) { free = 2 ∷ [] } ∷
    run (instr.RmReg rm_reg.Bsr Q (rm.Reg Ax) Sp) (seen ((0, 0x1234_5678_9abc_def0) ∷ (4, 5) ∷ []) 0 "-----") (seen ((4, 0x3c) ∷ []) 0 "?-???") ∷
    run (instr.RmReg rm_reg.Bsr L (rm.Reg Ax) Si) (seen ((0, 0xf_0000_0105) ∷ (6, 0xffff_ffff_8000_0001) ∷ []) 0 "-z---") (seen ((6, 8) ∷ []) 0 "?-???") ∷
    run (instr.RmReg rm_reg.Popcnt Q (rm.Reg Di) R8) (seen ((7, 0x1234_5678_9abc_def0) ∷ (8, 0xffff_ffff_8000_0001) ∷ []) 0 "czsop") (seen ((8, 0x20) ∷ []) 0 "-----") ∷
    run (instr.RmReg rm_reg.Popcnt L (rm.Mem (memory.Symbol (pos 268435460))) R8)
    (seen ((8, 0xffff_ffff_8000_0001) ∷ []) mixed "czsop") (seen ((8, 0x14) ∷ []) mixed "-----") ∷
    run (instr.RmReg rm_reg.Popcnt L (rm.Reg Di) R8) (seen ((7, 0x7_0000_0000) ∷ (8, 0xffff_ffff_8000_0001) ∷ []) 0 "c-sop") (seen ((8, 0) ∷ []) 0 "-z---") ∷
    run (instr.ShiftConst shifts.Shl Q 4 (rm.Reg R9)) (seen ((9, 0x1234_5678_9abc_def0) ∷ []) 0 "-z-o-") (seen ((9, 0x2345_6789_abcd_ef00) ∷ []) 0 "?--?p") ∷
    run (instr.ShiftConst shifts.Shl L 31 (rm.Mem (memory.Base Bx (pos 1))))
    (seen ((3, 0x2000_0101) ∷ []) mixed "c-s-p") (seen [] 0xfedc_ba98_7654_3210_8f9e_0000_0000_e9f8 "?z-?p") ∷
    run (instr.ShiftCx shifts.Shl L (rm.Reg Di)) (seen ((1, 0x1_0025) ∷ (7, 0x1234_5678_9abc_def0) ∷ []) 0 "cz--p") (seen ((7, 0x579b_de00) ∷ []) 0 "?--?p") ∷
    run (instr.ShiftCx shifts.Shl Q (rm.Reg Di)) (seen ((1, 0x40) ∷ (7, 0x1234_5678_9abc_def0) ∷ []) 0 "cz--p") (seen [] 0 "cz--p") ∷
    run (instr.ShiftConst shifts.Shr Q 63 (rm.Reg R9)) (seen ((9, 0xffff_ffff_8000_0001) ∷ []) 0 "-z-o-") (seen ((9, 1) ∷ []) 0 "?--?-") ∷
    run (instr.ShiftConst shifts.Shr L 30 (rm.Mem (memory.Symbol (pos 268435459)))) (seen [] mixed "c-s-p") (seen [] 0xfedc_ba98_7654_3210_8f00_0000_02da_e9f8 "?--?-") ∷
    run (instr.ShiftCx shifts.Shr L (rm.Reg Di)) (seen ((1, 0x1_0026) ∷ (7, 0x1234_5678_9abc_def0) ∷ []) 0 "cz--p") (seen ((7, 0x26a_f37b) ∷ []) 0 "?--?p") ∷
    run (instr.ShiftCx shifts.Shr L (rm.Reg Di)) (seen ((1, 0x20) ∷ (7, 0x1234_5678_9abc_def0) ∷ []) 0 "cz--p") (seen ((7, 0x9abc_def0) ∷ []) 0 "cz--p") ∷
    run (instr.ShiftConst shifts.Sar Q 1 (rm.Reg R9)) (seen ((9, 0x8000_0000_0000_0000) ∷ []) 0 "-z-o-") (seen ((9, 0xc000_0000_0000_0000) ∷ []) 0 "?-s?p") ∷
    run (instr.ShiftConst shifts.Sar L 29 (rm.Mem (memory.Base Bx (pos 1))))
    (seen ((3, 0x2000_0101) ∷ []) mixed "c-s-p") (seen [] 0xfedc_ba98_7654_3210_8f9e_ffff_fffd_e9f8 "?-s?-") ∷
    run (instr.ShiftCx shifts.Sar L (rm.Reg Di)) (seen ((1, 0x1_0027) ∷ (7, 0x1234_5678_9abc_def0) ∷ []) 0 "cz--p") (seen ((7, 0xff35_79bd) ∷ []) 0 "?-s?p") ∷
    run (instr.ShiftCx shifts.Sar Q (rm.Reg Di)) (seen ((1, 0x40) ∷ (7, 0x1234_5678_9abc_def0) ∷ []) 0 "cz--p") (seen [] 0 "cz--p") ∷
    run (instr.ShiftConst shifts.Rol Q 9 (rm.Reg R9)) (seen ((9, 0x1234_5678_9abc_def0) ∷ []) 0 "-z-o-") (seen ((9, 0x68ac_f135_79bd_e024) ∷ []) 0 "?z-?-") ∷
    run (instr.ShiftConst shifts.Rol L 28 (rm.Mem (memory.Symbol (pos 268435459)))) (seen [] mixed "c-s-p") (seen [] 0xfedc_ba98_7654_3210_8fb9_eadb_ccda_e9f8 "?-s?p") ∷
    run (instr.ShiftCx shifts.Rol L (rm.Reg Di)) (seen ((1, 0x1_0028) ∷ (7, 0x1234_5678_9abc_def0) ∷ []) 0 "cz--p") (seen ((7, 0xbcde_f09a) ∷ []) 0 "?z-?p") ∷
    run (instr.ShiftCx shifts.Rol L (rm.Reg Di)) (seen ((1, 0x20) ∷ (7, 0x1234_5678_9abc_def0) ∷ []) 0 "cz--p") (seen ((7, 0x9abc_def0) ∷ []) 0 "cz--p") ∷
    run (instr.ShiftConst shifts.Shl L 0 (rm.Reg Dx)) (seen ((2, 0x1234_5678_9abc_def0) ∷ []) 0 "c-so-") (seen ((2, 0x9abc_def0) ∷ []) 0 "c-so-") ∷
    run (instr.ShiftCx shifts.Shr Q (rm.Mem (memory.Base R8 (pos 0))))
    (seen ((1, 4) ∷ (8, 0x2000_0100) ∷ []) mixed "-----") (seen [] 0xfedc_ba98_7654_3210_08f9_eadb_ccbd_ae9f "?--?p") ∷
    run (instr.Exchange Q R8 (memory.Base Si (pos 1)))
    (seen ((6, 0x2000_0102) ∷ (8, 0x1234_5678_9abc_def0) ∷ []) mixed "---o-") (seen ((8, 0x5432_108f_9ead_bccb) ∷ []) 0xfedc_ba98_7612_3456_789a_bcde_f0da_e9f8 "---o-") ∷
    run (instr.Exchange L R8 (memory.Indexed Sp Dx One (pos 2147483647)))
    (seen ((2, 3) ∷ (4, 0xffff_ffff_a000_0101) ∷ (8, 0x1234_5678_9abc_def0) ∷ []) mixed "-----") (seen ((8, 0x9ead_bccb) ∷ []) 0xfedc_ba98_7654_3210_8f9a_bcde_f0da_e9f8 "-----") ∷
    run (instr.Atomic atomic.CompareExchange true L R8 (memory.Base R9 (pos 0)))
    (seen ((0, 0x7_cbda_e9f8) ∷ (8, 0x1234_5678_9abc_def0) ∷ (9, 0x2000_0100) ∷ []) mixed "-----") (seen [] 0xfedc_ba98_7654_3210_8f9e_adbc_9abc_def0 "-z--p") ∷
    run (instr.Atomic atomic.CompareExchange false L R8 (memory.Base R9 (pos 0)))
    (seen ((0, 0xffff_ffff_8000_0001) ∷ (8, 0x1234_5678_9abc_def0) ∷ (9, 0x2000_0100) ∷ []) mixed "-z---") (seen ((0, 0xcbda_e9f8) ∷ []) mixed "c-s-p") ∷
    run (instr.Atomic atomic.CompareExchange false Q R8 (memory.Base R9 (pos 0)))
    (seen ((0, 0x8f9e_adbc_cbda_e9f8) ∷ (8, 0x1234_5678_9abc_def0) ∷ (9, 0x2000_0100) ∷ []) mixed "-----") (seen [] 0xfedc_ba98_7654_3210_1234_5678_9abc_def0 "-z--p") ∷
    run (instr.Atomic atomic.CompareExchange true Q R8 (memory.Base R9 (pos 0)))
    (seen ((0, 0xffff_ffff_8000_0001) ∷ (8, 0x1234_5678_9abc_def0) ∷ (9, 0x2000_0100) ∷ []) mixed "-z---") (seen ((0, 0x8f9e_adbc_cbda_e9f8) ∷ []) mixed "----p") ∷
    run (instr.Atomic atomic.ExchangeAdd false L Si (memory.Base R9 (pos 0)))
    (seen ((6, 0xffff_ffff_8000_0001) ∷ (9, 0x2000_0100) ∷ []) mixed "-----") (seen ((6, 0xcbda_e9f8) ∷ []) 0xfedc_ba98_7654_3210_8f9e_adbc_4bda_e9f9 "c--op") ∷
    run (instr.Atomic atomic.ExchangeAdd true Q Si (memory.Base R9 (pos 0)))
    (seen ((6, 0x1234_5678_9abc_def0) ∷ (9, 0x2000_0108) ∷ []) mixed "--so-") (seen ((6, 0xfedc_ba98_7654_3210) ∷ []) 0x1111_1111_1111_1100_8f9e_adbc_cbda_e9f8 "c---p") ∷
    run (instr.SetCc code.NotOver (rm.Reg Si)) (seen ((6, 0x1234_5678_9abc_def0) ∷ []) 0 "c-sop") (seen ((6, 0x1234_5678_9abc_de00) ∷ []) 0 "c-sop") ∷
    run (instr.SetCc code.CarryOrZero (rm.Reg Sp)) (seen ((4, 0x1234_5678_9abc_def0) ∷ []) 0 "c-s--") (seen ((4, 0x1234_5678_9abc_de01) ∷ []) 0 "c-s--") ∷
    run (instr.SetCc code.GreaterOrEqual (rm.Mem (memory.Base R14 (pos 0))))
    (seen ((14, 0x2000_0109) ∷ []) mixed "--s-p") (seen [] 0xfedc_ba98_7654_0010_8f9e_adbc_cbda_e9f8 "--s-p") ∷
    run (instr.SetCc code.NotZero (rm.Mem (memory.Symbol (pos 268435457)))) (seen [] mixed "-----") (seen [] 0xfedc_ba98_7654_3210_8f9e_adbc_cbda_01f8 "-----") ∷
    run (instr.SwapBytes Q R10) (seen ((10, 0x1234_5678_9abc_def0) ∷ []) 0 "c---p") (seen ((10, 0xf0de_bc9a_7856_3412) ∷ []) 0 "c---p") ∷
    run (instr.SwapBytes L Dx) (seen ((2, 0x1234_5678_9abc_def0) ∷ []) 0 "-----") (seen ((2, 0xf0de_bc9a) ∷ []) 0 "-----") ∷
    run (instr.XorWide X2 X15)
    (wide_seen [] ((2, mixed) ∷ (15, 0xffff_0000_1111_2222_3333_4444_5555_6666) ∷ []) 0 "c----") (wide_seen [] ((15, 0x123_ba98_6745_1032_bcad_e9f8_9e8f_8f9e) ∷ []) 0 "c----") ∷
    run (instr.XorWide X8 X8) (wide_seen [] ((8, mixed) ∷ []) 0 "-----") (wide_seen [] ((8, 0) ∷ []) 0 "-----") ∷
    run (instr.Stack stack.Push R9)
    (seen ((4, 0x2000_0110) ∷ (9, 0x1234_5678_9abc_def0) ∷ []) mixed "c-s--") (seen ((4, 0x2000_0108) ∷ []) 0x1234_5678_9abc_def0_8f9e_adbc_cbda_e9f8 "c-s--") ∷
    run (instr.Stack stack.Push Sp) (seen ((4, 0x2000_0108) ∷ []) mixed "-----") (seen ((4, 0x2000_0100) ∷ []) 0xfedc_ba98_7654_3210_0000_0000_2000_0108 "-----") ∷
    run (instr.Stack stack.Pop R9)
    (seen ((4, 0x2000_0104) ∷ (9, 0x1234_5678_9abc_def0) ∷ []) mixed "---o-") (seen ((4, 0x2000_010c) ∷ (9, 0x7654_3210_8f9e_adbc) ∷ []) mixed "---o-") ∷
    run (instr.Stack stack.Pop Sp) (seen ((4, 0x2000_0100) ∷ []) mixed "-----") (seen ((4, 0x8f9e_adbc_cbda_e9f8) ∷ []) mixed "-----") ∷
    record (run (instr.Short None (pos 64)) (seen [] 0 "c----") (seen [] 0 "c----")) { goes = next.Jump 0x1000_0140 } ∷
    record (run (instr.Short None (negsuc 127)) (seen [] 0 "-----") (seen [] 0 "-----")) { goes = next.Jump 0x1000_0080 } ∷
    record (run (instr.Short (Some code.Zero) (pos 64)) (seen [] 0 "-z---") (seen [] 0 "-z---")) { goes = next.Jump 0x1000_0140 } ∷
    run (instr.Short (Some code.Zero) (pos 64)) (seen [] 0 "c-sop") (seen [] 0 "c-sop") ∷
    record (run (instr.Short (Some code.Less) (negsuc 99)) (seen [] 0 "---o-") (seen [] 0 "---o-")) { goes = next.Jump 0x1000_009c } ∷
    run (instr.Short (Some code.Less) (negsuc 99)) (seen [] 0 "--so-") (seen [] 0 "--so-") ∷
    record (run (instr.Near near.Jmp (pos 16776976)) (seen [] 0 "-----") (seen [] 0 "-----")) { goes = next.Jump 0x1100_0010 } ∷
    record (run (instr.Near (near.If code.NotZero) (pos 16776976)) (seen [] 0 "c-s--") (seen [] 0 "c-s--")) { goes = next.Jump 0x1100_0010 } ∷
    run (instr.Near (near.If code.NotZero) (pos 16776976)) (seen [] 0 "-z---") (seen [] 0 "-z---") ∷
    record (run (instr.Near (near.If code.CarryOrZero) (negsuc 239)) (seen [] 0 "c----") (seen [] 0 "c----")) { goes = next.Jump 0x1000_0010 } ∷
    record (run (instr.Near near.Call (pos 16776976)) (seen ((4, 0x2000_0800) ∷ []) 0 "-----") (seen [] 0 "-----")) { goes = next.Call 0x1100_0010 None } ∷
    record (run (instr.Indirect indirect.Jmp (rm.Reg R11)) (seen ((11, 0x1_1000_0020) ∷ []) 0 "--s--") (seen [] 0 "--s--")) { goes = next.Jump 0x1_1000_0020 } ∷
    record (run (instr.Indirect indirect.Jmp (rm.Mem (memory.Base Bx (pos 0))))
    (seen ((3, 0x2000_0103) ∷ []) 0x110_0000_2000_0000 "-----") (seen [] 0x110_0000_2000_0000 "-----")) { goes = next.Jump 0x1_1000_0020 } ∷
    record (run (instr.Indirect indirect.Call (rm.Reg Dx))
    (seen ((2, 0x1_1000_0020) ∷ (4, 0x2000_0800) ∷ []) 0 "-----") (seen [] 0 "-----")) { goes = next.Call 0x1_1000_0020 None } ∷
    record (run (instr.Indirect indirect.Call (rm.Mem (memory.Symbol (pos 268435461))))
    (seen ((4, 0x2000_0800) ∷ []) 0x110_0000_2000_0000_0000 "-z---") (seen [] 0x110_0000_2000_0000_0000 "-z---")) { goes = next.Call 0x1_1000_0020 None } ∷
    run (instr.Plain plain.Pause) (seen ((0, 0x1234_5678_9abc_def0) ∷ []) 0 "czsop") (seen [] 0 "czsop") ∷
    run (instr.Plain plain.Mfence) (seen ((2, 0x1234_5678_9abc_def0) ∷ []) 0 "c-s--") (seen [] 0 "c-s--") ∷
    run (instr.Plain plain.Cdq) (seen ((0, 0x8000_0000) ∷ (2, 0x1234_5678_9abc_def0) ∷ []) 0 "c----") (seen ((2, 0xffff_ffff) ∷ []) 0 "c----") ∷
    run (instr.Plain plain.Cdq) (seen ((0, 0x8000_0000_0000_0000) ∷ (2, 0x1234_5678_9abc_def0) ∷ []) 0 "-----") (seen ((2, 0) ∷ []) 0 "-----") ∷
    run (instr.Plain plain.Cqo) (seen ((0, 0x8000_0000_0000_0000) ∷ (2, 0x1234_5678_9abc_def0) ∷ []) 0 "-z---") (seen ((2, 0xffff_ffff_ffff_ffff) ∷ []) 0 "-z---") ∷
    run (instr.Plain plain.Cqo) (seen ((0, 0x7fff_ffff_8000_0001) ∷ (2, 0x1234_5678_9abc_def0) ∷ []) 0 "-----") (seen ((2, 0) ∷ []) 0 "-----") ∷
    record (run (instr.Plain plain.Ret) (seen ((4, 0x2000_0100) ∷ []) 0x1100_0010 "-----") (seen [] 0x1100_0010 "-----")) { goes = next.Return } ∷
    record (run (instr.Plain plain.Cpuid)
    (seen ((0, 0xf_0000_0000) ∷ (1, 0x1234_5678_9abc_def0) ∷ (2, 0x1234_5678_9abc_def0) ∷ (3, 0x1234_5678_9abc_def0) ∷ []) 0 "c-s--") (seen ((0, 0x16) ∷ (1, 0x6c65_746e) ∷ (2, 0x4965_6e69) ∷ (3, 0x756e_6547) ∷ []) 0 "c-s--")) { free = 0 ∷ 1 ∷ 2 ∷ 3 ∷ [] } ∷
    record (run (instr.Plain plain.Rdtsc)
    (seen ((0, 0x1234_5678_9abc_def0) ∷ (2, 0x1234_5678_9abc_def0) ∷ []) 0 "-z--p") (seen ((0, 0x3661_a85e) ∷ (2, 0x574) ∷ []) 0 "-z--p")) { free = 0 ∷ 2 ∷ [] } ∷
    record (run (instr.Plain plain.Syscall) (seen ((0, 0x27) ∷ []) 0 "c----") (seen [] 0 "c----")) { goes = next.System } ∷
    record (run (instr.Plain plain.Undef) (seen ((0, 0x27) ∷ []) 0 "-z---") (seen [] 0 "-z---")) { goes = next.Stop } ∷ []
