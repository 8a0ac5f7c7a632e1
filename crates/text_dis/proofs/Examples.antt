-- The texts of some bytes, computed.
use Rattle.std.proofs.Common.{◌≡◌, ℕ, List, [], ◌∷◌, length, take, Option, Some, None, refl, arith, if◌then◌else◌}
use Rattle.std.proofs.lemmas.Fmt.{decimal_digit}
use Rattle.std.specs.Prelude.{codes}
use Rattle.std.specs.Str.{bytes_eq}
use Rattle.std.specs.Option.{option_and_then}
use Rattle.hex.specs.Hex.{encode_with}
use Rattle.goasm_base.specs.Numbers.{hex_digits}
use Rattle.asm_target_sample.specs.declared.instr.Instr.{Instr}
use Rattle.asm_target_sample.specs.Instr.{sample, spelling_of}
use Rattle.asm_target_sample.specs.Reading.{reading}
use Rattle.text_dis.specs.Reading.{raw_text}

-- the instruction that bytes are read as, where they begin with its spelling
begun : List ℕ → Instr → Option (Instr × ℕ)
begun bytes i =
    if bytes_eq (take (length (spelling_of i)) bytes) (spelling_of i) then Some (i, length (spelling_of i)) else None

text_of : List ℕ → List ℕ
text_of bytes = raw_text sample 1 (λ rest. option_and_then (begun rest) (reading rest)) bytes

nothing : text_of [] ≡ []
unfolding text_of raw_text begun reading encode_with hex_digits
nothing = refl

move : text_of (0x48 ∷ 0x89 ∷ 0xc3 ∷ []) ≡ codes "0 4889c3 MOVQ AX, BX\n"
unfolding text_of raw_text begun reading encode_with hex_digits
move = rw (decimal_digit 0 (omega arith)) refl

other_spelling : text_of (0x48 ∷ 0x8b ∷ 0xd8 ∷ []) ≡ codes "0 48 ?\n1 8b ?\n2 d8 ?\n"
unfolding text_of raw_text begun reading encode_with hex_digits
other_spelling =
    rw (decimal_digit 0 (omega arith), decimal_digit 1 (omega arith), decimal_digit 2 (omega arith)) refl

jump : text_of (0x90 ∷ 0xe9 ∷ 0xfb ∷ 0xff ∷ 0xff ∷ 0xff ∷ 0xc3 ∷ [])
    ≡ codes "0 90 NOP\n1 e9fbffffff JMP 0x0000000000000001\n6 c3 RET\n"
unfolding text_of raw_text begun reading encode_with hex_digits
jump = rw (decimal_digit 0 (omega arith), decimal_digit 1 (omega arith), decimal_digit 6 (omega arith)) refl
