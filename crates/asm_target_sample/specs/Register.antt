-- The numbers and names of the registers.
use Rattle.std.specs.Prelude.{ℕ, List, ◌==◌, codes, if◌then◌else◌}
use Rattle.asm_target_sample.specs.declared.register.Register.{Register}
use Rattle.asm_target_sample.specs.declared.register.Register.TheVariants.{Ax, Cx, Dx, Bx, Sp, Bp, Si, Di}

abbrev pub number_of : Register → ℕ
number_of Ax = 0
number_of Cx = 1
number_of Dx = 2
number_of Bx = 3
number_of Sp = 4
number_of Bp = 5
number_of Si = 6
number_of Di = 7

-- the register of a number below 8
abbrev pub register_of : ℕ → Register
register_of number =
    if number == 0 then Ax
    else (if number == 1 then Cx
    else (if number == 2 then Dx
    else (if number == 3 then Bx
    else (if number == 4 then Sp
    else (if number == 5 then Bp
    else (if number == 6 then Si
    else Di))))))

abbrev pub name_of : Register → List ℕ
name_of Ax = codes "AX"
name_of Cx = codes "CX"
name_of Dx = codes "DX"
name_of Bx = codes "BX"
name_of Sp = codes "SP"
name_of Bp = codes "BP"
name_of Si = codes "SI"
name_of Di = codes "DI"
