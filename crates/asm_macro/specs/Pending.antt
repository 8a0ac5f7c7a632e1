-- How the code keeps what is still to be read.
use Rattle.std.specs.Prelude.{◌≡◌, ℕ, List, [], ◌∷◌, ◌+◌, ◌-◌, map, if◌then◌else◌}
use Rattle.asm_macro.specs.declared.placed.Placed.{Placed}
use Rattle.asm_macro.specs.declared.pending.Entry.{Entry}
use Rattle.asm_directive.specs.Tokens.{is_end, is_sign, opening, closing}

abbrev pub tokens_in : List Entry → List Placed
tokens_in entries = map (λ entry. entry.placed) entries

unfoldable pub closers_from : Placed → ℕ → ℕ
closers_from placed behind =
    if is_end placed.token then 0
    else (if is_sign closing placed.token then behind + 1
    else (if is_sign opening placed.token then behind - 1 else behind))

-- how many closing brackets up to the end of the statement close nothing
unfoldable pub closers : List Placed → ℕ
closers [] = 0
closers (placed ∷ rest) = closers_from placed (closers rest)

-- each entry has the count of what stands behind it
abbrev pub AreCounted : List Entry → Type 0
AreCounted [] = Unit {0}
AreCounted (entry ∷ entries) = (entry.behind ≡ closers (tokens_in entries)) × AreCounted entries
