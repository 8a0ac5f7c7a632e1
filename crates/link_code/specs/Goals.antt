-- The addresses that a function's instructions refer to, where it stands at an address.
use Rattle.std.specs.Prelude.{ℕ, ◌+◌, Option, Some, slice_index}
use Rattle.std.specs.List.{slice_get}
use Rattle.std.specs.Option.{option_map}
use Rattle.machine_effect.specs.Numbers.{moved_by}
use Rattle.asm_target.specs.declared.refer.To.{To}
use Rattle.asm_target.specs.declared.refer.To.TheVariants as to
use Rattle.unit_listing.specs.declared.laid.Laid.{Laid}
use Rattle.unit_listing.specs.Kit.{Kit}
use Rattle.unit_listing.specs.Lines.{place_to}
use Rattle.link_code.specs.declared.site.Site.{Site}

-- The address that a reference leads to: that of a symbol, moved by the offset from it, modulo 2^64; that of the routine that grows the
-- stack; or that of a line of the function, whose places count from its entry
abbrev pub goal_with : Site → (To → Option ℕ) → To → Option ℕ
goal_with site place_of (to.Symbol sym off) = option_map (λ address. moved_by address off) (slice_get site.addresses.now sym)
goal_with site place_of to.Grow = Some site.growth
goal_with site place_of goal = option_map (λ place. site.entry + place) (place_of goal)

module _ {Instr : Type 0} (kit : Kit Instr) (site : Site) (laid : Laid Instr) where
  -- the same for a function that is laid out
  abbrev pub goal_of : To → Option ℕ
  goal_of goal = goal_with site (place_to (kit.check laid.body.frame) laid.body.code laid.sizes.places) goal

-- the address of the line of this number
abbrev pub line_address : {Instr : Type 0} → Site → Laid Instr → ℕ → ℕ
line_address site laid number = site.entry + slice_index laid.sizes.places number
