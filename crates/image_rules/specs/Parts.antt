-- What an image and its function table tell, and how they have to agree.
use Rattle.std.specs.Prelude.{◌≡◌, ℕ, suc, ◌+◌, ◌-◌, ◌%◌, ◌==◌, ◌<◌, ◌||◌, nat_eq, Bool, false, List, All, codes, length, map, filter, take, drop}
use Rattle.std.specs.Cmp.Lexicographic.{pointwise}
use Rattle.std.specs.List.{list_any, range_with_len}
use Rattle.std.specs.List.Sorted.{IsNonDecreasing, IsPermutation}
use Rattle.asm_target.specs.FlowFunction.{Range, is_within}
use Rattle.elf_image.specs.Contents.{outside_in, table_in, text_address, text_in, values_address, values_in}
use Rattle.elf_image.specs.Layout.{machine_in}
use Rattle.pclntab.specs.Func.{entry_of}
use Rattle.pclntab.specs.Places.{entry_offset, func_count, quantum, text_start}
use Rattle.flow_rules.specs.Placing.{Surroundings}
use Rattle.image_rules.specs.Machine.{Machine}

-- the routines that grow the stack of a function with a context register, and of one without
abbrev pub is_growth_name : List ℕ → Bool
is_growth_name name = pointwise nat_eq name (codes "runtime.morestack") || pointwise nat_eq name (codes "runtime.morestack_noctxt")

-- functions begin at multiples of this many bytes
abbrev pub alignment : ℕ
alignment = 16

module _ (bytes : List ℕ) where
  -- how many functions there are
  abbrev pub count_in : ℕ
  count_in = func_count (table_in bytes)

  -- where a function begins, in bytes from the first of the text; behind the last function, where the text ends
  abbrev pub offset_in : ℕ → ℕ
  offset_in index = entry_offset (table_in bytes) index

  -- the address of a function's first instruction
  abbrev pub entry_in : ℕ → ℕ
  entry_in index = entry_of (table_in bytes) index

  -- the bytes of a function, up to where the next one begins
  abbrev pub own_bytes : ℕ → List ℕ
  own_bytes index = take (offset_in (suc index) - offset_in index) (drop (offset_in index) (text_in bytes))

  -- the addresses of the text, and those from its first to the last of the values
  abbrev pub text_range : Range
  text_range = record { first = text_address; past = text_address + length (text_in bytes) }

  abbrev pub image_range : Range
  image_range = record { first = text_address; past = values_address bytes + length (values_in bytes) }

  -- the addresses of the routines outside that have the stack grow
  abbrev pub growth_in : List ℕ
  growth_in = map (λ symbol. symbol.1) (filter (λ symbol. is_growth_name symbol.0) (outside_in bytes))

  -- some symbol outside has the address
  abbrev pub is_outside_symbol : ℕ → Bool
  is_outside_symbol address = list_any (λ symbol. symbol.1 == address) (outside_in bytes)

  -- what surrounds each function: all entries, and the routines that grow the stack, in order
  pub record Surrounds (around : Surroundings) : Type 0 where
    pub text : around.text ≡ text_range
    pub entries : around.entries ≡ map entry_in (range_with_len 0 count_in)
    pub growth : IsPermutation growth_in around.growth
    pub ordered : IsNonDecreasing around.growth

  -- The function table is one of this image and of the machine: there is a function; entries rise from the text's first byte on, at
  -- multiples of 16 and within the text, and the last function ends with it; and no symbol outside has an address of the image
  pub record HasProfile {Instr : Type 0} (machine : Machine Instr) : Type 0 where
    pub some : 0 < count_in
    pub number : machine_in bytes ≡ machine.number
    pub quanta : quantum (table_in bytes) ≡ machine.quantum
    pub start : text_start (table_in bytes) ≡ text_address
    pub first : offset_in 0 ≡ 0
    pub rises : (index : ℕ) → suc index < count_in → offset_in index < offset_in (suc index)
    pub aligned : (index : ℕ) → index < count_in → offset_in index % alignment ≡ 0
    pub inside : (index : ℕ) → index < count_in → offset_in index < length (text_in bytes)
    pub past : offset_in count_in ≡ length (text_in bytes)
    pub outside : All (λ symbol. is_within image_range symbol.1 ≡ false) (outside_in bytes)
