-- The fields of headers that are written are such as may be read.
use Rattle.std.proofs.Common.{◌≡◌, ℕ, ◌+◌, ◌<◌, ◌^◌, true, ◌||◌, nat_eq, inl, inr, refl, arith}
use Rattle.std.proofs.lemmas.Bool.{eq-eqb, eqb-true, or_cases}
use Rattle.elf_image.specs.declared.rows.Wanted.{Wanted}
use Rattle.elf_image.specs.declared.rows.Wanted.TheVariants.{Is, Machine}
use Rattle.elf_image.specs.declared.headers.Section.{Section}
use Rattle.elf_image.specs.Rows.{meets, value_of}
use Rattle.elf_image.specs.Headers.{ident_rows, header_rows, program_rows, section_rows, null_section, loaded_section, symbols_section, names_section}
use Rattle.elf_image.proofs.WrittenRowLemmas.{Allow}

pub machine_fits : (machine : ℕ) → meets Machine machine ≡ true → machine < 65536
machine_fits machine is =
    elim (or_cases (nat_eq machine 62 || nat_eq machine 183) (nat_eq machine 243) is) [
      | inl known ↦ elim (or_cases (nat_eq machine 62) (nat_eq machine 183) known) [
        | inl same ↦ (let e : machine ≡ 62 = eqb-true machine 62 same in omega arith)
        | inr same ↦ (let e : machine ≡ 183 = eqb-true machine 183 same in omega arith)
      ]
      | inr same ↦ (let e : machine ≡ 243 = eqb-true machine 243 same in omega arith)
    ]

pub ident_allowed : Allow ident_rows ident_rows
ident_allowed = (refl, (omega arith, (refl, (refl, (omega arith, (refl, tt))))))

pub header_allowed : (machine entry sections : ℕ) (known from headers : Wanted)
    → machine < 65536 → entry < 2 ^ 64 → sections < 2 ^ 64
    → meets known machine ≡ true → meets from entry ≡ true → meets headers sections ≡ true
    → Allow (header_rows known from headers) (header_rows (Is machine) (Is entry) (Is sections))
header_allowed machine entry sections known from headers a b c machine_met entry_met sections_met = (
  refl,
  (
    omega arith,
    (
      refl,
      (
        refl,
        (
          a,
          (
            machine_met,
            (
              refl,
              (
                omega arith,
                (
                  refl,
                  (
                    refl,
                    (
                      b,
                      (
                        entry_met,
                        (
                          refl,
                          (
                            omega arith,
                            (
                              refl,
                              (
                                refl,
                                (
                                  c,
                                  (
                                    sections_met,
                                    (
                                      refl,
                                      (
                                        omega arith,
                                        (
                                          refl,
                                          (
                                            refl,
                                            (
                                              omega arith,
                                              (
                                                refl,
                                                (
                                                  refl,
                                                  (
                                                    omega arith,
                                                    (
                                                      refl,
                                                      (
                                                        refl,
                                                        (
                                                          omega arith,
                                                          (
                                                            refl,
                                                            (
                                                              refl,
                                                              (
                                                                omega arith,
                                                                (
                                                                  refl,
                                                                  (
                                                                    refl,
                                                                    (
                                                                      omega arith,
                                                                      (
                                                                        refl,
                                                                        (refl, (omega arith, (refl, tt))),
                                                                      ),
                                                                    ),
                                                                  ),
                                                                ),
                                                              ),
                                                            ),
                                                          ),
                                                        ),
                                                      ),
                                                    ),
                                                  ),
                                                ),
                                              ),
                                            ),
                                          ),
                                        ),
                                      ),
                                    ),
                                  ),
                                ),
                              ),
                            ),
                          ),
                        ),
                      ),
                    ),
                  ),
                ),
              ),
            ),
          ),
        ),
      ),
    ),
  ),
)

pub program_allowed : (flags offset size : ℕ) (file memory : Wanted)
    → flags < 2 ^ 32 → offset < 2 ^ 32 → size < 2 ^ 32 → meets file size ≡ true → meets memory size ≡ true
    → Allow (program_rows flags offset file memory) (program_rows flags offset (Is size) (Is size))
program_allowed flags offset size file memory a b c file_met memory_met = (
  refl,
  (
    omega arith,
    (
      refl,
      (
        refl,
        (
          a,
          (
            eq-eqb flags flags refl,
            (
              refl,
              (
                omega arith,
                (
                  eq-eqb offset offset refl,
                  (
                    refl,
                    (
                      omega arith,
                      (
                        eq-eqb (offset + 0x3FF000) (offset + 0x3FF000) refl,
                        (
                          refl,
                          (
                            omega arith,
                            (
                              eq-eqb (offset + 0x3FF000) (offset + 0x3FF000) refl,
                              (
                                refl,
                                (
                                  omega arith,
                                  (
                                    file_met,
                                    (
                                      refl,
                                      (
                                        omega arith,
                                        (
                                          memory_met,
                                          (refl, (omega arith, (refl, tt))),
                                        ),
                                      ),
                                    ),
                                  ),
                                ),
                              ),
                            ),
                          ),
                        ),
                      ),
                    ),
                  ),
                ),
              ),
            ),
          ),
        ),
      ),
    ),
  ),
)

-- the numbers of a section header are small
pub record IsSmall (section : Section) : Type 0 where
  pub name : section.name < 2 ^ 32
  pub kind : section.kind < 2 ^ 32
  pub flags : section.flags < 2 ^ 64
  pub address : section.address < 2 ^ 64
  pub offset : section.offset < 2 ^ 64
  pub size : value_of section.size < 2 ^ 64
  pub link : section.link < 2 ^ 32
  pub info : value_of section.info < 2 ^ 32
  pub align : section.align < 2 ^ 64
  pub entry_size : section.entry_size < 2 ^ 64

pub section_allowed : (section : Section) (size info : Wanted) → IsSmall section
    → meets size (value_of section.size) ≡ true → meets info (value_of section.info) ≡ true
    → Allow (section_rows (record section { size = size; info = info })) (section_rows section)
section_allowed section size info small size_met info_met = (
  refl,
  (
    small.name,
    (
      eq-eqb section.name section.name refl,
      (
        refl,
        (
          small.kind,
          (
            eq-eqb section.kind section.kind refl,
            (
              refl,
              (
                small.flags,
                (
                  eq-eqb section.flags section.flags refl,
                  (
                    refl,
                    (
                      small.address,
                      (
                        eq-eqb section.address section.address refl,
                        (
                          refl,
                          (
                            small.offset,
                            (
                              eq-eqb section.offset section.offset refl,
                              (
                                refl,
                                (
                                  small.size,
                                  (
                                    size_met,
                                    (
                                      refl,
                                      (
                                        small.link,
                                        (
                                          eq-eqb section.link section.link refl,
                                          (
                                            refl,
                                            (
                                              small.info,
                                              (
                                                info_met,
                                                (
                                                  refl,
                                                  (
                                                    small.align,
                                                    (
                                                      eq-eqb section.align section.align refl,
                                                      (refl, (small.entry_size, (eq-eqb section.entry_size section.entry_size refl, tt))),
                                                    ),
                                                  ),
                                                ),
                                              ),
                                            ),
                                          ),
                                        ),
                                      ),
                                    ),
                                  ),
                                ),
                              ),
                            ),
                          ),
                        ),
                      ),
                    ),
                  ),
                ),
              ),
            ),
          ),
        ),
      ),
    ),
  ),
)

pub null_small : IsSmall null_section
null_small = record {
  name = omega arith;
  kind = omega arith;
  flags = omega arith;
  address = omega arith;
  offset = omega arith;
  size = omega arith;
  link = omega arith;
  info = omega arith;
  align = omega arith;
  entry_size = omega arith;
}

pub loaded_small : (name flags offset size align : ℕ) → name < 2 ^ 32 → flags < 2 ^ 32 → offset < 2 ^ 32 → size < 2 ^ 32 → align < 2 ^ 32
    → IsSmall (loaded_section name flags offset size align)
loaded_small name flags offset size align a b c d e = record {
  name = a;
  kind = omega arith;
  flags = omega arith;
  address = omega arith;
  offset = omega arith;
  size = omega arith;
  link = omega arith;
  info = omega arith;
  align = omega arith;
  entry_size = omega arith;
}

pub symbols_small : (offset size info : ℕ) → offset < 2 ^ 32 → size < 2 ^ 32 → info < 2 ^ 32
    → IsSmall (symbols_section offset (Is size) (Is info))
symbols_small offset size info a b c = record {
  name = omega arith;
  kind = omega arith;
  flags = omega arith;
  address = omega arith;
  offset = omega arith;
  size = omega arith;
  link = omega arith;
  info = omega arith;
  align = omega arith;
  entry_size = omega arith;
}

pub names_small : (name offset size : ℕ) → name < 2 ^ 32 → offset < 2 ^ 32 → size < 2 ^ 32
    → IsSmall (names_section name offset (Is size))
names_small name offset size a b c = record {
  name = omega arith;
  kind = omega arith;
  flags = omega arith;
  address = omega arith;
  offset = omega arith;
  size = omega arith;
  link = omega arith;
  info = omega arith;
  align = omega arith;
  entry_size = omega arith;
}
