-- What `unwind` prints of a run.
use Rattle.std.specs.Prelude.{◌≡◌, ℕ, List, [], ◌∷◌, ◌≤◌, length, codes, Some, None}
use Rattle.goasm_base.specs.Shelf.{Files, read_of}
use Rattle.image_model.specs.Image.{Image}
use Rattle.image_model.specs.Steps.{Moment}
use Rattle.machine_dump.specs.Faults.{dump_fault}
use Rattle.text_chain.specs.Moments.{Records, moment_text}
use Rattle.goasm_run.specs.Commands.{plan_of}
use Rattle.goasm_run.specs.Endings.{Text}
use Rattle.goasm_run.specs.Limits.{dump_limit, image_limit}
use Rattle.goasm_run.specs.Plan.{EndsOver}

-- the file of this name has these bytes, no more than the limit
pub record IsWhole (files : Files) (name : List ℕ) (limit : ℕ) (bytes : List ℕ) : Type 0 where
  pub read : read_of files name limit ≡ Some bytes
  pub short : length bytes ≤ limit

-- the words `unwind IMAGE DUMP` over these files have this text
abbrev pub Unwinds : Files → List ℕ → List ℕ → List ℕ → Type 0
Unwinds files name dump_name text = EndsOver files (plan_of (codes "unwind" ∷ name ∷ dump_name ∷ [])) (Text text)

-- over a file of this image, and any file of a dump that recorded the moment, they have the text of the moment's calls
abbrev pub PrintsChain : List ℕ → Image → Moment → Type 0
PrintsChain image img moment =
    (files : Files) (name dump_name dump : List ℕ) → IsWhole files name image_limit image → IsWhole files dump_name dump_limit dump
    → dump_fault dump ≡ None → Records 62 img moment dump → Unwinds files name dump_name (moment_text image moment)
