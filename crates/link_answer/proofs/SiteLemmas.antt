-- What a function is at a site is told by the site's addresses.
use Rattle.std.proofs.Common.{◌≡◌, ℕ, ◌+◌, ◌-◌, List, length, take, map, Option, Some, None, slice_index, sym, ap, ◌∙◌, subst}
use Rattle.std.specs.Prelude.{unwrap_or}
use Rattle.std.specs.List.{slice_get}
use Rattle.std.specs.Option.{option_map}
use Rattle.machine_effect.specs.Numbers.{moved_by}
use Rattle.asm_parse.specs.declared.unit.Symbol.{Symbol}
use Rattle.asm_parse.specs.declared.unit.Unit.{Unit as Said}
use Rattle.asm_target.specs.declared.body.Placed.{Placed}
use Rattle.asm_target.specs.declared.refer.To.{To}
use Rattle.asm_target.specs.declared.refer.To.TheVariants as to
use Rattle.asm_target.specs.Aiming.{Aims, bytes_of}
use Rattle.image_rules.specs.Functions.{placed_from}
use Rattle.unit_listing.specs.declared.laid.Laid.{Laid}
use Rattle.unit_listing.specs.Kit.{Kit}
use Rattle.unit_listing.specs.Lines.{growth_name, place_to, seen_from}
use Rattle.link_names.specs.Definitions.{Entry, Key, MeansAs, key_of, meaning_in}
use Rattle.link_names.specs.declared.definition.Meaning.{Meaning}
use Rattle.link_places.specs.Addresses.{TellsAs, address_in}
use Rattle.link_plan.specs.Addresses.{address_of, growth_address, symbol_address}
use Rattle.link_code.specs.declared.site.Site.{Site}
use Rattle.link_code.specs.Code.{AreParts, IsCode, IsLine, IsTooFar, IsUnreached, form_in}
use Rattle.link_code.specs.Goals.{goal_of, goal_with}
use Rattle.link_build.specs.Functions.{Seen}
use Rattle.link_flow.specs.Codes.{IsSiteOf, symbols_of}
use Rattle.link_answer.proofs.ListLemmas.{joined_by}
use Rattle.link_answer.proofs.SameLemmas.{IsSameSeen}

-- two sites tell the same
pub record IsSameSite (one other : Site) : Type 0 where
  pub entry : one.entry ≡ other.entry
  pub addresses : one.addresses.now ≡ other.addresses.now
  pub growth : one.growth ≡ other.growth

pub turned : (one other : Site) → IsSameSite one other → IsSameSite other one
turned one other same = record { entry = sym same.entry; addresses = sym same.addresses; growth = sym same.growth }

module _ (names others : List Entry) (addresses those : List (Meaning × ℕ)) (alike : MeansAs names others) (tells : TellsAs addresses those) where
  address_same : (key : Key) → address_of names addresses key ≡ address_of others those key
  address_same key =
      ap (λ (found : Option Meaning). unwrap_or (address_in addresses found) 0) (alike key)
      ∙ ap (λ (found : Option ℕ). unwrap_or found 0) (tells (meaning_in others key))

  module _ {Instr : Type 0} (one other : Seen Instr) (same : IsSameSeen one other) where
    symbols_same : symbols_of names addresses one ≡ symbols_of others those other
    symbols_same =
        let all : symbol_address names addresses one.number ≡ symbol_address others those one.number
        = λ i symbol. address_same (key_of one.number symbol) i in
        ap (λ (address : Symbol → ℕ). map address one.unit.symbols) all
        ∙ ap (λ (number : ℕ). map (symbol_address others those number) one.unit.symbols) same.number
        ∙ ap (λ (unit : Said). map (symbol_address others those other.number) unit.symbols) same.unit

    -- by names that mean the same, and addresses that tell the same, a function's sites at one place tell the same
    pub same_site : (at : ℕ) (site its : Site) → IsSiteOf names addresses one at site → IsSiteOf others those other at its
        → IsSameSite site its
    same_site at site its is that =
        let growth : growth_address names addresses one.part.laid.flags ≡ growth_address others those other.part.laid.flags
        = ap (λ (flags : ℕ). growth_address names addresses flags) same.part.laid.flags
        ∙ address_same (growth_name other.part.laid.flags, None) in
        record {
          entry = is.entry ∙ sym that.entry;
          addresses = is.symbols ∙ symbols_same ∙ sym that.symbols;
          growth = is.growth ∙ growth ∙ sym that.growth;
        }

module _ {Instr : Type 0} (kit : Kit Instr) (site other : Site) (same : IsSameSite site other) where
  goal_same : (place_of : To → Option ℕ) (goal : To) → goal_with site place_of goal ≡ goal_with other place_of goal
  goal_same place_of (to.Symbol number off) =
      ap (λ (addresses : List ℕ). option_map (λ address. moved_by address off) (slice_get addresses number)) same.addresses
  goal_same place_of to.Grow = ap (λ (growth : ℕ). Some growth) same.growth
  goal_same place_of (to.Stmt number) = ap (λ (entry : ℕ). option_map (λ place. entry + place) (place_of (to.Stmt number))) same.entry
  goal_same place_of to.Entry = ap (λ (entry : ℕ). option_map (λ place. entry + place) (place_of to.Entry)) same.entry
  goal_same place_of to.Block = ap (λ (entry : ℕ). option_map (λ place. entry + place) (place_of to.Block)) same.entry
  goal_same place_of to.Past = ap (λ (entry : ℕ). option_map (λ place. entry + place) (place_of to.Past)) same.entry

  module _ (laid : Laid Instr) where
    goals_same : goal_of kit site laid ≡ goal_of kit other laid
    goals_same = λ i goal. goal_same (place_to (kit.check laid.body.frame) laid.body.code laid.sizes.places) goal i

    line_at : (number : ℕ) (code : List Instr) → IsLine kit site laid number code → IsLine kit other laid number code
    line_at number code is = record {
      line = is.line;
      here = is.here;
      parts = subst (λ (goals : To → Option ℕ). AreParts kit goals is.line.refer (other.entry + slice_index laid.sizes.places (number - 1))
          (other.entry + slice_index laid.sizes.places number) (form_in kit laid number is.line) code) goals_same
          (subst (λ (entry : ℕ). AreParts kit (goal_of kit site laid) is.line.refer (entry + slice_index laid.sizes.places (number - 1))
          (entry + slice_index laid.sizes.places number) (form_in kit laid number is.line) code) same.entry is.parts);
    }

    -- a function's instructions are so at both
    pub code_at : (all : List (Placed Instr)) → IsCode kit site laid all → IsCode kit other laid all
    code_at all is = record {
      code = is.code;
      lines = joined_by (IsLine kit site laid) (IsLine kit other laid) line_at (length laid.body.code) is.code is.lines;
      placed = subst (λ (entry : ℕ). all ≡ placed_from kit.set entry is.code) same.entry is.placed;
      fit = is.fit;
      some = is.some;
      long = is.long;
    }

    far_at : (number : ℕ) → IsTooFar kit site laid number → IsTooFar kit other laid number
    far_at number is = record {
      line = is.line;
      here = is.here;
      refer = is.refer;
      refers = is.refers;
      goal = is.goal;
      leads = sym (goal_same (place_to (kit.check laid.body.frame) laid.body.code laid.sizes.places) is.refer.to) ∙ is.leads;
      beyond = subst (λ (entry : ℕ). (i j : Instr)
          → slice_get (form_in kit laid number is.line) (length (form_in kit laid number is.line) - 1) ≡ Some i
          → ¬ Aims kit.set kit.fits kit.aiming i is.refer.part
          (seen_from is.refer.part (entry + slice_index laid.sizes.places (number - 1))
          (entry + slice_index laid.sizes.places number
          + bytes_of kit.set (take (length (form_in kit laid number is.line) - 1) (form_in kit laid number is.line)))) is.goal j)
          same.entry is.beyond;
    }

    -- and so is the first line that reaches nothing
    pub unreached_at : (number : ℕ) → IsUnreached kit site laid number → IsUnreached kit other laid number
    unreached_at number is = record {
      far = far_at number is.far;
      before = (
        is.before.0,
        joined_by (IsLine kit site laid) (IsLine kit other laid) line_at number is.before.0 is.before.1,
      );
    }
