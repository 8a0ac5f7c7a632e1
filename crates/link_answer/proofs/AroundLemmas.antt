-- What surrounds the functions of an image is one, up to the order of what lies outside.
use Rattle.std.proofs.Common.{◌≡◌, ℕ, Bool, not, ◌&&◌, ◌==◌, List, sym, ap, ◌∙◌}
use Rattle.std.specs.List.Sorted.{IsPermutation}
use Rattle.std.proofs.lemmas.List.Sorted.{list_any-IsPermutation}
use Rattle.asm_target.specs.declared.body.Placed.{Placed}
use Rattle.asm_target.specs.FlowFunction.{FlowFunction, is_among, is_within}
use Rattle.flow_rules.specs.Placing.{Surroundings, function_of, is_listed}
use Rattle.image_rules.specs.Sound.{direct_goal}
use Rattle.unit_listing.specs.Kit.{Kit}
use Rattle.link_code.specs.declared.placing.Code.{Code}
use Rattle.link_code.specs.Astray.{is_astray, is_unknown, range_of}
use Rattle.link_flow.specs.declared.around.Around.{Around}
use Rattle.link_flow.specs.Around.{IsAround, addresses_of, growth_of, surroundings}
use Rattle.link_flow.specs.Refusals.{rules_of}
use Rattle.link_answer.proofs.CodesLemmas.{IsAlike}

-- the same lies around: the same addresses lie outside, in some order
pub record IsSameAround (one other : Around) : Type 0 where
  pub text : one.text ≡ other.text
  pub entries : one.entries.items ≡ other.entries.items
  pub growth : is_listed one.growth.items ≡ is_listed other.growth.items
  pub symbols : is_listed one.symbols.items ≡ is_listed other.symbols.items

listed_alike : (all one other : List ℕ) → IsPermutation all one → IsPermutation all other → is_listed one ≡ is_listed other
listed_alike all one other is that =
    λ i address. (sym (list_any-IsPermutation (λ listed. listed == address) all one is)
    ∙ list_any-IsPermutation (λ listed. listed == address) all other that) i

pub same_around : (at : List ℕ) (long : ℕ) (outside : List (List ℕ × ℕ)) (one other : Around) → IsAround at long outside one
    → IsAround at long outside other → IsSameAround one other
same_around at long outside one other is that = record {
  text = is.text ∙ sym that.text;
  entries = is.entries ∙ sym that.entries;
  growth = listed_alike (growth_of outside) one.growth.items other.growth.items is.growth that.growth;
  symbols = listed_alike (addresses_of outside) one.symbols.items other.symbols.items is.symbols that.symbols;
}

module _ {Instr : Type 0} (kit : Kit Instr) (one other : Around) (same : IsSameAround one other) where
  -- the same instructions are astray
  pub same_astray : (item : Placed Instr) → is_astray kit.set (range_of one.text) one.symbols.items item
      ≡ is_astray kit.set (range_of other.text) other.symbols.items item
  same_astray item =
      let goal = direct_goal (kit.set.effect item.instr item.at).next in
      ap (λ (text : ℕ × ℕ). is_among (is_unknown (range_of text) one.symbols.items) goal) same.text
      ∙ ap (λ (listed : ℕ → Bool). is_among (λ address. not (is_within (range_of other.text) address) && not (listed address)) goal)
      same.symbols

  -- the flow rules see the same functions
  pub same_rules : (code again : Code Instr) → IsAlike code again → rules_of kit one code ≡ rules_of kit other again
  same_rules code again alike =
      let set = kit.set in
      let begins = kit.begins in
      let within : Surroundings → FlowFunction
      = λ all. function_of set kit.shape begins again.placed.items again.depths.items all in
      ap (λ (items : List (Placed Instr)). function_of set kit.shape begins items code.depths.items (surroundings one)) alike.placed
      ∙ ap (λ (depths : List ℕ). function_of set kit.shape begins again.placed.items depths (surroundings one)) alike.depths
      ∙ ap (λ (text : ℕ × ℕ). within (record { text = range_of text; entries = one.entries.items; growth = one.growth.items })) same.text
      ∙ ap (λ (entries : List ℕ). within (record { text = range_of other.text; entries = entries; growth = one.growth.items })) same.entries
      ∙ ap (λ (listed : ℕ → Bool). record (within (surroundings other)) { is_growth_routine = listed }) same.growth
