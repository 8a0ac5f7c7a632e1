-- An image that is refused isn't sound, and it is refused for one cause.
use Rattle.std.proofs.Common.{◌≡◌, ℕ, ◌+◌, ◌<◌, false, List, Some, length, refl, sym, ap, ◌∙◌, subst, inl, inr}
use Rattle.std.specs.List.{flat_map, slice_get}
use Rattle.std.proofs.lemmas.Bool.{cases_order}
use Rattle.pcvalue.specs.Cover.{HasOneList}
use Rattle.asm_target.specs.declared.body.Placed.{Placed}
use Rattle.asm_target.specs.FlowRules.{IsFirstBreach, IsFlowSound}
use Rattle.asm_target.specs.Laws.{HasLengths, IsPrefixFree}
use Rattle.asm_target.proofs.BreachLemmas.{same_breach, unsound}
use Rattle.asm_target.proofs.PlaceLemmas.{fit_at}
use Rattle.elf_image.specs.Contents.{table_in}
use Rattle.elf_image.proofs.ImageLemmas.{image_none}
use Rattle.pclntab.proofs.FaultLemmas.{table_none}
use Rattle.flow_rules.specs.declared.flow_no.FlowNo.{FlowNo}
use Rattle.flow_rules.specs.Placing.{Surroundings, told}
use Rattle.image_model.specs.Listed.{Listed}
use Rattle.image_rules.specs.declared.check_no.CheckNo.{CheckNo}
use Rattle.image_rules.specs.declared.check_no.CheckNo.TheVariants.{K1, K2, K3, K4, K5, Memory}
use Rattle.image_rules.specs.declared.check_no.ProfileNo.{ProfileNo}
use Rattle.image_rules.specs.declared.check_no.ProfileNo.TheVariants.{Image, Table, Profile}
use Rattle.image_rules.specs.Functions.{HasTables, IsCode, IsFunction}
use Rattle.image_rules.specs.Machine.{Machine}
use Rattle.image_rules.specs.Parts.{entry_in, own_bytes}
use Rattle.image_rules.specs.Refusals.{BreaksFlow, BreaksRule, IsAstray, IsFirstBroken, IsRefused, IsUnread, IsUnreadable, IsUntold}
use Rattle.image_rules.specs.Sound.{IsReadable, IsSoundFunction, IsSoundImage, is_lost, rules_of}
use Rattle.image_rules.proofs.AroundLemmas.{same_around}
use Rattle.image_rules.proofs.FunctionLemmas.{same_code, same_function}

same_told : (one other : FlowNo) → told one ≡ told other → one ≡ other
same_told one other is =
    let rule : one.rule ≡ other.rule = ap (λ breach. breach.rule) is in
    let at : one.at ≡ other.at = ap (λ breach. breach.address) is in
    let depths : one.depths ≡ other.depths = ap (λ breach. breach.depths) is in
    let same : record { rule = one.rule; at = one.at; depths = one.depths }
    ≡ record { rule = other.rule; at = other.at; depths = other.depths } = cc (rule, at, depths) in
    same

module _ {Instr : Type 0} (machine : Machine Instr) (bytes : List ℕ) where
  not_readable : (refusal : ProfileNo) → IsUnreadable machine bytes refusal → ¬ IsReadable machine bytes
  not_readable (Image refusal) fault is = (let none = image_none bytes is.image in cc)
  not_readable (Table refusal) fault is = (let none = table_none (table_in bytes) is.table in let some = fault.1 in cc)
  not_readable Profile fault is = fault.2 is.profile

  one_profile : (refusal other : ProfileNo) → IsUnreadable machine bytes refusal → IsUnreadable machine bytes other → refusal ≡ other
  one_profile (Image one) (Image two) a b = cc (a, b)
  one_profile (Image one) (Table two) a b = (let none = image_none bytes b.0 in absurd (cc (a, none)))
  one_profile (Image one) Profile a b = (let none = image_none bytes b.0 in absurd (cc (a, none)))
  one_profile (Table one) (Image two) a b = (let none = image_none bytes a.0 in absurd (cc (b, none)))
  one_profile (Table one) (Table two) a b = cc (a.1, b.1)
  one_profile (Table one) Profile a b = (let none = table_none (table_in bytes) b.1 in absurd (cc (a.1, none)))
  one_profile Profile (Image two) a b = (let none = image_none bytes a.0 in absurd (cc (b, none)))
  one_profile Profile (Table two) a b = (let none = table_none (table_in bytes) a.1 in absurd (cc (b.1, none)))
  one_profile Profile Profile a b = refl

  module _ (prefix_free : IsPrefixFree machine.set machine.fits) (lengths : HasLengths machine.set machine.fits machine.quantum)
      (one_list : HasOneList) where
    module _ (around : Surroundings) (index : ℕ) where
      -- a function whose bytes are no code has none
      not_code : (place : ℕ) (code : List Instr) → IsUnread machine bytes around index place → ¬ IsCode machine (own_bytes bytes index) code
      not_code place code unread is =
          let same : code ≡ unread.code =
          same_code machine prefix_free lengths one_list (own_bytes bytes index) code unread.code is.rest unread.rest is.listing unread.listing in
          unread.unlike (subst (λ (found : List Instr). IsCode machine (own_bytes bytes index) found) same is)

      -- a function whose tables tell something else isn't one of the image
      not_function : (place : ℕ) (listed : Listed Instr) → IsUntold machine bytes around index place → ¬ IsFunction machine bytes index listed
      not_function place listed untold is =
          let same : is.code ≡ untold.code =
          same_code machine prefix_free lengths one_list (own_bytes bytes index) is.code untold.code is.is_code.rest untold.is_code.rest
          is.is_code.listing untold.is_code.listing in
          untold.unlike listed.depths
          (subst (λ (found : List Instr). HasTables machine bytes index found listed.depths) same is.tables)

      same : (listed other : Listed Instr) → IsFunction machine bytes index listed → IsFunction machine bytes index other → listed ≡ other
      same listed other a b = same_function machine prefix_free lengths one_list bytes index listed other a b

      not_flow_sound : (refusal : FlowNo) (listed : Listed Instr) → BreaksFlow machine bytes around index refusal
          → IsFunction machine bytes index listed → ¬ IsFlowSound (rules_of machine bytes around listed)
      not_flow_sound refusal listed breaks is sound =
          unsound (rules_of machine bytes around breaks.listed) (told refusal) breaks.breach
          (subst (λ (found : Listed Instr). IsFlowSound (rules_of machine bytes around found))
          (same listed breaks.listed is breaks.function) sound)

      -- a function that breaks a rule isn't sound
      not_sound : (refusal : CheckNo) (listed : Listed Instr) → BreaksRule machine bytes around index refusal
          → ¬ IsSoundFunction machine bytes around index listed
      not_sound (K1 refusal) listed broken sound = broken
      not_sound (K2 place) listed broken sound = not_code place sound.function.code broken sound.function.is_code
      not_sound (K3 refusal) listed broken sound = not_flow_sound refusal listed broken sound.function sound.flow
      not_sound (K4 place) listed broken sound = not_function place listed broken sound.function
      not_sound (K5 place) listed broken sound =
          let here = same broken.listed listed broken.function sound.function in
          let there = ap (λ (found : Listed Instr). found.code) here in
          let kept = fit_at (λ one. is_lost machine bytes one ≡ false) listed.code broken.position broken.one sound.goals
          (subst (λ (code : List (Placed Instr)). slice_get code broken.position ≡ Some broken.one) there broken.here) in
          let lost = broken.lost in
          cc
      not_sound Memory listed broken sound = broken

      one_unread : (place other : ℕ) → IsUnread machine bytes around index place → IsUnread machine bytes around index other → place ≡ other
      one_unread place other a b =
          let code : a.code ≡ b.code =
          same_code machine prefix_free lengths one_list (own_bytes bytes index) a.code b.code a.rest b.rest a.listing b.listing in
          a.at ∙ ap (λ (found : List Instr). entry_in bytes index + length (flat_map machine.set.spelling found)) code ∙ sym b.at

      one_breach : (refusal other : FlowNo) → BreaksFlow machine bytes around index refusal → BreaksFlow machine bytes around index other
          → refusal ≡ other
      one_breach refusal other a b =
          let here = same b.listed a.listed b.function a.function in
          same_told refusal other
          (same_breach (rules_of machine bytes around a.listed) (told refusal) (told other) a.breach
          (subst (λ (found : Listed Instr). IsFirstBreach (rules_of machine bytes around found) (told other)) here b.breach))

      -- the first of two that are astray is the other
      not_before : (listed : Listed Instr) (place other : ℕ) (a : IsAstray machine bytes around index place)
          (b : IsAstray machine bytes around index other) → ¬ (a.position < b.position)
      not_before listed place other a b less =
          let here = ap (λ (found : Listed Instr). found.code) (same a.listed b.listed a.function b.function) in
          let kept = b.before a.position a.one less
          (subst (λ (code : List (Placed Instr)). slice_get code a.position ≡ Some a.one) here a.here) in
          let lost = a.lost in
          cc

      one_astray : (place other : ℕ) → IsAstray machine bytes around index place → IsAstray machine bytes around index other → place ≡ other
      one_astray place other a b =
          let position : a.position ≡ b.position =
          elim (cases_order a.position b.position) as (λ _. a.position ≡ b.position) [
            | inl equal ↦ equal
            | inr (inl less) ↦ absurd (not_before a.listed place other a b less)
            | inr (inr more) ↦ absurd (not_before a.listed other place b a more)
          ] in
          let code = ap (λ (found : Listed Instr). found.code) (same a.listed b.listed a.function b.function) in
          let found : Some a.one ≡ Some b.one = sym a.here ∙ ap (λ (items : List (Placed Instr)). slice_get items a.position) code
          ∙ ap (slice_get b.listed.code) position ∙ b.here in
          let one : a.one ≡ b.one = cc in
          a.at ∙ ap (λ (item : Placed Instr). item.at) one ∙ sym b.at

      -- a function breaks one rule first
      one_rule : (refusal other : CheckNo) → BreaksRule machine bytes around index refusal → BreaksRule machine bytes around index other
          → refusal ≡ other
      one_rule (K1 one) other a b = absurd a
      one_rule Memory other a b = absurd a
      one_rule (K2 one) (K1 two) a b = absurd b
      one_rule (K2 one) (K2 two) a b = ap (λ place. K2 place) (one_unread one two a b)
      one_rule (K2 one) (K3 two) a b = absurd (not_code one b.function.code a b.function.is_code)
      one_rule (K2 one) (K4 two) a b = absurd (not_code one b.code a b.is_code)
      one_rule (K2 one) (K5 two) a b = absurd (not_code one b.function.code a b.function.is_code)
      one_rule (K2 one) Memory a b = absurd b
      one_rule (K3 one) (K1 two) a b = absurd b
      one_rule (K3 one) (K2 two) a b = absurd (not_code two a.function.code b a.function.is_code)
      one_rule (K3 one) (K3 two) a b = ap (λ refusal. K3 refusal) (one_breach one two a b)
      one_rule (K3 one) (K4 two) a b = absurd (not_function two a.listed b a.function)
      one_rule (K3 one) (K5 two) a b = absurd (not_flow_sound one b.listed a b.function b.flow)
      one_rule (K3 one) Memory a b = absurd b
      one_rule (K4 one) (K1 two) a b = absurd b
      one_rule (K4 one) (K2 two) a b = absurd (not_code two a.code b a.is_code)
      one_rule (K4 one) (K3 two) a b = absurd (not_function one b.listed a b.function)
      one_rule (K4 one) (K4 two) a b = ap (λ place. K4 place) (a.at ∙ sym b.at)
      one_rule (K4 one) (K5 two) a b = absurd (not_function one b.listed a b.function)
      one_rule (K4 one) Memory a b = absurd b
      one_rule (K5 one) (K1 two) a b = absurd b
      one_rule (K5 one) (K2 two) a b = absurd (not_code two a.function.code b a.function.is_code)
      one_rule (K5 one) (K3 two) a b = absurd (not_flow_sound two a.listed b a.function a.flow)
      one_rule (K5 one) (K4 two) a b = absurd (not_function two a.listed b a.function)
      one_rule (K5 one) (K5 two) a b = ap (λ place. K5 place) (one_astray one two a b)
      one_rule (K5 one) Memory a b = absurd b

    broken_unsound : (refusal : CheckNo) → IsFirstBroken machine bytes refusal → ¬ IsSoundImage machine bytes
    broken_unsound refusal broken sound =
        let around = same_around bytes sound.around broken.around sound.surrounds broken.surrounds in
        let found = sound.functions broken.index broken.inside in
        not_sound broken.around broken.index refusal found.0 broken.broken
        (subst (λ (others : Surroundings). IsSoundFunction machine bytes others broken.index found.0) around found.1)

    pub refused_unsound : (refusal : CheckNo) → IsRefused machine bytes refusal → ¬ IsSoundImage machine bytes
    refused_unsound (K1 refusal) refused sound = not_readable refusal refused sound.readable
    refused_unsound (K2 place) refused sound = broken_unsound (K2 place) refused sound
    refused_unsound (K3 refusal) refused sound = broken_unsound (K3 refusal) refused sound
    refused_unsound (K4 place) refused sound = broken_unsound (K4 place) refused sound
    refused_unsound (K5 place) refused sound = broken_unsound (K5 place) refused sound
    refused_unsound Memory refused sound = refused

    -- no function that breaks a rule stands before the first one
    not_earlier : (refusal other : CheckNo) (a : IsFirstBroken machine bytes refusal) (b : IsFirstBroken machine bytes other)
        → ¬ (a.index < b.index)
    not_earlier refusal other a b less =
        let around = same_around bytes b.around a.around b.surrounds a.surrounds in
        let found = b.before a.index less in
        not_sound a.around a.index refusal found.0 a.broken
        (subst (λ (others : Surroundings). IsSoundFunction machine bytes others a.index found.0) around found.1)

    one_broken : (refusal other : CheckNo) → IsFirstBroken machine bytes refusal → IsFirstBroken machine bytes other → refusal ≡ other
    one_broken refusal other a b =
        let index : b.index ≡ a.index =
        elim (cases_order a.index b.index) as (λ _. b.index ≡ a.index) [
          | inl equal ↦ sym equal
          | inr (inl less) ↦ absurd (not_earlier refusal other a b less)
          | inr (inr more) ↦ absurd (not_earlier other refusal b a more)
        ] in
        let around = same_around bytes b.around a.around b.surrounds a.surrounds in
        one_rule a.around a.index refusal other a.broken
        (subst (λ (others : Surroundings). BreaksRule machine bytes others a.index other) around
        (subst (λ (at : ℕ). BreaksRule machine bytes b.around at other) index b.broken))

    pub one_cause : (refusal other : CheckNo) → IsRefused machine bytes refusal → IsRefused machine bytes other → refusal ≡ other
    one_cause (K1 one) (K1 two) a b = ap (λ refusal. K1 refusal) (one_profile one two a b)
    one_cause (K1 one) (K2 two) a b = absurd (not_readable one a b.readable)
    one_cause (K1 one) (K3 two) a b = absurd (not_readable one a b.readable)
    one_cause (K1 one) (K4 two) a b = absurd (not_readable one a b.readable)
    one_cause (K1 one) (K5 two) a b = absurd (not_readable one a b.readable)
    one_cause Memory other a b = absurd a
    one_cause one Memory a b = absurd b
    one_cause (K2 one) (K1 two) a b = absurd (not_readable two b a.readable)
    one_cause (K3 one) (K1 two) a b = absurd (not_readable two b a.readable)
    one_cause (K4 one) (K1 two) a b = absurd (not_readable two b a.readable)
    one_cause (K5 one) (K1 two) a b = absurd (not_readable two b a.readable)
    one_cause (K2 one) (K2 two) a b = one_broken (K2 one) (K2 two) a b
    one_cause (K2 one) (K3 two) a b = one_broken (K2 one) (K3 two) a b
    one_cause (K2 one) (K4 two) a b = one_broken (K2 one) (K4 two) a b
    one_cause (K2 one) (K5 two) a b = one_broken (K2 one) (K5 two) a b
    one_cause (K3 one) (K2 two) a b = one_broken (K3 one) (K2 two) a b
    one_cause (K3 one) (K3 two) a b = one_broken (K3 one) (K3 two) a b
    one_cause (K3 one) (K4 two) a b = one_broken (K3 one) (K4 two) a b
    one_cause (K3 one) (K5 two) a b = one_broken (K3 one) (K5 two) a b
    one_cause (K4 one) (K2 two) a b = one_broken (K4 one) (K2 two) a b
    one_cause (K4 one) (K3 two) a b = one_broken (K4 one) (K3 two) a b
    one_cause (K4 one) (K4 two) a b = one_broken (K4 one) (K4 two) a b
    one_cause (K4 one) (K5 two) a b = one_broken (K4 one) (K5 two) a b
    one_cause (K5 one) (K2 two) a b = one_broken (K5 one) (K2 two) a b
    one_cause (K5 one) (K3 two) a b = one_broken (K5 one) (K3 two) a b
    one_cause (K5 one) (K4 two) a b = one_broken (K5 one) (K4 two) a b
    one_cause (K5 one) (K5 two) a b = one_broken (K5 one) (K5 two) a b
