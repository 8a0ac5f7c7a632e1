-- Declared functions as clauses see them, and what every call that takes one relies on.
use Rattle.std.specs.Prelude.{ℕ, List, map, Option}
use Rattle.std.specs.List.{AllByRecursion}
use Rattle.goasm_base.specs.declared.pos.Pos.{Pos}
use Rattle.go_types.specs.Kinds.{Kind, kind_of, IsSoundKind}
use Rattle.go_types.specs.declared.declarations.Param.{Param}
use Rattle.go_types.specs.declared.declarations.Func.{Func}

-- a parameter or a result
pub record Parameter : Type 0 where
  pub name : Option (List ℕ)
  pub kind : Kind

abbrev pub parameter_of : Param → Parameter
parameter_of param = record { name = param.name; kind = kind_of param.kind }

pub record Signature : Type 0 where
  pub name : List ℕ
  pub pos : Pos
  pub params : List Parameter
  pub results : List Parameter

abbrev pub signature_of : Func → Signature
signature_of func = record {
  name = func.name;
  pos = func.pos;
  params = map parameter_of func.params;
  results = map parameter_of func.results;
}

abbrev pub IsSoundParameter : Parameter → Type 0
IsSoundParameter parameter = IsSoundKind parameter.kind

pub record IsSoundSignature (signature : Signature) : Type 0 where
  pub params : AllByRecursion IsSoundParameter signature.params
  pub results : AllByRecursion IsSoundParameter signature.results
