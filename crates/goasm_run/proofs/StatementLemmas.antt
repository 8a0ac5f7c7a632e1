-- Tokens that are written one after the other are the lines of their statements.
use Rattle.std.proofs.Common.{◌≡◌, ℕ, Bool, true, false, not, List, [], ◌∷◌, ◌++◌, map, append_assoc, codes, ◌⊎◌, inl, inr, refl, ap, ◌∙◌, if◌then◌else◌}
use Rattle.std.specs.List.{concat}
use Rattle.asm_lex.specs.declared.token.Token.{Token}
use Rattle.goasm_text.specs.Lines.{newline, place_text}
use Rattle.goasm_run.specs.Expand.{is_end, first_statement, later_statements, tokens_text, statement_text, list_text}
use Rattle.goasm_run.specs.TokensWritten.{token_text}

-- what the tokens add from here on, and the end of a line that has none
unfoldable pub written : List (List ℕ) → Bool → List Token → List ℕ
written files begun [] = if begun then newline else []
written files begun (token ∷ tokens) = token_text files begun token ++ written files (not (is_end token.kind)) tokens

-- the lines behind the first statement
abbrev later_text : List (List ℕ) → List Token → List ℕ
later_text files tokens = concat (map (statement_text files) (later_statements tokens))

-- where a statement has begun, and where none has
record Lines (files : List (List ℕ)) (tokens : List Token) : Type 0 where
  within : written files true tokens ≡ tokens_text (first_statement tokens) ++ newline ++ later_text files tokens
  between : written files false tokens ≡ statement_text files (first_statement tokens) ++ later_text files tokens

kind_cases : (b : Bool) → (b ≡ true) ⊎ (b ≡ false)
kind_cases true = inl refl
kind_cases false = inr refl

regroup_within : (x t n l : List ℕ) → x ++ ((t ++ n) ++ l) ≡ ((x ++ t) ++ n) ++ l
regroup_within x t n l = simp append_assoc

regroup_between : (p s x t n l : List ℕ) → ((p ++ s) ++ x) ++ ((t ++ n) ++ l) ≡ ((p ++ ((s ++ x) ++ t)) ++ n) ++ l
regroup_between p s x t n l = simp append_assoc

ended : (files : List (List ℕ)) (token : Token) (tokens : List Token)
    → is_end token.kind ≡ true → Lines files tokens → Lines files (token ∷ tokens)
unfolding written first_statement later_statements tokens_text
ended files token tokens is lines = record {
  within = rw is (ap (λ rest. newline ++ rest) lines.between);
  between = rw is lines.between;
}

going_on : (files : List (List ℕ)) (token : Token) (tokens : List Token)
    → is_end token.kind ≡ false → Lines files tokens → Lines files (token ∷ tokens)
unfolding written first_statement later_statements tokens_text
going_on files token tokens is lines = record {
  within = rw is (ap (λ rest. (codes " " ++ token.text) ++ rest) lines.within
      ∙ regroup_within (codes " " ++ token.text) (tokens_text (first_statement tokens)) newline (later_text files tokens));
  between = rw is (ap (λ rest. (place_text files token.pos ++ codes " " ++ token.text) ++ rest) lines.within
      ∙ regroup_between (place_text files token.pos) (codes " ") token.text (tokens_text (first_statement tokens)) newline
      (later_text files tokens));
}

lines_of : (files : List (List ℕ)) (tokens : List Token) → Lines files tokens
unfolding written first_statement later_statements tokens_text
lines_of files [] = record { within = refl; between = refl }
lines_of files (token ∷ tokens) =
    elim (kind_cases (is_end token.kind)) [
      | inl is ↦ ended files token tokens is (lines_of files tokens)
      | inr is ↦ going_on files token tokens is (lines_of files tokens)
    ]

pub written_list : (files : List (List ℕ)) (tokens : List Token) → written files false tokens ≡ list_text files tokens
unfolding list_text
written_list files tokens = (lines_of files tokens).between
