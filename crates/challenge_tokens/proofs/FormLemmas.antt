-- The name of a parameter that was read is in lower case.
use Rattle.std.proofs.Common.{◌≡◌, ℕ, ◌==◌, nat_lt, Bool, true, false, cond, List, [], ◌∷◌, take, drop, Option, Some, None, option_map, refl}
use Rattle.std.specs.List.{prefix_len}
use Rattle.field_lists.specs.Blanks.{trim_start}
use Rattle.challenge_tokens.specs.declared.params.Param.{Param}
use Rattle.challenge_tokens.specs.declared.piece.Form.{Form}
use Rattle.challenge_tokens.specs.declared.piece.Form.TheVariants.{WithToken, Bad}
use Rattle.auth_text.specs.Text.{folded}
use Rattle.challenge_tokens.specs.Names.{is_lower}
use Rattle.challenge_tokens.specs.Forms.{token_len, is_token68, value_behind, named, param_of, or_param, head_param, argument_form, head_form, form_of, is_lower_form}
use Rattle.challenge_tokens.proofs.NameLemmas.{is_lower-folded}

abbrev lower_param : Option Param → Bool
lower_param None = true
lower_param (Some p) = is_lower p.name

named_lower : (t : Bool) (name : List ℕ) (value : Option (List ℕ)) → lower_param (cond t (option_map (named name) value) None) ≡ true
named_lower false name value = refl
named_lower true name None = refl
named_lower true name (Some value) = is_lower-folded name

param_lower : (bytes : List ℕ) → lower_param (param_of bytes) ≡ true
param_lower bytes =
    let n = token_len bytes in
    named_lower (nat_lt 0 n) (take n bytes) (value_behind (trim_start (drop n bytes)))

head_param_lower : (scheme : List ℕ) (p : Option Param) → lower_param p ≡ true → is_lower_form (head_param scheme p) ≡ true
head_param_lower scheme None e = refl
head_param_lower scheme (Some p) e = e

by_token68 : (t : Bool) (scheme bytes : List ℕ) → is_lower_form (cond t (WithToken scheme bytes) (head_param scheme (param_of bytes))) ≡ true
by_token68 true scheme bytes = refl
by_token68 false scheme bytes = head_param_lower scheme (param_of bytes) (param_lower bytes)

by_space : (t : Bool) (scheme bytes : List ℕ) → is_lower_form (cond t (argument_form scheme bytes) Bad) ≡ true
by_space true scheme bytes = by_token68 (is_token68 bytes) scheme bytes
by_space false scheme bytes = refl

head_lower : (scheme bytes : List ℕ) → is_lower_form (head_form scheme bytes) ≡ true
head_lower scheme [] = refl
head_lower scheme (b ∷ bytes) = by_space (b == 32) scheme (drop (prefix_len (λ c. c == 32) bytes) bytes)

by_name : (t : Bool) (scheme bytes : List ℕ) → is_lower_form (cond t (head_form scheme bytes) Bad) ≡ true
by_name true scheme bytes = head_lower scheme bytes
by_name false scheme bytes = refl

or_lower : (p : Option Param) (f : Form) → lower_param p ≡ true → is_lower_form f ≡ true → is_lower_form (or_param p f) ≡ true
or_lower None f e lower = lower
or_lower (Some p) f e lower = e

pub lower_form : (bytes : List ℕ) → is_lower_form (form_of bytes) ≡ true
lower_form bytes =
    let n = token_len bytes in
    or_lower (param_of bytes) _ (param_lower bytes) (by_name (nat_lt 0 n) (folded (take n bytes)) (drop n bytes))
