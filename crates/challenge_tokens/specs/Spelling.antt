-- The spellings of a list of challenges: RFC 7235, section 2.1, with the list rule of RFC 7230,
-- section 7. A spelling is what a writer may choose; it has a text and a meaning.
use Rattle.std.specs.Prelude.{ℕ, Bool, true, not, ◌&&◌, ◌||◌, ◌==◌, List, [], ◌∷◌, ◌++◌, map, replicate, option_to_list, Option, Some, None, if◌then◌else◌}
use Rattle.std.specs.List.{list_all, flat_map}
use Rattle.auth_text.specs.Text.{folded}
use Rattle.field_lists.specs.Blanks.{is_blank}
use Rattle.challenge_tokens.specs.declared.challenge.Challenge.{Challenge}
use Rattle.challenge_tokens.specs.declared.challenge.Body.{Body}
use Rattle.challenge_tokens.specs.declared.challenge.Body.TheVariants.{Bare, Token68, Params}
use Rattle.challenge_tokens.specs.declared.params.Param.{Param}
use Rattle.challenge_tokens.specs.Names.{are_params}
use Rattle.challenge_tokens.specs.Forms.{is_token, is_token68}

-- ---- the choices

-- a byte of a quoted string, bare or behind a backslash
pub record SpelledByte : Type 0 where
  pub byte : ℕ
  pub escaped : Bool

-- token / quoted-string
pub data SpelledValue : Type 0 where
  as_token : List ℕ → SpelledValue
  as_quoted : List SpelledByte → SpelledValue

-- auth-param = token BWS "=" BWS ( token / quoted-string )
pub record SpelledParam : Type 0 where
  pub name : List ℕ
  pub before : List ℕ
  pub after : List ℕ
  pub value : SpelledValue

-- OWS "," OWS [ element ]
pub record Further (E : Type 0) : Type 0 where
  pub before : List ℕ
  pub after : List ℕ
  pub element : Option E

-- #element = [ element ] *( OWS "," OWS [ element ] )
pub record SpelledList (E : Type 0) : Type 0 where
  pub first : Option E
  pub further : List (Further E)

-- what may follow a scheme: nothing, or SP, so many SP more, and a token68 or #auth-param
pub data SpelledArgument : Type 0 where
  nothing : SpelledArgument
  token68 : ℕ → List ℕ → SpelledArgument
  params : ℕ → SpelledList SpelledParam → SpelledArgument

-- challenge = auth-scheme [ 1*SP ( token68 / #auth-param ) ]
pub record SpelledChallenge : Type 0 where
  pub scheme : List ℕ
  pub argument : SpelledArgument

-- ---- their text

-- a byte of a quoted string
abbrev pub byte_text : SpelledByte → List ℕ
byte_text s = if s.escaped then 92 ∷ s.byte ∷ [] else s.byte ∷ []

-- a value
abbrev pub value_text : SpelledValue → List ℕ
value_text (as_token token) = token
value_text (as_quoted bytes) = 34 ∷ flat_map byte_text bytes ++ 34 ∷ []

-- a parameter
abbrev pub param_text : SpelledParam → List ℕ
param_text s = s.name ++ s.before ++ 61 ∷ s.after ++ value_text s.value

module _ {E : Type 0} where
  -- an element that may be missing
  abbrev pub option_text : (E → List ℕ) → Option E → List ℕ
  option_text text None = []
  option_text text (Some e) = text e

  -- a further element, from the blanks before its comma on
  abbrev pub further_text : (E → List ℕ) → Further E → List ℕ
  further_text text f = f.before ++ 44 ∷ f.after ++ option_text text f.element

  -- a list
  abbrev pub list_text : (E → List ℕ) → SpelledList E → List ℕ
  list_text text l = option_text text l.first ++ flat_map (further_text text) l.further

  -- the elements of a list
  abbrev pub elements : SpelledList E → List E
  elements l = option_to_list l.first ++ flat_map (λ (f : Further E). option_to_list f.element) l.further

-- SP, so many SP more, and a text
abbrev pub spaces_then : ℕ → List ℕ → List ℕ
spaces_then n text = 32 ∷ replicate n 32 ++ text

-- what follows a scheme
abbrev pub argument_text : SpelledArgument → List ℕ
argument_text nothing = []
argument_text (token68 n token) = spaces_then n token
argument_text (params n l) = spaces_then n (list_text param_text l)

-- a challenge
abbrev pub spelled_challenge : SpelledChallenge → List ℕ
spelled_challenge c = c.scheme ++ argument_text c.argument

-- the text of a field
abbrev pub field_text : SpelledList SpelledChallenge → List ℕ
field_text l = list_text spelled_challenge l

-- ---- their meaning

-- a value without quotes and backslashes
abbrev pub value_meant : SpelledValue → List ℕ
value_meant (as_token token) = token
value_meant (as_quoted bytes) = map (λ (s : SpelledByte). s.byte) bytes

-- a parameter, its name in lower case
abbrev pub param_meant : SpelledParam → Param
param_meant s = record { name = folded s.name; value = value_meant s.value }

-- the parameters of a list
abbrev pub params_meant : SpelledList SpelledParam → List Param
params_meant l = map param_meant (elements l)

-- no parameter at all is no body
abbrev pub params_body : List Param → Body
params_body [] = Bare
params_body (p ∷ ps) = Params (p ∷ ps)

-- what follows a scheme
abbrev pub body_meant : SpelledArgument → Body
body_meant nothing = Bare
body_meant (token68 n token) = Token68 token
body_meant (params n l) = params_body (params_meant l)

-- a challenge, its scheme in lower case
abbrev pub challenge_meant : SpelledChallenge → Challenge
challenge_meant c = record { scheme = folded c.scheme; body = body_meant c.argument }

-- the challenges of a field
abbrev pub challenges_meant : SpelledList SpelledChallenge → List Challenge
challenges_meant l = map challenge_meant (elements l)

-- ---- the choices that the grammar allows

-- a quote and a backslash stand behind a backslash
abbrev pub is_right_byte : SpelledByte → Bool
is_right_byte s = s.escaped || not (s.byte == 34 || s.byte == 92)

-- a token, or a quoted string of right bytes
abbrev pub is_right_value : SpelledValue → Bool
is_right_value (as_token token) = is_token token
is_right_value (as_quoted bytes) = list_all is_right_byte bytes

-- SP and HTAB only
abbrev pub are_blanks : List ℕ → Bool
are_blanks bytes = list_all is_blank bytes

-- the name is a token, and blanks are blanks
abbrev pub is_right_param : SpelledParam → Bool
is_right_param s = is_token s.name && are_blanks s.before && are_blanks s.after && is_right_value s.value

module _ {E : Type 0} where
  -- the element is right, where there is one
  abbrev pub is_right_option : (E → Bool) → Option E → Bool
  is_right_option right None = true
  is_right_option right (Some e) = right e

  -- a further element with blanks that are blanks
  abbrev pub is_right_further : (E → Bool) → Further E → Bool
  is_right_further right f = are_blanks f.before && are_blanks f.after && is_right_option right f.element

  -- each element is right
  abbrev pub is_right_list : (E → Bool) → SpelledList E → Bool
  is_right_list right l = is_right_option right l.first && list_all (is_right_further right) l.further

-- the parameter names are distinct but for letter case
abbrev pub is_right_argument : SpelledArgument → Bool
is_right_argument nothing = true
is_right_argument (token68 n token) = is_token68 token
is_right_argument (params n l) = is_right_list is_right_param l && are_params (params_meant l)

-- the scheme is a token
abbrev pub is_right_challenge : SpelledChallenge → Bool
is_right_challenge c = is_token c.scheme && is_right_argument c.argument

-- a field that the grammar allows
abbrev pub is_right_field : SpelledList SpelledChallenge → Bool
is_right_field l = is_right_list is_right_challenge l
