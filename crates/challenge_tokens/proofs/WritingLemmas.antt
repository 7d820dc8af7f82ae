-- What is written of a challenge is one of its spellings.
use Rattle.std.proofs.Common.{◌≡◌, ℕ, ◌==◌, ◌&&◌, ◌||◌, not, nat_lt, Bool, true, false, List, [], ◌∷◌, ◌++◌, length, map, option_to_list, Some, None, refl, sym, ap, ◌∙◌, append_assoc}
use Rattle.std.specs.List.{list_all, flat_map}
use Rattle.std.proofs.lemmas.Bool.{false≢true}
use Rattle.std.proofs.lemmas.List.{append-nil}
use Rattle.auth_text.specs.Text.{folded}
use Rattle.auth_text.specs.Quoted.{escaped_byte}
use Rattle.challenge_tokens.specs.declared.challenge.Challenge.{Challenge}
use Rattle.challenge_tokens.specs.declared.challenge.Body.{Body}
use Rattle.challenge_tokens.specs.declared.challenge.Body.TheVariants.{Bare as NoBody, Token68, Params}
use Rattle.challenge_tokens.specs.declared.params.Param.{Param}
use Rattle.challenge_tokens.specs.Names.{has_name, is_lower, are_params}
use Rattle.challenge_tokens.specs.Bodies.{is_fit_body}
use Rattle.challenge_tokens.specs.Forms.{is_token, is_token68}
use Rattle.challenge_tokens.specs.Pieces.{field_read}
use Rattle.challenge_tokens.specs.Writing.{param_text, param_behind, body_text, challenge_text, token68_text, is_writable_body, is_writable}
use Rattle.challenge_tokens.specs.Spelling.{SpelledByte, as_quoted, SpelledParam, Further, SpelledList, SpelledArgument, nothing, token68, params, SpelledChallenge, byte_text, value_text, param_text as spelled_text, further_text, argument_text, spelled_challenge, field_text, param_meant, params_meant, params_body, body_meant, challenge_meant, is_right_byte, is_right_param, is_right_further, is_right_list, is_right_argument, is_right_field}
use Rattle.challenge_tokens.proofs.NameLemmas.{both, folded-lower}
use Rattle.challenge_tokens.proofs.SpelledFields.{spelled_field}

-- ---- a quoted value

abbrev quoted_byte : ℕ → SpelledByte
quoted_byte b = record { byte = b; escaped = b == 34 || b == 92 }

bytes_text : (v : List ℕ) → flat_map byte_text (map quoted_byte v) ≡ flat_map escaped_byte v
bytes_text [] = refl
bytes_text (b ∷ v) = ap (λ t. escaped_byte b ++ t) (bytes_text v)

bytes_meant : (v : List ℕ) → map (λ (s : SpelledByte). s.byte) (map quoted_byte v) ≡ v
bytes_meant [] = refl
bytes_meant (b ∷ v) = ap (λ t. b ∷ t) (bytes_meant v)

either_way : (e : Bool) → (e || not e) ≡ true
either_way true = refl
either_way false = refl

bytes_right : (v : List ℕ) → list_all is_right_byte (map quoted_byte v) ≡ true
bytes_right [] = refl
bytes_right (b ∷ v) = rw (either_way (b == 34 || b == 92)) (bytes_right v)

-- ---- a parameter

abbrev quoted_param : Param → SpelledParam
quoted_param p = record { name = p.name; before = []; after = []; value = as_quoted (map quoted_byte p.value) }

quoted_param_text : (p : Param) → spelled_text (quoted_param p) ≡ param_text p
quoted_param_text p =
    let value = ap (λ t. 34 ∷ t ++ 34 ∷ []) (bytes_text p.value) in
    ap (λ t. t ++ 61 ∷ [] ++ value_text (as_quoted (map quoted_byte p.value))) (append-nil p.name)
    ∙ append_assoc p.name (61 ∷ []) (value_text (as_quoted (map quoted_byte p.value)))
    ∙ ap (λ t. p.name ++ 61 ∷ t) value

quoted_param_meant : (p : Param) → is_lower p.name ≡ true → param_meant (quoted_param p) ≡ p
quoted_param_meant p lower =
    ap (λ (n : List ℕ). record { name = n; value = map (λ (s : SpelledByte). s.byte) (map quoted_byte p.value) }) (folded-lower p.name lower)
    ∙ ap (λ (v : List ℕ). record { name = p.name; value = v }) (bytes_meant p.value)

quoted_param_right : (p : Param) → is_token p.name ≡ true → is_right_param (quoted_param p) ≡ true
quoted_param_right p is = rw (is, bytes_right p.value) refl

-- ---- parameters behind the first

abbrev behind : Param → Further SpelledParam
behind p = record { before = []; after = 32 ∷ []; element = Some (quoted_param p) }

behind_text : (ps : List Param) → flat_map (further_text spelled_text) (map behind ps) ≡ flat_map param_behind ps
behind_text [] = refl
behind_text (p ∷ ps) =
    ap (λ t. 44 ∷ 32 ∷ t ++ flat_map (further_text spelled_text) (map behind ps)) (quoted_param_text p)
    ∙ ap (λ t. 44 ∷ 32 ∷ param_text p ++ t) (behind_text ps)

behind_elements : (ps : List Param) → flat_map (λ (f : Further SpelledParam). option_to_list f.element) (map behind ps) ≡ map quoted_param ps
behind_elements [] = refl
behind_elements (p ∷ ps) = ap (λ t. quoted_param p ∷ t) (behind_elements ps)

all_meant : (ps : List Param) → are_params ps ≡ true → map param_meant (map quoted_param ps) ≡ ps
all_meant [] fit = refl
all_meant (p ∷ ps) fit =
    let all = both (is_lower p.name && not (has_name p.name ps)) (are_params ps) fit in
    let first = both (is_lower p.name) (not (has_name p.name ps)) all.0 in
    ap (λ (q : Param). q ∷ map param_meant (map quoted_param ps)) (quoted_param_meant p first.0)
    ∙ ap (λ (qs : List Param). p ∷ qs) (all_meant ps all.1)

behind_right : (ps : List Param) → list_all (λ p. is_token p.name) ps ≡ true
    → list_all (is_right_further is_right_param) (map behind ps) ≡ true
behind_right [] right = refl
behind_right (p ∷ ps) right =
    let all = both (is_token p.name) (list_all (λ q. is_token q.name) ps) right in
    rw (quoted_param_right p all.0) (behind_right ps all.1)

-- ---- a body

record Spells (body : Body) : Type 0 where
  argument : SpelledArgument
  text : argument_text argument ≡ body_text body
  meant : body_meant argument ≡ body
  right : is_right_argument argument ≡ true

abbrev written_list : Param → List Param → SpelledList SpelledParam
written_list p ps = record { first = Some (quoted_param p); further = map behind ps }

list_meant : (p : Param) (ps : List Param) → are_params (p ∷ ps) ≡ true → params_meant (written_list p ps) ≡ p ∷ ps
list_meant p ps fit = ap (λ (t : List SpelledParam). map param_meant (quoted_param p ∷ t)) (behind_elements ps) ∙ all_meant (p ∷ ps) fit

joined : (a b : Bool) → a ≡ true → b ≡ true → (a && b) ≡ true
joined a b x y = rw (x, y) refl

spells_params : (p : Param) (ps : List Param) → list_all (λ q. is_token q.name) (p ∷ ps) ≡ true → are_params (p ∷ ps) ≡ true
    → Spells (Params (p ∷ ps))
spells_params p ps right fit =
    let all = both (is_token p.name) (list_all (λ q. is_token q.name) ps) right in
    record {
      argument = params 0 (written_list p ps);
      text = ap (λ t. 32 ∷ t ++ flat_map (further_text spelled_text) (map behind ps)) (quoted_param_text p)
          ∙ ap (λ t. 32 ∷ param_text p ++ t) (behind_text ps);
      meant = ap params_body (list_meant p ps fit);
      right = joined (is_right_list is_right_param (written_list p ps)) (are_params (params_meant (written_list p ps)))
          (joined (is_right_param (quoted_param p)) (list_all (is_right_further is_right_param) (map behind ps))
          (quoted_param_right p all.0) (behind_right ps all.1))
          (ap are_params (list_meant p ps fit) ∙ fit);
    }

spells_body : (body : Body) → is_writable_body body ≡ true → is_fit_body body ≡ true → Spells body
spells_body NoBody right fit = record { argument = nothing; text = refl; meant = refl; right = refl }
spells_body (Token68 t) right fit = record { argument = token68 0 t; text = refl; meant = refl; right = right }
spells_body (Params []) right fit = absurd (false≢true right)
spells_body (Params (p ∷ ps)) right fit =
    spells_params p ps (both (nat_lt 0 (length (p ∷ ps))) (list_all (λ q. is_token q.name) (p ∷ ps)) right).1 fit

-- ---- a challenge

abbrev only : SpelledChallenge → SpelledList SpelledChallenge
only c = record { first = Some c; further = [] }

only_right : (c : SpelledChallenge) → is_token c.scheme ≡ true → is_right_argument c.argument ≡ true → is_right_field (only c) ≡ true
only_right c is right = rw (is, right) refl

pub written_again : (c : Challenge) → is_writable c ≡ true → is_fit_body c.body ≡ true
    → field_read (challenge_text c) ≡ record { challenges = c ∷ []; bad_at = None }
written_again c right fit =
    let all = both (is_token c.scheme && is_lower c.scheme) (is_writable_body c.body) right in
    let names = both (is_token c.scheme) (is_lower c.scheme) all.0 in
    let s = spells_body c.body all.1 fit in
    let spelled : SpelledChallenge = record { scheme = c.scheme; argument = s.argument } in
    let text : field_text (only spelled) ≡ challenge_text c =
    append-nil (spelled_challenge spelled) ∙ ap (λ t. c.scheme ++ t) s.text in
    let meant : challenge_meant spelled ≡ c =
    ap (λ (n : List ℕ). record { scheme = n; body = body_meant s.argument }) (folded-lower c.scheme names.1)
    ∙ ap (λ (b : Body). record { scheme = c.scheme; body = b }) s.meant in
    ap field_read (sym text) ∙ spelled_field (only spelled) (only_right spelled names.0 s.right)
    ∙ ap (λ (m : Challenge). record { challenges = m ∷ []; bad_at = None }) meant

pub token68_again : (scheme token : List ℕ) → is_token scheme ≡ true → is_token68 token ≡ true
    → field_read (token68_text scheme token) ≡ record { challenges = record { scheme = folded scheme; body = Token68 token } ∷ []; bad_at = None }
token68_again scheme token is right =
    let spelled : SpelledChallenge = record { scheme = scheme; argument = token68 0 token } in
    ap field_read (sym (append-nil (spelled_challenge spelled))) ∙ spelled_field (only spelled) (only_right spelled is right)
