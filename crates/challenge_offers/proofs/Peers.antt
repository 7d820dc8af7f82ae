-- The first `negotiate` challenge of lists of challenges.
use Rattle.std.proofs.Common.{◌≡◌, ◌∙◌, ℕ, ◌+◌, ◌<◌, Bool, List, ◌++◌, length, drop, get_or, Option, Some, None, option_map, sym, ap, refl}
use Rattle.std.specs.Prelude.{codes, bytes_eq, find}
use Rattle.std.specs.List.{flat_map}
use Rattle.std.specs.Option.{option_or}
use Rattle.std.proofs.lemmas.List.{at_drop_more}
use Rattle.std.proofs.lemmas.List.Folds.{find-append}
use Rattle.challenge_tokens.specs.declared.challenge.Challenge.{Challenge}
use Rattle.challenge_tokens.specs.Pieces.{field_read}
use Rattle.challenge_tokens.specs.declared.challenge.FieldRead.{FieldRead}
use Rattle.negotiate_handler.specs.Tokens.{token_in}
use Rattle.trace_rule.specs.Challenges.{challenges_in}
use Rattle.challenge_offers.specs.Tokens.{token_among}

abbrev brings : Challenge → Option (List ℕ)
brings challenge = token_in challenge.body

abbrev is_negotiate : Challenge → Bool
is_negotiate challenge = bytes_eq challenge.scheme (codes "negotiate")

in_either : (a b : List Challenge) → token_among (a ++ b) ≡ option_map brings (option_or (find is_negotiate a) (find is_negotiate b))
in_either a b = ap (option_map brings) (find-append is_negotiate a b)

found_first : (x y : Option Challenge) (token : Option (List ℕ)) → option_map brings x ≡ Some token → option_map brings (option_or x y) ≡ Some token
found_first None y token is = cc is
found_first (Some challenge) y token is = is

found_later : (x y : Option Challenge) → option_map brings x ≡ None → option_map brings (option_or x y) ≡ option_map brings y
found_later None y is = refl
found_later (Some challenge) y is = cc is

in_fields : (fields : List (List ℕ)) (i : ℕ) (item : List ℕ) → i < length fields → item ≡ get_or fields i item
    → token_among (flat_map challenges_in (drop i fields)) ≡ token_among (challenges_in item ++ flat_map challenges_in (drop (i + 1) fields))
in_fields fields i item within is =
    at_drop_more (λ rest. token_among (flat_map challenges_in rest)) fields i item within
    ∙ ap (λ (x : List ℕ). token_among (challenges_in x ++ flat_map challenges_in (drop (i + 1) fields))) (sym is)

-- what was told of the challenges of a field
pub told_in : (item slice : List ℕ) (read : FieldRead) (told : List Challenge) → slice ≡ item → read ≡ field_read slice → told ≡ read.challenges → token_among told ≡ token_among (challenges_in item)
unfolding challenges_in
told_in item slice read told same is are =
    ap token_among are ∙ ap (λ (r : FieldRead). token_among r.challenges) is ∙ ap (λ (x : List ℕ). token_among (field_read x).challenges) same

-- the field at a place brings it
pub found_here : (fields : List (List ℕ)) (i : ℕ) (item : List ℕ) (token : Option (List ℕ)) → i < length fields → item ≡ get_or fields i item
    → token_among (challenges_in item) ≡ Some token → token_among (flat_map challenges_in (drop i fields)) ≡ Some token
found_here fields i item token within is found =
    in_fields fields i item within is ∙ in_either (challenges_in item) (flat_map challenges_in (drop (i + 1) fields))
    ∙ found_first (find is_negotiate (challenges_in item)) (find is_negotiate (flat_map challenges_in (drop (i + 1) fields))) token found

-- or only those behind it do
pub found_behind : (fields : List (List ℕ)) (i : ℕ) (item : List ℕ) → i < length fields → item ≡ get_or fields i item
    → token_among (challenges_in item) ≡ None → token_among (flat_map challenges_in (drop i fields)) ≡ token_among (flat_map challenges_in (drop (i + 1) fields))
found_behind fields i item within is none =
    in_fields fields i item within is ∙ in_either (challenges_in item) (flat_map challenges_in (drop (i + 1) fields))
    ∙ found_later (find is_negotiate (challenges_in item)) (find is_negotiate (flat_map challenges_in (drop (i + 1) fields))) none
