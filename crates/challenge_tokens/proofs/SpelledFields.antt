-- A spelled field, read from the left, gives the challenges that it means.
use Rattle.std.proofs.Common.{◌≡◌, ℕ, ◌&&◌, ◌||◌, not, Bool, true, false, List, [], ◌∷◌, ◌++◌, map, replicate, option_to_list, Option, Some, None, refl, sym, ap, ◌∙◌, subst, append_assoc, bytes_eq}
use Rattle.std.specs.List.{list_all, flat_map}
use Rattle.std.proofs.lemmas.Bool.{false≢true}
use Rattle.std.proofs.lemmas.List.{append-nil}
use Rattle.std.proofs.lemmas.List.Folds.{list_any-append}
use Rattle.auth_text.specs.Text.{folded}
use Rattle.challenge_tokens.specs.declared.challenge.Challenge.{Challenge}
use Rattle.challenge_tokens.specs.declared.challenge.Body.{Body}
use Rattle.challenge_tokens.specs.declared.challenge.Body.TheVariants.{Bare as NoBody, Token68, Params}
use Rattle.challenge_tokens.specs.declared.params.Param.{Param}
use Rattle.challenge_tokens.specs.declared.piece.Quoting.TheVariants.{Outside}
use Rattle.challenge_tokens.specs.declared.piece.Form.TheVariants.{Bare, WithToken, WithParam, Parameter}
use Rattle.challenge_tokens.specs.declared.field.Reading.{Reading}
use Rattle.challenge_tokens.specs.Names.{has_name, is_lower, are_params}
use Rattle.challenge_tokens.specs.Forms.{is_token, is_token68}
use Rattle.challenge_tokens.specs.Pieces.{distinct, extend, takes_params, begun, field_read}
use Rattle.challenge_tokens.specs.Reading.{takes, so_far, with_challenge, joined, with_form, start}
use Rattle.challenge_tokens.specs.Spelling.{SpelledParam, SpelledList, SpelledChallenge, SpelledArgument, nothing, token68, params, Further, param_text, option_text, further_text, spaces_then, argument_text, spelled_challenge, field_text, param_meant, params_meant, params_body, body_meant, challenge_meant, challenges_meant, are_blanks, is_right_param, is_right_option, is_right_further, is_right_list, is_right_argument, is_right_challenge, is_right_field}
use Rattle.challenge_tokens.proofs.NameLemmas.{both, none_of, not_true, eq_sym}
use Rattle.challenge_tokens.proofs.FlatLemmas.{extend_more, field_read_is}
use Rattle.challenge_tokens.proofs.EdgeLemmas.{passes-append, trimmed-append}
use Rattle.challenge_tokens.proofs.SpellingLemmas.{keeps, bare_form, token_form, param_form, head_param_form, closed_param, trimmed_param, closed_spaces, closed_scheme, trimmed_scheme, closed_token68, trimmed_token68, blank_spaces}
use Rattle.challenge_tokens.proofs.SpellingWalk.{Ends, same_text, Pending, pending_more, pending_last, pending_blanks, blank_pending, piece_pending}

-- ---- parameters that join the challenge begun last

abbrev joined_all : Reading → List Param → Reading
joined_all r [] = r
joined_all r (p ∷ ps) = joined_all (with_form r (Parameter p)) ps

abbrev param_option : Further SpelledParam → List SpelledParam
param_option f = option_to_list f.element

abbrev after_option : Reading → Option SpelledParam → Reading
after_option r None = r
after_option r (Some s) = with_form r (Parameter (param_meant s))

option_joined : (r : Reading) (e : Option SpelledParam) (more : List SpelledParam)
    → joined_all (after_option r e) (map param_meant more) ≡ joined_all r (map param_meant (option_to_list e ++ more))
option_joined r None more = refl
option_joined r (Some s) more = refl

takes_extended : (body : Body) (p : Param) → takes_params body ≡ true → takes_params (extend body (p ∷ [])) ≡ true
takes_extended NoBody p on = refl
takes_extended (Params kept) p on = refl
takes_extended (Token68 token) p on = absurd (false≢true on)

takes_joined : (c : Option Challenge) (p : Param) → takes c ≡ true → takes (joined c p) ≡ true
takes_joined None p on = absurd (false≢true on)
takes_joined (Some c) p on = takes_extended c.body p on

takes_after : (r : Reading) (e : Option SpelledParam) → takes r.current ≡ true → takes (after_option r e).current ≡ true
takes_after r None on = on
takes_after r (Some s) on = takes_joined r.current (param_meant s) on

option_pending : (r : Reading) (after : List ℕ) (e : Option SpelledParam) → are_blanks after ≡ true → is_right_option is_right_param e ≡ true
    → takes r.current ≡ true → Pending r (after_option r e) (after ++ option_text param_text e)
option_pending r after None blank right on = subst (Pending r r) (sym (append-nil after)) (blank_pending r after blank)
option_pending r after (Some s) blank right on =
    let k = keeps s right in
    piece_pending r after (param_text s) (Parameter (param_meant s)) blank (trimmed_param s k) (closed_param s k) (param_form s k)
    (rw on refl)

-- what a further element's parts are
record Kept {E : Type 0} (right : E → Bool) (f : Further E) : Type 0 where
  before : are_blanks f.before ≡ true
  after : are_blanks f.after ≡ true
  element : is_right_option right f.element ≡ true

kept : {E : Type 0} (right : E → Bool) (f : Further E) → is_right_further right f ≡ true → Kept right f
kept right f is =
    let all = both (are_blanks f.before && are_blanks f.after) (is_right_option right f.element) is in
    let blanks = both (are_blanks f.before) (are_blanks f.after) all.0 in
    record { before = blanks.0; after = blanks.1; element = all.1 }

-- a further element in a text, from its blanks and its comma on
further_split : (before after o more tail : List ℕ)
    → (before ++ 44 ∷ after ++ o ++ more) ++ tail ≡ before ++ 44 ∷ ((after ++ o) ++ (more ++ tail))
further_split before after o more tail =
    append_assoc (before ++ 44 ∷ after ++ o) more tail
    ∙ append_assoc (before ++ 44 ∷ after) o (more ++ tail)
    ∙ append_assoc before (44 ∷ after) (o ++ (more ++ tail))
    ∙ ap (λ t. before ++ 44 ∷ t) (sym (append_assoc after o (more ++ tail)))

further_text_split : (before after o more : List ℕ)
    → before ++ 44 ∷ after ++ o ++ more ≡ before ++ 44 ∷ ((after ++ o) ++ more)
further_text_split before after o more =
    append_assoc (before ++ 44 ∷ after) o more ∙ append_assoc before (44 ∷ after) (o ++ more)
    ∙ ap (λ t. before ++ 44 ∷ t) (sym (append_assoc after o more))

abbrev Later : Reading → List ℕ → List Challenge → Type 0
Later next tail cs = (q : Reading) (y : List ℕ) → Pending q next y → Ends q (y ++ tail) cs

params_walk : (fs : List (Further SpelledParam)) → list_all (is_right_further is_right_param) fs ≡ true
    → (r next : Reading) (x : List ℕ) → Pending r next x → takes next.current ≡ true → (tail : List ℕ) (cs : List Challenge)
    → Later (joined_all next (map param_meant (flat_map param_option fs))) tail cs
    → Ends r (x ++ (flat_map (further_text param_text) fs ++ tail)) cs
params_walk [] right r next x p on tail cs later = later r x p
params_walk (f ∷ fs) right r next x p on tail cs later =
    let all = both (is_right_further is_right_param f) (list_all (is_right_further is_right_param) fs) right in
    let k = kept is_right_param f all.0 in
    let o = option_text param_text f.element in
    let more = flat_map (further_text param_text) fs in
    let mid = after_option next f.element in
    let then = params_walk fs all.1 next mid (f.after ++ o) (option_pending next f.after f.element k.after k.element on)
    (takes_after next f.element on) tail cs
    (subst (λ (n : Reading). Later n tail cs) (sym (option_joined next f.element (flat_map param_option fs))) later) in
    same_text r cs _ _ (ap (λ t. x ++ t) (further_split f.before f.after o more tail))
    (pending_more r next x f.before ((f.after ++ o) ++ (more ++ tail)) cs p k.before then)

-- ---- what the joined parameters make of a body

joined_is : (ps : List Param) (done : List Challenge) (s : List ℕ) (body : Body)
    → joined_all (record { done = done; current = Some (record { scheme = s; body = body }) }) ps
    ≡ record { done = done; current = Some (record { scheme = s; body = extend body ps }) }
joined_is [] done s body = refl
joined_is (p ∷ ps) done s body =
    joined_is ps done s (extend body (p ∷ []))
    ∙ ap (λ (b : Body). record { done = done; current = Some (record { scheme = s; body = b }) }) (extend_more body p ps)

other_name : (name : List ℕ) (kept : List Param) (p : Param) (ps : List Param) → has_name name (kept ++ p ∷ ps) ≡ false → bytes_eq p.name name ≡ false
other_name name kept p ps none =
    let split = sym (list_any-append (λ (q : Param). bytes_eq q.name name) kept (p ∷ ps)) ∙ none in
    let parts = none_of (has_name name kept) (bytes_eq p.name name || has_name name ps) split in
    (none_of (bytes_eq p.name name) (has_name name ps) parts.1).0

fresh_behind : (kept : List Param) (p : Param) (ps : List Param) → are_params (kept ++ p ∷ ps) ≡ true → has_name p.name kept ≡ false
fresh_behind [] p ps fit = refl
fresh_behind (x ∷ kept) p ps fit =
    let all = both (is_lower x.name && not (has_name x.name (kept ++ p ∷ ps))) (are_params (kept ++ p ∷ ps)) fit in
    let first = both (is_lower x.name) (not (has_name x.name (kept ++ p ∷ ps))) all.0 in
    let differs = other_name x.name kept p ps (not_true (has_name x.name (kept ++ p ∷ ps)) first.1) in
    rw (eq_sym x.name p.name, differs) (fresh_behind kept p ps all.1)

distinct_is : (kept ps : List Param) → are_params (kept ++ ps) ≡ true → distinct kept ps ≡ kept ++ ps
distinct_is kept [] fit = sym (append-nil kept)
distinct_is kept (p ∷ ps) fit =
    let again = ap are_params (append_assoc kept (p ∷ []) ps) ∙ fit in
    rw (fresh_behind kept p ps fit) (distinct_is (kept ++ p ∷ []) ps again ∙ append_assoc kept (p ∷ []) ps)

body_is : (ps : List Param) → are_params ps ≡ true → extend NoBody ps ≡ params_body ps
body_is [] fit = refl
body_is (p ∷ ps) fit = ap Params (distinct_is [] (p ∷ ps) fit)

-- the challenge that parameters make of a head
begun_with : (r : Reading) (s : List ℕ) (ps : List Param) → are_params ps ≡ true
    → joined_all (with_challenge r (begun s [])) ps ≡ with_challenge r (record { scheme = s; body = params_body ps })
begun_with r s ps fit =
    joined_is ps (so_far r) s NoBody
    ∙ ap (λ (b : Body). with_challenge r (record { scheme = s; body = b })) (body_is ps fit)

-- ---- a challenge

regroup : (a b c d e t : List ℕ) → (a ++ (b ++ (c ++ (d ++ e)))) ++ t ≡ (a ++ (b ++ (c ++ d))) ++ (e ++ t)
regroup a b c d e t =
    let inner = ap (λ x. b ++ x) (sym (append_assoc c d e)) ∙ sym (append_assoc b (c ++ d) e) in
    let whole = ap (λ x. a ++ x) inner ∙ sym (append_assoc a (b ++ (c ++ d)) e) in
    ap (λ x. x ++ t) whole ∙ append_assoc (a ++ (b ++ (c ++ d))) e t

bare_pending : (r : Reading) (front s : List ℕ) → are_blanks front ≡ true → is_token s ≡ true
    → Pending r (with_challenge r (begun (folded s) [])) (front ++ s)
bare_pending r front s blank is =
    piece_pending r front s (Bare (folded s)) blank (trimmed_scheme s is) (closed_scheme s is) (bare_form s is) refl

token_pending : (r : Reading) (front s : List ℕ) (n : ℕ) (t : List ℕ) → are_blanks front ≡ true → is_token s ≡ true → is_token68 t ≡ true
    → Pending r (with_challenge r (record { scheme = folded s; body = Token68 t })) (front ++ (s ++ spaces_then n t))
token_pending r front s n t blank is right =
    piece_pending r front (s ++ spaces_then n t) (WithToken (folded s) t) blank
    (trimmed-append s (32 ∷ replicate n 32) t (trimmed_scheme s is) (trimmed_token68 t right))
    (passes-append Outside Outside Outside s (spaces_then n t) (closed_scheme s is) (closed_spaces n t (closed_token68 t right)))
    (token_form s n t is right) refl

-- the head of a challenge with parameters, and its first parameter
first_pending : (r : Reading) (front s : List ℕ) (n : ℕ) (e : Option SpelledParam) → are_blanks front ≡ true → is_token s ≡ true
    → is_right_option is_right_param e ≡ true
    → Pending r (after_option (with_challenge r (begun (folded s) [])) e) (front ++ (s ++ (32 ∷ replicate n 32 ++ option_text param_text e)))
first_pending r front s n None blank is right =
    let head = pending_blanks r (with_challenge r (begun (folded s) [])) (front ++ s) (32 ∷ replicate n 32 ++ []) (bare_pending r front s blank is)
    (ap are_blanks (append-nil (32 ∷ replicate n 32)) ∙ blank_spaces n) in
    subst (Pending r (with_challenge r (begun (folded s) []))) (append_assoc front s (32 ∷ replicate n 32 ++ [])) head
first_pending r front s n (Some p) blank is right =
    let k = keeps p right in
    piece_pending r front (s ++ spaces_then n (param_text p)) (WithParam (folded s) (param_meant p)) blank
    (trimmed-append s (32 ∷ replicate n 32) (param_text p) (trimmed_scheme s is) (trimmed_param p k))
    (passes-append Outside Outside Outside s (spaces_then n (param_text p)) (closed_scheme s is) (closed_spaces n (param_text p) (closed_param p k)))
    (head_param_form s n p is k) refl

head_takes : (r : Reading) (s : List ℕ) (e : Option SpelledParam) → takes (after_option (with_challenge r (begun s [])) e).current ≡ true
head_takes r s e = takes_after (with_challenge r (begun s [])) e refl

challenge_walk : (s : List ℕ) (a : SpelledArgument) → is_token s ≡ true → is_right_argument a ≡ true
    → (r : Reading) (front : List ℕ) → are_blanks front ≡ true → (tail : List ℕ) (cs : List Challenge)
    → Later (with_challenge r (record { scheme = folded s; body = body_meant a })) tail cs
    → Ends r ((front ++ (s ++ argument_text a)) ++ tail) cs
challenge_walk s nothing is right r front blank tail cs later =
    later r (front ++ (s ++ [])) (subst (λ t. Pending r (with_challenge r (begun (folded s) [])) (front ++ t)) (sym (append-nil s)) (bare_pending r front s blank is))
challenge_walk s (token68 n t) is right r front blank tail cs later =
    later r (front ++ (s ++ spaces_then n t)) (token_pending r front s n t blank is right)
challenge_walk s (params n l) is right r front blank tail cs later =
    let fit = both (is_right_list is_right_param l) (are_params (params_meant l)) right in
    let list = both (is_right_option is_right_param l.first) (list_all (is_right_further is_right_param) l.further) fit.0 in
    let o = option_text param_text l.first in
    let more = flat_map (further_text param_text) l.further in
    let head = with_challenge r (begun (folded s) []) in
    let ends = option_joined head l.first (flat_map param_option l.further) ∙ begun_with r (folded s) (params_meant l) fit.1 in
    same_text r cs _ _ (regroup front s (32 ∷ replicate n 32) o more tail)
    (params_walk l.further list.1 r (after_option head l.first) (front ++ (s ++ (32 ∷ replicate n 32 ++ o)))
    (first_pending r front s n l.first blank is list.0) (head_takes r (folded s) l.first) tail cs
    (subst (λ (q : Reading). Later q tail cs) (sym ends) later))

-- ---- a field

abbrev challenge_option : Further SpelledChallenge → List SpelledChallenge
challenge_option f = option_to_list f.element

-- one more challenge, or none, and what follows
one_walk : (e : Option SpelledChallenge) → is_right_option is_right_challenge e ≡ true → (r : Reading) (front : List ℕ)
    → are_blanks front ≡ true → (tail : List ℕ) (ms : List Challenge)
    → ((next : Reading) → Later next tail (so_far next ++ ms))
    → Ends r ((front ++ option_text spelled_challenge e) ++ tail) (so_far r ++ (map challenge_meant (option_to_list e) ++ ms))
one_walk None right r front blank tail ms later =
    later r r (front ++ []) (subst (Pending r r) (sym (append-nil front)) (blank_pending r front blank))
one_walk (Some c) right r front blank tail ms later =
    let parts = both (is_token c.scheme) (is_right_argument c.argument) right in
    let next = with_challenge r (challenge_meant c) in
    challenge_walk c.scheme c.argument parts.0 parts.1 r front blank tail (so_far r ++ (challenge_meant c ∷ ms))
    (subst (λ (cs : List Challenge). Later next tail cs) (append_assoc (so_far r) (challenge_meant c ∷ []) ms) (later next))

all_meant : (e : Option SpelledChallenge) (more : List SpelledChallenge)
    → map challenge_meant (option_to_list e) ++ map challenge_meant more ≡ map challenge_meant (option_to_list e ++ more)
all_meant None more = refl
all_meant (Some c) more = refl

challenges_walk : (fs : List (Further SpelledChallenge)) → list_all (is_right_further is_right_challenge) fs ≡ true
    → (next r : Reading) (x : List ℕ) → Pending r next x
    → Ends r (x ++ flat_map (further_text spelled_challenge) fs) (so_far next ++ map challenge_meant (flat_map challenge_option fs))
challenges_walk [] right next r x p =
    subst (Ends r (x ++ [])) (sym (append-nil (so_far next))) (pending_last r next x p)
challenges_walk (f ∷ fs) right next r x p =
    let all = both (is_right_further is_right_challenge f) (list_all (is_right_further is_right_challenge) fs) right in
    let k = kept is_right_challenge f all.0 in
    let o = option_text spelled_challenge f.element in
    let more = flat_map (further_text spelled_challenge) fs in
    let ms = map challenge_meant (flat_map challenge_option fs) in
    let then = one_walk f.element k.element next f.after k.after more ms (λ n q y d. challenges_walk fs all.1 n q y d) in
    let cs = ap (λ (m : List Challenge). so_far next ++ m) (all_meant f.element (flat_map challenge_option fs)) in
    subst (Ends r (x ++ flat_map (further_text spelled_challenge) (f ∷ fs))) cs
    (same_text r _ _ _ (ap (λ t. x ++ t) (further_text_split f.before f.after o more))
    (pending_more r next x f.before ((f.after ++ o) ++ more) _ p k.before then))

pub spelled_field : (l : SpelledList SpelledChallenge) → is_right_field l ≡ true
    → field_read (field_text l) ≡ record { challenges = challenges_meant l; bad_at = None }
spelled_field l right =
    let all = both (is_right_option is_right_challenge l.first) (list_all (is_right_further is_right_challenge) l.further) right in
    let more = flat_map (further_text spelled_challenge) l.further in
    let ms = map challenge_meant (flat_map challenge_option l.further) in
    let whole = one_walk l.first all.0 start [] refl more ms (λ n q y d. challenges_walk l.further all.1 n q y d) 0 in
    field_read_is (field_text l) ∙ whole
    ∙ ap (λ (m : List Challenge). record { challenges = m; bad_at = None }) (all_meant l.first (flat_map challenge_option l.further))
