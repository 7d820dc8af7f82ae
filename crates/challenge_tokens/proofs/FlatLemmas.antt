-- The definition over the whole list is what is read from the left.
use Rattle.std.proofs.Common.{◌≡◌, ℕ, List, [], ◌∷◌, ◌++◌, Option, Some, None, refl, sym, ap, ◌∙◌, append_assoc}
use Rattle.std.proofs.lemmas.List.{append-nil}
use Rattle.challenge_tokens.specs.declared.challenge.Challenge.{Challenge}
use Rattle.challenge_tokens.specs.declared.params.Param.{Param}
use Rattle.challenge_tokens.specs.declared.challenge.FieldRead.{FieldRead}
use Rattle.challenge_tokens.specs.declared.challenge.Body.{Body}
use Rattle.challenge_tokens.specs.declared.challenge.Body.TheVariants.{Bare as NoBody, Token68, Params}
use Rattle.challenge_tokens.specs.declared.piece.Form.{Form}
use Rattle.challenge_tokens.specs.declared.piece.Form.TheVariants.{Bare, WithToken, WithParam, Parameter, Bad}
use Rattle.challenge_tokens.specs.Pieces.{Formed, Open, none, taking, full, extend, begun, grouped, good, bad_place, field_read, forms_from}
use Rattle.challenge_tokens.specs.Reading.{last_of, resume, start}

abbrev open_body : Body → Open
open_body NoBody = taking
open_body (Params kept) = taking
open_body (Token68 token) = full

abbrev open_of : Option Challenge → Open
open_of None = none
open_of (Some c) = open_body c.body

-- the challenge begun last with the parameters that wait for it
abbrev with_waiting : Option Challenge → List Param → List Challenge
with_waiting None ps = []
with_waiting (Some c) ps = record { scheme = c.scheme; body = extend c.body ps } ∷ []

abbrev flat : List Challenge → Option Challenge → List Formed → FieldRead
flat done current ps = record {
  challenges = done ++ with_waiting current (grouped (good (open_of current) ps)).waiting ++ (grouped (good (open_of current) ps)).challenges;
  bad_at = bad_place (open_of current) ps;
}

extend_none : (body : Body) → extend body [] ≡ body
extend_none body = refl

pub extend_more : (body : Body) (p : Param) (ps : List Param) → extend (extend body (p ∷ [])) ps ≡ extend body (p ∷ ps)
extend_more NoBody p [] = refl
extend_more NoBody p (q ∷ ps) = refl
extend_more (Params kept) p [] = refl
extend_more (Params kept) p (q ∷ ps) = refl
extend_more (Token68 token) p [] = refl
extend_more (Token68 token) p (q ∷ ps) = refl

extend_token : (token : List ℕ) (ps : List Param) → extend (Token68 token) ps ≡ Token68 token
extend_token token [] = refl
extend_token token (p ∷ ps) = refl

waiting_none : (current : Option Challenge) → with_waiting current [] ≡ last_of current
waiting_none None = refl
waiting_none (Some c) = refl

same_read : (cs ds : List Challenge) (place : Option ℕ) → cs ≡ ds
    → ◌≡◌ {A = FieldRead} (record { challenges = cs; bad_at = place }) (record { challenges = ds; bad_at = place })
same_read cs ds place e = ap (λ (xs : List Challenge). record { challenges = xs; bad_at = place }) e

-- where the reading ends
ends : (done : List Challenge) (current : Option Challenge) → done ++ with_waiting current [] ++ [] ≡ done ++ last_of current
ends done current = append-nil (done ++ with_waiting current []) ∙ ap (λ cs. done ++ cs) (waiting_none current)

-- where a head begins
heads : (done : List Challenge) (current : Option Challenge) (c : Challenge) (cs : List Challenge)
    → done ++ with_waiting current [] ++ (c ∷ cs) ≡ (done ++ last_of current) ++ (c ∷ []) ++ cs
heads done current c cs = ap (λ xs. done ++ xs ++ (c ∷ cs)) (waiting_none current) ∙ sym (append_assoc (done ++ last_of current) (c ∷ []) cs)

abbrev Agrees : List Formed → Type 0
Agrees ps = (done : List Challenge) (current : Option Challenge)
    → flat done current ps ≡ resume (record { done = done; current = current }) ps

joins : (done cs : List Challenge) (scheme : List ℕ) (body : Body) (q : Param) (ws : List Param)
    → done ++ (record { scheme = scheme; body = extend body (q ∷ ws) } ∷ []) ++ cs
    ≡ done ++ (record { scheme = scheme; body = extend (extend body (q ∷ [])) ws } ∷ []) ++ cs
joins done cs scheme body q ws =
    ap (λ (b : Body). done ++ (record { scheme = scheme; body = b } ∷ []) ++ cs) (sym (extend_more body q ws))

at_body : (at : ℕ) (ps : List Formed) (q : Param) → Agrees ps
    → (done : List Challenge) (scheme : List ℕ) (body : Body)
    → flat done (Some (record { scheme = scheme; body = body })) (record { at = at; form = Parameter q } ∷ ps)
    ≡ resume (record { done = done; current = Some (record { scheme = scheme; body = body }) }) (record { at = at; form = Parameter q } ∷ ps)
at_body at ps q more done scheme NoBody =
    let g = grouped (good taking ps) in
    same_read _ _ _ (joins done g.challenges scheme NoBody q g.waiting)
    ∙ more done (Some (record { scheme = scheme; body = extend NoBody (q ∷ []) }))
at_body at ps q more done scheme (Params kept) =
    let g = grouped (good taking ps) in
    same_read _ _ _ (joins done g.challenges scheme (Params kept) q g.waiting)
    ∙ more done (Some (record { scheme = scheme; body = extend (Params kept) (q ∷ []) }))
at_body at ps q more done scheme (Token68 token) =
    same_read _ _ (Some at) (ends done (Some (record { scheme = scheme; body = Token68 token })))

at_param : (at : ℕ) (ps : List Formed) (q : Param) → Agrees ps
    → Agrees (record { at = at; form = Parameter q } ∷ ps)
at_param at ps q more done None = same_read _ _ (Some at) (ends done None)
at_param at ps q more done (Some c) = at_body at ps q more done c.scheme c.body

at_form : (at : ℕ) (ps : List Formed) (f : Form) → Agrees ps → Agrees (record { at = at; form = f } ∷ ps)
at_form at ps (Bare s) more done current =
    let g = grouped (good taking ps) in
    same_read _ _ _ (heads done current (begun s g.waiting) g.challenges)
    ∙ more (done ++ last_of current) (Some (begun s []))
at_form at ps (WithToken s t) more done current =
    let g = grouped (good full ps) in
    same_read _ _ _ (heads done current (record { scheme = s; body = Token68 t }) g.challenges
    ∙ ap (λ (b : Body). (done ++ last_of current) ++ (record { scheme = s; body = b } ∷ []) ++ g.challenges) (sym (extend_token t g.waiting)))
    ∙ more (done ++ last_of current) (Some (record { scheme = s; body = Token68 t }))
at_form at ps (WithParam s q) more done current =
    let g = grouped (good taking ps) in
    same_read _ _ _ (heads done current (begun s (q ∷ g.waiting)) g.challenges
    ∙ joins (done ++ last_of current) g.challenges s NoBody q g.waiting)
    ∙ more (done ++ last_of current) (Some (begun s (q ∷ [])))
at_form at ps (Parameter q) more done current = at_param at ps q more done current
at_form at ps Bad more done current = same_read _ _ (Some at) (ends done current)

pub agrees : (ps : List Formed) → Agrees ps
agrees [] done current = same_read _ _ None (ends done current)
agrees (p ∷ ps) done current = at_form p.at ps p.form (agrees ps) done current

pub field_read_is : (value : List ℕ) → field_read value ≡ resume start (forms_from 0 value)
field_read_is value = agrees (forms_from 0 value) [] None
