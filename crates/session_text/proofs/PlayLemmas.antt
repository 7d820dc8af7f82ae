-- One more line keeps what holds of all requests and steps.
use Rattle.std.proofs.Common.{◌≡◌, true, false, ◌&&◌, Bool, List, [], ◌∷◌, ◌++◌, refl, ◌∙◌}
use Rattle.std.specs.Prelude.{All, IsTrue}
use Rattle.std.specs.List.{list_all}
use Rattle.std.proofs.lemmas.Bool.{and_parts}
use Rattle.std.proofs.lemmas.List.Elements.{All-nil, All-cons, All-append}
use Rattle.std.proofs.lemmas.List.Folds.{list_all-append}
use Rattle.link_trait.specs.Tokens.{is_answered, are_answered}
use Rattle.link_trait.specs.declared.steps.Step.{Step}
use Rattle.spaces.specs.Places.{IsPlaced}
use Rattle.session_text.specs.declared.line.Line.{Line}
use Rattle.session_text.specs.declared.line.Line.TheVariants.{Passed, Header, Workers, Default, Request as Requested, Link, Token, Answer as Answered}
use Rattle.session_text.specs.declared.session.Reading.{Reading}
use Rattle.session_text.specs.Readings.{in_last, with_line}
use Rattle.session_text.specs.Played.{IsRight, IsPlayable}

-- one more of which the test holds too
all_push : {X : Type 0} (p : X → Bool) (xs : List X) (x : X) → list_all p xs ≡ true → p x ≡ true → list_all p (xs ++ x ∷ []) ≡ true
all_push p xs x all one = list_all-append p xs (x ∷ []) ∙ rw (all, one) refl

answered_in_last : (gs : List (List Step)) (s : Step) → are_answered gs ≡ true → is_answered s ≡ true → are_answered (in_last gs s) ≡ true
answered_in_last [] s all one = refl
answered_in_last (g ∷ []) s all one =
    let parts = and_parts (list_all is_answered g) true all in rw (all_push is_answered g s parts.0 one) refl
answered_in_last (g ∷ h ∷ gs) s all one =
    let parts = and_parts (list_all is_answered g) (are_answered (h ∷ gs)) all in
    rw parts.0 (answered_in_last (h ∷ gs) s parts.1 one)

playable_with : (r : Reading) (l : Line) → IsPlayable r → IsRight l → IsPlayable (with_line r l)
playable_with r Passed playable right = playable
playable_with r Header playable right = playable
playable_with r (Workers n) playable right = playable
playable_with r (Default origin) playable right = playable
playable_with r (Requested request) playable right =
    (All-append IsPlaced r.roster.requests (request ∷ []) playable.0 (All-cons IsPlaced request [] right (All-nil IsPlaced)), all_push (list_all is_answered) r.steps [] playable.1 refl)
playable_with r (Link bytes) playable right = playable
playable_with r (Token step) playable right = (playable.0, answered_in_last r.steps step playable.1 right)
playable_with r (Answered space gift) playable right = playable

pub next_playable : (r s : Reading) (l : Line) → IsPlayable r → IsRight l → s ≡ with_line r l → IsPlayable s
next_playable r s l playable right is = rw is (playable_with r l playable right)
