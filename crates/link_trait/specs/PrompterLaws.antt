-- What a prompter in memory tells is by its answers: the laws of `Prompter`, shown of it.
use Rattle.std.proofs.Common.{◌≡◌, ◌∙◌, ℕ, suc, zero, List, [], ◌∷◌, map, refl, sym, ap, Some}
use Rattle.std.specs.Prelude.{option_map, slice_get}
use Rattle.std.specs.declared.option.Option.{Option}
use Rattle.auth_text.specs.Login.{Login}
use Rattle.spaces.specs.ProtectionSpaces.{ProtectionSpace}
use Rattle.link_trait.specs.declared.prompts.Ask.{Ask}
use Rattle.link_trait.specs.Prompts.{Answered, answer_in, answered_by, asks_of, AreAlike}

asked_of : (answers : List (ProtectionSpace × Option Login)) (asks : List Ask) → asks ≡ asks_of (map (answered_by answers) asks)
asked_of answers [] = refl
asked_of answers (ask ∷ asks) = ap (λ rest. ask ∷ rest) (asked_of answers asks)

pub asks_are : (answers : List (ProtectionSpace × Option Login)) (asks : List Ask)
    → Some asks ≡ option_map asks_of (Some (map (answered_by answers) asks))
asks_are answers asks = ap Some (asked_of answers asks)

answer_of_ask : (answers : List (ProtectionSpace × Option Login)) (asks : List Ask) (i : ℕ) (a : Answered)
    → slice_get (map (answered_by answers) asks) i ≡ Some a → a.answer ≡ answer_in answers a.ask.space a.ask.ordinal
answer_of_ask answers [] i a is = cc
answer_of_ask answers (ask ∷ asks) zero a is =
    let same : answered_by answers ask ≡ a = cc in
    ap (λ (it : Answered). it.answer) (sym same) ∙ ap (λ (it : Answered). answer_in answers it.ask.space it.ask.ordinal) same
answer_of_ask answers (ask ∷ asks) (suc i) a is = answer_of_ask answers asks i a is

pub alike : (answers : List (ProtectionSpace × Option Login)) (asks : List Ask) → AreAlike (map (answered_by answers) asks)
alike answers asks i j a b at_i at_j same =
    answer_of_ask answers asks i a at_i ∙ ap (λ (ask : Ask). answer_in answers ask.space ask.ordinal) same ∙ sym (answer_of_ask answers asks j b at_j)
