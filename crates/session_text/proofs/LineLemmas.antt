-- A line of which the last value is taken.
use Rattle.std.proofs.Common.{◌≡◌, ℕ, List, [], ◌∷◌, ◌++◌, length, drop, Ok, Err, refl, arith}
use Rattle.session_text.specs.declared.line.Line.TheVariants.{Link}
use Rattle.session_text.specs.declared.line.LineFault.TheVariants.{Bad}
use Rattle.session_text.specs.Forms.{link, token, step_of}

pub link_of_two : (values front : List (List ℕ)) (last : List ℕ) → values ≡ front ++ last ∷ [] → length front ≡ 1
    → link (drop 1 values) ≡ Ok (Link last)
link_of_two values [] last is one = absurd (omega arith)
link_of_two values (k ∷ []) last is one = rw is refl
link_of_two values (k ∷ m ∷ front) last is one = absurd (omega arith)

pub no_link : (values front : List (List ℕ)) (last : List ℕ) → values ≡ front ++ last ∷ [] → (length front ≡ 1 → ⊥)
    → link (drop 1 values) ≡ Err Bad
no_link values [] last is other = rw is refl
no_link values (k ∷ []) last is other = absurd (other refl)
no_link values (k ∷ m ∷ []) last is other = rw is refl
no_link values (k ∷ m ∷ n ∷ front) last is other = rw is refl

pub token_of_one : (values front : List (List ℕ)) (last : List ℕ) → values ≡ front ++ last ∷ [] → length front ≡ 1
    → token (drop 1 values) ≡ step_of last
token_of_one values [] last is one = absurd (omega arith)
token_of_one values (k ∷ []) last is one = rw is refl
token_of_one values (k ∷ m ∷ front) last is one = absurd (omega arith)
