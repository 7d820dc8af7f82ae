-- What a caller that has begun a request and named no terms has left.
use Rattle.std.proofs.Common.{◌≡◌, ℕ, ◌+◌, ◌≤◌, Bool, true, false, cond, List, [], ◌∷◌, ◌++◌, refl, ap, ◌∙◌, arith, inl}
use Rattle.std.specs.Prelude.{◌==◌, count_by, is_some}
use Rattle.std.proofs.lemmas.List.Sums.{sum_by-append, sum_by-cons}
use Rattle.spaces.specs.ProtectionSpaces.{ProtectionSpace}
use Rattle.spaces.specs.declared.terms.Terms.{Terms}
use Rattle.auth_events.specs.declared.told.Told.{Told}
use Rattle.auth_events.specs.declared.told.Told.TheVariants.{Made, SpaceNamed, TermsNamed, TextNamed}
use Rattle.auth_events.specs.Tables.{Tables, no_names, space_number}
use Rattle.auth_events.specs.Told.{names_told, told_space, with_told}
use Rattle.shared_book.specs.Callers.{CallerView, HasNamed}
use Rattle.worked_callers.specs.Crews.{HasSameCounts}
use Rattle.book_laws.specs.Owners.{items_of, maker}
use Rattle.book_laws.specs.Shares.{HasTermsLeft, begins_request, begun, names_nonce, names_terms, nonces_behind, terms_named}

-- the naming of a space isn't counted by a test that no such naming meets
space_uncounted : (p : Told → Bool) (c : ℕ) (names : Tables) (space : ProtectionSpace) (mine : List Told) → p (SpaceNamed c space) ≡ false → count_by p (mine ++ told_space c names [] space) ≡ count_by p mine
space_uncounted p c names space mine none =
    sum_by-append (λ x. cond (p x) 1 0) mine (told_space c names [] space) ∙ omega (arith, at (is_some (space_number names space)))
  where
    at : (b : Bool) → count_by p (cond b [] (SpaceNamed c space ∷ [])) ≡ 0
    at true = refl
    at false = sum_by-cons (λ x. cond (p x) 1 0) (SpaceNamed c space) [] ∙ ap (λ b. cond {A = ℕ} b 1 0 + 0) none

pub space_counts : (before after : CallerView) (space : ProtectionSpace) → HasNamed (λ names. told_space before.number names [] space) before after → HasSameCounts before.mine after.mine
space_counts before after space named = (
  ap begun named.mine ∙ space_uncounted begins_request before.number (names_told named.stood) space before.mine refl,
  ap terms_named named.mine ∙ space_uncounted names_terms before.number (names_told named.stood) space before.mine refl,
)

-- no more nonces get their numbers by the caller's terms than it has named terms
nonces_few : (c : ℕ) (names : Tables) (told : List Told) → nonces_behind c names told ≤ terms_named (items_of c told)
nonces_few c names [] = omega arith
nonces_few c names (item ∷ rest) = at (maker item == c) (nonces_few c (with_told names item) rest)
  where
    le_one : (b : Bool) → cond {A = ℕ} b 1 0 ≤ 1
    le_one true = omega arith
    le_one false = omega arith

    one : (x : Told) → cond {A = ℕ} (names_nonce names x) 1 0 ≤ cond {A = ℕ} (names_terms x) 1 0
    one (Made entry) = omega arith
    one (SpaceNamed caller space) = omega arith
    one (TermsNamed caller name) = le_one (names_nonce names (TermsNamed caller name))
    one (TextNamed caller text) = omega arith

    at : (b : Bool) → nonces_behind c (with_told names item) rest ≤ terms_named (items_of c rest)
        → cond b (cond (names_nonce names item) 1 0) 0 + nonces_behind c (with_told names item) rest ≤ terms_named (cond b (item ∷ items_of c rest) (items_of c rest))
    at true few = omega (arith, few, one item, sum_by-cons (λ x. cond (names_terms x) 1 0) item (items_of c rest))
    at false few = omega (arith, few)

pub terms_left : (c : ℕ) (mine seen : List Told) (s : ℕ) (terms : Terms) → mine ≡ items_of c seen → 1 ≤ begun mine → terms_named mine ≡ 0 → HasTermsLeft c mine seen s terms
terms_left c mine seen s terms own one none =
    inl (omega (arith, one, none), inl (omega (arith, one, none, nonces_few c no_names seen, ap terms_named own)))
