-- The lines of terms are taken as those terms, and their nonces are numbered as they were.
use Rattle.std.proofs.Common.{◌≡◌, ℕ, zero, suc, ◌+◌, ◌<◌, ◌≤◌, ◌&&◌, Bool, true, List, [], ◌∷◌, ◌++◌, length, take, map, reverse, Option, Some, None, refl, sym, ap, subst, ◌∙◌, arith, append_assoc, inl, inr}
use Rattle.std.specs.Prelude.{nat_le, bytes_eq, unwrap_or, slice_get}
use Rattle.std.proofs.lemmas.Bool.{false≢true, cases_lt}
use Rattle.std.proofs.lemmas.Bool.Decides.{nat_tests}
use Rattle.std.proofs.lemmas.List.{reverse-append, map-append}
use Rattle.spaces.specs.declared.site.Site.{Site}
use Rattle.spaces.specs.Sites.{numbered, same_site}
use Rattle.auth_events.specs.declared.names.TermsName.{TermsName}
use Rattle.auth_events.specs.declared.names.NonceName.{NonceName}
use Rattle.auth_events.specs.Tables.{Tables, IsNumberedOnce, number_of, is_that_nonce, is_rising, greatest, larger, nonce_numbers}
use Rattle.auth_events.proofs.Numbers.{first_numbered, none_numbered, numbered_suc}
use Rattle.auth_events.proofs.Same.{site_same, site_refl, bytes_same, bytes_refl}
use Rattle.report_lines.specs.NameLines.{terms_line}
use Rattle.report_reading.specs.Words.{words}
use Rattle.report_reading.specs.Forms.{terms_form}
use Rattle.report_reading.specs.Reading.{terms_at}
use Rattle.report_reading.proofs.Tests.{both}
use Rattle.auth_report.specs.Steps.{terms_step}
use Rattle.report_laws.proofs.NamesFront.{within}
use Rattle.report_laws.proofs.Fronts.{Refuses, begins, le_by, none_taken, other_kind}

pub terms_stops : (n : ℕ) (s : Tables) (lines : List (List ℕ)) → begins 5 lines ≡ true → Refuses (terms_step n) s lines
terms_stops n s [] h = tt
terms_stops n s (line ∷ lines) h =
    none_taken (terms_at (length s.terms + 1) s.spaces line) _ (other_kind (terms_form s.spaces (words line)) (terms_line (length s.terms + 1)) line 4 (λ x. refl) h)

-- NONCE NUMBERS OF A FRONT

-- the greatest nonce number of these terms
abbrev pub top : List TermsName → ℕ
top terms = greatest (nonce_numbers terms)

numbers_split : (xs ys : List TermsName) → nonce_numbers (xs ++ ys) ≡ nonce_numbers ys ++ nonce_numbers xs
numbers_split xs ys =
    ap reverse (map-append (λ (name : TermsName). name.nonce) xs ys) ∙ reverse-append (map (λ (name : TermsName). name.nonce) xs) (map (λ (name : TermsName). name.nonce) ys)

rising_back : (xs ys : List ℕ) → is_rising (xs ++ ys) ≡ true → is_rising ys ≡ true
rising_back [] ys h = h
rising_back (x ∷ xs) ys h = rising_back xs ys (both (nat_le 1 x && nat_le x (greatest (xs ++ ys) + 1)) (is_rising (xs ++ ys)) h).1

larger_right : (a b : ℕ) → b ≤ larger a b
larger_right a b = grind (arith, nat_tests)

greatest_more : (xs ys : List ℕ) → greatest ys ≤ greatest (xs ++ ys)
greatest_more [] ys = omega arith
greatest_more (x ∷ xs) ys =
    let more = greatest_more xs ys in
    let here = larger_right x (greatest (xs ++ ys)) in
    omega (arith, more, here)

-- the number of the next terms' nonce is known or the next one
pub next_range : (done xs : List TermsName) (x : TermsName) → is_rising (nonce_numbers (done ++ x ∷ xs)) ≡ true → (1 ≤ x.nonce) × (x.nonce ≤ top done + 1)
next_range done xs x h =
    let flat : nonce_numbers (done ++ x ∷ xs) ≡ nonce_numbers xs ++ (x.nonce ∷ nonce_numbers done) =
    ap nonce_numbers (sym (append_assoc done (x ∷ []) xs)) ∙ numbers_split (done ++ x ∷ []) xs
    ∙ ap (λ (ns : List ℕ). nonce_numbers xs ++ ns) (numbers_split done (x ∷ [])) in
    let rising = rising_back (nonce_numbers xs) (x.nonce ∷ nonce_numbers done) (sym (ap is_rising flat) ∙ h) in
    let parts = both (nat_le 1 x.nonce && nat_le x.nonce (top done + 1)) (is_rising (nonce_numbers done)) rising in
    let range = both (nat_le 1 x.nonce) (nat_le x.nonce (top done + 1)) parts.0 in
    (le_by 1 x.nonce range.0, le_by x.nonce (top done + 1) range.1)

pub top_few : (done xs : List TermsName) → top done ≤ top (done ++ xs)
top_few done xs = subst (λ (ns : List ℕ). top done ≤ greatest ns) (sym (numbers_split done xs)) (greatest_more (nonce_numbers xs) (nonce_numbers done))

pub top_next : (done : List TermsName) (x : TermsName) → top (done ++ x ∷ []) ≡ larger x.nonce (top done)
top_next done x = ap greatest (numbers_split done (x ∷ []))

-- FRONTS OF NONCES

numbered_take : {A : Type 0} (xs : List A) (n i : ℕ) → 1 ≤ i → i ≤ n → numbered (take n xs) i ≡ numbered xs i
numbered_take xs n zero low high = absurd (omega (arith, low))
numbered_take xs n (suc i) low high = numbered_suc (take n xs) i ∙ slice_take xs n i (omega (arith, high)) ∙ sym (numbered_suc xs i) where
  slice_take : {A : Type 0} (xs : List A) (n i : ℕ) → i < n → slice_get (take n xs) i ≡ slice_get xs i
  slice_take xs zero i less = absurd (omega (arith, less))
  slice_take [] (suc n) i less = refl
  slice_take (x ∷ xs) (suc n) zero less = refl
  slice_take (x ∷ xs) (suc n) (suc i) less = slice_take xs n i (omega (arith, less))

pub take_next : {A : Type 0} (xs : List A) (n : ℕ) (y : A) → slice_get xs n ≡ Some y → take (n + 1) xs ≡ take n xs ++ y ∷ []
take_next [] n y h = absurd (cc h)
take_next (x ∷ xs) zero y h = let same : x ≡ y = cc h in ap (λ z. z ∷ []) same
take_next (x ∷ xs) (suc n) y h =
    let next : suc n + 1 ≡ suc (n + 1) = omega arith in
    ap (λ (k : ℕ). take k (x ∷ xs)) next ∙ ap (λ more. x ∷ more) (take_next xs n y h)

pub length_take : {A : Type 0} (n : ℕ) (xs : List A) → n ≤ length xs → length (take n xs) ≡ n
length_take zero xs few = refl
length_take (suc n) [] few = absurd (omega (arith, few))
length_take (suc n) (x ∷ xs) few = ap suc (length_take n xs (omega (arith, few)))

-- THE NONCE OF THE NEXT TERMS

same_nonce : (site : Site) (text : List ℕ) (y : NonceName) → is_that_nonce site text y ≡ true → y ≡ record { site = site; text = text }
same_nonce site text y h =
    let parts = both (same_site y.site site) (bytes_eq y.text text) h in
    let s : y.site ≡ site = site_same y.site site parts.0 in
    let t : y.text ≡ text = bytes_same y.text text parts.1 in
    by_parts y.site site y.text text s t where
      by_parts : (s s' : Site) (t t' : List ℕ) → s ≡ s' → t ≡ t' → ◌≡◌ {A = NonceName} (record { site = s; text = t }) (record { site = s'; text = t' })
      by_parts s s' t t' same_s same_t = cc

that_nonce : (site : Site) (text : List ℕ) → is_that_nonce site text (record { site = site; text = text }) ≡ true
that_nonce site text = rw (site_refl site, bytes_refl text) refl

-- the number that a front of the nonces gives
pub number_again : (nonces : List NonceName) (g k : ℕ) (site : Site) (text : List ℕ) → IsNumberedOnce nonces → numbered nonces k ≡ Some (record { site = site; text = text })
    → 1 ≤ k → k ≤ g + 1 → g ≤ length nonces → unwrap_or (number_of (is_that_nonce site text) (take g nonces)) (length (take g nonces) + 1) ≡ k
number_again nonces g k site text once at low high few = by (number_of test front) refl where
  test : NonceName → Bool
  test = is_that_nonce site text

  front : List NonceName
  front = take g nonces

  nonce : NonceName
  nonce = record { site = site; text = text }

  size : length front ≡ g
  size = length_take g nonces few

  by : (o : Option ℕ) → number_of test front ≡ o → unwrap_or o (length front + 1) ≡ k
  by (Some i) is =
      let found = first_numbered test front i is in
      let range = within front i found.thing found.is_there in
      let within_g : i ≤ g = omega (arith, range.1, size) in
      let here : numbered nonces i ≡ Some nonce =
      sym (numbered_take nonces g i range.0 within_g) ∙ found.is_there ∙ ap Some (same_nonce site text found.thing found.passes) in
      once nonce i k here at
  by None is =
      elim (cases_lt k (g + 1)) [
        | inl less ↦
            let there : numbered front k ≡ Some nonce = numbered_take nonces g k low (omega (arith, less)) ∙ at in
            absurd (false≢true (sym (none_numbered test front is k nonce there) ∙ that_nonce site text))
        | inr more ↦ omega (arith, more, high, size)
      ]
