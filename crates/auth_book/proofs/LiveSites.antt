-- The number in the row of a live space of a site tells the live spaces of the site from all others.
use Rattle.std.proofs.Common.{◌≡◌, ℕ, Bool, true, false, cond, List, [], ◌∷◌, refl, ap, sym, subst, ◌∙◌, arith, Option, Some, None}
use Rattle.std.specs.Prelude.{IsTrue, find, is_some, option_map, unwrap_or, ◌==◌}
use Rattle.std.proofs.lemmas.Bool.Decides.{nat_tests}
use Rattle.std.proofs.lemmas.Bool.{false≢true}
use Rattle.spaces.specs.declared.roster.Roster.{Roster}
use Rattle.spaces.specs.declared.site.Site.{Site}
use Rattle.spaces.specs.ProtectionSpaces.{ProtectionSpace}
use Rattle.spaces.specs.Sites.{numbered, same_site}
use Rattle.auth_events.specs.declared.journal.Entry.{Entry}
use Rattle.auth_events.specs.declared.journal.Gift.{Gift}
use Rattle.auth_events.specs.Tables.{Tables, number_of}
use Rattle.auth_events.specs.Past.{current, live, terms}
use Rattle.auth_events.specs.Book.{IsLegalPast, is_of_site, space_named}
use Rattle.auth_events.proofs.Numbers.{IsFound, first_numbered, none_numbered, numbered_in, some_of_test}
use Rattle.auth_events.proofs.Same.{number_same, site_refl}
use Rattle.auth_cache.specs.declared.cache.Held.{Held}
use Rattle.auth_cache.specs.Cached.{held_in, is_of}
use Rattle.auth_cache.specs.Histories.{held_after}
use Rattle.path_lookup.proofs.Deepest.{site_partition}
use Rattle.auth_book.specs.declared.index.BookIndex.{BookIndex}
use Rattle.auth_book.specs.Parts.{entries_at, part_of}
use Rattle.auth_book.specs.SiteNumbers.{site_no, site_number}
use Rattle.auth_book.specs.Indices.{StandsFor, space_row}
use Rattle.auth_book.specs.Replies.{live_at, site_at, site_in}
use Rattle.auth_book.proofs.Here.{Named, live_named}
use Rattle.auth_book.proofs.SiteLemmas.{agree}

-- what is found passes
found_passes : {A : Type 0} (test : A → Bool) (xs : List A) (x : A) → find test xs ≡ Some x → test x ≡ true
found_passes test [] x none = absurd cc
found_passes test (y ∷ ys) x found = at (test y) refl found (found_passes test ys x)
  where
    at : (b : Bool) → test y ≡ b → cond b (Some y) (find test ys) ≡ Some x → (find test ys ≡ Some x → test x ≡ true) → test x ≡ true
    at true is found' later = let same : y ≡ x = cc in subst (λ z. test z ≡ true) same is
    at false is found' later = later found'

-- where one is found by another test, and passes, one is found
found_too : {A : Type 0} (test other : A → Bool) (xs : List A) (x : A) → find other xs ≡ Some x → test x ≡ true → IsTrue (is_some (find test xs))
found_too test other [] x none passes = absurd cc
found_too test other (y ∷ ys) x found passes = at (other y) refl (test y) refl found (λ more. found_too test other ys x more passes)
  where
    at : (b : Bool) → other y ≡ b → (c : Bool) → test y ≡ c → cond b (Some y) (find other ys) ≡ Some x → (find other ys ≡ Some x → IsTrue (is_some (find test ys))) → IsTrue (is_some (cond c (Some y) (find test ys)))
    at b is true passes' found' later = refl
    at true is false fails found' later =
        let same : y ≡ x = cc in
        absurd (false≢true (sym fails ∙ subst (λ z. test z ≡ true) (sym same) passes))
    at false is false fails found' later = later found'

-- a named space's site has a number
first_number : (names : Tables) (s : ℕ) → Named names s → (site_no names s == 0) ≡ false
first_number names s named = at (space_named names s) refl named
  where
    at : (o : Option ProtectionSpace) → space_named names s ≡ o → IsTrue (is_some o) → (unwrap_or (option_map (λ space. site_number names space.site) o) 0 == 0) ≡ false
    at None none some = absurd (false≢true some)
    at (Some space) there some = of (number_of (λ other. same_site other.site space.site) names.spaces) refl
      where
        of : (o : Option ℕ) → number_of (λ other. same_site other.site space.site) names.spaces ≡ o → (unwrap_or o 0 == 0) ≡ false
        of None none =
            absurd (false≢true (sym (none_numbered (λ (other : ProtectionSpace). same_site other.site space.site) names.spaces none s space there) ∙ site_refl space.site))
        of (Some k) found =
            let first : IsFound (λ other. same_site other.site space.site) names.spaces k = first_numbered (λ (other : ProtectionSpace). same_site other.site space.site) names.spaces k found in
            let number = (numbered_in names.spaces k (ap is_some first.is_there)).0 in
            grind (arith, nat_tests, number)

module _ (roster : Roster) (names : Tables) (past : List Entry) (legal : IsLegalPast roster names past) (index : BookIndex) (stands : StandsFor index roster names past) where
  -- the row of a named space has its site's number
  site_row : (s : ℕ) → Named names s → site_in index s ≡ site_no names s
  site_row s named = ap (λ row. unwrap_or (option_map (λ r. r.site) row) 0) (stands.spaces s) ∙ at (numbered names.spaces s) named
    where
      at : (o : Option ProtectionSpace) → IsTrue (is_some o) → unwrap_or (option_map (λ r. r.site) (option_map (λ (_ : ProtectionSpace). space_row names index.partitions past s) o)) 0 ≡ site_no names s
      at None some = absurd (false≢true some)
      at (Some space) some = refl

  module _ (place : Site) where
    abbrev of_it : Held → Bool
    of_it held = is_of_site names place held.gift.space

    abbrev entries : List Held
    entries = entries_at (part_of index.partitions place.partition)

    -- a live space of the site is in the cache of its partition
    cached : (s : ℕ) → IsTrue (live past s) → is_of_site names place s ≡ true → IsTrue (is_some (find of_it entries))
    cached s lives of_site = at (current past s) refl lives
      where
        at : (o : Option Gift) → current past s ≡ o → IsTrue (is_some o) → IsTrue (is_some (find of_it entries))
        at None none some = absurd (false≢true some)
        at (Some gift) holds some =
            let held : Held = record { gift = gift; terms = terms past s } in
            let here : held_in entries s ≡ Some held =
            (stands.caches place.partition).each s
            ∙ (ap (λ b. cond b (held_after past s) None) (site_partition names place s of_site)
            ∙ ap (option_map (λ (one : Gift). record { gift = one; terms = terms past s })) holds) in
            let its = number_same gift.space s (found_passes (is_of s) entries held here) in
            found_too of_it (is_of s) entries held here (subst (λ n. is_of_site names place n ≡ true) (sym its) of_site)

    pub tells_site : (s : ℕ) → IsTrue (live past s) → is_of_site names place s ≡ (site_no names s == site_at index names place)
    tells_site s lives = at (live_at index names place) refl
      where
        named : Named names s
        named = live_named roster names past legal s lives

        at : (o : Option Held) → live_at index names place ≡ o → is_of_site names place s ≡ (site_no names s == unwrap_or (option_map (λ held. site_in index held.gift.space) o) 0)
        at None none = of (is_of_site names place s) refl
          where
            of : (b : Bool) → is_of_site names place s ≡ b → is_of_site names place s ≡ (site_no names s == 0)
            of true its = absurd (false≢true (sym (ap is_some none) ∙ cached s lives its))
            of false other = other ∙ sym (first_number names s named)
        at (Some held) found =
            let its : is_of_site names place held.gift.space ≡ true = found_passes of_it entries held found in
            let its_named : Named names held.gift.space = some_of_test (λ (space : ProtectionSpace). same_site space.site place) (space_named names held.gift.space) its in
            let number : site_no names held.gift.space ≡ site_number names place =
            number_same (site_no names held.gift.space) (site_number names place) (sym (agree names place held.gift.space its_named) ∙ its) in
            agree names place s named ∙ ap (λ n. site_no names s == n) (sym (site_row held.gift.space its_named ∙ number))
