-- The number of a site is that of each named space of it, and of no other.
use Rattle.std.proofs.Common.{◌≡◌, ℕ, Bool, true, false, refl, ap, sym, subst, ◌∙◌, arith, Option, Some, None}
use Rattle.std.specs.Prelude.{IsTrue, is_some, option_map, unwrap_or, ◌==◌}
use Rattle.std.proofs.lemmas.Bool.{false≢true}
use Rattle.spaces.specs.declared.site.Site.{Site}
use Rattle.spaces.specs.ProtectionSpaces.{ProtectionSpace}
use Rattle.spaces.specs.Sites.{numbered, same_site}
use Rattle.auth_events.specs.Tables.{Tables, number_of}
use Rattle.auth_events.specs.Book.{is_of_site}
use Rattle.auth_events.proofs.Numbers.{IsFound, first_numbered, none_numbered, numbered_in}
use Rattle.auth_events.proofs.Same.{number_same, number_refl, site_same, site_refl}
use Rattle.auth_book.specs.SiteNumbers.{site_no, site_number}

module _ (names : Tables) where
  abbrev of_site : Site → ProtectionSpace → Bool
  of_site place space = same_site space.site place

  -- a number that two sites have, one of them being named, is of one site
  one_site : (a b : Site) (s : ℕ) (space : ProtectionSpace) → numbered names.spaces s ≡ Some space → space.site ≡ a → site_number names a ≡ site_number names b → a ≡ b
  one_site a b s space there is same = at (number_of (of_site a) names.spaces) refl (number_of (of_site b) names.spaces) refl
    where
      at : (x : Option ℕ) → number_of (of_site a) names.spaces ≡ x → (y : Option ℕ) → number_of (of_site b) names.spaces ≡ y → a ≡ b
      at None none y is_y =
          absurd (false≢true (sym (none_numbered (of_site a) names.spaces none s space there) ∙ subst (λ place. IsTrue (same_site space.site place)) is (site_refl space.site)))
      at (Some k) found_a None none =
          let a_found : IsFound (of_site a) names.spaces k = first_numbered (of_site a) names.spaces k found_a in
          let first = (numbered_in names.spaces k (ap is_some a_found.is_there)).0 in
          let number : k ≡ 0 = sym (ap (λ o. unwrap_or o 0) found_a) ∙ (same ∙ ap (λ o. unwrap_or o 0) none) in
          absurd (omega (arith, first, number))
      at (Some k) found_a (Some j) found_b =
          let a_found : IsFound (of_site a) names.spaces k = first_numbered (of_site a) names.spaces k found_a in
          let b_found : IsFound (of_site b) names.spaces j = first_numbered (of_site b) names.spaces j found_b in
          let number : k ≡ j = sym (ap (λ o. unwrap_or o 0) found_a) ∙ (same ∙ ap (λ o. unwrap_or o 0) found_b) in
          let thing : Some a_found.thing ≡ Some b_found.thing = sym a_found.is_there ∙ (ap (numbered names.spaces) number ∙ b_found.is_there) in
          let one : a_found.thing ≡ b_found.thing = cc in
          sym (site_same a_found.thing.site a a_found.passes) ∙ (ap (λ (p : ProtectionSpace). p.site) one ∙ site_same b_found.thing.site b b_found.passes)

  pub agree : (place : Site) (s : ℕ) → IsTrue (is_some (numbered names.spaces s)) → is_of_site names place s ≡ (site_no names s == site_number names place)
  agree place s named = at (numbered names.spaces s) refl named
    where
      at : (o : Option ProtectionSpace) → numbered names.spaces s ≡ o → IsTrue (is_some o) → unwrap_or (option_map (λ space. same_site space.site place) o) false ≡ (unwrap_or (option_map (λ space. site_number names space.site) o) 0 == site_number names place)
      at None none some = absurd (false≢true some)
      at (Some space) there some = of (same_site space.site place) refl (site_number names space.site == site_number names place) refl
        where
          of : (b : Bool) → same_site space.site place ≡ b → (c : Bool) → (site_number names space.site == site_number names place) ≡ c → same_site space.site place ≡ (site_number names space.site == site_number names place)
          of true same c is =
              same ∙ sym (ap (λ site. site_number names space.site == site_number names site) (sym (site_same space.site place same)) ∙ number_refl (site_number names space.site))
          of false other false differ = other ∙ sym differ
          of false other true same =
              absurd (false≢true (sym other ∙ subst (λ site. IsTrue (same_site space.site site)) (one_site space.site place s space there refl (number_same (site_number names space.site) (site_number names place) same)) (site_refl space.site)))
