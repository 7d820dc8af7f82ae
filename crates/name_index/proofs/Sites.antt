-- Maps that know the sites of named spaces, and one space more.
use Rattle.std.proofs.Common.{◌≡◌, ◌∙◌, ℕ, ◌+◌, Bool, true, List, [], ◌∷◌, ◌++◌, length, Option, Some, None, ap, sym, subst, BTreeMap}
use Rattle.std.specs.BTreeMap.{Updates, get}
use Rattle.std.specs.Ordering.{is_eq}
use Rattle.spaces.specs.ProtectionSpaces.{ProtectionSpace}
use Rattle.spaces.specs.Sites.{same_site}
use Rattle.spaces.specs.declared.site.Site.{Site}
use Rattle.auth_events.proofs.Same.{site_refl, site_same}
use Rattle.space_keys.specs.declared.keys.SiteKey.{SiteKey}
use Rattle.space_keys.specs.Keys.{IsKeyOfSite, site_cmp}
use Rattle.space_keys.proofs.KeyLemmas.{same_site_keys}
use Rattle.name_index.specs.Found.{KnowsSites, checked, first_of_site}
use Rattle.name_index.proofs.FoundLemmas.{found_is, grown, kept, noted, number_known, number_next}

abbrev pub is_of_that_site : Site → ProtectionSpace → Bool
is_of_that_site site named = same_site named.site site

one_site : (a b : SiteKey) (s t : Site) → IsKeyOfSite a s → IsKeyOfSite b t → is_eq (site_cmp a b) ≡ true → s ≡ t
one_site a b s t of_s of_t same = site_same s t (sym (same_site_keys a b s t of_s of_t) ∙ same)

one_site_key : (a b : SiteKey) (s : Site) → IsKeyOfSite a s → IsKeyOfSite b s → is_eq (site_cmp a b) ≡ true
one_site_key a b s of_a of_b = same_site_keys a b s s of_a of_b ∙ site_refl s

module _ (old : BTreeMap SiteKey ℕ) (spaces : List ProtectionSpace) (key : SiteKey) (space : ProtectionSpace) (knows : KnowsSites old spaces) (of_it : IsKeyOfSite key space.site) where
  pub site_found : checked (is_of_that_site space.site) spaces (get site_cmp old key) ≡ first_of_site spaces space.site
  site_found = found_is site_cmp IsKeyOfSite is_of_that_site old spaces key space.site knows of_it

  -- a space more of a known site
  pub site_kept : (n : ℕ) → first_of_site spaces space.site ≡ Some n → KnowsSites old (spaces ++ space ∷ [])
  site_kept n known = kept site_cmp IsKeyOfSite is_of_that_site old spaces space.site n knows known space (λ x same. sym (site_same space.site x same))

  -- the first space of a site
  module _ (new : BTreeMap SiteKey ℕ) (n : ℕ) (unknown : first_of_site spaces space.site ≡ None) (updates : Updates site_cmp old new key (Some n)) where
    pub site_noted : KnowsSites new spaces
    site_noted = noted site_cmp IsKeyOfSite is_of_that_site one_site old new spaces key space.site n knows unknown of_it updates

    pub site_more : n ≡ length spaces + 1 → KnowsSites new (spaces ++ space ∷ [])
    site_more next =
        grown site_cmp IsKeyOfSite is_of_that_site one_site old new spaces key space.site n knows unknown of_it updates one_site_key space
        (λ x same. sym (site_same space.site x same)) next

-- what a look into the map answers, where a site is written otherwise
pub site_read : (old : BTreeMap SiteKey ℕ) (spaces : List ProtectionSpace) (key : SiteKey) (space : ProtectionSpace) (a b : Site) → a ≡ space.site → b ≡ space.site → KnowsSites old spaces → IsKeyOfSite key a
    → (read answer : Option ℕ) → read ≡ get site_cmp old key → answer ≡ checked (is_of_that_site b) spaces read → answer ≡ first_of_site spaces space.site
site_read old spaces key space a b is_a is_b knows of_it read answer is_read is_answer =
    is_answer ∙ (ap (λ site. checked (is_of_that_site site) spaces read) is_b
    ∙ (ap (checked (is_of_that_site space.site) spaces) is_read ∙ site_found old spaces key space knows (subst (IsKeyOfSite key) is_a of_it)))

pub first_known : (spaces : List ProtectionSpace) (space : ProtectionSpace) (n : ℕ) → first_of_site spaces space.site ≡ Some n → first_of_site (spaces ++ space ∷ []) space.site ≡ Some n
first_known spaces space n known = number_known (is_of_that_site space.site) spaces space n known

pub first_next : (spaces : List ProtectionSpace) (space : ProtectionSpace) → first_of_site spaces space.site ≡ None → first_of_site (spaces ++ space ∷ []) space.site ≡ Some (length spaces + 1)
first_next spaces space unknown = number_next (is_of_that_site space.site) spaces space unknown (site_refl space.site)
