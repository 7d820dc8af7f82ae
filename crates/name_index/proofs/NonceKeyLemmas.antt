-- Two keys are equal in their order where they stand for the same nonce of the same site.
use Rattle.std.proofs.Common.{◌≡◌, ◌∙◌, ℕ, ◌&&◌, List, ap₂, bytes_eq}
use Rattle.std.proofs.lemmas.Map.Text.{is_eq-slice_cmp}
use Rattle.std.specs.Ordering.{is_eq}
use Rattle.spaces.specs.Sites.{same_site}
use Rattle.spaces.specs.declared.site.Site.{Site}
use Rattle.space_keys.proofs.KeyLemmas.{is_eq-then, same_site_keys}
use Rattle.name_index.specs.declared.nonce_key.NonceKey.{NonceKey}
use Rattle.name_index.specs.NonceKeys.{IsKeyOfNonce, nonce_cmp}

pub same_nonce_keys : (a b : NonceKey) (x y : Site × List ℕ) → IsKeyOfNonce a x → IsKeyOfNonce b y → is_eq (nonce_cmp a b) ≡ (same_site x.0 y.0 && bytes_eq x.1 y.1)
same_nonce_keys a b x y of_x of_y =
    let (site, text) = of_x in
    let (site', text') = of_y in
    is_eq-then _ _ ∙ ap₂ ◌&&◌ (same_site_keys a.site b.site x.0 y.0 site site')
    (is_eq-slice_cmp a.text.items b.text.items ∙ ap₂ bytes_eq text text')
