-- Two keys are equal in their order where they stand for the same terms of the same space.
use Rattle.std.proofs.Common.{◌≡◌, ◌∙◌, ℕ, ◌==◌, Bool, true, false, ◌&&◌, List, [], Option, Some, None, refl, ap, ap₂, bytes_eq}
use Rattle.std.specs.Prelude.{is_some, unwrap_or}
use Rattle.std.proofs.lemmas.Map.Text.{is_eq-slice_cmp}
use Rattle.std.specs.Ordering.{is_eq}
use Rattle.spaces.specs.DigestTerms.{same_algorithm, same_flag, same_opaque, same_qop, same_terms}
use Rattle.spaces.specs.declared.terms.Algorithm.{Algorithm}
use Rattle.spaces.specs.declared.terms.Algorithm.TheVariants.{Md5, Sha256}
use Rattle.spaces.specs.declared.terms.Qop.{Qop}
use Rattle.spaces.specs.declared.terms.Qop.TheVariants.{Auth, Missing}
use Rattle.spaces.specs.declared.terms.Terms.{Terms}
use Rattle.space_keys.proofs.KeyLemmas.{is_eq-nat_cmp, is_eq-then}
use Rattle.name_index.specs.declared.terms_key.TermsKey.{TermsKey}
use Rattle.name_index.specs.TermsKeys.{IsKeyOfTerms, algorithm_number, flag_number, qop_number, terms_cmp}

algorithms : (a b : Algorithm) → (algorithm_number a == algorithm_number b) ≡ same_algorithm a b
algorithms Md5 Md5 = refl
algorithms Md5 Sha256 = refl
algorithms Sha256 Md5 = refl
algorithms Sha256 Sha256 = refl

qops : (a b : Qop) → (qop_number a == qop_number b) ≡ same_qop a b
qops Auth Auth = refl
qops Auth Missing = refl
qops Missing Auth = refl
qops Missing Missing = refl

flags : (a b : Bool) → (flag_number a == flag_number b) ≡ same_flag a b
flags true true = refl
flags true false = refl
flags false true = refl
flags false false = refl

opaques : (a b : Option (List ℕ)) → ((flag_number (is_some a) == flag_number (is_some b)) && bytes_eq (unwrap_or a []) (unwrap_or b [])) ≡ same_opaque a b
opaques None None = refl
opaques None (Some b) = refl
opaques (Some a) None = refl
opaques (Some a) (Some b) = refl

grouped : (a s r n h o q u : Bool) → (a && (s && (r && (n && (h && (o && (q && u))))))) ≡ ((((((a && s) && r) && n) && (h && o)) && q) && u)
grouped false s r n h o q u = refl
grouped true false r n h o q u = refl
grouped true true false n h o q u = refl
grouped true true true false h o q u = refl
grouped true true true true false o q u = refl
grouped true true true true true false q u = refl
grouped true true true true true true q u = refl

pub same_terms_keys : (a b : TermsKey) (x y : ℕ × Terms) → IsKeyOfTerms a x → IsKeyOfTerms b y → is_eq (terms_cmp a b) ≡ ((x.0 == y.0) && same_terms x.1 y.1)
same_terms_keys a b x y of_x of_y =
    let (space, algorithm, said, realm, nonce, has, opaque, qop, userhash) = of_x in
    let (space', algorithm', said', realm', nonce', has', opaque', qop', userhash') = of_y in
    is_eq-then _ _ ∙ ap₂ ◌&&◌ (is_eq-nat_cmp a.space b.space ∙ ap₂ ◌==◌ space space')
    (is_eq-then _ _ ∙ ap₂ ◌&&◌ (is_eq-nat_cmp a.algorithm b.algorithm ∙ ap₂ ◌==◌ algorithm algorithm' ∙ algorithms x.1.algorithm y.1.algorithm)
    (is_eq-then _ _ ∙ ap₂ ◌&&◌ (is_eq-nat_cmp a.said b.said ∙ ap₂ ◌==◌ said said' ∙ flags x.1.said y.1.said)
    (is_eq-then _ _ ∙ ap₂ ◌&&◌ (is_eq-slice_cmp a.realm.items b.realm.items ∙ ap₂ bytes_eq realm realm')
    (is_eq-then _ _ ∙ ap₂ ◌&&◌ (is_eq-slice_cmp a.nonce.items b.nonce.items ∙ ap₂ bytes_eq nonce nonce')
    (is_eq-then _ _ ∙ ap₂ ◌&&◌ (is_eq-nat_cmp a.has_opaque b.has_opaque ∙ ap₂ ◌==◌ has has')
    (is_eq-then _ _ ∙ ap₂ ◌&&◌ (is_eq-slice_cmp a.opaque.items b.opaque.items ∙ ap₂ bytes_eq opaque opaque')
    (is_eq-then _ _ ∙ ap₂ ◌&&◌ (is_eq-nat_cmp a.qop b.qop ∙ ap₂ ◌==◌ qop qop' ∙ qops x.1.qop y.1.qop)
    (is_eq-nat_cmp a.userhash b.userhash ∙ ap₂ ◌==◌ userhash userhash' ∙ flags x.1.userhash y.1.userhash))))))))
    ∙ ap (λ rest. (x.0 == y.0) && rest)
    (grouped (same_algorithm x.1.algorithm y.1.algorithm) (same_flag x.1.said y.1.said) (bytes_eq x.1.realm y.1.realm) (bytes_eq x.1.nonce y.1.nonce)
    (flag_number (is_some x.1.opaque) == flag_number (is_some y.1.opaque)) (bytes_eq (unwrap_or x.1.opaque []) (unwrap_or y.1.opaque [])) (same_qop x.1.qop y.1.qop) (same_flag x.1.userhash y.1.userhash)
    ∙ ap (λ o. ((((((same_algorithm x.1.algorithm y.1.algorithm && same_flag x.1.said y.1.said) && bytes_eq x.1.realm y.1.realm) && bytes_eq x.1.nonce y.1.nonce) && o) && same_qop x.1.qop y.1.qop) && same_flag x.1.userhash y.1.userhash)) (opaques x.1.opaque y.1.opaque))
