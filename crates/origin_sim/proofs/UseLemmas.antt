-- What the check of credentials finds is the use that they name, where they are right.
use Rattle.std.proofs.Common.{◌≡◌, ℕ, ◌<◌, ◌^◌, Bool, true, false, not, ◌&&◌, is_none, IsTrue, List, bytes_eq, Option, Some, None, Ok, Err, option_map, option_and_then, if◌then◌else◌, sym, ap, ◌∙◌, ◌==◌, arith}
use Rattle.std.specs.List.{list_any, position_from}
use Rattle.auth_text.specs.Login.{Login, is_control, login, login_text, is_login, unless_control}
use Rattle.auth_text.specs.declared.identity.IdentityFault.{IdentityFault}
use Rattle.auth_text.specs.declared.identity.IdentityFault.TheVariants.{Colon}
use Rattle.digest_handler.specs.Credentials.{algorithm_name, digest_credentials}
use Rattle.spaces.specs.declared.terms.Algorithm.{Algorithm}
use Rattle.wire_head.specs.declared.head_reader.ReadHead.{ReadHead}
use Rattle.origin_sim.specs.declared.named.Named.{Named}
use Rattle.origin_sim.specs.Named.{named}
use Rattle.origin_sim.specs.Judging.{terms_with, IsUse}
use Rattle.origin_sim.proofs.NamedLemmas.{same_bytes, named_again}

login_if : (a : Bool) (o : Option ℕ) (user password : List ℕ) (l : Login)
    → (if a then Err Colon else unless_control o user password) ≡ Ok l
    → IsTrue (not a && is_none o) × (l ≡ record { user = user; password = password })
login_if true o user password l is = cc is
login_if false (Some at) user password l is = cc is
login_if false None user password l is = (grind arith, cc)

refused_if : (a : Bool) (o : Option ℕ) (user password : List ℕ) (e : IdentityFault)
    → (if a then Err Colon else unless_control o user password) ≡ Err e → IsTrue (not a && is_none o) → ⊥
refused_if true o user password e is right = grind (arith, right)
refused_if false (Some at) user password e is right = grind (arith, right)
refused_if false None user password e is right = cc is

-- an identity's user and password are one
pub login_is : (user password : List ℕ) (l : Login) → login user password ≡ Ok l
    → IsTrue (is_login user password) × (l ≡ record { user = user; password = password })
login_is user password l is = login_if (list_any (λ b. b == 58) user) (position_from is_control 0 (login_text user password)) user password l is

-- and where there is no identity, they are none
pub login_isnt : (user password : List ℕ) (e : IdentityFault) → login user password ≡ Err e → IsTrue (is_login user password) → ⊥
login_isnt user password e is = refused_if (list_any (λ b. b == 58) user) (position_from is_control 0 (login_text user password)) user password e is

module _ (realm : List ℕ) (algorithm : Algorithm) (l : Login) (head : ReadHead) (credentials : List ℕ) where
  abbrev pub written : Named → List ℕ
  written n = digest_credentials (terms_with realm algorithm n.nonce) l head.method head.target n.count n.cnonce

  -- right credentials name what they were written of
  pub read_again : (n : Named) → n.count < 2 ^ 32 → Some credentials ≡ Some (written n) → named (algorithm_name algorithm) credentials ≡ Some n
  read_again n fits same =
      ap (option_and_then (named (algorithm_name algorithm))) same ∙ named_again realm algorithm n.nonce l head.method head.target n.count n.cnonce fits

  -- where nothing is named, no use makes them right
  pub no_use : named (algorithm_name algorithm) credentials ≡ None → IsUse realm algorithm l head (Some credentials) None
  no_use none is nonce count fits right =
      cc (sym none ∙ read_again (record { nonce = nonce; count = count; cnonce = right.0 }) fits right.1)

  -- nor where what is named writes others
  pub other_use : (n : Named) → named (algorithm_name algorithm) credentials ≡ Some n
      → bytes_eq (written n) credentials ≡ false → IsUse realm algorithm l head (Some credentials) None
  other_use n read other is nonce count fits right =
      let m : Named = record { nonce = nonce; count = count; cnonce = right.0 } in
      let same : Some n ≡ Some m = sym read ∙ read_again m fits right.1 in
      let moved = ap (option_map (λ (k : Named). bytes_eq (written k) credentials)) same in
      let own = ap (option_map (λ (text : List ℕ). bytes_eq (written m) text)) right.1 in
      let wrong : Some false ≡ Some true = ap Some (sym other) ∙ moved ∙ own ∙ ap Some (same_bytes (written m)) in
      cc wrong
